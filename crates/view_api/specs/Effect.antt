-- What a handler asks for.
use Rattle.std.specs.Prelude.{ℕ, ℤ, List, Option}
use Rattle.value_core.specs.Value.{Value}

-- one effect of a handler
pub data Effect : Type 0 where
  assign_to : List ℕ → Value → Effect
  -- a stream, the dom id, the item, the position (-1 for the end) and the limit
  stream_insert : List ℕ → List ℕ → Value → ℤ → Option ℤ → Effect
  stream_delete : List ℕ → List ℕ → Effect
  stream_reset : List ℕ → Effect
  subscribe : List ℕ → Effect
  unsubscribe : List ℕ → Effect
  publish : List ℕ → Value → Effect
  send_self : Value → Effect
  push_event : List ℕ → Value → Effect
