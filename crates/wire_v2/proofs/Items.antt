-- The items of an array.
use Rattle.std.proofs.Common.{◌≡◌, ◌≢◌, ℕ, List, [], ◌∷◌, length, ◌&&◌, Some, None, is_some, true, true≢false, refl, sym, ap}
use Rattle.std.specs.List.{list_all}
use Rattle.serde_json.specs.Data.{Data, null, boolean, number, string, array, object}
use Rattle.serde_json.specs.Find.{as_object, as_str}
use Rattle.serde_json.specs.View.{view, items_view}
use Rattle.serde_json.specs.declared.value.Value.{Value}
use Rattle.wire_v2.specs.Message.{MessageHead, is_whole, all_whole, head_of, as_payload, message_by_topic, message_from, message_of_json}

pub all_are_whole : (xs : List Value) → list_all (λ x. is_whole (view x)) xs ≡ all_whole (items_view xs)
all_are_whole [] = refl
all_are_whole (x ∷ xs) = ap (λ b. is_whole (view x) && b) (all_are_whole xs)

-- a message has five items
pub not_five : (xs : List Value) → length xs ≢ 5 → message_of_json (array (items_view xs)) ≡ None
not_five [] h = refl
not_five (a ∷ []) h = refl
not_five (a ∷ b ∷ []) h = refl
not_five (a ∷ b ∷ c ∷ []) h = refl
not_five (a ∷ b ∷ c ∷ d ∷ []) h = refl
not_five (a ∷ b ∷ c ∷ d ∷ e ∷ []) h = absurd (h refl)
not_five (a ∷ b ∷ c ∷ d ∷ e ∷ f ∷ xs) h = refl

is_payload : (p : Data) → is_some (as_object p) ≡ true → as_payload p ≡ Some p
is_payload null h = absurd (true≢false (sym h))
is_payload (boolean b) h = absurd (true≢false (sym h))
is_payload (number n) h = absurd (true≢false (sym h))
is_payload (string s) h = absurd (true≢false (sym h))
is_payload (array ds) h = absurd (true≢false (sym h))
is_payload (object ms) h = refl

-- the items of a message with its head, its event and its payload
pub by_items : (j r t n p : Data) (name : List ℕ) (h : MessageHead) → as_str n ≡ Some name → is_some (as_object p) ≡ true → head_of j r t ≡ Some h
    → message_from j r t n p ≡ message_by_topic h name p
by_items j r t n p name h text is head = let q = is_payload p is in rw (text, q, head) refl
