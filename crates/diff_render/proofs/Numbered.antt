-- Values that are put under their numbers, from the last.
use Rattle.std.proofs.Common.{◌≡◌, ℕ, List, ◌++◌, length, Option, Result, Ok, Err, OnOk, ap, ◌∙◌}
use Rattle.std.specs.Fmt.{decimal}
use Rattle.serde_json.specs.Data.{put}
use Rattle.text_core.specs.declared.by_key.KeyValue.{KeyValue}
use Rattle.text_core.specs.Keyed.{with_key}
use Rattle.diff_tree.specs.Parts.{place_data, places_json, seen}
use Rattle.diff_tree.specs.declared.part.PlaceValue.{PlaceValue}
use Rattle.diff_render.specs.Values.{numbered, numbered_changes, options_seen, values_seen}
use Rattle.diff_render.proofs.Puts.{places_put}

-- a value that is put under a number
pub puts_value : {E : Type 0} (r : Result (Unit {0}) E) (k : ℕ) (v : PlaceValue) (old new : List (KeyValue PlaceValue)) (key : List ℕ) → key ≡ decimal k → OnOk r (new ≡ with_key key v old)
    → OnOk r (places_json (seen new) ≡ put (decimal k) (place_data v) (places_json (seen old)))
puts_value (Ok u) k v old new key is h = ap (λ es. places_json (seen es)) h ∙ places_put key v old ∙ ap (λ n. put n (place_data v) (places_json (seen old))) is
puts_value (Err e) k v old new key is h = h

-- of all values those behind the ones left are put
pub record Values (all left : List PlaceValue) (places : List (KeyValue PlaceValue)) : Type 0 where
  pub rest : List PlaceValue
  pub split : all ≡ left ++ rest
  pub sent : places_json (seen places) ≡ numbered (length left) (values_seen rest)

-- the same of the places that change
pub record Changes (all left : List (Option PlaceValue)) (places : List (KeyValue PlaceValue)) : Type 0 where
  pub rest : List (Option PlaceValue)
  pub split : all ≡ left ++ rest
  pub sent : places_json (seen places) ≡ numbered_changes (length left) (options_seen rest)
