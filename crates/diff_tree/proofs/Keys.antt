-- The keys of a JSON object.
use Rattle.std.proofs.Common.{◌≡◌, ℕ, List, [], ◌∷◌, map, String, string_bytes, Global, true, refl, ap, ◌∙◌, nat_cmp}
use Rattle.std.specs.List.Sorted.{IsStrictlySortedBy}
use Rattle.std.specs.Ordering.{is_lt}
use Rattle.std.specs.Cmp.Lexicographic.{slice_cmp}
use Rattle.serde_json.specs.View.{members_view}
use Rattle.serde_json.specs.declared.value.Value as json
use Rattle.text_core.specs.Keyed.{ascend}
use Rattle.diff_tree.specs.Plain.{names}

abbrev pub Json : Type 0
Json = json.Value

abbrev pub member_keys : List (String Global × Json) → List (List ℕ)
member_keys [] = []
member_keys (m ∷ ms) = string_bytes m.0 ∷ member_keys ms

-- they are in order
pub sorted_ascends : (ms : List (String Global × Json)) → IsStrictlySortedBy (λ (x y : String Global). slice_cmp nat_cmp (string_bytes x) (string_bytes y)) (map (λ m. m.0) ms) → ascend (member_keys ms) ≡ true
unfolding IsStrictlySortedBy
sorted_ascends [] h = refl
sorted_ascends (m ∷ []) h = refl
sorted_ascends (m ∷ n ∷ ms) h = rw (ap is_lt h.0.0) (sorted_ascends (n ∷ ms) h.1)

pub names-view : (ms : List (String Global × Json)) → names (members_view ms) ≡ member_keys ms
names-view [] = refl
names-view (m ∷ ms) = ap (λ l. string_bytes m.0 ∷ l) (names-view ms)

pub names_ascend : (ms : List (String Global × Json)) → IsStrictlySortedBy (λ (x y : String Global). slice_cmp nat_cmp (string_bytes x) (string_bytes y)) (map (λ m. m.0) ms) → ascend (names (members_view ms)) ≡ true
names_ascend ms h = ap ascend (names-view ms) ∙ sorted_ascends ms h
