-- How many members a map has.
use Rattle.std.proofs.Common.{◌≡◌, List, [], ◌∷◌, length, arith, String, Global, refl}
use Rattle.serde_json.specs.View.{members_view}
use Rattle.serde_json.specs.declared.value.Value.{Value}
use Rattle.bundle_files.specs.Manifest.{members_count}

pub count_view : (es : List (String Global × Value)) → members_count (members_view es) ≡ length es
count_view [] = refl
count_view (e ∷ es) = omega (arith, count_view es)
