-- Rows and changes that are there, or not.
use Rattle.std.proofs.Common.{◌≡◌, ◌↔◌, IsTrue, List, [], ◌∷◌, map, Some, None, option_map, Bool, true, false, not, refl, sym, ap, ◌∙◌}
use Rattle.text_core.specs.declared.by_key.KeyValue.{KeyValue}
use Rattle.diff_tree.specs.Parts.{node_data, part_data, place_data, places_json, seen}
use Rattle.diff_tree.specs.Spelling.{change_json, changes_json}
use Rattle.diff_tree.specs.Tree.{Changes}
use Rattle.diff_tree.specs.declared.part.Part.{Part}
use Rattle.diff_tree.specs.declared.part.PlaceValue.{PlaceValue}
use Rattle.diff_tree.specs.declared.part.PlaceValue.TheVariants.{Node}
use Rattle.doc_model.specs.Lean.{unless_empty}
use Rattle.diff_render.specs.Again.{had_rows}
use Rattle.diff_render.specs.Prints.{Print, of_rows, print_step, print_view, prints_of, prints_view, row_prints, rows_of, rows_view}
use Rattle.diff_render.specs.declared.print.Print.{Print as Stored}
use Rattle.diff_render.specs.declared.print.Print.TheVariants as form
use Rattle.diff_render.specs.declared.print.Print.TheOpen.{Print-F}
use Rattle.diff_render.specs.declared.print.Print.TheFolds.{fold-roll-Print}
use Rattle.diff_render.proofs.Sent.{empty_inner, nothing_empty, some_inner, something_not}

rows_together : (rs : List (List Stored)) → rows_of (map prints_of (map (map print_view) rs)) ≡ rows_view rs
rows_together [] = refl
rows_together (r ∷ rs) = ap (row_prints (prints_view r)) (rows_together rs)

-- rows, as they are seen
pub rows_seen : (rs : List (List Stored)) → print_view (form.Rows rs) ≡ of_rows (rows_view rs)
rows_seen rs = ap print_view (sym (form.rolls-Rows rs)) ∙ fold-roll-Print Print print_step (Print-F.Rows rs) ∙ ap of_rows (rows_together rs)

there_were : (rs : List (List Stored)) (b : Bool) → (IsTrue b ↔ (rs ≡ [])) → not b ≡ had_rows (of_rows (rows_view rs))
there_were [] true h = refl
there_were [] false h = let w : IsTrue false = h.1 refl in cc
there_were (r ∷ rs) true h = let w : r ∷ rs ≡ [] = h.0 refl in cc
there_were (r ∷ rs) false h = refl

pub rows_were : (p : Stored) (rs : List (List Stored)) (b : Bool) → p ≡ form.Rows rs → (IsTrue b ↔ (rs ≡ [])) → not b ≡ had_rows (print_view p)
rows_were p rs b is h = there_were rs b h ∙ ap had_rows (sym (ap print_view is ∙ rows_seen rs))

-- a change inside, unless it is empty
pub none_sent : (es : List (KeyValue PlaceValue)) (b : Bool) (cs : Changes) → (IsTrue b ↔ (es ≡ [])) → b ≡ true → places_json (seen es) ≡ changes_json 0 cs → None ≡ option_map change_json (unless_empty cs)
none_sent es b cs h is members = empty_inner cs (nothing_empty 0 cs (ap (λ l. places_json (seen l)) (sym (h.0 is)) ∙ members))

pub some_sent : (p : Part) (es : List (KeyValue PlaceValue)) (b : Bool) (cs : Changes) → (IsTrue b ↔ (es ≡ [])) → b ≡ false → part_data p ≡ node_data None es → places_json (seen es) ≡ changes_json 0 cs
    → Some (place_data (Node p)) ≡ option_map change_json (unless_empty cs)
some_sent p [] b cs h is made members = let w : IsTrue b = h.1 refl in cc
some_sent p (e ∷ es) b cs h is made members = some_inner cs p (e ∷ es) (something_not 0 cs e es members) made members
