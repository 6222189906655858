-- What a text that spells a diff reads as.
use Rattle.std.proofs.Common.{◌≡◌, ◌≤◌, ℕ, List, Some, Bool, true, false, ◌&&◌, refl, sym, ap, ◌∙◌}
use Rattle.serde_json.specs.Data.{Data, depth}
use Rattle.serde_json.specs.Read.{read}
use Rattle.serde_json.specs.Written.{compact_text}
use Rattle.diff_tree.specs.Plain.{is_plain}
use Rattle.diff_tree.specs.Parts.{diff_data}
use Rattle.diff_tree.specs.Grammar.{is_diff, SpellsDiff}
use Rattle.diff_tree.specs.declared.diff.Diff.{Diff}
use Rattle.diff_tree.proofs.ReadsBack.{read-compact_text}

first : (a b c d : Bool) → (a && b && c && d) ≡ true → a ≡ true
first true b c d h = refl
first false b c d h = cc

pub plain_of : (d : Data) → is_diff d ≡ true → is_plain d ≡ true
plain_of d h = first (is_plain d) _ _ _ h

pub reads_spelled : (text : List ℕ) (d : Diff) → depth (diff_data d) ≤ 127 → SpellsDiff text d → read text ≡ Some (diff_data d)
reads_spelled text d shallow spells = ap read spells.1 ∙ read-compact_text (diff_data d) (plain_of (diff_data d) spells.0) shallow

-- a text that reads as no diff spells none
pub spells_none : (text : List ℕ) → ((e : Data) → read text ≡ Some e → is_diff e ≡ false) → (d : Diff) → depth (diff_data d) ≤ 127 → SpellsDiff text d → ⊥
spells_none text none d shallow spells =
    let refused : is_diff (diff_data d) ≡ false = none (diff_data d) (reads_spelled text d shallow spells) in
    let is : is_diff (diff_data d) ≡ true = spells.0 in
    cc

-- another spelling of a diff spells none
pub spells_other : (text : List ℕ) (e : Diff) → read text ≡ Some (diff_data e) → (text ≡ compact_text (diff_data e) → ⊥) → (d : Diff) → depth (diff_data d) ≤ 127 → SpellsDiff text d → ⊥
spells_other text e reads other d shallow spells =
    let both : Some (diff_data d) ≡ Some (diff_data e) = sym (reads_spelled text d shallow spells) ∙ reads in
    let same : diff_data d ≡ diff_data e = cc in
    other (spells.1 ∙ ap compact_text same)
