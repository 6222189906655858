use Rattle.std.proofs.Common.{◌≡◌, ◌∙◌, sym, Some}
use Rattle.diff_tree.specs.Parts.{diff_data}
use Rattle.diff_tree.proofs.Spelled.{reads_spelled}
use Rattle.diff_tree.proofs.laws.text_spells_one_diff.Goals as goal

pub returns : goal.returns
returns c text a b shallow_a shallow_b spells_a spells_b =
    let both : Some (diff_data a) ≡ Some (diff_data b) = sym (reads_spelled text a shallow_a spells_a) ∙ reads_spelled text b shallow_b spells_b in
    cc
