use Rattle.std.proofs.Common.{◌≡◌, ◌∙◌, ap}
use Rattle.serde_json.specs.View.{view}
use Rattle.serde_json.specs.Written.{compact_text, has_float}
use Rattle.diff_tree.specs.Parts.{diff_data}
use Rattle.diff_tree.proofs.Whole.{diff_whole}
use Rattle.diff_tree.proofs.writing.write_diff.Goals as goal

pub returns : goal.returns
returns c =
    let is : view c.in_ok-value.value ≡ diff_data c.args.diff.now = c.in_ok-value.ensures in
    c.from_string.ensures ∙ c.in_ok-to_string.ensures.text (ap has_float is ∙ diff_whole c.args.diff.now) ∙ ap compact_text is
