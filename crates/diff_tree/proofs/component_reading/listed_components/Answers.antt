use Rattle.std.proofs.Common.{rules, ◌≡◌, [], ◌∙◌}
use Rattle.serde_json.specs.View.{view}
use Rattle.diff_tree.proofs.Pages.{fit_listed, listed_under}
use Rattle.diff_tree.proofs.component_reading.listed_components.Goals as goal

pub returns-clause-ok : goal.returns-clause-ok
returns-clause-ok c =
    let ms = c.in-Some.members.now.entries in
    let some : ms ≡ [] → ⊥ = search (rules, c.is_empty.ensures, c.if-is_empty.false) in
    let read = c.in_ok-components.ensures.ok in
    (fit_listed (view c.args.value.now) ms c.in-Some.ensures some ∙ read.0, listed_under (view c.args.value.now) ms c.in_ok-components.components c.in-Some.ensures some read.1)
