use Rattle.std.proofs.Common.{◌≡◌, [], ◌∙◌, ap, sym, rules, codes}
use Rattle.serde_json.specs.Data.{object, put}
use Rattle.serde_json.specs.View.{members_view}
use Rattle.serde_json.proofs.Views.{view-Object}
use Rattle.diff_tree.proofs.Written.{components_stand}
use Rattle.diff_tree.proofs.writing.add_components.Goals as goal

pub returns : goal.returns
returns c =
    let some : c.args.components.now ≡ [] → ⊥ = search (rules, c.is_empty.ensures, c.if-is_empty.false) in
    let old = members_view c.args.members.now.entries in
    c.in_ok-put.ensures.ok ∙ ap (λ d. put (codes "c") d old) (view-Object c.in_ok-values.values ∙ ap object c.in_ok-values.ensures) ∙ sym (components_stand c.args.components.now old some)
