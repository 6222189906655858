use Rattle.std.proofs.Common.{◌≡◌, ◌∙◌, sym, ap, option_map, codes}
use Rattle.std.proofs.lemmas.Result.{IfOk-weaker}
use Rattle.serde_json.specs.Find.{get_member}
use Rattle.serde_json.specs.View.{view, members_view}
use Rattle.serde_json.proofs.Views.{view-lookup}
use Rattle.diff_tree.specs.Grammar.{components_fit, with_member}
use Rattle.diff_tree.proofs.Members.{removed, on_ok}
use Rattle.diff_tree.proofs.reading.take_components.Goals as goal

pub returns-clause-rest : goal.returns-clause-rest
returns-clause-rest c = on_ok c.components_in.result (ap members_view c.remove-found.ensures.entries ∙ removed (codes "c") c.args.members.now.entries c.requires)

pub returns-clause-ok : goal.returns-clause-ok
returns-clause-ok c =
    let same : option_map view c.remove-found.result ≡ get_member (codes "c") (members_view c.args.members.now.entries)
    = ap (option_map view) c.remove-found.ensures.value ∙ view-lookup (codes "c") c.args.members.now.entries in
    IfOk-weaker c.components_in.result _ _ (λ x h. (ap components_fit (sym same) ∙ h.0, λ ms. h.1 ms ∙ ap (λ o. with_member (codes "c") o ms) same)) c.components_in.ensures.ok

pub returns-clause-bad : goal.returns-clause-bad
returns-clause-bad c bad =
    let same : option_map view c.remove-found.result ≡ get_member (codes "c") (members_view c.args.members.now.entries)
    = ap (option_map view) c.remove-found.ensures.value ∙ view-lookup (codes "c") c.args.members.now.entries in
    ap components_fit (sym same) ∙ c.components_in.ensures.bad bad
