use Rattle.std.proofs.Common.{rules, ◌≡◌, ◌∙◌, sym, ap, codes, refl}
use Rattle.serde_json.specs.Data.{object}
use Rattle.serde_json.specs.Find.{get_member}
use Rattle.serde_json.specs.View.{view, members_view}
use Rattle.serde_json.specs.declared.value.Value.{Object}
use Rattle.serde_json.proofs.Views.{view-Object}
use Rattle.text_core.specs.Keyed.{ascend}
use Rattle.diff_tree.specs.Plain.{names}
use Rattle.diff_tree.specs.Spelling.{with_components, members_of}
use Rattle.diff_tree.specs.Parts.{part_data, components_data}
use Rattle.diff_tree.specs.Grammar.{components_fit, is_node, without, with_member}
use Rattle.diff_tree.proofs.Members.{without_ascends, get_without}
use Rattle.diff_tree.proofs.Pages.{ascends, root_of_members, components_refused, root_refused, page_is, page_back}
use Rattle.diff_tree.proofs.reading.take_members.Goals as goal

pub take_components-requires : goal.take_components-requires
take_components-requires c =
    let ms = members_view c.args.members.entries in
    ap (λ l. ascend (names l)) c.in_ok-events.ensures.rest ∙ without_ascends (codes "e") ms (ascends ms c.requires)

pub returns-in_err-components-clause-bad : goal.returns-in_err-components-clause-bad
returns-in_err-components-clause-bad c bad =
    let ms = members_view c.args.members.entries in
    let same = ap (get_member (codes "c")) c.in_ok-events.ensures.rest ∙ get_without (codes "c") (codes "e") ms refl in
    components_refused ms (ap components_fit (sym same) ∙ c.in_err-components.ensures.bad (search rules))

pub returns-in_err-root-clause-bad : goal.returns-in_err-root-clause-bad
returns-in_err-root-clause-bad c bad =
    let ms = members_view c.args.members.entries in
    let root : view (Object c.take_components.new.members) ≡ root_of_members ms
    = view-Object c.take_components.new.members ∙ ap object (c.in_ok-components.ensures.rest ∙ ap (without (codes "c")) c.in_ok-events.ensures.rest) in
    root_refused ms (ap is_node (sym root) ∙ c.in_err-root.ensures.bad (search rules))

pub returns-clause-ok : goal.returns-clause-ok
returns-clause-ok c =
    let ms = members_view c.args.members.entries in
    let same = ap (get_member (codes "c")) c.in_ok-events.ensures.rest ∙ get_without (codes "c") (codes "e") ms refl in
    let root : view (Object c.take_components.new.members) ≡ root_of_members ms
    = view-Object c.take_components.new.members ∙ ap object (c.in_ok-components.ensures.rest ∙ ap (without (codes "c")) c.in_ok-events.ensures.rest) in
    let events = c.in_ok-events.ensures.ok in
    let components = c.in_ok-components.ensures.ok in
    let inner = members_of (part_data c.in_ok-root.root) in (
      page_is ms c.requires events.0 (ap components_fit (sym same) ∙ components.0) (ap is_node (sym root) ∙ c.in_ok-root.ensures.ok.0),
      c.new.ensures.data
          ∙ ap object (events.1 (with_components (components_data c.in_ok-components.components) inner)
          ∙ ap (with_member (codes "e") (get_member (codes "e") ms)) (components.1 inner ∙ ap (λ o. with_member (codes "c") o inner) same))
          ∙ page_back ms (part_data c.in_ok-root.root) (ascends ms c.requires) (c.in_ok-root.ensures.ok.1 ∙ root),
    )
