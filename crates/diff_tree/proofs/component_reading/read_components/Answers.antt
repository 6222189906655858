use Rattle.std.proofs.Common.{◌&&◌, ◌∙◌, sym, ap}
use Rattle.serde_json.specs.View.{view, members_view}
use Rattle.diff_tree.specs.Grammar.{is_component, is_node, are_components}
use Rattle.diff_tree.proofs.Keys.{names_ascend}
use Rattle.diff_tree.proofs.Order.{join}
use Rattle.diff_tree.proofs.Pages.{members_in, components_on, components_all}
use Rattle.diff_tree.proofs.component_reading.read_components.Goals as goal

pub members-preserved : goal.members-preserved
members-preserved c =
    let rest = c.next.new.self in
    let front = members_in c.members.components in
    let steps = sym c.in-Some.ensures.steps in
    let named = c.as_str.ensures.value in
    let read = c.in_ok-read_component.ensures.ok in
    record {
      so_far = ap (λ cs. join (members_in cs) (members_view rest)) c.in_ok-push.ensures.ok
          ∙ components_on c.in-Some.key.now c.in-Some.member.now rest c.members.components c.in_ok-read_component.field-0 _ (read.1 ∙ named) read.2
          (ap (λ ms. join front (members_view ms)) steps ∙ c.members.invariant.so_far);
      are = sym (ap (λ b. b && are_components (members_view rest)) (ap (λ k. is_component k && is_node (view c.in-Some.member.now)) (sym named) ∙ read.0))
          ∙ ap (λ ms. are_components (members_view ms)) steps ∙ c.members.invariant.are;
    }

pub returns-clause-ok : goal.returns-clause-ok
returns-clause-ok c =
    let none = c.in-None.ensures.steps.0 in (
      sym c.members.invariant.are ∙ ap (λ ms. are_components (members_view ms)) none,
      components_all c.members.components (members_view c.args.members.now.entries) (names_ascend c.args.members.now.entries c.iter-key-items.ensures.ordered)
          (ap (λ ms. join (members_in c.members.components) (members_view ms)) (sym none) ∙ c.members.invariant.so_far),
    )
