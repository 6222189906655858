use Rattle.std.proofs.Common.{◌≡◌, ◌∙◌, List, get_or, sym, ap, subst, arith, Option, option_map, IfSome}
use Rattle.std.specs.Vec.Iter.{into_iter_items, into_iter_len}
use Rattle.diff_tree.specs.Tree.{Tree, node, Trees, Change}
use Rattle.client_merge.specs.Held.{held_tree, held_trees}
use Rattle.client_merge.specs.Planned.{planned, planned_all, merged, merged_all}
use Rattle.client_merge.specs.declared.held.HeldNode.{HeldNode}
use Rattle.client_merge.specs.declared.held.HeldNode.TheViews as nodes
use Rattle.client_merge.specs.declared.plan.PlaceChange.{PlaceChange}
use Rattle.client_merge.proofs.Views.{open_held, held-Node, planned-Write, planned-Inner, planned-Rows}
use Rattle.client_merge.proofs.Loops.{Applied}
use Rattle.client_merge.proofs.Applies.{node_merges, node_if, applied_one, applied_there, counted_on, none_left, applied_all}
use Rattle.client_merge.proofs.merging.+apply.Goals as goal

pub apply-returns-in-Write : goal.apply-returns-in-Write
apply-returns-in-Write t c =
    subst (λ (o : Option Tree). IfSome o (λ t. t ≡ held_tree c.in-Write.node))
    (sym (ap (merged (held_tree c.args.held)) (ap planned c.in-Write.is ∙ planned-Write c.in-Write.node))) (open_held c.in-Write.node)

pub apply-returns-in-Node : goal.apply-returns-in-Node
apply-returns-in-Node t c =
    subst (λ (o : Option Tree). IfSome o (λ t. t ≡ held_tree (nodes.Node c.in-Node.statics c.apply_all.result)))
    (sym (ap (λ h. merged (held_tree h) (planned c.args.change)) c.in-Node.is ∙ ap (λ h. merged h (planned c.args.change)) (held-Node c.in-Node.statics c.in-Node.places)
    ∙ ap (λ o. merged (node c.in-Node.statics (held_trees c.in-Node.places)) o) (ap planned c.in-Inner.is ∙ planned-Inner c.in-Inner.changes)
    ∙ node_merges c.in-Node.statics (held_trees c.in-Node.places) (planned_all c.in-Inner.changes)))
    (subst (λ (u : Tree). IfSome (option_map (node c.in-Node.statics) (merged_all (held_trees c.in-Node.places) (planned_all c.in-Inner.changes))) (λ t. t ≡ u)) (sym (held-Node c.in-Node.statics c.apply_all.result))
    (node_if c.in-Node.statics (merged_all (held_trees c.in-Node.places) (planned_all c.in-Inner.changes)) (held_trees c.apply_all.result) c.apply_all.ensures))

pub apply-returns-in-Rows : goal.apply-returns-in-Rows
apply-returns-in-Rows t c =
    subst (λ (o : Option Change). IfSome (merged (held_tree c.args.held) o) (λ t. t ≡ held_tree c.with_rows.result))
    (sym (ap planned c.in-Rows.is ∙ planned-Rows c.in-Rows.rows)) c.with_rows.ensures

pub apply_all-changes-preserved-then-place-len : goal.apply_all-changes-preserved-then-place-len
apply_all-changes-preserved-then-place-len t c =
    let ts = held_trees c.into_vec-places.result.items in
    let all = planned_all (into_iter_items c.into_iter-place-iterator.result) in
    let hs = c.changes.places.items in
    let steps = c.in-Some.ensures.steps in
    record {
      kept = λ some.
          applied_one ts all c.in-Some.field-0 (into_iter_items c.next.new.self) hs c.replace-old.new.dest c.replace-old.result c.apply.result
          (subst (λ (l : List PlaceChange). Applied ts all l (held_trees hs)) steps.0 (c.changes.invariant.kept some)) some
          (c.replace-old.ensures.value ∙ c.index_mut.ensures.value ∙ ap (get_or hs c.in-Some.field-0.place) (sym c.replace-old.ensures.value)) c.apply.ensures;
      counted = counted_on (into_iter_len c.changes.place-iterator) (into_iter_len c.next.new.self) (into_iter_items c.changes.place-iterator) c.in-Some.field-0 (into_iter_items c.next.new.self) c.changes.invariant.counted steps.0 steps.1;
    }

pub apply_all-changes-preserved-else-place-len : goal.apply_all-changes-preserved-else-place-len
apply_all-changes-preserved-else-place-len t c =
    let ts = held_trees c.into_vec-places.result.items in
    let all = planned_all (into_iter_items c.into_iter-place-iterator.result) in
    let hs = c.changes.places.items in
    let steps = c.in-Some.ensures.steps in
    record {
      kept = λ some.
          let there = applied_there ts all c.in-Some.field-0 (into_iter_items c.next.new.self) hs (subst (λ (l : List PlaceChange). Applied ts all l (held_trees hs)) steps.0 (c.changes.invariant.kept some)) some in
          absurd (omega (arith, there, c.len.ensures, c.if-place-len.false));
      counted = counted_on (into_iter_len c.changes.place-iterator) (into_iter_len c.next.new.self) (into_iter_items c.changes.place-iterator) c.in-Some.field-0 (into_iter_items c.next.new.self) c.changes.invariant.counted steps.0 steps.1;
    }

pub apply_all-changes-preserved-else-place-len-2 : goal.apply_all-changes-preserved-else-place-len-2
apply_all-changes-preserved-else-place-len-2 t c =
    let ts = held_trees c.into_vec-places.result.items in
    let all = planned_all (into_iter_items c.into_iter-place-iterator.result) in
    let hs = c.changes.places.items in
    let steps = c.in-Some.ensures.steps in
    record {
      kept = λ some.
          let there = applied_there ts all c.in-Some.field-0 (into_iter_items c.next.new.self) hs (subst (λ (l : List PlaceChange). Applied ts all l (held_trees hs)) steps.0 (c.changes.invariant.kept some)) some in
          absurd (omega (arith, there, c.len.ensures, c.if-place-len.false));
      counted = counted_on (into_iter_len c.changes.place-iterator) (into_iter_len c.next.new.self) (into_iter_items c.changes.place-iterator) c.in-Some.field-0 (into_iter_items c.next.new.self) c.changes.invariant.counted steps.0 steps.1;
    }

pub apply_all-changes-preserved-else-place-len-3 : goal.apply_all-changes-preserved-else-place-len-3
apply_all-changes-preserved-else-place-len-3 t c =
    let ts = held_trees c.into_vec-places.result.items in
    let all = planned_all (into_iter_items c.into_iter-place-iterator.result) in
    let hs = c.changes.places.items in
    let steps = c.in-Some.ensures.steps in
    record {
      kept = λ some.
          let there = applied_there ts all c.in-Some.field-0 (into_iter_items c.next.new.self) hs (subst (λ (l : List PlaceChange). Applied ts all l (held_trees hs)) steps.0 (c.changes.invariant.kept some)) some in
          absurd (omega (arith, there, c.len.ensures, c.if-place-len.false));
      counted = counted_on (into_iter_len c.changes.place-iterator) (into_iter_len c.next.new.self) (into_iter_items c.changes.place-iterator) c.in-Some.field-0 (into_iter_items c.next.new.self) c.changes.invariant.counted steps.0 steps.1;
    }

pub apply_all-changes-preserved-else-place-len-4 : goal.apply_all-changes-preserved-else-place-len-4
apply_all-changes-preserved-else-place-len-4 t c =
    let ts = held_trees c.into_vec-places.result.items in
    let all = planned_all (into_iter_items c.into_iter-place-iterator.result) in
    let hs = c.changes.places.items in
    let steps = c.in-Some.ensures.steps in
    record {
      kept = λ some.
          let there = applied_there ts all c.in-Some.field-0 (into_iter_items c.next.new.self) hs (subst (λ (l : List PlaceChange). Applied ts all l (held_trees hs)) steps.0 (c.changes.invariant.kept some)) some in
          absurd (omega (arith, there, c.len.ensures, c.if-place-len.false));
      counted = counted_on (into_iter_len c.changes.place-iterator) (into_iter_len c.next.new.self) (into_iter_items c.changes.place-iterator) c.in-Some.field-0 (into_iter_items c.next.new.self) c.changes.invariant.counted steps.0 steps.1;
    }

pub apply_all-changes-preserved : goal.apply_all-changes-preserved
apply_all-changes-preserved t c =
    let ts = held_trees c.into_vec-places.result.items in
    let all = planned_all (into_iter_items c.into_iter-place-iterator.result) in
    let hs = c.changes.places.items in
    let steps = c.in-Some.ensures.steps in
    record {
      kept = λ some.
          let there = applied_there ts all c.in-Some.field-0 (into_iter_items c.next.new.self) hs (subst (λ (l : List PlaceChange). Applied ts all l (held_trees hs)) steps.0 (c.changes.invariant.kept some)) some in
          absurd (omega (arith, there, c.len.ensures, c.if-place-len.false));
      counted = counted_on (into_iter_len c.changes.place-iterator) (into_iter_len c.next.new.self) (into_iter_items c.changes.place-iterator) c.in-Some.field-0 (into_iter_items c.next.new.self) c.changes.invariant.counted steps.0 steps.1;
    }

pub apply_all-returns : goal.apply_all-returns
apply_all-returns t c =
    let hs = c.into_vec-places.result.items in
    let ps = into_iter_items c.into_iter-place-iterator.result in
    let gives : ps ≡ c.into_vec-place-items.result.items = c.into_iter-place-iterator.ensures.into_iter_gives.0 in
    let start : merged_all (held_trees hs) (planned_all ps) ≡ merged_all (held_trees c.args.places) (planned_all c.args.changes)
    = ap (λ l. merged_all (held_trees l) (planned_all ps)) c.into_vec-places.ensures
    ∙ ap (λ l. merged_all (held_trees c.args.places) (planned_all l)) (gives ∙ c.into_vec-place-items.ensures) in
    let all = applied_all (held_trees hs) (held_trees c.changes.places.items) (planned_all ps) (into_iter_items c.changes.place-iterator) c.changes.invariant.kept
    (none_left (into_iter_len c.changes.place-iterator) (into_iter_items c.changes.place-iterator) c.changes.invariant.counted c.in-None.ensures.steps.0) in
    subst (λ (l : List HeldNode). IfSome (merged_all (held_trees c.args.places) (planned_all c.args.changes)) (λ us. us ≡ held_trees l)) (sym c.from_vec.ensures)
    (subst (λ (o : Option Trees). IfSome o (λ us. us ≡ held_trees c.changes.places.items)) start all)
