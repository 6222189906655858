use Rattle.std.proofs.Common.{◌≡◌, sym, subst, IfSome}
use Rattle.diff_tree.specs.Tree.{Tree, list, rows, merge_change}
use Rattle.client_merge.specs.Held.{held_tree, held_rows}
use Rattle.client_merge.specs.declared.held.HeldNode.{HeldNode}
use Rattle.client_merge.specs.declared.held.HeldNode.TheViews as nodes
use Rattle.client_merge.proofs.Views.{held-List}
use Rattle.client_merge.proofs.Applies.{rows_if}
use Rattle.client_merge.proofs.merging.with_rows.Goals as goal

pub returns-in-List : goal.returns-in-List
returns-in-List c =
    let st = c.in-List.statics in
    let old = c.in-List.old in
    let rs = c.args.rows in
    let made : HeldNode = nodes.List st rs in
    subst (λ (h : HeldNode). IfSome (merge_change (held_tree h) (rows (held_rows rs))) (λ t. t ≡ held_tree made)) (sym c.in-List.is)
    (subst (λ (u : Tree). IfSome (merge_change u (rows (held_rows rs))) (λ t. t ≡ held_tree made)) (sym (held-List st old))
    (subst (λ (u : Tree). IfSome (merge_change (list st (held_rows old)) (rows (held_rows rs))) (λ t. t ≡ u)) (sym (held-List st rs)) (rows_if st (held_rows old) rs)))
