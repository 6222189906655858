-- The names that are free in a node, from those in what stands inside it.
use Rattle.std.proofs.Common.{◌≡◌, ℕ, List, [], ◌∷◌, ◌++◌, map, Option, Some, None, option_map, refl, sym, ap, ◌∙◌}
use Rattle.ast_core.specs.declared.expr.Expr.{Expr}
use Rattle.ast_core.specs.declared.pattern.Pattern.{Pattern}
use Rattle.ast_core.specs.declared.node.Location.{Location}
use Rattle.ast_core.specs.declared.node.Generator.{Generator}
use Rattle.ast_core.specs.declared.node.Attribute.{Attribute}
use Rattle.ast_core.specs.declared.node.AttributeValue.{AttributeValue}
use Rattle.ast_core.specs.declared.node.AttributeValue.TheVariants as attribute
use Rattle.ast_core.specs.declared.node.Node.{Node}
use Rattle.ast_core.specs.declared.node.Place.{Place}
use Rattle.ast_core.specs.declared.node.Clause.{Clause, out-Clause}
use Rattle.ast_core.specs.declared.node.Entry.{Entry, out-Entry}
use Rattle.ast_core.specs.declared.node.SlotBody.{SlotBody, out-SlotBody}
use Rattle.ast_core.specs.declared.node.Node.TheOpen.{Node-F, Place-F}
use Rattle.ast_core.specs.declared.node.Node.TheVariants as form
use Rattle.ast_core.specs.declared.node.Place.TheVariants as place
use Rattle.ast_core.specs.declared.node.Node.TheViews.{roll-Node, roll-Place}
use Rattle.ast_core.specs.declared.node.Node.TheFolds.{map-Node, map-Place, fold-roll-Node, fold-roll-Place, fold_out-Clause, fold_out-Entry, fold_out-SlotBody}
use Rattle.ast_core.specs.Syntax as model
use Rattle.ast_core.specs.Syntax.{Name}
use Rattle.ast_core.specs.ExprView.{expr_view, or_nil}
use Rattle.ast_core.specs.NodeView.{SeenEntry, attribute_on, attributes_view, or_any, generator_view, nodes_of, clauses_of, entries_of, node_view, place_view, clause_view, entry_view, body_view, node_step, place_step, clause_step, entry_step, body_step}
use Rattle.ast_core.specs.Free.{free_names, bound, without, free_nodes, free_node, free_place, free_clauses, free_entries, free_body, free_test, free_attributes, free_inside}
use Rattle.ast_core.specs.NamesIn.{all_names, bound_by, expr_reads, option_reads, value_reads, attribute_reads, node_reads, place_reads, clause_names, clause_reads, body_reads, entry_names, entry_reads}

attributes_names : (xs : List Attribute) → free_attributes (attributes_view xs) ≡ all_names attribute_reads xs
attributes_names [] = refl
attributes_names (a ∷ xs) = by a.value (attributes_names xs)
  where
    by : (v : AttributeValue) → free_attributes (attributes_view xs) ≡ all_names attribute_reads xs
        → free_attributes (attribute_on a.name v (attributes_view xs)) ≡ value_reads v ++ all_names attribute_reads xs
    by (attribute.Double t) rest = rest
    by (attribute.Single t) rest = rest
    by attribute.Bare rest = rest
    by (attribute.Put e) rest = ap (λ ns. expr_reads e ++ ns) rest
    by (attribute.Spread e) rest = ap (λ ns. expr_reads e ++ ns) rest
    by (attribute.Module m) rest = rest

nodes_names : (ns : List Node) → free_nodes (nodes_of (map node_view ns)) ≡ all_names node_reads ns
nodes_names [] = refl
nodes_names (n ∷ ns) = ap (λ ks. node_reads n ++ ks) (nodes_names ns)

clauses_names : (cs : List Clause) → free_clauses (clauses_of (map clause_view cs)) ≡ all_names clause_reads cs
clauses_names [] = refl
clauses_names (c ∷ cs) = ap (λ ks. clause_reads c ++ ks) (clauses_names cs)

entries_names : (es : List Entry) → free_entries (entries_of (map entry_view es)) ≡ all_names entry_reads es
entries_names [] = refl
entries_names (e ∷ es) = ap (λ ks. entry_reads e ++ ks) (entries_names es)

argument_names : (o : Option Expr) → free_names (or_nil (option_map expr_view o)) ≡ option_reads o
argument_names None = refl
argument_names (Some e) = refl

test_names : (o : Option Expr) → free_test (option_map expr_view o) ≡ option_reads o
test_names None = refl
test_names (Some e) = refl

-- the two sides of an append
both_are : (xs xs' ys ys' : List Name) → xs ≡ xs' → ys ≡ ys' → xs ++ ys ≡ xs' ++ ys'
both_are xs xs' ys ys' e f = ap (λ ns. ns ++ ys) e ∙ ap (λ ns. xs' ++ ns) f

-- one level of a node and of a place, seen
node_of : (x : Node-F Node Place Clause Entry SlotBody) → node_view (roll-Node x) ≡ node_step (map-Node _ _ _ _ _ _ _ _ _ _ node_view place_view clause_view entry_view body_view x)
node_of = fold-roll-Node model.Node model.Place (model.Pattern × model.Nodes) SeenEntry model.Body node_step place_step clause_step entry_step body_step

place_of : (x : Place-F Node Place Clause Entry SlotBody) → place_view (roll-Place x) ≡ place_step (map-Place _ _ _ _ _ _ _ _ _ _ node_view place_view clause_view entry_view body_view x)
place_of = fold-roll-Place model.Node model.Place (model.Pattern × model.Nodes) SeenEntry model.Body node_step place_step clause_step entry_step body_step

pub reads_element : (l : Location) (t : List ℕ) (xs : List Attribute) (ns : List Node) → node_reads (form.Element l t xs ns) ≡ all_names attribute_reads xs ++ all_names node_reads ns
reads_element l t xs ns =
    ap node_reads (sym (form.rolls-Element l t xs ns)) ∙ ap free_node (node_of (Node-F.Element l t xs ns))
    ∙ both_are _ _ _ _ (attributes_names xs) (nodes_names ns)

pub reads_if : (e : Expr) (as' bs : List Node) → place_reads (place.If e as' bs) ≡ (expr_reads e ++ all_names node_reads as') ++ all_names node_reads bs
reads_if e as' bs =
    ap place_reads (sym (place.rolls-If e as' bs)) ∙ ap free_place (place_of (Place-F.If e as' bs))
    ∙ both_are _ _ _ _ (ap (λ ns. expr_reads e ++ ns) (nodes_names as')) (nodes_names bs)

pub reads_case : (e : Expr) (cs : List Clause) → place_reads (place.Case e cs) ≡ expr_reads e ++ all_names clause_reads cs
reads_case e cs =
    ap place_reads (sym (place.rolls-Case e cs)) ∙ ap free_place (place_of (Place-F.Case e cs)) ∙ ap (λ ns. expr_reads e ++ ns) (clauses_names cs)

pub reads_for : (p : Pattern) (e : Expr) (ns : List Node) → place_reads (place.For p e ns) ≡ expr_reads e ++ without (bound_by p) (all_names node_reads ns)
reads_for p e ns =
    ap place_reads (sym (place.rolls-For p e ns)) ∙ ap free_place (place_of (Place-F.For p e ns))
    ∙ ap (λ ks. expr_reads e ++ without (bound_by p) ks) (nodes_names ns)

pub reads_call : (t : List ℕ) (xs : List Attribute) (b : SlotBody) (es : List Entry) → place_reads (place.Call t xs b es) ≡ (all_names attribute_reads xs ++ body_reads b) ++ all_names entry_reads es
reads_call t xs b es =
    ap place_reads (sym (place.rolls-Call t xs b es)) ∙ ap free_place (place_of (Place-F.Call t xs b es))
    ∙ both_are _ _ _ _ (ap (λ ks. ks ++ body_reads b) (attributes_names xs)) (entries_names es)

pub reads_live : (xs : List Attribute) (b : SlotBody) (es : List Entry) → place_reads (place.LiveCall xs b es) ≡ all_names attribute_reads xs
reads_live xs b es = ap place_reads (sym (place.rolls-LiveCall xs b es)) ∙ ap free_place (place_of (Place-F.LiveCall xs b es)) ∙ attributes_names xs

pub reads_slot : (e : Expr) (a : Option Expr) → place_reads (place.RenderSlot e a) ≡ expr_reads e ++ option_reads a
reads_slot e a =
    ap place_reads (sym (place.rolls-RenderSlot e a)) ∙ ap free_place (place_of (Place-F.RenderSlot e a)) ∙ ap (λ ks. expr_reads e ++ ks) (argument_names a)

pub reads_stream : (s x : List ℕ) (p : Pattern) (ns : List Node) → place_reads (place.StreamFor s x p ns) ≡ without (x ∷ bound_by p) (all_names node_reads ns)
reads_stream s x p ns =
    ap place_reads (sym (place.rolls-StreamFor s x p ns)) ∙ ap free_place (place_of (Place-F.StreamFor s x p ns))
    ∙ ap (without (x ∷ bound_by p)) (nodes_names ns)

pub reads_clause : (c : Clause) → clause_reads c ≡ without (bound_by (out-Clause c).pattern) (all_names node_reads (out-Clause c).body)
reads_clause c =
    ap clause_names (fold_out-Clause model.Node model.Place (model.Pattern × model.Nodes) SeenEntry model.Body node_step place_step clause_step entry_step body_step c)
    ∙ ap (without (bound_by (out-Clause c).pattern)) (nodes_names (out-Clause c).body)

without_none : (ns : List Name) → without [] ns ≡ ns
without_none [] = refl
without_none (model.at a ∷ ns) = ap (λ ks. model.at a ∷ ks) (without_none ns)
without_none (model.var v ∷ ns) = ap (λ ks. model.var v ∷ ks) (without_none ns)

body_names : (b : SlotBody) → body_reads b ≡ without (bound (or_any (out-SlotBody b).pattern)) (all_names node_reads (out-SlotBody b).nodes)
body_names b =
    ap free_body (fold_out-SlotBody model.Node model.Place (model.Pattern × model.Nodes) SeenEntry model.Body node_step place_step clause_step entry_step body_step b)
    ∙ ap (without (bound (or_any (out-SlotBody b).pattern))) (nodes_names (out-SlotBody b).nodes)

pub reads_body_let : (b : SlotBody) (p : Pattern) → (out-SlotBody b).pattern ≡ Some p → body_reads b ≡ without (bound_by p) (all_names node_reads (out-SlotBody b).nodes)
reads_body_let b p is = body_names b ∙ ap (λ o. without (bound (or_any o)) (all_names node_reads (out-SlotBody b).nodes)) is

pub reads_body : (b : SlotBody) → (out-SlotBody b).pattern ≡ None → body_reads b ≡ all_names node_reads (out-SlotBody b).nodes
reads_body b is = body_names b ∙ ap (λ o. without (bound (or_any o)) (all_names node_reads (out-SlotBody b).nodes)) is ∙ without_none _

-- the names of a slot entry, but those of its `:for`
abbrev pub rest_reads : Option Expr → List Attribute → SlotBody → List Name
rest_reads t xs b = (option_reads t ++ all_names attribute_reads xs) ++ body_reads b

entry_is : (e : Entry) → entry_reads e ≡ free_inside (option_map generator_view (out-Entry e).generator) (rest_reads (out-Entry e).test (out-Entry e).attributes (out-Entry e).body)
entry_is e =
    ap entry_names (fold_out-Entry model.Node model.Place (model.Pattern × model.Nodes) SeenEntry model.Body node_step place_step clause_step entry_step body_step e)
    ∙ ap (λ ks. free_inside (option_map generator_view (out-Entry e).generator) (ks ++ body_reads (out-Entry e).body))
    (both_are _ _ _ _ (test_names (out-Entry e).test) (attributes_names (out-Entry e).attributes))

pub reads_entry_for : (e : Entry) (g : Generator) → (out-Entry e).generator ≡ Some g
    → entry_reads e ≡ expr_reads g.list ++ without (bound_by g.pattern) (rest_reads (out-Entry e).test (out-Entry e).attributes (out-Entry e).body)
reads_entry_for e g is =
    entry_is e ∙ ap (λ o. free_inside (option_map generator_view o) (rest_reads (out-Entry e).test (out-Entry e).attributes (out-Entry e).body)) is

pub reads_entry : (e : Entry) → (out-Entry e).generator ≡ None → entry_reads e ≡ rest_reads (out-Entry e).test (out-Entry e).attributes (out-Entry e).body
reads_entry e is =
    entry_is e ∙ ap (λ o. free_inside (option_map generator_view o) (rest_reads (out-Entry e).test (out-Entry e).attributes (out-Entry e).body)) is
