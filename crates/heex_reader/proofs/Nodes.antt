-- What nodes stand for, and how they stand side by side.
use Rattle.std.proofs.Common.{◌≡◌, ℕ, List, [], ◌∷◌, ◌++◌, map, Option, Some, None, option_map, refl, sym, ap, ◌∙◌}
use Rattle.std.proofs.lemmas.List.{map-append}
use Rattle.ast_core.specs.declared.expr.Expr.{Expr}
use Rattle.ast_core.specs.declared.pattern.Pattern.{Pattern}
use Rattle.ast_core.specs.declared.node.Location.{Location}
use Rattle.ast_core.specs.declared.node.Generator.{Generator}
use Rattle.ast_core.specs.declared.node.Attribute.{Attribute}
use Rattle.ast_core.specs.declared.node.Node.{Node}
use Rattle.ast_core.specs.declared.node.Place.{Place}
use Rattle.ast_core.specs.declared.node.Clause.{Clause}
use Rattle.ast_core.specs.declared.node.Entry.{Entry}
use Rattle.ast_core.specs.declared.node.SlotBody.{SlotBody}
use Rattle.ast_core.specs.declared.node.Node.TheOpen.{Node-F, Place-F}
use Rattle.ast_core.specs.declared.node.Node.TheVariants as form
use Rattle.ast_core.specs.declared.node.Place.TheVariants as place
use Rattle.ast_core.specs.declared.node.Node.TheViews.{out-Node, roll-Node, roll-Place, roll-Clause, roll-Entry, roll-SlotBody, roll-out-Node}
use Rattle.ast_core.specs.declared.node.Node.TheFolds.{map-Node, map-Place, fold-roll-Node, fold-roll-Place, fold-roll-Clause, fold-roll-Entry, fold-roll-SlotBody}
use Rattle.ast_core.specs.Syntax as model
use Rattle.ast_core.specs.ExprView.{expr_view}
use Rattle.ast_core.specs.PatternView.{pattern_view}
use Rattle.ast_core.specs.NodeView.{SeenEntry, location_of, attributes_view, generator_view, nodes_view, entries_view, clauses_of, node_view, place_view, clause_view, entry_view, body_view, node_step, place_step, clause_step, entry_step, body_step}
use Rattle.heex_reader.specs.Contents as contents
use Rattle.heex_reader.specs.Contents.{side_by_side, then_node}

-- One level, seen.

node_is : (x : Node-F Node Place Clause Entry SlotBody) → node_view (roll-Node x) ≡ node_step (map-Node _ _ _ _ _ _ _ _ _ _ node_view place_view clause_view entry_view body_view x)
node_is = fold-roll-Node model.Node model.Place (model.Pattern × model.Nodes) SeenEntry model.Body node_step place_step clause_step entry_step body_step

place_is : (x : Place-F Node Place Clause Entry SlotBody) → place_view (roll-Place x) ≡ place_step (map-Place _ _ _ _ _ _ _ _ _ _ node_view place_view clause_view entry_view body_view x)
place_is = fold-roll-Place model.Node model.Place (model.Pattern × model.Nodes) SeenEntry model.Body node_step place_step clause_step entry_step body_step

pub sees_text : (t : List ℕ) → node_view (form.Text t) ≡ model.text_node t
sees_text t = ap node_view (sym (form.rolls-Text t)) ∙ node_is (Node-F.Text t)

pub sees_element : (l : Location) (t : List ℕ) (xs : List Attribute) (ns : List Node) → node_view (form.Element l t xs ns) ≡ model.element (location_of l) t (attributes_view xs) (nodes_view ns)
sees_element l t xs ns = ap node_view (sym (form.rolls-Element l t xs ns)) ∙ node_is (Node-F.Element l t xs ns)

pub sees_place : (l : Location) (p : Place) → node_view (form.Place l p) ≡ model.at_place (location_of l) (place_view p)
sees_place l p = ap node_view (sym (form.rolls-Place l p)) ∙ node_is (Node-F.Place l p)

pub sees_if : (e : Expr) (as' bs : List Node) → place_view (place.If e as' bs) ≡ model.if_place (expr_view e) (nodes_view as') (nodes_view bs)
sees_if e as' bs = ap place_view (sym (place.rolls-If e as' bs)) ∙ place_is (Place-F.If e as' bs)

pub sees_case : (e : Expr) (cs : List Clause) → place_view (place.Case e cs) ≡ model.case_place (expr_view e) (clauses_of (map clause_view cs))
sees_case e cs = ap place_view (sym (place.rolls-Case e cs)) ∙ place_is (Place-F.Case e cs)

pub sees_for : (p : Pattern) (e : Expr) (ns : List Node) → place_view (place.For p e ns) ≡ model.for_place (pattern_view p) (expr_view e) (nodes_view ns)
sees_for p e ns = ap place_view (sym (place.rolls-For p e ns)) ∙ place_is (Place-F.For p e ns)

pub sees_call : (t : List ℕ) (xs : List Attribute) (b : SlotBody) (es : List Entry) → place_view (place.Call t xs b es) ≡ model.call t (attributes_view xs) (body_view b) (entries_view es)
sees_call t xs b es = ap place_view (sym (place.rolls-Call t xs b es)) ∙ place_is (Place-F.Call t xs b es)

pub sees_live_call : (xs : List Attribute) (b : SlotBody) (es : List Entry) → place_view (place.LiveCall xs b es) ≡ model.live_call (attributes_view xs) (body_view b) (entries_view es)
sees_live_call xs b es = ap place_view (sym (place.rolls-LiveCall xs b es)) ∙ place_is (Place-F.LiveCall xs b es)

pub sees_clause : (p : Pattern) (ns : List Node) → clause_view (roll-Clause (record { pattern = p; body = ns })) ≡ (pattern_view p, nodes_view ns)
sees_clause p ns = fold-roll-Clause model.Node model.Place (model.Pattern × model.Nodes) SeenEntry model.Body node_step place_step clause_step entry_step body_step (record { pattern = p; body = ns })

body_is : (n : ℕ) (p : Option Pattern) (ns : List Node) → body_view (roll-SlotBody (record { number = n; pattern = p; nodes = ns })) ≡ body_step (record { number = n; pattern = p; nodes = map node_view ns })
body_is n p ns = fold-roll-SlotBody model.Node model.Place (model.Pattern × model.Nodes) SeenEntry model.Body node_step place_step clause_step entry_step body_step (record { number = n; pattern = p; nodes = ns })

pub sees_body : (n : ℕ) (p : Option Pattern) (ns : List Node) → body_view (roll-SlotBody (record { number = n; pattern = p; nodes = ns })) ≡ model.slot_body n (contents.or_any (option_map pattern_view p)) (nodes_view ns)
sees_body n None ns = body_is n None ns
sees_body n (Some p) ns = body_is n (Some p) ns

pub sees_entry : (l : Location) (s : List ℕ) (g : Option Generator) (e : Option Expr) (xs : List Attribute) (b : SlotBody)
    → entry_view (roll-Entry (record { at = l; slot = s; generator = g; test = e; attributes = xs; body = b }))
    ≡ record { location = location_of l; slot = s; attributes = attributes_view xs; generator = option_map generator_view g; test = option_map expr_view e; body = body_view b }
sees_entry l s g e xs b = fold-roll-Entry model.Node model.Place (model.Pattern × model.Nodes) SeenEntry model.Body node_step place_step clause_step entry_step body_step (record { at = l; slot = s; generator = g; test = e; attributes = xs; body = b })

-- Lists with one more at their end.

pub nodes_more : (ns : List Node) (n : Node) → map node_view (ns ++ n ∷ []) ≡ map node_view ns ++ node_view n ∷ []
nodes_more ns n = map-append node_view ns (n ∷ [])

pub entries_more : (es : List Entry) (e : Entry) → map entry_view (es ++ e ∷ []) ≡ map entry_view es ++ entry_view e ∷ []
entries_more es e = map-append entry_view es (e ∷ [])

pub clauses_more : (cs : List Clause) (p : Pattern) (ns : List Node) → map clause_view (cs ++ roll-Clause (record { pattern = p; body = ns }) ∷ []) ≡ map clause_view cs ++ (pattern_view p, nodes_view ns) ∷ []
clauses_more cs p ns = map-append clause_view cs (roll-Clause (record { pattern = p; body = ns }) ∷ []) ∙ ap (λ c. map clause_view cs ++ c ∷ []) (sees_clause p ns)

-- Nodes side by side.

-- what stands for a text is one
text_alone : (n : Node) (t : List ℕ) → node_view n ≡ model.text_node t → n ≡ form.Text t
text_alone n t e = by (out-Node n) refl
  where
    by : (x : Node-F Node Place Clause Entry SlotBody) → out-Node n ≡ x → n ≡ form.Text t
    by (Node-F.Text u) is =
        let whole : n ≡ form.Text u = sym (roll-out-Node n) ∙ ap roll-Node is ∙ form.rolls-Text u in
        let seen : node_view n ≡ model.text_node u = ap node_view whole ∙ sees_text u in
        let same : u ≡ t = cc in
        whole ∙ ap form.Text same
    by (Node-F.Element l u xs ns) is =
        let whole : n ≡ form.Element l u xs ns = sym (roll-out-Node n) ∙ ap roll-Node is ∙ form.rolls-Element l u xs ns in
        let seen : node_view n ≡ model.element (location_of l) u (attributes_view xs) (nodes_view ns) = ap node_view whole ∙ sees_element l u xs ns in
        cc
    by (Node-F.Place l p) is =
        let whole : n ≡ form.Place l p = sym (roll-out-Node n) ∙ ap roll-Node is ∙ form.rolls-Place l p in
        let seen : node_view n ≡ model.at_place (location_of l) (place_view p) = ap node_view whole ∙ sees_place l p in
        cc

no_text_before : (m : model.Node) (t : List ℕ) → ((u : List ℕ) → m ≡ model.text_node u → ⊥) → side_by_side m (model.text_node t) ≡ m ∷ model.text_node t ∷ []
no_text_before (model.text_node u) t h = absurd (h u refl)
no_text_before (model.element l u xs ns) t h = refl
no_text_before (model.at_place l p) t h = refl

no_text_behind : (m n : model.Node) → ((u : List ℕ) → n ≡ model.text_node u → ⊥) → side_by_side m n ≡ m ∷ n ∷ []
no_text_behind m (model.text_node u) h = absurd (h u refl)
no_text_behind (model.text_node t) (model.element l u xs ns) h = refl
no_text_behind (model.element k t ys ms) (model.element l u xs ns) h = refl
no_text_behind (model.at_place k q) (model.element l u xs ns) h = refl
no_text_behind (model.text_node t) (model.at_place l p) h = refl
no_text_behind (model.element k t ys ms) (model.at_place l p) h = refl
no_text_behind (model.at_place k q) (model.at_place l p) h = refl

last_beside : (ms : List model.Node) (m n : model.Node) → then_node (ms ++ m ∷ []) n ≡ ms ++ side_by_side m n
last_beside [] m n = refl
last_beside (k ∷ []) m n = refl
last_beside (k ∷ j ∷ ms) m n = ap (λ l. k ∷ l) (last_beside (j ∷ ms) m n)

then_other : (ms : List model.Node) (n : model.Node) → ((u : List ℕ) → n ≡ model.text_node u → ⊥) → then_node ms n ≡ ms ++ n ∷ []
then_other [] n h = refl
then_other (m ∷ []) n h = no_text_behind m n h
then_other (m ∷ k ∷ ms) n h = ap (λ l. m ∷ l) (then_other (k ∷ ms) n h)

-- what is no text stands beside any text
pub apart : (m : Node) (t : List ℕ) → ((u : List ℕ) → m ≡ form.Text u → ⊥) → side_by_side (node_view m) (model.text_node t) ≡ node_view m ∷ model.text_node t ∷ []
apart m t h = no_text_before (node_view m) t (λ u e. h u (text_alone m u e))

-- and behind any nodes
pub behind_all : (ms : List Node) (n : Node) → ((u : List ℕ) → n ≡ form.Text u → ⊥) → then_node (map node_view ms) (node_view n) ≡ map node_view ms ++ node_view n ∷ []
behind_all ms n h = then_other (map node_view ms) (node_view n) (λ u e. h u (text_alone n u e))

-- a text goes beside the last
pub beside_last : (ns rest : List Node) (m : Node) (t : List ℕ) → ns ≡ rest ++ m ∷ [] → then_node (map node_view ns) (model.text_node t) ≡ map node_view rest ++ side_by_side (node_view m) (model.text_node t)
beside_last ns rest m t e =
    ap (λ l. then_node (map node_view l) (model.text_node t)) e
    ∙ ap (λ l. then_node l (model.text_node t)) (nodes_more rest m)
    ∙ last_beside (map node_view rest) (node_view m) (model.text_node t)
