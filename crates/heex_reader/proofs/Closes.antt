-- What ends, or goes on as another branch or clause.
use Rattle.std.proofs.Common.{◌≡◌, ℕ, List, [], ◌∷◌, ◌++◌, map, Bool, true, false, Option, Some, None, option_map, cond, Result, Ok, refl, sym, ap, subst, ◌∙◌}
use Rattle.std.specs.Str.{bytes_eq}
use Rattle.ast_core.specs.Syntax as model
use Rattle.ast_core.specs.Syntax.{no_nodes, if_place, for_place, case_place, at_place}
use Rattle.ast_core.specs.ExprView.{expr_view}
use Rattle.ast_core.specs.PatternView.{pattern_view}
use Rattle.ast_core.specs.NodeView.{location_of, nodes_view, clauses_of, clause_view, node_view, place_view}
use Rattle.ast_core.specs.declared.node.Node.{Node}
use Rattle.ast_core.specs.declared.node.Place.{Place}
use Rattle.ast_core.specs.declared.node.Node.TheVariants as node_form
use Rattle.heex_reader.specs.declared.content.Content.{Content}
use Rattle.heex_reader.specs.declared.frame.Open.{Open}
use Rattle.heex_reader.specs.declared.frame.Open.TheVariants as open_form
use Rattle.heex_reader.specs.declared.frame.Frame.{Frame}
use Rattle.heex_reader.specs.declared.fault.TemplateKind.TheVariants as kind
use Rattle.heex_reader.specs.declared.refusal.ReadFault.{ReadFault}
use Rattle.heex_reader.specs.declared.state.State.{State}
use Rattle.heex_reader.specs.Located.{Fault, faulty}
use Rattle.heex_reader.specs.Signs as signs
use Rattle.heex_reader.specs.Contents as contents
use Rattle.heex_reader.specs.Contents.{add_node, add_tag}
use Rattle.heex_reader.specs.Machine as machine
use Rattle.heex_reader.specs.Contents.{nodes_in}
use Rattle.heex_reader.specs.Seen.{content_view, tag_view, framed, frame_view, seen, ended, other_branch, another_clause, tag_named, reopened, clause_step, IsAt}
use Rattle.heex_reader.specs.Leads.{Leads}
use Rattle.heex_reader.proofs.Nodes.{sees_place}

end_some : (place : ℕ → model.Location) (at : ℕ) (here : contents.Content) (fs : List machine.Frame) (p : model.Place) (o : Open) (n : ℕ) (c : contents.Content) → ended o (nodes_in here) ≡ Some p
    → machine.end_block place at here (framed o n c ∷ fs) ≡ Ok (record { here = add_node (at_place (place n) p) c; frames = fs })
end_some place at here fs p (open_form.Yes e) n c is =
    let same : if_place (expr_view e) (nodes_in here) no_nodes ≡ p = cc in ap (λ q. Ok (record { here = add_node (at_place (place n) q) c; frames = fs })) same
end_some place at here fs p (open_form.No e ms) n c is =
    let same : if_place (expr_view e) (nodes_view ms) (nodes_in here) ≡ p = cc in ap (λ q. Ok (record { here = add_node (at_place (place n) q) c; frames = fs })) same
end_some place at here fs p (open_form.Loop g) n c is =
    let same : for_place (pattern_view g.pattern) (expr_view g.list) (nodes_in here) ≡ p = cc in ap (λ q. Ok (record { here = add_node (at_place (place n) q) c; frames = fs })) same
end_some place at here fs p (open_form.Clause e cs q) n c is =
    let same : case_place (expr_view e) (clauses_of (map clause_view cs ++ (pattern_view q, nodes_in here) ∷ [])) ≡ p = cc in ap (λ r. Ok (record { here = add_node (at_place (place n) r) c; frames = fs })) same
end_some place at here fs p (open_form.Tag t) n c is = cc
end_some place at here fs p (open_form.BeforeClauses e) n c is = cc

end_none : (place : ℕ → model.Location) (at : ℕ) (here : contents.Content) (fs : List machine.Frame) (o : Open) (n : ℕ) (c : contents.Content) → ended o (nodes_in here) ≡ None
    → machine.end_block place at here (framed o n c ∷ fs) ≡ faulty at kind.BadBlock
end_none place at here fs (open_form.Yes e) n c is = cc
end_none place at here fs (open_form.No e ms) n c is = cc
end_none place at here fs (open_form.Loop g) n c is = cc
end_none place at here fs (open_form.Clause e cs q) n c is = cc
end_none place at here fs (open_form.Tag t) n c is = refl
end_none place at here fs (open_form.BeforeClauses e) n c is = refl

-- a block's end leads on
pub block_ends : (place : ℕ → model.Location) (at : ℕ) (here : contents.Content) (f : Frame) (fs : List Frame) (p : Place) (c : Content)
    → ended f.form (nodes_in here) ≡ Some (place_view p) → content_view c ≡ add_node (node_view (node_form.Place f.spot.location p)) (content_view f.before)
    → IsAt place f.spot → machine.end_block place at here (frame_view f ∷ seen fs) ≡ Ok (record { here = content_view c; frames = seen fs })
block_ends place at here f fs p c is more stands =
    end_some place at here (seen fs) (place_view p) f.form f.spot.byte (content_view f.before) is
    ∙ ap (λ l. Ok (record { here = add_node (at_place l (place_view p)) (content_view f.before); frames = seen fs })) stands
    ∙ ap (λ n. Ok (record { here = add_node n (content_view f.before); frames = seen fs })) (sym (sees_place f.spot.location p))
    ∙ ap (λ x. Ok (record { here = x; frames = seen fs })) (sym more)

pub block_stays : (place : ℕ → model.Location) (at : ℕ) (here : contents.Content) (f : Frame) (fs : List Frame) → ended f.form (nodes_in here) ≡ None
    → machine.end_block place at here (frame_view f ∷ seen fs) ≡ faulty at kind.BadBlock
block_stays place at here f fs is = end_none place at here (seen fs) f.form f.spot.byte (content_view f.before) is

pub else_is : (place : ℕ → model.Location) (at : ℕ) (here : contents.Content) (o : Open) (n : ℕ) (c : contents.Content) (fs : List machine.Frame)
    → machine.else_branch place at here (framed o n c ∷ fs) ≡ reopened at (other_branch o (nodes_in here) n c) fs
else_is place at here (open_form.Yes e) n c fs = refl
else_is place at here (open_form.No e ms) n c fs = refl
else_is place at here (open_form.Loop g) n c fs = refl
else_is place at here (open_form.Clause e cs q) n c fs = refl
else_is place at here (open_form.Tag t) n c fs = refl
else_is place at here (open_form.BeforeClauses e) n c fs = refl

pub clause_is : (place : ℕ → model.Location) (at : ℕ) (q : model.Pattern) (here : contents.Content) (o : Open) (n : ℕ) (c : contents.Content) (fs : List machine.Frame)
    → clause_step place at q here (framed o n c ∷ fs) ≡ reopened at (another_clause o q (nodes_in here) n c) fs
clause_is place at q here (open_form.Yes e) n c fs = refl
clause_is place at q here (open_form.No e ms) n c fs = refl
clause_is place at q here (open_form.Loop g) n c fs = refl
clause_is place at q here (open_form.Clause e cs p) n c fs = refl
clause_is place at q here (open_form.Tag t) n c fs = refl
clause_is place at q here (open_form.BeforeClauses e) n c fs = refl

-- what is open goes on as something else
pub else_leads : (place : ℕ → model.Location) (at : ℕ) (here : Content) (f : Frame) (fs : List Frame) (o : Option Open) (ns : List Node) (r : Result State ReadFault)
    → ns ≡ here.nodes → ((n : ℕ) (c : contents.Content) → other_branch f.form (nodes_view ns) n c ≡ option_map (λ x. framed x n c) o)
    → Leads place r (reopened at (option_map (λ x. framed x f.spot.byte (content_view f.before)) o) (seen fs))
    → Leads place r (machine.else_branch place at (content_view here) (frame_view f ∷ seen fs))
else_leads place at here f fs o ns r same goes leads =
    let is : machine.else_branch place at (content_view here) (frame_view f ∷ seen fs) ≡ reopened at (option_map (λ x. framed x f.spot.byte (content_view f.before)) o) (seen fs) =
    else_is place at (content_view here) f.form f.spot.byte (content_view f.before) (seen fs)
    ∙ ap (λ (l : List Node). reopened at (other_branch f.form (nodes_view l) f.spot.byte (content_view f.before)) (seen fs)) (sym same)
    ∙ ap (λ (x : Option machine.Frame). reopened at x (seen fs)) (goes f.spot.byte (content_view f.before)) in
    subst (λ (x : Result machine.State Fault). Leads place r x) (sym is) leads

pub clause_leads : (place : ℕ → model.Location) (at : ℕ) (q : model.Pattern) (here : Content) (f : Frame) (fs : List Frame) (o : Option Open) (ns : List Node) (r : Result State ReadFault)
    → ns ≡ here.nodes → ((n : ℕ) (c : contents.Content) → another_clause f.form q (nodes_view ns) n c ≡ option_map (λ x. framed x n c) o)
    → Leads place r (reopened at (option_map (λ x. framed x f.spot.byte (content_view f.before)) o) (seen fs))
    → Leads place r (clause_step place at q (content_view here) (frame_view f ∷ seen fs))
clause_leads place at q here f fs o ns r same goes leads =
    let is : clause_step place at q (content_view here) (frame_view f ∷ seen fs) ≡ reopened at (option_map (λ x. framed x f.spot.byte (content_view f.before)) o) (seen fs) =
    clause_is place at q (content_view here) f.form f.spot.byte (content_view f.before) (seen fs)
    ∙ ap (λ (l : List Node). reopened at (another_clause f.form q (nodes_view l) f.spot.byte (content_view f.before)) (seen fs)) (sym same)
    ∙ ap (λ (x : Option machine.Frame). reopened at x (seen fs)) (goes f.spot.byte (content_view f.before)) in
    subst (λ (x : Result machine.State Fault). Leads place r x) (sym is) leads

close_some : (place : ℕ → model.Location) (at : ℕ) (name : List ℕ) (here : contents.Content) (fs : List machine.Frame) (t : signs.Tag) (o : Open) (n : ℕ) (c : contents.Content) → tag_named o name ≡ Some t
    → machine.close_tag place at name here (framed o n c ∷ fs) ≡ Ok (record { here = add_tag (machine.in_call fs) (place n) t here c; frames = fs })
close_some place at name here fs t (open_form.Tag u) n c is = by (bytes_eq name u.name) refl is
  where
    by : (b : Bool) → bytes_eq name u.name ≡ b → cond {A = Option signs.Tag} b (Some (tag_view u)) None ≡ Some t
        → cond {A = Result machine.State Fault} b (Ok (record { here = add_tag (machine.in_call fs) (place n) (tag_view u) here c; frames = fs })) (faulty at kind.WrongClose)
        ≡ Ok (record { here = add_tag (machine.in_call fs) (place n) t here c; frames = fs })
    by true e k = let same : tag_view u ≡ t = cc in ap (λ x. Ok (record { here = add_tag (machine.in_call fs) (place n) x here c; frames = fs })) same
    by false e k = cc
close_some place at name here fs t (open_form.Yes e) n c is = cc
close_some place at name here fs t (open_form.No e ms) n c is = cc
close_some place at name here fs t (open_form.Loop g) n c is = cc
close_some place at name here fs t (open_form.Clause e cs q) n c is = cc
close_some place at name here fs t (open_form.BeforeClauses e) n c is = cc

close_none : (place : ℕ → model.Location) (at : ℕ) (name : List ℕ) (here : contents.Content) (fs : List machine.Frame) (o : Open) (n : ℕ) (c : contents.Content) → tag_named o name ≡ None
    → machine.close_tag place at name here (framed o n c ∷ fs) ≡ faulty at kind.WrongClose
close_none place at name here fs (open_form.Tag u) n c is = by (bytes_eq name u.name) refl is
  where
    by : (b : Bool) → bytes_eq name u.name ≡ b → cond {A = Option signs.Tag} b (Some (tag_view u)) None ≡ None
        → cond {A = Result machine.State Fault} b (Ok (record { here = add_tag (machine.in_call fs) (place n) (tag_view u) here c; frames = fs })) (faulty at kind.WrongClose) ≡ faulty at kind.WrongClose
    by true e k = cc
    by false e k = refl
close_none place at name here fs (open_form.Yes e) n c is = refl
close_none place at name here fs (open_form.No e ms) n c is = refl
close_none place at name here fs (open_form.Loop g) n c is = refl
close_none place at name here fs (open_form.Clause e cs q) n c is = refl
close_none place at name here fs (open_form.BeforeClauses e) n c is = refl

pub tag_ends : (place : ℕ → model.Location) (at : ℕ) (name : List ℕ) (here : contents.Content) (f : Frame) (fs : List Frame) (t : signs.Tag) (b : Bool) (c : Content)
    → tag_named f.form name ≡ Some t → b ≡ machine.in_call (seen fs) → content_view c ≡ add_tag b (location_of f.spot.location) t here (content_view f.before)
    → IsAt place f.spot → machine.close_tag place at name here (frame_view f ∷ seen fs) ≡ Ok (record { here = content_view c; frames = seen fs })
tag_ends place at name here f fs t b c is directly more stands =
    close_some place at name here (seen fs) t f.form f.spot.byte (content_view f.before) is
    ∙ ap (λ l. Ok (record { here = add_tag (machine.in_call (seen fs)) l t here (content_view f.before); frames = seen fs })) stands
    ∙ ap (λ d. Ok (record { here = add_tag d (location_of f.spot.location) t here (content_view f.before); frames = seen fs })) (sym directly)
    ∙ ap (λ x. Ok (record { here = x; frames = seen fs })) (sym more)

pub tag_stays : (place : ℕ → model.Location) (at : ℕ) (name : List ℕ) (here : contents.Content) (f : Frame) (fs : List Frame) → tag_named f.form name ≡ None
    → machine.close_tag place at name here (frame_view f ∷ seen fs) ≡ faulty at kind.WrongClose
tag_stays place at name here f fs is = close_none place at name here (seen fs) f.form f.spot.byte (content_view f.before) is
