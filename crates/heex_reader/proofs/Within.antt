-- Where a sign leads that stands where nodes may stand.
use Rattle.std.proofs.Common.{◌≡◌, ℕ, List, Bool, false, Result, Ok, sym, ap, subst, ◌∙◌}
use Rattle.ast_core.specs.Syntax as model
use Rattle.ast_core.specs.Syntax.{at_place}
use Rattle.ast_core.specs.NodeView.{location_of, node_view, place_view}
use Rattle.ast_core.specs.declared.node.Place.{Place}
use Rattle.ast_core.specs.declared.node.Node.TheVariants as node_form
use Rattle.heex_reader.specs.declared.content.Content.{Content}
use Rattle.heex_reader.specs.declared.frame.Spot.{Spot}
use Rattle.heex_reader.specs.declared.frame.Frame.{Frame}
use Rattle.heex_reader.specs.declared.refusal.ReadFault.{ReadFault}
use Rattle.heex_reader.specs.declared.state.State.{State}
use Rattle.heex_reader.specs.Located.{Fault}
use Rattle.heex_reader.specs.Signs as signs
use Rattle.heex_reader.specs.Contents as contents
use Rattle.heex_reader.specs.Contents.{nothing_yet, add_node, add_tag}
use Rattle.heex_reader.specs.Machine as machine
use Rattle.heex_reader.specs.Seen.{content_view, seen, node_put, awaits, clause_step, IsAt}
use Rattle.heex_reader.specs.Leads.{Leads}
use Rattle.heex_reader.proofs.Nodes.{sees_text, sees_place}
use Rattle.heex_reader.proofs.Frames.{step_within}

pub text_leads : (place : ℕ → model.Location) (at : ℕ) (t : List ℕ) (here : contents.Content) (fs : List machine.Frame) (r : Result State ReadFault)
    → Leads place r (node_put (node_view (node_form.Text t)) here fs) → Leads place r (machine.within place at (signs.words t) here fs)
text_leads place at t here fs r leads = subst (λ (n : model.Node). Leads place r (node_put n here fs)) (sees_text t) leads

pub place_leads : (place : ℕ → model.Location) (s : Spot) (p : Place) (here : contents.Content) (fs : List machine.Frame) (r : Result State ReadFault) → IsAt place s
    → Leads place r (node_put (node_view (node_form.Place s.location p)) here fs) → Leads place r (machine.within place s.byte (signs.value (place_view p)) here fs)
place_leads place s p here fs r stands leads =
    let is : node_view (node_form.Place s.location p) ≡ at_place (place s.byte) (place_view p) = sees_place s.location p ∙ ap (λ l. at_place l (place_view p)) (sym stands) in
    subst (λ (n : model.Node). Leads place r (node_put n here fs)) is leads

pub block_leads : (place : ℕ → model.Location) (at : ℕ) (b : signs.Block) (here : contents.Content) (f : machine.Frame) (fs : List machine.Frame) (r : Result State ReadFault) → f ≡ machine.frame_of at here b
    → Leads place r (machine.opened at f fs) → Leads place r (machine.within place at (signs.block b) here fs)
block_leads place at b here f fs r is leads = subst (λ (g : machine.Frame). Leads place r (machine.opened at g fs)) is leads

pub clause_leads_on : (place : ℕ → model.Location) (at : ℕ) (q : model.Pattern) (here : contents.Content) (fs : List Frame) (r : Result State ReadFault) → awaits fs ≡ false
    → Leads place r (clause_step place at q here (seen fs)) → Leads place r (machine.within place at (signs.clause_head q) here (seen fs))
clause_leads_on place at q here fs r none leads = subst (λ (x : Result machine.State Fault). Leads place r x) (step_within place at (signs.clause_head q) here fs none) leads

pub whole_is : (place : ℕ → model.Location) (s : Spot) (t : signs.Tag) (here : contents.Content) (fs : List machine.Frame) (b : Bool) (inner c : Content)
    → b ≡ machine.in_call fs → content_view inner ≡ nothing_yet → content_view c ≡ add_tag b (location_of s.location) t (content_view inner) here
    → IsAt place s → machine.within place s.byte (signs.whole t) here fs ≡ Ok (record { here = content_view c; frames = fs })
whole_is place s t here fs b inner c directly empty more stands =
    ap (λ l. Ok (record { here = add_tag (machine.in_call fs) l t nothing_yet here; frames = fs })) stands
    ∙ ap (λ d. Ok (record { here = add_tag d (location_of s.location) t nothing_yet here; frames = fs })) (sym directly)
    ∙ ap (λ x. Ok (record { here = add_tag b (location_of s.location) t x here; frames = fs })) (sym empty)
    ∙ ap (λ x. Ok (record { here = x; frames = fs })) (sym more)
