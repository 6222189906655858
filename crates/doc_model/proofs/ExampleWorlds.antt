-- Processes for the worked examples: views as handler steps, and what a browser is sent and shows.
use Rattle.std.specs.Str.{is_utf8}
use Rattle.std.proofs.lemmas.Str.{is_utf8-from_IsUtf8}
use Rattle.json.proofs.Printed.Utf8.{are_ascii, IsUtf8-are_ascii}
use Rattle.std.proofs.Common.{◌≡◌, true, ℕ, ℤ, List, [], ◌∷◌, map, Ok, Err, Option, Some, None, option_map, codes, if◌then◌else◌}
use Rattle.std.specs.Str.{bytes_eq}
use Rattle.serde_json.specs.Written.{compact_text}
use Rattle.value_core.specs.Value.{Value, nil, map_of, Assigns, no_assigns, assign}
use Rattle.ast_core.specs.Syntax.{Expr, Nodes, Linked}
use Rattle.diff_tree.specs.Container.{Row}
use Rattle.diff_tree.specs.Client.{show_tree}
use Rattle.diff_tree.specs.Spelling.{page_tree_json, page_diff_json}
use Rattle.diff_tree.specs.Frame.{Frame, FrameBody, rendered, changed, push, frame_json, client_takes_all}
use Rattle.doc_model.specs.Environment.{with_key}
use Rattle.doc_model.specs.Evaluation.{Res, eval_expr}
use Rattle.doc_model.specs.Bundle.{site_of}
use Rattle.view_api.specs.Effect.{Effect, assign_to, stream_insert, stream_delete, stream_reset}
use Rattle.view_api.specs.Meaning.{Handler, of_view, of_module, ViewMeaning}
use Rattle.wire_v2.specs.Message.{MessageHead, plain_value, Message, join, event}
use Rattle.doc_model.specs.Process.{World, Route, begin_state, page_text, Stepped, step_message}
use Rattle.doc_model.proofs.ExampleParts.{scope}

-- a text of ASCII is UTF-8
pub utf8 : (t : List ℕ) → are_ascii t ≡ true → is_utf8 t ≡ true
utf8 t h = is_utf8-from_IsUtf8 t (IsUtf8-are_ascii t h)

-- the first three items of a message
abbrev pub head_with : Option (List ℕ) → Option (List ℕ) → List ℕ → MessageHead
head_with j r t = record { join_reference = j; reference = r; topic = t }

-- what a handler does: an assign, and a stream's insert (with the dom id), delete and reset
pub data Step : Type 0 where
  assign_step : List ℕ → Expr → Step
  insert_step : List ℕ → List ℕ → Expr → ℤ → Option ℤ → Step
  delete_step : List ℕ → List ℕ → Step
  reset_step : List ℕ → Step

-- steps under the name of their event
abbrev pub Events : Type 0
Events = List (List ℕ × List Step)

-- no answer after a raise
abbrev pub where_ok : {A B : Type 0} → Res A → (A → Option B) → Option B
where_ok (Ok a) f = f a
where_ok (Err e) f = None

abbrev pub before : Effect → Option (List Effect) → Option (List Effect)
before e es = option_map (λ l. e ∷ l) es

-- steps see the assigns as earlier steps left them
abbrev pub effects_of : List Step → Assigns → Option (List Effect)
effects_of [] as' = Some []
effects_of (assign_step n e ∷ ss) as' = where_ok (eval_expr (scope as') e) (λ v. before (assign_to n v) (effects_of ss (with_key n v as')))
effects_of (insert_step s id e at limit ∷ ss) as' = where_ok (eval_expr (scope as') e) (λ v. before (stream_insert s id v at limit) (effects_of ss as'))
effects_of (delete_step s id ∷ ss) as' = before (stream_delete s id) (effects_of ss as')
effects_of (reset_step s ∷ ss) as' = before (stream_reset s) (effects_of ss as')

-- an event without an entry raises
abbrev pub event_effects : Events → List ℕ → Assigns → Option (List Effect)
event_effects [] name as' = None
event_effects (e ∷ es) name as' = if bytes_eq name e.0 then effects_of e.1 as' else event_effects es name as'

-- an update without steps assigns every attribute
abbrev pub all_assigned : Assigns → List Effect
all_assigned no_assigns = []
all_assigned (assign k v as') = assign_to k v ∷ all_assigned as'

-- the mount and the events of a view, and of the one module of LiveComponents
abbrev pub scripted : List Step → Events → List Step → Events → ViewMeaning
scripted mount events component_mount component_events = record {
  mount = λ v p. effects_of mount no_assigns;
  handle_params = λ v p as'. Some [];
  handle_event = by_owner;
  handle_info = λ v m as'. Some [];
  mount_component = λ m. effects_of component_mount no_assigns;
  update_component = λ m attributes as'. Some (all_assigned attributes);
}
  where
    by_owner : Handler → List ℕ → Value → Assigns → Option (List Effect)
    by_owner (of_view v) name w as' = event_effects events name as'
    by_owner (of_module m) name w as' = event_effects component_events name as'

-- one view at `/`
abbrev pub at_root : List ℕ → Option Route
at_root url = if bytes_eq url (codes "/") then Some (record { view = 0; params = map_of no_assigns }) else None

abbrev pub world_of : Linked → Nodes → ViewMeaning → World
world_of l home views = record { site = site_of l; template_of = λ v. home; views = views; route = at_root; read_form = λ t. nil }

-- a bundle of one template
abbrev pub home_alone : Linked
home_alone = record { templates = []; bodies = []; modules = [] }

abbrev pub page_alone : Nodes → List Step → Events → World
page_alone home mount events = world_of home_alone home (scripted mount events [] [])

-- the head of a browser's message, of its first join and under this reference
abbrev pub head : List ℕ → MessageHead
head r = record { join_reference = Some (codes "1"); reference = Some r; topic = codes "lv:A" }

-- a process after its first message, the join of `/`
abbrev pub joined : World → Stepped
joined w = step_message w begin_state [] (join (head (codes "1")) (codes "/"))

-- an event of the view, or of the component of a number, after this step, with the empty map as its value
abbrev pub event_of : World → Stepped → List ℕ → Option ℕ → List ℕ → Stepped
event_of w s r n name = step_message w s.state s.inbox (event (head r) name (plain_value (map_of no_assigns)) n)

abbrev pub event_to : World → Stepped → List ℕ → ℕ → List ℕ → Stepped
event_to w s r n name = event_of w s r (Some n) name

abbrev pub event_after : World → Stepped → List ℕ → List ℕ → Stepped
event_after w s r name = event_of w s r None name

-- the frames as they are sent
abbrev pub frames_text : Stepped → List (List ℕ)
frames_text s = map (λ f. compact_text (frame_json f)) s.frames

-- the trees and the diffs in frames, as JSON
abbrev pub carried : List Frame → List (List ℕ)
carried [] = []
carried (f ∷ fs) = and_body f.body (carried fs)
  where
    and_body : FrameBody → List (List ℕ) → List (List ℕ)
    and_body (rendered p es) ts = compact_text (page_tree_json p es) ∷ ts
    and_body (changed d es) ts = compact_text (page_diff_json d es) ∷ ts
    and_body (push d es) ts = compact_text (page_diff_json d es) ∷ ts
    and_body _ ts = ts

abbrev pub carried_text : Stepped → List (List ℕ)
carried_text s = carried s.frames

-- what a client shows that took these frames: none where a frame is bad for it, and inside none where it holds no page
abbrev pub client_page : World → List Frame → Option (Option (List ℕ))
client_page w fs = option_map (λ held. option_map (show_tree w.site.mark 9) held) (client_takes_all 9 None fs)

-- the page of the process by the full rendering
abbrev pub full_page : World → Stepped → Option (Res (List ℕ))
full_page w s = option_map (page_text w) s.state.page

-- the container of a view's stream
abbrev pub container : List ℕ → Stepped → Option (List (Row (List ℕ)))
container name s = option_map (λ p. (p.streams name).shown) s.state.page
