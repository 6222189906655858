-- How a process of a plain world sends diffs and pushed events.
use Rattle.std.proofs.Common.{◌≡◌, ℕ, suc, List, [], ◌∷◌, ◌++◌, ◌==◌, Ok, Err, Option, Some, None, Bool, true, false, if◌then◌else◌, refl, codes}
use Rattle.value_core.specs.Value.{Value}
use Rattle.diff_tree.specs.Client.{PageDiff}
use Rattle.diff_tree.specs.Spelling.{Pushed}
use Rattle.diff_tree.specs.Frame.{Frame, FrameBody, empty, rendered, changed, push}
use Rattle.view_api.specs.Meaning.{of_view, of_module}
use Rattle.wire_v2.specs.Message.{MessageHead, Message, beat, join, leave, event, patch, will_destroy, destroyed, message_of}
use Rattle.doc_model.specs.Environment.{Component}
use Rattle.doc_model.specs.Evaluation.{Res, then_do}
use Rattle.doc_model.specs.Components.{lean_diff}
use Rattle.doc_model.specs.Effects.{Waiting, heard, mailed, sent}
use Rattle.doc_model.specs.Process.{World, Route, Page, ProcessState, Outcome, Stepped, joined_page, view_turn, component_at, component_turn, reply_to, rest_of, no_difference, push_frames, reply_diff, after_turn, after_join, unchanged, step_join, step_component, step_event, step_patch, is_of, if_fresh, step_message, step_heard, step_info, if_present, mail_value, step_waiting, handled_front, value_of, frame_of, no_route}
use Rattle.doc_model.specs.Journal.{Entry, text_heard, mail_heard, handled, fell, overrun, Standing, process_step, after_step, frames_from, fault_frames, down_reason}
use Rattle.doc_model.proofs.Results.{On, on_bind}
use Rattle.client_page.specs.Shown.{IsPlainWorld}
use Rattle.client_page.proofs.Beside.{AreWhole}
use Rattle.client_page.proofs.Drawn.{OutcomeWhole, view_whole, component_whole, joined_whole}

-- under its reference: a diff that answers no message has none, and what is pushed has whole numbers alone
abbrev pub SentAs : Option (List ℕ) → FrameBody → Type 0
SentAs r (rendered p es) = AreWhole es
SentAs r (changed d es) = AreWhole es
SentAs r (push d es) = (r ≡ None) × AreWhole es
SentAs r _ = Unit {0}

abbrev pub AreSentAs : List Frame → Type 0
AreSentAs [] = Unit {0}
AreSentAs (f ∷ fs) = SentAs f.reference f.body × AreSentAs fs

sent_append : (fs gs : List Frame) → AreSentAs fs → AreSentAs gs → AreSentAs (fs ++ gs)
sent_append [] gs h g = g
sent_append (f ∷ fs) gs h g = (h.0, sent_append fs gs h.1 g)

module _ (w : World) (plain : IsPlainWorld w) (s : ProcessState) where
  abbrev Sent : Stepped → Type 0
  Sent t = AreSentAs t.frames

  replies : (h : MessageHead) (d : PageDiff) (es : List Pushed) → AreWhole es → AreSentAs (reply_diff h d es)
  replies h d es whole = by (no_difference d es)
    where
      by : (b : Bool) → AreSentAs (reply_to h (if b then empty else changed d es) ∷ [])
      by true = (tt, tt)
      by false = (whole, tt)

  pushes : (p : Page) (d : PageDiff) (es : List Pushed) → AreWhole es → AreSentAs (push_frames p d es)
  pushes p d es whole = by (no_difference d es)
    where
      by : (b : Bool) → AreSentAs (if b then [] else frame_of p.join_reference None p.topic (push d es) ∷ [])
      by true = tt
      by false = ((refl, whole), tt)

  turn : (p : Page) (inbox : List Waiting) (frames : PageDiff → List Pushed → List Frame) (r : Res Outcome) → On OutcomeWhole r → ((d : PageDiff) (es : List Pushed) → AreWhole es → AreSentAs (frames d es)) → Sent (after_turn s p inbox frames r)
  turn p inbox frames (Err e) o k = (tt, tt)
  turn p inbox frames (Ok o) whole k = k (lean_diff p.met o.page.met) o.rest.pushed whole

  on_join : (inbox : List Waiting) (h : MessageHead) (o : Option Route) → Sent (step_join w s inbox h o)
  on_join inbox h None = (tt, tt)
  on_join inbox h (Some r) = by (joined_page w r h.join_reference h.topic (rest_of (suc s.generation) inbox)) (joined_whole w plain r h.join_reference h.topic (rest_of (suc s.generation) inbox) tt)
    where
      by : (q : Res Outcome) → On OutcomeWhole q → Sent (after_join w (suc s.generation) h inbox r q)
      by (Err e) whole = (tt, tt)
      by (Ok o) whole = (whole, tt)

  on_event : (p : Page) (inbox : List Waiting) (h : MessageHead) (name : List ℕ) (v : Value) (n : Option ℕ) → Sent (step_event w s p inbox h name v n)
  on_event p inbox h name v None = turn p inbox (reply_diff h) (view_turn w p (w.views.handle_event (of_view p.view) name v p.assigns) (rest_of s.generation inbox)) (view_whole w plain p (w.views.handle_event (of_view p.view) name v p.assigns) (rest_of s.generation inbox) tt) (replies h)
  on_event p inbox h name v (Some n) = by (component_at n p.components)
    where
      by : (c : Option Component) → Sent (step_component w s p inbox h name v c)
      by None = (tt, tt)
      by (Some c) = turn p inbox (reply_diff h) (component_turn w p c (w.views.handle_event (of_module c.module_name) name v c.assigns) (rest_of s.generation inbox)) (component_whole w plain p c (w.views.handle_event (of_module c.module_name) name v c.assigns) (rest_of s.generation inbox) tt) (replies h)

  on_patch : (p : Page) (inbox : List Waiting) (h : MessageHead) (o : Option Route) → Sent (step_patch w s p inbox h o)
  on_patch p inbox h None = (tt, tt)
  on_patch p inbox h (Some r) =
      by (r.view == p.view) (turn p inbox (reply_diff h) (view_turn w p (w.views.handle_params p.view r.params p.assigns) (rest_of s.generation inbox)) (view_whole w plain p (w.views.handle_params p.view r.params p.assigns) (rest_of s.generation inbox) tt) (replies h))
    where
      by : (b : Bool) → Sent (after_turn s p inbox (reply_diff h) (view_turn w p (w.views.handle_params p.view r.params p.assigns) (rest_of s.generation inbox)))
          → Sent (if b then after_turn s p inbox (reply_diff h) (view_turn w p (w.views.handle_params p.view r.params p.assigns) (rest_of s.generation inbox)) else unchanged s inbox (no_route h ∷ []))
      by true k = k
      by false k = (tt, tt)

  fresh : (inbox : List Waiting) (h : MessageHead) (f : Page → Stepped) → ((p : Page) → Sent (f p)) → Sent (if_fresh s inbox h f)
  fresh inbox h f k = by s.page
    where
      by : (o : Option Page) → Sent (elim o as (λ _. Stepped) [ None ↦ unchanged s inbox [] | Some p ↦ if is_of p h then f p else unchanged s inbox [] ])
      by None = tt
      by (Some p) = choose (is_of p h)
        where
          choose : (b : Bool) → Sent (if b then f p else unchanged s inbox [])
          choose true = k p
          choose false = tt

  present : (inbox : List Waiting) (g : ℕ) (f : Page → Stepped) → ((p : Page) → Sent (f p)) → Sent (if_present s inbox g f)
  present inbox g f k = by s.page
    where
      by : (o : Option Page) → Sent (elim o as (λ _. Stepped) [ None ↦ unchanged s inbox [] | Some p ↦ if g == s.generation then f p else unchanged s inbox [] ])
      by None = tt
      by (Some p) = choose (g == s.generation)
        where
          choose : (b : Bool) → Sent (if b then f p else unchanged s inbox [])
          choose true = k p
          choose false = tt

  on_message : (inbox : List Waiting) (m : Message) → Sent (step_message w s inbox m)
  on_message inbox (beat h) = (tt, tt)
  on_message inbox (join h url) = on_join inbox h (w.route url)
  on_message inbox (leave h) = fresh inbox h _ (λ p. (tt, (tt, tt)))
  on_message inbox (event h name v n) = fresh inbox h _ (λ p. on_event p inbox h name (value_of w v) n)
  on_message inbox (patch h url) = fresh inbox h _ (λ p. on_patch p inbox h (w.route url))
  on_message inbox (will_destroy h) = fresh inbox h _ (λ p. (tt, tt))
  on_message inbox (destroyed h) = fresh inbox h _ (λ p. (tt, tt))

  on_heard : (inbox : List Waiting) (o : Option Message) → Sent (step_heard w s inbox o)
  on_heard inbox None = tt
  on_heard inbox (Some m) = on_message inbox m

  on_info : (inbox : List Waiting) (p : Page) (r : Res Value) → Sent (step_info w s inbox p r)
  on_info inbox p r = turn p inbox (push_frames p) (then_do r (λ v. view_turn w p (w.views.handle_info p.view v p.assigns) (rest_of s.generation inbox)))
      (on_bind OutcomeWhole r (λ v. view_turn w p (w.views.handle_info p.view v p.assigns) (rest_of s.generation inbox)) (λ v. view_whole w plain p (w.views.handle_info p.view v p.assigns) (rest_of s.generation inbox) tt)) (pushes p)

  on_waiting : (inbox : List Waiting) (m : Waiting) → Sent (step_waiting w s inbox m)
  on_waiting inbox (heard bytes) = on_heard inbox (message_of bytes)
  on_waiting inbox (mailed t g bytes) = present inbox g _ (λ p. on_info inbox p (mail_value bytes))
  on_waiting inbox (sent g v) = present inbox g _ (λ p. on_info inbox p (Ok v))

  on_front : (inbox : List Waiting) → Sent (handled_front w s inbox)
  on_front [] = tt
  on_front (m ∷ inbox) = on_waiting inbox m

  faults : (reason : Option (List ℕ)) (o : Option Page) → AreSentAs (fault_frames o reason)
  faults reason None = tt
  faults reason (Some p) = (tt, tt)

  step_sent : (inbox : List Waiting) (e : Entry) → Sent (process_step w (record { state = s; inbox = inbox }) e)
  step_sent inbox (text_heard t) = tt
  step_sent inbox (mail_heard t g v) = tt
  step_sent inbox (handled fs) = on_front inbox
  step_sent inbox (fell fs) = faults (Some (codes "out of memory")) s.page
  step_sent inbox (overrun why fs) = faults (Some (down_reason why)) s.page

pub frames_sent : (w : World) → IsPlainWorld w → (s : Standing) (es : List Entry) → AreSentAs (frames_from w s es)
frames_sent w plain s [] = tt
frames_sent w plain s (e ∷ es) = sent_append (process_step w s e).frames (frames_from w (after_step (process_step w s e)) es) (step_sent w plain s.state s.inbox e) (frames_sent w plain (after_step (process_step w s e)) es)
