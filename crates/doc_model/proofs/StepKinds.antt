-- What a step can be: nothing is rendered, the process goes down, a first rendering, or a rendering that follows.
use Rattle.std.proofs.Common.{◌≡◌, ◌⊎◌, inl, inr, ℕ, suc, List, [], ◌∷◌, Ok, Err, Option, Some, None, Bool, true, false, ◌==◌, if◌then◌else◌, refl, sym, ap, ◌∙◌, subst, codes}
use Rattle.std.proofs.lemmas.Bool.Decides.{Decides-eqb}
use Rattle.std.specs.Str.{bytes_eq}
use Rattle.value_core.specs.Value.{Value, no_assigns}
use Rattle.ast_core.specs.Places.{cut}
use Rattle.diff_tree.specs.Client.{PageTree, PageDiff}
use Rattle.diff_tree.specs.Spelling.{Pushed}
use Rattle.diff_tree.specs.Frame.{Frame, FrameBody, empty, rendered, changed, refusal, no_cids, push, client_takes_all}
use Rattle.doc_model.specs.Environment.{Component}
use Rattle.doc_model.specs.Evaluation.{Res, then_do}
use Rattle.doc_model.specs.Components.{whole_tree, lean_diff}
use Rattle.doc_model.specs.Walk.{Owner, owner_of, component_with}
use Rattle.view_api.specs.Effect.{Effect}
use Rattle.view_api.specs.Meaning.{of_view, of_module}
use Rattle.doc_model.specs.Effects.{Waiting, heard, mailed, sent, Rest, Applied, applied_or_raise, empty_stream}
use Rattle.wire_v2.specs.Message.{MessageHead, Message, beat, join, leave, event, patch, will_destroy, destroyed, message_of}
use Rattle.doc_model.specs.Process.{World, Route, Page, ProcessState, Turning, Outcome, Stepped, rendered_page, turning_view, joined_page, view_turn, component_at, with_owner, component_turn, frame_of, reply_to, rest_of, no_difference, diff_body, push_frames, reply_diff, after_turn, after_join, step_join, step_component, step_event, step_patch, is_of, if_fresh, step_message, step_heard, step_info, if_present, mail_value, step_waiting, handled_front, value_of, no_route}
use Rattle.doc_model.specs.Journal.{DownReason, Entry, text_heard, mail_heard, handled, fell, overrun, Standing, process_step, fault_frames, down_reason}
use Rattle.doc_model.proofs.Results.{On, on_eq}
use Rattle.doc_model.proofs.Handlers.{Shows, handlers_show}

-- the same components, each with the containers that it had
abbrev pub Alike : List Component → List Component → Type 0
Alike [] [] = Unit {0}
Alike (c ∷ cs) (d ∷ ds) = (c.number ≡ d.number) × (c.module_name ≡ d.module_name) × (c.id ≡ d.id) × ((x : List ℕ) → (d.streams x).shown ≡ (c.streams x).shown) × Alike cs ds
Alike _ _ = ⊥

alike : (cs : List Component) → Alike cs cs
alike [] = tt
alike (c ∷ cs) = (refl, refl, refl, λ x. refl, alike cs)

-- handlers of one component keep all containers
with_owner_alike : (n : ℕ) (o : Owner) (cs : List Component) (c : Component) → component_at n cs ≡ Some c → Shows (owner_of c) o → Alike cs (with_owner n o cs)
with_owner_alike n o [] c e h = tt
with_owner_alike n o (d ∷ cs) c e h = by_test (n == d.number) refl e (with_owner_alike n o cs c)
  where
    by_test : (b : Bool) → (n == d.number) ≡ b → (if b then Some d else component_at n cs) ≡ Some c → (component_at n cs ≡ Some c → Shows (owner_of c) o → Alike cs (with_owner n o cs))
        → Alike (d ∷ cs) (if b then component_with n d.module_name d.id d.passed o ∷ cs else d ∷ with_owner n o cs)
    by_test true t k r = let q : c ≡ d = cc in (sym ((Decides-eqb n d.number).0 t), refl, refl, λ x. h x ∙ ap (λ y. (y.streams x).shown) q, alike cs)
    by_test false t k r = (refl, refl, refl, λ x. refl, r k h)

component_number : (n : ℕ) (cs : List Component) (c : Component) → component_at n cs ≡ Some c → n ≡ c.number
component_number n [] c e = cc
component_number n (d ∷ cs) c e = by_test (n == d.number) refl e (component_number n cs c)
  where
    by_test : (b : Bool) → (n == d.number) ≡ b → (if b then Some d else component_at n cs) ≡ Some c → (component_at n cs ≡ Some c → n ≡ c.number) → n ≡ c.number
    by_test true t k r = let q : d ≡ c = cc in (Decides-eqb n d.number).0 t ∙ ap (λ y. y.number) q
    by_test false t k r = r k

-- handlers wrote to batches alone, and the page was rendered
pub record Rerenders (w : World) (p : Page) (o : Outcome) : Type 0 where
  pub before : Turning
  pub rendered : rendered_page w p.view p.join_reference p.topic before ≡ Ok o
  pub next_is : before.next ≡ p.next
  pub view_shows : (x : List ℕ) → (before.view.streams x).shown ≡ (p.streams x).shown
  pub alike : Alike p.components before.components

-- a view without containers or components was rendered
pub record Renders (w : World) (v : ℕ) (o : Outcome) : Type 0 where
  pub join_reference : Option (List ℕ)
  pub topic : List ℕ
  pub before : Turning
  pub rendered : rendered_page w v join_reference topic before ≡ Ok o
  pub no_components : before.components ≡ []
  pub view_shows : (x : List ℕ) → (before.view.streams x).shown ≡ []

bound : {A B : Type 0} (r : Res A) (f : A → Res B) (b : B) → then_do r f ≡ Ok b → (a : A) × (r ≡ Ok a) × (f a ≡ Ok b)
bound (Ok a) f b e = (a, refl, e)
bound (Err x) f b e = cc

view_rerenders : (w : World) (p : Page) (es : Option (List Effect)) (rest : Rest) (o : Outcome) → view_turn w p es rest ≡ Ok o → Rerenders w p o
view_rerenders w p es rest o e =
    let p₀ : Applied = (record { assigns = p.assigns; streams = p.streams }, rest) in
    let b = bound (applied_or_raise es p₀) (λ q. rendered_page w p.view p.join_reference p.topic (turning_view p.components p.next q)) o e in
    record {
      before = turning_view p.components p.next b.0;
      rendered = b.2;
      next_is = refl;
      view_shows = subst (On (λ (q : Applied). Shows p₀.0 q.0)) b.1 (handlers_show es p₀);
      alike = alike p.components;
    }

component_rerenders : (w : World) (p : Page) (n : ℕ) (c : Component) (es : Option (List Effect)) (rest : Rest) (o : Outcome) → component_at n p.components ≡ Some c → component_turn w p c es rest ≡ Ok o → Rerenders w p o
component_rerenders w p n c es rest o found e =
    let p₀ : Applied = (owner_of c, rest) in
    let b = bound (applied_or_raise es p₀)
    (λ q. rendered_page w p.view p.join_reference p.topic (record { view = record { assigns = p.assigns; streams = p.streams }; components = with_owner c.number q.0 p.components; next = p.next; rest = q.1 })) o e in
    record {
      before = record { view = record { assigns = p.assigns; streams = p.streams }; components = with_owner c.number b.0.0 p.components; next = p.next; rest = b.0.1 };
      rendered = b.2;
      next_is = refl;
      view_shows = λ x. refl;
      alike = with_owner_alike c.number b.0.0 p.components c (subst (λ m. component_at m p.components ≡ Some c) (component_number n p.components c found) found) (subst (On (λ (q : Applied). Shows p₀.0 q.0)) b.1 (handlers_show es p₀));
    }

join_renders : (w : World) (r : Route) (j : Option (List ℕ)) (t : List ℕ) (rest : Rest) (o : Outcome) → joined_page w r j t rest ≡ Ok o → Renders w r.view o
join_renders w r j t rest o e =
    let p₀ : Applied = (record { assigns = no_assigns; streams = empty_stream }, rest) in
    let b = bound (applied_or_raise (w.views.mount r.view r.params) p₀)
    (λ p. then_do (applied_or_raise (w.views.handle_params r.view r.params p.0.assigns) p) (λ q. rendered_page w r.view j t (turning_view [] 1 q))) o e in
    let c = bound (applied_or_raise (w.views.handle_params r.view r.params b.0.0.assigns) b.0) (λ q. rendered_page w r.view j t (turning_view [] 1 q)) o b.2 in
    record {
      join_reference = j;
      topic = t;
      before = turning_view [] 1 c.0;
      rendered = c.2;
      no_components = refl;
      view_shows = λ x. subst (On (λ (q : Applied). Shows b.0.0 q.0)) c.1 (handlers_show (w.views.handle_params r.view r.params b.0.0.assigns) b.0) x ∙ subst (On (λ (q : Applied). Shows p₀.0 q.0)) b.1 (handlers_show (w.views.mount r.view r.params) p₀) x;
    }

-- a frame that changes nothing at a client
abbrev pub IsQuiet : FrameBody → Type 0
IsQuiet empty = Unit {0}
IsQuiet no_cids = Unit {0}
IsQuiet (refusal reason) = bytes_eq reason (codes "join crashed") ≡ false
IsQuiet _ = ⊥

abbrev pub AllQuiet : List Frame → Type 0
AllQuiet [] = Unit {0}
AllQuiet (f ∷ fs) = IsQuiet f.body × AllQuiet fs

-- a frame without a tree or a diff
abbrev pub IsPlain : FrameBody → Type 0
IsPlain (rendered t es) = ⊥
IsPlain (changed d es) = ⊥
IsPlain (push d es) = ⊥
IsPlain _ = Unit {0}

abbrev pub AllPlain : List Frame → Type 0
AllPlain [] = Unit {0}
AllPlain (f ∷ fs) = IsPlain f.body × AllPlain fs

-- after these frames no client holds a page
abbrev pub Empties : List Frame → Type 0
Empties fs = (k : ℕ) (h : Option PageTree) → client_takes_all k h fs ≡ Some None

-- a frame with this diff
abbrev pub Carries : PageDiff → FrameBody → Type 0
Carries d (changed e es) = e ≡ d
Carries d (push e es) = e ≡ d
Carries d _ = ⊥

module _ (w : World) (s : ProcessState) (Q : Option Page → List Frame → Type 0)
    (still : (fs : List Frame) → AllQuiet fs → Q s.page fs)
    (down : (fs : List Frame) → AllPlain fs → ((fs ≡ []) × (s.page ≡ None)) ⊎ Empties fs → Q None fs)
    (joined : (h : MessageHead) (r : Route) (o : Outcome) → Renders w r.view o → Q (Some o.page) (reply_to h (rendered (whole_tree (cut (w.template_of r.view)) o.page.met) o.rest.pushed) ∷ []))
    (silent : (p : Page) (o : Outcome) → s.page ≡ Some p → Rerenders w p o → no_difference (lean_diff p.met o.page.met) o.rest.pushed ≡ true → (fs : List Frame) → AllQuiet fs → Q (Some o.page) fs)
    (told : (p : Page) (o : Outcome) → s.page ≡ Some p → Rerenders w p o → (f : Frame) → Carries (lean_diff p.met o.page.met) f.body → Q (Some o.page) (f ∷ [])) where
  abbrev Result : Stepped → Type 0
  Result t = Q t.state.page t.frames

  -- how the frames of a turn are made
  abbrev Sends : (PageDiff → List Pushed → List Frame) → Type 0
  Sends frames = (p : Page) (o : Outcome) → s.page ≡ Some p → Rerenders w p o → Q (Some o.page) (frames (lean_diff p.met o.page.met) o.rest.pushed)

  replies : (h : MessageHead) → Sends (reply_diff h)
  replies h p o e r = by_test (no_difference (lean_diff p.met o.page.met) o.rest.pushed) refl
    where
      by_test : (b : Bool) → no_difference (lean_diff p.met o.page.met) o.rest.pushed ≡ b → Q (Some o.page) (reply_to h (if b then empty else changed (lean_diff p.met o.page.met) o.rest.pushed) ∷ [])
      by_test true t = silent p o e r t (reply_to h empty ∷ []) (tt, tt)
      by_test false t = told p o e r (reply_to h (changed (lean_diff p.met o.page.met) o.rest.pushed)) refl

  pushes : (q : Page) → Sends (push_frames q)
  pushes q p o e r = by_test (no_difference (lean_diff p.met o.page.met) o.rest.pushed) refl
    where
      by_test : (b : Bool) → no_difference (lean_diff p.met o.page.met) o.rest.pushed ≡ b → Q (Some o.page) (if b then [] else frame_of q.join_reference None q.topic (push (lean_diff p.met o.page.met) o.rest.pushed) ∷ [])
      by_test true t = silent p o e r t [] tt
      by_test false t = told p o e r (frame_of q.join_reference None q.topic (push (lean_diff p.met o.page.met) o.rest.pushed)) refl

  turn : (p : Page) (inbox : List Waiting) (frames : PageDiff → List Pushed → List Frame) (r : Res Outcome) → s.page ≡ Some p → Sends frames → ((o : Outcome) → r ≡ Ok o → Rerenders w p o) → Result (after_turn s p inbox frames r)
  turn p inbox frames (Err x) e send h = down _ (tt, tt) (inr (λ k h. refl))
  turn p inbox frames (Ok o) e send h = send p o e (h o refl)

  on_join : (inbox : List Waiting) (h : MessageHead) (o : Option Route) → Result (step_join w s inbox h o)
  on_join inbox h None = still (no_route h ∷ []) (refl, tt)
  on_join inbox h (Some r) = by_page (joined_page w r h.join_reference h.topic (rest_of (suc s.generation) inbox)) refl
    where
      by_page : (q : Res Outcome) → joined_page w r h.join_reference h.topic (rest_of (suc s.generation) inbox) ≡ q → Result (after_join w (suc s.generation) h inbox r q)
      by_page (Err x) e = down (reply_to h (refusal (codes "join crashed")) ∷ []) (tt, tt) (inr (λ k m. refl))
      by_page (Ok o) e = joined h r o (join_renders w r h.join_reference h.topic (rest_of (suc s.generation) inbox) o e)

  on_event : (p : Page) (inbox : List Waiting) (h : MessageHead) (name : List ℕ) (v : Value) (n : Option ℕ) → s.page ≡ Some p → Result (step_event w s p inbox h name v n)
  on_event p inbox h name v None e =
      let es = w.views.handle_event (of_view p.view) name v p.assigns in
      turn p inbox (reply_diff h) (view_turn w p es (rest_of s.generation inbox)) e (replies h) (λ o k. view_rerenders w p es (rest_of s.generation inbox) o k)
  on_event p inbox h name v (Some n) e = by_component (component_at n p.components) refl
    where
      by_component : (c : Option Component) → component_at n p.components ≡ c → Result (step_component w s p inbox h name v c)
      by_component None f = still (reply_to h empty ∷ []) (tt, tt)
      by_component (Some c) f =
          let es = w.views.handle_event (of_module c.module_name) name v c.assigns in
          turn p inbox (reply_diff h) (component_turn w p c es (rest_of s.generation inbox)) e (replies h) (λ o k. component_rerenders w p n c es (rest_of s.generation inbox) o f k)

  on_patch : (p : Page) (inbox : List Waiting) (h : MessageHead) (o : Option Route) → s.page ≡ Some p → Result (step_patch w s p inbox h o)
  on_patch p inbox h None e = still (no_route h ∷ []) (refl, tt)
  on_patch p inbox h (Some r) e = by_test (r.view == p.view)
    where
      by_test : (b : Bool) → Result (if b then after_turn s p inbox (reply_diff h) (view_turn w p (w.views.handle_params p.view r.params p.assigns) (rest_of s.generation inbox)) else record { state = s; inbox = inbox; frames = no_route h ∷ []; actions = []; crashed = false })
      by_test true =
          let es = w.views.handle_params p.view r.params p.assigns in
          turn p inbox (reply_diff h) (view_turn w p es (rest_of s.generation inbox)) e (replies h) (λ o k. view_rerenders w p es (rest_of s.generation inbox) o k)
      by_test false = still (no_route h ∷ []) (refl, tt)

  fresh : (inbox : List Waiting) (h : MessageHead) (f : Page → Stepped) → ((p : Page) → s.page ≡ Some p → Result (f p)) → Result (if_fresh s inbox h f)
  fresh inbox h f k = by_page s.page refl
    where
      by_page : (o : Option Page) → s.page ≡ o → Result (elim o [ None ↦ record { state = s; inbox = inbox; frames = []; actions = []; crashed = false } | Some p ↦ if is_of p h then f p else record { state = s; inbox = inbox; frames = []; actions = []; crashed = false } ])
      by_page None e = still [] tt
      by_page (Some p) e = by_test (is_of p h) (k p e)
        where
          by_test : (b : Bool) → Result (f p) → Result (if b then f p else record { state = s; inbox = inbox; frames = []; actions = []; crashed = false })
          by_test true r = r
          by_test false r = still [] tt

  present : (inbox : List Waiting) (g : ℕ) (f : Page → Stepped) → ((p : Page) → s.page ≡ Some p → Result (f p)) → Result (if_present s inbox g f)
  present inbox g f k = by_page s.page refl
    where
      by_page : (o : Option Page) → s.page ≡ o → Result (elim o [ None ↦ record { state = s; inbox = inbox; frames = []; actions = []; crashed = false } | Some p ↦ if g == s.generation then f p else record { state = s; inbox = inbox; frames = []; actions = []; crashed = false } ])
      by_page None e = still [] tt
      by_page (Some p) e = by_test (g == s.generation) (k p e)
        where
          by_test : (b : Bool) → Result (f p) → Result (if b then f p else record { state = s; inbox = inbox; frames = []; actions = []; crashed = false })
          by_test true r = r
          by_test false r = still [] tt

  on_message : (inbox : List Waiting) (m : Message) → Result (step_message w s inbox m)
  on_message inbox (beat h) = still _ (tt, tt)
  on_message inbox (join h url) = on_join inbox h (w.route url)
  on_message inbox (leave h) = fresh inbox h _ (λ p e. down _ (tt, (tt, tt)) (inr (λ k m. refl)))
  on_message inbox (event h name v n) = fresh inbox h _ (λ p e. on_event p inbox h name (value_of w v) n e)
  on_message inbox (patch h url) = fresh inbox h _ (λ p e. on_patch p inbox h (w.route url) e)
  on_message inbox (will_destroy h) = fresh inbox h _ (λ p e. still (reply_to h empty ∷ []) (tt, tt))
  on_message inbox (destroyed h) = fresh inbox h _ (λ p e. still (reply_to h no_cids ∷ []) (tt, tt))

  on_heard : (inbox : List Waiting) (o : Option Message) → Result (step_heard w s inbox o)
  on_heard inbox None = still [] tt
  on_heard inbox (Some m) = on_message inbox m

  on_info : (inbox : List Waiting) (p : Page) (r : Res Value) → s.page ≡ Some p → Result (step_info w s inbox p r)
  on_info inbox p r e =
      turn p inbox (push_frames p) (then_do r (λ v. view_turn w p (w.views.handle_info p.view v p.assigns) (rest_of s.generation inbox))) e (pushes p)
      (λ o k. let b = bound r (λ v. view_turn w p (w.views.handle_info p.view v p.assigns) (rest_of s.generation inbox)) o k in view_rerenders w p (w.views.handle_info p.view b.0 p.assigns) (rest_of s.generation inbox) o b.2)

  on_waiting : (inbox : List Waiting) (m : Waiting) → Result (step_waiting w s inbox m)
  on_waiting inbox (heard bytes) = on_heard inbox (message_of bytes)
  on_waiting inbox (mailed t g bytes) = present inbox g _ (λ p e. on_info inbox p (mail_value bytes) e)
  on_waiting inbox (sent g v) = present inbox g _ (λ p e. on_info inbox p (Ok v) e)

  on_front : (inbox : List Waiting) → Result (handled_front w s inbox)
  on_front [] = still [] tt
  on_front (m ∷ inbox) = on_waiting inbox m

  faults : (reason : Option (List ℕ)) (o : Option Page) → s.page ≡ o → Q None (fault_frames o reason)
  faults reason None e = down [] tt (inl (refl, e))
  faults reason (Some p) e = down (fault_frames (Some p) reason) (tt, tt) (inr (λ k h. refl))

  pub by_kind : (inbox : List Waiting) (e : Entry) → Result (process_step w (record { state = s; inbox = inbox }) e)
  by_kind inbox (text_heard t) = still [] tt
  by_kind inbox (mail_heard t g v) = still [] tt
  by_kind inbox (handled fs) = on_front inbox
  by_kind inbox (fell fs) = faults (Some (codes "out of memory")) s.page refl
  by_kind inbox (overrun why fs) = faults (Some (down_reason why)) s.page refl
