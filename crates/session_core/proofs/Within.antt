-- No message leaves more waiting than an inbox holds.
use Rattle.std.proofs.Common.{◌≡◌, ◌==◌, ℕ, suc, ◌<◌, ◌≤◌, arith, List, [], ◌∷◌, ◌++◌, length, Ok, Err, Option, Some, None, Bool, true, false, if◌then◌else◌, nat_lt, refl}
use Rattle.std.proofs.lemmas.Bool.{ltb-true}
use Rattle.std.proofs.lemmas.List.{length-append}
use Rattle.serde_json.specs.Written.{compact_text}
use Rattle.value_core.specs.Value.{Value, Assigns, no_assigns, same_assigns}
use Rattle.value_core.specs.declared.raise.Raise.TheVariants.{BadArgument, InboxFull, Duplicate, Range}
use Rattle.diff_tree.specs.Client.{PageDiff, among}
use Rattle.diff_tree.specs.Spelling.{Pushed}
use Rattle.diff_tree.specs.Frame.{Frame}
use Rattle.view_api.specs.Effect.{Effect, assign_to, stream_insert, stream_delete, stream_reset, subscribe, unsubscribe, publish, send_self, push_event}
use Rattle.view_api.specs.Meaning.{ViewMeaning, of_view, of_module}
use Rattle.wire_v2.specs.Message.{MessageHead, Message, beat, join, leave, event, patch, will_destroy, destroyed, message_of}
use Rattle.doc_model.specs.Environment.{Component, find}
use Rattle.doc_model.specs.Evaluation.{Res, then_do, on_res}
use Rattle.doc_model.specs.Once.{left, left_to}
use Rattle.doc_model.specs.Run.{settled_stream, settled_components}
use Rattle.doc_model.specs.Trace.{Items}
use Rattle.doc_model.specs.Scopes.{id_of}
use Rattle.doc_model.specs.Walk.{Walk, component_with, owner_of, with_changed, reach_found, reach, render_state, at_end_of_walk, pass}
use Rattle.doc_model.specs.Effects.{Waiting, heard, mailed, sent, to_publish, Rest, Applied, storable, sendable, position_of, limit_of, batch_insert, in_stream, acting, send_value, is_kept_name, assigned, insert_of, apply_effect, apply_effects, applied_or_raise, empty_stream, new_owner, updated_component, views_of}
use Rattle.doc_model.specs.Process.{World, Route, Page, ProcessState, Outcome, Turning, Stepped, levels, scope_of_view, rendered_page, turning_view, joined_page, view_turn, component_turn, component_at, with_owner, rest_of, after_turn, after_join, step_join, reply_diff, push_frames, no_route, step_component, step_event, step_patch, is_of, if_fresh, value_of, step_message, step_heard, step_info, if_present, mail_value, step_waiting}
use Rattle.doc_model.proofs.Results.{On, on_made, on_bind, on_all, on_then, on_weaker}
use Rattle.doc_model.proofs.Threads.{Thread, pass_through}

abbrev pub Few : List Waiting → Type 0
Few ws = length ws ≤ 1024

abbrev LeavesFew : Stepped → Type 0
LeavesFew t = Few t.inbox

-- where few wait before, few wait after
abbrev Stays : Rest → Rest → Type 0
Stays r t = Few r.inbox → Few t.inbox

effect_stays : (e : Effect) (p : Applied) → On (λ q. Stays p.1 q.1) (apply_effect e p)
effect_stays (assign_to n v) p = by_test (is_kept_name n)
  where
    by_test : (b : Bool) → On (λ (q : Applied). Stays p.1 q.1) (if b then Err BadArgument else on_res (λ w. assigned n w p) (storable v))
    by_test true = tt
    by_test false = on_made (λ (q : Applied). Stays p.1 q.1) (λ w. assigned n w p) (storable v) (on_all (λ w. Stays p.1 (assigned n w p).1) (storable v) (λ w h. h))
effect_stays (stream_insert s id v at limit) p =
    on_bind (λ (q : Applied). Stays p.1 q.1) (storable v) (λ w. then_do (position_of at) (λ q. on_res (λ l. (in_stream s (batch_insert (insert_of id w q l)) p.0, p.1)) (limit_of limit)))
    (λ w. on_bind (λ (q : Applied). Stays p.1 q.1) (position_of at) (λ q. on_res (λ l. (in_stream s (batch_insert (insert_of id w q l)) p.0, p.1)) (limit_of limit))
    (λ q. on_made (λ (r : Applied). Stays p.1 r.1) (λ l. (in_stream s (batch_insert (insert_of id w q l)) p.0, p.1)) (limit_of limit) (on_all (λ l. Stays p.1 p.1) (limit_of limit) (λ l h. h))))
effect_stays (stream_delete s id) p = λ h. h
effect_stays (stream_reset s) p = λ h. h
effect_stays (subscribe t) p = λ h. h
effect_stays (unsubscribe t) p = λ h. h
effect_stays (publish t v) p = on_made (λ (q : Applied). Stays p.1 q.1) (λ d. acting (to_publish t (compact_text d)) p) (sendable v) (on_all (λ d. Stays p.1 p.1) (sendable v) (λ d h. h))
effect_stays (send_self v) p = on_bind (λ (q : Applied). Stays p.1 q.1) (sendable v) (λ d. send_value v p) (λ d. by_test (nat_lt (length p.1.inbox) 1024) refl)
  where
    by_test : (b : Bool) → nat_lt (length p.1.inbox) 1024 ≡ b → On (λ (q : Applied). Stays p.1 q.1) (if b then Ok (p.0, record p.1 { inbox = p.1.inbox ++ sent p.1.generation v ∷ [] }) else Err InboxFull)
    by_test true e = λ h. let few : length p.1.inbox < 1024 = ltb-true (length p.1.inbox) 1024 e in omega (arith, few, length-append p.1.inbox (sent p.1.generation v ∷ []))
    by_test false e = tt
effect_stays (push_event n v) p = on_made (λ (q : Applied). Stays p.1 q.1) (λ d. (p.0, record p.1 { pushed = p.1.pushed ++ (n, d) ∷ [] })) (sendable v) (on_all (λ d. Stays p.1 p.1) (sendable v) (λ d h. h))

effects_stay : (es : List Effect) (p : Applied) → On (λ q. Stays p.1 q.1) (apply_effects es p)
effects_stay [] p = λ h. h
effects_stay (e ∷ es) p =
    on_then (λ (q : Applied). Stays p.1 q.1) (λ (q : Applied). Stays p.1 q.1) (apply_effect e p) (apply_effects es) (effect_stays e p)
    (λ q h. on_weaker (λ (r : Applied). Stays q.1 r.1) (λ (r : Applied). Stays p.1 r.1) (apply_effects es q) (λ r k x. k (h x)) (effects_stay es q))

handlers_stay : (o : Option (List Effect)) (p : Applied) → On (λ q. Stays p.1 q.1) (applied_or_raise o p)
handlers_stay None p = tt
handlers_stay (Some es) p = effects_stay es p

module _ (vs : ViewMeaning) where
  mount_stays : (m : List ℕ) (n : ℕ) (as' : Assigns) (r : Rest) → On (λ q. Stays r q.1) (then_do (applied_or_raise (vs.mount_component m) (new_owner n, r)) (updated_component vs m as'))
  mount_stays m n as' r =
      on_then (λ (q : Applied). Stays r q.1) (λ (q : Applied). Stays r q.1) (applied_or_raise (vs.mount_component m) (new_owner n, r)) (updated_component vs m as') (handlers_stay (vs.mount_component m) (new_owner n, r))
      (λ q h. on_weaker (λ (t : Applied). Stays q.1 t.1) (λ (t : Applied). Stays r t.1) (updated_component vs m as' q) (λ t k x. k (h x)) (handlers_stay (vs.update_component m as' q.0.assigns) q))

  abbrev Goes : Walk Rest → List ℕ → Walk Rest → Type 0
  Goes s ns t = Stays s.rest t.rest

  abbrev Reaches : Walk Rest → Res (Component × Walk Rest) → Type 0
  Reaches s r = On (λ (p : Component × Walk Rest). Stays s.rest p.1.rest) r

  reach_stays : (m : List ℕ) (as' : Assigns) (s : Walk Rest) → On (λ p. Goes s (p.0.number ∷ []) p.1) (reach (views_of vs) m as' s)
  reach_stays m as' s = on_bind (λ (p : Component × Walk Rest). Stays s.rest p.1.rest) (id_of as') (λ i. reach_found (views_of vs) m i as' (find m i s.components) s) (λ i. by_found i (find m i s.components))
    where
      began : (i : Value) (b : Bool)
          → Reaches s (if b then on_res (λ p. (component_with s.next m i as' p.0, record { components = s.components ++ (component_with s.next m i as' p.0 ∷ []); met = s.next ∷ s.met; next = suc s.next; rest = p.1 })) ((views_of vs).mounted m s.next as' s.rest) else Err Range)
      began i true = on_made (λ (p : Component × Walk Rest). Stays s.rest p.1.rest) (λ p. (component_with s.next m i as' p.0, record { components = s.components ++ (component_with s.next m i as' p.0 ∷ []); met = s.next ∷ s.met; next = suc s.next; rest = p.1 })) ((views_of vs).mounted m s.next as' s.rest) (mount_stays m s.next as' s.rest)
      began i false = tt

      by_attributes : (i : Value) (c : Component) (b : Bool)
          → Reaches s (if b then Ok (c, record s { met = c.number ∷ s.met }) else on_res (λ p. (component_with c.number m i as' p.0, record { components = with_changed m i (component_with c.number m i as' p.0) s.components; met = c.number ∷ s.met; next = s.next; rest = p.1 })) ((views_of vs).updated m (owner_of c) as' s.rest))
      by_attributes i c true = λ h. h
      by_attributes i c false = on_made (λ (p : Component × Walk Rest). Stays s.rest p.1.rest) (λ p. (component_with c.number m i as' p.0, record { components = with_changed m i (component_with c.number m i as' p.0) s.components; met = c.number ∷ s.met; next = s.next; rest = p.1 })) ((views_of vs).updated m (owner_of c) as' s.rest) (handlers_stay (vs.update_component m as' c.assigns) (owner_of c, s.rest))

      by_met : (i : Value) (c : Component) (b : Bool)
          → Reaches s (if b then Err Duplicate else (if same_assigns as' c.passed then Ok (c, record s { met = c.number ∷ s.met }) else on_res (λ p. (component_with c.number m i as' p.0, record { components = with_changed m i (component_with c.number m i as' p.0) s.components; met = c.number ∷ s.met; next = s.next; rest = p.1 })) ((views_of vs).updated m (owner_of c) as' s.rest)))
      by_met i c true = tt
      by_met i c false = by_attributes i c (same_assigns as' c.passed)

      by_found : (i : Value) (o : Option Component) → Reaches s (reach_found (views_of vs) m i as' o s)
      by_found i None = began i (nat_lt s.next 4294967296)
      by_found i (Some c) = by_met i c (among c.number s.met)

  thread : Thread (views_of vs) Goes
  thread = record { stay = λ s h. h; chain = λ s t u ns ms f k h. k (f h); at_reach = reach_stays }

module _ (w : World) where
  rendered_stays : (v : ℕ) (j : Option (List ℕ)) (t : List ℕ) (s : Turning) → On (λ o. Stays s.rest o.rest) (rendered_page w v j t s)
  rendered_stays v j t s =
      let env = scope_of_view s.view.assigns s.view.streams s.components in
      let before : Walk Rest = record { components = s.components; met = []; next = s.next; rest = s.rest } in
      on_made (λ (o : Outcome). Stays s.rest o.rest) (made s) (render_state (views_of w.views) w.site levels env (w.template_of v) before)
      (on_made (λ p. Stays s.rest p.1.rest) (λ p. (p.0, at_end_of_walk p.1)) (pass (views_of w.views) w.site levels env (w.template_of v) before)
      (pass_through (views_of w.views) (Goes w.views) (thread w.views) w.site levels env (w.template_of v) before))
    where
      made : Turning → Items × Walk Rest → Outcome
      made x p = record {
        page = record {
          view = v;
          assigns = x.view.assigns;
          streams = settled_stream (left w.site.mark p.0);
          components = settled_components (left_to w.site.mark p.0) p.1.components;
          next = p.1.next;
          met = p.0;
          join_reference = j;
          topic = t;
        };
        rest = p.1.rest;
      }

  -- handlers, and the rendering after them
  after_handlers : (r : Rest) (effects : Option (List Effect)) (p : Applied) (f : Applied → Res Outcome) → Stays r p.1 → ((q : Applied) → On (λ o. Stays q.1 o.rest) (f q)) → On (λ o. Stays r o.rest) (then_do (applied_or_raise effects p) f)
  after_handlers r effects p f h k =
      on_then (λ (q : Applied). Stays p.1 q.1) (λ (o : Outcome). Stays r o.rest) (applied_or_raise effects p) f (handlers_stay effects p)
      (λ q g. on_weaker (λ (o : Outcome). Stays q.1 o.rest) (λ (o : Outcome). Stays r o.rest) (f q) (λ o l x. l (g (h x))) (k q))

  joined_stays : (r : Route) (j : Option (List ℕ)) (t : List ℕ) (rest : Rest) → On (λ o. Stays rest o.rest) (joined_page w r j t rest)
  joined_stays r j t rest =
      after_handlers rest (w.views.mount r.view r.params) (record { assigns = no_assigns; streams = empty_stream }, rest)
      (λ p. then_do (applied_or_raise (w.views.handle_params r.view r.params p.0.assigns) p) (λ q. rendered_page w r.view j t (turning_view [] 1 q))) (λ h. h)
      (λ p. after_handlers p.1 (w.views.handle_params r.view r.params p.0.assigns) p (λ q. rendered_page w r.view j t (turning_view [] 1 q)) (λ h. h) (λ q. rendered_stays r.view j t (turning_view [] 1 q)))

  view_stays : (p : Page) (effects : Option (List Effect)) (rest : Rest) → On (λ o. Stays rest o.rest) (view_turn w p effects rest)
  view_stays p effects rest =
      after_handlers rest effects (record { assigns = p.assigns; streams = p.streams }, rest) (λ q. rendered_page w p.view p.join_reference p.topic (turning_view p.components p.next q)) (λ h. h)
      (λ q. rendered_stays p.view p.join_reference p.topic (turning_view p.components p.next q))

  component_stays : (p : Page) (c : Component) (effects : Option (List Effect)) (rest : Rest) → On (λ o. Stays rest o.rest) (component_turn w p c effects rest)
  component_stays p c effects rest =
      after_handlers rest effects (owner_of c, rest)
      (λ q. rendered_page w p.view p.join_reference p.topic (record { view = record { assigns = p.assigns; streams = p.streams }; components = with_owner c.number q.0 p.components; next = p.next; rest = q.1 })) (λ h. h)
      (λ q. rendered_stays p.view p.join_reference p.topic (record { view = record { assigns = p.assigns; streams = p.streams }; components = with_owner c.number q.0 p.components; next = p.next; rest = q.1 }))

  module _ (s : ProcessState) (inbox : List Waiting) (few : Few inbox) where
    turn_few : (g : ℕ) (p : Page) (frames : PageDiff → List Pushed → List Frame) (r : Res Outcome) → On (λ o. Stays (rest_of g inbox) o.rest) r → Few (after_turn s p inbox frames r).inbox
    turn_few g p frames (Err x) h = few
    turn_few g p frames (Ok o) h = h few

    join_few : (g : ℕ) (h : MessageHead) (r : Route) (q : Res Outcome) → On (λ o. Stays (rest_of g inbox) o.rest) q → Few (after_join w g h inbox r q).inbox
    join_few g h r (Err x) k = few
    join_few g h r (Ok o) k = k few

    on_join : (h : MessageHead) (o : Option Route) → Few (step_join w s inbox h o).inbox
    on_join h None = few
    on_join h (Some r) = join_few (suc s.generation) h r (joined_page w r h.join_reference h.topic (rest_of (suc s.generation) inbox)) (joined_stays r h.join_reference h.topic (rest_of (suc s.generation) inbox))

    on_component : (p : Page) (h : MessageHead) (name : List ℕ) (v : Value) (o : Option Component) → Few (step_component w s p inbox h name v o).inbox
    on_component p h name v None = few
    on_component p h name v (Some c) =
        let es = w.views.handle_event (of_module c.module_name) name v c.assigns in
        turn_few s.generation p (reply_diff h) (component_turn w p c es (rest_of s.generation inbox)) (component_stays p c es (rest_of s.generation inbox))

    on_event : (p : Page) (h : MessageHead) (name : List ℕ) (v : Value) (n : Option ℕ) → Few (step_event w s p inbox h name v n).inbox
    on_event p h name v None =
        let es = w.views.handle_event (of_view p.view) name v p.assigns in
        turn_few s.generation p (reply_diff h) (view_turn w p es (rest_of s.generation inbox)) (view_stays p es (rest_of s.generation inbox))
    on_event p h name v (Some n) = on_component p h name v (component_at n p.components)

    on_patch : (p : Page) (h : MessageHead) (o : Option Route) → Few (step_patch w s p inbox h o).inbox
    on_patch p h None = few
    on_patch p h (Some r) = by_test (r.view == p.view)
      where
        by_test : (b : Bool) → Few (if b then after_turn s p inbox (reply_diff h) (view_turn w p (w.views.handle_params p.view r.params p.assigns) (rest_of s.generation inbox)) else record { state = s; inbox = inbox; frames = no_route h ∷ []; actions = []; crashed = false }).inbox
        by_test true = let es = w.views.handle_params p.view r.params p.assigns in turn_few s.generation p (reply_diff h) (view_turn w p es (rest_of s.generation inbox)) (view_stays p es (rest_of s.generation inbox))
        by_test false = few

    fresh_few : (h : MessageHead) (f : Page → Stepped) → ((p : Page) → Few (f p).inbox) → Few (if_fresh s inbox h f).inbox
    fresh_few h f k = by_page s.page
      where
        by_page : (o : Option Page) → LeavesFew (elim o [ None ↦ record { state = s; inbox = inbox; frames = []; actions = []; crashed = false } | Some p ↦ if is_of p h then f p else record { state = s; inbox = inbox; frames = []; actions = []; crashed = false } ])
        by_page None = few
        by_page (Some p) = by_test (is_of p h)
          where
            by_test : (b : Bool) → Few (if b then f p else record { state = s; inbox = inbox; frames = []; actions = []; crashed = false }).inbox
            by_test true = k p
            by_test false = few

    present_few : (g : ℕ) (f : Page → Stepped) → ((p : Page) → Few (f p).inbox) → Few (if_present s inbox g f).inbox
    present_few g f k = by_page s.page
      where
        by_page : (o : Option Page) → LeavesFew (elim o [ None ↦ record { state = s; inbox = inbox; frames = []; actions = []; crashed = false } | Some p ↦ if g == s.generation then f p else record { state = s; inbox = inbox; frames = []; actions = []; crashed = false } ])
        by_page None = few
        by_page (Some p) = by_test (g == s.generation)
          where
            by_test : (b : Bool) → Few (if b then f p else record { state = s; inbox = inbox; frames = []; actions = []; crashed = false }).inbox
            by_test true = k p
            by_test false = few

    on_message : (m : Message) → Few (step_message w s inbox m).inbox
    on_message (beat h) = few
    on_message (join h url) = on_join h (w.route url)
    on_message (leave h) = fresh_few h _ (λ p. few)
    on_message (event h name v n) = fresh_few h _ (λ p. on_event p h name (value_of w v) n)
    on_message (patch h url) = fresh_few h _ (λ p. on_patch p h (w.route url))
    on_message (will_destroy h) = fresh_few h _ (λ p. few)
    on_message (destroyed h) = fresh_few h _ (λ p. few)

    on_heard : (o : Option Message) → Few (step_heard w s inbox o).inbox
    on_heard None = few
    on_heard (Some m) = on_message m

    on_info : (p : Page) (r : Res Value) → Few (step_info w s inbox p r).inbox
    on_info p r =
        turn_few s.generation p (push_frames p) (then_do r (λ v. view_turn w p (w.views.handle_info p.view v p.assigns) (rest_of s.generation inbox)))
        (on_bind (λ (o : Outcome). Stays (rest_of s.generation inbox) o.rest) r (λ v. view_turn w p (w.views.handle_info p.view v p.assigns) (rest_of s.generation inbox)) (λ v. view_stays p (w.views.handle_info p.view v p.assigns) (rest_of s.generation inbox)))

    pub few_wait : (m : Waiting) → Few (step_waiting w s inbox m).inbox
    few_wait (heard bytes) = on_heard (message_of bytes)
    few_wait (mailed t g bytes) = present_few g _ (λ p. on_info p (mail_value bytes))
    few_wait (sent g v) = present_few g _ (λ p. on_info p (Ok v))
