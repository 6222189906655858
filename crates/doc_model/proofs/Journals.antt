-- The headline: the frames of a journal since the latest join merge and show the page.
use Rattle.std.proofs.Common.{◌≡◌, ℕ, ◌+◌, ◌≤◌, arith, List, [], ◌∷◌, Ok, Err, Option, Some, None, true, refl, sym, ap, ◌∙◌, subst, true≢false, ◌⊎◌, inl, inr, append-nil, append_assoc, ◌++◌}
use Rattle.ast_core.specs.Syntax.{Nodes}
use Rattle.ast_core.specs.Places.{cut}
use Rattle.diff_tree.specs.Container.{is_none}
use Rattle.diff_tree.specs.Tree.{Change}
use Rattle.diff_tree.specs.Client.{PageTree, PageDiff, judged, merge_diff, opened_tree, show_tree}
use Rattle.diff_tree.specs.Spelling.{Pushed}
use Rattle.diff_tree.specs.Frame.{Frame, rendered, client_takes, client_takes_all}
use Rattle.doc_model.specs.Environment.{Stream, Component, Env}
use Rattle.doc_model.specs.Evaluation.{Res, on_res}
use Rattle.doc_model.specs.Trace.{Items}
use Rattle.doc_model.specs.Tracing.{trace}
use Rattle.doc_model.specs.FullRendering.{full_render}
use Rattle.doc_model.specs.Lean.{is_empty}
use Rattle.doc_model.specs.Left.{Based}
use Rattle.doc_model.specs.Once.{left, left_to}
use Rattle.doc_model.specs.Components.{parts, Distinct, depth, HeldTree, whole_tree, lean_diff}
use Rattle.doc_model.specs.Laws.{Gives}
use Rattle.doc_model.specs.Table.{IsTable, SettledAs}
use Rattle.doc_model.specs.Walk.{Walk, in_state, render_state}
use Rattle.doc_model.specs.Run.{Turn, settled_stream, settled_components}
use Rattle.doc_model.specs.Effects.{Rest, views_of}
use Rattle.doc_model.specs.Process.{World, Page, Turning, Outcome, scope_of_view, levels, rendered_page, no_difference, reply_to}
use Rattle.doc_model.specs.Journal.{Entry, Standing, begin_standing, process_step, after_step, replay_from, frames_from, since_join, frames_since_join, ClientShows, PageShown}
use Rattle.doc_model.specs.Headline.{IsLinked, ClientFollows, AllFramesShow, JournalShows}
use Rattle.doc_model.proofs.Results.{On}
use Rattle.doc_model.proofs.Sames.{both_true}
use Rattle.doc_model.proofs.Depths.{trace_depth}
use Rattle.doc_model.proofs.Passes.{one_pass}
use Rattle.doc_model.proofs.Pages.{good_of, goods, page_shows}
use Rattle.doc_model.proofs.Onces.{left_behind}
use Rattle.doc_model.proofs.Tables.{next_follows}
use Rattle.doc_model.proofs.Judged.{merge_lean_whole, taken_whole}
use Rattle.doc_model.proofs.Settles.{settled_shows}
use Rattle.doc_model.proofs.Runs.{traced_of, begins}
use Rattle.doc_model.proofs.Handlers.{honest}
use Rattle.doc_model.proofs.StepKinds.{Alike, Rerenders, Renders, AllQuiet, Empties, Carries, by_kind}
use Rattle.doc_model.proofs.Takes.{Held, Holding, one_more, quiet_all, quiet_from, diff_after, diff_held, whole_after, whole_held, since_append, takes_append}
use Rattle.doc_model.proofs.Unchanged.{unchanged_whole}

-- a page as its last rendering left it, and a tree that is whole for it
pub record Fine (w : World) (k : ℕ) (p : Page) (q : PageTree) : Type 0 where
  -- what was rendered: the view's streams before their batches were applied, and the components after the walk
  pub streams : List ℕ → Stream
  pub walked : List Component
  pub traced : trace w.site k (scope_of_view p.assigns streams walked) (w.template_of p.view) ≡ Ok p.met
  pub table : IsTable p.next walked
  pub apart : Distinct (parts p.met)
  pub streams_are : p.streams ≡ settled_stream (left w.site.mark p.met)
  pub components_are : p.components ≡ settled_components (left_to w.site.mark p.met) walked
  pub holds : HeldTree w.site.mark (cut (w.template_of p.view)) p.met q

-- a page after a rendering
abbrev pub page_of : World → ℕ → Option (List ℕ) → List ℕ → Turning → Items → Walk Rest → Page
page_of w v j t s is r = record {
  view = v;
  assigns = s.view.assigns;
  streams = settled_stream (left w.site.mark is);
  components = settled_components (left_to w.site.mark is) r.components;
  next = r.next;
  met = is;
  join_reference = j;
  topic = t;
}

abbrev pub walk_before : Turning → Walk Rest
walk_before s = record { components = s.components; met = []; next = s.next; rest = s.rest }

abbrev pub scope_before : Turning → Env
scope_before s = scope_of_view s.view.assigns s.view.streams s.components

gives_weaker : {A : Type 0} (P Q : A → Type 0) (o : Option A) → ((x : A) → P x → Q x) → Gives P o → Gives Q o
gives_weaker P Q (Some x) h k = h x k
gives_weaker P Q None h k = absurd k

some_given : {A : Type 0} (P : A → Type 0) (o : Option A) → Gives P o → (x : A) × P x
some_given P (Some x) h = (x, h)
some_given P None h = absurd h

settled_alike : (f : _) (cs ds : List Component) → Alike (settled_components f cs) ds → SettledAs f cs ds
settled_alike f [] [] h = tt
settled_alike f [] (d ∷ ds) h = absurd h
settled_alike f (c ∷ cs) [] h = absurd h
settled_alike f (c ∷ cs) (d ∷ ds) h = (h.0, h.1, h.2, λ x. h.3 x ∙ ap (λ n. f n x) h.0, settled_alike f cs ds h.4)

shallow : (w : World) (k : ℕ) (env : Env) (ns : Nodes) (is : Items) → trace w.site k env ns ≡ Ok is → depth is ≤ k
shallow w k env ns is e = subst (On (λ is. depth is ≤ k)) e (trace_depth w.site k env ns)

both_shallow : (a b k : ℕ) → a ≤ k → b ≤ k → a + b ≤ k + k
both_shallow a b k h g = omega arith

one_shallow : (a k : ℕ) → a ≤ k → a ≤ k + k
one_shallow a k h = omega arith

-- one rendering, and what it gives
abbrev pub Draws : World → ℕ → ℕ → Turning → Items → Walk Rest → Type 0
Draws w k v s is r = render_state (views_of w.views) w.site k (scope_before s) (w.template_of v) (walk_before s) ≡ Ok (is, r)

module _ (w : World) (linked : IsLinked w) (k : ℕ) where
  traced_after : (v : ℕ) (s : Turning) (is : Items) (r : Walk Rest) → Draws w k v s is r → trace w.site k (scope_of_view s.view.assigns s.view.streams r.components) (w.template_of v) ≡ Ok is
  traced_after v s is r e =
      traced_of is r (render_state (views_of w.views) w.site k (scope_before s) (w.template_of v) (walk_before s)) (λ x. trace w.site k (in_state x.components (scope_before s)) (w.template_of v)) e
      (one_pass Rest (views_of w.views) w.site k (scope_before s) (w.template_of v) (walk_before s))

  -- a first rendering
  first_fine : (v : ℕ) (j : Option (List ℕ)) (t : List ℕ) (s : Turning) (is : Items) (r : Walk Rest) → Draws w k v s is r → s.components ≡ [] → ((x : List ℕ) → (s.view.streams x).shown ≡ [])
      → Gives (Fine w k (page_of w v j t s is r)) (judged (k + k) (opened_tree (whole_tree (cut (w.template_of v)) is)))
  first_fine v j t s is r e c h =
      let u : Turn Rest = record { env = scope_before s; before = walk_before s; items = is; after = r } in
      let b = begins (views_of w.views) w.site k (w.template_of v) (honest w.views) (linked.of_view v) linked.of_module u (e, c, h) in
      let d = one_shallow (depth is) k (shallow w k (scope_of_view s.view.assigns s.view.streams r.components) (w.template_of v) is b.0.0.0) in
      gives_weaker (HeldTree w.site.mark (cut (w.template_of v)) is) (Fine w k (page_of w v j t s is r)) (judged (k + k) (opened_tree (whole_tree (cut (w.template_of v)) is)))
      (λ q x. record { streams = s.view.streams; walked = r.components; traced = b.0.0.0; table = b.1; apart = b.0.0.1; streams_are = refl; components_are = refl; holds = x })
      (taken_whole w.site k (scope_of_view s.view.assigns s.view.streams r.components) (w.template_of v) is b.0.0.0 b.0.0.1 b.0.1 b.0.2 (k + k) d)

  -- a rendering that follows
  next_fine : (p : Page) (q : PageTree) (s : Turning) (is : Items) (r : Walk Rest) → Fine w k p q → Draws w k p.view s is r → s.next ≡ p.next → ((x : List ℕ) → (s.view.streams x).shown ≡ (p.streams x).shown) → Alike p.components s.components
      → Gives (Fine w k (page_of w p.view p.join_reference p.topic s is r)) (merge_diff (k + k) q (lean_diff p.met is))
  next_fine p q s is r fine e n v c =
      let ns = w.template_of p.view in
      let a = scope_of_view p.assigns fine.streams fine.walked in
      let root = left w.site.mark p.met in
      let f = left_to w.site.mark p.met in
      let table : IsTable s.next fine.walked = subst (λ m. IsTable m fine.walked) (sym n) fine.table in
      let lb = left_behind w.site k p.next a ns p.met fine.traced fine.table fine.apart (linked.of_view p.view) linked.of_module in
      let settled : SettledAs f fine.walked s.components = settled_alike f fine.walked s.components (subst (λ cs. Alike cs s.components) fine.components_are c) in
      let based : Based root (Some s.view.streams) = λ x. v x ∙ ap (λ g. (g x).shown) fine.streams_are in
      let follows = next_follows Rest (views_of w.views) w.site k k a (scope_before s) ns p.met is root f (walk_before s) r (honest w.views) table fine.traced lb settled based e in
      let traced = traced_after p.view s is r e in
      let d = both_shallow (depth p.met) (depth is) k (shallow w k a ns p.met fine.traced) (shallow w k (scope_of_view s.view.assigns s.view.streams r.components) ns is traced) in
      gives_weaker (HeldTree w.site.mark (cut ns) is) (Fine w k (page_of w p.view p.join_reference p.topic s is r)) (merge_diff (k + k) q (lean_diff p.met is))
      (λ q' x. record { streams = s.view.streams; walked = r.components; traced = traced; table = follows.2; apart = follows.1; streams_are = refl; components_are = refl; holds = x })
      (merge_lean_whole w.site k k a (in_state r.components (scope_before s)) ns p.met is q fine.traced traced follows.0 follows.1 fine.holds (k + k) d)

  -- a diff that holds nothing
  silent_fine : (p p' : Page) (q : PageTree) → p'.view ≡ p.view → Fine w k p q → Gives (Fine w k p') (merge_diff (k + k) q (lean_diff p.met p'.met)) → is_empty (lean_diff p.met p'.met).root ≡ true → (lean_diff p.met p'.met).components ≡ [] → Fine w k p' q
  silent_fine p p' q v fine h e f =
      let a = scope_of_view p.assigns fine.streams fine.walked in
      let ns = w.template_of p.view in
      let x = some_given (Fine w k p') (merge_diff (k + k) q (lean_diff p.met p'.met)) h in
      let y : Gives (HeldTree w.site.mark (cut ns) p'.met) (merge_diff (k + k) q (lean_diff p.met p'.met)) =
      gives_weaker (Fine w k p') (HeldTree w.site.mark (cut ns) p'.met) (merge_diff (k + k) q (lean_diff p.met p'.met)) (λ t z. subst (λ m. HeldTree w.site.mark (cut (w.template_of m)) p'.met t) v z.holds) h in
      let z = unchanged_whole w.site.mark (cut ns) p.met p'.met q (lean_diff p.met p'.met) (k + k) (one_shallow (depth p.met) k (shallow w k a ns p.met fine.traced)) (good_of w.site k a ns p.met fine.traced) (goods w.site k a ns p.met fine.traced)
      fine.holds y e f in
      record {
        streams = x.1.streams;
        walked = x.1.walked;
        traced = x.1.traced;
        table = x.1.table;
        apart = x.1.apart;
        streams_are = x.1.streams_are;
        components_are = x.1.components_are;
        holds = subst (λ m. HeldTree w.site.mark (cut (w.template_of m)) p'.met q) (sym v) z;
      }

  -- the page that is shown
  fine_shows : (p : Page) (q : PageTree) → Fine w k p q → full_render w.site k (scope_of_view p.assigns p.streams p.components) (w.template_of p.view) ≡ Ok (show_tree w.site.mark (depth p.met) q)
  fine_shows p q fine =
      let ns = w.template_of p.view in
      let a = scope_of_view p.assigns fine.streams fine.walked in
      ap (λ s. full_render w.site k (scope_of_view p.assigns s p.components) ns) fine.streams_are
      ∙ ap (λ cs. full_render w.site k (scope_of_view p.assigns (settled_stream (left w.site.mark p.met)) cs) ns) fine.components_are
      ∙ settled_shows w.site k p.next a ns p.met fine.traced fine.table fine.apart (linked.of_view p.view) linked.of_module
      ∙ page_shows w.site k a ns p.met q fine.traced fine.holds (depth p.met) (refl_le (depth p.met))
    where
      refl_le : (n : ℕ) → n ≤ n
      refl_le n = omega arith

abbrev outcome : World → ℕ → Option (List ℕ) → List ℕ → Turning → Items × Walk Rest → Outcome
outcome w v j t s x = record { page = page_of w v j t s x.0 x.1; rest = x.1.rest }

-- what a rendering of a process gives
pub drawn : (w : World) (v : ℕ) (j : Option (List ℕ)) (t : List ℕ) (s : Turning) (o : Outcome) (P : Page → Type 0)
    → ((is : Items) (r : Walk Rest) → Draws w levels v s is r → P (page_of w v j t s is r)) → rendered_page w v j t s ≡ Ok o → P o.page
drawn w v j t s o P h e = by_result (render_state (views_of w.views) w.site levels (scope_before s) (w.template_of v) (walk_before s)) refl e
  where
    by_result : (r : Res (Items × Walk Rest)) → render_state (views_of w.views) w.site levels (scope_before s) (w.template_of v) (walk_before s) ≡ r → on_res (outcome w v j t s) r ≡ Ok o → P o.page
    by_result (Ok x) d q = let u : outcome w v j t s x ≡ o = cc in subst P (ap (λ z. z.page) u) (h x.0 x.1 d)
    by_result (Err x) d q = cc

abbrev pub client : ℕ
client = levels + levels

-- a client of the frames so far holds the page that is up
abbrev Stands : World → Option Page → List Frame → Type 0
Stands w None so_far = Unit {0}
Stands w (Some p) so_far = Holding client (Fine w levels p) so_far

no_components : (d : PageDiff) (es : List Pushed) → no_difference d es ≡ true → (is_empty d.root ≡ true) × (d.components ≡ [])
no_components d [] h = let b = both_true (is_empty d.root) (is_none d.components) h in (b.0, none_is d.components b.1)
  where
    none_is : (cs : List (ℕ × Change)) → is_none cs ≡ true → cs ≡ []
    none_is [] e = refl
    none_is (c ∷ cs) e = absurd (true≢false (sym e))
no_components d (e ∷ es) h = absurd (true≢false (sym h))

module _ (w : World) (linked : IsLinked w) where
  first_page : (v : ℕ) (o : Outcome) → Renders w v o → Gives (Fine w levels o.page) (judged client (opened_tree (whole_tree (cut (w.template_of v)) o.page.met)))
  first_page v o r =
      drawn w v r.join_reference r.topic r.before o (λ p. Gives (Fine w levels p) (judged client (opened_tree (whole_tree (cut (w.template_of v)) p.met))))
      (λ is x d. first_fine w linked levels v r.join_reference r.topic r.before is x d r.no_components r.view_shows) r.rendered

  joins : (v : ℕ) (o : Outcome) (so_far : List Frame) (f : Frame) → Renders w v o → f.body ≡ rendered (whole_tree (cut (w.template_of v)) o.page.met) o.rest.pushed → Stands w (Some o.page) (since_join so_far (f ∷ []))
  joins v o so_far f r e = whole_held client (Fine w levels o.page) so_far f (whole_tree (cut (w.template_of v)) o.page.met) o.rest.pushed e (first_page v o r)

  merges : (p : Page) (q : PageTree) (o : Outcome) → Fine w levels p q → Rerenders w p o → Gives (Fine w levels o.page) (merge_diff client q (lean_diff p.met o.page.met))
  merges p q o fine r =
      drawn w p.view p.join_reference p.topic r.before o (λ p'. Gives (Fine w levels p') (merge_diff client q (lean_diff p.met p'.met)))
      (λ is x d. next_fine w linked levels p q r.before is x fine d r.next_is r.view_shows r.alike) r.rendered

  same_view : (p : Page) (o : Outcome) → Rerenders w p o → o.page.view ≡ p.view
  same_view p o r = drawn w p.view p.join_reference p.topic r.before o (λ p'. p'.view ≡ p.view) (λ is x d. refl) r.rendered

  keeps_quiet : (o : Option Page) (so_far fs : List Frame) → AllQuiet fs → Stands w o so_far → Stands w o (since_join so_far fs)
  keeps_quiet None so_far fs q h = tt
  keeps_quiet (Some p) so_far fs q h = (h.0, quiet_all client (Some h.0) so_far fs q h.1, h.2)

  tells : (p : Page) (o : Outcome) (so_far : List Frame) (f : Frame) → Stands w (Some p) so_far → Rerenders w p o → Carries (lean_diff p.met o.page.met) f.body → Stands w (Some o.page) (since_join so_far (f ∷ []))
  tells p o so_far f h r c = diff_held client (Fine w levels o.page) h.0 so_far (lean_diff p.met o.page.met) f c h.1 (merges p h.0 o h.2 r)

  stays_silent : (p : Page) (o : Outcome) (so_far fs : List Frame) → Stands w (Some p) so_far → Rerenders w p o → no_difference (lean_diff p.met o.page.met) o.rest.pushed ≡ true → AllQuiet fs → Stands w (Some o.page) (since_join so_far fs)
  stays_silent p o so_far fs h r n q =
      let e = no_components (lean_diff p.met o.page.met) o.rest.pushed n in
      (h.0, quiet_all client (Some h.0) so_far fs q h.1, silent_fine w linked levels p o.page h.0 (same_view p o r) h.2 (merges p h.0 o h.2 r) e.0 e.1)

  -- one entry
  pub stands_after : (s : Standing) (so_far : List Frame) (e : Entry) → Stands w s.state.page so_far → Stands w (process_step w s e).state.page (since_join so_far (process_step w s e).frames)
  stands_after s so_far e h =
      by_kind w s.state (λ o fs. Stands w o (since_join so_far fs))
      (λ fs q. keeps_quiet s.state.page so_far fs q h)
      (λ fs q n. tt)
      (λ m r o d. joins r.view o so_far (reply_to m (rendered (whole_tree (cut (w.template_of r.view)) o.page.met) o.rest.pushed)) d refl)
      (λ p o u d n fs q. stays_silent p o so_far fs (subst (λ x. Stands w x so_far) u h) d n q)
      (λ p o u d f c. tells p o so_far f (subst (λ x. Stands w x so_far) u h) d c)
      s.inbox e

  -- any entries
  stands_all : (s : Standing) (so_far : List Frame) (es : List Entry) → Stands w s.state.page so_far → Stands w (replay_from w s es).state.page (since_join so_far (frames_from w s es))
  stands_all s so_far [] h = h
  stands_all s so_far (e ∷ es) h =
      subst (Stands w (replay_from w (after_step (process_step w s e)) es).state.page) (sym (since_append so_far (process_step w s e).frames (frames_from w (after_step (process_step w s e)) es)))
      (stands_all (after_step (process_step w s e)) (since_join so_far (process_step w s e).frames) es (stands_after s so_far e h))

  shows : (es : List Entry) (o : Option Page) → Stands w o (frames_since_join w es) → PageShown w es o
  shows es None h = tt
  shows es (Some p) h = (client, subst (ClientShows w p) (sym h.1) (h.2.holds, (depth p.met, fine_shows w linked levels p h.0 h.2)))

pub journal_shows : JournalShows
journal_shows w es linked = shows w linked es (replay_from w begin_standing es).state.page (stands_all w linked begin_standing [] es tt)

-- a client of all frames
abbrev Follows : World → Option Page → List Frame → Type 0
Follows w None fs = client_takes_all client None fs ≡ Some None
Follows w (Some p) fs = Holding client (Fine w levels p) fs

module _ (w : World) (linked : IsLinked w) where
  -- what it holds, in both cases
  held_of : (o : Option Page) (fs : List Frame) → Follows w o fs → (h : Held) × (client_takes_all client None fs ≡ Some h)
  held_of None fs h = (None, h)
  held_of (Some p) fs h = (Some h.0, h.1)

  one_frame : (fs : List Frame) (h : Held) (f : Frame) (P : PageTree → Type 0) → client_takes_all client None fs ≡ Some h → (q : PageTree) × (client_takes client h f.body ≡ Some (Some q)) × P q → Holding client P (fs ++ f ∷ [])
  one_frame fs h f P e r = (r.0, takes_append client None h fs (f ∷ []) e ∙ one_more (client_takes client h f.body) ∙ r.1, r.2)

  stays_quiet : (o : Option Page) (fs gs : List Frame) → AllQuiet gs → Follows w o fs → Follows w o (fs ++ gs)
  stays_quiet None fs gs q h = takes_append client None None fs gs h ∙ quiet_from client None gs q
  stays_quiet (Some p) fs gs q h = (h.0, takes_append client None (Some h.0) fs gs h.1 ∙ quiet_from client (Some h.0) gs q, h.2)

  goes_down : (o : Option Page) (fs gs : List Frame) → ((gs ≡ []) × (o ≡ None)) ⊎ Empties gs → Follows w o fs → Follows w None (fs ++ gs)
  goes_down o fs gs (inl n) h = let x : Follows w None fs = subst (λ y. Follows w y fs) n.1 h in takes_append client None None fs gs x ∙ ap (client_takes_all client None) n.0
  goes_down o fs gs (inr e) h = let x = held_of o fs h in takes_append client None x.0 fs gs x.1 ∙ e client x.0

  begins_page : (v : ℕ) (o : Outcome) (s : Option Page) (fs : List Frame) (f : Frame) → Renders w v o → f.body ≡ rendered (whole_tree (cut (w.template_of v)) o.page.met) o.rest.pushed → Follows w s fs → Follows w (Some o.page) (fs ++ f ∷ [])
  begins_page v o s fs f r e h =
      let x = held_of s fs h in
      one_frame fs x.0 f (Fine w levels o.page) x.1 (whole_after client (Fine w levels o.page) x.0 f (whole_tree (cut (w.template_of v)) o.page.met) o.rest.pushed e (first_page w linked v o r))

  changes_page : (p : Page) (o : Outcome) (fs : List Frame) (f : Frame) → Follows w (Some p) fs → Rerenders w p o → Carries (lean_diff p.met o.page.met) f.body → Follows w (Some o.page) (fs ++ f ∷ [])
  changes_page p o fs f h r c = one_frame fs (Some h.0) f (Fine w levels o.page) h.1 (diff_after client (Fine w levels o.page) h.0 (lean_diff p.met o.page.met) f c (merges w linked p h.0 o h.2 r))

  keeps_page : (p : Page) (o : Outcome) (fs gs : List Frame) → Follows w (Some p) fs → Rerenders w p o → no_difference (lean_diff p.met o.page.met) o.rest.pushed ≡ true → AllQuiet gs → Follows w (Some o.page) (fs ++ gs)
  keeps_page p o fs gs h r n q =
      let e = no_components (lean_diff p.met o.page.met) o.rest.pushed n in
      (h.0, takes_append client None (Some h.0) fs gs h.1 ∙ quiet_from client (Some h.0) gs q, silent_fine w linked levels p o.page h.0 (same_view w linked p o r) h.2 (merges w linked p h.0 o h.2 r) e.0 e.1)

  follows_after : (s : Standing) (fs : List Frame) (e : Entry) → Follows w s.state.page fs → Follows w (process_step w s e).state.page (fs ++ (process_step w s e).frames)
  follows_after s fs e h =
      by_kind w s.state (λ o gs. Follows w o (fs ++ gs))
      (λ gs q. stays_quiet s.state.page fs gs q h)
      (λ gs q n. goes_down s.state.page fs gs n h)
      (λ m r o d. begins_page r.view o s.state.page fs (reply_to m (rendered (whole_tree (cut (w.template_of r.view)) o.page.met) o.rest.pushed)) d refl h)
      (λ p o u d n gs q. keeps_page p o fs gs (subst (λ x. Follows w x fs) u h) d n q)
      (λ p o u d f c. changes_page p o fs f (subst (λ x. Follows w x fs) u h) d c)
      s.inbox e

  follows_all : (s : Standing) (fs : List Frame) (es : List Entry) → Follows w s.state.page fs → Follows w (replay_from w s es).state.page (fs ++ frames_from w s es)
  follows_all s fs [] h = subst (Follows w s.state.page) (sym (append-nil fs)) h
  follows_all s fs (e ∷ es) h =
      subst (Follows w (replay_from w (after_step (process_step w s e)) es).state.page) (append_assoc fs (process_step w s e).frames (frames_from w (after_step (process_step w s e)) es))
      (follows_all (after_step (process_step w s e)) (fs ++ (process_step w s e).frames) es (follows_after s fs e h))

  follows_shows : (o : Option Page) (fs : List Frame) → Follows w o fs → ClientFollows w o (client_takes_all client None fs)
  follows_shows None fs h = subst (ClientFollows w None) (sym h) tt
  follows_shows (Some p) fs h = subst (ClientFollows w (Some p)) (sym h.1) (h.2.holds, (depth p.met, fine_shows w linked levels p h.0 h.2))

pub all_frames_show : AllFramesShow
all_frames_show w es linked = (client, follows_shows w linked (replay_from w begin_standing es).state.page (frames_from w begin_standing es) (follows_all w linked begin_standing [] es refl))
