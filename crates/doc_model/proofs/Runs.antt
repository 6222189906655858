-- For every list of renderings since a join the merged frames show the page.
use Rattle.std.proofs.Common.{◌+◌, arith, ◌≡◌, ◌⊎◌, inl, inr, ℕ, ◌≤◌, List, [], ◌∷◌, Ok, Err, Option, Some, None, refl, sym, ap, ◌∙◌, subst}
use Rattle.ast_core.specs.Syntax.{Nodes}
use Rattle.doc_model.specs.Environment.{Stream, Component}
use Rattle.doc_model.specs.Evaluation.{Res, then_do, on_res}
use Rattle.doc_model.specs.Trace.{Items}
use Rattle.doc_model.specs.Holding.{Fresh}
use Rattle.doc_model.specs.Left.{Based, Unused}
use Rattle.ast_core.specs.Places.{Once, streams_in, cut}
use Rattle.doc_model.specs.Once.{left, left_to}
use Rattle.doc_model.specs.Laws.{Gives}
use Rattle.doc_model.specs.Components.{HeldTree, depth, Part, parts, Distinct, Lives}
use Rattle.diff_tree.specs.Client.{show_tree}
use Rattle.doc_model.specs.Scopes.{Site}
use Rattle.doc_model.specs.FullRendering.{full_render}
use Rattle.doc_model.specs.Tracing.{trace}
use Rattle.doc_model.specs.Session.{Begins, GoesOn, AtMost, latest, taken}
use Rattle.doc_model.specs.Table.{IsTable, WasThere, IsNew, Honest}
use Rattle.doc_model.specs.Walk.{Views, Walk, in_state, render_state}
use Rattle.doc_model.specs.Run.{Turn, Renders, Joins, Turns, rendering_of, renderings_of, SessionShows}
use Rattle.doc_model.proofs.Results.{On}
use Rattle.doc_model.proofs.Facts.{empty, trace_fresh, unused_empty}
use Rattle.doc_model.proofs.Origins.{Origin, scope_of, all_weaker}
use Rattle.doc_model.proofs.Pages.{origins}
use Rattle.doc_model.proofs.Onces.{left_behind}
use Rattle.doc_model.proofs.Passes.{one_pass}
use Rattle.doc_model.proofs.Sessions.{frames_show}
use Rattle.doc_model.proofs.Tables.{sound_after, next_follows}

pub traced_of : {X : Type 0} (is : Items) (t : Walk X) (r : Res (Items × Walk X)) (f : Walk X → Res Items) → r ≡ Ok (is, t) → r ≡ then_do (on_res {B = Walk X} (λ p. p.1) r) (λ s. on_res {B = Items × Walk X} (λ x. (x, s)) (f s)) → f t ≡ Ok is
traced_of {X = X} is t r f e h =
    let k : Ok (is, t) ≡ on_res {B = Items × Walk X} (λ x. (x, t)) (f t) = sym e ∙ h ∙ ap (λ q. then_do (on_res {B = Walk X} (λ p. p.1) q) (λ s. on_res {B = Items × Walk X} (λ x. (x, s)) (f s))) e in
    by_result (f t) k
  where
    by_result : (q : Res Items) → Ok (is, t) ≡ on_res {B = Items × Walk X} (λ x. (x, t)) q → q ≡ Ok is
    by_result (Ok x) k =
        let u : Items × Walk X = (is, t) in
        let v : Items × Walk X = (x, t) in
        let w : u ≡ v = cc in
        ap Ok (sym (ap (λ (z : Items × Walk X). z.0) w))
    by_result (Err x) k = cc

module _ {X : Type 0} (views : Views X) (site : Site) (k : ℕ) (ns : Nodes) (honest : Honest views) (once : Once (streams_in ns)) (once_root : (m : List ℕ) → Once (streams_in (site.root m))) where
  traced : (t : Turn X) → Renders views site k ns t → trace site k (in_state t.after.components t.env) ns ≡ Ok t.items
  traced t r = traced_of t.items t.after (render_state views site k t.env ns t.before) (λ s. trace site k (in_state s.components t.env) ns) r (one_pass X views site k t.env ns t.before)

  go : (t : Turn X) (ts : List (Turn X)) → Renders views site k ns t → Distinct (parts t.items) → IsTable t.after.next t.after.components → Turns views site k ns t ts → GoesOn site ns (rendering_of k t) (renderings_of k ts)
  go t [] r d table h = tt
  go t (u ∷ us) r d table h =
      let e = traced t r in
      let lb = left_behind site k t.after.next (in_state t.after.components t.env) ns t.items e table d once once_root in
      let tb : IsTable u.before.next t.after.components = subst (λ n. IsTable n t.after.components) (sym h.1) table in
      let f = next_follows X views site k k (in_state t.after.components t.env) u.env ns t.items u.items (left site.mark t.items) (left_to site.mark t.items) u.before u.after honest tb e lb h.2 h.3 h.0 in
      ((traced u h.0, f.1), f.0, go u us h.0 f.1 f.2 h.4)

  pub begins : (t : Turn X) → Joins views site k ns t → Begins site ns (rendering_of k t) × IsTable t.after.next t.after.components
  begins t j =
      let empty_table : IsTable t.before.next t.before.components = subst (IsTable t.before.next) (sym j.1) tt in
      let s = sound_after views site k t.env ns t.items t.before t.after honest empty_table j.0 in
      let e = traced t j.0 in (
        (
          (e, s.0),
          fresh_root e,
          all_weaker (Origin site t.after.components) (λ p. Fresh p.items) (parts t.items) (λ p o. fresh_part p o (s.2 o.component o.lives)) (origins site k (in_state t.after.components t.env) ns t.items e),
        ),
        s.1,
      )
    where
      fresh_root : trace site k (in_state t.after.components t.env) ns ≡ Ok t.items → Fresh t.items
      fresh_root e =
          let x : Unused empty ns → Fresh t.items = subst (On (λ is. Unused empty ns → Fresh is)) e (trace_fresh site k empty (in_state t.after.components t.env) ns (based t.env.streams j.2)) in
          x (unused_empty ns)
        where
          based : (o : Option (List ℕ → Stream)) → Based (λ s. []) o → Based empty o
          based None b = tt
          based (Some g) b = b

      lives_none : (c : Component) → Lives c t.before.components → ⊥
      lives_none c l = subst (Lives c) j.1 l

      fresh_part : (p : Part) (o : Origin site t.after.components p) → WasThere t.before.components o.component ⊎ IsNew t.before.next t.before.components o.component → Fresh p.items
      fresh_part p o (inl w) = absurd (lives_none w.0 w.1)
      fresh_part p o (inr w) =
          let d = o.component in
          let x : Unused empty (site.root d.module_name) → Fresh p.items =
          subst (On (λ is. Unused empty (site.root d.module_name) → Fresh is)) o.rendered (trace_fresh site o.level empty (scope_of t.after.components d) (site.root d.module_name) w.2) in
          x (unused_empty (site.root d.module_name))

latest_level : {X : Type 0} (k : ℕ) (t : Turn X) (ts : List (Turn X)) → (latest (rendering_of k t) (renderings_of k ts)).level ≡ k
latest_level k t [] = refl
latest_level k t (u ∷ us) = latest_level k u us

refl_le : (k : ℕ) → k ≤ k
refl_le k = omega arith

at_most : {X : Type 0} (k : ℕ) (t : Turn X) (ts : List (Turn X)) → AtMost k (rendering_of k t) (renderings_of k ts)
at_most k t [] = refl_le k
at_most k t (u ∷ us) = (refl_le k, at_most k u us)

pub session_shows : (X : Type 0) → SessionShows X
session_shows X views site k ns t ts honest once once_root j h =
    let b = begins views site k ns honest once once_root t j in
    let r = latest (rendering_of k t) (renderings_of k ts) in
    subst (λ l. Gives (λ p. HeldTree site.mark (cut ns) r.items p × ((n : ℕ) → depth r.items ≤ n → full_render site l r.env ns ≡ Ok (show_tree site.mark n p))) (taken (k + k) ns (rendering_of k t) (renderings_of k ts)))
    (latest_level k t ts)
    (frames_show site ns k (rendering_of k t) (renderings_of k ts) b.0 (go views site k ns honest once once_root t ts j.0 b.0.0.1 b.1 h) (at_most k t ts))
