-- What a process of a plain world sends: texts, nodes and lists alone.
use Rattle.std.proofs.Common.{ℕ, List, [], ◌∷◌, ◌++◌, Option, Some, None, sym, subst}
use Rattle.diff_tree.specs.Client.{PageDiff}
use Rattle.diff_tree.specs.Spelling.{Pushed}
use Rattle.diff_tree.specs.Frame.{Frame, FrameBody, empty, rendered, changed, refusal, no_cids, push, closed, faulted}
use Rattle.ast_core.specs.Places.{cut, places_in}
use Rattle.doc_model.specs.Trace.{Items}
use Rattle.doc_model.specs.Components.{whole_tree, lean_diff}
use Rattle.doc_model.specs.Walk.{Walk}
use Rattle.doc_model.specs.Effects.{Rest}
use Rattle.doc_model.specs.Process.{World, Page, Turning, Outcome, levels}
use Rattle.doc_model.specs.Journal.{Entry, Standing, process_step, after_step, frames_from}
use Rattle.doc_model.proofs.Results.{On}
use Rattle.doc_model.proofs.StepKinds.{IsQuiet, AllQuiet, IsPlain, AllPlain, Carries, Renders, Rerenders, by_kind}
use Rattle.doc_model.proofs.Journals.{Draws, walk_before, drawn}
use Rattle.client_merge.specs.Alike.{IsSmallBody, IsSmallDiff}
use Rattle.client_page.specs.Shown.{IsPlainWorld}
use Rattle.client_page.proofs.Few.{count_few}
use Rattle.client_page.proofs.Places.{Meets, around, few_met, Rendered}
use Rattle.client_page.proofs.Drawn.{drawn_plainly}
use Rattle.client_page.proofs.Trees.{FewRight, page_small, diff_small}
use Rattle.client_page.proofs.Fitting.{BodyFits, whole_fits, told_fits}

-- texts, nodes and lists alone, in the form of frames
abbrev pub IsSound : FrameBody → Type 0
IsSound b = IsSmallBody b × BodyFits b

abbrev pub AreSound : List Frame → Type 0
AreSound [] = Unit {0}
AreSound (f ∷ fs) = IsSound f.body × AreSound fs

-- a page that met what fits, if there is one
abbrev pub RightPage : Option Page → Type 0
RightPage None = Unit {0}
RightPage (Some p) = FewRight p.met

sound_append : (fs gs : List Frame) → AreSound fs → AreSound gs → AreSound (fs ++ gs)
sound_append [] gs h g = g
sound_append (f ∷ fs) gs h g = (h.0, sound_append fs gs h.1 g)

quiet_sound : (b : FrameBody) → IsQuiet b → IsSound b
quiet_sound empty q = (tt, tt)
quiet_sound no_cids q = (tt, tt)
quiet_sound (refusal reason) q = (tt, tt)
quiet_sound (rendered t es) q = absurd q
quiet_sound (changed d es) q = absurd q
quiet_sound (push d es) q = absurd q
quiet_sound closed q = (tt, tt)
quiet_sound (faulted reason) q = (tt, tt)

all_quiet_sound : (fs : List Frame) → AllQuiet fs → AreSound fs
all_quiet_sound [] q = tt
all_quiet_sound (f ∷ fs) q = (quiet_sound f.body q.0, all_quiet_sound fs q.1)

plain_sound : (b : FrameBody) → IsPlain b → IsSound b
plain_sound empty q = (tt, tt)
plain_sound no_cids q = (tt, tt)
plain_sound (refusal reason) q = (tt, tt)
plain_sound (rendered t es) q = absurd q
plain_sound (changed d es) q = absurd q
plain_sound (push d es) q = absurd q
plain_sound closed q = (tt, tt)
plain_sound (faulted reason) q = (tt, tt)

all_plain_sound : (fs : List Frame) → AllPlain fs → AreSound fs
all_plain_sound [] q = tt
all_plain_sound (f ∷ fs) q = (plain_sound f.body q.0, all_plain_sound fs q.1)

told_small : (d : PageDiff) (b : FrameBody) → IsSmallDiff d → Carries d b → IsSmallBody b
told_small d (changed e es) h c = subst IsSmallDiff (sym c) h
told_small d (push e es) h c = subst IsSmallDiff (sym c) h
told_small d empty h c = absurd c
told_small d no_cids h c = absurd c
told_small d (refusal reason) h c = absurd c
told_small d (rendered t es) h c = absurd c
told_small d closed h c = absurd c
told_small d (faulted reason) h c = absurd c

module _ (w : World) (plain : IsPlainWorld w) where
  met_right : (v : ℕ) (s : Turning) (is : Items) (r : Walk Rest) → Draws w levels v s is r → Meets (places_in (w.template_of v)) is
  met_right v s is r d =
      let these : Rendered (w.template_of v) (walk_before s) (is, r) = subst (On (Rendered (w.template_of v) (walk_before s))) d (drawn_plainly w plain v s) in
      these.0

  few_right : (v : ℕ) (is : Items) → Meets (places_in (w.template_of v)) is → FewRight is
  few_right v is h = (h.0, few_met (places_in (w.template_of v)) is (count_few (w.template_of v) (plain.few v)).0 h)

  first_right : (v : ℕ) (o : Outcome) → Renders w v o → Meets (places_in (w.template_of v)) o.page.met
  first_right v o r = drawn w v r.join_reference r.topic r.before o (λ p. Meets (places_in (w.template_of v)) p.met) (λ is x d. met_right v r.before is x d) r.rendered

  next_right : (p : Page) (o : Outcome) → Rerenders w p o → FewRight o.page.met
  next_right p o r = drawn w p.view p.join_reference p.topic r.before o (λ q. FewRight q.met) (λ is x d. few_right p.view is (met_right p.view r.before is x d)) r.rendered

  joined_sound : (v : ℕ) (o : Outcome) (es : List Pushed) → Renders w v o → FewRight o.page.met × IsSound (rendered (whole_tree (cut (w.template_of v)) o.page.met) es)
  joined_sound v o es r =
      let t = first_right v o r in
      let f = few_right v o.page.met t in
      (f, (page_small (cut (w.template_of v)) o.page.met f, whole_fits (cut (w.template_of v)) o.page.met es f (around (w.template_of v) o.page.met t)))

  told_sound : (p : Page) (o : Outcome) (b : FrameBody) → FewRight p.met → Rerenders w p o → Carries (lean_diff p.met o.page.met) b → IsSound b
  told_sound p o b h r c =
      let f = next_right p o r in
      (told_small (lean_diff p.met o.page.met) b (diff_small p.met o.page.met h f) c, told_fits p.met o.page.met b h f c)

  step_sound : (s : Standing) (e : Entry) → RightPage s.state.page → RightPage (process_step w s e).state.page × AreSound (process_step w s e).frames
  step_sound s e h =
      by_kind w s.state (λ o fs. RightPage o × AreSound fs)
      (λ fs q. (h, all_quiet_sound fs q))
      (λ fs q n. (tt, all_plain_sound fs q))
      (λ m r o d. let j = joined_sound r.view o o.rest.pushed d in (j.0, (j.1, tt)))
      (λ p o u d n fs q. (next_right p o d, all_quiet_sound fs q))
      (λ p o u d f c. (next_right p o d, (told_sound p o f.body (subst RightPage u h) d c, tt)))
      s.inbox e

  pub frames_sound : (s : Standing) (es : List Entry) → RightPage s.state.page → AreSound (frames_from w s es)
  frames_sound s [] h = tt
  frames_sound s (e ∷ es) h =
      let x = step_sound s e h in
      sound_append (process_step w s e).frames (frames_from w (after_step (process_step w s e)) es) x.1 (frames_sound (after_step (process_step w s e)) es x.0)
