-- The frames of a lawful journal carry whole trees and lean diffs, and all four clauses hold of it.
use Rattle.std.proofs.Common.{◌≡◌, ℕ, ◌+◌, arith, List, [], ◌∷◌, ◌++◌, Option, Some, None, Bool, true, false, if◌then◌else◌, refl, sym, ap, ◌∙◌, subst}
use Rattle.std.specs.Str.{bytes_eq}
use Rattle.ast_core.specs.Syntax.{Template}
use Rattle.ast_core.specs.Places.{cut, streams_in, Once}
use Rattle.diff_tree.specs.Frame.{Frame, FrameBody, empty, rendered, changed, refusal, no_cids, push, closed, faulted}
use Rattle.doc_model.specs.Bundle.{template_in, root_in}
use Rattle.doc_model.specs.Components.{whole_tree, lean_diff}
use Rattle.doc_model.specs.Process.{World, Page, Outcome}
use Rattle.doc_model.specs.Journal.{Entry, Standing, begin_standing, process_step, after_step, replay_from, frames_of_entry, spelled, written_frames, entry_size, journal_size, Allowed, LeanBody, LeanBodies, LawfulFrom, LeanFrom, SessionHolds}
use Rattle.doc_model.specs.Headline.{EachOnce, BundleLinks, JournalIsLean, LawfulHolds, SessionGoesOn}
use Rattle.doc_model.proofs.StepKinds.{Renders, IsQuiet, AllQuiet, IsPlain, AllPlain, Carries, by_kind}
use Rattle.doc_model.proofs.Journals.{drawn, journal_shows}

module _ (w : World) where
  quiet_lean : (old new : Option Page) (b : FrameBody) → IsQuiet b → LeanBody w old new b
  quiet_lean old new empty q = tt
  quiet_lean old new no_cids q = tt
  quiet_lean old new (refusal reason) q = tt
  quiet_lean old new (rendered t es) q = absurd q
  quiet_lean old new (changed d es) q = absurd q
  quiet_lean old new (push d es) q = absurd q
  quiet_lean old new closed q = tt
  quiet_lean old new (faulted reason) q = tt

  all_quiet_lean : (old new : Option Page) (fs : List Frame) → AllQuiet fs → LeanBodies w old new fs
  all_quiet_lean old new [] q = tt
  all_quiet_lean old new (f ∷ fs) q = (quiet_lean old new f.body q.0, all_quiet_lean old new fs q.1)

  plain_lean : (old new : Option Page) (b : FrameBody) → IsPlain b → LeanBody w old new b
  plain_lean old new empty q = tt
  plain_lean old new no_cids q = tt
  plain_lean old new (refusal reason) q = tt
  plain_lean old new (rendered t es) q = absurd q
  plain_lean old new (changed d es) q = absurd q
  plain_lean old new (push d es) q = absurd q
  plain_lean old new closed q = tt
  plain_lean old new (faulted reason) q = tt

  all_plain_lean : (old new : Option Page) (fs : List Frame) → AllPlain fs → LeanBodies w old new fs
  all_plain_lean old new [] q = tt
  all_plain_lean old new (f ∷ fs) q = (plain_lean old new f.body q.0, all_plain_lean old new fs q.1)

  told_lean : (p q : Page) (b : FrameBody) → Carries (lean_diff p.met q.met) b → LeanBody w (Some p) (Some q) b
  told_lean p q (changed d es) c = c
  told_lean p q (push d es) c = c
  told_lean p q empty c = tt
  told_lean p q no_cids c = tt
  told_lean p q (refusal reason) c = tt
  told_lean p q (rendered t es) c = absurd c
  told_lean p q closed c = tt
  told_lean p q (faulted reason) c = tt

  view_of_join : (v : ℕ) (o : Outcome) → Renders w v o → o.page.view ≡ v
  view_of_join v o r = drawn w v r.join_reference r.topic r.before o (λ p. p.view ≡ v) (λ is x d. refl) r.rendered

  step_lean : (s : Standing) (e : Entry) → LeanBodies w s.state.page (process_step w s e).state.page (process_step w s e).frames
  step_lean s e =
      by_kind w s.state (λ o fs. LeanBodies w s.state.page o fs)
      (λ fs q. all_quiet_lean s.state.page s.state.page fs q)
      (λ fs q n. all_plain_lean s.state.page None fs q)
      (λ m r o d. (ap (λ v. whole_tree (cut (w.template_of v)) o.page.met) (sym (view_of_join r.view o d)), tt))
      (λ p o u d n fs q. all_quiet_lean s.state.page (Some o.page) fs q)
      (λ p o u d f c. (subst (λ x. LeanBody w x (Some o.page) f.body) (sym u) (told_lean p o.page f.body c), tt))
      s.inbox e

  lawful_lean : (s : Standing) (size : ℕ) (es : List Entry) → LawfulFrom w s size es → LeanFrom w s es
  lawful_lean s size [] h = tt
  lawful_lean s size (e ∷ es) h = (((process_step w s e).frames, h.1, step_lean s e), lawful_lean (after_step (process_step w s e)) _ es h.2)

pub journal_is_lean : JournalIsLean
journal_is_lean w es h = lawful_lean w begin_standing 0 es h

pub lawful_holds : LawfulHolds
lawful_holds w es linked h = record { conforms = h; is_replay = refl; shows = journal_shows w es linked; lean = journal_is_lean w es h }

-- one entry more
replay_snoc : (w : World) (s : Standing) (es : List Entry) (e : Entry) → replay_from w s (es ++ e ∷ []) ≡ after_step (process_step w (replay_from w s es) e)
replay_snoc w s [] e = refl
replay_snoc w s (d ∷ es) e = replay_snoc w (after_step (process_step w s d)) es e

lawful_snoc : (w : World) (s : Standing) (size : ℕ) (es : List Entry) (e : Entry) → LawfulFrom w s size es → Allowed (replay_from w s es) (size + journal_size es) e
    → written_frames e ≡ spelled (frames_of_entry w (replay_from w s es) e) → LawfulFrom w s size (es ++ e ∷ [])
lawful_snoc w s size [] e h a f = (subst (λ n. Allowed s n e) (plus_none size) a, f, tt)
  where
    plus_none : (n : ℕ) → n + 0 ≡ n
    plus_none n = omega arith
lawful_snoc w s size (d ∷ es) e h a f =
    (h.0, h.1, lawful_snoc w (after_step (process_step w s d)) (size + entry_size d) es e h.2 (subst (λ n. Allowed (replay_from w s (d ∷ es)) n e) (moved size (entry_size d) (journal_size es)) a) f)
  where
    moved : (a b c : ℕ) → a + (b + c) ≡ (a + b) + c
    moved a b c = omega arith

pub session_goes_on : SessionGoesOn
session_goes_on w es s e linked h a f =
    let a' : Allowed (replay_from w begin_standing es) (journal_size es) e = subst (λ x. Allowed x (journal_size es) e) h.is_replay a in
    let b : Allowed (replay_from w begin_standing es) (0 + journal_size es) e = subst (λ n. Allowed (replay_from w begin_standing es) n e) (none_first (journal_size es)) a' in
    let f' : written_frames e ≡ spelled (frames_of_entry w (replay_from w begin_standing es) e) = subst (λ x. written_frames e ≡ spelled (frames_of_entry w x e)) h.is_replay f in
    let l : LawfulFrom w begin_standing 0 (es ++ e ∷ []) = lawful_snoc w begin_standing 0 es e h.conforms b f' in
    subst (SessionHolds w (es ++ e ∷ [])) (replay_snoc w begin_standing es e ∙ ap (λ x. after_step (process_step w x e)) (sym h.is_replay)) (lawful_holds w (es ++ e ∷ []) linked l)
  where
    none_first : (n : ℕ) → n ≡ 0 + n
    none_first n = omega arith

-- a bundle
template_once : (ts : List Template) (n : List ℕ) → EachOnce ts → Once (streams_in (template_in ts n))
template_once [] n h = tt
template_once (t ∷ ts) n h = by_test (bytes_eq n t.name) (template_once ts n h.1)
  where
    by_test : (b : Bool) → Once (streams_in (template_in ts n)) → Once (streams_in (if b then t.nodes else template_in ts n))
    by_test true r = h.0
    by_test false r = r

pub bundle_links : BundleLinks
bundle_links w l name once e f = record {
  of_view = λ v. subst (λ ns. Once (streams_in ns)) (sym (f v)) (template_once l.templates (name v) once);
  of_module = λ m. subst (λ s. Once (streams_in (s.root m))) (sym e) (template_once l.templates (root_in l.modules m) once);
}
