-- What a client makes of the frames since a join, one after the other.
use Rattle.std.proofs.Common.{◌≡◌, ℕ, List, [], ◌∷◌, ◌++◌, Option, Some, None, false, if◌then◌else◌, refl, ap, ◌∙◌}
use Rattle.diff_tree.specs.Client.{PageTree, PageDiff, merge_diff, judged, opened_tree}
use Rattle.diff_tree.specs.Spelling.{Pushed}
use Rattle.diff_tree.specs.Frame.{Frame, FrameBody, empty, rendered, changed, refusal, no_cids, push, closed, faulted, held_diff, client_takes, client_takes_all}
use Rattle.doc_model.specs.Journal.{begins_page, since_join}
use Rattle.doc_model.specs.Laws.{Gives}
use Rattle.doc_model.proofs.StepKinds.{IsQuiet, AllQuiet, Carries}

abbrev pub Held : Type 0
Held = Option PageTree

pub one_more : (o : Option Held) → elim o [ None ↦ None | Some h ↦ Some h ] ≡ o
one_more None = refl
one_more (Some h) = refl

takes_snoc : (k : ℕ) (h h' : Held) (fs : List Frame) (f : Frame) → client_takes_all k h fs ≡ Some h' → client_takes_all k h (fs ++ f ∷ []) ≡ client_takes k h' f.body
takes_snoc k h h' [] f e = one_more (client_takes k h f.body) ∙ (let q : h ≡ h' = cc in ap (λ x. client_takes k x f.body) q)
takes_snoc k h h' (g ∷ fs) f e = by_held (client_takes k h g.body) e (λ x. takes_snoc k x h' fs f)
  where
    by_held : (o : Option Held) → elim o [ None ↦ None | Some x ↦ client_takes_all k x fs ] ≡ Some h' → ((x : Held) → client_takes_all k x fs ≡ Some h' → client_takes_all k x (fs ++ f ∷ []) ≡ client_takes k h' f.body) → elim o [ None ↦ None | Some x ↦ client_takes_all k x (fs ++ f ∷ []) ] ≡ client_takes k h' f.body
    by_held None e r = cc
    by_held (Some x) e r = r x e

quiet_takes : (k : ℕ) (h : Held) (b : FrameBody) → IsQuiet b → client_takes k h b ≡ Some h
quiet_takes k h empty q = refl
quiet_takes k h no_cids q = refl
quiet_takes k h (refusal reason) q = ap (λ b. if b then Some None else Some h) q
quiet_takes k h (rendered t es) q = absurd q
quiet_takes k h (changed d es) q = absurd q
quiet_takes k h (push d es) q = absurd q
quiet_takes k h closed q = absurd q
quiet_takes k h (faulted reason) q = absurd q

quiet_begins : (b : FrameBody) → IsQuiet b → begins_page b ≡ false
quiet_begins empty q = refl
quiet_begins no_cids q = refl
quiet_begins (refusal reason) q = refl
quiet_begins (rendered t es) q = absurd q
quiet_begins (changed d es) q = absurd q
quiet_begins (push d es) q = absurd q
quiet_begins closed q = absurd q
quiet_begins (faulted reason) q = absurd q

-- quiet frames leave what a client holds
pub quiet_all : (k : ℕ) (h : Held) (so_far fs : List Frame) → AllQuiet fs → client_takes_all k None so_far ≡ Some h → client_takes_all k None (since_join so_far fs) ≡ Some h
quiet_all k h so_far [] q e = e
quiet_all k h so_far (f ∷ fs) q e =
    ap (λ b. client_takes_all k None (since_join (if b then f ∷ [] else so_far ++ f ∷ []) fs)) (quiet_begins f.body q.0)
    ∙ quiet_all k h (so_far ++ f ∷ []) fs q.1 (takes_snoc k None h so_far f e ∙ quiet_takes k h f.body q.0)

-- a frame with a diff
diff_begins : (d : PageDiff) (b : FrameBody) → Carries d b → begins_page b ≡ false
diff_begins d (changed e es) c = refl
diff_begins d (push e es) c = refl
diff_begins d empty c = absurd c
diff_begins d no_cids c = absurd c
diff_begins d (refusal reason) c = absurd c
diff_begins d (rendered t es) c = absurd c
diff_begins d closed c = absurd c
diff_begins d (faulted reason) c = absurd c

diff_takes : (k : ℕ) (h : Held) (d : PageDiff) (b : FrameBody) → Carries d b → client_takes k h b ≡ held_diff k h d
diff_takes k h d (changed e es) c = ap (held_diff k h) c
diff_takes k h d (push e es) c = ap (held_diff k h) c
diff_takes k h d empty c = absurd c
diff_takes k h d no_cids c = absurd c
diff_takes k h d (refusal reason) c = absurd c
diff_takes k h d (rendered t es) c = absurd c
diff_takes k h d closed c = absurd c
diff_takes k h d (faulted reason) c = absurd c

-- a client that holds a page for which the fact holds
abbrev pub Holding : ℕ → (PageTree → Type 0) → List Frame → Type 0
Holding k P fs = (q : PageTree) × (client_takes_all k None fs ≡ Some (Some q)) × P q

held_gives : (P : PageTree → Type 0) (o : Option PageTree) → Gives P o → (q : PageTree) × (elim o [ None ↦ None | Some x ↦ Some (Some x) ] ≡ Some (Some q)) × P q
held_gives P (Some q) h = (q, refl, h)
held_gives P None h = absurd h

pub diff_after : (k : ℕ) (P : PageTree → Type 0) (p : PageTree) (d : PageDiff) (f : Frame) → Carries d f.body → Gives P (merge_diff k p d) → (q : PageTree) × (client_takes k (Some p) f.body ≡ Some (Some q)) × P q
diff_after k P p d f c h = let r = held_gives P (merge_diff k p d) h in (r.0, diff_takes k (Some p) d f.body c ∙ r.1, r.2)

pub diff_held : (k : ℕ) (P : PageTree → Type 0) (p : PageTree) (so_far : List Frame) (d : PageDiff) (f : Frame) → Carries d f.body → client_takes_all k None so_far ≡ Some (Some p) → Gives P (merge_diff k p d)
    → Holding k P (since_join so_far (f ∷ []))
diff_held k P p so_far d f c e h =
    let r = diff_after k P p d f c h in
    (r.0, ap (λ b. client_takes_all k None (if b then f ∷ [] else so_far ++ f ∷ [])) (diff_begins d f.body c) ∙ takes_snoc k None (Some p) so_far f e ∙ r.1, r.2)

-- a frame with a whole tree
pub whole_after : (k : ℕ) (P : PageTree → Type 0) (h : Held) (f : Frame) (t : PageTree) (es : List Pushed) → f.body ≡ rendered t es → Gives P (judged k (opened_tree t)) → (q : PageTree) × (client_takes k h f.body ≡ Some (Some q)) × P q
whole_after k P h f t es e g = let r = held_gives P (judged k (opened_tree t)) g in (r.0, ap (client_takes k h) e ∙ r.1, r.2)

pub whole_held : (k : ℕ) (P : PageTree → Type 0) (so_far : List Frame) (f : Frame) (t : PageTree) (es : List Pushed) → f.body ≡ rendered t es → Gives P (judged k (opened_tree t)) → Holding k P (since_join so_far (f ∷ []))
whole_held k P so_far f t es e h =
    let r = whole_after k P None f t es e h in
    (r.0, ap (λ b. client_takes_all k None (if begins_page b then f ∷ [] else so_far ++ f ∷ [])) e ∙ one_more (client_takes k None f.body) ∙ r.1, r.2)

-- more frames
pub takes_append : (k : ℕ) (h h' : Held) (fs gs : List Frame) → client_takes_all k h fs ≡ Some h' → client_takes_all k h (fs ++ gs) ≡ client_takes_all k h' gs
takes_append k h h' [] gs e = let q : h ≡ h' = cc in ap (λ x. client_takes_all k x gs) q
takes_append k h h' (f ∷ fs) gs e = by_held (client_takes k h f.body) e (λ x. takes_append k x h' fs gs)
  where
    by_held : (o : Option Held) → elim o [ None ↦ None | Some x ↦ client_takes_all k x fs ] ≡ Some h' → ((x : Held) → client_takes_all k x fs ≡ Some h' → client_takes_all k x (fs ++ gs) ≡ client_takes_all k h' gs)
        → elim o [ None ↦ None | Some x ↦ client_takes_all k x (fs ++ gs) ] ≡ client_takes_all k h' gs
    by_held None e r = cc
    by_held (Some x) e r = r x e

pub quiet_from : (k : ℕ) (h : Held) (fs : List Frame) → AllQuiet fs → client_takes_all k h fs ≡ Some h
quiet_from k h [] q = refl
quiet_from k h (f ∷ fs) q = ap (λ o. elim o [ None ↦ None | Some x ↦ client_takes_all k x fs ]) (quiet_takes k h f.body q.0) ∙ quiet_from k h fs q.1

-- frames in two parts
pub since_append : (so_far fs gs : List Frame) → since_join so_far (fs ++ gs) ≡ since_join (since_join so_far fs) gs
since_append so_far [] gs = refl
since_append so_far (f ∷ fs) gs = since_append (if begins_page f.body then f ∷ [] else so_far ++ f ∷ []) fs gs
