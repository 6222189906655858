-- The number of levels that a merge goes through does not matter where it is enough.
use Rattle.std.proofs.Common.{◌≡◌, ◌⊎◌, inl, inr, ℕ, zero, suc, ◌≤◌, arith, List, [], ◌∷◌, Option, Some, None, Bool, true, false, ◌&&◌, if◌then◌else◌, refl, ap, ◌∙◌}
use Rattle.diff_tree.specs.Client.{PageTree, PageDiff, among, numbers_in, closed, only_among, dropped, judged, merge_parts, merge_diff, and_then, opened_tree}
use Rattle.diff_tree.specs.Frame as fr
use Rattle.diff_tree.specs.Frame.{Frame, FrameBody, held_diff, client_takes, client_takes_all}
use Rattle.diff_tree.specs.Laws.{MergeIgnoresLevels, ClientIgnoresLevels}
use Rattle.diff_tree.proofs.Among.{both_true}
use Rattle.diff_tree.proofs.Closed.{closed_upto, reached_same}

abbrev only : PageTree → List ℕ → PageTree
only p live = record { root = p.root; numbers = only_among live p.numbers; component = λ n. if among n live then p.component n else None }

judged_upto : (k l : ℕ) (p q : PageTree) → k ≤ l → judged k p ≡ Some q → judged l p ≡ Some q
judged_upto k l p q h e = by_test (closed k p.component (numbers_in p.root) && closed k p.component p.numbers) refl e
  where
    by_test : (b : Bool) → (closed k p.component (numbers_in p.root) && closed k p.component p.numbers) ≡ b → (if b then Some (dropped k p) else None) ≡ Some q → judged l p ≡ Some q
    by_test true t r =
        let b = both_true (closed k p.component (numbers_in p.root)) (closed k p.component p.numbers) t in
        ap (λ x. if x && closed l p.component p.numbers then Some (dropped l p) else None) (closed_upto k l p.component (numbers_in p.root) h b.0)
        ∙ ap (λ x. if x then Some (dropped l p) else None) (closed_upto k l p.component p.numbers h b.1)
        ∙ ap (λ live. Some (only p live)) (reached_same k l p.component (numbers_in p.root) h b.0) ∙ r
    by_test false t r = cc

merged_upto : (k l : ℕ) (p q : PageTree) (d : PageDiff) → k ≤ l → merge_diff k p d ≡ Some q → merge_diff l p d ≡ Some q
merged_upto k l p q d h e = by_parts (merge_parts p d) e
  where
    by_parts : (o : Option PageTree) → and_then o (judged k) ≡ Some q → and_then o (judged l) ≡ Some q
    by_parts None x = x
    by_parts (Some m) x = judged_upto k l m q h x

either : (k l : ℕ) → (k ≤ l) ⊎ (l ≤ k)
either zero l = inl (omega arith)
either (suc k) zero = inr (omega arith)
either (suc k) (suc l) = by_less (either k l)
  where
    by_less : (k ≤ l) ⊎ (l ≤ k) → (suc k ≤ suc l) ⊎ (suc l ≤ suc k)
    by_less (inl h) = inl (omega arith)
    by_less (inr h) = inr (omega arith)

pub merge_ignores_levels : MergeIgnoresLevels
merge_ignores_levels k l p q d e = (λ h. merged_upto k l p q d h e, λ r f. by_less r f (either k l))
  where
    by_less : (r : PageTree) → merge_diff l p d ≡ Some r → (k ≤ l) ⊎ (l ≤ k) → r ≡ q
    by_less r f (inl h) = let g = merged_upto k l p q d h e in cc
    by_less r f (inr h) = let g = merged_upto l k p r d h f in cc

diff_upto : (k l : ℕ) (h h' : Option PageTree) (d : PageDiff) → k ≤ l → held_diff k h d ≡ Some h' → held_diff l h d ≡ Some h'
diff_upto k l None h' d u e = e
diff_upto k l (Some p) h' d u e = by_merged (merge_diff k p d) refl e
  where
    by_merged : (o : Option PageTree) → merge_diff k p d ≡ o → elim o [ None ↦ None | Some q ↦ Some (Some q) ] ≡ Some h' → held_diff l (Some p) d ≡ Some h'
    by_merged None f x = cc
    by_merged (Some q) f x = ap (λ o. elim o [ None ↦ None | Some y ↦ Some (Some y) ]) (merged_upto k l p q d u f) ∙ x

whole_upto : (k l : ℕ) (h' : Option PageTree) (t : PageTree) → k ≤ l → elim (judged k t) [ None ↦ None | Some q ↦ Some (Some q) ] ≡ Some h' → elim (judged l t) [ None ↦ None | Some q ↦ Some (Some q) ] ≡ Some h'
whole_upto k l h' t u e = by_judged (judged k t) refl e
  where
    by_judged : (o : Option PageTree) → judged k t ≡ o → elim o [ None ↦ None | Some q ↦ Some (Some q) ] ≡ Some h' → elim (judged l t) [ None ↦ None | Some q ↦ Some (Some q) ] ≡ Some h'
    by_judged None f x = cc
    by_judged (Some q) f x = ap (λ o. elim o [ None ↦ None | Some y ↦ Some (Some y) ]) (judged_upto k l t q u f) ∙ x

takes_upto : (k l : ℕ) (h h' : Option PageTree) (b : FrameBody) → k ≤ l → client_takes k h b ≡ Some h' → client_takes l h b ≡ Some h'
takes_upto k l h h' (fr.rendered p es) u e = whole_upto k l h' (opened_tree p) u e
takes_upto k l h h' (fr.changed d es) u e = diff_upto k l h h' d u e
takes_upto k l h h' (fr.push d es) u e = diff_upto k l h h' d u e
takes_upto k l h h' fr.closed u e = e
takes_upto k l h h' (fr.faulted reason) u e = e
takes_upto k l h h' (fr.refusal reason) u e = e
takes_upto k l h h' fr.empty u e = e
takes_upto k l h h' fr.no_cids u e = e

pub client_ignores_levels : ClientIgnoresLevels
client_ignores_levels k l h h' [] u e = e
client_ignores_levels k l h h' (f ∷ fs) u e = by_held (client_takes k h f.body) refl e (λ y x. client_ignores_levels k l y h' fs u x)
  where
    by_held : (o : Option (Option PageTree)) → client_takes k h f.body ≡ o → elim o [ None ↦ None | Some x ↦ client_takes_all k x fs ] ≡ Some h' → ((y : Option PageTree) → client_takes_all k y fs ≡ Some h' → client_takes_all l y fs ≡ Some h')
        → client_takes_all l h (f ∷ fs) ≡ Some h'
    by_held None g x r = cc
    by_held (Some y) g x r = ap (λ o. elim o [ None ↦ None | Some z ↦ client_takes_all l z fs ]) (takes_upto k l h y f.body u g) ∙ r y x
