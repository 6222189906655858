use Rattle.std.proofs.Common.{◌≡◌, List, ℕ, [], ◌∷◌, ◌++◌, length, arith, refl, sym, ap, ◌∙◌, rules, append_assoc}
use Rattle.std.specs.Vec.Iter.{into_iter_items}
use Rattle.std.proofs.lemmas.List.{append-nil}
use Rattle.process_core.proofs.frames.followed_by.Goals as goal

pub later-init : goal.later-init
later-init c =
    let given : into_iter_items c.into_iter-frame-iterator.result ≡ c.args.later = search rules in
    (ap (λ (l : List (List ℕ)). c.args.frames ++ l) given, search rules)

pub later-preserved : goal.later-preserved
later-preserved c =
    let at = c.later in
    let left = into_iter_items c.next.new.self in
    let steps : into_iter_items at.frame-iterator ≡ c.in-Some.frame ∷ left = c.in-Some.ensures.steps.0 in
    let was = at.invariant.1 in
    let gone = c.in-Some.ensures.steps.1 in
    let short = ap length steps in (
      ap (λ (l : List (List ℕ)). l ++ left) c.in_ok-push.ensures.ok ∙ append_assoc at.frames (c.in-Some.frame ∷ []) left
          ∙ ap (λ (l : List (List ℕ)). at.frames ++ l) (sym steps) ∙ at.invariant.0,
      omega arith,
    )

none_left : {A : Type 0} (xs : List A) → length xs ≡ 0 → xs ≡ []
none_left [] h = refl
none_left (x ∷ xs) h = absurd (omega (arith, h))

pub returns : goal.returns
returns c =
    let at = c.later in
    let none : into_iter_items at.frame-iterator ≡ [] = none_left (into_iter_items at.frame-iterator) (sym at.invariant.1 ∙ c.in-None.ensures.steps.0) in
    sym (append-nil at.frames) ∙ ap (λ (l : List (List ℕ)). at.frames ++ l) (sym none) ∙ at.invariant.0
