-- Scopes that are entered and left.
use Rattle.std.proofs.Common.{◌≡◌, ℕ, suc, List, [], ◌∷◌, ◌++◌, length, map, Option, Some, None, refl, sym, ap, ◌∙◌, subst}
use Rattle.text_core.specs.declared.by_key.KeyValue.{KeyValue}
use Rattle.value_core.specs.Value.{Assigns}
use Rattle.value_core.specs.View.{assigns_view}
use Rattle.value_core.specs.declared.value.Value.{Value}
use Rattle.assigns_track.specs.declared.tracked.Tracked.{Tracked}
use Rattle.expr_eval.specs.Variables.{variables_view}
use Rattle.expr_eval.specs.declared.variables.Variables.{Variables}
use Rattle.expr_eval.proofs.Scopes.{entered}
use Rattle.doc_model.specs.Environment.{Env, bind}
use Rattle.diff_render.specs.Scope.{scope_in, scope_of}
use Rattle.diff_render.specs.Tracked.{IsNoted, bound_before, present, scope_now, scope_then, scopes_before}
use Rattle.diff_render.specs.declared.scope.Tracking.{Tracking}

-- a list that ends in one item ends in no other
pub last_same : {A : Type 0} (xs ys : List A) (x y : A) → xs ++ x ∷ [] ≡ ys ++ y ∷ [] → (xs ≡ ys) × (x ≡ y)
last_same [] [] x y h = (refl, let e : x ≡ y = cc in e)
last_same [] (z ∷ []) x y h = cc
last_same [] (z ∷ w ∷ ys) x y h = cc
last_same (z ∷ []) [] x y h = cc
last_same (z ∷ w ∷ xs) [] x y h = cc
last_same (z ∷ xs) (w ∷ ys) x y h =
    let e : z ≡ w = cc in
    let f : xs ++ x ∷ [] ≡ ys ++ y ∷ [] = cc in
    let r = last_same xs ys x y f in
    (let g = r.0 in cc, r.1)

-- variables are known by their scopes
pub same_scopes : (a b : Variables) → a.scopes ≡ b.scopes → a ≡ b
same_scopes a b h = ap (λ ss. record { scopes = ss }) h

pub scope_entered : (as' : List (KeyValue Value)) (outer inner : Variables) (bound : List (KeyValue Value)) → inner.scopes ≡ outer.scopes ++ bound ∷ []
    → scope_in as' inner ≡ bind (assigns_view bound) (scope_in as' outer)
scope_entered as' outer inner bound h = ap (scope_of (assigns_view as')) (ap variables_view h ∙ entered outer.scopes bound)

before_entered : (os : List (Option (List (KeyValue Value)))) (ss : List (List (KeyValue Value))) (o : Option (List (KeyValue Value))) (s : List (KeyValue Value)) → length os ≡ length ss
    → scopes_before (os ++ o ∷ []) (ss ++ s ∷ []) ≡ scopes_before os ss ++ bound_before o s ∷ []
before_entered [] [] o s h = refl
before_entered (p ∷ os) (r ∷ ss) o s h = let k : length os ≡ length ss = cc in ap (λ l. bound_before p r ∷ l) (before_entered os ss o s k)
before_entered [] (r ∷ ss) o s h = cc
before_entered (p ∷ os) [] o s h = cc

-- a scope of a page that is rendered again
pub record Entered (outer inner : Tracking) (bound : List (KeyValue Value)) (noted_as : Option (List (KeyValue Value))) : Type 0 where
  pub variables : inner.variables.scopes ≡ outer.variables.scopes ++ bound ∷ []
  pub before : inner.before ≡ outer.before ++ noted_as ∷ []

pub now_entered : (t : Tracked) (outer inner : Tracking) (bound : List (KeyValue Value)) (noted_as : Option (List (KeyValue Value))) → Entered outer inner bound noted_as
    → scope_now t inner ≡ bind (assigns_view bound) (scope_now t outer)
now_entered t outer inner bound noted_as h = ap (scope_of (present t)) (ap variables_view h.variables ∙ entered outer.variables.scopes bound)

pub then_entered : (before : Assigns) (outer inner : Tracking) (bound : List (KeyValue Value)) (noted_as : Option (List (KeyValue Value))) → Entered outer inner bound noted_as → IsNoted outer
    → scope_then before inner ≡ bind (assigns_view (bound_before noted_as bound)) (scope_then before outer)
then_entered before outer inner bound noted_as h noted =
    ap (scope_of before)
    (ap (λ os. variables_view (scopes_before os inner.variables.scopes)) h.before
    ∙ ap (λ ss. variables_view (scopes_before (outer.before ++ noted_as ∷ []) ss)) h.variables
    ∙ ap variables_view (before_entered outer.before outer.variables.scopes noted_as bound noted)
    ∙ entered (scopes_before outer.before outer.variables.scopes) (bound_before noted_as bound))

one_longer : {A : Type 0} (xs : List A) (x : A) → length (xs ++ x ∷ []) ≡ suc (length xs)
one_longer [] x = refl
one_longer (y ∷ xs) x = ap suc (one_longer xs x)

pub noted_entered : (outer inner : Tracking) (bound : List (KeyValue Value)) (noted_as : Option (List (KeyValue Value))) → Entered outer inner bound noted_as → IsNoted outer → IsNoted inner
noted_entered outer inner bound noted_as h noted =
    ap length h.before ∙ one_longer outer.before noted_as ∙ ap suc noted ∙ sym (one_longer outer.variables.scopes bound) ∙ sym (ap length h.variables)
