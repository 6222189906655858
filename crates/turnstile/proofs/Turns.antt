-- What the steps of one call give together.
use Rattle.std.proofs.Common.{◌≡◌, ◌≢◌, ℕ, ◌%◌, Bool, List, [], ◌∷◌, ◌++◌, Option, MatchBool, Result, Ok, Err, MatchResult, sym, ap, ◌∙◌, subst, eq-eqb, ne_eqb, inl, inr}
use Rattle.std.proofs.lemmas.List.{append-nil}
use mathlib.Core.Option.{none}
use Rattle.atomic_table.specs.Table.{Me, Step, step, rest}
use Rattle.turnstile.specs.declared.view.View.{View}
use Rattle.turnstile.specs.declared.view.Stage.TheVariants.{Waiting}
use Rattle.turnstile.specs.Histories.{Made, StartsWith, add_made, IsFirst, Follows}
use Rattle.turnstile.specs.Rules.{turn}
use Rattle.turnstile.specs.Steps.{LooksServed, staged, Enters}
use Rattle.turnstile.proofs.Lists.{under}

module _ {K E G : Type 0} (journal : K → List (ℕ × E)) (basis : K → G) (lawful : G → List (ℕ × E) → Type 0) where
  abbrev nothing : Step (Option K)
  nothing = step 0 0 0 0 none

  pub took : (m m' : Me (Option K) (View E G)) (r ticket t : ℕ) → LooksServed journal basis lawful nothing m r m' → m.0.stage ≡ Waiting t → r ≡ ticket → ticket ≡ t % turn → Enters journal basis lawful t m m'
  took m m' r ticket t told waiting found is = subst (λ (b : Bool). MatchBool b (Enters journal basis lawful t m m') (m' ≡ m)) (eq-eqb r (t % turn) (found ∙ is)) (told t waiting)

  -- the same of the view before the ticket was drawn
  pub took_from : (v : View E G) (h : List (ℕ × Option K)) (m m' : Me (Option K) (View E G)) (r ticket t : ℕ) → LooksServed journal basis lawful nothing m r m' → m ≡ (staged (Waiting t) v, h) → h ≡ [] → r ≡ ticket → ticket ≡ t % turn
      → Enters journal basis lawful t (staged (Waiting t) v, []) m'
  took_from v h m m' r ticket t told is held found ticket_is = subst (λ (x : Me (Option K) (View E G)). Enters journal basis lawful t x m') (is ∙ ap (λ (l : List (ℕ × Option K)). (staged (Waiting t) v, l)) held) (took m m' r ticket t told (ap (λ (x : Me (Option K) (View E G)). x.0.stage) is) found ticket_is)

  pub missed : (m m' : Me (Option K) (View E G)) (r ticket t : ℕ) → LooksServed journal basis lawful nothing m r m' → m.0.stage ≡ Waiting t → r ≢ ticket → ticket ≡ t % turn → m' ≡ m
  missed m m' r ticket t told waiting other is = subst (λ (b : Bool). MatchBool b (Enters journal basis lawful t m m') (m' ≡ m)) (ne_eqb r (t % turn) (λ e. other (e ∙ sym is))) (told t waiting)

module _ {K : Type 0} where
  abbrev pub value_or : Option K → List (ℕ × Option K) → Option K
  value_or d [] = d
  value_or d (x ∷ xs) = x.1

  -- what a plain read of the slot gives
  pub read_is : (c : List (ℕ × Option K)) (x r : Option K) → c ≡ (0, x) ∷ [] → c ≡ (0, r) ∷ rest c → r ≡ x
  read_is c x r e f = sym (ap (value_or r) (sym e ∙ f))

  pub rest_of : (c : List (ℕ × Option K)) (x : Option K) → c ≡ (0, x) ∷ [] → rest c ≡ []
  rest_of c x e = ap rest e

module _ {E : Type 0} where
  -- more entries under the first number leave it the first
  pub added_first : (n : ℕ) (more : List E) (made made' : List (ℕ × List E)) → made' ≡ add_made more made → IsFirst n made → IsFirst n made'
  added_first n more made made' e f = (f.0 ++ more, f.1, e ∙ ap (add_made more) f.2)

  pub followed : (n : ℕ) (seen log : List (ℕ × E)) → Follows n seen log → (more : List E) × (log ≡ seen ++ under n more)
  followed n seen log (inl e) = ([], e ∙ sym (append-nil seen))
  followed n seen log (inr e) = (e.0 ∷ [], e.1)

  pub made_along : (xs ys : List (ℕ × List E)) (n : ℕ) (es : List E) → xs ≡ ys → Made xs n es → Made ys n es
  made_along xs ys n es e m = subst (λ (l : List (ℕ × List E)). Made l n es) e m

  pub starts_along : (xs ys seen seen' : List (ℕ × E)) → xs ≡ ys → seen ≡ seen' → StartsWith xs seen → StartsWith ys seen'
  starts_along xs ys seen seen' e f s = (s.0, sym e ∙ (s.1 ∙ ap (λ (l : List (ℕ × E)). l ++ s.0) f))

  pub follows_along : (n m : ℕ) (seen seen' log : List (ℕ × E)) → n ≡ m → seen ≡ seen' → Follows n seen log → Follows m seen' log
  follows_along n m seen seen' log e f h = subst (λ (x : ℕ × List (ℕ × E)). Follows x.0 x.1 log) (λ i. (e i, f i)) h

  -- a call that adds one entry at Ok, and none at Err
  pub follows_result : {A F : Type 0} (r : Result A F) (n : ℕ) (e : E) (seen before after : List (ℕ × E)) → MatchResult r (λ _. after ≡ before ++ (n, e) ∷ []) (λ _. after ≡ before) → before ≡ seen → Follows n seen after
  follows_result (Ok a) n e seen before after h s = inr (e, h ∙ ap (λ (l : List (ℕ × E)). l ++ (n, e) ∷ []) s)
  follows_result (Err f) n e seen before after h s = inl (h ∙ s)
