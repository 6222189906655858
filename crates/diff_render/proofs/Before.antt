-- What the scopes bound before.
use Rattle.std.proofs.lemmas.List.{take_all}
use Rattle.std.proofs.Common.{◌≡◌, ◌<◌, ◌≤◌, ◌-◌, min, ℕ, zero, suc, List, [], ◌∷◌, length, get_or, take, Option, option_map, ap, ◌∙◌, arith}
use Rattle.text_core.specs.declared.by_key.KeyValue.{KeyValue}
use Rattle.text_core.specs.Keyed as keyed
use Rattle.value_core.specs.View.{view}
use Rattle.value_core.specs.declared.value.Value.{Value}
use Rattle.doc_model.specs.Environment.{lookup}
use Rattle.expr_eval.specs.Variables.{variables_view}
use Rattle.expr_eval.proofs.Scopes.{found_before}
use Rattle.expr_eval.proofs.Views.{first_of}
use Rattle.diff_render.specs.Tracked.{bound_before, scopes_before}

abbrev Scope : Type 0
Scope = List (KeyValue Value)

before_at : (os : List (Option Scope)) (ss : List Scope) (i : ℕ) (o : Option Scope) (s : Scope) → i < length os → i < length ss → o ≡ get_or os i o → s ≡ get_or ss i s
    → bound_before o s ≡ get_or (scopes_before os ss) i (bound_before o s)
before_at [] ss i o s m n h k = absurd (omega (arith, m))
before_at (p ∷ os) [] i o s m n h k = absurd (omega (arith, n))
before_at (p ∷ os) (r ∷ ss) zero o s m n h k = ap (λ q. bound_before q s) h ∙ ap (bound_before p) k
before_at (p ∷ os) (r ∷ ss) (suc i) o s m n h k = before_at os ss i o s (omega (arith, m)) (omega (arith, n)) h k

-- there is one for each scope that has a note
pub before_long : (os : List (Option Scope)) (ss : List Scope) (i : ℕ) → i ≤ length os → i ≤ length ss → i ≤ length (scopes_before os ss)
before_long [] ss i h k = h
before_long (o ∷ os) [] i h k = k
before_long (o ∷ os) (s ∷ ss) zero h k = omega arith
before_long (o ∷ os) (s ∷ ss) (suc i) h k = let more : i ≤ length (scopes_before os ss) = before_long os ss i (omega (arith, h)) (omega (arith, k)) in omega (arith, more)

short_notes : (os : List (Option Scope)) (ss : List Scope) → length (scopes_before os ss) ≤ length os
short_notes [] ss = omega arith
short_notes (o ∷ os) [] = omega arith
short_notes (o ∷ os) (s ∷ ss) = let h : length (scopes_before os ss) ≤ length os = short_notes os ss in omega (arith, h)

short_scopes : (os : List (Option Scope)) (ss : List Scope) → length (scopes_before os ss) ≤ length ss
short_scopes [] ss = omega arith
short_scopes (o ∷ os) [] = omega arith
short_scopes (o ∷ os) (s ∷ ss) = let h : length (scopes_before os ss) ≤ length ss = short_scopes os ss in omega (arith, h)

pub all_before : (os : List (Option Scope)) (ss : List Scope) (i : ℕ) → i ≡ min (length os) (length ss) → take i (scopes_before os ss) ≡ scopes_before os ss
all_before os ss i h =
    let notes : length (scopes_before os ss) ≤ length os = short_notes os ss in
    let scopes : length (scopes_before os ss) ≤ length ss = short_scopes os ss in
    take_all i (scopes_before os ss) (omega (arith, h, notes, scopes))

-- what a scope bound before is found before what stood outside it
pub found_outside : (k : List ℕ) (os : List (Option Scope)) (ss : List Scope) (i : ℕ) (o : Option Scope) (s : Scope) (v : Option Value) → 0 < i → i ≤ length os → i ≤ length ss
    → o ≡ get_or os (i - 1) o → s ≡ get_or ss (i - 1) s → v ≡ keyed.lookup k (bound_before o s)
    → lookup k (variables_view (take i (scopes_before os ss))) ≡ first_of (option_map view v) (lookup k (variables_view (take (i - 1) (scopes_before os ss))))
found_outside k os ss i o s v some most many o_is s_is at =
    found_before k (scopes_before os ss) i (bound_before o s) v some (before_long os ss i most many)
    (before_at os ss (i - 1) o s (omega (arith, some, most)) (omega (arith, some, many)) o_is s_is) at
