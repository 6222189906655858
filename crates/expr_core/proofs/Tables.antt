-- Facts about how tightly operators bind, and about first places.
use Rattle.std.proofs.Common.{◌≡◌, ℕ, ◌<◌, ◌≤◌, Option, Some, None, refl, subst, arith}
use Rattle.std.proofs.lemmas.Bool.Decides.{nat_tests}
use Rattle.ast_core.specs.declared.operators.BinaryOp.{BinaryOp}
use Rattle.ast_core.specs.declared.operators.BinaryOp.TheVariants as op
use Rattle.expr_core.specs.Functions.{earlier}
use Rattle.expr_core.specs.Grammar.{binds, left_of, right_of}

pub le_left : (n : ℕ) → n ≤ left_of n
unfolding left_of
le_left n = grind (arith, nat_tests)

pub le_right : (n : ℕ) → n ≤ right_of n
unfolding right_of
le_right n = grind (arith, nat_tests)

-- no binding groups both ways
pub one_way : (n : ℕ) → left_of n ≤ n → right_of n ≤ n → ⊥
unfolding left_of right_of
one_way n h k = grind (arith, nat_tests)

-- an operator that fits below the last one does not close it
pub stays : (m n : ℕ) → right_of m ≤ n → left_of n ≤ m → ⊥
stays m n h k =
    let e : m ≡ n = omega (arith, le_left n, le_right m) in
    let h' : right_of n ≤ n = subst (λ i. right_of i ≤ n) e h in
    one_way n (omega arith) h'

pub left_5 : 5 ≡ left_of 5
unfolding left_of
left_5 = refl

pub binds_below : (o : BinaryOp) → binds o < 10
binds_below op.OrElse = omega arith
binds_below op.Or = omega arith
binds_below op.AndAlso = omega arith
binds_below op.And = omega arith
binds_below op.Equal = omega arith
binds_below op.Unequal = omega arith
binds_below op.Less = omega arith
binds_below op.Greater = omega arith
binds_below op.AtMost = omega arith
binds_below op.AtLeast = omega arith
binds_below op.Member = omega arith
binds_below op.Append = omega arith
binds_below op.Concat = omega arith
binds_below op.Plus = omega arith
binds_below op.Minus = omega arith
binds_below op.Times = omega arith

right_below : (n : ℕ) → n < 10 → right_of n ≤ 10
unfolding right_of
right_below n h = grind (arith, nat_tests)

pub right_le : (o : BinaryOp) → right_of (binds o) ≤ 10
right_le o = right_below (binds o) (binds_below o)

pub earlier_none : (a : Option ℕ) → earlier a None ≡ a
earlier_none None = refl
earlier_none (Some at) = refl

pub earlier_assoc : (a b c : Option ℕ) → earlier (earlier a b) c ≡ earlier a (earlier b c)
earlier_assoc None b c = refl
earlier_assoc (Some at) b c = refl
