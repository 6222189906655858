-- Numbers of bodies, counted on.
use Rattle.std.proofs.Common.{◌≡◌, ℕ, suc, ◌+◌, arith}

pub none_on : (k : ℕ) → k + 0 ≡ k
none_on k = omega arith

pub none_before : (k : ℕ) → 0 + k ≡ k
none_before k = omega arith

pub one_on : (k n : ℕ) → suc k + n ≡ k + suc n
one_on k n = omega arith
