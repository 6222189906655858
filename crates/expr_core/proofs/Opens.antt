-- What a tree leaves open behind its last token, and how it is put together again.
use Rattle.std.proofs.Common.{◌≡◌, ℕ, ◌<◌, ◌≤◌, List, [], ◌∷◌, Bool, true, false, Option, Some, None, refl, ◌∙◌, arith}
use Rattle.std.specs.Prelude.{nat_le, if◌then◌else◌}
use Rattle.std.proofs.lemmas.Bool.{le-leb}
use Rattle.std.proofs.lemmas.Bool.Decides.{nat_tests}
use Rattle.expr_core.specs.Grammar.{Meant, meant, binds, left_of, bare, inside, Tree, number, text, atom, nil, boolean, assign, name, parens, before, between, field, index, list, tuple, map_of, call, piped, choice, choice_else, holds, denies, Grouped, meaning, unknown}
use Rattle.expr_core.specs.Machine.{Value, Frames, operand, ahead, paren, indexed, items, putting, valued, test, inner_test, yes_of, no_of, State, have, both, chosen, chosen_else, need, reduce}
use Rattle.expr_core.proofs.Tables.{le_left, le_right, stays}

abbrev pub callee_of : Tree → Option (ℕ × List ℕ)
callee_of (name at s) = Some (at, s)
callee_of t = None

abbrev pub means : Tree → Meant
means t = meant (meaning t) (unknown t)

-- what a tree is to the machine
abbrev pub held : Tree → Value
held t = record { meant = means t; holds = holds t; denies = denies t; callee = callee_of t }

-- the machine behind a tree's last token
abbrev pub opened : Tree → Frames → Value × Frames
opened (before o t) fs = opened t (ahead o ∷ fs)
opened (between o l r) fs = opened r (operand o (held l) ∷ fs)
opened (choice bare t y) fs = opened y (yes_of bare (means t) ∷ fs)
opened (choice_else bare t y z) fs = opened z (no_of bare (means t) (means y) ∷ fs)
opened (choice inside t y) fs = (held (choice inside t y), fs)
opened (choice_else inside t y z) fs = (held (choice_else inside t y z), fs)
opened (number n) fs = (held (number n), fs)
opened (text s ps) fs = (held (text s ps), fs)
opened (atom s) fs = (held (atom s), fs)
opened nil fs = (held nil, fs)
opened (boolean b) fs = (held (boolean b), fs)
opened (assign n s) fs = (held (assign n s), fs)
opened (name n s) fs = (held (name n s), fs)
opened (parens t) fs = (held (parens t), fs)
opened (field t n s) fs = (held (field t n s), fs)
opened (index t u) fs = (held (index t u), fs)
opened (list ts) fs = (held (list ts), fs)
opened (tuple ts) fs = (held (tuple ts), fs)
opened (map_of es) fs = (held (map_of es), fs)
opened (call c ts) fs = (held (call c ts), fs)
opened (piped l c ts) fs = (held (piped l c ts), fs)

abbrev pub behind : Value × Frames → State
behind p = have p.0 p.1

abbrev pub reduced : ℕ → Value × Frames → Value × Frames
reduced n p = reduce n p.0 p.1

pub if_true : {A : Type 0} (b : Bool) (x y : A) → b ≡ true → (if b then x else y) ≡ x
if_true b x y h = rw h refl

pub if_false : {A : Type 0} (b : Bool) (x y : A) → b ≡ false → (if b then x else y) ≡ y
if_false b x y h = rw h refl

-- what a tree left open is put together again
pub closes : (t : Tree) (n : ℕ) (fs : Frames) → Grouped t → n ≤ holds t → reduced n (opened t fs) ≡ reduce n (held t) fs
closes (before o t) n fs g h =
    closes t n (ahead o ∷ fs) g.1 (omega arith)
    ∙ if_true (nat_le n 10) (reduce n (held (before o t)) fs) (held t, ahead o ∷ fs) (le-leb n 10 h)
closes (between o l r) n fs g h =
    closes r n (operand o (held l) ∷ fs) g.4 (omega (arith, le_right (binds o)))
    ∙ if_true (nat_le n (binds o)) (reduce n (held (between o l r)) fs) (held r, operand o (held l) ∷ fs) (le-leb n (binds o) h)
closes (choice bare t y) n fs g h =
    closes y n (yes_of bare (means t) ∷ fs) g.3 (omega arith)
    ∙ if_true (nat_le n 0) (reduce n (held (choice bare t y)) fs) (held y, yes_of bare (means t) ∷ fs) (le-leb n 0 h)
closes (choice_else bare t y z) n fs g h =
    closes z n (no_of bare (means t) (means y) ∷ fs) g.5 (omega arith)
    ∙ if_true (nat_le n 0) (reduce n (held (choice_else bare t y z)) fs) (held z, no_of bare (means t) (means y) ∷ fs) (le-leb n 0 h)
closes (choice inside t y) n fs g h = refl
closes (choice_else inside t y z) n fs g h = refl
closes (number n) m fs g h = refl
closes (text s ps) m fs g h = refl
closes (atom s) m fs g h = refl
closes nil m fs g h = refl
closes (boolean b) m fs g h = refl
closes (assign n s) m fs g h = refl
closes (name n s) m fs g h = refl
closes (parens t) m fs g h = refl
closes (field t n s) m fs g h = refl
closes (index t u) m fs g h = refl
closes (list ts) m fs g h = refl
closes (tuple ts) m fs g h = refl
closes (map_of es) m fs g h = refl
closes (call c ts) m fs g h = refl
closes (piped l c ts) m fs g h = refl

not_le : (a b : ℕ) → (a ≤ b → ⊥) → nat_le a b ≡ false
not_le a b h = grind (arith, nat_tests)

-- nothing below is closed by an operator that fits there
pub stops : (n : ℕ) (v : Value) (fs : Frames) → n < 10 → need fs ≤ n → reduce (left_of n) v fs ≡ (v, fs)
stops n v [] b h = refl
stops n v (operand o l ∷ fs) b h = if_false (nat_le (left_of n) (binds o)) (reduce (left_of n) (both o l v) fs) (v, operand o l ∷ fs) (not_le (left_of n) (binds o) (stays (binds o) n h))
stops n v (ahead o ∷ fs) b h = absurd (omega arith)
stops n v (yes_of bare t ∷ fs) b h = if_false (nat_le (left_of n) 0) (reduce (left_of n) (chosen bare t v.meant) fs) (v, yes_of bare t ∷ fs) (not_le (left_of n) 0 (λ e. let m : 1 ≤ n = h in absurd (omega (arith, le_left n))))
stops n v (no_of bare t y ∷ fs) b h = if_false (nat_le (left_of n) 0) (reduce (left_of n) (chosen_else bare t y v.meant) fs) (v, no_of bare t y ∷ fs) (not_le (left_of n) 0 (λ e. let m : 1 ≤ n = h in absurd (omega (arith, le_left n))))
stops n v (yes_of inside t ∷ fs) b h = refl
stops n v (no_of inside t y ∷ fs) b h = refl
stops n v (test ∷ fs) b h = refl
stops n v (inner_test ∷ fs) b h = refl
stops n v (paren ∷ fs) b h = refl
stops n v (indexed u ∷ fs) b h = refl
stops n v (items o es u ∷ fs) b h = refl
stops n v (putting ps u ∷ fs) b h = refl
stops n v (valued ps u k ∷ fs) b h = refl
