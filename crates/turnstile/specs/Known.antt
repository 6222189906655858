-- What contracts see of a turnstile and of a pass.
use Rattle.std.specs.Prelude.{◌≡◌, ℕ, Bool, true, false, List, [], ◌∷◌, Option, Some}
use Rattle.atomic_table.specs.Seated.{TableId}
use Rattle.turnstile.specs.Histories.{StartsWith, Made, entries_by, IsFirst, news, add_made}

-- which lock it is, and what the value under it stands on
pub record Gate (G : Type 0) : Type 0 where
  pub table : TableId
  pub basis : G

pub record Known (E G : Type 0) : Type 0 where
  -- the turnstile's
  pub table : TableId
  pub basis : Option G
  pub number : ℕ
  -- the beginning of the journal that it has seen
  pub seen : List (ℕ × E)
  -- its numbers, each with the entries that it made under it, its own first
  pub made : List (ℕ × List E)
  -- how many passes were made, as far as it has seen
  pub passes : ℕ
  -- it has the value out
  pub is_in : Bool

module _ {E G : Type 0} where
  -- a pass of this turnstile
  abbrev pub IsOf : Gate G → Known E G → Type 0
  IsOf z p = (p.table ≡ z.table) × (p.basis ≡ Some z.basis)

  -- a pass of this turnstile, which has not got the value
  abbrev pub IsPassOf : Gate G → Known E G → Type 0
  IsPassOf z p = (p.table ≡ z.table) × (p.basis ≡ Some z.basis) × (p.is_in ≡ false)

  -- a pass of this turnstile, which has the value
  abbrev pub IsEntered : Gate G → Known E G → Type 0
  IsEntered z p = (p.table ≡ z.table) × (p.basis ≡ Some z.basis) × (p.is_in ≡ true)

  -- a turnstile's first pass, which has seen and made nothing
  abbrev pub IsFounder : Known E G → Type 0
  IsFounder p = (p.number ≡ 0) × (p.seen ≡ []) × (p.made ≡ (0, []) ∷ []) × (p.passes ≡ 1)

  -- the same pass, but for the count of passes
  abbrev pub SameButPasses : Known E G → Known E G → Type 0
  SameButPasses p q = (q.table ≡ p.table) × (q.basis ≡ p.basis) × (q.number ≡ p.number) × (q.seen ≡ p.seen) × (q.made ≡ p.made) × (q.is_in ≡ p.is_in)

  -- One turn of a pass. The journal that it found begins with what it had seen, and has under its numbers exactly the entries that it made.
  -- What the turn added to that journal it made under its own number
  pub record TakesTurn (p : Known E G) (found : List (ℕ × E)) (q : Known E G) : Type 0 where
    pub begins : StartsWith found p.seen
    pub own : (n : ℕ) (es : List E) → Made p.made n es → entries_by n found ≡ es
    pub first : IsFirst p.number p.made
    pub adds : q.made ≡ add_made (news found q.seen) p.made
    pub number : q.number ≡ p.number
    pub passes : q.passes ≡ p.passes
