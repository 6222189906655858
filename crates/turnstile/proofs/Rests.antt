-- A pass by its fields.
use Rattle.std.proofs.Common.{◌≡◌, ℕ, true, false, List, [], ◌∷◌, ◌++◌, length, leb, cond, Option, Some, None, unwrap_or, sym, refl, ap, ◌∙◌, subst}
use Rattle.atomic_table.specs.Seated.{TableId}
use Rattle.atomic_table.specs.Table.{Me, rest}
use Rattle.atomic_table.specs.declared.shared.Seat.{Seat}
use Rattle.turnstile.specs.declared.view.View.{View}
use Rattle.turnstile.specs.declared.view.Stage.{Stage}
use Rattle.turnstile.specs.declared.view.Stage.TheVariants.{Away, Waiting, Inside, Filling}
use Rattle.turnstile.specs.Histories.{IsFirst, longer}
use Rattle.turnstile.specs.Steps.{joined, staged, Enters}
use Rattle.turnstile.specs.Known.{Gate, Known, IsPassOf, IsEntered}
use Rattle.turnstile.specs.Seats.{inside, Holds, known_of, Sound}

away_of : {K : Type 0} (st : Stage) (held : List (ℕ × Option K)) → inside st ≡ false → Holds st held → (st ≡ Away) × (held ≡ [])
away_of Away held e h = (refl, h)
away_of (Waiting t) held e h = absurd h
away_of (Inside t) held e h = absurd (cc e)
away_of Filling held e h = absurd h

within_of : {K : Type 0} (st : Stage) (held : List (ℕ × Option K)) → inside st ≡ true → Holds st held → (t : ℕ) × (st ≡ Inside t) × (held ≡ (0, None) ∷ [])
within_of Away held e h = absurd (cc e)
within_of (Waiting t) held e h = absurd h
within_of (Inside t) held e h = (t, refl, h)
within_of Filling held e h = absurd h

some_is : {G : Type 0} (a b : G) → Some a ≡ Some b → a ≡ b
some_is {G} a b e = ap (λ (o : Option G). unwrap_or o a) e

longer_is : {X : Type 0} (xs ys : List X) (P : List X → Type 0) → P xs → P ys → P (longer xs ys)
longer_is xs ys P p q = elim (leb (length ys) (length xs)) as (λ b. P (cond b xs ys)) [ true ↦ p | false ↦ q ]

module _ {K E G : Type 0} (lawful : G → List (ℕ × E) → Type 0) where
  pub record Rests (z : TableId) (on : G) (number : ℕ) (seat : Seat (Option K) (View E G)) : Type 0 where
    pub its_table : seat.table_id ≡ z
    pub away : seat.me.0.stage ≡ Away
    pub empty : seat.me.1 ≡ []
    pub its_basis : seat.me.0.basis ≡ Some on
    pub spare : seat.me.0.spare ≡ None
    pub first : IsFirst number seat.me.0.made
    pub lawful_seen : lawful on seat.me.0.seen

  pub record Within (z : TableId) (on : G) (number : ℕ) (seat : Seat (Option K) (View E G)) : Type 0 where
    pub its_table : seat.table_id ≡ z
    pub ticket : ℕ
    pub inside : seat.me.0.stage ≡ Inside ticket
    pub holds : seat.me.1 ≡ (0, None) ∷ []
    pub its_basis : seat.me.0.basis ≡ Some on
    pub spare : seat.me.0.spare ≡ None
    pub first : IsFirst number seat.me.0.made
    pub lawful_seen : lawful on seat.me.0.seen

  its_on : (number : ℕ) (seat : Seat (Option K) (View E G)) (s : Sound lawful number seat) (on : G) → seat.me.0.basis ≡ Some on → lawful on seat.me.0.seen
  its_on number seat s on is = subst (λ (g : G). lawful g seat.me.0.seen) (some_is s.on on (sym s.its_basis ∙ is)) s.lawful_seen

  pub rests : (z z' : Gate G) (number : ℕ) (seat : Seat (Option K) (View E G)) (p : Known E G) → Sound lawful number seat → known_of number seat ≡ p → z ≡ z' → IsPassOf z' p → Rests z.table z.basis number seat
  rests z z' number seat p s view same t =
      let a = away_of seat.me.0.stage seat.me.1 (ap (λ (k : Known E G). k.is_in) view ∙ t.2) s.holds in
      let based : seat.me.0.basis ≡ Some z.basis = ap (λ (k : Known E G). k.basis) view ∙ (t.1 ∙ ap (λ (x : Gate G). Some x.basis) (sym same)) in
      record {
        its_table = ap (λ (k : Known E G). k.table) view ∙ (t.0 ∙ ap (λ (x : Gate G). x.table) (sym same));
        away = a.0;
        empty = a.1;
        its_basis = based;
        spare = s.spare;
        first = s.first;
        lawful_seen = its_on number seat s z.basis based;
      }

  pub within : (z z' : Gate G) (number : ℕ) (seat : Seat (Option K) (View E G)) (p : Known E G) → Sound lawful number seat → known_of number seat ≡ p → z ≡ z' → IsEntered z' p → Within z.table z.basis number seat
  within z z' number seat p s view same t =
      let a = within_of seat.me.0.stage seat.me.1 (ap (λ (k : Known E G). k.is_in) view ∙ t.2) s.holds in
      let based : seat.me.0.basis ≡ Some z.basis = ap (λ (k : Known E G). k.basis) view ∙ (t.1 ∙ ap (λ (x : Gate G). Some x.basis) (sym same)) in
      record {
        its_table = ap (λ (k : Known E G). k.table) view ∙ (t.0 ∙ ap (λ (x : Gate G). x.table) (sym same));
        ticket = a.0;
        inside = a.1;
        holds = a.2;
        its_basis = based;
        spare = s.spare;
        first = s.first;
        lawful_seen = its_on number seat s z.basis based;
      }

  pub sound_rest : (z : TableId) (on : G) (number : ℕ) (seat : Seat (Option K) (View E G)) → Rests z on number seat → Sound lawful number seat
  sound_rest z on number seat r = record {
    holds = subst (λ (st : Stage). Holds st seat.me.1) (sym r.away) r.empty;
    on = on;
    its_basis = r.its_basis;
    spare = r.spare;
    first = r.first;
    lawful_seen = r.lawful_seen;
  }

  pub sound_in : (z : TableId) (on : G) (number : ℕ) (seat : Seat (Option K) (View E G)) → Within z on number seat → Sound lawful number seat
  sound_in z on number seat r = record {
    holds = subst (λ (st : Stage). Holds st seat.me.1) (sym r.inside) r.holds;
    on = on;
    its_basis = r.its_basis;
    spare = r.spare;
    first = r.first;
    lawful_seen = r.lawful_seen;
  }

  pub joins_rest : (z : TableId) (on : G) (n m : ℕ) (a b c : Seat (Option K) (View E G)) → Rests z on n a → Rests z on m b → c.table_id ≡ a.table_id → c.me ≡ (joined a.me.0 b.me.0, a.me.1) → Rests z on n c
  joins_rest z on n m a b c p q t e =
      let v = ap (λ (x : Me (Option K) (View E G)). x.0) e in
      record {
        its_table = t ∙ p.its_table;
        away = ap (λ (x : View E G). x.stage) v ∙ p.away;
        empty = ap (λ (x : Me (Option K) (View E G)). x.1) e ∙ p.empty;
        its_basis = ap (λ (x : View E G). x.basis) v ∙ p.its_basis;
        spare = ap (λ (x : View E G). x.spare) v ∙ p.spare;
        first = (p.first.0, p.first.1 ++ b.me.0.made, ap (λ (x : View E G). x.made) v ∙ ap (λ (l : List (ℕ × List E)). l ++ b.me.0.made) p.first.2);
        lawful_seen = subst (λ (l : List (ℕ × E)). lawful on l) (sym (ap (λ (x : View E G). x.seen) v)) (longer_is a.me.0.seen b.me.0.seen (lawful on) p.lawful_seen q.lawful_seen);
      }

  pub enters_within : (journal : K → List (ℕ × E)) (basis : K → G) (z : TableId) (on : G) (n t : ℕ) (a c : Seat (Option K) (View E G)) (m : Me (Option K) (View E G)) → Rests z on n a → c.table_id ≡ z
      → (e : Enters journal basis lawful t (staged (Waiting t) a.me.0, []) m) → c.me ≡ (m.0, (0, None) ∷ rest m.1) → Within z on n c
  enters_within journal basis z on n t a c m p tab e x =
      let v = ap (λ (y : Me (Option K) (View E G)). y.0) x ∙ ap (λ (y : Me (Option K) (View E G)). y.0) e.holds in
      record {
        its_table = tab;
        ticket = t;
        inside = ap (λ (u : View E G). u.stage) v;
        holds = ap (λ (y : Me (Option K) (View E G)). y.1) x ∙ ap (λ (l : List (ℕ × Option K)). (0, None) ∷ l) (ap (λ (y : Me (Option K) (View E G)). rest y.1) e.holds);
        its_basis = ap (λ (u : View E G). u.basis) v ∙ p.its_basis;
        spare = ap (λ (u : View E G). u.spare) v ∙ p.spare;
        first = (p.first.0, p.first.1, ap (λ (u : View E G). u.made) v ∙ p.first.2);
        lawful_seen = subst (λ (l : List (ℕ × E)). lawful on l) (sym (ap (λ (u : View E G). u.seen) v)) (e.lawful_found on p.its_basis).1;
      }
