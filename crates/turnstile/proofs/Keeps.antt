-- Each step on a turnstile's table keeps its rule.
use Rattle.std.proofs.Common.{◌≡◌, ◌≢◌, ℕ, zero, suc, ◌+◌, ◌-◌, ◌%◌, ◌<◌, ◌≤◌, Bool, true, false, cond, eqb, leb, List, [], ◌∷◌, ◌++◌, length, min, max, get_or, set, Option, Some, None, sym, refl, ap, ◌∙◌, subst, inl, inr, ⊎_elim, arith, length-set, get_or-set_other, get_or-set_same, MatchBool}
use Rattle.std.proofs.lemmas.List.{append-nil}
use mathlib.Core.Logic.{dite}
use mathlib.Core.Option.{Option as Maybe, some, none, some-injective, some-ne-none}
use Rattle.std.proofs.lemmas.Bool.{eqb-true}
use native.Mathlib.Decide.{ℕ_discrete, dec_lt}
use lib.ListN.{get_elem?}
use lib.Seq.{set-get_or}
use Rattle.std.proofs.Math.Nat.{mod-add-mod, mod-eq_of_lt}
use Rattle.atomic_table.specs.Table.{State, Me, step, Act, keeps, takes, gives, Valid, carried_after, stepped, Allows, Splits, Joins, opening}
use Rattle.atomic_table.proofs.Lists.{set_here, set_else, at_longer, one_turn}
use Rattle.turnstile.specs.declared.view.View.{View}
use Rattle.turnstile.specs.declared.view.Stage.{Stage}
use Rattle.turnstile.specs.declared.view.Stage.TheVariants.{Away, Waiting, Inside, Filling}
use Rattle.turnstile.specs.Histories.{most_passes, StartsWith, entries_by, Made, news, add_made, IsFirst, longer}
use Rattle.turnstile.specs.Rules.{turn, total, tickets, Queued, IsInside, taken_by, stopped, founder, waits, claims, stops, PassHolds, Placed, Vacant, Orderly}
use Rattle.turnstile.specs.Steps.{alone, staged, entered, left_with, knows, kept_half, new_half, joined, spent, DrawsTicket, ChecksPassCount, DrawsPassNumber, LooksServed, BringsFirst, Enters, ServesNext}
use Rattle.turnstile.proofs.Lists.{under, total_set, total_snoc, total_le, each_set, at_snoc_where, at_below, put, put_here, put_else, starts_more, nil_of_append, entries_by-append, entries_by-under, entries_by-under_other, news-under, made_append}

abbrev ticket_or_0 : Stage → ℕ
ticket_or_0 Away = 0
ticket_or_0 (Waiting t) = t
ticket_or_0 (Inside t) = t
ticket_or_0 Filling = 0

-- a ticket more is out
queued_drawn : (holder : ℕ → ℕ) (served drawn id j : ℕ) (st : Stage) → Queued holder served drawn j st → Queued (put holder drawn id) served (drawn + 1) j st
queued_drawn holder served drawn id j Away q = tt
queued_drawn holder served drawn id j (Waiting t) q = let below : t < drawn = q.1 in (q.0, omega arith, put_else holder drawn id t (λ e. omega arith) ∙ q.2)
queued_drawn holder served drawn id j (Inside t) q = let below : t < drawn = q.1 in (q.0, omega arith, put_else holder drawn id t (λ e. omega arith) ∙ q.2)
queued_drawn holder served drawn id j Filling q = let below : 0 < drawn = q.1 in (q.0, omega arith, put_else holder drawn id 0 (λ e. omega arith) ∙ q.2)

-- the next ticket is served
queued_served : (holder : ℕ → ℕ) (served drawn j : ℕ) (st : Stage) → j ≢ holder served → Queued holder served drawn j st → Queued holder (served + 1) drawn j st
queued_served holder served drawn j Away ne q = tt
queued_served holder served drawn j (Waiting t) ne q = let from : served ≤ t = q.0 in let other : t ≢ served = (λ e. ne (sym q.2 ∙ ap holder e)) in (omega arith, q.1, q.2)
queued_served holder served drawn j (Inside t) ne q = absurd (ne (sym q.2 ∙ ap holder q.0))
queued_served holder served drawn j Filling ne q = absurd (ne (sym q.2 ∙ ap holder q.0))

inside_holder : (holder : ℕ → ℕ) (served drawn j : ℕ) (st : Stage) → Queued holder served drawn j st → IsInside st → (holder served ≡ j) × (served < drawn)
inside_holder holder served drawn j Away q i = absurd i
inside_holder holder served drawn j (Waiting t) q i = absurd i
inside_holder holder served drawn j (Inside t) q i = (ap holder (sym q.0) ∙ q.2, let e = q.0 in let l = q.1 in omega arith)
inside_holder holder served drawn j Filling q i = (ap holder (sym q.0) ∙ q.2, let e = q.0 in let l = q.1 in omega arith)

ticket_is : (st : Stage) (t t' : ℕ) → st ≡ Waiting t → st ≡ Waiting t' → t ≡ t'
ticket_is st t t' e f = ap ticket_or_0 (sym e ∙ f)

one_claim : {N : Type 0} (o : Option N) → 1 ≤ taken_by o
one_claim (Some n) = omega arith
one_claim None = omega arith

one_ticket : (st : Stage) → tickets st ≤ 1
one_ticket Away = omega arith
one_ticket (Waiting t) = omega arith
one_ticket (Inside t) = omega arith
one_ticket Filling = omega arith

one_stop : {G : Type 0} (o : Option G) (k : ℕ) → stopped o k ≤ 1
one_stop (Some g) k = omega arith
one_stop None k = omega arith

stops_more : {G : Type 0} (o : Option G) (a b : ℕ) → min a most_passes ≤ b → stopped o a ≤ stopped o b
stops_more (Some g) a b h = omega arith
stops_more None a b h = omega arith

module _ {E : Type 0} where
  abbrev tail_or : List (ℕ × List E) → List (ℕ × List E)
  tail_or [] = []
  tail_or (x ∷ xs) = xs

  abbrev head_number : List (ℕ × List E) → ℕ
  head_number [] = 0
  head_number (x ∷ xs) = x.0

  again_made : (n m : ℕ) (es fs : List E) (ms ns : List (ℕ × List E)) (gs : List E) → (n, es) ∷ ms ≡ (m, fs) ∷ ns → Made ns m gs → Made ms n gs
  again_made n m es fs ms ns gs e h = subst (λ (x : ℕ × List (ℕ × List E)). Made x.1 x.0 gs) (λ i. (ap head_number (sym e) i, ap tail_or (sym e) i)) h

  returned_own : (log now : List (ℕ × E)) (n number : ℕ) (es fs more : List E) (ms made : List (ℕ × List E)) → made ≡ (number, es) ∷ ms → (owner : ℕ → ℕ) (id numbers : ℕ)
      → ((m : ℕ) (gs : List E) → Made made m gs → (owner m ≡ id) × (m < numbers) × (entries_by m log ≡ gs))
      → ((m : ℕ) (gs : List E) (ns : List (ℕ × List E)) → made ≡ (m, gs) ∷ ns → (hs : List E) → Made ns m hs → ⊥)
      → now ≡ log ++ under number more
      → Made ((number, es ++ more) ∷ ms) n fs → (owner n ≡ id) × (n < numbers) × (entries_by n now ≡ fs)
  returned_own log now n number es fs more ms made is owner id numbers own once grows (inl h) =
      let o = own number es (subst (λ (l : List (ℕ × List E)). Made l number es) (sym is) (inl (refl, refl))) in
      let below = o.1 in
      let same = h.0 in (
        ap owner (sym same) ∙ o.0,
        omega arith,
        ap (λ (x : ℕ). entries_by x now) (sym same) ∙ (ap (entries_by number) grows ∙ (entries_by-append number log (under number more) ∙ (ap (λ (l : List E). l ++ entries_by number (under number more)) o.2 ∙ (ap (λ (l : List E). es ++ l) (entries_by-under number more) ∙ h.1)))),
      )
  returned_own log now n number es fs more ms made is owner id numbers own once grows (inr h) =
      let o = own n fs (subst (λ (l : List (ℕ × List E)). Made l n fs) (sym is) (inr h)) in
      let ne : number ≢ n = (λ e. once number es ms is fs (subst (λ (x : ℕ). Made ms x fs) (sym e) h)) in
      (o.0, o.1, ap (entries_by n) grows ∙ (entries_by-append n log (under number more) ∙ (ap (λ (l : List E). entries_by n log ++ l) (entries_by-under_other n number more ne) ∙ (append-nil (entries_by n log) ∙ o.2))))

module _ {K E G : Type 0} (journal : K → List (ℕ × E)) (basis : K → G) (lawful : G → List (ℕ × E) → Type 0) where
  -- the seat had a value with more entries under its number
  pub record MayLeave (k : K) (more : List E) (m : Me (Option K) (View E G)) : Type 0 where
    pub ticket : ℕ
    pub inside : m.0.stage ≡ Inside ticket
    pub holds : m.1 ≡ (0, Some k) ∷ []
    pub number : ℕ
    pub first : IsFirst number m.0.made
    pub journal_is : journal k ≡ m.0.seen ++ under number more
    pub spare : m.0.spare ≡ None
    pub basis_is : m.0.basis ≡ Some (basis k)
    pub lawful_is : lawful (basis k) (journal k)

module _ {K E G : Type 0} (journal : K → List (ℕ × E)) (basis : K → G) (lawful : G → List (ℕ × E) → Type 0) (on : G) where
  abbrev V : Type 0
  V = View E G

  abbrev St : Type 0
  St = State (Option K) V

  abbrev Rule : St → Type 0
  Rule = Orderly journal basis lawful on

  -- fewer tickets are out than a word has values
  few_out : (s : St) → Rule s → total waits s.views ≤ most_passes
  few_out s r = let a = total_le waits claims (λ (v : V). let x = one_ticket v.stage in let y = one_claim v.spare in omega arith) s.views in let b = r.few in omega arith

  few_numbers : (s : St) → (r : Rule s) → r.numbers ≤ most_passes + most_passes
  few_numbers s r = let a = total_le stops claims (λ (v : V). let x = one_stop v.basis v.known in let y = one_claim v.spare in omega arith) s.views in let b = r.few in let e = r.ends in omega arith

  -- the value stays where it is, where the seat id has not got it
  placed_else : (s : St) (seat id : ℕ) (log : List (ℕ × E)) (v w : V) → get_elem? s.views id ≡ some v → (IsInside v.stage → IsInside w.stage) → (words : List ℕ) → Placed journal basis lawful on seat log s
      → Placed journal basis lawful on seat log record { words = words; homes = s.homes; views = set s.views id w }
  placed_else s seat id log v w here still words (inl p) = inl p
  placed_else s seat id log v w here still words (inr p) = dite (ℕ_discrete seat id)
      (λ e. let same : p.0 ≡ v = some-injective p.0 v (sym p.1 ∙ (ap (get_elem? s.views) e ∙ here)) in
      inr (w, ap (get_elem? (set s.views id w)) e ∙ set_here s.views id w (at_below s.views id v here), still (subst (λ (x : V). IsInside x.stage) same p.2)))
      (λ ne. inr (p.0, set_else s.views id seat w ne ∙ p.1, p.2))

  drawn_placed : (s : St) (r : Rule s) (id : ℕ) (v w : V) → get_elem? s.views id ≡ some v → (IsInside v.stage → ⊥) → (words : List ℕ)
      → Placed journal basis lawful on (put r.holder r.drawn id r.served) r.log record { words = words; homes = s.homes; views = set s.views id w }
  drawn_placed s r id v w here out words = ⊎_elim
      (λ (p : (k : K) × (get_elem? s.homes 0 ≡ some (some (Some k))) × (journal k ≡ r.log) × (basis k ≡ on)). inl p)
      (λ (p : (u : V) × (get_elem? s.views (r.holder r.served) ≡ some u) × IsInside u.stage).
      let below = (inside_holder r.holder r.served r.drawn _ p.0.stage (r.each _ p.0 p.1).queued p.2).1 in
      subst (λ (n : ℕ). Placed journal basis lawful on n r.log record { words = words; homes = s.homes; views = set s.views id w }) (sym (put_else r.holder r.drawn id r.served (λ e. omega arith)))
      (placed_else s (r.holder r.served) id r.log v w here (λ i. absurd (out i)) words (inr p)))
      r.placed

  pub draws : (slots id : ℕ) (v : V) (held : List (ℕ × Option K)) → v.stage ≡ Away → Allows Rule slots id (v, held) 0 (λ n. (n + 1) % turn) (DrawsTicket (step slots 0 1 0 none) (v, held))
  draws slots id v held away s r wide here small =
      let w : V = staged (Waiting r.drawn) v in
      let f = r.each id v here in
      let long = r.wide in
      let none_out : waits v ≡ 0 = ap tickets away in
      let a = total_set waits s.views id v w here in
      let b = total_set claims s.views id v w here in
      let c = total_set stops s.views id v w here in
      let q = r.queue in
      let not_in : IsInside v.stage → ⊥ = (λ i. subst IsInside away i) in (
        w,
        keeps,
        tt,
        record {
          drawn = r.drawn + 1;
          served = r.served;
          holder = put r.holder r.drawn id;
          owner = r.owner;
          log = r.log;
          numbers = r.numbers;
          wide = length-set s.words 0 _ ∙ long;
          slot = r.slot;
          ticket_word = get_or-set_same s.words 0 _ 0 (omega arith) ∙ (ap (λ (n : ℕ). (n + 1) % turn) r.ticket_word ∙ mod-add-mod r.drawn turn 1);
          serving_word = get_or-set_other s.words 0 1 _ 0 (λ e. omega arith) ∙ r.serving_word;
          count_word = get_or-set_other s.words 0 2 _ 0 (λ e. omega arith) ∙ r.count_word;
          queue = omega arith;
          few = let x = r.few in omega arith;
          numbered = let x = r.numbered in omega arith;
          ends = let x = r.ends in omega arith;
          placed = drawn_placed s r id v w here not_in (set s.words 0 ((get_or s.words 0 0 + 1) % turn));
          unborn = r.unborn;
          lawful_log = r.lawful_log;
          each = each_set (PassHolds lawful on r.served (r.drawn + 1) r.numbers (put r.holder r.drawn id) r.owner r.log (Vacant s.homes)) s.views id w
              record {
                queued = (omega arith, omega arith, put_here r.holder r.drawn id);
                inside = λ i. absurd i;
                filling = λ e. absurd (cc e);
                prefix = f.prefix;
                lawful_seen = f.lawful_seen;
                own = f.own;
                first_once = f.first_once;
                spare = f.spare;
                known = f.known;
              }
              (λ j u ne at. let g = r.each j u at in record {
                queued = queued_drawn r.holder r.served r.drawn id j u.stage g.queued;
                inside = g.inside;
                filling = g.filling;
                prefix = g.prefix;
                lawful_seen = g.lawful_seen;
                own = g.own;
                first_once = g.first_once;
                spare = g.spare;
                known = g.known;
              });
        },
        (r.drawn, r.ticket_word, refl),
      )

  -- a step that changes no word and only what the seat id knows
  unmoved : (s : St) (r : Rule s) (i id : ℕ) (c : List (ℕ × Option K)) (v w : V) (hs : List (Maybe (Option K))) → get_elem? s.views id ≡ some v → length hs ≡ 1 → waits w ≡ waits v → claims w ≡ claims v → stops v ≤ stops w
      → Placed journal basis lawful on (r.holder r.served) r.log record { words = s.words; homes = hs; views = set s.views id w }
      → ((j : ℕ) (u : V) → j ≢ id → get_elem? s.views j ≡ some u → u.stage ≡ Filling → Vacant hs)
      → PassHolds lawful on r.served r.drawn r.numbers r.holder r.owner r.log (Vacant hs) id w
      → Rule record { words = set s.words i (get_or s.words i 0); homes = hs; views = set s.views id w }
  unmoved s r i id c v w hs here one same_waits same_claims more_stops placed still fits =
      let x = total_set waits s.views id v w here in
      let y = total_set claims s.views id v w here in
      let z = total_set stops s.views id v w here in
      let q = r.queue in
      subst (λ (ws : List ℕ). Rule record { words = ws; homes = hs; views = set s.views id w }) (sym (set-get_or s.words i 0)) record {
        drawn = r.drawn;
        served = r.served;
        holder = r.holder;
        owner = r.owner;
        log = r.log;
        numbers = r.numbers;
        wide = r.wide;
        slot = one;
        ticket_word = r.ticket_word;
        serving_word = r.serving_word;
        count_word = r.count_word;
        queue = omega arith;
        few = let b = r.few in omega arith;
        numbered = let b = r.numbered in omega arith;
        ends = let b = r.ends in omega arith;
        placed = placed;
        unborn = r.unborn;
        lawful_log = r.lawful_log;
        each = each_set (PassHolds lawful on r.served r.drawn r.numbers r.holder r.owner r.log (Vacant hs)) s.views id w fits (λ j u ne at. let g = r.each j u at in record {
          queued = g.queued;
          inside = g.inside;
          filling = still j u ne at;
          prefix = g.prefix;
          lawful_seen = g.lawful_seen;
          own = g.own;
          first_once = g.first_once;
          spare = g.spare;
          known = g.known;
        });
      }

  looks_at : (s : St) (r : Rule s) (slots id : ℕ) (v : V) (held : List (ℕ × Option K)) (t : ℕ) → v.stage ≡ Waiting t → get_elem? s.views id ≡ some v → (b : Bool) → eqb (get_or s.words 1 0) (t % turn) ≡ b
      → (w : V) × (a : Act (Option K)) × Valid s.homes held a × Rule (stepped s 1 (get_or s.words 1 0) id held w a)
      × MatchBool b (Enters journal basis lawful t (v, held) (w, carried_after held a)) (◌≡◌ {A = Me (Option K) V} (w, carried_after held a) (v, held))
  looks_at s r slots id v held t waiting here true is =
      let f = r.each id v here in
      let q = subst (Queued r.holder r.served r.drawn id) waiting f.queued in
      let few = few_out s r in
      let all = r.queue in
      let mine : t ≡ r.served = sym (one_turn r.served t turn q.0 (omega arith) (sym r.serving_word ∙ eqb-true _ _ is)) in
      let seat : r.holder r.served ≡ id = ap r.holder (sym mine) ∙ q.2 in
      ⊎_elim
      (λ (p : (k : K) × (get_elem? s.homes 0 ≡ some (some (Some k))) × (journal k ≡ r.log) × (basis k ≡ on)).
      let k = p.0 in
      let w : V = entered t (journal k) v in
      let one_ticket_too : waits w ≡ waits v = ap tickets (sym waiting) in (
        w,
        takes 0 (Some k),
        p.1,
        unmoved s r 1 id held v w (set s.homes 0 none) here (length-set s.homes 0 none ∙ r.slot) one_ticket_too refl (omega arith)
            (inr (w, ap (get_elem? (set s.views id w)) seat ∙ set_here s.views id w (at_below s.views id v here), tt))
            (λ j u ne at e. absurd (ne (sym (inside_holder r.holder r.served r.drawn j u.stage (r.each j u at).queued (subst IsInside (sym e) tt)).0 ∙ seat)))
            record {
              queued = (mine, q.1, q.2);
              inside = λ i. p.2;
              filling = λ e. absurd (cc e);
              prefix = ([], sym p.2 ∙ sym (append-nil (journal k)));
              lawful_seen = λ g e. ((f.lawful_seen g e).0, subst (lawful on) (sym p.2) r.lawful_log);
              own = f.own;
              first_once = f.first_once;
              spare = f.spare;
              known = f.known;
            },
        record {
          value = k;
          holds = refl;
          prefix = (f.prefix.0, p.2 ∙ f.prefix.1);
          lawful_found = λ g e. (p.3 ∙ sym (f.lawful_seen g e).0, subst (λ (x : G × List (ℕ × E)). lawful x.0 x.1) (λ i. (sym (f.lawful_seen g e).0 i, sym p.2 i)) r.lawful_log);
          own = λ n es h. ap (entries_by n) p.2 ∙ (f.own n es h).2;
        },
      ))
      (λ (p : (u : V) × (get_elem? s.views (r.holder r.served) ≡ some u) × IsInside u.stage).
      let same : p.0 ≡ v = some-injective p.0 v (sym p.1 ∙ (ap (get_elem? s.views) seat ∙ here)) in
      absurd (subst IsInside (ap (λ (x : V). x.stage) same ∙ waiting) p.2))
      r.placed
  looks_at s r slots id v held t waiting here false is = let f = r.each id v here in (
    v,
    keeps,
    tt,
    unmoved s r 1 id held v v s.homes here r.slot refl refl (omega arith) (placed_else s (r.holder r.served) id r.log v v here (λ i. i) s.words r.placed) (λ j u ne at. (r.each j u at).filling) f,
    refl,
  )

  pub looks : (slots id : ℕ) (v : V) (held : List (ℕ × Option K)) (t : ℕ) → v.stage ≡ Waiting t → Allows Rule slots id (v, held) 1 (λ n. n) (LooksServed journal basis lawful (step slots 1 0 0 none) (v, held))
  looks slots id v held t waiting s r wide here small =
      let x = looks_at s r slots id v held t waiting here (eqb (get_or s.words 1 0) (t % turn)) refl in
      (x.0, x.1, x.2, x.3, λ t' e. subst (λ (n : ℕ). MatchBool (eqb (get_or s.words 1 0) (n % turn)) (Enters journal basis lawful n (v, held) (x.0, carried_after held x.1)) (◌≡◌ {A = Me (Option K) V} (x.0, carried_after held x.1) (v, held))) (ticket_is v.stage t t' waiting e) x.4)

  -- the number's entries in a journal with more of another's
  entries_else : (log : List (ℕ × E)) (n m : ℕ) (more : List E) → m ≢ n → entries_by n (log ++ under m more) ≡ entries_by n log
  entries_else log n m more ne = entries_by-append n log (under m more) ∙ (ap (λ (l : List E). entries_by n log ++ l) (entries_by-under_other n m more ne) ∙ append-nil (entries_by n log))

  -- the value comes back with more entries under the number
  returned : (s : St) (r : Rule s) (id : ℕ) (v : V) (k : K) (more : List E) (may : MayLeave journal basis lawful k more (v, (0, Some k) ∷ [])) → get_elem? s.views id ≡ some v
      → Rule record { words = set s.words 1 ((get_or s.words 1 0 + 1) % turn); homes = set s.homes 0 (some (Some k)); views = set s.views id (left_with (journal k) v) }
  returned s r id v k more may here =
      let f = r.each id v here in
      let long = r.wide in
      let one = r.slot in
      let w : V = left_with (journal k) v in
      let q = subst (Queued r.holder r.served r.drawn id) may.inside f.queued in
      let seat : r.holder r.served ≡ id = ap r.holder (sym q.0) ∙ q.2 in
      let was : v.seen ≡ r.log = f.inside (subst IsInside (sym may.inside) tt) in
      let es = may.first.0 in
      let ms = may.first.1 in
      let mine = f.own may.number es (subst (λ (l : List (ℕ × List E)). Made l may.number es) (sym may.first.2) (inl (refl, refl))) in
      let now : journal k ≡ r.log ++ under may.number more = may.journal_is ∙ ap (λ (l : List (ℕ × E)). l ++ under may.number more) was in
      let fresh : news v.seen (journal k) ≡ more = ap (news v.seen) may.journal_is ∙ news-under v.seen may.number more in
      let its_made : w.made ≡ (may.number, es ++ more) ∷ ms = ap (λ (l : List E). add_made l v.made) fresh ∙ ap (add_made more) may.first.2 in
      let same_basis : basis k ≡ on = (f.lawful_seen (basis k) may.basis_is).0 in
      let lawful_now : lawful on (journal k) = subst (λ (x : G). lawful x (journal k)) same_basis may.lawful_is in
      let one_in : waits v ≡ 1 = ap tickets may.inside in
      let else_is = (λ (n : ℕ) (ne : may.number ≢ n). ap (entries_by n) now ∙ entries_else r.log n may.number more ne) in
      let x = total_set waits s.views id v w here in
      let y = total_set claims s.views id v w here in
      let z = total_set stops s.views id v w here in
      let all = r.queue in
      record {
        drawn = r.drawn;
        served = r.served + 1;
        holder = r.holder;
        owner = r.owner;
        log = journal k;
        numbers = r.numbers;
        wide = length-set s.words 1 _ ∙ long;
        slot = length-set s.homes 0 (some (Some k)) ∙ one;
        ticket_word = get_or-set_other s.words 1 0 _ 0 (λ e. omega arith) ∙ r.ticket_word;
        serving_word = get_or-set_same s.words 1 _ 0 (omega arith) ∙ (ap (λ (n : ℕ). (n + 1) % turn) r.serving_word ∙ mod-add-mod r.served turn 1);
        count_word = get_or-set_other s.words 1 2 _ 0 (λ e. omega arith) ∙ r.count_word;
        queue = omega arith;
        few = let b = r.few in omega arith;
        numbered = let b = r.numbered in omega arith;
        ends = let b = r.ends in omega arith;
        placed = inl (k, set_here s.homes 0 (some (Some k)) (omega arith), refl, same_basis);
        unborn = λ n past. else_is n (λ e. let below = mine.1 in omega arith) ∙ r.unborn n past;
        lawful_log = lawful_now;
        each = each_set (PassHolds lawful on (r.served + 1) r.drawn r.numbers r.holder r.owner (journal k) (Vacant (set s.homes 0 (some (Some k))))) s.views id w
            record {
              queued = tt;
              inside = λ i. absurd i;
              filling = λ e. absurd (cc e);
              prefix = ([], sym (append-nil (journal k)));
              lawful_seen = λ g e. ((f.lawful_seen g e).0, lawful_now);
              own = λ n fs h. returned_own r.log (journal k) n may.number es fs more ms v.made may.first.2 r.owner id r.numbers f.own f.first_once now (subst (λ (l : List (ℕ × List E)). Made l n fs) its_made h);
              first_once = λ n fs ns e gs h. f.first_once may.number es ms may.first.2 gs (again_made may.number n (es ++ more) fs ms ns gs (sym its_made ∙ e) h);
              spare = λ n e. absurd (cc (may.spare, e));
              known = f.known;
            }
            (λ j u ne at.
            let g = r.each j u at in
            let apart : j ≢ r.holder r.served = (λ e. ne (e ∙ seat)) in
            record {
              queued = queued_served r.holder r.served r.drawn j u.stage apart g.queued;
              inside = λ i. absurd (apart (sym (inside_holder r.holder r.served r.drawn j u.stage g.queued i).0));
              filling = λ e. absurd (apart (sym (inside_holder r.holder r.served r.drawn j u.stage g.queued (subst IsInside (sym e) tt)).0));
              prefix = subst (λ (l : List (ℕ × E)). StartsWith l u.seen) (sym now) (starts_more r.log u.seen (under may.number more) g.prefix);
              lawful_seen = g.lawful_seen;
              own = λ n fs h. let o = g.own n fs h in (o.0, o.1, else_is n (λ e. ne (sym o.0 ∙ (ap r.owner (sym e) ∙ mine.0))) ∙ o.2);
              first_once = g.first_once;
              spare = λ n e. let o = g.spare n e in (o.0, o.1, else_is n (λ i. ne (sym o.0 ∙ (ap r.owner (sym i) ∙ mine.0))) ∙ o.2, o.3);
              known = g.known;
            });
      }

  abbrev value_or : Option K → List (ℕ × Option K) → Option K
  value_or d [] = d
  value_or d (x ∷ xs) = x.1

  pub departs : (slots id : ℕ) (m : Me (Option K) V) (k : K) (more : List E) → MayLeave journal basis lawful k more m → Allows Rule slots id m 1 (λ n. (n + 1) % turn) (ServesNext journal (step slots 1 1 0 none) m)
  departs slots id m k more may =
      let P : Me (Option K) V → Type 0 = λ x. MayLeave journal basis lawful k more x → Allows Rule slots id x 1 (λ n. (n + 1) % turn) (ServesNext journal (step slots 1 1 0 none) x) in
      subst P (λ i. (m.0, sym may.holds i)) (λ may' s r wide here small. (
        left_with (journal k) m.0,
        gives,
        tt,
        returned s r id m.0 k more may' here,
        λ k' e. let same : k ≡ k' = cc (ap (value_or None) e) in λ i. (left_with (journal (same i)) m.0, []),
      )) may

  pub counts : (slots id : ℕ) (v : V) (held : List (ℕ × Option K)) → Allows Rule slots id (v, held) 2 (λ n. n) (ChecksPassCount (step slots 2 0 0 none) (v, held))
  counts slots id v held s r wide here small =
      let f = r.each id v here in
      let n : ℕ = get_or s.words 2 0 in
      let count : n ≡ r.numbers = r.count_word in
      let w : V = knows (min n most_passes) v.spare v in
      let up_to = f.known in (
        w,
        keeps,
        tt,
        unmoved s r 2 id held v w s.homes here r.slot refl refl (stops_more v.basis v.known (min n most_passes) (omega arith)) (placed_else s (r.holder r.served) id r.log v w here (λ i. i) s.words r.placed) (λ j u ne at. (r.each j u at).filling) record {
          queued = f.queued;
          inside = f.inside;
          filling = f.filling;
          prefix = f.prefix;
          lawful_seen = f.lawful_seen;
          own = f.own;
          first_once = f.first_once;
          spare = f.spare;
          known = omega arith;
        },
        (refl, omega arith),
      )

  numbered_at : (s : St) (r : Rule s) (slots id : ℕ) (v : V) (held : List (ℕ × Option K)) (g : G) → v.basis ≡ Some g → v.known < most_passes → v.spare ≡ None → get_elem? s.views id ≡ some v → Dec (get_or s.words 2 0 < most_passes)
      → (w : V) × (a : Act (Option K)) × Valid s.homes held a × Rule (stepped s 2 ((get_or s.words 2 0 + 1) % turn) id held w a) × DrawsPassNumber (step slots 2 1 0 none) (v, held) (get_or s.words 2 0) (w, carried_after held a)
  numbered_at s r slots id v held g based open_still no_spare here (yes room) =
      let f = r.each id v here in
      let n : ℕ = get_or s.words 2 0 in
      let count : n ≡ r.numbers = r.count_word in
      let long = r.wide in
      let w : V = knows (n + 1) (Some n) v in
      let one_claim_now : claims v ≡ 1 = ap taken_by no_spare in
      let x = total_set waits s.views id v w here in
      let y = total_set claims s.views id v w here in
      let z = total_set stops s.views id v w here in
      let no_stop : stops v ≡ 0 = ap (λ (o : Option G). stopped o v.known) based ∙ omega arith in
      let all = r.queue in
      let new_word : (n + 1) % turn ≡ r.numbers + 1 = mod-eq_of_lt (omega arith) ∙ ap (λ (k : ℕ). k + 1) count in
      let unused : entries_by n r.log ≡ [] = r.unborn n (omega arith) in (
        w,
        keeps,
        tt,
        record {
          drawn = r.drawn;
          served = r.served;
          holder = r.holder;
          owner = put r.owner n id;
          log = r.log;
          numbers = r.numbers + 1;
          wide = length-set s.words 2 _ ∙ long;
          slot = r.slot;
          ticket_word = get_or-set_other s.words 2 0 _ 0 (λ e. omega arith) ∙ r.ticket_word;
          serving_word = get_or-set_other s.words 2 1 _ 0 (λ e. omega arith) ∙ r.serving_word;
          count_word = get_or-set_same s.words 2 _ 0 (omega arith) ∙ new_word;
          queue = omega arith;
          few = let b = r.few in let c = r.numbered in omega arith;
          numbered = let b = r.numbered in omega arith;
          ends = let b = r.ends in omega arith;
          placed = placed_else s (r.holder r.served) id r.log v w here (λ i. i) (set s.words 2 ((n + 1) % turn)) r.placed;
          unborn = λ m past. r.unborn m (omega arith);
          lawful_log = r.lawful_log;
          each = each_set (PassHolds lawful on r.served r.drawn (r.numbers + 1) r.holder (put r.owner n id) r.log (Vacant s.homes)) s.views id w
              record {
                queued = f.queued;
                inside = f.inside;
                filling = f.filling;
                prefix = f.prefix;
                lawful_seen = f.lawful_seen;
                own = λ m es h. let o = f.own m es h in let below = o.1 in (put_else r.owner n id m (λ e. omega arith) ∙ o.0, omega arith, o.2);
                first_once = f.first_once;
                spare = λ m e. let same : n ≡ m = cc e in (
                  ap (put r.owner n id) (sym same) ∙ put_here r.owner n id,
                  omega arith,
                  ap (λ (k : ℕ). entries_by k r.log) (sym same) ∙ unused,
                  λ es h. let below = (f.own m es h).1 in absurd (omega arith),
                );
                known = omega arith;
              }
              (λ j u ne at. let g = r.each j u at in record {
                queued = g.queued;
                inside = g.inside;
                filling = g.filling;
                prefix = g.prefix;
                lawful_seen = g.lawful_seen;
                own = λ m es h. let o = g.own m es h in let below = o.1 in (put_else r.owner n id m (λ e. omega arith) ∙ o.0, omega arith, o.2);
                first_once = g.first_once;
                spare = λ m e. let o = g.spare m e in let below = o.1 in (put_else r.owner n id m (λ e. omega arith) ∙ o.0, omega arith, o.2, o.3);
                known = let b = g.known in omega arith;
              });
        },
        ((λ _. (refl, nil_of_append (entries_by n v.seen) (entries_by n f.prefix.0) (sym (entries_by-append n v.seen f.prefix.0) ∙ (ap (entries_by n) (sym f.prefix.1) ∙ unused)), let up_to = f.known in omega arith)), (λ past. absurd (omega arith))),
      )
  numbered_at s r slots id v held g based open_still no_spare here (no full) =
      let f = r.each id v here in
      let n : ℕ = get_or s.words 2 0 in
      let count : n ≡ r.numbers = r.count_word in
      let long = r.wide in
      let past : most_passes ≤ n = omega arith in
      let w : V = knows most_passes v.spare v in
      let x = total_set waits s.views id v w here in
      let y = total_set claims s.views id v w here in
      let z = total_set stops s.views id v w here in
      let no_stop : stops v ≡ 0 = ap (λ (o : Option G). stopped o v.known) based ∙ omega arith in
      let one_stop_now : stops w ≡ 1 = ap (λ (o : Option G). stopped o most_passes) based ∙ omega arith in
      let all = r.queue in
      let bound = few_numbers s r in
      let new_word : (n + 1) % turn ≡ r.numbers + 1 = mod-eq_of_lt (omega arith) ∙ ap (λ (k : ℕ). k + 1) count in (
        w,
        keeps,
        tt,
        record {
          drawn = r.drawn;
          served = r.served;
          holder = r.holder;
          owner = r.owner;
          log = r.log;
          numbers = r.numbers + 1;
          wide = length-set s.words 2 _ ∙ long;
          slot = r.slot;
          ticket_word = get_or-set_other s.words 2 0 _ 0 (λ e. omega arith) ∙ r.ticket_word;
          serving_word = get_or-set_other s.words 2 1 _ 0 (λ e. omega arith) ∙ r.serving_word;
          count_word = get_or-set_same s.words 2 _ 0 (omega arith) ∙ new_word;
          queue = omega arith;
          few = let b = r.few in omega arith;
          numbered = let b = r.numbered in omega arith;
          ends = let b = r.ends in omega arith;
          placed = placed_else s (r.holder r.served) id r.log v w here (λ i. i) (set s.words 2 ((n + 1) % turn)) r.placed;
          unborn = λ m far. r.unborn m (omega arith);
          lawful_log = r.lawful_log;
          each = each_set (PassHolds lawful on r.served r.drawn (r.numbers + 1) r.holder r.owner r.log (Vacant s.homes)) s.views id w
              record {
                queued = f.queued;
                inside = f.inside;
                filling = f.filling;
                prefix = f.prefix;
                lawful_seen = f.lawful_seen;
                own = λ m es h. let o = f.own m es h in let below = o.1 in (o.0, omega arith, o.2);
                first_once = f.first_once;
                spare = λ m e. let o = f.spare m e in let below = o.1 in (o.0, omega arith, o.2, o.3);
                known = omega arith;
              }
              (λ j u ne at. let g = r.each j u at in record {
                queued = g.queued;
                inside = g.inside;
                filling = g.filling;
                prefix = g.prefix;
                lawful_seen = g.lawful_seen;
                own = λ m es h. let o = g.own m es h in let below = o.1 in (o.0, omega arith, o.2);
                first_once = g.first_once;
                spare = λ m e. let o = g.spare m e in let below = o.1 in (o.0, omega arith, o.2, o.3);
                known = let b = g.known in omega arith;
              });
        },
        ((λ room. absurd (omega arith)), (λ _. refl)),
      )

  pub numbers : (slots id : ℕ) (v : V) (held : List (ℕ × Option K)) (g : G) → v.basis ≡ Some g → v.known < most_passes → v.spare ≡ None → Allows Rule slots id (v, held) 2 (λ n. (n + 1) % turn) (DrawsPassNumber (step slots 2 1 0 none) (v, held))
  numbers slots id v held g based open_still no_spare s r wide here small = numbered_at s r slots id v held g based open_still no_spare here (dec_lt (get_or s.words 2 0) most_passes)

  -- the first value's pass takes the empty slot
  pub fills : (slots id : ℕ) (v : V) → v.stage ≡ Filling → Allows Rule slots id (v, []) 1 (λ n. n) (BringsFirst (step slots 1 0 0 none) (v, []))
  fills slots id v filling s r wide here small =
      let f = r.each id v here in
      let q = subst (Queued r.holder r.served r.drawn id) filling f.queued in
      let seat : r.holder r.served ≡ id = ap r.holder (sym q.0) ∙ q.2 in
      let w : V = staged (Inside 0) v in (
        w,
        takes 0 None,
        f.filling filling,
        unmoved s r 1 id [] v w (set s.homes 0 none) here (length-set s.homes 0 none ∙ r.slot) (ap tickets (sym filling)) refl (omega arith)
            (inr (w, ap (get_elem? (set s.views id w)) seat ∙ set_here s.views id w (at_below s.views id v here), tt))
            (λ j u ne at e. absurd (ne (sym (inside_holder r.holder r.served r.drawn j u.stage (r.each j u at).queued (subst IsInside (sym e) tt)).0 ∙ seat)))
            record {
              queued = q;
              inside = λ i. f.inside (subst IsInside (sym filling) tt);
              filling = λ e. absurd (cc e);
              prefix = f.prefix;
              lawful_seen = f.lawful_seen;
              own = f.own;
              first_once = f.first_once;
              spare = f.spare;
              known = f.known;
            },
        refl,
      )

  pub fills_from : (slots id : ℕ) (m : Me (Option K) V) → m.0.stage ≡ Filling → m.1 ≡ [] → Allows Rule slots id m 1 (λ n. n) (BringsFirst (step slots 1 0 0 none) m)
  fills_from slots id m filling empty = subst (λ (c : List (ℕ × Option K)). Allows Rule slots id (m.0, c) 1 (λ n. n) (BringsFirst (step slots 1 0 0 none) (m.0, c))) (sym empty) (fills slots id m.0 filling)

  abbrev Founded : ℕ → V → Type 0
  Founded = PassHolds lawful on 0 1 1 (λ _. 0) (λ _. 0) [] (Vacant {K = K} (some None ∷ []))

  founder_fits : lawful on [] → Founded 0 (founder on)
  founder_fits good = record {
    queued = (refl, omega arith, refl);
    inside = λ i. refl;
    filling = λ e. refl;
    prefix = ([], refl);
    lawful_seen = λ g e. (sym (cc e), good);
    own = λ n es h. ⊎_elim (λ (t : (0 ≡ n) × ([] ≡ es)). let z = t.0 in (refl, omega arith, t.1)) (λ (t : ⊥). absurd t) h;
    first_once = λ n es ms e fs h. absurd (subst (λ (l : List (ℕ × List E)). Made l n fs) (sym (ap tail_or e)) h);
    spare = λ n e. absurd (cc e);
    known = omega arith;
  }

  opens_each : lawful on [] → (id : ℕ) (v : V) → get_elem? (founder on ∷ []) id ≡ some v → Founded id v
  opens_each good zero v e = subst (λ (x : V). Founded 0 x) (some-injective (founder on) v e) (founder_fits good)
  opens_each good (suc id) v e = absurd (some-ne-none v (sym e))

  pub opens : lawful on [] → Rule (opening (1 ∷ 0 ∷ 1 ∷ []) (None ∷ []) (founder on))
  opens lawful_now = record {
    drawn = 1;
    served = 0;
    holder = λ _. 0;
    owner = λ _. 0;
    log = [];
    numbers = 1;
    wide = refl;
    slot = refl;
    ticket_word = refl;
    serving_word = refl;
    count_word = refl;
    queue = refl;
    few = omega arith;
    numbered = omega arith;
    ends = omega arith;
    placed = inr (founder on, refl, tt);
    unborn = λ n _. refl;
    lawful_log = lawful_now;
    each = opens_each lawful_now;
  }

  -- what a half says
  pub halves : (id : ℕ) (v : V) (n : ℕ) → v.spare ≡ Some n → Splits Rule id v (kept_half v) (new_half v)
  halves id v n spare_is s r here =
      let f = r.each id v here in
      let w : V = kept_half v in
      let u : V = new_half v in
      let mid : List V = set s.views id w in
      let last : ℕ = length mid in
      let two : claims v ≡ 2 = ap taken_by spare_is in
      let x = total_set waits s.views id v w here in
      let y = total_set claims s.views id v w here in
      let z = total_set stops s.views id v w here in
      let x' = total_snoc waits mid u in
      let y' = total_snoc claims mid u in
      let z' = total_snoc stops mid u in
      let same_length : last ≡ length s.views = length-set s.views id w in
      let its = f.spare n spare_is in
      let its_made : u.made ≡ (n, []) ∷ [] = ap alone spare_is in
      record {
        drawn = r.drawn;
        served = r.served;
        holder = r.holder;
        owner = put r.owner n last;
        log = r.log;
        numbers = r.numbers;
        wide = r.wide;
        slot = r.slot;
        ticket_word = r.ticket_word;
        serving_word = r.serving_word;
        count_word = r.count_word;
        queue = let b = r.queue in omega arith;
        few = let b = r.few in omega arith;
        numbered = let b = r.numbered in omega arith;
        ends = let b = r.ends in omega arith;
        placed = ⊎_elim (λ (p : (k : K) × (get_elem? s.homes 0 ≡ some (some (Some k))) × (journal k ≡ r.log) × (basis k ≡ on)). inl p)
            (λ (p : (t : V) × (get_elem? mid (r.holder r.served) ≡ some t) × IsInside t.stage). inr (p.0, at_longer mid (u ∷ []) (r.holder r.served) p.0 p.1, p.2))
            (placed_else s (r.holder r.served) id r.log v w here (λ i. i) s.words r.placed);
        unborn = r.unborn;
        lawful_log = r.lawful_log;
        each = λ j t at. ⊎_elim
            (λ (e : get_elem? mid j ≡ some t). each_set (PassHolds lawful on r.served r.drawn r.numbers r.holder (put r.owner n last) r.log (Vacant s.homes)) s.views id w
            record {
              queued = f.queued;
              inside = f.inside;
              filling = f.filling;
              prefix = f.prefix;
              lawful_seen = f.lawful_seen;
              own = λ m es h. let o = f.own m es h in (put_else r.owner n last m (λ i. its.3 es (subst (λ (k : ℕ). Made v.made k es) i h)) ∙ o.0, o.1, o.2);
              first_once = f.first_once;
              spare = λ m i. absurd (cc i);
              known = f.known;
            }
            (λ i q ne is. let g = r.each i q is in record {
              queued = g.queued;
              inside = g.inside;
              filling = g.filling;
              prefix = g.prefix;
              lawful_seen = g.lawful_seen;
              own = λ m es h. let o = g.own m es h in (put_else r.owner n last m (λ same. ne (sym o.0 ∙ (ap r.owner same ∙ its.0))) ∙ o.0, o.1, o.2);
              first_once = g.first_once;
              spare = λ m h. let o = g.spare m h in (put_else r.owner n last m (λ same. ne (sym o.0 ∙ (ap r.owner same ∙ its.0))) ∙ o.0, o.1, o.2, o.3);
              known = g.known;
            }) j t e)
            (λ (e : (j ≡ last) × (u ≡ t)). subst (λ (p : ℕ × V). PassHolds lawful on r.served r.drawn r.numbers r.holder (put r.owner n last) r.log (Vacant s.homes) p.0 p.1) (λ i. (sym e.0 i, e.1 i)) record {
              queued = tt;
              inside = λ i. absurd i;
              filling = λ e. absurd (cc e);
              prefix = f.prefix;
              lawful_seen = f.lawful_seen;
              own = λ m es h. ⊎_elim (λ (q : (n ≡ m) × ([] ≡ es)). (
                ap (put r.owner n last) (sym q.0) ∙ put_here r.owner n last,
                subst (λ (k : ℕ). k < r.numbers) q.0 its.1,
                ap (λ (k : ℕ). entries_by k r.log) (sym q.0) ∙ (its.2 ∙ q.1),
              )) (λ (q : ⊥). absurd q) (subst (λ (l : List (ℕ × List E)). Made l m es) its_made h);
              first_once = λ m es ms i fs h. absurd (subst (λ (l : List (ℕ × List E)). Made l m fs) (sym (ap tail_or (sym its_made ∙ i))) h);
              spare = λ m i. absurd (cc i);
              known = f.known;
            })
            (at_snoc_where mid u t j at);
      }

  -- the longer of two beginnings is a beginning, and is lawful
  pub longer_cases : (xs ys : List (ℕ × E)) (P : List (ℕ × E) → Type 0) → P xs → P ys → P (longer xs ys)
  longer_cases xs ys P p q = elim (leb (length ys) (length xs)) as (λ b. P (cond b xs ys)) [ true ↦ p | false ↦ q ]

  moved_owner : (ℕ → ℕ) → ℕ → ℕ → ℕ → ℕ
  moved_owner owner other id n = put (λ k. k) other id (owner n)

  pub unites : (id : ℕ) (v : V) (other : ℕ) (w : V) (g h : G) → v.stage ≡ Away → w.stage ≡ Away → v.spare ≡ None → w.spare ≡ None → v.basis ≡ Some g → w.basis ≡ Some h → (n : ℕ) → IsFirst n v.made
      → Joins Rule id v other w (joined v w) spent
  unfolding moved_owner
  unites id v other w g h away away' spare_is spare_is' based based' n first s r here apart there =
      let b : V = joined v w in
      let mid : List V = set s.views id b in
      let there' : get_elem? s.views other ≡ some w = sym (set_else s.views id other b apart) ∙ there in
      let f = r.each id v here in
      let f' = r.each other w there' in
      let halfway : St = record { words = s.words; homes = s.homes; views = mid } in
      let x = total_set waits s.views id v b here in
      let y = total_set claims s.views id v b here in
      let z = total_set stops s.views id v b here in
      let x' = total_set waits mid other w (spent {E = E} {G = G}) there in
      let y' = total_set claims mid other w (spent {E = E} {G = G}) there in
      let z' = total_set stops mid other w (spent {E = E} {G = G}) there in
      let waits_w : waits w ≡ 0 = ap tickets away' in
      let claims_w : claims w ≡ 1 = ap taken_by spare_is' in
      let stops_v : stops v ≡ min 1 (v.known + 1 - most_passes) = ap (λ (o : Option G). stopped o v.known) based in
      let stops_w : stops w ≡ min 1 (w.known + 1 - most_passes) = ap (λ (o : Option G). stopped o w.known) based' in
      let stops_b : stops b ≡ min 1 (max v.known w.known + 1 - most_passes) = ap (λ (o : Option G). stopped o (max v.known w.known)) based in
      let O : ℕ → ℕ = moved_owner r.owner other id in
      let P : ℕ → V → Type 0 = PassHolds lawful on r.served r.drawn r.numbers r.holder O r.log (Vacant s.homes) in
      let kept = (λ (m : ℕ) (ne : r.owner m ≢ other). put_else (λ k. k) other id (r.owner m) ne) in
      let moves = (λ (m : ℕ) (e : r.owner m ≡ other). ap (put (λ k. k) other id) e ∙ put_here (λ k. k) other id) in
      let own_v : (m : ℕ) (es : List E) → Made v.made m es → (O m ≡ id) × (m < r.numbers) × (entries_by m r.log ≡ es) = (λ (m : ℕ) (es : List E) (i : Made v.made m es). let o = f.own m es i in (kept m (λ e. apart (sym e ∙ o.0)) ∙ o.0, o.1, o.2)) in
      let own_w : (m : ℕ) (es : List E) → Made w.made m es → (O m ≡ id) × (m < r.numbers) × (entries_by m r.log ≡ es) = (λ (m : ℕ) (es : List E) (i : Made w.made m es). let o = f'.own m es i in (moves m o.0, o.1, o.2)) in
      record {
        drawn = r.drawn;
        served = r.served;
        holder = r.holder;
        owner = O;
        log = r.log;
        numbers = r.numbers;
        wide = r.wide;
        slot = r.slot;
        ticket_word = r.ticket_word;
        serving_word = r.serving_word;
        count_word = r.count_word;
        queue = let q = r.queue in omega arith;
        few = let q = r.few in omega arith;
        numbered = let q = r.numbered in omega arith;
        ends = let q = r.ends in omega arith;
        placed = placed_else halfway (r.holder r.served) other r.log w (spent {E = E} {G = G}) there (λ i. absurd (subst IsInside away' i)) s.words
            (placed_else s (r.holder r.served) id r.log v b here (λ i. i) s.words r.placed);
        unborn = r.unborn;
        lawful_log = r.lawful_log;
        each = each_set P mid other (spent {E = E} {G = G})
            record {
              queued = tt;
              inside = λ i. absurd i;
              filling = λ e. absurd (cc e);
              prefix = (r.log, refl);
              lawful_seen = λ k e. absurd (cc e);
              own = λ m es i. absurd i;
              first_once = λ m es ms e fs i. absurd (cc e);
              spare = λ m e. absurd (cc e);
              known = omega arith;
            }
            (λ j u ne at. each_set (λ (i : ℕ) (t : V). i ≢ other → P i t) s.views id b
            (λ _. record {
              queued = f.queued;
              inside = λ i. absurd (subst IsInside away i);
              filling = λ e. absurd (cc (away, e));
              prefix = longer_cases v.seen w.seen (StartsWith r.log) f.prefix f'.prefix;
              lawful_seen = λ k e. ((f.lawful_seen k e).0, longer_cases v.seen w.seen (lawful on) (f.lawful_seen k e).1 (f'.lawful_seen h based').1);
              own = λ m es i. ⊎_elim (own_v m es) (own_w m es) (made_append v.made w.made m es i);
              first_once = λ m es ms e fs i.
                  let whole : (n, first.0) ∷ (first.1 ++ w.made) ≡ (m, es) ∷ ms = ap (λ (l : List (ℕ × List E)). l ++ w.made) (sym first.2) ∙ e in
                  ⊎_elim
                  (λ (t : Made first.1 n fs). f.first_once n first.0 first.1 first.2 fs t)
                  (λ (t : Made w.made n fs). apart (sym (f'.own n fs t).0 ∙ (f.own n first.0 (subst (λ (l : List (ℕ × List E)). Made l n first.0) (sym first.2) (inl (refl, refl)))).0))
                  (made_append first.1 w.made n fs (again_made n m first.0 es (first.1 ++ w.made) ms fs whole i));
              spare = λ m e. absurd (cc (spare_is, e));
              known = let p = f.known in let q = f'.known in omega arith;
            })
            (λ i t no at' away_from. let q = r.each i t at' in record {
              queued = q.queued;
              inside = q.inside;
              filling = q.filling;
              prefix = q.prefix;
              lawful_seen = q.lawful_seen;
              own = λ m es k. let o = q.own m es k in (kept m (λ e. away_from (sym o.0 ∙ e)) ∙ o.0, o.1, o.2);
              first_once = q.first_once;
              spare = λ m e. let o = q.spare m e in (kept m (λ k. away_from (sym o.0 ∙ k)) ∙ o.0, o.1, o.2, o.3);
              known = q.known;
            })
            j u at ne);
      }
