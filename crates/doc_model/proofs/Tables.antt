-- The facts of the table of components, through one rendering.
use Rattle.std.proofs.Common.{◌≡◌, ◌⊎◌, inl, inr, ℕ, suc, ◌<◌, ◌≤◌, nat_lt, List, [], ◌∷◌, ◌++◌, Ok, Err, Option, Some, None, Bool, true, false, ◌&&◌, ◌==◌, if◌then◌else◌, refl, sym, ap, ◌∙◌, subst, arith, true≢false}
use Rattle.std.specs.Str.{bytes_eq}
use Rattle.std.proofs.lemmas.Bool.Decides.{Decides-eqb}
use Rattle.std.proofs.lemmas.Slice.Eq.{bytes_eq-Decides}
use Rattle.value_core.specs.Value.{Value, Assigns, same, same_assigns}
use Rattle.ast_core.specs.Syntax.{Nodes}
use Rattle.doc_model.specs.Environment.{Component, Env, find}
use Rattle.doc_model.specs.Evaluation.{Res, then_do, on_res}
use Rattle.value_core.specs.declared.raise.Raise.TheVariants.{Duplicate, Range}
use Rattle.doc_model.specs.Trace.{Items}
use Rattle.doc_model.specs.Left.{Containers, Based}
use Rattle.doc_model.specs.Components.{Part, parts, part_at, AllOf, Lives, Distinct, Follows}
use Rattle.doc_model.specs.Scopes.{Site, id_of}
use Rattle.doc_model.specs.Tracing.{trace}
use Rattle.diff_tree.specs.Client.{among}
use Rattle.doc_model.specs.Walk.{Owner, Views, Walk, component_with, owner_of, with_changed, begin, go_on, reach_found, reach, pass, swept, at_end_of_walk, in_state, render_state}
use Rattle.doc_model.specs.Table.{IsTable, WasThere, IsNew, Honest, SettledAs, LeftBehind, NextFollows}
use Rattle.doc_model.proofs.Results.{On}
use Rattle.doc_model.proofs.Sames.{both_true, same_sound}
use Rattle.doc_model.proofs.Origins.{Origin}
use Rattle.doc_model.proofs.Pages.{at_all, origins}
use Rattle.doc_model.proofs.Passes.{test_self, find_appended}
use Rattle.doc_model.proofs.Threads.{Thread, numbers, pass_through}

abbrev test : List ℕ → Value → Component → Bool
test m i c = bytes_eq m c.module_name && same i c.id

test_true : (m : List ℕ) (i : Value) (c : Component) → test m i c ≡ true → (m ≡ c.module_name) × (i ≡ c.id)
test_true m i c h = let t = both_true (bytes_eq m c.module_name) (same i c.id) h in ((bytes_eq-Decides m c.module_name).0 t.0, same_sound i c.id t.1)

test_of : (m : List ℕ) (i : Value) (c : Component) → m ≡ c.module_name → i ≡ c.id → test m i c ≡ true
test_of m i c e f = ap (λ x. bytes_eq x c.module_name && same i c.id) e ∙ ap (λ x. bytes_eq c.module_name c.module_name && same x c.id) f ∙ test_self c.module_name c.id

by_bool : {A : Type 0} (b : Bool) → (b ≡ true → A) → (b ≡ false → A) → A
by_bool true h k = h refl
by_bool false h k = k refl

-- what is found
pub found_is : (m : List ℕ) (i : Value) (cs : List Component) (c : Component) → find m i cs ≡ Some c → Lives c cs × (m ≡ c.module_name) × (i ≡ c.id)
found_is m i [] c h = cc
found_is m i (d ∷ cs) c h = by_test (test m i d) refl h (found_is m i cs c)
  where
    by_test : (b : Bool) → test m i d ≡ b → (if b then Some d else find m i cs) ≡ Some c → (find m i cs ≡ Some c → Lives c cs × (m ≡ c.module_name) × (i ≡ c.id)) → Lives c (d ∷ cs) × (m ≡ c.module_name) × (i ≡ c.id)
    by_test true t k r = let q : d ≡ c = cc in let x = test_true m i d t in (inl (sym q), x.0 ∙ ap (λ y. y.module_name) q, x.1 ∙ ap (λ y. y.id) q)
    by_test false t k r = let x = r k in (inr x.0, x.1, x.2)

-- each component is what its pair finds
pub finds_itself : (n : ℕ) (cs : List Component) (c : Component) → IsTable n cs → Lives c cs → find c.module_name c.id cs ≡ Some c
finds_itself n [] c t l = absurd l
finds_itself n (d ∷ cs) c t (inl e) = ap (λ b. if b then Some d else find c.module_name c.id cs) (test_of c.module_name c.id d (ap (λ x. x.module_name) e) (ap (λ x. x.id) e)) ∙ ap Some (sym e)
finds_itself n (d ∷ cs) c t (inr l) = by_test (test c.module_name c.id d) refl (finds_itself n cs c t.2 l)
  where
    by_test : (b : Bool) → test c.module_name c.id d ≡ b → find c.module_name c.id cs ≡ Some c → (if b then Some d else find c.module_name c.id cs) ≡ Some c
    by_test true e k = let x = test_true c.module_name c.id d e in absurd (true≢false (sym (test_of d.module_name d.id c (sym x.0) (sym x.1)) ∙ (t.1 c l).1))
    by_test false e k = k

pub is_below : (n : ℕ) (cs : List Component) (c : Component) → IsTable n cs → Lives c cs → c.number < n
is_below n [] c t l = absurd l
is_below n (d ∷ cs) c t (inl e) = subst (λ x. x.number < n) (sym e) t.0
is_below n (d ∷ cs) c t (inr l) = is_below n cs c t.2 l

pub one_number : (n : ℕ) (cs : List Component) (c d : Component) → IsTable n cs → Lives c cs → Lives d cs → c.number ≡ d.number → c ≡ d
one_number n [] c d t l k e = absurd l
one_number n (g ∷ cs) c d t (inl p) (inl q) e = p ∙ sym q
one_number n (g ∷ cs) c d t (inl p) (inr q) e = absurd ((t.1 d q).0 (sym e ∙ ap (λ x. x.number) p))
one_number n (g ∷ cs) c d t (inr p) (inl q) e = absurd ((t.1 c p).0 (e ∙ ap (λ x. x.number) q))
one_number n (g ∷ cs) c d t (inr p) (inr q) e = one_number n cs c d t.2 p q e

table_wider : (n m : ℕ) (cs : List Component) → n ≤ m → IsTable n cs → IsTable m cs
table_wider n m [] h t = tt
table_wider n m (c ∷ cs) h t = (let x = t.0 in omega arith, t.1, table_wider n m cs h t.2)

-- sweeping
lives_swept : (ms : List ℕ) (cs : List Component) (c : Component) → Lives c (swept ms cs) → Lives c cs
lives_swept ms [] c l = l
lives_swept ms (d ∷ cs) c l = by_test (among d.number ms) l (lives_swept ms cs c)
  where
    by_test : (b : Bool) → Lives c (if b then d ∷ swept ms cs else swept ms cs) → (Lives c (swept ms cs) → Lives c cs) → Lives c (d ∷ cs)
    by_test true (inl e) r = inl e
    by_test true (inr k) r = inr (r k)
    by_test false k r = inr (r k)

table_swept : (n : ℕ) (ms : List ℕ) (cs : List Component) → IsTable n cs → IsTable n (swept ms cs)
table_swept n ms [] t = tt
table_swept n ms (c ∷ cs) t = by_test (among c.number ms) (table_swept n ms cs t.2)
  where
    by_test : (b : Bool) → IsTable n (swept ms cs) → IsTable n (if b then c ∷ swept ms cs else swept ms cs)
    by_test true r = (t.0, λ d l. t.1 d (lives_swept ms cs d l), r)
    by_test false r = r

-- a new one at the end
lives_appended : (cs : List Component) (c d : Component) → Lives d (cs ++ (c ∷ [])) → Lives d cs ⊎ (d ≡ c)
lives_appended [] c d (inl e) = inr e
lives_appended [] c d (inr l) = absurd l
lives_appended (g ∷ cs) c d (inl e) = inl (inl e)
lives_appended (g ∷ cs) c d (inr l) = by_sum (lives_appended cs c d l)
  where
    by_sum : Lives d cs ⊎ (d ≡ c) → Lives d (g ∷ cs) ⊎ (d ≡ c)
    by_sum (inl k) = inl (inr k)
    by_sum (inr e) = inr e

table_appended : (cs : List Component) (c : Component) → IsTable c.number cs → find c.module_name c.id cs ≡ None → IsTable (suc c.number) (cs ++ (c ∷ []))
table_appended [] c t h = (omega arith, λ d l. absurd l, tt)
table_appended (g ∷ cs) c t h = by_test (test c.module_name c.id g) refl h (λ k. table_appended cs c t.2 k)
  where
    others : test c.module_name c.id g ≡ false → (d : Component) → Lives d cs ⊎ (d ≡ c) → (d.number ≡ g.number → ⊥) × (test g.module_name g.id d ≡ false)
    others e d (inl l) = t.1 d l
    others e d (inr q) = (
      λ k. let x = t.0 in let y = ap (λ z. z.number) q in absurd (omega arith),
      by_bool {A = test g.module_name g.id d ≡ false} (test g.module_name g.id d)
          (λ k. let x = test_true g.module_name g.id d k in
          absurd (true≢false (sym (test_of c.module_name c.id g (sym (x.0 ∙ ap (λ z. z.module_name) q)) (sym (x.1 ∙ ap (λ z. z.id) q))) ∙ e)))
          (λ k. k),
    )

    by_test : (b : Bool) → test c.module_name c.id g ≡ b → (if b then Some g else find c.module_name c.id cs) ≡ None → (find c.module_name c.id cs ≡ None → IsTable (suc c.number) (cs ++ (c ∷ []))) → IsTable (suc c.number) ((g ∷ cs) ++ (c ∷ []))
    by_test true e k r = cc
    by_test false e k r = (let x = t.0 in omega arith, λ d l. others e d (lives_appended cs c d l), r k)

-- a changed one in its place
lives_changed : (m : List ℕ) (i : Value) (c : Component) (cs : List Component) (d : Component) → Lives d (with_changed m i c cs) → (d ≡ c) ⊎ Lives d cs
lives_changed m i c [] d l = inr l
lives_changed m i c (g ∷ cs) d l = by_test (test m i g) l (lives_changed m i c cs d)
  where
    by_sum : (d ≡ c) ⊎ Lives d cs → (d ≡ c) ⊎ Lives d (g ∷ cs)
    by_sum (inl e) = inl e
    by_sum (inr k) = inr (inr k)

    by_test : (b : Bool) → Lives d (if b then c ∷ cs else g ∷ with_changed m i c cs) → (Lives d (with_changed m i c cs) → (d ≡ c) ⊎ Lives d cs) → (d ≡ c) ⊎ Lives d (g ∷ cs)
    by_test true (inl e) r = inl e
    by_test true (inr k) r = inr (inr k)
    by_test false (inl e) r = inr (inl e)
    by_test false (inr k) r = by_sum (r k)

table_changed : (n : ℕ) (m : List ℕ) (i : Value) (cs : List Component) (c d : Component) → IsTable n cs → find m i cs ≡ Some d → c.number ≡ d.number → c.module_name ≡ m → c.id ≡ i → IsTable n (with_changed m i c cs)
table_changed n m i [] c d t h en em ei = tt
table_changed n m i (g ∷ cs) c d t h en em ei = by_test (test m i g) refl h (λ k. table_changed n m i cs c d t.2 k en em ei)
  where
    others : find m i cs ≡ Some d → (e : Component) → (e ≡ c) ⊎ Lives e cs → (e.number ≡ g.number → ⊥) × (test g.module_name g.id e ≡ false)
    others k e (inr l) = t.1 e l
    others k e (inl q) =
        let f = found_is m i cs d k in
        let x = t.1 d f.0 in (
          λ y. x.0 (sym en ∙ sym (ap (λ z. z.number) q) ∙ y),
          ap (λ z. bytes_eq g.module_name z && same g.id e.id) (ap (λ z. z.module_name) q ∙ em ∙ f.1) ∙ ap (λ z. bytes_eq g.module_name d.module_name && same g.id z) (ap (λ z. z.id) q ∙ ei ∙ f.2) ∙ x.1,
        )

    by_test : (b : Bool) → test m i g ≡ b → (if b then Some g else find m i cs) ≡ Some d → (find m i cs ≡ Some d → IsTable n (with_changed m i c cs)) → IsTable n (if b then c ∷ cs else g ∷ with_changed m i c cs)
    by_test true e k r =
        let q : g ≡ d = cc in
        let x = test_true m i g e in
        let number : c.number ≡ g.number = en ∙ sym (ap (λ z. z.number) q) in (
          let y = t.0 in omega arith,
          λ z l. let w = t.1 z l in (λ u. w.0 (u ∙ number), ap (λ v. bytes_eq v z.module_name && same c.id z.id) (em ∙ x.0) ∙ ap (λ v. bytes_eq g.module_name z.module_name && same v z.id) (ei ∙ x.1) ∙ w.1),
          t.2,
        )
    by_test false e k r = (t.0, λ z l. others k z (lives_changed m i c cs z l), r k)

none_before : (m : List ℕ) (i : Value) (cs : List Component) (c : Component) → find m i (cs ++ (c ∷ [])) ≡ None → find m i cs ≡ None
none_before m i cs c h = by_option (find m i cs) refl
  where
    by_option : (o : Option Component) → find m i cs ≡ o → o ≡ None
    by_option None e = refl
    by_option (Some d) e = let x = find_appended m i cs c d e in cc

none_unchanged : (m : List ℕ) (i : Value) (c : Component) (m' : List ℕ) (i' : Value) (cs : List Component) → c.module_name ≡ m → c.id ≡ i → find m' i' (with_changed m i c cs) ≡ None → find m' i' cs ≡ None
none_unchanged m i c m' i' [] em ei h = refl
none_unchanged m i c m' i' (g ∷ cs) em ei h = by_test (test m i g) refl h (λ k. none_unchanged m i c m' i' cs em ei k)
  where
    kept : (b : Bool) → (if b then Some g else find m' i' (with_changed m i c cs)) ≡ None → (find m' i' (with_changed m i c cs) ≡ None → find m' i' cs ≡ None) → (if b then Some g else find m' i' cs) ≡ None
    kept true k r = cc
    kept false k r = r k

    first : (b : Bool) → (if b then Some c else find m' i' cs) ≡ None → (if b then Some g else find m' i' cs) ≡ None
    first true k = cc
    first false k = k

    by_test : (b : Bool) → test m i g ≡ b → find m' i' (if b then c ∷ cs else g ∷ with_changed m i c cs) ≡ None → (find m' i' (with_changed m i c cs) ≡ None → find m' i' cs ≡ None) → find m' i' (g ∷ cs) ≡ None
    by_test true e k r =
        let x = test_true m i g e in
        let z : test m' i' c ≡ test m' i' g = ap (λ y. bytes_eq m' y && same i' c.id) (em ∙ x.0) ∙ ap (λ y. bytes_eq m' g.module_name && same i' y) (ei ∙ x.1) in
        first (test m' i' g) (ap (λ b. if b then Some c else find m' i' cs) (sym z) ∙ k)
    by_test false e k r = kept (test m' i' g) k r

-- no number is met twice
abbrev NoRepeat : List ℕ → Type 0
NoRepeat [] = Unit {0}
NoRepeat (n ∷ ns) = (among n ns ≡ false) × NoRepeat ns

abbrev onto : List ℕ → List ℕ → List ℕ
onto [] ms = ms
onto (n ∷ ns) ms = onto ns (n ∷ ms)

onto-append : (ns ms xs : List ℕ) → onto (ns ++ ms) xs ≡ onto ms (onto ns xs)
onto-append [] ms xs = refl
onto-append (n ∷ ns) ms xs = onto-append ns ms (n ∷ xs)

repeat_back : (ns ms : List ℕ) → NoRepeat (onto ns ms) → NoRepeat ms
repeat_back [] ms h = h
repeat_back (n ∷ ns) ms h = (repeat_back ns (n ∷ ms) h).1

not_among : (n m : ℕ) (ms : List ℕ) → among n (m ∷ ms) ≡ false → (n ≡ m → ⊥) × (among n ms ≡ false)
not_among n m ms h = by_test (n == m) refl h
  where
    by_test : (b : Bool) → (n == m) ≡ b → (if b then true else among n ms) ≡ false → (n ≡ m → ⊥) × (among n ms ≡ false)
    by_test true e k = absurd (true≢false k)
    by_test false e k = (λ q. true≢false (sym ((Decides-eqb n m).1 q) ∙ e), k)

distinct_of : (ps : List Part) (ms : List ℕ) → NoRepeat (onto (numbers ps) ms) → Distinct ps × AllOf (λ p. among p.number ms ≡ false) ps
distinct_of [] ms h = (tt, tt)
distinct_of (p ∷ ps) ms h =
    let r = distinct_of ps (p.number ∷ ms) h in
    ((apart ps r.1, r.0), ((repeat_back (numbers ps) (p.number ∷ ms) h).0, rest ps r.1))
  where
    apart : (qs : List Part) → AllOf (λ q. among q.number (p.number ∷ ms) ≡ false) qs → AllOf (λ q. q.number ≡ p.number → ⊥) qs
    apart [] x = tt
    apart (q ∷ qs) x = ((not_among q.number p.number ms x.0).0, apart qs x.1)

    rest : (qs : List Part) → AllOf (λ q. among q.number (p.number ∷ ms) ≡ false) qs → AllOf (λ q. among q.number ms ≡ false) qs
    rest [] x = tt
    rest (q ∷ qs) x = ((not_among q.number p.number ms x.0).1, rest qs x.1)

-- what holds throughout a pass that began with these components
record Sound {X : Type 0} (n₀ : ℕ) (cs : List Component) (s : Walk X) : Type 0 where
  pub table : IsTable s.next s.components
  pub met_below : (n : ℕ) → among n s.met ≡ true → n < s.next
  pub distinct : NoRepeat s.met
  pub from : (d : Component) → Lives d s.components → WasThere cs d ⊎ IsNew n₀ cs d
  pub still : (m : List ℕ) (i : Value) → find m i s.components ≡ None → find m i cs ≡ None
  pub grows : n₀ ≤ s.next

among_either : (n m : ℕ) (ms : List ℕ) → among n (m ∷ ms) ≡ true → (n ≡ m) ⊎ (among n ms ≡ true)
among_either n m ms h = by_test (n == m) refl h
  where
    by_test : (b : Bool) → (n == m) ≡ b → (if b then true else among n ms) ≡ true → (n ≡ m) ⊎ (among n ms ≡ true)
    by_test true e k = inl ((Decides-eqb n m).0 e)
    by_test false e k = inr k

module _ {X : Type 0} (views : Views X) (honest : Honest views) (n₀ : ℕ) (cs₀ : List Component) where
  abbrev Goes : Walk X → List ℕ → Walk X → Type 0
  Goes s ns t = Sound n₀ cs₀ s → Sound n₀ cs₀ t × (t.met ≡ onto ns s.met)

  abbrev Reaches : Walk X → Res (Component × Walk X) → Type 0
  Reaches s r = On (λ p. Sound n₀ cs₀ p.1 × (p.1.met ≡ p.0.number ∷ s.met)) r

  below_more : (s : Walk X) (k : ℕ) → Sound n₀ cs₀ s → k < s.next → (n : ℕ) → among n (k ∷ s.met) ≡ true → n < s.next
  below_more s k h l n e = by_sum (among_either n k s.met e)
    where
      by_sum : (n ≡ k) ⊎ (among n s.met ≡ true) → n < s.next
      by_sum (inl q) = omega arith
      by_sum (inr q) = h.met_below n q

  begin_goes : (m : List ℕ) (i : Value) (as' : Assigns) (s : Walk X) → Sound n₀ cs₀ s → find m i s.components ≡ None → Reaches s (begin views m i as' s)
  begin_goes m i as' s h none = by_limit (nat_lt s.next 4294967296)
    where
      sound : (o : Owner) (r : X) → views.mounted m s.next as' s.rest ≡ Ok (o, r)
          → Sound n₀ cs₀ (record { components = s.components ++ (component_with s.next m i as' o ∷ []); met = s.next ∷ s.met; next = suc s.next; rest = r })
      sound o r e =
          let c = component_with s.next m i as' o in
          record {
            table = table_appended s.components c h.table none;
            met_below = λ n k. by_sum n (among_either n s.next s.met k);
            distinct = (by_bool {A = among s.next s.met ≡ false} (among s.next s.met) (λ k. absurd (let x = h.met_below s.next k in omega arith)) (λ k. k), h.distinct);
            from = λ d l. by_place d (lives_appended s.components c d l);
            still = λ m' i' k. h.still m' i' (none_before m' i' s.components c k);
            grows = let x = h.grows in omega arith;
          }
        where
          by_sum : (n : ℕ) → (n ≡ s.next) ⊎ (among n s.met ≡ true) → n < suc s.next
          by_sum n (inl q) = omega arith
          by_sum n (inr q) = let x = h.met_below n q in omega arith

          by_place : (d : Component) → Lives d s.components ⊎ (d ≡ component_with s.next m i as' o) → WasThere cs₀ d ⊎ IsNew n₀ cs₀ d
          by_place d (inl l) = h.from d l
          by_place d (inr q) = subst (λ x. WasThere cs₀ x ⊎ IsNew n₀ cs₀ x) (sym q) (inr (h.grows, h.still m i none, λ x. honest.begins_empty m s.next as' s.rest o r e x))

      made : (r : Res (Owner × X)) → views.mounted m s.next as' s.rest ≡ r
          → Reaches s (on_res (λ p. (component_with s.next m i as' p.0, record { components = s.components ++ (component_with s.next m i as' p.0 ∷ []); met = s.next ∷ s.met; next = suc s.next; rest = p.1 })) r)
      made (Ok p) e = (sound p.0 p.1 e, refl)
      made (Err x) e = tt

      by_limit : (b : Bool) → Reaches s (if b then on_res (λ p. (component_with s.next m i as' p.0, record { components = s.components ++ (component_with s.next m i as' p.0 ∷ []); met = s.next ∷ s.met; next = suc s.next; rest = p.1 })) (views.mounted m s.next as' s.rest) else Err Range)
      by_limit true = made (views.mounted m s.next as' s.rest) refl
      by_limit false = tt

  go_on_goes : (m : List ℕ) (i : Value) (c : Component) (as' : Assigns) (s : Walk X) → Sound n₀ cs₀ s → find m i s.components ≡ Some c → Reaches s (go_on views m i c as' s)
  go_on_goes m i c as' s h found = by_met (among c.number s.met) refl
    where
      fi : Lives c s.components × (m ≡ c.module_name) × (i ≡ c.id)
      fi = found_is m i s.components c found

      same_attributes : among c.number s.met ≡ false → Sound n₀ cs₀ (record s { met = c.number ∷ s.met })
      same_attributes e = record {
        table = h.table;
        met_below = below_more s c.number h (is_below s.next s.components c h.table fi.0);
        distinct = (e, h.distinct);
        from = h.from;
        still = h.still;
        grows = h.grows;
      }

      other_attributes : among c.number s.met ≡ false → (o : Owner) (r : X) → views.updated m (owner_of c) as' s.rest ≡ Ok (o, r)
          → Sound n₀ cs₀ (record { components = with_changed m i (component_with c.number m i as' o) s.components; met = c.number ∷ s.met; next = s.next; rest = r })
      other_attributes e o r q = record {
        table = table_changed s.next m i s.components (component_with c.number m i as' o) c h.table found refl refl refl;
        met_below = below_more s c.number h (is_below s.next s.components c h.table fi.0);
        distinct = (e, h.distinct);
        from = λ d l. by_place d (lives_changed m i (component_with c.number m i as' o) s.components d l);
        still = λ m' i' k. h.still m' i' (none_unchanged m i (component_with c.number m i as' o) m' i' s.components refl refl k);
        grows = h.grows;
      }
        where
          as_before : WasThere cs₀ c ⊎ IsNew n₀ cs₀ c → WasThere cs₀ (component_with c.number m i as' o) ⊎ IsNew n₀ cs₀ (component_with c.number m i as' o)
          as_before (inl w) = inl (w.0, w.1, w.2, w.3 ∙ sym fi.1, w.4 ∙ sym fi.2, λ x. honest.keeps m (owner_of c) as' s.rest o r q x ∙ w.5 x)
          as_before (inr w) = inr (w.0, ap (λ y. find y i cs₀) fi.1 ∙ ap (λ y. find c.module_name y cs₀) fi.2 ∙ w.1, λ x. honest.keeps m (owner_of c) as' s.rest o r q x ∙ w.2 x)

          by_place : (d : Component) → (d ≡ component_with c.number m i as' o) ⊎ Lives d s.components → WasThere cs₀ d ⊎ IsNew n₀ cs₀ d
          by_place d (inr l) = h.from d l
          by_place d (inl p) = subst (λ x. WasThere cs₀ x ⊎ IsNew n₀ cs₀ x) (sym p) (as_before (h.from c fi.0))

      made : among c.number s.met ≡ false → (r : Res (Owner × X)) → views.updated m (owner_of c) as' s.rest ≡ r
          → Reaches s (on_res (λ p. (component_with c.number m i as' p.0, record { components = with_changed m i (component_with c.number m i as' p.0) s.components; met = c.number ∷ s.met; next = s.next; rest = p.1 })) r)
      made e (Ok p) q = (other_attributes e p.0 p.1 q, refl)
      made e (Err x) q = tt

      by_attributes : among c.number s.met ≡ false → (b : Bool)
          → Reaches s (if b then Ok (c, record s { met = c.number ∷ s.met }) else on_res (λ p. (component_with c.number m i as' p.0, record { components = with_changed m i (component_with c.number m i as' p.0) s.components; met = c.number ∷ s.met; next = s.next; rest = p.1 })) (views.updated m (owner_of c) as' s.rest))
      by_attributes e true = (same_attributes e, refl)
      by_attributes e false = made e (views.updated m (owner_of c) as' s.rest) refl

      by_met : (b : Bool) → among c.number s.met ≡ b → Reaches s (if b then Err Duplicate else (if same_assigns as' c.passed then Ok (c, record s { met = c.number ∷ s.met }) else on_res (λ p. (component_with c.number m i as' p.0, record { components = with_changed m i (component_with c.number m i as' p.0) s.components; met = c.number ∷ s.met; next = s.next; rest = p.1 })) (views.updated m (owner_of c) as' s.rest)))
      by_met true e = tt
      by_met false e = by_attributes e (same_assigns as' c.passed)

  reach_goes : (m : List ℕ) (as' : Assigns) (s : Walk X) → On (λ p. Goes s (p.0.number ∷ []) p.1) (reach views m as' s)
  reach_goes m as' s = by_id (id_of as')
    where
      commute : (r : Res (Component × Walk X)) → (Sound n₀ cs₀ s → Reaches s r) → On (λ p. Goes s (p.0.number ∷ []) p.1) r
      commute (Ok p) h = h
      commute (Err e) h = tt

      by_found : (i : Value) (o : Option Component) → find m i s.components ≡ o → Sound n₀ cs₀ s → Reaches s (reach_found views m i as' o s)
      by_found i None e h = begin_goes m i as' s h e
      by_found i (Some c) e h = go_on_goes m i c as' s h e

      by_id : (r : Res Value) → On (λ p. Goes s (p.0.number ∷ []) p.1) (then_do r (λ i. reach_found views m i as' (find m i s.components) s))
      by_id (Ok i) = commute (reach_found views m i as' (find m i s.components) s) (by_found i (find m i s.components) refl)
      by_id (Err e) = tt

  thread : Thread views Goes
  thread = record {
    stay = λ s h. (h, refl);
    chain = λ s t u ns ms x y h. let p = x h in let q = y p.0 in (q.0, q.1 ∙ ap (onto ms) p.1 ∙ sym (onto-append ns ms s.met));
    at_reach = reach_goes;
  }

-- the same components, settled
module _ (f : ℕ → Containers) where
  settled_table : (n : ℕ) (cs ds : List Component) → SettledAs f cs ds → IsTable n cs → IsTable n ds
  settled_table n [] [] h t = tt
  settled_table n [] (d ∷ ds) h t = absurd h
  settled_table n (c ∷ cs) [] h t = absurd h
  settled_table n (c ∷ cs) (d ∷ ds) h t =
      (subst (λ x. x < n) h.0 t.0, λ e l. others e (settled_back cs ds e h.4 l), settled_table n cs ds h.4 t.2)
    where
      settled_back : (gs es : List Component) (e : Component) → SettledAs f gs es → Lives e es → (g : Component) × Lives g gs × (g.number ≡ e.number) × (g.module_name ≡ e.module_name) × (g.id ≡ e.id)
      settled_back [] [] e k l = absurd l
      settled_back [] (x ∷ es) e k l = absurd k
      settled_back (g ∷ gs) [] e k l = absurd k
      settled_back (g ∷ gs) (x ∷ es) e k (inl q) = (g, inl refl, k.0 ∙ ap (λ z. z.number) (sym q), k.1 ∙ ap (λ z. z.module_name) (sym q), k.2 ∙ ap (λ z. z.id) (sym q))
      settled_back (g ∷ gs) (x ∷ es) e k (inr l) = let r = settled_back gs es e k.4 l in (r.0, inr r.1, r.2, r.3, r.4)

      others : (e : Component) → (g : Component) × Lives g cs × (g.number ≡ e.number) × (g.module_name ≡ e.module_name) × (g.id ≡ e.id) → (e.number ≡ d.number → ⊥) × (test d.module_name d.id e ≡ false)
      others e r =
          let x = t.1 r.0 r.1 in (
            λ q. x.0 (r.2 ∙ q ∙ sym h.0),
            ap (λ z. bytes_eq z e.module_name && same d.id e.id) (sym h.1) ∙ ap (λ z. bytes_eq c.module_name e.module_name && same z e.id) (sym h.2)
                ∙ ap (λ z. bytes_eq c.module_name z && same c.id e.id) (sym r.3) ∙ ap (λ z. bytes_eq c.module_name r.0.module_name && same c.id z) (sym r.4) ∙ x.1,
          )

  -- forwards: what lives there lives here, with its settled containers
  settled_on : (cs ds : List Component) (c : Component) → SettledAs f cs ds → Lives c cs → (d : Component) × Lives d ds × (c.number ≡ d.number) × (c.module_name ≡ d.module_name) × (c.id ≡ d.id)
  settled_on [] [] c h l = absurd l
  settled_on [] (d ∷ ds) c h l = absurd h
  settled_on (g ∷ cs) [] c h l = absurd h
  settled_on (g ∷ cs) (d ∷ ds) c h (inl e) = (d, inl refl, ap (λ z. z.number) e ∙ h.0, ap (λ z. z.module_name) e ∙ h.1, ap (λ z. z.id) e ∙ h.2)
  settled_on (g ∷ cs) (d ∷ ds) c h (inr l) = let r = settled_on cs ds c h.4 l in (r.0, inr r.1, r.2, r.3, r.4)

  settled_shown : (cs ds : List Component) (d : Component) → SettledAs f cs ds → Lives d ds → (x : List ℕ) → (d.streams x).shown ≡ f d.number x
  settled_shown [] [] d h l x = absurd l
  settled_shown [] (g ∷ ds) d h l x = absurd h
  settled_shown (c ∷ cs) [] d h l x = absurd h
  settled_shown (c ∷ cs) (g ∷ ds) d h (inl e) x = ap (λ z. (z.streams x).shown) e ∙ h.3 x ∙ ap (λ z. f z.number x) (sym e)
  settled_shown (c ∷ cs) (g ∷ ds) d h (inr l) x = settled_shown cs ds d h.4 l x

  settled_find : (m : List ℕ) (i : Value) (cs ds : List Component) (c : Component) → SettledAs f cs ds → find m i cs ≡ Some c → (d : Component) × (find m i ds ≡ Some d) × (c.number ≡ d.number)
  settled_find m i [] [] c h k = cc
  settled_find m i [] (d ∷ ds) c h k = absurd h
  settled_find m i (g ∷ cs) [] c h k = absurd h
  settled_find m i (g ∷ cs) (d ∷ ds) c h k = by_test (test m i g) refl k (λ x. settled_find m i cs ds c h.4 x)
    where
      alike : test m i g ≡ test m i d
      alike = ap (λ z. bytes_eq m z && same i g.id) h.1 ∙ ap (λ z. bytes_eq m d.module_name && same i z) h.2

      by_test : (b : Bool) → test m i g ≡ b → (if b then Some g else find m i cs) ≡ Some c → (find m i cs ≡ Some c → (e : Component) × (find m i ds ≡ Some e) × (c.number ≡ e.number)) → (e : Component) × (find m i (d ∷ ds) ≡ Some e) × (c.number ≡ e.number)
      by_test true e x r = let q : g ≡ c = cc in (d, ap (λ b. if b then Some d else find m i ds) (sym alike ∙ e), ap (λ z. z.number) (sym q) ∙ h.0)
      by_test false e x r = let y = r x in (y.0, ap (λ b. if b then Some d else find m i ds) (sym alike ∙ e) ∙ y.1, y.2)

module _ {X : Type 0} (views : Views X) (site : Site) (l : ℕ) (a e : Env) (ns : Nodes) (is : Items) (root : Containers) (f : ℕ → Containers) (s w : Walk X)
    (table : IsTable s.next a.components) (traced : trace site l a ns ≡ Ok is) (left : LeftBehind site ns a.components is root f) (settled : SettledAs f a.components s.components)
    (based : Based root e.streams) (sound : Sound s.next s.components w) where
  here : IsTable s.next s.components
  here = settled_table f s.next a.components s.components settled table

  abbrev now : List Component
  now = swept w.met w.components

  came : (d : Component) → Lives d now → WasThere s.components d ⊎ IsNew s.next s.components d
  came d k = sound.from d (lives_swept w.met w.components d k)

  numbers_same : (m : List ℕ) (i : Value) (c d : Component) → find m i a.components ≡ Some c → find m i now ≡ Some d → c.number ≡ d.number
  numbers_same m i c d g h = by_origin (came d fd.0)
    where
      fd : Lives d now × (m ≡ d.module_name) × (i ≡ d.id)
      fd = found_is m i now d h

      sf : (c' : Component) × (find m i s.components ≡ Some c') × (c.number ≡ c'.number)
      sf = settled_find f m i a.components s.components c settled g

      by_origin : WasThere s.components d ⊎ IsNew s.next s.components d → c.number ≡ d.number
      by_origin (inl x) =
          let itself : find x.0.module_name x.0.id s.components ≡ Some x.0 = finds_itself s.next s.components x.0 here x.1 in
          let u : find m i s.components ≡ Some x.0 = ap (λ y. find y i s.components) (fd.1 ∙ sym x.3) ∙ ap (λ y. find x.0.module_name y s.components) (fd.2 ∙ sym x.4) ∙ itself in
          let v : find m i s.components ≡ Some sf.0 = sf.1 in
          let q : sf.0 ≡ x.0 = cc in
          sf.2 ∙ ap (λ y. y.number) q ∙ x.2
      by_origin (inr x) =
          let u : find m i s.components ≡ None = ap (λ y. find y i s.components) fd.1 ∙ ap (λ y. find d.module_name y s.components) fd.2 ∙ x.1 in
          let v : find m i s.components ≡ Some sf.0 = sf.1 in
          cc

  modules_same : (c d : Component) → Lives c a.components → Lives d now → c.number ≡ d.number → c.module_name ≡ d.module_name
  modules_same c d lc ld q = by_origin (came d ld)
    where
      on : (c' : Component) × Lives c' s.components × (c.number ≡ c'.number) × (c.module_name ≡ c'.module_name) × (c.id ≡ c'.id)
      on = settled_on f a.components s.components c settled lc

      by_origin : WasThere s.components d ⊎ IsNew s.next s.components d → c.module_name ≡ d.module_name
      by_origin (inl x) =
          let u : x.0 ≡ on.0 = one_number s.next s.components x.0 on.0 here x.1 on.1 (x.2 ∙ sym q ∙ on.2) in
          on.3 ∙ sym (ap (λ y. y.module_name) u) ∙ x.3
      by_origin (inr x) =
          let u : on.0.number < s.next = is_below s.next s.components on.0 here on.1 in
          let v : on.0.number ≡ d.number = sym on.2 ∙ q in
          let y : s.next ≤ d.number = x.0 in
          absurd (omega arith)

  no_part : (d : Component) → s.next ≤ d.number → part_at d.number (parts is) ≡ None
  no_part d h = by_option (part_at d.number (parts is)) refl
    where
      by_option : (o : Option Part) → part_at d.number (parts is) ≡ o → o ≡ None
      by_option None q = refl
      by_option (Some p) q =
          let r = at_all (Origin site a.components) d.number (parts is) p (origins site l a ns is traced) q in
          let c = r.0.component in
          let u : c.number < s.next = is_below s.next a.components c table r.0.lives in
          let v : c.number ≡ d.number = r.0.number_is ∙ sym r.1 in
          absurd (omega arith)

  parts_based : (d : Component) → Lives d now → (x : List ℕ) → (d.streams x).shown ≡ f d.number x
  parts_based d ld x = by_origin (came d ld)
    where
      by_origin : WasThere s.components d ⊎ IsNew s.next s.components d → (d.streams x).shown ≡ f d.number x
      by_origin (inl y) = y.5 x ∙ settled_shown f a.components s.components y.0 settled y.1 x ∙ ap (λ n. f n x) y.2
      by_origin (inr y) = y.2 x ∙ sym (left.none_left d.number (no_part d y.0) x)

  follows : Follows site ns a (in_state now e) is
  follows = record {
    containers = root;
    of_component = f;
    same_numbers = numbers_same;
    same_modules = modules_same;
    root_left = left.root_left;
    root_based = based;
    part_left = left.part_left;
    part_based = parts_based;
    new_empty = left.none_left;
  }

-- the pass behind a rendering
behind : {X : Type 0} (P : Items → Walk X → Type 0) (r : Res (Items × Walk X)) (is : Items) (t : Walk X) → On (λ p. P p.0 p.1) r → on_res {B = Items × Walk X} (λ p. (p.0, at_end_of_walk p.1)) r ≡ Ok (is, t)
    → (w : Walk X) × P is w × (at_end_of_walk w ≡ t)
behind {X = X} P (Ok p) is t h e =
    let x : Items × Walk X = (p.0, at_end_of_walk p.1) in
    let y : Items × Walk X = (is, t) in
    let q : x ≡ y = cc in
    let u : p.0 ≡ is = ap (λ (z : Items × Walk X). z.0) q in
    let v : at_end_of_walk p.1 ≡ t = ap (λ (z : Items × Walk X). z.1) q in
    (p.1, subst (λ x. P x p.1) u h, v)
behind P (Err x) is t h e = cc

-- after a rendering of a lawful table: the components met are apart, the table is lawful, and each component was there or is new
pub sound_after : {X : Type 0} (views : Views X) (site : Site) (k : ℕ) (e : Env) (ns : Nodes) (is : Items) (s t : Walk X) → Honest views → IsTable s.next s.components → render_state views site k e ns s ≡ Ok (is, t)
    → Distinct (parts is) × IsTable t.next t.components × ((d : Component) → Lives d t.components → WasThere s.components d ⊎ IsNew s.next s.components d)
sound_after {X = X} views site k e ns is s t honest table rendered =
    let s₀ : Walk X = record s { met = [] } in
    let begun : Sound s.next s.components s₀ = record {
      table = table;
      met_below = λ n h. absurd (true≢false (sym h));
      distinct = tt;
      from = λ d x. inl (d, x, refl, refl, refl, λ y. refl);
      still = λ m i h. h;
      grows = omega arith;
    } in
    let b = behind (λ x w. Sound s.next s.components s₀ → Sound s.next s.components w × (w.met ≡ onto (numbers (parts x)) [])) (pass views site k e ns s₀) is t
    (pass_through views (Goes views honest s.next s.components) (thread views honest s.next s.components) site k e ns s₀) rendered in
    let w = b.0 in
    let g : Sound s.next s.components w × (w.met ≡ onto (numbers (parts is)) []) = b.1 begun in
    let goal = λ (u : Walk X). Distinct (parts is) × IsTable u.next u.components × ((d : Component) → Lives d u.components → WasThere s.components d ⊎ IsNew s.next s.components d) in
    subst goal b.2 (
      (distinct_of (parts is) [] (subst NoRepeat g.1 g.0.distinct)).0,
      table_swept w.next w.met w.components g.0.table,
      λ d x. g.0.from d (lives_swept w.met w.components d x),
    )

pub next_follows : (X : Type 0) → NextFollows X
next_follows X views site k l a e ns is is' root f s t honest table traced left settled based rendered =
    let s₀ : Walk X = record s { met = [] } in
    let begun : Sound s.next s.components s₀ = record {
      table = settled_table f s.next a.components s.components settled table;
      met_below = λ n h. absurd (true≢false (sym h));
      distinct = tt;
      from = λ d x. inl (d, x, refl, refl, refl, λ y. refl);
      still = λ m i h. h;
      grows = omega arith;
    } in
    let b = behind (λ x w. Sound s.next s.components s₀ → Sound s.next s.components w × (w.met ≡ onto (numbers (parts x)) [])) (pass views site k e ns s₀) is' t
    (pass_through views (Goes views honest s.next s.components) (thread views honest s.next s.components) site k e ns s₀) rendered in
    let w = b.0 in
    let g : Sound s.next s.components w × (w.met ≡ onto (numbers (parts is')) []) = b.1 begun in
    let goal = λ (u : Walk X). Follows site ns a (in_state u.components e) is × Distinct (parts is') × IsTable u.next u.components in
    subst goal b.2 (
      follows views site l a e ns is root f s w table traced left settled based g.0,
      (distinct_of (parts is') [] (subst NoRepeat g.1 g.0.distinct)).0,
      table_swept w.next w.met w.components g.0.table,
    )
