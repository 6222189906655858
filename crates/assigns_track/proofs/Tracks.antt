-- What an assign leaves.
use Rattle.std.proofs.Common.{◌≡◌, ℕ, List, [], ◌∷◌, Option, Some, None, option_map, Bool, true, false, not, ◌||◌, true≢false, refl, sym, ap, ◌∙◌, subst, Less, Equal, Greater, nat_cmp}
use Rattle.std.specs.Str.{bytes_eq}
use Rattle.std.specs.Option.{is_some}
use Rattle.std.specs.Ordering.{is_eq, match_ordering}
use Rattle.std.specs.declared.cmp.Ordering.{Ordering}
use Rattle.std.specs.Cmp.Lexicographic.{slice_cmp}
use Rattle.std.proofs.lemmas.Map.Text.{is_eq-slice_cmp}
use Rattle.std.proofs.lemmas.Slice.Eq.{bytes_eq-Decides}
use Rattle.text_core.specs.declared.by_key.KeyValue.{KeyValue}
use Rattle.text_core.specs.Keyed.{entry, lookup, with_key, without_key}
use Rattle.text_core.proofs.Keyed.{lookup_set, lookup_other}
use Rattle.value_core.specs.Value as model
use Rattle.value_core.specs.Value.{same}
use Rattle.value_core.specs.View.{view}
use Rattle.value_core.specs.declared.value.Value.{Value}
use Rattle.value_core.proofs.Sames.{same_sound, same_refl}
use Rattle.assigns_track.specs.Track.{noted_or, present_of, settled_of, differ}
use Rattle.assigns_track.specs.declared.tracked.Tracked.{Tracked}

-- a value that may be there differs from another exactly where they are not equal
pub alike : (a : Option model.Value) → differ a a ≡ false
alike (Some a) = ap not (same_refl a)
alike None = refl

pub differ_sound : (a b : Option model.Value) → differ a b ≡ false → a ≡ b
differ_sound (Some a) (Some b) h = ap Some (same_sound a b (not_not (same a b) h))
  where
    not_not : (t : Bool) → not t ≡ false → t ≡ true
    not_not true h = refl
    not_not false h = cc
differ_sound None None h = refl
differ_sound (Some a) None h = cc
differ_sound None (Some b) h = cc

-- so the answer that tells whether they differ tells whether they are equal
pub tells_equal : (r : Bool) (a b : Option model.Value) → r ≡ differ a b → (r ≡ false → a ≡ b) × (a ≡ b → r ≡ false)
tells_equal r a b is = (λ e. differ_sound a b (sym is ∙ e), λ e. is ∙ subst (λ x. differ a x ≡ false) e (alike a))

-- a name without a note has not changed
pub unnoted : (m : Tracked) (n : List ℕ) → lookup n m.before ≡ None → false ≡ differ (present_of m n) (settled_of m n)
unnoted m n h = sym (ap (λ o. differ (present_of m n) (noted_or o (present_of m n))) h ∙ alike (present_of m n))

nothing : {T : Type 0} (o : Option T) → is_some o ≡ false → o ≡ None
nothing (Some x) h = absurd (true≢false h)
nothing None h = refl

-- tracked assigns with their own fields are themselves
pub fields_same : (m : Tracked) (p : List (KeyValue Value)) (b : List (KeyValue (Option Value))) → p ≡ m.present → b ≡ m.before
    → (let t : Tracked = record { alloc = m.alloc; present = p; before = b } in t) ≡ m
fields_same m p b h g =
    ap (λ (q : List (KeyValue Value)). let t : Tracked = record { alloc = m.alloc; present = q; before = b } in t) h
    ∙ ap (λ (c : List (KeyValue (Option Value))). let t : Tracked = record { alloc = m.alloc; present = m.present; before = c } in t) g

itself : (k : List ℕ) → bytes_eq k k ≡ true
itself k = (bytes_eq-Decides k k).1 refl

-- a new entry, taken out again
pub without_with : {T : Type 0} (k : List ℕ) (v : T) (es : List (KeyValue T)) → is_some (lookup k es) ≡ false → without_key k (with_key k v es) ≡ es
without_with k v [] h = rw (itself k) refl
without_with {T} k v (e ∷ es) h = by (slice_cmp nat_cmp k e.key) refl (without_with k v es)
  where
    by : (o : Ordering) → slice_cmp nat_cmp k e.key ≡ o → (is_some (lookup k es) ≡ false → without_key k (with_key k v es) ≡ es)
        → without_key k (match_ordering o (entry k v ∷ e ∷ es) (entry k v ∷ es) (e ∷ with_key k v es)) ≡ e ∷ es
    by Less is rest = rw (itself k) refl
    by Equal is rest = let found : bytes_eq k e.key ≡ true = sym (is_eq-slice_cmp k e.key) ∙ ap is_eq is in absurd (true≢false (rw found at h))
    by Greater is rest =
        let other : bytes_eq k e.key ≡ false = sym (is_eq-slice_cmp k e.key) ∙ ap is_eq is in
        rw other (ap (λ l. e ∷ l) (rest (rw other at h)))

module _ (k : List ℕ) (before : List (KeyValue (Option Value))) where
  -- a name that was assigned before is so again
  pub noted_again : is_some (lookup k before) ≡ true → (n : List ℕ) → is_some (lookup n before) ≡ (bytes_eq n k || is_some (lookup n before))
  noted_again h n = by (bytes_eq n k) refl
    where
      by : (b : Bool) → bytes_eq n k ≡ b → is_some (lookup n before) ≡ (b || is_some (lookup n before))
      by true is = subst (λ m. is_some (lookup m before) ≡ true) (sym ((bytes_eq-Decides n k).0 is)) h
      by false is = refl

  -- and a name that was not is so from now on
  pub noted_first : (o : Option Value) (n : List ℕ) → is_some (lookup n (with_key k o before)) ≡ (bytes_eq n k || is_some (lookup n before))
  noted_first o n = by (bytes_eq n k) refl
    where
      by : (b : Bool) → bytes_eq n k ≡ b → is_some (lookup n (with_key k o before)) ≡ (b || is_some (lookup n before))
      by true is = subst (λ m. is_some (lookup m (with_key k o before)) ≡ true) (sym ((bytes_eq-Decides n k).0 is)) (ap is_some (lookup_set k o before))
      by false is = ap is_some (lookup_other n k o before is)

module _ (k : List ℕ) (v : Value) (present : List (KeyValue Value)) (before : List (KeyValue (Option Value))) where
  -- a name that was noted keeps its note
  pub assigned_again : is_some (lookup k before) ≡ true → (n : List ℕ)
      → noted_or (lookup n before) (option_map view (lookup n (with_key k v present))) ≡ noted_or (lookup n before) (option_map view (lookup n present))
  assigned_again h n = by (bytes_eq n k) refl
    where
      noted : (o : Option (Option Value)) → is_some o ≡ true → (p q : Option model.Value) → noted_or o p ≡ noted_or o q
      noted (Some x) h p q = refl
      noted None h p q = cc

      by : (b : Bool) → bytes_eq n k ≡ b
          → noted_or (lookup n before) (option_map view (lookup n (with_key k v present))) ≡ noted_or (lookup n before) (option_map view (lookup n present))
      by true is = noted (lookup n before) (subst (λ m. is_some (lookup m before) ≡ true) (sym ((bytes_eq-Decides n k).0 is)) h) _ _
      by false is = ap (λ o. noted_or (lookup n before) (option_map view o)) (lookup_other n k v present is)

  -- a name that was not noted has its present value noted
  pub assigned_first : (o : Option Value) → is_some (lookup k before) ≡ false → option_map view o ≡ option_map view (lookup k present) → (n : List ℕ)
      → noted_or (lookup n (with_key k o before)) (option_map view (lookup n (with_key k v present))) ≡ noted_or (lookup n before) (option_map view (lookup n present))
  assigned_first o h is_present n = by (bytes_eq n k) refl
    where
      at_name : noted_or (lookup k (with_key k o before)) (option_map view (lookup k (with_key k v present))) ≡ noted_or (lookup k before) (option_map view (lookup k present))
      at_name = rw (lookup_set k o before, nothing (lookup k before) h) is_present

      by : (b : Bool) → bytes_eq n k ≡ b
          → noted_or (lookup n (with_key k o before)) (option_map view (lookup n (with_key k v present))) ≡ noted_or (lookup n before) (option_map view (lookup n present))
      by true is = subst (λ m. noted_or (lookup m (with_key k o before)) (option_map view (lookup m (with_key k v present))) ≡ noted_or (lookup m before) (option_map view (lookup m present)))
          (sym ((bytes_eq-Decides n k).0 is)) at_name
      by false is =
          ap (λ b. noted_or b (option_map view (lookup n (with_key k v present)))) (lookup_other n k o before is)
          ∙ ap (λ p. noted_or (lookup n before) (option_map view p)) (lookup_other n k v present is)
