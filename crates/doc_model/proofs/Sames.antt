-- `same` decides equality.
use Rattle.std.proofs.Common.{◌≡◌, List, [], ◌∷◌, Option, Some, None, Bool, true, false, ◌&&◌, ◌==◌, refl, sym, ap, ◌∙◌, true≢false}
use Rattle.std.proofs.lemmas.Bool.Decides.{Decides-eqb, Decides-int_eq}
use Rattle.std.proofs.lemmas.Slice.Eq.{bytes_eq-Decides}
use Rattle.std.specs.Str.{bytes_eq}
use Rattle.value_core.specs.Value.{Value, slot, list, nil, text, boolean, whole_number, atom, tuple, map_of, Values, no_values, value, Assigns, no_assigns, assign, same, same_values, same_assigns}
use Rattle.doc_model.specs.Environment.{same_option, same_reading}

pub both_true : (a b : Bool) → (a && b) ≡ true → (a ≡ true) × (b ≡ true)
both_true true true h = (refl, refl)
both_true true false h = absurd (true≢false (sym h))
both_true false b h = absurd (true≢false (sym h))

mutual
  pub same_sound : (v w : Value) → same v w ≡ true → v ≡ w
  same_sound nil nil h = refl
  same_sound (boolean true) (boolean true) h = refl
  same_sound (boolean false) (boolean false) h = refl
  same_sound (whole_number x) (whole_number y) h = ap whole_number ((Decides-int_eq x y).0 h)
  same_sound (text x) (text y) h = ap text ((bytes_eq-Decides x y).0 h)
  same_sound (atom x) (atom y) h = ap atom ((bytes_eq-Decides x y).0 h)
  same_sound (list xs) (list ys) h = ap list (values_sound xs ys h)
  same_sound (tuple xs) (tuple ys) h = ap tuple (values_sound xs ys h)
  same_sound (map_of xs) (map_of ys) h = ap map_of (assigns_sound xs ys h)
  same_sound (slot a xs us) (slot b ys vs) h =
      let p = both_true (a == b && same_assigns xs ys) _ h in
      let q = both_true (a == b) _ p.0 in
      let e = (Decides-eqb a b).0 q.0 in
      let f = assigns_sound xs ys q.1 in
      let g = assigns_sound us vs p.1 in
      cc
  same_sound _ _ h = absurd (true≢false (sym h))

  pub values_sound : (v w : Values) → same_values v w ≡ true → v ≡ w
  values_sound no_values no_values h = refl
  values_sound (value x xs) (value y ys) h =
      let p = both_true _ _ h in
      let e = same_sound x y p.0 in
      let f = values_sound xs ys p.1 in
      cc
  values_sound _ _ h = absurd (true≢false (sym h))

  pub assigns_sound : (v w : Assigns) → same_assigns v w ≡ true → v ≡ w
  assigns_sound no_assigns no_assigns h = refl
  assigns_sound (assign k x xs) (assign l y ys) h =
      let p = both_true (bytes_eq k l && same x y) (same_assigns xs ys) h in
      let q = both_true _ _ p.0 in
      let d = (bytes_eq-Decides k l).0 q.0 in
      let e = same_sound x y q.1 in
      let f = assigns_sound xs ys p.1 in
      cc
  assigns_sound _ _ h = absurd (true≢false (sym h))

pub option_sound : (v w : Option Value) → same_option v w ≡ true → v ≡ w
option_sound None None h = refl
option_sound (Some v) (Some w) h = ap Some (same_sound v w h)
option_sound _ _ h = absurd (true≢false (sym h))

pub reading_sound : (v w : List (Option Value)) → same_reading v w ≡ true → v ≡ w
reading_sound [] [] h = refl
reading_sound (v ∷ vs) (w ∷ ws) h =
    let p = both_true _ _ h in
    let e = option_sound v w p.0 in
    let f = reading_sound vs ws p.1 in
    cc
reading_sound _ _ h = absurd (true≢false (sym h))

-- a value is the same as itself
both_same : (a b : Bool) → a ≡ true → b ≡ true → (a && b) ≡ true
both_same a b h k = ap (λ c. c && b) h ∙ k

mutual
  pub same_refl : (v : Value) → same v v ≡ true
  same_refl nil = refl
  same_refl (boolean true) = refl
  same_refl (boolean false) = refl
  same_refl (whole_number x) = (Decides-int_eq x x).1 refl
  same_refl (text x) = (bytes_eq-Decides x x).1 refl
  same_refl (atom x) = (bytes_eq-Decides x x).1 refl
  same_refl (list xs) = values_refl xs
  same_refl (tuple xs) = values_refl xs
  same_refl (map_of xs) = assigns_refl xs
  same_refl (slot a xs us) = both_same _ _ (both_same _ _ ((Decides-eqb a a).1 refl) (assigns_refl xs)) (assigns_refl us)

  values_refl : (v : Values) → same_values v v ≡ true
  values_refl no_values = refl
  values_refl (value x xs) = both_same _ _ (same_refl x) (values_refl xs)

  pub assigns_refl : (v : Assigns) → same_assigns v v ≡ true
  assigns_refl no_assigns = refl
  assigns_refl (assign k x xs) = both_same _ _ (both_same _ _ ((bytes_eq-Decides k k).1 refl) (same_refl x)) (assigns_refl xs)
