-- Segments, read one by one.
use Rattle.std.proofs.Common.{◌≡◌, ℕ, ◌+◌, List, [], ◌∷◌, ◌++◌, map, Option, Some, None, option_map, Bool, true, false, if◌then◌else◌, ◌==◌, refl, ap, append_assoc, Less, Equal, Greater, Result, Ok, Err, IfOk, OnOk, String, string_bytes}
use Rattle.std.specs.Ordering.{match_ordering}
use Rattle.std.specs.declared.cmp.Ordering.{Ordering}
use Rattle.std.specs.declared.alloc.Global.{Global}
use Rattle.std.specs.declared.alloc.AllocError.{AllocError}
use Rattle.std.specs.Str.{is_utf8}
use Rattle.std.proofs.lemmas.Str.{IsUtf8-from_is_utf8, is_utf8-from_IsUtf8}
use Rattle.std.proofs.lemmas.Bool.{eqb-true}
use Rattle.percent_encoding.specs.Percent.{percent_decode}
use Rattle.text_core.specs.declared.by_key.KeyValue.{KeyValue}
use Rattle.text_core.specs.Keyed.{entry, with_key, on_value}
use Rattle.text_core.proofs.Keyed.{order}
use Rattle.value_core.specs.Value as model
use Rattle.route_table.specs.Route.{behind_slash, plain, parameter}
use Rattle.route_table.specs.Found.{with_segment, text_of, IsText}

-- one more segment of a route
pub one_more : (route text : List ℕ) (o : Option (List ℕ)) → option_map (λ r. (route ++ text) ++ r) o ≡ option_map (λ r. route ++ r) (option_map (λ r. text ++ r) o)
one_more route text None = refl
one_more route text (Some r) = ap Some (append_assoc route text r)

pub no_parameter : (s : List ℕ) → ((rest : List ℕ) → s ≡ 58 ∷ rest → ⊥) → plain s ≡ behind_slash s
no_parameter [] h = refl
no_parameter (b ∷ bs) h = by (b == 58) refl
  where
    by : (t : Bool) → (b == 58) ≡ t → plain (b ∷ bs) ≡ (if t then parameter bs else plain (b ∷ bs))
    by true is = let x : b ≡ 58 = eqb-true b 58 is in absurd (h bs (λ i. x i ∷ bs))
    by false is = refl

pub no_segment : (s part : List ℕ) (es : List (KeyValue model.Value)) → ((rest : List ℕ) → s ≡ 58 ∷ rest → ⊥) → es ≡ with_segment es (s, part)
no_segment [] part es h = refl
no_segment (b ∷ bs) part es h = by (b == 58) refl
  where
    by : (t : Bool) → (b == 58) ≡ t → es ≡ (if t then with_key bs (model.text (text_of part)) es else es)
    by true is = let x : b ≡ 58 = eqb-true b 58 is in absurd (h bs (λ i. x i ∷ bs))
    by false is = refl

pub with_mapped : {X Y : Type 0} (h : X → Y) (k : List ℕ) (v : X) (es : List (KeyValue X)) → map (on_value h) (with_key k v es) ≡ with_key k (h v) (map (on_value h) es)
with_mapped h k v [] = refl
with_mapped {X} {Y} h k v (e ∷ es) = by (order k e.key) (with_mapped h k v es)
  where
    by : (o : Ordering) → map (on_value h) (with_key k v es) ≡ with_key k (h v) (map (on_value h) es)
        → map (on_value h) (match_ordering o (entry k v ∷ e ∷ es) (entry k v ∷ es) (e ∷ with_key k v es))
        ≡ match_ordering o (entry k (h v) ∷ map (on_value h) (e ∷ es)) (entry k (h v) ∷ map (on_value h) es) (on_value h e ∷ with_key k (h v) (map (on_value h) es))
    by Less rest = refl
    by Equal rest = refl
    by Greater rest = ap (λ l. on_value h e ∷ l) rest

-- the text of a parameter, by a test
pub tested : (part t : List ℕ) → IsText part t → t ≡ text_of part
tested part t h = by (is_utf8 (percent_decode part)) refl
  where
    by : (b : Bool) → is_utf8 (percent_decode part) ≡ b → t ≡ (if b then percent_decode part else part)
    by true is = h.0 (IsUtf8-from_is_utf8 (percent_decode part) is)
    by false is = h.1 (λ u. let yes : is_utf8 (percent_decode part) ≡ true = is_utf8-from_IsUtf8 (percent_decode part) u in cc)

pub tested_all : (part : List ℕ) (r : Result (String Global) AllocError) → IfOk r (λ s. IsText part (string_bytes s)) → IfOk r (λ s. string_bytes s ≡ text_of part)
tested_all part (Ok s) h = tested part (string_bytes s) h
tested_all part (Err e) h = tt

pub ok_along : {T E : Type 0} (P Q : Type 0) (r : Result T E) → (P → Q) → OnOk r P → OnOk r Q
ok_along P Q (Ok x) f h = f h
ok_along P Q (Err e) f h = tt
