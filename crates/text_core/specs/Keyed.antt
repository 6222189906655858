-- Entries in byte order of their keys.
use Rattle.std.specs.Prelude.{ℕ, List, [], ◌∷◌, Bool, true, ◌&&◌, IsTrue, refl, Option, Some, None, if◌then◌else◌, option_map}
use Rattle.std.specs.Str.{bytes_eq}
use Rattle.std.specs.List.{slice_get}
use Rattle.std.specs.Ordering.{nat_cmp, is_lt, match_ordering}
use Rattle.std.specs.Cmp.Lexicographic.{slice_cmp}
use Rattle.std.specs.Coded.{Coded, code_by, coded×, coded_ℕ, coded_list}
use Rattle.text_core.specs.declared.by_key.KeyValue.{KeyValue}

-- whether a key comes before the first of some keys
abbrev pub is_before : List ℕ → List (List ℕ) → Bool
is_before k [] = true
is_before k (l ∷ ls) = is_lt (slice_cmp nat_cmp k l)

-- whether keys stand in byte order, none twice
abbrev pub ascend : List (List ℕ) → Bool
ascend [] = true
ascend (k ∷ ks) = is_before k ks && ascend ks

abbrev pub keys : {T : Type 0} → List (KeyValue T) → List (List ℕ)
keys [] = []
keys (e ∷ es) = e.key ∷ keys es

abbrev pub Ascending : {T : Type 0} → List (KeyValue T) → Type 0
Ascending es = IsTrue (ascend (keys es))

abbrev pub entry : {T : Type 0} → List ℕ → T → KeyValue T
entry k v = record { key = k; value = v }

-- the value at a key
abbrev pub lookup : {T : Type 0} → List ℕ → List (KeyValue T) → Option T
lookup k [] = None
lookup k (e ∷ es) = if bytes_eq k e.key then Some e.value else lookup k es

-- the entries with a value at a key: before the first greater key, or in the place of the equal one
abbrev pub with_key : {T : Type 0} → List ℕ → T → List (KeyValue T) → List (KeyValue T)
with_key k v [] = entry k v ∷ []
with_key k v (e ∷ es) = match_ordering (slice_cmp nat_cmp k e.key) (entry k v ∷ e ∷ es) (entry k v ∷ es) (e ∷ with_key k v es)

-- the entries but that of a key
abbrev pub without_key : {T : Type 0} → List ℕ → List (KeyValue T) → List (KeyValue T)
without_key k [] = []
without_key k (e ∷ es) = if bytes_eq k e.key then es else e ∷ without_key k es

-- the value of the entry at a place
abbrev pub value_at : {T : Type 0} → ℕ → List (KeyValue T) → Option T
value_at i es = option_map (λ e. e.value) (slice_get es i)

-- entries with their values changed
abbrev pub on_value : {X Y : Type 0} → (X → Y) → KeyValue X → KeyValue Y
on_value h e = record { key = e.key; value = h e.value }

-- how entries are stored in a contract's value
abbrev pub code_one : {T : Type 0} → Coded T → Coded (KeyValue T)
code_one {T} c = code_by (List ℕ × T) (coded× (coded_list coded_ℕ) c) (λ e. (e.key, e.value)) (λ p. record { key = p.0; value = p.1 }) (λ _. refl)

abbrev pub code : {T : Type 0} → Coded T → Coded (List (KeyValue T))
code c = coded_list (code_one c)
