-- Attributes that are read from left to right say what they say from right to left.
use Rattle.std.proofs.Common.{◌≡◌, ℕ, ◌+◌, List, [], ◌∷◌, codes, Bool, true, false, cond, if◌then◌else◌, eqb, ◌&&◌, Option, Some, None, Result, Ok, Err, refl, sym, ap, ◌∙◌, subst, arith}
use Rattle.std.specs.Option.{is_some}
use Rattle.std.specs.Str.{bytes_eq}
use Rattle.std.proofs.lemmas.Bool.Decides.{nat_tests}
use Rattle.std.proofs.lemmas.Slice.Eq.{bytes_eq-Decides}
use Rattle.ast_core.specs.Syntax.{Expr, Pattern, Generator, Attributes, no_attributes, written, valued, spread_of, module_of}
use Rattle.ast_core.specs.Free.{one_of}
use Rattle.heex_token.specs.declared.token.RawAttribute.{RawAttribute}
use Rattle.heex_token.specs.declared.token.RawValue.{RawValue}
use Rattle.heex_token.specs.declared.token.RawValue.TheVariants as raw
use Rattle.heex_reader.specs.declared.fault.TemplateKind.TheVariants as kind
use Rattle.heex_reader.specs.Located.{Fault, faulty}
use Rattle.heex_reader.specs.Signs.{Tag}
use Rattle.heex_reader.specs.Contents.{TagKind}
use Rattle.heex_reader.specs.Pieces.{then_do, expr_at, pattern_at, generator_at, trimmed}
use Rattle.heex_reader.specs.Tags.{Said, attribute_is, value_is, spread_is, module_is, repeats, tests, binds_to, said_on, may_bind, is_special, special_by, special, is_module, is_live_call, in_braces, value_said, plain, said_by, tag_of}
use Rattle.heex_reader.specs.Onto.{attributes_before, with_attribute, with_said, has_said, special_onto, said_onto, tag_onto, bare_tag}

-- Attributes before others.

before_none : (xs : Attributes) → attributes_before xs no_attributes ≡ xs
before_none no_attributes = refl
before_none (written n w xs) = ap (written n w) (before_none xs)
before_none (valued n e xs) = ap (valued n e) (before_none xs)
before_none (spread_of e xs) = ap (spread_of e) (before_none xs)
before_none (module_of m xs) = ap (module_of m) (before_none xs)

before_twice : (xs ys zs : Attributes) → attributes_before (attributes_before xs ys) zs ≡ attributes_before xs (attributes_before ys zs)
before_twice no_attributes ys zs = refl
before_twice (written n w xs) ys zs = ap (written n w) (before_twice xs ys zs)
before_twice (valued n e xs) ys zs = ap (valued n e) (before_twice xs ys zs)
before_twice (spread_of e xs) ys zs = ap (spread_of e) (before_twice xs ys zs)
before_twice (module_of m xs) ys zs = ap (module_of m) (before_twice xs ys zs)

-- A tag before what later attributes say.

abbrev pub either_of : {A : Type 0} → Option A → Option A → Option A
either_of None p = p
either_of (Some a) p = Some a

either_none : {A : Type 0} (o : Option A) → either_of o None ≡ o
either_none None = refl
either_none (Some a) = refl

abbrev pub over : Tag → Tag → Tag
over t u = record {
  name = u.name;
  attributes = attributes_before t.attributes u.attributes;
  generator = either_of t.generator u.generator;
  test = either_of t.test u.test;
  binds = either_of t.binds u.binds;
}

abbrev pub over_ok : Tag → Result Tag Fault → Result Tag Fault
over_ok t (Ok u) = Ok (over t u)
over_ok t (Err f) = Err f

same_tag : (n m : List ℕ) (xs ys : Attributes) (g g' : Option Generator) (e e' : Option Expr) (p p' : Option Pattern) → n ≡ m → xs ≡ ys → g ≡ g' → e ≡ e' → p ≡ p'
    → ◌≡◌ {A = Tag} (record { name = n; attributes = xs; generator = g; test = e; binds = p }) (record { name = m; attributes = ys; generator = g'; test = e'; binds = p' })
same_tag n m xs ys g g' e e' p p' d h i j k =
    let a : ◌≡◌ {A = Tag} (record { name = n; attributes = xs; generator = g; test = e; binds = p }) (record { name = m; attributes = xs; generator = g; test = e; binds = p }) = ap (λ (x : List ℕ). record { name = x; attributes = xs; generator = g; test = e; binds = p }) d in
    let b : ◌≡◌ {A = Tag} (record { name = m; attributes = xs; generator = g; test = e; binds = p }) (record { name = m; attributes = ys; generator = g; test = e; binds = p }) = ap (λ (x : Attributes). record { name = m; attributes = x; generator = g; test = e; binds = p }) h in
    let c : ◌≡◌ {A = Tag} (record { name = m; attributes = ys; generator = g; test = e; binds = p }) (record { name = m; attributes = ys; generator = g'; test = e; binds = p }) = ap (λ (x : Option Generator). record { name = m; attributes = ys; generator = x; test = e; binds = p }) i in
    let f : ◌≡◌ {A = Tag} (record { name = m; attributes = ys; generator = g'; test = e; binds = p }) (record { name = m; attributes = ys; generator = g'; test = e'; binds = p }) = ap (λ (x : Option Expr). record { name = m; attributes = ys; generator = g'; test = x; binds = p }) j in
    let l : ◌≡◌ {A = Tag} (record { name = m; attributes = ys; generator = g'; test = e'; binds = p }) (record { name = m; attributes = ys; generator = g'; test = e'; binds = p' }) = ap (λ (x : Option Pattern). record { name = m; attributes = ys; generator = g'; test = e'; binds = x }) k in
    a ∙ b ∙ c ∙ f ∙ l

over_bare : (t : Tag) (name : List ℕ) → t.name ≡ name → over t (bare_tag name) ≡ t
over_bare t name e = same_tag name t.name (attributes_before t.attributes no_attributes) t.attributes (either_of t.generator None) t.generator (either_of t.test None) t.test (either_of t.binds None) t.binds
    (sym e) (before_none t.attributes) (either_none t.generator) (either_none t.test) (either_none t.binds)

over_nothing : (name : List ℕ) (r : Result Tag Fault) → over_ok (bare_tag name) r ≡ r
over_nothing name (Ok u) = refl
over_nothing name (Err f) = refl

said_name : (s : Said) (t : Tag) → (with_said s t).name ≡ t.name
said_name (attribute_is n w) t = refl
said_name (value_is n e) t = refl
said_name (spread_is e) t = refl
said_name (module_is m) t = refl
said_name (repeats g) t = refl
said_name (tests e) t = refl
said_name (binds_to p) t = refl

-- What is said, and under which name: where it is a special attribute, the tag has none such before.
abbrev pub SaidAs : List ℕ → Tag → Said → Type 0
SaidAs name t (attribute_is n w) = is_special name ≡ false
SaidAs name t (value_is n e) = is_special name ≡ false
SaidAs name t (spread_is e) = is_special name ≡ false
SaidAs name t (module_is m) = is_special name ≡ false
SaidAs name t (repeats g) = (codes ":for" ≡ name) × (t.generator ≡ None)
SaidAs name t (tests e) = (codes ":if" ≡ name) × (t.test ≡ None)
SaidAs name t (binds_to p) = (codes ":let" ≡ name) × (t.binds ≡ None)

abbrev pub OkSaidAs : List ℕ → Tag → Result Said Fault → Type 0
OkSaidAs name t (Ok s) = SaidAs name t s
OkSaidAs name t (Err f) = Unit {0}

over_said : (name : List ℕ) (s : Said) (t u : Tag) → SaidAs name t s → over (with_said s t) u ≡ over t (said_on s u)
over_said name (attribute_is n w) t u h = ap (λ (a : Attributes). record (over t u) { attributes = a }) (before_twice t.attributes (written n w no_attributes) u.attributes)
over_said name (value_is n e) t u h = ap (λ (a : Attributes). record (over t u) { attributes = a }) (before_twice t.attributes (valued n e no_attributes) u.attributes)
over_said name (spread_is e) t u h = ap (λ (a : Attributes). record (over t u) { attributes = a }) (before_twice t.attributes (spread_of e no_attributes) u.attributes)
over_said name (module_is m) t u h = ap (λ (a : Attributes). record (over t u) { attributes = a }) (before_twice t.attributes (module_of m no_attributes) u.attributes)
over_said name (repeats g) t u h = ap (λ (a : Option Generator). record (over t u) { generator = either_of a (Some g) }) (sym h.1)
over_said name (tests e) t u h = ap (λ (a : Option Expr). record (over t u) { test = either_of a (Some e) }) (sym h.1)
over_said name (binds_to p) t u h = ap (λ (a : Option Pattern). record (over t u) { binds = either_of a (Some p) }) (sym h.1)

over_ok_said : (name : List ℕ) (s : Said) (t : Tag) (r : Result Tag Fault) → SaidAs name t s → over_ok (with_said s t) r ≡ over_ok t (then_do r (λ u. Ok (said_on s u)))
over_ok_said name s t (Ok u) h = ap (λ x. Ok x) (over_said name s t u h)
over_ok_said name s t (Err f) h = refl

-- What each attribute says.

tested_as : (name : List ℕ) (t : Tag) (r : Result Expr Fault) → codes ":if" ≡ name → t.test ≡ None → OkSaidAs name t (then_do r (λ e. Ok (tests e)))
tested_as name t (Ok e) h k = (h, k)
tested_as name t (Err f) h k = tt

repeated_as : (name : List ℕ) (t : Tag) (r : Result Generator Fault) → codes ":for" ≡ name → t.generator ≡ None → OkSaidAs name t (then_do r (λ g. Ok (repeats g)))
repeated_as name t (Ok g) h k = (h, k)
repeated_as name t (Err f) h k = tt

bound_as : (name : List ℕ) (t : Tag) (r : Result Pattern Fault) → codes ":let" ≡ name → t.binds ≡ None → OkSaidAs name t (then_do r (λ p. Ok (binds_to p)))
bound_as name t (Ok p) h k = (h, k)
bound_as name t (Err f) h k = tt

valued_as : (name : List ℕ) (t : Tag) (n : List ℕ) (r : Result Expr Fault) → is_special name ≡ false → OkSaidAs name t (then_do r (λ e. Ok (value_is n e)))
valued_as name t n (Ok e) h = h
valued_as name t n (Err f) h = tt

spread_as : (name : List ℕ) (t : Tag) (r : Result Expr Fault) → is_special name ≡ false → OkSaidAs name t (then_do r (λ e. Ok (spread_is e)))
spread_as name t (Ok e) h = h
spread_as name t (Err f) h = tt

none_of : {A : Type 0} (o : Option A) → is_some o ≡ false → o ≡ None
none_of None h = refl
none_of (Some a) h = cc

plain_as : (live : Bool) (t : Tag) (name : List ℕ) (at : ℕ) (v : RawValue) → is_special name ≡ false → OkSaidAs name t (value_said live name at v)
plain_as live t name at (raw.Double s) h = h
plain_as live t name at (raw.Single s) h = h
plain_as live t name at raw.Bare h = h
plain_as live t name at (raw.Braces s) h = by (live && (bytes_eq name (codes "module") && is_module (trimmed s)))
  where
    by : (x : Bool) → OkSaidAs name t (cond x (Ok (module_is (trimmed s))) (then_do (expr_at at s) (λ e. Ok (value_is name e))))
    by true = h
    by false = valued_as name t name (expr_at at s) h
plain_as live t name at (raw.Spread s) h = spread_as name t (expr_at at s) h

same_name : (name : List ℕ) (word : List ℕ) → bytes_eq name word ≡ true → word ≡ name
same_name name word h = sym ((bytes_eq-Decides name word).0 h)

-- The tests of a special attribute's name.
abbrev pub special_tests : Bool → Bool → Bool → Result Said Fault → Result Said Fault → Result Said Fault → Result Said Fault → Result Said Fault
special_tests x y z a b d e = cond x a (cond y b (cond z d e))

special_as : (k : TagKind) (t : Tag) (a : RawAttribute) (s : List ℕ) → has_said a.name t ≡ false → OkSaidAs a.name t (special_by k a s)
special_as k t a s h = by (bytes_eq a.name (codes ":if")) (bytes_eq a.name (codes ":for")) (bytes_eq a.name (codes ":let")) (may_bind k) refl refl refl h
  where
    by : (x y z w : Bool) → bytes_eq a.name (codes ":if") ≡ x → bytes_eq a.name (codes ":for") ≡ y → bytes_eq a.name (codes ":let") ≡ z → cond x (is_some t.test) (cond y (is_some t.generator) (cond z (is_some t.binds) false)) ≡ false
        → OkSaidAs a.name t (special_tests x y (z && w) (then_do (expr_at a.value_start s) (λ e. Ok (tests e))) (then_do (generator_at a.value_start s) (λ g. Ok (repeats g))) (then_do (pattern_at a.value_start s) (λ p. Ok (binds_to p))) (faulty a.start kind.BadSpecial))
    by true y z w i j l m = tested_as a.name t (expr_at a.value_start s) (same_name a.name (codes ":if") i) (none_of t.test m)
    by false true z w i j l m = repeated_as a.name t (generator_at a.value_start s) (same_name a.name (codes ":for") j) (none_of t.generator m)
    by false false true true i j l m = bound_as a.name t (pattern_at a.value_start s) (same_name a.name (codes ":let") l) (none_of t.binds m)
    by false false true false i j l m = tt
    by false false false w i j l m = tt

special_onto_as : (k : TagKind) (t : Tag) (a : RawAttribute) → OkSaidAs a.name t (special_onto k t a)
special_onto_as k t a = by a.value
  where
    pick : (s : List ℕ) (x : Bool) → has_said a.name t ≡ x → OkSaidAs a.name t (cond x (faulty a.start kind.BadSpecial) (special_by k a s))
    pick s true h = tt
    pick s false h = special_as k t a s h

    by : (v : RawValue) → OkSaidAs a.name t (elim v [ raw.Braces s ↦ if has_said a.name t then faulty a.start kind.BadSpecial else special_by k a s | w ↦ faulty a.start kind.BadSpecial ])
    by (raw.Double s) = tt
    by (raw.Single s) = tt
    by raw.Bare = tt
    by (raw.Braces s) = pick s (has_said a.name t) refl
    by (raw.Spread s) = tt

said_as : (k : TagKind) (t : Tag) (a : RawAttribute) → OkSaidAs a.name t (said_onto k t a)
said_as k t a = by (is_special a.name) refl
  where
    by : (x : Bool) → is_special a.name ≡ x → OkSaidAs a.name t (cond x (special_onto k t a) (plain (is_live_call k) a))
    by true h = special_onto_as k t a
    by false h = plain_as (is_live_call k) t a.name a.value_start a.value h

-- The names before, and what the tag has.
pub record Matches (seen : List (List ℕ)) (t : Tag) : Type 0 where
  pub tested : one_of (codes ":if") seen ≡ is_some t.test
  pub repeated : one_of (codes ":for") seen ≡ is_some t.generator
  pub bound : one_of (codes ":let") seen ≡ is_some t.binds

other_name : (w name : List ℕ) → is_special name ≡ false → bytes_eq (58 ∷ w) name ≡ false
other_name w [] h = refl
other_name w (b ∷ bs) h = let e : eqb 58 b ≡ false = flip b h in ap (λ (x : Bool). x && bytes_eq w bs) e
  where
    flip : (c : ℕ) → eqb c 58 ≡ false → eqb 58 c ≡ false
    flip c k = grind (arith, nat_tests)

matches_plain : (name : List ℕ) (seen : List (List ℕ)) (t u : Tag) → is_special name ≡ false → t.test ≡ u.test → t.generator ≡ u.generator → t.binds ≡ u.binds → Matches seen t → Matches (name ∷ seen) u
matches_plain name seen t u h i j l m = record {
  tested = ap (λ (x : Bool). cond x true (one_of (codes ":if") seen)) (other_name (codes "if") name h) ∙ m.tested ∙ ap (λ o. is_some o) i;
  repeated = ap (λ (x : Bool). cond x true (one_of (codes ":for") seen)) (other_name (codes "for") name h) ∙ m.repeated ∙ ap (λ o. is_some o) j;
  bound = ap (λ (x : Bool). cond x true (one_of (codes ":let") seen)) (other_name (codes "let") name h) ∙ m.bound ∙ ap (λ o. is_some o) l;
}

matches_more : (name : List ℕ) (seen : List (List ℕ)) (t : Tag) (s : Said) → SaidAs name t s → Matches seen t → Matches (name ∷ seen) (with_said s t)
matches_more name seen t (attribute_is n w) h m = matches_plain name seen t (with_said (attribute_is n w) t) h refl refl refl m
matches_more name seen t (value_is n e) h m = matches_plain name seen t (with_said (value_is n e) t) h refl refl refl m
matches_more name seen t (spread_is e) h m = matches_plain name seen t (with_said (spread_is e) t) h refl refl refl m
matches_more name seen t (module_is n) h m = matches_plain name seen t (with_said (module_is n) t) h refl refl refl m
matches_more name seen t (repeats g) h m = subst (λ n. Matches (n ∷ seen) (with_said (repeats g) t)) h.0 (record { tested = m.tested; repeated = refl; bound = m.bound })
matches_more name seen t (tests e) h m = subst (λ n. Matches (n ∷ seen) (with_said (tests e) t)) h.0 (record { tested = refl; repeated = m.repeated; bound = m.bound })
matches_more name seen t (binds_to p) h m = subst (λ n. Matches (n ∷ seen) (with_said (binds_to p) t)) h.0 (record { tested = m.tested; repeated = m.repeated; bound = refl })

-- So the tag tells what the names before do.

pick_same : (x y : Bool) (r f : Result Said Fault) → r ≡ f → cond x f r ≡ cond y f r
pick_same true true r f e = refl
pick_same true false r f e = sym e
pick_same false true r f e = e
pick_same false false r f e = refl

special_same : (k : TagKind) (seen : List (List ℕ)) (t : Tag) (a : RawAttribute) (s : List ℕ) → Matches seen t
    → cond (has_said a.name t) (faulty a.start kind.BadSpecial) (special_by k a s) ≡ cond (one_of a.name seen) (faulty a.start kind.BadSpecial) (special_by k a s)
special_same k seen t a s m = by (bytes_eq a.name (codes ":if")) (bytes_eq a.name (codes ":for")) (bytes_eq a.name (codes ":let")) refl refl refl
  where
    has : Bool → Bool → Bool → Bool
    has x y z = cond x (is_some t.test) (cond y (is_some t.generator) (cond z (is_some t.binds) false))

    says : Bool → Bool → Bool → Result Said Fault
    says x y z = special_tests x y (z && may_bind k) (then_do (expr_at a.value_start s) (λ e. Ok (tests e))) (then_do (generator_at a.value_start s) (λ g. Ok (repeats g))) (then_do (pattern_at a.value_start s) (λ p. Ok (binds_to p))) (faulty a.start kind.BadSpecial)

    alike : (word : List ℕ) (x : Bool) → bytes_eq a.name word ≡ true → one_of word seen ≡ x → has_said a.name t ≡ x
        → cond (has_said a.name t) (faulty a.start kind.BadSpecial) (special_by k a s) ≡ cond (one_of a.name seen) (faulty a.start kind.BadSpecial) (special_by k a s)
    alike word x h i j =
        let seen' : one_of a.name seen ≡ x = subst (λ n. one_of n seen ≡ x) (same_name a.name word h) i in
        ap (λ (b : Bool). cond b (faulty a.start kind.BadSpecial) (special_by k a s)) (j ∙ sym seen')

    by : (x y z : Bool) → bytes_eq a.name (codes ":if") ≡ x → bytes_eq a.name (codes ":for") ≡ y → bytes_eq a.name (codes ":let") ≡ z
        → cond (has_said a.name t) (faulty a.start kind.BadSpecial) (special_by k a s) ≡ cond (one_of a.name seen) (faulty a.start kind.BadSpecial) (special_by k a s)
    by true y z i j l = alike (codes ":if") (is_some t.test) i m.tested (ap (λ b. has b (bytes_eq a.name (codes ":for")) (bytes_eq a.name (codes ":let"))) i)
    by false true z i j l =
        alike (codes ":for") (is_some t.generator) j m.repeated (ap (λ b. has b (bytes_eq a.name (codes ":for")) (bytes_eq a.name (codes ":let"))) i ∙ ap (λ b. has false b (bytes_eq a.name (codes ":let"))) j)
    by false false true i j l =
        alike (codes ":let") (is_some t.binds) l m.bound
        (ap (λ b. has b (bytes_eq a.name (codes ":for")) (bytes_eq a.name (codes ":let"))) i ∙ ap (λ b. has false b (bytes_eq a.name (codes ":let"))) j ∙ ap (λ b. has false false b) l)
    by false false false i j l =
        let none : special_by k a s ≡ faulty a.start kind.BadSpecial =
        ap (λ b. says b (bytes_eq a.name (codes ":for")) (bytes_eq a.name (codes ":let"))) i ∙ ap (λ b. says false b (bytes_eq a.name (codes ":let"))) j ∙ ap (λ b. says false false b) l in
        pick_same (has_said a.name t) (one_of a.name seen) (special_by k a s) (faulty a.start kind.BadSpecial) none

special_onto_same : (k : TagKind) (seen : List (List ℕ)) (t : Tag) (a : RawAttribute) → Matches seen t → special_onto k t a ≡ special k seen a
special_onto_same k seen t a m = by a.value
  where
    by : (v : RawValue)
        → ◌≡◌ {A = Result Said Fault} (elim v [ raw.Braces s ↦ if has_said a.name t then faulty a.start kind.BadSpecial else special_by k a s | w ↦ faulty a.start kind.BadSpecial ])
        (elim v [ raw.Braces s ↦ if one_of a.name seen then faulty a.start kind.BadSpecial else special_by k a s | w ↦ faulty a.start kind.BadSpecial ])
    by (raw.Double s) = refl
    by (raw.Single s) = refl
    by raw.Bare = refl
    by (raw.Braces s) = special_same k seen t a s m
    by (raw.Spread s) = refl

said_same : (k : TagKind) (seen : List (List ℕ)) (t : Tag) (a : RawAttribute) → Matches seen t → said_onto k t a ≡ said_by k seen a
said_same k seen t a m = ap (λ (r : Result Said Fault). cond (is_special a.name) r (plain (is_live_call k) a)) (special_onto_same k seen t a m)

left_right : (k : TagKind) (name : List ℕ) (as' : List RawAttribute) (seen : List (List ℕ)) (t : Tag) → t.name ≡ name → Matches seen t → tag_onto k t as' ≡ over_ok t (tag_of k name seen as')
left_right k name [] seen t e m = ap (λ u. Ok u) (sym (over_bare t name e))
left_right k name (a ∷ as') seen t e m =
    ap (λ (r : Result Said Fault). then_do r (λ s. tag_onto k (with_said s t) as')) (said_same k seen t a m)
    ∙ step (said_by k seen a) (subst (OkSaidAs a.name t) (said_same k seen t a m) (said_as k t a)) (λ s h. left_right k name as' (a.name ∷ seen) (with_said s t) (said_name s t ∙ e) (matches_more a.name seen t s h m))
  where
    step : (r : Result Said Fault) → OkSaidAs a.name t r → ((s : Said) → SaidAs a.name t s → tag_onto k (with_said s t) as' ≡ over_ok (with_said s t) (tag_of k name (a.name ∷ seen) as'))
        → then_do r (λ s. tag_onto k (with_said s t) as') ≡ over_ok t (then_do r (λ s. then_do (tag_of k name (a.name ∷ seen) as') (λ u. Ok (said_on s u))))
    step (Ok s) h rest = rest s h ∙ over_ok_said a.name s t (tag_of k name (a.name ∷ seen) as') h
    step (Err f) h rest = refl

-- the attributes of a tag say the same in both ways
pub tag_left : (k : TagKind) (name : List ℕ) (as' : List RawAttribute) → tag_onto k (bare_tag name) as' ≡ tag_of k name [] as'
tag_left k name as' = left_right k name as' [] (bare_tag name) refl (record { tested = refl; repeated = refl; bound = refl }) ∙ over_nothing name (tag_of k name [] as')
