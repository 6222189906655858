-- Facts about the ends of words and interpolations.
use Rattle.std.proofs.Common.{◌≡◌, ℕ, suc, ◌+◌, ◌-◌, ◌<◌, ◌≤◌, List, [], ◌∷◌, length, drop, take, get_or, reverse, Bool, true, false, IsTrue, Option, Some, None, refl, sym, ap, ◌∙◌, subst, arith, add-one}
use Rattle.std.specs.Prelude.{◌↔◌, nat_eq, option_map, if◌then◌else◌}
use Rattle.std.specs.Cmp.Lexicographic.{same_text}
use Rattle.std.proofs.lemmas.Bool.{eqb-true}
use Rattle.std.proofs.lemmas.List.{length-reverse, length-take, get_or-drop}
use Rattle.std.proofs.Math.Seq.{drop-cons}
use Rattle.heex_token.specs.declared.scan.Inner.{Inner}
use Rattle.heex_token.specs.declared.scan.Inner.TheVariants.{Brace, Quote, Part}
use Rattle.heex_token.specs.declared.scan.Before.{Before}
use Rattle.heex_token.specs.declared.scan.Before.TheVariants.{Other, Slash, Hash}
use Rattle.heex_token.specs.declared.value.Delimiter.{Delimiter}
use Rattle.heex_token.specs.declared.value.Delimiter.TheVariants as delimiter
use Rattle.heex_token.specs.Tokens.{begins, through, closing, to_brace, open_in_code, open_in_text, open_behind, before_next}
use Rattle.heex_token.specs.Pieces.{open_after, before_after, value_size}

-- what a suffix begins with
pub head_of : (l : List ℕ) (j d : ℕ) → j < length l → drop j l ≡ get_or l j d ∷ drop (j + 1) l
head_of l j d h = drop-cons l j d h ∙ ap (λ i. get_or l j d ∷ drop i l) (sym (add-one j))

-- counts of what follows a byte and what stands before it
pub counted : (n : ℕ) (o : Option ℕ) → option_map (λ m. n + m) (option_map (λ m. m + 1) o) ≡ option_map (λ m. n + 1 + m) o
counted n None = refl
counted n (Some m) = let e : n + (m + 1) ≡ n + 1 + m = omega arith in ap (λ i. Some i) e

-- a count of one byte more
record Less (o : Option ℕ) (n : ℕ) : Type 0 where
  less : ℕ
  is : o ≡ Some less
  more : n ≡ less + 1

less_of : (o : Option ℕ) (n : ℕ) → option_map (λ m. m + 1) o ≡ Some n → Less o n
less_of None n h = cc
less_of (Some m) n h = record { less = m; is = refl; more = cc }

-- Words.

pub through_here : (word l : List ℕ) (j : ℕ) → j < length l → begins word (drop j l) ≡ true → through word (drop j l) ≡ Some (length word)
through_here word l j h k =
    let e = head_of l j 0 h in
    ap (through word) e ∙ ap (λ (x : Bool). if x then Some (length word) else option_map (λ n. n + 1) (through word (drop (j + 1) l))) (sym (ap (begins word) e) ∙ k)

pub through_on : (word l : List ℕ) (j : ℕ) → j < length l → begins word (drop j l) ≡ false → through word (drop j l) ≡ option_map (λ n. n + 1) (through word (drop (j + 1) l))
through_on word l j h k =
    let e = head_of l j 0 h in
    ap (through word) e ∙ ap (λ (x : Bool). if x then Some (length word) else option_map (λ n. n + 1) (through word (drop (j + 1) l))) (sym (ap (begins word) e) ∙ k)

pub begins_take : (word bs : List ℕ) → begins word bs ≡ true → word ≡ take (length word) bs
begins_take word bs h = same_text word (take (length word) bs) (sym h)

-- a beginning is not longer than the whole
pub begins_le : (word bs : List ℕ) → begins word bs ≡ true → length word ≤ length bs
begins_le word bs h = omega (arith, ap length (begins_take word bs h), length-take (length word) bs)

-- So many bytes of a text end with its word.
pub record Through (word bs : List ℕ) (n : ℕ) : Type 0 where
  pub before : ℕ
  pub whole : n ≡ before + length word
  pub within : n ≤ length bs
  pub here : begins word (drop before bs) ≡ true

pub through_ends : (word bs : List ℕ) (n : ℕ) → through word bs ≡ Some n → Through word bs n
through_ends word [] n h = cc
through_ends word (b ∷ bs) n h = by_test (begins word (b ∷ bs)) refl h (λ m k. through_ends word bs m k)
  where
    by_test : (x : Bool) → begins word (b ∷ bs) ≡ x → (if x then Some (length word) else option_map (λ m. m + 1) (through word bs)) ≡ Some n → ((m : ℕ) → through word bs ≡ Some m → Through word bs m) → Through word (b ∷ bs) n
    by_test true k h ih = let e : n ≡ length word = cc in record { before = 0; whole = omega arith; within = omega (arith, begins_le word (b ∷ bs) k); here = k }
    by_test false k h ih =
        let l = less_of (through word bs) n h in
        let t = ih l.less l.is in
        record { before = suc t.before; whole = omega (arith, t.whole, l.more); within = omega (arith, t.within, l.more); here = t.here }

-- Interpolations.

pub closing_step : (os : List Inner) (before : Before) (l : List ℕ) (j : ℕ) → 0 < length os → j < length l
    → closing os before (drop j l) ≡ option_map (λ n. n + 1) (closing (open_after os before (get_or l j 0)) (before_after os before (get_or l j 0)) (drop (j + 1) l))
closing_step [] before l j k h = absurd (omega (arith, k))
closing_step (Brace ∷ os) before l j k h = ap (closing (Brace ∷ os) before) (head_of l j 0 h)
closing_step (Quote ∷ os) before l j k h = ap (closing (Quote ∷ os) before) (head_of l j 0 h)
closing_step (Part ∷ os) before l j k h = ap (closing (Part ∷ os) before) (head_of l j 0 h)

pub some_open : (os : List Inner) (r : Bool) → (IsTrue r ↔ (os ≡ [])) → r ≡ false → 0 < length os
some_open [] r h k = let w : IsTrue r = h.1 refl in cc
some_open (o ∷ os) r h k = grind arith

-- So many bytes end with one that is ASCII.
pub record Ends (bs : List ℕ) (n : ℕ) : Type 0 where
  pub some : 1 ≤ n
  pub within : n ≤ length bs
  pub ascii : get_or bs (n - 1) 0 < 128

-- what closes all that is open
code_closes : (o : Inner) (os : List Inner) (b : ℕ) → open_in_code b (o ∷ os) ≡ [] → b < 128
code_closes o os b h = by_test (nat_eq b 34) (nat_eq b 123) (nat_eq b 125) refl h
  where
    by_test : (x y z : Bool) → nat_eq b 125 ≡ z → (if x then Quote ∷ o ∷ os else if y then Brace ∷ o ∷ os else if z then os else o ∷ os) ≡ [] → b < 128
    by_test true y z e k = cc
    by_test false true z e k = cc
    by_test false false true e k = let i : b ≡ 125 = eqb-true b 125 e in omega arith
    by_test false false false e k = cc

quote_closes : (o : Inner) (os : List Inner) (b : ℕ) (x : Bool) → nat_eq b 34 ≡ x → (if x then os else o ∷ os) ≡ [] → b < 128
quote_closes o os b true e k = let i : b ≡ 34 = eqb-true b 34 e in omega arith
quote_closes o os b false e k = cc

hash_closes : (o : Inner) (os : List Inner) (b : ℕ) (x : Bool) → (if x then Part ∷ o ∷ os else if nat_eq b 34 then os else o ∷ os) ≡ [] → b < 128
hash_closes o os b true k = cc
hash_closes o os b false k = quote_closes o os b (nat_eq b 34) refl k

text_closes : (o : Inner) (os : List Inner) (before : Before) (b : ℕ) → open_in_text before b (o ∷ os) ≡ [] → b < 128
text_closes o os Slash b h = cc
text_closes o os Hash b h = hash_closes o os b (nat_eq b 123) h
text_closes o os Other b h = quote_closes o os b (nat_eq b 34) refl h

closes : (o : Inner) (os : List Inner) (before : Before) (b : ℕ) → open_behind o before b (o ∷ os) ≡ [] → b < 128
closes Brace os before b h = code_closes Brace os b h
closes Part os before b h = code_closes Part os b h
closes Quote os before b h = text_closes Quote os before b h

ends_here : (b : ℕ) (bs : List ℕ) (n : ℕ) → b < 128 → n ≡ 1 → Ends (b ∷ bs) n
ends_here b bs n h e = subst (Ends (b ∷ bs)) (sym e) (record { some = omega arith; within = grind arith; ascii = h })

ends_on : (b : ℕ) (bs : List ℕ) (m n : ℕ) → n ≡ m + 1 → Ends bs m → Ends (b ∷ bs) n
ends_on b bs m n e k =
    let i : n - 1 ≡ suc (m - 1) = omega (arith, e, k.some) in
    record { some = omega arith; within = grind (arith, k.within); ascii = subst (λ j. get_or (b ∷ bs) j 0 < 128) (sym i) k.ascii }

closing_ends : (o : Inner) (os : List Inner) (before : Before) (bs : List ℕ) (n : ℕ) → closing (o ∷ os) before bs ≡ Some n → Ends bs n
closing_ends o os before [] n h = cc
closing_ends o os before (b ∷ bs) n h = by_open (open_behind o before b (o ∷ os)) refl h (λ p ps m k. closing_ends p ps (before_next o before b) bs m k)
  where
    by_open : (ps : List Inner) → open_behind o before b (o ∷ os) ≡ ps → option_map (λ m. m + 1) (closing ps (before_next o before b) bs) ≡ Some n → ((p : Inner) (ps : List Inner) (m : ℕ) → closing (p ∷ ps) (before_next o before b) bs ≡ Some m → Ends bs m) → Ends (b ∷ bs) n
    by_open [] k h ih = ends_here b bs n (closes o os before b k) cc
    by_open (p ∷ ps) k h ih = let l = less_of (closing (p ∷ ps) (before_next o before b) bs) n h in ends_on b bs l.less n l.more (ih p ps l.less l.is)

pub brace_ends : (bs : List ℕ) (n : ℕ) → to_brace bs ≡ Some n → Ends bs n
brace_ends bs n h = closing_ends Brace [] Other bs n h

pub first_in : (l : List ℕ) (j : ℕ) → get_or (drop j l) 0 0 ≡ get_or l j 0
first_in l j = let e : j + 0 ≡ j = omega arith in get_or-drop j l 0 0 ∙ ap (λ i. get_or l i 0) e

pub first_byte : (l : List ℕ) (q : ℕ) → begins (q ∷ []) l ≡ true → get_or l 0 0 ≡ q
first_byte [] q h = let e = begins_take (q ∷ []) [] h in cc
first_byte (b ∷ l) q h = let e : q ∷ [] ≡ b ∷ [] = begins_take (q ∷ []) (b ∷ l) h in cc

quote_ends : (q : ℕ) (bs : List ℕ) (n : ℕ) → q < 128 → through (q ∷ []) bs ≡ Some n → Ends bs n
quote_ends q bs n a h =
    let t = through_ends (q ∷ []) bs n h in
    let i : n - 1 ≡ t.before = omega (arith, t.whole) in
    let e : get_or bs t.before 0 ≡ q = sym (first_in bs t.before) ∙ first_byte (drop t.before bs) q t.here in
    record { some = omega (arith, t.whole); within = t.within; ascii = subst (λ (m : ℕ). m < 128) (sym (ap (λ j. get_or bs j 0) i ∙ e)) a }

-- a value ends with one byte, which is ASCII
pub value_ends : (d : Delimiter) (bs : List ℕ) (n : ℕ) → value_size d bs ≡ Some n → Ends bs n
value_ends delimiter.Double bs n h = quote_ends 34 bs n (omega arith) h
value_ends delimiter.Single bs n h = quote_ends 39 bs n (omega arith) h
value_ends delimiter.Braces bs n h = brace_ends bs n h

pub some_turned : (os : List Inner) → 0 < length os → 0 < length (reverse os)
some_turned os h = omega (arith, h, length-reverse os)
