-- Facts on cut lines and single steps of the reader.
use Rattle.std.proofs.Common.{arith, ◌≡◌, ◌≢◌, ◌≤◌, ◌<◌, ℕ, ◌+◌, suc, List, [], ◌∷◌, ◌++◌, length, take, drop, Bool, true, false, cond, ◌&&◌, ◌==◌, nat_lt, Option, Some, None, position, refl, ap, sym, ◌∙◌, Err}
use Rattle.std.specs.List.{position_or_len}
use Rattle.std.specs.Str.{IsUtf8, is_utf8}
use Rattle.std.proofs.lemmas.Str.{IsUtf8-from_is_utf8, is_utf8-from_IsUtf8}
use Rattle.std.proofs.Math.Seq.{drop-length}
use borrow.Author.Tests.{ltb-true, ltb-false}
use Rattle.script_core.specs.declared.script.Line.{Line}
use Rattle.script_core.specs.declared.script.Line.TheVariants as line
use Rattle.script_core.specs.Script.{lines, grow, declared}
use Rattle.script_core.specs.Reading.{with_line, or_bad, script_from}

-- how many bytes stand before the first line feed
abbrev feed_len : List ℕ → ℕ
feed_len bs = position_or_len (λ b. b == 10) bs

abbrev CutThere : List ℕ → Type 0
CutThere bs = feed_len bs < length bs → lines bs ≡ take (feed_len bs) bs ∷ lines (drop (feed_len bs + 1) bs)

cut_cons : (t : Bool) (b : ℕ) (bs : List ℕ) → (b == 10) ≡ t → CutThere bs → CutThere (b ∷ bs)
cut_cons true b bs e ih = rw e (λ _. refl)
cut_cons false b bs e ih =
    rw e (λ h.
    let k = feed_len bs in
    let less : k < length bs = omega arith in
    let e1 : 1 + k ≡ suc k = omega arith in
    let e2 : 1 + k + 1 ≡ suc (k + 1) = omega arith in
    let cut : lines bs ≡ take k bs ∷ lines (drop (k + 1) bs) = ih less in
    rw (cut, e2, e1) refl)

cut_there : (bs : List ℕ) → CutThere bs
cut_there [] = λ h. absurd (omega arith)
cut_there (b ∷ bs) = cut_cons (b == 10) b bs refl (cut_there bs)

some_inside : (b : Bool) (k i : ℕ) → cond b (Some k) None ≡ Some i → (b ≡ true) × (k ≡ i)
some_inside true k i e = (refl, cc)
some_inside false k i e = cc

none_outside : (b : Bool) (k : ℕ) → cond b (Some k) None ≡ None → b ≡ false
none_outside true k e = cc
none_outside false k e = refl

-- a text with a line feed at place `i` is cut there
pub cut_at_feed : (bs : List ℕ) (i : ℕ) → position (λ b. b == 10) bs ≡ Some i → lines bs ≡ take i bs ∷ lines (drop (i + 1) bs)
cut_at_feed bs i e =
    let at = some_inside (nat_lt (feed_len bs) (length bs)) (feed_len bs) i e in
    rw (← at.1) (cut_there bs (ltb-true _ _ at.0))

abbrev alone : List ℕ → List (List ℕ)
alone [] = []
alone (b ∷ bs) = (b ∷ bs) ∷ []

abbrev Whole : List ℕ → Type 0
Whole bs = length bs ≤ feed_len bs → lines bs ≡ alone bs

whole_cons : (t : Bool) (b : ℕ) (bs : List ℕ) → (b == 10) ≡ t → Whole bs → Whole (b ∷ bs)
whole_cons true b bs e ih = rw e (λ h. absurd (omega arith))
whole_cons false b [] e ih = rw e (λ h. refl)
whole_cons false b (x ∷ bs) e ih =
    rw e (λ h.
    let less : length (x ∷ bs) ≤ feed_len (x ∷ bs) = omega arith in
    let whole : lines (x ∷ bs) ≡ (x ∷ bs) ∷ [] = ih less in
    ap (grow b) whole)

whole : (bs : List ℕ) → Whole bs
whole [] = λ h. refl
whole (b ∷ bs) = whole_cons (b == 10) b bs refl (whole bs)

one_line : (bs : List ℕ) → bs ≢ [] → length bs ≤ feed_len bs → lines bs ≡ bs ∷ []
one_line [] some h = absurd (some refl)
one_line (b ∷ bs) some h = whole (b ∷ bs) h

-- a text without a line feed is one line
pub last_line : (bs rest : List ℕ) (n : ℕ) → position (λ b. b == 10) bs ≡ None → bs ≢ [] → n ≡ length bs → rest ≡ drop n bs → lines bs ≡ bs ∷ lines rest
last_line bs rest n e some at behind =
    let out : nat_lt (feed_len bs) (length bs) ≡ false = none_outside (nat_lt (feed_len bs) (length bs)) (feed_len bs) e in
    let past : length bs ≤ feed_len bs = ltb-false _ _ out in
    let empty : rest ≡ [] = behind ∙ ap (λ k. drop k bs) at ∙ drop-length bs in
    one_line bs some past ∙ sym (ap (λ r. bs ∷ lines r) empty)

pub head_true : (a b : Bool) → (a && b) ≡ true → (a ≡ true) × (b ≡ true)
head_true true true e = (refl, refl)
head_true true false e = cc
head_true false b e = cc

not_true : (b : Bool) → (b ≡ true → ⊥) → b ≡ false
not_true true h = absurd (h refl)
not_true false h = refl

-- bytes are a text exactly where they are UTF-8
pub text_yes : (l t : List ℕ) → t ≡ l → IsUtf8 l → Some t ≡ cond (is_utf8 l) (Some l) None
text_yes l t e u = ap Some e ∙ sym (ap (λ b. cond b (Some l) None) (is_utf8-from_IsUtf8 l u))

pub text_no : (l : List ℕ) → (IsUtf8 l → ⊥) → None ≡ cond (is_utf8 l) (Some l) None
text_no l h = sym (ap (λ b. cond b (Some l) None) (not_true (is_utf8 l) (λ e. h (IsUtf8-from_is_utf8 l e))))

pub declared-append : (ls ms : List Line) → declared (ls ++ ms) ≡ declared ls ++ declared ms
declared-append [] ms = refl
declared-append (line.Browser n ∷ ls) ms = ap (λ ns. n ∷ ns) (declared-append ls ms)
declared-append (line.Join n u ∷ ls) ms = declared-append ls ms
declared-append (line.Event n k e v ∷ ls) ms = declared-append ls ms
declared-append (line.Step n ∷ ls) ms = declared-append ls ms
declared-append (line.Run n ∷ ls) ms = declared-append ls ms
declared-append (line.Html n ∷ ls) ms = declared-append ls ms
declared-append (line.Frames n ∷ ls) ms = declared-append ls ms

-- one line of the reader
pub goes_on : (before : List Line) (n : ℕ) (l : List ℕ) (ls : List (List ℕ)) (after : List Line) → with_line before l ≡ Some after → script_from before n (l ∷ ls) ≡ script_from after (n + 1) ls
goes_on before n l ls after e = ap (λ (o : Option (List Line)). or_bad n o (λ next. script_from next (n + 1) ls)) e

pub stops : (before : List Line) (n : ℕ) (l : List ℕ) (ls : List (List ℕ)) → with_line before l ≡ None → script_from before n (l ∷ ls) ≡ Err n
stops before n l ls e = ap (λ (o : Option (List Line)). or_bad n o (λ next. script_from next (n + 1) ls)) e
