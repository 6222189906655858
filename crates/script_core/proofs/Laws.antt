-- The function that reads, and the relation that says what is read, agree.
use Rattle.std.proofs.Common.{arith, ◌≡◌, ◌≤◌, ◌<◌, inl, inr, ℕ, ◌+◌, List, [], ◌∷◌, ◌++◌, length, take, Bool, true, false, cond, nat_le, Option, Some, None, option_and_then, refl, ap, sym, suc, subst, ◌∙◌, Result, Ok, Err, IfOk}
use Rattle.std.specs.Str.{is_utf8}
use Rattle.std.proofs.lemmas.Str.{IsUtf8-from_is_utf8, is_utf8-from_IsUtf8}
use Rattle.std.proofs.lemmas.Bool.{leb-true, leb-false}
use Rattle.script_core.specs.declared.script.Line.{Line}
use Rattle.script_core.specs.declared.script.ScriptFault.{ScriptFault}
use Rattle.script_core.specs.declared.script.Line.TheVariants as line
use Rattle.script_core.specs.Script.{lines, line_text, is_fit, may_stand, does_nothing, Adds, SpellsLines, SpellsScript, IsFirstBad, IsBadLine, most_bytes, line_behind}
use Rattle.script_core.specs.Reading.{shape_of, line_of, admit, with_line, or_bad, script_from, script_of, ReadsAsSpelled, NamesBadLine}
use Rattle.script_core.proofs.Lines.{goes_on, stops}
use Rattle.script_core.proofs.Shapes.{shape_yes, shape_back}

some_in : {X : Type 0} (b : Bool) (v r : X) → cond b (Some v) None ≡ Some r → (b ≡ true) × (v ≡ r)
some_in true v r e = (refl, cc)
some_in false v r e = cc

-- the line is the text of `x`, which fits
abbrev IsLine : List ℕ → Line → Type 0
IsLine l x = (l ≡ line_text x) × (is_fit x ≡ true)

fit_by : (l : List ℕ) (x : Line) (o : Option Line) → shape_of l ≡ o → option_and_then (λ y. cond (is_fit y) (Some y) None) o ≡ Some x → IsLine l x
fit_by l x None h e = cc
fit_by l x (Some y) h e =
    let at = some_in (is_fit y) y x e in
    subst (λ z. IsLine l z) at.1 (shape_yes l y h, at.0)

line_yes : (l : List ℕ) (x : Line) → line_of l ≡ Some x → IsLine l x
unfolding line_of
line_yes l x = fit_by l x (shape_of l) refl

line_back : (x : Line) → is_fit x ≡ true → line_of (line_text x) ≡ Some x
unfolding line_of
line_back x h =
    ap (λ (o : Option Line). option_and_then (λ y. cond (is_fit y) (Some y) None) o) (shape_back x h)
    ∙ ap (λ b. cond b (Some x) None) h

does_something : (x : Line) → does_nothing (line_text x) ≡ false
does_something (line.Browser n) = refl
does_something (line.Join n u) = refl
does_something (line.Event n k e v) = refl
does_something (line.Step n) = refl
does_something (line.Run n) = refl
does_something (line.Html n) = refl
does_something (line.Frames n) = refl

-- one line more

adds_by : (before : List Line) (l : List ℕ) (after : List Line) (u d : Bool) (o : Option Line) → is_utf8 l ≡ u → does_nothing l ≡ d → line_of l ≡ o → cond u (cond d (Some before) (option_and_then (admit before) o)) None ≡ Some after → Adds before l after
adds_by before l after false d o hu hd ho e = cc
adds_by before l after true true o hu hd ho e = (IsUtf8-from_is_utf8 l hu, inl (hd, cc))
adds_by before l after true false None hu hd ho e = cc
adds_by before l after true false (Some x) hu hd ho e =
    let at = some_in (may_stand before x) (before ++ x ∷ []) after e in
    let is = line_yes l x ho in
    (IsUtf8-from_is_utf8 l hu, inr (x, is.0, is.1, at.0, sym at.1))

adds_yes : (before : List Line) (l : List ℕ) (after : List Line) → with_line before l ≡ Some after → Adds before l after
adds_yes before l after = adds_by before l after (is_utf8 l) (does_nothing l) (line_of l) refl refl refl

read_by : (before : List Line) (l : List ℕ) (u d : Bool) (o : Option Line) → is_utf8 l ≡ u → does_nothing l ≡ d → line_of l ≡ o → with_line before l ≡ cond u (cond d (Some before) (option_and_then (admit before) o)) None
read_by before l u d o hu hd ho =
    ap (λ v. cond v (cond (does_nothing l) (Some before) (option_and_then (admit before) (line_of l))) None) hu
    ∙ ap (λ v. cond u (cond v (Some before) (option_and_then (admit before) (line_of l))) None) hd
    ∙ ap (λ v. cond u (cond d (Some before) (option_and_then (admit before) v)) None) ho

adds_back : (before : List Line) (l : List ℕ) (after : List Line) → Adds before l after → with_line before l ≡ Some after
adds_back before l after (u, inl (d, e)) = read_by before l true true (line_of l) (is_utf8-from_IsUtf8 l u) d refl ∙ ap Some (sym e)
adds_back before l after (u, inr (x, t, f, m, e)) =
    read_by before l true false (Some x) (is_utf8-from_IsUtf8 l u) (ap does_nothing t ∙ does_something x) (ap line_of t ∙ line_back x f)
    ∙ ap (λ b. cond b (Some (before ++ x ∷ [])) None) m
    ∙ ap Some (sym e)

-- all lines

read_on : (before : List Line) (n : ℕ) (l : List ℕ) (ls : List (List ℕ)) (s : List Line) (o : Option (List Line)) → with_line before l ≡ o
    → ((after : List Line) → script_from after (n + 1) ls ≡ Ok s → SpellsLines after ls s)
    → or_bad n o (λ after. script_from after (n + 1) ls) ≡ Ok s → SpellsLines before (l ∷ ls) s
read_on before n l ls s None h ih e = cc
read_on before n l ls s (Some after) h ih e = (after, adds_yes before l after h, ih after e)

spelled : (ls : List (List ℕ)) (before : List Line) (n : ℕ) (s : List Line) → script_from before n ls ≡ Ok s → SpellsLines before ls s
spelled [] before n s e = cc
spelled (l ∷ ls) before n s e = read_on before n l ls s (with_line before l) refl (λ after h. spelled ls after (n + 1) s h) e

spelled_back : (ls : List (List ℕ)) (before : List Line) (n : ℕ) (s : List Line) → SpellsLines before ls s → script_from before n ls ≡ Ok s
spelled_back [] before n s e = ap Ok (sym e)
spelled_back (l ∷ ls) before n s (after, adds, more) = goes_on before n l ls after (adds_back before l after adds) ∙ spelled_back ls after (n + 1) s more

-- the first bad line of lines whose first has the number `n`
record BadFrom (before : List Line) (n : ℕ) (ls : List (List ℕ)) (m : ℕ) : Type 0 where
  earlier : List (List ℕ)
  bad : List ℕ
  later : List (List ℕ)
  script : List Line
  cut : ls ≡ earlier ++ bad ∷ later
  number : m ≡ length earlier + n
  read : SpellsLines before earlier script
  stray : (after : List Line) → Adds script bad after → ⊥

is_none : (before : List Line) (l : List ℕ) → with_line before l ≡ None → (after : List Line) → Adds before l after → ⊥
is_none before l e after adds = let some = adds_back before l after adds in cc

bad_on : (before : List Line) (n : ℕ) (l : List ℕ) (ls : List (List ℕ)) (m : ℕ) (o : Option (List Line)) → with_line before l ≡ o
    → ((after : List Line) → script_from after (n + 1) ls ≡ Err m → BadFrom after (n + 1) ls m)
    → or_bad n o (λ after. script_from after (n + 1) ls) ≡ Err m → BadFrom before n (l ∷ ls) m
bad_on before n l ls m None h ih e =
    let same : n ≡ m = cc in
    record { earlier = []; bad = l; later = ls; script = before; cut = refl; number = omega arith; read = refl; stray = is_none before l h }
bad_on before n l ls m (Some after) h ih e =
    let b = ih after e in
    record { earlier = l ∷ b.earlier; bad = b.bad; later = b.later; script = b.script; cut = ap (λ more. l ∷ more) b.cut; number = omega (arith, b.number); read = (after, adds_yes before l after h, b.read); stray = b.stray }

bad_from : (ls : List (List ℕ)) (before : List Line) (n m : ℕ) → script_from before n ls ≡ Err m → BadFrom before n ls m
bad_from [] before n m e = cc
bad_from (l ∷ ls) before n m e = bad_on before n l ls m (with_line before l) refl (λ after h. bad_from ls after (n + 1) m h) e

no_line : (before : List Line) (l : List ℕ) (o : Option (List Line)) → with_line before l ≡ o → ((after : List Line) → Adds before l after → ⊥) → with_line before l ≡ None
no_line before l None h stray = h
no_line before l (Some after) h stray = absurd (stray after (adds_yes before l after h))

bad_back : (earlier : List (List ℕ)) (before : List Line) (n : ℕ) (bad : List ℕ) (later : List (List ℕ)) (script : List Line) → SpellsLines before earlier script → ((after : List Line) → Adds script bad after → ⊥) → script_from before n (earlier ++ bad ∷ later) ≡ Err (length earlier + n)
bad_back [] before n bad later script read stray =
    let stray_here : (after : List Line) → Adds before bad after → ⊥ = subst (λ s. (after : List Line) → Adds s bad after → ⊥) read stray in
    let same : n ≡ 0 + n = omega arith in
    stops before n bad later (no_line before bad (with_line before bad) refl stray_here) ∙ ap Err same
bad_back (l ∷ earlier) before n bad later script (after, adds, more) stray =
    let same : length earlier + (n + 1) ≡ suc (length earlier) + n = omega arith in
    goes_on before n l (earlier ++ bad ∷ later) after (adds_back before l after adds)
    ∙ bad_back earlier after (n + 1) bad later script more stray
    ∙ ap Err same

-- the limit

leb_back : (b : Bool) (m n : ℕ) → nat_le m n ≡ b → m ≤ n → b ≡ true
leb_back true m n e h = refl
leb_back false m n e h = let past : n < m = leb-false m n e in absurd (omega arith)

few : (text : List ℕ) → length text ≤ most_bytes → script_of text ≡ script_from [] 1 (lines text)
few text h =
    ap (λ b. cond b (script_from [] 1 (lines text)) (Err (line_behind (take most_bytes text))))
    (leb_back (nat_le (length text) most_bytes) (length text) most_bytes refl h)

leb_out : (b : Bool) (m n : ℕ) → nat_le m n ≡ b → n < m → b ≡ false
leb_out true m n e h = let past : m ≤ n = leb-true m n e in absurd (omega arith)
leb_out false m n e h = refl

many : (text : List ℕ) → most_bytes < length text → script_of text ≡ Err (line_behind (take most_bytes text))
many text h =
    ap (λ b. cond b (script_from [] 1 (lines text)) (Err (line_behind (take most_bytes text))))
    (leb_out (nat_le (length text) most_bytes) (length text) most_bytes refl h)

spells_by : (text : List ℕ) (s : List Line) (b : Bool) (n : ℕ) → nat_le (length text) most_bytes ≡ b → cond b (script_from [] 1 (lines text)) (Err n) ≡ Ok s → SpellsScript text s
spells_by text s true n h e = (leb-true (length text) most_bytes h, spelled (lines text) [] 1 s e)
spells_by text s false n h e = cc

first_bad : (text : List ℕ) (n : ℕ) → BadFrom [] 1 (lines text) n → IsFirstBad text n
first_bad text n b = record { earlier = b.earlier; bad = b.bad; later = b.later; script = b.script; cut = b.cut; number = b.number; read = b.read; stray = b.stray }

bad_by : (text : List ℕ) (n : ℕ) (b : Bool) → nat_le (length text) most_bytes ≡ b → cond b (script_from [] 1 (lines text)) (Err (line_behind (take most_bytes text))) ≡ Err n → IsBadLine text n
bad_by text n true h e = inr (leb-true (length text) most_bytes h, first_bad text n (bad_from (lines text) [] 1 n e))
bad_by text n false h e = inl (leb-false (length text) most_bytes h, cc)

pub spells : (text : List ℕ) (s : List Line) → script_of text ≡ Ok s → SpellsScript text s
spells text s = spells_by text s (nat_le (length text) most_bytes) (line_behind (take most_bytes text)) refl

pub spells_back : (text : List ℕ) (s : List Line) → SpellsScript text s → script_of text ≡ Ok s
spells_back text s (h, e) = few text h ∙ spelled_back (lines text) [] 1 s e

pub bad_line : (text : List ℕ) (n : ℕ) → script_of text ≡ Err n → IsBadLine text n
bad_line text n = bad_by text n (nat_le (length text) most_bytes) refl

pub bad_line_back : (text : List ℕ) (n : ℕ) → IsBadLine text n → script_of text ≡ Err n
bad_line_back text n (inl (h, e)) = many text h ∙ ap Err (sym e)
bad_line_back text n (inr (h, b)) =
    few text h
    ∙ ap (λ ls. script_from [] 1 ls) b.cut
    ∙ bad_back b.earlier [] 1 b.bad b.later b.script b.read b.stray
    ∙ ap Err (sym b.number)

pub read_spelled : (text : List ℕ) (r : Result (List Line) ScriptFault) → IfOk r (λ s. script_of text ≡ Ok s) → IfOk r (λ s. SpellsScript text s)
read_spelled text (Ok s) h = spells text s h
read_spelled text (Err e) h = tt

pub reads_as_spelled : ReadsAsSpelled
reads_as_spelled = λ text s. (spells text s, spells_back text s)

pub names_bad_line : NamesBadLine
names_bad_line = λ text n. (bad_line text n, bad_line_back text n)
