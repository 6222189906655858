-- The reader of scripts as a function: the script that a text spells, or the number of its bad line.
use Rattle.std.specs.Prelude.{◌≡◌, ◌↔◌, ℕ, ◌+◌, List, [], ◌∷◌, ◌++◌, ◌==◌, length, take, codes, nat_le, if◌then◌else◌, Option, Some, None, option_map, option_and_then, Result, Ok, Err}
use Rattle.std.specs.Str.{is_utf8, bytes_eq}
use Rattle.script_core.specs.declared.script.Line.{Line}
use Rattle.script_core.specs.declared.script.Line.TheVariants as line
use Rattle.script_core.specs.Script.{is_fit, may_stand, does_nothing, lines, line_behind, most_bytes, SpellsScript, IsBadLine}

-- what stands before the first space, and behind it
abbrev pub cut : List ℕ → Option (List ℕ × List ℕ)
cut [] = None
cut (b ∷ bs) = if b == 32 then Some ([], bs) else option_map (λ p. (b ∷ p.0, p.1)) (cut bs)

-- the line that a word and the rest behind it make, whatever its parts are
abbrev pub event_parts : List ℕ → Option Line
event_parts rest = option_and_then (λ p. option_and_then (λ q. option_map (λ r. line.Event p.0 q.0 r.0 r.1) (cut q.1)) (cut p.1)) (cut rest)

abbrev pub join_parts : List ℕ → Option Line
join_parts rest = option_map (λ p. line.Join p.0 p.1) (cut rest)

abbrev pub parts : List ℕ → List ℕ → Option Line
parts word rest =
    if bytes_eq word (codes "browser") then Some (line.Browser rest)
    else if bytes_eq word (codes "join") then join_parts rest
    else if bytes_eq word (codes "event") then event_parts rest
    else if bytes_eq word (codes "step") then Some (line.Step rest)
    else if bytes_eq word (codes "run") then Some (line.Run rest)
    else if bytes_eq word (codes "html") then Some (line.Html rest)
    else if bytes_eq word (codes "frames") then Some (line.Frames rest)
    else None

-- the line of that shape, whatever its parts are
unfoldable pub shape_of : List ℕ → Option Line
shape_of l = option_and_then (λ p. parts p.0 p.1) (cut l)

-- the line that does something which a text is
unfoldable pub line_of : List ℕ → Option Line
line_of l = option_and_then (λ x. if is_fit x then Some x else None) (shape_of l)

abbrev pub admit : List Line → Line → Option (List Line)
admit before x = if may_stand before x then Some (before ++ x ∷ []) else None

-- the script behind one line more
abbrev pub with_line : List Line → List ℕ → Option (List Line)
with_line before l = if is_utf8 l then (if does_nothing l then Some before else option_and_then (admit before) (line_of l)) else None

-- what follows a line of the number `n`, where that has been read
abbrev pub or_bad : ℕ → Option (List Line) → (List Line → Result (List Line) ℕ) → Result (List Line) ℕ
or_bad n None next = Err n
or_bad n (Some after) next = next after

-- the script behind these lines, of which the first has the number `n`
abbrev pub script_from : List Line → ℕ → List (List ℕ) → Result (List Line) ℕ
script_from before n [] = Ok before
script_from before n (l ∷ ls) = or_bad n (with_line before l) (λ after. script_from after (n + 1) ls)

-- the script that a text spells, or the number of its bad line
abbrev pub script_of : List ℕ → Result (List Line) ℕ
script_of text = if nat_le (length text) most_bytes then script_from [] 1 (lines text) else Err (line_behind (take most_bytes text))

-- a text is read as a script exactly where it spells it
abbrev pub ReadsAsSpelled : Type 0
ReadsAsSpelled = (text : List ℕ) (s : List Line) → (script_of text ≡ Ok s) ↔ SpellsScript text s

-- a line is named exactly where it is the bad one
abbrev pub NamesBadLine : Type 0
NamesBadLine = (text : List ℕ) (n : ℕ) → (script_of text ≡ Err n) ↔ IsBadLine text n
