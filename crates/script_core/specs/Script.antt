-- Which texts spell a script, and which line of another is bad.
use Rattle.std.specs.Prelude.{◌≡◌, ◌≤◌, ◌<◌, ◌⊎◌, ℕ, ◌+◌, List, [], ◌∷◌, ◌++◌, length, take, codes, Bool, true, not, ◌&&◌, ◌||◌, ◌==◌, nat_le, nat_lt, if◌then◌else◌, count_by, is_some, option_and_then}
use Rattle.std.specs.List.{list_all, list_any}
use Rattle.std.specs.Str.{IsUtf8, bytes_eq}
use Rattle.serde_json.specs.Read.{read}
use Rattle.value_core.specs.Json.{value_of_json}
use Rattle.script_core.specs.declared.script.Line.{Line}
use Rattle.script_core.specs.declared.script.Line.TheVariants as line

-- the first line grows by a byte in front
abbrev pub grow : ℕ → List (List ℕ) → List (List ℕ)
grow b [] = (b ∷ []) ∷ []
grow b (l ∷ ls) = (b ∷ l) ∷ ls

-- the lines of a text, each without the line feed that ends it; behind the last line feed an empty rest is no line
abbrev pub lines : List ℕ → List (List ℕ)
lines [] = []
lines (b ∷ bs) = if b == 10 then [] ∷ lines bs else grow b (lines bs)

-- one to eight ASCII letters or digits
abbrev pub is_letter_or_digit : ℕ → Bool
is_letter_or_digit b = (nat_le 97 b && nat_le b 122) || (nat_le 65 b && nat_le b 90) || (nat_le 48 b && nat_le b 57)

abbrev pub is_name : List ℕ → Bool
is_name name = nat_le 1 (length name) && nat_le (length name) 8 && list_all is_letter_or_digit name

-- one or more bytes that are no space
abbrev pub is_word : List ℕ → Bool
is_word word = nat_le 1 (length word) && list_all (λ b. not (b == 32)) word

-- a JSON text that stands for a value
unfoldable pub has_value : List ℕ → Bool
has_value text = is_some (option_and_then value_of_json (read text))

-- the text of a line: its words with one space between them, and last what may have spaces inside
abbrev pub line_text : Line → List ℕ
line_text (line.Browser name) = codes "browser " ++ name
line_text (line.Join name url) = codes "join " ++ (name ++ (codes " " ++ url))
line_text (line.Event name kind event value) = codes "event " ++ (name ++ (codes " " ++ (kind ++ (codes " " ++ (event ++ (codes " " ++ value))))))
line_text (line.Step name) = codes "step " ++ name
line_text (line.Run name) = codes "run " ++ name
line_text (line.Html name) = codes "html " ++ name
line_text (line.Frames name) = codes "frames " ++ name

-- the browsers that a script has declared
abbrev pub declared : List Line → List (List ℕ)
declared [] = []
declared (line.Browser name ∷ ls) = name ∷ declared ls
declared (line.Join name url ∷ ls) = declared ls
declared (line.Event name kind event value ∷ ls) = declared ls
declared (line.Step name ∷ ls) = declared ls
declared (line.Run name ∷ ls) = declared ls
declared (line.Html name ∷ ls) = declared ls
declared (line.Frames name ∷ ls) = declared ls

abbrev pub is_listed : List ℕ → List (List ℕ) → Bool
is_listed name names = list_any (λ n. bytes_eq n name) names

-- an event's type is any word but `form`, its name any word, and the rest of its line is JSON with a value
abbrev pub is_event : List ℕ → List ℕ → List ℕ → Bool
is_event kind event value = is_word kind && not (bytes_eq kind (codes "form")) && is_word event && has_value value

-- the name of a line is a name, the URL of a join is `/`, and the parts of an event are an event's
abbrev pub is_fit : Line → Bool
is_fit (line.Browser name) = is_name name
is_fit (line.Join name url) = is_name name && bytes_eq url (codes "/")
is_fit (line.Event name kind event value) = is_name name && is_event kind event value
is_fit (line.Step name) = is_name name
is_fit (line.Run name) = is_name name
is_fit (line.Html name) = is_name name
is_fit (line.Frames name) = is_name name

-- whether a line may stand behind these: at most 64 browsers, each declared once and before its use
abbrev pub may_stand : List Line → Line → Bool
may_stand before (line.Browser name) = not (is_listed name (declared before)) && nat_lt (length (declared before)) 64
may_stand before (line.Join name url) = is_listed name (declared before)
may_stand before (line.Event name kind event value) = is_listed name (declared before)
may_stand before (line.Step name) = is_listed name (declared before)
may_stand before (line.Run name) = is_listed name (declared before)
may_stand before (line.Html name) = is_listed name (declared before)
may_stand before (line.Frames name) = is_listed name (declared before)

-- an empty line and a line that begins with `#` do nothing
abbrev pub does_nothing : List ℕ → Bool
does_nothing [] = true
does_nothing (b ∷ bs) = b == 35

-- behind the script `before`, a text that is one line makes the script `after`
abbrev pub Adds : List Line → List ℕ → List Line → Type 0
Adds before l after =
    IsUtf8 l
    × (((does_nothing l ≡ true) × (after ≡ before))
    ⊎ ((x : Line) × (l ≡ line_text x) × (is_fit x ≡ true) × (may_stand before x ≡ true) × (after ≡ before ++ x ∷ [])))

-- behind the script `before`, these lines make the script `s`
abbrev pub SpellsLines : List Line → List (List ℕ) → List Line → Type 0
SpellsLines before [] s = s ≡ before
SpellsLines before (l ∷ ls) s = (after : List Line) × Adds before l after × SpellsLines after ls s

-- a script has at most this many bytes
abbrev pub most_bytes : ℕ
most_bytes = 16777216

-- the text spells the script `s`
abbrev pub SpellsScript : List ℕ → List Line → Type 0
SpellsScript text s = (length text ≤ most_bytes) × SpellsLines [] (lines text) s

-- the number of the line in which the first byte behind these stands
abbrev pub line_behind : List ℕ → ℕ
line_behind bytes = 1 + count_by (λ b. b == 10) bytes

-- the lines before this one spell a script, and behind that one this line cannot be read
pub record IsFirstBad (text : List ℕ) (n : ℕ) : Type 0 where
  pub earlier : List (List ℕ)
  pub bad : List ℕ
  pub later : List (List ℕ)
  pub script : List Line
  pub cut : lines text ≡ earlier ++ bad ∷ later
  pub number : n ≡ length earlier + 1
  pub read : SpellsLines [] earlier script
  pub stray : (after : List Line) → Adds script bad after → ⊥

-- the bad line of a text: where the text is too long that of its first byte past the limit, and else the first without a reading
abbrev pub IsBadLine : List ℕ → ℕ → Type 0
IsBadLine text n =
    ((most_bytes < length text) × (n ≡ line_behind (take most_bytes text)))
    ⊎ ((length text ≤ most_bytes) × IsFirstBad text n)
