-- How a text is written inside HTML.
use Rattle.std.specs.Prelude.{ℕ, List, [], ◌∷◌, ◌++◌, codes, ◌==◌, if◌then◌else◌, Option, Some, None, unwrap_or}

-- what stands for one of the five characters with a meaning in HTML
abbrev pub entity_of : ℕ → Option (List ℕ)
entity_of c =
    if c == 38 then Some (codes "&amp;") else if c == 60 then Some (codes "&lt;") else if c == 62 then Some (codes "&gt;")
    else if c == 34 then Some (codes "&quot;") else if c == 39 then Some (codes "&#39;") else None

-- the text with each of these characters replaced
abbrev pub escape_text : List ℕ → List ℕ
escape_text [] = []
escape_text (c ∷ cs) = unwrap_or (entity_of c) (c ∷ []) ++ escape_text cs
