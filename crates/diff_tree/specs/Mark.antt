-- The mark of a component on its text.
use Rattle.std.specs.Prelude.{ℕ, List, [], ◌∷◌, ◌++◌, Bool, false, ◌&&◌, ◌||◌, ◌==◌, nat_le, if◌then◌else◌, codes}
use Rattle.std.specs.Fmt.{decimal}

-- the mark of a number
abbrev pub mark_text : ℕ → List ℕ
mark_text n = codes " data-phx-component=\"" ++ (decimal n ++ codes "\"")

-- a lower-case letter
abbrev pub is_lower : ℕ → Bool
is_lower c = nat_le 97 c && nat_le c 122

-- a text that begins with one
abbrev pub begins_lower : List ℕ → Bool
begins_lower [] = false
begins_lower (c ∷ cs) = is_lower c

-- a tag's name goes to the next white space, `/`, `>`, `=`, quote, brace or `<`
abbrev pub ends_name : ℕ → Bool
ends_name c = c == 32 || c == 9 || c == 10 || c == 13 || c == 47 || c == 62 || c == 61 || c == 34 || c == 39 || c == 123 || c == 125 || c == 60

-- the mark where the name ends
abbrev pub after_name : ℕ → List ℕ → List ℕ
after_name n [] = mark_text n
after_name n (c ∷ cs) = if ends_name c then mark_text n ++ (c ∷ cs) else c ∷ after_name n cs

-- the text with the mark after the name of its first tag, a `<` before a lower-case letter; a text without a tag stays as it is
abbrev pub with_mark : ℕ → List ℕ → List ℕ
with_mark n [] = []
with_mark n (c ∷ cs) = if c == 60 && begins_lower cs then c ∷ after_name n cs else c ∷ with_mark n cs
