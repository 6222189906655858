-- How values are printed in text and in tags.
use Rattle.std.specs.Prelude.{ℕ, List, [], ◌∷◌, ◌++◌, Ok, Err, Bool, true, false, ◌&&◌, ◌||◌, not, ◌==◌, if◌then◌else◌, codes}
use Rattle.std.specs.Str.{bytes_eq}
use Rattle.value_core.specs.Value.{Value, nil, boolean, list, map_of, Values, no_values, value, Assigns, no_assigns, assign}
use Rattle.doc_model.specs.Evaluation.{Res, both, on_res, printed}
use Rattle.value_core.specs.declared.raise.Raise.TheVariants.{BadArgument, NotPrintable}
use Rattle.text_core.specs.Escape.{escape_text}

-- texts with a space between them
abbrev pub with_spaces : List (List ℕ) → List ℕ
with_spaces [] = []
with_spaces (t ∷ []) = t
with_spaces (t ∷ u ∷ ts) = t ++ (32 ∷ with_spaces (u ∷ ts))

-- the texts of a class list, flattened, without nil and false
abbrev mutual
  pub class_item : Value → Res (List (List ℕ))
  class_item nil = Ok []
  class_item (boolean false) = Ok []
  class_item (list vs) = class_items vs
  class_item v = on_res (λ t. t ∷ []) (printed v)

  pub class_items : Values → Res (List (List ℕ))
  class_items no_values = Ok []
  class_items (value v vs) = both (λ ts us. ts ++ us) (class_item v) (class_items vs)

-- a name with its value, escaped
abbrev pub equals : List ℕ → List ℕ → List ℕ
equals n t = 32 ∷ (n ++ (codes "=\"" ++ (escape_text t ++ codes "\"")))

-- what is printed for nil and false: nothing, but for class and style
abbrev pub left_out : List ℕ → List ℕ
left_out n = if bytes_eq n (codes "class") || bytes_eq n (codes "style") then equals n [] else []

-- an attribute with its leading space, or nothing
abbrev pub print_attribute : List ℕ → Value → Res (List ℕ)
print_attribute n nil = Ok (left_out n)
print_attribute n (boolean false) = Ok (left_out n)
print_attribute n (boolean true) = Ok (32 ∷ n)
print_attribute n (list vs) = if bytes_eq n (codes "class") then on_res (λ ts. equals n (with_spaces ts)) (class_items vs) else Err NotPrintable
print_attribute n v = on_res (equals n) (printed v)

-- white space, quotes, braces, `<`, `>`, `/` and `=` stand in no attribute's name
abbrev pub is_name_byte : ℕ → Bool
is_name_byte c = not (c == 32 || c == 9 || c == 10 || c == 13 || c == 34 || c == 39 || c == 60 || c == 62 || c == 47 || c == 61 || c == 123 || c == 125)

-- each byte may stand in a name
abbrev pub all_name_bytes : List ℕ → Bool
all_name_bytes [] = true
all_name_bytes (c ∷ cs) = is_name_byte c && all_name_bytes cs

-- the name of an attribute, which is not empty
abbrev pub is_attribute_name : List ℕ → Bool
is_attribute_name [] = false
is_attribute_name (c ∷ cs) = all_name_bytes (c ∷ cs)

-- the entries in the order of their keys
abbrev pub entry_texts : Assigns → Res (List ℕ)
entry_texts no_assigns = Ok []
entry_texts (assign k v as') =
    both (λ t u. t ++ u) (if is_attribute_name k then print_attribute k v else Err BadArgument) (entry_texts as')

-- the entries of a map as attributes
abbrev pub print_spread : Value → Res (List ℕ)
print_spread nil = Ok []
print_spread (map_of as') = entry_texts as'
print_spread _ = Err BadArgument
