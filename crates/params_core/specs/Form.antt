-- The value of a form.
use Rattle.std.specs.Prelude.{ℕ, List, [], ◌∷◌, ◌++◌, map, fold, Option, Some, None}
use Rattle.std.specs.Str.Lossy.{utf8_lossy}
use Rattle.form_urlencoded.specs.Form.{raw_pairs, decode}
use Rattle.text_core.specs.declared.by_key.KeyValue.{KeyValue}
use Rattle.text_core.specs.Keyed.{entry, lookup, with_key}
use Rattle.value_core.specs.Value.{Value, text, list, map_of, Values, no_values, value, Assigns, no_assigns, assign}
use Rattle.value_core.specs.View.{values_of, assigns_of}
use Rattle.params_core.specs.declared.path.Step.{Step}
use Rattle.params_core.specs.declared.path.Step.TheVariants.{At, Append}
use Rattle.params_core.specs.Path.{path_of}

-- the text that a name or a value stands for; bytes that are not UTF-8 become U+FFFD
abbrev pub text_of : List ℕ → List ℕ
text_of bytes = utf8_lossy (decode bytes)

abbrev pub decoded : List ℕ × List ℕ → List ℕ × List ℕ
decoded p = (text_of p.0, text_of p.1)

-- the decoded pairs of a form's text, in order
abbrev pub form_pairs : List ℕ → List (List ℕ × List ℕ)
form_pairs form = map decoded (raw_pairs form)

abbrev pub items_in : Values → List Value
items_in no_values = []
items_in (value v vs) = v ∷ items_in vs

abbrev pub entries_in : Assigns → List (KeyValue Value)
entries_in no_assigns = []
entries_in (assign k v es) = entry k v ∷ entries_in es

-- the items of a list that stands somewhere; what is no list has none
abbrev pub items_at : Option Value → List Value
items_at (Some (list vs)) = items_in vs
items_at _ = []

-- the entries of a map that stands somewhere; what is no map has none
abbrev pub entries_at : Option Value → List (KeyValue Value)
entries_at (Some (map_of es)) = entries_in es
entries_at _ = []

-- what stands somewhere once a text was put at a path from there; what is of another kind is replaced
abbrev pub put_at : List Step → List ℕ → Option Value → Value
put_at [] t old = text t
put_at (At k ∷ steps) t old = map_of (assigns_of (with_key k (put_at steps t (lookup k (entries_at old))) (entries_at old)))
put_at (Append ∷ steps) t old = list (values_of (items_at old ++ put_at steps t None ∷ []))

abbrev pub put_pair : Value → List ℕ × List ℕ → Value
put_pair form p = put_at (path_of p.0) p.1 (Some form)

-- the value of pairs, put one after the other into an empty map
abbrev pub value_of_pairs : List (List ℕ × List ℕ) → Value
value_of_pairs pairs = fold put_pair (map_of no_assigns) pairs

-- the value of a form's text
abbrev pub form_value : List ℕ → Value
form_value form = value_of_pairs (form_pairs form)
