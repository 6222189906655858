-- What patterns bind, part by part.
use Rattle.std.specs.Prelude.{ℕ, List, Bool, false, ◌||◌, Option, Some, None, option_map}
use Rattle.std.specs.Str.{bytes_eq}
use Rattle.text_core.specs.declared.by_key.KeyValue.{KeyValue}
use Rattle.value_core.specs.Value as model
use Rattle.value_core.specs.Value.{list, tuple, map_of, Values, Assigns}
use Rattle.value_core.specs.View.{assigns_view}
use Rattle.value_core.specs.declared.value.Value.{Value}
use Rattle.ast_core.specs.Syntax.{PatternPairs, no_keys, key}
use Rattle.doc_model.specs.Environment.{over}

-- what is bound so far, and more behind it
abbrev pub behind : List (KeyValue Value) → Option Assigns → Option Assigns
behind bound more = option_map (over (assigns_view bound)) more

-- the items of a list
abbrev pub list_items : model.Value → Option Values
list_items (list vs) = Some vs
list_items _ = None

-- the items of a tuple
abbrev pub tuple_items : model.Value → Option Values
tuple_items (tuple vs) = Some vs
tuple_items _ = None

-- the entries of a map
abbrev pub map_entries : model.Value → Option Assigns
map_entries (map_of as') = Some as'
map_entries _ = None

-- whether a key stands in a map pattern
abbrev pub has_key : List ℕ → PatternPairs → Bool
has_key k no_keys = false
has_key k (key l p ps) = bytes_eq l k || has_key k ps
