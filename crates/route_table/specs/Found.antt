-- What a URL finds in the rows of `matchit`.
use Rattle.std.specs.Prelude.{◌≡◌, ℕ, List, [], ◌∷◌, ◌==◌, Option, option_map, if◌then◌else◌, fold}
use Rattle.std.specs.List.{slice_split, zip}
use Rattle.std.specs.Str.{is_utf8, IsUtf8}
use Rattle.percent_encoding.specs.Percent.{percent_decode}
use Rattle.matchit.specs.Seek.{first}
use Rattle.text_core.specs.declared.by_key.KeyValue.{KeyValue}
use Rattle.text_core.specs.Keyed.{with_key}
use Rattle.value_core.specs.Value.{Value, text, Assigns}
use Rattle.value_core.specs.View.{assigns_of, assigns_view}
use Rattle.route_table.specs.declared.table.Target.{Target}
use Rattle.route_table.specs.declared.find.Found.{Found}
use Rattle.route_table.specs.Route.{is_slash}
use Rattle.route_table.specs.Table.{Rows}
use Rattle.route_table.specs.Url.{path_of, query_of}

-- the text that a parameter's segment stands for: its escapes decoded, where that is UTF-8, and else as it stands
abbrev pub text_of : List ℕ → List ℕ
text_of part = if is_utf8 (percent_decode part) then percent_decode part else part

-- the same as a relation
abbrev pub IsText : List ℕ → List ℕ → Type 0
IsText part t = (IsUtf8 (percent_decode part) → t ≡ percent_decode part) × (¬ IsUtf8 (percent_decode part) → t ≡ part)

-- the entries with one of a path's segments, met by a URL's; only `:name` is a parameter
abbrev pub with_segment : List (KeyValue Value) → List ℕ × List ℕ → List (KeyValue Value)
with_segment es ([], part) = es
with_segment es (b ∷ name, part) = if b == 58 then with_key name (text (text_of part)) es else es

-- a path's parameters at the segments of a URL's path; of two of one name the later one holds
abbrev pub parameters_of : List ℕ → List ℕ → Assigns
parameters_of path target = assigns_of (fold with_segment [] (zip (slice_split is_slash path) (slice_split is_slash target)))

pub record Finding : Type 0 where
  pub view : ℕ
  pub parameters : Assigns
  pub query : List ℕ

abbrev pub finding : List ℕ → Target → Finding
finding url target = record { view = target.view; parameters = parameters_of target.path (path_of url); query = query_of url }

-- what the first row that `matchit` finds gives
abbrev pub find_in : Rows → List ℕ → Option Finding
find_in rows url = option_map (λ route. finding url route.value) (first rows (path_of url))

-- what an answer stands for
abbrev pub seen : Found → Finding
seen f = record { view = f.view; parameters = assigns_view f.parameters; query = f.query }
