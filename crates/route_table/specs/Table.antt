-- The rows of `matchit` that a list of paths gives.
use Rattle.std.specs.Prelude.{◌≡◌, ℕ, ◌+◌, List, [], ◌∷◌, Option, Some, None, option_and_then, Result, Ok, Err}
use Rattle.matchit.specs.Rows.{RowsOf}
use Rattle.matchit.specs.Order.{placed}
use Rattle.matchit.specs.Route.{Scan, parse_route}
use Rattle.matchit.specs.Router.{RouteOf, route_from, nearest}
use Rattle.matchit.specs.declared.error.InsertError.{InsertError}
use Rattle.route_table.specs.declared.table.Target.{Target}
use Rattle.route_table.specs.declared.table.RouteFault.{RouteFault}
use Rattle.route_table.specs.declared.table.RouteFault.TheVariants.{BadRoute, OutOfMemory}
use Rattle.route_table.specs.Route.{route_of}

abbrev pub Rows : Type 0
Rows = RowsOf (RouteOf Target)

-- a route that reads well stands in its place, unless one that is there conflicts with it
abbrev pub beside : Scan → Target → Rows → Option (RouteOf Target) → Option Rows
beside s target rows None = Some (placed (s.pattern, route_from s target) rows)
beside s target rows (Some other) = None

abbrev pub read_as : Target → Rows → Result Scan InsertError → Option Rows
read_as target rows (Ok s) = beside s target rows (nearest s.pattern rows)
read_as target rows (Err e) = None

-- the rows with one more path; none where it is bad, or refused by `matchit` beside the others
abbrev pub added : ℕ → List ℕ → Rows → Option Rows
added number path rows = option_and_then (λ route. read_as (record { view = number; path = path }) rows (parse_route route)) (route_of path)

abbrev pub go_on : ℕ → Option Rows → (Rows → Result Rows ℕ) → Result Rows ℕ
go_on number (Some rows) rest = rest rows
go_on number None rest = Err number

-- the rows with the paths, numbered from some number on; the number of the first one that is refused
abbrev pub all_added : ℕ → List (List ℕ) → Rows → Result Rows ℕ
all_added number [] rows = Ok rows
all_added number (path ∷ paths) rows = go_on number (added number path rows) (λ more. all_added (number + 1) paths more)

-- the rows of paths, numbered from 0
abbrev pub table_of : List (List ℕ) → Result Rows ℕ
table_of paths = all_added 0 paths []

-- what a fault says of a table, and of one more path
abbrev pub RefusedAs : Result Rows ℕ → RouteFault → Type 0
RefusedAs answer (BadRoute n) = answer ≡ Err n
RefusedAs answer OutOfMemory = Unit {0}

abbrev pub NotAdded : ℕ → Option Rows → RouteFault → Type 0
NotAdded number answer (BadRoute n) = (n ≡ number) × (answer ≡ None)
NotAdded number answer OutOfMemory = Unit {0}
