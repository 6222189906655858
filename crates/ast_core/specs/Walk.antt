-- What a walk over a template has met, in the scope of which variables.
use Rattle.std.specs.Prelude.{ℕ, List, [], ◌∷◌, ◌++◌, take, if◌then◌else◌}
use Rattle.ast_core.specs.declared.walk.Walk.{Walk}
use Rattle.ast_core.specs.Syntax.{Name, at, var}
use Rattle.ast_core.specs.Free.{one_of}
use Rattle.ast_core.specs.Reads.{with_name}

-- a walk at its beginning
abbrev pub start : Walk
start = record { bound = []; assigns = []; variables = [] }

-- a walk that met one more name: an assign, or a variable that is not bound there
abbrev pub meet : Name → Walk → Walk
meet (at a) w = record w { assigns = with_name a w.assigns }
meet (var v) w = if one_of v w.bound then w else record w { variables = with_name v w.variables }

-- a walk that met these names, from the first to the last
abbrev pub met : List Name → Walk → Walk
met [] w = w
met (n ∷ ns) w = met ns (meet n w)

-- a walk inside the scope of more variables, and in the scope of its first variables alone
abbrev pub inside : List (List ℕ) → Walk → Walk
inside xs w = record w { bound = w.bound ++ xs }

abbrev pub outside : ℕ → Walk → Walk
outside n w = record w { bound = take n w.bound }
