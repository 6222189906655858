-- What is open, as it lies in memory.
use Rattle.std.specs.Prelude.{List, [], ◌∷◌, ◌++◌}
use Rattle.heex_reader.specs.declared.frame.Frame.{Frame}

-- the innermost is the last
abbrev pub stack : List Frame → List Frame
stack [] = []
stack (f ∷ fs) = stack fs ++ f ∷ []
