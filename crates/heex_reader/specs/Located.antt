-- Where a byte stands in its file, and faults with their places.
use Rattle.std.specs.Prelude.{ℕ, ◌+◌, List, [], ◌∷◌, take, Bool, ◌&&◌, nat_le, nat_lt, ◌==◌, if◌then◌else◌, Result, Err}
use Rattle.ast_core.specs.Syntax.{Location}
use Rattle.heex_reader.specs.declared.fault.TemplateKind.{TemplateKind}

-- a byte of a character that is not its first one
abbrev pub goes_on : ℕ → Bool
goes_on b = nat_le 128 b && nat_lt b 192

-- behind these bytes: lines end with a line feed, and columns count characters
abbrev pub location_from : Location → List ℕ → Location
location_from l [] = l
location_from l (b ∷ bs) =
    location_from (if b == 10 then record { line = l.line + 1; column = 1 } else if goes_on b then l else record { line = l.line; column = l.column + 1 }) bs

abbrev pub first_location : Location
first_location = record { line = 1; column = 1 }

-- where the byte at this offset stands
abbrev pub location_at : List ℕ → ℕ → Location
location_at text at = location_from first_location (take at text)

-- Why a text is refused, and at which byte.
pub record Fault : Type 0 where
  pub at : ℕ
  pub kind : TemplateKind

abbrev pub faulty : {A : Type 0} → ℕ → TemplateKind → Result A Fault
faulty at k = Err (record { at = at; kind = k })
