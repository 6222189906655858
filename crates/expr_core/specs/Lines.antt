-- Lines of precedence.
use Rattle.std.specs.Prelude.{ℕ, List, [], ◌∷◌, Bool, false, nat_eq}
use Rattle.ast_core.specs.declared.expr.Operand.{Operand, out-Operand}
use Rattle.expr_core.specs.Grammar.{binds}

-- whether the operators of a chain are of this line
abbrev pub are_of_line : List Operand → ℕ → Bool
are_of_line [] n = false
are_of_line (o ∷ os) n = nat_eq (binds (out-Operand o).op) n
