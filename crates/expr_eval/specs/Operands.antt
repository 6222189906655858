-- The kinds that operands and arguments are judged by.
use Rattle.std.specs.Prelude.{ℕ, ℤ, List, Bool, false, not, Ok, Err, ◌++◌}
use Rattle.value_core.specs.Value.{Value, boolean, whole_number, text, list, Values, no_values, value}
use Rattle.value_core.specs.declared.raise.Raise.TheVariants.{BadArgument, BadBoolean}
use Rattle.ast_core.specs.declared.operators.BinaryOp.{BinaryOp}
use Rattle.ast_core.specs.declared.operators.BinaryOp.TheVariants.{OrElse, Or, AndAlso, And}
use Rattle.doc_model.specs.Evaluation.{Res, on_res, is_true, joined}

-- two whole numbers
abbrev pub numbers_in : Value → Value → Res (ℤ × ℤ)
numbers_in (whole_number x) (whole_number y) = Ok (x, y)
numbers_in _ _ = Err BadArgument

abbrev pub boolean_in : Value → Res Bool
boolean_in (boolean b) = Ok b
boolean_in _ = Err BadBoolean

abbrev pub text_in : Value → Res (List ℕ)
text_in (text t) = Ok t
text_in _ = Err BadArgument

abbrev pub values_in : Value → Res Values
values_in (list vs) = Ok vs
values_in _ = Err BadArgument

-- whether the left operand decides alone; it is then the value
abbrev pub decides : BinaryOp → Value → Res Bool
decides OrElse v = Ok (is_true v)
decides AndAlso v = Ok (not (is_true v))
decides Or v = boolean_in v
decides And v = on_res not (boolean_in v)
decides _ v = Ok false

-- the texts of items behind others: before each stands the text between them
abbrev pub joined_on : List ℕ → Values → Res (List ℕ)
joined_on t no_values = joined t no_values
joined_on t (value v vs) = on_res (λ a. t ++ a) (joined t (value v vs))
