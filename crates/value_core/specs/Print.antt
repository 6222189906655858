-- The text of a value.
use Rattle.std.specs.Prelude.{ℕ, List, [], true, false, Option, Some, None, codes}
use Rattle.std.specs.Fmt.{signed_decimal}
use Rattle.value_core.specs.Value.{Value, nil, boolean, whole_number, text, atom}

-- none for a list, a tuple, a map and a slot
abbrev pub text_of_value : Value → Option (List ℕ)
text_of_value nil = Some []
text_of_value (boolean true) = Some (codes "true")
text_of_value (boolean false) = Some (codes "false")
text_of_value (whole_number n) = Some (signed_decimal n)
text_of_value (text t) = Some t
text_of_value (atom t) = Some t
text_of_value _ = None
