-- The value of an event.
use Rattle.value_core.specs.Value.{Value}
use Rattle.params_core.specs.Form.{form_value}
use Rattle.wire_v2.specs.Message.{EventValue, plain_value, form_text}

-- the text of a form is read
abbrev pub value_in : EventValue → Value
value_in (plain_value v) = v
value_in (form_text t) = form_value t
