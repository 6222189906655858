use Rattle.std.proofs.Common.{◌≡◌, ◌∙◌, sym, true, false}
use Rattle.serde_json.specs.View.{view as json_view}
use Rattle.serde_json.specs.Written.{has_float}
use Rattle.value_core.specs.View.{view}
use Rattle.wire_v2.proofs.NoFloat.{written_whole}
use Rattle.wire_v2.proofs.push.push_of_value.Goals as goal

-- what a value is written as has no fraction
pub returns-in-None-clause-refused : goal.returns-in-None-clause-refused
returns-in-None-clause-refused c bad =
    let whole : has_float (json_view c.in_ok-to_json.field-0) ≡ false = written_whole (view c.args.value.now) (json_view c.in_ok-to_json.field-0) c.in_ok-to_json.ensures.ok in
    let not_whole : has_float (json_view c.in_ok-to_json.field-0) ≡ true = c.in-None.ensures.0 in
    let no : true ≡ false = sym not_whole ∙ whole in
    cc
