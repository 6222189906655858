use Rattle.std.proofs.Common.{◌≡◌, rules, Some, None}
use Rattle.std.proofs.lemmas.Str.{IsUtf8-from_is_utf8}
use Rattle.serde_json.specs.Errors.{IsMemory}
use Rattle.serde_json.specs.Read.{read}
use Rattle.serde_json.specs.View.{view}
use Rattle.wire_v2.proofs.Shapes.{spelled}
use Rattle.wire_v2.proofs.frame_reading.read_frame.Goals as goal

pub returns-in-Ok-clause-ok : goal.returns-in-Ok-clause-ok
returns-in-Ok-clause-ok c = spelled c.args.text.now (view c.in-Ok.json) c.frame_of_json.result c.in-Ok.ensures.ok.0 c.in-Ok.ensures.ok.1 c.frame_of_json.ensures.ok

pub returns-else-is_memory-clause-malformed : goal.returns-else-is_memory-clause-malformed
returns-else-is_memory-clause-malformed c bad d spells =
    let no : ¬ (IsMemory c.in-Err.fault) = search rules in
    let none : read c.args.text.now ≡ None = c.in-Err.ensures.err no (IsUtf8-from_is_utf8 c.args.text.now spells.0) in
    let some : read c.args.text.now ≡ Some d = spells.1 in
    cc
