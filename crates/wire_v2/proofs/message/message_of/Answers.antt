use Rattle.std.proofs.Common.{rules, sym}
use Rattle.serde_json.specs.Errors.{IsMemory}
use Rattle.serde_json.specs.View.{view}
use Rattle.wire_v2.proofs.Readings.{message_is, message_none}
use Rattle.wire_v2.proofs.message.message_of.Goals as goal

pub returns-in-Ok : goal.returns-in-Ok
returns-in-Ok c =
    let e = message_is c.args.text.now (view c.in-Ok.json) c.in-Ok.ensures.ok.0 c.in-Ok.ensures.ok.1 in
    rw e c.message_of_json.ensures

pub returns-else-is_memory : goal.returns-else-is_memory
returns-else-is_memory c =
    let no : ¬ (IsMemory c.in-Err.fault) = search rules in
    sym (message_none c.args.text.now (c.in-Err.ensures.err no))
