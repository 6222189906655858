use Rattle.serde_json.specs.View.{view as json_view}
use Rattle.value_core.specs.View.{view}
use Rattle.wire_v2.proofs.NoFloat.{written_whole}
use Rattle.replay_core.proofs.message.written.Goals as goal

pub returns-in-Ok-clause-whole : goal.returns-in-Ok-clause-whole
returns-in-Ok-clause-whole c = written_whole (view c.args.value.now) (json_view c.in-Ok.json) c.in-Ok.ensures.ok
