use Rattle.replay_core.specs.Player.{tells}
use Rattle.replay_core.proofs.Runs.{absent}
use Rattle.replay_core.proofs.run.send_event.Goals as goal

pub returns-in-None-clause-board : goal.returns-in-None-clause-board
returns-in-None-clause-board g c = absent c.args.name.now c.as_str.result.now (tells g.V.Views.meaning c.args.name.now c.args.kind.now c.args.event.now c.args.value.now) c.args.board.now c.remove.new.self c.as_str.ensures c.in-None.ensures.value c.in-None.ensures.rest
