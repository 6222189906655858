use Rattle.replay_core.specs.Player.{frames_printed}
use Rattle.replay_core.proofs.Runs.{absent}
use Rattle.replay_core.proofs.run.print_frames.Goals as goal

pub returns-in-None-clause-board : goal.returns-in-None-clause-board
returns-in-None-clause-board g c = absent c.args.name.now c.as_str.result.now frames_printed c.args.board.now c.remove.new.self c.as_str.ensures c.in-None.ensures.value c.in-None.ensures.rest
