use Rattle.replay_core.specs.Output.{replay_output}
use Rattle.view_script.specs.Views.{meaning_of_script}
use Rattle.live_cli.specs.App.{app_of}
use Rattle.live_cli.proofs.Fronts.{nothing_front}
use Rattle.live_cli.proofs.command.run.Goals as goal

pub returns-in_default-new : goal.returns-in_default-new
returns-in_default-new g c = nothing_front (g.S.Sink.written c.args.out.now) (replay_output meaning_of_script (app_of c.args.bundle) c.args.script)
