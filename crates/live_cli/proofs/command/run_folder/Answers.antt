use Rattle.text_core.specs.Outside.{Rose}
use Rattle.live_cli.proofs.Ends.{of_bundle}
use Rattle.live_cli.proofs.command.run_folder.Goals as goal

pub returns-in-Ok : goal.returns-in-Ok
returns-in-Ok g c =
    of_bundle (g.F.Folder.files c.args.folder.now) c.in-Ok.bundle (g.R.Source.left c.args.script.now) (g.S.Sink.written c.args.out.now) (g.S.Sink.written c.run_source.new.out)
    (Rose (g.F.Folder.failed c.args.folder.now) (g.F.Folder.failed c.load.new.folder)) (Rose (g.R.Source.failed c.args.script.now) (g.R.Source.failed c.run_source.new.script))
    (Rose (g.S.Sink.failed c.args.out.now) (g.S.Sink.failed c.run_source.new.out)) c.run_source.result c.in-Ok.ensures.bundle c.run_source.ensures
