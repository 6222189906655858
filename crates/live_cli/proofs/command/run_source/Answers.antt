use Rattle.std.proofs.Common.{◌≡◌, subst, ◌∙◌}
use Rattle.text_core.specs.Outside.{Rose}
use Rattle.live_cli.specs.Offline.{Says, script_line}
use Rattle.live_cli.proofs.command.run_source.Goals as goal

pub returns-in-Ok-script_line : goal.returns-in-Ok-script_line
returns-in-Ok-script_line g c =
    let n = c.in-Err-BadLine.n in
    let text : c.as_bytes.result.now ≡ script_line n = c.as_bytes.ensures.value ∙ (c.as_str.ensures ∙ c.in-Ok-script_line.ensures) in (
      n,
      c.in-Err-BadLine.ensures.bad_line n cc,
      subst (λ t. Says (g.S.Sink.written c.args.out.now) (g.S.Sink.written c.write_line.new.out) (Rose (g.S.Sink.failed c.args.out.now) (g.S.Sink.failed c.write_line.new.out)) t) text c.write_line.ensures,
    )
