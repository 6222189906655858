use Rattle.std.proofs.Common.{◌≡◌, ℕ, List, Err, refl, subst}
use Rattle.script_core.specs.Script.{SpellsScript, IsBadLine}
use Rattle.live_cli.proofs.Sources.{source_spells, source_bad}
use Rattle.live_cli.proofs.script.read_source.Goals as goal

pub returns-in-Ok-clause-script : goal.returns-in-Ok-clause-script
returns-in-Ok-clause-script g c =
    source_spells (g.R.Source.left c.args.source.now) c.in_ok-bytes.bytes c.in-Ok.script c.in_ok-bytes.ensures.enough
    (subst (λ t. SpellsScript t c.in-Ok.script) c.as_slice.ensures c.in-Ok.ensures.read)

pub returns-in-Err-BadLine-clause-bad_line : goal.returns-in-Err-BadLine-clause-bad_line
returns-in-Err-BadLine-clause-bad_line g c = λ n e.
    let same : c.in-Err-BadLine.n ≡ n = cc in
    source_bad (g.R.Source.left c.args.source.now) c.in_ok-bytes.bytes n c.in_ok-bytes.ensures.enough
    (subst (λ t. IsBadLine t n) c.as_slice.ensures (c.in-Err-BadLine.ensures.bad_line n cc))
