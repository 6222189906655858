use Rattle.std.proofs.Common.{sym, length, refl}
use Rattle.script_core.proofs.Lines.{cut_at_feed, last_line}
use Rattle.script_core.proofs.read.split_line.Goals as goal

pub returns-in-Some-clause-cut : goal.returns-in-Some-clause-cut
returns-in-Some-clause-cut c =
    rw (c.split_at.ensures.front, c.split_at-in-Some.ensures.back)
    (cut_at_feed c.args.bytes.now c.in-Some.i (sym c.in-Some.ensures.place))

pub returns-in-None-clause-cut : goal.returns-in-None-clause-cut
returns-in-None-clause-cut c =
    last_line c.args.bytes.now c.split_at-in-None.result.1.now (length c.args.bytes.now) (sym c.in-None.ensures.place) c.requires refl c.split_at-in-None.ensures.back
