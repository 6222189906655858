use Rattle.std.proofs.Common.{rules, ◌∙◌, sym, ap, codes, Some}
use Rattle.serde_json.specs.Find.{get}
use Rattle.serde_json.specs.View.{view}
use Rattle.diff_tree.proofs.Shapes.{stream_here, no_stream}
use Rattle.diff_tree.proofs.list_reading.stream_of.Goals as goal

pub returns-in_err-read_stream-in-Some-clause-bad : goal.returns-in_err-read_stream-in-Some-clause-bad
returns-in_err-read_stream-in-Some-clause-bad c bad =
    stream_here (get (codes "stream") (view c.args.value.now)) (view c.in-Some.stream.now) c.args.rows.now c.in-Some.ensures ∙ c.in_err-read_stream-in-Some.ensures.bad (search rules)

pub returns-in_ok-read_stream-in-Some-clause-ok : goal.returns-in_ok-read_stream-in-Some-clause-ok
returns-in_ok-read_stream-in-Some-clause-ok c =
    let read = c.in_ok-read_stream-in-Some.ensures.ok in
    (stream_here (get (codes "stream") (view c.args.value.now)) (view c.in-Some.stream.now) c.args.rows.now c.in-Some.ensures ∙ read.0, ap Some read.1 ∙ c.in-Some.ensures)

pub returns-else-is_empty-clause-ok : goal.returns-else-is_empty-clause-ok
returns-else-is_empty-clause-ok c = (no_stream (get (codes "stream") (view c.args.value.now)) c.args.rows.now c.in-None.ensures (sym c.is_empty.ensures ∙ c.if-is_empty.false), c.in-None.ensures)
