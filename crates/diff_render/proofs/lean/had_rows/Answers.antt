use Rattle.diff_render.proofs.Empty.{rows_were}
use Rattle.diff_render.proofs.lean.had_rows.Goals as goal

pub returns-in-Rows : goal.returns-in-Rows
returns-in-Rows c = rows_were c.args.print.now c.in-Rows.rows c.is_empty.result c.in-Rows.is c.is_empty.ensures
