use Rattle.std.proofs.Common.{◌≡◌, drop}
use Rattle.diff_tree.specs.Parts.{rows_data}
use Rattle.diff_tree.specs.Grammar.{have_length}
use Rattle.diff_tree.proofs.list_reading.have_length.Given as goal

abbrev pub invariant-rows : goal.invariant-rows
invariant-rows l = have_length l.count (rows_data (drop l.row-index l.rows)) ≡ have_length l.count (rows_data l.rows)
