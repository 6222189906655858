use Rattle.std.proofs.Common.{rules, ◌≡◌, ◌==◌, length, sym, true, false}
use Rattle.diff_tree.specs.declared.part.Row.{out-Row}
use Rattle.diff_tree.proofs.Listed.{length_on, length_not}
use Rattle.diff_tree.proofs.list_reading.have_length.Goals as goal

pub returns-then-len-count : goal.returns-then-len-count
returns-then-len-count c =
    let no : length (out-Row c.row-item.result).values == c.args.count ≡ false = search (rules, c.len.ensures, c.if-len-count.true) in
    sym (length_not c.args.rows.now c.rows.row-index c.row-item.result c.args.count _ c.rows-test.true c.row-item.is no c.rows.invariant)

pub rows-preserved : goal.rows-preserved
rows-preserved c =
    let fits : length (out-Row c.row-item.result).values == c.args.count ≡ true = search (rules, c.len.ensures, c.if-len-count.false) in
    length_on c.args.rows.now c.rows.row-index c.row-item.result c.args.count _ c.rows-test.true c.row-item.is fits c.rows.invariant
