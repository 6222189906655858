use Rattle.std.proofs.Common.{◌≡◌, true, false, rules}
use Rattle.diff_tree.proofs.Spelled.{spells_none, spells_other}
use Rattle.diff_tree.proofs.reading.read_diff.Goals as goal

pub returns-in_err-diff-clause-bad : goal.returns-in_err-diff-clause-bad
returns-in_err-diff-clause-bad c bad = spells_none c.args.text.now (c.in_err-diff.ensures.bad (search rules))

pub returns-then-not-branch-clause-bad : goal.returns-then-not-branch-clause-bad
returns-then-not-branch-clause-bad c bad = spells_other c.args.text.now c.in_ok-diff.diff c.in_ok-diff.ensures.ok.1 (λ same.
    let yes_it_is : c.in_ok-is_text_of.field-0 ≡ true = c.in_ok-is_text_of.ensures.1 same in
    let it_is_not : c.in_ok-is_text_of.field-0 ≡ false = c.if-not-branch.true in
    cc)

pub returns-clause-ok : goal.returns-clause-ok
returns-clause-ok c = ((c.in_ok-diff.ensures.ok.0, c.in_ok-is_text_of.ensures.0 c.if-not-branch.false), c.in_ok-diff.ensures.ok.2)
