use Rattle.diff_tree.proofs.Keys.{names_ascend}
use Rattle.diff_tree.proofs.plain.+plain.Goals as goal

pub members_are_plain-returns-then-not-is_plain-clause-ordered : goal.members_are_plain-returns-then-not-is_plain-clause-ordered
members_are_plain-returns-then-not-is_plain-clause-ordered t c = names_ascend c.args.members.now.entries c.iter-key-items.ensures.ordered

pub members_are_plain-returns-clause-ordered : goal.members_are_plain-returns-clause-ordered
members_are_plain-returns-clause-ordered t c = names_ascend c.args.members.now.entries c.iter-key-items.ensures.ordered
