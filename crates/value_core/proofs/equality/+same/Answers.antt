use Rattle.std.proofs.Common.{◌≡◌}
use Rattle.value_core.proofs.Views.{lengths_differ, counts_differ}
use Rattle.value_core.proofs.equality.+same.Goals as goal

pub same_entries-returns-then-a-b : goal.same_entries-returns-then-a-b
same_entries-returns-then-a-b t c = rw (← c.as_slice-a.ensures.value, ← c.as_slice-b.ensures.value) (counts_differ _ _ c.if-a-b.true)

pub same_items-returns-then-a-b : goal.same_items-returns-then-a-b
same_items-returns-then-a-b t c = lengths_differ _ _ c.if-a-b.true
