use Rattle.std.proofs.Common.{◌∙◌, sym, subst}
use Rattle.text_core.specs.Keyed.{Ascending}
use Rattle.text_core.proofs.Keyed.{with_ascends}
use Rattle.text_core.proofs.by_key.ByKey.insert.Goals as goal

pub invariant_of-self : goal.invariant_of-self
invariant_of-self g c =
    subst Ascending (rw (c.as_slice.ensures.value, c.as_str.ensures) at (c.in-Ok.ensures.found.1 c.args.value))
    (with_ascends c.args.key c.args.value c.self.inside.entries.items c.self.invariant)

pub invariant_of-self-in-Continue-1 : goal.invariant_of-self-in-Continue-1
invariant_of-self-in-Continue-1 g c =
    subst Ascending (rw (c.as_slice.ensures.value, c.as_str.ensures) at (c.in-Err.ensures.absent.1 c.args.value) ∙ sym c.in_ok-insert-in-Err.ensures.items)
    (with_ascends c.args.key c.args.value c.self.inside.entries.items c.self.invariant)
