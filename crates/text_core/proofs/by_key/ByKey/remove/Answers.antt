use Rattle.std.proofs.Common.{◌∙◌, sym, ap, subst}
use Rattle.text_core.specs.Keyed.{Ascending, lookup}
use Rattle.text_core.proofs.Keyed.{without_ascends, value_at_item}
use Rattle.text_core.proofs.by_key.ByKey.remove.Goals as goal

pub invariant_of-self : goal.invariant_of-self
invariant_of-self g c =
    subst Ascending (rw c.as_slice.ensures.value at c.in_ok-at.ensures.2 ∙ sym c.remove-key.ensures.items)
    (without_ascends c.args.key.now c.self.inside.entries.items c.self.invariant)

pub returns-clause-value : goal.returns-clause-value
returns-clause-value g c = sym (
    ap (lookup c.args.key.now) (sym c.self.view_is ∙ sym c.as_slice.ensures.value) ∙ c.in_ok-at.ensures.1
    ∙ value_at_item c.in_ok-at.at c.as_slice.result.now c.remove-key.result c.in_ok-at.ensures.0 (rw c.as_slice.ensures.value c.remove-key.ensures.value))
