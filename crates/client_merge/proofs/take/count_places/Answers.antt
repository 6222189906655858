use Rattle.std.proofs.Common.{◌≡◌, ◌∙◌, sym, arith, true, false, codes, is_some}
use Rattle.text_core.specs.Keyed.{lookup}
use Rattle.client_merge.proofs.Members.{one_less, none_less}
use Rattle.client_merge.proofs.take.count_places.Goals as goal

pub returns-then-contains : goal.returns-then-contains
returns-then-contains c =
    let there : is_some (lookup (codes "s") c.args.places.now) ≡ true = sym c.contains.ensures ∙ c.if-contains.true in
    let less = one_less (codes "s") c.args.places.now there in
    let long = c.len.ensures in
    c.saturating_sub.ensures ∙ (omega arith)

pub returns-else-contains : goal.returns-else-contains
returns-else-contains c =
    let absent : is_some (lookup (codes "s") c.args.places.now) ≡ false = sym c.contains.ensures ∙ c.if-contains.false in
    c.len-else-contains.ensures ∙ sym (none_less (codes "s") c.args.places.now absent)
