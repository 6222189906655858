use Rattle.std.proofs.Common.{◌≡◌, ◌∙◌, sym, ap, arith, false, decimal, is_some}
use Rattle.serde_json.specs.Find.{get}
use Rattle.serde_json.specs.View.{view}
use Rattle.diff_tree.proofs.Taken.{lacks, is_some-map}
use Rattle.diff_tree.proofs.node_reading.has_places.Goals as goal

pub returns-then-is_none : goal.returns-then-is_none
returns-then-is_none c =
    let d = view c.args.value.now in
    let key : c.as_str.result.now ≡ decimal c.places.place-counter = c.as_str.ensures.value ∙ c.in_ok-key.ensures.ok in
    let none : is_some (get (decimal c.places.place-counter) d) ≡ false =
    ap (λ k. is_some (get k d)) (sym key) ∙ ap is_some (sym c.get.ensures) ∙ is_some-map _ c.get.result ∙ c.if-is_none.ensures in
    sym (lacks c.args.count c.places.place-counter d (omega arith) none)
