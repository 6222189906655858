use Rattle.std.proofs.Common.{◌∷◌, ◌++◌, [], ap, sym, ◌∙◌, take, subst, ◌≡◌, List, ℕ}
use Rattle.std.proofs.lemmas.List.{take_all}
use Rattle.std.specs.List.{IsDistinct}
use Rattle.std.specs.Str.{bytes_eq}
use Rattle.text_core.specs.Keyed.{keys}
use Rattle.text_core.proofs.Listed.{keys_more, ascending_distinct}
use Rattle.text_core.proofs.by_key.ByKey.keys.Goals as goal

pub loop-entry-preserved : goal.loop-entry-preserved
loop-entry-preserved g c =
    c.in_ok-push.ensures.ok ∙ ap (λ ks. ks ++ c.in_ok-copy.field-0 ∷ []) c.loop-entry.invariant
    ∙ ap (λ k. keys (take c.loop-entry.entry-index c.deref-entry-items.result.now) ++ k ∷ []) c.in_ok-copy.ensures
    ∙ sym (keys_more c.deref-entry-items.result.now c.loop-entry.entry-index c.entry-item.result c.loop-entry-test.true c.entry-item.is)

pub returns-clause-distinct : goal.returns-clause-distinct
returns-clause-distinct g c =
    let all : c.loop-entry.names ≡ keys c.self.inside.entries.items
    = c.loop-entry.invariant ∙ ap keys (take_all c.loop-entry.entry-index c.deref-entry-items.result.now c.loop-entry-test.false) ∙ ap keys c.deref-entry-items.ensures.value in
    subst (λ (ks : List (List ℕ)). IsDistinct bytes_eq ks) (sym all) (ascending_distinct (keys c.self.inside.entries.items) c.self.invariant)
