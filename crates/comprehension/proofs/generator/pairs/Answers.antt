use Rattle.std.proofs.Common.{◌≡◌, [], sym, ap, ◌∙◌}
use Rattle.std.specs.Vec.Iter.{into_iter_items, into_iter_len}
use Rattle.value_core.specs.View.{view, values_view, assigns_view}
use Rattle.doc_model.specs.Calls.{pair_values}
use Rattle.doc_model.specs.Evaluation.{append_values}
use Rattle.comprehension.proofs.Parts.{pair_on, pairs_made, counted_on, none_left}
use Rattle.comprehension.proofs.generator.pairs.Goals as goal

pub entries-preserved : goal.entries-preserved
entries-preserved c =
    let e = c.in-Some.field-0 in
    let rest = into_iter_items c.next.new.self in
    let steps = c.in-Some.ensures.steps in
    record {
      so_far = c.entries.invariant.so_far ∙ ap (λ es. append_values (values_view c.entries.pairs) (pair_values (assigns_view es))) steps.0
          ∙ pair_on c.entries.pairs c.in_ok-pair.field-0 e.key (view e.value) (assigns_view rest) c.in_ok-pair.ensures
          ∙ ap (λ vs. append_values (values_view vs) (pair_values (assigns_view rest))) (sym c.in_ok-push.ensures.ok);
      counted = counted_on (into_iter_len c.entries.key-iterator) (into_iter_len c.next.new.self) (into_iter_items c.entries.key-iterator) e rest c.entries.invariant.counted steps.0 steps.1;
    }

pub returns : goal.returns
returns c =
    let none : into_iter_items c.entries.key-iterator ≡ [] = none_left (into_iter_len c.entries.key-iterator) (into_iter_items c.entries.key-iterator) c.entries.invariant.counted c.in-None.ensures.steps.0 in
    sym (c.entries.invariant.so_far ∙ ap (λ es. append_values (values_view c.entries.pairs) (pair_values (assigns_view es))) none ∙ pairs_made c.entries.pairs)
