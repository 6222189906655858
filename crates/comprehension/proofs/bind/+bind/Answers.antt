use Rattle.std.proofs.Common.{◌≡◌, ◌≤◌, ◌+◌, Some, None, length, drop, map, option_map, is_some, if◌then◌else◌, sym, ap, subst, ◌∙◌, arith}
use Rattle.std.proofs.Math.ListN.{drop_of_length-le}
use Rattle.std.specs.Vec.Iter.{into_iter_items, into_iter_len}
use Rattle.value_core.specs.View.{view, values_view, assigns_view}
use Rattle.ast_core.specs.Syntax as model
use Rattle.ast_core.specs.declared.pattern.PatternPair.{out-PatternPair}
use Rattle.ast_core.specs.PatternView.{pattern_view, patterns_of, keys_of}
use Rattle.ast_core.specs.NamesIn.{pattern_pair_view}
use Rattle.doc_model.specs.Environment.{lookup, binding, binding_all, binding_pairs}
use Rattle.comprehension.specs.Bound.{behind}
use Rattle.comprehension.proofs.Parts.{any_form, literal_form, keys_at, counted_on}
use Rattle.comprehension.proofs.Binds.{behind_nothing, literal_kept, bind_on, bind_off, all_at, all_met, key_on, key_off, key_absent}
use Rattle.comprehension.proofs.bind.+bind.Goals as goal

pub bind-returns-in-Any : goal.bind-returns-in-Any
bind-returns-in-Any t c =
    behind_nothing c.args.bound ∙ ap (λ p. behind c.args.bound (binding p (view c.args.value))) (sym (any_form c.args.pattern.now c.in-Any.is))

pub bind-returns-in-Number : goal.bind-returns-in-Number
bind-returns-in-Number t c =
    let v = view c.args.value in
    let bound = c.args.bound in
    let l = literal_form c.args.pattern.now c.in-Number.is in
    ap (option_map assigns_view) (c.kept.ensures ∙ ap (λ b. if b then Some bound else None) c.matches.ensures)
    ∙ subst (λ (p : model.Pattern). option_map assigns_view (if is_some (binding p v) then Some bound else None) ≡ behind bound (binding p v)) (sym l.1) (literal_kept bound l.0 v)

pub bind_all-returns-in_default-2 : goal.bind_all-returns-in_default-2
bind_all-returns-in_default-2 t c =
    let ps = c.as_slice-pattern-items.result.now in
    let i = c.patterns.pattern-index in
    let bound = c.patterns.bound in
    let left = into_iter_items c.patterns.items in
    let rest = into_iter_items c.next.new.self in
    rw (← c.as_slice-pattern-items.ensures)
    (bind_off bound (binding (pattern_view c.pattern-item.result) (view c.in-Some.item)) (binding_all (patterns_of (map pattern_view (drop (i + 1) ps))) (values_view rest))
    (behind c.args.bound (binding_all (patterns_of (map pattern_view ps)) (values_view c.args.items)))
    (c.patterns.invariant.so_far ∙ ap (behind bound) (all_at ps i c.pattern-item.result left c.in-Some.item rest c.patterns-test.true c.pattern-item.is c.in-Some.ensures.cases.0))
    (ap (option_map assigns_view) (sym c.in_default-2.is) ∙ c.in_ok-more.ensures))

pub bind_all-patterns-preserved : goal.bind_all-patterns-preserved
bind_all-patterns-preserved t c =
    let ps = c.as_slice-pattern-items.result.now in
    let i = c.patterns.pattern-index in
    let bound = c.patterns.bound in
    let left = into_iter_items c.patterns.items in
    let rest = into_iter_items c.next.new.self in
    let steps = c.in-Some.ensures.cases in
    record {
      so_far = bind_on bound c.in-Some-2.more (binding (pattern_view c.pattern-item.result) (view c.in-Some.item)) (binding_all (patterns_of (map pattern_view (drop (i + 1) ps))) (values_view rest))
          (behind c.args.bound (binding_all (patterns_of (map pattern_view ps)) (values_view c.args.items)))
          (c.patterns.invariant.so_far ∙ ap (behind bound) (all_at ps i c.pattern-item.result left c.in-Some.item rest c.patterns-test.true c.pattern-item.is steps.0))
          (ap (option_map assigns_view) (sym c.in-Some-2.is) ∙ c.in_ok-more.ensures);
      counted = counted_on (into_iter_len c.patterns.items) (into_iter_len c.next.new.self) left c.in-Some.item rest c.patterns.invariant.counted steps.0 steps.1;
    }

pub bind_all-returns : goal.bind_all-returns
bind_all-returns t c =
    let ps = c.as_slice-pattern-items.result.now in
    let bound = c.patterns.bound in
    let left = into_iter_items c.patterns.items in
    let past : length ps ≤ c.patterns.pattern-index = omega arith in
    rw (← c.as_slice-pattern-items.ensures)
    (ap (option_map assigns_view) c.kept.ensures
    ∙ all_met bound left (into_iter_items c.next-2.new.self) (into_iter_len c.patterns.items) (into_iter_len c.next-2.new.self) c.next-2.result c.is_none.result c.patterns.invariant.counted c.next-2.ensures.cases c.is_none.ensures
    ∙ sym (c.patterns.invariant.so_far ∙ ap (λ qs. behind bound (binding_all (patterns_of (map pattern_view qs)) (values_view left))) (drop_of_length-le ps past)))

pub bind_pairs-returns-in_default : goal.bind_pairs-returns-in_default
bind_pairs-returns-in_default t c =
    let ps = c.as_slice-parts.result.now in
    let p = out-PatternPair c.index-parts-i.result in
    let bound = c.parts.bound in
    let es = c.parts.entries in
    rw (← c.as_slice-parts.ensures)
    (key_absent bound p.key (pattern_view p.pattern) (keys_of (map pattern_pair_view (drop (c.parts.i + 1) ps))) (assigns_view es)
    (behind c.args.bound (binding_pairs (keys_of (map pattern_pair_view ps)) (assigns_view c.args.entries)))
    (c.parts.invariant ∙ ap (λ ks. behind bound (binding_pairs ks (assigns_view es))) (keys_at ps c.parts.i c.index-parts-i.result c.parts-test.true c.index-parts-i.is))
    (ap (option_map view) (sym c.in_default.is) ∙ c.in_ok-value.ensures.value ∙ ap (λ k. lookup k (assigns_view es)) c.as_str.ensures))

pub bind_pairs-returns-in_default-2 : goal.bind_pairs-returns-in_default-2
bind_pairs-returns-in_default-2 t c =
    let ps = c.as_slice-parts.result.now in
    let p = out-PatternPair c.index-parts-i.result in
    let bound = c.parts.bound in
    let es = c.parts.entries in
    rw (← c.as_slice-parts.ensures)
    (key_off bound p.key (pattern_view p.pattern) (keys_of (map pattern_pair_view (drop (c.parts.i + 1) ps))) (assigns_view es) (view c.in-Some.value)
    (behind c.args.bound (binding_pairs (keys_of (map pattern_pair_view ps)) (assigns_view c.args.entries)))
    (c.parts.invariant ∙ ap (λ ks. behind bound (binding_pairs ks (assigns_view es))) (keys_at ps c.parts.i c.index-parts-i.result c.parts-test.true c.index-parts-i.is))
    (ap (option_map view) (sym c.in-Some.is) ∙ c.in_ok-value.ensures.value ∙ ap (λ k. lookup k (assigns_view es)) c.as_str.ensures)
    (ap (option_map assigns_view) (sym c.in_default-2.is) ∙ c.in_ok-more.ensures))

pub bind_pairs-parts-preserved : goal.bind_pairs-parts-preserved
bind_pairs-parts-preserved t c =
    let ps = c.as_slice-parts.result.now in
    let p = out-PatternPair c.index-parts-i.result in
    let bound = c.parts.bound in
    let es = c.parts.entries in
    let later = keys_of (map pattern_pair_view (drop (c.parts.i + 1) ps)) in
    let taken : binding_pairs later (assigns_view c.take.new.entries) ≡ binding_pairs later (assigns_view es)
    = rw (← c.split_at.ensures.back) c.in_ok-value.ensures.rest in
    key_on bound c.in-Some-2.more p.key (pattern_view p.pattern) later (assigns_view es) (view c.in-Some.value)
    (behind c.args.bound (binding_pairs (keys_of (map pattern_pair_view ps)) (assigns_view c.args.entries)))
    (c.parts.invariant ∙ ap (λ ks. behind bound (binding_pairs ks (assigns_view es))) (keys_at ps c.parts.i c.index-parts-i.result c.parts-test.true c.index-parts-i.is))
    (ap (option_map view) (sym c.in-Some.is) ∙ c.in_ok-value.ensures.value ∙ ap (λ k. lookup k (assigns_view es)) c.as_str.ensures)
    (ap (option_map assigns_view) (sym c.in-Some-2.is) ∙ c.in_ok-more.ensures)
    ∙ ap (behind c.in-Some-2.more) (sym taken)

pub bind_pairs-returns : goal.bind_pairs-returns
bind_pairs-returns t c =
    let ps = c.as_slice-parts.result.now in
    let past : length ps ≤ c.parts.i = omega arith in
    rw (← c.as_slice-parts.ensures)
    (behind_nothing c.parts.bound
    ∙ sym (c.parts.invariant ∙ ap (λ qs. behind c.parts.bound (binding_pairs (keys_of (map pattern_pair_view qs)) (assigns_view c.parts.entries))) (drop_of_length-le ps past)))
