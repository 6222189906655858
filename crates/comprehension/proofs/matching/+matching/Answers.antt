use Rattle.std.proofs.Common.{◌<◌, ◌+◌, Some, None, length, drop, map, is_some, sym, ap, ◌∙◌, arith}
use Rattle.value_core.specs.View.{view, values_view, assigns_view}
use Rattle.ast_core.specs.declared.pattern.PatternPair.{out-PatternPair}
use Rattle.ast_core.specs.PatternView.{pattern_view, patterns_of, keys_of}
use Rattle.ast_core.specs.NamesIn.{pattern_pair_view}
use Rattle.doc_model.specs.Environment.{binding_all, binding_pairs}
use Rattle.comprehension.proofs.Matched.{lengths_differ, part_on, part_off, key_on, key_off, key_absent, seen_at}
use Rattle.comprehension.proofs.Parts.{keys_at}
use Rattle.comprehension.proofs.matching.+matching.Goals as goal

pub all_match-returns-then-parts-values : goal.all_match-returns-then-parts-values
all_match-returns-then-parts-values t c =
    rw (← c.as_slice-parts.ensures, ← c.as_slice-values.ensures) (lengths_differ c.as_slice-parts.result.now c.as_slice-values.result.now c.if-parts-values.true)

pub all_match-returns-then-not-matches : goal.all_match-returns-then-not-matches
all_match-returns-then-not-matches t c =
    let ps = c.as_slice-parts.result.now in
    let vs = c.as_slice-values.result.now in
    let below : c.parts.i < length vs = omega arith in
    rw (← c.as_slice-parts.ensures, ← c.as_slice-values.ensures)
    (part_off ps vs c.parts.i c.index-parts-i.result c.index-values-i.result (is_some (binding_all (patterns_of (map pattern_view ps)) (values_view vs)))
    c.parts-test.true below c.index-parts-i.is c.index-values-i.is c.parts.invariant (sym c.matches.ensures ∙ c.if-not-matches.true))

pub all_match-parts-preserved : goal.all_match-parts-preserved
all_match-parts-preserved t c =
    let ps = c.as_slice-parts.result.now in
    let vs = c.as_slice-values.result.now in
    let below : c.parts.i < length vs = omega arith in
    part_on ps vs c.parts.i c.index-parts-i.result c.index-values-i.result (is_some (binding_all (patterns_of (map pattern_view ps)) (values_view vs)))
    c.parts-test.true below c.index-parts-i.is c.index-values-i.is c.parts.invariant (sym c.matches.ensures ∙ c.if-not-matches.false)

pub pairs_match-returns-in_default : goal.pairs_match-returns-in_default
pairs_match-returns-in_default t c =
    let ps = c.as_slice-pair-items.result.now in
    let es = c.args.entries.now in
    let p = out-PatternPair c.pair-item.result in
    let rest = keys_of (map pattern_pair_view (drop (c.pairs.pair-index + 1) ps)) in
    rw (← c.as_slice-pair-items.ensures)
    (sym (c.pairs.invariant ∙ ap (λ ks. is_some (binding_pairs ks (assigns_view es))) (keys_at ps c.pairs.pair-index c.pair-item.result c.pairs-test.true c.pair-item.is)
    ∙ key_absent p.key (pattern_view p.pattern) rest (assigns_view es) (seen_at es c.as_str.result.now p.key c.get.result None c.get.ensures c.as_str.ensures c.in_default.is)))

pub pairs_match-returns-then-not-matches : goal.pairs_match-returns-then-not-matches
pairs_match-returns-then-not-matches t c =
    let ps = c.as_slice-pair-items.result.now in
    let es = c.args.entries.now in
    let p = out-PatternPair c.pair-item.result in
    let rest = keys_of (map pattern_pair_view (drop (c.pairs.pair-index + 1) ps)) in
    rw (← c.as_slice-pair-items.ensures)
    (sym (c.pairs.invariant ∙ ap (λ ks. is_some (binding_pairs ks (assigns_view es))) (keys_at ps c.pairs.pair-index c.pair-item.result c.pairs-test.true c.pair-item.is)
    ∙ key_off p.key (pattern_view p.pattern) rest (assigns_view es) (view c.in-Some.value.now) (seen_at es c.as_str.result.now p.key c.get.result (Some c.in-Some.value) c.get.ensures c.as_str.ensures c.in-Some.is)
    (sym c.matches.ensures ∙ c.if-not-matches.true)))

pub pairs_match-pairs-preserved : goal.pairs_match-pairs-preserved
pairs_match-pairs-preserved t c =
    let ps = c.as_slice-pair-items.result.now in
    let es = c.args.entries.now in
    let p = out-PatternPair c.pair-item.result in
    let rest = keys_of (map pattern_pair_view (drop (c.pairs.pair-index + 1) ps)) in
    c.pairs.invariant ∙ ap (λ ks. is_some (binding_pairs ks (assigns_view es))) (keys_at ps c.pairs.pair-index c.pair-item.result c.pairs-test.true c.pair-item.is)
    ∙ key_on p.key (pattern_view p.pattern) rest (assigns_view es) (view c.in-Some.value.now) (seen_at es c.as_str.result.now p.key c.get.result (Some c.in-Some.value) c.get.ensures c.as_str.ensures c.in-Some.is)
    (sym c.matches.ensures ∙ c.if-not-matches.false)
