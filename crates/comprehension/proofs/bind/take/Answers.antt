use Rattle.std.proofs.Common.{Some, None, map, option_map, refl, sym, ap, ◌∙◌}
use Rattle.value_core.specs.View.{view, assigns_view}
use Rattle.ast_core.specs.PatternView.{keys_of}
use Rattle.ast_core.specs.NamesIn.{pattern_pair_view}
use Rattle.doc_model.specs.Environment.{binding_pairs}
use Rattle.expr_eval.proofs.Views.{lookup_seen}
use Rattle.comprehension.proofs.Binds.{key_taken}
use Rattle.comprehension.proofs.Matched.{seen_at}
use Rattle.comprehension.proofs.bind.take.Goals as goal

pub returns-then-not-has_key-clause-value : goal.returns-then-not-has_key-clause-value
returns-then-not-has_key-clause-value c = ap (option_map view) c.remove.ensures.value ∙ lookup_seen c.args.key.now c.args.entries.now

pub returns-then-not-has_key-clause-rest : goal.returns-then-not-has_key-clause-rest
returns-then-not-has_key-clause-rest c =
    let later = keys_of (map pattern_pair_view c.args.later.now) in
    ap (λ es. binding_pairs later (assigns_view es)) c.remove.ensures.rest ∙ key_taken later c.args.key.now c.args.entries.now (sym c.has_key.ensures ∙ c.if-not-has_key.true)

pub returns-in_ok-copy-in-Some-clause-value : goal.returns-in_ok-copy-in-Some-clause-value
returns-in_ok-copy-in-Some-clause-value c =
    ap Some c.in_ok-copy-in-Some.ensures ∙ seen_at c.args.entries.now c.args.key.now c.args.key.now c.get.result (Some c.in-Some.value) c.get.ensures refl c.in-Some.is

pub returns-in-None-clause-value : goal.returns-in-None-clause-value
returns-in-None-clause-value c = seen_at c.args.entries.now c.args.key.now c.args.key.now c.get.result None c.get.ensures refl c.in-None.is
