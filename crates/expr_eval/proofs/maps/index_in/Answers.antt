use Rattle.std.proofs.Common.{ℕ, List, sym, ap, ◌∙◌}
use Rattle.value_core.specs.Value.{nil}
use Rattle.value_core.specs.View.{view, assigns_view}
use Rattle.doc_model.specs.Environment.{lookup}
use Rattle.doc_model.specs.Evaluation.{on_res, or_value, index_of, key_of}
use Rattle.expr_eval.specs.Scope.{seen, place_view}
use Rattle.expr_eval.proofs.Results.{gives_as, gives_on, on_on}
use Rattle.expr_eval.proofs.Views.{map_form}
use Rattle.expr_eval.proofs.maps.index_in.Goals as goal

pub returns-in-Map : goal.returns-in-Map
returns-in-Map c =
    let found = λ (k : List ℕ). lookup k (assigns_view c.in-Map.entries) in
    let key = key_of (view c.args.key.now) in
    gives_as place_view c.entry_or_none.result (index_of (view c.args.value.now) (view c.args.key.now)) (on_res (or_value nil) (on_res found key))
    (ap (λ v. index_of (view v) (view c.args.key.now)) c.in-Map.is ∙ ap (λ v. index_of v (view c.args.key.now)) (map_form c.in-Map.entries) ∙ sym (on_on (or_value nil) found key))
    (gives_on seen (or_value nil) c.entry_or_none.result (on_res found key) c.entry_or_none.ensures)
