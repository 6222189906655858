use Rattle.std.proofs.Common.{◌≡◌, List, Option, IfOk, option_map, subst}
use Rattle.text_core.specs.declared.by_key.KeyValue.{KeyValue}
use Rattle.value_core.specs.Value.{Assigns}
use Rattle.value_core.specs.View.{view, assigns_view}
use Rattle.value_core.specs.declared.value.Value.{Value}
use Rattle.ast_core.specs.PatternView.{pattern_view}
use Rattle.doc_model.specs.Environment.{binding}
use Rattle.comprehension.specs.Bound.{behind}
use Rattle.comprehension.proofs.Binds.{behind_none}
use Rattle.comprehension.proofs.bind.binding.Goals as goal

pub returns : goal.returns
returns c =
    let o = binding (pattern_view c.args.pattern.now) (view c.args.value) in
    subst (λ (p : Option Assigns). IfOk c.bind.result (λ r. option_map assigns_view r ≡ p)) (behind_none o)
    (subst (λ (b : List (KeyValue Value)). IfOk c.bind.result (λ r. option_map assigns_view r ≡ behind b o)) c.new.ensures c.bind.ensures)
