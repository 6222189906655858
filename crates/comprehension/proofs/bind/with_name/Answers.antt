use Rattle.std.proofs.Common.{[], ◌∷◌, ap, ◌∙◌}
use Rattle.text_core.specs.Keyed.{entry}
use Rattle.value_core.specs.Value.{no_assigns, assign}
use Rattle.value_core.specs.View.{view, assigns_view}
use Rattle.doc_model.specs.Environment.{over}
use Rattle.comprehension.proofs.Binds.{bound_append}
use Rattle.comprehension.proofs.bind.with_name.Goals as goal

pub returns : goal.returns
returns c =
    ap assigns_view c.in_ok-push.ensures.ok ∙ bound_append c.args.bound (entry c.in_ok-key.key c.args.value ∷ [])
    ∙ ap (λ k. over (assigns_view c.args.bound) (assign k (view c.args.value) no_assigns)) c.in_ok-key.ensures
