-- The scopes of a loop's rows.
use Rattle.std.proofs.Common.{◌≡◌, List, [], ◌∷◌, map, Ok, refl, ap, ◌∙◌}
use Rattle.text_core.specs.declared.by_key.KeyValue.{KeyValue}
use Rattle.value_core.specs.Value.{Value, Values}
use Rattle.value_core.specs.View.{assigns_view}
use Rattle.value_core.specs.declared.value.Value.{Value as Stored}
use Rattle.ast_core.specs.Syntax.{Pattern}
use Rattle.expr_eval.specs.declared.variables.Variables.{Variables}
use Rattle.doc_model.specs.Calls.{items_of}
use Rattle.doc_model.specs.Environment.{Env, bindings, inside}
use Rattle.doc_model.specs.Evaluation.{Res, then_do, on_res}
use Rattle.doc_model.specs.Scopes.{row_scopes}
use Rattle.diff_render.specs.Scope.{AreScopes, scope_in}

scopes_are : (env : Env) (rows : List (List (KeyValue Stored))) → map (λ bs. inside (assigns_view bs) env) rows ≡ map (λ as'. inside as' env) (map assigns_view rows)
scopes_are env [] = refl
scopes_are env (r ∷ rows) = ap (λ es. inside (assigns_view r) env ∷ es) (scopes_are env rows)

-- each item that matches is a row
pub rows_bound : (as' : List (KeyValue Stored)) (vs : Variables) (p : Pattern) (rows : List (List (KeyValue Stored))) (items ws : Values) (v : Value) (r : Res Value) → r ≡ Ok v → items_of v ≡ Ok ws → items ≡ ws → map assigns_view rows ≡ bindings p items
    → (envs : List Env) × (on_res (row_scopes (scope_in as' vs) p) (then_do r items_of) ≡ Ok envs) × AreScopes as' vs rows envs
rows_bound as' vs p rows items ws v r value listed same bound = (
  row_scopes (scope_in as' vs) p ws,
  ap (λ q. on_res (row_scopes (scope_in as' vs) p) (then_do q items_of)) value ∙ ap (on_res (row_scopes (scope_in as' vs) p)) listed,
  scopes_are (scope_in as' vs) rows ∙ ap (map (λ bs. inside bs (scope_in as' vs))) (bound ∙ ap (bindings p) same),
)
