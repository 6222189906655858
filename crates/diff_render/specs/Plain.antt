-- The full rendering of an attribute and of clauses.
use Rattle.std.specs.Prelude.{ℕ, List, [], Ok, Err, None, Some}
use Rattle.ast_core.specs.declared.node.AttributeValue.{AttributeValue}
use Rattle.ast_core.specs.declared.node.AttributeValue.TheVariants as form
use Rattle.ast_core.specs.ExprView.{expr_view}
use Rattle.ast_core.specs.Places.{written_text}
use Rattle.ast_core.specs.Syntax.{attribute, bare, double_quoted, single_quoted, spread, Clauses}
use Rattle.value_core.specs.Value.{Value}
use Rattle.doc_model.specs.Environment.{Env, bind}
use Rattle.doc_model.specs.Evaluation.{Res, then_do}
use Rattle.doc_model.specs.Scopes.{Deeper, chosen}
use Rattle.diff_render.specs.Shown.{shown_at}

-- the text of one attribute
abbrev pub one_attribute : Env → List ℕ → AttributeValue → Res (List ℕ)
one_attribute env n (form.Double t) = Ok (written_text n (double_quoted t))
one_attribute env n (form.Single t) = Ok (written_text n (single_quoted t))
one_attribute env n form.Bare = Ok (written_text n bare)
one_attribute env n (form.Put e) = shown_at env (attribute n (expr_view e))
one_attribute env n (form.Spread e) = shown_at env (spread (expr_view e))
one_attribute env n (form.Module m) = Ok []

-- the text of the clause that a value chooses
abbrev pub clauses_shown : Deeper (List ℕ) → Env → Value → Clauses → Res (List ℕ)
clauses_shown go env v cs = then_do (chosen v cs) (λ c. go (bind c.variables env) c.nodes)
