use Rattle.std.proofs.Common.{◌≡◌, IfOk, subst}
use Rattle.expr_token.proofs.Passing.{next_by}
use Rattle.expr_token.proofs.lexer.next.Goals as goal

pub returns : goal.returns
returns c = subst (λ x. IfOk c.token_at.result (λ y. y ≡ x)) (next_by c.args.text.now c.args.lexer.now c.in_quoted-quoted.result c.in_parted-part.result c.innermost-inner.result c.as_slice.result.now c.as_slice.ensures c.innermost-inner.ensures c.in_quoted-quoted.ensures c.in_parted-part.ensures) c.token_at.ensures
