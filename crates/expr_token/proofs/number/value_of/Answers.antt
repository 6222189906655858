use Rattle.std.proofs.Common.{◌≡◌, ◌+◌, drop, get_or, None, sym, ap, ◌∙◌}
use Rattle.expr_token.specs.Tokens.{value_with, value_of, fitting}
use Rattle.expr_token.proofs.Lexes.{head_of, stays_large}
use Rattle.expr_token.proofs.number.value_of.Goals as goal

pub returns-in_err-value : goal.returns-in_err-value
returns-in_err-value c =
    let l = c.args.digits.now in
    let j = c.each.byte-index in
    let b = get_or l j 0 in
    let w : c.with_character.result ≡ None = c.in_err-value.was in
    let r : fitting (value_with c.each.value b) ≡ None = sym c.with_character.ensures ∙ w in
    let e = ap fitting (sym c.each.invariant.same) ∙ ap (λ x. fitting (value_of c.each.value x)) (head_of l j 0 c.each-test.true) ∙ stays_large c.each.value b (drop (j + 1) l) r in
    c.from_residual.ensures ∙ sym e
