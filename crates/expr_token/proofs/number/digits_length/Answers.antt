use Rattle.std.proofs.Common.{◌≡◌, drop, arith, sym, ap, ◌∙◌}
use Rattle.expr_token.specs.Tokens.{digits_go_on}
use Rattle.expr_token.proofs.Lexes.{digits_step}
use Rattle.expr_token.proofs.number.digits_length.Goals as goal

pub more-preserved : goal.more-preserved
more-preserved c =
    let h : digits_go_on (drop c.more.end c.args.rest.now) ≡ _ = ap digits_go_on (sym c.split_at.ensures.back) ∙ sym c.go_on.ensures ∙ c.if-go_on.true in
    let e = digits_step c.args.rest.now c.more.end c.more-test.true h in
    record { within = omega arith; same = omega (arith, e, c.more.invariant.same) }
