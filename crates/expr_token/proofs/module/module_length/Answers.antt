use Rattle.std.proofs.Common.{◌≡◌, drop, arith, sym, ap, ◌∙◌}
use Rattle.expr_token.specs.Tokens.{module_goes_on}
use Rattle.expr_token.proofs.Lexes.{module_step}
use Rattle.expr_token.proofs.module.module_length.Goals as goal

pub more-preserved : goal.more-preserved
more-preserved c =
    let h : module_goes_on (drop c.more.end c.args.rest.now) ≡ _ = ap module_goes_on (sym c.split_at.ensures.back) ∙ sym c.goes_on.ensures ∙ c.if-goes_on.true in
    let e = module_step c.args.rest.now c.more.end c.more-test.true h in
    record { within = omega arith; same = omega (arith, e, c.more.invariant.same) }
