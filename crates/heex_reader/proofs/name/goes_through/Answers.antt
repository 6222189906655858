use Rattle.std.proofs.Common.{◌≡◌, drop, true, sym, ap, ◌∙◌, arith}
use Rattle.expr_token.specs.Tokens.{module_goes_on}
use Rattle.heex_reader.proofs.Names.{module_step}
use Rattle.heex_reader.proofs.name.goes_through.Goals as goal

pub more-preserved : goal.more-preserved
more-preserved c =
    let bytes = c.args.bytes.now in
    let on : module_goes_on (drop c.more.at bytes) ≡ true = ap module_goes_on (sym c.split_at.ensures.back) ∙ sym c.goes_on.ensures ∙ c.if-not-goes_on.false in
    record { within = omega arith; same = module_step bytes c.more.at (omega arith) on ∙ c.more.invariant.same }
