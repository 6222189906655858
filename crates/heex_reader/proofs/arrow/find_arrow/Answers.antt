use Rattle.std.proofs.Common.{◌≡◌, ◌+◌, drop, false, sym, ap, ◌∙◌, subst, arith}
use Rattle.heex_reader.specs.declared.arrow.Quoting.{Quoting}
use Rattle.heex_reader.specs.Pieces.{is_arrow}
use Rattle.heex_reader.proofs.Arrows.{Looking, look_on}
use Rattle.heex_reader.proofs.arrow.find_arrow.Goals as goal

pub more-preserved : goal.more-preserved
more-preserved c =
    let bytes = c.args.bytes.now in
    let none : is_arrow c.more.quoting (drop c.more.at bytes) ≡ false = ap (is_arrow c.more.quoting) (sym c.split_at.ensures.back) ∙ sym c.is_arrow.ensures ∙ c.if-is_arrow.false in
    subst (λ (q : Quoting). Looking bytes q (c.more.at + 1)) (sym c.behind-quoting.ensures) (look_on bytes c.more.quoting c.more.at c.more.invariant (omega arith) none)
