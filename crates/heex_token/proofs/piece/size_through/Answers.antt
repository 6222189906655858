use Rattle.std.proofs.Common.{◌≡◌, drop, Some, sym, ap, ◌∙◌, arith, length-drop}
use Rattle.heex_token.specs.Tokens.{through}
use Rattle.heex_token.proofs.Scans.{Through, through_ends}
use Rattle.heex_token.proofs.piece.size_through.Goals as goal

pub overflow_add-result : goal.overflow_add-result
overflow_add-result c =
    let bs = drop c.args.from c.args.rest.now in
    let w : through c.args.word.now bs ≡ Some c.in-Some.size = ap (through c.args.word.now) (sym c.split_at.ensures.back) ∙ sym c.through.ensures ∙ c.in-Some.is in
    let t : Through c.args.word.now bs c.in-Some.size = through_ends c.args.word.now bs c.in-Some.size w in
    omega (arith, t.within, length-drop c.args.from c.args.rest.now, c.requires)

pub returns-in-Some-clause-within : goal.returns-in-Some-clause-within
returns-in-Some-clause-within c =
    let bs = drop c.args.from c.args.rest.now in
    let w : through c.args.word.now bs ≡ Some c.in-Some.size = ap (through c.args.word.now) (sym c.split_at.ensures.back) ∙ sym c.through.ensures ∙ c.in-Some.is in
    let t : Through c.args.word.now bs c.in-Some.size = through_ends c.args.word.now bs c.in-Some.size w in
    (omega arith, omega (arith, t.within, length-drop c.args.from c.args.rest.now, c.requires))
