use Rattle.std.proofs.Common.{◌≡◌, ◌<◌, ◌+◌, ◌++◌, length, drop, arith, sym, ap, ◌∙◌}
use Rattle.expr_token.specs.declared.token.Token.TheVariants.{Function}
use Rattle.expr_token.specs.Tokens.{name_of, call_mark}
use Rattle.expr_token.proofs.Lexes.{cut_eq}
use Rattle.expr_token.proofs.Fronts.{front_name, front_from, full_front, full_length, front_first, word_marked}
use Rattle.expr_token.proofs.word.name_or_function.Goals as goal

pub copy_ascii-requires-clause-ascii : goal.copy_ascii-requires-clause-ascii
copy_ascii-requires-clause-ascii c =
    let bs = drop c.args.at c.args.text.now in
    front_from bs (name_of bs) c.args.size (front_name bs) c.requires.name

pub copy_ascii-requires-2-clause-ascii : goal.copy_ascii-requires-2-clause-ascii
copy_ascii-requires-2-clause-ascii c =
    let bs = drop c.args.at c.args.text.now in
    front_from bs (name_of bs ++ call_mark (drop c.args.size bs)) (c.args.size + c.args.mark) (full_front bs c.args.size c.requires.name) (full_length bs c.args.size c.args.mark c.requires.name c.requires.mark)

pub returns : goal.returns
returns c =
    let bs = drop c.args.at c.args.text.now in
    let mark = call_mark (drop c.args.size bs) in
    let full = name_of bs ++ mark in
    let n : c.args.size + c.args.mark ≡ length full = full_length bs c.args.size c.args.mark c.requires.name c.requires.mark in
    let name : c.in_ok-name-2.name ≡ full = c.in_ok-name-2.ensures ∙ front_first bs full (c.args.size + c.args.mark) (full_front bs c.args.size c.requires.name) n in
    let some : 0 < length mark = omega (arith, c.requires.mark, c.if-mark-eq0.false) in
    c.sized-2.ensures ∙ cut_eq (Function c.args.at c.in_ok-name-2.name) (Function c.args.at full) (c.args.size + c.args.mark) (length full) (ap (Function c.args.at) name) n ∙ sym (word_marked c.args.at (name_of bs) mark some)
