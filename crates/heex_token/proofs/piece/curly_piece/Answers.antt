use Rattle.std.proofs.Common.{◌≡◌, ◌+◌, drop, Some, None, sym, ap, ◌∙◌, arith}
use Rattle.std.proofs.lemmas.List.{drop-drop}
use Rattle.heex_token.specs.declared.token.TokenForm.TheVariants.{Curly}
use Rattle.heex_token.specs.declared.token.TokenKind.TheVariants.{UnclosedExpr}
use Rattle.heex_token.specs.declared.region.Inside.TheVariants.{Markup}
use Rattle.heex_token.specs.Tokens.{to_brace, ending}
use Rattle.heex_token.proofs.Scans.{brace_ends}
use Rattle.heex_token.proofs.Cuts.{ends_within}
use Rattle.heex_token.proofs.piece.curly_piece.Goals as goal

pub overflow_add-result : goal.overflow_add-result
overflow_add-result c =
    let bs = drop (c.args.at + 1) c.args.text.now in
    let w : to_brace bs ≡ Some c.in-Some.size = ap to_brace (sym (c.split_at.ensures.back ∙ ap (drop (c.args.at + 1)) c.as_bytes.ensures.value)) ∙ sym c.in_ok-size.ensures ∙ c.in-Some.is in
    omega (arith, ends_within c.args.text.now (c.args.at + 1) c.in-Some.size (omega (arith, c.requires.within)) (brace_ends bs c.in-Some.size w), c.as_bytes.ensures.len)

pub returns-in-Some-clause-within : goal.returns-in-Some-clause-within
returns-in-Some-clause-within c =
    let bs = drop (c.args.at + 1) c.args.text.now in
    let w : to_brace bs ≡ Some c.in-Some.size = ap to_brace (sym (c.split_at.ensures.back ∙ ap (drop (c.args.at + 1)) c.as_bytes.ensures.value)) ∙ sym c.in_ok-size.ensures ∙ c.in-Some.is in
    (omega arith, omega (arith, ends_within c.args.text.now (c.args.at + 1) c.in-Some.size (omega (arith, c.requires.within)) (brace_ends bs c.in-Some.size w)))

pub returns-in-Some-clause-value : goal.returns-in-Some-clause-value
returns-in-Some-clause-value c =
    let bs = drop (c.args.at + 1) c.args.text.now in
    let w : to_brace bs ≡ Some c.in-Some.size = ap to_brace (sym (c.split_at.ensures.back ∙ ap (drop (c.args.at + 1)) c.as_bytes.ensures.value)) ∙ sym c.in_ok-size.ensures ∙ c.in-Some.is in
    ap (ending Curly c.args.at 1 UnclosedExpr Markup) (sym (ap to_brace (drop-drop 1 c.args.at c.args.text.now) ∙ w))

pub returns-in-None-clause-value : goal.returns-in-None-clause-value
returns-in-None-clause-value c =
    let bs = drop (c.args.at + 1) c.args.text.now in
    let w : to_brace bs ≡ None = ap to_brace (sym (c.split_at.ensures.back ∙ ap (drop (c.args.at + 1)) c.as_bytes.ensures.value)) ∙ sym c.in_ok-size.ensures ∙ c.in-None.is in
    ap (ending Curly c.args.at 1 UnclosedExpr Markup) (sym (ap to_brace (drop-drop 1 c.args.at c.args.text.now) ∙ w))
