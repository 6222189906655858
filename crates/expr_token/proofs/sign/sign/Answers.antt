use Rattle.std.proofs.Common.{◌≡◌, drop, codes, IfOk, ap, sym, ◌∙◌, subst}
use Rattle.expr_token.specs.Tokens.{begins}
use Rattle.expr_token.proofs.Fronts.{brace_ascii, colon_sign}
use Rattle.expr_token.proofs.sign.sign.Goals as goal

pub part_end-requires-clause-ascii : goal.part_end-requires-clause-ascii
part_end-requires-clause-ascii c = brace_ascii c.args.text.now c.args.at (sym (ap (begins (codes "}")) (c.split_at.ensures.back ∙ ap (drop c.args.at) c.as_bytes.ensures.value)) ∙ sym c.begins_with-5.ensures ∙ c.if-not-begins_with.false)

pub returns-then-begins_with-4 : goal.returns-then-begins_with-4
returns-then-begins_with-4 c =
    let bytes = c.split_at.ensures.back ∙ ap (drop c.args.at) c.as_bytes.ensures.value in
    let a = sym (ap (begins (codes "(")) bytes) ∙ sym c.begins_with.ensures ∙ c.if-begins_with.false in
    let b = sym (ap (begins (codes "[")) bytes) ∙ sym c.begins_with-2.ensures ∙ c.if-begins_with-2.false in
    let d = sym (ap (begins (codes ".")) bytes) ∙ sym c.begins_with-3.ensures ∙ c.if-begins_with-3.false in
    let e = sym (ap (begins (codes ":")) bytes) ∙ sym c.begins_with-4.ensures ∙ c.if-begins_with-4.true in
    subst (λ s. IfOk c.colon.result (λ x. x ≡ s)) (colon_sign c.args.near c.args.part c.args.text.now c.args.at a b d e) c.colon.ensures
