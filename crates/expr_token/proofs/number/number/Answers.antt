use Rattle.std.proofs.Common.{◌≡◌, length, take, Some, None, arith, sym, ap, ◌∙◌}
use Rattle.expr_token.specs.declared.token.Token.TheVariants.{Number}
use Rattle.expr_token.specs.Tokens.{digits_of, value_of, fitting, number_token}
use Rattle.expr_token.proofs.Lexes.{digits_le, digits_front, fits_signed, cut_eq}
use Rattle.expr_token.proofs.number.number.Goals as goal
use Rattle.expr_token.proofs.number.number.Goals.{in-Some, in-None}

pub split_at-requires : goal.split_at-requires
split_at-requires c = omega (arith, c.digits_length-size.ensures, digits_le c.args.rest.now)

pub returns : goal.returns
returns c =
    let bs = c.args.rest.now in
    let d : c.split_at.result.0.now ≡ digits_of bs = c.split_at.ensures.front ∙ ap (λ n. take n bs) c.digits_length-size.ensures ∙ digits_front bs in
    let v : c.value_of.result ≡ fitting (value_of 0 (digits_of bs)) = c.value_of.ensures ∙ ap (λ x. fitting (value_of 0 x)) d in
    c.sized.ensures ∙ elim c.match-value_of.branch [
      | in-Some w ↦ (
          let s : fitting (value_of 0 (digits_of bs)) ≡ Some w.in-Some.value = sym v ∙ w.in-Some.is in
          cut_eq _ (number_token (fitting (value_of 0 (digits_of bs)))) _ (length (digits_of bs)) (w.token-is ∙ ap (λ z. Number z) (fits_signed _ _ s) ∙ ap number_token (sym s)) c.digits_length-size.ensures)
      | in-None w ↦ (
          let s : fitting (value_of 0 (digits_of bs)) ≡ None = sym v ∙ w.in-None.is in
          cut_eq _ (number_token (fitting (value_of 0 (digits_of bs)))) _ (length (digits_of bs)) (w.token-is ∙ ap number_token (sym s)) c.digits_length-size.ensures)
    ]
