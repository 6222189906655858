use Rattle.std.proofs.Common.{◌≡◌, ◌+◌, ◌-◌, ◌++◌, [], ◌∷◌, false, take, drop, refl, sym, ap, ◌∙◌, subst, arith}
use Rattle.std.specs.List.{prefix_len}
use Rattle.std.specs.Str.{IsCharBoundary}
use Rattle.std.proofs.lemmas.List.{drop-drop}
use Rattle.expr_token.specs.declared.token.Piece.{Piece}
use Rattle.expr_token.specs.Tokens.{piece_from, no_piece}
use Rattle.expr_token.specs.Pieces.{is_plain, GoesOn}
use Rattle.expr_token.proofs.PieceFacts.{none_behind, Going, going_on, going_end}
use Rattle.expr_token.proofs.piece.piece.Goals as goal

pub mark-requires : goal.mark-requires
mark-requires c =
    let text = c.args.text.now in
    let at = c.more.at in
    let n = prefix_len is_plain (drop at text) in
    ap (prefix_len is_plain) (c.split_at.ensures.back ∙ ap (drop c.in_ok-at.at) c.as_bytes.ensures.value ∙ ap (λ i. drop i text) c.in_ok-at.ensures.end ∙ sym (drop-drop n at text)) ∙ none_behind (drop at text)

pub more-preserved : goal.more-preserved
more-preserved c =
    let text = c.args.text.now in
    let at = c.more.at in
    let n = prefix_len is_plain (drop at text) in
    let rest : c.split_at.result.1.now ≡ drop (at + n) text = c.split_at.ensures.back ∙ ap (drop c.in_ok-at.at) c.as_bytes.ensures.value ∙ ap (λ i. drop i text) c.in_ok-at.ensures.end in
    let m : GoesOn (drop (at + n) text) (c.in-Some.byte ∷ []) c.in-Some.size = subst (λ l. GoesOn l (c.in-Some.byte ∷ []) c.in-Some.size) rest c.in-Some.ensures.piece in
    let g = going_on text c.args.from at n c.in-Some.size c.in-Some.byte c.more.out c.utf8.text c.more.invariant refl m in
    let place : at + n + c.in-Some.size ≡ c.in_ok-at.at + c.in-Some.size = ap (λ i. i + c.in-Some.size) (sym c.in_ok-at.ensures.end) in
    let text_so_far : (c.more.out ++ take n (drop at text)) ++ c.in-Some.byte ∷ [] ≡ c.push_mark.new.out = ap (λ l. l ++ c.in-Some.byte ∷ []) (sym c.in_ok-at.ensures.added) ∙ sym c.in_ok-push_mark-in-Some.ensures in
    subst (Going text c.args.from (c.in_ok-at.at + c.in-Some.size)) text_so_far (subst (λ i. Going text c.args.from i ((c.more.out ++ take n (drop at text)) ++ c.in-Some.byte ∷ [])) place g)

pub returns-clause-value : goal.returns-clause-value
returns-clause-value c =
    let text = c.args.text.now in
    let at = c.more.at in
    let n = prefix_len is_plain (drop at text) in
    let rest : c.split_at.result.1.now ≡ drop (at + n) text = c.split_at.ensures.back ∙ ap (drop c.in_ok-at.at) c.as_bytes.ensures.value ∙ ap (λ i. drop i text) c.in_ok-at.ensures.end in
    let e : piece_from false (drop (at + n) text) ≡ no_piece = subst (λ l. piece_from false l ≡ no_piece) rest c.in-None.ensures.piece in
    ap (λ l. let p : Piece = record { text = l; size = c.in_ok-at.at - c.args.from } in p) c.in_ok-at.ensures.added
    ∙ ap (λ i. let p : Piece = record { text = c.more.out ++ take n (drop at text); size = i - c.args.from } in p) c.in_ok-at.ensures.end
    ∙ going_end text c.args.from at n c.more.out c.more.invariant refl e

pub returns-clause-within : goal.returns-clause-within
returns-clause-within c =
    let cut : IsCharBoundary c.args.text.now c.in_ok-at.at = c.in_ok-at.ensures.cut in
    omega (arith, c.more.invariant.order, c.in_ok-at.ensures.end, cut.0)
