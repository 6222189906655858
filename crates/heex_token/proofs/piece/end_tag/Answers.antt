use Rattle.std.proofs.Common.{◌≡◌, ◌+◌, drop, true, false, sym, ap, ◌∙◌, arith}
use Rattle.heex_token.specs.Tokens.{is_tag_name, end_by, end_from}
use Rattle.heex_token.specs.Pieces.{piece_view}
use Rattle.heex_token.proofs.Cuts.{after_two}
use Rattle.heex_token.proofs.Names.{no_end_name, end_found}
use Rattle.heex_token.proofs.piece.end_tag.Goals as goal

pub name_at-requires : goal.name_at-requires
name_at-requires c = after_two c.args.text.now c.args.at 60 47 c.utf8.text (omega arith) c.requires

pub returns-then-not-is_tag_name-clause-value : goal.returns-then-not-is_tag_name-clause-value
returns-then-not-is_tag_name-clause-value c =
    let name = c.in_ok-name.name in
    let h : is_tag_name name ≡ false = ap is_tag_name (sym (c.as_bytes.ensures.value ∙ c.as_str.ensures)) ∙ sym c.is_tag_name.ensures ∙ c.if-not-is_tag_name.true in
    ap piece_view c.faulty.ensures ∙ no_end_name c.args.text.now c.args.at name c.in_ok-name.ensures.value h

pub returns-clause-value : goal.returns-clause-value
returns-clause-value c =
    let text = c.args.text.now in
    let at = c.args.at in
    let name = c.in_ok-name.name in
    let k : is_tag_name name ≡ true = ap is_tag_name (sym (c.as_bytes.ensures.value ∙ c.as_str.ensures)) ∙ sym c.is_tag_name.ensures ∙ c.if-not-is_tag_name.false in
    c.end_by.ensures.value
    ∙ ap (end_by at name) (c.end_from-tag.ensures.value ∙ ap (λ n. end_from (at + 2 + n) (drop (at + 2 + n) text)) c.len.ensures)
    ∙ end_found text at name c.in_ok-name.ensures.value k
