use Rattle.std.proofs.Common.{◌≡◌, ◌+◌, drop, true, false, sym, ap, ◌∙◌}
use Rattle.heex_token.specs.Tokens.{first_is, begins_tag, is_tag_name, start_by, tag_from}
use Rattle.heex_token.specs.Pieces.{piece_view}
use Rattle.heex_token.proofs.Names.{no_tag, no_start_name, start_found}
use Rattle.heex_token.proofs.piece.start_tag.Goals as goal

pub returns-then-not-begins_tag-clause-value : goal.returns-then-not-begins_tag-clause-value
returns-then-not-begins_tag-clause-value c =
    let text = c.args.text.now in
    let at = c.args.at in
    let h : first_is begins_tag (drop (at + 1) text) ≡ false = ap (first_is begins_tag) (sym (c.split_at.ensures.back ∙ ap (drop (at + 1)) c.as_bytes.ensures.value)) ∙ sym c.begins_tag.ensures ∙ c.if-not-begins_tag.true in
    ap piece_view c.faulty.ensures ∙ no_tag text at h

pub returns-then-not-is_tag_name-clause-value : goal.returns-then-not-is_tag_name-clause-value
returns-then-not-is_tag_name-clause-value c =
    let name = c.in_ok-name.name in
    let h : is_tag_name name ≡ false = ap is_tag_name (sym (c.as_bytes-2.ensures.value ∙ c.as_str.ensures)) ∙ sym c.is_tag_name.ensures ∙ c.if-not-is_tag_name.true in
    ap piece_view c.faulty-then-not-is_tag_name.ensures ∙ no_start_name c.args.text.now c.args.at name c.in_ok-name.ensures.value h

pub returns-clause-value : goal.returns-clause-value
returns-clause-value c =
    let text = c.args.text.now in
    let at = c.args.at in
    let name = c.in_ok-name.name in
    let h : first_is begins_tag (drop (at + 1) text) ≡ true = ap (first_is begins_tag) (sym (c.split_at.ensures.back ∙ ap (drop (at + 1)) c.as_bytes.ensures.value)) ∙ sym c.begins_tag.ensures ∙ c.if-not-begins_tag.false in
    let k : is_tag_name name ≡ true = ap is_tag_name (sym (c.as_bytes-2.ensures.value ∙ c.as_str.ensures)) ∙ sym c.is_tag_name.ensures ∙ c.if-not-is_tag_name.false in
    c.start_by.ensures.value
    ∙ ap (start_by at name) (c.in_ok-tag.ensures.value ∙ ap (λ n. tag_from (at + 1 + n) 0 (drop (at + 1 + n) text)) c.len.ensures)
    ∙ start_found text at name c.in_ok-name.ensures.value h k
