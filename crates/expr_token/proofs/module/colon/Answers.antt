use Rattle.std.proofs.Common.{◌≡◌, ◌+◌, length, drop, sym, ap, ◌∙◌}
use Rattle.expr_token.specs.declared.token.Token.TheVariants.{Atom}
use Rattle.expr_token.proofs.Lexes.{cut_eq}
use Rattle.expr_token.proofs.Fronts.{front_first, front_from, atom_of, atom_front, atom_called, atom_found}
use Rattle.expr_token.proofs.module.colon.Goals as goal

pub copy_ascii-requires-clause-ascii : goal.copy_ascii-requires-clause-ascii
copy_ascii-requires-clause-ascii c =
    let bs = drop c.args.from c.args.text.now in
    let n = c.name_length-size.result + c.atom_mark.result in
    let f = atom_found bs c.split_at.result.1.now c.split_at-2.result.0.now c.split_at-2.result.1.now c.name_length-size.result c.atom_mark.result
    (c.split_at.ensures.back ∙ ap (drop c.args.from) c.as_bytes.ensures.value) c.name_length-size.ensures c.split_at-2.ensures.front c.split_at-2.ensures.back (sym c.begins_with_upper.ensures ∙ c.if-begins_with_upper.false)
    (sym c.is_reserved.ensures ∙ c.if-is_reserved.false) (sym c.begins_with_name.ensures ∙ c.if-not-begins_with_name.false) c.atom_mark.ensures in
    front_from bs (atom_of bs) n (atom_front bs) f.full

pub returns : goal.returns
returns c =
    let bs = drop c.args.from c.args.text.now in
    let n = c.name_length-size.result + c.atom_mark.result in
    let f = atom_found bs c.split_at.result.1.now c.split_at-2.result.0.now c.split_at-2.result.1.now c.name_length-size.result c.atom_mark.result
    (c.split_at.ensures.back ∙ ap (drop c.args.from) c.as_bytes.ensures.value) c.name_length-size.ensures c.split_at-2.ensures.front c.split_at-2.ensures.back (sym c.begins_with_upper.ensures ∙ c.if-begins_with_upper.false)
    (sym c.is_reserved.ensures ∙ c.if-is_reserved.false) (sym c.begins_with_name.ensures ∙ c.if-not-begins_with_name.false) c.atom_mark.ensures in
    let name : c.in_ok-name.name ≡ atom_of bs = c.in_ok-name.ensures ∙ front_first bs (atom_of bs) n (atom_front bs) f.full in
    c.sized-2.ensures ∙ cut_eq (Atom c.in_ok-name.name) (Atom (atom_of bs)) (n + 1) (length (atom_of bs) + 1) (ap (λ s. Atom s) name) (ap (λ i. i + 1) f.full) ∙ sym (atom_called bs f.lower f.free f.named)
