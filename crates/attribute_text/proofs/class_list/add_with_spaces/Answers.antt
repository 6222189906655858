use Rattle.std.proofs.Common.{◌≡◌, ◌-◌, ◌++◌, length, take, drop, OnOk, sym, ap, ◌∙◌, subst, append_assoc, arith}
use Rattle.std.proofs.lemmas.List.{take_all, length-drop}
use Rattle.text_core.specs.Escape.{escape_text}
use Rattle.text_core.proofs.Escapes.{escape-append}
use Rattle.value_core.proofs.Order.{cons_at}
use Rattle.doc_model.specs.Printing.{with_spaces}
use Rattle.attribute_text.specs.Prints.{with_space_each}
use Rattle.attribute_text.proofs.Added.{spaces_first}
use Rattle.attribute_text.proofs.class_list.add_with_spaces.Goals as goal

pub returns : goal.returns
returns c =
    let all = c.as_slice.result.now in
    let out = c.args.out.now in
    let first = c.first-item.result in
    let cut : take (length all - 1) (drop 1 all) ≡ drop 1 all = take_all (length all - 1) (drop 1 all) (omega (arith, length-drop 1 all)) in
    let begun : c.escape_html.new.out ≡ out ++ escape_text first = c.in_ok-escape_html.ensures.ok ∙ ap (λ t. out ++ escape_text t) c.as_str.ensures in
    let whole : escape_text (with_spaces c.args.texts.now) ≡ escape_text first ++ escape_text (with_space_each (drop 1 all))
    = ap (λ l. escape_text (with_spaces l)) (sym c.as_slice.ensures ∙ cons_at all 0 first c.in-len1-up.len_at_least c.first-item.is)
    ∙ ap escape_text (spaces_first first (drop 1 all)) ∙ escape-append first (with_space_each (drop 1 all)) in
    subst (λ l. OnOk c.add_with_space_each.result (c.add_with_space_each.new.out ≡ l))
    (ap (λ l. c.escape_html.new.out ++ escape_text (with_space_each l)) cut
    ∙ ap (λ l. l ++ escape_text (with_space_each (drop 1 all))) begun
    ∙ append_assoc out (escape_text first) (escape_text (with_space_each (drop 1 all)))
    ∙ ap (λ l. out ++ l) (sym whole))
    c.add_with_space_each.ensures
