use Rattle.std.proofs.Common.{◌++◌, ◌+◌, drop, ap, sym, ◌∙◌}
use Rattle.text_core.specs.Escape.{escape_text}
use Rattle.attribute_text.specs.Prints.{with_space_each}
use Rattle.attribute_text.proofs.Added.{text_on}
use Rattle.attribute_text.proofs.class_list.add_with_space_each.Goals as goal

pub texts-preserved : goal.texts-preserved
texts-preserved c =
    text_on _ c.texts.out c.text-item.result c.args.texts.now c.texts.text-index c.texts-test.true c.text-item.is c.texts.invariant
    ∙ ap (λ l. l ++ escape_text (with_space_each (drop (c.texts.text-index + 1) c.args.texts.now)))
    (sym (c.in_ok-escape_html.ensures.ok ∙ ap (λ t. c.push_str.new.self ++ escape_text t) c.as_str.ensures ∙ ap (λ l. l ++ escape_text c.text-item.result) c.in_ok-push_str.ensures.ok))
