use Rattle.std.proofs.Common.{rules, ◌≡◌, ◌++◌, codes, ℕ, List, true, Ok, Err, if◌then◌else◌, sym, ap, ◌∙◌}
use Rattle.std.specs.Str.{bytes_eq}
use Rattle.value_core.specs.View.{values_view}
use Rattle.value_core.specs.declared.raise.Raise.TheVariants.{NotPrintable}
use Rattle.doc_model.specs.Evaluation.{Res, on_res}
use Rattle.doc_model.specs.Printing.{class_items, with_spaces, equals}
use Rattle.attribute_text.specs.Prints.{behind}
use Rattle.attribute_text.proofs.Added.{behind_none, quoted}
use Rattle.attribute_text.proofs.attribute.add_class_list.Goals as goal

pub returns : goal.returns
returns c =
    let out = c.args.out.now in
    let name = c.args.name.now in
    let items : Res (List (List ℕ)) = class_items (values_view c.args.items.now) in
    let classes = c.add_classes.new.classes in
    let shown : List (List ℕ) → List ℕ = λ (ts : List (List ℕ)). equals name (with_spaces ts) in
    let named : bytes_eq name (codes "class") ≡ true = search rules in
    let listed : items ≡ Ok classes = sym (behind_none items) ∙ ap (λ l. behind l items) (sym c.new-classes.ensures) ∙ c.in_ok-add_classes.ensures in
    let added : out ++ equals name (with_spaces classes) ≡ c.push_str.new.self
    = quoted out name (with_spaces classes) c.begin_value.new.out c.add_with_spaces.new.out c.push_str.new.self c.in_ok-begin_value.ensures c.in_ok-add_with_spaces.ensures c.in_ok-push_str.ensures.ok in
    ap (λ b. behind out (if b then on_res shown items else Err NotPrintable)) named ∙ ap (λ r. behind out (on_res shown r)) listed ∙ ap Ok added
