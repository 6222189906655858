use Rattle.std.proofs.Common.{◌≤◌, ◌+◌, length, drop, ap, ◌∙◌, arith, rules}
use Rattle.std.proofs.Math.ListN.{drop_of_length-le}
use Rattle.ast_core.specs.NodeView.{attributes_view}
use Rattle.doc_model.specs.FullRendering.{full_attributes}
use Rattle.diff_render.specs.Plain.{one_attribute}
use Rattle.diff_render.specs.Scope.{alone, scope_in}
use Rattle.diff_render.proofs.Texts.{all_behind, attribute_at, behind, fails_behind, more_behind}
use Rattle.diff_render.proofs.plain.attributes_text.Goals as goal

pub attributes-preserved : goal.attributes-preserved
attributes-preserved c go =
    let env = scope_in c.args.assigns.now c.args.variables.now in
    let xs = c.as_slice-attribute-items.result.now in
    let a = c.attribute-item.result in
    let all = full_attributes alone go env (attributes_view xs) in
    let rest = full_attributes alone go env (attributes_view (drop (c.attributes.attribute-index + 1) xs)) in
    more_behind all (one_attribute env a.name a.value) rest c.attributes.text c.in_ok-more.more c.push_str.new.self
    (attribute_at go env xs c.attributes.attribute-index a c.attributes.text all c.attributes-test.true c.attribute-item.is (c.attributes.invariant go)) c.in_ok-more.ensures (search rules)

pub returns-in_err-more : goal.returns-in_err-more
returns-in_err-more c go =
    let env = scope_in c.args.assigns.now c.args.variables.now in
    let xs = c.as_slice-attribute-items.result.now in
    let a = c.attribute-item.result in
    let all = full_attributes alone go env (attributes_view xs) in
    let rest = full_attributes alone go env (attributes_view (drop (c.attributes.attribute-index + 1) xs)) in
    let h = fails_behind c.in_err-more.field-0.0 all (one_attribute env a.name a.value) rest c.attributes.text
    (attribute_at go env xs c.attributes.attribute-index a c.attributes.text all c.attributes-test.true c.attribute-item.is (c.attributes.invariant go)) c.in_err-more.ensures in
    search (rules, h)

pub returns : goal.returns
returns c go =
    let env = scope_in c.args.assigns.now c.args.variables.now in
    let xs = c.as_slice-attribute-items.result.now in
    let past : length xs ≤ c.attributes.attribute-index = omega arith in
    let h = all_behind (full_attributes alone go env (attributes_view xs)) c.attributes.text
    (c.attributes.invariant go ∙ ap (λ l. behind c.attributes.text (full_attributes alone go env (attributes_view l))) (drop_of_length-le xs past)) in
    search (rules, h)
