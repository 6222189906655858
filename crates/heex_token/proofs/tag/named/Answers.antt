use Rattle.std.proofs.Common.{◌≡◌, ◌+◌, length, codes, true, false, subst, arith, IfOk}
use Rattle.heex_token.specs.declared.value.Delimiter.TheVariants.{Double, Single, Braces}
use Rattle.heex_token.proofs.Cuts.{after_two}
use Rattle.heex_token.proofs.Tags.{named_value, found_behind}
use Rattle.heex_token.proofs.tag.named.Goals as goal

pub with_value-requires : goal.with_value-requires
with_value-requires c =
    let text = c.args.text.now in
    after_two text (c.args.at + length c.in_ok-name.name) 61 34 c.utf8.text (omega arith) (found_behind (codes "=\"") text c.as_bytes.result.now c.split_at.result.1.now c.in_ok-name.name c.args.at c.len.result c.begins_with.result true c.as_bytes.ensures.value c.len.ensures c.split_at.ensures.back c.begins_with.ensures c.if-begins_with.true)

pub returns-then-begins_with-clause-value : goal.returns-then-begins_with-clause-value
returns-then-begins_with-clause-value c =
    let text = c.args.text.now in
    subst (λ s. IfOk c.with_value.result (λ p. p ≡ s))
    (named_value Double text c.args.at c.in_ok-name.name c.in_ok-name.ensures.value (found_behind (codes "=\"") text c.as_bytes.result.now c.split_at.result.1.now c.in_ok-name.name c.args.at c.len.result c.begins_with.result true c.as_bytes.ensures.value c.len.ensures c.split_at.ensures.back c.begins_with.ensures c.if-begins_with.true))
    c.with_value.ensures.value

pub with_value-requires-then-begins_with-2 : goal.with_value-requires-then-begins_with-2
with_value-requires-then-begins_with-2 c =
    let text = c.args.text.now in
    after_two text (c.args.at + length c.in_ok-name.name) 61 39 c.utf8.text (omega arith) (found_behind (codes "='") text c.as_bytes.result.now c.split_at.result.1.now c.in_ok-name.name c.args.at c.len.result c.begins_with-2.result true c.as_bytes.ensures.value c.len.ensures c.split_at.ensures.back c.begins_with-2.ensures c.if-begins_with-2.true)

pub returns-then-begins_with-2-clause-value : goal.returns-then-begins_with-2-clause-value
returns-then-begins_with-2-clause-value c =
    let text = c.args.text.now in
    subst (λ s. IfOk c.with_value-then-begins_with-2.result (λ p. p ≡ s))
    (named_value Single text c.args.at c.in_ok-name.name c.in_ok-name.ensures.value (found_behind (codes "=\"") text c.as_bytes.result.now c.split_at.result.1.now c.in_ok-name.name c.args.at c.len.result c.begins_with.result false c.as_bytes.ensures.value c.len.ensures c.split_at.ensures.back c.begins_with.ensures c.if-begins_with.false, found_behind (codes "='") text c.as_bytes.result.now c.split_at.result.1.now c.in_ok-name.name c.args.at c.len.result c.begins_with-2.result true c.as_bytes.ensures.value c.len.ensures c.split_at.ensures.back c.begins_with-2.ensures c.if-begins_with-2.true))
    c.with_value-then-begins_with-2.ensures.value

pub with_value-requires-then-begins_with-3 : goal.with_value-requires-then-begins_with-3
with_value-requires-then-begins_with-3 c =
    let text = c.args.text.now in
    after_two text (c.args.at + length c.in_ok-name.name) 61 123 c.utf8.text (omega arith) (found_behind (codes "={") text c.as_bytes.result.now c.split_at.result.1.now c.in_ok-name.name c.args.at c.len.result c.begins_with-3.result true c.as_bytes.ensures.value c.len.ensures c.split_at.ensures.back c.begins_with-3.ensures c.if-begins_with-3.true)

pub returns-then-begins_with-3-clause-value : goal.returns-then-begins_with-3-clause-value
returns-then-begins_with-3-clause-value c =
    let text = c.args.text.now in
    subst (λ s. IfOk c.with_value-then-begins_with-3.result (λ p. p ≡ s))
    (named_value Braces text c.args.at c.in_ok-name.name c.in_ok-name.ensures.value (found_behind (codes "=\"") text c.as_bytes.result.now c.split_at.result.1.now c.in_ok-name.name c.args.at c.len.result c.begins_with.result false c.as_bytes.ensures.value c.len.ensures c.split_at.ensures.back c.begins_with.ensures c.if-begins_with.false, found_behind (codes "='") text c.as_bytes.result.now c.split_at.result.1.now c.in_ok-name.name c.args.at c.len.result c.begins_with-2.result false c.as_bytes.ensures.value c.len.ensures c.split_at.ensures.back c.begins_with-2.ensures c.if-begins_with-2.false, found_behind (codes "={") text c.as_bytes.result.now c.split_at.result.1.now c.in_ok-name.name c.args.at c.len.result c.begins_with-3.result true c.as_bytes.ensures.value c.len.ensures c.split_at.ensures.back c.begins_with-3.ensures c.if-begins_with-3.true))
    c.with_value-then-begins_with-3.ensures.value
