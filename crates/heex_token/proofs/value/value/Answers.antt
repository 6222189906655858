use Rattle.std.proofs.Common.{◌≡◌, drop, Some, sym, ap, ◌∙◌, arith}
use Rattle.heex_token.specs.Pieces.{value_size}
use Rattle.heex_token.proofs.Scans.{Ends, value_ends}
use Rattle.heex_token.proofs.Cuts.{ends_within, before_last, reaches}
use Rattle.heex_token.proofs.value.value.Goals as goal

pub overflow_add-at : goal.overflow_add-at
overflow_add-at c =
    let bs = drop c.args.at c.args.text.now in
    let w : value_size c.args.delimiter bs ≡ Some c.in-Some.size = ap (value_size c.args.delimiter) (sym (c.split_at.ensures.back ∙ ap (drop c.args.at) c.as_bytes.ensures.value)) ∙ sym c.in_ok-value_size.ensures ∙ c.in-Some.is in
    omega (arith, ends_within c.args.text.now c.args.at c.in-Some.size c.requires.0 (value_ends c.args.delimiter bs c.in-Some.size w), c.as_bytes.ensures.len)

pub overflow_sub-at : goal.overflow_sub-at
overflow_sub-at c =
    let bs = drop c.args.at c.args.text.now in
    let w : value_size c.args.delimiter bs ≡ Some c.in-Some.size = ap (value_size c.args.delimiter) (sym (c.split_at.ensures.back ∙ ap (drop c.args.at) c.as_bytes.ensures.value)) ∙ sym c.in_ok-value_size.ensures ∙ c.in-Some.is in
    let e : Ends bs c.in-Some.size = value_ends c.args.delimiter bs c.in-Some.size w in
    omega (arith, e.some)

pub range-requires-clause-end_boundary : goal.range-requires-clause-end_boundary
range-requires-clause-end_boundary c =
    let bs = drop c.args.at c.args.text.now in
    let w : value_size c.args.delimiter bs ≡ Some c.in-Some.size = ap (value_size c.args.delimiter) (sym (c.split_at.ensures.back ∙ ap (drop c.args.at) c.as_bytes.ensures.value)) ∙ sym c.in_ok-value_size.ensures ∙ c.in-Some.is in
    before_last c.args.text.now c.args.at c.in-Some.size c.requires.0 (value_ends c.args.delimiter bs c.in-Some.size w)

pub returns-in_ok-text-in-Some-clause-within : goal.returns-in_ok-text-in-Some-clause-within
returns-in_ok-text-in-Some-clause-within c =
    let bs = drop c.args.at c.args.text.now in
    let w : value_size c.args.delimiter bs ≡ Some c.in-Some.size = ap (value_size c.args.delimiter) (sym (c.split_at.ensures.back ∙ ap (drop c.args.at) c.as_bytes.ensures.value)) ∙ sym c.in_ok-value_size.ensures ∙ c.in-Some.is in
    reaches c.args.text.now c.args.at c.in-Some.size c.utf8.text c.requires.0 (value_ends c.args.delimiter bs c.in-Some.size w)
