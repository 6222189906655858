use Rattle.std.proofs.Common.{◌≡◌, ◌<◌, ◌++◌, length, get_or, Some, None, sym, ap, ◌∙◌, arith, drop, ◌+◌}
use Rattle.std.proofs.lemmas.Str.{IsCharBoundary-start, IsCharBoundary-after_ascii}
use Rattle.text_core.specs.Escape.{entity_of, escape_text}
use Rattle.text_core.proofs.Escapes.{entity_step, plain_step, entity_is_ascii, nothing_yet_from}
use Rattle.text_core.proofs.escape.escaped.Goals as goal

pub loop-i-init : goal.loop-i-init
loop-i-init c = record {
  begun = omega arith;
  boundary = IsCharBoundary-start c.args.text.now c.utf8.text;
  so_far = ap (λ t. t ++ escape_text c.args.text.now) (sym c.new-escaped.ensures);
  plain = nothing_yet_from c.args.text.now 0;
}

pub loop-i-preserved-in_default : goal.loop-i-preserved-in_default
loop-i-preserved-in_default c =
    let whole = c.as_bytes-bytes.ensures.value in
    let small : c.loop-i.i < length c.args.text.now = rw whole at c.loop-i-test.true in
    let none : entity_of (get_or c.args.text.now c.loop-i.i 0) ≡ None = rw whole at (sym c.in_default.ensures) in
    record {
      begun = omega arith;
      boundary = c.loop-i.invariant.boundary;
      so_far = c.loop-i.invariant.so_far;
      plain = plain_step c.args.text.now c.loop-i.start c.loop-i.i c.loop-i.invariant.begun small none c.loop-i.invariant.plain;
    }

pub loop-i-preserved : goal.loop-i-preserved
loop-i-preserved c =
    let whole = c.as_bytes-bytes.ensures.value in
    let text = c.args.text.now in
    let small : c.loop-i.i < length c.args.text.now = rw whole at c.loop-i-test.true in
    let some : entity_of (get_or c.args.text.now c.loop-i.i 0) ≡ Some c.in-Some.entity.now = rw whole at (sym c.in-Some.ensures) in
    let step = entity_step text c.loop-i.escaped c.in-Some.entity.now c.loop-i.start c.loop-i.i c.loop-i.invariant.begun small some c.loop-i.invariant.so_far c.loop-i.invariant.plain in
    let first = c.in_ok-push_str.ensures.ok in
    let second = c.in_ok-push_str-2.ensures.ok in
    record {
      begun = omega arith;
      boundary = IsCharBoundary-after_ascii text c.loop-i.i c.utf8.text small (entity_is_ascii _ _ some);
      so_far = step ∙ ap (λ t. t ++ escape_text (drop (c.loop-i.i + 1) text)) (sym (second ∙ ap (λ t. t ++ c.in-Some.entity.now) (first ∙ ap (λ t. c.loop-i.escaped ++ t) c.range.ensures.value)));
      plain = nothing_yet_from text (c.loop-i.i + 1);
    }
