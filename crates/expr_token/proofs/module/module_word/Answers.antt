use Rattle.std.proofs.Common.{◌≡◌, ◌+◌, length, drop, take, ℕ, List, true, false, codes, arith, sym, ap, ◌∙◌}
use Rattle.expr_token.specs.declared.token.Token.TheVariants.{Function}
use Rattle.expr_token.specs.Tokens.{begins, begins_name, first_is, is_reserved, module_of, name_of, call_mark}
use Rattle.expr_token.proofs.Lexes.{cut_eq}
use Rattle.expr_token.proofs.Fronts.{front_module, front_name, front_le, front_first, front_from, behind_module, behind_dot, behind_called, full_of, module_front, module_length, module_called}
use Rattle.expr_token.proofs.module.module_word.Goals as goal

-- What the steps of the code have found, in the words of the definition.
record Found (bs rest behind called name after : List ℕ) (size len mark : ℕ) : Type 0 where
  front : begins (codes ".") (behind_module bs) ≡ true
  named : first_is begins_name (behind_dot bs) ≡ true
  free : is_reserved (name_of (behind_dot bs)) ≡ false
  full : size + (1 + (len + mark)) ≡ length (full_of bs)

found : (bs rest behind called name after : List ℕ) (size len mark : ℕ) → rest ≡ bs → size ≡ length (module_of rest) → behind ≡ drop size rest → begins (codes ".") behind ≡ true → called ≡ drop 1 behind → first_is begins_name called ≡ true
    → len ≡ length (name_of called) → name ≡ take len called → after ≡ drop len called → is_reserved name ≡ false → mark ≡ length (call_mark after) → Found bs rest behind called name after size len mark
found bs rest behind called name after size len mark r s b h d k n m a l e =
    let s' : size ≡ length (module_of bs) = s ∙ ap (λ x. length (module_of x)) r in
    let b' : behind ≡ behind_module bs = b ∙ ap (λ x. drop size x) r ∙ ap (λ i. drop i bs) s' in
    let d' : called ≡ behind_dot bs = d ∙ ap (drop 1) b' in
    let n' : len ≡ length (name_of (behind_dot bs)) = n ∙ ap (λ x. length (name_of x)) d' in
    let m' : name ≡ name_of (behind_dot bs) = m ∙ ap (take len) d' ∙ front_first (behind_dot bs) (name_of (behind_dot bs)) len (front_name (behind_dot bs)) n' in
    let a' : after ≡ behind_called bs = a ∙ ap (λ x. drop len x) d' ∙ ap (λ i. drop i (behind_dot bs)) n' in
    let e' : mark ≡ length (call_mark (behind_called bs)) = e ∙ ap (λ x. length (call_mark x)) a' in
    record {
      front = sym (ap (begins (codes ".")) b') ∙ h;
      named = sym (ap (first_is begins_name) d') ∙ k;
      free = sym (ap is_reserved m') ∙ l;
      full = omega (arith, s', n', e', module_length bs);
    }

pub split_at-requires-2 : goal.split_at-requires-2
split_at-requires-2 c = omega (arith, c.module_length-size.ensures, front_le c.split_at.result.1.now (module_of c.split_at.result.1.now) (front_module c.split_at.result.1.now))

pub copy_ascii-requires-clause-ascii : goal.copy_ascii-requires-clause-ascii
copy_ascii-requires-clause-ascii c =
    let bs = drop c.args.at c.args.text.now in
    let f = found (drop c.args.at c.args.text.now) c.split_at.result.1.now c.split_at-2.result.1.now c.split_at-3.result.1.now c.split_at-4.result.0.now c.split_at-4.result.1.now c.module_length-size.result c.name_length-length.result c.call_mark-mark.result
    (c.split_at.ensures.back ∙ ap (drop c.args.at) c.as_bytes.ensures.value) c.module_length-size.ensures c.split_at-2.ensures.back (sym c.begins_with.ensures ∙ c.if-not-begins_with.false) c.split_at-3.ensures.back
    (sym c.begins_with_name.ensures ∙ c.if-not-begins_with_name.false) c.name_length-length.ensures c.split_at-4.ensures.front c.split_at-4.ensures.back (sym c.is_reserved.ensures ∙ c.if-is_reserved.false) c.call_mark-mark.ensures in
    front_from bs (full_of bs) (c.module_length-size.result + (1 + (c.name_length-length.result + c.call_mark-mark.result))) (module_front bs f.front) f.full

pub returns : goal.returns
returns c =
    let bs = drop c.args.at c.args.text.now in
    let n = c.module_length-size.result + (1 + (c.name_length-length.result + c.call_mark-mark.result)) in
    let f = found (drop c.args.at c.args.text.now) c.split_at.result.1.now c.split_at-2.result.1.now c.split_at-3.result.1.now c.split_at-4.result.0.now c.split_at-4.result.1.now c.module_length-size.result c.name_length-length.result c.call_mark-mark.result
    (c.split_at.ensures.back ∙ ap (drop c.args.at) c.as_bytes.ensures.value) c.module_length-size.ensures c.split_at-2.ensures.back (sym c.begins_with.ensures ∙ c.if-not-begins_with.false) c.split_at-3.ensures.back
    (sym c.begins_with_name.ensures ∙ c.if-not-begins_with_name.false) c.name_length-length.ensures c.split_at-4.ensures.front c.split_at-4.ensures.back (sym c.is_reserved.ensures ∙ c.if-is_reserved.false) c.call_mark-mark.ensures in
    let name : c.in_ok-name.name ≡ full_of bs = c.in_ok-name.ensures ∙ front_first bs (full_of bs) n (module_front bs f.front) f.full in
    c.sized-2.ensures ∙ cut_eq (Function c.args.at c.in_ok-name.name) (Function c.args.at (full_of bs)) n (length (full_of bs)) (ap (Function c.args.at) name) f.full ∙ sym (module_called c.args.at bs f.front f.named f.free)
