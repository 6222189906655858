use Rattle.std.proofs.Common.{◌≡◌, ℕ, List, drop, ap, ◌∙◌, arith}
use Rattle.std.specs.List.{prefix_len}
use Rattle.std.proofs.lemmas.List.Sums.{prefix_len-le-length}
use Rattle.expr_token.specs.Tokens.{in_name}
use Rattle.heex_token.specs.Tokens.{is_white}
use Rattle.heex_reader.proofs.Whites.{word_cut}
use Rattle.heex_reader.proofs.head.head_sign.Goals as goal

pub split_at-requires : goal.split_at-requires
split_at-requires c = omega (arith, c.white_before-white.ensures, prefix_len-le-length is_white c.as_bytes-bytes.result.now)

pub split_at-requires-2 : goal.split_at-requires-2
split_at-requires-2 c = omega (arith, c.name_length-length.ensures, prefix_len-le-length in_name c.split_at.result.1.now)

pub behind-requires : goal.behind-requires
behind-requires c = λ _.
    let text : List ℕ = c.args.text.now in
    let white : ℕ = c.white_before-white.result in
    let size : ℕ = c.name_length-length.result in
    let first : white ≡ prefix_len is_white text = c.white_before-white.ensures ∙ ap (λ (s : List ℕ). prefix_len is_white s) c.as_bytes-bytes.ensures.value in
    let back : c.split_at.result.1.now ≡ drop white text = c.split_at.ensures.back ∙ ap (λ (s : List ℕ). drop white s) c.as_bytes-bytes.ensures.value in
    let second : size ≡ prefix_len in_name (drop white text) = c.name_length-length.ensures ∙ ap (λ (s : List ℕ). prefix_len in_name s) back in
    word_cut text white size c.utf8.text first second
