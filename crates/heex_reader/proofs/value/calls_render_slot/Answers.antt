use Rattle.std.proofs.Common.{arith}
use Rattle.std.proofs.lemmas.List.Sums.{prefix_len-le-length}
use Rattle.heex_token.specs.Tokens.{is_white}
use Rattle.heex_reader.proofs.value.calls_render_slot.Goals as goal

pub split_at-requires : goal.split_at-requires
split_at-requires c = omega (arith, prefix_len-le-length is_white c.as_bytes-bytes.result.now)
