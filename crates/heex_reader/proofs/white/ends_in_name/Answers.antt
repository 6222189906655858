use Rattle.std.proofs.Common.{sym, ◌∙◌, arith}
use Rattle.expr_token.specs.Tokens.{in_name}
use Rattle.heex_reader.proofs.Whites.{last_at}
use Rattle.heex_reader.proofs.white.ends_in_name.Goals as goal

pub returns : goal.returns
returns c = c.in_name.ensures ∙ sym (last_at in_name c.args.bytes.now (omega arith))
