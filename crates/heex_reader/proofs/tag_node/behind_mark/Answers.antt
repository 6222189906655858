use Rattle.std.proofs.Common.{lit<}
use Rattle.std.proofs.lemmas.Str.Pattern.{strip_prefix_char}
use Rattle.heex_reader.proofs.Tags.{has_colon}
use Rattle.heex_reader.proofs.tag_node.behind_mark.Goals as goal

pub returns-in-None : goal.returns-in-None
returns-in-None c = λ e.
    c.behind_colon.ensures
    (has_colon c.args.name.now (rw c.in-None.is at (strip_prefix_char 46 c.args.name.now c.strip_prefix.result c.strip_prefix.ensures.cases (lit< tt))) e)
