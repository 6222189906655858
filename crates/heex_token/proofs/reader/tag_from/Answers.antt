use Rattle.heex_token.proofs.Tags.{none_left}
use Rattle.heex_token.proofs.reader.tag_from.Goals as goal

pub returns-clause-value : goal.returns-clause-value
returns-clause-value c = none_left c.args.text.now c.args.from c.more.reader c.more.invariant c.more-test.false
