use Rattle.view_script.proofs.Scripts.{gave}
use Rattle.view_script.proofs.script.give.Goals as goal

pub returns : goal.returns
returns c before d s =
    gave c.insert.result before c.args.doing.now c.insert.new.self c.push.new.self c.args.name.now c.in_ok-copy.field-0 c.in_ok-copy-2.field-0 c.args.value c.in_ok-kept.kept d
    c.in_ok-kept.ensures c.in_ok-copy.ensures c.in_ok-copy-2.ensures c.insert.ensures.ok c.in_ok-push.ensures.ok s
