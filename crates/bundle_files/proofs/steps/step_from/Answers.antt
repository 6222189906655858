use Rattle.std.proofs.Common.{◌≡◌, sym, ◌∙◌, arith, codes, true, rules}
use Rattle.serde_json.specs.Find.{as_str}
use Rattle.serde_json.specs.View.{view}
use Rattle.bundle_files.specs.StepReading.{is_text}
use Rattle.bundle_files.proofs.Items.{too_few, too_many, when_read}
use Rattle.bundle_files.proofs.steps.step_from.Goals as goal

pub returns-in-Some : goal.returns-in-Some
returns-in-Some c =
    let is : is_text (codes "when") (as_str (view c.word-item-then-items-lt5.result)) ≡ true = search rules in
    when_read c.args.items.now c.args.lists c.word-item-then-items-lt5.result c.text-item-then-items-lt5.result c.in-Some.yes c.in-Some.no c.when_from.result
    (omega arith) c.word-item-then-items-lt5.is c.text-item-then-items-lt5.is is (sym c.last_two.ensures ∙ c.in-Some.is) c.when_from.ensures

pub returns-in_default : goal.returns-in_default
returns-in_default c = search (rules, too_few, too_many)
