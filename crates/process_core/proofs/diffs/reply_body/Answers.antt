use Rattle.std.proofs.Common.{map, if◌then◌else◌, sym, ◌∙◌, ap}
use Rattle.diff_tree.specs.Frame as model
use Rattle.diff_tree.specs.Parts.{page_data, pushed_of}
use Rattle.process_core.proofs.Plain.{nothing_is, page_is}
use Rattle.process_core.proofs.diffs.reply_body.Goals as goal

pub returns-then-is_nothing : goal.returns-then-is_nothing
returns-then-is_nothing c d plain is =
    ap (λ b. if b then model.empty else model.changed d (map pushed_of c.args.events))
    (sym (nothing_is d c.args.part c.args.events plain is) ∙ sym c.is_nothing.ensures ∙ c.if-is_nothing.true)

pub returns : goal.returns
returns c d plain is = (
  d,
  map pushed_of c.args.events,
  c.new-diff.ensures.data ∙ ap (λ cs. page_data c.args.part cs c.args.events) c.new.ensures ∙ page_is d c.args.part c.args.events plain is,
  ap (λ b. if b then model.empty else model.changed d (map pushed_of c.args.events))
      (sym (nothing_is d c.args.part c.args.events plain is) ∙ sym c.is_nothing.ensures ∙ c.if-is_nothing.false),
)
