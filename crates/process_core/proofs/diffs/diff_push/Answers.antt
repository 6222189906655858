use Rattle.std.proofs.Common.{[], ◌∷◌, map, None, if◌then◌else◌, sym, ◌∙◌, ap, refl}
use Rattle.diff_tree.specs.Frame as model
use Rattle.diff_tree.specs.Parts.{page_data, pushed_of}
use Rattle.doc_model.specs.Process.{frame_of}
use Rattle.doc_model.specs.Journal.{spelled}
use Rattle.process_core.proofs.Arms.{on_given}
use Rattle.process_core.proofs.Plain.{nothing_is, page_is}
use Rattle.process_core.proofs.diffs.diff_push.Goals as goal

pub returns-then-is_nothing : goal.returns-then-is_nothing
returns-then-is_nothing c d plain is =
    let page = c.args.page.now in
    c.new.ensures
    ∙ sym (ap (λ b. spelled (if b then [] else frame_of page.join_ref None page.topic (model.push d (map pushed_of c.args.events)) ∷ []))
    (sym (nothing_is d c.args.part c.args.events plain is) ∙ sym c.is_nothing.ensures ∙ c.if-is_nothing.true))

pub returns : goal.returns
returns c =
    let page = c.args.page.now in
    on_given c.push.result (λ fs spells d plain is.
    spells (model.push d (map pushed_of c.args.events)) (d, map pushed_of c.args.events, c.new-diff.ensures.data ∙ ap (λ cs. page_data c.args.part cs c.args.events) c.new-2.ensures ∙ page_is d c.args.part c.args.events plain is, refl)
    ∙ sym (ap (λ b. spelled (if b then [] else frame_of page.join_ref None page.topic (model.push d (map pushed_of c.args.events)) ∷ []))
    (sym (nothing_is d c.args.part c.args.events plain is) ∙ sym c.is_nothing.ensures ∙ c.if-is_nothing.false))) c.push.ensures
