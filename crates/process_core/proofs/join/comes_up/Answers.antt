use Rattle.std.proofs.Common.{map, refl, ap, ◌∙◌}
use Rattle.diff_tree.specs.Frame.{rendered}
use Rattle.diff_tree.specs.Parts.{page_data, pushed_of}
use Rattle.process_core.proofs.Came.{up_with}
use Rattle.process_core.proofs.Plain.{tree_is}
use Rattle.process_core.proofs.join.comes_up.Goals as goal

pub returns-clause-ok : goal.returns-clause-ok
returns-clause-ok c = record {
  kept_is = ap (up_with c.args.generation c.args.joined.page) c.in_ok-last_words.ensures;
  frames = λ p h. c.in_ok-frames.ensures (rendered p (map pushed_of c.args.joined.rest.pushed)) (p, map pushed_of c.args.joined.rest.pushed, c.new-whole.ensures.data ∙ ap (λ cs. page_data c.args.joined.tree cs c.args.joined.rest.pushed) c.new.ensures ∙ tree_is p c.args.joined.tree c.args.joined.rest.pushed h, refl);
  sent = refl;
  actions = refl;
  crashed = refl;
}
