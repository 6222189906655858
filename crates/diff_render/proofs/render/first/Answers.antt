use Rattle.diff_render.proofs.Pages.{first_given}
use Rattle.diff_render.proofs.render.first.Goals as goal

pub returns : goal.returns
returns c = first_given c.args.compiled.now c.args.assigns.now c.new-variables.result c.node.result c.new-variables.ensures c.places_are_plain.ensures c.node.ensures.node
