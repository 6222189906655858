use Rattle.std.proofs.Common.{◌∙◌}
use Rattle.slot_compile.specs.Gathering.{entries}
use Rattle.slot_compile.specs.Template.{syntax_of}
use Rattle.slot_compile.proofs.Tabled.{places_counted}
use Rattle.slot_compile.proofs.compiled.ended.Goals as goal

pub invariant_of-result : goal.invariant_of-result
invariant_of-result c = (
  c.requires.0,
  c.in_ok-nothing.ensures ∙ c.new.ensures,
  c.in_ok-places.ensures ∙ places_counted (syntax_of c.args.source) (entries c.args.table) c.requires.0,
  c.requires.1,
)
