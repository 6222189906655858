use Rattle.std.proofs.Common.{length, ap, ◌∙◌}
use Rattle.slot_compile.specs.Numbering.{all_bodies}
use Rattle.slot_compile.specs.Template.{syntax_of}
use Rattle.slot_compile.proofs.Found.{all_counted}
use Rattle.slot_compile.proofs.compiled.Compiled.count.Goals as goal

pub returns : goal.returns
returns c =
    c.len.ensures ∙ all_counted (syntax_of c.self.inside.source) c.self.inside.table c.self.invariant.0
    ∙ ap (λ s. length (all_bodies (syntax_of s))) c.self.view_is
