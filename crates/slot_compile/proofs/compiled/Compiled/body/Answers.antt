use Rattle.std.proofs.Common.{◌<◌, ◌≤◌, List, length, get_or, ap, ◌∙◌, subst}
use Rattle.slot_compile.specs.Numbering.{node_at}
use Rattle.slot_compile.specs.Tables.{IsBodyOf}
use Rattle.slot_compile.specs.Template.{Source, syntax_of}
use Rattle.slot_compile.specs.declared.flattening.Body.{Body}
use Rattle.slot_compile.proofs.Found.{found, not_found}
use Rattle.slot_compile.proofs.compiled.Compiled.body.Goals as goal

pub returns-then-number-bodies : goal.returns-then-number-bodies
returns-then-number-bodies c =
    let number = c.args.number in
    let body = c.index-bodies-number.result in
    subst (λ (s : Source). IsBodyOf (syntax_of s) (node_at (syntax_of s) number) body) c.self.view_is
    (found (syntax_of c.self.inside.source) c.self.inside.table body number c.self.invariant.0
    (subst (λ (bs : List Body). number < length bs) c.as_slice-bodies.ensures c.if-number-bodies.true)
    (c.index-bodies-number.is ∙ ap (λ bs. get_or bs number body) c.as_slice-bodies.ensures))

pub returns-else-number-bodies : goal.returns-else-number-bodies
returns-else-number-bodies c =
    let number = c.args.number in
    subst (λ (s : Source). IsBodyOf (syntax_of s) (node_at (syntax_of s) number) c.self.inside.nothing) c.self.view_is
    (not_found (syntax_of c.self.inside.source) c.self.inside.table c.self.inside.nothing number c.self.invariant.0
    (subst (λ (bs : List Body). length bs ≤ number) c.as_slice-bodies.ensures c.if-number-bodies.false)
    c.self.invariant.1)
