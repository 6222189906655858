use Rattle.std.proofs.Common.{◌≡◌, [], ◌∷◌, ◌++◌, ◌∙◌, ap, sym}
use Rattle.script_core.specs.Script.{declared}
use Rattle.script_core.proofs.Lines.{declared-append}
use Rattle.script_core.proofs.read.Reader.push.Goals as goal

pub invariant_of-result : goal.invariant_of-result
invariant_of-result c =
    let d : declared (c.self.inside.lines ++ c.args.line ∷ []) ≡ declared c.self.inside.lines ++ declared (c.args.line ∷ []) = declared-append c.self.inside.lines (c.args.line ∷ []) in
    c.in_ok-declared.ensures ∙ ap (λ ns. ns ++ declared (c.args.line ∷ [])) c.self.invariant ∙ sym d ∙ sym (ap declared c.in_ok-push.ensures.ok)
