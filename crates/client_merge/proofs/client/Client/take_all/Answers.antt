use Rattle.std.proofs.Common.{rules, ◌≡◌, ◌≤◌, length, None, ap, ◌∙◌, arith, sym, subst}
use Rattle.client_merge.specs.Frames.{client_reads, ReadsFront}
use Rattle.client_merge.specs.Page.{tree_held}
use Rattle.client_merge.proofs.InOrder.{stops, front, all_read, on_err}
use Rattle.client_merge.proofs.client.Client.take_all.Goals as goal

pub returns-in_err-take-clause-bad : goal.returns-in_err-take-clause-bad
returns-in_err-take-clause-bad c bad =
    let now = tree_held c.frames.self in
    let none : client_reads now c.as_slice.result.now ≡ None = c.in_err-take.ensures.bad (search rules) in
    stops (tree_held c.args.self.now) now c.args.frames.now c.frames.frame-index c.frame-item.result c.frames-test.true c.frame-item.is c.frames.invariant (ap (client_reads now) (sym c.as_slice.ensures) ∙ none)

pub returns-in_err-take-clause-front : goal.returns-in_err-take-clause-front
returns-in_err-take-clause-front c =
    on_err (ReadsFront (tree_held c.args.self.now) c.args.frames.now (tree_held c.take.new.self)) c.from_residual.result
    (subst (λ s. ReadsFront (tree_held c.args.self.now) c.args.frames.now (tree_held s)) (sym c.in_err-take.ensures.kept)
    (front (tree_held c.args.self.now) (tree_held c.frames.self) c.args.frames.now c.frames.frame-index c.frames.invariant))

pub returns-clause-ok : goal.returns-clause-ok
returns-clause-ok c =
    let end : length c.args.frames.now ≤ c.frames.frame-index = omega (arith, c.frames-test.false) in
    all_read (tree_held c.args.self.now) (tree_held c.frames.self) c.args.frames.now c.frames.frame-index end c.frames.invariant
