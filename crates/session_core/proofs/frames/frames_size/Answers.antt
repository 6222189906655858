use Rattle.std.proofs.Common.{◌≡◌, [], drop, arith, ap}
use Rattle.std.proofs.lemmas.List.{drop_all}
use Rattle.doc_model.specs.Journal.{total_length}
use Rattle.session_core.proofs.frames.frames_size.Goals as goal

pub returns : goal.returns
returns c =
    let none : drop c.loop-frame.frame-index c.args.frames.now ≡ [] = drop_all c.loop-frame.frame-index c.args.frames.now (omega arith) in
    let nothing : total_length (drop c.loop-frame.frame-index c.args.frames.now) ≡ 0 = ap total_length none in
    omega (arith, nothing, c.loop-frame.invariant)
