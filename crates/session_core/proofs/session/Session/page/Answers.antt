use Rattle.std.proofs.lemmas.Result.{IfOk-weaker}
use Rattle.session_core.specs.Machine.{standing_of}
use Rattle.session_core.specs.Keeps.{machine_of}
use Rattle.session_core.proofs.session.Session.page.Goals as goal

pub returns : goal.returns
returns g c =
    let told = rw c.deref.ensures at c.page_text.ensures in
    rw (← c.self.view_is) (IfOk-weaker c.page_text.result _ _ (λ text h. h (standing_of g.V.Views.meaning (machine_of c.self.inside)).state c.self.invariant.state) told)
