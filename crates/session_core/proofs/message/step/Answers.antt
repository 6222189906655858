use Rattle.session_core.proofs.message.step.Goals as goal

pub returns-in-Sent-clause-ok : goal.returns-in-Sent-clause-ok
returns-in-Sent-clause-ok g c = rw c.in-Sent.is c.told.ensures.ok
