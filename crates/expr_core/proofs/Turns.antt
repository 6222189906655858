-- Where the tokens end.
use Rattle.std.proofs.Common.{◌≡◌, None, refl}
use Rattle.expr_core.specs.declared.value.Value.{Value}
use Rattle.expr_core.specs.declared.frame.Mode.{Mode}
use Rattle.expr_core.specs.declared.frame.Mode.TheVariants as mode
use Rattle.expr_core.specs.Machine as machine
use Rattle.expr_core.specs.Seen.{state_of}

pub unfinished : (m : Mode) (fs : machine.Frames) → ((v : Value) → m ≡ mode.Have v → ⊥) → machine.meant_by (machine.finished (state_of m fs)) ≡ None
unfinished mode.Want fs n = refl
unfinished (mode.Have v) fs n = absurd (n v refl)
unfinished mode.WantAssign fs n = refl
unfinished (mode.WantField v) fs n = refl
unfinished (mode.WantCall v) fs n = refl
unfinished (mode.WantArguments o) fs n = refl
unfinished mode.WantIf fs n = refl
unfinished (mode.WantDo s t) fs n = refl
unfinished (mode.WantElse s t y) fs n = refl
unfinished (mode.WantPart ps u) fs n = refl
unfinished (mode.WantKey ps u) fs n = refl
unfinished (mode.WantColon ps u k) fs n = refl
unfinished (mode.WantQuote ps u k) fs n = refl
unfinished (mode.WantArrow ps u k) fs n = refl
