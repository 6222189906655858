use Rattle.std.proofs.Common.{◌≡◌, ◌∙◌, sym, ap}
use Rattle.value_core.specs.Value.{same}
use Rattle.value_core.proofs.Sames.{same_sound, same_refl}
use Rattle.value_core.proofs.laws.same_is_equality.Goals as goal

pub returns : goal.returns
returns c = λ a b. (λ h. same_sound a b h, λ e. sym (ap (λ v. same a v) e) ∙ same_refl a)
