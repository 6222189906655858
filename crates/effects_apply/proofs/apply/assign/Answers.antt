use Rattle.std.proofs.Common.{rules, ◌≡◌, true, false, is_ok}
use Rattle.value_core.specs.View.{view}
use Rattle.text_core.specs.Keyed.{with_key}
use Rattle.doc_model.specs.Effects.{storable, is_kept_name}
use Rattle.effects_apply.proofs.Steps.{assigns}
use Rattle.effects_apply.proofs.apply.assign.Goals as goal

pub returns-clause-does : goal.returns-clause-does
returns-clause-does c = λ rest streams w h.
    let k = c.args.name.now in
    let is_new : c.assign.new.self.present ≡ with_key k c.args.value c.args.assigns.now.present = search rules in
    let is_free : is_kept_name k ≡ false = search rules in
    let fits : is_ok (storable (view c.args.value)) ≡ true = search rules in
    assigns c.args.assigns.now.present streams w rest h k c.args.value c.assign.new.self.present is_new is_free fits
