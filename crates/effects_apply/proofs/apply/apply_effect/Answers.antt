use Rattle.std.proofs.Common.{rules, refl, subst, SFits, w64, to_z-of_z}
use Rattle.value_core.specs.View.{view}
use Rattle.view_api.specs.Effect.{stream_insert}
use Rattle.doc_model.specs.Effects.{apply_effect, with_batch, batch_delete, batch_reset}
use Rattle.effects_apply.specs.Applied.{Does}
use Rattle.effects_apply.proofs.apply.apply_effect.Goals as goal

pub returns-in-Assign-clause-does : goal.returns-in-Assign-clause-does
returns-in-Assign-clause-does c = rw c.in-Assign.is (c.assign.ensures.does c.args.rest.now)

pub returns-in-StreamInsert-clause-does : goal.returns-in-StreamInsert-clause-does
returns-in-StreamInsert-clause-does c =
    let asked = c.in-StreamInsert in
    let present = c.args.assigns.now.present in
    let rest = c.args.rest.now in
    let at_fits : SFits w64 asked.at = search rules in
    rw asked.is
    (subst (λ at. Does c.stream_insert.result (apply_effect (stream_insert asked._name asked._dom_id (view asked.item) at asked.limit)) present rest present rest)
    (to_z-of_z at_fits)
    (c.stream_insert.ensures asked._name asked._dom_id rest present))

pub returns-in-StreamDelete-clause-does : goal.returns-in-StreamDelete-clause-does
returns-in-StreamDelete-clause-does c = rw c.in-StreamDelete.is (λ streams w h. (h, (with_batch c.in-StreamDelete._name (batch_delete c.in-StreamDelete._dom_id) streams, refl)))

pub returns-in-StreamReset-clause-does : goal.returns-in-StreamReset-clause-does
returns-in-StreamReset-clause-does c = rw c.in-StreamReset.is (λ streams w h. (h, (with_batch c.in-StreamReset._name (λ b. batch_reset) streams, refl)))

pub returns-in-Publish-clause-does : goal.returns-in-Publish-clause-does
returns-in-Publish-clause-does c = rw c.in-Publish.is (c.publish.ensures.does c.args.assigns.now.present)

pub returns-in-PushEvent-clause-does : goal.returns-in-PushEvent-clause-does
returns-in-PushEvent-clause-does c = rw c.in-PushEvent.is (c.push_event.ensures.does c.args.assigns.now.present)
