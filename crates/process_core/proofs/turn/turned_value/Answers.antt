use Rattle.std.proofs.Common.{None, refl}
use Rattle.value_core.specs.View.{view}
use Rattle.diff_tree.specs.Frame.{faulted}
use Rattle.doc_model.specs.Process.{Page, push_frames}
use Rattle.live_page.specs.World.{world_of}
use Rattle.process_core.specs.Turned.{push_under}
use Rattle.process_core.proofs.Arms.{on_given}
use Rattle.process_core.proofs.Settling.{Begun, push_agrees, turn_answers}
use Rattle.process_core.proofs.turn.turned_value.Goals as goal

pub returns : goal.returns
returns g c =
    let m = g.V.Views.meaning in
    let app = c.args.app.now in
    let begins : Begun c.args.generation c.args.free c.new-rest.result = record {
      generation = c.new-rest.ensures.generation;
      free = c.new-rest.ensures.free;
      sent = c.new-rest.ensures.sent;
      actions = c.new-rest.ensures.actions;
      pushed = c.new-rest.ensures.pushed;
    } in
    let asks = λ (p : Page). (world_of m app).views.handle_info p.view (view c.args.value.now) p.assigns in
    on_given c.pushes.result (λ o sums s w p generation up stands fits.
    turn_answers m app c.args.page.now c.info-turn.new.self c.args.generation c.args.free s w p (push_under c.info-turn.new.self.join_ref c.info-turn.new.self.topic) (push_frames p) (asks p)
    c.new-rest.result c.info-turn.new.rest c.info-turn.result c.in_ok-last.last o generation stands (push_agrees m app c.info-turn.new.self p) fits begins (c.in_ok-last.ensures (faulted None) refl) (λ counts. c.info-turn.ensures w p stands counts) sums) c.pushes.ensures
