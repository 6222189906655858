use Rattle.std.proofs.Common.{None, refl}
use Rattle.value_core.specs.View.{view}
use Rattle.diff_tree.specs.Frame.{faulted}
use Rattle.wire_v2.specs.View.{head_view}
use Rattle.doc_model.specs.Process.{Page, reply_diff}
use Rattle.live_page.specs.World.{world_of}
use Rattle.process_core.proofs.Arms.{on_given}
use Rattle.process_core.proofs.Settling.{Begun, turn_answers}
use Rattle.process_core.proofs.turn.turned_patch.Goals as goal

pub returns : goal.returns
returns g c =
    let m = g.V.Views.meaning in
    let app = c.args.app.now in
    let begins : Begun c.args.generation c.args.free c.new-rest.result = record {
      generation = c.new-rest.ensures.generation;
      free = c.new-rest.ensures.free;
      sent = c.new-rest.ensures.sent;
      actions = c.new-rest.ensures.actions;
      pushed = c.new-rest.ensures.pushed;
    } in
    let asks = λ (p : Page). (world_of m app).views.handle_params p.view (view c.args.params.now) p.assigns in
    on_given c.replies.result (λ o sums s w p generation up stands fits.
    turn_answers m app c.args.page.now c.patch-turn.new.self c.args.generation c.args.free s w p (reply_diff (head_view c.args.head.now)) (reply_diff (head_view c.args.head.now)) (asks p)
    c.new-rest.result c.patch-turn.new.rest c.patch-turn.result c.in_ok-last.last o generation stands (λ q k j t. refl) fits begins (c.in_ok-last.ensures (faulted None) refl) (λ counts. c.patch-turn.ensures w p stands counts) sums) c.replies.ensures
