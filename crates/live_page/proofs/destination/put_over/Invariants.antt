use Rattle.std.proofs.Common.{◌≡◌, length}
use Rattle.std.specs.Vec.Iter.{into_iter_items, into_iter_len}
use Rattle.value_core.specs.View.{assigns_view}
use Rattle.live_page.specs.World.{put_over}
use Rattle.live_page.proofs.destination.put_over.Given as goal

-- what is left, put over the entries so far, is the whole
abbrev pub invariant-parameters : goal.invariant-parameters
invariant-parameters l =
    (put_over (assigns_view (into_iter_items l.parameter-iterator)) (assigns_view l.entries) ≡ put_over (assigns_view l.fn.parameters) (assigns_view l.fn.entries))
    × (into_iter_len l.parameter-iterator ≡ length (into_iter_items l.parameter-iterator))
