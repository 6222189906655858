use Rattle.std.proofs.Common.{◌≡◌, ◌+◌, ◌≤◌, ◌++◌, map, length}
use Rattle.std.specs.Vec.Iter.{into_iter_items, into_iter_len}
use Rattle.std.specs.VecDeque.{deque_len, deque_capacity}
use Rattle.session_core.specs.Written.{sent_under}
use Rattle.session_core.proofs.written.queue_sent.Given as goal

-- what waits and what is left make the whole, and have room
abbrev pub invariant-loop-value : goal.invariant-loop-value
invariant-loop-value l =
    (l.inbox.items ++ map (sent_under l.fn.generation) (into_iter_items l.value-iterator) ≡ l.fn.inbox.items ++ map (sent_under l.fn.generation) l.fn.sent)
    × (into_iter_len l.value-iterator ≡ length (into_iter_items l.value-iterator))
    × (deque_len l.inbox + length (into_iter_items l.value-iterator) ≡ deque_len l.fn.inbox + length l.fn.sent)
    × (deque_len l.fn.inbox + length l.fn.sent ≤ deque_capacity l.inbox)
