use Rattle.std.proofs.Common.{◌≡◌}
use Rattle.serde_json.specs.View.{members_view}
use Rattle.wire_v2.specs.FrameGrammar.{all_whole}
use Rattle.wire_v2.proofs.wholes.all_whole.Given as goal

abbrev pub invariant-members : goal.invariant-members
invariant-members l = all_whole (members_view l.key-iterator) ≡ all_whole (members_view l.members.entries)
