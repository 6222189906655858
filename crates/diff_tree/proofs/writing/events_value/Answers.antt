use Rattle.std.proofs.Common.{◌≤◌, ◌∙◌, ap, arith, length, map}
use Rattle.std.proofs.lemmas.List.{take_all}
use Rattle.serde_json.specs.View.{items_of}
use Rattle.diff_tree.specs.Parts.{push_data}
use Rattle.diff_tree.proofs.Written.{events_json-map}
use Rattle.diff_tree.proofs.writing.events_value.Goals as goal

pub returns : goal.returns
returns c =
    let past : length c.args.events.now ≤ c.events.event-index = omega arith in
    ap items_of (c.events.invariant ∙ ap (map push_data) (take_all c.events.event-index c.args.events.now past)) ∙ events_json-map c.args.events.now
