use Rattle.std.proofs.Common.{◌≤◌, ◌∙◌, ap, arith, length, map}
use Rattle.std.proofs.lemmas.List.{take_all}
use Rattle.serde_json.specs.View.{items_of}
use Rattle.diff_tree.specs.Parts.{insert_data}
use Rattle.diff_tree.proofs.Written.{inserts_data-map}
use Rattle.diff_tree.proofs.writing.inserts_value.Goals as goal

pub returns : goal.returns
returns c =
    let past : length c.args.inserts.now ≤ c.inserts.insert-index = omega arith in
    ap items_of (c.inserts.invariant ∙ ap (map insert_data) (take_all c.inserts.insert-index c.args.inserts.now past)) ∙ inserts_data-map c.args.inserts.now
