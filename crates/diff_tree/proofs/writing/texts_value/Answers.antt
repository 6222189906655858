use Rattle.std.proofs.Common.{◌≤◌, ◌∙◌, ap, arith, length, map}
use Rattle.std.proofs.lemmas.List.{take_all}
use Rattle.serde_json.specs.Data.{string}
use Rattle.serde_json.specs.View.{items_of}
use Rattle.diff_tree.proofs.Written.{texts_json-map}
use Rattle.diff_tree.proofs.writing.texts_value.Goals as goal

pub returns : goal.returns
returns c =
    let past : length c.args.texts.now ≤ c.texts.text-index = omega arith in
    ap items_of (c.texts.invariant ∙ ap (map string) (take_all c.texts.text-index c.args.texts.now past)) ∙ texts_json-map c.args.texts.now
