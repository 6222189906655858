use Rattle.std.proofs.Common.{◌≡◌, ◌≤◌, map, fold}
use Rattle.form_urlencoded.specs.Parse.{owned_pairs_left}
use Rattle.value_core.specs.Nesting.{depth_of}
use Rattle.value_core.specs.View.{view}
use Rattle.params_core.specs.Form.{put_pair, decoded, form_value}
use Rattle.params_core.proofs.form.read_form.Given as goal

-- the form so far with the pairs that are left is the whole
abbrev pub invariant-loop-pair : goal.invariant-loop-pair
invariant-loop-pair l = record {
  whole : fold put_pair (view l.form) (map decoded (owned_pairs_left l.pair-iterator)) ≡ form_value l.fn.text;
  nests : depth_of (view l.form) ≤ 100;
}
