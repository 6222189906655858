use Rattle.std.proofs.Common.{◌≡◌, ◌++◌, option_map, true}
use Rattle.serde_json.specs.View.{members_view}
use Rattle.text_core.specs.Keyed.{keys, ascend}
use Rattle.value_core.proofs.FromJson.{member_keys}
use Rattle.bundle_files.specs.StepsView.{events_view}
use Rattle.bundle_files.specs.Manifest.{events_in}
use Rattle.bundle_files.proofs.manifest.events_in.Given as goal

-- what was read so far, and then what the rest gives, is the whole
abbrev pub invariant-loop-name : goal.invariant-loop-name
invariant-loop-name l = record {
  so_far : option_map (λ more. events_view l.events ++ more) (events_in (members_view l.name-iterator)) ≡ events_in (members_view l.members.entries);
  in_order : ascend (keys l.events ++ member_keys l.name-iterator) ≡ true;
}
