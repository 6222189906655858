use Rattle.std.proofs.Common.{◌≡◌, Some, sym}
use Rattle.serde_json.specs.View.{view, members_view}
use Rattle.serde_json.specs.Find.{as_object}
use Rattle.bundle_files.proofs.Counts.{count_view}
use Rattle.bundle_files.proofs.manifest.count_of.Goals as goal

pub returns-in-Some : goal.returns-in-Some
returns-in-Some c =
    let e : as_object (view c.args.value.now) ≡ Some (members_view c.in-Some.members.now.entries) = sym c.in-Some.ensures in
    rw (e, count_view c.in-Some.members.now.entries) c.len.ensures.len
