use Rattle.std.proofs.Common.{rules, ◌≡◌, None}
use Rattle.text_core.specs.Keyed.{lookup}
use Rattle.assigns_track.specs.Track.{present_of, settled_of, differ}
use Rattle.assigns_track.proofs.Tracks.{unnoted, tells_equal}
use Rattle.assigns_track.proofs.tracked.Tracked.changed.Goals as goal

pub returns-in-None-clause-differ : goal.returns-in-None-clause-differ
returns-in-None-clause-differ c =
    let none : lookup c.args.name.now c.args.self.now.before ≡ None = search rules in
    unnoted c.args.self.now c.args.name.now none

pub returns-in-Some-clause-unchanged : goal.returns-in-Some-clause-unchanged
returns-in-Some-clause-unchanged c =
    let is : c.differs.result ≡ differ (present_of c.args.self.now c.args.name.now) (settled_of c.args.self.now c.args.name.now) = search rules in
    tells_equal c.differs.result _ _ is
