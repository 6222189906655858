-- What the program's manifest stands for.
use Rattle.bundle_files.specs.Manifest as model
use Rattle.bundle_files.specs.StepsView.{steps_view, events_view}
use Rattle.bundle_files.specs.declared.manifest.Manifest.{Manifest}

abbrev pub manifest_view : Manifest → model.Manifest
manifest_view m = record { template = m.template; mount = steps_view m.mount; events = events_view m.events }
