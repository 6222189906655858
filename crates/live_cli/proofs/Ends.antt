-- How a run ends whose folder is a bundle.
use Rattle.std.proofs.Common.{ℕ, List, Option, ◌⊎◌, inr}
use Rattle.bundle_files.specs.declared.bundle.Bundle.{Bundle}
use Rattle.live_cli.specs.declared.status.Status.{Status}
use Rattle.live_cli.specs.declared.status.Status.TheVariants as status
use Rattle.live_cli.specs.App.{app_of}
use Rattle.live_cli.specs.Offline.{FolderEnds, IsBundleOf, ScriptEnds}

pub of_bundle : (files : Option (List (List ℕ × List ℕ))) (bundle : Bundle) (text before after : Option (List ℕ)) (folder_rose source_rose sink_rose : Type 0) (s : Status)
    → IsBundleOf files bundle → ScriptEnds (app_of bundle) text before after source_rose sink_rose s → FolderEnds files text before after folder_rose source_rose sink_rose s
of_bundle files bundle text before after folder_rose source_rose sink_rose status.Done is ends = (bundle, is, ends)
of_bundle files bundle text before after folder_rose source_rose sink_rose status.WriteFault is ends = (bundle, is, ends)
of_bundle files bundle text before after folder_rose source_rose sink_rose status.BadScript is ends = (bundle, is, ends)
of_bundle files bundle text before after folder_rose source_rose sink_rose status.OutOfMemory is ends = inr (bundle, is, ends)
of_bundle files bundle text before after folder_rose source_rose sink_rose status.ReadFault is ends = (ends.1, inr (bundle, is, ends))
of_bundle files bundle text before after folder_rose source_rose sink_rose status.Usage is ends = ends
of_bundle files bundle text before after folder_rose source_rose sink_rose status.Refused is ends = absurd ends
