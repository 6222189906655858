use Rattle.std.proofs.Common.{◌≡◌, ◌≤◌, map, take}
use Rattle.std.specs.Option.{IfSome}
use Rattle.bundle_files.specs.Held.{AllHold}
use Rattle.bundle_files.proofs.files.read_files.Given as goal

-- the files so far have the first names, and each holds what the folder has of that name
abbrev pub invariant-loop-name : goal.invariant-loop-name
invariant-loop-name g l = record {
  listed : g.F.Folder.listed l.folder ≡ l.names;
  kept : g.F.Folder.files l.folder ≡ g.F.Folder.files l.initial.folder;
  later : g.F.Folder.failed l.initial.folder ≤ g.F.Folder.failed l.folder;
  named : map (λ f. f.0) l.files ≡ take l.name-index l.names;
  held : IfSome (g.F.Folder.files l.initial.folder) (λ fs. AllHold fs l.files);
}
