use Rattle.std.proofs.Common.{◌≡◌, drop}
use Rattle.text_core.specs.Outside.{content_of}
use Rattle.bundle_files.proofs.files.content_of.Given as goal

abbrev pub invariant-loop-file : goal.invariant-loop-file
invariant-loop-file l = content_of l.name l.files ≡ content_of l.name (drop l.file-index l.files)
