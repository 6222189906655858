use Rattle.std.proofs.Common.{rules, sym}
use Rattle.serde_json.specs.Errors.{IsMemory}
use Rattle.serde_json.specs.View.{view}
use Rattle.bundle_files.proofs.Manifests.{manifest_is, manifest_none}
use Rattle.bundle_files.proofs.manifest.read_manifest.Goals as goal

pub returns-in-Ok : goal.returns-in-Ok
returns-in-Ok c =
    let e = manifest_is c.args.bytes.now (view c.in-Ok.value) c.in-Ok.ensures.ok.0 c.in-Ok.ensures.ok.1 in
    rw e c.manifest_of.ensures

pub returns-else-is_memory : goal.returns-else-is_memory
returns-else-is_memory c =
    let no : ¬ (IsMemory c.in-Err.e) = search rules in
    sym (manifest_none c.args.bytes.now (c.in-Err.ensures.err no))
