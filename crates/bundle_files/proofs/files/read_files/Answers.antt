use Rattle.std.proofs.Common.{◌∙◌, sym, arith}
use Rattle.bundle_files.proofs.Held.{named, holding}
use Rattle.bundle_files.proofs.files.read_files.Goals as goal

pub loop-name-preserved : goal.loop-name-preserved
loop-name-preserved g c = record {
  listed = c.in_ok-content.ensures.listed ∙ c.loop-name.invariant.listed;
  kept = c.in_ok-content.ensures.kept ∙ c.loop-name.invariant.kept;
  later = omega (arith, c.loop-name.invariant.later, c.in_ok-content.ensures.cause);
  named = named c.args.names.now c.loop-name.files c.push.new.self c.loop-name.name-index c.name-item.result c.in_ok-copy.field-0 c.in_ok-content.content
      c.loop-name.invariant.named c.loop-name-test.true (sym c.name-item.is) c.in_ok-copy.ensures c.in_ok-push.ensures.ok;
  held = holding (g.F.Folder.files c.args.folder.now) (g.F.Folder.files c.loop-name.folder) c.loop-name.files c.push.new.self c.as_str.result.now c.in_ok-copy.field-0 c.in_ok-content.content
      c.loop-name.invariant.kept c.loop-name.invariant.held c.in_ok-content.ensures.content (c.in_ok-copy.ensures ∙ sym c.as_str.ensures) c.in_ok-push.ensures.ok;
}
