use Rattle.bundle_spelling.proofs.Spelled.{bundles_are_spelled}
use Rattle.bundle_spelling.proofs.laws.bundles_are_spelled.Goals as goal

pub returns : goal.returns
returns c = bundles_are_spelled
