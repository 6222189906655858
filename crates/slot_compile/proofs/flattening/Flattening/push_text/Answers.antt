use Rattle.std.proofs.Common.{◌∙◌, ap, ◌++◌, ◌∷◌, [], map}
use Rattle.slot_compile.specs.Gathering.{numbered, stretch}
use Rattle.slot_compile.proofs.Joined.{text_on}
use Rattle.slot_compile.proofs.flattening.Flattening.push_text.Goals as goal

pub returns : goal.returns
returns c =
    let f = c.args.self.now in
    ap (λ t. stretch (f.statics ++ t ∷ []) (map numbered f.dynamics)) c.in_ok-push_str.ensures.ok ∙ text_on f.statics f.last c.args.more.now (map numbered f.dynamics)
