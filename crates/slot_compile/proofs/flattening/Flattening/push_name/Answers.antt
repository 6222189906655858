use Rattle.std.proofs.Common.{◌∷◌, codes, refl}
use Rattle.slot_compile.specs.Gathering.{gathered, text}
use Rattle.slot_compile.proofs.Joined.{last_on}
use Rattle.slot_compile.proofs.flattening.Flattening.push_name.Goals as goal

pub returns : goal.returns
returns c =
    last_on c.push_text-2.result (text (codes " ")) (text c.args.name.now) (text (32 ∷ c.args.name.now)) (gathered c.args.self.now) (gathered c.push_text.new.self) (gathered c.push_text-2.new.self)
    c.in_ok-push_text.ensures refl c.push_text-2.ensures
