use Rattle.std.proofs.Common.{◌++◌, ◌∷◌, [], ap, ◌∙◌, map}
use Rattle.std.proofs.lemmas.List.{map-append}
use Rattle.slot_compile.specs.Gathering.{numbered, stretch}
use Rattle.slot_compile.proofs.Joined.{hole_on}
use Rattle.slot_compile.proofs.flattening.Flattening.push_dynamic.Goals as goal

pub returns : goal.returns
returns c =
    let f = c.args.self.now in
    ap (λ ss. stretch (ss ++ c.replace-last.new.dest ∷ []) (map numbered c.push-2.new.self)) (c.in_ok-push.ensures.ok ∙ ap (λ t. f.statics ++ t ∷ []) c.replace-last.ensures.value)
    ∙ ap (λ t. stretch ((f.statics ++ f.last ∷ []) ++ t ∷ []) (map numbered c.push-2.new.self)) (c.replace-last.ensures.after ∙ c.new.ensures)
    ∙ ap (stretch ((f.statics ++ f.last ∷ []) ++ [] ∷ [])) (ap (map numbered) c.in_ok-push-2.ensures.ok ∙ map-append numbered f.dynamics (c.args.dynamic ∷ []))
    ∙ hole_on f.statics f.last (map numbered f.dynamics) (numbered c.args.dynamic)
