use Rattle.std.proofs.Common.{◌<◌, ℕ, sym, subst, arith}
use Rattle.std.proofs.lemmas.Str.{IsCharBoundary-after_ascii}
use Rattle.heex_token.proofs.tag.spread.Goals as goal

pub value-requires : goal.value-requires
value-requires c = IsCharBoundary-after_ascii c.args.text.now c.args.at c.utf8.text c.requires.within (subst (λ (i : ℕ). i < 128) (sym c.requires.brace) (omega arith))
