use Rattle.std.proofs.Common.{option_map, refl, sym, ap, ◌∙◌, subst}
use Rattle.value_core.specs.View.{assigns_view, view}
use Rattle.value_core.specs.declared.raise.Raise.TheVariants.{NoClause}
use Rattle.diff_render.specs.Taken.{IsFirst}
use Rattle.diff_render.proofs.Firsts.{as_chosen, chosen_first, chosen_none}
use Rattle.diff_render.proofs.choice.first_clause.Goals as goal

pub returns-in_default : goal.returns-in_default
returns-in_default c template =
    let v = view c.args.value in
    let bs = c.args.clauses.now in
    (NoClause, chosen_none template v bs (subst (IsFirst v bs) c.in_default.is c.first_match.ensures))

pub returns-in-Some-2 : goal.returns-in-Some-2
returns-in-Some-2 c template =
    let v = view c.args.value in
    let bs = c.args.clauses.now in
    let i = c.in-Some.index in
    let bound = assigns_view c.in-Some-2.bound in
    let first = subst (IsFirst v bs) c.in-Some.is c.first_match.ensures in (
      as_chosen template i c.index-clauses-index.result bound,
      chosen_first template v bs i c.index-clauses-index.result bound first.0 c.index-clauses-index.is first.1 (sym (ap (option_map assigns_view) c.in-Some-2.is) ∙ c.in_ok-bound.ensures),
      record { index = refl; bound = refl; body = refl },
    )
