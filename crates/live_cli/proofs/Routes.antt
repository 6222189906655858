-- The one route is taken.
use Rattle.std.proofs.Common.{◌≡◌, refl, sym, ap, ◌∙◌, ℕ, List, [], ◌∷◌, Ok, Err}
use Rattle.std.specs.Prelude.{codes}
use Rattle.matchit.specs.Route.{scan}
use Rattle.route_table.specs.Table.{table_of}
use Rattle.live_cli.specs.App.{home_rows}

pub home_is_taken : table_of (codes "/" ∷ []) ≡ Ok home_rows
unfolding scan
home_is_taken = refl

-- so a table of that path is refused nowhere
pub never_refused : (paths : List (List ℕ)) (n : ℕ) → paths ≡ codes "/" ∷ [] → table_of paths ≡ Err n → ⊥
never_refused paths n p e =
    let both : Ok home_rows ≡ Err n = sym home_is_taken ∙ ap table_of (sym p) ∙ e in
    cc
