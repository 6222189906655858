-- What is remembered of a rendering, shaped like what it met.
use Rattle.std.specs.Prelude.{◌≡◌, ℕ, List, [], ◌∷◌, map, Option, Some, None, Ok, true, false}
use Rattle.ast_core.specs.Syntax.{Place, Nodes}
use Rattle.ast_core.specs.Places.{places_in}
use Rattle.doc_model.specs.Environment.{Env, bind}
use Rattle.doc_model.specs.Scopes.{Chosen}
use Rattle.diff_render.specs.declared.choice.Choice.{Choice}
use Rattle.diff_render.specs.declared.print.Print.{Print as Stored}
use Rattle.diff_render.specs.declared.print.Print.TheOpen.{Print-F}
use Rattle.diff_render.specs.declared.print.Print.TheFolds.{fold-Print}
use Rattle.diff_render.specs.Taken.{taken, is_loop, body_of, looped, IsChoice}

mutual
  -- a place that showed a text, a branch with what it has inside, or rows
  pub data Print : Type 0 where
    of_text : Print
    of_branch : Choice → Prints → Print
    of_rows : RowPrints → Print

  -- one for each place of a node
  pub data Prints : Type 0 where
    no_prints : Prints
    print : Print → Prints → Prints

  -- one for each row
  pub data RowPrints : Type 0 where
    no_row_prints : RowPrints
    row_prints : Prints → RowPrints → RowPrints

abbrev pub prints_of : List Print → Prints
prints_of [] = no_prints
prints_of (p ∷ ps) = print p (prints_of ps)

abbrev pub rows_of : List Prints → RowPrints
rows_of [] = no_row_prints
rows_of (r ∷ rs) = row_prints r (rows_of rs)

abbrev pub print_step : Print-F Print → Print
print_step Print-F.Text = of_text
print_step (Print-F.Branch c ps) = of_branch c (prints_of ps)
print_step (Print-F.Rows rs) = of_rows (rows_of (map prints_of rs))

abbrev pub print_view : Stored → Print
print_view = fold-Print Print print_step

abbrev pub prints_view : List Stored → Prints
prints_view ps = prints_of (map print_view ps)

abbrev pub rows_view : List (List Stored) → RowPrints
rows_view rs = rows_of (map prints_view rs)

-- what is remembered of places of a template is what they are in a scope
abbrev mutual
  pub Remembers : Nodes → Env → Print → Place → Type 0
  Remembers t env of_text p = (is_loop p ≡ false) × (taken env p ≡ Ok None)
  Remembers t env (of_branch c ps) p = (d : Chosen) × (taken env p ≡ Ok (Some d)) × IsChoice t c d × RemembersAll t (bind d.variables env) ps (places_in d.nodes)
  Remembers t env (of_rows rs) p = (is_loop p ≡ true) × ((envs : List Env) × (looped env p ≡ Ok envs) × RemembersRows t envs rs (body_of p))

  pub RemembersAll : Nodes → Env → Prints → List Place → Type 0
  RemembersAll t env no_prints [] = Unit {0}
  RemembersAll t env (print q qs) (p ∷ ps) = Remembers t env q p × RemembersAll t env qs ps
  RemembersAll t env _ _ = ⊥

  pub RemembersRows : Nodes → List Env → RowPrints → Nodes → Type 0
  RemembersRows t [] no_row_prints body = Unit {0}
  RemembersRows t (env ∷ envs) (row_prints qs rs) body = RemembersAll t env qs (places_in body) × RemembersRows t envs rs body
  RemembersRows t _ _ body = ⊥
