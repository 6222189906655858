-- Paths added one by one.
use Rattle.std.proofs.Common.{◌≡◌, ◌<◌, ℕ, ◌+◌, List, length, get_or, drop, Some, Result, Err, sym, ap, ◌∙◌}
use Rattle.text_core.proofs.Keyed.{cons_at}
use Rattle.route_table.specs.declared.table.RouteFault.{RouteFault}
use Rattle.route_table.specs.declared.table.RouteFault.TheVariants.{BadRoute, OutOfMemory}
use Rattle.route_table.specs.Table.{Rows, added, go_on, all_added, RefusedAs, NotAdded}

-- one more path
pub goes_on : (i : ℕ) (paths : List (List ℕ)) (path : List ℕ) (old new : Rows) → i < length paths → path ≡ get_or paths i path → added i path old ≡ Some new
    → all_added (i + 1) (drop (i + 1) paths) new ≡ all_added i (drop i paths) old
goes_on i paths path old new h is e =
    ap (λ o. go_on i o (λ more. all_added (i + 1) (drop (i + 1) paths) more)) (sym e)
    ∙ ap (λ l. all_added i l old) (sym (cons_at paths i path h is))

pub stops : (i : ℕ) (paths : List (List ℕ)) (path : List ℕ) (old : Rows) (fault : RouteFault) (answer : Result Rows ℕ) → i < length paths → path ≡ get_or paths i path
    → all_added i (drop i paths) old ≡ answer → NotAdded i (added i path old) fault → RefusedAs answer fault
stops i paths path old OutOfMemory answer h is e refused = tt
stops i paths path old (BadRoute n) answer h is e refused =
    sym e ∙ ap (λ l. all_added i l old) (cons_at paths i path h is)
    ∙ ap (λ o. go_on i o (λ more. all_added (i + 1) (drop (i + 1) paths) more)) refused.1
    ∙ ap Err (sym refused.0)
