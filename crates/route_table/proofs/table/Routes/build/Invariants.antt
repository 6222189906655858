use Rattle.std.proofs.Common.{◌≡◌, drop}
use Rattle.route_table.specs.Table.{all_added, table_of}
use Rattle.route_table.proofs.table.Routes.build.Given as goal

-- the rows so far with the paths that are left are the whole
abbrev pub invariant-loop-i : goal.invariant-loop-i
invariant-loop-i l = all_added l.i (drop l.i l.path-items) l.router ≡ table_of l.paths
