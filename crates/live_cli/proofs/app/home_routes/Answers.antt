use Rattle.std.proofs.Common.{subst}
use Rattle.route_table.specs.Table.{table_of, RefusedAs}
use Rattle.live_cli.proofs.Routes.{never_refused}
use Rattle.live_cli.proofs.app.home_routes.Goals as goal

pub unreachable-requires : goal.unreachable-requires
unreachable-requires c =
    never_refused c.in_ok-paths.paths c.in-Err-BadRoute.field-0-0 c.in_ok-paths.ensures
    (subst (RefusedAs (table_of c.in_ok-paths.paths)) c.in-Err-BadRoute.field-0-is c.in-Err-BadRoute.ensures.refused)
