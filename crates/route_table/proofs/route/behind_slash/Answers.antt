use Rattle.std.proofs.Common.{◌≡◌, ◌<◌, lit<, subst, List, ℕ, Option, IfOk}
use Rattle.std.proofs.lemmas.Str.Pattern.{strip_prefix_char}
use Rattle.route_table.proofs.Segments.{no_parameter}
use Rattle.route_table.proofs.route.behind_slash.Goals as goal

pub returns-in-None : goal.returns-in-None
returns-in-None c =
    let segment = c.args.segment.now in
    subst (λ (o : Option (List ℕ)). IfOk c.plain.result (λ text. text ≡ o))
    (no_parameter segment (rw c.in-None.is at (strip_prefix_char 58 segment c.strip_prefix.result c.strip_prefix.ensures.cases (lit< tt))))
    c.plain.ensures
