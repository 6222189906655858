use Rattle.std.proofs.Common.{◌<◌, lit<, sym, ◌∙◌}
use Rattle.std.proofs.Math.Seq.{drop-length}
use Rattle.std.proofs.lemmas.Str.Pattern.{find_char}
use Rattle.route_table.proofs.Urls.{slash_at, slash_none}
use Rattle.route_table.proofs.url.from_slash.Goals as goal

pub returns-in-Some : goal.returns-in-Some
returns-in-Some c =
    let found = rw c.in-Some.is at (find_char 47 c.args.text.now c.find.result c.find.ensures.cases (lit< tt)) in
    c.split_at.ensures.back ∙ slash_at c.args.text.now c.in-Some.at found.0 found.1 found.2

pub returns-in-None : goal.returns-in-None
returns-in-None c =
    let none = rw c.in-None.is at (find_char 47 c.args.text.now c.find.result c.find.ensures.cases (lit< tt)) in
    sym (drop-length c.args.text.now) ∙ slash_none c.args.text.now none
