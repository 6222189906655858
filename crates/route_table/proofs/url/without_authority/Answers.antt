use Rattle.std.proofs.Common.{◌≡◌, ◌<◌, ◌==◌, lit<, sym, ap, ◌∙◌, Some, None, drop, get_or, false}
use Rattle.route_table.specs.Url as spec
use Rattle.route_table.proofs.Urls.{scheme_found, scheme_none, authority_cut}
use Rattle.route_table.proofs.url.without_authority.Goals as goal

pub returns-in-Some : goal.returns-in-Some
returns-in-Some c =
    let text = c.args.text.now in
    let first : c.starts_with.result ≡ (get_or text 0 0 == 47) = c.starts_with.ensures.byte (lit< tt) (lit< tt) (λ w o h. h) in
    let cut = rw c.in-Some.is at c.split_once.ensures.cases in
    c.from_slash.ensures ∙ ap spec.from_slash cut.4
    ∙ authority_cut text (Some (drop cut.1 text)) (sym first ∙ c.if-starts_with.false) (scheme_found text cut.0 cut.2.0 (drop cut.1 text) cut.2.1.split)

pub returns-in-None : goal.returns-in-None
returns-in-None c =
    let text = c.args.text.now in
    let first : c.starts_with.result ≡ (get_or text 0 0 == 47) = c.starts_with.ensures.byte (lit< tt) (lit< tt) (λ w o h. h) in
    let cut = rw c.in-None.is at c.split_once.ensures.cases in
    authority_cut text None (sym first ∙ c.if-starts_with.false) (scheme_none text cut)
