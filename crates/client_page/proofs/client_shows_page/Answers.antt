use Rattle.std.proofs.Common.{◌<◌, ◌^◌, refl, subst}
use Rattle.slot_compile.specs.Template.{syntax_of}
use Rattle.slot_compile.specs.Numbering.{place_count}
use Rattle.live_page.specs.World.{world_of}
use Rattle.client_page.proofs.Shows.{client_shows_page}
use Rattle.client_page.proofs.client_shows_page.Goals as goal

pub returns : goal.returns
returns g c =
    let few : place_count (syntax_of c.args.app.now.compiled) < 2 ^ 64 = subst (λ n. n < 2 ^ 64) c.places-count.ensures c.places-count.type_inv in
    client_shows_page (world_of g.V.Views.meaning c.args.app.now) (record { plain = λ v. c.places_are_plain.ensures; few = λ v. few; calls_nothing = refl })
