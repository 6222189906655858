use Rattle.std.proofs.Common.{sym, ◌∙◌}
use Rattle.client_merge.proofs.Eventless.{places_without, rows_without}
use Rattle.client_merge.proofs.frames.without_events.Goals as goal

pub returns-in-Places : goal.returns-in-Places
returns-in-Places c =
    c.new.ensures.data
    ∙ places_without c.args.root c.into_parts-statics.result.0 c.in-Places.places c.without_place.result c.into_parts-statics.ensures.statics
    (sym c.in-Places.is ∙ c.into_parts-statics.ensures.body) c.without_place.ensures.ascending c.without_place.ensures.value

pub returns-in-List : goal.returns-in-List
returns-in-List c =
    c.list.ensures.data
    ∙ rows_without c.args.root c.into_parts-statics.result.0 c.in-List.rows c.in-List.stream c.into_parts-statics.ensures.statics (sym c.in-List.is ∙ c.into_parts-statics.ensures.body)
