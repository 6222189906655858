use Rattle.std.proofs.Common.{◌≡◌, ◌≤◌, ◌∙◌, ◌++◌, length, refl, ap, arith}
use Rattle.diff_tree.specs.Tree.{flat}
use Rattle.client_merge.specs.Held.{held_rows, row_pages}
use Rattle.client_merge.proofs.Shows.{shows_on, shows_all, on_ok, rows_on, rows_shown}
use Rattle.client_merge.proofs.showing.+show.Goals as goal

pub show_places-places-init : goal.show_places-places-init
show_places-places-init t c = refl

pub show_places-places-preserved : goal.show_places-places-preserved
show_places-places-preserved t c =
    shows_on c.places.place c.args.statics.now c.as_slice-places.result.now c.index-places-place.result c.places.page c.show_static.new.page c.show_onto.new.page
    c.places-test.true c.index-places-place.is c.in_ok-show_static.ensures c.in_ok-show_onto.ensures
    ∙ c.places.invariant

pub show_places-returns : goal.show_places-returns
show_places-returns t c =
    let end : c.places.place ≡ length c.as_slice-places.result.now = omega arith in
    on_ok c.show_static-2.result
    (shows_all c.places.place c.args.statics.now c.as_slice-places.result.now c.args.places.now c.args.page.now c.places.page c.show_static-2.new.page end c.as_slice-places.ensures c.places.invariant)
    c.show_static-2.ensures

pub show_rows-rows-preserved : goal.show_rows-rows-preserved
show_rows-rows-preserved t c =
    rows_on c.rows.row-index c.args.statics.now c.as_slice-row-items.result.now c.row-item.result c.rows.page c.show_places.new.page _
    c.rows-test.true c.row-item.is c.in_ok-show_places.ensures c.rows.invariant

pub show_rows-returns : goal.show_rows-returns
show_rows-returns t c =
    let past : length c.as_slice-row-items.result.now ≤ c.rows.row-index = omega arith in
    rows_shown c.rows.row-index c.args.statics.now c.as_slice-row-items.result.now c.rows.page _ past c.rows.invariant
    ∙ ap (λ l. c.args.page.now ++ flat (row_pages c.args.statics.now (held_rows l))) c.as_slice-row-items.ensures
