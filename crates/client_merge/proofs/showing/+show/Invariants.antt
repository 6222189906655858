use Rattle.std.proofs.Common.{◌≡◌, ◌++◌, drop}
use Rattle.diff_tree.specs.Tree.{flat}
use Rattle.client_merge.specs.Held.{held_rows, row_pages}
use Rattle.client_merge.proofs.Shows.{left}
use Rattle.client_merge.proofs.showing.+show.Given as goal

-- what was shown, and what is left, are the whole
abbrev pub invariant-show_places-places : goal.invariant-show_places-places
invariant-show_places-places l = l.page ++ left l.place l.statics l.places ≡ l.initial.page ++ left 0 l.statics l.places

-- what was shown, and the rows that are left, are the whole
abbrev pub invariant-show_rows-rows : goal.invariant-show_rows-rows
invariant-show_rows-rows l = l.page ++ flat (row_pages l.statics (held_rows (drop l.row-index l.row-items))) ≡ l.initial.page ++ flat (row_pages l.statics (held_rows l.row-items))
