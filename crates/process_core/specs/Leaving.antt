-- The page that a message is of, as it is kept.
use Rattle.std.specs.Prelude.{Option, Some, None, Bool, ◌&&◌, if◌then◌else◌}
use Rattle.std.specs.Str.{bytes_eq}
use Rattle.wire_v2.specs.declared.head.MessageHead.{MessageHead}
use Rattle.live_page.specs.declared.page.LivePage.{LivePage}
use Rattle.doc_model.specs.Process.{same_reference}
use Rattle.process_core.specs.declared.process.Up.{Up}

-- the message is of the join of this page
abbrev pub is_of_kept : LivePage → MessageHead → Bool
is_of_kept page h = same_reference h.join_ref page.join_ref && bytes_eq h.topic page.topic

-- the page that is up, where the message is of its join
abbrev pub fresh_page : Option Up → MessageHead → Option LivePage
fresh_page None h = None
fresh_page (Some u) h = if is_of_kept u.page h then Some u.page else None
