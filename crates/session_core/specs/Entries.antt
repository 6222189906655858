-- What entries and waiting messages stand for.
use Rattle.std.specs.Prelude.{ℕ, List, map}
use Rattle.value_core.specs.View.{view}
use Rattle.doc_model.specs.Effects as model
use Rattle.doc_model.specs.Journal as journal
use Rattle.session_core.specs.declared.entry.Entry.{Entry}
use Rattle.session_core.specs.declared.entry.Entry.TheVariants as entry
use Rattle.session_core.specs.declared.entry.Waiting.{Waiting}
use Rattle.session_core.specs.declared.entry.Waiting.TheVariants as waiting

abbrev pub entry_view : Entry → journal.Entry
entry_view (entry.Heard t) = journal.text_heard t
entry_view (entry.Handled fs) = journal.handled fs
entry_view (entry.Fell fs) = journal.fell fs

-- the entries of a journal, whatever passes they belong to
abbrev pub journal_view : List (ℕ × Entry) → List journal.Entry
journal_view es = map (λ e. entry_view e.1) es

abbrev pub waiting_view : Waiting → model.Waiting
waiting_view (waiting.Heard t) = model.heard t
waiting_view (waiting.Sent g v) = model.sent g (view v)

abbrev pub inbox_view : List Waiting → List model.Waiting
inbox_view = map waiting_view
