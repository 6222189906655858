-- The headline: what every journal of a linked bundle keeps.
use Rattle.std.specs.Prelude.{◌≡◌, ℕ, List, [], ◌∷◌, ◌++◌, Option, Some, None}
use Rattle.ast_core.specs.Syntax.{Template, Linked}
use Rattle.ast_core.specs.Places.{streams_in, Once}
use Rattle.doc_model.specs.Bundle.{template_in, site_of}
use Rattle.doc_model.specs.Table.{Honest}
use Rattle.view_api.specs.Meaning.{ViewMeaning}
use Rattle.doc_model.specs.Effects.{views_of}
use Rattle.diff_tree.specs.Client.{PageTree}
use Rattle.diff_tree.specs.Frame.{client_takes_all}
use Rattle.doc_model.specs.Process.{World, Page}
use Rattle.doc_model.specs.Journal.{Entry, Standing, begin_standing, process_step, after_step, replay_journal, frames_from, ShowsPage, frames_of_entry, spelled, written_frames, journal_size, Allowed, LawfulJournal, FramesShowPage, DiffsAreLean, SessionHolds}

-- no stream has two places in the template of a view or of a module
pub record IsLinked (w : World) : Type 0 where
  pub of_view : (v : ℕ) → Once (streams_in (w.template_of v))
  pub of_module : (m : List ℕ) → Once (streams_in (w.site.root m))

-- no stream has two places in one template
abbrev pub EachOnce : List Template → Type 0
EachOnce [] = Unit {0}
EachOnce (t ∷ ts) = Once (streams_in t.nodes) × EachOnce ts

-- a world that renders the templates of such a bundle is linked
abbrev pub BundleLinks : Type 0
BundleLinks = (w : World) (l : Linked) (name : ℕ → List ℕ) → EachOnce l.templates → w.site ≡ site_of l → ((v : ℕ) → w.template_of v ≡ template_in l.templates (name v)) → IsLinked w

-- the handlers of a process write to batches alone: the premise of `SessionShows` holds of its views
abbrev pub HandlersAreHonest : Type 0
HandlersAreHonest = (views : ViewMeaning) → Honest (views_of views)

-- after any entries, lawful or not, the frames since the latest join merge and show the page
abbrev pub JournalShows : Type 0
JournalShows = (w : World) (es : List Entry) → IsLinked w → FramesShowPage w es

-- what a client of all frames holds: the page where the process is up, and none where it is down
abbrev pub ClientFollows : World → Option Page → Option (Option PageTree) → Type 0
ClientFollows w (Some p) (Some (Some q)) = ShowsPage w p q
ClientFollows w None (Some None) = Unit {0}
ClientFollows w _ _ = ⊥

-- from the beginning on, through every join and every end, no frame is bad for a client, and it holds a page exactly while the process is up
abbrev pub AllFramesShow : Type 0
AllFramesShow = (w : World) (es : List Entry) → IsLinked w → (k : ℕ) × ClientFollows w (replay_journal w es).state.page (client_takes_all k None (frames_from w begin_standing es))

-- the frames of a lawful journal carry whole trees and lean diffs
abbrev pub JournalIsLean : Type 0
JournalIsLean = (w : World) (es : List Entry) → LawfulJournal w es → DiffsAreLean w es

-- all four clauses hold of every lawful journal
abbrev pub LawfulHolds : Type 0
LawfulHolds = (w : World) (es : List Entry) → IsLinked w → LawfulJournal w es → SessionHolds w es (replay_journal w es)

-- one entry more: a session that adds an entry which is allowed, with the frames that are defined, keeps all four clauses
abbrev pub SessionGoesOn : Type 0
SessionGoesOn = (w : World) (es : List Entry) (s : Standing) (e : Entry) → IsLinked w → SessionHolds w es s → Allowed s (journal_size es) e → written_frames e ≡ spelled (frames_of_entry w s e)
    → SessionHolds w (es ++ e ∷ []) (after_step (process_step w s e))
