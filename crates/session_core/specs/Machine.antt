-- A session as contracts see it: the app and the journal; all else follows from these.
use Rattle.std.specs.Prelude.{ℕ, List, []}
use Rattle.std.specs.List.{flat_map}
use Rattle.view_api.specs.Meaning.{HandlerMeaning}
use Rattle.live_page.specs.declared.app.App.{App}
use Rattle.live_page.specs.World.{world_of}
use Rattle.doc_model.specs.Process.{Stepped, handled_front}
use Rattle.doc_model.specs.Journal.{Standing, replay_journal, journal_size}
use Rattle.session_core.specs.declared.entry.Entry.{Entry}
use Rattle.session_core.specs.declared.entry.Entry.TheVariants as entry
use Rattle.session_core.specs.Entries.{journal_view}

pub record Machine (V : Type 0) : Type 0 where
  pub app : App V
  pub journal : List (ℕ × Entry)

-- the state and the inbox that the journal makes
abbrev pub standing_of : {V : Type 0} → (V → HandlerMeaning) → Machine V → Standing
standing_of meaning m = replay_journal (world_of meaning m.app) (journal_view m.journal)

-- what the message at the front makes
abbrev pub front_step : {V : Type 0} → (V → HandlerMeaning) → Machine V → Stepped
front_step meaning m = handled_front (world_of meaning m.app) (standing_of meaning m).state (standing_of meaning m).inbox

-- the size that is kept
abbrev pub kept_size : {V : Type 0} → Machine V → ℕ
kept_size m = journal_size (journal_view m.journal)

-- the frames of an entry, and of a journal
abbrev pub frames_in : Entry → List (List ℕ)
frames_in (entry.Heard text) = []
frames_in (entry.Handled frames) = frames
frames_in (entry.Fell frames) = frames

abbrev pub journal_frames : List (ℕ × Entry) → List (List ℕ)
journal_frames es = flat_map (λ e. frames_in e.1) es
