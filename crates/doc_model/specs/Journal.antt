-- The journal of a process: its entries, what they replay to, and when each was allowed.
use Rattle.std.specs.Prelude.{◌≡◌, ℕ, ◌+◌, ◌<◌, ◌≤◌, List, [], ◌∷◌, ◌++◌, length, map, Option, Some, None, Ok, Bool, true, false, if◌then◌else◌, codes}
use Rattle.serde_json.specs.Written.{compact_text}
use Rattle.ast_core.specs.Places.{cut}
use Rattle.diff_tree.specs.Client.{PageTree, PageDiff, show_tree}
use Rattle.diff_tree.specs.Frame.{Frame, FrameBody, rendered, changed, push, frame_json, client_takes_all}
use Rattle.doc_model.specs.Components.{HeldTree, whole_tree, lean_diff}
use Rattle.doc_model.specs.Effects.{Waiting, heard, mailed, inbox_limit}
use Rattle.doc_model.specs.Process.{World, Page, ProcessState, begin_state, page_text, Stepped, handled_front, goes_down, fault_frame}

-- why a process is put down: a limit, or want of memory
pub data DownReason : Type 0 where
  limit_met : DownReason
  memory_wanted : DownReason

-- frames are bytes here
pub data Entry : Type 0 where
  text_heard : List ℕ → Entry
  mail_heard : List ℕ → ℕ → List ℕ → Entry
  handled : List (List ℕ) → Entry
  fell : List (List ℕ) → Entry
  overrun : DownReason → List (List ℕ) → Entry

-- a state with its inbox
pub record Standing : Type 0 where
  pub state : ProcessState
  pub inbox : List Waiting

-- a process begins down, with an empty inbox
abbrev pub begin_standing : Standing
begin_standing = record { state = begin_state; inbox = [] }

-- the inbox without its front
abbrev pub without_front : List Waiting → List Waiting
without_front [] = []
without_front (m ∷ ms) = ms

-- the frame that tells that a page is gone
abbrev pub fault_frames : Option Page → Option (List ℕ) → List Frame
fault_frames None reason = []
fault_frames (Some p) reason = fault_frame p reason ∷ []

-- the reason as it is sent
abbrev pub down_reason : DownReason → List ℕ
down_reason limit_met = codes "overrun"
down_reason memory_wanted = codes "out of memory"

-- one entry: what comes is put at the back of the inbox, Handled takes its front; no frame of the entry is looked at
abbrev pub process_step : World → Standing → Entry → Stepped
process_step w s (text_heard t) = record { state = s.state; inbox = s.inbox ++ heard t ∷ []; frames = []; actions = []; crashed = false }
process_step w s (mail_heard t g v) = record { state = s.state; inbox = s.inbox ++ mailed t g v ∷ []; frames = []; actions = []; crashed = false }
process_step w s (handled fs) = handled_front w s.state s.inbox
process_step w s (fell fs) = goes_down s.state.generation (without_front s.inbox) (fault_frames s.state.page (Some (codes "out of memory"))) false
process_step w s (overrun why fs) = goes_down s.state.generation s.inbox (fault_frames s.state.page (Some (down_reason why))) false

-- the state and the inbox after a step
abbrev pub after_step : Stepped → Standing
after_step t = record { state = t.state; inbox = t.inbox }

-- the fold of the step over the journal
abbrev pub replay_from : World → Standing → List Entry → Standing
replay_from w s [] = s
replay_from w s (e ∷ es) = replay_from w (after_step (process_step w s e)) es

-- what a journal replays to
abbrev pub replay_journal : World → List Entry → Standing
replay_journal w es = replay_from w begin_standing es

-- the frames of an entry, as they are defined and as bytes
abbrev pub frames_of_entry : World → Standing → Entry → List Frame
frames_of_entry w s e = (process_step w s e).frames

-- frames as bytes: compact JSON with keys in byte order
abbrev pub spelled : List Frame → List (List ℕ)
spelled fs = map (λ f. compact_text (frame_json f)) fs

-- the frames that an entry holds
abbrev pub written_frames : Entry → List (List ℕ)
written_frames (handled fs) = fs
written_frames (fell fs) = fs
written_frames (overrun why fs) = fs
written_frames _ = []

-- the length of texts
abbrev pub total_length : List (List ℕ) → ℕ
total_length [] = 0
total_length (t ∷ ts) = length t + total_length ts

-- the texts that an entry holds
abbrev pub texts_of_entry : Entry → List (List ℕ)
texts_of_entry (text_heard t) = t ∷ []
texts_of_entry (mail_heard t g v) = t ∷ v ∷ []
texts_of_entry e = []

-- 64 and the lengths of the entry's texts and frames
abbrev pub entry_size : Entry → ℕ
entry_size e = 64 + (total_length (texts_of_entry e) + total_length (written_frames e))

-- the kept size of a journal
abbrev pub journal_size : List Entry → ℕ
journal_size [] = 0
journal_size (e ∷ es) = entry_size e + journal_size es

-- the kept size that no post passes
abbrev pub journal_limit : ℕ
journal_limit = 16777216

-- whether an entry may come after a journal of this size
abbrev pub Allowed : Standing → ℕ → Entry → Type 0
Allowed s size (text_heard t) = (length s.inbox < inbox_limit) × (size + entry_size (text_heard t) ≤ journal_limit)
Allowed s size (mail_heard t g v) = (length s.inbox < inbox_limit) × (size + entry_size (mail_heard t g v) ≤ journal_limit)
Allowed s size (handled fs) = s.inbox ≡ [] → ⊥
Allowed s size (fell fs) = s.inbox ≡ [] → ⊥
Allowed s size (overrun why fs) = s.state.page ≡ None → ⊥

-- each entry was allowed when it came, and has exactly the frames that are defined
abbrev pub LawfulFrom : World → Standing → ℕ → List Entry → Type 0
LawfulFrom w s size [] = Unit {0}
LawfulFrom w s size (e ∷ es) =
    Allowed s size e × (written_frames e ≡ spelled (frames_of_entry w s e)) × LawfulFrom w (after_step (process_step w s e)) (size + entry_size e) es

-- each entry was allowed, and has its frames
abbrev pub LawfulJournal : World → List Entry → Type 0
LawfulJournal w es = LawfulFrom w begin_standing 0 es

-- all frames of a journal, in order
abbrev pub frames_from : World → Standing → List Entry → List Frame
frames_from w s [] = []
frames_from w s (e ∷ es) = frames_of_entry w s e ++ frames_from w (after_step (process_step w s e)) es

-- a frame with a whole tree
abbrev pub begins_page : FrameBody → Bool
begins_page (rendered p es) = true
begins_page _ = false

-- the last frame with a whole tree, and all frames after it
abbrev pub since_join : List Frame → List Frame → List Frame
since_join so_far [] = so_far
since_join so_far (f ∷ fs) = since_join (if begins_page f.body then f ∷ [] else so_far ++ f ∷ []) fs

-- the frames since the latest join
abbrev pub frames_since_join : World → List Entry → List Frame
frames_since_join w es = since_join [] (frames_from w begin_standing es)

-- the four clauses of the headline, over any journal.
-- First: the journal is what one thread would have written.
abbrev pub JournalConforms : World → List Entry → Type 0
JournalConforms w es = LawfulJournal w es

-- Second: a state and an inbox are those that the journal replays to
abbrev pub StateIsReplay : World → List Entry → Standing → Type 0
StateIsReplay w es s = s ≡ replay_journal w es

-- a tree shows the page, through some number of components: it is whole for the state, and its text is the full rendering
abbrev pub ShowsPage : World → Page → PageTree → Type 0
ShowsPage w p q =
    HeldTree w.site.mark (cut (w.template_of p.view)) p.met q × ((n : ℕ) × (page_text w p ≡ Ok (show_tree w.site.mark n q)))

-- a client that holds a page shows it
abbrev pub ClientShows : World → Page → Option (Option PageTree) → Type 0
ClientShows w p (Some (Some q)) = ShowsPage w p q
ClientShows w p _ = ⊥

-- where the process is up
abbrev pub PageShown : World → List Entry → Option Page → Type 0
PageShown w es None = Unit {0}
PageShown w es (Some p) = (k : ℕ) × ClientShows w p (client_takes_all k None (frames_since_join w es))

-- Third: while the process is up, the frames since its latest join merge without an undefined case, the result is whole, and it shows the full rendering
abbrev pub FramesShowPage : World → List Entry → Type 0
FramesShowPage w es = PageShown w es (replay_journal w es).state.page

-- a tree is the whole tree of the page that is shown
abbrev pub IsWhole : World → Option Page → PageTree → Type 0
IsWhole w None t = ⊥
IsWhole w (Some p) t = t ≡ whole_tree (cut (w.template_of p.view)) p.met

-- a diff holds exactly the places whose assigns changed between two pages: it is the lean diff
abbrev pub IsLean : Option Page → Option Page → PageDiff → Type 0
IsLean (Some p) (Some q) d = d ≡ lean_diff p.met q.met
IsLean _ _ d = ⊥

-- what a frame carries, sent between two states
abbrev pub LeanBody : World → Option Page → Option Page → FrameBody → Type 0
LeanBody w old new (rendered t es) = IsWhole w new t
LeanBody w old new (changed d es) = IsLean old new d
LeanBody w old new (push d es) = IsLean old new d
LeanBody w old new _ = Unit {0}

-- the same of each frame
abbrev pub LeanBodies : World → Option Page → Option Page → List Frame → Type 0
LeanBodies w old new [] = Unit {0}
LeanBodies w old new (f ∷ fs) = LeanBody w old new f.body × LeanBodies w old new fs

-- the frames that an entry holds spell such frames
abbrev pub LeanEntry : World → Option Page → Option Page → Entry → Type 0
LeanEntry w old new e = (fs : List Frame) × (written_frames e ≡ spelled fs) × LeanBodies w old new fs

-- the same of each entry
abbrev pub LeanFrom : World → Standing → List Entry → Type 0
LeanFrom w s [] = Unit {0}
LeanFrom w s (e ∷ es) =
    LeanEntry w s.state.page (process_step w s e).state.page e × LeanFrom w (after_step (process_step w s e)) es

-- Fourth: the join's tree is the whole tree of what its rendering met, and each diff in the journal's frames holds exactly the places whose assigns changed
abbrev pub DiffsAreLean : World → List Entry → Type 0
DiffsAreLean w es = LeanFrom w begin_standing es

-- the four clauses
pub record SessionHolds (w : World) (es : List Entry) (s : Standing) : Type 0 where
  pub conforms : JournalConforms w es
  pub is_replay : StateIsReplay w es s
  pub shows : FramesShowPage w es
  pub lean : DiffsAreLean w es
