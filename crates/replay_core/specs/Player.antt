-- A browser of a script: what its lines do to its process, and what they print.
use Rattle.std.specs.Prelude.{ℕ, ◌+◌, List, [], ◌∷◌, ◌++◌, length, drop, codes, decimal, nat_lt, nat_le, if◌then◌else◌, Option, Some, None, Result, Ok, Err}
use Rattle.value_core.specs.declared.raise.Raise.{Raise}
use Rattle.view_api.specs.Meaning.{HandlerMeaning}
use Rattle.machine_api.specs.Steps.{inbox_limit, journal_limit}
use Rattle.live_page.specs.declared.app.App.{App}
use Rattle.live_page.specs.World.{world_of}
use Rattle.doc_model.specs.Effects.{Waiting}
use Rattle.doc_model.specs.Process.{World, Page, page_text}
use Rattle.doc_model.specs.Journal.{spelled}
use Rattle.session_core.specs.declared.entry.Entry.{Entry}
use Rattle.session_core.specs.declared.entry.Entry.TheVariants as entry
use Rattle.session_core.specs.Machine.{Machine, standing_of, front_step, kept_size, journal_frames}
use Rattle.replay_core.specs.declared.player.Player.{Player}
use Rattle.replay_core.specs.declared.player.Posted.{Posted}
use Rattle.replay_core.specs.declared.player.Posted.TheVariants as posted
use Rattle.replay_core.specs.Spoken.{join_text, event_text}

module _ {V : Type 0} where
  -- a process that is down, of a browser that has sent nothing
  abbrev pub new_player : App V → Player V
  new_player app = record { session = record { app = app; journal = [] }; sent = 0; joined = None; printed = 0 }

  -- a machine with one entry more
  abbrev pub with_entry : Entry → Machine V → Machine V
  with_entry e m = record m { journal = m.journal ++ (0, e) ∷ [] }

-- what becomes of a message of that size: fewer than 1,024 may wait before it, and the journal has a limit
abbrev pub posted_at : ℕ → ℕ → ℕ → Posted
posted_at waiting kept asked = if nat_lt waiting inbox_limit then (if nat_le (kept + asked) journal_limit then posted.Taken else posted.JournalFull) else posted.Full

-- a process takes a text, or refuses it and is as before
abbrev pub takes : {V : Type 0} → Posted → List ℕ → Machine V → Machine V
takes posted.Taken text m = with_entry (entry.Heard text) m
takes posted.Full text m = m
takes posted.JournalFull text m = m

module _ {V : Type 0} where
  -- the n-th message that a browser sends has the reference n, whether or not it is taken
  abbrev pub next_reference : Player V → List ℕ
  next_reference p = decimal (p.sent + 1)

  abbrev pub join_message : List ℕ → List ℕ → Player V → List ℕ
  join_message name url p = join_text name (next_reference p) url

  abbrev pub event_message : List ℕ → List ℕ → List ℕ → List ℕ → Player V → List ℕ
  event_message name kind event value p = event_text name p.joined (next_reference p) kind event value

module _ {V : Type 0} (meaning : V → HandlerMeaning) where
  -- what becomes of a text, and the process behind it
  abbrev pub posted_to : List ℕ → Machine V → Posted
  posted_to text m = posted_at (length (standing_of meaning m).inbox) (kept_size m) (64 + length text)

  abbrev pub hears : List ℕ → Machine V → Machine V
  hears text m = takes (posted_to text m) text m

  -- the browser behind a join: what follows belongs to that join
  abbrev pub joins : List ℕ → List ℕ → Player V → Player V
  joins name url p = record {
    session = hears (join_message name url p) p.session;
    sent = p.sent + 1;
    joined = Some (next_reference p);
    printed = p.printed;
  }

  -- the browser behind an event
  abbrev pub tells : List ℕ → List ℕ → List ℕ → List ℕ → Player V → Player V
  tells name kind event value p = record {
    session = hears (event_message name kind event value p) p.session;
    sent = p.sent + 1;
    joined = p.joined;
    printed = p.printed;
  }

  -- the process takes the message at the front, if one waits
  abbrev pub takes_front : List Waiting → Machine V → Machine V
  takes_front [] m = m
  takes_front (w ∷ ws) m = with_entry (entry.Handled (spelled (front_step meaning m).frames)) m

  abbrev pub handles : Machine V → Machine V
  handles m = takes_front (standing_of meaning m).inbox m

  abbrev pub runs : Player V → Player V
  runs p = record { session = handles p.session; sent = p.sent; joined = p.joined; printed = p.printed }

-- the frames since the last line that printed them, and the browser behind such a line
abbrev pub new_frames : {V : Type 0} → Player V → List (List ℕ)
new_frames p = drop p.printed (journal_frames p.session.journal)

abbrev pub frames_printed : {V : Type 0} → Player V → Player V
frames_printed p = record { session = p.session; sent = p.sent; joined = p.joined; printed = p.printed + length (new_frames p) }

-- the page of the state that the journal makes, while the process is up
abbrev pub or_none : Result (List ℕ) Raise → Option (List ℕ)
or_none (Ok text) = Some text
or_none (Err k) = None

abbrev pub page_when : World → Option Page → Option (List ℕ)
page_when w None = None
page_when w (Some p) = or_none (page_text w p)

abbrev pub page_of : {V : Type 0} → (V → HandlerMeaning) → Player V → Option (List ℕ)
page_of meaning p = page_when (world_of meaning p.session.app) (standing_of meaning p.session).state.page

-- `== NAME WHAT`, and the same with a number and a line feed
abbrev pub heading : List ℕ → List ℕ → List ℕ
heading name what = codes "== " ++ name ++ what

abbrev pub numbered : List ℕ → List ℕ → ℕ → List ℕ
numbered name what n = heading name what ++ decimal n ++ 10 ∷ []

-- what a message prints: nothing where it is taken, else why it is refused
abbrev pub posted_text : List ℕ → Posted → List ℕ
posted_text name posted.Taken = []
posted_text name posted.Full = heading name (codes " Full" ++ 10 ∷ [])
posted_text name posted.JournalFull = heading name (codes " JournalFull" ++ 10 ∷ [])

-- what `html` prints: the page behind its length in bytes, or that the browser has none
abbrev pub html_text : List ℕ → Option (List ℕ) → List ℕ
html_text name None = heading name (codes " down" ++ 10 ∷ [])
html_text name (Some page) = numbered name (codes " html ") (length page) ++ page ++ 10 ∷ []

-- what `frames` prints: how many frames there are, and each on a line
abbrev pub frame_lines : List (List ℕ) → List ℕ
frame_lines [] = []
frame_lines (f ∷ fs) = f ++ (10 ∷ frame_lines fs)

abbrev pub frames_text : List ℕ → List (List ℕ) → List ℕ
frames_text name fs = numbered name (codes " frames ") (length fs) ++ frame_lines fs
