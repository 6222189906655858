-- What a client shows that reads the bytes of a process's frames.
use Rattle.std.specs.Prelude.{◌≡◌, ◌<◌, ◌^◌, ℕ, List, [], ◌∷◌, Option, Some, None, Ok, true}
use Rattle.std.specs.Str.{is_utf8}
use Rattle.serde_json.specs.Read.{read}
use Rattle.diff_tree.specs.Tree.{Tree}
use Rattle.diff_tree.specs.Frame.{Frame, frame_json}
use Rattle.slot_compile.specs.Template.{all_plain}
use Rattle.slot_compile.specs.Numbering.{place_count}
use Rattle.doc_model.specs.Process.{World, Page, page_text}
use Rattle.doc_model.specs.Journal.{Entry, begin_standing, replay_journal, frames_from, spelled}
use Rattle.client_merge.specs.Held.{page_of}
use Rattle.client_merge.specs.Frames.{client_reads_all}
use Rattle.client_merge.specs.Alike.{frame_bytes}
use Rattle.live_page.specs.World.{site}

-- a world whose templates have texts, elements, interpolations, attributes, spreads, conditions, cases and loops alone, each of
-- fewer than 2^64 places with those inside: no template calls anything
pub record IsPlainWorld (w : World) : Type 0 where
  pub plain : (v : ℕ) → all_plain (w.template_of v) ≡ true
  pub few : (v : ℕ) → place_count (w.template_of v) < 2 ^ 64
  pub calls_nothing : w.site ≡ site

-- the bytes of a frame are UTF-8, and its JSON value is read from them: so it is where it nests at most 127 deep, the keys
-- of what is pushed are in order, and its numbers have 64 bits
abbrev pub IsReadable : Frame → Type 0
IsReadable f = (is_utf8 (frame_bytes f) ≡ true) × (read (frame_bytes f) ≡ Some (frame_json f))

abbrev pub AreReadable : List Frame → Type 0
AreReadable [] = Unit {0}
AreReadable (f ∷ fs) = IsReadable f × AreReadable fs

-- a client shows the full rendering of the page where the process is up, and holds none where it is down
abbrev pub ShowsText : World → Option Page → Option (Option Tree) → Type 0
ShowsText w (Some p) (Some (Some t)) = page_text w p ≡ Ok (page_of t)
ShowsText w None (Some None) = Unit {0}
ShowsText w _ _ = ⊥

-- after any entries, lawful or not, a client that read the bytes of all frames shows the page
abbrev pub ClientShowsPage : World → Type 0
ClientShowsPage w = (es : List Entry) → AreReadable (frames_from w begin_standing es)
    → ShowsText w (replay_journal w es).state.page (client_reads_all None (spelled (frames_from w begin_standing es)))
