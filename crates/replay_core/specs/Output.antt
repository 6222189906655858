-- What a script writes.
use Rattle.std.specs.Prelude.{ℕ, List, [], ◌∷◌, ◌++◌, Option, Some, None}
use Rattle.text_core.specs.declared.by_key.KeyValue.{KeyValue}
use Rattle.text_core.specs.Keyed.{lookup, with_key, without_key}
use Rattle.view_api.specs.Meaning.{HandlerMeaning}
use Rattle.live_page.specs.declared.app.App.{App}
use Rattle.script_core.specs.declared.script.Line.{Line}
use Rattle.script_core.specs.declared.script.Line.TheVariants as line
use Rattle.replay_core.specs.declared.player.Player.{Player}
use Rattle.replay_core.specs.Player.{new_player, join_message, event_message, posted_to, posted_text, joins, tells, runs, frames_printed, new_frames, page_of, html_text, frames_text}

-- the browsers by their names
abbrev pub Board : Type 0 → Type 0
Board V = List (KeyValue (Player V))

module _ {V : Type 0} where
  -- the browsers, with what a line makes of one
  abbrev pub changed : List ℕ → (Player V → Player V) → Board V → Board V
  changed name f board = elim (lookup name board) [ None ↦ board | Some p ↦ with_key name (f p) (without_key name board) ]

  -- what a line prints of a browser
  abbrev pub printed_of : List ℕ → (Player V → List ℕ) → Board V → List ℕ
  printed_of name f board = elim (lookup name board) [ None ↦ [] | Some p ↦ f p ]

module _ {V : Type 0} (meaning : V → HandlerMeaning) where
  -- what a message of a browser prints
  abbrev pub answered : List ℕ → (Player V → List ℕ) → Player V → List ℕ
  answered name message p = posted_text name (posted_to meaning (message p) p.session)

  -- the browsers after a line
  abbrev pub after_line : App V → Board V → Line → Board V
  after_line app board (line.Browser name) = with_key name (new_player app) board
  after_line app board (line.Join name url) = changed name (joins meaning name url) board
  after_line app board (line.Event name kind event value) = changed name (tells meaning name kind event value) board
  after_line app board (line.Step name) = changed name (runs meaning) board
  after_line app board (line.Run name) = changed name (runs meaning) board
  after_line app board (line.Html name) = board
  after_line app board (line.Frames name) = changed name frames_printed board

  -- what the line writes
  abbrev pub line_output : Board V → Line → List ℕ
  line_output board (line.Browser name) = []
  line_output board (line.Join name url) = printed_of name (answered name (join_message name url)) board
  line_output board (line.Event name kind event value) = printed_of name (answered name (event_message name kind event value)) board
  line_output board (line.Step name) = []
  line_output board (line.Run name) = []
  line_output board (line.Html name) = printed_of name (λ p. html_text name (page_of meaning p)) board
  line_output board (line.Frames name) = printed_of name (λ p. frames_text name (new_frames p)) board

  -- what lines write, one after the other
  abbrev pub output_from : App V → Board V → List Line → List ℕ
  output_from app board [] = []
  output_from app board (l ∷ ls) = line_output board l ++ output_from app (after_line app board l) ls

  -- the output of a script: a function of the meaning of the views, the app and the script's lines
  abbrev pub replay_output : App V → List Line → List ℕ
  replay_output app script = output_from app [] script
