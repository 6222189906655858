-- Worked examples: mails, values that a process sends itself, pushed events, and what is published.
use Rattle.std.proofs.Common.{◌≡◌, ℕ, pos, List, [], ◌∷◌, ◌++◌, Some, codes, refl, if◌then◌else◌}
use Rattle.std.specs.Float.Numeral.{scan_numeral}
use Rattle.std.specs.Fmt.{digits}
use Rattle.std.specs.Str.{bytes_eq}
use Rattle.json.specs.Json.{items, members, value}
use Rattle.json.specs.Lex.{lex, punctuate}
use Rattle.json.specs.Text.{content}
use Rattle.json.specs.Word.{after_number, word}
use Rattle.json.specs.Print.{escape_byte}
use Rattle.serde_json.specs.Read.{number_of}
use Rattle.value_core.specs.Value.{Value, whole_number, atom, map_of, no_assigns, assign}
use Rattle.ast_core.specs.Syntax.{no_attributes}
use Rattle.view_api.specs.Effect.{Effect, assign_to, subscribe, publish, send_self, push_event}
use Rattle.view_api.specs.Meaning.{ViewMeaning}
use Rattle.doc_model.specs.Effects.{to_subscribe, to_publish, mailed, sent}
use Rattle.doc_model.specs.Process.{World, Stepped, unchanged, step_waiting, handled_front}
use Rattle.doc_model.proofs.ExampleParts.{tag, one, put_assign}
use Rattle.doc_model.proofs.ExampleWorlds.{scripted, world_of, home_alone, joined, event_after, frames_text, client_page}

abbrev number : ℕ → Value
number n = whole_number (pos n)

-- `tell` subscribes, publishes a map, sends the process 7 and pushes an event; any other event publishes an atom, which is no JSON
abbrev telling : List Effect
telling = subscribe (codes "room") ∷ publish (codes "room") (map_of (assign (codes "a") (number 2) (assign (codes "b") (number 1) no_assigns)))
    ∷ send_self (number 7) ∷ push_event (codes "done") (map_of (assign (codes "k") (number 1) no_assigns)) ∷ []

-- mount assigns `n` 0, and info the message
abbrev views : ViewMeaning
views = record (scripted [] [] [] []) {
  mount = λ v p. Some (assign_to (codes "n") (number 0) ∷ []);
  handle_event = λ o name w as'. Some (if bytes_eq name (codes "tell") then telling else publish (codes "room") (number 1) ∷ publish (codes "room") (atom (codes "ok")) ∷ []);
  handle_info = λ v m as'. Some (assign_to (codes "n") m ∷ []);
}

-- `<p>{@n}</p>`
abbrev listening : World
listening = world_of home_alone (one (tag (codes "p") no_attributes (one (put_assign (codes "n"))))) views

abbrev start : Stepped
start = joined listening

-- a mail of this generation
abbrev mail : ℕ → List ℕ → Stepped
mail g bytes = step_waiting listening start.state [] (mailed (codes "room") g bytes)

-- a mail's diff is a push, under no reference
example_mail_frames : frames_text (mail 1 (codes "5")) ≡ codes "[\"1\",null,\"lv:A\",\"diff\",{\"0\":\"5\"}]" ∷ []
unfolding digits items members value lex punctuate content after_number word number_of scan_numeral escape_byte
example_mail_frames = refl

example_mail_shown : client_page listening (start.frames ++ (mail 1 (codes "5")).frames) ≡ Some (Some (codes "<p>5</p>"))
unfolding digits items members value lex punctuate content after_number word number_of scan_numeral
example_mail_shown = refl

-- an empty diff is not pushed
example_mail_unchanged : frames_text (mail 1 (codes "0")) ≡ []
unfolding digits items members value lex punctuate content after_number word number_of scan_numeral
example_mail_unchanged = refl

-- a mail of an earlier join changes nothing
example_old_mail : mail 0 (codes "5") ≡ unchanged start.state [] []
example_old_mail = refl

abbrev told : Stepped
told = event_after listening start (codes "2") (codes "tell")

-- a pushed event stands under `e`
example_pushed_frames : frames_text told ≡ codes "[\"1\",\"2\",\"lv:A\",\"phx_reply\",{\"response\":{\"diff\":{\"e\":[[\"done\",{\"k\":1}]]}},\"status\":\"ok\"}]" ∷ []
unfolding digits escape_byte
example_pushed_frames = refl

-- what is published is compact JSON with keys in byte order
example_actions : told.actions ≡ to_subscribe (codes "room") 1 ∷ to_publish (codes "room") (codes "{\"a\":2,\"b\":1}") ∷ []
unfolding digits escape_byte
example_actions = refl

-- a value that the process sends itself waits, and is then handled as a mail
example_sent_waits : told.inbox ≡ sent 1 (number 7) ∷ []
unfolding digits
example_sent_waits = refl

example_sent_frames : frames_text (handled_front listening told.state told.inbox) ≡ codes "[\"1\",null,\"lv:A\",\"diff\",{\"0\":\"7\"}]" ∷ []
unfolding digits escape_byte
example_sent_frames = refl

-- an atom is no JSON: the event raises, and nothing that it would have published is
example_no_json_frames : frames_text (event_after listening start (codes "2") (codes "wrong")) ≡ codes "[\"1\",\"1\",\"lv:A\",\"phx_error\",{}]" ∷ []
unfolding digits escape_byte
example_no_json_frames = refl

example_no_json_actions : (event_after listening start (codes "2") (codes "wrong")).actions ≡ []
unfolding digits
example_no_json_actions = refl
