-- Worked examples: the journal of the counter event, from bytes to bytes.
use Rattle.std.proofs.Common.{◌≡◌, ℕ, ◌<◌, List, [], ◌∷◌, ◌++◌, length, Some, None, option_map, option_and_then, Ok, true, codes, refl, sym, ap, ◌∙◌, subst, lit≤, if◌then◌else◌}
use Rattle.std.specs.Float.Numeral.{scan_numeral}
use Rattle.std.specs.Fmt.{digits}
use Rattle.json.specs.Json.{items, members, value}
use Rattle.json.specs.Lex.{lex, punctuate}
use Rattle.json.specs.Text.{content}
use Rattle.json.specs.Word.{after_number, word}
use Rattle.json.specs.Print.{escape_byte}
use Rattle.json.proofs.Printed.Utf8.{are_ascii}
use Rattle.serde_json.specs.Read.{read, number_of}
use Rattle.wire_v2.specs.Message.{message_of_json}
use Rattle.doc_model.specs.Effects.{Waiting, heard}
use Rattle.doc_model.specs.Process.{ProcessState, begin_state, page_text, Stepped, step_heard, handled_front}
use Rattle.doc_model.specs.Journal.{Entry, text_heard, handled, replay_journal, journal_size, LawfulJournal, spelled}
use Rattle.doc_model.proofs.ExamplesBytes.{join_bytes, event_bytes}
use Rattle.doc_model.proofs.ExamplesPages.{counting}
use Rattle.doc_model.proofs.ExampleWorlds.{utf8}

abbrev first_frame : List ℕ
first_frame = codes "[\"1\",\"1\",\"lv:A\",\"phx_reply\",{\"response\":{\"rendered\":{\"0\":\"0\",\"s\":[\"<p>\",\"</p>\"]}},\"status\":\"ok\"}]"

abbrev second_frame : List ℕ
second_frame = codes "[\"1\",\"2\",\"lv:A\",\"phx_reply\",{\"response\":{\"diff\":{\"0\":\"1\"}},\"status\":\"ok\"}]"

-- a browser joins `<p>{@n}</p>` and sends `inc`
abbrev journal : List Entry
journal = text_heard join_bytes ∷ handled (first_frame ∷ []) ∷ text_heard event_bytes ∷ handled (second_frame ∷ []) ∷ []

-- 64 for each entry, and its bytes
example_journal_size : journal_size journal ≡ 532
example_journal_size = refl

abbrev HasFront : List Waiting → Type 0
HasFront [] = ⊥
HasFront (m ∷ ms) = Unit {0}

has_front : (ms : List Waiting) → HasFront ms → ms ≡ [] → ⊥
has_front ms h e = subst HasFront e h

-- what the front of an inbox makes, where it is a text of ASCII
front_heard : (s : ProcessState) (t : List ℕ) → are_ascii t ≡ true → handled_front counting s (heard t ∷ []) ≡ step_heard counting s [] (option_and_then message_of_json (read t))
front_heard s t h = ap (λ b. step_heard counting s [] (if b then option_and_then message_of_json (read t) else None)) (utf8 t h)

abbrev after_join : Stepped
after_join = step_heard counting begin_state [] (option_and_then message_of_json (read join_bytes))

abbrev after_event : Stepped
after_event = step_heard counting after_join.state [] (option_and_then message_of_json (read event_bytes))

first_written : spelled after_join.frames ≡ first_frame ∷ []
unfolding digits items members value lex punctuate content after_number word number_of scan_numeral escape_byte
first_written = refl

second_written : spelled after_event.frames ≡ second_frame ∷ []
unfolding digits items members value lex punctuate content after_number word number_of scan_numeral escape_byte
second_written = refl

nothing_waits : after_join.inbox ≡ []
unfolding digits items members value lex punctuate content after_number word number_of scan_numeral
nothing_waits = refl

joins : handled_front counting begin_state (heard join_bytes ∷ []) ≡ after_join
joins = front_heard begin_state join_bytes refl

-- what the event's outcome is, from what the join's was
abbrev event_from : Stepped → Stepped
event_from x = handled_front counting x.state (x.inbox ++ heard event_bytes ∷ [])

sends : event_from after_join ≡ after_event
sends = ap (λ ms. handled_front counting after_join.state (ms ++ heard event_bytes ∷ [])) nothing_waits ∙ front_heard after_join.state event_bytes refl

-- each entry was allowed when it came, and its frames are those that are defined
example_journal_lawful : LawfulJournal counting journal
example_journal_lawful = (
  (lit≤ tt, lit≤ tt),
  refl,
  (
    has_front _ tt,
    sym first_written ∙ ap (λ x. spelled x.frames) (sym joins),
    (
      (subst (λ ms. length ms < 1024) (sym nothing_waits ∙ ap (λ x. x.inbox) (sym joins)) (lit≤ tt), lit≤ tt),
      refl,
      (
        subst (λ ms. ms ++ heard event_bytes ∷ [] ≡ [] → ⊥) (sym nothing_waits ∙ ap (λ x. x.inbox) (sym joins)) (has_front _ tt),
        sym second_written ∙ ap (λ x. spelled x.frames) (sym sends ∙ ap event_from (sym joins)),
        tt,
      ),
    ),
  ),
)

-- the journal replays to the second page, with nothing waiting
example_journal_page : option_map (page_text counting) (replay_journal counting journal).state.page ≡ Some (Ok (codes "<p>1</p>"))
unfolding digits items members value lex punctuate content after_number word number_of scan_numeral
example_journal_page = rw (utf8 join_bytes refl, utf8 event_bytes refl) refl

example_journal_inbox : (replay_journal counting journal).inbox ≡ []
unfolding digits items members value lex punctuate content after_number word number_of scan_numeral
example_journal_inbox = rw (utf8 join_bytes refl, utf8 event_bytes refl) refl
