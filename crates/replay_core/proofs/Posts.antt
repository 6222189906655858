-- What a process does with a text, and with the message at its front.
use Rattle.std.proofs.Common.{◌≡◌, ◌≢◌, ◌≤◌, ◌<◌, ◌+◌, ℕ, List, [], ◌∷◌, ◌++◌, length, Option, Some, None, Result, Ok, Err, refl, sym, ap, ◌∙◌}
use Rattle.std.proofs.lemmas.Bool.{lt-ltb, le-ltb, le-leb, lt-leb}
use Rattle.machine_api.specs.declared.machine.PostFault.TheVariants as fault
use Rattle.machine_api.specs.Steps.{Posts, Fits, inbox_limit, journal_limit}
use Rattle.view_api.specs.Meaning.{HandlerMeaning}
use Rattle.live_page.specs.declared.app.App.{App}
use Rattle.doc_model.specs.Effects.{Waiting}
use Rattle.doc_model.specs.Journal.{spelled}
use Rattle.doc_model.specs.Process.{World, Page, page_text}
use Rattle.session_core.specs.Machine.{Machine, standing_of, kept_size, front_step}
use Rattle.process_core.specs.Shown.{ShowsUp}
use Rattle.session_core.specs.Handles.{Adds}
use Rattle.session_core.specs.declared.entry.Entry.{Entry}
use Rattle.session_core.specs.declared.entry.Entry.TheVariants as entry
use Rattle.replay_core.specs.declared.player.Posted.{Posted}
use Rattle.replay_core.specs.declared.player.Posted.TheVariants as posted
use Rattle.replay_core.specs.Player.{posted_at, posted_to, takes, hears, with_entry, takes_front, handles, page_when, or_none}

-- where a text fits, it is taken
fits : (waiting kept asked : ℕ) → Fits waiting kept asked → posted_at waiting kept asked ≡ posted.Taken
fits waiting kept asked h = let a = lt-ltb waiting inbox_limit h.0 in let b = le-leb (kept + asked) journal_limit h.1 in rw (a, b) refl

full : (waiting kept asked : ℕ) → inbox_limit ≤ waiting → posted_at waiting kept asked ≡ posted.Full
full waiting kept asked h = let a = le-ltb waiting inbox_limit h in rw a refl

journal_full : (waiting kept asked : ℕ) → waiting < inbox_limit → journal_limit < kept + asked → posted_at waiting kept asked ≡ posted.JournalFull
journal_full waiting kept asked h k = let a = lt-ltb waiting inbox_limit h in let b = lt-leb (kept + asked) journal_limit k in rw (a, b) refl

abbrev machine : {V : Type 0} → App V → List (ℕ × Entry) → Machine V
machine app journal = record { app = app; journal = journal }

-- machines with one app and one journal are one
same_machine : {V : Type 0} (old new : Machine V) → new.app ≡ old.app → new.journal ≡ old.journal → new ≡ old
same_machine old new a j = ap (λ x. machine x new.journal) a ∙ ap (machine old.app) j

one_more : {V : Type 0} (old new : Machine V) (e : Entry) → new.app ≡ old.app → new.journal ≡ old.journal ++ (0, e) ∷ [] → new ≡ with_entry e old
one_more old new e a j = ap (λ x. machine x new.journal) a ∙ ap (machine old.app) j

module _ {V : Type 0} (meaning : V → HandlerMeaning) (old new : Machine V) (text : List ℕ) (same : new.app ≡ old.app) where
  abbrev waits : ℕ
  waits = length (standing_of meaning old).inbox

  abbrev asks : ℕ
  asks = 64 + length text

  abbrev Gives : Posted → Type 0
  Gives p = (new ≡ hears meaning text old) × (p ≡ posted_to meaning text old)

  pub taken : (place : ℕ) → Posts 0 (entry.Heard text) asks waits (kept_size old) old.journal (Ok place) new.journal → Gives posted.Taken
  taken place h =
      let is = fits waits (kept_size old) asks h.0 in
      (one_more old new (entry.Heard text) same h.2 ∙ sym (ap (λ p. takes p text old) is), sym is)

  pub refused_full : Posts 0 (entry.Heard text) asks waits (kept_size old) old.journal (Err fault.Full) new.journal → Gives posted.Full
  refused_full h =
      let is = full waits (kept_size old) asks h.0 in
      (same_machine old new same h.1 ∙ sym (ap (λ p. takes p text old) is), sym is)

  pub refused_journal : (k a : ℕ) → Posts 0 (entry.Heard text) asks waits (kept_size old) old.journal (Err (fault.JournalFull k a)) new.journal → Gives posted.JournalFull
  refused_journal k a h =
      let is = journal_full waits (kept_size old) asks h.0 h.1 in
      (same_machine old new same h.4 ∙ sym (ap (λ p. takes p text old) is), sym is)

-- where a message waits, handling it adds its outcome
with_front : {V : Type 0} (meaning : V → HandlerMeaning) (waiting : List Waiting) (m : Machine V) → waiting ≢ [] → takes_front meaning waiting m ≡ with_entry (entry.Handled (spelled (front_step meaning m).frames)) m
with_front meaning [] m h = absurd (h refl)
with_front meaning (w ∷ ws) m h = refl

pub handled_front : {V : Type 0} (meaning : V → HandlerMeaning) (old new : Machine V) → Adds meaning 0 (entry.Handled (spelled (front_step meaning old).frames)) old new → new ≡ handles meaning old
handled_front meaning old new h = h.1 ∙ sym (with_front meaning (standing_of meaning old).inbox old h.0)

pub idle : {V : Type 0} (meaning : V → HandlerMeaning) (old new : Machine V) → ((standing_of meaning old).inbox ≡ []) × (new ≡ old) → new ≡ handles meaning old
idle meaning old new h = h.1 ∙ sym (ap (λ w. takes_front meaning w old) h.0)

-- the page that a process shows is that of its state
pub shown : (w : World) (o : Option Page) (text : Option (List ℕ)) → ShowsUp w o text → text ≡ page_when w o
shown w None text h = h
shown w (Some p) None h = absurd h
shown w (Some p) (Some text) h = sym (ap or_none h)
