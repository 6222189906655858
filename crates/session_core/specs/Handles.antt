-- What the calls on a session answer.
use Rattle.std.specs.Prelude.{◌≡◌, ◌≢◌, ℕ, true, false, [], ◌∷◌, ◌++◌, map, Some, codes}
use Rattle.view_api.specs.Meaning.{HandlerMeaning}
use Rattle.machine_api.specs.declared.machine.Handled.{Handled}
use Rattle.machine_api.specs.declared.machine.Handled.TheVariants as handled
use Rattle.effects_apply.specs.Applied.{action_view}
use Rattle.doc_model.specs.Journal.{fault_frames, spelled}
use Rattle.session_core.specs.declared.entry.Entry.{Entry}
use Rattle.session_core.specs.declared.entry.Entry.TheVariants as entry
use Rattle.session_core.specs.Machine.{Machine, standing_of, front_step}

-- the journal with one entry more, where a message waited
abbrev pub Adds : {V : Type 0} → (V → HandlerMeaning) → ℕ → Entry → Machine V → Machine V → Type 0
Adds meaning by e old new = ((standing_of meaning old).inbox ≢ []) × (new ≡ record old { journal = old.journal ++ (by, e) ∷ [] })

-- Idle comes exactly where no message waits; a message that raises is Crashed, another is Done with its actions; want of memory is free
abbrev pub HandlesFront : {V : Type 0} → (V → HandlerMeaning) → ℕ → Machine V → Handled → Machine V → Type 0
HandlesFront meaning by old handled.Idle new = ((standing_of meaning old).inbox ≡ []) × (new ≡ old)
HandlesFront meaning by old (handled.Done actions) new =
    ((front_step meaning old).crashed ≡ false) × ((front_step meaning old).actions ≡ map action_view actions)
    × Adds meaning by (entry.Handled (spelled (front_step meaning old).frames)) old new
HandlesFront meaning by old handled.Crashed new =
    ((front_step meaning old).crashed ≡ true) × Adds meaning by (entry.Handled (spelled (front_step meaning old).frames)) old new
HandlesFront meaning by old handled.Fell new =
    Adds meaning by (entry.Fell (spelled (fault_frames (standing_of meaning old).state.page (Some (codes "out of memory"))))) old new
