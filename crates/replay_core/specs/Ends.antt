-- How the run of a script ends.
use Rattle.std.specs.Prelude.{◌≡◌, ℕ, List, ◌++◌, take, Option, Some, IfSome}
use Rattle.view_api.specs.Meaning.{HandlerMeaning}
use Rattle.live_page.specs.declared.app.App.{App}
use Rattle.script_core.specs.declared.script.Line.{Line}
use Rattle.replay_core.specs.declared.run.ReplayEnd.{ReplayEnd}
use Rattle.replay_core.specs.declared.run.ReplayEnd.TheVariants as ends
use Rattle.replay_core.specs.Output.{replay_output}

-- all of a text was written, where the sink tells
abbrev pub AddsAll : Option (List ℕ) → Option (List ℕ) → List ℕ → Type 0
AddsAll before after text = IfSome before (λ bytes. after ≡ Some (bytes ++ text))

-- a front of a text was written
abbrev pub AddsFront : Option (List ℕ) → Option (List ℕ) → List ℕ → Type 0
AddsFront before after text = IfSome before (λ bytes. (n : ℕ) × (after ≡ Some (bytes ++ take n text)))

-- Done comes only where the whole output was written, WriteFault only where the sink's count rose; else a front of the output was written
abbrev pub ReplayEnds : {V : Type 0} → (V → HandlerMeaning) → App V → List Line → Option (List ℕ) → Option (List ℕ) → Type 0 → ReplayEnd → Type 0
ReplayEnds meaning app script before after sink_rose ends.Done = AddsAll before after (replay_output meaning app script)
ReplayEnds meaning app script before after sink_rose ends.WriteFault = sink_rose × AddsFront before after (replay_output meaning app script)
ReplayEnds meaning app script before after sink_rose ends.OutOfMemory = AddsFront before after (replay_output meaning app script)
