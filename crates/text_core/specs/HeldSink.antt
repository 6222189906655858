use Rattle.std.specs.Prelude.{ℕ, List}
use Rattle.text_core.specs.declared.held.HeldSink.{HeldSink}

abbrev pub sink_bytes : HeldSink → List ℕ
sink_bytes t = t.bytes
