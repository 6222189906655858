-- What a call answers that goes over a value.
use Rattle.std.specs.Prelude.{◌≡◌, List, Result, Ok, Err}
use Rattle.value_core.specs.Value as model
use Rattle.value_core.specs.View.{values_view}
use Rattle.value_core.specs.declared.value.Value.{Value}
use Rattle.value_core.specs.declared.raise.Raise.TheVariants.{BadArgument}
use Rattle.doc_model.specs.Evaluation.{Res}
use Rattle.comprehension.specs.declared.generator.ItemsFault.{ItemsFault}
use Rattle.comprehension.specs.declared.generator.ItemsFault.TheVariants.{Raised, OutOfMemory}

-- the items, or the raise of a value that has none; memory may be wanting
abbrev pub GivesItems : Result (List Value) ItemsFault → Res model.Values → Type 0
GivesItems (Ok vs) r = r ≡ Ok (values_view vs)
GivesItems (Err Raised) r = r ≡ Err BadArgument
GivesItems (Err OutOfMemory) r = Unit {0}
