-- What a call answers that prints.
use Rattle.std.specs.Prelude.{◌≡◌, ℕ, List, [], ◌∷◌, ◌++◌, Result, Ok, Err}
use Rattle.doc_model.specs.Evaluation.{Res, on_res}
use Rattle.attribute_text.specs.declared.fault.AttributeFault.{AttributeFault}
use Rattle.attribute_text.specs.declared.fault.AttributeFault.TheVariants.{Raised, OutOfMemory}

-- what the definition prints, but that memory may be wanting
abbrev pub Prints : Result (List ℕ) AttributeFault → Res (List ℕ) → Type 0
Prints (Ok t) r = r ≡ Ok t
Prints (Err (Raised k)) r = r ≡ Err k
Prints (Err OutOfMemory) r = Unit {0}

-- what is there already, and behind it what the definition gives
abbrev pub behind : {A : Type 0} → List A → Res (List A) → Res (List A)
behind before r = on_res (λ xs. before ++ xs) r

-- a list with what the definition gives behind it, but that memory may be wanting
abbrev pub Adds : {A B : Type 0} → Result B AttributeFault → List A → List A → Res (List A) → Type 0
Adds (Ok _) before after r = behind before r ≡ Ok after
Adds (Err (Raised k)) before after r = r ≡ Err k
Adds (Err OutOfMemory) before after r = Unit {0}

-- texts, each with a space before it
abbrev pub with_space_each : List (List ℕ) → List ℕ
with_space_each [] = []
with_space_each (t ∷ ts) = 32 ∷ (t ++ with_space_each ts)
