-- What a call answers that evaluates.
use Rattle.std.specs.Prelude.{◌≡◌, ℕ, ℤ, List, Bool, Result, Ok, Err}
use denote.Ref.{Bor}
use Rattle.doc_model.specs.Evaluation.{Res}
use Rattle.expr_eval.specs.declared.fault.EvalFault.{EvalFault}
use Rattle.expr_eval.specs.declared.fault.EvalFault.TheVariants.{Raised, OutOfMemory}

-- what the definition answers, but that memory may be wanting
abbrev pub Gives : {A B : Type 0} → (A → B) → Result A EvalFault → Res B → Type 0
Gives f (Ok v) r = r ≡ Ok (f v)
Gives f (Err (Raised k)) r = r ≡ Err k
Gives f (Err OutOfMemory) r = Unit {0}

-- a text, a truth and a pair of numbers are seen as they are
abbrev pub text_as_is : List ℕ → List ℕ
text_as_is t = t

abbrev pub str_as_is : Bor (List ℕ) → List ℕ
str_as_is t = t.now

abbrev pub truth_as_is : Bool → Bool
truth_as_is b = b

abbrev pub pair_as_is : ℤ × ℤ → ℤ × ℤ
pair_as_is p = p

abbrev pub number_as_is : ℕ → ℕ
number_as_is n = n
