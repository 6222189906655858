-- Answers that are passed on.
use Rattle.std.proofs.Common.{◌≡◌, ℕ, List, Result, Ok, Err, OnOk, subst}
use Rattle.value_core.specs.declared.raise.Raise.{Raise}
use Rattle.doc_model.specs.Evaluation.{Res, then_do, on_res}
use Rattle.diff_render.specs.Answers.{Answers, Shows}
use Rattle.diff_render.specs.declared.fault.RenderFault.{RenderFault}
use Rattle.diff_render.specs.declared.fault.RenderFault.TheVariants as fault

-- a fault is passed on where its raise is
pub fault_passes : {A B C D : Type 0} (P : A → B → Type 0) (Q : C → D → Type 0) (f : RenderFault) (r : Res B) (s : Res D) → ((e : Raise) → r ≡ Err e → s ≡ Err e) → Answers P (Err f) r → Answers Q (Err f) s
fault_passes P Q fault.Raised r s h (e, k) = (e, h e k)
fault_passes P Q fault.OutOfMemory r s h k = tt

pub shown_fault : {C D : Type 0} (Q : C → D → Type 0) (f : RenderFault) (r : Res (List ℕ)) (s : Res D) → ((e : Raise) → r ≡ Err e → s ≡ Err e) → Shows (Err f) r → Answers Q (Err f) s
shown_fault Q fault.Raised r s h (e, k) = (e, h e k)
shown_fault Q fault.OutOfMemory r s h k = tt

-- an answer of an equal result
pub answers_of : {A B : Type 0} (P : A → B → Type 0) (x : Result A RenderFault) (r s : Res B) → r ≡ s → Answers P x r → Answers P x s
answers_of P x r s e h = subst (Answers P x) e h
