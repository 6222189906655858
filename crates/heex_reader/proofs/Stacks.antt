-- What is open, as it lies in memory.
use Rattle.std.proofs.Common.{◌≡◌, ℕ, ◌+◌, ◌-◌, List, [], ◌∷◌, ◌++◌, length, refl, sym, ap, ◌∙◌, arith, length-append}
use Rattle.std.specs.Prelude.{slice_get, zero, suc}
use Rattle.heex_reader.specs.declared.frame.Frame.{Frame}
use Rattle.heex_reader.specs.Stack.{stack}
use Rattle.heex_reader.specs.Seen.{first_of}

pub stack_push : (fs : List Frame) (f : Frame) → stack (fs ++ f ∷ []) ≡ f ∷ stack fs
stack_push [] f = refl
stack_push (g ∷ fs) f = ap (λ l. l ++ g ∷ []) (stack_push fs f)

pub stack_length : (fs : List Frame) → length fs ≡ length (stack fs)
stack_length [] = refl
stack_length (f ∷ fs) = omega (arith, length-append (stack fs) (f ∷ []), stack_length fs)

last_top : (fs : List Frame) (f g : Frame) → first_of ((fs ++ f ∷ []) ++ g ∷ []) ≡ first_of (fs ++ f ∷ [])
last_top [] f g = refl
last_top (h ∷ fs) f g = refl

top_at : (fs : List Frame) (n : ℕ) → length fs ≡ n + 1 → slice_get fs n ≡ first_of (stack fs)
top_at [] n e = absurd (omega arith)
top_at (f ∷ []) zero e = refl
top_at (f ∷ []) (suc n) e = absurd (omega arith)
top_at (f ∷ g ∷ fs) zero e = absurd (omega arith)
top_at (f ∷ g ∷ fs) (suc n) e = top_at (g ∷ fs) n (omega arith) ∙ sym (last_top (stack fs) g f)

pub top_last : (fs : List Frame) → slice_get fs (length fs - 1) ≡ first_of (stack fs)
top_last [] = refl
top_last (f ∷ fs) = top_at (f ∷ fs) (length (f ∷ fs) - 1) (omega arith)
