-- Frames as they lie in memory.
use Rattle.std.proofs.Common.{◌≡◌, ℕ, ◌+◌, ◌-◌, ◌≤◌, List, [], ◌∷◌, ◌++◌, length, true, false, refl, sym, ap, ◌∙◌, arith, length-append}
use Rattle.std.specs.Prelude.{slice_get, Some, option_map, zero, suc}
use Rattle.expr_core.specs.declared.value.Style.TheVariants.{Bare, Inside}
use Rattle.expr_core.specs.declared.frame.Frame.{Frame}
use Rattle.expr_core.specs.declared.frame.Frame.TheVariants as frame
use Rattle.expr_core.specs.Machine as machine
use Rattle.expr_core.specs.Machine.{Frames, nest, reduce}
use Rattle.expr_core.specs.Seen.{frame_view, seen, stack, first_of, level, Counts, is_closed_by, folded}

pub stack_push : (fs : List Frame) (f : Frame) → stack (fs ++ f ∷ []) ≡ f ∷ stack fs
stack_push [] f = refl
stack_push (g ∷ fs) f = ap (λ l. l ++ g ∷ []) (stack_push fs f)

pub nest_level : (f : Frame) (fs : Frames) → nest (frame_view f ∷ fs) ≡ nest fs + level f
nest_level (frame.Operand o l) fs = omega arith
nest_level (frame.Ahead o) fs = refl
nest_level frame.Paren fs = refl
nest_level (frame.Indexed v) fs = refl
nest_level (frame.Items o es u) fs = refl
nest_level (frame.Putting ps u) fs = refl
nest_level (frame.Valued ps u k) fs = refl
nest_level frame.Test fs = refl
nest_level frame.InnerTest fs = omega arith
nest_level (frame.Yes Bare t) fs = refl
nest_level (frame.Yes Inside t) fs = omega arith
nest_level (frame.No Bare t y) fs = refl
nest_level (frame.No Inside t y) fs = omega arith

pub level_small : (f : Frame) → level f ≤ 2
level_small (frame.Operand o l) = omega arith
level_small (frame.Ahead o) = omega arith
level_small frame.Paren = omega arith
level_small (frame.Indexed v) = omega arith
level_small (frame.Items o es u) = omega arith
level_small (frame.Putting ps u) = omega arith
level_small (frame.Valued ps u k) = omega arith
level_small frame.Test = omega arith
level_small frame.InnerTest = omega arith
level_small (frame.Yes Bare t) = omega arith
level_small (frame.Yes Inside t) = omega arith
level_small (frame.No Bare t y) = omega arith
level_small (frame.No Inside t y) = omega arith

pub counts_more : (d n : ℕ) (fs gs : List Frame) (f : Frame) → Counts d fs → n ≡ level f → gs ≡ fs ++ f ∷ [] → Counts (d + n) gs
counts_more d n fs gs f c same e =
    let a : nest (seen (stack gs)) ≡ nest (seen (stack fs)) + level f = ap (λ g. nest (seen (stack g))) e ∙ (ap (λ g. nest (seen g)) (stack_push fs f) ∙ nest_level f (seen (stack fs))) in
    let more : length gs ≡ length fs + 1 = ap length e ∙ length-append fs (f ∷ []) in
    let s : level f ≤ 2 = level_small f in
    (omega arith, omega arith)

nest_length : (fs : List Frame) → nest (seen fs) ≤ length fs + length fs
nest_length [] = omega arith
nest_length (f ∷ fs) = omega (arith, nest_level f (seen fs), level_small f, nest_length fs)

stack_length : (fs : List Frame) → length (stack fs) ≡ length fs
stack_length [] = refl
stack_length (f ∷ fs) = length-append (stack fs) (f ∷ []) ∙ (ap (λ n. n + 1) (stack_length fs) ∙ omega arith)

pub counts_less : (d n : ℕ) (fs gs : List Frame) (f : Frame) → Counts d gs → n ≡ level f → gs ≡ fs ++ f ∷ [] → Counts (d - n) fs
counts_less d n fs gs f c same e =
    let a : nest (seen (stack gs)) ≡ nest (seen (stack fs)) + level f = ap (λ g. nest (seen (stack g))) e ∙ (ap (λ g. nest (seen g)) (stack_push fs f) ∙ nest_level f (seen (stack fs))) in
    let b : nest (seen (stack fs)) ≤ length (stack fs) + length (stack fs) = nest_length (stack fs) in
    (omega arith, omega (arith, stack_length fs))

pub reduce_stays : (n : ℕ) (v : machine.Value) (fs : List Frame) → is_closed_by n (first_of fs) ≡ false → reduce n v (seen fs) ≡ (v, seen fs)
reduce_stays n v [] e = refl
reduce_stays n v (frame.Operand o l ∷ fs) e = rw e refl
reduce_stays n v (frame.Ahead o ∷ fs) e = rw e refl
reduce_stays n v (frame.Paren ∷ fs) e = refl
reduce_stays n v (frame.Indexed w ∷ fs) e = refl
reduce_stays n v (frame.Items o es u ∷ fs) e = refl
reduce_stays n v (frame.Putting ps u ∷ fs) e = refl
reduce_stays n v (frame.Valued ps u k ∷ fs) e = refl
reduce_stays n v (frame.Test ∷ fs) e = refl
reduce_stays n v (frame.InnerTest ∷ fs) e = refl
reduce_stays n v (frame.Yes Bare t ∷ fs) e = rw e refl
reduce_stays n v (frame.Yes Inside t ∷ fs) e = refl
reduce_stays n v (frame.No Bare t y ∷ fs) e = rw e refl
reduce_stays n v (frame.No Inside t y ∷ fs) e = refl

pub reduce_goes : (n : ℕ) (v : machine.Value) (f : Frame) (fs : List Frame) → is_closed_by n (Some f) ≡ true → reduce n v (seen (f ∷ fs)) ≡ reduce n (folded f v) (seen fs)
reduce_goes n v (frame.Operand o l) fs e = rw e refl
reduce_goes n v (frame.Ahead o) fs e = rw e refl
reduce_goes n v frame.Paren fs e = cc
reduce_goes n v (frame.Indexed w) fs e = cc
reduce_goes n v (frame.Items o es u) fs e = cc
reduce_goes n v (frame.Putting ps u) fs e = cc
reduce_goes n v (frame.Valued ps u k) fs e = cc
reduce_goes n v frame.Test fs e = cc
reduce_goes n v frame.InnerTest fs e = cc
reduce_goes n v (frame.Yes Bare t) fs e = rw e refl
reduce_goes n v (frame.Yes Inside t) fs e = cc
reduce_goes n v (frame.No Bare t y) fs e = rw e refl
reduce_goes n v (frame.No Inside t y) fs e = cc

last_top : (fs : List Frame) (f g : Frame) → first_of ((fs ++ f ∷ []) ++ g ∷ []) ≡ first_of (fs ++ f ∷ [])
last_top [] f g = refl
last_top (h ∷ fs) f g = refl

top_at : (fs : List Frame) (n : ℕ) → length fs ≡ n + 1 → slice_get fs n ≡ first_of (stack fs)
top_at [] n e = absurd (omega arith)
top_at (f ∷ []) zero e = refl
top_at (f ∷ []) (suc n) e = absurd (omega arith)
top_at (f ∷ g ∷ fs) zero e = absurd (omega arith)
top_at (f ∷ g ∷ fs) (suc n) e = top_at (g ∷ fs) n (omega arith) ∙ sym (last_top (stack fs) g f)

pub top_last : (fs : List Frame) → slice_get fs (length fs - 1) ≡ first_of (stack fs)
top_last [] = refl
top_last (f ∷ fs) = top_at (f ∷ fs) (length (f ∷ fs) - 1) (omega arith)

pub need_first : (fs : List Frame) → machine.need (seen fs) ≡ machine.need_under (option_map frame_view (first_of fs))
need_first [] = refl
need_first (f ∷ fs) = refl
