-- A fact of what is given, where it is given.
use Rattle.std.proofs.Common.{◌≡◌, Bool, true, false, if◌then◌else◌, Result, Ok, Err, IfOk}

pub on_given : {T E : Type 0} {P Q : T → Type 0} (r : Result T E) → ((x : T) → P x → Q x) → IfOk r P → IfOk r Q
on_given (Ok x) f h = f x h
on_given (Err e) f h = tt

pub when_true : {A : Type 0} (P : A → Type 0) (b : Bool) (t e : A) → b ≡ true → P t → P (if b then t else e)
when_true P true t e h p = p
when_true P false t e h p = cc

pub when_false : {A : Type 0} (P : A → Type 0) (b : Bool) (t e : A) → b ≡ false → P e → P (if b then t else e)
when_false P true t e h p = cc
when_false P false t e h p = p
