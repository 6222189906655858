-- Answers of calls, joined to one another.
use Rattle.std.proofs.Common.{◌≡◌, Result, Ok, Err, refl, sym, ap, subst}
use Rattle.doc_model.specs.Evaluation.{Res, then_do, on_res, both}
use Rattle.expr_eval.specs.declared.fault.EvalFault.{EvalFault}
use Rattle.expr_eval.specs.declared.fault.EvalFault.TheVariants.{Raised, OutOfMemory}
use Rattle.expr_eval.specs.Gives.{Gives}

-- an answer for what is the same
pub gives_as : {A B : Type 0} (f : A → B) (x : Result A EvalFault) (r s : Res B) → r ≡ s → Gives f x s → Gives f x r
gives_as f x r s e h = subst (Gives f x) (sym e) h

-- a fault goes on through what would come next
pub fault_then : {A B C : Type 0} (f : A → B) {D : Type 0} (g : D → C) (e : EvalFault) (r : Res B) (next : B → Res C) → Gives f (Err e) r → Gives g (Err e) (then_do r next)
fault_then f g (Raised k) r next h = ap (λ x. then_do x next) h
fault_then f g OutOfMemory r next h = tt

pub fault_on : {A B C : Type 0} (f : A → B) {D : Type 0} (g : D → C) (e : EvalFault) (r : Res B) (next : B → C) → Gives f (Err e) r → Gives g (Err e) (on_res next r)
fault_on f g (Raised k) r next h = ap (on_res next) h
fault_on f g OutOfMemory r next h = tt

pub then_ok : {A B : Type 0} (r : Res A) (f : A → Res B) (a : A) → r ≡ Ok a → then_do r f ≡ f a
then_ok r f a h = ap (λ x. then_do x f) h

pub both_on : {A B C : Type 0} (f : A → B → C) (a : A) (r : Res B) → both f (Ok a) r ≡ on_res (f a) r
both_on f a (Ok b) = refl
both_on f a (Err e) = refl

pub on_on : {A B C : Type 0} (f : B → C) (g : A → B) (r : Res A) → on_res f (on_res g r) ≡ on_res (λ a. f (g a)) r
on_on f g (Ok a) = refl
on_on f g (Err e) = refl

pub on_as : {A B : Type 0} (f g : A → B) (r : Res A) → ((a : A) → f a ≡ g a) → on_res f r ≡ on_res g r
on_as f g (Ok a) h = ap Ok (h a)
on_as f g (Err e) h = refl

pub then_is : {A : Type 0} (r : Res A) → then_do r Ok ≡ r
then_is (Ok a) = refl
then_is (Err e) = refl

-- a function of the answer
pub gives_on : {A B C : Type 0} (f : A → B) (g : B → C) (x : Result A EvalFault) (r : Res B) → Gives f x r → Gives (λ a. g (f a)) x (on_res g r)
gives_on f g (Ok a) r h = ap (on_res g) h
gives_on f g (Err (Raised k)) r h = ap (on_res g) h
gives_on f g (Err OutOfMemory) r h = tt
