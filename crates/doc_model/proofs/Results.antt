-- What holds of results that did not raise.
use Rattle.std.proofs.Common.{◌≡◌, Ok, Err, refl, subst}
use Rattle.doc_model.specs.Evaluation.{Res, then_do, both, on_res}

abbrev pub On : {A : Type 0} → (A → Type 0) → Res A → Type 0
On P (Ok x) = P x
On P (Err e) = Unit {0}

abbrev pub Pair : {A B : Type 0} → (A → B → Type 0) → Res A → Res B → Type 0
Pair P (Ok x) (Ok y) = P x y
Pair P (Ok x) (Err e) = Unit {0}
Pair P (Err e) s = Unit {0}

pub on_made : {A B : Type 0} (Q : B → Type 0) (f : A → B) (r : Res A) → On (λ x. Q (f x)) r → On Q (on_res f r)
on_made Q f (Ok x) h = h
on_made Q f (Err e) h = tt

pub on_bind : {A B : Type 0} (Q : B → Type 0) (r : Res A) (f : A → Res B) → ((x : A) → On Q (f x)) → On Q (then_do r f)
on_bind Q (Ok x) f h = h x
on_bind Q (Err e) f h = tt

pub on_both : {A B C : Type 0} (P : A → Type 0) (Q : B → Type 0) (R : C → Type 0) (g : A → B → C) (a : Res A) (b : Res B) → ((x : A) (y : B) → P x → Q y → R (g x y)) → On P a → On Q b → On R (both g a b)
on_both P Q R g (Ok x) (Ok y) h p q = h x y p q
on_both P Q R g (Ok x) (Err e) h p q = tt
on_both P Q R g (Err e) b h p q = tt

pub on_weaker : {A : Type 0} (P Q : A → Type 0) (r : Res A) → ((x : A) → P x → Q x) → On P r → On Q r
on_weaker P Q (Ok x) h p = h x p
on_weaker P Q (Err e) h p = tt

pub on_all : {A : Type 0} (P : A → Type 0) (r : Res A) → ((x : A) → P x) → On P r
on_all P (Ok x) h = h x
on_all P (Err e) h = tt

pub pair_err : {A B : Type 0} (Q : A → B → Type 0) (r : Res A) (e : _) → Pair Q r (Err e)
pair_err Q (Ok x) e = tt
pair_err Q (Err k) e = tt

pub pair_made : {A B C D : Type 0} (Q : C → D → Type 0) (f : A → C) (g : B → D) (r : Res A) (s : Res B) → Pair (λ x y. Q (f x) (g y)) r s → Pair Q (on_res f r) (on_res g s)
pair_made Q f g (Ok x) (Ok y) h = h
pair_made Q f g (Ok x) (Err e) h = tt
pair_made Q f g (Err e) s h = tt

pub pair_same : {A B C : Type 0} (Q : B → C → Type 0) (r s : Res A) (f : A → Res B) (g : A → Res C) → r ≡ s → ((x : A) → Pair Q (f x) (g x)) → Pair Q (then_do r f) (then_do s g)
pair_same Q r s f g e h = subst (λ t. Pair Q (then_do r f) (then_do t g)) e (alike r)
  where
    alike : (t : Res _) → Pair Q (then_do t f) (then_do t g)
    alike (Ok x) = h x
    alike (Err k) = tt

pub pair_bind : {A A' B C : Type 0} (Q : B → C → Type 0) (r : Res A) (s : Res A') (f : A → Res B) (g : A' → Res C) → ((x : A) (y : A') → Pair Q (f x) (g y)) → Pair Q (then_do r f) (then_do s g)
pair_bind Q (Ok x) (Ok y) f g h = h x y
pair_bind Q (Ok x) (Err e) f g h = pair_err Q (f x) e
pair_bind Q (Err e) s f g h = tt

pub pair_both : {A A' B B' C C' : Type 0} (P : A → A' → Type 0) (Q : B → B' → Type 0) (R : C → C' → Type 0) (g : A → B → C) (g' : A' → B' → C') (a : Res A) (a' : Res A') (b : Res B) (b' : Res B')
    → ((x : A) (x' : A') (y : B) (y' : B') → P x x' → Q y y' → R (g x y) (g' x' y')) → Pair P a a' → Pair Q b b' → Pair R (both g a b) (both g' a' b')
pair_both P Q R g g' (Ok x) (Ok x') (Ok y) (Ok y') h p q = h x x' y y' p q
pair_both P Q R g g' (Ok x) (Ok x') (Ok y) (Err e) h p q = tt
pair_both P Q R g g' (Ok x) (Err e) (Ok y) b' h p q = tt
pair_both P Q R g g' (Ok x) a' (Err e) b' h p q = tt
pair_both P Q R g g' (Err e) a' b b' h p q = tt

pub pair_weaker : {A B : Type 0} (P Q : A → B → Type 0) (r : Res A) (s : Res B) → ((x : A) (y : B) → P x y → Q x y) → Pair P r s → Pair Q r s
pair_weaker P Q (Ok x) (Ok y) h p = h x y p
pair_weaker P Q (Ok x) (Err e) h p = tt
pair_weaker P Q (Err e) s h p = tt

-- what holds of each of two results, besides what holds of both
pub pair_with : {A B : Type 0} (P : A → Type 0) (Q : B → Type 0) (R S : A → B → Type 0) (r : Res A) (s : Res B) → ((x : A) (y : B) → P x → Q y → R x y → S x y) → On P r → On Q s → Pair R r s → Pair S r s
pair_with P Q R S (Ok x) (Ok y) h p q k = h x y p q k
pair_with P Q R S (Ok x) (Err e) h p q k = tt
pair_with P Q R S (Err e) s h p q k = tt

pub on_eq : {A : Type 0} (P : A → Type 0) (r : Res A) → ((x : A) → r ≡ Ok x → P x) → On P r
on_eq P (Ok x) h = h x refl
on_eq P (Err e) h = tt

pub on_then : {A B : Type 0} (P : A → Type 0) (Q : B → Type 0) (r : Res A) (f : A → Res B) → On P r → ((x : A) → P x → On Q (f x)) → On Q (then_do r f)
on_then P Q (Ok x) f p h = h x p
on_then P Q (Err e) f p h = tt
