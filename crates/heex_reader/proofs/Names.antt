-- Names of modules.
use Rattle.std.proofs.Common.{◌≡◌, ℕ, suc, ◌+◌, ◌<◌, List, [], ◌∷◌, length, drop, get_or, Bool, true, cond, refl, sym, ap, ◌∙◌, arith, eq-eqb, drop-cons}
use Rattle.std.specs.Str.{bytes_eq}
use Rattle.expr_token.specs.Tokens.{module_goes_on, module_of}

module_on : (b : ℕ) (bs : List ℕ) → module_goes_on (b ∷ bs) ≡ true → bytes_eq (module_of (b ∷ bs)) (b ∷ bs) ≡ bytes_eq (module_of bs) bs
module_on b bs h = ap (λ (x : Bool). bytes_eq (cond x (b ∷ module_of bs) []) (b ∷ bs)) h ∙ rw (eq-eqb b b refl) refl

front : (bs : List ℕ) (at : ℕ) → at < length bs → drop at bs ≡ get_or bs at 0 ∷ drop (at + 1) bs
front bs at h = let e : suc at ≡ at + 1 = omega arith in drop-cons bs at 0 h ∙ ap (λ i. get_or bs at 0 ∷ drop i bs) e

pub module_step : (bs : List ℕ) (at : ℕ) → at < length bs → module_goes_on (drop at bs) ≡ true → bytes_eq (module_of (drop (at + 1) bs)) (drop (at + 1) bs) ≡ bytes_eq (module_of (drop at bs)) (drop at bs)
module_step bs at h k =
    let e = front bs at h in
    sym (module_on (get_or bs at 0) (drop (at + 1) bs) (sym (ap module_goes_on e) ∙ k)) ∙ sym (ap (λ l. bytes_eq (module_of l) l) e)
