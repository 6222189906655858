-- What decides a place that evaluates one expression first.
use Rattle.std.proofs.Common.{◌≡◌, ◌⊎◌, inl, inr, ℕ, List, Option, sym, ap}
use Rattle.ast_core.specs.ExprView.{expr_view}
use Rattle.ast_core.specs.Free.{free_names}
use Rattle.ast_core.specs.Syntax.{Nodes}
use Rattle.ast_core.specs.declared.expr.Expr.{Expr}
use Rattle.slot_compile.specs.Numbering.{place_in}
use Rattle.slot_compile.specs.declared.compiled.Branch.{Branch}
use Rattle.slot_compile.specs.declared.compiled.Dynamic.{Dynamic}
use Rattle.slot_compile.specs.declared.compiled.Dynamic.TheVariants.{Put, Attribute, Spread, If, Case}
use Rattle.diff_render.specs.Again.{deciding}

-- a dynamic that is no loop, with this expression
abbrev pub IsOf : Dynamic → Expr → Type 0
IsOf d e = (d ≡ Put e) ⊎ (((n : List ℕ) × (d ≡ Attribute n e)) ⊎ ((d ≡ Spread e) ⊎ (((a : ℕ) × (b : Option ℕ) × (d ≡ If e a b)) ⊎ ((bs : List Branch) × (d ≡ Case e bs)))))

-- the names of its expression decide it
pub names_decide : (s : Nodes) (d : Dynamic) (e : Expr) → IsOf d e → free_names (expr_view e) ≡ deciding (place_in s d)
names_decide s d e (inl h) = sym (ap (λ x. deciding (place_in s x)) h)
names_decide s d e (inr (inl h)) = sym (ap (λ x. deciding (place_in s x)) h.1)
names_decide s d e (inr (inr (inl h))) = sym (ap (λ x. deciding (place_in s x)) h)
names_decide s d e (inr (inr (inr (inl h)))) = sym (ap (λ x. deciding (place_in s x)) h.2)
names_decide s d e (inr (inr (inr (inr h)))) = sym (ap (λ x. deciding (place_in s x)) h.1)
