-- An else that has content is a body.
use Rattle.std.proofs.Common.{◌≡◌, ◌↔◌, ℕ, List, [], ◌∷◌, Bool, true, false, IsTrue, Some, refl}
use Rattle.ast_core.specs.declared.node.Node.{Node}
use Rattle.ast_core.specs.NodeView.{nodes_view}
use Rattle.slot_compile.specs.Numbering.{all_bodies, else_bodies}
use Rattle.slot_compile.specs.Stretches.{else_at}

not_both : (b : Bool) → b ≡ true → b ≡ false → ⊥
not_both b h g = cc

pub else_has_number : (k : ℕ) (b : Bool) (ns : List Node) → IsTrue b ↔ (ns ≡ []) → b ≡ false → Some k ≡ else_at k (nodes_view ns)
else_has_number k b [] h some = absurd (not_both b (h.1 refl) some)
else_has_number k b (n ∷ ns) h some = refl

pub else_has_body : (b : Bool) (ns : List Node) → IsTrue b ↔ (ns ≡ []) → b ≡ false → all_bodies (nodes_view ns) ≡ else_bodies (nodes_view ns)
else_has_body b [] h some = absurd (not_both b (h.1 refl) some)
else_has_body b (n ∷ ns) h some = refl
