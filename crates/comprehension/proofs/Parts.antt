-- The parts of patterns and of values, one by one.
use Rattle.std.proofs.Common.{◌≡◌, ◌<◌, ◌+◌, ◌++◌, ◌⊎◌, inl, inr, ℕ, ℤ, Bool, List, [], ◌∷◌, length, get_or, drop, map, sym, ap, refl, ◌∙◌, arith}
use Rattle.text_core.proofs.Keyed.{cons_at}
use Rattle.value_core.specs.Value as value_model
use Rattle.value_core.specs.Value.{Values, no_values, value, tuple, text, Assigns, assign}
use Rattle.value_core.specs.View.{view, values_view}
use Rattle.value_core.specs.declared.value.Value.{Value}
use Rattle.ast_core.specs.declared.pattern.Pattern.{Pattern}
use Rattle.ast_core.specs.declared.pattern.PatternPair.{PatternPair, out-PatternPair}
use Rattle.ast_core.specs.declared.pattern.Pattern.TheOpen.{Pattern-F}
use Rattle.ast_core.specs.declared.pattern.Pattern.TheVariants as form
use Rattle.ast_core.specs.declared.pattern.Pattern.TheViews.{roll-Pattern}
use Rattle.ast_core.specs.declared.pattern.Pattern.TheFolds.{map-Pattern, fold-roll-Pattern, fold_out-PatternPair}
use Rattle.ast_core.specs.Syntax as model
use Rattle.ast_core.specs.Syntax.{pattern, key}
use Rattle.ast_core.specs.PatternView.{pattern_view, pattern_step, pattern_pair_step, patterns_of, keys_of}
use Rattle.ast_core.specs.NamesIn.{pattern_pair_view}
use Rattle.doc_model.specs.Calls.{pair_values}
use Rattle.doc_model.specs.Evaluation.{append_values}

-- ---- patterns without parts

seen_as : (p q : Pattern) (x : Pattern-F Pattern PatternPair) → p ≡ q → roll-Pattern x ≡ q → pattern_view p ≡ pattern_step (map-Pattern _ _ _ _ pattern_view pattern_pair_view x)
seen_as p q x is rolls = ap pattern_view (is ∙ sym rolls) ∙ fold-roll-Pattern model.Pattern (List ℕ × model.Pattern) pattern_step pattern_pair_step x

pub any_form : (p : Pattern) → p ≡ form.Any → pattern_view p ≡ model.any
any_form p is = seen_as p form.Any Pattern-F.Any is form.rolls-Any

-- a pattern with a value of its own
abbrev pub IsLiteral : Pattern → Type 0
IsLiteral p = ((n : ℤ) × (p ≡ form.Number n)) ⊎ (((t : List ℕ) × (p ≡ form.Text t)) ⊎ (((t : List ℕ) × (p ≡ form.Atom t)) ⊎ ((p ≡ form.Nil) ⊎ ((b : Bool) × (p ≡ form.Bool b)))))

pub literal_form : (p : Pattern) → IsLiteral p → (w : value_model.Value) × (pattern_view p ≡ model.literal w)
literal_form p (inl (n, is)) = (value_model.whole_number n, seen_as p (form.Number n) (Pattern-F.Number n) is (form.rolls-Number n))
literal_form p (inr (inl (t, is))) = (value_model.text t, seen_as p (form.Text t) (Pattern-F.Text t) is (form.rolls-Text t))
literal_form p (inr (inr (inl (t, is)))) = (value_model.atom t, seen_as p (form.Atom t) (Pattern-F.Atom t) is (form.rolls-Atom t))
literal_form p (inr (inr (inr (inl is)))) = (value_model.nil, seen_as p form.Nil Pattern-F.Nil is form.rolls-Nil)
literal_form p (inr (inr (inr (inr (b, is))))) = (value_model.boolean b, seen_as p (form.Bool b) (Pattern-F.Bool b) is (form.rolls-Bool b))

-- ---- parts from one on

-- the patterns from one on
pub patterns_at : (ps : List Pattern) (i : ℕ) (p : Pattern) → i < length ps → p ≡ get_or ps i p
    → patterns_of (map pattern_view (drop i ps)) ≡ pattern (pattern_view p) (patterns_of (map pattern_view (drop (i + 1) ps)))
patterns_at ps i p h is = ap (λ l. patterns_of (map pattern_view l)) (cons_at ps i p h is)

-- the keys from one on
pub keys_at : (ps : List PatternPair) (i : ℕ) (p : PatternPair) → i < length ps → p ≡ get_or ps i p
    → keys_of (map pattern_pair_view (drop i ps)) ≡ key (out-PatternPair p).key (pattern_view (out-PatternPair p).pattern) (keys_of (map pattern_pair_view (drop (i + 1) ps)))
keys_at ps i p h is =
    ap (λ l. keys_of (map pattern_pair_view l)) (cons_at ps i p h is)
    ∙ ap (λ (q : List ℕ × model.Pattern). key q.0 q.1 (keys_of (map pattern_pair_view (drop (i + 1) ps)))) (fold_out-PatternPair model.Pattern (List ℕ × model.Pattern) pattern_step pattern_pair_step p)

-- ---- pairs of a map

-- one more pair
pub pair_on : (made : List Value) (p : Value) (k : List ℕ) (v : value_model.Value) (rest : Assigns) → view p ≡ tuple (value (text k) (value v no_values))
    → append_values (values_view made) (pair_values (assign k v rest)) ≡ append_values (values_view (made ++ p ∷ [])) (pair_values rest)
pair_on [] p k v rest h = ap (λ w. value w (pair_values rest)) (sym h)
pair_on (x ∷ made) p k v rest h = ap (value (view x)) (pair_on made p k v rest h)

-- and no pair more
pub pairs_made : (made : List Value) → append_values (values_view made) no_values ≡ values_view made
pairs_made [] = refl
pairs_made (x ∷ made) = ap (value (view x)) (pairs_made made)

-- ---- what an iterator has left

pub counted_on : {A : Type 0} (m n : ℕ) (l : List A) (x : A) (rest : List A) → m ≡ length l → l ≡ x ∷ rest → n + 1 ≡ m → n ≡ length rest
counted_on m n l x rest h is step = let long = ap length is in omega arith

pub none_left : {A : Type 0} (m : ℕ) (l : List A) → m ≡ length l → m ≡ 0 → l ≡ []
none_left m [] h z = refl
none_left m (x ∷ l) h z = absurd (omega arith)
