-- Whether patterns match, one part behind the other.
use Rattle.std.proofs.Common.{◌≡◌, ◌<◌, ◌+◌, ℕ, suc, List, [], ◌∷◌, length, get_or, drop, map, Bool, true, false, Option, Some, None, option_map, is_some, refl, sym, ap, ◌∙◌}
use Rattle.std.specs.Option.{option_copied}
use denote.Ref.{Bor}
use Rattle.text_core.specs.declared.by_key.KeyValue.{KeyValue}
use Rattle.text_core.specs.Keyed as keyed
use Rattle.text_core.proofs.Keyed.{cons_at}
use Rattle.value_core.specs.Value as model
use Rattle.value_core.specs.Value.{Assigns}
use Rattle.value_core.specs.View.{view, values_view, assigns_view}
use Rattle.value_core.specs.declared.value.Value.{Value}
use Rattle.ast_core.specs.Syntax as syntax
use Rattle.ast_core.specs.Syntax.{PatternPairs, pattern, key}
use Rattle.ast_core.specs.declared.pattern.Pattern.{Pattern}
use Rattle.ast_core.specs.PatternView.{pattern_view, patterns_of}
use Rattle.doc_model.specs.Environment.{lookup, both_bind, binding, binding_all, binding_pairs}
use Rattle.expr_eval.proofs.Views.{lookup_seen}
use Rattle.comprehension.proofs.Binds.{at_key}
use Rattle.comprehension.proofs.Parts.{patterns_at}

-- the first part matches
pub both_on : (x y : Option Assigns) → is_some x ≡ true → is_some (both_bind x y) ≡ is_some y
both_on None y h = absurd cc
both_on (Some as') None h = refl
both_on (Some as') (Some bs) h = refl

-- one of the parts does not
pub first_off : (x y : Option Assigns) → is_some x ≡ false → is_some (both_bind x y) ≡ false
first_off None y h = refl
first_off (Some as') y h = absurd cc

second_off : (x y : Option Assigns) → is_some y ≡ false → is_some (both_bind x y) ≡ false
second_off None y h = refl
second_off (Some as') None h = refl
second_off (Some as') (Some bs) h = absurd cc

pub lengths_differ : (ps : List Pattern) (vs : List Value) → (length ps ≡ length vs → ⊥) → false ≡ is_some (binding_all (patterns_of (map pattern_view ps)) (values_view vs))
lengths_differ [] [] h = absurd (h refl)
lengths_differ [] (v ∷ vs) h = refl
lengths_differ (p ∷ ps) [] h = refl
lengths_differ (p ∷ ps) (v ∷ vs) h = sym (second_off (binding (pattern_view p) (view v)) _ (sym (lengths_differ ps vs (λ e. h (ap suc e)))))

-- the parts from one on
parts_at : (ps : List Pattern) (vs : List Value) (i : ℕ) (p : Pattern) (v : Value) → i < length ps → i < length vs → p ≡ get_or ps i p → v ≡ get_or vs i v
    → binding_all (patterns_of (map pattern_view (drop i ps))) (values_view (drop i vs))
    ≡ both_bind (binding (pattern_view p) (view v)) (binding_all (patterns_of (map pattern_view (drop (i + 1) ps))) (values_view (drop (i + 1) vs)))
parts_at ps vs i p v h k is at =
    ap (λ qs. binding_all qs (values_view (drop i vs))) (patterns_at ps i p h is)
    ∙ ap (λ l. binding_all (pattern (pattern_view p) (patterns_of (map pattern_view (drop (i + 1) ps)))) (values_view l)) (cons_at vs i v k at)

pub part_on : (ps : List Pattern) (vs : List Value) (i : ℕ) (p : Pattern) (v : Value) (whole : Bool) → i < length ps → i < length vs → p ≡ get_or ps i p → v ≡ get_or vs i v
    → whole ≡ is_some (binding_all (patterns_of (map pattern_view (drop i ps))) (values_view (drop i vs))) → is_some (binding (pattern_view p) (view v)) ≡ true
    → whole ≡ is_some (binding_all (patterns_of (map pattern_view (drop (i + 1) ps))) (values_view (drop (i + 1) vs)))
part_on ps vs i p v whole h k is at so_far m =
    so_far ∙ ap is_some (parts_at ps vs i p v h k is at) ∙ both_on (binding (pattern_view p) (view v)) (binding_all (patterns_of (map pattern_view (drop (i + 1) ps))) (values_view (drop (i + 1) vs))) m

pub part_off : (ps : List Pattern) (vs : List Value) (i : ℕ) (p : Pattern) (v : Value) (whole : Bool) → i < length ps → i < length vs → p ≡ get_or ps i p → v ≡ get_or vs i v
    → whole ≡ is_some (binding_all (patterns_of (map pattern_view (drop i ps))) (values_view (drop i vs))) → is_some (binding (pattern_view p) (view v)) ≡ false → false ≡ whole
part_off ps vs i p v whole h k is at so_far m =
    sym (so_far ∙ ap is_some (parts_at ps vs i p v h k is at) ∙ first_off (binding (pattern_view p) (view v)) (binding_all (patterns_of (map pattern_view (drop (i + 1) ps))) (values_view (drop (i + 1) vs))) m)

-- ---- keys of a map

pub key_on : (k : List ℕ) (p : syntax.Pattern) (ps : PatternPairs) (as' : Assigns) (v : model.Value) → Some v ≡ lookup k as' → is_some (binding p v) ≡ true → is_some (binding_pairs (key k p ps) as') ≡ is_some (binding_pairs ps as')
key_on k p ps as' v at h = ap (λ o. is_some (both_bind (at_key p o) (binding_pairs ps as'))) (sym at) ∙ both_on (binding p v) (binding_pairs ps as') h

pub key_off : (k : List ℕ) (p : syntax.Pattern) (ps : PatternPairs) (as' : Assigns) (v : model.Value) → Some v ≡ lookup k as' → is_some (binding p v) ≡ false → is_some (binding_pairs (key k p ps) as') ≡ false
key_off k p ps as' v at h = ap (λ o. is_some (both_bind (at_key p o) (binding_pairs ps as'))) (sym at) ∙ first_off (binding p v) (binding_pairs ps as') h

pub key_absent : (k : List ℕ) (p : syntax.Pattern) (ps : PatternPairs) (as' : Assigns) → None ≡ lookup k as' → is_some (binding_pairs (key k p ps) as') ≡ false
key_absent k p ps as' at = ap (λ o. is_some (both_bind (at_key p o) (binding_pairs ps as'))) (sym at)

-- what stands at a key, where it is asked for by another text of it
pub seen_at : (es : List (KeyValue Value)) (k l : List ℕ) (r o : Option (Bor Value)) → option_copied r ≡ keyed.lookup k es → k ≡ l → r ≡ o → option_map view (option_copied o) ≡ lookup l (assigns_view es)
seen_at es k l r o h same is =
    ap (λ p. option_map view (option_copied p)) (sym is) ∙ ap (option_map view) h ∙ lookup_seen k es ∙ ap (λ m. lookup m (assigns_view es)) same
