-- What patterns bind, one part behind the other.
use Rattle.std.proofs.Common.{◌≡◌, ◌<◌, ◌+◌, ◌++◌, ℕ, List, [], ◌∷◌, length, get_or, drop, map, Bool, true, false, not, ◌||◌, Option, Some, None, option_map, is_some, MatchOption, if◌then◌else◌, refl, sym, ap, subst, ◌∙◌}
use Rattle.std.proofs.lemmas.Slice.Eq.{bytes_eq-Decides}
use Rattle.std.specs.Str.{bytes_eq}
use Rattle.text_core.specs.declared.by_key.KeyValue.{KeyValue}
use Rattle.text_core.specs.Keyed as keyed
use Rattle.value_core.specs.Value as model
use Rattle.value_core.specs.Value.{Assigns, no_assigns, assign, same}
use Rattle.value_core.specs.View.{view, values_view, assigns_view}
use Rattle.value_core.specs.declared.value.Value.{Value}
use Rattle.ast_core.specs.Syntax as syntax
use Rattle.ast_core.specs.Syntax.{literal, no_patterns, pattern, PatternPairs, no_keys, key}
use Rattle.ast_core.specs.declared.pattern.Pattern.{Pattern}
use Rattle.ast_core.specs.PatternView.{pattern_view, patterns_of}
use Rattle.doc_model.specs.Environment.{lookup, over, both_bind, binding, binding_all, binding_pairs}
use Rattle.expr_eval.proofs.Views.{lookup_seen}
use Rattle.comprehension.specs.Bound.{behind, has_key}
use Rattle.comprehension.proofs.Parts.{patterns_at, none_left}

-- ---- variables over others

over_none : (as' : Assigns) → over as' no_assigns ≡ as'
over_none no_assigns = refl
over_none (assign k v as') = ap (assign k v) (over_none as')

over_over : (as' bs cs : Assigns) → over (over as' bs) cs ≡ over as' (over bs cs)
over_over no_assigns bs cs = refl
over_over (assign k v as') bs cs = ap (assign k v) (over_over as' bs cs)

-- bindings, and others behind them
pub bound_append : (xs ys : List (KeyValue Value)) → assigns_view (xs ++ ys) ≡ over (assigns_view xs) (assigns_view ys)
bound_append [] ys = refl
bound_append (x ∷ xs) ys = ap (assign x.key (view x.value)) (bound_append xs ys)

-- ---- behind what is bound

-- before a part is bound, there is nothing
pub behind_none : (o : Option Assigns) → behind [] o ≡ o
behind_none None = refl
behind_none (Some as') = refl

-- a part that binds no name
pub behind_nothing : (bound : List (KeyValue Value)) → Some (assigns_view bound) ≡ behind bound (Some no_assigns)
behind_nothing bound = ap Some (sym (over_none (assigns_view bound)))

-- a literal binds no name, where it is met
pub literal_kept : (bound : List (KeyValue Value)) (w v : model.Value) → option_map assigns_view (if is_some (binding (literal w) v) then Some bound else None) ≡ behind bound (binding (literal w) v)
literal_kept bound w v = by (same w v)
  where
    by : (b : Bool) → option_map assigns_view (if is_some (if b then Some no_assigns else None) then Some bound else None) ≡ behind bound (if b then Some no_assigns else None)
    by true = behind_nothing bound
    by false = refl

-- the next part binds
pub bind_on : (bound more : List (KeyValue Value)) (x y whole : Option Assigns) → whole ≡ behind bound (both_bind x y) → Some (assigns_view more) ≡ behind bound x → whole ≡ behind more y
bind_on bound more None y whole h b = absurd cc
bind_on bound more (Some as') None whole h b = h
bind_on bound more (Some as') (Some bs) whole h b =
    let seen : assigns_view more ≡ over (assigns_view bound) as' = cc in
    h ∙ ap Some (sym (over_over (assigns_view bound) as' bs) ∙ ap (λ cs. over cs bs) (sym seen))

-- the next part does not match
pub bind_off : (bound : List (KeyValue Value)) (x y whole : Option Assigns) → whole ≡ behind bound (both_bind x y) → None ≡ behind bound x → None ≡ whole
bind_off bound None y whole h b = sym h
bind_off bound (Some as') y whole h b = absurd cc

-- ---- parts of a list or of a tuple

-- the next pattern and the next item
pub all_at : (ps : List Pattern) (i : ℕ) (p : Pattern) (l : List Value) (v : Value) (rest : List Value) → i < length ps → p ≡ get_or ps i p → l ≡ v ∷ rest
    → binding_all (patterns_of (map pattern_view (drop i ps))) (values_view l)
    ≡ both_bind (binding (pattern_view p) (view v)) (binding_all (patterns_of (map pattern_view (drop (i + 1) ps))) (values_view rest))
all_at ps i p l v rest h is at =
    ap (λ qs. binding_all qs (values_view l)) (patterns_at ps i p h is)
    ∙ ap (λ k. binding_all (pattern (pattern_view p) (patterns_of (map pattern_view (drop (i + 1) ps)))) (values_view k)) at

-- no pattern is left: all is bound where no item is left either
pub all_met : (bound : List (KeyValue Value)) (l rest : List Value) (m n : ℕ) (next : Option Value) (b : Bool) → m ≡ length l
    → MatchOption next ((m ≡ 0) × (n ≡ 0)) (λ v. (l ≡ v ∷ rest) × (n + 1 ≡ m)) → is_some next ≡ not b
    → option_map assigns_view (if b then Some bound else None) ≡ behind bound (binding_all no_patterns (values_view l))
all_met bound l rest m n None true h steps none = behind_nothing bound ∙ ap (λ k. behind bound (binding_all no_patterns (values_view k))) (sym (none_left m l h steps.0))
all_met bound l rest m n None false h steps none = absurd cc
all_met bound l rest m n (Some v) true h steps some = absurd cc
all_met bound l rest m n (Some v) false h steps some = ap (λ k. behind bound (binding_all no_patterns (values_view k))) (sym steps.0)

-- ---- keys of a map

-- what the pattern at a key binds, where the key is there
abbrev pub at_key : syntax.Pattern → Option model.Value → Option Assigns
at_key p o = elim o [ None ↦ None | Some v ↦ binding p v ]

pub key_on : (bound more : List (KeyValue Value)) (k : List ℕ) (p : syntax.Pattern) (ps : PatternPairs) (as' : Assigns) (v : model.Value) (whole : Option Assigns)
    → whole ≡ behind bound (binding_pairs (key k p ps) as') → Some v ≡ lookup k as' → Some (assigns_view more) ≡ behind bound (binding p v) → whole ≡ behind more (binding_pairs ps as')
key_on bound more k p ps as' v whole h at b =
    bind_on bound more (binding p v) (binding_pairs ps as') whole (h ∙ ap (λ o. behind bound (both_bind (at_key p o) (binding_pairs ps as'))) (sym at)) b

pub key_off : (bound : List (KeyValue Value)) (k : List ℕ) (p : syntax.Pattern) (ps : PatternPairs) (as' : Assigns) (v : model.Value) (whole : Option Assigns)
    → whole ≡ behind bound (binding_pairs (key k p ps) as') → Some v ≡ lookup k as' → None ≡ behind bound (binding p v) → None ≡ whole
key_off bound k p ps as' v whole h at b =
    bind_off bound (binding p v) (binding_pairs ps as') whole (h ∙ ap (λ o. behind bound (both_bind (at_key p o) (binding_pairs ps as'))) (sym at)) b

pub key_absent : (bound : List (KeyValue Value)) (k : List ℕ) (p : syntax.Pattern) (ps : PatternPairs) (as' : Assigns) (whole : Option Assigns)
    → whole ≡ behind bound (binding_pairs (key k p ps) as') → None ≡ lookup k as' → None ≡ whole
key_absent bound k p ps as' whole h at = sym (h ∙ ap (λ o. behind bound (both_bind (at_key p o) (binding_pairs ps as'))) (sym at))

-- each other key finds what it found before
other_left : (l k : List ℕ) (es : List (KeyValue Value)) → bytes_eq l k ≡ false → keyed.lookup l (keyed.without_key k es) ≡ keyed.lookup l es
other_left l k [] h = refl
other_left l k (e ∷ es) h = by (bytes_eq k e.key) refl (other_left l k es h)
  where
    by : (b : Bool) → bytes_eq k e.key ≡ b → keyed.lookup l (keyed.without_key k es) ≡ keyed.lookup l es
        → keyed.lookup l (if b then es else e ∷ keyed.without_key k es) ≡ keyed.lookup l (e ∷ es)
    by true is rest = let other : bytes_eq l e.key ≡ false = subst (λ m. bytes_eq l m ≡ false) ((bytes_eq-Decides k e.key).0 is) h in rw other refl
    by false is rest = ap (λ o. if bytes_eq l e.key then Some e.value else o) rest

neither : (a b : Bool) → (a || b) ≡ false → (a ≡ false) × (b ≡ false)
neither true b h = absurd cc
neither false b h = (refl, h)

-- a pattern that does not have the key binds what it bound before
pub key_taken : (ps : PatternPairs) (k : List ℕ) (es : List (KeyValue Value)) → has_key k ps ≡ false → binding_pairs ps (assigns_view (keyed.without_key k es)) ≡ binding_pairs ps (assigns_view es)
key_taken no_keys k es h = refl
key_taken (key l p ps) k es h =
    let apart = neither (bytes_eq l k) (has_key k ps) h in
    ap (λ o. both_bind (at_key p o) (binding_pairs ps (assigns_view (keyed.without_key k es))))
    (sym (lookup_seen l (keyed.without_key k es)) ∙ ap (option_map view) (other_left l k es apart.0) ∙ lookup_seen l es)
    ∙ ap (both_bind (at_key p (lookup l (assigns_view es)))) (key_taken ps k es apart.1)
