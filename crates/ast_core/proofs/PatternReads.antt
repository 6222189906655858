-- The names that a pattern binds, from those that what stands inside it binds.
use Rattle.std.proofs.Common.{◌≡◌, ◌⊎◌, inl, inr, ℕ, List, [], ◌∷◌, ◌++◌, map, refl, sym, ap, ◌∙◌}
use Rattle.ast_core.specs.declared.pattern.Pattern.{Pattern}
use Rattle.ast_core.specs.declared.pattern.PatternPair.{PatternPair, out-PatternPair}
use Rattle.ast_core.specs.declared.pattern.Pattern.TheOpen.{Pattern-F}
use Rattle.ast_core.specs.declared.pattern.Pattern.TheVariants as form
use Rattle.ast_core.specs.declared.pattern.Pattern.TheFolds.{fold-roll-Pattern, fold_out-PatternPair}
use Rattle.ast_core.specs.Syntax as model
use Rattle.ast_core.specs.PatternView.{patterns_of, keys_of, pattern_view, pattern_step, pattern_pair_step}
use Rattle.ast_core.specs.Free.{bound, bound_all as patterns_bind, bound_pairs as keys_bind}
use Rattle.ast_core.specs.NamesIn.{all_bound, bound_by, pattern_pair_view, bound_by_key}

items_bind : (ps : List Pattern) → patterns_bind (patterns_of (map pattern_view ps)) ≡ all_bound bound_by ps
items_bind [] = refl
items_bind (p ∷ ps) = ap (λ xs. bound_by p ++ xs) (items_bind ps)

pairs_bind : (ps : List PatternPair) → keys_bind (keys_of (map pattern_pair_view ps)) ≡ all_bound bound_by_key ps
pairs_bind [] = refl
pairs_bind (p ∷ ps) = ap (λ xs. bound_by_key p ++ xs) (pairs_bind ps)

binds_tuple : (ps : List Pattern) → bound_by (form.Tuple ps) ≡ all_bound bound_by ps
binds_tuple ps = ap bound_by (sym (form.rolls-Tuple ps)) ∙ ap bound (fold-roll-Pattern model.Pattern (List ℕ × model.Pattern) pattern_step pattern_pair_step (Pattern-F.Tuple ps)) ∙ items_bind ps

binds_list : (ps : List Pattern) → bound_by (form.List ps) ≡ all_bound bound_by ps
binds_list ps = ap bound_by (sym (form.rolls-List ps)) ∙ ap bound (fold-roll-Pattern model.Pattern (List ℕ × model.Pattern) pattern_step pattern_pair_step (Pattern-F.List ps)) ∙ items_bind ps

pub binds_map : (ps : List PatternPair) → bound_by (form.Map ps) ≡ all_bound bound_by_key ps
binds_map ps = ap bound_by (sym (form.rolls-Map ps)) ∙ ap bound (fold-roll-Pattern model.Pattern (List ℕ × model.Pattern) pattern_step pattern_pair_step (Pattern-F.Map ps)) ∙ pairs_bind ps

pub binds_pair : (p : PatternPair) → bound_by_key p ≡ bound_by (out-PatternPair p).pattern
binds_pair p = ap (λ (q : List ℕ × model.Pattern). bound q.1) (fold_out-PatternPair model.Pattern (List ℕ × model.Pattern) pattern_step pattern_pair_step p)

pub binds_items : (p : Pattern) (ps : List Pattern) → (p ≡ form.Tuple ps) ⊎ (p ≡ form.List ps) → bound_by p ≡ all_bound bound_by ps
binds_items p ps (inl is) = ap bound_by is ∙ binds_tuple ps
binds_items p ps (inr is) = ap bound_by is ∙ binds_list ps
