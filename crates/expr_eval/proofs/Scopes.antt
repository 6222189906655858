-- Scopes of variables, one inside the other.
use Rattle.std.proofs.Common.{◌≡◌, ◌<◌, ◌≤◌, ◌+◌, ◌-◌, ◌++◌, ℕ, List, [], ◌∷◌, length, get_or, take, Option, option_map, sym, ap, ◌∙◌, arith}
use Rattle.std.proofs.lemmas.List.{take_more}
use Rattle.std.proofs.lemmas.List.Sums.{fold-append}
use Rattle.text_core.specs.declared.by_key.KeyValue.{KeyValue}
use Rattle.text_core.specs.Keyed as keyed
use Rattle.value_core.specs.Value.{no_assigns}
use Rattle.value_core.specs.View.{view, assigns_view}
use Rattle.value_core.specs.declared.value.Value.{Value}
use Rattle.doc_model.specs.Environment.{lookup, over}
use Rattle.expr_eval.specs.Variables.{within, variables_view}
use Rattle.expr_eval.proofs.Views.{first_of, over_seen}

-- a scope that is entered stands over those outside it
pub entered : (ss : List (List (KeyValue Value))) (s : List (KeyValue Value)) → variables_view (ss ++ s ∷ []) ≡ over (assigns_view s) (variables_view ss)
entered ss s = fold-append within no_assigns ss (s ∷ [])

-- what a scope binds is found before what stands outside it
pub found_before : (k : List ℕ) (ss : List (List (KeyValue Value))) (i : ℕ) (s : List (KeyValue Value)) (o : Option Value) → 0 < i → i ≤ length ss → s ≡ get_or ss (i - 1) s → o ≡ keyed.lookup k s
    → lookup k (variables_view (take i ss)) ≡ first_of (option_map view o) (lookup k (variables_view (take (i - 1) ss)))
found_before k ss i s o some most is at =
    let back : i ≡ i - 1 + 1 = omega arith in
    let h : i - 1 < length ss = omega arith in
    ap (λ n. lookup k (variables_view (take n ss))) back
    ∙ ap (λ l. lookup k (variables_view l)) (take_more ss (i - 1) s h ∙ ap (λ t. take (i - 1) ss ++ t ∷ []) (sym is))
    ∙ ap (lookup k) (entered (take (i - 1) ss) s) ∙ over_seen k s (variables_view (take (i - 1) ss)) o at
