-- A place as it is rendered whole.
use Rattle.std.proofs.Common.{◌≡◌, ◌<◌, ◌≤◌, ◌+◌, ◌-◌, ◌⊎◌, inl, inr, arith, ℕ, zero, suc, List, [], ◌∷◌, ◌++◌, drop, get_or, length, map, Result, Ok, Err, Option, Some, None, Bool, true, false, refl, sym, ap, ◌∙◌, subst}
use Rattle.std.proofs.Math.ListN.{drop_of_length-le}
use Rattle.std.proofs.lemmas.List.{map-append}
use Rattle.serde_json.specs.Data.{Data, Items as JsonItems}
use Rattle.serde_json.specs.View.{items_of as items_of_values}
use Rattle.diff_tree.proofs.Order.{cons_at}
use Rattle.text_core.specs.Escape.{escape_text}
use Rattle.text_core.specs.declared.by_key.KeyValue.{KeyValue}
use Rattle.value_core.specs.Value.{Value, Values}
use Rattle.value_core.specs.declared.raise.Raise.{Raise}
use Rattle.value_core.specs.declared.value.Value.{Value as Stored}
use Rattle.ast_core.specs.ExprView.{expr_view}
use Rattle.ast_core.specs.Free.{free_names, free_place}
use Rattle.ast_core.specs.PatternView.{pattern_view}
use Rattle.ast_core.specs.Places.{cut, places_in}
use Rattle.ast_core.specs.Syntax as model
use Rattle.ast_core.specs.Syntax.{Nodes, Place, put, attribute, spread, for_place}
use Rattle.ast_core.specs.declared.expr.Expr.{Expr}
use Rattle.ast_core.specs.declared.pattern.Pattern.{Pattern}
use Rattle.ast_core.specs.declared.walk.Reads.{Reads}
use Rattle.diff_tree.specs.Parts.{place_data, row_data}
use Rattle.diff_tree.specs.Spelling.{tree_json}
use Rattle.diff_tree.specs.Tree.{Rows, text as tree_text}
use Rattle.diff_tree.specs.declared.part.PlaceValue.{PlaceValue}
use Rattle.diff_tree.specs.declared.part.Row.{Row}
use Rattle.diff_tree.specs.declared.part.PlaceValue.TheVariants.{Text}
use Rattle.doc_model.specs.Calls.{items_of}
use Rattle.doc_model.specs.Environment.{Env, bind, reading}
use Rattle.doc_model.specs.Evaluation.{Res, then_do, on_res, eval_expr, printed}
use Rattle.doc_model.specs.Scopes.{Chosen, Deeper, row_scopes}
use Rattle.doc_model.specs.Trace.{Item, Items, ItemRows, met_branch, met_nothing, met_rows, met_text}
use Rattle.doc_model.specs.Tracing.{trace, trace_place, trace_rows}
use Rattle.doc_model.specs.Whole.{rows_tree, whole_places, whole_rows}
use Rattle.expr_eval.specs.declared.variables.Variables.{Variables}
use Rattle.slot_compile.specs.Numbering.{AllReadRight, ReadsRight, node_at, place_in}
use Rattle.slot_compile.specs.declared.compiled.Branch.{Branch}
use Rattle.slot_compile.specs.declared.compiled.Dynamic.{Dynamic}
use Rattle.slot_compile.specs.declared.compiled.Dynamic.TheVariants.{Put, Attribute, Spread, If, Case, For}
use Rattle.diff_render.specs.Again.{is_branching}
use Rattle.diff_render.specs.Answers.{Answers}
use Rattle.diff_render.specs.Prints.{Remembers, of_text, print_step, print_view, prints_view, rows_view}
use Rattle.diff_render.specs.Prints as prints
use Rattle.diff_render.specs.Renders.{AreWhole, AreWholeRows, IsBranch, IsWhole}
use Rattle.diff_render.specs.Scope.{AreScopes, alone, scope_in}
use Rattle.diff_render.specs.Shown.{shown_at}
use Rattle.diff_render.specs.Taken.{IsChoice, IsTaken, is_loop, looped, taken}
use Rattle.diff_render.specs.Values.{rows_in, rows_seen, trees_seen, values_seen}
use Rattle.diff_render.specs.declared.choice.Choice.{Choice}
use Rattle.diff_render.specs.declared.fault.RenderFault.{RenderFault}
use Rattle.diff_render.specs.declared.print.Print.{Print}
use Rattle.diff_render.specs.declared.print.Print.TheOpen.{Print-F}
use Rattle.diff_render.specs.declared.print.Print.TheFolds.{fold-roll-Print}
use Rattle.diff_render.specs.declared.print.Print.TheVariants as kept
use Rattle.diff_render.proofs.Branches.{choice_raises, loop_branches_not, nothing_met, taken_met, taken_raises}
use Rattle.diff_render.proofs.Passing.{fault_passes}
use Rattle.diff_render.proofs.Puts.{text_seen}
use Rattle.diff_render.proofs.Sent.{row_items_of}
use Rattle.diff_render.proofs.Kept.{below, prints_more}
use Rattle.diff_render.proofs.Progress.{Progress, RowProgress, begun_rows, ended, ended_rows, further, further_row, raised, raised_row}
use Rattle.diff_render.proofs.Wholes.{rows_more, rows_print}

-- a dynamic with branches, and one that shows a text
abbrev pub Branching : Dynamic → Type 0
Branching d = ((x : Expr) × (y : ℕ) × (z : Option ℕ) × (d ≡ If x y z)) ⊎ ((x : Expr) × (bs : List Branch) × (d ≡ Case x bs))

abbrev pub Flat : Dynamic → Type 0
Flat d = ((x : Expr) × (d ≡ Put x)) ⊎ (((n : List ℕ) × (x : Expr) × (d ≡ Attribute n x)) ⊎ ((x : Expr) × (d ≡ Spread x)))

pub branches : (t : Nodes) (d : Dynamic) → Branching d → is_branching (place_in t d) ≡ true
branches t d (inl h) = ap (λ e. is_branching (place_in t e)) h.3
branches t d (inr h) = ap (λ e. is_branching (place_in t e)) h.2

pub no_loop : (p : Place) → is_branching p ≡ true → is_loop p ≡ false
no_loop p h = by (is_loop p) refl
  where
    by : (b : Bool) → is_loop p ≡ b → b ≡ false
    by true e = absurd (loop_branches_not p h e)
    by false e = refl

pub text_print : print_view kept.Text ≡ of_text
text_print = ap print_view (sym kept.rolls-Text) ∙ fold-roll-Print prints.Print print_step Print-F.Text

on_twice : {A B C : Type 0} (f : B → C) (g : A → B) (r : Res A) → on_res (λ a. f (g a)) r ≡ on_res f (on_res g r)
on_twice f g (Ok a) = refl
on_twice f g (Err e) = refl

-- what an answer tells of a place
abbrev pub Told : Nodes → Deeper Items → Env → Place → PlaceValue × Print → Type 0
Told t go env p r = (i : Item) × (trace_place alone go env p ≡ Ok i) × IsWhole t env p r i

module _ (t : Nodes) (go : Deeper Items) (env : Env) where
  -- a place that shows a text
  text_told : (p : Place) (vs : List (Option Value)) (x : List ℕ) → trace_place alone go env p ≡ on_res (met_text vs) (shown_at env p) → shown_at env p ≡ Ok x → is_loop p ≡ false → taken env p ≡ Ok None
      → Told t go env p (Text x, kept.Text)
  text_told p vs x met shows no_loop none = (met_text vs x, met ∙ ap (on_res (met_text vs)) shows, record { value = text_seen x; remembered = subst (λ q. Remembers t env q p) (sym text_print) (no_loop, none) })

  pub flat_told : (d : Dynamic) → Flat d → (x : List ℕ) → shown_at env (place_in t d) ≡ Ok x → Told t go env (place_in t d) (Text x, kept.Text)
  flat_told d (inl (e, is)) x shows =
      subst (λ y. Told t go env (place_in t y) (Text x, kept.Text)) (sym is)
      (text_told (put (expr_view e)) (reading env (free_names (expr_view e))) x (on_twice (met_text (reading env (free_names (expr_view e)))) escape_text (then_do (eval_expr env (expr_view e)) printed))
      (ap (λ y. shown_at env (place_in t y)) (sym is) ∙ shows) refl refl)
  flat_told d (inr (inl (n, e, is))) x shows =
      subst (λ y. Told t go env (place_in t y) (Text x, kept.Text)) (sym is)
      (text_told (attribute n (expr_view e)) (reading env (free_names (expr_view e))) x refl (ap (λ y. shown_at env (place_in t y)) (sym is) ∙ shows) refl refl)
  flat_told d (inr (inr (e, is))) x shows =
      subst (λ y. Told t go env (place_in t y) (Text x, kept.Text)) (sym is)
      (text_told (spread (expr_view e)) (reading env (free_names (expr_view e))) x refl (ap (λ y. shown_at env (place_in t y)) (sym is) ∙ shows) refl refl)

  -- a place that takes no branch
  pub none_told : (p : Place) (x : List ℕ) → is_branching p ≡ true → taken env p ≡ Ok None → x ≡ [] → Told t go env p (Text x, kept.Text)
  none_told p x branching none empty = (
    met_nothing,
    nothing_met t go env env env p branching none,
    record { value = text_seen x ∙ ap (λ y. tree_json (tree_text y)) empty; remembered = subst (λ q. Remembers t env q p) (sym text_print) (no_loop p branching, none) },
  )

-- a branch that is taken
pub branch_told : (t : Nodes) (k : ℕ) (env : Env) (p : Place) (choice : Choice) (r : Result (PlaceValue × Print) RenderFault) → is_branching p ≡ true
    → Answers (IsTaken t) (Ok (Some choice)) (taken env p)
    → ((d : Chosen) → IsChoice t choice d → Answers (IsBranch t env choice d) r (trace alone k (bind d.variables env) d.nodes))
    → Answers (IsWhole t env p) r (trace_place alone (trace alone k) env p)
branch_told t k env p choice r branching (None, took, is) h = absurd is
branch_told t k env p choice r branching (Some d, took, is) h = by r (h d is)
  where
    by : (s : Result (PlaceValue × Print) RenderFault) → Answers (IsBranch t env choice d) s (trace alone k (bind d.variables env) d.nodes) → Answers (IsWhole t env p) s (trace_place alone (trace alone k) env p)
    by (Ok x) g = (
      met_branch d.index (cut d.nodes) g.0,
      taken_met t (trace alone k) env env env p d g.0 branching took g.1,
      record { value = g.2.value; remembered = subst (λ q. Remembers t env q p) (sym g.2.print) (d, took, is, g.2.remembered) },
    )
    by (Err f) g =
        fault_passes (IsBranch t env choice d) (IsWhole t env p) f (trace alone k (bind d.variables env) d.nodes) (trace_place alone (trace alone k) env p)
        (λ e q. taken_raises t (trace alone k) env env env p d e branching took q) g

pub choice_fault : (t : Nodes) (k : ℕ) (env : Env) (p : Place) (f : RenderFault) → is_branching p ≡ true → Answers (IsTaken t) (Err f) (taken env p)
    → Answers (IsWhole t env p) (Err f) (trace_place alone (trace alone k) env p)
choice_fault t k env p f branching h =
    fault_passes (IsTaken t) (IsWhole t env p) f (taken env p) (trace_place alone (trace alone k) env p) (λ e q. choice_raises t (trace alone k) env env env p e branching q) h

pub none_taken : (t : Nodes) (k : ℕ) (env : Env) (p : Place) (x : List ℕ) → is_branching p ≡ true → Answers (IsTaken t) (Ok None) (taken env p) → x ≡ []
    → Told t (trace alone k) env p (Text x, kept.Text)
none_taken t k env p x branching (None, took, is) empty = none_told t (trace alone k) env p x branching took empty
none_taken t k env p x branching (Some d, took, is) empty = absurd is

-- what a loop meets, from the scopes of its rows
pub loop_met : (go : Deeper Items) (env : Env) (q : model.Pattern) (e : model.Expr) (body : Nodes)
    → trace_place alone go env (for_place q e body) ≡ on_res (met_rows (reading env (free_place (for_place q e body))) (cut body)) (then_do (looped env (for_place q e body)) (trace_rows go body))
loop_met go env q e body = ap (on_res (met_rows (reading env (free_place (for_place q e body))) (cut body))) (by (then_do (eval_expr env e) items_of))
  where
    by : (r : Res Values) → then_do r (λ vs. trace_rows go body (row_scopes env q vs)) ≡ then_do (on_res (row_scopes env q) r) (trace_rows go body)
    by (Ok vs) = refl
    by (Err x) = refl

module _ (t : Nodes) (k : ℕ) (as' : List (KeyValue Stored)) (vs : Variables) (d : Dynamic) (l : Expr) (p : Pattern) (r : Reads) (b : ℕ) (is : d ≡ For l p r b) where
  abbrev env : Env
  env = scope_in as' vs

  abbrev loop : Place
  loop = for_place (pattern_view p) (expr_view l) (node_at t b)

  at_loop : (P : Place → Type 0) → P loop → P (place_in t d)
  at_loop P h = subst P (ap (place_in t) (sym is)) h

  pub scopes_fault : (f : RenderFault) → Answers (AreScopes as' vs) (Err f) (looped env loop) → Answers (IsWhole t env (place_in t d)) (Err f) (trace_place alone (trace alone k) env (place_in t d))
  scopes_fault f h = at_loop (λ q. Answers (IsWhole t env q) (Err f) (trace_place alone (trace alone k) env q))
      (fault_passes (AreScopes as' vs) (IsWhole t env loop) f (looped env loop) (trace_place alone (trace alone k) env loop)
      (λ e q. loop_met (trace alone k) env (pattern_view p) (expr_view l) (node_at t b) ∙ ap (λ x. on_res (met_rows (reading env (free_place loop)) (cut (node_at t b))) (then_do x (trace_rows (trace alone k) (node_at t b)))) q) h)

  pub rows_fault : (bound : List (List (KeyValue Stored))) (f : RenderFault) → Answers (AreScopes as' vs) (Ok bound) (looped env loop)
      → ((envs : List Env) → AreScopes as' vs bound envs → Answers (AreWholeRows t envs (node_at t b)) (Err f) (trace_rows (trace alone k) (node_at t b) envs))
      → Answers (IsWhole t env (place_in t d)) (Err f) (trace_place alone (trace alone k) env (place_in t d))
  rows_fault bound f (envs, over, are) h = at_loop (λ q. Answers (IsWhole t env q) (Err f) (trace_place alone (trace alone k) env q))
      (fault_passes (AreWholeRows t envs (node_at t b)) (IsWhole t env loop) f (trace_rows (trace alone k) (node_at t b) envs) (trace_place alone (trace alone k) env loop)
      (λ e q. loop_met (trace alone k) env (pattern_view p) (expr_view l) (node_at t b)
      ∙ ap (λ x. on_res (met_rows (reading env (free_place loop)) (cut (node_at t b))) (then_do x (trace_rows (trace alone k) (node_at t b)))) over
      ∙ ap (on_res (met_rows (reading env (free_place loop)) (cut (node_at t b)))) q)
      (h envs are))

  pub rows_told : (bound : List (List (KeyValue Stored))) (value : PlaceValue) (rows : List Row) (printed_rows : List (List Print)) → Answers (AreScopes as' vs) (Ok bound) (looped env loop)
      → ((envs : List Env) → AreScopes as' vs bound envs → Answers (AreWholeRows t envs (node_at t b)) (Ok (rows, printed_rows)) (trace_rows (trace alone k) (node_at t b) envs))
      → ((rs : Rows) → rows_seen rows ≡ rows_in rs → place_data value ≡ tree_json (rows_tree (cut (node_at t b)) rs))
      → Told t (trace alone k) env (place_in t d) (value, kept.Rows printed_rows)
  rows_told bound value rows printed_rows (envs, over, are) h listed = at_loop (λ q. Told t (trace alone k) env q (value, kept.Rows printed_rows)) (by (h envs are))
    where
      by : Answers (AreWholeRows t envs (node_at t b)) (Ok (rows, printed_rows)) (trace_rows (trace alone k) (node_at t b) envs) → Told t (trace alone k) env loop (value, kept.Rows printed_rows)
      by g = (
        met_rows (reading env (free_place loop)) (cut (node_at t b)) g.0,
        loop_met (trace alone k) env (pattern_view p) (expr_view l) (node_at t b)
            ∙ ap (λ x. on_res (met_rows (reading env (free_place loop)) (cut (node_at t b))) (then_do x (trace_rows (trace alone k) (node_at t b)))) over
            ∙ ap (on_res (met_rows (reading env (free_place loop)) (cut (node_at t b)))) g.1,
        record {
          value = listed (whole_rows g.0) g.2.rows;
          remembered = subst (λ q. Remembers t env q loop) (sym (rows_print printed_rows)) (refl, (envs, over, g.2.remembered));
        },
      )

-- ---- loops

-- one place more
pub places_more : (t : Nodes) (go : Deeper Items) (env : Env) (all : List Place) (items : List Dynamic) (i : ℕ) (x : Dynamic) (values after : List PlaceValue) (v : PlaceValue) (qs more : List Print) (q : Print)
    → i < length items → x ≡ get_or items i x
    → Progress t go env all (map (place_in t) (drop i items)) (λ is. trees_seen (whole_places is)) (λ is. trees_seen (whole_places is)) (values_seen values) (prints_view qs)
    → Answers (IsWhole t env (place_in t x)) (Ok (v, q)) (trace_place alone go env (place_in t x)) → after ≡ values ++ v ∷ [] → more ≡ qs ++ q ∷ []
    → Progress t go env all (map (place_in t) (drop (i + 1) items)) (λ is. trees_seen (whole_places is)) (λ is. trees_seen (whole_places is)) (values_seen after) (prints_view more)
places_more t go env all items i x values after v qs more q within at h told pushed printed_on =
    subst (λ vs. Progress t go env all left seen seen (values_seen vs) (prints_view more)) (sym pushed)
    (subst (λ ps. Progress t go env all left seen seen (values_seen (values ++ v ∷ [])) (prints_view ps)) (sym printed_on)
    (subst (λ vs. Progress t go env all left seen seen vs (prints_view (qs ++ q ∷ []))) (sym (map-append place_data values (v ∷ [])))
    (subst (Progress t go env all left seen seen (values_seen values ++ place_data v ∷ [])) (sym (prints_more qs q))
    (further t go env all (place_in t x) left seen seen seen (values_seen values) (prints_view qs) told.0 (place_data v) (print_view q)
    (subst (λ ds. Progress t go env all (map (place_in t) ds) seen seen (values_seen values) (prints_view qs)) (cons_at items i x within at) h)
    told.1 told.2.remembered (λ is. ap (λ d. d ∷ seen is) (sym told.2.value))))))
  where
    left : List Place
    left = map (place_in t) (drop (i + 1) items)

    seen : Items → List Data
    seen is = trees_seen (whole_places is)

pub places_fault : (t : Nodes) (k : ℕ) (env : Env) (ns : Nodes) (items : List Dynamic) (i : ℕ) (x : Dynamic) (values : List PlaceValue) (qs : List Print) (f : RenderFault)
    → (k ≡ 0 → ⊥) → i < length items → x ≡ get_or items i x
    → Progress t (trace alone (k - 1)) env (places_in ns) (map (place_in t) (drop i items)) (λ is. trees_seen (whole_places is)) (λ is. trees_seen (whole_places is)) (values_seen values) (prints_view qs)
    → Answers (IsWhole t env (place_in t x)) (Err f) (trace_place alone (trace alone (k - 1)) env (place_in t x))
    → Answers (AreWhole t env (places_in ns)) (Err f) (trace alone k env ns)
places_fault t k env ns items i x values qs f some within at h told =
    fault_passes (IsWhole t env (place_in t x)) (AreWhole t env (places_in ns)) f (trace_place alone (trace alone (k - 1)) env (place_in t x)) (trace alone k env ns)
    (λ e q. below k env ns some ∙ raised t (trace alone (k - 1)) env (places_in ns) (place_in t x) (map (place_in t) (drop (i + 1) items)) seen seen (values_seen values) (prints_view qs) e
    (subst (λ ds. Progress t (trace alone (k - 1)) env (places_in ns) (map (place_in t) ds) seen seen (values_seen values) (prints_view qs)) (cons_at items i x within at) h) q) told
  where
    seen : Items → List Data
    seen is = trees_seen (whole_places is)

pub places_told : (t : Nodes) (k : ℕ) (env : Env) (ns : Nodes) (items : List Dynamic) (i : ℕ) (values : List PlaceValue) (qs : List Print)
    → (k ≡ 0 → ⊥) → length items ≤ i
    → Progress t (trace alone (k - 1)) env (places_in ns) (map (place_in t) (drop i items)) (λ is. trees_seen (whole_places is)) (λ is. trees_seen (whole_places is)) (values_seen values) (prints_view qs)
    → Answers (AreWhole t env (places_in ns)) (Ok (values, qs)) (trace alone k env ns)
places_told t k env ns items i values qs some past h =
    let w = ended t (trace alone (k - 1)) env (places_in ns) seen seen (values_seen values) (prints_view qs)
    (subst (λ ds. Progress t (trace alone (k - 1)) env (places_in ns) (map (place_in t) ds) seen seen (values_seen values) (prints_view qs)) (drop_of_length-le items past) h) refl in
    (w.items, below k env ns some ∙ w.met, record { values = sym w.sent_is; remembered = w.remembered })
  where
    seen : Items → List Data
    seen is = trees_seen (whole_places is)

-- one row more
pub rows_more_told : (t : Nodes) (go : Deeper Items) (all : List Env) (env : Env) (left : List Env) (body : Nodes) (rows after : List Row) (row : Row) (values : List PlaceValue) (qs more : List (List Print)) (q : List Print)
    → RowProgress t go all (env ∷ left) body (λ rs. rows_in (whole_rows rs)) (rows_seen rows) (rows_view qs)
    → Answers (AreWhole t env (places_in body)) (Ok (values, q)) (go env body) → row_data row ≡ items_of_values (map place_data values) → after ≡ rows ++ row ∷ [] → more ≡ qs ++ q ∷ []
    → RowProgress t go all left body (λ rs. rows_in (whole_rows rs)) (rows_seen after) (rows_view more)
rows_more_told t go all env left body rows after row values qs more q h told made pushed printed_on =
    subst (λ vs. RowProgress t go all left body seen (rows_seen vs) (rows_view more)) (sym pushed)
    (subst (λ ps. RowProgress t go all left body seen (rows_seen (rows ++ row ∷ [])) (rows_view ps)) (sym printed_on)
    (subst (λ vs. RowProgress t go all left body seen vs (rows_view (qs ++ q ∷ []))) (sym (map-append row_data rows (row ∷ [])))
    (subst (RowProgress t go all left body seen (rows_seen rows ++ row_data row ∷ [])) (sym (rows_more qs q))
    (further_row t go all env left body seen (rows_seen rows) (rows_view qs) told.0 (row_data row) (prints_view q) h told.1 told.2.remembered (λ rs. ap (λ d. d ∷ seen rs) (sym (made ∙ ap items_of_values told.2.values ∙ row_items_of (whole_places told.0))))))))
  where
    seen : ItemRows → List JsonItems
    seen rs = rows_in (whole_rows rs)

pub rows_more_fault : (t : Nodes) (go : Deeper Items) (all : List Env) (env : Env) (left : List Env) (body : Nodes) (rows : List Row) (qs : List (List Print)) (f : RenderFault)
    → RowProgress t go all (env ∷ left) body (λ rs. rows_in (whole_rows rs)) (rows_seen rows) (rows_view qs)
    → Answers (AreWhole t env (places_in body)) (Err f) (go env body) → Answers (AreWholeRows t all body) (Err f) (trace_rows go body all)
rows_more_fault t go all env left body rows qs f h told =
    fault_passes (AreWhole t env (places_in body)) (AreWholeRows t all body) f (go env body) (trace_rows go body all)
    (λ e q. raised_row t go all env left body (λ rs. rows_in (whole_rows rs)) (rows_seen rows) (rows_view qs) e h q) told

pub rows_done : (t : Nodes) (go : Deeper Items) (all : List Env) (body : Nodes) (rows : List Row) (qs : List (List Print))
    → RowProgress t go all [] body (λ rs. rows_in (whole_rows rs)) (rows_seen rows) (rows_view qs) → Answers (AreWholeRows t all body) (Ok (rows, qs)) (trace_rows go body all)
rows_done t go all body rows qs h =
    let w = ended_rows t go all body (λ rs. rows_in (whole_rows rs)) (rows_seen rows) (rows_view qs) h refl in
    (w.rows, w.met, record { rows = sym w.sent_is; remembered = w.remembered })

-- each of a body's dynamics reads what its place reads
pub reads_at : (t : Nodes) (items : List Dynamic) (i : ℕ) (x : Dynamic) → AllReadRight t items → i < length items → x ≡ get_or items i x → ReadsRight t x
reads_at t [] i x h n at = absurd (omega (arith, n))
reads_at t (d ∷ ds) zero x h n at = subst (ReadsRight t) (sym at) h.0
reads_at t (d ∷ ds) (suc i) x h n at = reads_at t ds i x h.1 (omega (arith, n)) at

-- rows: at the beginning, and what is left at the end
pub rows_begun : (t : Nodes) (go : Deeper Items) (envs left : List Env) (body : Nodes) (rows : List Row) (qs : List (List Print)) → left ≡ envs → rows ≡ [] → qs ≡ []
    → RowProgress t go envs left body (λ rs. rows_in (whole_rows rs)) (rows_seen rows) (rows_view qs)
rows_begun t go envs left body rows qs same none blank =
    subst (λ l. RowProgress t go envs l body seen (rows_seen rows) (rows_view qs)) (sym same)
    (subst (λ vs. RowProgress t go envs envs body seen (rows_seen vs) (rows_view qs)) (sym none)
    (subst (λ ps. RowProgress t go envs envs body seen [] (rows_view ps)) (sym blank) (begun_rows t go envs body seen)))
  where
    seen : ItemRows → List JsonItems
    seen rs = rows_in (whole_rows rs)

pub none_left : {A : Type 0} (xs : List A) (n : ℕ) → n ≡ 0 → n ≡ length xs → xs ≡ []
none_left [] n h k = refl
none_left (x ∷ xs) n h k = absurd (omega (arith, h, k))
