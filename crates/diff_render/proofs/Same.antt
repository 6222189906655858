-- A place whose deciding names do not differ.
use Rattle.std.proofs.Common.{◌≡◌, ℕ, List, [], ◌∷◌, Ok, Err, Option, Some, None, option_map, Bool, true, false, refl, sym, ap, ◌∙◌, subst, true≢false, if◌then◌else◌}
use Rattle.serde_json.specs.Data.{Data}
use Rattle.text_core.specs.Escape.{escape_text}
use Rattle.text_core.specs.declared.by_key.KeyValue.{KeyValue}
use Rattle.value_core.specs.Value.{Value}
use Rattle.value_core.specs.declared.value.Value.{Value as Stored}
use Rattle.ast_core.specs.Free.{free_names, free_place}
use Rattle.ast_core.specs.Places.{cut}
use Rattle.ast_core.specs.Syntax.{Expr, Pattern, Place, put, attribute, spread, if_place, case_place, for_place, Nodes}
use Rattle.diff_tree.specs.Spelling.{change_json}
use Rattle.doc_model.specs.Calls.{items_of}
use Rattle.doc_model.specs.Environment.{Env, reading, same_option, same_reading}
use Rattle.doc_model.specs.Evaluation.{Res, then_do, on_res, eval_expr, printed}
use Rattle.doc_model.specs.Lean.{lean_place}
use Rattle.doc_model.specs.Printing.{print_attribute, print_spread}
use Rattle.doc_model.specs.Scopes.{Deeper, Chosen, row_scopes}
use Rattle.doc_model.specs.Trace.{Item, Items, ItemRows, met_text, met_nothing, met_rows}
use Rattle.doc_model.specs.Tracing.{trace_place, trace_rows}
use Rattle.doc_model.proofs.Alike.{Alike, trace_place_alike}
use Rattle.doc_model.proofs.Names.{Agree, agree_from}
use Rattle.doc_model.proofs.Sames.{reading_sound, same_refl}
use Rattle.slot_compile.specs.Numbering.{place_in}
use Rattle.slot_compile.specs.declared.compiled.Dynamic.{Dynamic}
use Rattle.slot_compile.specs.declared.compiled.Dynamic.TheVariants.{Put, Attribute, Spread, If, Case, For}
use Rattle.diff_render.specs.Again.{deciding, is_branching, Stays}
use Rattle.diff_render.specs.Prints.{Print, Prints, RowPrints, of_text, of_branch, of_rows, Remembers}
use Rattle.diff_render.specs.Scope.{alone}
use Rattle.diff_render.specs.Taken.{is_loop, taken}
use Rattle.diff_render.specs.declared.choice.Choice.{Choice}
use Rattle.diff_render.proofs.Recalls.{remembers_alike}
use Rattle.diff_render.proofs.Takes.{met_taken, taken_alike, trace_taken}

option_refl : (o : Option Value) → same_option o o ≡ true
option_refl None = refl
option_refl (Some v) = same_refl v

pub reading_refl : (vs : List (Option Value)) → same_reading vs vs ≡ true
reading_refl [] = refl
reading_refl (v ∷ vs) = rw (option_refl v) (reading_refl vs)

-- the deciding names agree
pub agree_deciding : (a b : Env) (p : Place) → same_reading (reading a (deciding p)) (reading b (deciding p)) ≡ true → Agree a b (deciding p)
agree_deciding a b p h = agree_from a b (deciding p) (reading_sound (reading a (deciding p)) (reading b (deciding p)) h)

-- a place meets the same again, of which nothing is sent
pub record Quiet (t : Nodes) (go : Deeper Items) (b : Env) (p : Place) (old : Item) (q : Print) : Type 0 where
  pub item : Item
  pub met : trace_place alone go b p ≡ Ok item
  pub value : None ≡ option_map change_json (lean_place old item)
  pub remembered : Remembers t b q p

-- what met a text, or rows, differs in nothing from itself
text_quiet : (vs : List (Option Value)) (r : Res (List ℕ)) (old : Item) → on_res (met_text vs) r ≡ Ok old → None ≡ option_map change_json (lean_place old old)
text_quiet vs (Ok u) old h = let e : met_text vs u ≡ old = cc in subst (λ i. None ≡ option_map change_json (lean_place i i)) e (rw (reading_refl vs) refl)
text_quiet vs (Err x) old h = cc

put_quiet : (vs : List (Option Value)) (r : Res (List ℕ)) (old : Item) → on_res (λ u. met_text vs (escape_text u)) r ≡ Ok old → None ≡ option_map change_json (lean_place old old)
put_quiet vs (Ok u) old h = let e : met_text vs (escape_text u) ≡ old = cc in subst (λ i. None ≡ option_map change_json (lean_place i i)) e (rw (reading_refl vs) refl)
put_quiet vs (Err x) old h = cc

rows_quiet : (vs : List (Option Value)) (st : List (List ℕ)) (r : Res ItemRows) (old : Item) → on_res (met_rows vs st) r ≡ Ok old → None ≡ option_map change_json (lean_place old old)
rows_quiet vs st (Ok u) old h = let e : met_rows vs st u ≡ old = cc in subst (λ i. None ≡ option_map change_json (lean_place i i)) e (rw (reading_refl vs) refl)
rows_quiet vs st (Err x) old h = cc

module _ (t : Nodes) (go : Deeper Items) (alike : Alike go) (a b : Env) (streams : a.streams ≡ b.streams) (components : a.components ≡ b.components) where
  -- all that it reads is the same
  wholly : (p : Place) (old : Item) (q : Print) → trace_place alone go a p ≡ Ok old → Remembers t a q p → Agree a b (free_place p) → None ≡ option_map change_json (lean_place old old) → Quiet t go b p old q
  wholly p old q met held k none = record {
    item = old;
    met = sym (trace_place_alike alone go alike p a b k streams components) ∙ met;
    value = none;
    remembered = remembers_alike t q p a b k held;
  }

  -- no branch is taken again
  none_again : (p : Place) (old : Item) → is_branching p ≡ true → trace_place alone go a p ≡ Ok old → taken a p ≡ Ok None → Agree a b (deciding p) → is_loop p ≡ false → Quiet t go b p old of_text
  none_again p old branches met none k no_loop =
      let was : met_taken go a (taken a p) ≡ Ok old = sym (trace_taken alone go a p branches) ∙ met in
      let nothing : Ok met_nothing ≡ Ok old = ap (met_taken go a) (sym none) ∙ was in
      let again : taken b p ≡ Ok None = sym (taken_alike p a b k) ∙ none in
      record {
        item = met_nothing;
        met = trace_taken alone go b p branches ∙ ap (met_taken go b) again;
        value = (let e : met_nothing ≡ old = cc in subst (λ i. None ≡ option_map change_json (lean_place i met_nothing)) e refl);
        remembered = (no_loop, again);
      }

  pub text_same : (d : Dynamic) (old : Item) → trace_place alone go a (place_in t d) ≡ Ok old → Remembers t a of_text (place_in t d)
      → same_reading (reading a (deciding (place_in t d))) (reading b (deciding (place_in t d))) ≡ true → Quiet t go b (place_in t d) old of_text
  text_same (Put e) old met held h =
      wholly (place_in t (Put e)) old of_text met held (agree_deciding a b (place_in t (Put e)) h) (put_quiet _ _ old met)
  text_same (Attribute n e) old met held h =
      wholly (place_in t (Attribute n e)) old of_text met held (agree_deciding a b (place_in t (Attribute n e)) h) (text_quiet _ _ old met)
  text_same (Spread e) old met held h =
      wholly (place_in t (Spread e)) old of_text met held (agree_deciding a b (place_in t (Spread e)) h) (text_quiet _ _ old met)
  text_same (If x y n) old met held h = none_again (place_in t (If x y n)) old refl met held.1 (agree_deciding a b (place_in t (If x y n)) h) refl
  text_same (Case e bs) old met held h = none_again (place_in t (Case e bs)) old refl met held.1 (agree_deciding a b (place_in t (Case e bs)) h) refl
  text_same (For l p r k) old met held h = absurd (true≢false held.0)

  pub rows_same : (d : Dynamic) (old : Item) (rs : RowPrints) → trace_place alone go a (place_in t d) ≡ Ok old → Remembers t a (of_rows rs) (place_in t d)
      → same_reading (reading a (deciding (place_in t d))) (reading b (deciding (place_in t d))) ≡ true → Quiet t go b (place_in t d) old (of_rows rs)
  rows_same (For l p r k) old rs met held h =
      wholly (place_in t (For l p r k)) old (of_rows rs) met held (agree_deciding a b (place_in t (For l p r k)) h) (rows_quiet _ _ _ old met)
  rows_same (Put e) old rs met held h = absurd (true≢false (sym held.0))
  rows_same (Attribute n e) old rs met held h = absurd (true≢false (sym held.0))
  rows_same (Spread e) old rs met held h = absurd (true≢false (sym held.0))
  rows_same (If x y n) old rs met held h = absurd (true≢false (sym held.0))
  rows_same (Case e bs) old rs met held h = absurd (true≢false (sym held.0))

  -- a branch is taken again
  pub branch_same : (d : Dynamic) (c : Choice) (qs : Prints) → Remembers t a (of_branch c qs) (place_in t d)
      → same_reading (reading a (deciding (place_in t d))) (reading b (deciding (place_in t d))) ≡ true → Stays t a b (place_in t d) c None qs
  branch_same d c qs held h = record {
    branching = branches d held.1;
    was = held.0;
    is = held.0;
    taken_before = held.1;
    taken_now = sym (taken_alike (place_in t d) a b (agree_deciding a b (place_in t d) h)) ∙ held.1;
    same_index = refl;
    same_nodes = refl;
    chosen = held.2;
    bound = held.2.bound;
    remembered = held.3;
  }
    where
      branches : (e : Dynamic) → taken a (place_in t e) ≡ Ok (Some held.0) → is_branching (place_in t e) ≡ true
      branches (If x y n) k = refl
      branches (Case f bs) k = refl
      branches (Put f) k = cc
      branches (Attribute n f) k = cc
      branches (Spread f) k = cc
      branches (For l p r i) k = cc
