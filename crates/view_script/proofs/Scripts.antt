-- Assigns and the values given since; steps one by one.
use Rattle.std.proofs.Common.{◌≡◌, ◌<◌, ◌≤◌, ◌+◌, ◌++◌, ℕ, List, [], ◌∷◌, length, get_or, drop, Bool, true, false, if◌then◌else◌, Option, Some, None, option_map, Result, Ok, Err, OnOk, refl, sym, ap, subst, ◌∙◌}
use Rattle.std.specs.Option.{option_and_then}
use Rattle.std.specs.Str.{bytes_eq}
use Rattle.std.proofs.Math.ListN.{drop_of_length-le}
use Rattle.std.proofs.lemmas.List.{map-append}
use Rattle.std.proofs.lemmas.Slice.Eq.{bytes_eq-Decides}
use Rattle.text_core.specs.Keyed as keyed
use Rattle.text_core.specs.declared.memory.OutOfMemory.{OutOfMemory}
use Rattle.text_core.proofs.Keyed.{cons_at, lookup_set, lookup_other}
use Rattle.text_core.specs.declared.by_key.KeyValue.{KeyValue}
use Rattle.value_core.specs.Value as model
use Rattle.value_core.specs.Value.{Assigns, no_assigns, assign}
use Rattle.value_core.specs.View.{view, assigns_view}
use Rattle.value_core.specs.declared.value.Value.{Value}
use Rattle.ast_core.specs.Syntax.{Expr, Name, at, var}
use Rattle.ast_core.specs.ExprView.{expr_view}
use Rattle.ast_core.specs.declared.expr.Expr as program
use Rattle.ast_core.specs.Free.{free_names}
use Rattle.doc_model.specs.Environment.{Env, lookup, over}
use Rattle.doc_model.specs.Evaluation.{is_true}
use Rattle.doc_model.proofs.Names.{Agree, eval_agrees}
use Rattle.expr_eval.proofs.Views.{lookup_seen}
use Rattle.view_api.specs.Effect.{Effect, assign_to}
use Rattle.view_api.specs.View.{effect_view, effects_view}
use Rattle.view_api.specs.declared.effect.Effect as effect
use Rattle.view_api.specs.declared.effect.Effect.TheVariants as effect_form
use Rattle.view_api.specs.declared.views.ViewFault.{ViewFault}
use Rattle.view_api.specs.declared.views.ViewFault.TheVariants as fault
use Rattle.bundle_files.specs.Steps as plan
use Rattle.bundle_files.specs.StepsView.{step_step, step_view, steps_view}
use Rattle.bundle_files.specs.declared.bundle.Step.{Step}
use Rattle.bundle_files.specs.declared.bundle.Step.TheVariants as form
use Rattle.bundle_files.specs.declared.bundle.Step.TheOpen.{Step-F}
use Rattle.bundle_files.specs.declared.bundle.Step.TheFolds.{fold-roll-Step}
use Rattle.view_script.specs.declared.script.Doing.{Doing}
use Rattle.view_script.specs.Script.{Done, given, value_or_none, value_in, step_done, steps_done}
use Rattle.view_script.specs.Doing.{Values, Stands, Does}

-- ---- what names hold

-- the first of two
abbrev pub first_of : Option model.Value → Option model.Value → Option model.Value
first_of None o = o
first_of (Some v) o = Some v

over_first : (n : List ℕ) (as' bs : Assigns) → lookup n (over as' bs) ≡ first_of (lookup n as') (lookup n bs)
over_first n no_assigns bs = refl
over_first n (assign k v as') bs = by (bytes_eq n k) (over_first n as' bs)
  where
    by : (b : Bool) → lookup n (over as' bs) ≡ first_of (lookup n as') (lookup n bs)
        → (if b then Some v else lookup n (over as' bs)) ≡ first_of (if b then Some v else lookup n as') (lookup n bs)
    by true h = refl
    by false h = h

seen_first : (n : List ℕ) (es : List (KeyValue Value)) (bs : Assigns) → lookup n (over (assigns_view es) bs) ≡ first_of (option_map view (keyed.lookup n es)) (lookup n bs)
seen_first n es bs = over_first n (assigns_view es) bs ∙ ap (λ (o : Option model.Value). first_of o (lookup n bs)) (sym (lookup_seen n es))

-- what is given goes before what stood there
given_first : (m name : List ℕ) (v : Value) (es : List (KeyValue Value)) (bs : Assigns)
    → lookup m (over (assigns_view (keyed.with_key name v es)) bs) ≡ (if bytes_eq m name then Some (view v) else lookup m (over (assigns_view es) bs))
given_first m name v es bs = by (bytes_eq m name) refl
  where
    by : (b : Bool) → bytes_eq m name ≡ b → lookup m (over (assigns_view (keyed.with_key name v es)) bs) ≡ (if b then Some (view v) else lookup m (over (assigns_view es) bs))
    by true e =
        let same : m ≡ name = (bytes_eq-Decides m name).0 e in
        seen_first m (keyed.with_key name v es) bs
        ∙ ap (λ (l : List ℕ). first_of (option_map view (keyed.lookup l (keyed.with_key name v es))) (lookup m bs)) same
        ∙ ap (λ (o : Option Value). first_of (option_map view o) (lookup m bs)) (lookup_set name v es)
    by false e =
        seen_first m (keyed.with_key name v es) bs
        ∙ ap (λ (o : Option Value). first_of (option_map view o) (lookup m bs)) (lookup_other m name v es e)
        ∙ sym (seen_first m es bs)

-- an assign is given a value
pub stands_given : (before : Assigns) (old new : Doing) (name : List ℕ) (v kept : Value) (d : Done)
    → view kept ≡ view v → new.given ≡ keyed.with_key name kept old.given → new.effects ≡ old.effects ++ effect_form.Assign name v ∷ []
    → Stands before old d → Stands before new (given name d (view v))
stands_given before old new name v kept d same gives pushed h = record {
  holds = λ m. ap (λ (es : List (KeyValue Value)). lookup m (over (assigns_view es) before)) gives
      ∙ given_first m name kept old.given before
      ∙ ap (λ (w : model.Value). if bytes_eq m name then Some w else lookup m (over (assigns_view old.given) before)) same
      ∙ ap (λ (o : Option model.Value). if bytes_eq m name then Some (view v) else o) (h.holds m);
  effects = ap effects_view pushed ∙ map-append effect_view old.effects (effect_form.Assign name v ∷ []) ∙ ap (λ (es : List Effect). es ++ assign_to name (view v) ∷ []) h.effects;
}

-- what an assign is given, where memory serves
pub gave : (r : Result (Unit {0}) OutOfMemory) (before : Assigns) (old : Doing) (es : List (KeyValue Value)) (fs : List effect.Effect) (name named key : List ℕ) (v kept : Value) (d : Done)
    → view kept ≡ view v → named ≡ name → key ≡ name → OnOk r (es ≡ keyed.with_key key kept old.given) → fs ≡ old.effects ++ effect_form.Assign named v ∷ []
    → Stands before old d → OnOk r (Stands before (record { given = es; effects = fs }) (given name d (view v)))
gave (Ok u) before old es fs name named key v kept d same n k gives pushed h =
    stands_given before old (record { given = es; effects = fs }) name v kept d same
    (gives ∙ ap (λ (l : List ℕ). keyed.with_key l kept old.given) k)
    (pushed ∙ ap (λ (l : List ℕ). old.effects ++ effect_form.Assign l v ∷ []) n) h
gave (Err x) before old es fs name named key v kept d same n k gives pushed h = tt

-- ---- values

scope_of : Assigns → Assigns → Env
scope_of vs xs = record { assigns = xs; variables = vs; streams = None; components = [] }

-- a value depends on what the names hold
pub value_same : (vs xs ys : Assigns) (e : Expr) → ((n : List ℕ) → lookup n xs ≡ lookup n ys) → value_in vs xs e ≡ value_in vs ys e
unfolding scope_of
value_same vs xs ys e h = ap value_or_none (eval_agrees e (scope_of vs xs) (scope_of vs ys) (agree (free_names e)))
  where
    agree : (ns : List Name) → Agree (scope_of vs xs) (scope_of vs ys) ns
    agree [] = tt
    agree (at n ∷ ns) = (h n, agree ns)
    agree (var n ∷ ns) = (refl, agree ns)

-- ---- answers

-- a fault of a part is one of the whole, where the whole raises as the part does
pub fails_with : (A B : Type 0) (before : Assigns) (doing doing' : Doing) (x : ViewFault) (p q : Option Done) → (p ≡ None → q ≡ None) → Does {A = A} before doing (Err x) p → Does {A = B} before doing' (Err x) q
fails_with A B before doing doing' fault.Raised p q f h = f h
fails_with A B before doing doing' fault.OutOfMemory p q f h = tt

pub no_value : (A : Type 0) (before : Assigns) (doing : Doing) (x : ViewFault) (o p : Option model.Value) (q : Option Done) → p ≡ o → (o ≡ None → q ≡ None) → Values (Err x) p → Does {A = A} before doing (Err x) q
no_value A before doing fault.Raised o p q e f h = f (sym e ∙ h)
no_value A before doing fault.OutOfMemory o p q e f h = tt

-- ---- one step

assign_form : (n : List ℕ) (e : program.Expr) → step_view (form.Assign n e) ≡ plan.assign_step n (expr_view e)
assign_form n e = ap step_view (sym (form.rolls-Assign n e)) ∙ fold-roll-Step plan.Step step_step (Step-F.Assign n e)

when_form : (e : program.Expr) (ss ts : List Step) → step_view (form.When e ss ts) ≡ plan.when_step (expr_view e) (steps_view ss) (steps_view ts)
when_form e ss ts = ap step_view (sym (form.rolls-When e ss ts)) ∙ fold-roll-Step plan.Step step_step (Step-F.When e ss ts)

-- an assign with what its expression gives
assign_done : (vs before : Assigns) (old : Doing) (s : Step) (n : List ℕ) (e : program.Expr) (d : Done) → s ≡ form.Assign n e → Stands before old d
    → step_done vs (step_view s) d ≡ option_map (given n d) (value_in vs (over (assigns_view old.given) before) (expr_view e))
assign_done vs before old s n e d is h =
    ap (λ (t : Step). step_done vs (step_view t) d) is ∙ ap (λ (t : plan.Step). step_done vs t d) (assign_form n e)
    ∙ ap (option_map (given n d)) (sym (value_same vs (over (assigns_view old.given) before) d.assigns (expr_view e) h.holds))

abbrev chosen : Assigns → List Step → List Step → Done → model.Value → Option Done
chosen vs ss ts d v = if is_true v then steps_done vs (steps_view ss) d else steps_done vs (steps_view ts) d

pub took_first : (vs : Assigns) (ss ts : List Step) (d : Done) (v : model.Value) → is_true v ≡ true → steps_done vs (steps_view ss) d ≡ chosen vs ss ts d v
took_first vs ss ts d v h = rw h refl

pub took_second : (vs : Assigns) (ss ts : List Step) (d : Done) (v : model.Value) → is_true v ≡ false → steps_done vs (steps_view ts) d ≡ chosen vs ss ts d v
took_second vs ss ts d v h = rw h refl

when_done : (vs before : Assigns) (old : Doing) (s : Step) (e : program.Expr) (ss ts : List Step) (d : Done) → s ≡ form.When e ss ts → Stands before old d
    → step_done vs (step_view s) d ≡ option_and_then (chosen vs ss ts d) (value_in vs (over (assigns_view old.given) before) (expr_view e))
when_done vs before old s e ss ts d is h =
    ap (λ (t : Step). step_done vs (step_view t) d) is ∙ ap (λ (t : plan.Step). step_done vs t d) (when_form e ss ts)
    ∙ ap (option_and_then (chosen vs ss ts d)) (sym (value_same vs (over (assigns_view old.given) before) d.assigns (expr_view e) h.holds))

-- an assign was given its value
pub assigned : {A : Type 0} (vs before : Assigns) (old new : Doing) (a : A) (s : Step) (n : List ℕ) (e : program.Expr) (v : Value) (d : Done) → s ≡ form.Assign n e
    → value_in vs (over (assigns_view old.given) before) (expr_view e) ≡ Some (view v)
    → Stands before old d → Stands before new (given n d (view v)) → Does before new (Ok a) (step_done vs (step_view s) d)
assigned vs before old new a s n e v d is got h after =
    (given n d (view v), assign_done vs before old s n e d is h ∙ ap (option_map (given n d)) got, after)

-- the value of an assign raises
pub not_assigned : (A : Type 0) (vs before : Assigns) (old new : Doing) (x : ViewFault) (s : Step) (n : List ℕ) (e : program.Expr) (d : Done) → s ≡ form.Assign n e
    → Values (Err x) (value_in vs (over (assigns_view old.given) before) (expr_view e))
    → Stands before old d → Does {A = A} before new (Err x) (step_done vs (step_view s) d)
not_assigned A vs before old new x s n e d is got h =
    no_value A before new x _ (value_in vs (over (assigns_view old.given) before) (expr_view e)) (step_done vs (step_view s) d) refl
    (λ q. assign_done vs before old s n e d is h ∙ ap (option_map (given n d)) q) got

-- the test of a choice raises
pub not_tested : (A : Type 0) (vs before : Assigns) (old new : Doing) (x : ViewFault) (s : Step) (e : program.Expr) (ss ts : List Step) (d : Done) → s ≡ form.When e ss ts
    → Values (Err x) (value_in vs (over (assigns_view old.given) before) (expr_view e))
    → Stands before old d → Does {A = A} before new (Err x) (step_done vs (step_view s) d)
not_tested A vs before old new x s e ss ts d is got h =
    no_value A before new x _ (value_in vs (over (assigns_view old.given) before) (expr_view e)) (step_done vs (step_view s) d) refl
    (λ q. when_done vs before old s e ss ts d is h ∙ ap (option_and_then (chosen vs ss ts d)) q) got

-- the steps of a choice were done
pub was_chosen : {A : Type 0} (vs before : Assigns) (old new : Doing) (r : Result A ViewFault) (s : Step) (e : program.Expr) (ss ts us : List Step) (v : Value) (d : Done) → s ≡ form.When e ss ts
    → value_in vs (over (assigns_view old.given) before) (expr_view e) ≡ Some (view v) → steps_done vs (steps_view us) d ≡ chosen vs ss ts d (view v)
    → Stands before old d → Does before new r (steps_done vs (steps_view us) d) → Does before new r (step_done vs (step_view s) d)
was_chosen vs before old new r s e ss ts us v d is got took h did =
    subst (λ (o : Option Done). Does before new r o)
    (took ∙ sym (when_done vs before old s e ss ts d is h ∙ ap (option_and_then (chosen vs ss ts d)) got)) did

-- ---- steps, one by one

-- the rest of the steps does from here what all of them do from the first
abbrev pub GoesOn : Assigns → Assigns → List Step → Doing → Option Done → Type 0
GoesOn vs before rest doing whole = (d : Done) × Stands before doing d × (whole ≡ steps_done vs (steps_view rest) d)

first_step : (vs : Assigns) (steps : List Step) (i : ℕ) (s : Step) (d : Done) → i < length steps → s ≡ get_or steps i s
    → steps_done vs (steps_view (drop i steps)) d ≡ option_and_then (steps_done vs (steps_view (drop (i + 1) steps))) (step_done vs (step_view s) d)
first_step vs steps i s d l is = ap (λ (ss : List Step). steps_done vs (steps_view ss) d) (cons_at steps i s l is)

-- a step was done
pub goes_on : {A : Type 0} (vs before : Assigns) (steps : List Step) (i : ℕ) (s : Step) (old new : Doing) (a : A) (whole : Option Done) → i < length steps → s ≡ get_or steps i s
    → ((d : Done) → Stands before old d → Does before new (Ok a) (step_done vs (step_view s) d))
    → GoesOn vs before (drop i steps) old whole → GoesOn vs before (drop (i + 1) steps) new whole
goes_on vs before steps i s old new a whole l is h (d, stands, e) =
    let done : Does before new (Ok a) (step_done vs (step_view s) d) = h d stands in
    (done.0, done.2, e ∙ first_step vs steps i s d l is ∙ ap (option_and_then (steps_done vs (steps_view (drop (i + 1) steps)))) done.1)

-- a step was not done
pub goes_wrong : (A B : Type 0) (vs before : Assigns) (steps : List Step) (i : ℕ) (s : Step) (old new new' : Doing) (x : ViewFault) (whole : Option Done) → i < length steps → s ≡ get_or steps i s
    → ((d : Done) → Stands before old d → Does {A = A} before new (Err x) (step_done vs (step_view s) d))
    → GoesOn vs before (drop i steps) old whole → Does {A = B} before new' (Err x) whole
goes_wrong A B vs before steps i s old new new' x whole l is h (d, stands, e) =
    fails_with A B before new new' x (step_done vs (step_view s) d) whole
    (λ n. e ∙ first_step vs steps i s d l is ∙ ap (option_and_then (steps_done vs (steps_view (drop (i + 1) steps)))) n) (h d stands)

-- all steps were done
pub goes_home : (vs before : Assigns) (steps : List Step) (i : ℕ) (doing : Doing) (whole : Option Done) → length steps ≤ i
    → GoesOn vs before (drop i steps) doing whole → (d : Done) × (whole ≡ Some d) × Stands before doing d
goes_home vs before steps i doing whole l (d, stands, e) =
    (d, e ∙ ap (λ (ss : List Step). steps_done vs (steps_view ss) d) (drop_of_length-le steps l), stands)
