-- The text of nodes, one after the other, is their full rendering.
use Rattle.std.proofs.Common.{◌≡◌, ◌<◌, ◌≤◌, ◌+◌, ◌-◌, ◌↔◌, ℕ, zero, suc, List, [], ◌∷◌, ◌++◌, length, drop, get_or, map, Result, Ok, Err, Option, Some, None, is_some, IsTrue, Bool, true, false, ◌&&◌, if◌then◌else◌, refl, sym, ap, ◌∙◌, subst, append_assoc, true≢false, arith}
use Rattle.std.proofs.Math.ListN.{drop_of_length-le}
use Rattle.std.proofs.lemmas.List.{append-nil}
use Rattle.text_core.specs.declared.by_key.KeyValue.{KeyValue}
use Rattle.value_core.specs.Value.{Value, Values, Assigns, no_assigns}
use Rattle.value_core.specs.View.{assigns_view}
use Rattle.value_core.specs.declared.raise.Raise.{Raise}
use Rattle.value_core.specs.declared.raise.Raise.TheVariants.{Deep, NoClause}
use Rattle.value_core.specs.declared.value.Value.{Value as Stored}
use Rattle.ast_core.specs.declared.node.Attribute.{Attribute}
use Rattle.ast_core.specs.declared.node.AttributeValue.{AttributeValue}
use Rattle.ast_core.specs.declared.node.AttributeValue.TheVariants as form
use Rattle.ast_core.specs.declared.node.Clause.{Clause, out-Clause}
use Rattle.ast_core.specs.declared.node.Node.{Node}
use Rattle.ast_core.specs.NodeView.{attribute_on, attributes_view, clause_view, clauses_view, node_view, nodes_view}
use Rattle.ast_core.specs.PatternView.{pattern_view}
use Rattle.ast_core.specs.Places.{written_text}
use Rattle.ast_core.specs.Syntax.{bare, double_quoted, single_quoted, Clauses, clause, Expr, Pattern, if_place, for_place, Nodes}
use Rattle.slot_compile.specs.Template.{Source, syntax_of, IsPlain, all_plain, clauses_plain, node_plain}
use Rattle.slot_compile.proofs.Seen.{seen_clause}
use Rattle.diff_tree.proofs.Order.{cons_at}
use Rattle.diff_tree.specs.Tree.{flat}
use Rattle.expr_eval.specs.Variables.{variables_view}
use Rattle.expr_eval.specs.declared.variables.Variables.{Variables}
use Rattle.doc_model.specs.Environment.{Env, bind, binding, inside}
use Rattle.doc_model.specs.Evaluation.{Res, both, on_res, then_do, eval_expr, is_true}
use Rattle.doc_model.specs.Calls.{items_of}
use Rattle.doc_model.specs.Scopes.{Site, Deeper, Chosen, chosen, later, row_scopes}
use Rattle.doc_model.specs.Process.{levels}
use Rattle.doc_model.specs.FullRendering.{full_attributes, full_else, full_node, full_nodes, full_place, full_render, full_rows}
use Rattle.doc_model.proofs.Sames.{both_true}
use Rattle.diff_render.specs.Answers.{Answers, Shows}
use Rattle.diff_render.specs.Plain.{clauses_shown, one_attribute}
use Rattle.diff_render.specs.Renders.{ShowsText}
use Rattle.diff_render.specs.Scope.{alone, scope_in, scope_of}
use Rattle.diff_render.specs.Taken.{looped}
use Rattle.diff_render.specs.declared.fault.RenderFault.{RenderFault}
use Rattle.diff_render.specs.declared.fault.RenderFault.TheVariants as fault
use Rattle.diff_render.proofs.Plains.{plain_full}

-- ---- answers

-- an answer of an equal result
pub shows_as : (x : Result (List ℕ) RenderFault) (r s : Res (List ℕ)) → s ≡ r → Shows x r → Shows x s
shows_as x r s e h = subst (Shows x) (sym e) h

-- a fault of a part is one of the whole where its raise is
pub shown_fails : (x : RenderFault) (r s : Res (List ℕ)) → ((e : Raise) → r ≡ Err e → s ≡ Err e) → Shows (Err x) r → Shows (Err x) s
shown_fails fault.Raised r s h (e, k) = (e, h e k)
shown_fails fault.OutOfMemory r s h k = tt

pub answer_fails : {A B : Type 0} (P : A → B → Type 0) (x : RenderFault) (r : Res B) (s : Res (List ℕ)) → ((e : Raise) → r ≡ Err e → s ≡ Err e) → Answers P (Err x) r → Shows (Err x) s
answer_fails P fault.Raised r s h (e, k) = (e, h e k)
answer_fails P fault.OutOfMemory r s h k = tt

-- ---- texts, one after the other

abbrev pub joined : Res (List ℕ) → Res (List ℕ) → Res (List ℕ)
joined = both (λ a b. a ++ b)

-- a text before a rendering
abbrev pub behind : List ℕ → Res (List ℕ) → Res (List ℕ)
behind t r = on_res (λ u. t ++ u) r

-- the first text of the rest
pub more_behind : (r one rest : Res (List ℕ)) (t more u : List ℕ) → r ≡ behind t (joined one rest) → one ≡ Ok more → u ≡ t ++ more → r ≡ behind u rest
more_behind r one rest t more u h shows u_is = h ∙ ap (λ q. behind t (joined q rest)) shows ∙ by rest ∙ ap (λ v. behind v rest) (sym u_is)
  where
    by : (q : Res (List ℕ)) → behind t (joined (Ok more) q) ≡ behind (t ++ more) q
    by (Ok v) = ap Ok (sym (append_assoc t more v))
    by (Err e) = refl

-- it fails
pub fails_behind : (x : RenderFault) (r one rest : Res (List ℕ)) (t : List ℕ) → r ≡ behind t (joined one rest) → Shows (Err x) one → Shows (Err x) r
fails_behind x r one rest t h shows = shown_fails x one r (λ e k. h ∙ ap (λ q. behind t (joined q rest)) k) shows

-- nothing is left
pub all_behind : (r : Res (List ℕ)) (t : List ℕ) → r ≡ behind t (Ok []) → r ≡ Ok t
all_behind r t h = h ∙ ap Ok (append-nil t)

-- ---- attributes

-- an attribute before others
pub of_attributes : (go : Deeper (List ℕ)) (env : Env) (a : Attribute) (xs : List Attribute)
    → full_attributes alone go env (attributes_view (a ∷ xs)) ≡ joined (one_attribute env a.name a.value) (full_attributes alone go env (attributes_view xs))
of_attributes go env a xs = by a.value
  where
    behind_text : (t : List ℕ) (r : Res (List ℕ)) → on_res (λ u. t ++ u) r ≡ joined (Ok t) r
    behind_text t (Ok u) = refl
    behind_text t (Err e) = refl

    behind_nothing : (r : Res (List ℕ)) → r ≡ joined (Ok []) r
    behind_nothing (Ok u) = refl
    behind_nothing (Err e) = refl

    by : (v : AttributeValue) → full_attributes alone go env (attribute_on a.name v (attributes_view xs)) ≡ joined (one_attribute env a.name v) (full_attributes alone go env (attributes_view xs))
    by (form.Double t) = behind_text (written_text a.name (double_quoted t)) (full_attributes alone go env (attributes_view xs))
    by (form.Single t) = behind_text (written_text a.name (single_quoted t)) (full_attributes alone go env (attributes_view xs))
    by form.Bare = behind_text (written_text a.name bare) (full_attributes alone go env (attributes_view xs))
    by (form.Put e) = refl
    by (form.Spread e) = refl
    by (form.Module m) = behind_nothing (full_attributes alone go env (attributes_view xs))

-- what is left of attributes, from the one of a number on
pub attribute_at : (go : Deeper (List ℕ)) (env : Env) (xs : List Attribute) (i : ℕ) (a : Attribute) (t : List ℕ) (r : Res (List ℕ)) → i < length xs → a ≡ get_or xs i a
    → r ≡ behind t (full_attributes alone go env (attributes_view (drop i xs)))
    → r ≡ behind t (joined (one_attribute env a.name a.value) (full_attributes alone go env (attributes_view (drop (i + 1) xs))))
attribute_at go env xs i a t r n is h =
    h ∙ ap (λ l. behind t (full_attributes alone go env (attributes_view l))) (cons_at xs i a n is) ∙ ap (behind t) (of_attributes go env a (drop (i + 1) xs))

-- ---- a test of all items

module _ {A : Type 0} (one : A → Bool) (all : List A → Bool) (step : (x : A) (xs : List A) → all (x ∷ xs) ≡ (one x && all xs)) where
  holds_from : (xs : List A) (i : ℕ) → all xs ≡ true → all (drop i xs) ≡ true
  holds_from [] zero h = h
  holds_from [] (suc i) h = h
  holds_from (x ∷ xs) zero h = h
  holds_from (x ∷ xs) (suc i) h = holds_from xs i (both_true (one x) (all xs) (sym (step x xs) ∙ h)).1

  -- it holds of each
  pub holds_at : (xs : List A) (i : ℕ) (x : A) → i < length xs → x ≡ get_or xs i x → all xs ≡ true → one x ≡ true
  holds_at xs i x n is h =
      (both_true (one x) (all (drop (i + 1) xs)) (sym (step x (drop (i + 1) xs)) ∙ ap all (sym (cons_at xs i x n is)) ∙ holds_from xs i h)).0

-- a node of plain nodes is plain
pub plain_at : (ns : List Node) (i : ℕ) (n : Node) → i < length ns → n ≡ get_or ns i n → all_plain (nodes_view ns) ≡ true → node_plain (node_view n) ≡ true
plain_at = holds_at (λ n. node_plain (node_view n)) (λ ns. all_plain (nodes_view ns)) (λ n ns. refl)

-- a clause of plain clauses is plain
pub plain_clause_at : (cs : List Clause) (i : ℕ) (c : Clause) → i < length cs → c ≡ get_or cs i c → clauses_plain (clauses_view cs) ≡ true → all_plain (clause_view c).1 ≡ true
plain_clause_at = holds_at (λ c. all_plain (clause_view c).1) (λ cs. clauses_plain (clauses_view cs)) (λ c cs. refl)

-- ---- nodes

-- what is left of nodes, from the one of a number on
pub node_at : (go : Deeper (List ℕ)) (env : Env) (ns : List Node) (i : ℕ) (n : Node) (t : List ℕ) (r : Res (List ℕ)) → i < length ns → n ≡ get_or ns i n
    → r ≡ behind t (full_nodes alone go env (nodes_view (drop i ns)))
    → r ≡ behind t (joined (full_node alone go env (node_view n)) (full_nodes alone go env (nodes_view (drop (i + 1) ns))))
node_at go env ns i n t r m is h = h ∙ ap (λ l. behind t (full_nodes alone go env (nodes_view l))) (cons_at ns i n m is)

-- ---- rows

-- the text of rows, one for each scope
abbrev pub rows_full : Deeper (List ℕ) → Nodes → Env → List (List (KeyValue Stored)) → Res (List ℕ)
rows_full go body env scopes = on_res flat (full_rows go body (map (λ bs. inside (assigns_view bs) env) scopes))

-- ---- clauses

-- a clause that does not match is passed
pub clause_passed : (go : Deeper (List ℕ)) (env : Env) (v : Value) (p : Pattern) (ns : Nodes) (cs : Clauses) → is_some (binding p v) ≡ false
    → clauses_shown go env v (clause p ns cs) ≡ clauses_shown go env v cs
clause_passed go env v p ns cs h = by (binding p v) h
  where
    by : (o : Option Assigns) → is_some o ≡ false
        → then_do (elim o [ None ↦ on_res later (chosen v cs) | Some as' ↦ Ok (record { index = 0; variables = as'; nodes = ns }) ]) (λ c. go (bind c.variables env) c.nodes) ≡ clauses_shown go env v cs
    by None h = further (chosen v cs)
      where
        further : (r : Res Chosen) → then_do (on_res later r) (λ c. go (bind c.variables env) c.nodes) ≡ then_do r (λ c. go (bind c.variables env) c.nodes)
        further (Ok c) = refl
        further (Err e) = refl
    by (Some as') h = absurd (true≢false h)

-- the clause that matches is shown
clause_taken : (go : Deeper (List ℕ)) (env : Env) (v : Value) (p : Pattern) (ns : Nodes) (cs : Clauses) (bound : Assigns) → binding p v ≡ Some bound
    → clauses_shown go env v (clause p ns cs) ≡ go (bind bound env) ns
clause_taken go env v p ns cs bound h =
    ap (λ (o : Option Assigns). then_do (elim o [ None ↦ on_res later (chosen v cs) | Some as' ↦ Ok (record { index = 0; variables = as'; nodes = ns }) ]) (λ c. go (bind c.variables env) c.nodes)) h

-- what is left of clauses, from the one of a number on
clause_at : (go : Deeper (List ℕ)) (env : Env) (v : Value) (cs : List Clause) (i : ℕ) (c : Clause) (r : Res (List ℕ)) → i < length cs → c ≡ get_or cs i c
    → r ≡ clauses_shown go env v (clauses_view (drop i cs)) → r ≡ clauses_shown go env v (clause (pattern_view (out-Clause c).pattern) (clause_view c).1 (clauses_view (drop (i + 1) cs)))
clause_at go env v cs i c r n is h =
    h ∙ ap (λ l. clauses_shown go env v (clauses_view l)) (cons_at cs i c n is)
    ∙ ap (λ (p : Pattern). clauses_shown go env v (clause p (clause_view c).1 (clauses_view (drop (i + 1) cs)))) (ap (λ (q : Pattern × Nodes). q.0) (seen_clause c))

pub next_clause : (go : Deeper (List ℕ)) (env : Env) (v : Value) (cs : List Clause) (i : ℕ) (c : Clause) (r : Res (List ℕ)) → i < length cs → c ≡ get_or cs i c
    → r ≡ clauses_shown go env v (clauses_view (drop i cs)) → is_some (binding (pattern_view (out-Clause c).pattern) v) ≡ false → r ≡ clauses_shown go env v (clauses_view (drop (i + 1) cs))
next_clause go env v cs i c r n is h passed =
    clause_at go env v cs i c r n is h ∙ clause_passed go env v (pattern_view (out-Clause c).pattern) (clause_view c).1 (clauses_view (drop (i + 1) cs)) passed

-- what a matching pattern binds
pub bound_by : (o : Option Assigns) → is_some o ≡ true → (bound : Assigns) × (o ≡ Some bound)
bound_by None h = absurd (true≢false (sym h))
bound_by (Some as') h = (as', refl)

pub found_clause : (go : Deeper (List ℕ)) (env : Env) (v : Value) (cs : List Clause) (i : ℕ) (c : Clause) (r : Res (List ℕ)) (bound : Assigns) → i < length cs → c ≡ get_or cs i c
    → r ≡ clauses_shown go env v (clauses_view (drop i cs)) → binding (pattern_view (out-Clause c).pattern) v ≡ Some bound → r ≡ go (bind bound env) (clause_view c).1
found_clause go env v cs i c r bound n is h binds =
    clause_at go env v cs i c r n is h ∙ clause_taken go env v (pattern_view (out-Clause c).pattern) (clause_view c).1 (clauses_view (drop (i + 1) cs)) bound binds

pub no_clause : (go : Deeper (List ℕ)) (env : Env) (v : Value) (cs : List Clause) (i : ℕ) (r : Res (List ℕ)) → length cs ≤ i → r ≡ clauses_shown go env v (clauses_view (drop i cs)) → r ≡ Err NoClause
no_clause go env v cs i r past h = h ∙ ap (λ l. clauses_shown go env v (clauses_view l)) (drop_of_length-le cs past)

-- ---- places

-- a loop that raises, and one that has rows
pub for_raises : (go : Deeper (List ℕ)) (env : Env) (p : Pattern) (e : Expr) (body : Nodes) (x : Raise) → looped env (for_place p e body) ≡ Err x → full_place alone go env (for_place p e body) ≡ Err x
for_raises go env p e body x h = by (then_do (eval_expr env e) items_of) h
  where
    by : (r : Res Values) → on_res (row_scopes env p) r ≡ Err x → on_res flat (then_do r (λ vs. full_rows go body (row_scopes env p vs))) ≡ Err x
    by (Ok vs) k = cc
    by (Err y) k = let is : y ≡ x = cc in ap Err is

pub for_rows : (go : Deeper (List ℕ)) (env : Env) (p : Pattern) (e : Expr) (body : Nodes) (envs : List Env) → looped env (for_place p e body) ≡ Ok envs
    → full_place alone go env (for_place p e body) ≡ on_res flat (full_rows go body envs)
for_rows go env p e body envs h = by (then_do (eval_expr env e) items_of) h
  where
    by : (r : Res Values) → on_res (row_scopes env p) r ≡ Ok envs → on_res flat (then_do r (λ vs. full_rows go body (row_scopes env p vs))) ≡ on_res flat (full_rows go body envs)
    by (Ok vs) k = let is : row_scopes env p vs ≡ envs = cc in ap (λ es. on_res flat (full_rows go body es)) is
    by (Err y) k = cc

-- an else that has content
pub else_shown : (go : Deeper (List ℕ)) (env : Env) (ns : List Node) (empty : Bool) → (IsTrue empty ↔ (ns ≡ [])) → empty ≡ false → full_else go env (nodes_view ns) ≡ go env (nodes_view ns)
else_shown go env [] empty h is = absurd (true≢false (sym (h.1 refl) ∙ is))
else_shown go env (n ∷ ns) empty h is = refl

pub else_taken : (go : Deeper (List ℕ)) (env : Env) (t : Expr) (a b : Nodes) (v : Value) (test : Bool) (r : Res (List ℕ)) → eval_expr env t ≡ Ok v → test ≡ is_true v → test ≡ false
    → full_else go env b ≡ r → full_place alone go env (if_place t a b) ≡ r
else_taken go env t a b v test r is tests fails h =
    ap (λ (q : Res Value). then_do q (λ w. if is_true w then go env a else full_else go env b)) is ∙ ap (λ (c : Bool). if c then go env a else full_else go env b) (sym tests ∙ fails) ∙ h

-- ---- levels

pub no_level : (k : ℕ) (env : Env) (ns : Nodes) → k ≡ 0 → (e : Raise) × (full_render alone k env ns ≡ Err e)
no_level k env ns h = (Deep, ap (λ j. full_render alone j env ns) h)

pub one_level : (k : ℕ) (env : Env) (ns : Nodes) → (k ≡ 0 → ⊥) → full_render alone k env ns ≡ full_nodes alone (full_render alone (k - 1)) env ns
one_level zero env ns h = absurd (h refl)
one_level (suc k) env ns h = let e : suc k - 1 ≡ k = omega arith in ap (λ j. full_nodes alone (full_render alone j) env ns) (sym e)

-- ---- a page

-- a plain template shows the same wherever it stands
stands : (k : ℕ) (ns : Nodes) (as' : Assigns) (r : Res (List ℕ)) → all_plain ns ≡ true → full_render alone k (scope_of as' no_assigns) ns ≡ r
    → (site : Site) (env : Env) → env.assigns ≡ as' → env.variables ≡ no_assigns → full_render site k env ns ≡ r
stands k ns as' r plain h site env is none =
    plain_full site k env ns plain ∙ ap (λ bs. full_render alone k (scope_of bs env.variables) ns) is ∙ ap (λ vs. full_render alone k (scope_of as' vs) ns) none ∙ h

-- an answer for the template alone is one for the full rendering
pub renders_plain : (c : Source) (as' : Assigns) (x : Result (List ℕ) RenderFault) → IsPlain c → Shows x (full_render alone levels (scope_of as' no_assigns) (syntax_of c)) → ShowsText c as' x
renders_plain c as' (Ok t) plain h = stands levels (syntax_of c) as' (Ok t) plain h
renders_plain c as' (Err fault.Raised) plain (e, h) = (e, stands levels (syntax_of c) as' (Err e) plain h)
renders_plain c as' (Err fault.OutOfMemory) plain h = tt

-- no variable stands in scope before one is bound
pub no_scope : (as' : List (KeyValue Stored)) (vs : Variables) → vs.scopes ≡ [] → scope_in as' vs ≡ scope_of (assigns_view as') no_assigns
no_scope as' vs h = ap (λ ss. scope_of (assigns_view as') (variables_view ss)) h
