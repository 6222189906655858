-- Environments that agree on the names of an expression give it the same value.
use Rattle.std.proofs.Common.{◌≡◌, ℕ, List, [], ◌∷◌, ◌++◌, Option, Some, None, Bool, true, false, if◌then◌else◌, refl, sym, ap, ◌∙◌}
use Rattle.std.specs.Str.{bytes_eq}
use Rattle.value_core.specs.Value.{Value, list, text, tuple, map_of, Values, no_values, value, Assigns, no_assigns, assign, same}
use Rattle.ast_core.specs.Syntax.{Name, at, var, Expr, number, text_of, nil_of, boolean_of, name, list_of, map_with, field, atom_of, tuple_of, index, unary, binary, if_else, call_of, Exprs, no_exprs, expr, Pairs, no_pairs, pair, Parts, no_parts, plain, put_part, Pattern, any, named, literal, tuple_like, list_like, map_like, Patterns, no_patterns, pattern, PatternPairs, no_keys, key}
use Rattle.ast_core.specs.Free.{one_of, without, bound, bound_all, bound_pairs, free_names, free_exprs, free_pairs, free_parts}
use Rattle.doc_model.specs.Environment.{Env, get, bind, lookup, over, both_bind, binding, binding_all, binding_pairs, reading, captured_assigns, captured_variables, with_option}
use Rattle.doc_model.specs.Evaluation.{then_do, both, on_res, or_raise, eval_expr, eval_exprs, eval_parts, printed, is_true, absent, field_of, keep_last, shallow, index_of, eval_unary, eval_binary, eval_function, decided, or_else_do, eval_pairs}

-- the names have the same values
abbrev pub Agree : Env → Env → List Name → Type 0
Agree a b [] = Unit {0}
Agree a b (n ∷ ns) = (get a n ≡ get b n) × Agree a b ns

pub agree_from : (a b : Env) (ns : List Name) → reading a ns ≡ reading b ns → Agree a b ns
agree_from a b [] h = tt
agree_from a b (n ∷ ns) h =
    let e : get a n ≡ get b n = cc in
    let f : reading a ns ≡ reading b ns = cc in
    (e, agree_from a b ns f)

pub agree_reading : (a b : Env) (ns : List Name) → Agree a b ns → reading a ns ≡ reading b ns
agree_reading a b [] h = refl
agree_reading a b (n ∷ ns) h = let e = h.0 in let f = agree_reading a b ns h.1 in cc

pub agree_left : (a b : Env) (ms ns : List Name) → Agree a b (ms ++ ns) → Agree a b ms
agree_left a b [] ns h = tt
agree_left a b (m ∷ ms) ns h = (h.0, agree_left a b ms ns h.1)

pub agree_right : (a b : Env) (ms ns : List Name) → Agree a b (ms ++ ns) → Agree a b ns
agree_right a b [] ns h = h
agree_right a b (m ∷ ms) ns h = agree_right a b ms ns h.1

-- only assigns and variables count
pub agree_cast : (a b a' b' : Env) (ns : List Name) → a.assigns ≡ a'.assigns → a.variables ≡ a'.variables → b.assigns ≡ b'.assigns → b.variables ≡ b'.variables → Agree a b ns → Agree a' b' ns
agree_cast a b a' b' [] e f g h k = tt
agree_cast a b a' b' (at n ∷ ns) e f g h k = (ap (lookup n) (sym e) ∙ k.0 ∙ ap (lookup n) g, agree_cast a b a' b' ns e f g h k.1)
agree_cast a b a' b' (var n ∷ ns) e f g h k = (ap (lookup n) (sym f) ∙ k.0 ∙ ap (lookup n) h, agree_cast a b a' b' ns e f g h k.1)

pub agree_same : (a b : Env) (ns : List Name) → a.assigns ≡ b.assigns → a.variables ≡ b.variables → Agree a b ns
agree_same a b [] e f = tt
agree_same a b (at n ∷ ns) e f = (ap (lookup n) e, agree_same a b ns e f)
agree_same a b (var n ∷ ns) e f = (ap (lookup n) f, agree_same a b ns e f)

-- a pattern binds its names
abbrev pub keys : Assigns → List (List ℕ)
keys no_assigns = []
keys (assign k v as') = k ∷ keys as'

keys-over : (as' bs : Assigns) → keys (over as' bs) ≡ keys as' ++ keys bs
keys-over no_assigns bs = refl
keys-over (assign k v as') bs = ap (λ ks. k ∷ ks) (keys-over as' bs)

abbrev pub Binds : List (List ℕ) → Option Assigns → Type 0
Binds xs None = Unit {0}
Binds xs (Some as') = keys as' ≡ xs

both_binds : (xs ys : List (List ℕ)) (o q : Option Assigns) → Binds xs o → Binds ys q → Binds (xs ++ ys) (both_bind o q)
both_binds xs ys (Some as') (Some bs) h k = keys-over as' bs ∙ ap (λ l. l ++ keys bs) h ∙ ap (λ l. xs ++ l) k
both_binds xs ys (Some as') None h k = tt
both_binds xs ys None q h k = tt

literal_binds : (c : Bool) → Binds [] (if c then Some no_assigns else None)
literal_binds true = refl
literal_binds false = tt

found_binds : (p : Pattern) (o : Option Value) → ((v : Value) → Binds (bound p) (binding p v)) → Binds (bound p) (elim o [ None ↦ None | Some v ↦ binding p v ])
found_binds p None h = tt
found_binds p (Some v) h = h v

mutual
  pub binds : (p : Pattern) (v : Value) → Binds (bound p) (binding p v)
  binds any v = refl
  binds (named x) v = refl
  binds (literal w) v = literal_binds (same w v)
  binds (tuple_like ps) (tuple vs) = binds_all ps vs
  binds (list_like ps) (list vs) = binds_all ps vs
  binds (map_like ps) (map_of as') = binds_pairs ps as'
  binds _ _ = tt

  binds_all : (ps : Patterns) (vs : Values) → Binds (bound_all ps) (binding_all ps vs)
  binds_all no_patterns no_values = refl
  binds_all (pattern p ps) (value v vs) = both_binds (bound p) (bound_all ps) (binding p v) (binding_all ps vs) (binds p v) (binds_all ps vs)
  binds_all _ _ = tt

  binds_pairs : (ps : PatternPairs) (as' : Assigns) → Binds (bound_pairs ps) (binding_pairs ps as')
  binds_pairs no_keys as' = refl
  binds_pairs (key k p ps) as' =
      both_binds (bound p) (bound_pairs ps) (elim (lookup k as') [ None ↦ None | Some v ↦ binding p v ]) (binding_pairs ps as')
      (found_binds p (lookup k as') (λ v. binds p v)) (binds_pairs ps as')

lookup_over : (as' us vs : Assigns) (y : List ℕ) (c : Bool) → one_of y (keys as') ≡ c → (c ≡ false → lookup y us ≡ lookup y vs) → lookup y (over as' us) ≡ lookup y (over as' vs)
lookup_over no_assigns us vs y c e h = h (sym e)
lookup_over (assign k v as') us vs y c e h = by_key (λ q. lookup_over as' us vs y c q h) (bytes_eq y k) e
  where
    by_key : (one_of y (keys as') ≡ c → lookup y (over as' us) ≡ lookup y (over as' vs)) → (d : Bool) → (if d then true else one_of y (keys as')) ≡ c → (if d then Some v else lookup y (over as' us)) ≡ (if d then Some v else lookup y (over as' vs))
    by_key rest true q = refl
    by_key rest false q = rest q

split_without : (c : Bool) (a b : Env) (y : List ℕ) (xs : List (List ℕ)) (ns : List Name) → Agree a b (if c then without xs ns else var y ∷ without xs ns) → (c ≡ false → lookup y a.variables ≡ lookup y b.variables) × Agree a b (without xs ns)
split_without true a b y xs ns k = (λ e. cc, k)
split_without false a b y xs ns k = (λ e. k.0, k.1)

pub agree_bound : (a b : Env) (as' : Assigns) (xs : List (List ℕ)) (ns : List Name) → keys as' ≡ xs → Agree a b (without xs ns) → Agree (bind as' a) (bind as' b) ns
agree_bound a b as' xs [] e h = tt
agree_bound a b as' xs (at k ∷ ns) e h = (h.0, agree_bound a b as' xs ns e h.1)
agree_bound a b as' xs (var y ∷ ns) e h =
    let s = split_without (one_of y xs) a b y xs ns h in
    (lookup_over as' a.variables b.variables y (one_of y xs) (ap (one_of y) e) s.0, agree_bound a b as' xs ns e s.1)

mutual
  pub eval_agrees : (e : Expr) (a b : Env) → Agree a b (free_names e) → eval_expr a e ≡ eval_expr b e
  eval_agrees (number n) a b h = refl
  eval_agrees (text_of ps) a b h = ap (on_res text) (parts_agree ps a b h)
  eval_agrees (atom_of t) a b h = refl
  eval_agrees nil_of a b h = refl
  eval_agrees (boolean_of c) a b h = refl
  eval_agrees (name n) a b h = ap (λ o. or_raise o (absent n)) h.0
  eval_agrees (list_of es) a b h = ap (λ r. then_do r (λ vs. shallow (list vs))) (exprs_agree es a b h)
  eval_agrees (tuple_of es) a b h = ap (λ r. then_do r (λ vs. shallow (tuple vs))) (exprs_agree es a b h)
  eval_agrees (map_with ps) a b h = ap (λ r. then_do r (λ as'. shallow (map_of as'))) (pairs_agree ps a b h)
  eval_agrees (field e k) a b h = ap (λ r. then_do r (field_of k)) (eval_agrees e a b h)
  eval_agrees (index e f) a b h =
      ap (λ r. then_do r (λ v. then_do (eval_expr a f) (index_of v))) (eval_agrees e a b (agree_left a b (free_names e) (free_names f) h))
      ∙ ap (λ r. then_do (eval_expr b e) (λ v. then_do r (index_of v))) (eval_agrees f a b (agree_right a b (free_names e) (free_names f) h))
  eval_agrees (unary o e) a b h = ap (λ r. then_do r (eval_unary o)) (eval_agrees e a b h)
  eval_agrees (binary o e f) a b h =
      ap (λ r. then_do r (λ v. or_else_do (decided o v) (then_do (eval_expr a f) (eval_binary o v)))) (eval_agrees e a b (agree_left a b (free_names e) (free_names f) h))
      ∙ ap (λ r. then_do (eval_expr b e) (λ v. or_else_do (decided o v) (then_do r (eval_binary o v)))) (eval_agrees f a b (agree_right a b (free_names e) (free_names f) h))
  eval_agrees (if_else t e f) a b h =
      let l = agree_left a b (free_names t ++ free_names e) (free_names f) h in
      ap (λ r. then_do r (λ x. if is_true x then eval_expr a e else eval_expr a f)) (eval_agrees t a b (agree_left a b (free_names t) (free_names e) l))
      ∙ ap (λ r. then_do (eval_expr b t) (λ x. if is_true x then r else eval_expr a f)) (eval_agrees e a b (agree_right a b (free_names t) (free_names e) l))
      ∙ ap (λ r. then_do (eval_expr b t) (λ x. if is_true x then eval_expr b e else r)) (eval_agrees f a b (agree_right a b (free_names t ++ free_names e) (free_names f) h))
  eval_agrees (call_of g es) a b h = ap (λ r. then_do r (eval_function g)) (exprs_agree es a b h)

  exprs_agree : (es : Exprs) (a b : Env) → Agree a b (free_exprs es) → eval_exprs a es ≡ eval_exprs b es
  exprs_agree no_exprs a b h = refl
  exprs_agree (expr e es) a b h =
      ap (λ r. both value r (eval_exprs a es)) (eval_agrees e a b (agree_left a b (free_names e) (free_exprs es) h))
      ∙ ap (both value (eval_expr b e)) (exprs_agree es a b (agree_right a b (free_names e) (free_exprs es) h))

  pub pairs_agree : (es : Pairs) (a b : Env) → Agree a b (free_pairs es) → eval_pairs a es ≡ eval_pairs b es
  pairs_agree no_pairs a b h = refl
  pairs_agree (pair k e es) a b h =
      ap (λ r. both (λ v as'. keep_last k v as' (lookup k as')) r (eval_pairs a es)) (eval_agrees e a b (agree_left a b (free_names e) (free_pairs es) h))
      ∙ ap (both (λ v as'. keep_last k v as' (lookup k as')) (eval_expr b e)) (pairs_agree es a b (agree_right a b (free_names e) (free_pairs es) h))

  parts_agree : (es : Parts) (a b : Env) → Agree a b (free_parts es) → eval_parts a es ≡ eval_parts b es
  parts_agree no_parts a b h = refl
  parts_agree (plain t es) a b h = ap (on_res (λ s. t ++ s)) (parts_agree es a b h)
  parts_agree (put_part e es) a b h =
      ap (λ r. both (λ t s. t ++ s) (then_do r printed) (eval_parts a es)) (eval_agrees e a b (agree_left a b (free_names e) (free_parts es) h))
      ∙ ap (both (λ t s. t ++ s) (then_do (eval_expr b e) printed)) (parts_agree es a b (agree_right a b (free_names e) (free_parts es) h))

pub captured_assigns_agree : (ns : List Name) (a b : Env) → Agree a b ns → captured_assigns a ns ≡ captured_assigns b ns
captured_assigns_agree [] a b h = refl
captured_assigns_agree (at k ∷ ns) a b h = ap (λ o. with_option k o (captured_assigns a ns)) h.0 ∙ ap (with_option k (get b (at k))) (captured_assigns_agree ns a b h.1)
captured_assigns_agree (var k ∷ ns) a b h = captured_assigns_agree ns a b h.1

pub captured_variables_agree : (ns : List Name) (a b : Env) → Agree a b ns → captured_variables a ns ≡ captured_variables b ns
captured_variables_agree [] a b h = refl
captured_variables_agree (var k ∷ ns) a b h = ap (λ o. with_option k o (captured_variables a ns)) h.0 ∙ ap (with_option k (get b (var k))) (captured_variables_agree ns a b h.1)
captured_variables_agree (at k ∷ ns) a b h = captured_variables_agree ns a b h.1
