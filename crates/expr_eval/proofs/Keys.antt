-- The entries of a map, put in one by one from the left, are those that the definition gives from the right.
use Rattle.std.proofs.Common.{◌≡◌, ℕ, List, Bool, true, false, Option, Some, None, Ok, Err, if◌then◌else◌, refl, sym, ap, ◌∙◌}
use Rattle.std.specs.Str.{bytes_eq}
use Rattle.std.specs.Ordering.{is_eq, ordering_reverse, match_ordering}
use Rattle.std.specs.declared.cmp.Ordering.{Ordering}
use Rattle.std.specs.declared.cmp.Ordering.TheVariants.{Less, Equal, Greater}
use Rattle.std.specs.Cmp.Lexicographic.{nat_list_cmp_total}
use Rattle.std.proofs.lemmas.Map.Text.{is_eq-slice_cmp}
use Rattle.std.proofs.lemmas.Map.Lookups.{exact_bytes}
use Rattle.text_core.proofs.Keyed.{order}
use Rattle.value_core.specs.Value.{Value, Assigns, no_assigns, assign}
use Rattle.ast_core.specs.Syntax.{Pairs, no_pairs, pair}
use Rattle.doc_model.specs.Environment.{Env, lookup, with_key}
use Rattle.doc_model.specs.Evaluation.{Res, then_do, on_res, both, keep_last, eval_expr, eval_pairs}

turned : (k l : List ℕ) (o : Ordering) → order k l ≡ o → order l k ≡ ordering_reverse o
turned k l o h = nat_list_cmp_total.antisymm l k ∙ ap ordering_reverse h

to_itself : (k : List ℕ) (o : Ordering) → order k k ≡ o → order k k ≡ Equal
to_itself k Less h = absurd (let e : Less ≡ Greater = sym h ∙ turned k k Less h in cc)
to_itself k Equal h = h
to_itself k Greater h = absurd (let e : Greater ≡ Less = sym h ∙ turned k k Greater h in cc)

-- what an entry goes before, over or behind
abbrev placed : List ℕ → Value → List ℕ → Value → Assigns → Ordering → Assigns
placed k v m x s o = match_ordering o (assign k v (assign m x s)) (assign k v s) (assign m x (with_key k v s))

-- the later of two values of a key stays
overwritten : (k : List ℕ) (v w : Value) (s : Assigns) → with_key k w (with_key k v s) ≡ with_key k w s
overwritten k v w no_assigns = ap (placed k w k v no_assigns) (to_itself k (order k k) refl)
overwritten k v w (assign m x s) = by (order k m) refl (overwritten k v w s)
  where
    by : (o : Ordering) → order k m ≡ o → with_key k w (with_key k v s) ≡ with_key k w s → with_key k w (placed k v m x s o) ≡ placed k w m x s o
    by Less is rest = ap (placed k w k v (assign m x s)) (to_itself k (order k k) refl)
    by Equal is rest = ap (placed k w k v s) (to_itself k (order k k) refl)
    by Greater is rest = ap (placed k w m x (with_key k v s)) is ∙ ap (assign m x) rest

-- two keys go to their places in either order
swapped_less : (k l : List ℕ) (v w : Value) (s : Assigns) → order k l ≡ Less → with_key l w (with_key k v s) ≡ with_key k v (with_key l w s)
swapped_less k l v w no_assigns h = ap (placed l w k v no_assigns) (turned k l Less h) ∙ sym (ap (placed k v l w no_assigns) h)
swapped_less k l v w (assign m x s) h = by (order k m) refl (order l m) refl (swapped_less k l v w s h)
  where
    behind : order l k ≡ Greater
    behind = turned k l Less h

    by : (o : Ordering) → order k m ≡ o → (p : Ordering) → order l m ≡ p → with_key l w (with_key k v s) ≡ with_key k v (with_key l w s)
        → with_key l w (placed k v m x s o) ≡ with_key k v (placed l w m x s p)
    by Less is Less js rest =
        ap (placed l w k v (assign m x s)) behind ∙ ap (λ r. assign k v (placed l w m x s r)) js ∙ sym (ap (placed k v l w (assign m x s)) h)
    by Less is Equal js rest =
        ap (placed l w k v (assign m x s)) behind ∙ ap (λ r. assign k v (placed l w m x s r)) js ∙ sym (ap (placed k v l w s) h)
    by Less is Greater js rest =
        ap (placed l w k v (assign m x s)) behind ∙ ap (λ r. assign k v (placed l w m x s r)) js ∙ sym (ap (placed k v m x (with_key l w s)) is)
    by Equal is Less js rest = absurd (let same : k ≡ m = exact_bytes k m is in let e : Less ≡ Greater = sym js ∙ ap (order l) (sym same) ∙ behind in cc)
    by Equal is Equal js rest = absurd (let same : k ≡ m = exact_bytes k m is in let e : Equal ≡ Greater = sym js ∙ ap (order l) (sym same) ∙ behind in cc)
    by Equal is Greater js rest = ap (placed l w k v s) behind ∙ sym (ap (placed k v m x (with_key l w s)) is)
    by Greater is Less js rest = absurd (let e : Less ≡ Greater = sym (nat_list_cmp_total.trans k l m h js) ∙ is in cc)
    by Greater is Equal js rest = absurd (let same : l ≡ m = exact_bytes l m js in let e : Less ≡ Greater = sym h ∙ ap (order k) same ∙ is in cc)
    by Greater is Greater js rest = ap (placed l w m x (with_key k v s)) js ∙ ap (assign m x) rest ∙ sym (ap (placed k v m x (with_key l w s)) is)

swapped : (k l : List ℕ) (v w : Value) (s : Assigns) → bytes_eq k l ≡ false → with_key l w (with_key k v s) ≡ with_key k v (with_key l w s)
swapped k l v w s h = by (order k l) refl
  where
    by : (o : Ordering) → order k l ≡ o → with_key l w (with_key k v s) ≡ with_key k v (with_key l w s)
    by Less is = swapped_less k l v w s is
    by Equal is = absurd (let e : true ≡ false = ap is_eq (sym is) ∙ is_eq-slice_cmp k l ∙ h in cc)
    by Greater is = sym (swapped_less l k w v s (turned k l Greater is))

-- the second's entries put into the first
abbrev put_all : Assigns → Assigns → Assigns
put_all s no_assigns = s
put_all s (assign k v r) = put_all (with_key k v s) r

is_equal : (o : Ordering) → is_eq o ≡ true → o ≡ Equal
is_equal Less e = cc
is_equal Equal e = refl
is_equal Greater e = cc

-- an entry that comes again is not seen
hidden : (k : List ℕ) (v : Value) (s r : Assigns) (w : Value) → lookup k r ≡ Some w → put_all (with_key k v s) r ≡ put_all s r
hidden k v s no_assigns w h = absurd (let e : None ≡ Some w = h in cc)
hidden k v s (assign l x r) w h = by (hidden k v (with_key l x s) r w) (bytes_eq k l) refl h
  where
    by : (lookup k r ≡ Some w → put_all (with_key k v (with_key l x s)) r ≡ put_all (with_key l x s) r)
        → (b : Bool) → bytes_eq k l ≡ b → (if b then Some x else lookup k r) ≡ Some w → put_all (with_key l x (with_key k v s)) r ≡ put_all (with_key l x s) r
    by rest true is found =
        let same : k ≡ l = exact_bytes k l (is_equal (order k l) (is_eq-slice_cmp k l ∙ is)) in
        ap (λ t. put_all t r) (ap (λ m. with_key l x (with_key m v s)) same ∙ overwritten l v x s)
    by rest false is found = ap (λ t. put_all t r) (swapped k l v x s is) ∙ rest found

-- an entry of a new key may be put in before or after
before_after : (k : List ℕ) (v : Value) (s r : Assigns) → lookup k r ≡ None → put_all (with_key k v s) r ≡ with_key k v (put_all s r)
before_after k v s no_assigns h = refl
before_after k v s (assign l x r) h = by (before_after k v (with_key l x s) r) (bytes_eq k l) refl h
  where
    by : (lookup k r ≡ None → put_all (with_key k v (with_key l x s)) r ≡ with_key k v (put_all (with_key l x s) r))
        → (b : Bool) → bytes_eq k l ≡ b → (if b then Some x else lookup k r) ≡ None → put_all (with_key l x (with_key k v s)) r ≡ with_key k v (put_all (with_key l x s) r)
    by rest true is found = absurd (let e : Some x ≡ None = found in cc)
    by rest false is found = ap (λ t. put_all t r) (swapped k l v x s is) ∙ rest found

-- into entries among which there is one more
among : (k : List ℕ) (v : Value) (s r : Assigns) → lookup k r ≡ None → put_all s (with_key k v r) ≡ put_all (with_key k v s) r
among k v s no_assigns h = refl
among k v s (assign l x r) h = by (among k v (with_key l x s) r) (bytes_eq k l) refl h (order k l) refl
  where
    by : (lookup k r ≡ None → put_all (with_key l x s) (with_key k v r) ≡ put_all (with_key k v (with_key l x s)) r)
        → (b : Bool) → bytes_eq k l ≡ b → (if b then Some x else lookup k r) ≡ None → (o : Ordering) → order k l ≡ o
        → put_all s (placed k v l x r o) ≡ put_all (with_key l x (with_key k v s)) r
    by rest true is found o at = absurd (let e : Some x ≡ None = found in cc)
    by rest false is found Less at = refl
    by rest false is found Equal at = absurd (let e : true ≡ false = ap is_eq (sym at) ∙ is_eq-slice_cmp k l ∙ is in cc)
    by rest false is found Greater at = rest found ∙ ap (λ t. put_all t r) (sym (swapped k l v x s is))

-- one entry, and then those behind it
put_first : (k : List ℕ) (v : Value) (s r : Assigns) → put_all (with_key k v s) r ≡ put_all s (keep_last k v r (lookup k r))
put_first k v s r = by (lookup k r) refl
  where
    by : (o : Option Value) → lookup k r ≡ o → put_all (with_key k v s) r ≡ put_all s (keep_last k v r o)
    by None h = sym (among k v s r h)
    by (Some w) h = hidden k v s r w h

-- entries that are as if put in one by one
abbrev Made : Res Assigns → Type 0
Made (Ok r) = put_all no_assigns r ≡ r
Made (Err e) = Unit {0}

kept_made : (k : List ℕ) (v : Value) (r : Assigns) → put_all no_assigns r ≡ r → put_all no_assigns (keep_last k v r (lookup k r)) ≡ keep_last k v r (lookup k r)
kept_made k v r h = by (lookup k r) refl
  where
    by : (o : Option Value) → lookup k r ≡ o → put_all no_assigns (keep_last k v r o) ≡ keep_last k v r o
    by None none = among k v no_assigns r none ∙ before_after k v no_assigns r none ∙ ap (with_key k v) h
    by (Some w) some = h

both_made : (k : List ℕ) (x : Res Value) (y : Res Assigns) → Made y → Made (both (λ v r. keep_last k v r (lookup k r)) x y)
both_made k (Ok v) (Ok r) h = kept_made k v r h
both_made k (Ok v) (Err e) h = tt
both_made k (Err e) y h = tt

made : (env : Env) (ps : Pairs) → Made (eval_pairs env ps)
made env no_pairs = refl
made env (pair k e ps) = both_made k (eval_expr env e) (eval_pairs env ps) (made env ps)

-- the entries of the pairs, put into others one by one
abbrev pub pairs_into : Env → Assigns → Pairs → Res Assigns
pairs_into env s no_pairs = Ok s
pairs_into env s (pair k e ps) = then_do (eval_expr env e) (λ v. pairs_into env (with_key k v s) ps)

one_into : (k : List ℕ) (s : Assigns) (x : Res Value) (y : Res Assigns) (f : Value → Res Assigns) → ((v : Value) → f v ≡ on_res (put_all (with_key k v s)) y)
    → then_do x f ≡ on_res (put_all s) (both (λ v r. keep_last k v r (lookup k r)) x y)
one_into k s (Ok v) (Ok r) f h = h v ∙ ap Ok (put_first k v s r)
one_into k s (Ok v) (Err e) f h = h v
one_into k s (Err e) y f h = refl

all_into : (env : Env) (s : Assigns) (ps : Pairs) → pairs_into env s ps ≡ on_res (put_all s) (eval_pairs env ps)
all_into env s no_pairs = refl
all_into env s (pair k e ps) = one_into k s (eval_expr env e) (eval_pairs env ps) (λ v. pairs_into env (with_key k v s) ps) (λ v. all_into env (with_key k v s) ps)

as_made : (r : Res Assigns) → Made r → on_res (put_all no_assigns) r ≡ r
as_made (Ok r) h = ap Ok h
as_made (Err e) h = refl

pub pairs_from_none : (env : Env) (ps : Pairs) → eval_pairs env ps ≡ pairs_into env no_assigns ps
pairs_from_none env ps = sym (all_into env no_assigns ps ∙ as_made (eval_pairs env ps) (made env ps))
