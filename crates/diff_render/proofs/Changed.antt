-- Whether a name that is read differs from what it was.
use Rattle.std.proofs.Common.{◌≡◌, ℕ, List, [], ◌∷◌, Option, Some, None, Bool, true, false, not, ◌&&◌, ◌||◌, refl, sym, ap, ◌∙◌, if◌then◌else◌, Less, Equal, Greater, nat_cmp}
use Rattle.std.specs.List.{list_any}
use Rattle.std.specs.Ordering.{match_ordering}
use Rattle.std.specs.declared.cmp.Ordering.{Ordering}
use Rattle.std.specs.Cmp.Lexicographic.{slice_cmp}
use Rattle.std.proofs.lemmas.Map.Lookups.{exact_bytes}
use Rattle.value_core.specs.Value.{Value, Assigns}
use Rattle.ast_core.specs.Syntax.{Name, at, var}
use Rattle.ast_core.specs.Reads.{with_name, assigns_in, variables_in}
use Rattle.assigns_track.specs.declared.tracked.Tracked.{Tracked}
use Rattle.assigns_track.specs.Track.{present_of, settled_of, differ}
use Rattle.doc_model.proofs.Sames.{option_sound, same_refl}
use Rattle.doc_model.specs.Environment.{lookup, same_option, reading, same_reading}
use Rattle.expr_eval.proofs.Views.{lookup_seen}
use Rattle.diff_render.specs.Tracked.{AreChanged, HasSettled, present, scope_now, scope_then, variable_differs, variables_before, variables_now}
use Rattle.diff_render.specs.declared.scope.Tracking.{Tracking}

same_self : (o : Option Value) → same_option o o ≡ true
same_self None = refl
same_self (Some v) = same_refl v

alike : (o : Option Value) → differ o o ≡ false
alike None = refl
alike (Some v) = ap not (same_refl v)

not_unlike : (p s : Option Value) → differ p s ≡ false → p ≡ s
not_unlike None None h = refl
not_unlike (Some v) (Some w) h = option_sound (Some v) (Some w) (by (same_option (Some v) (Some w)) h)
  where
    by : (b : Bool) → not b ≡ false → b ≡ true
    by true k = refl
    by false k = cc
not_unlike None (Some w) h = cc
not_unlike (Some v) None h = cc

-- what differs is not the same, whichever is named first
not_same : (p s : Option Value) → differ p s ≡ not (same_option s p)
not_same p s = by (differ p s) refl (same_option s p) refl
  where
    by : (b : Bool) → differ p s ≡ b → (c : Bool) → same_option s p ≡ c → b ≡ not c
    by true is true also = let e : s ≡ p = option_sound s p also in let d : differ p s ≡ false = ap (differ p) e ∙ alike p in cc
    by true is false also = refl
    by false is true also = refl
    by false is false also = let e : p ≡ s = not_unlike p s is in let d : same_option s p ≡ true = ap (same_option s) e ∙ same_self s in cc

or_twice : (b c : Bool) → (b || c) ≡ (b || (b || c))
or_twice true c = refl
or_twice false c = refl

or_turned : (b c d : Bool) → (c || (b || d)) ≡ (b || (c || d))
or_turned true true d = refl
or_turned true false d = refl
or_turned false c d = refl

or_grouped : (b c d : Bool) → ((b || c) || d) ≡ (b || (c || d))
or_grouped true c d = refl
or_grouped false c d = refl

-- a test of any name, with one more
any_more : (f : List ℕ → Bool) (k : List ℕ) (ls : List (List ℕ)) → list_any f (with_name k ls) ≡ (f k || list_any f ls)
any_more f k [] = refl
any_more f k (l ∷ ls) = by (slice_cmp nat_cmp k l) refl (any_more f k ls)
  where
    by : (o : Ordering) → slice_cmp nat_cmp k l ≡ o → list_any f (with_name k ls) ≡ (f k || list_any f ls)
        → list_any f (match_ordering o (k ∷ l ∷ ls) (l ∷ ls) (l ∷ with_name k ls)) ≡ (f k || (f l || list_any f ls))
    by Less is rest = refl
    by Equal is rest = or_twice (f l) (list_any f ls) ∙ ap (λ n. f n || (f l || list_any f ls)) (sym (exact_bytes k l is))
    by Greater is rest = ap (λ b. f l || b) rest ∙ or_turned (f k) (f l) (list_any f ls)

not_both : (a b : Bool) → not (a && b) ≡ (not a || not b)
not_both true b = refl
not_both false b = refl

-- one name more, whose value is now and was then
one_more : (now then' : Option Value) (rest : Bool) → (differ now then' || not rest) ≡ not (same_option then' now && rest)
one_more now then' rest = ap (λ b. b || not rest) (not_same now then') ∙ sym (not_both (same_option then' now) rest)

assign_more : (t : Tracked) (before : Assigns) (a : List ℕ) (rest : Bool) → HasSettled t before
    → (differ (present_of t a) (settled_of t a) || not rest) ≡ not (same_option (lookup a before) (lookup a (present t)) && rest)
assign_more t before a rest settled =
    one_more (present_of t a) (settled_of t a) rest
    ∙ ap (λ o. not (same_option (settled_of t a) o && rest)) (lookup_seen a t.present)
    ∙ ap (λ o. not (same_option o (lookup a (present t)) && rest)) (sym (settled a))

abbrev pub assign_differs : Tracked → List ℕ → Bool
assign_differs t n = differ (present_of t n) (settled_of t n)

-- an assign or a variable that is read differs exactly where what is read is not the same
any_differs : (t : Tracked) (tr : Tracking) (before : Assigns) (ns : List Name) → HasSettled t before
    → (list_any (assign_differs t) (assigns_in ns) || list_any (variable_differs tr) (variables_in ns)) ≡ not (same_reading (reading (scope_then before tr) ns) (reading (scope_now t tr) ns))
any_differs t tr before [] settled = refl
any_differs t tr before (at a ∷ ns) settled =
    ap (λ b. b || list_any (variable_differs tr) (variables_in ns)) (any_more (assign_differs t) a (assigns_in ns))
    ∙ or_grouped (assign_differs t a) (list_any (assign_differs t) (assigns_in ns)) (list_any (variable_differs tr) (variables_in ns))
    ∙ ap (λ b. assign_differs t a || b) (any_differs t tr before ns settled)
    ∙ assign_more t before a (same_reading (reading (scope_then before tr) ns) (reading (scope_now t tr) ns)) settled
any_differs t tr before (var v ∷ ns) settled =
    ap (λ b. list_any (assign_differs t) (assigns_in ns) || b) (any_more (variable_differs tr) v (variables_in ns))
    ∙ or_turned (variable_differs tr v) (list_any (assign_differs t) (assigns_in ns)) (list_any (variable_differs tr) (variables_in ns))
    ∙ ap (λ b. variable_differs tr v || b) (any_differs t tr before ns settled)
    ∙ one_more (lookup v (variables_now tr)) (lookup v (variables_before tr)) (same_reading (reading (scope_then before tr) ns) (reading (scope_now t tr) ns))

pub any_changed : (t : Tracked) (tr : Tracking) (ns : List Name) (as' vs : List (List ℕ)) (b : Bool) → as' ≡ assigns_in ns → vs ≡ variables_in ns
    → b ≡ (list_any (assign_differs t) as' || list_any (variable_differs tr) vs) → AreChanged t tr ns b
any_changed t tr ns as' vs b assigns variables h before settled =
    h
    ∙ ap (λ l. list_any (assign_differs t) l || list_any (variable_differs tr) vs) assigns
    ∙ ap (λ l. list_any (assign_differs t) (assigns_in ns) || list_any (variable_differs tr) l) variables
    ∙ any_differs t tr before ns settled

-- an assign that differs is enough; and else a variable
pub assign_changed : (t : Tracked) (tr : Tracking) (ns : List Name) (as' vs : List (List ℕ)) (b : Bool) → as' ≡ assigns_in ns → vs ≡ variables_in ns → b ≡ list_any (assign_differs t) as' → b ≡ true
    → AreChanged t tr ns b
assign_changed t tr ns as' vs b assigns variables h is = any_changed t tr ns as' vs b assigns variables (is ∙ ap (λ c. c || list_any (variable_differs tr) vs) (sym is ∙ h))

pub variable_decides : (t : Tracked) (tr : Tracking) (ns : List Name) (as' vs : List (List ℕ)) (a b : Bool) → as' ≡ assigns_in ns → vs ≡ variables_in ns → a ≡ list_any (assign_differs t) as' → a ≡ false
    → b ≡ list_any (variable_differs tr) vs → AreChanged t tr ns b
variable_decides t tr ns as' vs a b assigns variables h is k = any_changed t tr ns as' vs b assigns variables (k ∙ ap (λ c. c || list_any (variable_differs tr) vs) (sym is ∙ h))
