-- Rows after a batch.
use Rattle.std.proofs.Common.{◌≡◌, ℕ, zero, suc, ◌-◌, List, [], ◌∷◌, ◌++◌, length, take, drop, Bool, true, false, if◌then◌else◌, refl, sym, ap, ◌∙◌, true≢false}
use Rattle.std.specs.Str.{bytes_eq}
use Rattle.std.proofs.lemmas.Slice.Eq.{bytes_eq-Decides}
use Rattle.diff_tree.specs.Container.{Position, at_end, at_index, Limit, no_limit, first_few, last_few, Row, Insert, has, replaced, deleted, put_at, placed, pruned, inserted, all_deleted, all_inserted}
use Rattle.diff_tree.specs.Laws.{Apart, BatchKeepsApart, InsertsComeLast}

abbrev Text : Type 0
Text = List ℕ

abbrev Rows : Type 0
Rows = List (Row Text)

itself : (k : Text) → bytes_eq k k ≡ true
itself k = (bytes_eq-Decides k k).1 refl

-- an id that is there no more
abbrev No : Text → Rows → Type 0
No k rs = has k rs ≡ false

no_first : (k : Text) (r : Row Text) (rs : Rows) → No k (r ∷ rs) → (bytes_eq k r.0 ≡ false) × No k rs
no_first k r rs h = by_test (bytes_eq k r.0) h
  where
    by_test : (b : Bool) → (if b then true else has k rs) ≡ false → (b ≡ false) × No k rs
    by_test true e = absurd (true≢false e)
    by_test false e = (refl, e)

no_cons : (k : Text) (r : Row Text) (rs : Rows) → bytes_eq k r.0 ≡ false → No k rs → No k (r ∷ rs)
no_cons k r rs e h = ap (λ b. if b then true else has k rs) e ∙ h

replaced_no : (j k : Text) (x : Text) (rs : Rows) → No j rs → No j (replaced k x rs)
replaced_no j k x [] h = refl
replaced_no j k x (r ∷ rs) h = by_test (bytes_eq k r.0) refl (no_first j r rs h) (replaced_no j k x rs)
  where
    by_test : (b : Bool) → bytes_eq k r.0 ≡ b → (bytes_eq j r.0 ≡ false) × No j rs → (No j rs → No j (replaced k x rs)) → No j (if b then (k, x) ∷ rs else r ∷ replaced k x rs)
    by_test true e p s = no_cons j (k, x) rs (ap (bytes_eq j) ((bytes_eq-Decides k r.0).0 e) ∙ p.0) p.1
    by_test false e p s = no_cons j r (replaced k x rs) p.0 (s p.1)

replaced_apart : (k x : Text) (rs : Rows) → Apart rs → Apart (replaced k x rs)
replaced_apart k x [] h = tt
replaced_apart k x (r ∷ rs) h = by_test (bytes_eq k r.0) refl (replaced_apart k x rs h.1)
  where
    by_test : (b : Bool) → bytes_eq k r.0 ≡ b → Apart (replaced k x rs) → Apart (if b then (k, x) ∷ rs else r ∷ replaced k x rs)
    by_test true e s = (ap (λ j. has j rs) ((bytes_eq-Decides k r.0).0 e) ∙ h.0, h.1)
    by_test false e s = (replaced_no r.0 k x rs h.0, s)

deleted_no : (j k : Text) (rs : Rows) → No j rs → No j (deleted k rs)
deleted_no j k [] h = refl
deleted_no j k (r ∷ rs) h = by_test (bytes_eq k r.0) (no_first j r rs h) (deleted_no j k rs)
  where
    by_test : (b : Bool) → (bytes_eq j r.0 ≡ false) × No j rs → (No j rs → No j (deleted k rs)) → No j (if b then deleted k rs else r ∷ deleted k rs)
    by_test true p s = s p.1
    by_test false p s = no_cons j r (deleted k rs) p.0 (s p.1)

deleted_apart : (k : Text) (rs : Rows) → Apart rs → Apart (deleted k rs)
deleted_apart k [] h = tt
deleted_apart k (r ∷ rs) h = by_test (bytes_eq k r.0) (deleted_apart k rs h.1)
  where
    by_test : (b : Bool) → Apart (deleted k rs) → Apart (if b then deleted k rs else r ∷ deleted k rs)
    by_test true s = s
    by_test false s = (deleted_no r.0 k rs h.0, s)

all_deleted_apart : (ks : List Text) (rs : Rows) → Apart rs → Apart (all_deleted ks rs)
all_deleted_apart [] rs h = h
all_deleted_apart (k ∷ ks) rs h = all_deleted_apart ks (deleted k rs) (deleted_apart k rs h)

flipped : (j k : Text) → bytes_eq j k ≡ false → bytes_eq k j ≡ false
flipped j k h = by_test (bytes_eq k j) refl
  where
    by_test : (b : Bool) → bytes_eq k j ≡ b → b ≡ false
    by_test true e = absurd (true≢false (sym ((bytes_eq-Decides j k).1 (sym ((bytes_eq-Decides k j).0 e))) ∙ h))
    by_test false e = refl

append_no : (j : Text) (rs qs : Rows) → No j rs → No j qs → No j (rs ++ qs)
append_no j [] qs h g = g
append_no j (r ∷ rs) qs h g = let p = no_first j r rs h in no_cons j r (rs ++ qs) p.0 (append_no j rs qs p.1 g)

append_apart : (r : Row Text) (rs : Rows) → No r.0 rs → Apart rs → Apart (rs ++ r ∷ [])
append_apart r [] h g = (refl, tt)
append_apart r (q ∷ rs) h g = let p = no_first r.0 q rs h in (append_no q.0 rs (r ∷ []) g.0 (no_cons q.0 r [] (flipped r.0 q.0 p.0) refl), append_apart r rs p.1 g.1)

put_no : (j : Text) (n : ℕ) (r : Row Text) (rs : Rows) → bytes_eq j r.0 ≡ false → No j rs → No j (put_at n r rs)
put_no j zero r rs e h = no_cons j r rs e h
put_no j (suc n) r [] e h = no_cons j r [] e refl
put_no j (suc n) r (q ∷ rs) e h = let p = no_first j q rs h in no_cons j q (put_at n r rs) p.0 (put_no j n r rs e p.1)

put_apart : (n : ℕ) (r : Row Text) (rs : Rows) → No r.0 rs → Apart rs → Apart (put_at n r rs)
put_apart zero r rs h g = (h, g)
put_apart (suc n) r [] h g = (refl, tt)
put_apart (suc n) r (q ∷ rs) h g = let p = no_first r.0 q rs h in (put_no q.0 n r rs (flipped r.0 q.0 p.0) g.0, put_apart n r rs p.1 g.1)

placed_apart : (at : Position) (r : Row Text) (rs : Rows) → No r.0 rs → Apart rs → Apart (placed at r rs)
placed_apart at_end r rs h g = append_apart r rs h g
placed_apart (at_index n) r rs h g = put_apart n r rs h g

take_no : (j : Text) (n : ℕ) (rs : Rows) → No j rs → No j (take n rs)
take_no j zero rs h = refl
take_no j (suc n) [] h = refl
take_no j (suc n) (r ∷ rs) h = let p = no_first j r rs h in no_cons j r (take n rs) p.0 (take_no j n rs p.1)

take_apart : (n : ℕ) (rs : Rows) → Apart rs → Apart (take n rs)
take_apart zero rs h = tt
take_apart (suc n) [] h = tt
take_apart (suc n) (r ∷ rs) h = (take_no r.0 n rs h.0, take_apart n rs h.1)

drop_apart : (n : ℕ) (rs : Rows) → Apart rs → Apart (drop n rs)
drop_apart zero rs h = h
drop_apart (suc n) [] h = tt
drop_apart (suc n) (r ∷ rs) h = drop_apart n rs h.1

pruned_apart : (l : Limit) (rs : Rows) → Apart rs → Apart (pruned l rs)
pruned_apart no_limit rs h = h
pruned_apart (first_few n) rs h = take_apart n rs h
pruned_apart (last_few n) rs h = drop_apart (length rs - n) rs h

inserted_apart : (i : Insert Text) (rs : Rows) → Apart rs → Apart (inserted i rs)
inserted_apart i rs h = pruned_apart i.limit _ (by_test (has i.id rs) refl)
  where
    by_test : (b : Bool) → has i.id rs ≡ b → Apart (if b then replaced i.id i.content rs else placed i.position (i.id, i.content) rs)
    by_test true e = replaced_apart i.id i.content rs h
    by_test false e = placed_apart i.position (i.id, i.content) rs e h

all_inserted_apart : (is : List (Insert Text)) (rs : Rows) → Apart rs → Apart (all_inserted is rs)
all_inserted_apart [] rs h = h
all_inserted_apart (i ∷ is) rs h = all_inserted_apart is (inserted i rs) (inserted_apart i rs h)

begun_apart : (b : Bool) (rs : Rows) → Apart rs → Apart (if b then [] else rs)
begun_apart true rs h = tt
begun_apart false rs h = h

pub batch_keeps_apart : BatchKeepsApart
batch_keeps_apart b rs h = all_inserted_apart b.inserts _ (all_deleted_apart b.deletes _ (begun_apart b.reset rs h))

-- what is inserted last
first_has : (k : Text) (r : Row Text) (rs : Rows) → bytes_eq k r.0 ≡ true → has k (r ∷ rs) ≡ true
first_has k r rs e = ap (λ b. if b then true else has k rs) e

later_has : (k : Text) (r : Row Text) (rs : Rows) → has k rs ≡ true → has k (r ∷ rs) ≡ true
later_has k r rs h = by_test (bytes_eq k r.0)
  where
    by_test : (b : Bool) → (if b then true else has k rs) ≡ true
    by_test true = refl
    by_test false = h

replaced_has : (k x : Text) (rs : Rows) → has k rs ≡ true → has k (replaced k x rs) ≡ true
replaced_has k x [] h = absurd (true≢false (sym h))
replaced_has k x (r ∷ rs) h = by_test (bytes_eq k r.0) h (replaced_has k x rs)
  where
    by_test : (b : Bool) → (if b then true else has k rs) ≡ true → (has k rs ≡ true → has k (replaced k x rs) ≡ true) → has k (if b then (k, x) ∷ rs else r ∷ replaced k x rs) ≡ true
    by_test true e s = first_has k (k, x) rs (itself k)
    by_test false e s = later_has k r (replaced k x rs) (s e)

append_has : (r : Row Text) (rs : Rows) → has r.0 (rs ++ r ∷ []) ≡ true
append_has r [] = first_has r.0 r [] (itself r.0)
append_has r (q ∷ rs) = later_has r.0 q (rs ++ r ∷ []) (append_has r rs)

put_has : (n : ℕ) (r : Row Text) (rs : Rows) → has r.0 (put_at n r rs) ≡ true
put_has zero r rs = first_has r.0 r rs (itself r.0)
put_has (suc n) r [] = first_has r.0 r [] (itself r.0)
put_has (suc n) r (q ∷ rs) = later_has r.0 q (put_at n r rs) (put_has n r rs)

placed_has : (at : Position) (r : Row Text) (rs : Rows) → has r.0 (placed at r rs) ≡ true
placed_has at_end r rs = append_has r rs
placed_has (at_index n) r rs = put_has n r rs

inserted_has : (i : Insert Text) (rs : Rows) → i.limit ≡ no_limit → has i.id (inserted i rs) ≡ true
inserted_has i rs l = ap (λ x. has i.id (pruned x (if has i.id rs then replaced i.id i.content rs else placed i.position (i.id, i.content) rs))) l ∙ by_test (has i.id rs) refl
  where
    by_test : (b : Bool) → has i.id rs ≡ b → has i.id (if b then replaced i.id i.content rs else placed i.position (i.id, i.content) rs) ≡ true
    by_test true e = replaced_has i.id i.content rs e
    by_test false e = placed_has i.position (i.id, i.content) rs

last_has : (is : List (Insert Text)) (i : Insert Text) (rs : Rows) → i.limit ≡ no_limit → has i.id (all_inserted (is ++ i ∷ []) rs) ≡ true
last_has [] i rs l = inserted_has i rs l
last_has (j ∷ is) i rs l = last_has is i (inserted j rs) l

pub inserts_come_last : InsertsComeLast
inserts_come_last b i rs l = last_has b.inserts i _ l
