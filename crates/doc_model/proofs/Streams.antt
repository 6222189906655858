-- A batch acts on identifiers alone: it commutes with any change of the contents.
use Rattle.std.proofs.Common.{◌≡◌, ℕ, zero, suc, ◌-◌, List, [], ◌∷◌, length, take, drop, map, Bool, true, false, if◌then◌else◌, refl, sym, ap, ◌∙◌}
use Rattle.std.specs.Str.{bytes_eq}
use Rattle.std.proofs.lemmas.List.{map-append}
use Rattle.diff_tree.specs.Container.{Position, at_end, at_index, Limit, no_limit, first_few, last_few, Row, Insert, Batch, has, replaced, deleted, put_at, placed, pruned, inserted, all_deleted, all_inserted, apply_batch}

module _ {X Y : Type 0} (f : X → Y) where
  abbrev pub over : Row X → Row Y
  over r = (r.0, f r.1)

  abbrev pub seen : List (Row X) → List (Row Y)
  seen rs = map over rs

  abbrev pub seen_insert : Insert X → Insert Y
  seen_insert i = record { id = i.id; position = i.position; limit = i.limit; content = f i.content }

  has-seen : (k : List ℕ) (rs : List (Row X)) → has k (seen rs) ≡ has k rs
  has-seen k [] = refl
  has-seen k (r ∷ rs) = ap (λ b. if bytes_eq k r.0 then true else b) (has-seen k rs)

  choice : (c : Bool) (u v : List (Row X)) → seen (if c then u else v) ≡ (if c then seen u else seen v)
  choice true u v = refl
  choice false u v = refl

  replaced-seen : (k : List ℕ) (x : X) (rs : List (Row X)) → replaced k (f x) (seen rs) ≡ seen (replaced k x rs)
  replaced-seen k x [] = refl
  replaced-seen k x (r ∷ rs) = ap (λ u. if bytes_eq k r.0 then (k, f x) ∷ seen rs else over r ∷ u) (replaced-seen k x rs) ∙ sym (choice (bytes_eq k r.0) ((k, x) ∷ rs) (r ∷ replaced k x rs))

  deleted-seen : (k : List ℕ) (rs : List (Row X)) → deleted k (seen rs) ≡ seen (deleted k rs)
  deleted-seen k [] = refl
  deleted-seen k (r ∷ rs) = ap (λ u. if bytes_eq k r.0 then u else over r ∷ u) (deleted-seen k rs) ∙ sym (choice (bytes_eq k r.0) (deleted k rs) (r ∷ deleted k rs))

  put_at-seen : (n : ℕ) (r : Row X) (rs : List (Row X)) → put_at n (over r) (seen rs) ≡ seen (put_at n r rs)
  put_at-seen zero r rs = refl
  put_at-seen (suc n) r [] = refl
  put_at-seen (suc n) r (q ∷ rs) = ap (λ u. over q ∷ u) (put_at-seen n r rs)

  placed-seen : (p : Position) (r : Row X) (rs : List (Row X)) → placed p (over r) (seen rs) ≡ seen (placed p r rs)
  placed-seen at_end r rs = sym (map-append over rs (r ∷ []))
  placed-seen (at_index n) r rs = put_at-seen n r rs

  take-seen : (n : ℕ) (rs : List (Row X)) → take n (seen rs) ≡ seen (take n rs)
  take-seen zero rs = refl
  take-seen (suc n) [] = refl
  take-seen (suc n) (r ∷ rs) = ap (λ u. over r ∷ u) (take-seen n rs)

  drop-seen : (n : ℕ) (rs : List (Row X)) → drop n (seen rs) ≡ seen (drop n rs)
  drop-seen zero rs = refl
  drop-seen (suc n) [] = refl
  drop-seen (suc n) (r ∷ rs) = drop-seen n rs

  length-seen : (rs : List (Row X)) → length (seen rs) ≡ length rs
  length-seen [] = refl
  length-seen (r ∷ rs) = ap suc (length-seen rs)

  pruned-seen : (l : Limit) (rs : List (Row X)) → pruned l (seen rs) ≡ seen (pruned l rs)
  pruned-seen no_limit rs = refl
  pruned-seen (first_few n) rs = take-seen n rs
  pruned-seen (last_few n) rs = ap (λ m. drop (m - n) (seen rs)) (length-seen rs) ∙ drop-seen (length rs - n) rs

  inserted-seen : (i : Insert X) (rs : List (Row X)) → inserted (seen_insert i) (seen rs) ≡ seen (inserted i rs)
  inserted-seen i rs =
      ap (λ c. pruned i.limit (if c then replaced i.id (f i.content) (seen rs) else placed i.position (i.id, f i.content) (seen rs))) (has-seen i.id rs)
      ∙ ap (λ u. pruned i.limit (if has i.id rs then u else placed i.position (i.id, f i.content) (seen rs))) (replaced-seen i.id i.content rs)
      ∙ ap (λ u. pruned i.limit (if has i.id rs then seen (replaced i.id i.content rs) else u)) (placed-seen i.position (i.id, i.content) rs)
      ∙ ap (pruned i.limit) (sym (choice (has i.id rs) (replaced i.id i.content rs) (placed i.position (i.id, i.content) rs)))
      ∙ pruned-seen i.limit _

  all_deleted-seen : (ks : List (List ℕ)) (rs : List (Row X)) → all_deleted ks (seen rs) ≡ seen (all_deleted ks rs)
  all_deleted-seen [] rs = refl
  all_deleted-seen (k ∷ ks) rs = ap (all_deleted ks) (deleted-seen k rs) ∙ all_deleted-seen ks (deleted k rs)

  all_inserted-seen : (is : List (Insert X)) (rs : List (Row X)) → all_inserted (map seen_insert is) (seen rs) ≡ seen (all_inserted is rs)
  all_inserted-seen [] rs = refl
  all_inserted-seen (i ∷ is) rs = ap (all_inserted (map seen_insert is)) (inserted-seen i rs) ∙ all_inserted-seen is (inserted i rs)

  pub applied-seen : (b : Batch X) (rs : List (Row X)) → apply_batch (record { reset = b.reset; deletes = b.deletes; inserts = map seen_insert b.inserts }) (seen rs) ≡ seen (apply_batch b rs)
  applied-seen b rs =
      ap (λ u. all_inserted (map seen_insert b.inserts) (all_deleted b.deletes u)) (sym (choice b.reset [] rs))
      ∙ ap (all_inserted (map seen_insert b.inserts)) (all_deleted-seen b.deletes (if b.reset then [] else rs))
      ∙ all_inserted-seen b.inserts _
