-- Members that are put into an object.
use Rattle.std.proofs.Common.{◌≡◌, ℕ, List, [], ◌∷◌, refl, sym, ap, ◌∙◌, Less, Equal, Greater, nat_cmp}
use Rattle.std.specs.Ordering.{ordering_reverse, match_ordering}
use Rattle.std.specs.declared.cmp.Ordering.{Ordering}
use Rattle.std.specs.Cmp.Lexicographic.{slice_cmp, nat_list_cmp_total}
use Rattle.std.proofs.lemmas.Map.Lookups.{exact_bytes}
use Rattle.serde_json.specs.Data.{Data, Items, string, Members, no_members, member, put}
use Rattle.text_core.specs.declared.by_key.KeyValue.{KeyValue}
use Rattle.text_core.specs.Keyed.{entry, with_key}
use Rattle.diff_tree.specs.declared.part.PlaceValue.{PlaceValue}
use Rattle.diff_tree.specs.declared.part.Part.{Part}
use Rattle.diff_tree.specs.declared.part.PlaceValue.TheVariants.{Text, rolls-Text, Node, rolls-Node}
use Rattle.diff_tree.specs.Parts.{body_step, part_data, place_data, places_json, row_step, seen, place_step, part_step}
use Rattle.diff_tree.specs.declared.part.PartBody.TheOpen.{PlaceValue-F}
use Rattle.diff_tree.specs.declared.part.PartBody.TheFolds.{fold-roll-PlaceValue}

abbrev pub order : List ℕ → List ℕ → Ordering
order = slice_cmp nat_cmp

turned : (k l : List ℕ) → order k l ≡ Less → order l k ≡ Greater
turned k l h = nat_list_cmp_total.antisymm l k ∙ ap ordering_reverse h

turned_back : (k l : List ℕ) → order k l ≡ Greater → order l k ≡ Less
turned_back k l h = nat_list_cmp_total.antisymm l k ∙ ap ordering_reverse h

below_equal : (k l m : List ℕ) → order k l ≡ Less → order l m ≡ Equal → order k m ≡ Less
below_equal k l m h e = ap (order k) (sym (exact_bytes l m e)) ∙ h

-- two puts at different keys, the lesser outside
put_lesser : (k l : List ℕ) (d e : Data) (ms : Members) → order k l ≡ Less → put k d (put l e ms) ≡ put l e (put k d ms)
put_lesser k l d e no_members h = rw (h, turned k l h) refl
put_lesser k l d e (member m f ms) h = by (order k m) refl (order l m) refl (put_lesser k l d e ms h)
  where
    by : (o : Ordering) → order k m ≡ o → (p : Ordering) → order l m ≡ p → put k d (put l e ms) ≡ put l e (put k d ms)
        → put k d (match_ordering p (member l e (member m f ms)) (member m e ms) (member m f (put l e ms)))
        ≡ put l e (match_ordering o (member k d (member m f ms)) (member m d ms) (member m f (put k d ms)))
    by Less is Less also rest = rw (h, turned k l h, also) refl
    by Equal is Less also rest = let n : order k m ≡ Less = nat_list_cmp_total.trans k l m h also in cc
    by Greater is Less also rest = let n : order k m ≡ Less = nat_list_cmp_total.trans k l m h also in cc
    by Less is Equal also rest = rw (is, turned k l h, also) refl
    by Equal is Equal also rest = let n : order k m ≡ Less = below_equal k l m h also in cc
    by Greater is Equal also rest = let n : order k m ≡ Less = below_equal k l m h also in cc
    by Less is Greater also rest = rw (is, turned k l h, also) refl
    by Equal is Greater also rest = rw (is, also) refl
    by Greater is Greater also rest = rw (is, also) (ap (member m f) rest)

-- two puts at one key: the later holds
put_twice : (k l : List ℕ) (d e : Data) (ms : Members) → order k l ≡ Equal → put k d (put l e ms) ≡ put k d ms
put_twice k l d e ms h = rw (sym (exact_bytes k l h)) (again ms)
  where
    same_key : order k k ≡ Equal
    same_key = ap (order k) (exact_bytes k l h) ∙ h

    again : (ns : Members) → put k d (put k e ns) ≡ put k d ns
    again no_members = rw (same_key) refl
    again (member m f ns) = by (order k m) refl (again ns)
      where
        by : (o : Ordering) → order k m ≡ o → put k d (put k e ns) ≡ put k d ns
            → put k d (match_ordering o (member k e (member m f ns)) (member m e ns) (member m f (put k e ns)))
            ≡ match_ordering o (member k d (member m f ns)) (member m d ns) (member m f (put k d ns))
        by Less is rest = rw (same_key) refl
        by Equal is rest = rw (is) refl
        by Greater is rest = rw (is) (ap (member m f) rest)

-- a place that is put under a key
pub places_put : (k : List ℕ) (v : PlaceValue) (es : List (KeyValue PlaceValue)) → places_json (seen (with_key k v es)) ≡ put k (place_data v) (places_json (seen es))
places_put k v [] = refl
places_put k v (e ∷ es) = by (order k e.key) refl (places_put k v es)
  where
    by : (o : Ordering) → order k e.key ≡ o → places_json (seen (with_key k v es)) ≡ put k (place_data v) (places_json (seen es))
        → places_json (seen (match_ordering o (entry k v ∷ e ∷ es) (entry k v ∷ es) (e ∷ with_key k v es)))
        ≡ put k (place_data v) (put e.key (place_data e.value) (places_json (seen es)))
    by Less is rest = refl
    by Equal is rest = sym (put_twice k e.key (place_data v) (place_data e.value) (places_json (seen es)) is)
    by Greater is rest = ap (put e.key (place_data e.value)) rest ∙ put_lesser e.key k (place_data e.value) (place_data v) (places_json (seen es)) (turned_back k e.key is)

-- a text and a node, seen
pub text_seen : (t : List ℕ) → place_data (Text t) ≡ string t
text_seen t = ap place_data (sym (rolls-Text t)) ∙ fold-roll-PlaceValue Members Data Data Items body_step place_step part_step row_step (PlaceValue-F.Text t)

pub node_seen : (p : Part) → place_data (Node p) ≡ part_data p
node_seen p = ap place_data (sym (rolls-Node p)) ∙ fold-roll-PlaceValue Members Data Data Items body_step place_step part_step row_step (PlaceValue-F.Node p)
