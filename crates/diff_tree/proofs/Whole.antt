-- What is sent has no float.
use Rattle.std.proofs.Common.{◌≡◌, ℕ, ℤ, pos, negsuc, List, [], ◌∷◌, map, Bool, true, false, ◌||◌, refl, sym, ap, ◌∙◌, subst, Ordering, Less, Equal, Greater, nat_cmp, Option, Some, None, codes, decimal, true≢false}
use Rattle.std.specs.Ordering.{match_ordering}
use Rattle.std.specs.Cmp.Lexicographic.{slice_cmp}
use Rattle.serde_json.specs.Data.{unsigned, negative, float, Data, null, boolean, number, string, array, object, Items, no_items, item, Members, no_members, member, put}
use Rattle.serde_json.specs.View.{view, items_of}
use Rattle.serde_json.specs.Written.{has_float, items_have_float, members_have_float}
use Rattle.text_core.specs.declared.by_key.KeyValue.{KeyValue}
use Rattle.text_core.specs.Keyed.{on_value, ascend}
use Rattle.text_core.proofs.Keyed.{both_of}
use Rattle.diff_tree.specs.Spelling.{texts_json, whole_number_json, reset_json, events_json, with_events, with_components, members_of}
use Rattle.diff_tree.specs.Plain.{names, is_plain, items_are_plain, members_are_plain}
use Rattle.diff_tree.specs.Parts.{part_data, place_data, body_members, body_step, place_step, part_step, row_step, row_data, rows_data, places_json, seen, with_statics, with_stream, limit_data, insert_data, inserts_data, stream_data, components_data, pushed_of, diff_data}
use Rattle.diff_tree.specs.declared.push.Push.{Push}
use Rattle.diff_tree.specs.declared.stream.StreamPart.{StreamPart}
use Rattle.diff_tree.specs.declared.stream.StreamInsert.{StreamInsert}
use Rattle.diff_tree.specs.declared.diff.ComponentPart.{ComponentPart}
use Rattle.diff_tree.specs.declared.diff.Diff.{Diff}
use Rattle.diff_tree.specs.declared.part.Part.{Part}
use Rattle.diff_tree.specs.declared.part.PartBody.{PartBody}
use Rattle.diff_tree.specs.declared.part.PlaceValue.{PlaceValue}
use Rattle.diff_tree.specs.declared.part.Row.{Row}
use Rattle.diff_tree.specs.declared.part.PartBody.TheOpen.{Part-F, PartBody-F, PlaceValue-F, Row-F}
use Rattle.diff_tree.specs.declared.part.PartBody.TheFolds.{ind-Part, map-Part, map-PartBody, map-PlaceValue, map-Row, fold-roll-Row, fold-roll-Part, fold-roll-PartBody, fold-roll-PlaceValue}
use Rattle.diff_tree.specs.declared.part.PartBody.TheViews.{roll-Part, roll-PartBody, roll-PlaceValue, roll-Row}

or_false : (a b : Bool) → a ≡ false → b ≡ false → (a || b) ≡ false
or_false true b h k = cc
or_false false b h k = k

or_parts : (a b : Bool) → (a || b) ≡ false → (a ≡ false) × (b ≡ false)
or_parts true b h = cc
or_parts false b h = (refl, h)

chosen : (o : Ordering) (a b c : Members) → members_have_float a ≡ false → members_have_float b ≡ false → members_have_float c ≡ false → members_have_float (match_ordering o a b c) ≡ false
chosen Less a b c x y z = x
chosen Equal a b c x y z = y
chosen Greater a b c x y z = z

pub put_whole : (k : List ℕ) (d : Data) (ms : Members) → has_float d ≡ false → members_have_float ms ≡ false → members_have_float (put k d ms) ≡ false
put_whole k d no_members h m = or_false _ _ h refl
put_whole k d (member l e ms) h m =
    let parts = or_parts (has_float e) (members_have_float ms) m in
    chosen (slice_cmp nat_cmp k l) _ _ _ (or_false _ _ h m) (or_false _ _ h parts.1) (or_false _ _ parts.0 (put_whole k d ms h parts.1))

-- ---- payloads

mutual
  pub plain_whole : (d : Data) → is_plain d ≡ true → has_float d ≡ false
  plain_whole null h = refl
  plain_whole (boolean b) h = refl
  plain_whole (number (unsigned n)) h = refl
  plain_whole (number (negative z)) h = refl
  plain_whole (number (float x)) h = absurd (true≢false (sym h))
  plain_whole (string s) h = refl
  plain_whole (array ds) h = items_whole ds h
  plain_whole (object ms) h = members_whole ms (both_of (ascend (names ms)) (members_are_plain ms) h).1

  items_whole : (ds : Items) → items_are_plain ds ≡ true → items_have_float ds ≡ false
  items_whole no_items h = refl
  items_whole (item d ds) h = let p = both_of (is_plain d) (items_are_plain ds) h in or_false _ _ (plain_whole d p.0) (items_whole ds p.1)

  members_whole : (ms : Members) → members_are_plain ms ≡ true → members_have_float ms ≡ false
  members_whole no_members h = refl
  members_whole (member k d ms) h = let p = both_of (is_plain d) (members_are_plain ms) h in or_false _ _ (plain_whole d p.0) (members_whole ms p.1)

-- ---- nodes

texts_whole : (ts : List (List ℕ)) → items_have_float (texts_json ts) ≡ false
texts_whole [] = refl
texts_whole (t ∷ ts) = texts_whole ts

statics_whole : (st : Option (List (List ℕ))) (ms : Members) → members_have_float ms ≡ false → members_have_float (with_statics st ms) ≡ false
statics_whole None ms h = h
statics_whole (Some ts) ms h = put_whole (codes "s") (array (texts_json ts)) ms (texts_whole ts) h

number_whole : (z : ℤ) → has_float (whole_number_json z) ≡ false
number_whole (pos n) = refl
number_whole (negsuc n) = refl

limit_whole : (l : Option ℤ) → has_float (limit_data l) ≡ false
limit_whole None = refl
limit_whole (Some z) = number_whole z

insert_whole : (i : StreamInsert) → has_float (insert_data i) ≡ false
insert_whole i = or_false _ _ (number_whole i.at) (or_false _ _ (limit_whole i.limit) refl)

inserts_whole : (is : List StreamInsert) → items_have_float (inserts_data is) ≡ false
inserts_whole [] = refl
inserts_whole (i ∷ is) = or_false _ _ (insert_whole i) (inserts_whole is)

reset_whole : (b : Bool) → items_have_float (reset_json b) ≡ false
reset_whole true = refl
reset_whole false = refl

stream_whole : (s : StreamPart) → has_float (stream_data s) ≡ false
stream_whole s = or_false _ _ (inserts_whole s.inserts) (or_false _ _ (texts_whole s.deletes) (reset_whole s.reset))

streams_whole : (s : Option StreamPart) → members_have_float (with_stream s no_members) ≡ false
streams_whole None = refl
streams_whole (Some s) = put_whole (codes "stream") (stream_data s) no_members (stream_whole s) refl

abbrev BodyIsWhole : PartBody → Type 0
BodyIsWhole b = members_have_float (body_members b) ≡ false

abbrev PlaceIsWhole : PlaceValue → Type 0
PlaceIsWhole v = has_float (place_data v) ≡ false

abbrev PartIsWhole : Part → Type 0
PartIsWhole p = has_float (part_data p) ≡ false

abbrev RowIsWhole : Row → Type 0
RowIsWhole r = items_have_float (row_data r) ≡ false

abbrev Body : Type 0
Body = (b : PartBody) × BodyIsWhole b

abbrev Place : Type 0
Place = (v : PlaceValue) × PlaceIsWhole v

abbrev Node : Type 0
Node = (p : Part) × PartIsWhole p

abbrev Line : Type 0
Line = (r : Row) × RowIsWhole r

places_whole : (es : List (KeyValue Place)) → members_have_float (places_json (seen (map (on_value (λ e. e.0)) es))) ≡ false
places_whole [] = refl
places_whole (e ∷ es) = put_whole e.key (place_data e.value.0) _ e.value.1 (places_whole es)

row_whole : (vs : List Place) → items_have_float (items_of (map place_data (map (λ e. e.0) vs))) ≡ false
row_whole [] = refl
row_whole (v ∷ vs) = or_false _ _ v.1 (row_whole vs)

rows_whole : (rs : List Line) → items_have_float (rows_data (map (λ e. e.0) rs)) ≡ false
rows_whole [] = refl
rows_whole (r ∷ rs) = or_false _ _ r.1 (rows_whole rs)

body_layer : (y : PartBody-F Body Place Node Line) → BodyIsWhole (roll-PartBody (map-PartBody _ _ _ _ PartBody PlaceValue Part Row (λ e. e.0) (λ e. e.0) (λ e. e.0) (λ e. e.0) y))
body_layer (PartBody-F.Places es) = ap members_have_float (fold-roll-PartBody Members Data Data Items body_step place_step part_step row_step (PartBody-F.Places (map (on_value (λ e. e.0)) es))) ∙ places_whole es
body_layer (PartBody-F.List rs stream) =
    ap members_have_float (fold-roll-PartBody Members Data Data Items body_step place_step part_step row_step (PartBody-F.List (map (λ e. e.0) rs) stream))
    ∙ put_whole (codes "d") (array (rows_data (map (λ e. e.0) rs))) (with_stream stream no_members) (rows_whole rs) (streams_whole stream)

place_layer : (y : PlaceValue-F Body Place Node Line) → PlaceIsWhole (roll-PlaceValue (map-PlaceValue _ _ _ _ PartBody PlaceValue Part Row (λ e. e.0) (λ e. e.0) (λ e. e.0) (λ e. e.0) y))
place_layer (PlaceValue-F.Text t) = ap has_float (fold-roll-PlaceValue Members Data Data Items body_step place_step part_step row_step (PlaceValue-F.Text t))
place_layer (PlaceValue-F.Number n) = ap has_float (fold-roll-PlaceValue Members Data Data Items body_step place_step part_step row_step (PlaceValue-F.Number n))
place_layer (PlaceValue-F.Node e) = ap has_float (fold-roll-PlaceValue Members Data Data Items body_step place_step part_step row_step (PlaceValue-F.Node e.0)) ∙ e.1

part_layer : (y : Part-F Body Place Node Line) → PartIsWhole (roll-Part (map-Part _ _ _ _ PartBody PlaceValue Part Row (λ e. e.0) (λ e. e.0) (λ e. e.0) (λ e. e.0) y))
part_layer y =
    ap has_float (fold-roll-Part Members Data Data Items body_step place_step part_step row_step (map-Part _ _ _ _ PartBody PlaceValue Part Row (λ e. e.0) (λ e. e.0) (λ e. e.0) (λ e. e.0) y))
    ∙ statics_whole y.statics (body_members y.body.0) y.body.1

row_layer : (y : Row-F Body Place Node Line) → RowIsWhole (roll-Row (map-Row _ _ _ _ PartBody PlaceValue Part Row (λ e. e.0) (λ e. e.0) (λ e. e.0) (λ e. e.0) y))
row_layer y =
    ap items_have_float (fold-roll-Row Members Data Data Items body_step place_step part_step row_step (map-Row _ _ _ _ PartBody PlaceValue Part Row (λ e. e.0) (λ e. e.0) (λ e. e.0) (λ e. e.0) y))
    ∙ row_whole y.values

pub part_whole : (p : Part) → has_float (part_data p) ≡ false
part_whole =
    ind-Part BodyIsWhole PlaceIsWhole PartIsWhole RowIsWhole
    (λ x y is. subst (λ z. BodyIsWhole (roll-PartBody z)) is (body_layer y))
    (λ x y is. subst (λ z. PlaceIsWhole (roll-PlaceValue z)) is (place_layer y))
    (λ x y is. subst (λ z. PartIsWhole (roll-Part z)) is (part_layer y))
    (λ x y is. subst (λ z. RowIsWhole (roll-Row z)) is (row_layer y))

-- ---- pages

components_whole : (cs : List ComponentPart) → members_have_float (components_data cs) ≡ false
components_whole [] = refl
components_whole (c ∷ cs) = put_whole (decimal c.number) (part_data c.part) (components_data cs) (part_whole c.part) (components_whole cs)

with_components_whole : (cs ms : Members) → members_have_float cs ≡ false → members_have_float ms ≡ false → members_have_float (with_components cs ms) ≡ false
with_components_whole no_members ms h g = g
with_components_whole (member k d cs) ms h g = put_whole (codes "c") (object (member k d cs)) ms h g

events_whole : (es : List Push) → items_have_float (events_json (map pushed_of es)) ≡ false
events_whole [] = refl
events_whole (e ∷ es) = or_false _ _ (or_false _ _ (plain_whole (view e.payload) e.whole) refl) (events_whole es)

with_events_whole : (es : List Push) (ms : Members) → members_have_float ms ≡ false → members_have_float (with_events (map pushed_of es) ms) ≡ false
with_events_whole [] ms h = h
with_events_whole (e ∷ es) ms h = put_whole (codes "e") (array (events_json (map pushed_of (e ∷ es)))) ms (events_whole (e ∷ es)) h

root_whole : (d : Data) → has_float d ≡ false → members_have_float (members_of d) ≡ false
root_whole null h = refl
root_whole (boolean b) h = refl
root_whole (number n) h = refl
root_whole (string s) h = refl
root_whole (array ds) h = refl
root_whole (object ms) h = h

pub diff_whole : (d : Diff) → has_float (diff_data d) ≡ false
diff_whole d =
    with_events_whole d.events (with_components (components_data d.components) (members_of (part_data d.root)))
    (with_components_whole (components_data d.components) (members_of (part_data d.root)) (components_whole d.components) (root_whole (part_data d.root) (part_whole d.root)))
