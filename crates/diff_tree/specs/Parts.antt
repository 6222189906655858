-- The JSON values of nodes as they are sent.
use Rattle.std.specs.Prelude.{ℕ, ℤ, List, [], ◌∷◌, map, Option, Some, None, codes}
use Rattle.std.specs.Fmt.{decimal}
use Rattle.serde_json.specs.Data.{Data, null, number, unsigned, string, array, object, Items, no_items, item, Members, no_members, put}
use Rattle.serde_json.specs.View.{view, items_of}
use Rattle.text_core.specs.declared.by_key.KeyValue.{KeyValue}
use Rattle.text_core.specs.Keyed.{on_value}
use Rattle.diff_tree.specs.Spelling.{whole_number_json, texts_json, reset_json, Pushed, with_events, with_components, members_of}
use Rattle.diff_tree.specs.declared.push.Push.{Push}
use Rattle.diff_tree.specs.declared.stream.StreamPart.{StreamPart}
use Rattle.diff_tree.specs.declared.stream.StreamInsert.{StreamInsert}
use Rattle.diff_tree.specs.declared.diff.ComponentPart.{ComponentPart}
use Rattle.diff_tree.specs.declared.diff.Diff.{Diff}
use Rattle.diff_tree.specs.declared.part.Part.{Part, out-Part}
use Rattle.diff_tree.specs.declared.part.PartBody.{PartBody, out-PartBody}
use Rattle.diff_tree.specs.declared.part.PlaceValue.{PlaceValue}
use Rattle.diff_tree.specs.declared.part.Row.{Row, out-Row}
use Rattle.diff_tree.specs.declared.part.PartBody.TheOpen.{Part-F, PartBody-F, PlaceValue-F, Row-F}
use Rattle.diff_tree.specs.declared.part.PartBody.TheFolds.{fold-Part, fold-PartBody, fold-PlaceValue, fold-Row}

-- each place under its key
abbrev pub places_json : List (KeyValue Data) → Members
places_json [] = no_members
places_json (e ∷ es) = put e.key e.value (places_json es)

-- `s` stands where there are statics
abbrev pub with_statics : Option (List (List ℕ)) → Members → Members
with_statics None ms = ms
with_statics (Some st) ms = put (codes "s") (array (texts_json st)) ms

-- `null` for no limit
abbrev pub limit_data : Option ℤ → Data
limit_data None = null
limit_data (Some z) = whole_number_json z

-- an insert is its dom id, its position and its limit
abbrev pub insert_data : StreamInsert → Data
insert_data i = array (item (string i.id) (item (whole_number_json i.at) (item (limit_data i.limit) no_items)))

abbrev pub inserts_data : List StreamInsert → Items
inserts_data [] = no_items
inserts_data (i ∷ is) = item (insert_data i) (inserts_data is)

-- the name, the inserts, the deletes, and `true` after a reset
abbrev pub stream_data : StreamPart → Data
stream_data s = array (item (string s.name) (item (array (inserts_data s.inserts)) (item (array (texts_json s.deletes)) (reset_json s.reset))))

-- `stream` stands where the rows are those of a stream
abbrev pub with_stream : Option StreamPart → Members → Members
with_stream None ms = ms
with_stream (Some s) ms = put (codes "stream") (stream_data s) ms

-- a row is the list of its places' values
abbrev pub rows_items : List Items → Items
rows_items [] = no_items
rows_items (r ∷ rs) = item (array r) (rows_items rs)

-- one level, with what is inside already seen
abbrev pub body_step : PartBody-F Members Data Data Items → Members
body_step (PartBody-F.Places es) = places_json es
body_step (PartBody-F.List rs stream) = put (codes "d") (array (rows_items rs)) (with_stream stream no_members)

abbrev pub place_step : PlaceValue-F Members Data Data Items → Data
place_step (PlaceValue-F.Text t) = string t
place_step (PlaceValue-F.Number n) = number (unsigned n)
place_step (PlaceValue-F.Node d) = d

abbrev pub part_step : Part-F Members Data Data Items → Data
part_step p = object (with_statics p.statics p.body)

abbrev pub row_step : Row-F Members Data Data Items → Items
row_step r = items_of r.values

abbrev pub part_data : Part → Data
part_data = fold-Part Members Data Data Items body_step place_step part_step row_step

abbrev pub place_data : PlaceValue → Data
place_data = fold-PlaceValue Members Data Data Items body_step place_step part_step row_step

abbrev pub body_members : PartBody → Members
body_members = fold-PartBody Members Data Data Items body_step place_step part_step row_step

-- the values of a row
abbrev pub row_data : Row → Items
row_data = fold-Row Members Data Data Items body_step place_step part_step row_step

-- the values of places, seen
abbrev pub seen : List (KeyValue PlaceValue) → List (KeyValue Data)
seen es = map (on_value place_data) es

-- rows, one after the other
abbrev pub rows_data : List Row → Items
rows_data rs = rows_items (map row_data rs)

-- a node of these statics and places
abbrev pub node_data : Option (List (List ℕ)) → List (KeyValue PlaceValue) → Data
node_data st es = object (with_statics st (places_json (seen es)))

-- a node of these statics and rows, and of the operations of a stream where it is one
abbrev pub list_data : Option (List (List ℕ)) → List Row → Option StreamPart → Data
list_data st rs stream = object (put (codes "d") (array (rows_data rs)) (with_statics st (with_stream stream no_members)))

-- components under their numbers
abbrev pub components_data : List ComponentPart → Members
components_data [] = no_members
components_data (c ∷ cs) = put (decimal c.number) (part_data c.part) (components_data cs)

-- a pushed event: its name, and its payload
abbrev pub pushed_of : Push → Pushed
pushed_of e = (e.name, view e.payload)

-- an array of the name and the payload
abbrev pub push_data : Push → Data
push_data e = array (item (string e.name) (item (view e.payload) no_items))

-- a root, with `c` where there are components, and with `e` where there are pushed events
abbrev pub page_data : Part → List ComponentPart → List Push → Data
page_data p cs es = object (with_events (map pushed_of es) (with_components (components_data cs) (members_of (part_data p))))

abbrev pub diff_data : Diff → Data
diff_data d = page_data d.root d.components d.events

-- the statics and the body that a node is made of
abbrev pub statics_of : Part → Option (List (List ℕ))
statics_of p = (out-Part p).statics

abbrev pub body_of : Part → PartBody
body_of p = (out-Part p).body

-- the places of a body
abbrev pub places_of : PartBody → Option (List (KeyValue PlaceValue))
places_of b = places_in (out-PartBody b)
  where
    places_in : PartBody-F PartBody PlaceValue Part Row → Option (List (KeyValue PlaceValue))
    places_in (PartBody-F.Places es) = Some es
    places_in (PartBody-F.List rs stream) = None

-- the values that a row is made of
abbrev pub values_of : Row → List PlaceValue
values_of r = (out-Row r).values

-- what a diff is made of
abbrev pub root_of : Diff → Part
root_of d = d.root

abbrev pub components_of : Diff → List ComponentPart
components_of d = d.components

abbrev pub events_of : Diff → List Push
events_of d = d.events
