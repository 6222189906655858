-- Which JSON values are frames. The order of members in a text is lost when it is read: an object has its members in the order of their keys.
use Rattle.std.specs.Prelude.{◌≡◌, ℕ, List, Option, Some, None, is_some, Bool, true, false, ◌&&◌, if◌then◌else◌, codes}
use Rattle.std.specs.Str.{bytes_eq, is_utf8}
use Rattle.serde_json.specs.Data.{Data, null, string, array, object, Items, no_items, item, Members, no_members, member}
use Rattle.serde_json.specs.Find.{get_member}
use Rattle.serde_json.specs.Read.{read}
use Rattle.diff_tree.specs.Grammar.{is_diff}
use Rattle.wire_v2.specs.Message.{head_of}

-- the key and the value of an object's only member
abbrev pub only_member : Data → Option (List ℕ × Data)
only_member (object (member k d no_members)) = Some (k, d)
only_member _ = None

-- the members of an object of two
abbrev pub two_members : Data → Option ((List ℕ × Data) × (List ℕ × Data))
two_members (object (member k d (member l e no_members))) = Some ((k, d), (l, e))
two_members _ = None

abbrev pub is_null : Data → Bool
is_null null = true
is_null _ = false

abbrev pub is_text : Data → Bool
is_text (string t) = true
is_text _ = false

abbrev pub is_empty_list : Data → Bool
is_empty_list (array no_items) = true
is_empty_list _ = false

abbrev pub is_empty_object : Data → Bool
is_empty_object (object no_members) = true
is_empty_object _ = false

-- ---- trees

-- each node has its statics, rows included; under other keys there are no nodes
abbrev mutual
  pub is_whole_node : Data → Bool
  is_whole_node (object ms) = is_some (get_member (codes "s") ms) && are_whole ms
  is_whole_node (array ds) = items_are_whole ds
  is_whole_node _ = true

  pub are_whole : Members → Bool
  are_whole no_members = true
  are_whole (member k d ms) = is_whole_node d && are_whole ms

  pub items_are_whole : Items → Bool
  items_are_whole no_items = true
  items_are_whole (item d ds) = is_whole_node d && items_are_whole ds

-- the nodes of components
abbrev pub components_are_whole : Data → Bool
components_are_whole (object ms) = are_whole ms
components_are_whole _ = true

-- what stands under a key of a page; pushed events have no nodes
abbrev pub is_whole_at : List ℕ → Data → Bool
is_whole_at k d =
    if bytes_eq k (codes "e") then true
    else if bytes_eq k (codes "c") then components_are_whole d
    else is_whole_node d

abbrev pub all_whole : Members → Bool
all_whole no_members = true
all_whole (member k d ms) = is_whole_at k d && all_whole ms

-- the root has its statics, and each node inside, and in the components
abbrev pub is_whole : Data → Bool
is_whole (object ms) = is_some (get_member (codes "s") ms) && all_whole ms
is_whole _ = true

-- a diff that is whole
abbrev pub is_tree : Data → Bool
is_tree d = is_whole d && is_diff d

-- ---- bodies

-- a reason and nothing else
abbrev pub is_reason : Option (List ℕ × Data) → Bool
is_reason None = false
is_reason (Some m) = bytes_eq m.0 (codes "reason") && is_text m.1

-- a tree, a diff or the empty list, each under its name
abbrev pub is_content : Option (List ℕ × Data) → Bool
is_content None = false
is_content (Some m) =
    if bytes_eq m.0 (codes "rendered") then is_tree m.1
    else if bytes_eq m.0 (codes "diff") then is_diff m.1
    else bytes_eq m.0 (codes "cids") && is_empty_list m.1

-- the response of a reply that is `ok`
abbrev pub is_response : Data → Bool
is_response d = if is_empty_object d then true else is_content (only_member d)

-- a response under a status
abbrev pub is_reply_of : Data → Data → Bool
is_reply_of response (string status) =
    if bytes_eq status (codes "ok") then is_response response
    else bytes_eq status (codes "error") && is_reason (only_member response)
is_reply_of response _ = false

-- a response and a status
abbrev pub is_reply : Option ((List ℕ × Data) × (List ℕ × Data)) → Bool
is_reply None = false
is_reply (Some ms) = bytes_eq ms.0.0 (codes "response") && bytes_eq ms.1.0 (codes "status") && is_reply_of ms.0.1 ms.1.1

-- a reason, where there is one
abbrev pub is_fault : Data → Bool
is_fault d = if is_empty_object d then true else is_reason (only_member d)

-- the payload of an event; a diff that answers no message has no reference
abbrev pub is_body : List ℕ → Data → Data → Bool
is_body event reference payload =
    if bytes_eq event (codes "phx_reply") then is_reply (two_members payload)
    else if bytes_eq event (codes "diff") then is_null reference && is_diff payload
    else if bytes_eq event (codes "phx_close") then is_empty_object payload
    else bytes_eq event (codes "phx_error") && is_fault payload

-- an array of join reference, reference, topic, event and payload
abbrev pub is_frame : Data → Bool
is_frame (array (item j (item r (item t (item (string event) (item payload no_items)))))) = is_some (head_of j r t) && is_body event r payload
is_frame _ = false

-- these bytes are JSON of this frame
abbrev pub SpellsFrame : List ℕ → Data → Type 0
SpellsFrame bytes d = (is_utf8 bytes ≡ true) × (read bytes ≡ Some d) × (is_frame d ≡ true)
