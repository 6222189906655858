-- The frames that a process sends, as JSON values, and what a client makes of them.
use Rattle.std.specs.Prelude.{ℕ, List, [], ◌∷◌, Option, Some, None, if◌then◌else◌, codes}
use Rattle.std.specs.Str.{bytes_eq}
use Rattle.serde_json.specs.Data.{Data, null, string, array, object, no_items, item, no_members, put}
use Rattle.diff_tree.specs.Client.{PageTree, PageDiff, opened_tree, judged, merge_diff}
use Rattle.diff_tree.specs.Spelling.{Pushed, page_tree_json, page_diff_json}

-- what a frame carries
pub data FrameBody : Type 0 where
  -- a reply with nothing
  empty : FrameBody
  -- a reply with the whole tree, and one with a diff
  rendered : PageTree → List Pushed → FrameBody
  changed : PageDiff → List Pushed → FrameBody
  -- an error reply with its reason
  refusal : List ℕ → FrameBody
  -- the reply to `cids_destroyed`
  no_cids : FrameBody
  -- a diff that answers no message
  push : PageDiff → List Pushed → FrameBody
  closed : FrameBody
  -- `phx_error`, with its reason where it has one
  faulted : Option (List ℕ) → FrameBody

-- join reference, reference and topic
pub record Frame : Type 0 where
  pub join_reference : Option (List ℕ)
  pub reference : Option (List ℕ)
  pub topic : List ℕ
  pub body : FrameBody

-- a text, or null
abbrev pub reference_json : Option (List ℕ) → Data
reference_json None = null
reference_json (Some t) = string t

-- an object of one member
abbrev pub one_member : List ℕ → Data → Data
one_member k d = object (put k d no_members)

-- the payload of a reply
abbrev pub reply : List ℕ → Data → Data
reply status response = object (put (codes "response") response (put (codes "status") (string status) no_members))

-- the payload of `phx_error`
abbrev pub fault_json : Option (List ℕ) → Data
fault_json None = object no_members
fault_json (Some reason) = one_member (codes "reason") (string reason)

-- the fourth item of a frame
abbrev pub event_of : FrameBody → List ℕ
event_of (push d es) = codes "diff"
event_of closed = codes "phx_close"
event_of (faulted reason) = codes "phx_error"
event_of _ = codes "phx_reply"

-- the fifth item of a frame
abbrev pub payload_of : FrameBody → Data
payload_of empty = reply (codes "ok") (object no_members)
payload_of (rendered p es) = reply (codes "ok") (one_member (codes "rendered") (page_tree_json p es))
payload_of (changed d es) = reply (codes "ok") (one_member (codes "diff") (page_diff_json d es))
payload_of (refusal reason) = reply (codes "error") (one_member (codes "reason") (string reason))
payload_of no_cids = reply (codes "ok") (one_member (codes "cids") (array no_items))
payload_of (push d es) = page_diff_json d es
payload_of closed = object no_members
payload_of (faulted reason) = fault_json reason

-- a frame is an array of join reference, reference, topic, event and payload
abbrev pub frame_json : Frame → Data
frame_json f = array (item (reference_json f.join_reference) (item (reference_json f.reference) (item (string f.topic) (item (string (event_of f.body)) (item (payload_of f.body) no_items)))))

-- what a client holds after a frame, with at most so many levels of components: a page or none; none of both where the frame is bad for it
abbrev pub held_diff : ℕ → Option PageTree → PageDiff → Option (Option PageTree)
held_diff k None d = None
held_diff k (Some p) d = elim (merge_diff k p d) [ None ↦ None | Some q ↦ Some (Some q) ]

-- what a client holds after one frame
abbrev pub client_takes : ℕ → Option PageTree → FrameBody → Option (Option PageTree)
client_takes k held (rendered p es) = elim (judged k (opened_tree p)) [ None ↦ None | Some q ↦ Some (Some q) ]
client_takes k held (changed d es) = held_diff k held d
client_takes k held (push d es) = held_diff k held d
client_takes k held closed = Some None
client_takes k held (faulted reason) = Some None
client_takes k held (refusal reason) = if bytes_eq reason (codes "join crashed") then Some None else Some held
client_takes k held _ = Some held

-- what a client holds after frames, in order
abbrev pub client_takes_all : ℕ → Option PageTree → List Frame → Option (Option PageTree)
client_takes_all k held [] = Some held
client_takes_all k held (f ∷ fs) = elim (client_takes k held f.body) [ None ↦ None | Some h ↦ client_takes_all k h fs ]
