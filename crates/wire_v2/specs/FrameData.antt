-- The JSON values of frames.
use Rattle.std.specs.Prelude.{◌≡◌, ℕ, List, Bool, true, codes}
use Rattle.serde_json.specs.Data.{Data, string, array, object, no_items, item, no_members, put}
use Rattle.diff_tree.specs.Frame.{reference_json, one_member, reply, fault_json}
use Rattle.diff_tree.specs.Grammar.{is_diff}
use Rattle.diff_tree.specs.Parts.{diff_data}
use Rattle.wire_v2.specs.declared.frame.Frame.{Frame}
use Rattle.wire_v2.specs.declared.frame.FrameBody.{FrameBody}
use Rattle.wire_v2.specs.declared.frame.FrameBody.TheVariants as body

-- the fourth item of a frame
abbrev pub event_name : FrameBody → List ℕ
event_name (body.Pushed d) = codes "diff"
event_name body.Closed = codes "phx_close"
event_name (body.Faulted reason) = codes "phx_error"
event_name _ = codes "phx_reply"

-- the fifth item of a frame
abbrev pub payload_data : FrameBody → Data
payload_data body.Empty = reply (codes "ok") (object no_members)
payload_data (body.Rendered t) = reply (codes "ok") (one_member (codes "rendered") (diff_data t))
payload_data (body.Changed d) = reply (codes "ok") (one_member (codes "diff") (diff_data d))
payload_data (body.Refusal reason) = reply (codes "error") (one_member (codes "reason") (string reason))
payload_data body.NoCids = reply (codes "ok") (one_member (codes "cids") (array no_items))
payload_data (body.Pushed d) = diff_data d
payload_data body.Closed = object no_members
payload_data (body.Faulted reason) = fault_json reason

-- what a body carries of a page is a diff
abbrev pub carries_diff : FrameBody → Bool
carries_diff (body.Rendered t) = is_diff (diff_data t)
carries_diff (body.Changed d) = is_diff (diff_data d)
carries_diff (body.Pushed d) = is_diff (diff_data d)
carries_diff _ = true

-- a body has this event and this payload
abbrev pub IsBody : List ℕ → Data → FrameBody → Type 0
IsBody event payload b = (event_name b ≡ event) × (payload_data b ≡ payload) × (carries_diff b ≡ true)

-- five items
abbrev pub framed : Data → Data → Data → Data → Data → Data
framed j r t event payload = array (item j (item r (item t (item event (item payload no_items)))))

-- an array of join reference, reference, topic, event and payload
abbrev pub frame_data : Frame → Data
frame_data f = framed (reference_json f.join_ref) (reference_json f.reference) (string f.topic) (string (event_name f.body)) (payload_data f.body)

-- a reply with this status
abbrev pub reply_under : Data → Data → Data
reply_under status response = object (put (codes "response") response (put (codes "status") status no_members))
