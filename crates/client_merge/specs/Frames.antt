-- What a client makes of the bytes of frames.
use Rattle.std.specs.Prelude.{◌≡◌, ℕ, List, [], ◌∷◌, ◌++◌, Option, Some, None, option_map, Bool, false, ◌&&◌, if◌then◌else◌, codes}
use Rattle.std.specs.Str.{bytes_eq, is_utf8}
use Rattle.serde_json.specs.Data.{Data, string, array, object, no_items, item}
use Rattle.serde_json.specs.Find.{get}
use Rattle.serde_json.specs.Read.{read}
use Rattle.diff_tree.specs.Tree.{Tree}
use Rattle.diff_tree.specs.Client.{and_then}
use Rattle.diff_tree.specs.Grammar.{without}
use Rattle.wire_v2.specs.FrameGrammar.{only_member, is_frame}
use Rattle.client_merge.specs.Reading.{tree_of}
use Rattle.client_merge.specs.Page.{merged_page}

-- a page of this tree, where there is one
abbrev pub page_with : Option Tree → Option (Option Tree)
page_with t = option_map (λ u. Some u) t

-- what is sent of a page, without the events beside it. Components stay: as they are not held, they make what is sent bad
abbrev pub without_events : Data → Data
without_events (object ms) = object (without (codes "e") ms)
without_events d = d

-- a page of a tree that was sent, without the events beside it
abbrev pub page_taken : Data → Option (Option Tree)
page_taken d = page_with (tree_of (without_events d))

-- a page after a diff that was sent, without the events beside it
abbrev pub page_changed : Option Tree → Data → Option (Option Tree)
page_changed held d = page_with (merged_page held (without_events d))

-- the reason that ends a page
abbrev pub is_crash : Data → Bool
is_crash (string reason) = bytes_eq reason (codes "join crashed")
is_crash _ = false

-- after what a response has under a name
abbrev pub after_answer : Option Tree → List ℕ → Data → Option (Option Tree)
after_answer held name d =
    if bytes_eq name (codes "rendered") then page_taken d
    else if bytes_eq name (codes "diff") then page_changed held d
    else if bytes_eq name (codes "reason") && is_crash d then Some None
    else Some held

-- after the response of a reply: one member, or none
abbrev pub after_response : Option Tree → Option (List ℕ × Data) → Option (Option Tree)
after_response held None = Some held
after_response held (Some m) = after_answer held m.0 m.1

-- after an event with its payload: a reply, a diff, or the end of the page
abbrev pub after_event : Option Tree → List ℕ → Data → Option (Option Tree)
after_event held event payload =
    if bytes_eq event (codes "phx_reply") then after_response held (and_then (get (codes "response") payload) only_member)
    else if bytes_eq event (codes "diff") then page_changed held payload
    else Some None

-- after a frame: an array of join reference, reference, topic, event and payload
abbrev pub after_frame : Option Tree → Data → Option (Option Tree)
after_frame held (array (item j (item r (item t (item (string event) (item payload no_items)))))) = after_event held event payload
after_frame held _ = None

-- the JSON value of the frame that bytes spell, where they spell one
abbrev pub frame_in : List ℕ → Option Data
frame_in bytes = if is_utf8 bytes then and_then (read bytes) (λ d. if is_frame d then Some d else None) else None

-- what a client holds after the bytes of a frame: a page or none; none of both where they are bad for it
abbrev pub client_reads : Option Tree → List ℕ → Option (Option Tree)
client_reads held bytes = and_then (frame_in bytes) (after_frame held)

-- the same after the bytes of frames, in order
abbrev pub client_reads_all : Option Tree → List (List ℕ) → Option (Option Tree)
client_reads_all held [] = Some held
client_reads_all held (f ∷ fs) = and_then (client_reads held f) (λ h. client_reads_all h fs)

-- a client that met a bad frame, or wanted memory, holds what the frames in front of it made
abbrev pub ReadsFront : Option Tree → List (List ℕ) → Option Tree → Type 0
ReadsFront old frames new = (front : List (List ℕ)) × (rest : List (List ℕ)) × (frames ≡ front ++ rest) × (client_reads_all old front ≡ Some new)
