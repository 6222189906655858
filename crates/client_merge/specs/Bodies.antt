-- What a client makes of a frame's body.
use Rattle.std.specs.Prelude.{ℕ, List, [], ◌∷◌, Option, Some, None, if◌then◌else◌, codes}
use Rattle.std.specs.Str.{bytes_eq}
use Rattle.serde_json.specs.Data.{Data}
use Rattle.diff_tree.specs.Tree.{Tree}
use Rattle.diff_tree.specs.Client.{and_then}
use Rattle.diff_tree.specs.Parts.{part_data, root_of, components_of}
use Rattle.diff_tree.specs.declared.diff.ComponentPart.{ComponentPart}
use Rattle.diff_tree.specs.declared.diff.Diff.{Diff}
use Rattle.wire_v2.specs.declared.frame.FrameBody.{FrameBody}
use Rattle.wire_v2.specs.declared.frame.FrameBody.TheVariants as body
use Rattle.client_merge.specs.Reading.{tree_of}
use Rattle.client_merge.specs.Page.{merged_page}
use Rattle.client_merge.specs.Frames.{page_with, without_events}

-- after an error reply with this reason
abbrev pub after_refusal : Option Tree → List ℕ → Option (Option Tree)
after_refusal held reason = if bytes_eq reason (codes "join crashed") then Some None else Some held

abbrev pub alone : List ComponentPart → Data → Option Data
alone [] d = Some d
alone (c ∷ cs) d = None

-- the root that is sent, without what stands under `e`, where no component is
abbrev pub root_sent : Diff → Option Data
root_sent d = alone (components_of d) (without_events (part_data (root_of d)))

-- a page or none; none of both where the body is bad for what is held
abbrev pub after_body : Option Tree → FrameBody → Option (Option Tree)
after_body held (body.Rendered d) = page_with (and_then (root_sent d) tree_of)
after_body held (body.Changed d) = page_with (and_then (root_sent d) (merged_page held))
after_body held (body.Pushed d) = page_with (and_then (root_sent d) (merged_page held))
after_body held (body.Refusal reason) = after_refusal held reason
after_body held body.Closed = Some None
after_body held (body.Faulted reason) = Some None
after_body held _ = Some held
