-- The program's frames beside the frames of the definitions.
use Rattle.std.specs.Prelude.{◌≡◌, ℕ, List, Option, is_none, Bool, true, ◌&&◌}
use Rattle.diff_tree.specs.Client.{PageTree, PageDiff}
use Rattle.diff_tree.specs.Frame as model
use Rattle.diff_tree.specs.Spelling.{Pushed, page_tree_json, page_diff_json}
use Rattle.diff_tree.specs.Grammar.{is_diff}
use Rattle.diff_tree.specs.Parts.{diff_data}
use Rattle.wire_v2.specs.FrameData.{frame_data}
use Rattle.wire_v2.specs.FrameGrammar.{is_whole}
use Rattle.wire_v2.specs.declared.frame.Frame.{Frame}
use Rattle.wire_v2.specs.declared.frame.FrameBody.{FrameBody}
use Rattle.wire_v2.specs.declared.frame.FrameBody.TheVariants as body

-- the same form; a tree or a diff is one by its JSON value
abbrev pub BodyStandsFor : FrameBody → model.FrameBody → Type 0
BodyStandsFor body.Empty b = b ≡ model.empty
BodyStandsFor (body.Rendered t) b = (p : PageTree) × (es : List Pushed) × (diff_data t ≡ page_tree_json p es) × (b ≡ model.rendered p es)
BodyStandsFor (body.Changed d) b = (p : PageDiff) × (es : List Pushed) × (diff_data d ≡ page_diff_json p es) × (b ≡ model.changed p es)
BodyStandsFor (body.Refusal reason) b = b ≡ model.refusal reason
BodyStandsFor body.NoCids b = b ≡ model.no_cids
BodyStandsFor (body.Pushed d) b = (p : PageDiff) × (es : List Pushed) × (diff_data d ≡ page_diff_json p es) × (b ≡ model.push p es)
BodyStandsFor body.Closed b = b ≡ model.closed
BodyStandsFor (body.Faulted reason) b = b ≡ model.faulted reason

abbrev pub StandsFor : Frame → model.Frame → Type 0
StandsFor f g = (f.join_ref ≡ g.join_reference) × (f.reference ≡ g.reference) × (f.topic ≡ g.topic) × BodyStandsFor f.body g.body

-- a frame has the JSON value of the frame that it stands for
abbrev pub FramesAgree : Type 0
FramesAgree = (f : Frame) (g : model.Frame) → StandsFor f g → frame_data f ≡ model.frame_json g

-- a tree is whole, a diff is one, and a diff that answers no message has no reference
abbrev pub body_fits : Option (List ℕ) → FrameBody → Bool
body_fits reference (body.Rendered t) = is_whole (diff_data t) && is_diff (diff_data t)
body_fits reference (body.Changed d) = is_diff (diff_data d)
body_fits reference (body.Pushed d) = is_none reference && is_diff (diff_data d)
body_fits reference _ = true
