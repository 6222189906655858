-- What a client makes of bytes, by what they spell.
use Rattle.std.proofs.Common.{◌≡◌, ℕ, List, Option, Some, None, Bool, true, false, if◌then◌else◌, refl, ap, ◌∙◌}
use Rattle.std.specs.Str.{is_utf8}
use Rattle.serde_json.specs.Data.{Data}
use Rattle.serde_json.specs.Read.{read}
use Rattle.diff_tree.specs.Tree.{Tree, Change, merge_change}
use Rattle.diff_tree.specs.Client.{and_then}
use Rattle.diff_tree.specs.Parts.{diff_data}
use Rattle.diff_tree.specs.declared.diff.Diff.{Diff}
use Rattle.wire_v2.specs.declared.frame.Frame.{Frame}
use Rattle.wire_v2.specs.declared.frame.FrameBody.{FrameBody}
use Rattle.wire_v2.specs.declared.frame.FrameBody.TheVariants as body
use Rattle.wire_v2.specs.FrameData.{event_name, payload_data, frame_data}
use Rattle.client_merge.specs.Reading.{change_of, written}
use Rattle.client_merge.specs.Page.{merged_page}
use Rattle.client_merge.specs.Bodies.{root_sent, after_body}
use Rattle.client_merge.proofs.Roots.{diff_read}
use Rattle.wire_v2.specs.FrameGrammar.{is_frame, SpellsFrame}
use Rattle.client_merge.specs.Frames.{without_events, page_with, after_event, after_frame, client_reads}

-- bytes that spell a frame are read as that frame
pub reads_spelled : (bytes : List ℕ) (d : Data) → SpellsFrame bytes d → (held : Option Tree) → client_reads held bytes ≡ after_frame held d
reads_spelled bytes d h held = let u = h.0 in let r = h.1 in let f = h.2 in rw (u, r, f) refl

-- bytes that spell none are bad
pub reads_none : (bytes : List ℕ) → ((d : Data) → ¬ (SpellsFrame bytes d)) → (held : Option Tree) → client_reads held bytes ≡ None
reads_none bytes h held = by (is_utf8 bytes) refl
  where
    judge : (d : Data) (b : Bool) → is_utf8 bytes ≡ true → read bytes ≡ Some d → is_frame d ≡ b → and_then (if b then Some d else None) (after_frame held) ≡ None
    judge d true u r f = absurd (h d (u, r, f))
    judge d false u r f = refl

    found : (o : Option Data) → is_utf8 bytes ≡ true → read bytes ≡ o → and_then (and_then o (λ d. if is_frame d then Some d else None)) (after_frame held) ≡ None
    found None u r = refl
    found (Some d) u r = judge d (is_frame d) u r refl

    by : (b : Bool) → is_utf8 bytes ≡ b → and_then (if b then and_then (read bytes) (λ d. if is_frame d then Some d else None) else None) (after_frame held) ≡ None
    by true u = found (read bytes) u refl
    by false u = refl

-- ---- a frame is taken as its body

sent_with : (f : Change → Option Tree) (d : Diff) → and_then (change_of (without_events (diff_data d))) f ≡ and_then (root_sent d) (λ x. and_then (change_of x) f)
sent_with f d = ap (λ (o : Option Change). and_then o f) (diff_read d) ∙ by (root_sent d)
  where
    by : (o : Option Data) → and_then (and_then o change_of) f ≡ and_then o (λ x. and_then (change_of x) f)
    by None = refl
    by (Some x) = refl

changed_taken : (held : Option Tree) (d : Diff) → merged_page held (without_events (diff_data d)) ≡ and_then (root_sent d) (merged_page held)
changed_taken None d = by (root_sent d)
  where
    by : (o : Option Data) → None ≡ and_then o (merged_page None)
    by None = refl
    by (Some x) = refl
changed_taken (Some t) d = sent_with (merge_change t) d

body_taken : (held : Option Tree) (b : FrameBody) → after_event held (event_name b) (payload_data b) ≡ after_body held b
body_taken held body.Empty = refl
body_taken held (body.Rendered d) = ap page_with (sent_with written d)
body_taken held (body.Changed d) = ap page_with (changed_taken held d)
body_taken held (body.Refusal reason) = refl
body_taken held body.NoCids = refl
body_taken held (body.Pushed d) = ap page_with (changed_taken held d)
body_taken held body.Closed = refl
body_taken held (body.Faulted reason) = refl

pub frame_taken : (bytes : List ℕ) (f : Frame) → SpellsFrame bytes (frame_data f) → (held : Option Tree) → client_reads held bytes ≡ after_body held f.body
frame_taken bytes f spells held = reads_spelled bytes (frame_data f) spells held ∙ body_taken held f.body
