-- A frame that is fit to be sent has the JSON value of a frame.
use Rattle.std.proofs.Common.{◌≡◌, ◌&&◌, ℕ, List, Bool, true, false, refl, sym, ◌∙◌, Option, Some, None, is_some, true≢false}
use Rattle.std.specs.Str.{IsUtf8, is_utf8}
use Rattle.std.proofs.lemmas.Grind.{not_there}
use Rattle.std.proofs.lemmas.Str.{is_utf8-from_IsUtf8}
use Rattle.serde_json.specs.Data.{string}
use Rattle.diff_tree.specs.Frame.{reference_json}
use Rattle.wire_v2.specs.declared.frame.Frame.{Frame}
use Rattle.wire_v2.specs.declared.frame.FrameBody.{FrameBody}
use Rattle.wire_v2.specs.declared.frame.FrameBody.TheVariants as body
use Rattle.wire_v2.specs.Message.{head_of}
use Rattle.wire_v2.specs.FrameData.{event_name, payload_data, frame_data}
use Rattle.wire_v2.specs.FrameGrammar.{is_body, is_frame}
use Rattle.wire_v2.specs.FrameLaws.{body_fits}

both_to : (a b : Bool) → a ≡ true → b ≡ true → (a && b) ≡ true
both_to a b h k = rw (h, k) refl

-- ---- frames

fits : (r : Option (List ℕ)) (b : FrameBody) → body_fits r b ≡ true → is_body (event_name b) (reference_json r) (payload_data b) ≡ true
fits r body.Empty h = refl
fits r (body.Rendered t) h = h
fits r (body.Changed d) h = h
fits r (body.Refusal reason) h = refl
fits r body.NoCids h = refl
fits None (body.Pushed d) h = h
fits (Some t) (body.Pushed d) h = cc
fits r body.Closed h = refl
fits r (body.Faulted None) h = refl
fits r (body.Faulted (Some reason)) h = refl

head_fits : (j r : Option (List ℕ)) (t : List ℕ) → is_some (head_of (reference_json j) (reference_json r) (string t)) ≡ true
head_fits None None t = refl
head_fits None (Some r) t = refl
head_fits (Some j) None t = refl
head_fits (Some j) (Some r) t = refl

pub frame_fits : (f : Frame) → body_fits f.reference f.body ≡ true → is_frame (frame_data f) ≡ true
frame_fits f h = both_to _ _ (head_fits f.join_ref f.reference f.topic) (fits f.reference f.body h)

-- ---- bytes

pub utf8_is : (bytes : List ℕ) → ∥ IsUtf8 bytes ∥₁ → is_utf8 bytes ≡ true
utf8_is bytes t = by (is_utf8 bytes) refl
  where
    by : (b : Bool) → is_utf8 bytes ≡ b → is_utf8 bytes ≡ true
    by true e = e
    by false e = absurd (not_there t (λ u. true≢false (sym (is_utf8-from_IsUtf8 bytes u) ∙ e)))
