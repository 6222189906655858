use Rattle.std.proofs.Common.{◌∙◌, ap, refl}
use Rattle.serde_json.specs.Written.{compact_text}
use Rattle.wire_v2.specs.declared.frame.Frame.{Frame}
use Rattle.doc_model.specs.Process.{frame_of}
use Rattle.process_core.proofs.frames.frame_bytes.Goals as goal

pub returns : goal.returns
returns c b stands =
    let frame : Frame = record { join_ref = c.args.join_ref; reference = c.args.reference; topic = c.args.topic; body = c.args.body } in
    c.in_ok-bytes.ensures.text ∙ ap compact_text (c.frames_agree.ensures frame (frame_of c.args.join_ref c.args.reference c.args.topic b) (refl, refl, refl, stands))
