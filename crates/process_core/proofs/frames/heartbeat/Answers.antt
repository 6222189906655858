use Rattle.std.proofs.Common.{◌≡◌, ℕ, List, [], ◌∷◌, None, codes, refl, ap, ◌∙◌}
use Rattle.diff_tree.specs.Frame as model
use Rattle.doc_model.specs.Process.{frame_of}
use Rattle.doc_model.specs.Journal.{spelled}
use Rattle.process_core.proofs.Arms.{on_given}
use Rattle.process_core.proofs.frames.heartbeat.Goals as goal

pub returns : goal.returns
returns c =
    let copied : c.in_ok-topic.topic ≡ codes "phoenix" = c.in_ok-topic.ensures in
    on_given c.one_frame.result (λ fs is. is model.empty refl ∙ ap (λ (t : List ℕ). spelled (frame_of None c.args.head.now.reference t model.empty ∷ [])) copied) c.one_frame.ensures
