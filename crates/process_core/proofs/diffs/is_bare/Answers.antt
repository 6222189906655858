use Rattle.std.proofs.Common.{◌≡◌, Some, None, sym, ap, ◌∙◌, rules}
use Rattle.serde_json.specs.Data.{object}
use Rattle.diff_tree.specs.Parts.{body_members, statics_of}
use Rattle.wire_v2.specs.FrameGrammar.{is_empty_object}
use Rattle.process_core.proofs.Plain.{with_statics_is, without_is}
use Rattle.process_core.proofs.diffs.is_bare.Goals as goal

pub returns-in-Some : goal.returns-in-Some
returns-in-Some c =
    let there : Some c.in-Some._statics.now ≡ statics_of c.args.part.now = search rules in
    sym (with_statics_is c.args.part.now c.in-Some._statics.now there)

pub returns-in-None : goal.returns-in-None
returns-in-None c =
    let none : None ≡ statics_of c.args.part.now = search rules in
    c.has_nothing.ensures ∙ ap (λ b. is_empty_object (object (body_members b))) c.body.ensures ∙ sym (without_is c.args.part.now none)
