use Rattle.std.proofs.Common.{sym, ap, ◌∙◌}
use Rattle.serde_json.specs.Data.{object}
use Rattle.diff_tree.specs.Parts.{body_members}
use Rattle.wire_v2.specs.FrameGrammar.{is_empty_object}
use Rattle.process_core.proofs.Plain.{places_bare, list_not_bare}
use Rattle.process_core.proofs.diffs.has_nothing.Goals as goal

pub returns-in-Places : goal.returns-in-Places
returns-in-Places c =
    places_bare c.in-Places.places c.is_empty.result c.is_empty.ensures ∙ sym (ap (λ b. is_empty_object (object (body_members b))) c.in-Places.is)

pub returns-in-List : goal.returns-in-List
returns-in-List c = list_not_bare c.in-List.rows c.in-List.stream ∙ sym (ap (λ b. is_empty_object (object (body_members b))) c.in-List.is)
