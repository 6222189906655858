use Rattle.std.proofs.Common.{rules, ◌≡◌, ℕ, List, ◌∷◌, length, Result, Ok, Err, sym, ap, subst, ◌∙◌, arith}
use Rattle.std.specs.Vec.Iter.{into_iter_items}
use Rattle.heex_reader.specs.Contents.{kind_of_tag}
use Rattle.heex_reader.specs.Fits.{AttributesFit}
use Rattle.heex_reader.specs.Located.{Fault}
use Rattle.heex_reader.specs.Onto.{one_onto, tag_onto, bare_tag}
use Rattle.heex_reader.specs.SeenSigns.{FaultGiven, tag_view}
use Rattle.heex_reader.specs.Signs.{Tag}
use Rattle.heex_reader.proofs.Onward.{onto_next, onto_fault}
use Rattle.heex_reader.proofs.tag.tag_of.Goals as goal

pub returns-in_err-tag-clause-tag : goal.returns-in_err-tag-clause-tag
returns-in_err-tag-clause-tag c =
    let at = c.attributes in
    let k = kind_of_tag c.args.name in
    let t : Tag = tag_view at.tag in
    let raw = c.in-Some.raw in
    let left = into_iter_items c.next.new.self in
    let fault = c.in_err-tag.field-0.0 in
    let gives : c.from_residual.result ≡ Err fault = search rules in
    let steps : into_iter_items at.raw-iterator ≡ raw ∷ left = c.in-Some.ensures.steps.0 in
    let one : FaultGiven fault (one_onto k t raw) = subst (λ (n : List ℕ). FaultGiven fault (one_onto (kind_of_tag n) t raw)) at.invariant.named c.in_err-tag.ensures.tag in
    let all : FaultGiven fault (tag_onto k (bare_tag c.args.name) c.args.attributes)
    = subst (λ (r : Result Tag Fault). FaultGiven fault r) (sym (ap (tag_onto k t) steps) ∙ at.invariant.same) (onto_fault k t raw left fault one) in
    rw gives all

pub attributes-preserved : goal.attributes-preserved
attributes-preserved c =
    let at = c.attributes in
    let k = kind_of_tag c.args.name in
    let t : Tag = tag_view at.tag in
    let new : Tag = tag_view c.in_ok-tag.tag in
    let raw = c.in-Some.raw in
    let left = into_iter_items c.next.new.self in
    let steps : into_iter_items at.raw-iterator ≡ raw ∷ left = c.in-Some.ensures.steps.0 in
    let one : one_onto k t raw ≡ Ok new = subst (λ (n : List ℕ). one_onto (kind_of_tag n) t raw ≡ Ok new) at.invariant.named c.in_ok-tag.ensures.tag in
    record {
      same = sym (onto_next k t new raw left one) ∙ sym (ap (tag_onto k t) steps) ∙ at.invariant.same;
      counted = let was = at.invariant.counted in
          let gone = c.in-Some.ensures.steps.1 in
          let short = ap length steps in
          omega arith;
      named = c.in_ok-tag.ensures.name ∙ at.invariant.named;
      fits = (subst AttributesFit steps at.invariant.fits).1;
      follows = c.with_attribute.ensures.follows;
    }
