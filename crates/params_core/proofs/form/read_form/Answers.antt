use Rattle.std.proofs.Common.{◌≡◌, ◌≤◌, map, fold, string_bytes, sym, ap, subst, ◌∙◌}
use Rattle.form_urlencoded.specs.Parse.{owned_pairs_left}
use Rattle.value_core.specs.Value as model
use Rattle.value_core.specs.Nesting.{depth_of}
use Rattle.value_core.specs.View.{view}
use Rattle.params_core.specs.Form.{put_pair, decoded}
use Rattle.params_core.proofs.Depths.{pair_within}
use Rattle.params_core.proofs.Pairs.{placed}
use Rattle.params_core.proofs.form.read_form.Goals as goal

pub loop-pair-preserved : goal.loop-pair-preserved
loop-pair-preserved c =
    let step = c.in-Some.ensures.steps in
    let texts = rw c.in_ok-key.was at step.3 in
    let same : view c.in_ok-form.form ≡ put_pair (view c.loop-pair.form) (decoded (step.0, step.1)) =
    placed step.0 step.1 (string_bytes c.in_ok-key.key) (string_bytes c.in_ok-key.value) c.as_str.result.now c.from_string.result c.in_ok-path.path c.as_slice.result.now (view c.loop-pair.form) (view c.in_ok-form.form)
    texts.0 texts.1 c.as_str.ensures.value c.from_string.ensures c.in_ok-path.ensures c.as_slice.ensures c.in_ok-form.ensures in
    record {
      whole = ap (λ v. fold put_pair v (map decoded (owned_pairs_left c.next.new.self))) same
          ∙ ap (λ l. fold put_pair (view c.loop-pair.form) (map decoded l)) (sym step.2)
          ∙ c.loop-pair.invariant.whole;
      nests = subst (λ (v : model.Value). depth_of v ≤ 100) (sym same) (pair_within (view c.loop-pair.form) (decoded (step.0, step.1)) c.loop-pair.invariant.nests);
    }
