use Rattle.std.proofs.Common.{◌+◌, drop, get_or, reverse, sym, ap, ◌∙◌}
use Rattle.std.specs.Prelude.{option_map}
use Rattle.heex_token.specs.Tokens.{closing}
use Rattle.heex_token.specs.Pieces.{open_after, before_after}
use Rattle.heex_token.proofs.Scans.{counted, closing_step, some_open, some_turned}
use Rattle.heex_token.proofs.scan.to_brace.Goals as goal

pub loop-at-preserved : goal.loop-at-preserved
loop-at-preserved c =
    let l = c.args.rest.now in
    let j = c.loop-at.at in
    let os = reverse c.loop-at.scan.openings in
    let before = c.loop-at.scan.before in
    let b = get_or l j 0 in
    let some = some_turned c.loop-at.scan.openings c.loop-at.invariant.some in
    record {
      some = some_open c.pass.new.scan.openings c.is_empty.result c.is_empty.ensures c.if-is_empty.false;
      same = ap (λ x. option_map (λ n. j + 1 + n) (closing x c.pass.new.scan.before (drop (j + 1) l))) c.in_ok-pass.ensures.openings
          ∙ ap (λ x. option_map (λ n. j + 1 + n) (closing (open_after os before b) x (drop (j + 1) l))) c.in_ok-pass.ensures.before
          ∙ sym (counted j (closing (open_after os before b) (before_after os before b) (drop (j + 1) l)))
          ∙ ap (option_map (λ n. j + n)) (sym (closing_step os before l j some c.loop-at-test.true))
          ∙ c.loop-at.invariant.same;
    }
