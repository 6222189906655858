use Rattle.std.proofs.Common.{◌≡◌, ◌+◌, drop, sym, ap, ◌∙◌}
use Rattle.std.specs.Prelude.{option_map}
use Rattle.heex_token.specs.Tokens.{begins, through}
use Rattle.heex_token.proofs.Scans.{counted, through_here, through_on}
use Rattle.heex_token.proofs.scan.through.Goals as goal

pub returns-then-begins_with : goal.returns-then-begins_with
returns-then-begins_with c =
    let word = c.args.word.now in
    let l = c.args.rest.now in
    let j = c.loop-at.at in
    let h : begins word (drop j l) ≡ _ = ap (begins word) (sym c.split_at.ensures.back) ∙ sym c.begins_with.ensures ∙ c.if-begins_with.true in
    ap (option_map (λ n. j + n)) (sym (through_here word l j c.loop-at-test.true h)) ∙ c.loop-at.invariant

pub loop-at-preserved : goal.loop-at-preserved
loop-at-preserved c =
    let word = c.args.word.now in
    let l = c.args.rest.now in
    let j = c.loop-at.at in
    let h : begins word (drop j l) ≡ _ = ap (begins word) (sym c.split_at.ensures.back) ∙ sym c.begins_with.ensures ∙ c.if-begins_with.false in
    sym (counted j (through word (drop (j + 1) l))) ∙ ap (option_map (λ n. j + n)) (sym (through_on word l j c.loop-at-test.true h)) ∙ c.loop-at.invariant
