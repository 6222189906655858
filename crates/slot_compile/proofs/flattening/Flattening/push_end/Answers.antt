use Rattle.std.proofs.Common.{◌≡◌, ℕ, List, [], ◌++◌, true, false, if◌then◌else◌, codes, sym, ap, ◌∙◌}
use Rattle.ast_core.specs.Places.{closing, is_void}
use Rattle.slot_compile.specs.Gathering.{gathered, text, then_on}
use Rattle.slot_compile.proofs.Joined.{both_on, last_on, nothing_on}
use Rattle.slot_compile.proofs.flattening.Flattening.push_end.Goals as goal

not_void : (t : List ℕ) → is_void t ≡ false → closing t ≡ codes "</" ++ (t ++ codes ">")
not_void t h = ap (λ b. if b then [] else codes "</" ++ (t ++ codes ">")) h

void : (t : List ℕ) → is_void t ≡ true → closing t ≡ []
void t h = ap (λ b. if b then [] else codes "</" ++ (t ++ codes ">")) h

pub returns-then-is_void : goal.returns-then-is_void
returns-then-is_void c =
    let name = c.args.name.now in
    nothing_on c.args.self.now
    ∙ ap (λ t. then_on (gathered c.args.self.now) (text t)) (sym (void name (ap is_void (sym c.as_str.ensures) ∙ sym c.is_void.ensures ∙ c.if-is_void.true)))

pub returns : goal.returns
returns c =
    let name = c.args.name.now in
    last_on c.push_text-3.result (text (codes "</" ++ c.as_str-2.result.now)) (text (codes ">")) (text (closing name)) (gathered c.args.self.now) (gathered c.push_text-2.new.self) (gathered c.push_text-3.new.self)
    (both_on (text (codes "</")) (text c.as_str-2.result.now) (gathered c.args.self.now) (gathered c.push_text.new.self) (gathered c.push_text-2.new.self) c.in_ok-push_text.ensures c.in_ok-push_text-2.ensures)
    (ap (λ n. text (codes "</" ++ (n ++ codes ">"))) c.as_str-2.ensures
    ∙ ap text (sym (not_void name (ap is_void (sym c.as_str.ensures) ∙ sym c.is_void.ensures ∙ c.if-is_void.false))))
    c.push_text-3.ensures
