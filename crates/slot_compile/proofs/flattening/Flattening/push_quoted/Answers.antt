use Rattle.std.proofs.Common.{◌≡◌, ℕ, List, ◌∷◌, ◌++◌, codes, ap, ◌∙◌, append_assoc}
use Rattle.slot_compile.specs.Gathering.{gathered, text}
use Rattle.slot_compile.proofs.Joined.{both_on, last_on}
use Rattle.slot_compile.proofs.flattening.Flattening.push_quoted.Goals as goal

quoted : (n e q v : List ℕ) → (((n ++ e) ++ q) ++ v) ++ q ≡ n ++ ((e ++ q) ++ (v ++ q))
quoted n e q v = append_assoc ((n ++ e) ++ q) v q ∙ ap (λ z. z ++ (v ++ q)) (append_assoc n e q) ∙ append_assoc n (e ++ q) (v ++ q)

pub returns : goal.returns
returns c =
    let name = c.args.name.now in
    let quote = c.args.quote.now in
    let value = c.as_str.result.now in
    let start = gathered c.args.self.now in
    last_on c.push_text-4.result (text ((((32 ∷ name) ++ codes "=") ++ quote) ++ value)) (text quote) (text (32 ∷ (name ++ ((61 ∷ quote) ++ (c.args.value.now ++ quote)))))
    start (gathered c.push_text-3.new.self) (gathered c.push_text-4.new.self)
    (both_on (text (((32 ∷ name) ++ codes "=") ++ quote)) (text value) start (gathered c.push_text-2.new.self) (gathered c.push_text-3.new.self)
    (both_on (text ((32 ∷ name) ++ codes "=")) (text quote) start (gathered c.push_text.new.self) (gathered c.push_text-2.new.self)
    (both_on (text (32 ∷ name)) (text (codes "=")) start (gathered c.push_name.new.self) (gathered c.push_text.new.self) c.in_ok-push_name.ensures c.in_ok-push_text.ensures)
    c.in_ok-push_text-2.ensures)
    c.in_ok-push_text-3.ensures)
    (ap (λ t. text (32 ∷ t)) (quoted name (codes "=") quote value ∙ ap (λ v. name ++ ((61 ∷ quote) ++ (v ++ quote))) c.as_str.ensures))
    c.push_text-4.ensures
