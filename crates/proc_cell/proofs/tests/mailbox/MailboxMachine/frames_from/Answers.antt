use Rattle.std.proofs.Common.{◌≡◌, ℕ, List, [], ◌∷◌, ◌++◌, drop, refl, sym, ap, ◌∙◌}
use Rattle.std.proofs.Math.Seq.{drop-nil}
use Rattle.std.specs.List.{flat_map}
use Rattle.proc_cell.proofs.tests.mailbox.MailboxMachine.frames_from.Goals as goal

none_in : {X A : Type 0} (f : X → List A) → ((x : X) → f x ≡ []) → (xs : List X) → flat_map f xs ≡ []
none_in f none [] = refl
none_in f none (x ∷ xs) = λ i. none x i ++ none_in f none xs i

pub returns : goal.returns
returns c = c.new.ensures ∙ sym (ap (λ (l : List (List ℕ)). drop c.args._from l) (none_in _ (λ x. refl) c.args.self.now.log.items) ∙ drop-nil c.args._from)
