use Rattle.std.proofs.Common.{◌≡◌, ℕ, List, OnOk, sym, ap, ◌∙◌, subst}
use Rattle.ast_core.specs.NamesIn.{bound_by}
use Rattle.ast_core.specs.Walk.{inside}
use Rattle.ast_core.proofs.PatternReads.{binds_items, binds_map}
use Rattle.ast_core.proofs.walk.Walk.+bind.Goals as goal

pub bind-returns-in-Map : goal.bind-returns-in-Map
bind-returns-in-Map t c =
    subst (λ (xs : List (List ℕ)). OnOk c.bind_pairs.result (c.bind_pairs.new.self ≡ inside xs c.args.self.now)) (sym (ap bound_by c.in-Map.is ∙ binds_map _)) c.bind_pairs.ensures

pub bind-returns-in-Tuple : goal.bind-returns-in-Tuple
bind-returns-in-Tuple t c =
    subst (λ (xs : List (List ℕ)). OnOk c.bind_all.result (c.bind_all.new.self ≡ inside xs c.args.self.now)) (sym (binds_items _ _ c.in-Tuple.is)) c.bind_all.ensures
