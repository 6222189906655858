-- What a post adds to what its pass made.
use Rattle.std.proofs.Common.{◌≡◌, ℕ, List, [], ◌∷◌, ◌++◌, length, Result, Ok, Err, IfOk, Some, sym, ap, ◌∙◌, arith, length-append}
use Rattle.std.proofs.Math.Seq.{get_or-append_seam}
use Rattle.std.proofs.lemmas.Option.{slice_get-get_or}
use Rattle.std.specs.List.{slice_get}
use Rattle.machine_api.specs.declared.machine.PostFault.{PostFault}
use Rattle.machine_api.specs.Steps.{Posts}
use Rattle.turnstile.specs.Known.{Known}
use Rattle.turnstile.specs.Histories.{news, add_made}
use Rattle.turnstile.proofs.Lists.{news-under}
use Rattle.proc_cell.specs.Posted.{AddsEntry}

at_end : {X : Type 0} (xs : List X) (x : X) → slice_get (xs ++ x ∷ []) (length xs) ≡ Some x
at_end xs x = slice_get-get_or (xs ++ x ∷ []) (length xs) x (omega (arith, length-append xs (x ∷ []))) ∙ ap Some (get_or-append_seam xs x [] x)

module _ {E G : Type 0} where
  -- the journal was found, and is now; the pass was p and is q
  pub posted : (by : ℕ) (e : E) (asked waiting kept : ℕ) (p q : Known E G) (found now seen : List (ℕ × E)) (made : List (ℕ × List E)) (r : Result ℕ PostFault)
      → Posts by e asked waiting kept found r now → by ≡ p.number → found ≡ seen → made ≡ p.made → q.seen ≡ now → q.made ≡ add_made (news seen now) made → IfOk r (AddsEntry p e q)
  posted by e asked waiting kept p q found now seen made (Ok place) h by_is found_is made_is seen_is adds = record {
    stands = ap (λ (l : List (ℕ × E)). slice_get l place) (seen_is ∙ h.2) ∙ (ap (λ (n : ℕ). slice_get (found ++ (by, e) ∷ []) n) h.1 ∙ (at_end found (by, e) ∙ ap (λ (n : ℕ). Some (n, e)) by_is));
    made = adds ∙ (ap (λ (l : List (ℕ × E)). add_made (news l now) made) (sym found_is) ∙ (ap (λ (more : List E). add_made more made) (ap (news found) h.2 ∙ news-under found by (e ∷ [])) ∙ ap (add_made (e ∷ [])) made_is));
  }
  posted by e asked waiting kept p q found now seen made (Err fault) h by_is found_is made_is seen_is adds = tt
