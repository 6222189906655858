-- Keys that are parsed.
use Rattle.std.proofs.Common.{◌≡◌, ◌<◌, ◌^◌, ℕ, List, true, Ok, Err}
use Rattle.std.specs.Str.Parse.{ParsesUnsigned}
use Rattle.std.proofs.lemmas.Str.Parse.{parse_digits}
use Rattle.text_core.proofs.Decimals.{own, no_fault}
use Rattle.diff_tree.specs.Grammar.{is_place}
use Rattle.client_merge.specs.Reading.{number_of}
use Rattle.client_merge.proofs.Members.{place_digits}

-- digits of a place that were not parsed are too many
pub not_parsed : {E : Type 0} (e : E) (k : List ℕ) → ParsesUnsigned 64 10 k (Err e) → is_place k ≡ true → number_of k < 2 ^ 64 → ⊥
not_parsed e k h is small = let d = place_digits k is in no_fault e k h d.0 d.1 small

pub parsed : (n : ℕ) (k : List ℕ) → ParsesUnsigned {E = Unit {0}} 64 10 k (Ok n) → is_place k ≡ true → (number_of k < 2 ^ 64) × (n ≡ number_of k)
parsed n k h is = let d = place_digits k is in let r = parse_digits own {E = Unit {0}} 64 k (Ok n) h d.0 in (r.0.1, r.1)
