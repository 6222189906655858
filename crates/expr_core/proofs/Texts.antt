-- Answers to texts from outcomes of tokens.
use Rattle.std.proofs.Common.{◌≡◌, ℕ, zero, suc, ◌<◌, List, [], ◌∷◌, length, map, inl, inr, Some, refl, sym, subst, arith}
use Rattle.std.specs.List.{slice_get}
use Rattle.expr_core.specs.declared.fault.ExprKind.TheVariants as kind
use Rattle.expr_token.specs.declared.token.Token.{Token}
use Rattle.expr_token.specs.declared.token.Placed.{Placed}
use Rattle.expr_token.specs.declared.token.Opened.{Opened}
use Rattle.expr_token.specs.Tokens.{placed_tokens, left_open}
use Rattle.expr_core.specs.Language.{Language, StrayAt, BadNumberAt, DeepAt, Ended}
use Rattle.expr_core.specs.Answers.{tokens_of, AtToken, OpenAt, Refuses, byte_of}

-- Where a token stands.
pub record Stands (ps : List Placed) (n : ℕ) : Type 0 where
  pub token : Placed
  pub is : slice_get ps n ≡ Some token
  pub place : token.at ≡ byte_of ps n

pub stands : (ps : List Placed) (n : ℕ) → n < length (map (λ (p : Placed). p.token) ps) → Stands ps n
stands [] n h = absurd (omega arith)
stands (p ∷ ps) zero h = record { token = p; is = refl; place = refl }
stands (p ∷ ps) (suc n) h = let r = stands ps n (omega arith) in record { token = r.token; is = r.is; place = r.place }

pub at_token : (text : List ℕ) (Fault : List Token → ℕ → Type 0) (n : ℕ) → n < length (tokens_of text) → Fault (tokens_of text) n → AtToken text Fault (byte_of (placed_tokens text) n)
at_token text Fault n h f =
    let s = stands (placed_tokens text) n h in
    record { n = n; stands = record { token = s.token; is = s.is; place = s.place }; fault = f }

pub stray_token : (L : Language) (text : List ℕ) (n : ℕ) → StrayAt L (tokens_of text) n → Refuses L text (byte_of (placed_tokens text) n) kind.Stray
stray_token L text n f = inl (at_token text (StrayAt L) n f.fault.within f)

pub large_token : (L : Language) (text : List ℕ) (n : ℕ) → BadNumberAt L (tokens_of text) n → Refuses L text (byte_of (placed_tokens text) n) kind.BadNumber
large_token L text n f = at_token text (BadNumberAt L) n f.fault.within f

pub deep_token : (L : Language) (text : List ℕ) (n : ℕ) → DeepAt L (tokens_of text) n → Refuses L text (byte_of (placed_tokens text) n) kind.TooDeep
deep_token L text n f = at_token text (DeepAt L) n f.within f

pub stray_end : (L : Language) (text : List ℕ) → Ended L (tokens_of text) → left_open text ≡ [] → Refuses L text (length text) kind.Stray
stray_end L text e h = inr (record { ends = e; none_open = h; place = refl })

pub open_end : (L : Language) (text : List ℕ) (p : Opened) (ps : List Opened) → Ended L (tokens_of text) → left_open text ≡ p ∷ ps → Refuses L text p.at kind.Unclosed
open_end L text p ps e h = record { ends = e; opening = subst (λ l. OpenAt l p.at) (sym h) refl }
