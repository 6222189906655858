-- How far a text is read into tokens.
use Rattle.std.specs.Prelude.{◌≡◌, ℕ, ◌≤◌, List, [], ◌∷◌, length, drop, Bool, true, false, Option, IfSome}
use Rattle.heex_token.specs.declared.token.Token.{Token}
use Rattle.heex_token.specs.declared.token.TokenForm.{TokenForm}
use Rattle.heex_token.specs.declared.token.TokenForm.TheVariants.{Text}
use Rattle.heex_token.specs.declared.lexer.Lexer.{Lexer}
use Rattle.heex_token.specs.Answers.{Spans, Apart}
use Rattle.heex_token.specs.Tokens.{token_before, result_map, tokens_from, tokens_of}

abbrev pub is_text : TokenForm → Bool
is_text Text = true
is_text form = false

-- a token behind others, joined to the last where both are texts
abbrev pub added : List Token → Token → List Token
added [] t = t ∷ []
added (u ∷ []) t = token_before u (t ∷ [])
added (u ∷ v ∷ vs) t = u ∷ added (v ∷ vs) t

-- tokens before others, with texts that stand side by side joined
abbrev pub joined_on : List Token → List Token → List Token
joined_on [] us = us
joined_on (t ∷ ts) us = token_before t (joined_on ts us)

-- no more tags are counted than there are bytes
abbrev pub Counted : Option ℕ → ℕ → Type 0
Counted plain at = IfSome plain (λ n. n ≤ at)

-- The tokens so far and those of what follows are the tokens of the text.
pub record Going (text : List ℕ) (l : Lexer) : Type 0 where
  pub within : l.at ≤ length text
  pub counted : Counted l.region.plain l.at
  pub same : tokens_of text ≡ result_map (joined_on l.list) (tokens_from l.at l.region 0 (drop l.at text))
  pub spans : Spans 0 l.at l.list
  pub apart : Apart l.list
