-- A token behind others, joined to the last where both are texts.
use Rattle.std.proofs.Common.{◌≡◌, ℕ, ◌<◌, ◌++◌, List, [], ◌∷◌, true, false, refl, ap, ◌∙◌, arith}
use Rattle.heex_token.specs.declared.token.Token.{Token}
use Rattle.heex_token.specs.declared.token.TokenForm.{TokenForm}
use Rattle.heex_token.specs.declared.token.TokenForm.TheVariants.{Text}
use Rattle.heex_token.specs.Answers.{IsText, Spans, Apart}
use Rattle.heex_token.specs.Lexing.{is_text, added, joined_on}
use Rattle.heex_token.specs.Tokens.{text_before, token_before}

abbrev token : ℕ → ℕ → TokenForm → Token
token s e f = record { start = s; end = e; form = f }

-- What the code tests.

pub kept_before : (u t : Token) → is_text u.form ≡ false → token_before u (t ∷ []) ≡ u ∷ t ∷ []
kept_before u t h = by_form u.start u.end u.form h
  where
    by_form : (s e : ℕ) (f : TokenForm) → is_text f ≡ false → token_before (token s e f) (t ∷ []) ≡ token s e f ∷ t ∷ []
    by_form s e Text h = cc
    by_form s e _ h = refl

pub kept_behind : (u t : Token) → is_text t.form ≡ false → token_before u (t ∷ []) ≡ u ∷ t ∷ []
kept_behind u t h = by_form u.start u.end u.form t.start t.end t.form h
  where
    before_text : (s e a b : ℕ) (g : TokenForm) → is_text g ≡ false → text_before (token s e Text) (token a b g ∷ []) ≡ token s e Text ∷ token a b g ∷ []
    before_text s e a b Text h = cc
    before_text s e a b _ h = refl

    by_form : (s e : ℕ) (f : TokenForm) (a b : ℕ) (g : TokenForm) → is_text g ≡ false → token_before (token s e f) (token a b g ∷ []) ≡ token s e f ∷ token a b g ∷ []
    by_form s e Text a b g h = before_text s e a b g h
    by_form s e _ a b g h = refl

pub merged : (u t : Token) → is_text u.form ≡ true → is_text t.form ≡ true → token_before u (t ∷ []) ≡ token u.start t.end Text ∷ []
merged u t h k = by_form u.start u.end u.form t.start t.end t.form h k
  where
    before_text : (s e a b : ℕ) (g : TokenForm) → is_text g ≡ true → text_before (token s e Text) (token a b g ∷ []) ≡ token s b Text ∷ []
    before_text s e a b Text k = refl
    before_text s e a b _ k = cc

    by_form : (s e : ℕ) (f : TokenForm) (a b : ℕ) (g : TokenForm) → is_text f ≡ true → is_text g ≡ true → token_before (token s e f) (token a b g ∷ []) ≡ token s b Text ∷ []
    by_form s e Text a b g h k = before_text s e a b g k
    by_form s e _ a b g h k = cc

pub added_end : (ts : List Token) (u t : Token) → added (ts ++ u ∷ []) t ≡ ts ++ token_before u (t ∷ [])
added_end [] u t = refl
added_end (x ∷ []) u t = refl
added_end (x ∷ y ∷ ts) u t = ap (λ l. x ∷ l) (added_end (y ∷ ts) u t)

-- What is joined from the left is what is joined from the right.

text_triple : (s e a b c d : ℕ) (f : TokenForm) (us : List Token)
    → text_before (token s b Text) (token c d f ∷ us) ≡ text_before (token s e Text) (text_before (token a b Text) (token c d f ∷ us))
text_triple s e a b c d Text us = refl
text_triple s e a b c d _ us = refl

text_pair : (s e a b : ℕ) (g : TokenForm) (us : List Token)
    → joined_on (text_before (token s e Text) (token a b g ∷ [])) us ≡ text_before (token s e Text) (token_before (token a b g) us)
text_pair s e a b Text [] = refl
text_pair s e a b Text (u ∷ us) = text_triple s e a b u.start u.end u.form us
text_pair s e a b _ us = refl

pair : (s e : ℕ) (f : TokenForm) (t : Token) (us : List Token) → joined_on (token_before (token s e f) (t ∷ [])) us ≡ token_before (token s e f) (token_before t us)
pair s e Text t us = text_pair s e t.start t.end t.form us
pair s e _ t us = refl

pub joined_added : (ts : List Token) (t : Token) (us : List Token) → joined_on (added ts t) us ≡ joined_on ts (token_before t us)
joined_added [] t us = refl
joined_added (u ∷ []) t us = pair u.start u.end u.form t us
joined_added (u ∷ v ∷ vs) t us = ap (token_before u) (joined_added (v ∷ vs) t us)

-- Spans.

spans_pair : (a b s e : ℕ) (f : TokenForm) (t : Token) → s ≡ a → a < e → e ≡ b → t.start ≡ b → b < t.end → Spans a t.end (token_before (token s e f) (t ∷ []))
spans_pair a b s e Text t h k m n o = by_form t.start t.end t.form n o
  where
    by_form : (c d : ℕ) (g : TokenForm) → c ≡ b → b < d → Spans a d (text_before (token s e Text) (token c d g ∷ []))
    by_form c d Text n o = (h, omega arith, refl)
    by_form c d _ n o = (h, k, (omega arith, omega arith, refl))
spans_pair a b s e _ t h k m n o = (h, k, (omega arith, omega arith, refl))

pub spans_added : (ts : List Token) (t : Token) (a b : ℕ) → Spans a b ts → t.start ≡ b → b < t.end → Spans a t.end (added ts t)
spans_added [] t a b h n o = (omega arith, omega arith, refl)
spans_added (u ∷ []) t a b h n o = spans_pair a b u.start u.end u.form t h.0 h.1 h.2 n o
spans_added (u ∷ v ∷ vs) t a b h n o = (h.0, h.1, spans_added (v ∷ vs) t u.end b h.2 n o)

-- No two texts side by side.

apart_pair : (s e : ℕ) (f : TokenForm) (t : Token) → Apart (token_before (token s e f) (t ∷ []))
apart_pair s e Text t = by_form t.start t.end t.form
  where
    by_form : (c d : ℕ) (g : TokenForm) → Apart (text_before (token s e Text) (token c d g ∷ []))
    by_form c d Text = tt
    by_form c d _ = (λ h k. k, tt)
apart_pair s e _ t = (λ h k. h, tt)

apart_behind : (u : Token) (s e : ℕ) (f : TokenForm) (t : Token) → (IsText u.form → IsText f → ⊥) → Apart (u ∷ token_before (token s e f) (t ∷ []))
apart_behind u s e Text t h = by_form t.start t.end t.form
  where
    by_form : (c d : ℕ) (g : TokenForm) → Apart (u ∷ text_before (token s e Text) (token c d g ∷ []))
    by_form c d Text = (h, tt)
    by_form c d _ = (h, (λ m n. n, tt))
apart_behind u s e _ t h = (h, (λ m n. m, tt))

pub apart_added : (ts : List Token) (t : Token) → Apart ts → Apart (added ts t)
apart_added [] t h = tt
apart_added (u ∷ []) t h = apart_pair u.start u.end u.form t
apart_added (u ∷ v ∷ []) t h = apart_behind u v.start v.end v.form t h.0
apart_added (u ∷ v ∷ w ∷ ws) t h = (h.0, apart_added (v ∷ w ∷ ws) t h.1)

-- Tokens that stand so are joined already.

lone : (s e : ℕ) (f : TokenForm) → token_before (token s e f) [] ≡ token s e f ∷ []
lone s e Text = refl
lone s e _ = refl

two : (s e : ℕ) (f : TokenForm) (u : Token) (us : List Token) → (IsText f → IsText u.form → ⊥) → token_before (token s e f) (u ∷ us) ≡ token s e f ∷ u ∷ us
two s e Text u us h = by_form u.start u.end u.form (h tt)
  where
    by_form : (c d : ℕ) (g : TokenForm) → (IsText g → ⊥) → text_before (token s e Text) (token c d g ∷ us) ≡ token s e Text ∷ token c d g ∷ us
    by_form c d Text h = absurd (h tt)
    by_form c d _ h = refl
two s e _ u us h = refl

pub joined_none : (ts : List Token) → Apart ts → joined_on ts [] ≡ ts
joined_none [] h = refl
joined_none (t ∷ []) h = lone t.start t.end t.form
joined_none (t ∷ u ∷ us) h = ap (token_before t) (joined_none (u ∷ us) h.1) ∙ two t.start t.end t.form u us h.0
