-- A text is read by tokens in place of bytes.
use Rattle.std.proofs.Common.{◌≡◌, ℕ, zero, suc, ◌+◌, ◌-◌, ◌<◌, ◌≤◌, ◌⊎◌, inl, inr, List, [], ◌∷◌, ◌++◌, length, drop, get_or, min, reverse, Bool, false, Option, Some, None, refl, sym, ap, ◌∙◌, subst, arith, append_assoc, append-nil}
use Rattle.std.specs.List.{slice_get}
use Rattle.std.proofs.lemmas.List.{drop-drop, drop_all, reverse-append, reverse-reverse, length-reverse}
use Rattle.std.proofs.lemmas.Bool.{cases_lt}
use Rattle.expr_token.specs.declared.token.Placed.{Placed}
use Rattle.expr_token.specs.declared.token.Cut.{Cut}
use Rattle.expr_token.specs.declared.token.Near.{Near}
use Rattle.expr_token.specs.declared.token.Opened.{Opened}
use Rattle.expr_token.specs.declared.lexer.Lexer.{Lexer}
use Rattle.expr_token.specs.Tokens.{first_token, in_text, in_part, near_of, placed, opened_by, tokens_from, placed_tokens, left_open}
use Rattle.expr_token.specs.Lexing.{innermost, in_quoted, in_parted, next_cut, Going, Steps}
use Rattle.expr_token.proofs.Lexes.{head_of}

-- What stands innermost.

at_end : (a : List Opened) (o : Opened) → slice_get (a ++ o ∷ []) (length a) ≡ Some o
at_end [] o = refl
at_end (p ∷ a) o = subst (λ i. slice_get (p ∷ (a ++ o ∷ [])) i ≡ Some o) (let e : suc (length a) ≡ length (p ∷ a) = omega arith in e) (at_end a o)

last_by : (a : List Opened) (o : Opened) (n : ℕ) → n ≡ length a → slice_get (a ++ o ∷ []) n ≡ Some o
last_by a o n e = ap (slice_get (a ++ o ∷ [])) e ∙ at_end a o

turned : (os : List Opened) → slice_get (reverse os) (length (reverse os) - 1) ≡ innermost os
turned [] = refl
turned (o ∷ os) =
    let e : reverse (o ∷ os) ≡ reverse os ++ o ∷ [] = reverse-append (o ∷ []) os in
    let n : length (reverse (o ∷ os)) - 1 ≡ length (reverse os) = omega (arith, length-reverse (o ∷ os), length-reverse os) in
    ap (λ l. slice_get l (length (reverse (o ∷ os)) - 1)) e ∙ last_by (reverse os) o (length (reverse (o ∷ os)) - 1) n

pub last_innermost : (os : List Opened) → slice_get os (length os - 1) ≡ innermost (reverse os)
last_innermost os = subst (λ l. slice_get l (length l - 1) ≡ innermost (reverse os)) (reverse-reverse os) (turned (reverse os))

pub quoted_innermost : (os : List Opened) → in_quoted (innermost os) ≡ in_text os
quoted_innermost [] = refl
quoted_innermost (o ∷ os) = refl

pub parted_innermost : (os : List Opened) → in_parted (innermost os) ≡ in_part os
parted_innermost [] = refl
parted_innermost (o ∷ os) = refl

-- Steps.

-- the bytes of a token that are still to come are passed at once
pass : (n at : ℕ) (near : Near) (os : List Opened) (bs : List ℕ) → tokens_from at near os n bs ≡ tokens_from (at + n) near os 0 (drop n bs)
pass zero at near os bs = let e : at ≡ at + 0 = omega arith in ap (λ i. tokens_from i near os 0 bs) e
pass (suc n) at near os [] = refl
pass (suc n) at near os (b ∷ bs) = let e : at + 1 + n ≡ at + suc n = omega arith in pass n (at + 1) near os bs ∙ ap (λ i. tokens_from i near os 0 (drop n bs)) e

none_left : (at : ℕ) (near : Near) (os : List Opened) (text : List ℕ) → length text ≤ at → tokens_from at near os 0 (drop at text) ≡ []
none_left at near os text h = ap (tokens_from at near os 0) (drop_all at text h)

-- behind the text there is none
clamped : (at to : ℕ) (near : Near) (os : List Opened) (text : List ℕ) → to ≡ min at (length text) → tokens_from at near os 0 (drop at text) ≡ tokens_from to near os 0 (drop to text)
clamped at to near os text e = by_order (cases_lt at (length text))
  where
    by_order : (at < length text) ⊎ (length text ≤ at) → tokens_from at near os 0 (drop at text) ≡ tokens_from to near os 0 (drop to text)
    by_order (inl w) = let same : at ≡ to = omega (arith, e, w) in ap (λ i. tokens_from i near os 0 (drop i text)) same
    by_order (inr w) = none_left at near os text w ∙ sym (none_left to near os text (omega (arith, e, w)))

advance : (text : List ℕ) (at to : ℕ) (near : Near) (os : List Opened) (c : Cut) → at < length text → c ≡ first_token (in_text os) at near (in_part os) (get_or text at 0) (drop (at + 1) text) → to ≡ min (at + 1 + (c.size - 1)) (length text)
    → tokens_from at near os 0 (drop at text) ≡ placed at c.token ++ tokens_from to (near_of c.token) (opened_by os (placed at c.token)) 0 (drop to text)
advance text at to near os c h e k =
    let found : List Placed = placed at c.token in
    let os' : List Opened = opened_by os (placed at c.token) in
    let near' : Near = near_of c.token in
    ap (tokens_from at near os 0) (head_of text at 0 h)
    ∙ ap (λ (d : Cut). placed at d.token ++ tokens_from (at + 1) (near_of d.token) (opened_by os (placed at d.token)) (d.size - 1) (drop (at + 1) text)) (sym e)
    ∙ ap (λ l. found ++ l) (pass (c.size - 1) (at + 1) near' os' (drop (at + 1) text) ∙ ap (tokens_from (at + 1 + (c.size - 1)) near' os' 0) (drop-drop (c.size - 1) (at + 1) text) ∙ clamped (at + 1 + (c.size - 1)) to near' os' text k)

opened_append : (os : List Opened) (a b : List Placed) → opened_by os (a ++ b) ≡ opened_by (opened_by os a) b
opened_append os [] b = refl
opened_append os (p ∷ a) b = opened_append _ a b

pub stepped : (text : List ℕ) (l m : Lexer) (c : Cut) → l.at < length text → c ≡ next_cut text l → m.list ≡ l.list ++ placed l.at c.token → reverse m.openings ≡ opened_by (reverse l.openings) (placed l.at c.token) → m.near ≡ near_of c.token → m.at ≡ min (l.at + 1 + (c.size - 1)) (length text) → Steps text l m
stepped text l m c h e list openings near k = record {
  forth = omega (arith, h, k);
  going = λ g. record {
    within = omega (arith, k);
    same = g.same ∙ ap (λ x. l.list ++ x) (advance text l.at m.at l.near (reverse l.openings) c h e k) ∙ sym (append_assoc l.list (placed l.at c.token) (tokens_from m.at (near_of c.token) (opened_by (reverse l.openings) (placed l.at c.token)) 0 (drop m.at text)))
        ∙ ap (λ x. x ++ tokens_from m.at (near_of c.token) (opened_by (reverse l.openings) (placed l.at c.token)) 0 (drop m.at text)) (sym list)
        ∙ ap (λ x. m.list ++ tokens_from m.at (near_of c.token) x 0 (drop m.at text)) (sym openings)
        ∙ ap (λ x. m.list ++ tokens_from m.at x (reverse m.openings) 0 (drop m.at text)) (sym near);
    left = ap (opened_by []) list ∙ opened_append [] l.list (placed l.at c.token) ∙ ap (λ os. opened_by os (placed l.at c.token)) g.left ∙ sym openings;
  };
}

-- The beginning and the end.

pub started : (text : List ℕ) (list : List Placed) (openings : List Opened) → list ≡ [] → openings ≡ [] → Going text (record { list = list; openings = openings; near = record { value = false; name = false }; at = 0 })
started text list openings h k = record {
  within = omega arith;
  same = sym (ap (λ l. l ++ tokens_from 0 (near_of None) (reverse openings) 0 text) h ∙ ap (λ os. tokens_from 0 (near_of None) (reverse os) 0 text) k);
  left = ap (opened_by []) h ∙ sym (ap reverse k);
}

pub all_read : (text : List ℕ) (l : Lexer) → Going text l → length text ≤ l.at → l.list ≡ placed_tokens text
all_read text l g h = sym (g.same ∙ ap (λ x. l.list ++ x) (none_left l.at l.near (reverse l.openings) text h) ∙ append-nil l.list)

pub all_left : (text : List ℕ) (l : Lexer) → Going text l → length text ≤ l.at → reverse l.openings ≡ left_open text
all_left text l g h = sym g.left ∙ ap (opened_by []) (all_read text l g h)

-- the token at a place, by what is innermost there
pub next_by : (text : List ℕ) (l : Lexer) (quoted part : Bool) (inner : Option Opened) (openings : List Opened) → openings ≡ l.openings → inner ≡ innermost (reverse openings) → quoted ≡ in_quoted inner → part ≡ in_parted inner
    → first_token quoted l.at l.near part (get_or text l.at 0) (drop (l.at + 1) text) ≡ next_cut text l
next_by text l quoted part inner openings o i q p =
    let i' : inner ≡ innermost (reverse l.openings) = i ∙ ap (λ os. innermost (reverse os)) o in
    let q' : quoted ≡ in_text (reverse l.openings) = q ∙ ap in_quoted i' ∙ quoted_innermost (reverse l.openings) in
    let p' : part ≡ in_part (reverse l.openings) = p ∙ ap in_parted i' ∙ parted_innermost (reverse l.openings) in
    ap (λ x. first_token x l.at l.near part (get_or text l.at 0) (drop (l.at + 1) text)) q' ∙ ap (λ x. first_token (in_text (reverse l.openings)) l.at l.near x (get_or text l.at 0) (drop (l.at + 1) text)) p'
