-- Tags by their names.
use Rattle.std.proofs.Common.{◌≡◌, ℕ, ◌+◌, List, length, drop, Bool, true, false, ◌&&◌, refl, sym, ap, ◌∙◌}
use Rattle.std.specs.Prelude.{take_while, if◌then◌else◌}
use Rattle.std.proofs.lemmas.List.{drop-drop}
use Rattle.heex_token.specs.declared.token.TokenKind.TheVariants.{BadTagName}
use Rattle.heex_token.specs.Tokens.{Piece, faulty, first_is, in_name, begins_tag, is_tag_name, tag_from, end_from, start_by, end_by, start_tag, end_tag}

first_no : (x y : Bool) (a b : Piece) → x ≡ false → b ≡ (if x && y then a else b)
first_no x y a b h = rw h refl

second_no : (x y : Bool) (a b : Piece) → y ≡ false → b ≡ (if x && y then a else b)
second_no true y a b h = rw h refl
second_no false y a b h = refl

both : (x y : Bool) (a b : Piece) → x ≡ true → y ≡ true → a ≡ (if x && y then a else b)
both x y a b h k = rw (h, k) refl

one_no : (y : Bool) (a b : Piece) → y ≡ false → b ≡ (if y then a else b)
one_no y a b h = rw h refl

one_yes : (y : Bool) (a b : Piece) → y ≡ true → a ≡ (if y then a else b)
one_yes y a b h = rw h refl

-- Start tags.

pub no_tag : (text : List ℕ) (at : ℕ) → first_is begins_tag (drop (at + 1) text) ≡ false → faulty at BadTagName ≡ start_tag at (drop 1 (drop at text))
no_tag text at h = first_no _ _ _ (faulty at BadTagName) h ∙ ap (start_tag at) (sym (drop-drop 1 at text))

pub no_start_name : (text : List ℕ) (at : ℕ) (name : List ℕ) → name ≡ take_while in_name (drop (at + 1) text) → is_tag_name name ≡ false → faulty at BadTagName ≡ start_tag at (drop 1 (drop at text))
no_start_name text at name e h = second_no _ _ _ (faulty at BadTagName) (sym (ap is_tag_name e) ∙ h) ∙ ap (start_tag at) (sym (drop-drop 1 at text))

pub start_found : (text : List ℕ) (at : ℕ) (name : List ℕ) → name ≡ take_while in_name (drop (at + 1) text) → first_is begins_tag (drop (at + 1) text) ≡ true → is_tag_name name ≡ true
    → start_by at name (tag_from (at + 1 + length name) 0 (drop (at + 1 + length name) text)) ≡ start_tag at (drop 1 (drop at text))
start_found text at name e h k =
    ap (λ l. start_by at name (tag_from (at + 1 + length name) 0 l)) (sym (drop-drop (length name) (at + 1) text))
    ∙ ap (λ n. start_by at n (tag_from (at + 1 + length n) 0 (drop (length n) (drop (at + 1) text)))) e
    ∙ both _ _ _ (faulty at BadTagName) h (sym (ap is_tag_name e) ∙ k)
    ∙ ap (start_tag at) (sym (drop-drop 1 at text))

-- End tags.

pub no_end_name : (text : List ℕ) (at : ℕ) (name : List ℕ) → name ≡ take_while in_name (drop (at + 2) text) → is_tag_name name ≡ false → faulty at BadTagName ≡ end_tag at (drop 2 (drop at text))
no_end_name text at name e h = one_no _ _ (faulty at BadTagName) (sym (ap is_tag_name e) ∙ h) ∙ ap (end_tag at) (sym (drop-drop 2 at text))

pub end_found : (text : List ℕ) (at : ℕ) (name : List ℕ) → name ≡ take_while in_name (drop (at + 2) text) → is_tag_name name ≡ true
    → end_by at name (end_from (at + 2 + length name) (drop (at + 2 + length name) text)) ≡ end_tag at (drop 2 (drop at text))
end_found text at name e k =
    ap (λ l. end_by at name (end_from (at + 2 + length name) l)) (sym (drop-drop (length name) (at + 2) text))
    ∙ ap (λ n. end_by at n (end_from (at + 2 + length n) (drop (length n) (drop (at + 2) text)))) e
    ∙ one_yes _ _ (faulty at BadTagName) (sym (ap is_tag_name e) ∙ k)
    ∙ ap (end_tag at) (sym (drop-drop 2 at text))
