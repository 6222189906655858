-- Names, modules and marks are ASCII fronts of the text that they stand in.
use Rattle.std.proofs.Common.{◌≡◌, ℕ, zero, suc, ◌+◌, ◌-◌, ◌<◌, ◌≤◌, List, [], ◌∷◌, ◌++◌, length, take, drop, get_or, Bool, true, false, not, ◌&&◌, ◌||◌, codes, refl, sym, ap, ◌∙◌, subst, arith, append_assoc, length-append}
use Rattle.std.specs.Prelude.{nat_eq, if◌then◌else◌}
use Rattle.std.specs.Prelude.{cond}
use Rattle.std.specs.List.{prefix_len}
use Rattle.std.specs.Str.{IsAscii, IsUtf8, IsCharBoundary}
use Rattle.std.specs.Char.{is_ascii_uppercase}
use Rattle.std.specs.Cmp.Lexicographic.{same_text}
use Rattle.std.proofs.lemmas.Bool.{eqb-true}
use Rattle.std.proofs.lemmas.Bool.Decides.{nat_tests}
use Rattle.std.proofs.lemmas.List.{take-append-drop, get_or-take, get_or-drop, drop-drop}
use Rattle.std.proofs.lemmas.Str.{IsAscii-append, IsCharBoundary-before_ascii, IsCharBoundary-after_ascii}
use Rattle.std.proofs.lemmas.Str.Ascii.{IsAscii-nil}
use Rattle.std.proofs.Math.Seq.{take-append_seam, drop-append_seam}
use Rattle.expr_token.specs.declared.token.Cut.{Cut}
use Rattle.expr_token.specs.declared.token.Near.{Near}
use Rattle.expr_token.specs.declared.token.Token.TheVariants.{Word, Function, Atom, Colon, Foreign}
use Rattle.expr_token.specs.Tokens.{begins_name, in_name, first_is, begins, name_of, is_reserved, call_mark, atom_mark, word_or_function, module_goes_on, module_of, module_word, colon, sign, cut}

-- A text begins with this ASCII text.
pub record Front (bs l : List ℕ) : Type 0 where
  pub more : List ℕ
  pub is : bs ≡ l ++ more
  pub ascii : IsAscii l

pub front_take : (bs l : List ℕ) → Front bs l → take (length l) bs ≡ l
front_take bs l f = ap (take (length l)) f.is ∙ take-append_seam l f.more

pub front_le : (bs l : List ℕ) → Front bs l → length l ≤ length bs
front_le bs l f = omega (arith, ap length f.is, length-append l f.more)

pub front_append : (bs a b : List ℕ) → Front bs a → Front (drop (length a) bs) b → Front bs (a ++ b)
front_append bs a b f g =
    let d : drop (length a) bs ≡ f.more = ap (drop (length a)) f.is ∙ drop-append_seam a f.more in
    record {
      more = g.more;
      is = f.is ∙ ap (λ l. a ++ l) (sym d ∙ g.is) ∙ sym (append_assoc a b g.more);
      ascii = IsAscii-append a b f.ascii g.ascii;
    }

front_nil : (bs : List ℕ) → Front bs []
front_nil bs = record { more = bs; is = refl; ascii = IsAscii-nil }

ascii_cons : (b : ℕ) (bs : List ℕ) → b < 128 → IsAscii bs → IsAscii (b ∷ bs)
ascii_cons b bs h k zero = h
ascii_cons b bs h k (suc i) = k i

ascii_one : (b : ℕ) → b < 128 → IsAscii (b ∷ [])
ascii_one b h = ascii_cons b [] h IsAscii-nil

-- what a test of the beginning has told
begins_front : (w bs : List ℕ) → IsAscii w → begins w bs ≡ true → Front bs w
begins_front w bs a h = record {
  more = drop (length w) bs;
  is = sym (take-append-drop (length w) bs) ∙ ap (λ l. l ++ drop (length w) bs) (sym (same_text w (take (length w) bs) (sym h)));
  ascii = a;
}

-- of a longer beginning the first character
shorter : (b c : ℕ) (bs : List ℕ) → Front bs (b ∷ c ∷ []) → b < 128 → Front bs (b ∷ [])
shorter b c bs f h = record { more = c ∷ f.more; is = f.is; ascii = ascii_one b h }

either : {bs : List ℕ} (x : Bool) (a b : List ℕ) → (x ≡ true → Front bs a) → Front bs b → Front bs (if x then a else b)
either true a b f g = f refl
either false a b f g = g

pub front_call_mark : (bs : List ℕ) → Front bs (call_mark bs)
front_call_mark bs =
    either (begins (codes "?(") bs) (codes "?") _ (λ h. shorter 63 40 bs (begins_front (codes "?(") bs (ascii_cons 63 (40 ∷ []) (omega arith) (ascii_one 40 (omega arith))) h) (omega arith))
    (either (begins (codes "!(") bs) (codes "!") [] (λ h. shorter 33 40 bs (begins_front (codes "!(") bs (ascii_cons 33 (40 ∷ []) (omega arith) (ascii_one 40 (omega arith))) h) (omega arith)) (front_nil bs))

both_true : (x y : Bool) → (x && y) ≡ true → x ≡ true
both_true true y h = refl
both_true false y h = h

pub front_atom_mark : (bs : List ℕ) → Front bs (atom_mark bs)
front_atom_mark bs =
    either (begins (codes "?") bs) (codes "?") _ (λ h. begins_front (codes "?") bs (ascii_one 63 (omega arith)) h)
    (either (begins (codes "!") bs && not (begins (codes "!=") bs)) (codes "!") [] (λ h. begins_front (codes "!") bs (ascii_one 33 (omega arith)) (both_true _ _ h)) (front_nil bs))

name_ascii : (b : ℕ) → in_name b ≡ true → b < 128
name_ascii b h = grind (arith, nat_tests)

run_by : (b : ℕ) (bs : List ℕ) (x : Bool) → in_name b ≡ x → Front bs (take (prefix_len in_name bs) bs) → Front (b ∷ bs) (take (cond x (1 + prefix_len in_name bs) 0) (b ∷ bs))
run_by b bs true k f =
    let e : 1 + prefix_len in_name bs ≡ suc (prefix_len in_name bs) = omega arith in
    subst (λ n. Front (b ∷ bs) (take n (b ∷ bs))) (sym e) (record { more = f.more; is = ap (λ l. b ∷ l) f.is; ascii = ascii_cons b _ (name_ascii b k) f.ascii })
run_by b bs false k f = front_nil (b ∷ bs)

-- a run of characters of a name
run_front : (bs : List ℕ) → Front bs (take (prefix_len in_name bs) bs)
run_front [] = front_nil []
run_front (b ∷ bs) = run_by b bs (in_name b) refl (run_front bs)

pub front_name : (bs : List ℕ) → Front bs (name_of bs)
front_name bs = either (first_is begins_name bs) _ [] (λ h. run_front bs) (front_nil bs)

-- an ASCII text of one character more
front_cons : (b : ℕ) (bs l : List ℕ) → b < 128 → Front bs l → Front (b ∷ bs) (b ∷ l)
front_cons b bs l h f = record { more = f.more; is = ap (λ x. b ∷ x) f.is; ascii = ascii_cons b l h f.ascii }

module_ascii : (b : ℕ) (x : Bool) → (in_name b || (nat_eq b 46 && x)) ≡ true → b < 128
module_ascii b x h = by_test (in_name b) (nat_eq b 46) refl refl h
  where
    by_test : (y z : Bool) → in_name b ≡ y → nat_eq b 46 ≡ z → (y || (z && x)) ≡ true → b < 128
    by_test true z k m h = name_ascii b k
    by_test false true k m h = let e : b ≡ 46 = eqb-true b 46 m in omega arith
    by_test false false k m h = cc

pub front_module : (bs : List ℕ) → Front bs (module_of bs)
front_module [] = front_nil []
front_module (b ∷ bs) = either (module_goes_on (b ∷ bs)) (b ∷ module_of bs) [] (λ h. front_cons b bs (module_of bs) (module_ascii b (first_is is_ascii_uppercase bs) h) (front_module bs)) (front_nil (b ∷ bs))

-- a dot
pub front_dot : (bs : List ℕ) → begins (codes ".") bs ≡ true → Front bs (codes ".")
front_dot bs h = begins_front (codes ".") bs (ascii_one 46 (omega arith)) h

-- a text that begins with a name has one
pub name_some : (bs : List ℕ) → first_is begins_name bs ≡ true → 0 < length (name_of bs)
name_some [] h = cc
name_some (b ∷ bs) h = rw h (by_test (in_name b) refl)
  where
    in_too : begins_name b ≡ true → in_name b ≡ true
    in_too k = grind (arith, nat_tests)

    by_test : (x : Bool) → in_name b ≡ x → 0 < length (take (cond x (1 + prefix_len in_name bs) 0) (b ∷ bs))
    by_test true k = let e : 1 + prefix_len in_name bs ≡ suc (prefix_len in_name bs) = omega arith in subst (λ n. 0 < length (take n (b ∷ bs))) (sym e) (grind arith)
    by_test false k = let e = in_too h in cc

-- a name without and with the mark of a call
pub word_alone : (at : ℕ) (name mark : List ℕ) → length mark ≡ 0 → word_or_function at name mark ≡ cut (Word at name) (length name)
word_alone at name [] h = refl
word_alone at name (m ∷ ms) h = absurd (grind arith)

pub word_marked : (at : ℕ) (name mark : List ℕ) → 0 < length mark → word_or_function at name mark ≡ cut (Function at (name ++ mark)) (length (name ++ mark))
word_marked at name [] h = absurd (grind arith)
word_marked at name (m ∷ ms) h = refl

-- Where an ASCII piece of a text begins and ends, the text may be cut.

byte_at : (text : List ℕ) (at size i : ℕ) → i < size → IsAscii (take size (drop at text)) → get_or text (at + i) 0 < 128
byte_at text at size i h a =
    let e : get_or (take size (drop at text)) i 0 ≡ get_or text (at + i) 0 = get_or-take size (drop at text) i 0 h ∙ get_or-drop at text i 0 in
    subst (λ (n : ℕ). n < 128) e (a i)

pub start_at : (text : List ℕ) (at size : ℕ) → 0 < size → at + size ≤ length text → IsAscii (take size (drop at text)) → IsCharBoundary text at
start_at text at size h k a =
    let b = byte_at text at size 0 h a in
    let e : at + 0 ≡ at = omega arith in
    IsCharBoundary-before_ascii text at (omega arith) (subst (λ i. get_or text i 0 < 128) e b)

pub end_at : (text : List ℕ) (at size : ℕ) → IsUtf8 text → 0 < size → at + size ≤ length text → IsAscii (take size (drop at text)) → IsCharBoundary text (at + size)
end_at text at size u h k a =
    let b = byte_at text at size (size - 1) (omega arith) a in
    let e : at + (size - 1) + 1 ≡ at + size = omega arith in
    subst (IsCharBoundary text) e (IsCharBoundary-after_ascii text (at + (size - 1)) u (omega arith) b)

-- an ASCII front of what stands from a place on
pub front_from : (bs l : List ℕ) (n : ℕ) → Front bs l → n ≡ length l → IsAscii (take n bs)
front_from bs l n f e = subst IsAscii (sym (ap (λ i. take i bs) e ∙ front_take bs l f)) f.ascii

-- a name with its mark
pub full_front : (bs : List ℕ) (size : ℕ) → size ≡ length (name_of bs) → Front bs (name_of bs ++ call_mark (drop size bs))
full_front bs size e = front_append bs (name_of bs) (call_mark (drop size bs)) (front_name bs) (subst (λ n. Front (drop n bs) (call_mark (drop size bs))) e (front_call_mark (drop size bs)))

pub full_length : (bs : List ℕ) (size mark : ℕ) → size ≡ length (name_of bs) → mark ≡ length (call_mark (drop size bs)) → size + mark ≡ length (name_of bs ++ call_mark (drop size bs))
full_length bs size mark e f = omega (arith, e, f, length-append (name_of bs) (call_mark (drop size bs)))

-- the first bytes, so many as a front has
pub front_first : (bs l : List ℕ) (n : ℕ) → Front bs l → n ≡ length l → take n bs ≡ l
front_first bs l n f e = ap (λ i. take i bs) e ∙ front_take bs l f

-- A module with a dot and a name.

abbrev pub behind_module : List ℕ → List ℕ
behind_module bs = drop (length (module_of bs)) bs

abbrev pub behind_dot : List ℕ → List ℕ
behind_dot bs = drop 1 (behind_module bs)

abbrev pub behind_called : List ℕ → List ℕ
behind_called bs = drop (length (name_of (behind_dot bs))) (behind_dot bs)

abbrev pub full_of : List ℕ → List ℕ
full_of bs = module_of bs ++ (codes "." ++ (name_of (behind_dot bs) ++ call_mark (behind_called bs)))

pub module_front : (bs : List ℕ) → begins (codes ".") (behind_module bs) ≡ true → Front bs (full_of bs)
module_front bs h =
    front_append bs (module_of bs) (codes "." ++ (name_of (behind_dot bs) ++ call_mark (behind_called bs))) (front_module bs)
    (front_append (behind_module bs) (codes ".") (name_of (behind_dot bs) ++ call_mark (behind_called bs)) (front_dot (behind_module bs) h)
    (full_front (behind_dot bs) (length (name_of (behind_dot bs))) refl))

pub module_length : (bs : List ℕ) → length (full_of bs) ≡ length (module_of bs) + (1 + (length (name_of (behind_dot bs)) + length (call_mark (behind_called bs))))
module_length bs =
    let a = length-append (module_of bs) (codes "." ++ (name_of (behind_dot bs) ++ call_mark (behind_called bs))) in
    let b = length-append (codes ".") (name_of (behind_dot bs) ++ call_mark (behind_called bs)) in
    let d = length-append (name_of (behind_dot bs)) (call_mark (behind_called bs)) in
    let e : length (codes ".") ≡ 1 = refl in
    omega (arith, a, b, d, e)

pub module_called : (at : ℕ) (bs : List ℕ) → begins (codes ".") (behind_module bs) ≡ true → first_is begins_name (behind_dot bs) ≡ true → is_reserved (name_of (behind_dot bs)) ≡ false → module_word at bs ≡ cut (Function at (full_of bs)) (length (full_of bs))
module_called at bs h k l = choose (begins (codes ".") (behind_module bs)) (first_is begins_name (behind_dot bs)) (is_reserved (name_of (behind_dot bs))) (cut (Function at (full_of bs)) (length (full_of bs))) (cut Foreign (length (module_of bs))) h k l
  where
    choose : (x y z : Bool) (a b : Cut) → x ≡ true → y ≡ true → z ≡ false → (if x && (y && not z) then a else b) ≡ a
    choose x y z a b h k l = rw (h, k, l) refl

-- An atom.

abbrev pub behind_name : List ℕ → List ℕ
behind_name bs = drop (length (name_of bs)) bs

abbrev pub atom_of : List ℕ → List ℕ
atom_of bs = name_of bs ++ atom_mark (behind_name bs)

pub atom_front : (bs : List ℕ) → Front bs (atom_of bs)
atom_front bs = front_append bs (name_of bs) (atom_mark (behind_name bs)) (front_name bs) (front_atom_mark (behind_name bs))

pub atom_called : (bs : List ℕ) → first_is is_ascii_uppercase bs ≡ false → is_reserved (name_of bs) ≡ false → first_is begins_name bs ≡ true → colon bs ≡ cut (Atom (atom_of bs)) (length (atom_of bs) + 1)
atom_called bs h k l = choose (first_is is_ascii_uppercase bs) (is_reserved (name_of bs)) (first_is begins_name bs) (cut Foreign 1) (cut (Atom (atom_of bs)) (length (atom_of bs) + 1)) (cut Colon 1) h k l
  where
    choose : (x y z : Bool) (a b d : Cut) → x ≡ false → y ≡ false → z ≡ true → (if x || y then a else if z then b else d) ≡ b
    choose x y z a b d h k l = rw (h, k, l) refl

-- What the steps of the code have found, in the words of the definition.
pub record AtomFound (bs : List ℕ) (size mark : ℕ) : Type 0 where
  pub lower : first_is is_ascii_uppercase bs ≡ false
  pub free : is_reserved (name_of bs) ≡ false
  pub named : first_is begins_name bs ≡ true
  pub full : size + mark ≡ length (atom_of bs)

pub atom_found : (bs rest name after : List ℕ) (size mark : ℕ) → rest ≡ bs → size ≡ length (name_of rest) → name ≡ take size rest → after ≡ drop size rest → first_is is_ascii_uppercase rest ≡ false → is_reserved name ≡ false → first_is begins_name rest ≡ true → mark ≡ length (atom_mark after) → AtomFound bs size mark
atom_found bs rest name after size mark r s n a u k b m =
    let s' : size ≡ length (name_of bs) = s ∙ ap (λ x. length (name_of x)) r in
    let n' : name ≡ name_of bs = n ∙ ap (take size) r ∙ front_first bs (name_of bs) size (front_name bs) s' in
    let a' : after ≡ behind_name bs = a ∙ ap (drop size) r ∙ ap (λ i. drop i bs) s' in
    let m' : mark ≡ length (atom_mark (behind_name bs)) = m ∙ ap (λ x. length (atom_mark x)) a' in
    record {
      lower = sym (ap (first_is is_ascii_uppercase) r) ∙ u;
      free = sym (ap is_reserved n') ∙ k;
      named = sym (ap (first_is begins_name) r) ∙ b;
      full = omega (arith, s', m', length-append (name_of bs) (atom_mark (behind_name bs)));
    }

-- a brace is ASCII
pub brace_ascii : (text : List ℕ) (at : ℕ) → begins (codes "}") (drop at text) ≡ true → get_or text at 0 < 128
brace_ascii text at h =
    let f = begins_front (codes "}") (drop at text) (ascii_one 125 (omega arith)) h in
    let a : IsAscii (take 1 (drop at text)) = front_from (drop at text) (codes "}") 1 f refl in
    let e : at + 0 ≡ at = omega arith in
    subst (λ i. get_or text i 0 < 128) e (byte_at text at 1 0 (omega arith) a)

-- a colon is told by what stands behind it
pub colon_sign : (near : Near) (part : Bool) (text : List ℕ) (at : ℕ) → begins (codes "(") (drop at text) ≡ false → begins (codes "[") (drop at text) ≡ false → begins (codes ".") (drop at text) ≡ false → begins (codes ":") (drop at text) ≡ true
    → colon (drop (at + 1) text) ≡ sign near part (drop at text)
colon_sign near part text at h k l m = ap colon (sym (drop-drop 1 at text)) ∙ sym (choose (begins (codes "(") (drop at text)) (begins (codes "[") (drop at text)) (begins (codes ".") (drop at text)) (begins (codes ":") (drop at text)) _ _ _ (colon (drop 1 (drop at text))) _ h k l m)
  where
    choose : (x y z w : Bool) (a b d e f : Cut) → x ≡ false → y ≡ false → z ≡ false → w ≡ true → (if x then a else if y then b else if z then d else if w then e else f) ≡ e
    choose x y z w a b d e f h k l m = rw (h, k, l, m) refl
