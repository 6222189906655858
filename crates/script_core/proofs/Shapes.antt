-- A text has the shape of a line exactly where it is the line's text.
use Rattle.std.proofs.Common.{arith, ◌≡◌, ◌≢◌, ◌<◌, ℕ, suc, List, [], ◌∷◌, ◌++◌, length, get_or, codes, Bool, true, false, cond, not, ◌&&◌, ◌==◌, Option, Some, None, option_map, option_and_then, refl, ap, sym, subst, ◌∙◌}
use denote.Ref.{Bor}
use Rattle.std.specs.List.{list_all}
use Rattle.std.specs.Option.{MatchOption}
use Rattle.std.specs.Str.{bytes_eq}
use Rattle.std.proofs.lemmas.Bool.Decides.{nat_tests}
use Rattle.std.proofs.lemmas.Slice.Eq.{bytes_eq-Decides}
use Rattle.script_core.specs.declared.script.Line.{Line}
use Rattle.script_core.specs.declared.script.Line.TheVariants as line
use Rattle.script_core.specs.Script.{is_letter_or_digit, is_name, is_word, is_event, has_value, line_text, is_fit}
use Rattle.script_core.specs.Reading.{cut, parts, shape_of}
use Rattle.script_core.proofs.Lines.{head_true}

-- the bytes have no space
abbrev pub lacks_space : List ℕ → Bool
lacks_space l = list_all (λ b. not (b == 32)) l

-- the two parts of a cut make the text

abbrev Part : Type 0
Part = List ℕ × List ℕ

yes_by : (b : ℕ) (bs : List ℕ) (p : Part) (t : Bool) (o : Option Part) → (b == 32) ≡ t → ((q : Part) → o ≡ Some q → bs ≡ q.0 ++ 32 ∷ q.1) → cond t (Some ([], bs)) (option_map (λ q. (b ∷ q.0, q.1)) o) ≡ Some p → b ∷ bs ≡ p.0 ++ 32 ∷ p.1
yes_by b bs p true o h ih e =
    let is : b ≡ 32 = grind (arith, nat_tests) in
    let same : ([], bs) ≡ p = cc in
    subst (λ q. b ∷ bs ≡ q.0 ++ 32 ∷ q.1) same (ap (λ c. c ∷ bs) is)
yes_by b bs p false None h ih e = cc
yes_by b bs p false (Some q) h ih e =
    let same : (b ∷ q.0, q.1) ≡ p = cc in
    subst (λ r. b ∷ bs ≡ r.0 ++ 32 ∷ r.1) same (ap (λ t. b ∷ t) (ih q refl))

pub cut_yes : (l : List ℕ) (p : Part) → cut l ≡ Some p → l ≡ p.0 ++ 32 ∷ p.1
cut_yes [] p e = cc
cut_yes (b ∷ bs) p e = yes_by b bs p (b == 32) (cut bs) refl (λ q h. cut_yes bs q h) e

-- a text is cut behind a part without a space

at_by : (b : ℕ) (w r : List ℕ) (t : Bool) → (b == 32) ≡ t → not t ≡ true → cut (w ++ 32 ∷ r) ≡ Some (w, r) → cut (b ∷ (w ++ 32 ∷ r)) ≡ Some (b ∷ w, r)
at_by b w r true h n ih = cc
at_by b w r false h n ih =
    ap (λ t. cond t (Some ([], w ++ 32 ∷ r)) (option_map (λ (q : Part). (b ∷ q.0, q.1)) (cut (w ++ 32 ∷ r)))) h
    ∙ ap (λ o. option_map (λ (q : Part). (b ∷ q.0, q.1)) o) ih

pub cut_at : (w r : List ℕ) → lacks_space w ≡ true → cut (w ++ 32 ∷ r) ≡ Some (w, r)
cut_at [] r h = refl
cut_at (b ∷ w) r h =
    let both = head_true (not (b == 32)) (lacks_space w) h in
    at_by b w r (b == 32) refl both.0 (cut_at w r both.1)

none_by : (b : ℕ) (bs : List ℕ) (t : Bool) → (b == 32) ≡ t → not t ≡ true → cut bs ≡ None → cut (b ∷ bs) ≡ None
none_by b bs true h n ih = cc
none_by b bs false h n ih =
    ap (λ t. cond t (Some ([], bs)) (option_map (λ (q : Part). (b ∷ q.0, q.1)) (cut bs))) h
    ∙ ap (λ o. option_map (λ (q : Part). (b ∷ q.0, q.1)) o) ih

pub cut_none : (l : List ℕ) → lacks_space l ≡ true → cut l ≡ None
cut_none [] h = refl
cut_none (b ∷ bs) h =
    let both = head_true (not (b == 32)) (lacks_space bs) h in
    none_by b bs (b == 32) refl both.0 (cut_none bs both.1)

both_true : (a b : Bool) → a ≡ true → b ≡ true → (a && b) ≡ true
both_true true b h g = g
both_true false b h g = cc

not_space : (b : ℕ) (t : Bool) → (b == 32) ≡ t → b ≢ 32 → not t ≡ true
not_space b true h other = let is : b ≡ 32 = grind (arith, nat_tests) in absurd (other is)
not_space b false h other = refl

-- the same by places
pub lacks_by_places : (l : List ℕ) → ((i : ℕ) → i < length l → get_or l i 0 ≢ 32) → lacks_space l ≡ true
lacks_by_places [] h = refl
lacks_by_places (b ∷ bs) h =
    both_true (not (b == 32)) (lacks_space bs) (not_space b (b == 32) refl (h 0 (omega arith))) (lacks_by_places bs (λ i less. h (suc i) (omega arith)))

-- a name has no space

letter_no_space : (b : ℕ) (t : Bool) → (b == 32) ≡ t → is_letter_or_digit b ≡ true → not t ≡ true
letter_no_space b true h letter =
    let is : b ≡ 32 = grind (arith, nat_tests) in
    let stray : is_letter_or_digit 32 ≡ true = ap is_letter_or_digit (sym is) ∙ letter in
    cc
letter_no_space b false h letter = refl

letters_lack : (l : List ℕ) → list_all is_letter_or_digit l ≡ true → lacks_space l ≡ true
letters_lack [] h = refl
letters_lack (b ∷ bs) h =
    let both = head_true (is_letter_or_digit b) (list_all is_letter_or_digit bs) h in
    both_true (not (b == 32)) (lacks_space bs) (letter_no_space b (b == 32) refl both.0) (letters_lack bs both.1)

name_lacks : (n : List ℕ) → is_name n ≡ true → lacks_space n ≡ true
name_lacks n h = letters_lack n (head_true _ _ h).1

word_lacks : (w : List ℕ) → is_word w ≡ true → lacks_space w ≡ true
word_lacks w h = (head_true _ _ h).1

-- what a text of some shape is

by_test : {P : Type 0} (w word : List ℕ) (b : Bool) (here there : Option Line) (x : Line) → bytes_eq w word ≡ b → (w ≡ word → here ≡ Some x → P) → (there ≡ Some x → P) → cond b here there ≡ Some x → P
by_test w word true here there x h f g e = f ((bytes_eq-Decides w word).0 h) e
by_test w word false here there x h f g e = g e

named : (mk : List ℕ → Line) (w word r : List ℕ) (x : Line) → word ++ 32 ∷ r ≡ line_text (mk r) → w ≡ word → Some (mk r) ≡ Some x → w ++ 32 ∷ r ≡ line_text x
named mk w word r x t at e =
    let same : mk r ≡ x = cc in
    ap (λ v. v ++ 32 ∷ r) at ∙ t ∙ ap line_text same

join_by : (r : List ℕ) (x : Line) (o : Option Part) → cut r ≡ o → option_map (λ p. line.Join p.0 p.1) o ≡ Some x → codes "join " ++ r ≡ line_text x
join_by r x None h e = cc
join_by r x (Some p) h e =
    let same : line.Join p.0 p.1 ≡ x = cc in
    ap (λ t. codes "join " ++ t) (cut_yes r p h) ∙ ap line_text same

event_by : (n k r : List ℕ) (x : Line) (o : Option Part) → cut r ≡ o → option_map (λ p. line.Event n k p.0 p.1) o ≡ Some x → codes "event " ++ (n ++ 32 ∷ (k ++ 32 ∷ r)) ≡ line_text x
event_by n k r x None h e = cc
event_by n k r x (Some p) h e =
    let same : line.Event n k p.0 p.1 ≡ x = cc in
    ap (λ t. codes "event " ++ (n ++ 32 ∷ (k ++ 32 ∷ t))) (cut_yes r p h) ∙ ap line_text same

kind_by : (n r : List ℕ) (x : Line) (o : Option Part) → cut r ≡ o → option_and_then (λ q. option_map (λ p. line.Event n q.0 p.0 p.1) (cut q.1)) o ≡ Some x → codes "event " ++ (n ++ 32 ∷ r) ≡ line_text x
kind_by n r x None h e = cc
kind_by n r x (Some q) h e =
    ap (λ t. codes "event " ++ (n ++ 32 ∷ t)) (cut_yes r q h) ∙ event_by n q.0 q.1 x (cut q.1) refl e

name_by : (r : List ℕ) (x : Line) (o : Option Part) → cut r ≡ o → option_and_then (λ p. option_and_then (λ q. option_map (λ s. line.Event p.0 q.0 s.0 s.1) (cut q.1)) (cut p.1)) o ≡ Some x → codes "event " ++ r ≡ line_text x
name_by r x None h e = cc
name_by r x (Some p) h e =
    ap (λ t. codes "event " ++ t) (cut_yes r p h) ∙ kind_by p.0 p.1 x (cut p.1) refl e

-- the line that one word begins, or another
abbrev Reads : List ℕ → List ℕ → Line → Type 0
Reads w r x = w ++ 32 ∷ r ≡ line_text x

parts_yes : (w r : List ℕ) (x : Line) → parts w r ≡ Some x → Reads w r x
parts_yes w r x =
    by_test w (codes "browser") (bytes_eq w (codes "browser")) _ _ x refl (named (λ n. line.Browser n) w (codes "browser") r x refl)
    (by_test w (codes "join") (bytes_eq w (codes "join")) _ _ x refl (λ at e. ap (λ v. v ++ 32 ∷ r) at ∙ join_by r x (cut r) refl e)
    (by_test w (codes "event") (bytes_eq w (codes "event")) _ _ x refl (λ at e. ap (λ v. v ++ 32 ∷ r) at ∙ name_by r x (cut r) refl e)
    (by_test w (codes "step") (bytes_eq w (codes "step")) _ _ x refl (named (λ n. line.Step n) w (codes "step") r x refl)
    (by_test w (codes "run") (bytes_eq w (codes "run")) _ _ x refl (named (λ n. line.Run n) w (codes "run") r x refl)
    (by_test w (codes "html") (bytes_eq w (codes "html")) _ _ x refl (named (λ n. line.Html n) w (codes "html") r x refl)
    (by_test w (codes "frames") (bytes_eq w (codes "frames")) _ _ x refl (named (λ n. line.Frames n) w (codes "frames") r x refl)
    (λ e. cc)))))))

shape_by : (l : List ℕ) (x : Line) (o : Option Part) → cut l ≡ o → option_and_then (λ p. parts p.0 p.1) o ≡ Some x → l ≡ line_text x
shape_by l x None h e = cc
shape_by l x (Some p) h e = cut_yes l p h ∙ parts_yes p.0 p.1 x e

pub shape_yes : (l : List ℕ) (x : Line) → shape_of l ≡ Some x → l ≡ line_text x
unfolding shape_of
shape_yes l x = shape_by l x (cut l) refl

-- the text of a line that fits has the line's shape

pub shape_back : (x : Line) → is_fit x ≡ true → shape_of (line_text x) ≡ Some x
unfolding shape_of
shape_back (line.Browser n) h = refl
shape_back (line.Join n u) h =
    let both = head_true (is_name n) (bytes_eq u (codes "/")) h in
    ap (λ (o : Option Part). option_map (λ p. line.Join p.0 p.1) o) (cut_at n u (name_lacks n both.0))
shape_back (line.Event n k e v) h =
    let both = head_true (is_name n) (is_event k e v) h in
    let worded = head_true (is_word k && not (bytes_eq k (codes "form")) && is_word e) (has_value v) both.1 in
    let ended = head_true (is_word k && not (bytes_eq k (codes "form"))) (is_word e) worded.0 in
    let kind = head_true (is_word k) (not (bytes_eq k (codes "form"))) ended.0 in
    ap (λ (o : Option Part). option_and_then (λ p. option_and_then (λ q. option_map (λ s. line.Event p.0 q.0 s.0 s.1) (cut q.1)) (cut p.1)) o) (cut_at n (k ++ 32 ∷ (e ++ 32 ∷ v)) (name_lacks n both.0))
    ∙ ap (λ (o : Option Part). option_and_then (λ q. option_map (λ s. line.Event n q.0 s.0 s.1) (cut q.1)) o) (cut_at k (e ++ 32 ∷ v) (word_lacks k kind.0))
    ∙ ap (λ (o : Option Part). option_map (λ s. line.Event n k s.0 s.1) o) (cut_at e v (word_lacks e ended.1))
shape_back (line.Step n) h = refl
shape_back (line.Run n) h = refl
shape_back (line.Html n) h = refl
shape_back (line.Frames n) h = refl

-- what `split_once` answers is the cut
pub cut_is : (l : List ℕ) (r : Option (Bor (List ℕ) × Bor (List ℕ))) → MatchOption r ((i : ℕ) → i < length l → get_or l i 0 ≢ 32) (λ x. (l ≡ x.0.now ++ (32 ∷ x.1.now)) × ((i : ℕ) → i < length x.0.now → get_or x.0.now i 0 ≢ 32)) → option_map (λ p. (p.0.now, p.1.now)) r ≡ cut l
cut_is l None h = sym (cut_none l (lacks_by_places l h))
cut_is l (Some x) h = sym (ap cut h.0 ∙ cut_at x.0.now x.1.now (lacks_by_places x.0.now h.1))
