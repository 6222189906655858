-- What is to be shown of a sign that the reader meets.
use Rattle.std.proofs.Common.{◌≡◌, ℕ, ◌+◌, ◌<◌, List, [], ◌∷◌, ◌++◌, length, Bool, true, false, ◌⊎◌, inl, inr, Result, Ok, Err, refl, sym, ap, ◌∙◌, arith, append_assoc, append-nil, nat_lt, true≢false}
use Rattle.std.specs.Prelude.{if◌then◌else◌}
use Rattle.std.proofs.lemmas.Bool.{ltb-true, ltb-false}
use Rattle.ast_core.specs.Syntax.{Location}
use Rattle.heex_reader.specs.declared.fault.TemplateKind.{TemplateKind}
use Rattle.heex_reader.specs.declared.fault.TemplateKind.TheVariants as kind
use Rattle.heex_reader.specs.Located.{Fault, faulty}
use Rattle.heex_reader.specs.Signs.{broken_opening, Placed}
use Rattle.heex_reader.specs.Contents.{nothing_yet}
use Rattle.heex_reader.specs.Grammar.{sign_at, Gap, Tree, Forest, no_trees, Lawful, height, tree_signs, forest_signs, tree_on}
use Rattle.heex_reader.specs.Machine.{State, in_call, opened, broken_open}
use Rattle.ast_core.specs.Syntax.{Expr}
use Rattle.heex_reader.specs.Answers.{open_at, open_behind, awaits, is_opening, own_fault, fault_of}
use Rattle.heex_reader.proofs.Goes.{state}
use Rattle.heex_reader.proofs.Shapes.{add_tree, added_signs, added_fits, Kind, Piece, piece, Shape, inner, awaiting, open_pieces, behind, head_signs, told_pieces, told, FineKind, FineShape, frame_as, frames_of, content, seen, content_added, as_many_frames, as_many_open}

-- What the reader holds next tells the signs so far and one more.
pub record Taken (place : ℕ → Location) (s : Shape) (p : Placed) (u : State) : Type 0 where
  pub shape : Shape
  pub is : seen place shape ≡ u
  pub fine : FineShape shape
  pub same : told shape ≡ told s ++ p ∷ []
  pub opened : behind shape ≡ open_behind (behind s) p

-- The sign cannot stand there, and this is said of it.
pub record Strays (s : Shape) (p : Placed) (f : Fault) : Type 0 where
  pub shallow : awaits (behind s) ≡ false → is_opening p.sign ≡ true → length (behind s) < 128
  pub said : f ≡ fault_of (awaits (behind s)) p

-- The sign opens one tag or block too many.
pub record Deepens (s : Shape) (p : Placed) (f : Fault) : Type 0 where
  pub more : awaits (behind s) ≡ false
  pub opening : is_opening p.sign ≡ true
  pub deep : length (behind s) ≡ 128
  pub said : f ≡ record { at = p.at; kind = kind.TooDeep }

abbrev pub Met : (ℕ → Location) → Shape → Placed → Result State Fault → Type 0
Met place s p (Ok u) = Taken place s p u
Met place s p (Err f) = Strays s p f ⊎ Deepens s p f

pub not_awaiting : (ps : List Piece) → awaits (open_pieces ps) ≡ false
not_awaiting [] = refl
not_awaiting (p ∷ ps) = refl

-- a sign that opens nothing
pub strays : (f : Forest) (ps : List Piece) (p : Placed) (x : Fault) → is_opening p.sign ≡ false → x ≡ own_fault p → Strays (inner f ps) p x ⊎ Deepens (inner f ps) p x
strays f ps p x h e =
    let said : x ≡ fault_of (awaits (open_pieces ps)) p = e ∙ ap (λ b. fault_of b p) (sym (not_awaiting ps)) in
    inl (record { shallow = λ a o. absurd (true≢false (sym o ∙ h)); said = said })

-- a sign before the first clause
pub strays_before : (b : Forest) (n : ℕ) (e : Expr) (g : Gap) (ps : List Piece) (p : Placed) (x : Fault) → x ≡ record { at = p.at; kind = kind.BadBlock }
    → Strays (awaiting b n e g ps) p x ⊎ Deepens (awaiting b n e g ps) p x
strays_before b n e g ps p x h = inl (record { shallow = λ a o. absurd (true≢false a); said = h })

-- one too many
pub deepens : (place : ℕ → Location) (f : Forest) (ps : List Piece) (p : Placed) → FineShape (inner f ps) → is_opening p.sign ≡ true → nat_lt (length (frames_of place ps)) 128 ≡ false
    → Strays (inner f ps) p (record { at = p.at; kind = kind.TooDeep }) ⊎ Deepens (inner f ps) p (record { at = p.at; kind = kind.TooDeep })
deepens place f ps p h o e =
    let n = ltb-false (length (frames_of place ps)) 128 e in
    inr (record { more = not_awaiting ps; opening = o; deep = omega (arith, n, h.0.1, as_many_frames place ps, as_many_open ps); said = refl })

-- a broken sign that would open something
pub breaks : (place : ℕ → Location) (f : Forest) (ps : List Piece) (at b : ℕ) (k : TemplateKind) → FineShape (inner f ps)
    → Met place (inner f ps) (sign_at at (broken_opening b k)) (broken_open at b k (frames_of place ps))
breaks place f ps at b k h = by_room (nat_lt (length (frames_of place ps)) 128) refl
  where
    by_room : (c : Bool) → nat_lt (length (frames_of place ps)) 128 ≡ c → Met place (inner f ps) (sign_at at (broken_opening b k)) (if c then faulty b k else faulty at kind.TooDeep)
    by_room true e =
        let n = ltb-true (length (frames_of place ps)) 128 e in
        let m : length (open_pieces ps) < 128 = omega (arith, n, as_many_frames place ps, as_many_open ps) in
        let p = sign_at at (broken_opening b k) in
        let said : record { at = b; kind = k } ≡ fault_of (awaits (open_pieces ps)) p = ap (λ x. fault_of x p) (sym (not_awaiting ps)) in
        inl (record { shallow = λ a o. m; said = said })
    by_room false e = deepens place f ps (sign_at at (broken_opening b k)) h refl e

-- a tree of one sign
pub leaf : (place : ℕ → Location) (t : Tree) (f : Forest) (ps : List Piece) (p : Placed) → FineShape (inner f ps) → Lawful t → height t ≡ 0 → tree_signs t ≡ p ∷ [] → open_pieces ps ≡ open_behind (open_pieces ps) p
    → Taken place (inner f ps) p (state (tree_on place (in_call (frames_of place ps)) (content place ps f) t) (frames_of place ps))
leaf place t f ps p h l z e o = record {
  shape = inner (add_tree f t) ps;
  is = ap (λ c. state c (frames_of place ps)) (content_added place ps f t);
  fine = (added_fits (length ps) f t h.0 (l, omega (arith, z, h.0.1)), h.1);
  same = ap (λ l. told_pieces ps ++ l) (added_signs f t ∙ ap (λ l. forest_signs f ++ l) e) ∙ sym (append_assoc (told_pieces ps) (forest_signs f) (p ∷ []));
  opened = o;
}

-- a tag or a block in which nodes stand
pub opens_piece : (place : ℕ → Location) (k : Kind) (f : Forest) (ps : List Piece) (p : Placed) → FineShape (inner f ps) → FineKind (length ps + 1) k → is_opening p.sign ≡ true → head_signs p.at k ≡ p ∷ []
    → open_at p.at ∷ open_pieces ps ≡ open_behind (open_pieces ps) p → Met place (inner f ps) p (opened p.at (frame_as place k p.at (content place ps f)) (frames_of place ps))
opens_piece place k f ps p h i o e b = by_room (nat_lt (length (frames_of place ps)) 128) refl
  where
    by_room : (c : Bool) → nat_lt (length (frames_of place ps)) 128 ≡ c
        → Met place (inner f ps) p (if c then Ok (record { here = nothing_yet; frames = frame_as place k p.at (content place ps f) ∷ frames_of place ps }) else faulty p.at kind.TooDeep)
    by_room true x =
        let n = ltb-true (length (frames_of place ps)) 128 x in
        record {
          shape = inner no_trees (piece f p.at k ∷ ps);
          is = is_so k;
          fine = ((tt, omega (arith, n, as_many_frames place ps)), (h.0, i, h.1));
          same = append-nil ((told_pieces ps ++ forest_signs f) ++ head_signs p.at k) ∙ ap (λ l. (told_pieces ps ++ forest_signs f) ++ l) e;
          opened = b;
        }
      where
        is_so : (l : Kind) → seen place (inner no_trees (piece f p.at l ∷ ps)) ≡ state nothing_yet (frame_as place l p.at (content place ps f) ∷ frames_of place ps)
        is_so l = refl
    by_room false x = deepens place f ps p h o x
