-- What the reader takes is told by what it holds, and what it refuses cannot stand there.
use Rattle.std.proofs.Common.{◌≡◌, ℕ, ◌<◌, List, [], ◌∷◌, ◌++◌, length, Bool, true, false, Ok, refl, sym, ap, ◌∙◌, subst, arith, append_assoc, append-nil, nat_lt}
use Rattle.std.specs.Prelude.{if◌then◌else◌}
use Rattle.std.proofs.lemmas.Bool.{ltb-true}
use Rattle.ast_core.specs.Syntax.{Location, Expr}
use Rattle.heex_reader.specs.declared.fault.TemplateKind.TheVariants as kind
use Rattle.heex_reader.specs.Located.{faulty}
use Rattle.heex_reader.specs.Signs.{Block, if_block, for_block, case_block, Sign, dropped, words, value, whole, opens, closes, block, clause_head, otherwise, ends, broken, broken_opening, Placed}
use Rattle.heex_reader.specs.Contents.{nothing_yet}
use Rattle.heex_reader.specs.Grammar.{sign_at, is_blank, Gap, no_gap, dropped_gap, white_gap, comment, text, put, single, Forest, no_trees, GapLawful, gap_signs, forest_signs}
use Rattle.heex_reader.specs.Machine.{before_clauses, opened, frame_of, within, before_first, step}
use Rattle.heex_reader.specs.Answers.{OpensNoVoid, awaits_clause, open_behind}
use Rattle.heex_reader.proofs.Shapes.{add_gap, gap_added, gap_lawful, of_tag, of_yes, of_loop, of_clause, Piece, piece, Shape, inner, awaiting, open_pieces, told_pieces, FineShape, frames_of, content, seen, ready, as_many_frames}
use Rattle.heex_reader.proofs.Taken.{Taken, Met, strays, strays_before, deepens, breaks, leaf, opens_piece}
use Rattle.heex_reader.proofs.Ends.{closes_met, ends_met, else_met, clause_met}

module _ (place : ℕ → Location) where
  -- a `case` is opened
  case_met : (e : Expr) (f : Forest) (ps : List Piece) (at : ℕ) → FineShape (inner f ps) → Met place (inner f ps) (sign_at at (block (case_block e))) (opened at (before_clauses at e (content place ps f)) (frames_of place ps))
  case_met e f ps at h = by_room (nat_lt (length (frames_of place ps)) 128) refl
    where
      by_room : (c : Bool) → nat_lt (length (frames_of place ps)) 128 ≡ c
          → Met place (inner f ps) (sign_at at (block (case_block e))) (if c then Ok (record { here = nothing_yet; frames = before_clauses at e (content place ps f) ∷ frames_of place ps }) else faulty at kind.TooDeep)
      by_room true x =
          let n = ltb-true (length (frames_of place ps)) 128 x in
          let m : length ps < 128 = omega (arith, n, as_many_frames place ps) in
          record {
            shape = awaiting f at e no_gap ps;
            is = refl;
            fine = (h.0, tt, m, h.1);
            same = refl;
            opened = refl;
          }
      by_room false x = deepens place f ps (sign_at at (block (case_block e))) h refl x

  block_met : (b : Block) (f : Forest) (ps : List Piece) (at : ℕ) → FineShape (inner f ps) → Met place (inner f ps) (sign_at at (block b)) (opened at (frame_of at (content place ps f) b) (frames_of place ps))
  block_met (if_block e) f ps at h = opens_piece place (of_yes e) f ps (sign_at at (block (if_block e))) h tt refl refl refl
  block_met (for_block q e) f ps at h = opens_piece place (of_loop q e) f ps (sign_at at (block (for_block q e))) h tt refl refl refl
  block_met (case_block e) f ps at h = case_met e f ps at h

  -- a sign where nodes may stand
  within_met : (s : Sign) (f : Forest) (ps : List Piece) (at : ℕ) → OpensNoVoid s → FineShape (inner f ps) → Met place (inner f ps) (sign_at at s) (within place at s (content place ps f) (frames_of place ps))
  within_met dropped f ps at v h = leaf place (comment at) f ps (sign_at at dropped) h tt refl refl refl
  within_met (words t) f ps at v h = leaf place (text at t) f ps (sign_at at (words t)) h tt refl refl refl
  within_met (value p) f ps at v h = leaf place (put at p) f ps (sign_at at (value p)) h tt refl refl refl
  within_met (whole t) f ps at v h = leaf place (single at t) f ps (sign_at at (whole t)) h tt refl refl refl
  within_met (opens t) f ps at v h = opens_piece place (of_tag t) f ps (sign_at at (opens t)) h v refl refl refl
  within_met (closes name) f ps at v h = closes_met place f ps at name h
  within_met (block b) f ps at v h = block_met b f ps at h
  within_met (clause_head q) f ps at v h = clause_met place f ps at q h
  within_met otherwise f ps at v h = else_met place f ps at h
  within_met ends f ps at v h = ends_met place f ps at h
  within_met (broken b k) f ps at v h = strays f ps (sign_at at (broken b k)) (record { at = b; kind = k }) refl refl
  within_met (broken_opening b k) f ps at v h = breaks place f ps at b k h

  -- more that may stand before the first clause
  gap_taken : (more : Gap) (p : Placed) (b : Forest) (n : ℕ) (e : Expr) (g : Gap) (ps : List Piece) → FineShape (awaiting b n e g ps) → GapLawful more → gap_signs more ≡ p ∷ []
      → awaits_clause n ∷ open_pieces ps ≡ open_behind (awaits_clause n ∷ open_pieces ps) p → Taken place (awaiting b n e g ps) p (seen place (awaiting b n e g ps))
  gap_taken more p b n e g ps h l s o =
      record {
        shape = awaiting b n e (add_gap g more) ps;
        is = refl;
        fine = (h.0, gap_lawful g more h.1 l, h.2, h.3);
        same = ap (λ x. (told_pieces ps ++ forest_signs b) ++ sign_at n (block (case_block e)) ∷ x) (gap_added g more ∙ ap (λ x. gap_signs g ++ x) s)
            ∙ sym (append_assoc (told_pieces ps ++ forest_signs b) (sign_at n (block (case_block e)) ∷ gap_signs g) (p ∷ []));
        opened = o;
      }

  words_met : (t : List ℕ) (b : Forest) (n : ℕ) (e : Expr) (g : Gap) (ps : List Piece) (at : ℕ) → FineShape (awaiting b n e g ps)
      → Met place (awaiting b n e g ps) (sign_at at (words t)) (before_first place at (words t) n e (content place ps b) (frames_of place ps))
  words_met t b n e g ps at h = by_blank (is_blank t) refl
    where
      by_blank : (c : Bool) → is_blank t ≡ c
          → Met place (awaiting b n e g ps) (sign_at at (words t)) (if c then Ok (record { here = nothing_yet; frames = before_clauses n e (content place ps b) ∷ frames_of place ps }) else faulty at kind.BadBlock)
      by_blank true x = gap_taken (white_gap at t no_gap) (sign_at at (words t)) b n e g ps h (x, tt) refl refl
      by_blank false x = strays_before b n e g ps (sign_at at (words t)) (record { at = at; kind = kind.BadBlock }) refl

  before_met : (s : Sign) (b : Forest) (n : ℕ) (e : Expr) (g : Gap) (ps : List Piece) (at : ℕ) → FineShape (awaiting b n e g ps)
      → Met place (awaiting b n e g ps) (sign_at at s) (before_first place at s n e (content place ps b) (frames_of place ps))
  before_met dropped b n e g ps at h = gap_taken (dropped_gap at no_gap) (sign_at at dropped) b n e g ps h tt refl refl
  before_met (words t) b n e g ps at h = words_met t b n e g ps at h
  before_met (clause_head q) b n e g ps at h = record {
    shape = inner no_trees (piece b n (of_clause e g [] at q) ∷ ps);
    is = refl;
    fine = ((tt, omega (arith, h.2)), (h.0, (h.1, tt), h.3));
    same = simp (append_assoc, append-nil);
    opened = refl;
  }
  before_met (value p) b n e g ps at h = strays_before b n e g ps (sign_at at (value p)) (record { at = at; kind = kind.BadBlock }) refl
  before_met (whole t) b n e g ps at h = strays_before b n e g ps (sign_at at (whole t)) (record { at = at; kind = kind.BadBlock }) refl
  before_met (opens t) b n e g ps at h = strays_before b n e g ps (sign_at at (opens t)) (record { at = at; kind = kind.BadBlock }) refl
  before_met (closes name) b n e g ps at h = strays_before b n e g ps (sign_at at (closes name)) (record { at = at; kind = kind.BadBlock }) refl
  before_met (block c) b n e g ps at h = strays_before b n e g ps (sign_at at (block c)) (record { at = at; kind = kind.BadBlock }) refl
  before_met otherwise b n e g ps at h = strays_before b n e g ps (sign_at at otherwise) (record { at = at; kind = kind.BadBlock }) refl
  before_met ends b n e g ps at h = strays_before b n e g ps (sign_at at ends) (record { at = at; kind = kind.BadBlock }) refl
  before_met (broken c k) b n e g ps at h = strays_before b n e g ps (sign_at at (broken c k)) (record { at = at; kind = kind.BadBlock }) refl
  before_met (broken_opening c k) b n e g ps at h = strays_before b n e g ps (sign_at at (broken_opening c k)) (record { at = at; kind = kind.BadBlock }) refl

  -- each sign that the reader meets
  pub meets : (s : Shape) (p : Placed) → OpensNoVoid p.sign → FineShape s → Met place s p (step place p (seen place s))
  meets (inner f ps) p v h = subst (Met place (inner f ps) p) (sym (ready place ps p (content place ps f))) (within_met p.sign f ps p.at v h)
  meets (awaiting b n e g ps) p v h = before_met p.sign b n e g ps p.at h
