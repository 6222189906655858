-- The signs that end what is open, or go on with another branch or clause.
use Rattle.std.proofs.Common.{◌≡◌, ℕ, ◌+◌, List, [], ◌∷◌, ◌++◌, length, Bool, true, false, ◌⊎◌, Ok, refl, sym, ap, ◌∙◌, arith, append_assoc, append-nil, bytes_eq}
use Rattle.std.specs.Prelude.{if◌then◌else◌}
use Rattle.std.proofs.lemmas.Slice.Eq.{bytes_eq-Decides}
use Rattle.ast_core.specs.Syntax.{Location, Pattern, at_place, case_place, Clauses}
use Rattle.ast_core.specs.Places.{is_void}
use Rattle.heex_reader.specs.declared.fault.TemplateKind.TheVariants as kind
use Rattle.heex_reader.specs.Located.{faulty}
use Rattle.heex_reader.specs.Signs.{closes, clause_head, otherwise, ends, Placed}
use Rattle.heex_reader.specs.Contents.{Content, nothing_yet, add_node, add_tag}
use Rattle.heex_reader.specs.Grammar.{sign_at, Forest, no_trees, forest_signs, tree_on, block_nodes}
use Rattle.heex_reader.specs.Machine.{in_call, in_clause, close_tag, end_block, else_branch, next_clause}
use Rattle.heex_reader.specs.Answers.{open_behind, is_opening, own_fault}
use Rattle.heex_reader.proofs.Goes.{state}
use Rattle.heex_reader.proofs.Shapes.{Fits, Earlier, Kind, of_tag, of_yes, of_no, of_loop, of_clause, Piece, piece, inner, open_pieces, earlier_signs, told, FineEarlier, FineShape, clauses_seen, frames_of, content, content_added}
use Rattle.heex_reader.proofs.Closed.{closed, end_sign, ended, fine_ended, told_ended, clauses_more}
use Rattle.heex_reader.proofs.Taken.{Taken, Strays, Deepens, Met, strays}

-- One more clause is read.
abbrev earlier : ℕ → Pattern → Forest → Earlier
earlier n p f = record { at = n; pattern = p; body = f }

more_signs : (es : List Earlier) (x : Earlier) → earlier_signs (es ++ x ∷ []) ≡ earlier_signs es ++ (sign_at x.at (clause_head x.pattern) ∷ forest_signs x.body)
more_signs [] x = ap (λ l. sign_at x.at (clause_head x.pattern) ∷ l) (append-nil (forest_signs x.body))
more_signs (y ∷ es) x =
    ap (λ l. sign_at y.at (clause_head y.pattern) ∷ (forest_signs y.body ++ l)) (more_signs es x)
    ∙ ap (λ l. sign_at y.at (clause_head y.pattern) ∷ l) (sym (append_assoc (forest_signs y.body) (earlier_signs es) (sign_at x.at (clause_head x.pattern) ∷ forest_signs x.body)))

more_fine : (d : ℕ) (es : List Earlier) (x : Earlier) → FineEarlier d es → Fits d x.body → FineEarlier d (es ++ x ∷ [])
more_fine d [] x h i = (i, tt)
more_fine d (y ∷ es) x h i = (h.0, more_fine d es x h.1 i)

more_seen : (place : ℕ → Location) (es : List Earlier) (x : Earlier) → clauses_seen place (es ++ x ∷ []) ≡ clauses_seen place es ++ (x.pattern, block_nodes place x.body) ∷ []
more_seen place [] x = refl
more_seen place (y ∷ es) x = ap (λ l. (y.pattern, block_nodes place y.body) ∷ l) (more_seen place es x)

module _ (place : ℕ → Location) where
  -- the innermost is closed
  ends_piece : (p : Piece) (ps : List Piece) (f : Forest) (m : ℕ) (q : Placed) (c : Content) → FineShape (inner f (p ∷ ps)) → sign_at m (end_sign p.kind) ≡ q → open_pieces ps ≡ open_behind (open_pieces (p ∷ ps)) q
      → tree_on place (in_call (frames_of place ps)) (content place ps p.before) (closed p.at p.kind f m) ≡ c → Taken place (inner f (p ∷ ps)) q (state c (frames_of place ps))
  ends_piece p ps f m q c h e o t = record {
    shape = inner (ended p f m) ps;
    is = ap (λ k. state k (frames_of place ps)) (content_added place ps p.before (closed p.at p.kind f m) ∙ t);
    fine = fine_ended p ps f m h;
    same = told_ended p ps f m ∙ ap (λ s. told (inner f (p ∷ ps)) ++ s ∷ []) e;
    opened = o;
  }

  -- An end tag.
  wrong : (f : Forest) (ps : List Piece) (at : ℕ) (name : List ℕ) → is_void name ≡ false
      → Strays (inner f ps) (sign_at at (closes name)) (record { at = at; kind = kind.WrongClose }) ⊎ Deepens (inner f ps) (sign_at at (closes name)) (record { at = at; kind = kind.WrongClose })
  wrong f ps at name v =
      let e : record { at = at; kind = kind.WrongClose } ≡ own_fault (sign_at at (closes name)) = ap (λ b. record { at = at; kind = if b then kind.VoidClosed else kind.WrongClose }) (sym v) in
      strays f ps (sign_at at (closes name)) (record { at = at; kind = kind.WrongClose }) refl e

  tag_closes : (k : Kind) (b : Forest) (n : ℕ) (ps : List Piece) (f : Forest) (at : ℕ) (name : List ℕ) → FineShape (inner f (piece b n k ∷ ps)) → is_void name ≡ false
      → Met place (inner f (piece b n k ∷ ps)) (sign_at at (closes name)) (close_tag place at name (content place (piece b n k ∷ ps) f) (frames_of place (piece b n k ∷ ps)))
  tag_closes (of_tag t) b n ps f at name h v = by_name (bytes_eq name t.name) refl
    where
      by_name : (c : Bool) → bytes_eq name t.name ≡ c
          → Met place (inner f (piece b n (of_tag t) ∷ ps)) (sign_at at (closes name)) (if c then Ok (state (add_tag (in_call (frames_of place ps)) (place n) t (content place (piece b n (of_tag t) ∷ ps) f) (content place ps b)) (frames_of place ps)) else faulty at kind.WrongClose)
      by_name true e =
          let same : sign_at at (closes t.name) ≡ sign_at at (closes name) = ap (λ s. sign_at at (closes s)) (sym ((bytes_eq-Decides name t.name).0 e)) in
          ends_piece (piece b n (of_tag t)) ps f at (sign_at at (closes name)) (add_tag (in_call (frames_of place ps)) (place n) t (content place (piece b n (of_tag t) ∷ ps) f) (content place ps b)) h same refl refl
      by_name false e = wrong f (piece b n (of_tag t) ∷ ps) at name v
  tag_closes (of_yes e) b n ps f at name h v = wrong f (piece b n (of_yes e) ∷ ps) at name v
  tag_closes (of_no e y k) b n ps f at name h v = wrong f (piece b n (of_no e y k) ∷ ps) at name v
  tag_closes (of_loop p e) b n ps f at name h v = wrong f (piece b n (of_loop p e) ∷ ps) at name v
  tag_closes (of_clause e g es k p) b n ps f at name h v = wrong f (piece b n (of_clause e g es k p) ∷ ps) at name v

  pub closes_met : (f : Forest) (ps : List Piece) (at : ℕ) (name : List ℕ) → FineShape (inner f ps)
      → Met place (inner f ps) (sign_at at (closes name)) (if is_void name then faulty at kind.VoidClosed else close_tag place at name (content place ps f) (frames_of place ps))
  closes_met f ps at name h = by_void (is_void name) refl
    where
      by_open : (qs : List Piece) → FineShape (inner f qs) → is_void name ≡ false → Met place (inner f qs) (sign_at at (closes name)) (close_tag place at name (content place qs f) (frames_of place qs))
      by_open [] i v = wrong f [] at name v
      by_open (q ∷ qs) i v = tag_closes q.kind q.before q.at qs f at name i v

      by_void : (b : Bool) → is_void name ≡ b → Met place (inner f ps) (sign_at at (closes name)) (if b then faulty at kind.VoidClosed else close_tag place at name (content place ps f) (frames_of place ps))
      by_void true v =
          let e : record { at = at; kind = kind.VoidClosed } ≡ own_fault (sign_at at (closes name)) = ap (λ b. record { at = at; kind = if b then kind.VoidClosed else kind.WrongClose }) (sym v) in
          strays f ps (sign_at at (closes name)) (record { at = at; kind = kind.VoidClosed }) refl e
      by_void false v = by_open ps h v

  -- a sign that is out of place
  out_of_place : (f : Forest) (ps : List Piece) (p : Placed) → is_opening p.sign ≡ false → record { at = p.at; kind = kind.BadBlock } ≡ own_fault p → Met place (inner f ps) p (faulty p.at kind.BadBlock)
  out_of_place f ps p o e = strays f ps p (record { at = p.at; kind = kind.BadBlock }) o e

  -- The end of a block.
  block_ends : (k : Kind) (b : Forest) (n : ℕ) (ps : List Piece) (f : Forest) (at : ℕ) → FineShape (inner f (piece b n k ∷ ps))
      → Met place (inner f (piece b n k ∷ ps)) (sign_at at ends) (end_block place at (content place (piece b n k ∷ ps) f) (frames_of place (piece b n k ∷ ps)))
  block_ends (of_tag t) b n ps f at h = out_of_place f (piece b n (of_tag t) ∷ ps) (sign_at at ends) refl refl
  block_ends (of_yes e) b n ps f at h = ends_piece (piece b n (of_yes e)) ps f at (sign_at at ends) _ h refl refl refl
  block_ends (of_no e y k) b n ps f at h = ends_piece (piece b n (of_no e y k)) ps f at (sign_at at ends) _ h refl refl refl
  block_ends (of_loop p e) b n ps f at h = ends_piece (piece b n (of_loop p e)) ps f at (sign_at at ends) _ h refl refl refl
  block_ends (of_clause e g es k p) b n ps f at h =
      let t : (x : Clauses) → Content = λ x. add_node (at_place (place n) (case_place e x)) (content place ps b) in
      ends_piece (piece b n (of_clause e g es k p)) ps f at (sign_at at ends) _ h refl refl (ap t (clauses_more place es k p f))

  pub ends_met : (f : Forest) (ps : List Piece) (at : ℕ) → FineShape (inner f ps) → Met place (inner f ps) (sign_at at ends) (end_block place at (content place ps f) (frames_of place ps))
  ends_met f [] at h = out_of_place f [] (sign_at at ends) refl refl
  ends_met f (p ∷ ps) at h = block_ends p.kind p.before p.at ps f at h

  -- The other branch.
  else_piece : (k : Kind) (b : Forest) (n : ℕ) (ps : List Piece) (f : Forest) (at : ℕ) → FineShape (inner f (piece b n k ∷ ps))
      → Met place (inner f (piece b n k ∷ ps)) (sign_at at otherwise) (else_branch place at (content place (piece b n k ∷ ps) f) (frames_of place (piece b n k ∷ ps)))
  else_piece (of_yes e) b n ps f at h = record {
    shape = inner no_trees (piece b n (of_no e f at) ∷ ps);
    is = refl;
    fine = ((tt, omega (arith, h.0.1)), (h.1.0, (h.0.0, omega (arith, h.0.1)), h.1.2));
    same = simp (append_assoc, append-nil);
    opened = refl;
  }
  else_piece (of_tag t) b n ps f at h = out_of_place f (piece b n (of_tag t) ∷ ps) (sign_at at otherwise) refl refl
  else_piece (of_no e y k) b n ps f at h = out_of_place f (piece b n (of_no e y k) ∷ ps) (sign_at at otherwise) refl refl
  else_piece (of_loop p e) b n ps f at h = out_of_place f (piece b n (of_loop p e) ∷ ps) (sign_at at otherwise) refl refl
  else_piece (of_clause e g es k p) b n ps f at h = out_of_place f (piece b n (of_clause e g es k p) ∷ ps) (sign_at at otherwise) refl refl

  pub else_met : (f : Forest) (ps : List Piece) (at : ℕ) → FineShape (inner f ps) → Met place (inner f ps) (sign_at at otherwise) (else_branch place at (content place ps f) (frames_of place ps))
  else_met f [] at h = out_of_place f [] (sign_at at otherwise) refl refl
  else_met f (p ∷ ps) at h = else_piece p.kind p.before p.at ps f at h

  -- Another clause.
  clause_piece : (k : Kind) (b : Forest) (n : ℕ) (ps : List Piece) (f : Forest) (at : ℕ) (q : Pattern) → FineShape (inner f (piece b n k ∷ ps))
      → Met place (inner f (piece b n k ∷ ps)) (sign_at at (clause_head q)) (next_clause place at q (content place (piece b n k ∷ ps) f) (frames_of place (piece b n k ∷ ps)))
  clause_piece (of_clause e g es k p) b n ps f at q h =
      let x = earlier k p f in
      record {
        shape = inner no_trees (piece b n (of_clause e g (es ++ x ∷ []) at q) ∷ ps);
        is = ap (λ l. state nothing_yet (in_clause n e l q (content place ps b) ∷ frames_of place ps)) (more_seen place es x);
        fine = ((tt, omega (arith, h.0.1)), (h.1.0, (h.1.1.0, more_fine (length ps + 1) es x h.1.1.1 (h.0.0, omega (arith, h.0.1))), h.1.2));
        same = rw (more_signs es x) (simp (append_assoc, append-nil));
        opened = refl;
      }
  clause_piece (of_tag t) b n ps f at q h = out_of_place f (piece b n (of_tag t) ∷ ps) (sign_at at (clause_head q)) refl refl
  clause_piece (of_yes e) b n ps f at q h = out_of_place f (piece b n (of_yes e) ∷ ps) (sign_at at (clause_head q)) refl refl
  clause_piece (of_no e y k) b n ps f at q h = out_of_place f (piece b n (of_no e y k) ∷ ps) (sign_at at (clause_head q)) refl refl
  clause_piece (of_loop p e) b n ps f at q h = out_of_place f (piece b n (of_loop p e) ∷ ps) (sign_at at (clause_head q)) refl refl

  pub clause_met : (f : Forest) (ps : List Piece) (at : ℕ) (q : Pattern) → FineShape (inner f ps) → Met place (inner f ps) (sign_at at (clause_head q)) (next_clause place at q (content place ps f) (frames_of place ps))
  clause_met f [] at q h = out_of_place f [] (sign_at at (clause_head q)) refl refl
  clause_met f (p ∷ ps) at q h = clause_piece p.kind p.before p.at ps f at q h
