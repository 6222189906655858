-- The reader of expressions is exact.
use Rattle.std.proofs.Common.{◌≡◌, ℕ, List, [], ◌∷◌, ◌++◌, length, Option, Some, None, Ok, refl, sym, ap, ◌∙◌, subst, arith}
use Rattle.ast_core.specs.Syntax.{Expr}
use Rattle.expr_token.specs.declared.token.Token.{Token}
use Rattle.expr_token.specs.declared.token.Opened.{Opened}
use Rattle.expr_token.specs.Tokens.{left_open}
use Rattle.expr_core.specs.Language.{Spells, Ended}
use Rattle.expr_core.specs.Outcome.{Outcome, done, stray, bad_number, too_deep, ended, Answers, outcome_of}
use Rattle.expr_core.specs.Grammar.{Tree, Meant, meant, marks, Grouped, expressions}
use Rattle.expr_core.specs.Machine.{State, step, ends, meant_by, finished, expr_reader}
use Rattle.expr_core.specs.Answers.{tokens_of, SpellsExpr, AnswersExpr, at_text_end, answer_by, known_or, expr_of}
use Rattle.expr_core.proofs.Opens.{means, held, opened, behind, closes}
use Rattle.expr_core.proofs.Marked.{goes}
use Rattle.expr_core.proofs.Steps.{Tells, Leads, Proof}
use Rattle.expr_core.proofs.Shapes.{Piece, Shape, wants, has, wants_assign, wants_field, wants_call, wants_arguments, wants_if, wants_do, wants_else, wants_part, wants_key, wants_colon, wants_quote, wants_arrow, seen, seen_shape, nest, shown, depth, told, FineShape, same_depth}
use Rattle.expr_core.proofs.Viable.{viable}
use Rattle.expr_core.proofs.Keeps.{reduces, Holds, Takes, takes}
use Rattle.expr_core.proofs.Exact.{exact, spelled_is_read, one_meaning}
use Rattle.expr_core.proofs.Texts.{stray_token, large_token, deep_token, stray_end, open_end}

-- where the text may end, nothing is left below
some_end : (qs : List Piece) (u : Tree) (m : Meant) → meant_by (ends (held u, seen qs)) ≡ Some m → (qs ≡ []) × (means u ≡ m)
some_end [] u m e = (refl, cc)
some_end (q ∷ qs) u m e = cc

pub tells : (s : Shape) (m : Meant) → FineShape s → meant_by (finished (seen_shape s)) ≡ Some m → Tells expressions (told s) m
tells (has t ps) m f e =
    let r = reduces ps 0 t f.0 f.1 f.2 in
    let k = some_end r.pieces r.tree m (ap (λ p. meant_by (ends p)) (sym r.is) ∙ e) in
    record {
      tree = r.tree;
      lawful = r.grouped;
      same = subst (λ (qs : List Piece). shown qs ++ marks (nest qs) r.tree ≡ told (has t ps)) k.0 r.same;
      means = k.1;
    }
tells (wants ps) m f e = cc
tells (wants_assign ps) m f e = cc
tells (wants_field t ps) m f e = cc
tells (wants_call t ps) m f e = cc
tells (wants_arguments h ps) m f e = cc
tells (wants_if ps) m f e = cc
tells (wants_do s t ps) m f e = cc
tells (wants_else s t y ps) m f e = cc
tells (wants_part s qs ps) m f e = cc
tells (wants_key es ps) m f e = cc
tells (wants_colon es at s ps) m f e = cc
tells (wants_quote es s ps) m f e = cc
tells (wants_arrow es s ps) m f e = cc

pub taken : (s : Shape) (tok : Token) (u : State) → FineShape s → step (seen_shape s) tok ≡ Some u → Holds (told s) tok u
taken s tok u f e = subst (Takes (told s) tok) e (takes s tok f)

pub leads : (t : Tree) → Grouped t → Leads expressions expr_reader t
leads t g = record {
  state = behind (opened t []);
  goes = goes t [] g (omega arith);
  finished = ap (λ p. meant_by (ends p)) (closes t 0 [] g (omega arith));
}

abbrev pub expr_proof : Proof expressions expr_reader
expr_proof = record {
  Shape = Shape;
  seen = seen_shape;
  Fine = FineShape;
  told = told;
  deep = depth;
  first = wants [];
  first_seen = refl;
  first_fine = tt;
  first_told = refl;
  same_depth = same_depth;
  takes = taken;
  viable = viable;
  ends = tells;
  leads = leads;
}

-- what becomes of tokens is right
pub expr_outcome : (ts : List Token) → Answers expressions ts (outcome_of expr_reader ts)
expr_outcome ts = exact expressions expr_reader expr_proof ts

by_unknown : (text : List ℕ) (e : Expr) (u : Option ℕ) → Spells expressions (tokens_of text) (meant e u) → AnswersExpr text (known_or e u)
by_unknown text e None s = s
by_unknown text e (Some at) s = (e, s)

at_the_end : (text : List ℕ) (ps : List Opened) → left_open text ≡ ps → Ended expressions (tokens_of text) → AnswersExpr text (at_text_end ps (length text))
at_the_end text [] h e = stray_end expressions text e h
at_the_end text (p ∷ ps) h e = open_end expressions text p ps e h

by_outcome : (text : List ℕ) (o : Outcome Meant) → Answers expressions (tokens_of text) o → AnswersExpr text (answer_by (λ m. known_or m.expr m.unknown) text o)
by_outcome text (done m) a = by_unknown text m.expr m.unknown a
by_outcome text (stray n) a = stray_token expressions text n a
by_outcome text (bad_number n) a = large_token expressions text n a
by_outcome text (too_deep n) a = deep_token expressions text n a
by_outcome text ended a = at_the_end text (left_open text) refl a

-- What becomes of a text is right: an expression where the text is written as it, and else the one refusal with its place.
pub expr_exact : (text : List ℕ) → AnswersExpr text (expr_of text)
expr_exact text = by_outcome text (outcome_of expr_reader (tokens_of text)) (expr_outcome (tokens_of text))

-- What is written is read.
pub expr_is_read : (text : List ℕ) (e : Expr) → SpellsExpr text e → expr_of text ≡ Ok e
expr_is_read text e s = ap (answer_by (λ m. known_or m.expr m.unknown) text) (spelled_is_read expressions expr_reader expr_proof (tokens_of text) (meant e None) s)

-- A text is written as one expression.
pub one_expr : (text : List ℕ) (e f : Expr) → SpellsExpr text e → SpellsExpr text f → e ≡ f
one_expr text e f s t = ap (λ m. m.expr) (one_meaning expressions expr_reader expr_proof (tokens_of text) (meant e None) (meant f None) s t)
