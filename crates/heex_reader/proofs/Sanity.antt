-- No sign opens a void element.
use Rattle.std.proofs.Common.{◌≡◌, ℕ, ◌+◌, ◌-◌, List, [], ◌∷◌, length, drop, codes, Bool, true, false, if◌then◌else◌, Option, Some, None, Result, Ok, Err, IfOk, refl, ap, ◌∙◌}
use Rattle.std.specs.Prelude.{take_while}
use Rattle.std.specs.Str.{bytes_eq}
use Rattle.ast_core.specs.Syntax.{Expr, Pattern, Place}
use Rattle.ast_core.specs.Places.{is_void}
use Rattle.expr_token.specs.Tokens.{in_name}
use Rattle.expr_core.specs.declared.fault.ExprKind.{ExprKind}
use Rattle.expr_core.specs.declared.fault.ExprKind.TheVariants as expr_kind
use Rattle.expr_core.specs.Answers.{Refusal, expr_of, pattern_of}
use Rattle.heex_token.specs.declared.token.Token.{Token}
use Rattle.heex_token.specs.declared.token.TokenForm.{TokenForm}
use Rattle.heex_token.specs.declared.token.TokenForm.TheVariants as form
use Rattle.heex_token.specs.declared.token.RawAttribute.{RawAttribute}
use Rattle.heex_token.specs.declared.token.TagEnd.{TagEnd}
use Rattle.heex_token.specs.declared.token.TagEnd.TheVariants as tag_end
use Rattle.heex_reader.specs.declared.fault.TemplateKind.TheVariants as kind
use Rattle.heex_reader.specs.Located.{Fault}
use Rattle.heex_reader.specs.Signs.{Tag, Block, if_block, for_block, case_block, Sign, otherwise, ends, broken, Placed}
use Rattle.heex_reader.specs.Contents.{TagKind, kind_of_tag}
use Rattle.heex_reader.specs.Pieces.{then_do, expr_at, pattern_at, generator_at, trimmed, ends_on, before_end, ends_with_do, white_before, block_sign, head_by, head_sign, clause_sign, block_tag_sign, calls_render_slot, as_list, rendered_by, value_or, slot_sign, refused_value, value_by, value_sign, put_sign}
use Rattle.heex_reader.specs.Tags.{Said, attribute_is, value_is, spread_is, module_is, repeats, tests, binds_to, said_on, said_by, tag_of, has_no_content, tag_sign_by, start_sign}
use Rattle.heex_reader.specs.Reading.{between, sign_of, signs_of}
use Rattle.heex_reader.specs.Answers.{OpensNoVoid, Sane}

-- Signs that open no tag.

sane_if : (x : Bool) (s t : Sign) → OpensNoVoid s → OpensNoVoid t → OpensNoVoid (if x then s else t)
sane_if true s t h k = h
sane_if false s t h k = k

value_or_sane : (at : ℕ) (r : Refusal) (o : Option Place) → OpensNoVoid (value_or at r o)
value_or_sane at r None = tt
value_or_sane at r (Some p) = tt

slot_sane : (at : ℕ) (r : Refusal) (q : Result Expr Refusal) → OpensNoVoid (slot_sign at r q)
slot_sane at r (Ok e) = value_or_sane at r (rendered_by e)
slot_sane at r (Err q) = by q.kind
  where
    by : (k : ExprKind) → OpensNoVoid (elim k [ expr_kind.UnknownFunction ↦ broken (at + q.place) (kind.BadExpr q.kind) | j ↦ broken (at + r.place) (kind.BadExpr r.kind) ])
    by expr_kind.Stray = tt
    by expr_kind.Unclosed = tt
    by expr_kind.BadNumber = tt
    by expr_kind.TooDeep = tt
    by expr_kind.UnknownFunction = tt

refused_sane : (at : ℕ) (s : List ℕ) (r : Refusal) → OpensNoVoid (refused_value at s r)
refused_sane at s r = by r.kind
  where
    by : (k : ExprKind) → OpensNoVoid (elim k [ expr_kind.UnknownFunction ↦ if calls_render_slot r.place s then slot_sign at r (expr_of (as_list s)) else broken (at + r.place) (kind.BadExpr r.kind) | j ↦ broken (at + r.place) (kind.BadExpr r.kind) ])
    by expr_kind.Stray = tt
    by expr_kind.Unclosed = tt
    by expr_kind.BadNumber = tt
    by expr_kind.TooDeep = tt
    by expr_kind.UnknownFunction = sane_if (calls_render_slot r.place s) (slot_sign at r (expr_of (as_list s))) (broken (at + r.place) (kind.BadExpr r.kind)) (slot_sane at r (expr_of (as_list s))) tt

value_by_sane : (at : ℕ) (s : List ℕ) (q : Result Expr Refusal) → OpensNoVoid (value_by at s q)
value_by_sane at s (Ok e) = tt
value_by_sane at s (Err r) = refused_sane at s r

value_sane : (at : ℕ) (s : List ℕ) → OpensNoVoid (value_sign at s)
value_sane at s = value_by_sane at s (expr_of s)

block_sane : (r : Result Block Fault) → OpensNoVoid (block_sign r)
block_sane (Ok b) = tt
block_sane (Err f) = tt

head_by_sane : (start : ℕ) (word : List ℕ) (at : ℕ) (s : List ℕ) → OpensNoVoid (head_by start word at s)
head_by_sane start word at s =
    let an_if : Sign = block_sign (then_do (expr_at at s) (λ e. Ok (if_block e))) in
    let a_for : Sign = block_sign (then_do (generator_at at s) (λ g. Ok (for_block g.pattern g.items))) in
    let a_case : Sign = block_sign (then_do (expr_at at s) (λ e. Ok (case_block e))) in
    let none : Sign = broken start kind.BadBlock in
    let or_case : Sign = if bytes_eq word (codes "case") then a_case else none in
    let or_for : Sign = if bytes_eq word (codes "for") then a_for else or_case in
    sane_if (bytes_eq word (codes "if")) an_if or_for (block_sane (then_do (expr_at at s) (λ e. Ok (if_block e))))
    (sane_if (bytes_eq word (codes "for")) a_for or_case (block_sane (then_do (generator_at at s) (λ g. Ok (for_block g.pattern g.items))))
    (sane_if (bytes_eq word (codes "case")) a_case none (block_sane (then_do (expr_at at s) (λ e. Ok (case_block e)))) tt))

head_sane : (start at : ℕ) (s : List ℕ) → OpensNoVoid (head_sign start at s)
head_sane start at s =
    let white : ℕ = white_before s in
    let word : List ℕ = take_while in_name (drop white s) in
    head_by_sane start word (at + (white + length word)) (drop (white + length word) s)

put_sane : (start at : ℕ) (s : List ℕ) → OpensNoVoid (put_sign start at s)
put_sane start at s = sane_if (ends_with_do s) (head_sign start at (before_end (codes "do") s)) (value_sign at s) (head_sane start at (before_end (codes "do") s)) (value_sane at s)

clause_sane : (r : Result Pattern Fault) → OpensNoVoid (clause_sign r)
clause_sane (Ok p) = tt
clause_sane (Err f) = tt

block_tag_sane : (start at : ℕ) (s : List ℕ) → OpensNoVoid (block_tag_sign start at s)
block_tag_sane start at s =
    let clause : Sign = clause_sign (pattern_at at (before_end (codes "->") s)) in
    let none : Sign = broken start kind.BadBlock in
    let or_clause : Sign = if ends_on (codes "->") s then clause else none in
    let or_end : Sign = if bytes_eq (trimmed s) (codes "end") then ends else or_clause in
    sane_if (bytes_eq (trimmed s) (codes "else")) otherwise or_end tt
    (sane_if (bytes_eq (trimmed s) (codes "end")) ends or_clause tt
    (sane_if (ends_on (codes "->") s) clause none (clause_sane (pattern_at at (before_end (codes "->") s))) tt))

-- Tags.

said_on_name : (s : Said) (t : Tag) → (said_on s t).name ≡ t.name
said_on_name (attribute_is n w) t = refl
said_on_name (value_is n e) t = refl
said_on_name (spread_is e) t = refl
said_on_name (module_is m) t = refl
said_on_name (repeats g) t = refl
said_on_name (tests e) t = refl
said_on_name (binds_to p) t = refl

abbrev Named : List ℕ → Result Tag Fault → Type 0
Named name r = IfOk r (λ (t : Tag). t.name ≡ name)

also_named : (name : List ℕ) (s : Said) (r : Result Tag Fault) → Named name r → Named name (then_do r (λ t. Ok (said_on s t)))
also_named name s (Ok t) h = said_on_name s t ∙ h
also_named name s (Err f) h = tt

then_named : (name : List ℕ) (q : Result Said Fault) (r : Result Tag Fault) → Named name r → Named name (then_do q (λ s. then_do r (λ t. Ok (said_on s t))))
then_named name (Ok s) r h = also_named name s r h
then_named name (Err f) r h = tt

tag_named : (k : TagKind) (name : List ℕ) (seen : List (List ℕ)) (as' : List RawAttribute) → Named name (tag_of k name seen as')
tag_named k name seen [] = refl
tag_named k name seen (a ∷ as') = then_named name (said_by k seen a) (tag_of k name (a.name ∷ seen) as') (tag_named k name (a.name ∷ seen) as')

not_void : (name : List ℕ) (end : TagEnd) → has_no_content name end ≡ false → is_void name ≡ false
not_void name tag_end.SelfClosed h = cc
not_void name tag_end.Open h = h

tag_sane : (name : List ℕ) (x : Bool) (r : Result Tag Fault) → Named name r → (x ≡ false → is_void name ≡ false) → OpensNoVoid (tag_sign_by x r)
tag_sane name true (Ok t) h k = tt
tag_sane name false (Ok t) h k = ap is_void h ∙ k refl
tag_sane name true (Err f) h k = tt
tag_sane name false (Err f) h k = tt

start_sane : (name : List ℕ) (as' : List RawAttribute) (end : TagEnd) → OpensNoVoid (start_sign name as' end)
start_sane name as' end = tag_sane name (has_no_content name end) (tag_of (kind_of_tag name) name [] as') (tag_named (kind_of_tag name) name [] as') (not_void name end)

-- All signs of a file.

sign_sane : (text : List ℕ) (t : Token) → OpensNoVoid (sign_of text t)
sign_sane text t = by t.form
  where
    by : (f : TokenForm) → OpensNoVoid (sign_of text (record { start = t.start; end = t.end; form = f }))
    by form.Dropped = tt
    by form.Text = tt
    by form.Put = put_sane t.start (t.start + 3) (between (t.start + 3) (t.end - 2) text)
    by form.Block = block_tag_sane t.start (t.start + 2) (between (t.start + 2) (t.end - 2) text)
    by form.Curly = value_sane (t.start + 1) (between (t.start + 1) (t.end - 1) text)
    by (form.StartTag name as' end) = start_sane name as' end
    by (form.EndTag name) = tt

-- no sign of a file opens a void element
pub sane : (text : List ℕ) (ts : List Token) → Sane (signs_of text ts)
sane text [] = tt
sane text (t ∷ ts) = (sign_sane text t, sane text ts)
