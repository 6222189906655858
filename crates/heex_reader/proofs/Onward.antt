-- What one attribute does for a tag, before those behind it.
use Rattle.std.proofs.Common.{◌≡◌, ℕ, List, ◌∷◌, Bool, Result, Ok, Err, refl, sym, ap, ◌∙◌}
use Rattle.heex_token.specs.declared.token.RawAttribute.{RawAttribute}
use Rattle.heex_token.specs.declared.token.TagEnd.{TagEnd}
use Rattle.heex_reader.specs.declared.piece.PieceFault.{PieceFault}
use Rattle.heex_reader.specs.declared.piece.PieceFault.TheVariants as fault
use Rattle.heex_reader.specs.Located.{Fault}
use Rattle.heex_reader.specs.Signs.{Tag}
use Rattle.heex_reader.specs.Contents.{TagKind, kind_of_tag}
use Rattle.heex_reader.specs.Pieces.{then_do}
use Rattle.heex_reader.specs.Tags.{Said, has_no_content, start_sign, tag_sign_by}
use Rattle.heex_reader.specs.Onto.{with_said, said_onto, one_onto, tag_onto, bare_tag}
use Rattle.heex_reader.specs.SeenSigns.{FaultGiven}
use Rattle.heex_reader.proofs.Left.{tag_left}

one_first : (k : TagKind) (t : Tag) (a : RawAttribute) (as' : List RawAttribute) → tag_onto k t (a ∷ as') ≡ then_do (one_onto k t a) (λ u. tag_onto k u as')
one_first k t a as' = by (said_onto k t a)
  where
    by : (r : Result Said Fault) → then_do r (λ s. tag_onto k (with_said s t) as') ≡ then_do (then_do r (λ s. Ok (with_said s t))) (λ u. tag_onto k u as')
    by (Ok s) = refl
    by (Err f) = refl

-- a tag with one more attribute goes on with the others
pub onto_next : (k : TagKind) (t u : Tag) (a : RawAttribute) (as' : List RawAttribute) → one_onto k t a ≡ Ok u → tag_onto k t (a ∷ as') ≡ tag_onto k u as'
onto_next k t u a as' h = one_first k t a as' ∙ ap (λ (r : Result Tag Fault). then_do r (λ v. tag_onto k v as')) h

-- and the fault of one attribute is that of all
pub onto_fault : (k : TagKind) (t : Tag) (a : RawAttribute) (as' : List RawAttribute) (f : PieceFault) → FaultGiven f (one_onto k t a) → FaultGiven f (tag_onto k t (a ∷ as'))
onto_fault k t a as' (fault.Faulty at kind) h = one_first k t a as' ∙ ap (λ (r : Result Tag Fault). then_do r (λ v. tag_onto k v as')) h
onto_fault k t a as' fault.OutOfMemory h = tt

-- the sign of a start tag whose attributes say this
pub sign_of : (name : List ℕ) (as' : List RawAttribute) (end : TagEnd) (whole : Bool) (r : Result Tag Fault) → whole ≡ has_no_content name end → tag_onto (kind_of_tag name) (bare_tag name) as' ≡ r
    → tag_sign_by whole r ≡ start_sign name as' end
sign_of name as' end whole r w h = ap (λ (b : Bool). tag_sign_by b r) w ∙ ap (tag_sign_by (has_no_content name end)) (sym h ∙ tag_left (kind_of_tag name) name as')
