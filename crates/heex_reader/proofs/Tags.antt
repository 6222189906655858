-- What tags are, by their names.
use Rattle.std.proofs.Common.{◌≡◌, ℕ, ◌==◌, List, [], ◌∷◌, ◌++◌, Bool, true, false, None, cond, refl, ap}
use Rattle.std.proofs.lemmas.Bool.{eqb-true}
use Rattle.ast_core.specs.Syntax.{Location}
use Rattle.heex_token.specs.Tokens.{first_is}
use Rattle.heex_reader.specs.Signs.{Tag}
use Rattle.heex_reader.specs.Contents.{Content, TagKind, of_element, of_call, of_live_call, of_slot, kind_of_tag, add_node, bare_node, node_of, entry_of, add_tag_by}
use Rattle.heex_reader.specs.Seen.{has_mark, is_entry}

pub bare_alone : (k : TagKind) (l : Location) (t : Tag) (c : Content) → bare_node k l (record t { generator = None; test = None }) c ≡ bare_node k l t c
bare_alone of_element l t c = refl
bare_alone of_call l t c = refl
bare_alone of_live_call l t c = refl
bare_alone of_slot l t c = refl

pub adds_entry : (k : TagKind) (b : Bool) (l : Location) (t : Tag) (inner c : Content) → is_entry k b ≡ true → add_tag_by k b l t inner c ≡ record c { entries = c.entries ++ entry_of l t inner ∷ [] }
adds_entry of_slot true l t inner c e = refl
adds_entry of_slot false l t inner c e = cc
adds_entry of_element b l t inner c e = cc
adds_entry of_call b l t inner c e = cc
adds_entry of_live_call b l t inner c e = cc

pub adds_node : (k : TagKind) (b : Bool) (l : Location) (t : Tag) (inner c : Content) → is_entry k b ≡ false → add_tag_by k b l t inner c ≡ add_node (node_of k l t inner) c
adds_node of_slot true l t inner c e = cc
adds_node of_slot false l t inner c e = refl
adds_node of_element b l t inner c e = refl
adds_node of_call b l t inner c e = refl
adds_node of_live_call b l t inner c e = refl

pub entry_has_mark : (k : TagKind) (b : Bool) → is_entry k b ≡ true → has_mark k ≡ true
entry_has_mark of_slot b e = refl
entry_has_mark of_element b e = cc
entry_has_mark of_call b e = cc
entry_has_mark of_live_call b e = cc

no_first : (b : ℕ) → (b == 58) ≡ true → (bs : List ℕ) → ((rest : List ℕ) → b ∷ bs ≡ 58 ∷ rest → ⊥) → ⊥
no_first b e bs h = h bs (ap (λ c. c ∷ bs) (eqb-true b 58 e))

-- a name with a mark begins with it
pub no_colon : (name : List ℕ) → ((rest : List ℕ) → name ≡ 58 ∷ rest → ⊥) → first_is (λ b. b == 58) name ≡ true → ⊥
no_colon [] h e = cc
no_colon (b ∷ bs) h e = no_first b e bs h

pub has_colon : (name : List ℕ) → ((rest : List ℕ) → name ≡ 46 ∷ rest → ⊥) → has_mark (kind_of_tag name) ≡ true → first_is (λ b. b == 58) name ≡ true
has_colon [] h e = cc
has_colon (b ∷ bs) h e = dot (b == 46) refl
  where
    colon : (t : Bool) → (b == 58) ≡ t → has_mark (cond t of_slot of_element) ≡ true → t ≡ true
    colon true is k = refl
    colon false is k = cc

    dot : (t : Bool) → (b == 46) ≡ t → (b == 58) ≡ true
    dot true is = absurd (h bs (ap (λ c. c ∷ bs) (eqb-true b 46 is)))
    dot false is = colon (b == 58) refl (rw is at e)
