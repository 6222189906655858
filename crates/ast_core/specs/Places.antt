-- The places of a node, and its constant text cut at them.
use Rattle.std.specs.Prelude.{ℕ, List, [], ◌∷◌, ◌++◌, Bool, false, ◌||◌, if◌then◌else◌, codes, ◌≡◌}
use Rattle.std.specs.Str.{bytes_eq}
use Rattle.ast_core.specs.Syntax.{Written, double_quoted, single_quoted, bare, Attributes, no_attributes, written, valued, spread_of, module_of, Node, text_node, element, at_place, Place, attribute, spread, if_place, case_place, stream_place, Nodes, no_nodes, node, Clauses, no_clauses, clause}
use Rattle.ast_core.specs.Free.{one_of}

-- void elements have no end tag
abbrev pub is_void : List ℕ → Bool
is_void t = one (codes "area" ∷ codes "base" ∷ codes "br" ∷ codes "col" ∷ codes "embed" ∷ codes "hr" ∷ codes "img" ∷ codes "input" ∷ codes "link" ∷ codes "meta" ∷ codes "param" ∷ codes "source" ∷ codes "track" ∷ codes "wbr" ∷ [])
  where
    one : List (List ℕ) → Bool
    one [] = false
    one (n ∷ ns) = bytes_eq t n || one ns

-- the beginning of a start tag
abbrev pub opening : List ℕ → List ℕ
opening t = 60 ∷ t

-- an end tag, which a void element has not
abbrev pub closing : List ℕ → List ℕ
closing t = if is_void t then [] else codes "</" ++ (t ++ codes ">")

-- an attribute as it is written, with its leading space
abbrev pub written_text : List ℕ → Written → List ℕ
written_text n (double_quoted t) = 32 ∷ (n ++ (codes "=\"" ++ (t ++ codes "\"")))
written_text n (single_quoted t) = 32 ∷ (n ++ (codes "='" ++ (t ++ codes "'")))
written_text n bare = 32 ∷ n

-- the places of nodes, in order
abbrev pub places_of_attributes : Attributes → List Place
places_of_attributes no_attributes = []
places_of_attributes (written n w xs) = places_of_attributes xs
places_of_attributes (valued n e xs) = attribute n e ∷ places_of_attributes xs
places_of_attributes (spread_of e xs) = spread e ∷ places_of_attributes xs
places_of_attributes (module_of m xs) = places_of_attributes xs

abbrev mutual
  pub places_of : Node → List Place
  places_of (text_node t) = []
  places_of (element l t xs ns) = places_of_attributes xs ++ places_in ns
  places_of (at_place l p) = p ∷ []

  pub places_in : Nodes → List Place
  places_in no_nodes = []
  places_in (node n ns) = places_of n ++ places_in ns

-- the statics of two stretches, one after the other
abbrev pub join_statics : List (List ℕ) → List (List ℕ) → List (List ℕ)
join_statics [] ys = ys
join_statics (s ∷ []) [] = s ∷ []
join_statics (s ∷ []) (t ∷ ys) = (s ++ t) ∷ ys
join_statics (s ∷ s' ∷ ss) ys = s ∷ join_statics (s' ∷ ss) ys

-- the constant text of nodes, cut at their places
abbrev pub cut_attributes : Attributes → List (List ℕ)
cut_attributes no_attributes = [] ∷ []
cut_attributes (written n w xs) = join_statics (written_text n w ∷ []) (cut_attributes xs)
cut_attributes (valued n e xs) = [] ∷ cut_attributes xs
cut_attributes (spread_of e xs) = [] ∷ cut_attributes xs
cut_attributes (module_of m xs) = cut_attributes xs

abbrev mutual
  pub cut_node : Node → List (List ℕ)
  cut_node (text_node t) = t ∷ []
  cut_node (element l t xs ns) =
      join_statics (opening t ∷ []) (join_statics (cut_attributes xs) (join_statics (codes ">" ∷ []) (join_statics (cut ns) (closing t ∷ []))))
  cut_node (at_place l p) = [] ∷ [] ∷ []

  pub cut : Nodes → List (List ℕ)
  cut no_nodes = [] ∷ []
  cut (node n ns) = join_statics (cut_node n) (cut ns)

-- the streams that have a place in these nodes
abbrev mutual
  pub streams_in : Nodes → List (List ℕ)
  streams_in no_nodes = []
  streams_in (node n ns) = streams_of n ++ streams_in ns

  pub streams_of : Node → List (List ℕ)
  streams_of (text_node t) = []
  streams_of (element l t xs ns) = streams_in ns
  streams_of (at_place l p) = streams_at p

  pub streams_at : Place → List (List ℕ)
  streams_at (if_place t a b) = streams_in a ++ streams_in b
  streams_at (case_place e cs) = streams_in_clauses cs
  streams_at (stream_place s x p ns) = s ∷ []
  streams_at _ = []

  pub streams_in_clauses : Clauses → List (List ℕ)
  streams_in_clauses no_clauses = []
  streams_in_clauses (clause p ns cs) = streams_in ns ++ streams_in_clauses cs

-- no stream has two places
abbrev pub Once : List (List ℕ) → Type 0
Once [] = Unit {0}
Once (s ∷ ss) = (one_of s ss ≡ false) × Once ss
