-- Whether nodes read the streams, node by node.
use Rattle.std.proofs.Common.{◌≡◌, ℕ, ◌+◌, ◌<◌, ◌≤◌, List, [], ◌∷◌, ◌++◌, length, get_or, drop, Bool, true, false, ◌||◌, if◌then◌else◌, refl, sym, ap, ◌∙◌, Less, Equal, Greater}
use Rattle.std.specs.Ordering.{match_ordering}
use Rattle.std.specs.Prelude.{codes}
use Rattle.std.specs.Str.{bytes_eq}
use Rattle.std.specs.declared.cmp.Ordering.{Ordering}
use Rattle.std.proofs.lemmas.List.{drop_all}
use Rattle.std.proofs.lemmas.Map.Lookups.{exact_bytes}
use Rattle.text_core.proofs.Keyed.{cons_at, order}
use Rattle.ast_core.specs.declared.node.Node.{Node}
use Rattle.ast_core.specs.Free.{free_node, free_nodes, one_of}
use Rattle.ast_core.specs.NodeView.{node_view, nodes_view}
use Rattle.ast_core.specs.Reads.{assigns_in, with_name}
use Rattle.ast_core.specs.Syntax.{Name, at, var}
use Rattle.template_reader.specs.Reading.{reads_streams}

-- an assign is mentioned
abbrev says : List ℕ → List Name → Bool
says k [] = false
says k (at a ∷ ns) = if bytes_eq k a then true else says k ns
says k (var v ∷ ns) = says k ns

again : (b c : Bool) → (if b then true else c) ≡ (if b then true else if b then true else c)
again true c = refl
again false c = refl

turned : (b c d : Bool) → (if b then true else if c then true else d) ≡ (if c then true else if b then true else d)
turned true true d = refl
turned true false d = refl
turned false true d = refl
turned false false d = refl

with_one : (k a : List ℕ) (ls : List (List ℕ)) → one_of k (with_name a ls) ≡ (if bytes_eq k a then true else one_of k ls)
with_one k a [] = refl
with_one k a (l ∷ ls) = by (order a l) refl (with_one k a ls)
  where
    by : (o : Ordering) → order a l ≡ o → one_of k (with_name a ls) ≡ (if bytes_eq k a then true else one_of k ls)
        → one_of k (match_ordering o (a ∷ l ∷ ls) (l ∷ ls) (l ∷ with_name a ls)) ≡ (if bytes_eq k a then true else one_of k (l ∷ ls))
    by Less is rest = refl
    by Equal is rest =
        again (bytes_eq k l) (one_of k ls) ∙ ap (λ m. if bytes_eq k m then true else one_of k (l ∷ ls)) (sym (exact_bytes a l is))
    by Greater is rest =
        ap (λ t. if bytes_eq k l then true else t) rest ∙ turned (bytes_eq k l) (bytes_eq k a) (one_of k ls)

said : (k : List ℕ) (ns : List Name) → one_of k (assigns_in ns) ≡ says k ns
said k [] = refl
said k (at a ∷ ns) = with_one k a (assigns_in ns) ∙ ap (λ t. if bytes_eq k a then true else t) (said k ns)
said k (var v ∷ ns) = said k ns

says_either : (k : List ℕ) (xs ys : List Name) → says k (xs ++ ys) ≡ (says k xs || says k ys)
says_either k [] ys = refl
says_either k (at a ∷ xs) ys = by (bytes_eq k a) (says_either k xs ys)
  where
    by : (b : Bool) → says k (xs ++ ys) ≡ (says k xs || says k ys) → (if b then true else says k (xs ++ ys)) ≡ ((if b then true else says k xs) || says k ys)
    by true rest = refl
    by false rest = rest
says_either k (var v ∷ xs) ys = says_either k xs ys

-- an assign among what is read in two parts
in_either : (k : List ℕ) (xs ys : List Name) → one_of k (assigns_in (xs ++ ys)) ≡ (one_of k (assigns_in xs) || one_of k (assigns_in ys))
in_either k xs ys =
    said k (xs ++ ys) ∙ says_either k xs ys ∙ ap (λ t. t || says k ys) (sym (said k xs)) ∙ ap (λ t. one_of k (assigns_in xs) || t) (sym (said k ys))

abbrev pub node_reads : Node → Bool
node_reads n = one_of (codes "streams") (assigns_in (free_node (node_view n)))

at_node : (s : List Node) (i : ℕ) (n : Node) → i < length s → n ≡ get_or s i n → reads_streams (nodes_view (drop i s)) ≡ (node_reads n || reads_streams (nodes_view (drop (i + 1) s)))
at_node s i n within is =
    ap (λ ns. reads_streams (nodes_view ns)) (cons_at s i n within is)
    ∙ in_either (codes "streams") (free_node (node_view n)) (free_nodes (nodes_view (drop (i + 1) s)))

pub streams_next : (s : List Node) (i : ℕ) (n : Node) → i < length s → n ≡ get_or s i n → node_reads n ≡ false
    → reads_streams (nodes_view s) ≡ reads_streams (nodes_view (drop i s)) → reads_streams (nodes_view s) ≡ reads_streams (nodes_view (drop (i + 1) s))
streams_next s i n within is lacks inv = inv ∙ at_node s i n within is ∙ ap (λ b. b || reads_streams (nodes_view (drop (i + 1) s))) lacks

pub streams_found : (s : List Node) (i : ℕ) (n : Node) → i < length s → n ≡ get_or s i n → node_reads n ≡ true
    → reads_streams (nodes_view s) ≡ reads_streams (nodes_view (drop i s)) → true ≡ reads_streams (nodes_view s)
streams_found s i n within is reads inv = sym (inv ∙ at_node s i n within is ∙ ap (λ b. b || reads_streams (nodes_view (drop (i + 1) s))) reads)

pub streams_end : (s : List Node) (i : ℕ) → length s ≤ i
    → reads_streams (nodes_view s) ≡ reads_streams (nodes_view (drop i s)) → false ≡ reads_streams (nodes_view s)
streams_end s i h inv = sym (inv ∙ ap (λ ns. reads_streams (nodes_view ns)) (drop_all i s h))
