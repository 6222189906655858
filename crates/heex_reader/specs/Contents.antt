-- How nodes are put together.
use Rattle.std.specs.Prelude.{ℕ, List, [], ◌∷◌, ◌++◌, drop, codes, Bool, true, false, ◌==◌, if◌then◌else◌, Option, Some, None}
use Rattle.std.specs.Str.{bytes_eq}
use Rattle.ast_core.specs.Syntax.{Location, Expr, Pattern, any, Generator, Node, text_node, element, at_place, if_place, for_place, call, live_call, Nodes, no_nodes, node, Body, slot_body}
use Rattle.ast_core.specs.NodeView.{nodes_of, SeenEntry, entries_of}
use Rattle.heex_token.specs.Tokens.{first_is}
use Rattle.heex_reader.specs.Signs.{Tag}

-- What stands in a template or a tag: the nodes, and in a call its slot entries.
pub record Content : Type 0 where
  pub nodes : List Node
  pub entries : List SeenEntry

abbrev pub nothing_yet : Content
nothing_yet = record { nodes = []; entries = [] }

abbrev pub nodes_in : Content → Nodes
nodes_in c = nodes_of c.nodes

-- two nodes side by side: two texts are one
abbrev pub side_by_side : Node → Node → List Node
side_by_side (text_node t) (text_node u) = text_node (t ++ u) ∷ []
side_by_side m n = m ∷ n ∷ []

-- a node behind others
abbrev pub then_node : List Node → Node → List Node
then_node [] n = n ∷ []
then_node (m ∷ []) n = side_by_side m n
then_node (m ∷ k ∷ ms) n = m ∷ then_node (k ∷ ms) n

abbrev pub add_node : Node → Content → Content
add_node n c = record c { nodes = then_node c.nodes n }

-- what a tag is
pub data TagKind : Type 0 where
  of_element : TagKind
  of_call : TagKind
  of_live_call : TagKind
  of_slot : TagKind

abbrev pub kind_of_tag : List ℕ → TagKind
kind_of_tag name =
    if first_is (λ b. b == 46) name then (if bytes_eq name (codes ".live_component") then of_live_call else of_call)
    else if first_is (λ b. b == 58) name then of_slot else of_element

-- whether slot entries stand directly inside
abbrev pub takes_entries : TagKind → Bool
takes_entries of_element = false
takes_entries of_call = true
takes_entries of_live_call = true
takes_entries of_slot = false

-- `:if` and `:for` around a node, `:for` outside
abbrev pub tested : Location → Option Expr → Node → Node
tested l None n = n
tested l (Some e) n = at_place l (if_place e (node n no_nodes) no_nodes)

abbrev pub repeated : Location → Option Generator → Node → Node
repeated l None n = n
repeated l (Some g) n = at_place l (for_place g.pattern g.items (node n no_nodes))

abbrev pub or_any : Option Pattern → Pattern
or_any None = any
or_any (Some p) = p

abbrev pub body_of : Tag → Content → Body
body_of t inner = slot_body 0 (or_any t.binds) (nodes_of inner.nodes)

-- the node of a tag without its `:if` and `:for`; a slot outside of a call is an element, which linking refuses
abbrev pub bare_node : TagKind → Location → Tag → Content → Node
bare_node of_call l t inner = at_place l (call (drop 1 t.name) t.attributes (body_of t inner) (entries_of inner.entries))
bare_node of_live_call l t inner = at_place l (live_call t.attributes (body_of t inner) (entries_of inner.entries))
bare_node k l t inner = element l t.name t.attributes (nodes_of inner.nodes)

abbrev pub node_of : TagKind → Location → Tag → Content → Node
node_of k l t inner = repeated l t.generator (tested l t.test (bare_node k l t inner))

abbrev pub entry_of : Location → Tag → Content → SeenEntry
entry_of l t inner = record { location = l; slot = drop 1 t.name; attributes = t.attributes; generator = t.generator; test = t.test; body = body_of t inner }

-- a tag with what stands in it, behind what stands before it; whether that stands directly in a call
abbrev pub add_tag_by : TagKind → Bool → Location → Tag → Content → Content → Content
add_tag_by of_slot true l t inner c = record c { entries = c.entries ++ entry_of l t inner ∷ [] }
add_tag_by k in_call l t inner c = add_node (node_of k l t inner) c

abbrev pub add_tag : Bool → Location → Tag → Content → Content → Content
add_tag in_call l t inner c = add_tag_by (kind_of_tag t.name) in_call l t inner c

-- whether what stands in this tag stands directly in a call
abbrev pub is_call : Tag → Bool
is_call t = takes_entries (kind_of_tag t.name)
