-- What the reader has in memory, seen as the machine's.
use Rattle.std.specs.Prelude.{◌≡◌, ℕ, List, [], ◌∷◌, ◌++◌, map, codes, Bool, true, false, if◌then◌else◌, Option, Some, None, option_map, Result, Ok, Err}
use Rattle.std.specs.Str.{bytes_eq}
use Rattle.ast_core.specs.Syntax as model
use Rattle.ast_core.specs.Syntax.{Nodes, no_nodes, Place, if_place, for_place, case_place}
use Rattle.ast_core.specs.ExprView.{expr_view}
use Rattle.ast_core.specs.PatternView.{pattern_view}
use Rattle.ast_core.specs.NodeView.{location_of, attributes_view, generator_view, clauses_of, node_view, place_view, clause_view, entry_view, nodes_view}
use Rattle.ast_core.specs.declared.node.Node.{Node}
use Rattle.heex_reader.specs.declared.sign.Tag.{Tag}
use Rattle.heex_reader.specs.declared.sign.Block.{Block}
use Rattle.heex_reader.specs.declared.sign.Block.TheVariants as block
use Rattle.heex_reader.specs.declared.sign.Sign.{Sign}
use Rattle.heex_reader.specs.declared.sign.Sign.TheVariants as sign
use Rattle.heex_reader.specs.declared.machine.Early.{Early}
use Rattle.heex_reader.specs.declared.machine.Early.TheVariants as early_form
use Rattle.heex_reader.specs.declared.content.Content.{Content}
use Rattle.heex_reader.specs.declared.tag_node.TagKind.{TagKind}
use Rattle.heex_reader.specs.declared.tag_node.TagKind.TheVariants as tag_kind
use Rattle.heex_reader.specs.declared.frame.Spot.{Spot}
use Rattle.heex_reader.specs.declared.frame.Open.{Open}
use Rattle.heex_reader.specs.declared.frame.Open.TheVariants as open_form
use Rattle.heex_reader.specs.declared.frame.Frame.{Frame}
use Rattle.heex_reader.specs.declared.fault.TemplateKind.TheVariants as kind
use Rattle.heex_reader.specs.Located.{Fault, faulty}
use Rattle.heex_reader.specs.Signs as signs
pub use Rattle.heex_reader.specs.SeenSigns.{tag_view, block_view, sign_view}
use Rattle.heex_reader.specs.Grammar.{is_blank}
use Rattle.heex_reader.specs.Contents as contents
use Rattle.heex_reader.specs.Contents.{of_element, of_call, of_live_call, of_slot, is_call, nothing_yet}
use Rattle.heex_reader.specs.Machine as machine

abbrev pub content_view : Content → contents.Content
content_view c = record { nodes = map node_view c.nodes; entries = map entry_view c.entries }

-- Tags.

abbrev pub kind_view : TagKind → contents.TagKind
kind_view tag_kind.Element = of_element
kind_view tag_kind.Call = of_call
kind_view tag_kind.LiveCall = of_live_call
kind_view tag_kind.Slot = of_slot

abbrev pub kind_of_call : List ℕ → contents.TagKind
kind_of_call name = if bytes_eq name (codes ".live_component") then of_live_call else of_call

-- whether the name begins with a dot or a colon
abbrev pub has_mark : contents.TagKind → Bool
has_mark of_element = false
has_mark of_call = true
has_mark of_live_call = true
has_mark of_slot = true

-- whether a tag is a slot entry of the call in which it stands
abbrev pub is_entry : contents.TagKind → Bool → Bool
is_entry of_slot in_call = in_call
is_entry of_element in_call = false
is_entry of_call in_call = false
is_entry of_live_call in_call = false

-- What is open.

-- the frame of what is open, with the byte of its `<` and what stands before it
abbrev pub framed : Open → ℕ → contents.Content → machine.Frame
framed (open_form.Tag t) n c = machine.in_tag n (tag_view t) c
framed (open_form.Yes e) n c = machine.in_yes n (expr_view e) c
framed (open_form.No e ms) n c = machine.in_no n (expr_view e) (nodes_view ms) c
framed (open_form.Loop g) n c = machine.in_loop n (pattern_view g.pattern) (expr_view g.list) c
framed (open_form.BeforeClauses e) n c = machine.before_clauses n (expr_view e) c
framed (open_form.Clause e cs p) n c = machine.in_clause n (expr_view e) (map clause_view cs) (pattern_view p) c

abbrev pub frame_view : Frame → machine.Frame
frame_view f = framed f.form f.spot.byte (content_view f.before)

abbrev pub seen : List Frame → List machine.Frame
seen fs = map frame_view fs

abbrev pub first_of : List Frame → Option Frame
first_of [] = None
first_of (f ∷ fs) = Some f

-- a byte stands where it is said to
abbrev pub IsAt : (ℕ → model.Location) → Spot → Type 0
IsAt place s = place s.byte ≡ location_of s.location

abbrev pub AllAt : (ℕ → model.Location) → List Frame → Type 0
AllAt place [] = Unit {0}
AllAt place (f ∷ fs) = IsAt place f.spot × AllAt place fs

-- what a block's end makes of it
abbrev pub ended : Open → Nodes → Option Place
ended (open_form.Yes e) ns = Some (if_place (expr_view e) ns no_nodes)
ended (open_form.No e ms) ns = Some (if_place (expr_view e) (nodes_view ms) ns)
ended (open_form.Loop g) ns = Some (for_place (pattern_view g.pattern) (expr_view g.list) ns)
ended (open_form.Clause e cs p) ns = Some (case_place (expr_view e) (clauses_of (map clause_view cs ++ (pattern_view p, ns) ∷ [])))
ended (open_form.Tag t) ns = None
ended (open_form.BeforeClauses e) ns = None

-- what an `else` makes of what is open
abbrev pub other_branch : Open → Nodes → ℕ → contents.Content → Option machine.Frame
other_branch (open_form.Yes e) ns n c = Some (machine.in_no n (expr_view e) ns c)
other_branch (open_form.No e ms) ns n c = None
other_branch (open_form.Loop g) ns n c = None
other_branch (open_form.Clause e cs p) ns n c = None
other_branch (open_form.Tag t) ns n c = None
other_branch (open_form.BeforeClauses e) ns n c = None

-- what a clause's head makes of what is open
abbrev pub another_clause : Open → model.Pattern → Nodes → ℕ → contents.Content → Option machine.Frame
another_clause (open_form.Clause e cs p) q ns n c = Some (machine.in_clause n (expr_view e) (map clause_view cs ++ (pattern_view p, ns) ∷ []) q c)
another_clause (open_form.BeforeClauses e) q ns n c = Some (machine.in_clause n (expr_view e) [] q c)
another_clause (open_form.Yes e) q ns n c = None
another_clause (open_form.No e ms) q ns n c = None
another_clause (open_form.Loop g) q ns n c = None
another_clause (open_form.Tag t) q ns n c = None

-- the tag of this name that is open
abbrev pub if_named : Tag → List ℕ → Option signs.Tag
if_named t name = if bytes_eq name t.name then Some (tag_view t) else None

abbrev pub tag_named : Open → List ℕ → Option signs.Tag
tag_named (open_form.Tag t) name = if_named t name
tag_named (open_form.Yes e) name = None
tag_named (open_form.No e ms) name = None
tag_named (open_form.Loop g) name = None
tag_named (open_form.Clause e cs p) name = None
tag_named (open_form.BeforeClauses e) name = None

-- whether what stands in it stands directly in a call
abbrev pub opens_call : Open → Bool
opens_call (open_form.Tag t) = is_call (tag_view t)
opens_call (open_form.Yes e) = false
opens_call (open_form.No e ms) = false
opens_call (open_form.Loop g) = false
opens_call (open_form.Clause e cs p) = false
opens_call (open_form.BeforeClauses e) = false

-- whether it is a `case` before its first clause
abbrev pub awaits_clause : Open → Bool
awaits_clause (open_form.BeforeClauses e) = true
awaits_clause (open_form.Tag t) = false
awaits_clause (open_form.Yes e) = false
awaits_clause (open_form.No e ms) = false
awaits_clause (open_form.Loop g) = false
awaits_clause (open_form.Clause e cs p) = false

-- the same of the innermost, if there is one
abbrev pub first_opens_call : Option Frame → Bool
first_opens_call None = false
first_opens_call (Some f) = opens_call f.form

abbrev pub first_awaits : Option Frame → Bool
first_awaits None = false
first_awaits (Some f) = awaits_clause f.form

abbrev pub first_byte : Option Frame → Option ℕ
first_byte None = None
first_byte (Some f) = Some f.spot.byte

abbrev pub awaits : List Frame → Bool
awaits fs = first_awaits (first_of fs)

-- one that is open is another now, if it may be
abbrev pub reopened : ℕ → Option machine.Frame → List machine.Frame → Result machine.State Fault
reopened at None fs = faulty at kind.BadBlock
reopened at (Some f) fs = Ok (record { here = nothing_yet; frames = f ∷ fs })

-- a node behind what stands here
abbrev pub node_put : model.Node → contents.Content → List machine.Frame → Result machine.State Fault
node_put n here fs = Ok (record { here = contents.add_node n here; frames = fs })

-- a clause's head, the first of a `case` or another one
abbrev pub clause_step : (ℕ → model.Location) → ℕ → model.Pattern → contents.Content → List machine.Frame → Result machine.State Fault
clause_step place at q here fs = machine.step place (record { at = at; sign = signs.clause_head q }) (record { here = here; frames = fs })

-- what a sign is before the first clause of a `case`
abbrev pub early_of : Sign → Early
early_of sign.Dropped = early_form.Gap
early_of (sign.Words t) = if is_blank t then early_form.Gap else early_form.Stray
early_of (sign.ClauseHead p) = early_form.Head p
early_of (sign.Value p) = early_form.Stray
early_of (sign.Whole t) = early_form.Stray
early_of (sign.Opens t) = early_form.Stray
early_of (sign.Closes name) = early_form.Stray
early_of (sign.Block b) = early_form.Stray
early_of sign.Otherwise = early_form.Stray
early_of sign.Ends = early_form.Stray
early_of (sign.Broken b k) = early_form.Stray
early_of (sign.BrokenOpening b k) = early_form.Stray
