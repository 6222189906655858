-- What the reader has in memory, seen as the machine's.
use Rattle.std.specs.Prelude.{ℕ, List, [], ◌∷◌, ◌++◌, ◌≡◌, ◌+◌, ◌≤◌, length, map, Bool, true, false, nat_le, Option, Some, None, option_map}
use Rattle.ast_core.specs.ExprView.{expr_view}
use Rattle.expr_core.specs.declared.value.Meant.{Meant}
use Rattle.expr_core.specs.declared.value.Callee.{Callee}
use Rattle.expr_core.specs.declared.value.Value.{Value}
use Rattle.expr_core.specs.declared.value.Style.{Style}
use Rattle.expr_core.specs.declared.value.Style.TheVariants.{Bare, Inside}
use Rattle.ast_core.specs.NamesIn.{part_view, pair_view}
use Rattle.expr_token.specs.declared.token.Bracket.{Bracket}
use Rattle.expr_token.specs.declared.token.Bracket.TheVariants.{Round, Square, Curly}
use Rattle.expr_core.specs.declared.frame.Opener.{Opener}
use Rattle.expr_core.specs.declared.frame.Opener.TheVariants.{Listing, Tupling, Calling, Piping}
use Rattle.expr_core.specs.declared.frame.Frame.{Frame}
use Rattle.expr_core.specs.declared.frame.Frame.TheVariants as frame
use Rattle.expr_core.specs.declared.frame.Mode.{Mode}
use Rattle.expr_core.specs.declared.frame.Mode.TheVariants as mode
use Rattle.expr_core.specs.Grammar as grammar
use Rattle.expr_core.specs.Grammar.{binds}
use Rattle.expr_core.specs.Machine as machine

abbrev pub meant_view : Meant → grammar.Meant
meant_view m = record { expr = expr_view m.expr; unknown = m.unknown }

abbrev pub callee_view : Callee → ℕ × List ℕ
callee_view c = (c.at, c.name)

abbrev pub value_view : Value → machine.Value
value_view v = record { meant = meant_view v.meant; holds = v.holds; denies = v.denies; callee = option_map callee_view v.callee }

abbrev pub style_view : Style → grammar.Style
style_view Bare = grammar.bare
style_view Inside = grammar.inside

abbrev pub opener_view : Opener → machine.Opener
opener_view Listing = machine.listing
opener_view Tupling = machine.tupling
opener_view (Calling c) = machine.calling c.at c.name
opener_view (Piping l c) = machine.piping (value_view l) c.at c.name

abbrev pub frame_view : Frame → machine.Frame
frame_view (frame.Operand o l) = machine.operand o (value_view l)
frame_view (frame.Ahead o) = machine.ahead o
frame_view frame.Paren = machine.paren
frame_view (frame.Indexed v) = machine.indexed (value_view v)
frame_view (frame.Items o es u) = machine.items (opener_view o) (map expr_view es) u
frame_view (frame.Putting ps u) = machine.putting (map part_view ps) u
frame_view (frame.Valued ps u k) = machine.valued (map pair_view ps) u k
frame_view frame.Test = machine.test
frame_view frame.InnerTest = machine.inner_test
frame_view (frame.Yes s t) = machine.yes_of (style_view s) (meant_view t)
frame_view (frame.No s t y) = machine.no_of (style_view s) (meant_view t) (meant_view y)

-- frames, the innermost first
abbrev pub seen : List Frame → machine.Frames
seen fs = map frame_view fs

-- as they lie in memory, the innermost is the last
abbrev pub stack : List Frame → List Frame
stack [] = []
stack (f ∷ fs) = stack fs ++ f ∷ []

abbrev pub first_of : List Frame → Option Frame
first_of [] = None
first_of (f ∷ fs) = Some f

-- how many levels a frame is
abbrev pub style_level : Style → ℕ
style_level Bare = 1
style_level Inside = 2

abbrev pub level : Frame → ℕ
level (frame.Operand o l) = 0
level (frame.Ahead o) = 1
level frame.Paren = 1
level (frame.Indexed v) = 1
level (frame.Items o es u) = 1
level (frame.Putting ps u) = 1
level (frame.Valued ps u k) = 1
level frame.Test = 1
level frame.InnerTest = 2
level (frame.Yes s t) = style_level s
level (frame.No s t y) = style_level s

-- whether this is what binds at least so tightly
abbrev pub is_closed_by : ℕ → Option Frame → Bool
is_closed_by n None = false
is_closed_by n (Some (frame.Operand o l)) = nat_le n (binds o)
is_closed_by n (Some (frame.Ahead o)) = nat_le n 10
is_closed_by n (Some (frame.Yes Bare t)) = nat_le n 0
is_closed_by n (Some (frame.No Bare t y)) = nat_le n 0
is_closed_by n (Some (frame.Yes Inside t)) = false
is_closed_by n (Some (frame.No Inside t y)) = false
is_closed_by n (Some frame.Paren) = false
is_closed_by n (Some (frame.Indexed v)) = false
is_closed_by n (Some (frame.Items o es u)) = false
is_closed_by n (Some (frame.Putting ps u)) = false
is_closed_by n (Some (frame.Valued ps u k)) = false
is_closed_by n (Some frame.Test) = false
is_closed_by n (Some frame.InnerTest) = false

-- a value with what waited for it
abbrev pub folded : Frame → machine.Value → machine.Value
folded (frame.Operand o l) v = machine.both o (value_view l) v
folded (frame.Ahead o) v = machine.alone o v
folded (frame.Yes s t) v = machine.chosen (style_view s) (meant_view t) v.meant
folded (frame.No s t y) v = machine.chosen_else (style_view s) (meant_view t) (meant_view y) v.meant
folded frame.Paren v = v
folded (frame.Indexed w) v = v
folded (frame.Items o es u) v = v
folded (frame.Putting ps u) v = v
folded (frame.Valued ps u k) v = v
folded frame.Test v = v
folded frame.InnerTest v = v

-- whether this bracket ends that list
abbrev pub has_bracket : Opener → Bracket → Bool
has_bracket Listing Square = true
has_bracket Listing Round = false
has_bracket Listing Curly = false
has_bracket Tupling Curly = true
has_bracket Tupling Round = false
has_bracket Tupling Square = false
has_bracket (Calling c) Round = true
has_bracket (Calling c) Square = false
has_bracket (Calling c) Curly = false
has_bracket (Piping l c) Round = true
has_bracket (Piping l c) Square = false
has_bracket (Piping l c) Curly = false

-- the state of a mode above these frames
abbrev pub state_of : Mode → machine.Frames → machine.State
state_of mode.Want fs = machine.want fs
state_of (mode.Have v) fs = machine.have (value_view v) fs
state_of mode.WantAssign fs = machine.want_assign fs
state_of (mode.WantField v) fs = machine.want_field (value_view v) fs
state_of (mode.WantCall v) fs = machine.want_call (value_view v) fs
state_of (mode.WantArguments o) fs = machine.want_arguments (opener_view o) fs
state_of mode.WantIf fs = machine.want_if fs
state_of (mode.WantDo s t) fs = machine.want_do (style_view s) (meant_view t) fs
state_of (mode.WantElse s t y) fs = machine.want_else (style_view s) (meant_view t) (meant_view y) fs
state_of (mode.WantPart ps u) fs = machine.want_part (map part_view ps) u fs
state_of (mode.WantKey ps u) fs = machine.want_key (map pair_view ps) u fs
state_of (mode.WantColon ps u k) fs = machine.want_colon (map pair_view ps) u k fs
state_of (mode.WantQuote ps u k) fs = machine.want_quote (map pair_view ps) u k fs
state_of (mode.WantArrow ps u k) fs = machine.want_arrow (map pair_view ps) u k fs

-- where a step led, if it led anywhere
abbrev pub led : Option Mode → machine.Frames → Option machine.State
led None fs = None
led (Some m) fs = Some (state_of m fs)

-- a depth and its frames
abbrev pub Counts : ℕ → List Frame → Type 0
Counts d fs = (d ≡ machine.nest (seen (stack fs))) × (d ≤ length fs + length fs)

-- whether this bracket ends that `if`
abbrev pub ends_choice : Bracket → Style → Bool
ends_choice Round Inside = true
ends_choice Round Bare = false
ends_choice Square s = false
ends_choice Curly s = false

abbrev pub is_test : Frame → Bool
is_test frame.Test = true
is_test (frame.Operand o l) = false
is_test (frame.Ahead o) = false
is_test frame.Paren = false
is_test (frame.Indexed v) = false
is_test (frame.Items o es u) = false
is_test (frame.Putting ps u) = false
is_test (frame.Valued ps u k) = false
is_test frame.InnerTest = false
is_test (frame.Yes s t) = false
is_test (frame.No s t y) = false

-- what this is, where it waits for the test of an `if`
abbrev pub test_style : Frame → Option Style
test_style frame.Test = Some Bare
test_style frame.InnerTest = Some Inside
test_style (frame.Operand o l) = None
test_style (frame.Ahead o) = None
test_style frame.Paren = None
test_style (frame.Indexed v) = None
test_style (frame.Items o es u) = None
test_style (frame.Putting ps u) = None
test_style (frame.Valued ps u k) = None
test_style (frame.Yes s t) = None
test_style (frame.No s t y) = None

-- where a comma leads behind a part of an `if`
abbrev pub choice_goes_on : machine.Frame → machine.Value → machine.Frames → Option machine.State
choice_goes_on machine.test v fs = Some (machine.want_do grammar.bare v.meant fs)
choice_goes_on machine.inner_test v fs = Some (machine.want_do grammar.inside v.meant fs)
choice_goes_on (machine.yes_of s t) v fs = Some (machine.want_else s t v.meant fs)
choice_goes_on (machine.operand o l) v fs = None
choice_goes_on (machine.ahead o) v fs = None
choice_goes_on machine.paren v fs = None
choice_goes_on (machine.indexed w) v fs = None
choice_goes_on (machine.items o es u) v fs = None
choice_goes_on (machine.putting ps u) v fs = None
choice_goes_on (machine.valued ps u k) v fs = None
choice_goes_on (machine.no_of s t y) v fs = None
