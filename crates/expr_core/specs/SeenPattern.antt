-- What the reader of patterns has in memory, seen as the machine's.
use Rattle.std.specs.Prelude.{◌≡◌, ℕ, pos, negsuc, Bool, true, false, List, [], ◌∷◌, ◌++◌, map, Option, Some, None, Result, Ok, Err}
use Rattle.ast_core.specs.declared.pattern.Pattern.{Pattern}
use Rattle.ast_core.specs.Syntax as model
use Rattle.ast_core.specs.PatternView.{pattern_view}
use Rattle.ast_core.specs.NamesIn.{pattern_pair_view}
use Rattle.expr_core.specs.declared.pattern_frame.PatternOpener.{PatternOpener}
use Rattle.expr_core.specs.declared.pattern_frame.PatternOpener.TheVariants.{Listing, Tupling}
use Rattle.expr_core.specs.declared.pattern_frame.PatternFrame.{PatternFrame}
use Rattle.expr_core.specs.declared.pattern_frame.PatternFrame.TheVariants.{Items, Valued}
use Rattle.expr_core.specs.declared.pattern_frame.PatternMode.{PatternMode}
use Rattle.expr_core.specs.declared.pattern_frame.PatternMode.TheVariants.{Want, Have, WantNumber, WantQuote, WantKey, WantColon}
use Rattle.expr_token.specs.declared.token.Bracket.{Bracket}
use Rattle.expr_token.specs.declared.token.Bracket.TheVariants.{Round, Square, Curly}
use Rattle.expr_token.specs.declared.token.Token.{Token}
use Rattle.expr_token.specs.declared.token.Token.TheVariants.{Number}
use Rattle.expr_core.specs.declared.read.TokenFault.{TokenFault}
use Rattle.expr_core.specs.Gives.{Faults}
use Rattle.expr_core.specs.Outcome.{Outcome, done}
use Rattle.expr_core.specs.PatternMachine as machine

abbrev pub opener_view : PatternOpener → machine.Opener
opener_view Listing = machine.listing
opener_view Tupling = machine.tupling

abbrev pub frame_view : PatternFrame → machine.Frame
frame_view (Items o ps) = machine.items (opener_view o) (map pattern_view ps)
frame_view (Valued ps k) = machine.valued (map pattern_pair_view ps) k

-- as they lie in memory, the innermost is the last
abbrev pub piled : List PatternFrame → machine.Frames
piled [] = []
piled (f ∷ fs) = piled fs ++ frame_view f ∷ []

-- the state of a mode with these names above these frames
abbrev pub state_of : PatternMode → List (List ℕ) → machine.Frames → machine.State
state_of Want ns fs = machine.want ns fs
state_of (Have p) ns fs = machine.have ns (pattern_view p) fs
state_of WantNumber ns fs = machine.want_number ns fs
state_of (WantQuote s) ns fs = machine.want_quote ns s fs
state_of (WantKey ps) ns fs = machine.want_key ns (map pattern_pair_view ps) fs
state_of (WantColon ps k) ns fs = machine.want_colon ns (map pattern_pair_view ps) k fs

-- where a step led, if it led anywhere
abbrev pub led : Option PatternMode → List (List ℕ) → machine.Frames → Option machine.State
led None ns fs = None
led (Some m) ns fs = Some (state_of m ns fs)

-- the outcome of tokens
abbrev pub GivesPattern : Result Pattern TokenFault → Outcome model.Pattern → Type 0
GivesPattern (Ok p) o = o ≡ done (pattern_view p)
GivesPattern (Err f) o = Faults f o

-- whether this bracket ends that list
abbrev pub has_bracket : PatternOpener → Bracket → Bool
has_bracket Listing Square = true
has_bracket Listing Round = false
has_bracket Listing Curly = false
has_bracket Tupling Curly = true
has_bracket Tupling Round = false
has_bracket Tupling Square = false

-- a number in a text has no sign of its own
abbrev pub IsPlain : Token → Type 0
IsPlain (Number (pos n)) = Unit {0}
IsPlain (Number (negsuc n)) = ⊥
IsPlain t = Unit {0}
