-- What the reader returns, seen as an answer.
use Rattle.std.specs.Prelude.{◌≡◌, ◌⊎◌, List, ℕ, Result, Ok, Err}
use Rattle.std.specs.List.{AllByRecursion}
use Rattle.ast_core.specs.declared.node.Node.{Node}
use Rattle.ast_core.specs.NodeView.{nodes_view, location_of}
use Rattle.ast_core.specs.Syntax.{Nodes}
use Rattle.heex_token.specs.declared.token.Token.{Token}
use Rattle.heex_token.specs.Tokens.{tokens_of}
use Rattle.heex_reader.specs.declared.fault.TemplateFault.{TemplateFault}
use Rattle.heex_reader.specs.declared.fault.TemplateFault.TheVariants as fault
use Rattle.heex_reader.specs.declared.refusal.ReadFault.{ReadFault}
use Rattle.heex_reader.specs.declared.refusal.ReadFault.TheVariants as read_fault
use Rattle.heex_reader.specs.Fits.{Fits}
use Rattle.heex_reader.specs.Leads.{Faults}
use Rattle.heex_reader.specs.Located.{Fault}
use Rattle.heex_reader.specs.Reading.{Refusal, refusal_of, read_tokens, RefusesTokens, RefusesSigns}

-- the tokens of a text, which stand in it, or what is wrong with them
abbrev pub TokensGiven : List ℕ → Result (List Token) ReadFault → Type 0
TokensGiven text (Ok ts) = (tokens_of text ≡ Ok ts) × AllByRecursion (Fits text) ts
TokensGiven text (Err f) = Faults f (read_tokens text (tokens_of text))

-- what is wrong at a byte, told at its place in the file
abbrev pub Told : List ℕ → ReadFault → TemplateFault → Type 0
Told text (read_fault.Faulty b k) (fault.Refused place told) = refusal_of text (record { at = b; kind = k }) ≡ record { place = location_of place; kind = told }
Told text (read_fault.Faulty b k) fault.OutOfMemory = ⊥
Told text read_fault.OutOfMemory f = f ≡ fault.OutOfMemory

-- an answer, but that memory may be wanting
abbrev pub Answered : Result (List Node) TemplateFault → Result Nodes Refusal → Type 0
Answered (Ok ns) r = r ≡ Ok (nodes_view ns)
Answered (Err (fault.Refused place k)) r = r ≡ Err (record { place = location_of place; kind = k })
Answered (Err fault.OutOfMemory) r = Unit {0}

-- a text is refused for what is wrong with it, where it stands
abbrev pub RefusedRightly : List ℕ → TemplateFault → Type 0
RefusedRightly text (fault.Refused place k) = (f : Fault) × (refusal_of text f ≡ record { place = location_of place; kind = k }) × (RefusesTokens text f ⊎ RefusesSigns text f)
RefusedRightly text fault.OutOfMemory = Unit {0}
