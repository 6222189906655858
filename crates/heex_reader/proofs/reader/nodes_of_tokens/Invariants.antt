use Rattle.std.proofs.Common.{◌≡◌, length}
use Rattle.std.specs.List.{AllByRecursion}
use Rattle.std.specs.Vec.Iter.{into_iter_items, into_iter_len}
use Rattle.heex_reader.specs.Fits.{Fits, Follows}
use Rattle.heex_reader.specs.Leads.{state_view}
use Rattle.heex_reader.specs.Located.{location_at}
use Rattle.heex_reader.specs.Machine.{outcome, read_from}
use Rattle.heex_reader.specs.Reading.{signs_of}
use Rattle.heex_reader.specs.Seen.{AllAt}
use Rattle.heex_reader.proofs.reader.nodes_of_tokens.Given as goal

-- what is read of the tokens that are left is read of all
abbrev pub invariant-tokens : goal.invariant-tokens
invariant-tokens l = record {
  same : outcome (location_at l.text) (signs_of l.text l.fn.tokens) ≡ read_from (location_at l.text) (state_view l.state) (signs_of l.text (into_iter_items l.token-iterator));
  counted : into_iter_len l.token-iterator ≡ length (into_iter_items l.token-iterator);
  fit : AllByRecursion (Fits l.text) (into_iter_items l.token-iterator);
  follows : Follows l.text l.cursor;
  placed : AllAt (location_at l.text) l.state.frames;
}
