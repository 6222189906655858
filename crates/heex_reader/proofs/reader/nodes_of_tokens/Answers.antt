use Rattle.std.proofs.Common.{rules, ◌≡◌, List, sym, ap, subst, ◌∙◌}
use Rattle.std.specs.List.{AllByRecursion}
use Rattle.std.specs.Vec.Iter.{into_iter_items}
use Rattle.heex_token.specs.declared.token.Token.{Token}
use Rattle.heex_reader.specs.Fits.{Fits}
use Rattle.heex_reader.specs.Leads.{state_view}
use Rattle.heex_reader.specs.Located.{location_at}
use Rattle.heex_reader.specs.Machine as machine
use Rattle.heex_reader.specs.Reading.{signs_of}
use Rattle.heex_reader.proofs.reader.nodes_of_tokens.Goals as goal

pub tokens-init : goal.tokens-init
tokens-init c =
    let text = c.args.text.now in
    let place = location_at text in
    let start = state_view c.new-state.result in
    let all : into_iter_items c.into_iter-token-iterator.result ≡ c.args.tokens = search rules in
    record {
      same = ap (λ (s : machine.State). machine.read_from place s (signs_of text c.args.tokens)) (sym c.new-state.ensures.value)
          ∙ ap (λ (ts : List Token). machine.read_from place start (signs_of text ts)) (sym all);
      counted = search rules;
      fit = subst (λ (ts : List Token). AllByRecursion (Fits text) ts) (sym all) c.requires.fit;
      follows = c.new-cursor.ensures.follows text;
      placed = c.new-state.ensures.placed place;
    }
