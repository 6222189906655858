use Rattle.std.proofs.Common.{ℕ, ◌<◌, List, [], ◌∷◌, length, get_or, sym, ap, ◌∙◌, arith}
use Rattle.ast_core.specs.Syntax.{Location}
use Rattle.heex_reader.specs.Located.{location_from, location_at}
use Rattle.heex_reader.proofs.Places.{place_small, place_next}
use Rattle.heex_reader.proofs.cursor.advanced.Goals as goal

pub behind-location-requires-clause-line : goal.behind-location-requires-clause-line
behind-location-requires-clause-line c =
    let small = place_small c.args.text.now c.more.byte c.more.invariant.within in
    let line = ap (λ (l : Location). l.line) c.more.invariant.here in
    omega (arith, small.line, line)

pub behind-location-requires-clause-column : goal.behind-location-requires-clause-column
behind-location-requires-clause-column c =
    let small = place_small c.args.text.now c.more.byte c.more.invariant.within in
    let column = ap (λ (l : Location). l.column) c.more.invariant.here in
    omega (arith, small.column, column)

pub more-preserved : goal.more-preserved
more-preserved c =
    let text = c.args.text.now in
    let byte = c.more.byte in
    let inside : byte < length text = omega arith in
    record {
      within = omega arith;
      before = omega arith;
      here = c.behind-location.ensures
          ∙ ap (λ (l : Location). location_from l (get_or c.as_bytes-bytes.result.now byte 0 ∷ [])) c.more.invariant.here
          ∙ ap (λ (bs : List ℕ). location_from (location_at text byte) (get_or bs byte 0 ∷ [])) c.as_bytes-bytes.ensures.value
          ∙ sym (place_next text byte inside);
    }
