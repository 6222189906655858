use Rattle.std.proofs.Common.{◌≡◌, ◌+◌, ◌≤◌, length, ap, ◌∙◌, subst, arith}
use Rattle.heex_reader.specs.Pieces.{as_list}
use Rattle.heex_reader.specs.SeenSigns.{StandsWithin}
use Rattle.heex_reader.proofs.Slots.{call, list_short}
use Rattle.heex_reader.proofs.value.slot_sign.Goals as goal

pub broken-requires : goal.broken-requires
broken-requires c =
    let text = c.args.text.now in
    let within : c.in-Err-Refused-default-UnknownFunction.inner ≤ length c.as_str.result.now = subst (StandsWithin (length c.as_str.result.now)) c.in-Err-Refused-default-UnknownFunction.field-0-is c.in-Err-Refused-default-UnknownFunction.ensures.within in
    let short : length (as_list text) ≤ length text + 1 = list_short c.args.place text (call c.args.place text c.requires.calls) in
    let same : length c.as_str.result.now ≡ length (as_list text) = ap length (c.as_str.ensures ∙ c.in_ok-list.ensures) in
    omega (arith, within, short, same, c.requires.room)
