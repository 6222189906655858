use Rattle.std.proofs.Common.{◌≡◌, ◌≤◌, ◌∙◌, ap, rules, string_bytes, true, Some}
use Rattle.std.specs.Str.{is_utf8}
use Rattle.serde_json.specs.Data.{depth}
use Rattle.serde_json.specs.Read.{read}
use Rattle.serde_json.specs.View.{view}
use Rattle.serde_json.specs.Written.{compact_text, has_float}
use Rattle.wire_v2.specs.FrameData.{frame_data}
use Rattle.wire_v2.proofs.Fits.{frame_fits, utf8_is}
use Rattle.wire_v2.proofs.NoFloat.{frame_whole}
use Rattle.wire_v2.proofs.frame_writing.write_frame.Goals as goal

pub returns-clause-text : goal.returns-clause-text
returns-clause-text c =
    let is : view c.in_ok-value.value ≡ frame_data c.args.frame.now = c.in_ok-value.ensures in
    let text : string_bytes c.in_ok-to_string.field-0 ≡ compact_text (frame_data c.args.frame.now)
    = c.in_ok-to_string.ensures.text (ap has_float is ∙ frame_whole c.args.frame.now) ∙ ap compact_text is in
    search (rules, text)

pub returns-clause-spells : goal.returns-clause-spells
returns-clause-spells c fit shallow =
    let is : view c.in_ok-value.value ≡ frame_data c.args.frame.now = c.in_ok-value.ensures in
    let few : depth (view c.in_ok-value.value) ≤ 127 = rw is shallow in
    let utf8 : is_utf8 (string_bytes c.in_ok-to_string.field-0) ≡ true = utf8_is (string_bytes c.in_ok-to_string.field-0) c.in_ok-to_string.field-0.ok in
    let reads : read (string_bytes c.in_ok-to_string.field-0) ≡ Some (frame_data c.args.frame.now) = c.in_ok-to_string.ensures.reads_back few ∙ ap Some is in
    let same : c.from_vec.result ≡ string_bytes c.in_ok-to_string.field-0 = search rules in
    (ap is_utf8 same ∙ utf8, ap read same ∙ reads, frame_fits c.args.frame.now fit)
