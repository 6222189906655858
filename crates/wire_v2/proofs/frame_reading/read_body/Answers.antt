use Rattle.std.proofs.Common.{rules, ◌≡◌, codes, false}
use Rattle.std.specs.Str.{bytes_eq}
use Rattle.serde_json.specs.View.{view}
use Rattle.wire_v2.proofs.Shapes.{no_body}
use Rattle.wire_v2.proofs.frame_reading.read_body.Goals as goal

pub returns-in_default-clause-malformed : goal.returns-in_default-clause-malformed
returns-in_default-clause-malformed c bad =
    let event = c.args.event.now in
    let reply : bytes_eq event (codes "phx_reply") ≡ false = search (rules, c.in_default.not-phx_reply) in
    let diff : bytes_eq event (codes "diff") ≡ false = search (rules, c.in_default.not-diff) in
    let close : bytes_eq event (codes "phx_close") ≡ false = search (rules, c.in_default.not-phx_close) in
    let error : bytes_eq event (codes "phx_error") ≡ false = search (rules, c.in_default.not-phx_error) in
    no_body event (view c.args.reference.now) (view c.args.payload.now) reply diff close error
