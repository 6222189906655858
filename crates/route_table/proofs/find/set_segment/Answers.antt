use Rattle.std.proofs.Common.{◌≡◌, ◌<◌, lit<, sym, ap, ◌∙◌, map}
use Rattle.std.proofs.lemmas.Str.Pattern.{strip_prefix_char}
use Rattle.text_core.specs.Keyed.{with_key, on_value}
use Rattle.value_core.specs.View.{view}
use Rattle.route_table.specs.Found.{with_segment}
use Rattle.route_table.proofs.Segments.{no_segment, with_mapped, ok_along}
use Rattle.route_table.proofs.find.set_segment.Goals as goal

pub returns-in_default : goal.returns-in_default
returns-in_default c =
    let segment = c.args.segment.now in
    no_segment segment c.args.part.now (map (on_value view) c.args.parameters.now)
    (rw c.in_default.is at (strip_prefix_char 58 segment c.strip_prefix.result c.strip_prefix.ensures.cases (lit< tt)))

pub returns : goal.returns
returns c =
    let segment = c.args.segment.now in
    let old = c.args.parameters.now in
    let before = map (on_value view) old in
    let part = c.args.part.now in
    let key = c.in_ok-key.key in
    let value = c.in_ok-value.value in
    let cut = rw c.in-Some.is at (strip_prefix_char 58 segment c.strip_prefix.result c.strip_prefix.ensures.cases (lit< tt)) in
    ok_along (c.insert.new.self ≡ with_key key value old) (map (on_value view) c.insert.new.self ≡ with_segment before (segment, part)) c.insert.result
    (λ e.
    ap (map (on_value view)) e ∙ with_mapped view key value old
    ∙ ap (λ k. with_key k (view value) before) c.in_ok-key.ensures
    ∙ ap (λ v. with_key c.in-Some.name.now v before) c.in_ok-value.ensures
    ∙ sym (ap (λ s. with_segment before (s, part)) cut))
    c.insert.ensures.ok
