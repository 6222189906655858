use Rattle.std.proofs.Common.{rules, ◌≡◌, ◌∙◌, ap, option_map, Option, true, false, List}
use Rattle.std.specs.Option.{is_some}
use Rattle.text_core.specs.Keyed.{lookup, with_key, without_key}
use Rattle.text_core.specs.declared.by_key.KeyValue.{KeyValue}
use Rattle.value_core.specs.View.{view}
use Rattle.value_core.specs.declared.value.Value.{Value}
use Rattle.assigns_track.specs.Track.{noted_or, present_of}
use Rattle.assigns_track.proofs.Tracks.{assigned_again, noted_again, noted_first, assigned_first, without_with, fields_same}
use Rattle.assigns_track.proofs.tracked.Tracked.assign.Goals as goal

pub returns-then-contains-clause-settled : goal.returns-then-contains-clause-settled
returns-then-contains-clause-settled c = λ n.
    let k = c.args.name.now in
    let old = c.args.self.now in
    let is_new : c.insert.new.self ≡ with_key k c.args.value old.present = search rules in
    let is_noted : is_some (lookup k old.before) ≡ true = search rules in
    ap (λ (p : List (KeyValue Value)). noted_or (lookup n old.before) (option_map view (lookup n p))) is_new
    ∙ assigned_again k c.args.value old.present old.before is_noted n

pub returns-then-contains-clause-assigned : goal.returns-then-contains-clause-assigned
returns-then-contains-clause-assigned c =
    let old = c.args.self.now in
    let is_noted : is_some (lookup c.args.name.now old.before) ≡ true = search rules in
    noted_again c.args.name.now old.before is_noted

pub returns-in-Ok-clause-assigned : goal.returns-in-Ok-clause-assigned
returns-in-Ok-clause-assigned c = λ n.
    let k = c.args.name.now in
    let old = c.args.self.now in
    let noted = c.in_ok-noted.noted in
    let is_noted : c.insert-2.new.self ≡ with_key k noted old.before = search rules in
    ap (λ (b : List (KeyValue (Option Value))). is_some (lookup n b)) is_noted ∙ noted_first k old.before noted n

pub returns-in-Ok-clause-settled : goal.returns-in-Ok-clause-settled
returns-in-Ok-clause-settled c = λ n.
    let k = c.args.name.now in
    let old = c.args.self.now in
    let noted = c.in_ok-noted.noted in
    let is_new : c.insert-3.new.self ≡ with_key k c.args.value old.present = search rules in
    let is_noted : c.insert-2.new.self ≡ with_key k noted old.before = search rules in
    let is_none : is_some (lookup k old.before) ≡ false = search rules in
    let is_present : option_map view noted ≡ present_of old k = search rules in
    ap (λ (p : List (KeyValue Value)). noted_or (lookup n c.insert-2.new.self) (option_map view (lookup n p))) is_new
    ∙ ap (λ (b : List (KeyValue (Option Value))). noted_or (lookup n b) (option_map view (lookup n (with_key k c.args.value old.present)))) is_noted
    ∙ assigned_first k c.args.value old.present old.before noted is_none is_present n

pub returns-in-Err-clause-err : goal.returns-in-Err-clause-err
returns-in-Err-clause-err c =
    let k = c.args.name.now in
    let old = c.args.self.now in
    let same_present : c.insert-3.new.self ≡ old.present = search rules in
    let is_noted : c.insert-2.new.self ≡ with_key k c.in_ok-noted.noted old.before = search rules in
    let is_none : is_some (lookup k old.before) ≡ false = search rules in
    let forgot : c.forget.new.noted ≡ without_key k c.insert-2.new.self = search rules in
    let same_before : c.forget.new.noted ≡ old.before = forgot ∙ ap (without_key k) is_noted ∙ without_with k c.in_ok-noted.noted old.before is_none in
    fields_same old c.insert-3.new.self c.forget.new.noted same_present same_before
