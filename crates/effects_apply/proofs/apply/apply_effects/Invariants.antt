use Rattle.std.proofs.Common.{◌≡◌, ℕ, List, length}
use Rattle.std.specs.Vec.Iter.{into_iter_items, into_iter_len}
use Rattle.assigns_track.specs.Track.{settled_of}
use Rattle.effects_apply.proofs.Orders.{Continues}
use Rattle.effects_apply.proofs.apply.apply_effects.Given as goal

abbrev pub invariant-effects : goal.invariant-effects
invariant-effects l = record {
  so_far : Continues (into_iter_items l.initial.effect-iterator) l.initial.assigns.present l.initial.rest (into_iter_items l.effect-iterator) l.assigns.present l.rest;
  settled : (name : List ℕ) → settled_of l.assigns name ≡ settled_of l.initial.assigns name;
  generation : l.rest.generation ≡ l.initial.rest.generation;
  counted : into_iter_len l.effect-iterator ≡ length (into_iter_items l.effect-iterator);
}
