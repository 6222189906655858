use Rattle.std.proofs.Common.{arith}
use Rattle.turnstile.proofs.Keeps.{unites}
use Rattle.turnstile.proofs.Rests.{rests, sound_rest, joins_rest}
use Rattle.turnstile.proofs.turnstile.Turnstile.join.Goals as goal

pub join_seat-requires : goal.join_seat-requires
join_seat-requires g c =
    let wide = c.self.invariant.0 in
    let a = rests g.K.Logged.lawful _ _ c.a.inside.number c.a.inside.seat _ c.a.invariant c.a.view_is c.self.view_is c.requires.first in
    let b = rests g.K.Logged.lawful _ _ c.b.inside.number c.b.inside.seat _ c.b.invariant c.b.view_is c.self.view_is c.requires.second in (
      a.its_table,
      b.its_table,
      b.empty,
      omega arith,
      unites g.K.Logged.journal g.K.Logged.basis g.K.Logged.lawful _ c.a.inside.seat.id c.a.inside.seat.me.0 c.b.inside.seat.id c.b.inside.seat.me.0 _ _ a.away b.away a.spare b.spare a.its_basis b.its_basis c.a.inside.number a.first,
    )

pub invariant_of-result : goal.invariant_of-result
invariant_of-result g c =
    let a = rests g.K.Logged.lawful _ _ c.a.inside.number c.a.inside.seat _ c.a.invariant c.a.view_is c.self.view_is c.requires.first in
    let b = rests g.K.Logged.lawful _ _ c.b.inside.number c.b.inside.seat _ c.b.invariant c.b.view_is c.self.view_is c.requires.second in
    sound_rest g.K.Logged.lawful _ _ c.a.inside.number c.join_seat.new.seat (joins_rest g.K.Logged.lawful _ _ c.a.inside.number c.b.inside.number c.a.inside.seat c.b.inside.seat c.join_seat.new.seat a b c.join_seat.ensures.0 c.join_seat.ensures.2)
