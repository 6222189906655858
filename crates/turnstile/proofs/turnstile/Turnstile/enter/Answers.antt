use Rattle.std.proofs.Common.{arith, ◌≡◌, ◌∷◌, ◌∙◌, ap, sym, subst, refl, Some}
use Rattle.turnstile.specs.Known.{Gate, Known}
use Rattle.turnstile.specs.Seats.{inside}
use Rattle.turnstile.proofs.Keeps.{draws, looks}
use Rattle.turnstile.proofs.Turns.{took_from, missed, read_is, rest_of, starts_along, made_along}
use Rattle.turnstile.proofs.Rests.{rests, sound_in, enters_within}
use Rattle.turnstile.proofs.turnstile.Turnstile.enter.Goals as goal

pub fetch_add-ticket-requires : goal.fetch_add-ticket-requires
fetch_add-ticket-requires g c =
    let wide = c.self.invariant.0 in
    let p = rests g.K.Logged.lawful _ _ c.pass.inside.number c.pass.inside.seat _ c.pass.invariant c.pass.view_is c.self.view_is c.requires in (
      p.its_table,
      omega arith,
      draws g.K.Logged.journal g.K.Logged.basis g.K.Logged.lawful _ _ c.pass.inside.seat.id c.pass.inside.seat.me.0 c.pass.inside.seat.me.1 p.away,
    )

pub load-requires : goal.load-requires
load-requires g c =
    let wide = c.self.invariant.0 in
    let p = rests g.K.Logged.lawful _ _ c.pass.inside.number c.pass.inside.seat _ c.pass.invariant c.pass.view_is c.self.view_is c.requires in
    let d = c.fetch_add-ticket.ensures.2 in (
      c.loop.invariant.0 ∙ (c.fetch_add-ticket.ensures.0 ∙ p.its_table),
      omega arith,
      looks g.K.Logged.journal g.K.Logged.basis g.K.Logged.lawful _ _ c.loop.seat.id c.loop.seat.me.0 c.loop.seat.me.1 d.0 (ap (λ (m : _). m.0.stage) (c.loop.invariant.1 ∙ d.2)),
    )

pub exchange-requires : goal.exchange-requires
exchange-requires g c =
    let d = c.fetch_add-ticket.ensures.2 in
    let now = c.loop.invariant.1 ∙ d.2 in
    let p = rests g.K.Logged.lawful _ _ c.pass.inside.number c.pass.inside.seat _ c.pass.invariant c.pass.view_is c.self.view_is c.requires in
    let e = took_from g.K.Logged.journal g.K.Logged.basis g.K.Logged.lawful c.pass.inside.seat.me.0 c.pass.inside.seat.me.1 _ c.load.new.seat.me _ _ d.0 c.load.ensures.2 now p.empty c.if-load-ticket.true d.1 in
    let h = ap (λ (m : _). m.1) e.holds in
    (c.load.ensures.0 ∙ (c.loop.invariant.0 ∙ (c.fetch_add-ticket.ensures.0 ∙ p.its_table)), (Some e.value, h ∙ ap (λ (l : _). (0, Some e.value) ∷ l) (sym (rest_of _ (Some e.value) h))))

pub unwrap-machine-requires : goal.unwrap-machine-requires
unwrap-machine-requires g c =
    let d = c.fetch_add-ticket.ensures.2 in
    let now = c.loop.invariant.1 ∙ d.2 in
    let p = rests g.K.Logged.lawful _ _ c.pass.inside.number c.pass.inside.seat _ c.pass.invariant c.pass.view_is c.self.view_is c.requires in
    let e = took_from g.K.Logged.journal g.K.Logged.basis g.K.Logged.lawful c.pass.inside.seat.me.0 c.pass.inside.seat.me.1 _ c.load.new.seat.me _ _ d.0 c.load.ensures.2 now p.empty c.if-load-ticket.true d.1 in
    rw (read_is _ (Some e.value) _ (ap (λ (m : _). m.1) e.holds) c.exchange.ensures.2) refl

pub loop-preserved : goal.loop-preserved
loop-preserved g c =
    let d = c.fetch_add-ticket.ensures.2 in
    let now = c.loop.invariant.1 ∙ d.2 in
    let e = missed g.K.Logged.journal g.K.Logged.basis g.K.Logged.lawful _ c.load.new.seat.me _ _ d.0 c.load.ensures.2 (ap (λ (m : _). m.0.stage) now) c.if-load-ticket.false d.1 in
    (c.load.ensures.0 ∙ c.loop.invariant.0, e ∙ c.loop.invariant.1)

pub returns-then-load-ticket : goal.returns-then-load-ticket
returns-then-load-ticket g c =
    let p = rests g.K.Logged.lawful _ _ c.pass.inside.number c.pass.inside.seat _ c.pass.invariant c.pass.view_is c.self.view_is c.requires in
    let d = c.fetch_add-ticket.ensures.2 in
    let now = c.loop.invariant.1 ∙ d.2 in
    let e = took_from g.K.Logged.journal g.K.Logged.basis g.K.Logged.lawful c.pass.inside.seat.me.0 c.pass.inside.seat.me.1 _ c.load.new.seat.me _ _ d.0 c.load.ensures.2 now p.empty c.if-load-ticket.true d.1 in
    let x = c.exchange.ensures in
    let tab = x.0 ∙ (c.load.ensures.0 ∙ (c.loop.invariant.0 ∙ (c.fetch_add-ticket.ensures.0 ∙ p.its_table))) in
    let w = enters_within g.K.Logged.lawful g.K.Logged.journal g.K.Logged.basis _ _ c.pass.inside.number d.0 c.pass.inside.seat c.exchange.new.seat c.load.new.seat.me p tab e x.3 in
    let h = ap (λ (m : _). m.1) e.holds in
    let read = read_is _ (Some e.value) _ h x.2 in
    let v = ap (λ (m : _). m.0) x.3 ∙ ap (λ (m : _). m.0) e.holds in
    let good = e.lawful_found _ p.its_basis in
    let machine : c.unwrap-machine.result ≡ e.value = cc (c.unwrap-machine.ensures, read) in
    let same = c.pass.view_is in
    let here = c.self.view_is in
    record {
      turn = (tab ∙ ap (λ (z : Gate _). z.table) here, w.its_basis ∙ ap (λ (z : Gate _). Some z.basis) here, ap inside w.inside);
      journal = ap g.K.Logged.journal machine ∙ sym (ap (λ (u : _). u.seen) v);
      basis = ap g.K.Logged.basis machine ∙ (good.0 ∙ ap (λ (z : Gate _). z.basis) here);
      begins = starts_along _ _ _ _ (sym (ap (λ (u : _). u.seen) v)) (ap (λ (k : Known _ _). k.seen) same) e.prefix;
      own = λ n es m. rw machine (e.own n es (made_along _ _ n es (sym (ap (λ (k : Known _ _). k.made) same)) m));
      first = w.first;
      lawful = subst (λ (on : _). g.K.Logged.lawful on c.exchange.new.seat.me.0.seen) (ap (λ (z : Gate _). z.basis) here) w.lawful_seen;
      same = (ap (λ (k : Known _ _). k.number) same, ap (λ (u : _). u.made) v ∙ ap (λ (k : Known _ _). k.made) same, ap (λ (u : _). u.known) v ∙ ap (λ (k : Known _ _). k.passes) same);
    }

pub invariant_of-result : goal.invariant_of-result
invariant_of-result g c =
    let p = rests g.K.Logged.lawful _ _ c.pass.inside.number c.pass.inside.seat _ c.pass.invariant c.pass.view_is c.self.view_is c.requires in
    let d = c.fetch_add-ticket.ensures.2 in
    let now = c.loop.invariant.1 ∙ d.2 in
    let e = took_from g.K.Logged.journal g.K.Logged.basis g.K.Logged.lawful c.pass.inside.seat.me.0 c.pass.inside.seat.me.1 _ c.load.new.seat.me _ _ d.0 c.load.ensures.2 now p.empty c.if-load-ticket.true d.1 in
    let x = c.exchange.ensures in
    let tab = x.0 ∙ (c.load.ensures.0 ∙ (c.loop.invariant.0 ∙ (c.fetch_add-ticket.ensures.0 ∙ p.its_table))) in
    let w = enters_within g.K.Logged.lawful g.K.Logged.journal g.K.Logged.basis _ _ c.pass.inside.number d.0 c.pass.inside.seat c.exchange.new.seat c.load.new.seat.me p tab e x.3 in
    sound_in g.K.Logged.lawful _ _ c.pass.inside.number c.exchange.new.seat w
