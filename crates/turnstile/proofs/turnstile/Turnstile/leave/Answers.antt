use Rattle.std.proofs.Common.{arith, ◌∷◌, ◌++◌, ◌∙◌, ap, sym, Some, None}
use Rattle.turnstile.specs.Histories.{news, add_made}
use Rattle.turnstile.proofs.Lists.{under}
use Rattle.turnstile.specs.Known.{Gate, Known}
use Rattle.turnstile.specs.Seats.{inside}
use Rattle.turnstile.proofs.Rests.{within, sound_rest}
use Rattle.turnstile.proofs.Keeps.{departs}
use Rattle.turnstile.proofs.Turns.{rest_of, added_first, followed, follows_along}
use Rattle.turnstile.proofs.turnstile.Turnstile.leave.Goals as goal

pub exchange-before-requires : goal.exchange-before-requires
exchange-before-requires g c =
    let t = within g.K.Logged.lawful _ _ c.pass.inside.number c.pass.inside.seat _ c.pass.invariant c.pass.view_is c.self.view_is c.requires.turn in
    (t.its_table, (None, t.holds ∙ ap (λ (l : _). (0, None) ∷ l) (sym (rest_of _ None t.holds))))

pub fetch_add-requires : goal.fetch_add-requires
fetch_add-requires g c =
    let wide = c.self.invariant.0 in
    let t = within g.K.Logged.lawful _ _ c.pass.inside.number c.pass.inside.seat _ c.pass.invariant c.pass.view_is c.self.view_is c.requires.turn in
    let x = c.exchange-before.ensures in
    let k = c.args.turn.machine in
    let same = c.pass.view_is in
    let more = followed c.pass.inside.number c.pass.inside.seat.me.0.seen (g.K.Logged.journal k) (follows_along _ _ _ _ _ (ap (λ (p : Known _ _). p.number) (sym same)) (ap (λ (p : Known _ _). p.seen) (sym same)) c.requires.journal) in (
      x.0 ∙ t.its_table,
      omega arith,
      departs g.K.Logged.journal g.K.Logged.basis g.K.Logged.lawful _ _ c.exchange-before.new.seat.id c.exchange-before.new.seat.me k more.0 record {
        ticket = t.ticket;
        inside = ap (λ (m : _). m.0.stage) x.3 ∙ t.inside;
        holds = ap (λ (m : _). m.1) x.3 ∙ ap (λ (l : _). (0, Some k) ∷ l) (rest_of _ None t.holds);
        number = c.pass.inside.number;
        first = (t.first.0, t.first.1, ap (λ (m : _). m.0.made) x.3 ∙ t.first.2);
        journal_is = more.1 ∙ ap (λ (l : _). l ++ under c.pass.inside.number more.0) (sym (ap (λ (m : _). m.0.seen) x.3));
        spare = ap (λ (m : _). m.0.spare) x.3 ∙ t.spare;
        basis_is = ap (λ (m : _). m.0.basis) x.3 ∙ (ap (λ (p : Known _ _). p.basis) same ∙ (c.requires.turn.1 ∙ ap Some (sym c.requires.basis)));
        lawful_is = c.length.ensures.lawful;
      },
    )

pub returns : goal.returns
returns g c =
    let t = within g.K.Logged.lawful _ _ c.pass.inside.number c.pass.inside.seat _ c.pass.invariant c.pass.view_is c.self.view_is c.requires.turn in
    let x = c.exchange-before.ensures in
    let y = c.fetch_add.ensures in
    let k = c.args.turn.machine in
    let same = c.pass.view_is in
    let after = y.2 k (ap (λ (m : _). m.1) x.3 ∙ ap (λ (l : _). (0, Some k) ∷ l) (rest_of _ None t.holds)) in
    let here = c.self.view_is in
    record {
      pass = (y.0 ∙ (x.0 ∙ (t.its_table ∙ ap (λ (z : Gate _). z.table) here)), ap (λ (m : _). m.0.basis) after ∙ (ap (λ (m : _). m.0.basis) x.3 ∙ (ap (λ (p : Known _ _). p.basis) same ∙ c.requires.turn.1)), ap (λ (m : _). inside m.0.stage) after);
      seen = ap (λ (m : _). m.0.seen) after;
      made = ap (λ (m : _). m.0.made) after ∙ (ap (λ (m : _). add_made (news m.0.seen (g.K.Logged.journal k)) m.0.made) x.3 ∙ ap (λ (p : Known _ _). add_made (news p.seen (g.K.Logged.journal k)) p.made) same);
      lawful = rw (ap (λ (m : _). m.0.seen) after, ← c.requires.basis) c.length.ensures.lawful;
      same = (ap (λ (p : Known _ _). p.number) same, ap (λ (m : _). m.0.known) after ∙ (ap (λ (m : _). m.0.known) x.3 ∙ ap (λ (p : Known _ _). p.passes) same));
    }

pub invariant_of-result : goal.invariant_of-result
invariant_of-result g c =
    let t = within g.K.Logged.lawful _ _ c.pass.inside.number c.pass.inside.seat _ c.pass.invariant c.pass.view_is c.self.view_is c.requires.turn in
    let x = c.exchange-before.ensures in
    let y = c.fetch_add.ensures in
    let k = c.args.turn.machine in
    let same = c.pass.view_is in
    let after = y.2 k (ap (λ (m : _). m.1) x.3 ∙ ap (λ (l : _). (0, Some k) ∷ l) (rest_of _ None t.holds)) in
    sound_rest g.K.Logged.lawful _ (g.K.Logged.basis k) c.pass.inside.number c.fetch_add.new.seat record {
      its_table = y.0 ∙ (x.0 ∙ t.its_table);
      away = ap (λ (m : _). m.0.stage) after;
      empty = ap (λ (m : _). m.1) after;
      its_basis = ap (λ (m : _). m.0.basis) after ∙ (ap (λ (m : _). m.0.basis) x.3 ∙ (ap (λ (p : Known _ _). p.basis) same ∙ (c.requires.turn.1 ∙ ap Some (sym c.requires.basis))));
      spare = ap (λ (m : _). m.0.spare) after ∙ (ap (λ (m : _). m.0.spare) x.3 ∙ t.spare);
      first = added_first _ _ _ _ (ap (λ (m : _). m.0.made) after) (t.first.0, t.first.1, ap (λ (m : _). m.0.made) x.3 ∙ t.first.2);
      lawful_seen = rw (ap (λ (m : _). m.0.seen) after) c.length.ensures.lawful;
    }
