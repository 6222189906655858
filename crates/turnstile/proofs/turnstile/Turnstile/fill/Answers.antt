use Rattle.std.proofs.Common.{arith, [], ◌∷◌, ◌∙◌, ap, sym, refl, None}
use Rattle.turnstile.specs.Known.{Gate}
use Rattle.turnstile.specs.Seats.{inside}
use Rattle.turnstile.proofs.Keeps.{fills_from}
use Rattle.turnstile.proofs.Rests.{sound_in}
use Rattle.turnstile.proofs.turnstile.Turnstile.fill.Goals as goal

pub load-requires : goal.load-requires
load-requires g c =
    let wide = c.self.invariant.0 in
    let m = c.requires.seat.1 in (
      c.requires.seat.0 ∙ ap (λ (z : Gate _). z.table) (sym c.self.view_is),
      omega arith,
      fills_from g.K.Logged.journal g.K.Logged.basis g.K.Logged.lawful _ _ c.args.seat.id c.args.seat.me (ap (λ (x : _). x.0.stage) m) (ap (λ (x : _). x.1) m),
    )

pub returns : goal.returns
returns g c =
    let e = c.load.ensures in
    let m = c.requires.seat.1 in
    record {
      pass = (e.0 ∙ c.requires.seat.0, ap (λ (x : _). x.0.basis) e.2 ∙ ap (λ (x : _). x.0.basis) m, ap (λ (x : _). inside x.0.stage) e.2);
      first = (refl, ap (λ (x : _). x.0.seen) e.2 ∙ ap (λ (x : _). x.0.seen) m, ap (λ (x : _). x.0.made) e.2 ∙ ap (λ (x : _). x.0.made) m, ap (λ (x : _). x.0.known) e.2 ∙ ap (λ (x : _). x.0.known) m);
    }

pub invariant_of-result : goal.invariant_of-result
invariant_of-result g c =
    let e = c.load.ensures in
    let m = c.requires.seat.1 in
    sound_in g.K.Logged.lawful _ _ 0 c.load.new.seat record {
      its_table = e.0 ∙ c.requires.seat.0;
      ticket = 0;
      inside = ap (λ (x : _). x.0.stage) e.2;
      holds = ap (λ (x : _). x.1) e.2 ∙ ap (λ (x : _). (0, None) ∷ x.1) m;
      its_basis = ap (λ (x : _). x.0.basis) e.2 ∙ ap (λ (x : _). x.0.basis) m;
      spare = ap (λ (x : _). x.0.spare) e.2 ∙ ap (λ (x : _). x.0.spare) m;
      first = ([], [], ap (λ (x : _). x.0.made) e.2 ∙ ap (λ (x : _). x.0.made) m);
      lawful_seen = rw (ap (λ (x : _). x.0.seen) e.2, ap (λ (x : _). x.0.seen) m) c.requires.lawful;
    }
