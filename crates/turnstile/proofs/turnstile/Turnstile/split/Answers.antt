use Rattle.std.proofs.Common.{arith, ◌∙◌, ap, sym}
use Rattle.turnstile.specs.Known.{Gate, Known}
use Rattle.turnstile.proofs.Keeps.{counts, numbers, halves}
use Rattle.turnstile.proofs.turnstile.Turnstile.split.Goals as goal

pub load-requires : goal.load-requires
load-requires g c =
    let wide = c.self.invariant.0 in
    let p = c.pass.invariant in
    let here = ap (λ (k : Known _ _). k.table) c.pass.view_is ∙ (c.requires.0 ∙ ap (λ (z : Gate _). z.table) (sym c.self.view_is)) in (
      here,
      omega arith,
      counts g.K.Logged.journal g.K.Logged.basis g.K.Logged.lawful _ _ c.pass.inside.seat.id c.pass.inside.seat.me.0 c.pass.inside.seat.me.1,
    )

pub fetch_add-drawn-requires : goal.fetch_add-drawn-requires
fetch_add-drawn-requires g c =
    let wide = c.self.invariant.0 in
    let p = c.pass.invariant in
    let here = ap (λ (k : Known _ _). k.table) c.pass.view_is ∙ (c.requires.0 ∙ ap (λ (z : Gate _). z.table) (sym c.self.view_is)) in
    let e = c.load.ensures in
    let m = c.load.new.seat.me in
    let low = c.if-load-ge-MOST_PASSES.false in (
      e.0 ∙ here,
      omega arith,
      numbers g.K.Logged.journal g.K.Logged.basis g.K.Logged.lawful _ _ c.load.new.seat.id m.0 m.1 _ (ap (λ (x : _). x.0.basis) e.2.0 ∙ p.its_basis) (rw (ap (λ (x : _). x.0.known) e.2.0) (omega arith)) (ap (λ (x : _). x.0.spare) e.2.0 ∙ p.spare),
    )

pub split_seat-other-requires : goal.split_seat-other-requires
split_seat-other-requires g c =
    let wide = c.self.invariant.0 in
    let p = c.pass.invariant in
    let here = ap (λ (k : Known _ _). k.table) c.pass.view_is ∙ (c.requires.0 ∙ ap (λ (z : Gate _). z.table) (sym c.self.view_is)) in
    let e = c.load.ensures in
    let d = c.fetch_add-drawn.ensures in
    let x = (d.2.0 (let low = c.if-drawn-ge-MOST_PASSES.false in omega arith)).0 in
    let m = c.fetch_add-drawn.new.seat.me in (
      d.0 ∙ (e.0 ∙ here),
      omega arith,
      halves g.K.Logged.journal g.K.Logged.basis g.K.Logged.lawful _ c.fetch_add-drawn.new.seat.id m.0 c.fetch_add-drawn.result (ap (λ (y : _). y.0.spare) x),
    )
