use Rattle.std.proofs.Common.{ℕ, List, min, ◌≡◌, ◌<◌, length, Err, refl, sym, ap, ◌∙◌, arith, rules}
use Rattle.std.specs.Arc.{arc_value}
use Rattle.session_core.specs.declared.entry.Entry.{Entry}
use Rattle.session_core.specs.declared.entry.Entry.TheVariants as entry
use Rattle.session_core.specs.Machine.{journal_frames}
use Rattle.session_core.proofs.Tail.{counted_none}
use Rattle.session_core.proofs.Goes.{Stands, heard, stands_as}
use Rattle.session_core.proofs.Answered.{refused, wanted, posted}
use Rattle.session_core.proofs.session.Session.hear.Goals as goal

pub returns-in_err-may_post-clause-posts : goal.returns-in_err-may_post-clause-posts
returns-in_err-may_post-clause-posts g c =
    let m = g.V.Views.meaning in
    let i = c.self.inside in
    let v = c.self.invariant in
    let app = arc_value i.app in
    let s : Stands m app i.journal.items i.inbox.items i.kept i.process = record { holds = v.holds; state = v.state; inbox_is = v.inbox; size = v.size } in
    let gives : c.from_residual.result ≡ Err c.in_err-may_post.field-0.0 = search rules in
    rw (← c.self.view_is) (rw gives (refused m app i.journal.items i.inbox.items i.kept c.saturating_add-asked.result c.len.result i.process c.args.by c.args.text.now c.in_err-may_post.field-0.0 s (c.len.ensures ∙ i.inbox.ok.0) c.saturating_add-asked.ensures c.in_err-may_post.ensures.err))

pub returns-in_err-queue-clause-posts : goal.returns-in_err-queue-clause-posts
returns-in_err-queue-clause-posts g c =
    let m = g.V.Views.meaning in
    let i = c.self.inside in
    let v = c.self.invariant in
    let app = arc_value i.app in
    let s : Stands m app i.journal.items i.inbox.items i.kept i.process = record { holds = v.holds; state = v.state; inbox_is = v.inbox; size = v.size } in
    let gives : c.from_residual-in_err-queue.result ≡ Err c.in_err-queue.field-0.0 = search rules in
    rw (← c.self.view_is) (rw gives (wanted m app i.journal.items c.queue.new.journal.items i.inbox.items i.kept c.saturating_add-asked.result c.len.result i.process c.args.by c.args.text.now c.in_err-queue.field-0.0 s (c.len.ensures ∙ i.inbox.ok.0) c.saturating_add-asked.ensures
    c.in_ok-may_post.ensures.inbox c.in_ok-may_post.ensures.journal c.in_err-queue.ensures.err c.in_err-queue.ensures.journal_err))

pub invariant_of-self-2 : goal.invariant_of-self-2
invariant_of-self-2 g c =
    let m = g.V.Views.meaning in
    let i = c.self.inside in
    let v = c.self.invariant in
    let app = arc_value i.app in
    let s : Stands m app i.journal.items i.inbox.items i.kept i.process = record { holds = v.holds; state = v.state; inbox_is = v.inbox; size = v.size } in
    let ok = i.inbox.ok.0 in
    let few : length i.inbox.items < 1024 = omega (arith, ok, c.len.ensures, c.in_ok-may_post.ensures.inbox) in
    let t = heard m app i.journal.items i.inbox.items i.kept i.process c.args.by c.args.text.now c.saturating_add-asked.result s few c.saturating_add-asked.ensures c.in_ok-may_post.ensures.journal in
    let u = stands_as m app _ c.queue.new.journal.items _ c.queue.new.inbox.items _ _ _ _ c.in_ok-queue.ensures.journal c.in_ok-queue.ensures.inbox refl refl t in
    record {
      holds = u.holds;
      state = u.state;
      inbox = u.inbox_is;
      size = u.size;
      count = counted_none i.journal.items c.args.by (entry.Heard c.args.text.now) i.frame_count refl v.count ∙ ap (λ (xs : List (ℕ × Entry)). min (length (journal_frames xs)) 18446744073709551615) (sym c.in_ok-queue.ensures.journal);
      room = c.in_ok-queue.ensures.room;
      joins = omega (arith, v.joins, c.in_ok-queue.ensures.journal_len);
      waits = omega (arith, c.len.ensures, c.in_ok-may_post.ensures.inbox, c.in_ok-queue.ensures.inbox_len);
    }

pub returns-clause-posts : goal.returns-clause-posts
returns-clause-posts g c =
    let m = g.V.Views.meaning in
    let i = c.self.inside in
    let v = c.self.invariant in
    let app = arc_value i.app in
    let s : Stands m app i.journal.items i.inbox.items i.kept i.process = record { holds = v.holds; state = v.state; inbox_is = v.inbox; size = v.size } in
    rw (← c.self.view_is) (posted m app i.journal.items c.queue.new.journal.items i.inbox.items i.kept c.saturating_add-asked.result c.len.result c.len-place.result i.process c.args.by c.args.text.now s (c.len.ensures ∙ i.inbox.ok.0) c.saturating_add-asked.ensures
    c.in_ok-may_post.ensures.inbox c.in_ok-may_post.ensures.journal (c.len-place.ensures ∙ i.journal.ok.0) c.in_ok-queue.ensures.journal)
