use Rattle.std.proofs.Common.{length, drop, sym, refl, ap, ◌∙◌}
use Rattle.live_view.specs.Telling.{in_batches, new_tuples, new_bound}
use Rattle.live_view.specs.Tellers.{teller_of}
use Rattle.live_view.proofs.Tellings.{pending-true, pending-told}
use Rattle.live_view.proofs.teller.Teller.tell.Goals as goal

pub replace_with-requires : goal.replace_with-requires
replace_with-requires g c h =
    let old = c.self.inside.writer in
    let new = c.append.new.self in
    pending-true g.N.ViewName.plan old.desk.shown.value new.desk.shown.value c.self.inside.spent c.args.self.now (drop old.behind old.log.items) (drop new.behind new.log.items)
    c.in_ok-news.news (in_batches c.args.batches.now) (sym c.self.view_is) (ap (λ d. d.shown.value) c.in-Ok.ensures.desk) (c.self.invariant c.if-self.false) c.in-Ok.ensures.pending
    (c.in_ok-news.ensures.tuples ∙ ap (λ n. new_tuples n (in_batches c.args.batches.now)) (c.len-told.ensures ∙ ap (λ x. length x.tuples) c.published.ensures)) (c.in_ok-news.ensures.bound ∙ ap (λ n. new_bound n 0 (in_batches c.args.batches.now)) (c.len-told.ensures ∙ ap (λ x. length x.tuples) c.published.ensures)) c.requires h

pub returns-clause-told : goal.returns-clause-told
returns-clause-told g c =
    let old = c.self.inside.writer in
    let new = c.append.new.self in
    let h = c.in-Ok-replace_with.ensures {u = tt} in
    pending-told old.desk.shown.value new.desk.shown.value c.replace_with.new.dest.desk.shown.value c.args.self.now (drop old.behind old.log.items) (drop new.behind new.log.items)
    c.in_ok-news.news (in_batches c.args.batches.now) (sym c.self.view_is ∙ ap (teller_of old.desk.shown.value) c.if-self.false) (ap (λ d. d.shown.value) c.in-Ok.ensures.desk) (c.self.invariant c.if-self.false) c.in-Ok.ensures.pending
    (c.in_ok-news.ensures.tuples ∙ ap (λ n. new_tuples n (in_batches c.args.batches.now)) (c.len-told.ensures ∙ ap (λ x. length x.tuples) c.published.ensures)) (c.in_ok-news.ensures.bound ∙ ap (λ n. new_bound n 0 (in_batches c.args.batches.now)) (c.len-told.ensures ∙ ap (λ x. length x.tuples) c.published.ensures))
    (h.0 refl)
