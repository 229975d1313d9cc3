use Rattle.std.proofs.Common.{◌≡◌, ◌∙◌, ap, subst, refl, ℕ, true, false}
use Rattle.upstream.specs.Upstreams.{UpstreamValue, with_marks_ended, with_tick}
use Rattle.node_model.specs.Clients.{client_tick_step}
use Rattle.client_fold.specs.Folding.{ClientValue, Follows}
use Rattle.client_fold.proofs.Batching.{valued}
use Rattle.client_fold.proofs.Ticking.{unasked, asks, ticks, ticked}
use Rattle.client_fold.proofs.client.Client.advance.Goals as goal

pub returns-in_err-to-clause-after : goal.returns-in_err-to-clause-after
returns-in_err-to-clause-after c =
    let old : ClientValue = valued c.self.inside.upstream c.self.inside.end c.self.inside.clock c.self.inside.inlet c.self.inside.taken.items in
    let tick : c.tick.new.self ≡ record old.upstream { known = ticked old } =
    c.tick.ensures ∙ ap (λ (v : UpstreamValue). record v { known = with_tick v.known }) c.end_marks.ensures
    ∙ ap (λ (n : ℕ). record old.upstream { known = with_tick (with_marks_ended n old.upstream.known) }) c.count-count.ensures in
    let must = unasked c.broken-broken.result c.answered.result c.tick.new.self c.in_err-to.ensures.asked in
    subst (λ (v : ClientValue). Follows (λ plan k x. (client_tick_step plan k c.args.now x).after) v (record old { upstream = c.choose.new.self; clock = c.args.now })) c.self.view_is
    (ticks c.args.now old c.broken-broken.result c.answered.result false c.tick.new.self c.choose.new.self c.self.inside.inlet c.broken-broken.ensures c.answered.ensures tick
    c.in_err-to.ensures.after must refl)

pub returns-clause-after : goal.returns-clause-after
returns-clause-after c =
    let old : ClientValue = valued c.self.inside.upstream c.self.inside.end c.self.inside.clock c.self.inside.inlet c.self.inside.taken.items in
    let tick : c.tick.new.self ≡ record old.upstream { known = ticked old } =
    c.tick.ensures ∙ ap (λ (v : UpstreamValue). record v { known = with_tick v.known }) c.end_marks.ensures
    ∙ ap (λ (n : ℕ). record old.upstream { known = with_tick (with_marks_ended n old.upstream.known) }) c.count-count.ensures in
    let must = asks c.broken-broken.result c.answered.result c.tick.new.self c.in_ok-to.to c.in_ok-to.ensures.asked in
    subst (λ (v : ClientValue). Follows (λ plan k x. (client_tick_step plan k c.args.now x).after) v (record old { upstream = c.choose.new.self; inlet = c.reopen.new.self; clock = c.args.now }))
    c.self.view_is
    (ticks c.args.now old c.broken-broken.result c.answered.result true c.tick.new.self c.choose.new.self c.reopen.new.self c.broken-broken.ensures c.answered.ensures tick
    c.in_ok-to.ensures.after must c.reopen.ensures.after)
