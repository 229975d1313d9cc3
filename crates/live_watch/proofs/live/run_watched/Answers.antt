-- The run behind the lock may cross threads, and each seat stays what it was.
use denote.Exit.{no}
use denote.Param.{param}
use denote.Param.Send.{param_send, arg_send}
use Rattle.std.proofs.Common.{◌≡◌, ◌∙◌, ◌-◌, length, sym, ap, subst}
use Rattle.law_safety.specs.Plans.{IsCheckedPlan}
use Rattle.client_views.specs.Watching.{AreInOrder}
use Rattle.node_threads.specs.Lives.{IsLiveRun}
use Rattle.node_threads.proofs.Sending.{hall_sends}
use Rattle.live_watch.proofs.Taking.{clients-true, in-order, watched-run}
use Rattle.live_watch.proofs.live.run_watched.Goals as goal

pub at_seats-requires-send-H : goal.at_seats-requires-send-H
at_seats-requires-send-H g c κs within = param_send 0 _ (arg_send _ no _ (hall_sends (param 0 g.row.N) g.N.RunName g.N.Ledger))

pub end-requires-clause-are_true : goal.end-requires-clause-are_true
end-requires-clause-are_true g c =
    let world = c.in_ok-world.world in
    clients-true g.N.ViewName.plan world c.clients.result.now (subst IsCheckedPlan (sym c.requires.plan) c.requires.can.checked)
    (c.in_ok-world.ensures.ok.plan ∙ ap (λ s. s.plan) c.requires.script ∙ sym c.requires.plan) c.clients.ensures

pub end-requires-clause-order : goal.end-requires-clause-order
end-requires-clause-order g c =
    let world = c.in_ok-world.world in
    let same : world.plan ≡ c.args.script.plan = c.in_ok-world.ensures.ok.plan ∙ ap (λ s. s.plan) c.requires.script in
    in-order world.plan c.args.workers c.clients.result.now _ c.args.seats.now c.at_seats.new.seats c.clients.ensures c.at_seats.ensures.long c.at_seats.ensures.each
    (subst (λ p. AreInOrder c.args.workers (length p.clients) c.args.seats.now) (sym same) c.requires.order)

pub returns-clause-ok : goal.returns-clause-ok
returns-clause-ok g c =
    watched-run c.args.script g.N.ViewName.plan c.in_ok-world.world (length c.at_seats.new.seats - c.args.workers) (length c.args.seats.now - c.args.workers) c.clients.result.now
    c.in_ok-watched.watched.items (subst (λ s. IsLiveRun s c.in_ok-world.world) c.requires.script c.in_ok-world.ensures.ok) c.requires.plan
    (ap (λ n. n - c.args.workers) c.at_seats.ensures.long) c.clients.ensures c.in_ok-watched.ensures.watched
