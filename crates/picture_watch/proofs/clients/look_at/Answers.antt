use Rattle.std.proofs.Common.{length, refl, ◌∙◌, subst, ◌≤◌, arith}
use Rattle.std.proofs.lemmas.Option.{slice_get_read}
use Rattle.picture_watch.proofs.Tallying.{points-more, tallies-more, all-seen}
use Rattle.picture_watch.proofs.clients.look_at.Goals as goal

pub loop-i-preserved : goal.loop-i-preserved
loop-i-preserved c = λ plan w stand tallied.
    let vs = c.args.clients.now in
    let ts = c.args.tallies.now in
    let i = c.loop-i.i in
    let v = c.index-clients-i.result in
    let here = slice_get_read vs (length vs) i v refl (omega (arith, c.min-i-end.ensures, c.loop-i-test.true)) c.index-clients-i.is in
    let old = c.loop-i.invariant plan w stand tallied in (
      c.in_ok-push.ensures.items
          ∙ points-more plan w vs ts i v c.tally_at.result c.in_ok-tally.tally c.client_point.result stand tallied here c.tally_at.ensures (c.in_ok-tally.ensures {u = tt}) c.client_point.ensures c.loop-i.points.items old.0,
      c.in_ok-push-2.ensures.items
          ∙ tallies-more plan w vs ts i v c.tally_at.result c.in_ok-tally.tally c.client_point.result stand tallied here c.tally_at.ensures (c.in_ok-tally.ensures {u = tt}) c.client_point.ensures c.loop-i.renewals.items old.1,
    )

pub returns : goal.returns
returns c = λ plan w stand tallied.
    let old = c.loop-i.invariant plan w stand tallied in
    all-seen plan w c.args.clients.now c.args.tallies.now c.loop-i.i (record { points = c.loop-i.points; tallies = c.loop-i.renewals }) stand tallied
    (subst (λ n. n ≤ c.loop-i.i) c.min-i-end.ensures c.loop-i-test.false) old.0 old.1
