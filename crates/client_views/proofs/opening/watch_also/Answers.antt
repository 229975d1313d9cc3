use Rattle.std.proofs.Common.{[], ◌∷◌, ◌++◌, ◌∙◌, sym, length, refl, ap, arith}
use Rattle.std.proofs.lemmas.List.{length-append, length-set}
use Rattle.client_views.proofs.Places.{placed, each-last}
use Rattle.client_views.proofs.opening.watch_also.Goals as goal

pub loop-place-preserved : goal.loop-place-preserved
loop-place-preserved g c =
    let inv = c.loop-place.invariant in
    let seats = c.loop-place.seats in
    let place = c.loop-place.place in
    let others = each-last (λ x. x.client) c.args.client c.loop-place.lookers.items c.take_last.new.self.items c.take_last.result c.take_last.ensures.items inv.1 in
    let fewer = ap length c.take_last.ensures.items in
    let longer = length-append c.take_last.new.self.items (c.take_last.result ∷ []) in
    let set = placed c.args.workers place c.args.client seats _ c.watch_also.new.self c.index-seats-place.result refl
    (c.in_ok-watch_also.ensures ∙ ap (λ l. l ++ c.args.client ∷ []) (sym c.index-seats-place.is)) c.index-seats-place.is (omega (arith, c.loop-place-test.true, inv.3)) inv.4 inv.5 in
    (omega (arith, inv.0, fewer, longer), others.1, omega (arith, inv.2), length-set seats place c.watch_also.new.self ∙ inv.3, set.0, set.1)
