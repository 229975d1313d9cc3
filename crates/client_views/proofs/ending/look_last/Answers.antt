use Rattle.std.proofs.Common.{◌∙◌, set, ap, sym, subst, ◌+◌, ◌-◌, arith}
use Rattle.std.proofs.lemmas.List.{set-get_or}
use Rattle.client_views.proofs.Sights.{AreSeenBy, seen-by-more}
use Rattle.client_views.proofs.ending.look_last.Goals as goal

pub loop-i-preserved : goal.loop-i-preserved
loop-i-preserved g c =
    let inv = c.loop-i.invariant in (
      ap (set c.loop-i.seats c.loop-i.i) c.in_ok-of_one.ensures.same ∙ set-get_or c.loop-i.seats c.loop-i.i c.index-seats-i.result ∙ inv.0,
      omega (arith, inv.1),
      subst (λ ws. AreSeenBy g.N.ViewName.plan c.args.clients.now (c.loop-i.i + 1 - c.args.workers) ws) (sym (c.in_ok-append.ensures {u = tt}).items)
          (seen-by-more g.N.ViewName.plan c.args.clients.now c.args.workers c.loop-i.i c.loop-i.watched.items c.in_ok-of_one.of_one.items inv.1 inv.2 c.in_ok-of_one.ensures.watched),
    )
