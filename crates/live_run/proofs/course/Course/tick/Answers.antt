use Rattle.std.proofs.Common.{◌∙◌, ◌<◌, ◌∷◌, length, refl, arith}
use Rattle.live_run.proofs.Noting.{up_low}
use Rattle.live_run.proofs.course.Course.tick.Goals as goal

pub returns : goal.returns
returns c = λ p up s.
    let actors = s.actors in
    let among = up_low p.world c.args.actor up in
    let low : c.args.actor < length c.args.self.now.moment.ticked.items = omega (arith, actors, among) in
    record {
      moment = c.tick.ensures.stands p (record p { ticked = c.args.actor ∷ p.ticked }) low s.moment refl refl refl;
      waiting = s.waiting;
      targets = s.targets;
      actors = c.tick.ensures.many ∙ s.actors;
      nodes = s.nodes;
    }
