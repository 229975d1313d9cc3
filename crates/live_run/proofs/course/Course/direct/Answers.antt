use Rattle.std.proofs.Common.{◌∙◌, drop, refl}
use Rattle.live_run.proofs.course.Course.direct.Goals as goal

pub returns : goal.returns
returns c = λ p s.
    record {
      moment = c.direct.ensures.stands p (record p { todo = drop 1 p.todo }) s.moment refl refl refl;
      waiting = s.waiting;
      targets = s.targets;
      actors = c.direct.ensures.many ∙ s.actors;
      nodes = s.nodes;
    }
