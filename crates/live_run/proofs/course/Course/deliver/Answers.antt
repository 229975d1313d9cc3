use Rattle.std.proofs.Common.{◌∙◌, sym, slice_get}
use Rattle.dpc_lists.proofs.Truths.{both}
use Rattle.world_model.specs.Schedules.{may_come, is_first_of_its_way}
use Rattle.world_core.specs.Runs.{world_of}
use Rattle.live_run.proofs.Noting.{sent_there, ends_sent, ends_same}
use Rattle.live_run.proofs.course.Course.deliver.Goals as goal

pub returns-in-Some : goal.returns-in-Some
returns-in-Some c = λ p grown may s.
    let first = both (may_come p.world (slice_get p.world.envelopes c.args.k)) (is_first_of_its_way p.world c.args.k p.waiting) may in
    let sent = sent_there p.world c.args.k first.0 in
    let told = ends_sent p.world (world_of c.args.world.now) c.args.k sent.envelope grown sent.there in
    let same = ends_same sent.envelope c.in-Some.sender c.in-Some.to (sym c.in-Some.is ∙ c.ends.ensures ∙ told) in
    record {
      moment = record { phase = s.moment.phase; todo = s.moment.todo; within = s.moment.within; ticked = s.moment.ticked };
      waiting = c.deliver.ensures p.world p.waiting c.args.k sent.envelope s.waiting sent.there same.0 same.1 first.1;
      targets = s.targets;
      actors = s.actors;
      nodes = s.nodes;
    }

pub returns-in_default : goal.returns-in_default
returns-in_default c = λ p grown may s.
    let first = both (may_come p.world (slice_get p.world.envelopes c.args.k)) (is_first_of_its_way p.world c.args.k p.waiting) may in
    let sent = sent_there p.world c.args.k first.0 in
    let never = sym c.in_default.is ∙ c.ends.ensures ∙ ends_sent p.world (world_of c.args.world.now) c.args.k sent.envelope grown sent.there in
    cc
