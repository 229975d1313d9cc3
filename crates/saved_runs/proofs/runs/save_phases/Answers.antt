use Rattle.std.proofs.Common.{map, All, IfOk, sym, ap, subst, arith}
use Rattle.std.specs.List.{AllZip}
use Rattle.phase_saves.specs.Nodes.{HasBegun}
use Rattle.world_model.specs.Schedules.{lockstep_journal}
use Rattle.saved_runs.specs.Disks.{IsBack, total_faults, all_disks}
use Rattle.saved_runs.specs.Nodes.{IsNodeOf}
use Rattle.saved_runs.specs.Told.{AreSaved}
use Rattle.saved_runs.proofs.Disks.{backs-same, backs-then, total-back}
use Rattle.saved_runs.proofs.runs.save_phases.Goals as goal
use Rattle.saved_runs.proofs.runs.save_phases.Goals.{In_default}

pub returns-in_err-nodes-clause-back : goal.returns-in_err-nodes-clause-back
returns-in_err-nodes-clause-back g c = backs-same g.D.Disk _

pub run_and_tell-result-requires-clause-places : goal.run_and_tell-result-requires-clause-places
run_and_tell-result-requires-clause-places g c =
    subst (λ nodes. All (IsNodeOf c.args.script.plan c.args.room) nodes.items) (sym c.new-saves.ensures.nodes) c.make_points.ensures.places

pub returns-clause-saved : goal.returns-clause-saved
returns-clause-saved g c = λ checked honest.
    let begun = subst (λ nodes. All HasBegun nodes.items) (sym c.new-saves.ensures.nodes) (c.make_points.ensures.begun honest) in
    subst (λ items. IfOk c.run_and_tell-result.result (λ made. AreSaved c.args.script.plan c.args.room (lockstep_journal c.args.script) (map g.D.Disk.seen items) made.1.items)) (sym c.give_back-2.ensures)
    (c.run_and_tell-result.ensures.saved checked begun)

pub returns-clause-back : goal.returns-clause-back
returns-clause-back g c =
    let made = subst (λ nodes. AllZip (IsBack g.D.Disk) c.args.disks.now.items (all_disks c.make_points.new.disks.items nodes.items)) (sym c.new-saves.ensures.nodes) c.make_points.ensures.back in
    subst (λ items. AllZip (IsBack g.D.Disk) c.args.disks.now.items items) (sym c.give_back-2.ensures) (backs-then g.D.Disk _ _ _ made c.run_and_tell-result.ensures.back)

pub returns-clause-fault : goal.returns-clause-fault
returns-clause-fault g c = λ told.
    let made = subst (λ nodes. AllZip (IsBack g.D.Disk) c.args.disks.now.items (all_disks c.make_points.new.disks.items nodes.items)) (sym c.new-saves.ensures.nodes) c.make_points.ensures.back in
    let first = total-back g.D.Disk _ _ made in
    let more = c.run_and_tell-result.ensures.fault told in
    let is = ap (total_faults g.D.Disk.faults) c.give_back-2.ensures in
    omega (arith, first, more, is)
