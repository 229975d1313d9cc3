use Rattle.std.proofs.Common.{◌≡◌, List, Err, map, length, vec_len, All, sym, ap, subst, ◌∙◌, arith, rules}
use Rattle.dpc_model.specs.Actors.{nodes_of}
use Rattle.dpc_model.specs.declared.messages.Event.{Event}
use Rattle.dpc_model.specs.declared.plans.Plan.{Plan}
use Rattle.world_core.specs.Runs.{RunOf}
use Rattle.saved_runs.specs.declared.faults.SavesFault.TheVariants.{DiskFault}
use Rattle.saved_runs.specs.Disks.{all_disks}
use Rattle.saved_runs.specs.Nodes.{IsNodeOf, IsNumbered, IsReady, past_nodes}
use Rattle.saved_runs.specs.Told.{AreSaved}
use Rattle.saved_runs.proofs.Disks.{backs-then, all-back, total-back, rose-total, err-is, err-known, disk-stop}
use Rattle.saved_runs.proofs.Nodes.{length-same, numbered-same, places-same, ready-done}
use Rattle.saved_runs.proofs.runs.run_and_tell.Given.{Over}
use Rattle.saved_runs.proofs.runs.run_and_tell.Goals as goal
use Rattle.saved_runs.proofs.runs.run_and_tell.Goals.{In_ok-world, In_ok-told}

pub returns-in_err-world-clause-back : goal.returns-in_err-world-clause-back
returns-in_err-world-clause-back g c = all-back c.args.disks.now.items c.args.saves.now.nodes.items c.saving_run.new.saves.nodes.items c.saving_run.ensures.stayed.same

pub returns-in_err-world-clause-space : goal.returns-in_err-world-clause-space
returns-in_err-world-clause-space g c =
    let many = length-same c.args.saves.now.nodes.items c.saving_run.new.saves.nodes.items c.saving_run.ensures.stayed.same in
    let here : vec_len c.args.disks.now ≡ length c.args.disks.now.items = search rules in
    let none : length c.args.disks.now.items ≡ 0 = ap length c.requires.none in
    let first : vec_len c.args.saves.now.nodes ≡ length c.args.saves.now.nodes.items = search rules in
    let now : vec_len c.saving_run.new.saves.nodes ≡ length c.saving_run.new.saves.nodes.items = search rules in
    let space = c.requires.space in
    omega (arith, many, here, none, first, now, space)

pub returns-in_err-world-clause-fault : goal.returns-in_err-world-clause-fault
returns-in_err-world-clause-fault g c = λ told.
    rose-total c.args.disks.now.items c.args.saves.now.nodes.items c.saving_run.new.saves.nodes.items c.saving_run.ensures.stayed.same
    (c.in_err-world.ensures.fault (err-is c.from_residual.result c.in_err-world.field-0.0 DiskFault c.from_residual.ensures.1 told))

-- the plan that the world lends is the script's
same-plan : (g : Over) (c : In_ok-world g) → c.in_ok-world.world.plan ≡ c.args.script.plan
same-plan g c = ap (λ (w : RunOf). w.plan) c.in_ok-world.ensures.is

pub tell_all-requires-clause-places : goal.tell_all-requires-clause-places
tell_all-requires-clause-places g c =
    let room = c.args.room in
    let nodes = c.saving_run.new.saves.nodes.items in
    subst (λ (p : Plan). All (IsNodeOf p room) nodes) (sym (c.plan.ensures ∙ same-plan g (goal.at.tell_all-requires-clause-places g c).In_ok-world))
    (places-same c.args.script.plan room c.args.saves.now.nodes.items nodes c.saving_run.ensures.stayed.same c.requires.places)

pub tell_all-requires-clause-space : goal.tell_all-requires-clause-space
tell_all-requires-clause-space g c =
    let many = length-same c.args.saves.now.nodes.items c.saving_run.new.saves.nodes.items c.saving_run.ensures.stayed.same in
    let first : vec_len c.args.saves.now.nodes ≡ length c.args.saves.now.nodes.items = search rules in
    let now : vec_len c.saving_run.new.saves.nodes ≡ length c.saving_run.new.saves.nodes.items = search rules in
    let space = c.requires.space in
    omega (arith, many, first, now, space)

pub returns-in_err-told-clause-back : goal.returns-in_err-told-clause-back
returns-in_err-told-clause-back g c =
    backs-then g.D.Disk _ _ _ (all-back c.args.disks.now.items c.args.saves.now.nodes.items c.saving_run.new.saves.nodes.items c.saving_run.ensures.stayed.same) c.tell_all.ensures.back

pub returns-in_err-told-clause-fault : goal.returns-in_err-told-clause-fault
returns-in_err-told-clause-fault g c = λ told.
    let first = total-back g.D.Disk _ _ (all-back c.args.disks.now.items c.args.saves.now.nodes.items c.saving_run.new.saves.nodes.items c.saving_run.ensures.stayed.same) in
    let why = disk-stop c.in_err-told.field-0.0 (err-known _ _ (err-is {S = Unit {0}} c.from_residual-in_err-told.result _ DiskFault c.from_residual-in_err-told.ensures.1 told)) in
    let more = c.tell_all.ensures.fault (c.in_err-told.was ∙ ap Err why) in
    omega (arith, first, more)

pub returns-clause-back : goal.returns-clause-back
returns-clause-back g c =
    backs-then g.D.Disk _ _ _ (all-back c.args.disks.now.items c.args.saves.now.nodes.items c.saving_run.new.saves.nodes.items c.saving_run.ensures.stayed.same) c.tell_all.ensures.back

pub returns-clause-saved : goal.returns-clause-saved
returns-clause-saved g c = λ checked begun.
    let run = c.in_ok-world.world in
    let same = c.saving_run.ensures.stayed.same in
    let old = c.args.saves.now.nodes.items in
    let nodes = c.saving_run.new.saves.nodes.items in
    let plan = c.args.script.plan in
    let here = c.plan.ensures ∙ same-plan g (goal.at.returns-clause-saved g c).In_ok-world in
    let events : run.events ≡ _ = ap (λ (w : RunOf). w.events) c.in_ok-world.ensures.is in
    let ready = ready-done c.args.script run old nodes checked (sym (same-plan g (goal.at.returns-clause-saved g c).In_ok-world)) begun c.in_ok-world.ensures.done in
    let told = c.in_ok-told.ensures.told run.events (subst (λ (p : Plan). All (IsReady p run.events) nodes) (sym c.plan.ensures) ready)
    (subst (λ (p : Plan). IsNumbered (past_nodes p) nodes) (sym here) (numbered-same (past_nodes plan) old nodes same c.requires.numbered))
    (length-same old nodes same ∙ c.requires.many ∙ ap (λ (p : Plan). length (nodes_of p)) (sym here)) in
    subst (λ (es : List Event). AreSaved plan c.args.room es (map g.D.Disk.seen (all_disks c.tell_all.new.disks.items c.tell_all.new.nodes.items)) c.in_ok-told.told.items) events
    (subst (λ (p : Plan). AreSaved p c.args.room run.events (map g.D.Disk.seen (all_disks c.tell_all.new.disks.items c.tell_all.new.nodes.items)) c.in_ok-told.told.items) here told)
