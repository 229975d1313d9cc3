use Rattle.std.proofs.Common.{◌≡◌, ◌+◌, ◌≤◌, ◌<◌, ◌++◌, ◌∷◌, [], length, vec_len, vec_capacity, All, sym, ap, subst, ◌∙◌, arith, rules}
use Rattle.std.proofs.lemmas.List.{length-append}
use Rattle.std.proofs.lemmas.List.Elements.{All-nil}
use Rattle.std.specs.List.{AllZip}
use Rattle.dpc_model.specs.Actors.{role_of}
use Rattle.dpc_model.specs.declared.actors.Role.TheVariants.{Node as IsNode}
use Rattle.phase_saves.specs.Nodes.{HasBegun}
use Rattle.phase_saves.specs.declared.kept.SaveStop.TheVariants.{DiskFault}
use Rattle.saved_runs.specs.Disks.{IsBack, total_faults, all_disks}
use Rattle.saved_runs.specs.Nodes.{IsNodeOf, IsNumbered}
use Rattle.saved_runs.proofs.Disks.{none-gone, goes-out, stays-here, fails-here, all-front, all-pushed, err-known}
use Rattle.saved_runs.proofs.Nodes.{node-here, numbered-pushed}
use Rattle.saved_runs.proofs.points.make_points.Given.{Over}
use Rattle.saved_runs.proofs.points.make_points.Goals as goal
use Rattle.saved_runs.proofs.points.make_points.Goals.{In-Some-pop}

pub returns-in_default-clause-back : goal.returns-in_default-clause-back
returns-in_default-clause-back g c = none-gone g.D.Disk c.args.disks.now.items c.args.nodes.now.items c.requires.none

pub loop-disk-init : goal.loop-disk-init
loop-disk-init g c =
    let plan = c.args.plan.now in
    let none = sym c.requires.none in
    let top = length plan.sources + length c.args.disks.now.items in
    let empty : length c.args.nodes.now.items ≡ 0 = ap length c.requires.none in
    let nobody : vec_len c.args.nodes.now ≡ length c.args.nodes.now.items = search rules in
    let whole : vec_len c.args.disks.now ≡ length c.args.disks.now.items = search rules in
    let held : vec_len c.args.disks.now ≤ vec_capacity c.args.disks.now = search rules in
    let space = c.requires.space in
    record {
      back = none-gone g.D.Disk c.args.disks.now.items c.args.nodes.now.items c.requires.none;
      fits = c.requires.fits;
      begun = λ honest. (honest, subst (All HasBegun) none (All-nil HasBegun));
      places = subst (All (IsNodeOf plan c.args.room)) none (All-nil (IsNodeOf plan c.args.room));
      numbered = subst (IsNumbered top) none tt;
      many = omega (arith, empty);
      actor = search rules;
      taken = omega (arith, empty, nobody, held);
      space = omega (arith, empty, nobody, space);
    }

-- the disks before one is taken
before : (g : Over) (c : In-Some-pop g) → AllZip (IsBack g.D.Disk) c.args.disks.now.items (all_disks (c.pop.new.self.items ++ c.in-Some-pop.disk ∷ []) c.loop-disk.nodes.items)
before g c = subst (λ items. AllZip (IsBack g.D.Disk) c.args.disks.now.items (all_disks items c.loop-disk.nodes.items)) c.in-Some-pop.ensures.items c.loop-disk.invariant.back

pub loop-disk-preserved : goal.loop-disk-preserved
loop-disk-preserved g c =
    let plan = c.args.plan.now in
    let inv = c.loop-disk.invariant in
    let ds = c.pop.new.self.items in
    let d = c.in-Some-pop.disk in
    let ns = c.loop-disk.nodes.items in
    let n = c.in-Ok.node in
    let old : c.loop-disk.disks.items ≡ ds ++ d ∷ [] = c.in-Some-pop.ensures.items in
    let pushed : c.push_reserved.new.self.items ≡ ns ++ n ∷ [] = c.push_reserved.ensures.items in
    let one : length c.loop-disk.disks.items ≡ length ds + 1 = ap length old ∙ length-append ds (d ∷ []) in
    let other : length c.push_reserved.new.self.items ≡ length ns + 1 = ap length pushed ∙ length-append ns (n ∷ []) in
    let top = length plan.sources + length c.args.disks.now.items in
    let now = c.in-Ok.ensures.actor in
    let at = inv.actor in
    let many = inv.many in
    let all = c.requires.many in
    let here = node-here plan n.actor (length ds) (omega (arith, now, at, one)) (omega (arith, many, one, all)) in
    let frag : n.frag ≡ here.0.0 = c.in-Ok.ensures.frag ∙ c.frag_of.ensures here.0.0 here.0.1 (subst (λ a. role_of plan a ≡ IsNode here.0.0 here.0.1) now here.2) in
    let place : IsNodeOf plan c.args.room n = record { replica = here.0.1; role = here.2 ∙ ap (λ f. IsNode f here.0.1) (sym frag); slots = c.in-Ok.ensures.room } in
    let less = c.in-Some-pop.ensures.cases in
    let less_room = c.pop.ensures.capacity in
    let more = c.push_reserved.ensures.len in
    let more_room = c.push_reserved.ensures.capacity in
    let taken = inv.taken in
    let space = inv.space in
    record {
      back =
          subst (λ items. AllZip (IsBack g.D.Disk) c.args.disks.now.items (all_disks ds items)) (sym pushed)
          (goes-out c.args.disks.now.items ds d ns n (before g (goal.at.loop-disk-preserved g c).In-Some-pop)
          (record { extent = c.in-Ok.ensures.extent; honest = λ h. (c.in-Ok.ensures.begun h).rests.honest; faults = c.in-Ok.ensures.faults }));
      fits = (all-front (λ disk. c.args.room + c.args.room ≤ g.D.Disk.extent disk) ds d (subst (All (λ disk. c.args.room + c.args.room ≤ g.D.Disk.extent disk)) old inv.fits)).0;
      begun = λ honest.
          let b = inv.begun honest in
          let f = all-front g.D.Disk.is_honest ds d (subst (All g.D.Disk.is_honest) old b.0) in
          (f.0, subst (All HasBegun) (sym pushed) (all-pushed HasBegun ns n b.1 (c.in-Ok.ensures.begun f.1)));
      places = subst (All (IsNodeOf plan c.args.room)) (sym pushed) (all-pushed (IsNodeOf plan c.args.room) ns n inv.places place);
      numbered = subst (IsNumbered top) (sym pushed) (numbered-pushed top ns n inv.numbered (omega (arith, now, at, one, many)));
      many = omega (arith, many, one, other);
      actor = omega (arith, at, one);
      taken = omega (arith, taken, less, less_room, more);
      space = omega (arith, space, less, more, more_room);
    }

pub returns-in-Err-clause-back : goal.returns-in-Err-clause-back
returns-in-Err-clause-back g c =
    subst (λ items. AllZip (IsBack g.D.Disk) c.args.disks.now.items (all_disks items c.loop-disk.nodes.items)) (sym c.push_reserved-in-Err.ensures.items)
    (stays-here c.args.disks.now.items c.pop.new.self.items c.in-Some-pop.disk c.in-Err.disk c.loop-disk.nodes.items (before g (goal.at.returns-in-Err-clause-back g c).In-Some-pop)
    (record { extent = c.in-Err.ensures.extent_err; honest = c.in-Err.ensures.honest; faults = c.in-Err.ensures.faults_err }))

pub returns-in-Err-clause-fault : goal.returns-in-Err-clause-fault
returns-in-Err-clause-fault g c = λ told.
    subst (λ items. total_faults g.D.Disk.faults c.args.disks.now.items < total_faults g.D.Disk.faults (all_disks items c.loop-disk.nodes.items)) (sym c.push_reserved-in-Err.ensures.items)
    (fails-here c.args.disks.now.items c.pop.new.self.items c.in-Some-pop.disk c.in-Err.disk c.loop-disk.nodes.items (before g (goal.at.returns-in-Err-clause-fault g c).In-Some-pop)
    (c.in-Err.ensures.fault (err-known c.in-Err.stop DiskFault told)))
