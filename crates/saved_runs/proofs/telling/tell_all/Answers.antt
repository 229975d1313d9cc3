use Rattle.std.proofs.Common.{◌≡◌, ◌+◌, ◌<◌, ◌++◌, ◌∷◌, [], ℕ, length, vec_len, All, IfOk, Result, sym, ap, subst, ◌∙◌, arith, rules}
use Rattle.std.proofs.lemmas.List.{length-append}
use Rattle.std.specs.List.{AllZip}
use Rattle.dpc_model.specs.Actors.{nodes_of}
use Rattle.law_saves.specs.Saves.{saved_last}
use Rattle.phase_saves.specs.declared.kept.SaveStop.{SaveStop}
use Rattle.phase_saves.specs.declared.kept.SaveStop.TheVariants.{DiskFault}
use Rattle.saved_runs.specs.declared.saved.Saved.{Saved}
use Rattle.saved_runs.specs.Disks.{IsBack, total_faults, all_disks}
use Rattle.saved_runs.specs.Nodes.{IsNodeOf, IsNumbered, IsReady, past_nodes}
use Rattle.saved_runs.specs.Told.{IsSaved}
use Rattle.saved_runs.proofs.Disks.{backs-same, comes-in, fails-out, all-front, err-is}
use Rattle.saved_runs.proofs.Nodes.{node-here, same-node, numbered-popped}
use Rattle.saved_runs.proofs.Told.{told-none, told-step}
use Rattle.saved_runs.proofs.telling.tell_all.Given.{Over}
use Rattle.saved_runs.proofs.telling.tell_all.Goals as goal
use Rattle.saved_runs.proofs.telling.tell_all.Goals.{In-Some}

pub returns-in_default-clause-back : goal.returns-in_default-clause-back
returns-in_default-clause-back g c = backs-same g.D.Disk _

pub loop-node-init : goal.loop-node-init
loop-node-init g c =
    let empty : length c.args.disks.now.items ≡ 0 = ap length c.requires.none in
    let nothing : vec_len c.args.disks.now ≡ length c.args.disks.now.items = search rules in
    let space = c.requires.space in
    let told = c.in-Ok.ensures.len in
    let room = c.in-Ok.ensures.capacity in
    let all = c.len.ensures in
    record {
      back = backs-same g.D.Disk _;
      places = c.requires.places;
      taken = omega (arith, empty, nothing, space);
      space = omega (arith, told, room, all);
      many = omega (arith, empty);
      told = λ events ready numbered all.
          (ready, numbered, told-none g.D.Disk.seen c.args.plan.now c.args.room events (length c.args.plan.now.sources) (nodes_of c.args.plan.now) c.args.disks.now.items c.in-Ok.told.items c.requires.none c.in-Ok.ensures.items);
    }

-- the first node's place
place : (g : Over) (c : In-Some g) → IsNodeOf c.args.plan.now c.args.room c.in-Some.node
place g c =
    (all-front (IsNodeOf c.args.plan.now c.args.room) c.pop.new.self.items c.in-Some.node
    (subst (All (IsNodeOf c.args.plan.now c.args.room)) c.in-Some.ensures.items c.loop-node.invariant.places)).1

-- all disks before it comes in
before : (g : Over) (c : In-Some g) → AllZip (IsBack g.D.Disk) (all_disks c.args.disks.now.items c.args.nodes.now.items) (all_disks c.loop-node.disks.items (c.pop.new.self.items ++ c.in-Some.node ∷ []))
before g c =
    subst (λ items. AllZip (IsBack g.D.Disk) (all_disks c.args.disks.now.items c.args.nodes.now.items) (all_disks c.loop-node.disks.items items)) c.in-Some.ensures.items c.loop-node.invariant.back

pub open_again-saved-requires-clause-place : goal.open_again-saved-requires-clause-place
open_again-saved-requires-clause-place g c = place g (goal.at.open_again-saved-requires-clause-place g c).In-Some

pub returns-in_err-saved-clause-back : goal.returns-in_err-saved-clause-back
returns-in_err-saved-clause-back g c =
    subst (λ items. AllZip (IsBack g.D.Disk) (all_disks c.args.disks.now.items c.args.nodes.now.items) (all_disks items c.pop.new.self.items)) (sym c.push_reserved.ensures.items)
    (comes-in (all_disks c.args.disks.now.items c.args.nodes.now.items) c.loop-node.disks.items c.open_again-saved.result.1 c.pop.new.self.items c.in-Some.node (before g (goal.at.returns-in_err-saved-clause-back g c).In-Some)
    c.open_again-saved.ensures.back)

pub returns-in_err-saved-clause-fault : goal.returns-in_err-saved-clause-fault
returns-in_err-saved-clause-fault g c = λ told.
    subst (λ items. total_faults g.D.Disk.faults (all_disks c.args.disks.now.items c.args.nodes.now.items) < total_faults g.D.Disk.faults (all_disks items c.pop.new.self.items)) (sym c.push_reserved.ensures.items)
    (fails-out (all_disks c.args.disks.now.items c.args.nodes.now.items) c.loop-node.disks.items c.open_again-saved.result.1 c.pop.new.self.items c.in-Some.node (before g (goal.at.returns-in_err-saved-clause-fault g c).In-Some)
    (c.open_again-saved.ensures.fault (c.in_err-saved.was ∙ err-is c.from_residual.result c.in_err-saved.field-0.0 DiskFault c.from_residual.ensures.1 told)))

pub loop-node-preserved : goal.loop-node-preserved
loop-node-preserved g c =
    let plan = c.args.plan.now in
    let inv = c.loop-node.invariant in
    let ns = c.pop.new.self.items in
    let n = c.in-Some.node in
    let ds = c.loop-node.disks.items in
    let d = c.open_again-saved.result.1 in
    let s = c.in_ok-saved.field-0 in
    let old : c.loop-node.nodes.items ≡ ns ++ n ∷ [] = c.in-Some.ensures.items in
    let pushed : c.push_reserved.new.self.items ≡ ds ++ d ∷ [] = c.push_reserved.ensures.items in
    let said : c.push_reserved-in-Some.new.self.items ≡ c.loop-node.told.items ++ s ∷ [] = c.push_reserved-in-Some.ensures.items in
    let one : length c.loop-node.nodes.items ≡ length ns + 1 = ap length old ∙ length-append ns (n ∷ []) in
    let other : length c.push_reserved.new.self.items ≡ length ds + 1 = ap length pushed ∙ length-append ds (d ∷ []) in
    let less = c.in-Some.ensures.cases in
    let more = c.push_reserved.ensures.len in
    let more_room = c.push_reserved.ensures.capacity in
    let told = c.push_reserved-in-Some.ensures.len in
    let told_room = c.push_reserved-in-Some.ensures.capacity in
    let taken = inv.taken in
    let space = inv.space in
    let many = inv.many in
    let p = place g (goal.at.loop-node-preserved g c).In-Some in
    record {
      back =
          subst (λ items. AllZip (IsBack g.D.Disk) (all_disks c.args.disks.now.items c.args.nodes.now.items) (all_disks items ns)) (sym pushed)
          (comes-in (all_disks c.args.disks.now.items c.args.nodes.now.items) ds d ns n (before g (goal.at.loop-node-preserved g c).In-Some) c.open_again-saved.ensures.back);
      places = (all-front (IsNodeOf plan c.args.room) ns n (subst (All (IsNodeOf plan c.args.room)) old inv.places)).0;
      taken = omega (arith, taken, less, more, more_room);
      space = omega (arith, space, less, told, told_room);
      many = omega (arith, many, one, other);
      told = λ events ready numbered all.
          let t = inv.told events ready numbered all in
          let r = all-front (IsReady plan events) ns n (subst (All (IsReady plan events)) old t.0) in
          let m = numbered-popped (past_nodes plan) ns n (subst (IsNumbered (past_nodes plan)) old t.1) in
          let last = m.1 in
          let at : n.actor ≡ length plan.sources + length ds = omega (arith, last, many, one, all) in
          let here = node-here plan n.actor (length ds) at (omega (arith, many, one, all)) in
          let same = same-node n.frag p.replica here.0 (sym p.role ∙ here.2) in
          let is = subst (λ (q : Result Saved SaveStop). IfOk q (IsSaved plan c.args.room (n.frag, p.replica) (g.D.Disk.seen d) (saved_last plan events n.actor))) c.in_ok-saved.was
          (c.open_again-saved.ensures.told p.replica (saved_last plan events n.actor) r.1.rests (r.1.has p.replica p.role)) in
          let whole : IsSaved plan c.args.room here.0 (g.D.Disk.seen d) (saved_last plan events (length plan.sources + length ds)) s
          = subst (λ a. IsSaved plan c.args.room here.0 (g.D.Disk.seen d) (saved_last plan events a) s) at (subst (λ (q : ℕ × ℕ). IsSaved plan c.args.room q (g.D.Disk.seen d) (saved_last plan events n.actor) s) same is) in
          let step = told-step g.D.Disk.seen plan c.args.room events (length plan.sources) (nodes_of plan) ds c.loop-node.told.items here.0 d s here.1 t.2 whole in
          (r.0, m.0, rw (pushed, said) step);
    }
