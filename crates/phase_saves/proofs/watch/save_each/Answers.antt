use Rattle.std.proofs.Common.{◌≡◌, ◌+◌, ◌<◌, length, vec_len, arith, rules}
use Rattle.phase_saves.specs.Nodes.{IsSame, Saves}
use Rattle.phase_saves.proofs.Listing.{gone-none, gone-next, gone-all, gone-still, gone-length}
use Rattle.phase_saves.proofs.Nodes.{same-still, rose-at, err-is}
use Rattle.phase_saves.proofs.watch.save_each.Goals as goal

pub loop-i-init : goal.loop-i-init
loop-i-init g c = record { same = gone-none IsSame c.args.nodes.now.items; saves = gone-none (Saves c.args.world.now) c.args.nodes.now.items }

pub index_mut-requires : goal.index_mut-requires
index_mut-requires g c =
    let many = gone-length IsSame c.args.nodes.now.items c.loop-i.nodes.items c.loop-i.i c.loop-i.invariant.same in
    let whole : vec_len c.loop-i.nodes ≡ length c.loop-i.nodes.items = search rules in
    let first : vec_len c.args.nodes.now ≡ length c.args.nodes.now.items = search rules in
    omega (arith, many, whole, first, c.loop-i-test.true, c.len-i-end.ensures)

pub returns-in_err-save-clause-same : goal.returns-in_err-save-clause-same
returns-in_err-save-clause-same g c =
    let many = gone-length IsSame c.args.nodes.now.items c.loop-i.nodes.items c.loop-i.i c.loop-i.invariant.same in
    let first : vec_len c.args.nodes.now ≡ length c.args.nodes.now.items = search rules in
    let low : c.loop-i.i < length c.loop-i.nodes.items = omega (arith, many, first, c.loop-i-test.true, c.len-i-end.ensures) in
    gone-still IsSame same-still c.args.nodes.now.items _ (c.loop-i.i + 1)
    (gone-next IsSame c.args.nodes.now.items c.loop-i.nodes.items c.loop-i.i c.index_mut.result.now c.save.new.self c.loop-i.invariant.same low c.index_mut.ensures.value c.save.ensures.same)

pub returns-in_err-save-clause-fault : goal.returns-in_err-save-clause-fault
returns-in_err-save-clause-fault g c = λ told.
    let many = gone-length IsSame c.args.nodes.now.items c.loop-i.nodes.items c.loop-i.i c.loop-i.invariant.same in
    let first : vec_len c.args.nodes.now ≡ length c.args.nodes.now.items = search rules in
    let low : c.loop-i.i < length c.loop-i.nodes.items = omega (arith, many, first, c.loop-i-test.true, c.len-i-end.ensures) in
    rose-at IsSame c.args.nodes.now.items c.loop-i.nodes.items c.loop-i.i c.index_mut.result.now c.save.new.self c.loop-i.invariant.same low c.index_mut.ensures.value
    ((c.in_err-save.ensures {u = tt}).fault (err-is c.from_residual.result _ _ c.from_residual.ensures.1 told))

pub loop-i-preserved : goal.loop-i-preserved
loop-i-preserved g c =
    let many = gone-length IsSame c.args.nodes.now.items c.loop-i.nodes.items c.loop-i.i c.loop-i.invariant.same in
    let first : vec_len c.args.nodes.now ≡ length c.args.nodes.now.items = search rules in
    let low : c.loop-i.i < length c.loop-i.nodes.items = omega (arith, many, first, c.loop-i-test.true, c.len-i-end.ensures) in
    let run = c.args.world.now in
    record {
      same = gone-next IsSame c.args.nodes.now.items c.loop-i.nodes.items c.loop-i.i c.index_mut.result.now c.save.new.self c.loop-i.invariant.same low c.index_mut.ensures.value c.save.ensures.same;
      saves =
          gone-next (Saves run) c.args.nodes.now.items c.loop-i.nodes.items c.loop-i.i c.index_mut.result.now c.save.new.self c.loop-i.invariant.saves low c.index_mut.ensures.value
          (c.in_ok-save.ensures {u = tt}).saves;
    }

pub returns-clause-same : goal.returns-clause-same
returns-clause-same g c = gone-still IsSame same-still c.args.nodes.now.items c.loop-i.nodes.items c.loop-i.i c.loop-i.invariant.same

pub returns-clause-saves : goal.returns-clause-saves
returns-clause-saves g c =
    let many = gone-length IsSame c.args.nodes.now.items c.loop-i.nodes.items c.loop-i.i c.loop-i.invariant.same in
    let first : vec_len c.args.nodes.now ≡ length c.args.nodes.now.items = search rules in
    gone-all (Saves c.args.world.now) c.args.nodes.now.items c.loop-i.nodes.items c.loop-i.i c.loop-i.invariant.saves
    (omega (arith, many, first, c.loop-i-test.false, c.len-i-end.ensures))
