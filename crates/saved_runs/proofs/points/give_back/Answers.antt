use Rattle.std.proofs.Common.{◌++◌, ◌∷◌, [], sym, ap, ◌∙◌, arith}
use Rattle.saved_runs.specs.Disks.{all_disks}
use Rattle.saved_runs.proofs.Disks.{given-back}
use Rattle.saved_runs.proofs.points.give_back.Goals as goal

pub loop-node-preserved : goal.loop-node-preserved
loop-node-preserved g c =
    let ns = c.pop.new.self.items in
    let ds = c.loop-node.disks.items in
    let space = c.loop-node.invariant.space in
    let more = c.push_reserved.ensures.len in
    let same = c.push_reserved.ensures.capacity in
    let less = c.in-Some.ensures.cases in
    record {
      space = omega (arith, space, more, same, less);
      disks = ap (λ items. all_disks items ns) (c.push_reserved.ensures.items ∙ ap (λ d. ds ++ d ∷ []) c.into_disk.ensures) ∙ given-back ds ns c.in-Some.node
          ∙ ap (λ items. all_disks ds items) (sym c.in-Some.ensures.items) ∙ c.loop-node.invariant.disks;
    }
