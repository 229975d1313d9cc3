use Rattle.std.proofs.Common.{rules, ◌≡◌, ◌+◌, ◌-◌, ◌++◌, drop, refl, length, subst, ap}
use Rattle.dpc_model.specs.PartStands.{OutputValue}
use Rattle.dpc_model.specs.NodeStates.{is_stable}
use Rattle.dpc_model.specs.Sessions.{stable_items}
use Rattle.soutput.proofs.FirstBatch.{first_batch-is, boundary_of}
use Rattle.soutput.proofs.output.SOutput.first_batch.Goals as goal

pub returns : goal.returns
returns c = λ gone base.
    let counted = subst (λ (v : OutputValue). v.count ≡ v.base + length v.kept) c.self.view_is refl in
    let v = c.args.self.now in
    let boundary : c.boundary.result ≡ boundary_of v = search rules in
    let tentative : c.as_slice.result.now ≡ v.tentative = search rules in
    let passed : c.self.inside.passed ≡ v.passed = ap (λ (o : OutputValue). o.passed) c.self.view_is in
    let stable : c.push_from.new.items.items ≡ c.push_if.new.items.items ++ stable_items c.args.asked.n (drop (c.args.asked.n - v.base) v.kept) = search rules in
    let asked = c.args.asked in
    let done = is_stable c.args.state in
    rw (c.in_ok-push_if-2.ensures, c.in_ok-push_passed.ensures, c.in_ok-push_tentative.ensures, c.in_ok-push_boundary.ensures, stable, c.in_ok-push_if.ensures, c.in_ok-items.ensures.items, boundary, tentative, passed, c.is_done.ensures)
    (first_batch-is gone v done asked base c.requires counted)
