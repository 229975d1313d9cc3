use Rattle.std.proofs.Common.{rules, ◌≡◌, ◌++◌, ◌∷◌, [], List, subst, sym}
use Rattle.dpc_model.specs.declared.tuples.Tuple.{Tuple}
use Rattle.pipeline.specs.Running.{HasRun}
use Rattle.pipeline.proofs.OneMore.{run-more}
use Rattle.pipeline.proofs.running.run.Goals as goal

pub returns-clause-ran : goal.returns-clause-ran
returns-clause-ran c = λ ops width first before buckets h.
    let ahead = c.in-Ok.ensures in
    let out = c.in-Ok.output in
    let old = c.args.keeper.now.keeper.state in
    let new = c.ahead.new.self.keeper.state in
    let bucket = c.args.bucket.now in
    let appended : c.append.new.outputs.items ≡ c.args.outputs.now.items ++ out = search rules in
    subst (λ (ts : List Tuple). HasRun ops width new before (buckets ++ bucket ∷ []) first ts) (sym appended)
    (run-more ops width first c.args.k old new before bucket buckets c.args.outputs.now.items out c.requires.next ahead.operators ahead.width ahead.fresh ahead.answer ahead.after h)
