use Rattle.std.proofs.Common.{refl, sym, subst}
use Rattle.pipeline.specs.Flowing.{PipelineValue, StandsForData, IsUndone, IsSetAs}
use Rattle.pipeline.specs.contracts.pipeline.Pipeline.{the_view}
use Rattle.pipeline.proofs.Wholes.{undone, same-undone}
use Rattle.pipeline.proofs.pipeline.Pipeline.undo.Goals as goal

pub returns-clause-fixed : goal.returns-clause-fixed
returns-clause-fixed c =
    let p = c.self.inside in
    subst (λ (v : PipelineValue). IsSetAs v (record { union = c.undo.new.self; keeper = c.restore.new.self; output = c.undo-2.new.self; passing = p.passing })) c.self.view_is
    (record { inputs = same-undone p.inputs c.undo.new.self c.undo.ensures; marks = refl })

pub returns-clause-undone : goal.returns-clause-undone
returns-clause-undone c = λ ops x o h.
    let p = c.self.inside in
    let told = c.in_ok-sends.sends.items in
    let stood = subst (λ (v : PipelineValue). StandsForData ops v x o) (sym c.self.view_is) h in
    subst (λ (v : PipelineValue). IsUndone ops v (record { union = c.undo.new.self; keeper = c.restore.new.self; output = c.undo-2.new.self; passing = p.passing }) x o told) c.self.view_is
    (undone ops (the_view p) c.undo.new.self c.restore.new.self c.undo-2.new.self x o told stood c.undo.ensures c.restore.ensures.held c.restore.ensures.none c.in_ok-sends.ensures.sends c.in_ok-sends.ensures.after)
