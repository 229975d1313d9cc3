use Rattle.trial_nodes.proofs.pipelines.counts.Goals as goal

pub work-requires : goal.work-requires
work-requires c = let e = c.in_ok-pipeline.ensures.1 in (e.0, e.1, e.2, e.3)
