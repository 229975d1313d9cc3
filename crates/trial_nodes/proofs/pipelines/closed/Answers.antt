use Rattle.trial_nodes.proofs.pipelines.closed.Goals as goal

pub process_upto-requires : goal.process_upto-requires
process_upto-requires c = c.in_ok-pipeline.ensures
