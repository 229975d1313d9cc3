use Rattle.std.proofs.Common.{◌∙◌, ◌+◌, ◌*◌, ap, sym, subst, List}
use Rattle.dpc_model.specs.Streams.{InOrder, cut}
use Rattle.dpc_model.specs.Engines.{from_time}
use Rattle.dpc_model.specs.declared.tuples.Tuple.{Tuple}
use Rattle.dpc_model.specs.declared.plans.StreamRef.{StreamRef}
use Rattle.ideal_run.specs.Buckets.{bucket_of}
use Rattle.ideal_run.proofs.Streams.{ideal-log, log-ordered, rest-ordered}
use Rattle.ideal_run.proofs.Mills.{numbered-bucket}
use Rattle.ideal_run.proofs.inputs.bucket_of.Goals as goal

pub from-rest-requires : goal.from-rest-requires
from-rest-requires c = subst InOrder (sym c.log.ensures) (log-ordered c.args.plan.now c.in-Source.source c.requires.plan)

pub below-requires : goal.below-requires
below-requires c =
    subst InOrder (sym (c.from-rest.ensures ∙ ap (λ (ts : List Tuple). from_time (c.args.k * c.args.plan.now.width) ts) c.log.ensures))
    (rest-ordered (c.args.k * c.args.plan.now.width) _ (log-ordered c.args.plan.now c.in-Source.source c.requires.plan))

pub returns-in-Source : goal.returns-in-Source
returns-in-Source c =
    let plan = c.args.plan.now in
    let k = c.args.k in
    c.below.ensures
    ∙ ap (λ (ts : List Tuple). cut ts ((k + 1) * plan.width)) (c.from-rest.ensures ∙ ap (λ (ts : List Tuple). from_time (k * plan.width) ts) (c.log.ensures ∙ sym (ideal-log plan c.in-Source.source c.requires.plan)))
    ∙ ap (λ (s : StreamRef). bucket_of plan k s) (sym c.in-Source.is)

pub returns-in-Frag : goal.returns-in-Frag
returns-in-Frag c =
    c.numbered.ensures ∙ numbered-bucket c.args.plan.now c.args.k c.args.outputs.now c.in-Frag.frag c.requires.outputs (c.requires.there c.in-Frag.frag c.in-Frag.is)
    ∙ ap (λ (s : StreamRef). bucket_of c.args.plan.now c.args.k s) (sym c.in-Frag.is)
