-- What an input comes to is told.
use Rattle.borealis_top.proofs.Lived.{told-LiveEnds, told-LiveIsWhole}
use Rattle.borealis_top.proofs.live.run_live.Goals as goal

pub returns-in-Ok-clause-ends : goal.returns-in-Ok-clause-ends
returns-in-Ok-clause-ends g c =
    let ok = c.in-Ok.ensures.ok in
    told-LiveEnds c.args.command (g.S.Source.edge c.args.input.now) (g.S.Source.edge c.outcome_of.new.input) (g.O.Sink.edge c.args.out.now) (g.O.Sink.edge c.tell.new.out)
    (g.E.Sink.edge c.args.err.now) (g.E.Sink.edge c.tell.new.err) c.tell.result ok.0 ok.1 (c.tell.ensures c.args.command ok.0 ok.2)

pub returns-in-Ok-clause-complete : goal.returns-in-Ok-clause-complete
returns-in-Ok-clause-complete g c =
    let ok = c.in-Ok.ensures.ok in
    told-LiveIsWhole c.args.command (g.S.Source.edge c.args.input.now) (g.S.Source.edge c.outcome_of.new.input) (g.O.Sink.edge c.args.out.now) (g.O.Sink.edge c.tell.new.out)
    (g.E.Sink.edge c.args.err.now) (g.E.Sink.edge c.tell.new.err) c.tell.result ok.0 ok.1 (c.tell.ensures c.args.command ok.0 ok.2)
