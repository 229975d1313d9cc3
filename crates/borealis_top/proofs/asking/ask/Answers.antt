-- What an input comes to is told.
use Rattle.borealis_top.proofs.Asked.{told-EndsBy, told-IsWholeFor}
use Rattle.borealis_top.proofs.asking.ask.Goals as goal

pub returns-in-Ok-clause-ends : goal.returns-in-Ok-clause-ends
returns-in-Ok-clause-ends g c =
    let ok = c.in-Ok.ensures.ok in
    told-EndsBy (g.A.Inquiry.question c.args.what.now) (g.S.Source.edge c.args.input.now) (g.S.Source.edge c.outcome_of.new.input) (g.O.Sink.edge c.args.out.now) (g.O.Sink.edge c.tell.new.out)
    (g.E.Sink.edge c.args.err.now) (g.E.Sink.edge c.tell.new.err) c.tell.result ok.0 ok.1 (c.tell.ensures ok.0 ok.2)

pub returns-in-Ok-clause-complete : goal.returns-in-Ok-clause-complete
returns-in-Ok-clause-complete g c =
    let ok = c.in-Ok.ensures.ok in
    told-IsWholeFor (g.A.Inquiry.question c.args.what.now) c.is_sound.ensures (g.S.Source.edge c.args.input.now) (g.S.Source.edge c.outcome_of.new.input) (g.O.Sink.edge c.args.out.now) (g.O.Sink.edge c.tell.new.out)
    (g.E.Sink.edge c.args.err.now) (g.E.Sink.edge c.tell.new.err) c.tell.result ok.0 ok.1 (c.tell.ensures ok.0 ok.2)
