use Rattle.std.proofs.Common.{sym, ◌∙◌}
use Rattle.ideal_run.proofs.Lines.{took-no_more, took-one, took-stop}
use Rattle.ideal_run.proofs.numbering.LinesRowSink.give.Goals as goal

pub returns-then-is_some : goal.returns-then-is_some
returns-then-is_some g c = λ start begin before h.
    let self = c.args.self.now in
    took-no_more start.text.items start.count self.fault (sym c.is_some.ensures ∙ c.if-is_some.true) (g.K.Sink.edge begin) (g.K.Sink.edge c.args.out.now) before c.args.row.now self.text.items self.count h

pub returns-in-Ok : goal.returns-in-Ok
returns-in-Ok g c = λ start begin before h.
    let self = c.args.self.now in
    took-one start.text.items start.count self.fault (sym c.is_some.ensures ∙ c.if-is_some.false) (g.K.Sink.edge begin) (g.K.Sink.edge c.args.out.now) (g.K.Sink.edge c.put_row.new.out) before c.args.row.now self.text.items c.put_row.new.text.items
    self.count c.in-Ok.next c.in-Ok.ensures.next c.in-Ok.ensures.way h

pub returns-in-Err : goal.returns-in-Err
returns-in-Err g c = λ start begin before h.
    let self = c.args.self.now in
    took-stop start.text.items start.count self.fault (sym c.is_some.ensures ∙ c.if-is_some.false) c.in-Err.why (g.K.Sink.edge begin) (g.K.Sink.edge c.args.out.now) (g.K.Sink.edge c.put_row.new.out) before c.args.row.now self.text.items self.count
    c.in-Err.ensures.err h
