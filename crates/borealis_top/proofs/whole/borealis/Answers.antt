-- Words that ask for a run by several threads end as that does, and all others as `plain` does.
use Rattle.std.proofs.Common.{◌≡◌, ◌∙◌, None, Some, ap, sym, map, string_bytes}
use Rattle.borealis_top.specs.Commands.{live_of}
use Rattle.borealis_top.proofs.Commands.{plain-ends}
use Rattle.borealis_top.proofs.Words.{live-range}
use Rattle.borealis_top.proofs.whole.borealis.Goals as goal

pub run_live-requires-clause-some : goal.run_live-requires-clause-some
run_live-requires-clause-some g c κs within = (live-range (map string_bytes c.args.words.now) c.in-Some.command (sym c.live_in.ensures ∙ c.in-Some.is)).workers.0

pub run_live-requires-clause-few : goal.run_live-requires-clause-few
run_live-requires-clause-few g c κs within = (live-range (map string_bytes c.args.words.now) c.in-Some.command (sym c.live_in.ensures ∙ c.in-Some.is)).workers.1

pub run_live-requires-clause-beside : goal.run_live-requires-clause-beside
run_live-requires-clause-beside g c κs within = (live-range (map string_bytes c.args.words.now) c.in-Some.command (sym c.live_in.ensures ∙ c.in-Some.is)).beside

pub returns-in-None : goal.returns-in-None
returns-in-None g c =
    let source = g.S.Source in
    let text = g.O.Sink in
    let line = g.E.Sink in
    let done = c.plain in
    let none : live_of (map string_bytes c.args.words.now) ≡ None = sym c.live_in.ensures ∙ c.in-None.is in
    rw none
    (plain-ends _ _ (source.edge c.args.input.now) (source.edge done.new.input) (text.edge c.args.out.now) (text.edge done.new.out) (line.edge c.args.err.now)
    (line.edge done.new.err) done.result
    (λ e no. let h = done.ensures.words e no in (h.0, ap text.edge h.1, ap source.edge h.2))
    (λ e. let h = done.ensures.help e in (h.0, ap line.edge h.1, ap source.edge h.2))
    (λ e. let h = done.ensures.reasons e in (h.0, ap line.edge h.1, ap source.edge h.2))
    (λ e. let h = done.ensures.version e in (h.0, ap line.edge h.1, ap source.edge h.2))
    (λ seed e. let h = done.ensures.made seed e in (h.0, ap line.edge h.1, ap source.edge h.2))
    (λ reading e. (done.ensures.read reading e, done.ensures.complete reading e))
    (λ what e. (done.ensures.journal what e, done.ensures.answered what e))
    (λ e. (done.ensures.saves e, done.ensures.saved e))
    (λ form e. (done.ensures.picture form e, done.ensures.pictured form e))
    (λ form e. (done.ensures.replay_picture form e, done.ensures.replay_pictured form e))
    (λ names e. (done.ensures.pair names.0 names.1 e, done.ensures.paired names.0 names.1 e)))

pub returns-in-Some : goal.returns-in-Some
returns-in-Some g c =
    let some : live_of (map string_bytes c.args.words.now) ≡ Some c.in-Some.command = sym c.live_in.ensures ∙ c.in-Some.is in
    rw some (c.run_live.ensures.ends, c.run_live.ensures.complete)
