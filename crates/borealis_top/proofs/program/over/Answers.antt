-- The words are those of the process, and what comes of them is what `borealis` makes of them.
use Rattle.std.proofs.Common.{inl, inr, ap, [], map, string_bytes}
use Rattle.borealis_top.proofs.program.over.Goals as goal
use Rattle.borealis_top.proofs.program.over.Goals.{in-Ok, in-Err}

pub returns : goal.returns
returns g c =
    let source = g.S.Source in
    let text = g.O.Sink in
    let line = g.E.Sink in
    elim c.match-words.branch [
      | in-Ok w ↦
          record {
            words = map string_bytes w.as_slice-words.result.now;
            status = c.match-words.status;
            code = c.exit.ensures;
            ends = inl (rw (w.input-is, w.out-is, w.err-is, w.status-is) w.borealis-status.ensures);
          }
      | in-Err w ↦
          record {
            words = [];
            status = c.match-words.status;
            code = c.exit.ensures;
            ends = inr (w.status-is, ap source.edge w.input-is, ap text.edge w.out-is, ap line.edge w.err-is);
          }
    ]
