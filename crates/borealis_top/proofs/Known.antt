-- Bytes that move in pieces.
use Rattle.std.proofs.Common.{ℕ, ◌+◌, ◌≤◌, List, ◌++◌, length, ◌∙◌, arith}
use Rattle.std.proofs.lemmas.List.{length-append}
use Rattle.std.proofs.KnownBytes.{Consumes-trans}
use Rattle.dpc_edge.specs.Edges.{Edge, Gave}
use Rattle.borealis_top.specs.Transfers.{GaveAtMost}

-- one piece after another was given
pub Gave-then : (a b c : Edge) (first next : List ℕ) → Gave a b first → Gave b c next → Gave a c (first ++ next)
Gave-then a b c first next p q =
    record { bytes = Consumes-trans a.bytes b.bytes c.bytes first next p.bytes q.bytes; faults = q.faults ∙ p.faults }

-- so was a piece, and then some more bytes
pub Gave-some : (a b c : Edge) (first : List ℕ) (most all : ℕ) → Gave a b first → GaveAtMost most b c → length first + most ≤ all → GaveAtMost all a c
Gave-some a b c first most all p q within =
    record {
      text = first ++ q.text;
      bytes = Consumes-trans a.bytes b.bytes c.bytes first q.text p.bytes q.bytes;
      few = omega (arith, length-append first q.text, q.few, within);
    }
