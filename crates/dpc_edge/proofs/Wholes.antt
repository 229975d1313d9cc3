-- Texts that are taken piece by piece.
use Rattle.std.proofs.Common.{◌≡◌, ℕ, ◌+◌, ◌-◌, List, length, take, drop, ◌∙◌}
use Rattle.std.proofs.Math.Seq.{take-add, take-length}
use Rattle.std.proofs.lemmas.List.{length-drop}
use Rattle.std.proofs.KnownBytes.{Appends-trans}
use Rattle.dpc_edge.specs.Edges.{Edge, Took}

-- the next bytes of a text, from place i on, were taken behind those before it
pub Took-next : (a b c : Edge) (i n : ℕ) (text : List ℕ) → Took a b (take i text) →
    Took b c (take n (take (length text - i) (drop i text))) → Took a c (take (i + n) text)
Took-next a b c i n text p q =
    let whole : take (length text - i) (drop i text) ≡ drop i text = rw (← length-drop i text) (take-length (drop i text)) in
    record {
      bytes = rw take-add (Appends-trans a.bytes b.bytes c.bytes (take i text) (take n (drop i text)) p.bytes (rw whole at q.bytes));
      faults = q.faults ∙ p.faults;
    }
