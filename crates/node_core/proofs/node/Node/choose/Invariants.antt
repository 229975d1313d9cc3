use Rattle.std.proofs.Common.{◌≡◌, length}
use Rattle.node_core.proofs.ChosenAll.{HasChosen}
use Rattle.node_core.proofs.node.Node.choose.Given as goal

abbrev pub invariant-loop-port : goal.invariant-loop-port
invariant-loop-port l = record {
  chosen : HasChosen l.port l.fn.self l.self l.mails.items;
  many : length l.self.links.known.upstreams ≡ length l.fn.self.links.known.upstreams;
  spent : l.self.spent ≡ l.fn.self.spent;
}
