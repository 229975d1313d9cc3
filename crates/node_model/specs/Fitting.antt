-- What a step needs of its plain node and of what comes to it: facts that every run keeps.
use Rattle.std.specs.Prelude.{⊤, ◌≡◌, ℕ, ◌*◌, ◌^◌, ◌<◌, ◌≤◌, true, List, length, map, All, Some}
use Rattle.dpc_model.specs.Streams.{InOrder}
use Rattle.dpc_model.specs.Inlets.{InletState}
use Rattle.dpc_model.specs.Parts.{Inputs, frontier_of, done_in, AreInOrder, ArePastBounds}
use Rattle.dpc_model.specs.Sessions.{Acked}
use Rattle.dpc_model.specs.declared.tuples.Tuple.{Tuple}
use Rattle.dpc_model.specs.declared.messages.Message.{Message}
use Rattle.dpc_model.specs.declared.messages.Message.TheVariants as message
use Rattle.dpc_model.specs.Engines.{AcceptsAll}
use Rattle.node_model.specs.Mails.{Snap, Packet, Plain, SnapFor}
use Rattle.node_model.specs.Nodes.{Home, streams_of, own_readers, buckets_of, PlainNode}
use Rattle.node_model.specs.NodeSteps.{on_message, with_marks_ended}
use Rattle.node_model.specs.NodeParts.{inputs_of}

-- each port's stable tuples are in order of time, its bound lies between the cursor's bucket and the end of the run, and its tentative
-- tuples lie past it; the closed buckets stand in their places, none of them past the end
pub record AreFitInputs (width buckets end : ℕ) (x : Inputs) : Type 0 where
  pub ordered : AreInOrder x
  pub past : ArePastBounds x
  pub reached : All (λ (i : InletState). x.cursor * width ≤ i.held.bound) x.inlets
  pub within : All (λ (i : InletState). i.held.bound ≤ end) x.inlets
  pub placed : AcceptsAll (Some width) x.cursor x.closed
  pub frontier : frontier_of x ≤ buckets

-- a node with such inputs; while it recovers nobody has acknowledged anything
pub record IsFit (home : Home) (p : PlainNode) : Type 0 where
  pub end : home.plan.end < 2 ^ 63
  pub inputs : AreFitInputs home.plan.width (buckets_of home.plan) home.plan.end (inputs_of p)
  pub ports : length p.ports ≡ length (streams_of home)
  pub readers : length p.subs ≡ length (own_readers home)
  pub silent : p.recovering ≡ true → p.acks ≡ map (λ (a : Acked). (0, 0)) p.acks

-- a snapshot of such a node
pub record IsFitSnap (home : Home) (s : Snap) : Type 0 where
  pub ports : length s.inputs ≡ length (streams_of home)
  pub ordered : All InOrder s.inputs
  pub below : All (λ (ts : List Tuple). All (λ (t : Tuple). t.stime < s.cursor * home.plan.width) ts) s.inputs
  pub end : s.cursor * home.plan.width ≤ home.plan.end

-- a batch adds no stable tuple below the cursor's bucket
abbrev pub IsFitMessage : Home → ℕ → PlainNode → Message → Type 0
IsFitMessage home sender p (message.Batch s index items) =
    done_in home.plan.width (inputs_of (on_message home sender (message.Batch s index items) p).after) ≡ done_in home.plan.width (inputs_of p)
IsFitMessage home sender p (message.Subscribe asked) = ⊤
IsFitMessage home sender p (message.Truncated s base) = ⊤
IsFitMessage home sender p (message.Beat b) = ⊤
IsFitMessage home sender p (message.Ack i n) = ⊤
IsFitMessage home sender p (message.Ask i n) = ⊤
IsFitMessage home sender p (message.Grant i n) = ⊤
IsFitMessage home sender p (message.SnapAsk i n) = ⊤

-- what may come to a node, which ends the marks that it has reached before it takes it
abbrev pub IsFitPacket : Home → ℕ → PlainNode → Packet → Type 0
IsFitPacket home sender p (Plain m) = IsFitMessage home sender (with_marks_ended p) m
IsFitPacket home sender p (SnapFor inc try s) = IsFitSnap home s
