-- A good node is fit.
use Rattle.std.proofs.Common.{◌≡◌, ℕ, ◌*◌, ◌^◌, ◌<◌, ◌≤◌, true, ◌==◌, List, [], ◌∷◌, map, refl, ap, sym, ◌∙◌, arith}
use Rattle.std.proofs.lemmas.List.{length-map}
use Rattle.dpc_lists.specs.Lists.{list_all}
use Rattle.dpc_model.specs.Streams.{InOrder}
use Rattle.dpc_model.specs.Reading.{Reader}
use Rattle.dpc_model.specs.Ports.{held_at}
use Rattle.dpc_model.specs.Sessions.{Acked}
use Rattle.node_model.specs.Nodes.{Home, PlainNode, streams_of, held_by, buckets_of}
use Rattle.node_model.specs.NodeParts.{inputs_of}
use Rattle.world_model.specs.Orderly.{port_columns}
use Rattle.law_safety.specs.Plans.{IsChecked}
use Rattle.dpc_lists.proofs.Truths.{both, eq-of}
use Rattle.law_safety.proofs.Closing.{closed-of}
use Rattle.law_safety.proofs.Processing.{holds-length}
use Rattle.law_safety.proofs.Frames.{IsGood}
use Rattle.law_safety.proofs.Emptied.{shape-of, no_ack, emptied-of}
use Rattle.node_model.specs.Fitting.{AreFitInputs, IsFit}
use Rattle.law_fit.proofs.Readers.{IsPast, inlets-all, holding-each, held-ordered, reaching-each, past-each, good-reaches}
use Rattle.law_fit.proofs.Placed.{placed-accepted}

no-acks : (acks : List Acked) → list_all no_ack acks ≡ true → acks ≡ map (λ (a : Acked). (0, 0)) acks
no-acks [] h = refl
no-acks (a ∷ acks) h =
    let k = both (no_ack a) (list_all no_ack acks) h in
    let e = both (a.0 == 0) (a.1 == 0) k.0 in
    first a (eq-of a.0 0 e.0) (eq-of a.1 0 e.1) (no-acks acks k.1)
  where
    first : (x : Acked) → x.0 ≡ 0 → x.1 ≡ 0 → acks ≡ map (λ (a : Acked). (0, 0)) acks → x ∷ acks ≡ (0, 0) ∷ map (λ (a : Acked). (0, 0)) acks
    first (i, n) e f rest = rw (e, f) (ap (λ (xs : List Acked). (0, 0) ∷ xs) rest)

inputs-fit : (home : Home) (most : ℕ) (n : PlainNode) → IsChecked home.plan → home.plan.end < 2 ^ 63 → IsGood home most n →
    AreFitInputs home.plan.width (buckets_of home.plan) home.plan.end (inputs_of n)
inputs-fit home most n checked low g =
    let closed = closed-of home n g.orderly.closed in
    let holds = g.safe.inputs in
    record {
      ordered = inlets-all (λ (r : Reader). InOrder r.stable) n.ports
          (holding-each home.plan (λ (r : Reader). InOrder r.stable) (streams_of home) (held_by n) (λ s r h. held-ordered home.plan s r checked.sound h) holds);
      past = inlets-all IsPast n.ports (past-each home.plan n.grants.inc most (streams_of home) n.ports g.orderly.ports);
      reached = inlets-all (λ (r : Reader). n.cursor * home.plan.width ≤ r.bound) n.ports (reaching-each (n.cursor * home.plan.width) (held_by n) (good-reaches home most n g));
      within = inlets-all (λ (r : Reader). r.bound ≤ home.plan.end) n.ports
          (holding-each home.plan (λ (r : Reader). r.bound ≤ home.plan.end) (streams_of home) (held_by n) (λ s r h. h.within) holds);
      placed = placed-accepted home.plan.width (port_columns home) n.cursor 0 n.cursor home.plan.end n.closed (omega arith) low closed.within closed.placed;
      frontier = closed.within;
    }

pub good-fit : (home : Home) (most : ℕ) (n : PlainNode) → IsChecked home.plan → home.plan.end < 2 ^ 63 → IsGood home most n → IsFit home n
good-fit home most n checked low g =
    record {
      end = low;
      inputs = inputs-fit home most n checked low g;
      ports = sym (length-map n.ports held_at) ∙ holds-length home.plan (streams_of home) (held_by n) g.safe.inputs;
      readers = (shape-of home most n g.orderly.shape).subs;
      silent = λ down. no-acks n.acks (emptied-of n down g.orderly.recovering).acks;
    }
