-- Steps of a node that leave what its readers hold.
use Rattle.std.proofs.Common.{◌≡◌, ℕ, ◌+◌, ◌*◌, Bool, true, ◌&&◌, List, [], ◌∷◌, ◌++◌, map, length, refl, sym, ap, ◌∙◌}
use Rattle.std.proofs.lemmas.List.{length-map}
use Rattle.dpc_lists.specs.Lists.{list_all}
use Rattle.dpc_model.specs.Streams.{cut}
use Rattle.dpc_model.specs.Operators.{all_of}
use Rattle.dpc_model.specs.Fragments.{serial, fragment_value}
use Rattle.dpc_model.specs.Reading.{Reader}
use Rattle.dpc_model.specs.Replicas.{after_tick, after_count}
use Rattle.dpc_model.specs.Ports.{Port, held_at, without_ended_marks, port_after_tick}
use Rattle.dpc_model.specs.declared.tuples.Tuple.{Tuple}
use Rattle.dpc_model.specs.declared.tuples.Tagged.{Tagged}
use Rattle.dpc_model.specs.declared.plans.Plan.{Plan}
use Rattle.dpc_model.specs.declared.plans.StreamRef.{StreamRef}
use Rattle.node_model.specs.Nodes.{Home, PlainNode, spec_of, streams_of, held_by, inputs_done, node_frontier, out_stable, out_with_closed, out_tentative}
use Rattle.node_model.specs.NodeSteps.{after_clock, with_marks_ended}
use Rattle.world_model.specs.Safe.{IsSafeNode}
use Rattle.world_model.specs.Orderly.{IsOrderlyNode, is_port_sound, are_ports_sound, waits_to_ask, holds_nothing}
use Rattle.dpc_lists.proofs.Truths.{both, both-of}

-- a node that is safe and orderly
pub record IsGood (home : Home) (most : ℕ) (n : PlainNode) : Type 0 where
  pub safe : IsSafeNode home n
  pub orderly : IsOrderlyNode home most n

-- ---- what depends on the readers alone

inputs-by-held : (b : ℕ) (ports : List Port) → map (λ (p : Port). cut p.inlet.held.stable b) ports ≡ map (λ (r : Reader). cut r.stable b) (map held_at ports)
inputs-by-held b [] = refl
inputs-by-held b (p ∷ ports) = ap (λ (tss : List (List Tuple)). cut p.inlet.held.stable b ∷ tss) (inputs-by-held b ports)

pub inputs_done-held : (home : Home) (n m : PlainNode) → held_by m ≡ held_by n → m.cursor ≡ n.cursor → inputs_done home m ≡ inputs_done home n
inputs_done-held home n m held cursor =
    rw (inputs-by-held (m.cursor * home.plan.width) m.ports, inputs-by-held (n.cursor * home.plan.width) n.ports, held, cursor) refl

pub out_stable-held : (home : Home) (n m : PlainNode) → held_by m ≡ held_by n → m.cursor ≡ n.cursor → out_stable home m ≡ out_stable home n
unfolding out_stable
out_stable-held home n m held cursor =
    ap (λ (tss : List (List Tuple)). fragment_value (spec_of home).ops (serial tss) (m.cursor * home.plan.width)) (inputs_done-held home n m held cursor)
    ∙ ap (λ (c : ℕ). fragment_value (spec_of home).ops (serial (inputs_done home n)) (c * home.plan.width)) cursor

pub out_with_closed-held : (home : Home) (n m : PlainNode) → held_by m ≡ held_by n → m.cursor ≡ n.cursor → m.closed ≡ n.closed → out_with_closed home m ≡ out_with_closed home n
unfolding out_with_closed
out_with_closed-held home n m held cursor closed =
    ap (λ (tss : List (List Tuple)). fragment_value (spec_of home).ops (serial tss ++ all_of m.closed) (node_frontier m * home.plan.width)) (inputs_done-held home n m held cursor)
    ∙ ap (λ (b : List (List Tagged)). fragment_value (spec_of home).ops (serial (inputs_done home n) ++ all_of b) ((m.cursor + length b) * home.plan.width)) closed
    ∙ ap (λ (c : ℕ). fragment_value (spec_of home).ops (serial (inputs_done home n) ++ all_of n.closed) ((c + length n.closed) * home.plan.width)) cursor

pub out_tentative-held : (home : Home) (n m : PlainNode) → held_by m ≡ held_by n → m.cursor ≡ n.cursor → m.closed ≡ n.closed → out_tentative home m ≡ out_tentative home n
unfolding out_tentative
out_tentative-held home n m held cursor closed =
    rw (out_stable-held home n m held cursor, out_with_closed-held home n m held cursor closed) refl

pub IsSafeNode-held : (home : Home) (n m : PlainNode) → held_by m ≡ held_by n → m.cursor ≡ n.cursor → m.base ≡ n.base → m.recovering ≡ n.recovering → IsSafeNode home n → IsSafeNode home m
IsSafeNode-held home n m held cursor base recovering safe =
    record {
      inputs = rw held safe.inputs;
      output = λ e.
          let o = safe.output (sym recovering ∙ e) in
          let same = out_stable-held home n m held cursor in
          record {
            reaches = rw (held, cursor) o.reaches;
            base = rw (same, base) o.base;
            output = rw (same, cursor) o.output;
          };
    }

-- ---- ports that are all changed in one way

pub held-map : (f : Port → Port) → ((p : Port) → held_at (f p) ≡ held_at p) → (ports : List Port) → map held_at (map f ports) ≡ map held_at ports
held-map f same [] = refl
held-map f same (p ∷ ports) = rw (same p) (ap (λ (rs : List Reader). held_at p ∷ rs) (held-map f same ports))

pub all_map-same : {X : Type 0} (q : X → Bool) (f : X → X) → ((x : X) → q (f x) ≡ q x) → (xs : List X) → list_all q (map f xs) ≡ list_all q xs
all_map-same q f same [] = refl
all_map-same q f same (x ∷ xs) = rw (same x) (ap (λ (b : Bool). q x && b) (all_map-same q f same xs))

pub ports-map : (plan : Plan) (i most more : ℕ) (f : Port → Port) →
    ((s : StreamRef) (p : Port) → is_port_sound plan s i most p ≡ true → is_port_sound plan s i more (f p) ≡ true) →
    (ss : List StreamRef) (ports : List Port) → are_ports_sound plan i most ss ports ≡ true → are_ports_sound plan i more ss (map f ports) ≡ true
ports-map plan i most more f keeps [] [] h = refl
ports-map plan i most more f keeps [] (p ∷ ports) h = cc
ports-map plan i most more f keeps (s ∷ ss) [] h = cc
ports-map plan i most more f keeps (s ∷ ss) (p ∷ ports) h =
    let k = both (is_port_sound plan s i most p) (are_ports_sound plan i most ss ports) h in
    both-of (is_port_sound plan s i more (f p)) (are_ports_sound plan i more ss (map f ports)) (keeps s p k.0) (ports-map plan i most more f keeps ss ports k.1)

-- ---- the clock, and the marks

pub marked-sound : (plan : Plan) (s : StreamRef) (i most : ℕ) (p : Port) → is_port_sound plan s i most p ≡ true → is_port_sound plan s i most (without_ended_marks p) ≡ true
marked-sound plan s i most p h = rw (length-map p.watches (after_count (length p.inlet.held.stable))) h

pub ticked-sound : (plan : Plan) (s : StreamRef) (i most : ℕ) (p : Port) → is_port_sound plan s i most p ≡ true → is_port_sound plan s i most (port_after_tick p) ≡ true
ticked-sound plan s i most p h = rw (length-map p.watches after_tick) h

abbrev pub is_empty_port : Port → Bool
is_empty_port p = waits_to_ask p.inlet && holds_nothing p.inlet.held

pub marks-good : (home : Home) (most : ℕ) (n : PlainNode) → IsGood home most n → IsGood home most (with_marks_ended n)
marks-good home most n g =
    let m = with_marks_ended n in
    let held : held_by m ≡ held_by n = held-map without_ended_marks (λ p. refl) n.ports in
    let o = g.orderly in
    record {
      safe = IsSafeNode-held home n m held refl refl refl g.safe;
      orderly = record {
        ports = ports-map home.plan n.grants.inc most most without_ended_marks (λ s p h. marked-sound home.plan s n.grants.inc most p h) (streams_of home) n.ports o.ports;
        state = o.state;
        recovering = rw (all_map-same is_empty_port without_ended_marks (λ p. refl) n.ports) o.recovering;
        closed = o.closed;
        stamps = o.stamps;
        base = λ up. rw (out_stable-held home n m held refl) (o.base up);
        shape = o.shape;
      };
    }

pub clocked-good : (home : Home) (most now : ℕ) (n : PlainNode) → IsGood home most n → IsGood home most (after_clock now n)
clocked-good home most now n g =
    let m = after_clock now n in
    let held : held_by m ≡ held_by n = held-map port_after_tick (λ p. refl) n.ports in
    let o = g.orderly in
    record {
      safe = IsSafeNode-held home n m held refl refl refl g.safe;
      orderly = record {
        ports = ports-map home.plan n.grants.inc most most port_after_tick (λ s p h. ticked-sound home.plan s n.grants.inc most p h) (streams_of home) n.ports o.ports;
        state = o.state;
        recovering = rw (all_map-same is_empty_port port_after_tick (λ p. refl) n.ports) o.recovering;
        closed = o.closed;
        stamps = o.stamps;
        base = λ up. rw (out_stable-held home n m held refl) (o.base up);
        shape = rw (length-map n.peers after_tick) o.shape;
      };
    }
