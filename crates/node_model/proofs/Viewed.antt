-- The parts of the plain node: what they are after a change at one port or at all, and what they say of its output.
use Rattle.std.proofs.Common.{◌≡◌, ℕ, zero, suc, ◌*◌, ◌<◌, ◌==◌, List, [], ◌∷◌, map, refl, ap, arith}
use Rattle.std.proofs.lemmas.Grind.{common_steps}
use Rattle.dpc_lists.specs.Lists.{nth, changed}
use Rattle.dpc_model.specs.Streams.{cut}
use Rattle.dpc_model.specs.Reading.{Reader}
use Rattle.dpc_model.specs.Fragments.{serial, fragment_value}
use Rattle.dpc_model.specs.Inlets.{InletState, no_inlet}
use Rattle.dpc_model.specs.Ports.{Port, no_port, held_at}
use Rattle.dpc_model.specs.Parts.{Stream, stream_by, shown_of, done_in}
use Rattle.dpc_model.specs.NodeStates.{is_stable}
use Rattle.dpc_model.specs.declared.tuples.Tuple.{Tuple}
use Rattle.node_model.specs.Nodes.{Home, spec_of, PlainNode, inputs_done, out_stable, out_with_closed, out_tentative, shown}
use Rattle.node_model.specs.NodeParts.{inputs_of, stream_of}

-- ---- the inlets of ports

abbrev pub inlets : List Port → List InletState
inlets ports = map (λ (p : Port). p.inlet) ports

-- the inlet at a place
pub inlet-at : (i : ℕ) (ports : List Port) → nth no_inlet (inlets ports) i ≡ (nth no_port ports i).inlet
inlet-at i [] = refl
inlet-at zero (p ∷ ports) = refl
inlet-at (suc i) (p ∷ ports) = inlet-at i ports

-- a change at one port
pub changed-inlets : (f : InletState → InletState) (g : Port → Port) → ((p : Port) → (g p).inlet ≡ f p.inlet) → (i : ℕ) (ports : List Port) →
    inlets (changed i g ports) ≡ changed i f (inlets ports)
changed-inlets f g same i [] = refl
changed-inlets f g same zero (p ∷ ports) = rw (same p) refl
changed-inlets f g same (suc i) (p ∷ ports) = ap (λ (is : List InletState). p.inlet ∷ is) (changed-inlets f g same i ports)

-- a change at all
pub mapped-inlets : (f : InletState → InletState) (g : Port → Port) → ((p : Port) → (g p).inlet ≡ f p.inlet) → (ports : List Port) →
    inlets (map g ports) ≡ map f (inlets ports)
mapped-inlets f g same [] = refl
mapped-inlets f g same (p ∷ ports) = rw (same p, mapped-inlets f g same ports) refl

-- no inlet changes
pub same-inlets : (g : Port → Port) → ((p : Port) → (g p).inlet ≡ p.inlet) → (ports : List Port) → inlets (map g ports) ≡ inlets ports
same-inlets g same [] = refl
same-inlets g same (p ∷ ports) = rw (same p, same-inlets g same ports) refl

pub same-inlet : (g : Port → Port) → ((p : Port) → (g p).inlet ≡ p.inlet) → (i : ℕ) (ports : List Port) → inlets (changed i g ports) ≡ inlets ports
same-inlet g same i [] = refl
same-inlet g same zero (p ∷ ports) = rw (same p) refl
same-inlet g same (suc i) (p ∷ ports) = ap (λ (is : List InletState). p.inlet ∷ is) (same-inlet g same i ports)

-- ---- what is held, and what is done

pub held-is : (ports : List Port) → map (λ (i : InletState). i.held) (inlets ports) ≡ map held_at ports
held-is [] = refl
held-is (p ∷ ports) = ap (λ (rs : List Reader). p.inlet.held ∷ rs) (held-is ports)

pub cut-ports : (b : ℕ) (ports : List Port) → map (λ (p : Port). cut p.inlet.held.stable b) ports ≡ map (λ (i : InletState). cut i.held.stable b) (inlets ports)
cut-ports b [] = refl
cut-ports b (p ∷ ports) = ap (λ (ts : List (List Tuple)). cut p.inlet.held.stable b ∷ ts) (cut-ports b ports)

pub done-is : (home : Home) (n : PlainNode) → inputs_done home n ≡ done_in home.plan.width (inputs_of n)
done-is home n = cut-ports (n.cursor * home.plan.width) n.ports

-- ---- the output

-- what a node makes of its inputs
abbrev pub made_of : Home → PlainNode → Stream
made_of home n = stream_by (fragment_value (spec_of home).ops) home.plan.width home.plan.passing (inputs_of n)

pub stable-is : (home : Home) (n : PlainNode) → out_stable home n ≡ (made_of home n).stable
unfolding out_stable
stable-is home n = ap (λ (xs : List (List Tuple)). fragment_value (spec_of home).ops (serial xs) (n.cursor * home.plan.width)) (done-is home n)

pub tentative-is : (home : Home) (n : PlainNode) → out_tentative home n ≡ (made_of home n).tentative
unfolding out_tentative out_stable out_with_closed
tentative-is home n = rw (done-is home n) refl

pub stream-is : (home : Home) (n : PlainNode) → stream_of home n ≡ made_of home n
stream-is home n = rw (stable-is home n, tentative-is home n) refl

-- without a first bucket there is no boundary, and with one there is
no-bound : (c w : ℕ) → 0 < w → (c * w == 0) ≡ (c == 0)
no-bound zero w h = let none : 0 * w ≡ 0 = omega arith in ap (λ (k : ℕ). k == 0) none
no-bound (suc c) w h = let some : 0 < suc c * w = omega (arith, h) in grind (arith, common_steps, some)

pub shown-is : (home : Home) (n : PlainNode) → 0 < home.plan.width → shown home n ≡ shown_of (made_of home n) n.base (is_stable n.state)
shown-is home n h = rw (no-bound n.cursor home.plan.width h, stable-is home n, tentative-is home n) refl
