-- Runs in which nobody is taken for absent, and settling.
use Rattle.std.specs.Prelude.{◌≡◌, ◌≢◌, ⊤, ℕ, ◌+◌, ◌<◌, false, IsTrue, List, [], ◌∷◌, length, IfSome, IsSome, All, ◌++◌}
use Rattle.dpc_model.specs.Actors.{role_of}
use Rattle.dpc_model.specs.declared.actors.Role.{Role}
use Rattle.dpc_model.specs.declared.actors.Role.TheVariants.{Source as IsSource, Node as IsNode, Client as IsClient, Nobody}
use Rattle.dpc_model.specs.Replicas.{Watch, absent_after}
use Rattle.dpc_model.specs.Ports.{Port}
use Rattle.dpc_model.specs.declared.messages.Event.{Event}
use Rattle.dpc_model.specs.declared.messages.Event.TheVariants.{Phase, Emit, Release, Cut, Heal, Crash, Restart, Deliver, Tick, Mill}
use Rattle.dpc_model.specs.declared.scripts.Script.{Script}
use Rattle.node_model.specs.Nodes.{PlainNode}
use Rattle.node_model.specs.Sources.{SourceState}
use Rattle.world_model.specs.Worlds.{World, Slot, happens, slot_of, client_at, new_world, run, all_settled}
use Rattle.world_model.specs.Schedules.{settling_phases, is_live}

-- no node that is up recovers
abbrev pub NoneRecovers : List Slot → Type 0
NoneRecovers [] = ⊤
NoneRecovers (slot ∷ slots) = IfSome slot.node (λ (n : PlainNode). n.recovering ≡ false) × NoneRecovers slots

-- no replica's last beat is three ticks ago
abbrev pub NoneThree : List Watch → Type 0
NoneThree [] = ⊤
NoneThree (w ∷ ws) = (w.ticks ≢ absent_after) × NoneThree ws

-- so at each port that reads two or more replicas
abbrev pub IsHeardAt : Port → Type 0
IsHeardAt p = 1 < length p.watches → NoneThree p.watches

abbrev pub AreHeard : List Port → Type 0
AreHeard [] = ⊤
AreHeard (p ∷ ports) = IsHeardAt p × AreHeard ports

-- a tick of a reader is the third since no beat of such a replica
abbrev pub HeardBy : World → ℕ → Role → Type 0
HeardBy w a (IsNode f r) = IfSome (slot_of w a).node (λ (n : PlainNode). AreHeard n.ports)
HeardBy w a (IsClient c) = IsHeardAt (client_at w c).port
HeardBy w a (IsSource s) = ⊤
HeardBy w a Nobody = ⊤

abbrev pub TickIsHeard : World → Event → Type 0
TickIsHeard after (Tick a now) = HeardBy after a (role_of after.plan a)
TickIsHeard after (Phase p) = ⊤
TickIsHeard after (Emit s t) = ⊤
TickIsHeard after (Release s t) = ⊤
TickIsHeard after (Cut a b) = ⊤
TickIsHeard after (Heal a b) = ⊤
TickIsHeard after (Crash a) = ⊤
TickIsHeard after (Restart a i) = ⊤
TickIsHeard after (Deliver k) = ⊤
TickIsHeard after (Mill a r) = ⊤

-- the phase that an event stands in
abbrev pub phase_at : ℕ → Event → ℕ
phase_at p (Phase q) = q
phase_at p (Emit s t) = p
phase_at p (Release s t) = p
phase_at p (Cut a b) = p
phase_at p (Heal a b) = p
phase_at p (Crash a) = p
phase_at p (Restart a i) = p
phase_at p (Deliver k) = p
phase_at p (Tick a now) = p
phase_at p (Mill a r) = p

abbrev pub SteadyFrom : Script → ℕ → World → List Event → Type 0
SteadyFrom script p w [] = ⊤
SteadyFrom script p w (e ∷ events) =
    let q = phase_at p e in
    let next = happens w e in
    (length script.phases + settling_phases < q → NoneRecovers next.nodes × TickIsHeard next e) × SteadyFrom script q next events

-- past so many quiet phases no node recovers, and no reader misses the beats of one of several replicas
abbrev pub IsSteady : Script → List Event → Type 0
IsSteady script events = SteadyFrom script 0 (new_world script.plan) events

-- every source has released its whole log, no link is cut, and every node is up
pub record IsOpen (w : World) : Type 0 where
  pub sources : All (λ (x : SourceState). x.bound ≡ w.plan.end) w.sources
  pub links : w.cuts ≡ []
  pub nodes : All (λ (slot : Slot). IsSome slot.node) w.nodes

-- so it is at the opening of the first quiet phase
abbrev pub OpensWell : Script → List Event → Type 0
OpensWell script events = (before rest : List Event) → events ≡ before ++ Phase (length script.phases + 1) ∷ rest → IsOpen (run script.plan before)

-- every client of such a whole run is settled
abbrev pub Settles : Script → List Event → Type 0
Settles script events =
    IsTrue script.settle → IsTrue (is_live script events) → OpensWell script events → IsSteady script events → IsTrue (all_settled (run script.plan events))
