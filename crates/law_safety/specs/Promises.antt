-- What every run of a checked plan promises, a sentence each.
use Rattle.std.specs.Prelude.{◌≡◌, ℕ, ◌*◌, ◌≤◌, false, IsTrue, List, [], ◌∷◌, ◌++◌, length, Some, None, IsSomeAnd, slice_get}
use Rattle.dpc_lists.specs.Lists.{IsPrefixOf}
use Rattle.dpc_model.specs.Streams.{cut}
use Rattle.dpc_model.specs.Fragments.{ideal, ideal_upto}
use Rattle.dpc_model.specs.Reading.{Reader, empty_reader, Folded, fold_items}
use Rattle.dpc_model.specs.Actors.{role_of}
use Rattle.dpc_model.specs.declared.actors.Role.TheVariants.{Node as IsNode}
use Rattle.dpc_model.specs.declared.tuples.Item.{Item}
use Rattle.dpc_model.specs.declared.tuples.Item.TheVariants.{RecDone}
use Rattle.dpc_model.specs.declared.messages.Event.{Event}
use Rattle.dpc_model.specs.declared.messages.Event.TheVariants.{Tick}
use Rattle.dpc_model.specs.declared.plans.Plan.{Plan}
use Rattle.dpc_model.specs.declared.plans.StreamRef.{StreamRef}
use Rattle.dpc_model.specs.declared.plans.StreamRef.TheVariants.{Frag}
use Rattle.dpc_model.specs.NodeStates.{is_stabilization}
use Rattle.node_model.specs.Nodes.{PlainNode, out_stable, due_at}
use Rattle.node_model.specs.Clients.{ClientState}
use Rattle.world_model.specs.Worlds.{Envelope, home_of, slot_of, is_clock, run}
use Rattle.world_model.specs.Safe.{IsTrueEnvelope, packet_done, IsDone}
use Rattle.law_safety.specs.Holders.{Holder, holding}

-- each envelope that was sent is true
abbrev pub AllSentIsTrue : Plan → List Event → Type 0
AllSentIsTrue plan events = (k : ℕ) (e : Envelope) → slice_get (run plan events).envelopes k ≡ Some e → IsTrueEnvelope plan e

-- what a reader holds: its stable tuples are a beginning of the failure-free output, and those below its bound are
-- all that the failure-free output has there
pub record IsRight (plan : Plan) (s : StreamRef) (r : Reader) : Type 0 where
  pub beginning : IsPrefixOf r.stable (ideal plan s)
  pub upto_bound : cut r.stable r.bound ≡ ideal_upto plan s r.bound

abbrev pub ReadersAreRight : Plan → List Event → Type 0
ReadersAreRight plan events = (h : Holder) (s : StreamRef) (r : Reader) → holding (run plan events) h ≡ Some (s, r) → IsRight plan s r

-- the stable output of a node that is up and does not recover is the failure-free output up to its cursor
abbrev pub OutputsAreRight : Plan → List Event → Type 0
OutputsAreRight plan events =
    (a f r : ℕ) (n : PlainNode) → role_of plan a ≡ IsNode f r → (slot_of (run plan events) a).node ≡ Some n → n.recovering ≡ false →
    out_stable (home_of plan (f, r)) n ≡ ideal_upto plan (Frag f) (n.cursor * plan.width)

-- a client that takes RecDone holds nothing tentative then
abbrev pub DoneLeavesNothing : Plan → List Event → Type 0
DoneLeavesNothing plan events =
    (c : ℕ) (x : ClientState) (before rest : List Item) → slice_get (run plan events).clients c ≡ Some x → x.taken ≡ before ++ RecDone ∷ rest →
    IsSomeAnd (fold_items empty_reader (before ++ RecDone ∷ [])) (λ (f : Folded). f.after.tentative ≡ [])

-- whoever sends RecDone at an event has nothing left to correct after it
abbrev pub DoneIsSurelySent : Plan → List Event → Type 0
DoneIsSurelySent plan events =
    (e : Event) (k : ℕ) (x : Envelope) → let after = run plan (events ++ e ∷ []) in length (run plan events).envelopes ≤ k → slice_get after.envelopes k ≡ Some x →
    IsTrue (packet_done x.packet) → IsDone after x.sender (role_of plan x.sender)

-- a tick that leaves a node outside STABILIZATION leaves it with no bucket due
abbrev pub NoneWaits : Plan → List Event → Type 0
NoneWaits plan events =
    (a now f r : ℕ) (old new : PlainNode) → role_of plan a ≡ IsNode f r → (slot_of (run plan events) a).node ≡ Some old → IsTrue (is_clock old.clock now) →
    (slot_of (run plan (events ++ Tick a now ∷ [])) a).node ≡ Some new → is_stabilization new.state ≡ false → due_at (home_of plan (f, r)) new now ≡ None
