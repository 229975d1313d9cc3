-- The session law of a run, and that no tentative tuple is invented.
use Rattle.std.specs.Prelude.{◌≡◌, ◌⊎◌, ⊤, ℕ, List, [], ◌∷◌, length, drop, All, Contains, Some, None, IfSome, slice_get}
use Rattle.dpc_lists.specs.Lists.{nth}
use Rattle.dpc_model.specs.Actors.{role_of}
use Rattle.dpc_model.specs.declared.actors.Role.{Role}
use Rattle.dpc_model.specs.declared.actors.Role.TheVariants.{Source as IsSource, Node as IsNode, Client as IsClient, Nobody}
use Rattle.dpc_model.specs.Sessions.{Shown, tally_of}
use Rattle.dpc_model.specs.declared.sessions.Sub.{Sub}
use Rattle.dpc_model.specs.declared.tuples.Tuple.{Tuple}
use Rattle.dpc_model.specs.declared.tuples.Item.{Item}
use Rattle.dpc_model.specs.declared.tuples.Item.TheVariants.{Stable, Tentative, Passed, Boundary, Undo, RecDone}
use Rattle.dpc_model.specs.declared.messages.Event.{Event}
use Rattle.dpc_model.specs.declared.plans.Plan.{Plan}
use Rattle.dpc_model.specs.declared.plans.StreamRef.{StreamRef}
use Rattle.dpc_model.specs.declared.plans.StreamRef.TheVariants.{Source, Frag}
use Rattle.node_model.specs.Nodes.{PlainNode, out_tentative, own_readers, shown}
use Rattle.node_model.specs.Sources.{source_readers, source_shown}
use Rattle.world_model.specs.Worlds.{World, Envelope, home_of, new_world, happens, run, slot_of, source_at}
use Rattle.world_model.specs.Safe.{EachStep}
use Rattle.world_model.specs.Orderly.{items_carried}
use Rattle.world_model.specs.SessionLaw.{Channel, sent_after, LeavesView}
use Rattle.law_sessions.specs.Openings.{first_subscription, asks_for, opened_by}

-- ---- the session law

-- what was sent in each open session of a sender, since it last went down, leaves every start that fits the session's
-- subscription with the sender's view
abbrev pub SessionsLeaveView : Plan → List Event → ℕ → StreamRef → List ℕ → Shown → List Sub → Type 0
SessionsLeaveView plan events a s readers x subs =
    (k : ℕ) (sub : Sub) → slice_get subs k ≡ Some sub → IfSome (tally_of sub) (λ l.
    let line : Channel = record { sender = a; reader = nth 0 readers k; sess = l.0 } in
    LeavesView plan s (opened_by line (first_subscription line) (new_world plan) events) x (sent_after line [] (new_world plan) events))

abbrev pub SessionLawOf : Plan → List Event → World → ℕ → Role → Type 0
SessionLawOf plan events w a (IsSource s) =
    SessionsLeaveView plan events a (Source s) (source_readers plan s) (source_shown plan s (source_at w s)) (source_at w s).subs
SessionLawOf plan events w a (IsNode f r) =
    IfSome (slot_of w a).node (λ (n : PlainNode). let home = home_of plan (f, r) in
    SessionsLeaveView plan events a (Frag f) (own_readers home) (shown home n) n.subs)
SessionLawOf plan events w a (IsClient c) = ⊤
SessionLawOf plan events w a Nobody = ⊤

-- every actor
abbrev pub SessionLaw : Plan → List Event → Type 0
SessionLaw plan events = (a : ℕ) → SessionLawOf plan events (run plan events) a (role_of plan a)

-- ---- no invented tuple

-- the tentative tuples among these items stand in a sender's tentative output
abbrev pub TentativesStand : List Tuple → List Item → Type 0
TentativesStand out [] = ⊤
TentativesStand out (Tentative t ∷ items) = Contains out t × TentativesStand out items
TentativesStand out (Stable k t ∷ items) = TentativesStand out items
TentativesStand out (Passed b ∷ items) = TentativesStand out items
TentativesStand out (Boundary b m ∷ items) = TentativesStand out items
TentativesStand out (Undo n ∷ items) = TentativesStand out items
TentativesStand out (RecDone ∷ items) = TentativesStand out items

-- the tentative output of an actor
abbrev pub tentative_output : World → ℕ → Role → List Tuple
tentative_output w a (IsNode f r) = elim (slot_of w a).node [ None ↦ [] | Some n ↦ out_tentative (home_of w.plan (f, r)) n ]
tentative_output w a (IsSource s) = []
tentative_output w a (IsClient c) = []
tentative_output w a Nobody = []

-- each tentative tuple that an event sends stands in its sender's tentative output after the event
abbrev pub NoneInvented : World → Event → Type 0
NoneInvented w e =
    let next = happens w e in
    All (λ (x : Envelope). TentativesStand (tentative_output next x.sender (role_of next.plan x.sender)) (items_carried x.packet)) (drop (length w.envelopes) next.envelopes)

abbrev pub NoneIsInvented : Plan → List Event → Type 0
NoneIsInvented plan events = EachStep NoneInvented (new_world plan) events

-- ---- who asked for a session

-- the subscription that a session was opened by is that of the opening, or one that its reader sent to its sender
abbrev pub WasAsked : Plan → List Event → Channel → Type 0
WasAsked plan events l =
    let asked = opened_by l (first_subscription l) (new_world plan) events in
    (asked ≡ first_subscription l) ⊎ ((k : ℕ) × (e : Envelope) × (slice_get (run plan events).envelopes k ≡ Some e) × (asks_for l e ≡ Some asked))
