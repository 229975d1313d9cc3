-- What contracts see of a client that forgot some of its stream, and how it stands for the plain one.
use Rattle.std.specs.Prelude.{◌≡◌, ℕ, ◌+◌, List, [], ◌∷◌, ◌++◌, length, map}
use Rattle.dpc_model.specs.Actors.{senders_of}
use Rattle.dpc_model.specs.Inlets.{InletState, take_batch}
use Rattle.dpc_model.specs.PartStands.{InletValue}
use Rattle.dpc_model.specs.Ports.{port_after_tick, without_ended_marks, subscriptions}
use Rattle.dpc_model.specs.declared.batches.Taken.{Taken}
use Rattle.dpc_model.specs.declared.batches.Taken.TheVariants as taken_as
use Rattle.dpc_model.specs.declared.messages.Message.TheVariants as message
use Rattle.dpc_model.specs.declared.messages.Out.{Out}
use Rattle.dpc_model.specs.declared.messages.Sess.{Sess}
use Rattle.dpc_model.specs.declared.plans.Plan.{Plan}
use Rattle.dpc_model.specs.declared.tuples.Item.{Item}
use Rattle.dpc_model.specs.declared.tuples.Tuple.{Tuple}
use Rattle.inlet.specs.Forgotten.{Keeps}
use Rattle.upstream.specs.Upstreams.{UpstreamValue}
use Rattle.node_model.specs.Clients.{ClientState, client_stream, client_tick_step}
use Rattle.node_model.specs.Mails.{mails}
use Rattle.node_model.specs.NodeParts.{upstream_of}

-- the items of several batches in order
abbrev pub all_taken : List (List Item) → List Item
all_taken [] = []
all_taken (items ∷ rest) = items ++ all_taken rest

-- the end of the stream, what is known of its senders, the inlet, the items that were taken, and the clock
pub record ClientValue : Type 0 where
  pub end : ℕ
  pub upstream : UpstreamValue
  pub inlet : InletValue
  pub taken : List Item
  pub clock : ℕ

-- of the plain client all is there but the first stable tuples of its inlet
pub record StandsForClient (plan : Plan) (c : ℕ) (v : ClientValue) (x : ClientState) : Type 0 where
  pub senders : v.upstream.senders ≡ senders_of plan (client_stream plan c)
  pub known : v.upstream.known ≡ upstream_of x.port
  pub inlet : (gone : List Tuple) × Keeps gone v.inlet x.port.inlet
  pub end : v.end ≡ plan.end
  pub taken : v.taken ≡ x.taken
  pub clock : v.clock ≡ x.clock

-- the clients from number c on, up to the plan's last one
abbrev pub StandForClients : Plan → ℕ → List ClientValue → List ClientState → Type 0
StandForClients plan c [] [] = c ≡ length plan.clients
StandForClients plan c (v ∷ vs) (x ∷ xs) = StandsForClient plan c v x × StandForClients plan (c + 1) vs xs
StandForClients plan c [] (x ∷ xs) = ⊥
StandForClients plan c (v ∷ vs) [] = ⊥

-- what a step makes of each plain client that it stood for it stands for afterwards
abbrev pub Follows : (Plan → ℕ → ClientState → ClientState) → ClientValue → ClientValue → Type 0
Follows step old new = (plan : Plan) (c : ℕ) (x : ClientState) → StandsForClient plan c old x → StandsForClient plan c new (step plan c x)

-- the items that an answer adds
abbrev pub items_of : Taken → List Item
items_of (taken_as.Used items) = items
items_of taken_as.Old = []
items_of taken_as.Broken = []

-- a batch changes the inlet and what was taken as it would with the plain inlet, and nothing else
pub record IsFolded (sess : Sess) (index : ℕ) (items : List Item) (old new : ClientValue) : Type 0 where
  pub rest : new ≡ record old { inlet = new.inlet; taken = new.taken }
  pub kept : (gone : List Tuple) (x : InletState) → Keeps gone old.inlet x → (more : List Tuple) × Keeps more new.inlet (take_batch x sess index items).after
  pub told : (gone : List Tuple) (x : InletState) → Keeps gone old.inlet x → new.taken ≡ old.taken ++ items_of (take_batch x sess index items).answer

-- what is sent at a tick
abbrev pub Sends : ℕ → ClientValue → List Out → Type 0
Sends now old outs = (plan : Plan) (c : ℕ) (x : ClientState) → StandsForClient plan c old x → mails outs ≡ (client_tick_step plan c now x).sends

-- what is acknowledged to these senders
abbrev pub acks_of : ℕ → List ℕ → List Out
acks_of n senders = map (λ a. record { to = a; message = message.Ack 1 n }) senders

-- the subscription that a tick asks for
abbrev pub IsAsked : ClientValue → List Out → Type 0
IsAsked old outs =
    (plan : Plan) (c : ℕ) (x : ClientState) → StandsForClient plan c old x →
    outs ≡ subscriptions plan (port_after_tick (without_ended_marks x.port) ∷ []) (client_stream plan c ∷ [])
