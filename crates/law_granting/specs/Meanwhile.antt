-- While a replica that was granted its ask reconciles, the one that granted it serves.
use Rattle.std.specs.Prelude.{◌≡◌, ℕ, ◌<◌, ◌≤◌, Bool, false, ◌&&◌, ◌==◌, List, ◌∷◌, ◌++◌, map, length, Option, Some, None, slice_get}
use Rattle.dpc_lists.specs.Lists.{nth}
use Rattle.dpc_model.specs.Granting.{Key}
use Rattle.dpc_model.specs.Replicas.{is_absent}
use Rattle.dpc_model.specs.Actors.{role_of}
use Rattle.dpc_model.specs.declared.actors.Role.{Role}
use Rattle.dpc_model.specs.declared.actors.Role.TheVariants.{Source as IsSource, Node as IsNode, Client as IsClient, Nobody}
use Rattle.dpc_model.specs.declared.messages.Event.{Event}
use Rattle.dpc_model.specs.declared.messages.Event.TheVariants.{Phase, Emit, Release, Cut, Heal, Crash, Restart, Deliver, Tick, Mill}
use Rattle.dpc_model.specs.declared.messages.Message.TheVariants as message
use Rattle.dpc_model.specs.declared.plans.Plan.{Plan}
use Rattle.node_model.specs.Mails.{Plain}
use Rattle.node_model.specs.Nodes.{Home, PlainNode}
use Rattle.node_model.specs.NodeSteps.{replica_number, after_clock}
use Rattle.world_model.specs.Worlds.{World, home_of, slot_of, is_clock, happens, run}
use Rattle.world_model.specs.Safe.{EachStep}
use Rattle.law_granting.specs.Asking.{reconciles}

-- ---- absence

-- a tick at this clock finds a replica absent
abbrev pub finds_replica : ℕ → PlainNode → Option ℕ → Bool
finds_replica now n None = false
finds_replica now n (Some q) = nth false (map is_absent (after_clock now n).peers) q

abbrev pub node_finds : Home → ℕ → ℕ → Option PlainNode → Bool
node_finds home a now None = false
node_finds home a now (Some n) = is_clock n.clock now && finds_replica now n (replica_number home a)

abbrev pub role_finds : World → ℕ → ℕ → ℕ → Role → Bool
role_finds w b a now (IsNode f r) = node_finds (home_of w.plan (f, r)) a now (slot_of w b).node
role_finds w b a now (IsSource s) = false
role_finds w b a now (IsClient c) = false
role_finds w b a now Nobody = false

-- the event is a tick of b that finds an absent
abbrev pub finds_absent : ℕ → ℕ → World → Event → Bool
finds_absent b a w (Tick x now) = x == b && role_finds w b a now (role_of w.plan b)
finds_absent b a w (Phase p) = false
finds_absent b a w (Emit s t) = false
finds_absent b a w (Release s t) = false
finds_absent b a w (Cut x y) = false
finds_absent b a w (Heal x y) = false
finds_absent b a w (Crash x) = false
finds_absent b a w (Restart x i) = false
finds_absent b a w (Deliver k) = false
finds_absent b a w (Mill x r) = false

abbrev pub NeverFindsAbsent : ℕ → ℕ → World → List Event → Type 0
NeverFindsAbsent b a w events = EachStep (λ w e. finds_absent b a w e ≡ false) w events

-- ---- history

-- the event sends the envelope of this number, which is b's Grant of a's ask
pub record SendsGrant (w : World) (e : Event) (k a b : ℕ) (key : Key) : Type 0 where
  pub new : length w.envelopes ≤ k
  pub grant : slice_get (happens w e).envelopes k ≡ Some (record { sender = b; to = a; packet = Plain (message.Grant key.0 key.1) })

-- a node is up in an incarnation
pub record IsUpIn (w : World) (b i : ℕ) : Type 0 where
  pub node : PlainNode
  pub up : (slot_of w b).node ≡ Some node
  pub inc : node.grants.inc ≡ i

-- a node is up, and its ask of this key is not over: it waits for an answer, or reconciles
pub record HasOpenAsk (w : World) (a : ℕ) (key : Key) : Type 0 where
  pub node : PlainNode
  pub up : (slot_of w a).node ≡ Some node
  pub inc : node.grants.inc ≡ key.0
  pub open_still : node.grants.over < key.1

-- b granted an ask of a. As long as that ask is not over and no tick of b found an absent since, b does not reconcile in
-- the incarnation that sent the Grant
abbrev pub ServesMeanwhile : Plan → Type 0
ServesMeanwhile plan =
    (before later : List Event) (e : Event) (k a b i : ℕ) (key : Key) → let old = run plan before in let granted = happens old e in let now = run plan (before ++ (e ∷ later)) in
    SendsGrant old e k a b key → IsUpIn granted b i → NeverFindsAbsent b a granted later → HasOpenAsk now a key →
    (n : PlainNode) → (slot_of now b).node ≡ Some n → n.grants.inc ≡ i → reconciles n ≡ false
