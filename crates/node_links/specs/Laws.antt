-- What each call makes of the neighbours is what the plain node's step leaves of them.
use Rattle.std.specs.Prelude.{◌≡◌, ℕ, map, Option}
use Rattle.dpc_lists.specs.Lists.{nth}
use Rattle.dpc_model.specs.Ports.{Port, no_port, sender_at, on_truncated}
use Rattle.dpc_model.specs.Actors.{senders_of, replicas_of}
use Rattle.dpc_model.specs.declared.messages.Beat.{Beat}
use Rattle.dpc_model.specs.declared.messages.Sess.{Sess}
use Rattle.node_model.specs.Nodes.{Home, PlainNode, streams_of, new_node, restarted_node}
use Rattle.node_model.specs.NodeSteps.{peers_of, peer_watches, with_port, on_upstream_beat, on_peer_beat, after_loss, after_clock, may_start_afresh}
use Rattle.node_model.specs.NodeParts.{neighbours_of}
use Rattle.upstream.specs.Upstreams.{with_truncation}
use Rattle.node_links.specs.Linking.{LinksValue, new_links, sender_among, peers_in, other_watches, with_upstream, after_upstream_beat, after_own_beat, with_recovery, after_clock_tick, nobody_can_help}

-- the links of a node know who its neighbours are
pub record KnowsNeighbours (home : Home) (v : LinksValue) : Type 0 where
  pub senders : v.senders ≡ map (senders_of home.plan) (streams_of home)
  pub replicas : v.replicas ≡ replicas_of home.plan home.frag
  pub me : v.me ≡ home.replica

-- so they find the port and replica of a sender, and the other replicas
abbrev pub FindsSenders : Type 0
FindsSenders =
    (home : Home) (v : LinksValue) → KnowsNeighbours home v →
    ((a : ℕ) → sender_among 0 v.senders a ≡ sender_at home.plan (streams_of home) a) × (peers_in v ≡ peers_of home)

-- new links stand for those of a new node, and of a restarted one
abbrev pub NewLinksStand : Type 0
NewLinksStand =
    (home : Home) →
    ((new_links home 1).known ≡ neighbours_of (new_node home)) × ((inc : ℕ) → (new_links home inc).known ≡ neighbours_of (restarted_node home inc))

-- what comes from others
abbrev pub MessagesStand : Type 0
MessagesStand =
    (home : Home) (n : PlainNode) →
    ((b : Beat) (pr : Option (ℕ × ℕ)) (r : Option ℕ) → after_own_beat b r (after_upstream_beat b pr (neighbours_of n)) ≡ neighbours_of (on_peer_beat b r (on_upstream_beat b pr n)))
    × ((s : Sess) (p r base : ℕ) → let old = nth no_port n.ports p in
    with_upstream p (with_truncation r base) (neighbours_of n) ≡ neighbours_of (with_port p (λ (q : Port). record q { watches = (on_truncated r old.inlet.sess base q).watches }) n))
    × (with_recovery (neighbours_of n) ≡ neighbours_of (after_loss home n))

-- a tick
abbrev pub TicksStand : Type 0
TicksStand =
    (home : Home) (now : ℕ) (n : PlainNode) →
    (after_clock_tick (neighbours_of n) ≡ neighbours_of (after_clock now n))
    × (other_watches home.replica n.peers ≡ peer_watches home n)
    × (nobody_can_help home.replica (neighbours_of n) ≡ may_start_afresh home n)
