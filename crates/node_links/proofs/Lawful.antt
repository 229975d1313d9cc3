-- What the calls make of the neighbours is what the plain node's steps leave of them.
use Rattle.std.proofs.Common.{◌≡◌, ℕ, zero, suc, ◌+◌, not, ◌==◌, List, [], ◌∷◌, map, filter, refl, ap, ◌∙◌, Option, Some, None}
use Rattle.dpc_lists.specs.Lists.{nth, changed, place_of}
use Rattle.dpc_model.specs.Inlets.{InletState}
use Rattle.dpc_model.specs.Ports.{Port, no_port, port_at, sender_from, on_beat, on_truncated, port_after_tick}
use Rattle.dpc_model.specs.Parts.{Upstream, Neighbours}
use Rattle.dpc_model.specs.Actors.{senders_of, replicas_of}
use Rattle.dpc_model.specs.declared.messages.Beat.{Beat}
use Rattle.dpc_model.specs.declared.messages.Sess.{Sess}
use Rattle.dpc_model.specs.declared.plans.Plan.{Plan}
use Rattle.dpc_model.specs.declared.plans.StreamRef.{StreamRef}
use Rattle.dpc_model.proofs.Alike.{same_sess-self}
use Rattle.node_model.specs.Nodes.{PlainNode, streams_of, new_node, restarted_node}
use Rattle.node_model.specs.NodeSteps.{emptied_port, on_upstream_beat, on_peer_beat, after_loss, after_clock}
use Rattle.node_model.specs.NodeParts.{upstream_of, neighbours_of}
use Rattle.upstream.specs.Upstreams.{new_upstream, with_beat, with_truncation, with_tick, with_no_tick}
use Rattle.node_links.specs.Linking.{new_links, sender_among, after_upstream_beat, after_own_beat}
use Rattle.node_links.specs.Laws.{FindsSenders, NewLinksStand, MessagesStand, TicksStand}

-- ---- who an actor is

sender-found : (p : ℕ) (plan : Plan) (streams : List StreamRef) (a : ℕ) → sender_among p (map (senders_of plan) streams) a ≡ sender_from p plan streams a
sender-found p plan [] a = refl
sender-found p plan (s ∷ rest) a =
    (elim (place_of (λ b. a == b) (senders_of plan s)) as (λ (o : Option ℕ).
    next o (sender_among (p + 1) (map (senders_of plan) rest) a) ≡ next o (sender_from (p + 1) plan rest a)) [
      | None ↦ sender-found (p + 1) plan rest a
      | Some r ↦ refl
    ])
  where
    next : Option ℕ → Option (ℕ × ℕ) → Option (ℕ × ℕ)
    next o later = elim o [ None ↦ later | Some r ↦ Some (p, r) ]

pub finds-senders : FindsSenders
finds-senders home v k =
    let others : List ℕ → ℕ → List ℕ = λ rs me. filter (λ a. not (a == nth 0 rs me)) rs in (
      λ a. ap (λ (ss : List (List ℕ)). sender_among 0 ss a) k.senders ∙ sender-found 0 home.plan (streams_of home) a,
      ap (λ (rs : List ℕ). others rs v.me) k.replicas ∙ ap (λ (me : ℕ). others (replicas_of home.plan home.frag) me) k.me,
    )

-- ---- new links

new-seen : (plan : Plan) (inlet : InletState) (streams : List StreamRef) →
    map (λ s. (new_upstream (senders_of plan s)).known) streams ≡ map upstream_of (map (port_at plan inlet) streams)
new-seen plan inlet [] = refl
new-seen plan inlet (s ∷ streams) = ap (λ (us : List Upstream). (new_upstream (senders_of plan s)).known ∷ us) (new-seen plan inlet streams)

pub new-links-stand : NewLinksStand
unfolding new_node restarted_node
new-links-stand home = (
  ap (λ (us : List Upstream). record (new_links home 1).known { upstreams = us }) (new-seen home.plan _ (streams_of home)),
  λ inc. ap (λ (us : List Upstream). record (new_links home inc).known { upstreams = us }) (new-seen home.plan _ (streams_of home)),
)

-- ---- a change at one port, and at all

changed-seen : (f : Upstream → Upstream) (g : Port → Port) → ((p : Port) → f (upstream_of p) ≡ upstream_of (g p)) → (i : ℕ) (ports : List Port) →
    changed i f (map upstream_of ports) ≡ map upstream_of (changed i g ports)
changed-seen f g same i [] = refl
changed-seen f g same zero (p ∷ ports) = rw (same p) refl
changed-seen f g same (suc i) (p ∷ ports) = ap (λ (us : List Upstream). upstream_of p ∷ us) (changed-seen f g same i ports)

map-seen : (f : Upstream → Upstream) (g : Port → Port) → ((p : Port) → f (upstream_of p) ≡ upstream_of (g p)) → (ports : List Port) →
    map f (map upstream_of ports) ≡ map upstream_of (map g ports)
map-seen f g same [] = refl
map-seen f g same (p ∷ ports) = rw (same p, map-seen f g same ports) refl

-- ---- what comes from others

upstream-beat : (b : Beat) (pr : Option (ℕ × ℕ)) (n : PlainNode) → after_upstream_beat b pr (neighbours_of n) ≡ neighbours_of (on_upstream_beat b pr n)
upstream-beat b None n = refl
upstream-beat b (Some (p, r)) n = ap (λ (us : List Upstream). record (neighbours_of n) { upstreams = us }) (changed-seen (with_beat r b) (on_beat r b) (λ q. refl) p n.ports)

own-beat : (b : Beat) (r : Option ℕ) (n : PlainNode) → after_own_beat b r (neighbours_of n) ≡ neighbours_of (on_peer_beat b r n)
own-beat b None n = refl
own-beat b (Some r) n = refl

-- a port that is marked for its own session
abbrev marked : ℕ → ℕ → Sess → Port → Port
marked r base s q = record q { watches = (on_truncated r s base q).watches }

marked-seen : (p r base : ℕ) (ports : List Port) →
    changed p (with_truncation r base) (map upstream_of ports) ≡ map upstream_of (changed p (marked r base (nth no_port ports p).inlet.sess) ports)
marked-seen p r base [] = refl
marked-seen zero r base (q ∷ ports) = rw (same_sess-self q.inlet.sess) refl
marked-seen (suc p) r base (q ∷ ports) = ap (λ (us : List Upstream). upstream_of q ∷ us) (marked-seen p r base ports)

pub messages-stand : MessagesStand
unfolding after_loss
messages-stand home n = (
  λ b pr r. ap (λ (x : Neighbours). after_own_beat b r x) (upstream-beat b pr n) ∙ own-beat b r (on_upstream_beat b pr n),
  λ s p r base. ap (λ (us : List Upstream). record (neighbours_of n) { upstreams = us }) (marked-seen p r base n.ports),
  ap (λ (us : List Upstream). record (neighbours_of (after_loss home n)) { upstreams = us }) (map-seen with_no_tick (emptied_port [] 0) (λ q. refl) n.ports),
)

-- ---- a tick

pub ticks-stand : TicksStand
ticks-stand home now n = (
  ap (λ (us : List Upstream). record (neighbours_of (after_clock now n)) { upstreams = us }) (map-seen with_tick port_after_tick (λ q. refl) n.ports),
  refl,
  refl,
)
