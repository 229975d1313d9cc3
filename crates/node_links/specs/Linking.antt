-- What a node knows of its neighbours, and what each call makes of it.
use Rattle.std.specs.Prelude.{⊤, ◌≡◌, ℕ, ◌+◌, Bool, not, ◌||◌, ◌==◌, if◌then◌else◌, List, [], ◌∷◌, map, filter, replicate, Option, Some, None, is_none, slice_get}
use Rattle.dpc_lists.specs.Lists.{nth, changed, list_all, numbered, place_of}
use Rattle.dpc_model.specs.Replicas.{Watch, new_watch, after_beat, after_tick, is_absent, says_recovering}
use Rattle.dpc_model.specs.Granting.{new_grants, own_key, after_peer_beat, after_absence, with_ask, with_ask_over}
use Rattle.dpc_model.specs.Parts.{Upstream, Neighbours}
use Rattle.dpc_model.specs.Actors.{senders_of, replicas_of}
use Rattle.dpc_model.specs.declared.messages.Beat.{Beat}
use Rattle.input_monitor.specs.Marks.{AreUnmarked}
use Rattle.upstream.specs.Upstreams.{UpstreamValue, new_upstream, with_beat, with_tick, with_no_tick}
use Rattle.node_model.specs.Nodes.{Home, spec_of, streams_of}
use Rattle.node_links.specs.declared.links.Asked.{Asked}
use Rattle.node_links.specs.declared.links.Asked.TheVariants as asked

-- the senders of each port's stream and the replicas of the own fragment, as actors, the own number among these, and what is known of them
pub record LinksValue : Type 0 where
  pub senders : List (List ℕ)
  pub replicas : List ℕ
  pub me : ℕ
  pub known : Neighbours

-- at the opening, or after a restart: nothing is known
abbrev pub new_links : Home → ℕ → LinksValue
new_links home inc =
    record {
      senders = map (senders_of home.plan) (streams_of home);
      replicas = replicas_of home.plan home.frag;
      me = home.replica;
      known = record {
        upstreams = map (λ s. (new_upstream (senders_of home.plan s)).known) (streams_of home);
        grants = new_grants home.replica inc (spec_of home).replicas;
        peers = replicate (spec_of home).replicas new_watch;
        tries = 0;
      };
    }

-- ---- ports

-- the senders of each
abbrev pub senders_at : List UpstreamValue → List (List ℕ)
senders_at us = map (λ (u : UpstreamValue). u.senders) us

-- and what is known of them
abbrev pub known_at : List UpstreamValue → List Upstream
known_at us = map (λ (u : UpstreamValue). u.known) us

-- no replica of any port is marked
abbrev pub HaveNoMarks : List Upstream → Type 0
HaveNoMarks [] = ⊤
HaveNoMarks (u ∷ us) = AreUnmarked u.watches × HaveNoMarks us

-- ---- who an actor is

-- the port and the replica that an actor is to a reader of streams with these senders, the first of them at port p
abbrev pub sender_among : ℕ → List (List ℕ) → ℕ → Option (ℕ × ℕ)
sender_among p [] a = None
sender_among p (s ∷ rest) a = elim (place_of (λ b. a == b) s) [ None ↦ sender_among (p + 1) rest a | Some r ↦ Some (p, r) ]

-- of each actor that a table has, it tells whom one finds that seeks it among these senders
abbrev pub IsTable : List (Option (ℕ × ℕ)) → List (List ℕ) → Type 0
IsTable table ss = (a : ℕ) (place : Option (ℕ × ℕ)) → slice_get table a ≡ Some place → place ≡ sender_among 0 ss a

-- the other replicas, as actors
abbrev pub peers_in : LinksValue → List ℕ
peers_in v = filter (λ a. not (a == nth 0 v.replicas v.me)) v.replicas

-- what is known of the other replicas
abbrev pub other_watches : ℕ → List Watch → List Watch
other_watches me ws = map (λ (x : ℕ × Watch). x.1) (filter (λ (x : ℕ × Watch). not (x.0 == me)) (numbered ws))

-- ---- what each call leaves

-- what is known of a stream's senders is seen otherwise
abbrev pub seen_otherwise : (Upstream → Upstream) → UpstreamValue → UpstreamValue
seen_otherwise f u = record u { known = f u.known }

-- the sender of one port's stream is seen otherwise
abbrev pub with_upstream : ℕ → (Upstream → Upstream) → Neighbours → Neighbours
with_upstream p f x = record x { upstreams = changed p f x.upstreams }

abbrev pub with_upstreams : (Upstream → Upstream) → Neighbours → Neighbours
with_upstreams f x = record x { upstreams = map f x.upstreams }

abbrev pub no_upstream : Upstream
no_upstream = record { chosen = 0; watches = []; ticks = 0 }

abbrev pub no_value : UpstreamValue
no_value = record { senders = []; known = no_upstream }

-- a beat of a replica that a port reads, and of a replica of the own fragment
abbrev pub after_upstream_beat : Beat → Option (ℕ × ℕ) → Neighbours → Neighbours
after_upstream_beat b None x = x
after_upstream_beat b (Some (p, r)) x = with_upstream p (with_beat r b) x

abbrev pub after_own_beat : Beat → Option ℕ → Neighbours → Neighbours
after_own_beat b None x = x
after_own_beat b (Some r) x = record x { peers = changed r (after_beat b.inc b.state b.recovering) x.peers; grants = after_peer_beat x.grants r (b.inc, b.over) }

-- the port whose chosen replica an actor is
abbrev pub chosen_by : Option (ℕ × ℕ) → Neighbours → Option ℕ
chosen_by None x = None
chosen_by (Some (p, r)) x = if r == (nth no_upstream x.upstreams p).chosen then Some p else None

-- what was held is lost: the own ask is over, and one more recovery begins
abbrev pub with_recovery : Neighbours → Neighbours
with_recovery x = record x { upstreams = map with_no_tick x.upstreams; grants = with_ask_over x.grants; tries = x.tries + 1 }

-- one tick is counted, of every replica and of every session; a promise to an absent replica ends
abbrev pub after_clock_tick : Neighbours → Neighbours
after_clock_tick x =
    let peers = map after_tick x.peers in record x { upstreams = map with_tick x.upstreams; peers = peers; grants = after_absence x.grants (map is_absent peers) }

-- no other replica can hand out a snapshot: each is absent, or recovers itself
abbrev pub nobody_can_help : ℕ → Neighbours → Bool
nobody_can_help me x = list_all (λ w. is_absent w || says_recovering w) (other_watches me x.peers)

-- a port's senders with what is known of them
abbrev pub upstream_at : ℕ → LinksValue → UpstreamValue
upstream_at p v = record { senders = nth [] v.senders p; known = nth no_upstream v.known.upstreams p }

-- what a node that wants to reconcile is to do, where it has promised nobody
abbrev pub asking : ℕ → Neighbours → Option Asked
asking me x =
    if is_none x.grants.promise
    then (if list_all is_absent (other_watches me x.peers) then Some asked.Enter else Some (asked.Ask (own_key x.grants).0 (own_key x.grants).1))
    else None

abbrev pub after_asking : Neighbours → Neighbours
after_asking x = record x { grants = if is_none x.grants.promise then with_ask x.grants else x.grants }
