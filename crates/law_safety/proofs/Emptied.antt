-- Nodes that hold nothing: begun to recover, restarted, new, started afresh, or with a snapshot.
use Rattle.std.proofs.Common.{◌≡◌, ℕ, ◌+◌, ◌≤◌, Bool, true, false, cond, not, ◌&&◌, ◌==◌, nat_le, List, [], ◌∷◌, map, length, refl, ◌∙◌, arith}
use Rattle.std.proofs.lemmas.List.{length-map}
use Rattle.dpc_lists.specs.Lists.{list_all, is_nil}
use Rattle.dpc_model.specs.Streams.{is_below}
use Rattle.dpc_model.specs.Fragments.{ideal, ideal_upto}
use Rattle.dpc_model.specs.Granting.{Grants, with_ask_over}
use Rattle.dpc_model.specs.Ports.{Port, held_at}
use Rattle.dpc_model.specs.Sessions.{Acked, with_session_shut}
use Rattle.dpc_model.specs.declared.sessions.Sub.{Sub}
use Rattle.dpc_model.specs.declared.tuples.Tuple.{Tuple}
use Rattle.dpc_model.specs.declared.plans.Plan.{Plan}
use Rattle.dpc_model.specs.declared.plans.StreamRef.{StreamRef}
use Rattle.dpc_model.specs.NodeStates.{is_stabilization}
use Rattle.dpc_model.specs.Reading.{stable_reader}
use Rattle.node_model.specs.Nodes.{Home, PlainNode, spec_of, streams_of, own_readers}
use Rattle.node_model.specs.NodeSteps.{emptied_port, after_loss}
use Rattle.world_model.specs.Safe.{HoldsOf, EachHolds}
use Rattle.world_model.specs.Orderly.{is_port_sound, are_ports_sound, recovers_empty, has_shape}
use Rattle.law_safety.specs.Plans.{IsChecked, IsPlace}
use Rattle.dpc_lists.proofs.Truths.{both, both-of, le-of, le-test, lt-of, eq-of, eq-test, not-of, all-map, or-right}
use Rattle.law_safety.proofs.Columns.{ideal_upto-below}
use Rattle.law_safety.proofs.SoundPorts.{port-of, port-test}
use Rattle.law_safety.proofs.Closing.{closed-test, none-closed}
use Rattle.law_safety.proofs.Frames.{IsGood, is_empty_port, ports-map}

-- ---- the parts of an orderly node

pub record IsShaped (home : Home) (most : ℕ) (n : PlainNode) : Type 0 where
  pub subs : length n.subs ≡ length (own_readers home)
  pub acks : length n.acks ≡ length (own_readers home)
  pub peers : length n.peers ≡ (spec_of home).replicas
  pub heard : length n.grants.heard ≡ (spec_of home).replicas
  pub me : n.grants.me ≡ home.replica
  pub tries : n.tries ≤ most
  pub over : n.grants.over ≤ most

pub shape-of : (home : Home) (most : ℕ) (n : PlainNode) → has_shape home most n ≡ true → IsShaped home most n
shape-of home most n h =
    let a = both _ (nat_le n.grants.over most) h in
    let b = both _ (nat_le n.tries most) a.0 in
    let c = both _ (n.grants.me == home.replica) b.0 in
    let d = both _ (length n.grants.heard == (spec_of home).replicas) c.0 in
    let e = both _ (length n.peers == (spec_of home).replicas) d.0 in
    let f = both (length n.subs == length (own_readers home)) (length n.acks == length (own_readers home)) e.0 in
    record {
      subs = eq-of _ _ f.0;
      acks = eq-of _ _ f.1;
      peers = eq-of _ _ e.1;
      heard = eq-of _ _ d.1;
      me = eq-of _ _ c.1;
      tries = le-of _ _ b.1;
      over = le-of _ _ a.1;
    }

pub shape-test : (home : Home) (most : ℕ) (n : PlainNode) → IsShaped home most n → has_shape home most n ≡ true
shape-test home most n h =
    both-of _ (nat_le n.grants.over most)
    (both-of _ (nat_le n.tries most)
    (both-of _ (n.grants.me == home.replica)
    (both-of _ (length n.grants.heard == (spec_of home).replicas)
    (both-of _ (length n.peers == (spec_of home).replicas)
    (both-of (length n.subs == length (own_readers home)) (length n.acks == length (own_readers home)) (eq-test _ _ h.subs) (eq-test _ _ h.acks))
    (eq-test _ _ h.peers)) (eq-test _ _ h.heard)) (eq-test _ _ h.me)) (le-test _ _ h.tries)) (le-test _ _ h.over)

abbrev pub no_ack : Acked → Bool
no_ack a = a.0 == 0 && a.1 == 0

abbrev pub is_shut : Sub → Bool
is_shut sub = not sub.is_open

-- a node that recovers
pub record IsEmptied (n : PlainNode) : Type 0 where
  pub state : is_stabilization n.state ≡ true
  pub ports : list_all is_empty_port n.ports ≡ true
  pub stamps : is_nil n.stamps ≡ true
  pub closed : is_nil n.closed ≡ true
  pub cursor : n.cursor ≡ 0
  pub base : n.base ≡ 0
  pub acks : list_all no_ack n.acks ≡ true
  pub subs : list_all is_shut n.subs ≡ true
  pub running : n.grants.running ≡ false

pub emptied-of : (n : PlainNode) → n.recovering ≡ true → recovers_empty n ≡ true → IsEmptied n
emptied-of n down h =
    let whole = rw down at h in
    let a = both _ (not n.grants.running) whole in
    let b = both _ (list_all is_shut n.subs) a.0 in
    let c = both _ (list_all no_ack n.acks) b.0 in
    let d = both _ (n.base == 0) c.0 in
    let e = both _ (n.cursor == 0) d.0 in
    let f = both _ (is_nil n.closed) e.0 in
    let g = both _ (is_nil n.stamps) f.0 in
    let p = both (is_stabilization n.state) (list_all is_empty_port n.ports) g.0 in
    record {
      state = p.0;
      ports = p.1;
      stamps = g.1;
      closed = f.1;
      cursor = eq-of _ _ e.1;
      base = eq-of _ _ d.1;
      acks = c.1;
      subs = b.1;
      running = not-of _ a.1;
    }

pub emptied-test : (n : PlainNode) → IsEmptied n → recovers_empty n ≡ true
emptied-test n h =
    or-right (not n.recovering) _
    (both-of _ (not n.grants.running)
    (both-of _ (list_all is_shut n.subs)
    (both-of _ (list_all no_ack n.acks)
    (both-of _ (n.base == 0)
    (both-of _ (n.cursor == 0)
    (both-of _ (is_nil n.closed)
    (both-of _ (is_nil n.stamps)
    (both-of (is_stabilization n.state) (list_all is_empty_port n.ports) h.state h.ports) h.stamps) h.closed) (eq-test _ _ h.cursor)) (eq-test _ _ h.base)) h.acks) h.subs) (rw h.running refl))

-- ---- nothing is held

pub none-below : (ts : List Tuple) → list_all (is_below 0) ts ≡ true → ts ≡ []
none-below [] h = refl
none-below (t ∷ ts) h = let p = both (is_below 0 t) (list_all (is_below 0) ts) h in absurd (let less = lt-of t.stime 0 p.0 in omega (arith, less))

pub empty-holds : (plan : Plan) (s : StreamRef) → IsChecked plan → HoldsOf plan s (stable_reader [] 0)
empty-holds plan s checked =
    record {
      stable = (ideal plan s, refl);
      within = omega arith;
      bound = rw (none-below (ideal_upto plan s 0) (ideal_upto-below plan s 0 checked)) (omega arith);
    }

emptied-holds : (plan : Plan) → IsChecked plan → (ss : List StreamRef) (ports : List Port) → EachHolds plan ss (map held_at ports) → EachHolds plan ss (map held_at (map (emptied_port [] 0) ports))
emptied-holds plan checked [] [] h = tt
emptied-holds plan checked [] (p ∷ ports) h = absurd h
emptied-holds plan checked (s ∷ ss) [] h = absurd h
emptied-holds plan checked (s ∷ ss) (p ∷ ports) h = (empty-holds plan s checked, emptied-holds plan checked ss ports h.1)

pub emptied-sound : (plan : Plan) (s : StreamRef) (i most b : ℕ) (ts : List Tuple) (p : Port) → is_port_sound plan s i most p ≡ true → is_port_sound plan s i most (emptied_port ts b p) ≡ true
emptied-sound plan s i most b ts p h =
    let k = port-of plan s i most p h in
    port-test plan s i most (emptied_port ts b p) (record { past = refl; inc = k.inc; number = k.number; watches = k.watches; chosen = k.chosen; fits = refl })

-- ---- begun to recover

pub finished-over : (g : Grants) (most : ℕ) → g.over ≤ most → (with_ask_over g).over ≤ most + 1
finished-over g most h = elim g.running as (λ b. cond b (g.over + 1) g.over ≤ most + 1) [
  | true ↦ omega (arith, h)
  | false ↦ omega (arith, h)
]

pub later-sound : (plan : Plan) (s : StreamRef) (i most : ℕ) (p : Port) → is_port_sound plan s i most p ≡ true → is_port_sound plan s i (most + 1) p ≡ true
later-sound plan s i most p h =
    let k = port-of plan s i most p h in
    let few = k.number in
    port-test plan s i (most + 1) p (record { past = k.past; inc = k.inc; number = omega (arith, few); watches = k.watches; chosen = k.chosen; fits = k.fits })

ports-later : (plan : Plan) (i most : ℕ) (ss : List StreamRef) (ports : List Port) → are_ports_sound plan i most ss ports ≡ true → are_ports_sound plan i (most + 1) ss ports ≡ true
ports-later plan i most [] [] h = refl
ports-later plan i most [] (p ∷ ports) h = cc
ports-later plan i most (s ∷ ss) [] h = cc
ports-later plan i most (s ∷ ss) (p ∷ ports) h =
    let k = both (is_port_sound plan s i most p) (are_ports_sound plan i most ss ports) h in
    both-of (is_port_sound plan s i (most + 1) p) (are_ports_sound plan i (most + 1) ss ports) (later-sound plan s i most p k.0) (ports-later plan i most ss ports k.1)

-- the limits rise
pub later-good : (home : Home) (most : ℕ) (n : PlainNode) → IsGood home most n → IsGood home (most + 1) n
later-good home most n g =
    let o = g.orderly in
    let k = shape-of home most n o.shape in
    let tries = k.tries in
    let over = k.over in
    record {
      safe = g.safe;
      orderly = record {
        ports = ports-later home.plan n.grants.inc most (streams_of home) n.ports o.ports;
        state = o.state;
        recovering = o.recovering;
        closed = o.closed;
        stamps = o.stamps;
        base = o.base;
        shape = shape-test home (most + 1) n (record { subs = k.subs; acks = k.acks; peers = k.peers; heard = k.heard; me = k.me; tries = omega (arith, tries); over = omega (arith, over) });
      };
    }

pub recovering_again-good : (home : Home) (most : ℕ) (n : PlainNode) → IsPlace home → IsGood home most n → IsGood home (most + 1) (after_loss home n)
unfolding after_loss
recovering_again-good home most n place g =
    let m = after_loss home n in
    let o = g.orderly in
    let k = shape-of home most n o.shape in
    let tries = k.tries in
    record {
      safe = record { inputs = emptied-holds home.plan place.checked (streams_of home) n.ports g.safe.inputs; output = λ e. cc };
      orderly = record {
        ports = (ports-map home.plan n.grants.inc (most + 1) (most + 1) (emptied_port [] 0) (λ s p h. emptied-sound home.plan s n.grants.inc (most + 1) 0 [] p h)
            (streams_of home) n.ports (ports-later home.plan n.grants.inc most (streams_of home) n.ports o.ports));
        state = refl;
        recovering = emptied-test m (record {
          state = refl;
          ports = all-map is_empty_port (emptied_port [] 0) n.ports (λ p. refl);
          stamps = refl;
          closed = refl;
          cursor = refl;
          base = refl;
          acks = all-map no_ack (λ _. (0, 0)) n.acks (λ a. refl);
          subs = all-map is_shut with_session_shut n.subs (λ sub. refl);
          running = refl;
        });
        closed = closed-test home m (none-closed home 0 (omega arith));
        stamps = refl;
        base = λ e. cc;
        shape = shape-test home (most + 1) m (record {
          subs = length-map n.subs with_session_shut ∙ k.subs;
          acks = length-map n.acks (λ _. (0, 0)) ∙ k.acks;
          peers = k.peers;
          heard = k.heard;
          me = k.me;
          tries = omega (arith, tries);
          over = finished-over n.grants most k.over;
        });
      };
    }
