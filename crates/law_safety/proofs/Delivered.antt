-- A node takes any packet that is true and fits.
use Rattle.std.proofs.Common.{◌≡◌, ℕ, zero, suc, ◌+◌, Bool, true, false, cond, not, ◌&&◌, ◌==◌, List, [], ◌∷◌, map, length, refl, sym, ap, ◌∙◌, arith, Option, Some, None, slice_get, ◌⊎◌, inl, inr}
use Rattle.std.proofs.lemmas.Grind.{common_steps}
use Rattle.dpc_lists.specs.Lists.{nth, changed, list_all}
use Rattle.dpc_model.specs.Reading.{Reader}
use Rattle.dpc_model.specs.Inlets.{same_sess, after_tally, take_batch}
use Rattle.dpc_model.specs.Replicas.{with_mark, after_beat}
use Rattle.dpc_model.specs.Granting.{grants, with_promise, after_peer_beat, later_key, may_enter_by}
use Rattle.dpc_model.specs.Actors.{role_of, are_peers, sends_stream, replicas_of}
use Rattle.dpc_model.specs.declared.actors.Role.{Role}
use Rattle.dpc_model.specs.declared.actors.Role.TheVariants.{Source as IsSource, Node as IsNode, Client as IsClient, Nobody}
use Rattle.dpc_model.specs.Ports.{Port, held_at, sender_at, on_beat, on_truncated, all_truncated}
use Rattle.dpc_model.specs.Sessions.{after_ack}
use Rattle.dpc_model.specs.declared.batches.Taken.TheVariants.{Old, Broken}
use Rattle.dpc_model.specs.declared.tuples.Item.{Item}
use Rattle.dpc_model.specs.declared.messages.Sess.{Sess}
use Rattle.dpc_model.specs.declared.messages.Beat.{Beat}
use Rattle.dpc_model.specs.declared.messages.NodeState.{NodeState}
use Rattle.dpc_model.specs.declared.messages.NodeState.TheVariants as state
use Rattle.dpc_model.specs.declared.messages.Message.{Message}
use Rattle.dpc_model.specs.declared.messages.Message.TheVariants as message
use Rattle.dpc_model.specs.declared.plans.Plan.{Plan}
use Rattle.dpc_model.specs.declared.plans.StreamRef.{StreamRef}
use Rattle.dpc_model.specs.declared.plans.StreamRef.TheVariants.{Source, Frag}
use Rattle.node_model.specs.Mails.{Snap, Packet, Plain, SnapFor, mail, Stepped}
use Rattle.dpc_model.specs.NodeStates.{is_up_failure, is_stabilization}
use Rattle.node_model.specs.Nodes.{Home, PlainNode, streams_of, own_readers, held_by, out_stable}
use Rattle.node_model.specs.NodeSteps.{idle_step, with_port, after_taking, on_batch, on_subscribe, on_truncation, after_loss, on_upstream_beat, on_peer_beat, on_ack, with_base, on_ask, on_grant, enter_step, on_snap_ask, snapshot, on_snap, after_adoption, reader_place, replica_number, on_message, on_packet, with_marks_ended, packet_step}
use Rattle.world_model.specs.Safe.{IsTruePacket, IsTrueSnap}
use Rattle.world_model.specs.Orderly.{is_port_sound, item_fits, packet_way, carries_fitting, recovers_empty}
use Rattle.law_safety.proofs.Milling.{IsSafeNode-same}
use Rattle.law_safety.proofs.Senders.{batch_items, sender_sends}
use Rattle.law_safety.specs.Plans.{IsPlace}
use Rattle.dpc_lists.proofs.Truths.{both, both-of, eq-of}
use Rattle.law_safety.proofs.Processing.{base-follows}
use Rattle.law_safety.proofs.Frames.{IsGood, IsSafeNode-held, out_stable-held, is_empty_port, marks-good}
use Rattle.law_safety.proofs.Emptied.{shape-of, shape-test, emptied-of, emptied-test, later-good, recovering_again-good}
use Rattle.law_safety.proofs.Starting.{adopted-good, snapshot-true}
use Rattle.dpc_lists.proofs.Elements.{length-changed}
use Rattle.dpc_lists.proofs.Somes.{some-same}
use Rattle.dpc_lists.proofs.Places.{place-within, place-nth}
use Rattle.dpc_model.proofs.Alike.{same_stream-eq}
use Rattle.law_safety.proofs.Pointwise.{changed-same, port-at, ports-changed, IsSenderOf, sender-of}
use Rattle.law_safety.proofs.Batches.{took-good, take_batch-broken}
use Rattle.law_safety.proofs.Numbering.{all-at}
use Rattle.law_safety.proofs.Mailing.{mails-weaker, IsActor, node-mail, node-snap}
use Rattle.law_safety.proofs.Giving.{IsGoodStep, IsDoneNode, on_subscribe-good, entered-good}
use Rattle.law_safety.proofs.ClientHolds.{held_at-beat}

-- ---- one port is changed, and what is held stays

pub held-changed : (p : ℕ) (f : Port → Port) (ports : List Port) → ((q : Port) → slice_get ports p ≡ Some q → held_at (f q) ≡ held_at q) → map held_at (changed p f ports) ≡ map held_at ports
held-changed p f [] same = refl
held-changed zero f (q ∷ ports) same = ap (λ (r : Reader). r ∷ map held_at ports) (same q refl)
held-changed (suc p) f (q ∷ ports) same = ap (λ (rs : List Reader). held_at q ∷ rs) (held-changed p f ports same)

all-changed : {X : Type 0} (t : X → Bool) (p : ℕ) (f : X → X) (xs : List X) → ((x : X) → slice_get xs p ≡ Some x → t x ≡ true → t (f x) ≡ true) → list_all t xs ≡ true → list_all t (changed p f xs) ≡ true
all-changed t p f [] keeps h = refl
all-changed t zero f (x ∷ xs) keeps h = let k = both (t x) (list_all t xs) h in both-of (t (f x)) (list_all t xs) (keeps x refl k.0) k.1
all-changed t (suc p) f (x ∷ xs) keeps h = let k = both (t x) (list_all t xs) h in both-of (t x) (list_all t (changed p f xs)) k.0 (all-changed t p f xs keeps k.1)

-- whether the node recovers or not
pub recovers-or : (n : PlainNode) → (n.recovering ≡ true) ⊎ (n.recovering ≡ false)
recovers-or n = by-value n.recovering
  where
    by-value : (b : Bool) → (b ≡ true) ⊎ (b ≡ false)
    by-value true = inl refl
    by-value false = inr refl

pub port-kept-good : (home : Home) (most p : ℕ) (s : StreamRef) (f : Port → Port) (n : PlainNode) → slice_get (streams_of home) p ≡ Some s →
    ((q : Port) → slice_get n.ports p ≡ Some q → held_at (f q) ≡ held_at q) →
    ((q : Port) → slice_get n.ports p ≡ Some q → is_port_sound home.plan s n.grants.inc most q ≡ true → is_port_sound home.plan s n.grants.inc most (f q) ≡ true) →
    ((q : Port) → slice_get n.ports p ≡ Some q → is_empty_port q ≡ true → is_empty_port (f q) ≡ true) → IsGood home most n → IsGood home most (with_port p f n)
port-kept-good home most p s f n at holds sound empty g =
    let m = with_port p f n in
    let o = g.orderly in
    let held : held_by m ≡ held_by n = held-changed p f n.ports holds in
    record {
      safe = IsSafeNode-held home n m held refl refl refl g.safe;
      orderly = record {
        ports = ports-changed home.plan n.grants.inc most p s f (streams_of home) n.ports at sound o.ports;
        state = o.state;
        recovering = by-recovering (recovers-or n);
        closed = o.closed;
        stamps = o.stamps;
        base = λ up. rw (out_stable-held home n m held refl) (o.base up);
        shape = o.shape;
      };
    }
  where
    by-recovering : (n.recovering ≡ true) ⊎ (n.recovering ≡ false) → recovers_empty (with_port p f n) ≡ true
    by-recovering (inl down) =
        let e = emptied-of n down g.orderly.recovering in
        emptied-test (with_port p f n) (record {
          state = e.state;
          ports = all-changed is_empty_port p f n.ports empty e.ports;
          stamps = e.stamps;
          closed = e.closed;
          cursor = e.cursor;
          base = e.base;
          acks = e.acks;
          subs = e.subs;
          running = e.running;
        })
    by-recovering (inr up) = rw up refl

-- ---- a batch

-- batches of a sender of a stream fit the stream
pub role-fits : (plan : Plan) (s : StreamRef) (role : Role) (u : Sess) (index : ℕ) (items : List Item) → sends_stream s role ≡ true → carries_fitting plan role (Plain (message.Batch u index items)) ≡ true →
    list_all (item_fits plan s) items ≡ true
role-fits plan s (IsSource v) u index items e h = rw (same_stream-eq s (Source v) e) h
role-fits plan s (IsNode f r) u index items e h = rw (same_stream-eq s (Frag f) e) h
role-fits plan s (IsClient c) u index items e h = cc
role-fits plan s Nobody u index items e h = cc

empty-broken : (q : Port) → is_empty_port q ≡ true → q.inlet.broken ≡ true
empty-broken q h =
    let waits = (both (q.inlet.broken && not q.inlet.answered && q.inlet.next == 0) _ h).0 in
    let first = (both (q.inlet.broken && not q.inlet.answered) (q.inlet.next == 0) waits).0 in
    (both q.inlet.broken (not q.inlet.answered) first).0

-- a node that recovers takes nothing
took-nothing : (home : Home) (p : ℕ) (q : Port) (u : Sess) (index : ℕ) (items : List Item) (n : PlainNode) → slice_get n.ports p ≡ Some q → q.inlet.broken ≡ true → after_taking home p (take_batch q.inlet u index items) n ≡ n
took-nothing home p q u index items n there broken = by-answer (take_batch-broken q.inlet u index items broken)
  where
    same-port : with_port p (λ x. record x { inlet = q.inlet }) n ≡ n
    same-port = ap (λ (ports : List Port). record n { ports = ports }) (changed-same p (λ x. record x { inlet = q.inlet }) n.ports (λ x e. rw (some-same x q (sym e ∙ there)) refl))

    by-answer : (take_batch q.inlet u index items ≡ record { after = q.inlet; answer = Old }) ⊎ (take_batch q.inlet u index items ≡ record { after = q.inlet; answer = Broken }) → after_taking home p (take_batch q.inlet u index items) n ≡ n
    by-answer (inl e) = rw e same-port
    by-answer (inr e) = rw e same-port

pub on_batch-good : (home : Home) (most a : ℕ) (u : Sess) (index : ℕ) (items : List Item) (n : PlainNode) → IsPlace home → IsTruePacket home.plan (role_of home.plan a) (Plain (message.Batch u index items)) →
    carries_fitting home.plan (role_of home.plan a) (Plain (message.Batch u index items)) ≡ true → IsGood home most n → IsGood home most (on_batch home u index items (sender_at home.plan (streams_of home) a) n)
on_batch-good home most a u index items n place truth fits g =
    (elim (sender_at home.plan (streams_of home) a) as (λ o. sender_at home.plan (streams_of home) a ≡ o → IsGood home most (on_batch home u index items o n)) [
      | None ↦ λ e. g
      | Some pr ↦ λ e. at-port pr.0 pr.1 (sender-of home.plan (streams_of home) a pr.0 pr.1 e)
    ]) refl
  where
    at-port : (p r : ℕ) → IsSenderOf home.plan (streams_of home) a p r → IsGood home most (on_batch home u index items (Some (p, r)) n)
    at-port p r h =
        let s = h.stream in
        let found = port-at home.plan n.grants.inc most p s (streams_of home) n.ports g.orderly.ports h.at in
        let q = found.0 in
        rw found.1 (elim (q.chosen == r) as (λ b. IsGood home most (cond b (after_taking home p (take_batch q.inlet u index items) n) n)) [
          | true ↦ by-recovering p r h q found.1 found.2 (recovers-or n)
          | false ↦ g
        ])
      where
        by-recovering : (p r : ℕ) (h : IsSenderOf home.plan (streams_of home) a p r) (q : Port) → slice_get n.ports p ≡ Some q → is_port_sound home.plan h.stream n.grants.inc most q ≡ true →
            (n.recovering ≡ true) ⊎ (n.recovering ≡ false) → IsGood home most (after_taking home p (take_batch q.inlet u index items) n)
        by-recovering p r h q there sound (inl down) =
            rw (took-nothing home p q u index items n there (empty-broken q (all-at is_empty_port n.ports p q (emptied-of n down g.orderly.recovering).ports there))) g
        by-recovering p r h q there sound (inr up) =
            took-good home most p h.stream q u index items n place up h.at there (batch_items home.plan h.stream a r u index items h.place truth)
            (role-fits home.plan h.stream (role_of home.plan a) u index items (sender_sends home.plan h.stream a r h.place) fits) sound g

-- ---- a truncation

pub truncated-sound : (plan : Plan) (s : StreamRef) (i most r : ℕ) (u : Sess) (base : ℕ) (q : Port) → is_port_sound plan s i most q ≡ true → is_port_sound plan s i most (on_truncated r u base q) ≡ true
truncated-sound plan s i most r u base q h =
    elim (same_sess u q.inlet.sess) as (λ b. is_port_sound plan s i most (record q { watches = cond b (changed r (with_mark base) q.watches) q.watches }) ≡ true) [
      | true ↦ rw (length-changed r (with_mark base) q.watches) h
      | false ↦ h
    ]

pub on_truncation-good : (home : Home) (most a : ℕ) (u : Sess) (base : ℕ) (n : PlainNode) → IsPlace home → IsGood home most n →
    IsGood home (most + 1) (on_truncation home u base (sender_at home.plan (streams_of home) a) n)
on_truncation-good home most a u base n place g =
    (elim (sender_at home.plan (streams_of home) a) as (λ o. sender_at home.plan (streams_of home) a ≡ o → IsGood home (most + 1) (on_truncation home u base o n)) [
      | None ↦ λ e. later-good home most n g
      | Some pr ↦ λ e. at-port pr.0 pr.1 (sender-of home.plan (streams_of home) a pr.0 pr.1 e)
    ]) refl
  where
    at-port : (p r : ℕ) → IsSenderOf home.plan (streams_of home) a p r → IsGood home (most + 1) (on_truncation home u base (Some (p, r)) n)
    at-port p r h =
        let s = h.stream in
        let found = port-at home.plan n.grants.inc most p s (streams_of home) n.ports g.orderly.ports h.at in
        let q = found.0 in
        let port = on_truncated r u base q in
        let same : (x : Port) → slice_get n.ports p ≡ Some x → x ≡ q = λ x e. some-same x q (sym e ∙ found.1) in
        let good = port-kept-good home most p s (λ _. port) n h.at (λ x e. rw (same x e) refl)
        (λ x e k. truncated-sound home.plan s n.grants.inc most r u base q found.2)
        (λ x e k. rw (same x e) at k) g in
        rw found.1 (elim (same_sess u q.inlet.sess && all_truncated port) as (λ b. IsGood home (most + 1) (cond b (after_loss home (with_port p (λ _. port) n)) (with_port p (λ _. port) n))) [
          | true ↦ recovering_again-good home most (with_port p (λ _. port) n) place good
          | false ↦ later-good home most (with_port p (λ _. port) n) good
        ])

-- ---- a beat

pub beat-sound : (plan : Plan) (s : StreamRef) (i most r : ℕ) (b : Beat) (q : Port) → is_port_sound plan s i most q ≡ true → is_port_sound plan s i most (on_beat r b q) ≡ true
beat-sound plan s i most r b q h =
    let many = length-changed r (after_beat b.inc b.state b.recovering) q.watches in
    elim (r == q.chosen) as (λ d. is_port_sound plan s i most (record q { watches = changed r (after_beat b.inc b.state b.recovering) q.watches; inlet = cond d (after_tally q.inlet b.tally) q.inlet }) ≡ true) [
      | true ↦ rw many h
      | false ↦ rw many h
    ]

beat-empty : (r : ℕ) (b : Beat) (q : Port) → is_empty_port q ≡ true → is_empty_port (on_beat r b q) ≡ true
beat-empty r b q h =
    elim (r == q.chosen) as (λ d. is_empty_port (record q { watches = changed r (after_beat b.inc b.state b.recovering) q.watches; inlet = cond d (after_tally q.inlet b.tally) q.inlet }) ≡ true) [
      | true ↦ let broken = empty-broken q h in rw broken (rw broken at h)
      | false ↦ h
    ]

pub on_upstream_beat-good : (home : Home) (most a : ℕ) (b : Beat) (n : PlainNode) → IsGood home most n → IsGood home most (on_upstream_beat b (sender_at home.plan (streams_of home) a) n)
on_upstream_beat-good home most a b n g =
    (elim (sender_at home.plan (streams_of home) a) as (λ o. sender_at home.plan (streams_of home) a ≡ o → IsGood home most (on_upstream_beat b o n)) [
      | None ↦ λ e. g
      | Some pr ↦ λ e.
          let h = sender-of home.plan (streams_of home) a pr.0 pr.1 e in
          port-kept-good home most pr.0 h.stream (on_beat pr.1 b) n h.at (λ q k. held_at-beat pr.1 b q) (λ q k l. beat-sound home.plan h.stream n.grants.inc most pr.1 b q l) (λ q k l. beat-empty pr.1 b q l) g
    ]) refl

pub on_peer_beat-good : (home : Home) (most : ℕ) (b : Beat) (o : Option ℕ) (n : PlainNode) → IsGood home most n → IsGood home most (on_peer_beat b o n)
unfolding out_stable
on_peer_beat-good home most b None n g = g
on_peer_beat-good home most b (Some r) n g =
    let m = record n { peers = changed r (after_beat b.inc b.state b.recovering) n.peers; grants = after_peer_beat n.grants r (b.inc, b.over) } in
    let o = g.orderly in
    let k = shape-of home most n o.shape in
    record {
      safe = IsSafeNode-same home n m refl refl refl refl g.safe;
      orderly = record {
        ports = o.ports;
        state = o.state;
        recovering = o.recovering;
        closed = o.closed;
        stamps = o.stamps;
        base = o.base;
        shape = shape-test home most m (record {
          subs = k.subs;
          acks = k.acks;
          peers = length-changed r (after_beat b.inc b.state b.recovering) n.peers ∙ k.peers;
          heard = length-changed r (later_key (b.inc, b.over)) n.grants.heard ∙ k.heard;
          me = k.me;
          tries = k.tries;
          over = k.over;
        });
      };
    }

-- ---- an acknowledgement

pub on_ack-good : (home : Home) (most i count : ℕ) (o : Option ℕ) (n : PlainNode) → n.recovering ≡ false → IsGood home most n → IsGood home most (on_ack home i count o n)
unfolding out_stable
on_ack-good home most i count None n up g = g
on_ack-good home most i count (Some k) n up g =
    let x = record n { acks = changed k (after_ack i count) n.acks } in
    let m = with_base home x in
    let o = g.orderly in
    let s = shape-of home most n o.shape in
    let out = g.safe.output up in
    record {
      safe = record {
        inputs = g.safe.inputs;
        output = λ e. record { reaches = out.reaches; base = let few = out.base in let total = length (out_stable home n) in omega (arith, few); output = out.output };
      };
      orderly = record {
        ports = o.ports;
        state = o.state;
        recovering = rw up refl;
        closed = o.closed;
        stamps = o.stamps;
        base = λ _. base-follows n.base _ _;
        shape = shape-test home most m (record {
          subs = s.subs;
          acks = length-changed k (after_ack i count) n.acks ∙ s.acks;
          peers = s.peers;
          heard = s.heard;
          me = s.me;
          tries = s.tries;
          over = s.over;
        });
      };
    }

-- ---- asks, grants and snapshots

are_peers-sym : (x y : Role) → are_peers x y ≡ true → are_peers y x ≡ true
are_peers-sym (IsNode f r) (IsNode g q) h = grind (arith, common_steps)
are_peers-sym (IsNode f r) (IsSource s) h = cc
are_peers-sym (IsNode f r) (IsClient c) h = cc
are_peers-sym (IsNode f r) Nobody h = cc
are_peers-sym (IsSource s) y h = cc
are_peers-sym (IsClient c) y h = cc
are_peers-sym Nobody y h = cc

pub on_ask-good : (home : Home) (me most sender i ask : ℕ) (n : PlainNode) → IsActor home me → are_peers (role_of home.plan sender) (IsNode home.frag home.replica) ≡ true → IsGood home most n →
    IsGoodStep home me most ⊥ (on_ask home i ask (replica_number home sender) n)
unfolding out_stable
on_ask-good home me most sender i ask n actor way g =
    (elim (replica_number home sender) as (λ o. replica_number home sender ≡ o → IsGoodStep home me most ⊥ (on_ask home i ask o n)) [
      | None ↦ λ e. record { after = g; mails = tt }
      | Some r ↦ λ e. elim (grants n.grants n.state r (i, ask)) as (λ b. IsGoodStep home me most ⊥ (cond b
          (record { after = record n { grants = with_promise n.grants r (i, ask) }; sends = mail (nth 0 (replicas_of home.plan home.frag) r) (message.Grant i ask) ∷ [] }) (idle_step n))) [
            | true ↦ record {
              after = record {
                safe = IsSafeNode-same home n (record n { grants = with_promise n.grants r (i, ask) }) refl refl refl refl g.safe;
                orderly = let o = g.orderly in record { ports = o.ports; state = o.state; recovering = o.recovering; closed = o.closed; stamps = o.stamps; base = o.base; shape = o.shape };
              };
              mails = (
                rw (place-nth sender (replicas_of home.plan home.frag) r e)
                    (node-mail home me sender (message.Grant i ask) ⊥ actor tt (are_peers-sym (role_of home.plan sender) (IsNode home.frag home.replica) way) refl (λ k. cc)),
                tt,
              );
            }
            | false ↦ record { after = g; mails = tt }
          ]
    ]) refl

pub failure-calm : (state : NodeState) → is_up_failure state ≡ true → is_stabilization state ≡ true → ⊥
failure-calm state.Stable e f = cc
failure-calm state.UpFailure e f = cc
failure-calm state.Stabilization e f = cc

-- a node that is UP_FAILURE does not recover
pub failure-up : (home : Home) (most : ℕ) (n : PlainNode) → is_up_failure n.state ≡ true → IsGood home most n → n.recovering ≡ false
failure-up home most n e g = by-recovering (recovers-or n)
  where
    by-recovering : (n.recovering ≡ true) ⊎ (n.recovering ≡ false) → n.recovering ≡ false
    by-recovering (inl down) = absurd (failure-calm n.state e (emptied-of n down g.orderly.recovering).state)
    by-recovering (inr up) = up

pub on_grant-good : (home : Home) (me most i ask : ℕ) (n : PlainNode) → IsActor home me → IsGood home most n → IsGoodStep home me most ⊥ (on_grant home i ask n)
on_grant-good home me most i ask n actor g =
    (elim (is_up_failure n.state) as (λ c. is_up_failure n.state ≡ c → IsGoodStep home me most ⊥ (cond (c && may_enter_by n.grants (i, ask)) (enter_step home n) (idle_step n))) [
      | true ↦ λ e. elim (may_enter_by n.grants (i, ask)) as (λ b. IsGoodStep home me most ⊥ (cond b (enter_step home n) (idle_step n))) [
        | true ↦ entered-good home me most n actor (failure-up home most n e g) g
        | false ↦ record { after = g; mails = tt }
      ]
      | false ↦ λ e. record { after = g; mails = tt }
    ]) refl

pub on_snap_ask-good : (home : Home) (me most sender i try : ℕ) (n : PlainNode) → IsActor home me → n.recovering ≡ false → are_peers (role_of home.plan sender) (IsNode home.frag home.replica) ≡ true → IsGood home most n →
    IsGoodStep home me most ⊥ (on_snap_ask home sender i try n)
on_snap_ask-good home me most sender i try n actor up way g =
    record {
      after = g;
      mails = (node-snap home me sender i try (snapshot home n) ⊥ actor (snapshot-true home n actor.place up g.safe) (are_peers-sym (role_of home.plan sender) (IsNode home.frag home.replica) way), tt);
    }

pub peer-snap : (home : Home) (role : Role) (i try : ℕ) (s : Snap) → are_peers role (IsNode home.frag home.replica) ≡ true → IsTruePacket home.plan role (SnapFor i try s) → IsTrueSnap home.plan home.frag s
peer-snap home (IsNode f r) i try s way truth = let same : f ≡ home.frag = eq-of f home.frag (both (f == home.frag) _ way).0 in rw same at truth
peer-snap home (IsSource u) i try s way truth = cc
peer-snap home (IsClient c) i try s way truth = cc
peer-snap home Nobody i try s way truth = cc

pub on_snap-good : (home : Home) (most i try : ℕ) (s : Snap) (n : PlainNode) → IsPlace home → IsTrueSnap home.plan home.frag s → IsGood home most n → IsGood home most (on_snap home i try s n)
on_snap-good home most i try s n place truth g =
    (elim n.recovering as (λ c. n.recovering ≡ c → IsGood home most (cond (c && i == n.grants.inc && try == n.tries) (after_adoption home s n) n)) [
      | false ↦ λ e. g
      | true ↦ λ down. elim (i == n.grants.inc) as (λ b. IsGood home most (cond (b && try == n.tries) (after_adoption home s n) n)) [
        | false ↦ g
        | true ↦ elim (try == n.tries) as (λ b. IsGood home most (cond b (after_adoption home s n) n)) [
          | true ↦ adopted-good home most s n place down truth g
          | false ↦ g
        ]
      ]
    ]) refl

-- ---- any packet

-- a step that carries no RecDone, with risen limits
pub step-bare : (home : Home) (a most : ℕ) (done : Type 0) (s : Stepped PlainNode) → IsGoodStep home a most ⊥ s → IsGoodStep home a (most + 1) done s
step-bare home a most done s h = record { after = later-good home most s.after h.after; mails = mails-weaker home.plan a ⊥ done (λ e. absurd e) s.sends h.mails }

step-silent : (home : Home) (a most : ℕ) (done : Type 0) (n : PlainNode) → IsGood home most n → IsGoodStep home a most done (idle_step n)
step-silent home a most done n g = record { after = g; mails = tt }

step-later : (home : Home) (a most : ℕ) (done : Type 0) (s : Stepped PlainNode) → IsGoodStep home a most done s → IsGoodStep home a (most + 1) done s
step-later home a most done s h = record { after = later-good home most s.after h.after; mails = h.mails }

-- unless the node recovers
unless-recovering : (home : Home) (a most : ℕ) (n : PlainNode) (f : PlainNode → Stepped PlainNode) → IsGood home most n → (n.recovering ≡ false → IsGoodStep home a most (IsDoneNode home (f n).after) (f n)) →
    IsGoodStep home a most (IsDoneNode home (cond n.recovering (idle_step n) (f n)).after) (cond n.recovering (idle_step n) (f n))
unless-recovering home a most n f g h = by-value n.recovering refl
  where
    by-value : (b : Bool) → n.recovering ≡ b → IsGoodStep home a most (IsDoneNode home (cond b (idle_step n) (f n)).after) (cond b (idle_step n) (f n))
    by-value true e = record { after = g; mails = tt }
    by-value false e = h e

message-good : (home : Home) (me most sender : ℕ) (m : Message) (n : PlainNode) → IsActor home me → packet_way home.plan (role_of home.plan sender) (IsNode home.frag home.replica) (Plain m) ≡ true →
    carries_fitting home.plan (role_of home.plan sender) (Plain m) ≡ true → IsTruePacket home.plan (role_of home.plan sender) (Plain m) → IsGood home most n →
    IsGoodStep home me (most + 1) (IsDoneNode home (on_message home sender m n).after) (on_message home sender m n)
message-good home me most sender (message.Batch u index items) n actor way fits truth g =
    step-silent home me (most + 1) _ _ (later-good home most _ (on_batch-good home most sender u index items n actor.place truth fits g))
message-good home me most sender (message.Subscribe asked) n actor way fits truth g =
    let f : PlainNode → Stepped PlainNode = λ x. on_subscribe home asked (reader_place home sender) x in
    step-later home me most (IsDoneNode home (cond n.recovering (idle_step n) (f n)).after) (cond n.recovering (idle_step n) (f n))
    (unless-recovering home me most n f g (λ up. on_subscribe-good home me most asked (reader_place home sender) n actor up g (λ k e. place-within (λ b. sender == b) (own_readers home) k e)))
message-good home me most sender (message.Truncated u base) n actor way fits truth g = step-silent home me (most + 1) _ _ (on_truncation-good home most sender u base n actor.place g)
message-good home me most sender (message.Beat b) n actor way fits truth g =
    step-silent home me (most + 1) _ _ (later-good home most _ (on_peer_beat-good home most b (replica_number home sender) _ (on_upstream_beat-good home most sender b n g)))
message-good home me most sender (message.Ack i count) n actor way fits truth g =
    step-silent home me (most + 1) _ _ (later-good home most (cond n.recovering n (on_ack home i count (reader_place home sender) n)) (by-value n.recovering refl))
  where
    by-value : (b : Bool) → n.recovering ≡ b → IsGood home most (cond b n (on_ack home i count (reader_place home sender) n))
    by-value true e = g
    by-value false e = on_ack-good home most i count (reader_place home sender) n e g
message-good home me most sender (message.Ask i ask) n actor way fits truth g = step-bare home me most _ (on_ask home i ask (replica_number home sender) n) (on_ask-good home me most sender i ask n actor way g)
message-good home me most sender (message.Grant i ask) n actor way fits truth g = step-bare home me most _ (on_grant home i ask n) (on_grant-good home me most i ask n actor g)
message-good home me most sender (message.SnapAsk i try) n actor way fits truth g =
    let f : PlainNode → Stepped PlainNode = λ x. on_snap_ask home sender i try x in
    step-later home me most (IsDoneNode home (cond n.recovering (idle_step n) (f n)).after) (cond n.recovering (idle_step n) (f n))
    (unless-recovering home me most n f g (λ up. let s = on_snap_ask-good home me most sender i try n actor up way g in record { after = s.after; mails = mails-weaker home.plan me ⊥ _ (λ e. absurd e) (f n).sends s.mails }))

packet-good : (home : Home) (me most sender : ℕ) (packet : Packet) (n : PlainNode) → IsActor home me → packet_way home.plan (role_of home.plan sender) (IsNode home.frag home.replica) packet ≡ true →
    carries_fitting home.plan (role_of home.plan sender) packet ≡ true → IsTruePacket home.plan (role_of home.plan sender) packet → IsGood home most n →
    IsGoodStep home me (most + 1) (IsDoneNode home (on_packet home sender packet n).after) (on_packet home sender packet n)
packet-good home me most sender (Plain m) n actor way fits truth g = message-good home me most sender m n actor way fits truth g
packet-good home me most sender (SnapFor i try s) n actor way fits truth g =
    step-silent home me (most + 1) _ _ (later-good home most _ (on_snap-good home most i try s n actor.place (peer-snap home (role_of home.plan sender) i try s way truth) g))

pub delivered-good : (home : Home) (me most sender : ℕ) (packet : Packet) (n : PlainNode) → IsActor home me → packet_way home.plan (role_of home.plan sender) (IsNode home.frag home.replica) packet ≡ true →
    carries_fitting home.plan (role_of home.plan sender) packet ≡ true → IsTruePacket home.plan (role_of home.plan sender) packet → IsGood home most n →
    IsGoodStep home me (most + 1) (IsDoneNode home (packet_step home sender packet n).after) (packet_step home sender packet n)
unfolding packet_step
delivered-good home me most sender packet n actor way fits truth g = packet-good home me most sender packet (with_marks_ended n) actor way fits truth (marks-good home most n g)
