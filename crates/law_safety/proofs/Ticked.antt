-- A tick of a node.
use Rattle.std.proofs.Common.{◌≡◌, ℕ, suc, ◌+◌, ◌<◌, true, false, cond, not, ◌&&◌, ◌==◌, List, [], ◌∷◌, ◌++◌, map, length, refl, sym, ap, ◌∙◌, arith, Some, None, slice_get}
use Rattle.std.specs.Prelude.{zip}
use Rattle.std.proofs.lemmas.List.{length-map}
use Rattle.std.specs.List.{filter}
use Rattle.dpc_lists.specs.Lists.{nth, list_all}
use Rattle.dpc_model.specs.Inlets.{with_next_session, asked_by}
use Rattle.dpc_model.specs.Replicas.{rank_of}
use Rattle.dpc_model.specs.Granting.{with_ask, own_key}
use Rattle.dpc_model.specs.Actors.{role_of, are_peers, reads_from, senders_of, replicas_of, is_replica_of}
use Rattle.dpc_model.specs.declared.actors.Role.{Role}
use Rattle.dpc_model.specs.declared.actors.Role.TheVariants.{Source as IsSource, Node as IsNode, Client as IsClient, Nobody}
use Rattle.dpc_model.specs.Ports.{Port, held_at, choice_at, must_reopen, port_after_choice, subscriptions, acks_to}
use Rattle.dpc_model.specs.Sessions.{tally_of}
use Rattle.dpc_model.specs.declared.sessions.Sub.{Sub}
use Rattle.dpc_model.specs.declared.messages.Message.{Message}
use Rattle.dpc_model.specs.declared.messages.Message.TheVariants as message
use Rattle.dpc_model.specs.declared.plans.Plan.{Plan}
use Rattle.dpc_model.specs.declared.plans.StreamRef.{StreamRef}
use Rattle.dpc_model.specs.declared.plans.StreamRef.TheVariants.{Frag}
use Rattle.node_model.specs.Mails.{mail, mails, in_actor_order, to_each, Stepped}
use Rattle.node_model.specs.Nodes.{Home, PlainNode, streams_of, own_readers, held_by, out_stable}
use Rattle.node_model.specs.NodeSteps.{then_do, peers_of, after_clock, may_start_afresh, choice_step, ask_step, enter_step, processing_step, done_at, acks_from, beat_of, beats, announcing_step, serving_step, snapshot_ask_step, rest_of_tick, with_fresh_start, with_marks_ended, tick_step}
use Rattle.world_model.specs.Orderly.{is_port_sound, are_ports_sound}
use Rattle.law_safety.proofs.Milling.{IsSafeNode-same}
use Rattle.dpc_lists.proofs.Truths.{both, both-of, eq-of, eq-test, or-left, or-right}
use Rattle.dpc_model.proofs.Choice.{choose-within}
use Rattle.law_safety.proofs.SoundPorts.{port-of, port-test}
use Rattle.law_safety.proofs.Frames.{IsGood, IsSafeNode-held, out_stable-held, held-map, ports-map, marks-good, clocked-good}
use Rattle.law_safety.proofs.Emptied.{later-good}
use Rattle.law_safety.proofs.Starting.{fresh-good}
use Rattle.law_safety.proofs.Numbering.{actors-pass, all-nth, replica-at, home-inputs, senders-read, readers-read, node-sends-it}
use Rattle.law_safety.proofs.Mailing.{IsMail, AreMails, mails-append, mails-sorted, IsActor, node-mail}
use Rattle.law_safety.proofs.Giving.{IsGoodStep, processing-good, entered-good}
use Rattle.law_safety.proofs.StepCases.{by-asking}

-- ---- the choice of a replica

pub choice-below : (p : Port) → p.chosen < length p.watches → choice_at p < length p.watches
choice-below p low = let many = length-map p.watches rank_of in rw many at (choose-within p.chosen (map rank_of p.watches) (rw many low))

pub chosen-sound : (plan : Plan) (s : StreamRef) (i most : ℕ) (p : Port) → is_port_sound plan s i most p ≡ true → is_port_sound plan s i (most + 1) (port_after_choice p) ≡ true
chosen-sound plan s i most p h =
    let k = port-of plan s i most p h in
    let few = k.number in
    elim (must_reopen p) as (λ b. is_port_sound plan s i (most + 1) (record p { inlet = cond b (with_next_session p.inlet) p.inlet; chosen = choice_at p; ticks = cond b 0 p.ticks }) ≡ true) [
      | true ↦ port-test plan s i (most + 1) (record p { inlet = with_next_session p.inlet; chosen = choice_at p; ticks = 0 }) (record { past = k.past; inc = k.inc; number = omega (arith, few); watches = k.watches; chosen = choice-below p k.chosen; fits = k.fits })
      | false ↦ port-test plan s i (most + 1) (record p { chosen = choice_at p }) (record { past = k.past; inc = k.inc; number = omega (arith, few); watches = k.watches; chosen = choice-below p k.chosen; fits = k.fits })
    ]

pub chosen-held : (p : Port) → held_at (port_after_choice p) ≡ held_at p
chosen-held p = elim (must_reopen p) as (λ b. (cond b (with_next_session p.inlet) p.inlet).held ≡ p.inlet.held) [ true ↦ refl | false ↦ refl ]

-- ---- subscriptions and acknowledgements

-- whoever has this role reads each of these streams
abbrev pub Reads : Plan → Role → List StreamRef → Type 0
Reads plan role ss = (i : ℕ) (s : StreamRef) → slice_get ss i ≡ Some s → list_all (λ b. reads_from plan role (role_of plan b)) (senders_of plan s) ≡ true

pub home-reads : (home : Home) (r : ℕ) → Reads home.plan (IsNode home.frag r) (streams_of home)
home-reads home r i s at = senders-read home.plan (IsNode home.frag r) i s (rw (home-inputs home r) at)

-- a mail of a reader to a sender of its stream
abbrev pub IsUpward : Plan → ℕ → Role → Message → Type 0
IsUpward plan a role m = (to : ℕ) → reads_from plan role (role_of plan to) ≡ true → IsMail plan a ⊥ (mail to m)

pub subscribed-mails : (plan : Plan) (a : ℕ) (role : Role) (i most : ℕ) (ss : List StreamRef) (ports : List Port) → ((asked : _) → IsUpward plan a role (message.Subscribe asked)) → Reads plan role ss →
    are_ports_sound plan i most ss ports ≡ true → AreMails plan a ⊥ (mails (subscriptions plan ports ss))
subscribed-mails plan a role i most [] [] up reads h = tt
subscribed-mails plan a role i most [] (p ∷ ports) up reads h = cc
subscribed-mails plan a role i most (s ∷ ss) [] up reads h = cc
subscribed-mails plan a role i most (s ∷ ss) (p ∷ ports) up reads h =
    let d = both (is_port_sound plan s i most p) (are_ports_sound plan i most ss ports) h in
    let k = port-of plan s i most p d.0 in
    let many = k.watches in
    let low : choice_at p < length (senders_of plan s) = rw many at (choice-below p k.chosen) in
    let rest = subscribed-mails plan a role i most ss ports up (λ j u e. reads (suc j) u e) d.1 in
    elim (must_reopen p) as (λ b. AreMails plan a ⊥ (mails (cond b (record { to = nth 0 (senders_of plan s) (choice_at p); message = message.Subscribe (asked_by (with_next_session p.inlet)) } ∷ []) [] ++ subscriptions plan ports ss))) [
      | true ↦ (up (asked_by (with_next_session p.inlet)) (nth 0 (senders_of plan s) (choice_at p)) (all-nth (λ b. reads_from plan role (role_of plan b)) 0 (senders_of plan s) (choice_at p) low (reads 0 s refl)), rest)
      | false ↦ rest
    ]

each-upward : (plan : Plan) (a : ℕ) (role : Role) (m : Message) (ids : List ℕ) → IsUpward plan a role m → list_all (λ b. reads_from plan role (role_of plan b)) ids ≡ true →
    AreMails plan a ⊥ (mails (map (λ b. record { to = b; message = m }) ids))
each-upward plan a role m [] up h = tt
each-upward plan a role m (b ∷ ids) up h =
    let p = both (reads_from plan role (role_of plan b)) (list_all (λ b. reads_from plan role (role_of plan b)) ids) h in (up b p.0, each-upward plan a role m ids up p.1)

pub acked-mails : (plan : Plan) (a : ℕ) (role : Role) (i count : ℕ) (s : StreamRef) → IsUpward plan a role (message.Ack i count) → list_all (λ b. reads_from plan role (role_of plan b)) (senders_of plan s) ≡ true →
    AreMails plan a ⊥ (mails (acks_to plan i count s))
acked-mails plan a role i count s up h = each-upward plan a role (message.Ack i count) (senders_of plan s) up h

acks-mails : (home : Home) (a : ℕ) (n : PlainNode) (ss : List StreamRef) (ports : List Port) → IsActor home a → Reads home.plan (IsNode home.frag home.replica) ss → AreMails home.plan a ⊥ (acks_from home n ports ss)
acks-mails home a n [] [] actor reads = tt
acks-mails home a n [] (p ∷ ports) actor reads = tt
acks-mails home a n (s ∷ ss) [] actor reads = tt
acks-mails home a n (s ∷ ss) (p ∷ ports) actor reads =
    mails-append home.plan a ⊥ (mails (acks_to home.plan n.grants.inc (done_at home n p) s)) (acks_from home n ports ss)
    (acked-mails home.plan a (IsNode home.frag home.replica) n.grants.inc (done_at home n p) s (λ to way. node-mail home a to (message.Ack n.grants.inc (done_at home n p)) ⊥ actor tt way refl (λ e. cc)) (reads 0 s refl))
    (acks-mails home a n ss ports actor (λ j u e. reads (suc j) u e))

-- ---- the other replicas

peer-role : (f r : ℕ) (role : Role) → is_replica_of f role ≡ true → ((q : ℕ) → role ≡ IsNode f q → r ≡ q → ⊥) → are_peers (IsNode f r) role ≡ true
peer-role f r (IsSource s) h other = cc
peer-role f r (IsClient c) h other = cc
peer-role f r Nobody h other = cc
peer-role f r (IsNode g q) h other =
    (elim (r == q) as (λ b. (r == q) ≡ b → (f == g && not b) ≡ true) [
      | true ↦ λ e. absurd (other q (ap (λ x. IsNode x q) (sym (eq-of f g h))) (eq-of r q e))
      | false ↦ λ e. both-of (f == g) true h refl
    ]) refl

peers-all : (home : Home) (me : ℕ) (ids : List ℕ) → IsActor home me → list_all (λ b. is_replica_of home.frag (role_of home.plan b)) ids ≡ true →
    list_all (λ b. are_peers (IsNode home.frag home.replica) (role_of home.plan b)) (filter (λ a. not (a == nth 0 (replicas_of home.plan home.frag) home.replica)) ids) ≡ true
peers-all home me [] actor h = refl
peers-all home me (b ∷ ids) actor h =
    let p = both (is_replica_of home.frag (role_of home.plan b)) (list_all (λ b. is_replica_of home.frag (role_of home.plan b)) ids) h in
    let first = nth 0 (replicas_of home.plan home.frag) home.replica in
    let rest = filter (λ a. not (a == first)) ids in
    (elim (b == first) as (λ c. (b == first) ≡ c → list_all (λ b. are_peers (IsNode home.frag home.replica) (role_of home.plan b)) (cond (not c) (b ∷ rest) rest) ≡ true) [
      | true ↦ λ e. peers-all home me ids actor p.1
      | false ↦ λ e. both-of (are_peers (IsNode home.frag home.replica) (role_of home.plan b)) _
          (peer-role home.frag home.replica (role_of home.plan b) p.0
          (λ q role same.
          let here : nth 0 (replicas_of home.plan home.frag) q ≡ b = replica-at home.plan b home.frag q role in
          let found : b ≡ first = sym here ∙ ap (λ (r : ℕ). nth 0 (replicas_of home.plan home.frag) r) (sym same) in
          let yes = eq-test b first found in
          let clash : true ≡ false = sym yes ∙ e in cc))
          (peers-all home me ids actor p.1)
    ]) refl

pub peers-are : (home : Home) (me : ℕ) → IsActor home me → list_all (λ b. are_peers (IsNode home.frag home.replica) (role_of home.plan b)) (peers_of home) ≡ true
peers-are home me actor = peers-all home me (replicas_of home.plan home.frag) actor (actors-pass (is_replica_of home.frag) home.plan)

-- a mail to each peer
to_peers-mails : (home : Home) (me : ℕ) (m : Message) (ids : List ℕ) → ((to : ℕ) → are_peers (IsNode home.frag home.replica) (role_of home.plan to) ≡ true → IsMail home.plan me ⊥ (mail to m)) →
    list_all (λ b. are_peers (IsNode home.frag home.replica) (role_of home.plan b)) ids ≡ true → AreMails home.plan me ⊥ (to_each m ids)
to_peers-mails home me m [] sends h = tt
to_peers-mails home me m (b ∷ ids) sends h =
    let p = both (are_peers (IsNode home.frag home.replica) (role_of home.plan b)) (list_all (λ b. are_peers (IsNode home.frag home.replica) (role_of home.plan b)) ids) h in
    (sends b p.0, to_peers-mails home me m ids sends p.1)

-- a mail to each reader, with what is told of its session
pub zipped-mails : (plan : Plan) (a : ℕ) (role : Role) (f : Sub → Message) (ids : List ℕ) (subs : List Sub) → ((to : ℕ) (sub : Sub) → reads_from plan (role_of plan to) role ≡ true → IsMail plan a ⊥ (mail to (f sub))) →
    list_all (λ b. reads_from plan (role_of plan b) role) ids ≡ true → AreMails plan a ⊥ (map (λ (x : ℕ × Sub). mail x.0 (f x.1)) (zip ids subs))
zipped-mails plan a role f [] [] sends h = tt
zipped-mails plan a role f [] (sub ∷ subs) sends h = tt
zipped-mails plan a role f (b ∷ ids) [] sends h = tt
zipped-mails plan a role f (b ∷ ids) (sub ∷ subs) sends h =
    let p = both (reads_from plan (role_of plan b) role) (list_all (λ b. reads_from plan (role_of plan b) role) ids) h in (sends b sub p.0, zipped-mails plan a role f ids subs sends p.1)

beats-mails : (home : Home) (me : ℕ) (n : PlainNode) → IsActor home me → AreMails home.plan me ⊥ (beats home n)
beats-mails home me n actor =
    let role = IsNode home.frag home.replica in
    mails-append home.plan me ⊥ (to_each (beat_of n None) (peers_of home)) (map (λ (x : ℕ × Sub). mail x.0 (beat_of n (tally_of x.1))) (zip (own_readers home) n.subs))
    (to_peers-mails home me (beat_of n None) (peers_of home)
    (λ to way. node-mail home me to (beat_of n None) ⊥ actor tt (or-right (reads_from home.plan (role_of home.plan to) role) (are_peers role (role_of home.plan to)) way) refl (λ e. cc)) (peers-are home me actor))
    (zipped-mails home.plan me role (λ sub. beat_of n (tally_of sub)) (own_readers home) n.subs
    (λ to sub way. node-mail home me to (beat_of n (tally_of sub)) ⊥ actor tt (or-left (reads_from home.plan (role_of home.plan to) role) (are_peers role (role_of home.plan to)) way) refl (λ e. cc))
    (readers-read home.plan (Frag home.frag) role (node-sends-it home.frag home.replica)))

-- ---- the steps of a tick

pub announcing-good : (home : Home) (me most : ℕ) (n : PlainNode) → IsActor home me → IsGood home most n → IsGoodStep home me most ⊥ (announcing_step home n)
announcing-good home me most n actor g =
    record {
      after = g;
      mails = mails-append home.plan me ⊥ (in_actor_order (acks_from home n n.ports (streams_of home))) (in_actor_order (beats home n))
          (mails-sorted home.plan me ⊥ (acks_from home n n.ports (streams_of home)) (acks-mails home me n (streams_of home) n.ports actor (home-reads home home.replica)))
          (mails-sorted home.plan me ⊥ (beats home n) (beats-mails home me n actor));
    }

pub choosing-good : (home : Home) (me most : ℕ) (n : PlainNode) → IsActor home me → n.recovering ≡ false → IsGood home most n → IsGoodStep home me (most + 1) ⊥ (choice_step home n)
choosing-good home me most n actor up g =
    let m = record n { ports = map port_after_choice n.ports } in
    let held : held_by m ≡ held_by n = held-map port_after_choice chosen-held n.ports in
    let o = (later-good home most n g).orderly in
    let role = IsNode home.frag home.replica in
    record {
      after = record {
        safe = IsSafeNode-held home n m held refl refl refl g.safe;
        orderly = record {
          ports = ports-map home.plan n.grants.inc most (most + 1) port_after_choice (λ s p h. chosen-sound home.plan s n.grants.inc most p h) (streams_of home) n.ports g.orderly.ports;
          state = o.state;
          recovering = rw up refl;
          closed = o.closed;
          stamps = o.stamps;
          base = λ e. rw (out_stable-held home n m held refl) (o.base e);
          shape = o.shape;
        };
      };
      mails = mails-sorted home.plan me ⊥ (mails (subscriptions home.plan n.ports (streams_of home)))
          (subscribed-mails home.plan me role n.grants.inc most (streams_of home) n.ports (λ asked to way. node-mail home me to (message.Subscribe asked) ⊥ actor tt way refl (λ e. cc)) (home-reads home home.replica) g.orderly.ports);
    }

pub reconciling-good : (home : Home) (me most : ℕ) (n : PlainNode) → IsActor home me → n.recovering ≡ false → IsGood home most n → IsGoodStep home me most ⊥ (ask_step home n)
unfolding out_stable
reconciling-good home me most n actor up g =
    let o = g.orderly in
    by-asking home n (IsGoodStep home me most ⊥) (entered-good home me most n actor up g)
    (record {
      after = record {
        safe = IsSafeNode-same home n (record n { grants = with_ask n.grants }) refl refl refl refl g.safe;
        orderly = record { ports = o.ports; state = o.state; recovering = rw up refl; closed = o.closed; stamps = o.stamps; base = o.base; shape = o.shape };
      };
      mails = to_peers-mails home me (message.Ask (own_key n.grants).0 (own_key n.grants).1) (peers_of home)
          (λ to way. node-mail home me to (message.Ask (own_key n.grants).0 (own_key n.grants).1) ⊥ actor tt way refl (λ e. cc)) (peers-are home me actor);
    }) (record { after = g; mails = tt })

pub reconciling-recovering : (home : Home) (n : PlainNode) → (ask_step home n).after.recovering ≡ n.recovering
unfolding enter_step
reconciling-recovering home n =
    by-asking home n (λ s. s.after.recovering ≡ n.recovering) refl refl refl

pub then-good : (home : Home) (me most more : ℕ) (s : Stepped PlainNode) (f : PlainNode → Stepped PlainNode) → IsGoodStep home me most ⊥ s → IsGoodStep home me more ⊥ (f s.after) → IsGoodStep home me more ⊥ (then_do s f)
then-good home me most more s f h k = record { after = k.after; mails = mails-append home.plan me ⊥ s.sends (f s.after).sends h.mails k.mails }

pub serving-good : (home : Home) (me most : ℕ) (n : PlainNode) → IsActor home me → n.recovering ≡ false → IsGood home most n → IsGoodStep home me (most + 1) ⊥ (serving_step home n)
serving-good home me most n actor up g =
    let a = choice_step home n in
    let b = ask_step home a.after in
    let c = processing_step home b.after in
    let one = choosing-good home me most n actor up g in
    let two = reconciling-good home me (most + 1) a.after actor up one.after in
    let three = processing-good home me (most + 1) b.after actor two.after (reconciling-recovering home a.after ∙ up) in
    let four = announcing-good home me (most + 1) c.after actor three.after in
    then-good home me (most + 1) (most + 1) (then_do (then_do a (ask_step home)) (processing_step home)) (announcing_step home)
    (then-good home me (most + 1) (most + 1) (then_do a (ask_step home)) (processing_step home) (then-good home me (most + 1) (most + 1) a (ask_step home) one two) three) four

snapshots-good : (home : Home) (me most : ℕ) (n : PlainNode) → IsActor home me → IsGood home most n → IsGoodStep home me most ⊥ (snapshot_ask_step home n)
snapshots-good home me most n actor g =
    record {
      after = g;
      mails = to_peers-mails home me (message.SnapAsk n.grants.inc n.tries) (peers_of home)
          (λ to way. node-mail home me to (message.SnapAsk n.grants.inc n.tries) ⊥ actor tt way refl (λ e. cc)) (peers-are home me actor);
    }

going_on-good : (home : Home) (me most : ℕ) (n : PlainNode) → IsActor home me → IsGood home most n → IsGoodStep home me (most + 1) ⊥ (rest_of_tick home n)
going_on-good home me most n actor g =
    (elim n.recovering as (λ b. n.recovering ≡ b → IsGoodStep home me (most + 1) ⊥ (cond (not b) (serving_step home n) (cond (may_start_afresh home n) (serving_step home (with_fresh_start n)) (then_do (snapshot_ask_step home n) (announcing_step home))))) [
      | false ↦ λ up. serving-good home me most n actor up g
      | true ↦ λ down. elim (may_start_afresh home n) as (λ b. IsGoodStep home me (most + 1) ⊥ (cond b (serving_step home (with_fresh_start n)) (then_do (snapshot_ask_step home n) (announcing_step home)))) [
        | true ↦ serving-good home me most (with_fresh_start n) actor refl (fresh-good home most n actor.place down g)
        | false ↦ then-good home me most (most + 1) (snapshot_ask_step home n) (announcing_step home) (snapshots-good home me most n actor g) (announcing-good home me (most + 1) n actor (later-good home most n g))
      ]
    ]) refl

pub ticked-good : (home : Home) (me most now : ℕ) (n : PlainNode) → IsActor home me → IsGood home most n → IsGoodStep home me (most + 1) ⊥ (tick_step home now n)
unfolding tick_step
ticked-good home me most now n actor g = going_on-good home me most (after_clock now (with_marks_ended n)) actor (clocked-good home most now (with_marks_ended n) (marks-good home most n g))
