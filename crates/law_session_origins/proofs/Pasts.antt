-- No step of an actor sends a subscription to session (1, 1): its ports' sessions are it or past it.
use Rattle.std.proofs.Common.{◌≡◌, ℕ, suc, ◌+◌, ◌-◌, Bool, true, false, cond, not, ◌&&◌, ◌==◌, nat_lt, max, min, List, [], ◌∷◌, ◌++◌, map, length, refl, ap, ◌∙◌, arith, Option, Some, None, slice_get, inl, inr}
use Rattle.std.specs.Prelude.{zip}
use Rattle.std.proofs.lemmas.Grind.{common_steps}
use Rattle.dpc_lists.specs.Lists.{nth, list_all}
use Rattle.dpc_model.specs.Inlets.{same_sess, sess_of, new_inlet, restarted_inlet, with_next_session, asked_by}
use Rattle.dpc_model.specs.Reading.{stable_reader}
use Rattle.dpc_model.specs.Granting.{own_key, with_ask, may_enter_by, grants, with_promise}
use Rattle.dpc_model.specs.Actors.{replicas_of, senders_of}
use Rattle.dpc_model.specs.Ports.{Port, port_at, choice_at, must_reopen, subscriptions, acks_to, without_ended_marks, port_after_tick}
use Rattle.dpc_model.specs.Sessions.{Shown, answer_to, given_items, tally_of}
use Rattle.dpc_model.specs.declared.sessions.Sub.{Sub}
use Rattle.dpc_model.specs.declared.tuples.Item.{Item}
use Rattle.dpc_model.specs.declared.tuples.Item.TheVariants as item
use Rattle.dpc_model.specs.declared.messages.NodeState.TheVariants.{Stabilization}
use Rattle.dpc_model.specs.declared.messages.Sess.{Sess}
use Rattle.dpc_model.specs.declared.messages.Subscribe.{Subscribe}
use Rattle.dpc_model.specs.declared.messages.Message.{Message}
use Rattle.dpc_model.specs.declared.messages.Message.TheVariants as message
use Rattle.dpc_model.specs.declared.plans.Plan.{Plan}
use Rattle.dpc_model.specs.declared.plans.StreamRef.{StreamRef}
use Rattle.node_model.specs.Mails.{Packet, Plain, SnapFor, Mail, mail, mails, in_actor_order, Stepped}
use Rattle.dpc_model.specs.NodeStates.{is_up_failure, is_stabilization}
use Rattle.node_model.specs.Nodes.{Home, PlainNode, streams_of, own_readers, node_frontier, out_stable, shown, complete_buckets, ready, new_node, restarted_node}
use Rattle.node_model.specs.NodeSteps.{idle_step, then_do, peers_of, replica_number, give, given_by, given_stable, enter_step, on_subscribe, on_ask, on_snap_ask, reader_place, on_message, on_packet, with_marks_ended, packet_step, after_stable_buckets, after_last_correction, mill_step, after_clock, may_start_afresh, choice_step, ask_step, with_closed, with_failure, processing_upto, processing_step, acks_from, beats, announcing_step, serving_step, snapshot_ask_step, rest_of_tick, with_fresh_start, tick_step}
use Rattle.node_model.specs.Sources.{SourceState, source_readers, source_shown, source_given, source_gives, source_emits, source_releases, source_subscribed, source_packet_step, source_beat, source_tick_step, bound_at}
use Rattle.node_model.specs.Clients.{ClientState, client_stream, client_tick_step}
use Rattle.dpc_lists.proofs.Truths.{both, both-of}
use Rattle.law_safety.proofs.Numbering.{all-at}
use Rattle.law_safety.proofs.StepCases.{by-asking, by-processing, by-answer}
use Rattle.dpc_lists.proofs.Each.{Each, each-append}
use Rattle.law_granting.specs.Taken.{subscribes_packet}
use Rattle.law_granting.proofs.Each.{each-sorted, each-to, each-batches, each-acks, each-beats}
use Rattle.law_granting.proofs.Moves.{Moves, PortsMove, DeliversNext, NoneTaken, delivered-ports, milled-ports, ticked-ports}

-- ---- ports

-- the session behind this one is not (1, 1)
abbrev pub is_past : Sess → Bool
is_past s = not (s.inc == 1 && s.number == 0)

abbrev pub is_port_past : Port → Bool
is_port_past p = is_past p.inlet.sess

abbrev pub are_past : List Port → Bool
are_past ps = list_all is_port_past ps

pub next-past : (u : Sess) → is_past (sess_of u.inc (u.number + 1)) ≡ true
next-past u = grind (arith, common_steps)

pub moves-past : (T : ℕ → Sess → ℕ → Type 0) (q r : Port) → Moves T q r → is_port_past q ≡ true → is_port_past r ≡ true
moves-past T q r (inl k) h = ap is_past k.sess ∙ h
moves-past T q r (inr (inl k)) h = ap is_past k.to ∙ next-past q.inlet.sess
moves-past T q r (inr (inr k)) h = ap is_past k.sess ∙ h

all-of : {X : Type 0} (q : X → Bool) (xs : List X) → ((i : ℕ) (x : X) → slice_get xs i ≡ Some x → q x ≡ true) → list_all q xs ≡ true
all-of q [] h = refl
all-of q (x ∷ xs) h = both-of (q x) (list_all q xs) (h 0 x refl) (all-of q xs (λ i y e. h (suc i) y e))

ports-past : (T : ℕ → ℕ → Sess → ℕ → Type 0) (ps rs : List Port) → PortsMove T ps rs → are_past ps ≡ true → are_past rs ≡ true
ports-past T ps rs moves h = all-of is_port_past rs (λ p r e. let k = moves p r e in moves-past (T p) k.0 r k.2 (all-at is_port_past ps p k.0 h k.1))

pub delivered-past : (home : Home) (a : ℕ) (packet : Packet) (n : PlainNode) → are_past n.ports ≡ true → are_past (packet_step home a packet n).after.ports ≡ true
delivered-past home a packet n h = ports-past (DeliversNext home a packet) n.ports (packet_step home a packet n).after.ports (delivered-ports home a packet n) h

pub milled-past : (home : Home) (r : ℕ) (n : PlainNode) → are_past n.ports ≡ true → are_past (mill_step home r n).after.ports ≡ true
milled-past home r n h = ports-past NoneTaken n.ports (mill_step home r n).after.ports (milled-ports home r n) h

pub ticked-past : (home : Home) (now : ℕ) (n : PlainNode) → are_past n.ports ≡ true → are_past (tick_step home now n).after.ports ≡ true
ticked-past home now n h = ports-past NoneTaken n.ports (tick_step home now n).after.ports (ticked-ports home now n) h

same-ports : (plan : Plan) (i : ℕ) (ss : List StreamRef) → are_past (map (port_at plan (new_inlet i)) ss) ≡ true
same-ports plan i [] = refl
same-ports plan i (s ∷ ss) = both-of (is_past (sess_of i 1)) (are_past (map (port_at plan (new_inlet i)) ss)) (one i) (same-ports plan i ss)
  where
    one : (i : ℕ) → is_past (sess_of i 1) ≡ true
    one i = grind (arith, common_steps)

pub new-past : (home : Home) → are_past (new_node home).ports ≡ true
unfolding new_node
new-past home = same-ports home.plan 1 (streams_of home)

-- a restarted node is not of the first incarnation
pub restarted-past : (home : Home) (i : ℕ) → (i == 1) ≡ false → are_past (restarted_node home i).ports ≡ true
unfolding restarted_node
restarted-past home i e = among (streams_of home)
  where
    among : (ss : List StreamRef) → are_past (map (port_at home.plan (restarted_inlet (stable_reader [] 0) (sess_of i 0))) ss) ≡ true
    among [] = refl
    among (s ∷ ss) = both-of (is_past (sess_of i 0)) (are_past (map (port_at home.plan (restarted_inlet (stable_reader [] 0) (sess_of i 0))) ss)) (rw e refl) (among ss)

-- ---- mails

-- a mail asks for no session (1, 1)
abbrev pub IsLater : Mail → Type 0
IsLater m = subscribes_packet (sess_of 1 1) m.packet ≡ false

next-later : (u : Sess) → is_past u ≡ true → same_sess (sess_of u.inc (u.number + 1)) (sess_of 1 1) ≡ false
next-later u e = grind (arith, common_steps)

subscriptions-later : (plan : Plan) (ports : List Port) (ss : List StreamRef) → are_past ports ≡ true → Each IsLater (mails (subscriptions plan ports ss))
subscriptions-later plan [] ss h = tt
subscriptions-later plan (p ∷ ports) [] h = tt
subscriptions-later plan (p ∷ ports) (s ∷ ss) h =
    let k = both (is_port_past p) (are_past ports) h in
    elim (must_reopen p) as (λ b. Each IsLater (mails (cond b (record { to = nth 0 (senders_of plan s) (choice_at p); message = message.Subscribe (asked_by (with_next_session p.inlet)) } ∷ []) [] ++ subscriptions plan ports ss))) [
      | true ↦ (next-later p.inlet.sess k.0, subscriptions-later plan ports ss k.1)
      | false ↦ subscriptions-later plan ports ss k.1
    ]

answer-later : (x : Shown) (sub : Sub) (asked : Subscribe) (to : ℕ) → Each IsLater (elim (answer_to x sub asked).answer [ None ↦ [] | Some m ↦ mail to m ∷ [] ])
answer-later x sub asked to =
    by-answer x sub asked to (Each IsLater) tt (refl, tt) (refl, tt)

-- ---- a node

abbrev pub SendsLater : Stepped PlainNode → Type 0
SendsLater s = Each IsLater s.sends

give-later : (home : Home) (items : List Item) (n : PlainNode) → SendsLater (give home items n)
give-later home items n = each-batches IsLater (own_readers home) items n.subs (λ to u index. refl)

entered-later : (home : Home) (n : PlainNode) → SendsLater (enter_step home n)
unfolding enter_step
entered-later home n = give-later home (item.Undo (length (out_stable home n)) ∷ []) (record n { closed = []; state = Stabilization; grants = with_ask n.grants })

unless-later : (n : PlainNode) (s : Stepped PlainNode) → SendsLater s → SendsLater (cond n.recovering (idle_step n) s)
unless-later n s h = elim n.recovering as (λ b. SendsLater (cond b (idle_step n) s)) [ true ↦ tt | false ↦ h ]

subscribed-later : (home : Home) (asked : Subscribe) (o : Option ℕ) (n : PlainNode) → SendsLater (on_subscribe home asked o n)
subscribed-later home asked None n = tt
subscribed-later home asked (Some k) n = answer-later (shown home n) (nth (record { kept = None; is_open = false; batches = 0 }) n.subs k) asked (nth 0 (own_readers home) k)

ask-later : (home : Home) (i ask : ℕ) (o : Option ℕ) (n : PlainNode) → SendsLater (on_ask home i ask o n)
ask-later home i ask None n = tt
ask-later home i ask (Some r) n =
    elim (grants n.grants n.state r (i, ask)) as (λ b. SendsLater (cond b (record { after = record n { grants = with_promise n.grants r (i, ask) }; sends = mail (nth 0 (replicas_of home.plan home.frag) r) (message.Grant i ask) ∷ [] }) (idle_step n))) [ true ↦ (refl, tt) | false ↦ tt ]

message-later : (home : Home) (a : ℕ) (m : Message) (n : PlainNode) → SendsLater (on_message home a m n)
message-later home a (message.Batch s index items) n = tt
message-later home a (message.Subscribe asked) n = unless-later n (on_subscribe home asked (reader_place home a) n) (subscribed-later home asked (reader_place home a) n)
message-later home a (message.Truncated s base) n = tt
message-later home a (message.Beat b) n = tt
message-later home a (message.Ack i count) n = tt
message-later home a (message.Ask i ask) n = ask-later home i ask (replica_number home a) n
message-later home a (message.Grant i ask) n =
    elim (is_up_failure n.state && may_enter_by n.grants (i, ask)) as (λ b. SendsLater (cond b (enter_step home n) (idle_step n))) [ true ↦ entered-later home n | false ↦ tt ]
message-later home a (message.SnapAsk i try) n = unless-later n (on_snap_ask home a i try n) (refl, tt)

packet-later : (home : Home) (a : ℕ) (packet : Packet) (n : PlainNode) → SendsLater (on_packet home a packet n)
packet-later home a (Plain m) n = message-later home a m n
packet-later home a (SnapFor i try s) n = tt

pub delivered-later : (home : Home) (a : ℕ) (packet : Packet) (n : PlainNode) → SendsLater (packet_step home a packet n)
unfolding packet_step
delivered-later home a packet n = packet-later home a packet (with_marks_ended n)

pub milled-later : (home : Home) (r : ℕ) (n : PlainNode) → SendsLater (mill_step home r n)
unfolding mill_step
milled-later home r n =
    let m = after_stable_buckets home r n in
    let done = is_stabilization n.state && ready home m == 0 in
    give-later home (given_items (length (out_stable home n)) (given_stable home n m done)) (after_last_correction done m)

processing-later : (home : Home) (n : PlainNode) → SendsLater (processing_step home n)
processing-later home n =
    by-processing home n SendsLater tt (λ last e due. processed last)
  where
    processed : (last : ℕ) → SendsLater (processing_upto home last n)
    processed last =
        let count = last + 1 - node_frontier n in
        let stably = min count (complete_buckets home n) in
        let new = with_failure (with_closed home (count - stably) (after_stable_buckets home stably n)) in
        give-later home (given_items (length (out_stable home n)) (given_by home n new (nat_lt 0 stably) (nat_lt stably count))) new

reconciling-later : (home : Home) (n : PlainNode) → SendsLater (ask_step home n)
reconciling-later home n =
    by-asking home n SendsLater (entered-later home n) (each-to IsLater (message.Ask (own_key n.grants).0 (own_key n.grants).1) (peers_of home) (λ to. refl)) tt

announcing-later : (home : Home) (n : PlainNode) → SendsLater (announcing_step home n)
announcing-later home n =
    each-append IsLater (in_actor_order (acks_from home n n.ports (streams_of home))) (in_actor_order (beats home n))
    (each-sorted IsLater (acks_from home n n.ports (streams_of home)) (each-acks IsLater home n n.ports (streams_of home) (λ to count. refl)))
    (each-sorted IsLater (beats home n) (each-beats IsLater home n (λ to l. refl)))

serving-later : (home : Home) (n : PlainNode) → are_past n.ports ≡ true → SendsLater (serving_step home n)
serving-later home n h =
    let a = choice_step home n in
    let b = ask_step home a.after in
    let c = processing_step home b.after in
    each-append IsLater (a.sends ++ b.sends ++ c.sends) (announcing_step home c.after).sends
    (each-append IsLater (a.sends ++ b.sends) c.sends
    (each-append IsLater a.sends b.sends (each-sorted IsLater (mails (subscriptions home.plan n.ports (streams_of home))) (subscriptions-later home.plan n.ports (streams_of home) h)) (reconciling-later home a.after)) (processing-later home b.after)) (announcing-later home c.after)

going_on-later : (home : Home) (n : PlainNode) → are_past n.ports ≡ true → SendsLater (rest_of_tick home n)
going_on-later home n h =
    elim n.recovering as (λ b. SendsLater (cond (not b) (serving_step home n) (cond (may_start_afresh home n) (serving_step home (with_fresh_start n)) (then_do (snapshot_ask_step home n) (announcing_step home))))) [
      | false ↦ serving-later home n h
      | true ↦ elim (may_start_afresh home n) as (λ b. SendsLater (cond b (serving_step home (with_fresh_start n)) (then_do (snapshot_ask_step home n) (announcing_step home)))) [
        | true ↦ serving-later home (with_fresh_start n) h
        | false ↦ each-append IsLater (snapshot_ask_step home n).sends (announcing_step home n).sends (each-to IsLater (message.SnapAsk n.grants.inc n.tries) (peers_of home) (λ to. refl)) (announcing-later home n)
      ]
    ]

map-past : (f : Port → Port) (ps : List Port) → ((q : Port) → (f q).inlet.sess ≡ q.inlet.sess) → are_past ps ≡ true → are_past (map f ps) ≡ true
map-past f [] h e = refl
map-past f (p ∷ ps) h e =
    let k = both (is_port_past p) (are_past ps) e in both-of (is_port_past (f p)) (are_past (map f ps)) (ap is_past (h p) ∙ k.0) (map-past f ps h k.1)

pub ticked-later : (home : Home) (now : ℕ) (n : PlainNode) → are_past n.ports ≡ true → SendsLater (tick_step home now n)
unfolding tick_step
ticked-later home now n h =
    going_on-later home (after_clock now (with_marks_ended n)) (map-past port_after_tick (map without_ended_marks n.ports) (λ q. refl) (map-past without_ended_marks n.ports (λ q. refl) h))

-- ---- a source

gives-later : (plan : Plan) (u t : ℕ) (bound : Option (ℕ × ℕ)) (x : SourceState) → Each IsLater (source_gives plan u t bound x).sends
gives-later plan u t bound x = each-batches IsLater (source_readers plan u) (given_items x.emitted (source_given plan u t bound x)) x.subs (λ to v index. refl)

pub emits-later : (plan : Plan) (u t : ℕ) (x : SourceState) → Each IsLater (source_emits plan u t x).sends
unfolding source_emits
emits-later plan u t x = gives-later plan u t None x

pub releases-later : (plan : Plan) (u t : ℕ) (x : SourceState) → Each IsLater (source_releases plan u t x).sends
unfolding source_releases
releases-later plan u t x = gives-later plan u t (cond (nat_lt x.bound t) (bound_at plan u t) None) (record x { bound = max x.bound t })

subscribed-source : (plan : Plan) (u : ℕ) (asked : Subscribe) (o : Option ℕ) (x : SourceState) → Each IsLater (source_subscribed plan u asked o x).sends
subscribed-source plan u asked None x = tt
subscribed-source plan u asked (Some k) x = answer-later (source_shown plan u x) (nth (record { kept = None; is_open = false; batches = 0 }) x.subs k) asked (nth 0 (source_readers plan u) k)

pub source_took-later : (plan : Plan) (u a : ℕ) (packet : Packet) (x : SourceState) → Each IsLater (source_packet_step plan u a packet x).sends
unfolding source_packet_step
source_took-later plan u a (Plain (message.Subscribe asked)) x = subscribed-source plan u asked _ x
source_took-later plan u a (Plain (message.Batch v index items)) x = tt
source_took-later plan u a (Plain (message.Truncated v base)) x = tt
source_took-later plan u a (Plain (message.Beat b)) x = tt
source_took-later plan u a (Plain (message.Ack i n)) x = tt
source_took-later plan u a (Plain (message.Ask i n)) x = tt
source_took-later plan u a (Plain (message.Grant i n)) x = tt
source_took-later plan u a (Plain (message.SnapAsk i n)) x = tt
source_took-later plan u a (SnapFor i try snap) x = tt

beats-later : (ids : List ℕ) (subs : List Sub) → Each IsLater (map (λ (y : ℕ × Sub). mail y.0 (source_beat (tally_of y.1))) (zip ids subs))
beats-later [] [] = tt
beats-later [] (sub ∷ subs) = tt
beats-later (b ∷ ids) [] = tt
beats-later (b ∷ ids) (sub ∷ subs) = (refl, beats-later ids subs)

pub source_ticked-later : (plan : Plan) (u now : ℕ) (x : SourceState) → Each IsLater (source_tick_step plan u now x).sends
unfolding source_tick_step
source_ticked-later plan u now x = beats-later (source_readers plan u) x.subs

-- ---- a client

pub client_ticked-later : (plan : Plan) (c now : ℕ) (x : ClientState) → is_port_past x.port ≡ true → Each IsLater (client_tick_step plan c now x).sends
unfolding client_tick_step
client_ticked-later plan c now x h =
    let port = port_after_tick (without_ended_marks x.port) in
    each-append IsLater (mails (subscriptions plan (port ∷ []) (client_stream plan c ∷ []))) (mails (acks_to plan 1 (length x.port.inlet.held.stable) (client_stream plan c)))
    (subscriptions-later plan (port ∷ []) (client_stream plan c ∷ []) (both-of (is_port_past x.port) true h refl)) (acked (senders_of plan (client_stream plan c)))
  where
    acked : (ids : List ℕ) → Each IsLater (mails (map (λ a. record { to = a; message = message.Ack 1 (length x.port.inlet.held.stable) }) ids))
    acked [] = tt
    acked (b ∷ ids) = (refl, acked ids)
