-- The steps of the plain node: what it becomes, and what it sends in order.
use Rattle.std.specs.Prelude.{ℕ, ◌+◌, ◌-◌, ◌*◌, Bool, true, false, not, ◌&&◌, ◌||◌, ◌==◌, nat_lt, nat_le, min, if◌then◌else◌, List, [], ◌∷◌, ◌++◌, map, length, drop, filter, zip, Option, Some, None, is_none}
use Rattle.dpc_lists.specs.Lists.{nth, changed, is_nil, list_all, range_with_len, numbered, place_of}
use Rattle.dpc_model.specs.Streams.{count_below}
use Rattle.dpc_model.specs.Reading.{tuples_in, stable_reader}
use Rattle.dpc_model.specs.Inlets.{same_sess, restarted_inlet, AfterBatch, take_batch}
use Rattle.dpc_model.specs.declared.batches.Taken.{Taken}
use Rattle.dpc_model.specs.declared.batches.Taken.TheVariants.{Used, Old, Broken}
use Rattle.dpc_model.specs.Due.{with_stamps}
use Rattle.dpc_model.specs.Replicas.{Watch, after_beat, after_tick, is_absent, says_recovering}
use Rattle.dpc_model.specs.Granting.{own_key, grants, with_promise, may_enter_by, after_peer_beat, after_absence, with_ask, with_ask_over}
use Rattle.dpc_model.specs.Actors.{replicas_of}
use Rattle.dpc_model.specs.Ports.{Port, no_port, sender_at, without_ended_marks, on_beat, on_truncated, all_truncated, port_after_tick, port_after_choice, subscriptions, acks_to}
use Rattle.dpc_model.specs.declared.tuples.Tuple.{Tuple}
use Rattle.dpc_model.specs.declared.tuples.Item.{Item}
use Rattle.dpc_model.specs.declared.tuples.Item.TheVariants as item
use Rattle.dpc_model.specs.declared.messages.Sess.{Sess}
use Rattle.dpc_model.specs.declared.messages.Subscribe.{Subscribe}
use Rattle.dpc_model.specs.declared.messages.Beat.{Beat}
use Rattle.dpc_model.specs.declared.messages.Message.{Message}
use Rattle.dpc_model.specs.declared.messages.Message.TheVariants as message
use Rattle.dpc_model.specs.declared.messages.NodeState.TheVariants.{Stable, UpFailure, Stabilization}
use Rattle.dpc_model.specs.declared.plans.StreamRef.{StreamRef}
use Rattle.dpc_model.specs.Sessions.{with_session_shut, tally_of, Given, given_items, after_ack, base_after}
use Rattle.dpc_model.specs.declared.sessions.Sub.{Sub}
use Rattle.node_model.specs.Mails.{Stepped, Snap, Packet, Plain, SnapFor, Mail, mail, mails, in_actor_order, to_each, to_sessions, to_subscriber}
use Rattle.dpc_model.specs.NodeStates.{is_up_failure, is_stabilization}
use Rattle.node_model.specs.Nodes.{Home, streams_of, own_readers, PlainNode, inputs_done, node_frontier, out_stable, out_tentative, out_bound, out_passed, shown, bucket_of, complete_buckets, ready, due_at, wants_to_reconcile}

abbrev pub idle_step : PlainNode → Stepped PlainNode
idle_step n = record { after = n; sends = [] }

-- one step behind another
abbrev pub then_do : Stepped PlainNode → (PlainNode → Stepped PlainNode) → Stepped PlainNode
then_do s f = let t = f s.after in record { after = t.after; sends = s.sends ++ t.sends }

-- the other replicas of the fragment, as actors
abbrev pub peers_of : Home → List ℕ
peers_of home = filter (λ a. not (a == nth 0 (replicas_of home.plan home.frag) home.replica)) (replicas_of home.plan home.frag)

-- what is known of the other replicas
abbrev pub peer_watches : Home → PlainNode → List Watch
peer_watches home n = map (λ (x : ℕ × Watch). x.1) (filter (λ (x : ℕ × Watch). not (x.0 == home.replica)) (numbered n.peers))

-- the number of the replica that an actor is
abbrev pub replica_number : Home → ℕ → Option ℕ
replica_number home a = place_of (λ b. a == b) (replicas_of home.plan home.frag)

-- one port is changed
abbrev pub with_port : ℕ → (Port → Port) → PlainNode → PlainNode
with_port p f n = record n { ports = changed p f n.ports }

-- ---- giving items to the readers

-- what an event gives goes in one batch to each open session
abbrev pub give : Home → List Item → PlainNode → Stepped PlainNode
give home items n = let s = to_sessions (own_readers home) items n.subs in record { after = record n { subs = s.after }; sends = s.sends }

-- the base follows the acknowledgements
abbrev pub with_base : Home → PlainNode → PlainNode
with_base home n = record n { base = base_after n.base n.acks (length (out_stable home n)) }

-- ---- entering, recovering, snapshots

-- tentative output goes, and the node reconciles from its cursor on
unfoldable pub enter_step : Home → PlainNode → Stepped PlainNode
enter_step home n =
    give home (item.Undo (length (out_stable home n)) ∷ []) (record n { closed = []; state = Stabilization; grants = with_ask n.grants })

-- the inputs of a port are lost; the number of its last session and what is known of its replicas stay
abbrev pub emptied_port : List Tuple → ℕ → Port → Port
emptied_port ts b p = record p { inlet = restarted_inlet (stable_reader ts b) p.inlet.sess; ticks = 0 }

-- the node loses what it holds, and is recovering
unfoldable pub after_loss : Home → PlainNode → PlainNode
after_loss home n =
    record n {
      ports = map (emptied_port [] 0) n.ports;
      stamps = [];
      cursor = 0;
      closed = [];
      state = Stabilization;
      recovering = true;
      subs = map with_session_shut n.subs;
      acks = map (λ _. (0, 0)) n.acks;
      base = 0;
      grants = with_ask_over n.grants;
      tries = n.tries + 1;
    }

-- a snapshot of the node
abbrev pub snapshot : Home → PlainNode → Snap
snapshot home n = record { cursor = n.cursor; inputs = inputs_done home n; base = n.base }

-- ports that hold a snapshot's inputs, all below b
abbrev pub adopted_ports : ℕ → List (List Tuple) → List Port → List Port
adopted_ports b [] ports = []
adopted_ports b (ts ∷ rest) [] = []
adopted_ports b (ts ∷ rest) (p ∷ ports) = emptied_port ts b p ∷ adopted_ports b rest ports

-- a recovering node goes on from a snapshot
unfoldable pub after_adoption : Home → Snap → PlainNode → PlainNode
after_adoption home s n =
    record n {
      ports = adopted_ports (s.cursor * home.plan.width) s.inputs n.ports;
      stamps = [];
      cursor = s.cursor;
      closed = [];
      state = Stable;
      recovering = false;
      subs = map with_session_shut n.subs;
      base = s.base;
    }

-- a recovering node starts at the first bucket
abbrev pub with_fresh_start : PlainNode → PlainNode
with_fresh_start n = record n { state = Stable; recovering = false }

-- ---- taking a packet

-- the tuples taken stamp their buckets
abbrev pub with_stamps_of : Home → Taken → PlainNode → PlainNode
with_stamps_of home (Used items) n = record n { stamps = with_stamps home.plan.width n.cursor n.clock n.stamps (tuples_in items) }
with_stamps_of home Old n = n
with_stamps_of home Broken n = n

abbrev pub after_taking : Home → ℕ → AfterBatch → PlainNode → PlainNode
after_taking home p t n = with_stamps_of home t.answer (with_port p (λ q. record q { inlet = t.after }) n)

-- a batch is taken from the chosen replica alone
abbrev pub on_batch : Home → Sess → ℕ → List Item → Option (ℕ × ℕ) → PlainNode → PlainNode
on_batch home s index items None n = n
on_batch home s index items (Some (p, r)) n =
    let port = nth no_port n.ports p in if port.chosen == r then after_taking home p (take_batch port.inlet s index items) n else n

-- a reader's subscription, by its place among the readers
abbrev pub on_subscribe : Home → Subscribe → Option ℕ → PlainNode → Stepped PlainNode
on_subscribe home asked None n = idle_step n
on_subscribe home asked (Some k) n =
    let s = to_subscriber (own_readers home) (shown home n) k asked n.subs in record { after = record n { subs = s.after }; sends = s.sends }

-- the present session's tuples were truncated; where that holds of every replica of the port, the node begins to recover
abbrev pub on_truncation : Home → Sess → ℕ → Option (ℕ × ℕ) → PlainNode → PlainNode
on_truncation home s base None n = n
on_truncation home s base (Some (p, r)) n =
    let old = nth no_port n.ports p in
    let port = on_truncated r s base old in
    let m = with_port p (λ _. port) n in
    if same_sess s old.inlet.sess && all_truncated port then after_loss home m else m

-- a beat of a replica that a port reads
abbrev pub on_upstream_beat : Beat → Option (ℕ × ℕ) → PlainNode → PlainNode
on_upstream_beat b None n = n
on_upstream_beat b (Some (p, r)) n = with_port p (on_beat r b) n

-- a beat of another replica of the fragment
abbrev pub on_peer_beat : Beat → Option ℕ → PlainNode → PlainNode
on_peer_beat b None n = n
on_peer_beat b (Some r) n =
    record n { peers = changed r (after_beat b.inc b.state b.recovering) n.peers; grants = after_peer_beat n.grants r (b.inc, b.over) }

abbrev pub on_ack : Home → ℕ → ℕ → Option ℕ → PlainNode → PlainNode
on_ack home i count None n = n
on_ack home i count (Some k) n = with_base home (record n { acks = changed k (after_ack i count) n.acks })

-- an ask of another replica is granted, or has no answer
abbrev pub on_ask : Home → ℕ → ℕ → Option ℕ → PlainNode → Stepped PlainNode
on_ask home i ask None n = idle_step n
on_ask home i ask (Some r) n =
    if grants n.grants n.state r (i, ask)
    then record { after = record n { grants = with_promise n.grants r (i, ask) }; sends = mail (nth 0 (replicas_of home.plan home.frag) r) (message.Grant i ask) ∷ [] }
    else idle_step n

-- a grant for the running ask lets a node that is UP_FAILURE enter
abbrev pub on_grant : Home → ℕ → ℕ → PlainNode → Stepped PlainNode
on_grant home i ask n = if is_up_failure n.state && may_enter_by n.grants (i, ask) then enter_step home n else idle_step n

abbrev pub on_snap_ask : Home → ℕ → ℕ → ℕ → PlainNode → Stepped PlainNode
on_snap_ask home sender i try n = record { after = n; sends = record { to = sender; packet = SnapFor i try (snapshot home n) } ∷ [] }

-- the place of a reader
abbrev pub reader_place : Home → ℕ → Option ℕ
reader_place home a = place_of (λ b. a == b) (own_readers home)

-- a message is taken, after the marks that the node has reached are ended
abbrev pub on_message : Home → ℕ → Message → PlainNode → Stepped PlainNode
on_message home a (message.Batch s index items) n = idle_step (on_batch home s index items (sender_at home.plan (streams_of home) a) n)
on_message home a (message.Subscribe asked) n = if n.recovering then idle_step n else on_subscribe home asked (reader_place home a) n
on_message home a (message.Truncated s base) n = idle_step (on_truncation home s base (sender_at home.plan (streams_of home) a) n)
on_message home a (message.Beat b) n =
    idle_step (on_peer_beat b (replica_number home a) (on_upstream_beat b (sender_at home.plan (streams_of home) a) n))
on_message home a (message.Ack i count) n = idle_step (if n.recovering then n else on_ack home i count (reader_place home a) n)
on_message home a (message.Ask i ask) n = on_ask home i ask (replica_number home a) n
on_message home a (message.Grant i ask) n = on_grant home i ask n
on_message home a (message.SnapAsk i try) n = if n.recovering then idle_step n else on_snap_ask home a i try n

-- a snapshot is adopted while the node recovers, where it is for the present try
abbrev pub on_snap : Home → ℕ → ℕ → Snap → PlainNode → PlainNode
on_snap home i try s n = if n.recovering && i == n.grants.inc && try == n.tries then after_adoption home s n else n

abbrev pub with_marks_ended : PlainNode → PlainNode
with_marks_ended n = record n { ports = map without_ended_marks n.ports }

abbrev pub on_packet : Home → ℕ → Packet → PlainNode → Stepped PlainNode
on_packet home a (Plain m) n = on_message home a m n
on_packet home a (SnapFor i try s) n = idle_step (on_snap home i try s n)

-- the node takes a packet of an actor
unfoldable pub packet_step : Home → ℕ → Packet → PlainNode → Stepped PlainNode
packet_step home a packet n = on_packet home a packet (with_marks_ended n)

-- ---- milling

-- the cursor moves on by r buckets; buckets below it have no stamp
abbrev pub past_buckets : ℕ → PlainNode → PlainNode
past_buckets r n = record n { cursor = n.cursor + r; stamps = filter (λ (s : ℕ × ℕ). nat_le (n.cursor + r) s.0) n.stamps }

abbrev pub after_stable_buckets : Home → ℕ → PlainNode → PlainNode
after_stable_buckets home r n = with_base home (past_buckets r n)

-- the new stable output and its boundary
abbrev pub given_stable : Home → PlainNode → PlainNode → Bool → Given
given_stable home old new done =
    record { stable = drop (length (out_stable home old)) (out_stable home new); bound = out_bound home new; tentative = []; passed = None; done = done }

-- where the last corrections were made, the ask is over and the node is STABLE
abbrev pub after_last_correction : Bool → PlainNode → PlainNode
after_last_correction done n = record n { state = if done then Stable else n.state; grants = if done then with_ask_over n.grants else n.grants }

-- r ready buckets are processed
unfoldable pub mill_step : Home → ℕ → PlainNode → Stepped PlainNode
mill_step home r n =
    let m = after_stable_buckets home r n in
    let done = is_stabilization n.state && ready home m == 0 in
    give home (given_items (length (out_stable home n)) (given_stable home n m done)) (after_last_correction done m)

-- ---- a tick

-- the clock moves, every replica's ticks are counted, and a promise to an absent peer ends
abbrev pub after_clock : ℕ → PlainNode → PlainNode
after_clock now n =
    let peers = map after_tick n.peers in
    record n { clock = now; ports = map port_after_tick n.ports; peers = peers; grants = after_absence n.grants (map is_absent peers) }

-- no replica can hand out a snapshot: each is absent, or recovers itself
abbrev pub may_start_afresh : Home → PlainNode → Bool
may_start_afresh home n = list_all (λ w. is_absent w || says_recovering w) (peer_watches home n)

-- a replica is chosen for each port, and sessions are opened anew
abbrev pub choice_step : Home → PlainNode → Stepped PlainNode
choice_step home n =
    record { after = record n { ports = map port_after_choice n.ports }; sends = in_actor_order (mails (subscriptions home.plan n.ports (streams_of home))) }

-- the node asks to reconcile, or enters where every peer is absent
abbrev pub ask_step : Home → PlainNode → Stepped PlainNode
ask_step home n =
    if wants_to_reconcile home n && is_none n.grants.promise
    then (if list_all is_absent (peer_watches home n) then enter_step home n
    else record {
      after = record n { grants = with_ask n.grants };
      sends = to_each (message.Ask (own_key n.grants).0 (own_key n.grants).1) (peers_of home);
    })
    else idle_step n

-- so many buckets are closed as they stand
abbrev pub with_closed : Home → ℕ → PlainNode → PlainNode
with_closed home count n = record n { closed = n.closed ++ map (bucket_of home n) (range_with_len (node_frontier n) count) }

-- the state that the closed buckets mean
abbrev pub with_failure : PlainNode → PlainNode
with_failure n = record n { state = if is_nil n.closed then n.state else UpFailure }

-- what the processed buckets give: old is the node before, new the node after
abbrev pub given_by : Home → PlainNode → PlainNode → Bool → Bool → Given
given_by home old new any_stable any_closed =
    record {
      stable = drop (length (out_stable home old)) (out_stable home new);
      bound = if any_stable then out_bound home new else None;
      tentative = drop (length (out_tentative home old)) (out_tentative home new);
      passed = if any_closed then out_passed home new else None;
      done = false;
    }

-- the number of buckets that are still to be processed up to a last one
abbrev pub count_upto : ℕ → PlainNode → ℕ
count_upto last n = last + 1 - node_frontier n

-- of so many buckets, those that are processed stably: while they are complete and nothing is closed
abbrev pub stably : Home → PlainNode → ℕ → ℕ
stably home n count = min count (complete_buckets home n)

-- the node after so many buckets, of which the first r are processed stably and the others closed
abbrev pub after_buckets : Home → ℕ → ℕ → PlainNode → PlainNode
after_buckets home r count n = with_failure (with_closed home (count - r) (after_stable_buckets home r n))

-- buckets up to the last due one are processed
abbrev pub processing_upto : Home → ℕ → PlainNode → Stepped PlainNode
processing_upto home last n =
    let count = count_upto last n in
    let r = stably home n count in
    let new = after_buckets home r count n in
    give home (given_items (length (out_stable home n)) (given_by home n new (nat_lt 0 r) (nat_lt r count))) new

abbrev pub processing_step : Home → PlainNode → Stepped PlainNode
processing_step home n =
    if is_stabilization n.state then idle_step n
    else elim (due_at home n n.clock) [ None ↦ idle_step n | Some last ↦ processing_upto home last n ]

-- the number of a port's tuples below the cursor's bucket
abbrev pub done_at : Home → PlainNode → Port → ℕ
done_at home n p = if n.recovering then 0 else count_below p.inlet.held.stable (n.cursor * home.plan.width)

abbrev pub acks_from : Home → PlainNode → List Port → List StreamRef → List Mail
acks_from home n [] streams = []
acks_from home n (p ∷ ports) [] = []
acks_from home n (p ∷ ports) (s ∷ streams) = mails (acks_to home.plan n.grants.inc (done_at home n p) s) ++ acks_from home n ports streams

-- what the node tells of itself
abbrev pub beat_of : PlainNode → Option (Sess × ℕ) → Message
beat_of n tally = message.Beat (record { inc = n.grants.inc; state = n.state; recovering = n.recovering; over = n.grants.over; tally = tally })

abbrev pub beats : Home → PlainNode → List Mail
beats home n =
    to_each (beat_of n None) (peers_of home) ++ map (λ (x : ℕ × Sub). mail x.0 (beat_of n (tally_of x.1))) (zip (own_readers home) n.subs)

abbrev pub announcing_step : Home → PlainNode → Stepped PlainNode
announcing_step home n = record { after = n; sends = in_actor_order (acks_from home n n.ports (streams_of home)) ++ in_actor_order (beats home n) }

-- the later steps of a tick of a node that is not recovering
abbrev pub serving_step : Home → PlainNode → Stepped PlainNode
serving_step home n = then_do (then_do (then_do (choice_step home n) (ask_step home)) (processing_step home)) (announcing_step home)

-- a recovering node asks each peer for a snapshot
abbrev pub snapshot_ask_step : Home → PlainNode → Stepped PlainNode
snapshot_ask_step home n = record { after = n; sends = to_each (message.SnapAsk n.grants.inc n.tries) (peers_of home) }

abbrev pub rest_of_tick : Home → PlainNode → Stepped PlainNode
rest_of_tick home n =
    if not n.recovering then serving_step home n
    else (if may_start_afresh home n then serving_step home (with_fresh_start n) else then_do (snapshot_ask_step home n) (announcing_step home))

-- a tick of the node at this clock
unfoldable pub tick_step : Home → ℕ → PlainNode → Stepped PlainNode
tick_step home now n = rest_of_tick home (after_clock now (with_marks_ended n))
