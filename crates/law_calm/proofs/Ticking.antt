-- What a tick makes of the ports of a node that does not recover, and which acknowledgements the steps of a node send.
use Rattle.std.proofs.Common.{◌≡◌, ℕ, suc, ◌+◌, ◌-◌, min, Bool, true, false, cond, ◌&&◌, ◌==◌, nat_lt, List, [], ◌∷◌, ◌++◌, map, length, refl, sym, ap, subst, ◌∙◌, arith, Option, Some, None, slice_get}
use Rattle.dpc_lists.specs.Lists.{nth, list_all}
use Rattle.dpc_model.specs.Granting.{own_key, grants, with_promise, may_enter_by, with_ask}
use Rattle.dpc_model.specs.Actors.{role_of, sends_stream, senders_of, replicas_of}
use Rattle.dpc_model.specs.Ports.{Port, without_ended_marks, port_after_tick, port_after_choice, subscriptions}
use Rattle.dpc_model.specs.Sessions.{given_items, no_session, Shown, answer_to}
use Rattle.dpc_model.specs.declared.sessions.Sub.{Sub}
use Rattle.dpc_model.specs.declared.tuples.Item.{Item}
use Rattle.dpc_model.specs.declared.tuples.Item.TheVariants as item
use Rattle.dpc_model.specs.declared.messages.Subscribe.{Subscribe}
use Rattle.dpc_model.specs.declared.messages.Message.{Message}
use Rattle.dpc_model.specs.declared.messages.Message.TheVariants as message
use Rattle.dpc_model.specs.declared.messages.NodeState.TheVariants.{Stabilization}
use Rattle.dpc_model.specs.declared.plans.StreamRef.{StreamRef}
use Rattle.dpc_model.specs.NodeStates.{is_up_failure, is_stabilization}
use Rattle.node_model.specs.Mails.{Packet, Plain, SnapFor, Mail, mail, mails, in_actor_order, Stepped}
use Rattle.node_model.specs.Nodes.{Home, PlainNode, streams_of, own_readers, node_frontier, out_stable, complete_buckets, ready, shown}
use Rattle.node_model.specs.NodeSteps.{idle_step, peers_of, replica_number, reader_place, give, given_by, given_stable, enter_step, on_subscribe, on_ask, on_grant, on_snap_ask, on_message, with_marks_ended, packet_step, after_stable_buckets, after_last_correction, mill_step, after_clock, choice_step, ask_step, with_closed, with_failure, processing_upto, processing_step, done_at, acks_from, beats, announcing_step, serving_step, tick_step}
use Rattle.law_safety.proofs.Numbering.{actors-pass}
use Rattle.law_safety.proofs.StepCases.{by-asking, by-processing, by-answer}
use Rattle.dpc_lists.proofs.Truths.{both}
use Rattle.dpc_lists.proofs.Each.{Each, each-append}
use Rattle.law_granting.proofs.Each.{each-sorted, each-to, each-batches, each-subscription, each-beats}
use Rattle.law_granting.proofs.Moves.{get-mapped, reconciling-ports, processing-ports}
use Rattle.law_readers.proofs.Sessions.{ticked-port}
use Rattle.law_calm.proofs.Whole.{ticked-serves}

-- ---- the ports

-- a tick leaves the port as it chooses
pub ticked-ports : (home : Home) (now : ℕ) (n : PlainNode) (p : ℕ) (r : Port) → n.recovering ≡ false → slice_get (tick_step home now n).after.ports p ≡ Some r →
    (q : Port) × (slice_get n.ports p ≡ Some q) × (r ≡ port_after_choice (port_after_tick (without_ended_marks q)))
ticked-ports home now n p r whole e =
    let m = after_clock now (with_marks_ended n) in
    let a = choice_step home m in
    let b = ask_step home a.after in
    let after : (tick_step home now n).after.ports ≡ map port_after_choice m.ports = ap (λ (s : Stepped PlainNode). s.after.ports) (ticked-serves home home.replica now n whole) ∙ processing-ports home b.after ∙ reconciling-ports home a.after in
    let k = get-mapped port_after_choice m.ports p r (sym (ap (λ (xs : List Port). slice_get xs p) after) ∙ e) in
    let was = ticked-port n.ports p k.0 k.1 in
    (was.0, was.1, sym k.2 ∙ ap port_after_choice was.2)

-- ---- acknowledgements

-- an acknowledgement is of a port of the node as it is after the step, to a sender of the port's stream
pub record IsAckOf (home : Home) (z : PlainNode) (to count : ℕ) : Type 0 where
  pub place : ℕ
  pub port : Port
  pub stream : StreamRef
  pub there : slice_get z.ports place ≡ Some port
  pub reads : slice_get (streams_of home) place ≡ Some stream
  pub sends : sends_stream stream (role_of home.plan to) ≡ true
  pub count_is : count ≡ done_at home z port

abbrev pub AcksOf : Home → PlainNode → ℕ → Packet → Type 0
AcksOf home z to (Plain (message.Ack i n)) = IsAckOf home z to n
AcksOf home z to (Plain (message.Batch u index items)) = Unit {0}
AcksOf home z to (Plain (message.Subscribe asked)) = Unit {0}
AcksOf home z to (Plain (message.Truncated u base)) = Unit {0}
AcksOf home z to (Plain (message.Beat b)) = Unit {0}
AcksOf home z to (Plain (message.Ask i n)) = Unit {0}
AcksOf home z to (Plain (message.Grant i n)) = Unit {0}
AcksOf home z to (Plain (message.SnapAsk i n)) = Unit {0}
AcksOf home z to (SnapFor i try s) = Unit {0}

module _ (home : Home) (z : PlainNode) where
  abbrev pub Acks : Mail → Type 0
  Acks m = AcksOf home z m.to m.packet

  given-acks : (items : List Item) (n : PlainNode) → Each Acks (give home items n).sends
  given-acks items n = each-batches Acks (own_readers home) items n.subs (λ to u index. tt)

  entered-acks : (n : PlainNode) → Each Acks (enter_step home n).sends
  unfolding enter_step
  entered-acks n = given-acks (item.Undo (length (out_stable home n)) ∷ []) (record n { closed = []; state = Stabilization; grants = with_ask n.grants })

  -- ---- packets

  asked-acks : (i ask : ℕ) (o : Option ℕ) (n : PlainNode) → Each Acks (on_ask home i ask o n).sends
  asked-acks i ask None n = tt
  asked-acks i ask (Some r) n =
      elim (grants n.grants n.state r (i, ask)) as (λ b. Each Acks (cond {A = Stepped PlainNode} b (record { after = record n { grants = with_promise n.grants r (i, ask) }; sends = mail (nth 0 (replicas_of home.plan home.frag) r) (message.Grant i ask) ∷ [] }) (idle_step n)).sends) [
        | true ↦ (tt, tt)
        | false ↦ tt
      ]

  granted-acks : (i ask : ℕ) (n : PlainNode) → Each Acks (on_grant home i ask n).sends
  granted-acks i ask n = elim (is_up_failure n.state && may_enter_by n.grants (i, ask)) as (λ b. Each Acks (cond {A = Stepped PlainNode} b (enter_step home n) (idle_step n)).sends) [ true ↦ entered-acks n | false ↦ tt ]

  unless-acks : (b : Bool) (n : PlainNode) (s : Stepped PlainNode) → Each Acks s.sends → Each Acks (cond {A = Stepped PlainNode} b (idle_step n) s).sends
  unless-acks true n s h = tt
  unless-acks false n s h = h

  answer-acks : (shows : Shown) (sub : Sub) (asked : Subscribe) (to : ℕ) → Each Acks (elim (answer_to shows sub asked).answer as (λ _. List Mail) [ None ↦ [] | Some m ↦ mail to m ∷ [] ])
  answer-acks shows sub asked to =
      by-answer shows sub asked to (Each Acks) tt (tt, tt) (tt, tt)

  subscribed-acks : (asked : Subscribe) (o : Option ℕ) (n : PlainNode) → Each Acks (on_subscribe home asked o n).sends
  subscribed-acks asked None n = tt
  subscribed-acks asked (Some k) n = answer-acks (shown home n) (nth no_session n.subs k) asked (nth 0 (own_readers home) k)

  message-acks : (a : ℕ) (m : Message) (n : PlainNode) → Each Acks (on_message home a m n).sends
  message-acks a (message.Batch u index items) n = tt
  message-acks a (message.Subscribe asked) n = unless-acks n.recovering n (on_subscribe home asked (reader_place home a) n) (subscribed-acks asked (reader_place home a) n)
  message-acks a (message.Truncated u base) n = tt
  message-acks a (message.Beat b) n = tt
  message-acks a (message.Ack i count) n = tt
  message-acks a (message.Ask i ask) n = asked-acks i ask (replica_number home a) n
  message-acks a (message.Grant i ask) n = granted-acks i ask n
  message-acks a (message.SnapAsk i try) n = unless-acks n.recovering n (on_snap_ask home a i try n) (tt, tt)

  pub packet-acks : (a : ℕ) (packet : Packet) (n : PlainNode) → Each Acks (packet_step home a packet n).sends
  unfolding packet_step
  packet-acks a (Plain m) n = message-acks a m (with_marks_ended n)
  packet-acks a (SnapFor i try s) n = tt

  -- ---- a tick

  acked-to : (i : ℕ) (p : ℕ) (q : Port) (s : StreamRef) (ids : List ℕ) → slice_get z.ports p ≡ Some q → slice_get (streams_of home) p ≡ Some s → list_all (λ b. sends_stream s (role_of home.plan b)) ids ≡ true →
      Each Acks (mails (map (λ b. record { to = b; message = message.Ack i (done_at home z q) }) ids))
  acked-to i p q s [] there reads all = tt
  acked-to i p q s (b ∷ ids) there reads all =
      let k = both (sends_stream s (role_of home.plan b)) (list_all (λ c. sends_stream s (role_of home.plan c)) ids) all in
      (record { place = p; port = q; stream = s; there = there; reads = reads; sends = k.0; count_is = refl }, acked-to i p q s ids there reads k.1)

  acked-from : (i : ℕ) (ports : List Port) (ss : List StreamRef) → ((j : ℕ) → slice_get ports j ≡ slice_get z.ports (i + j)) → ((j : ℕ) → slice_get ss j ≡ slice_get (streams_of home) (i + j)) → Each Acks (acks_from home z ports ss)
  acked-from i [] ss ports streams = tt
  acked-from i (q ∷ rest) [] ports streams = tt
  acked-from i (q ∷ rest) (s ∷ ss) ports streams =
      let none : i + 0 ≡ i = omega arith in
      let there : slice_get z.ports i ≡ Some q = ap (λ (k : ℕ). slice_get z.ports k) (sym none) ∙ sym (ports 0) in
      let reads : slice_get (streams_of home) i ≡ Some s = ap (λ (k : ℕ). slice_get (streams_of home) k) (sym none) ∙ sym (streams 0) in
      each-append Acks (mails (map (λ b. record { to = b; message = message.Ack z.grants.inc (done_at home z q) }) (senders_of home.plan s))) (acks_from home z rest ss)
      (acked-to z.grants.inc i q s (senders_of home.plan s) there reads (actors-pass (sends_stream s) home.plan))
      (acked-from (i + 1) rest ss (λ j. let next : i + suc j ≡ i + 1 + j = omega arith in ports (suc j) ∙ ap (λ (k : ℕ). slice_get z.ports k) next)
      (λ j. let next : i + suc j ≡ i + 1 + j = omega arith in streams (suc j) ∙ ap (λ (k : ℕ). slice_get (streams_of home) k) next))

  announced-acks : Each Acks (announcing_step home z).sends
  announced-acks =
      each-append Acks (in_actor_order (acks_from home z z.ports (streams_of home))) (in_actor_order (beats home z))
      (each-sorted Acks (acks_from home z z.ports (streams_of home)) (acked-from 0 z.ports (streams_of home) (λ j. let none : 0 + j ≡ j = omega arith in ap (λ (k : ℕ). slice_get z.ports k) (sym none))
      (λ j. let none : 0 + j ≡ j = omega arith in ap (λ (k : ℕ). slice_get (streams_of home) k) (sym none))))
      (each-sorted Acks (beats home z) (each-beats Acks home z (λ to l. tt)))

  asking-acks : (n : PlainNode) → Each Acks (ask_step home n).sends
  asking-acks n =
      by-asking home n (λ s. Each Acks s.sends) (entered-acks n) (each-to Acks (message.Ask (own_key n.grants).0 (own_key n.grants).1) (peers_of home) (λ to. tt)) tt

  upto-acks : (last : ℕ) (n : PlainNode) → Each Acks (processing_upto home last n).sends
  upto-acks last n =
      let count = last + 1 - node_frontier n in
      let r = min count (complete_buckets home n) in
      let new = with_failure (with_closed home (count - r) (after_stable_buckets home r n)) in
      given-acks (given_items (length (out_stable home n)) (given_by home n new (nat_lt 0 r) (nat_lt r count))) new

  processing-acks : (n : PlainNode) → Each Acks (processing_step home n).sends
  processing-acks n =
      by-processing home n (λ s. Each Acks s.sends) tt (λ last e due. upto-acks last n)

serving-acks : (home : Home) (m : PlainNode) → Each (Acks home (serving_step home m).after) (serving_step home m).sends
serving-acks home m =
    let a = choice_step home m in
    let b = ask_step home a.after in
    let c = processing_step home b.after in
    let P = Acks home c.after in
    each-append P (a.sends ++ b.sends ++ c.sends) (announcing_step home c.after).sends
    (each-append P (a.sends ++ b.sends) c.sends
    (each-append P a.sends b.sends (each-sorted P (mails (subscriptions home.plan m.ports (streams_of home))) (each-subscription P home.plan m.ports (streams_of home) (λ to asked. tt))) (asking-acks home c.after a.after))
    (processing-acks home c.after b.after)) (announced-acks home c.after)

pub ticked-acks : (home : Home) (now : ℕ) (n : PlainNode) → n.recovering ≡ false → Each (Acks home (tick_step home now n).after) (tick_step home now n).sends
ticked-acks home now n whole =
    subst (λ (s : Stepped PlainNode). Each (Acks home s.after) s.sends) (sym (ticked-serves home home.replica now n whole)) (serving-acks home (after_clock now (with_marks_ended n)))

pub milled-acks : (home : Home) (z : PlainNode) (r : ℕ) (n : PlainNode) → Each (Acks home z) (mill_step home r n).sends
unfolding mill_step
milled-acks home z r n =
    let m = after_stable_buckets home r n in
    let done = is_stabilization n.state && ready home m == 0 in
    given-acks home z (given_items (length (out_stable home n)) (given_stable home n m done)) (after_last_correction done m)
