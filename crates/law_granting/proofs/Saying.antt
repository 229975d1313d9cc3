-- What each step of a node does to its asks and promises, and what its mails say of them.
use Rattle.std.proofs.Common.{◌≡◌, ℕ, ◌+◌, ◌-◌, Bool, true, false, cond, not, ◌&&◌, ◌||◌, ◌==◌, nat_lt, min, List, [], ◌∷◌, ◌++◌, map, length, refl, sym, subst, Option, Some, None}
use Rattle.dpc_lists.specs.Lists.{nth}
use Rattle.dpc_model.specs.Inlets.{AfterBatch, take_batch, same_sess}
use Rattle.dpc_model.specs.Replicas.{is_absent}
use Rattle.dpc_model.specs.Granting.{Key, key_le, Grants, own_key, grants, with_promise, promise_to, promised_other, known_over, may_enter_by, with_ask}
use Rattle.dpc_model.specs.Actors.{replicas_of}
use Rattle.dpc_model.specs.Ports.{subscriptions, no_port, sender_at, on_truncated, all_truncated}
use Rattle.dpc_model.specs.Sessions.{Shown, answer_to, given_items}
use Rattle.dpc_model.specs.declared.sessions.Sub.{Sub}
use Rattle.dpc_model.specs.declared.batches.Taken.{Taken}
use Rattle.dpc_model.specs.declared.batches.Taken.TheVariants.{Used, Old, Broken}
use Rattle.dpc_model.specs.declared.tuples.Item.{Item}
use Rattle.dpc_model.specs.declared.tuples.Item.TheVariants as item
use Rattle.dpc_model.specs.declared.messages.NodeState.TheVariants.{Stabilization}
use Rattle.dpc_model.specs.declared.messages.Sess.{Sess}
use Rattle.dpc_model.specs.declared.messages.Subscribe.{Subscribe}
use Rattle.dpc_model.specs.declared.messages.Beat.{Beat}
use Rattle.dpc_model.specs.declared.messages.NodeState.{NodeState}
use Rattle.dpc_model.specs.declared.messages.Message.{Message}
use Rattle.dpc_model.specs.declared.messages.Message.TheVariants as message
use Rattle.node_model.specs.Mails.{Snap, Packet, Plain, SnapFor, Mail, mail, mails, in_actor_order, Stepped}
use Rattle.dpc_model.specs.NodeStates.{is_up_failure, is_stabilization}
use Rattle.dpc_lists.proofs.Places.{place-nth}
use Rattle.node_model.specs.Nodes.{Home, PlainNode, streams_of, own_readers, node_frontier, out_stable, shown, complete_buckets, ready}
use Rattle.node_model.specs.NodeSteps.{idle_step, then_do, peers_of, replica_number, with_port, give, given_by, given_stable, enter_step, after_loss, after_adoption, after_taking, with_stamps_of, on_batch, on_subscribe, on_truncation, on_upstream_beat, on_peer_beat, on_ack, on_ask, on_grant, on_snap_ask, on_snap, reader_place, on_message, on_packet, with_marks_ended, packet_step, after_stable_buckets, after_last_correction, mill_step, after_clock, may_start_afresh, choice_step, ask_step, with_closed, with_failure, processing_upto, processing_step, acks_from, beats, announcing_step, serving_step, snapshot_ask_step, rest_of_tick, with_fresh_start, tick_step}
use Rattle.dpc_lists.proofs.Each.{Each, each-append}
use Rattle.law_safety.proofs.StepCases.{by-asking, by-processing, by-answer}
use Rattle.law_granting.proofs.Each.{each-sorted, each-to, each-batches, each-subscription, each-acks, each-beats}
use Rattle.law_granting.proofs.Keys.{key-refl, greater-second, IsAskStep, step-same, step-asking, step-finished, step-told, step-granted, step-silent}

-- ---- what a mail says

-- a Grant is behind the promise, and an Ask and a Beat name the own asks
pub record IsGrantOf (home : Home) (g : Grants) (to : ℕ) (key : Key) : Type 0 where
  pub replica : ℕ
  pub more : Key
  pub number : replica_number home to ≡ Some replica
  pub promise : g.promise ≡ Some (replica, more)
  pub most : key_le key more ≡ true

pub record IsAskOf (g : Grants) (key : Key) : Type 0 where
  pub inc : key.0 ≡ g.inc
  pub next : key.1 ≡ g.over + 1
  pub runs : g.running ≡ true

abbrev pub SaysOf : Home → Grants → ℕ → Message → Type 0
SaysOf home g to (message.Beat b) = (b.inc ≡ g.inc) × (b.over ≡ g.over)
SaysOf home g to (message.Ask i k) = IsAskOf g (i, k)
SaysOf home g to (message.Grant i k) = IsGrantOf home g to (i, k)
SaysOf home g to (message.Batch u index items) = Unit {0}
SaysOf home g to (message.Subscribe asked) = Unit {0}
SaysOf home g to (message.Truncated u base) = Unit {0}
SaysOf home g to (message.Ack i n) = Unit {0}
SaysOf home g to (message.SnapAsk i n) = Unit {0}

abbrev pub PacketSays : Home → Grants → ℕ → Packet → Type 0
PacketSays home g to (Plain m) = SaysOf home g to m
PacketSays home g to (SnapFor i try s) = Unit {0}

abbrev pub Says : Home → Grants → Mail → Type 0
Says home g m = PacketSays home g m.to m.packet

-- ---- what a packet tells

-- the asks that a beat says to be over
abbrev pub told_key : Packet → Option Key
told_key (Plain (message.Beat b)) = Some (b.inc, b.over)
told_key (Plain m) = None
told_key (SnapFor i try s) = None

abbrev pub asked_key : Packet → Option Key
asked_key (Plain (message.Ask i k)) = Some (i, k)
asked_key (Plain m) = None
asked_key (SnapFor i try s) = None

abbrev pub Hears : Home → ℕ → Packet → ℕ → Key → Type 0
Hears home a packet q key = (replica_number home a ≡ Some q) × (told_key packet ≡ Some key)

abbrev pub Asks : Home → ℕ → Packet → ℕ → Key → Type 0
Asks home a packet q key = (replica_number home a ≡ Some q) × (asked_key packet ≡ Some key)

abbrev pub Ends : Home → ℕ → Packet → ℕ → Key → Type 0
Ends home a packet q key = (k : Key) × Hears home a packet q k × (key_le key k ≡ true)

-- ---- one step

pub record IsOwnStep (H A E : ℕ → Key → Type 0) (home : Home) (n : PlainNode) (s : Stepped PlainNode) : Type 0 where
  pub grants : IsAskStep H A E n.grants s.after.grants
  pub mails : Each (Says home s.after.grants) s.sends

took-grants : (home : Home) (p : ℕ) (t : AfterBatch) (n : PlainNode) → (after_taking home p t n).grants ≡ n.grants
took-grants home p t n = by-answer t.answer
  where
    by-answer : (x : Taken) → (with_stamps_of home x (with_port p (λ q. record q { inlet = t.after }) n)).grants ≡ n.grants
    by-answer (Used items) = refl
    by-answer Old = refl
    by-answer Broken = refl

batch-grants : (home : Home) (u : Sess) (index : ℕ) (items : List Item) (o : Option (ℕ × ℕ)) (n : PlainNode) → (on_batch home u index items o n).grants ≡ n.grants
batch-grants home u index items None n = refl
batch-grants home u index items (Some pr) n =
    let port = nth no_port n.ports pr.0 in
    elim (port.chosen == pr.1) as (λ b. (cond b (after_taking home pr.0 (take_batch port.inlet u index items) n) n).grants ≡ n.grants) [
      | true ↦ took-grants home pr.0 (take_batch port.inlet u index items) n
      | false ↦ refl
    ]

upstream-grants : (b : Beat) (o : Option (ℕ × ℕ)) (n : PlainNode) → (on_upstream_beat b o n).grants ≡ n.grants
upstream-grants b None n = refl
upstream-grants b (Some pr) n = refl

ack-grants : (home : Home) (i count : ℕ) (o : Option ℕ) (n : PlainNode) → (on_ack home i count o n).grants ≡ n.grants
ack-grants home i count None n = refl
ack-grants home i count (Some k) n = refl

snap-grants : (home : Home) (i try : ℕ) (s : Snap) (n : PlainNode) → (on_snap home i try s n).grants ≡ n.grants
unfolding after_adoption
snap-grants home i try s n =
    elim (n.recovering && i == n.grants.inc && try == n.tries) as (λ b. (cond b (after_adoption home s n) n).grants ≡ n.grants) [ true ↦ refl | false ↦ refl ]

give-says : (home : Home) (g : Grants) (items : List Item) (n : PlainNode) → Each (Says home g) (give home items n).sends
give-says home g items n = each-batches (Says home g) (own_readers home) items n.subs (λ to u index. tt)

entered-grants : (home : Home) (n : PlainNode) → (enter_step home n).after.grants ≡ with_ask n.grants
unfolding enter_step
entered-grants home n = refl

entered-says : (home : Home) (g : Grants) (n : PlainNode) → Each (Says home g) (enter_step home n).sends
unfolding enter_step
entered-says home g n = give-says home g (item.Undo (length (out_stable home n)) ∷ []) (record n { closed = []; state = Stabilization; grants = with_ask n.grants })

subscribed-says : (home : Home) (g : Grants) (k : ℕ) (x : Shown) (sub : Sub) (asked : Subscribe) →
    Each (Says home g) (elim (answer_to x sub asked).answer [ None ↦ [] | Some m ↦ mail (nth 0 (own_readers home) k) m ∷ [] ])
subscribed-says home g k x sub asked =
    by-answer x sub asked (nth 0 (own_readers home) k) (Each (Says home g)) tt (tt, tt) (tt, tt)

-- what a grant needs
pub record IsGranted (g : Grants) (s : NodeState) (r : ℕ) (key : Key) : Type 0 where
  pub calm : is_stabilization s ≡ false
  pub same : promised_other g r ≡ false
  pub lower : (g.running && nat_lt g.me r) ≡ false
  pub going_on : known_over g r key ≡ false

pub granted-of : (g : Grants) (s : NodeState) (r : ℕ) (key : Key) → grants g s r key ≡ true → IsGranted g s r key
granted-of g s r key h = by-parts (is_stabilization s) (promised_other g r) (g.running && nat_lt g.me r) (known_over g r key) refl refl refl refl h
  where
    by-parts : (a b c d : Bool) → is_stabilization s ≡ a → promised_other g r ≡ b → (g.running && nat_lt g.me r) ≡ c → known_over g r key ≡ d → not (a || b || c || d) ≡ true → IsGranted g s r key
    by-parts true b c d e f k l x = cc
    by-parts false true c d e f k l x = cc
    by-parts false false true d e f k l x = cc
    by-parts false false false true e f k l x = cc
    by-parts false false false false e f k l x = record { calm = e; same = f; lower = k; going_on = l }

-- ---- a packet

module _ (home : Home) (a : ℕ) (packet : Packet) where
  abbrev own : PlainNode → Stepped PlainNode → Type 0
  own n s = IsOwnStep (Hears home a packet) (Asks home a packet) (Ends home a packet) home n s

  -- the grants stay
  own-silent : (n m : PlainNode) → m.grants ≡ n.grants → own n (idle_step m)
  own-silent n m e = record { grants = step-same (Hears home a packet) (Asks home a packet) (Ends home a packet) n.grants m.grants e; mails = tt }

  own-subscribed : (asked : Subscribe) (o : Option ℕ) (n : PlainNode) → own n (on_subscribe home asked o n)
  own-subscribed asked None n = own-silent n n refl
  own-subscribed asked (Some k) n =
      record {
        grants = step-same (Hears home a packet) (Asks home a packet) (Ends home a packet) n.grants n.grants refl;
        mails = subscribed-says home n.grants k (shown home n) (nth (record { kept = None; is_open = false; batches = 0 }) n.subs k) asked;
      }

  own-truncated : (u : Sess) (base : ℕ) (o : Option (ℕ × ℕ)) (n : PlainNode) → own n (idle_step (on_truncation home u base o n))
  unfolding after_loss
  own-truncated u base None n = own-silent n n refl
  own-truncated u base (Some pr) n =
      let old = nth no_port n.ports pr.0 in
      let port = on_truncated pr.1 u base old in
      let m = with_port pr.0 (λ _. port) n in
      elim (same_sess u old.inlet.sess && all_truncated port) as (λ b. own n (idle_step (cond b (after_loss home m) m))) [
        | true ↦ record {
          grants = step-finished (Hears home a packet) (Asks home a packet) (Ends home a packet) n.grants n.grants (step-same (Hears home a packet) (Asks home a packet) (Ends home a packet) n.grants n.grants refl);
          mails = tt;
        }
        | false ↦ own-silent n m refl
      ]

  own-heard : (b : Beat) (o : Option ℕ) (n m : PlainNode) → replica_number home a ≡ o → told_key packet ≡ Some (b.inc, b.over) → m.grants ≡ n.grants → own n (idle_step (on_peer_beat b o m))
  own-heard b None n m e told same = own-silent n m same
  own-heard b (Some r) n m e told same =
      record {
        grants = subst (λ (g : Grants). IsAskStep (Hears home a packet) (Asks home a packet) (Ends home a packet) g (on_peer_beat b (Some r) m).grants) same
            (step-told (Hears home a packet) (Asks home a packet) (Ends home a packet) m.grants r (b.inc, b.over) (e, told) (λ key h. ((b.inc, b.over), (e, told), h)));
        mails = tt;
      }

  own-asked : (i ask : ℕ) (o : Option ℕ) (n : PlainNode) → replica_number home a ≡ o → asked_key packet ≡ Some (i, ask) → own n (on_ask home i ask o n)
  own-asked i ask None n e asked = own-silent n n refl
  own-asked i ask (Some r) n e asked =
      (elim (grants n.grants n.state r (i, ask)) as (λ b. grants n.grants n.state r (i, ask) ≡ b → own n (cond b
      (record { after = record n { grants = with_promise n.grants r (i, ask) }; sends = mail (nth 0 (replicas_of home.plan home.frag) r) (message.Grant i ask) ∷ [] }) (idle_step n))) [
        | true ↦ λ h. record {
          grants = step-granted (Hears home a packet) (Asks home a packet) (Ends home a packet) n.grants r (i, ask) (e, asked) (granted-of n.grants n.state r (i, ask) h).same;
          mails = (record { replica = r; more = (promise_to n.grants r (i, ask)).1; number = subst (λ (x : ℕ). replica_number home x ≡ Some r) (sym (place-nth a (replicas_of home.plan home.frag) r e)) e; promise = promise-is n.grants.promise refl; most = most-is n.grants.promise refl }, tt);
        }
        | false ↦ λ h. own-silent n n refl
      ]) refl
    where
      promise-is : (p : Option (ℕ × Key)) → n.grants.promise ≡ p → ◌≡◌ {A = Option (ℕ × Key)} (Some (promise_to n.grants r (i, ask))) (Some (r, (promise_to n.grants r (i, ask)).1))
      promise-is None f = rw f refl
      promise-is (Some p) f = rw f refl

      most-is : (p : Option (ℕ × Key)) → n.grants.promise ≡ p → key_le (i, ask) (promise_to n.grants r (i, ask)).1 ≡ true
      most-is None f = rw f (key-refl (i, ask))
      most-is (Some p) f = rw f (greater-second p.1 (i, ask))

  own-granted : (i ask : ℕ) (n : PlainNode) → own n (on_grant home i ask n)
  own-granted i ask n =
      elim (is_up_failure n.state && may_enter_by n.grants (i, ask)) as (λ b. own n (cond b (enter_step home n) (idle_step n))) [
        | true ↦ record {
          grants = subst (λ (g : Grants). IsAskStep (Hears home a packet) (Asks home a packet) (Ends home a packet) n.grants g) (sym (entered-grants home n))
              (step-asking (Hears home a packet) (Asks home a packet) (Ends home a packet) n.grants n.grants (step-same (Hears home a packet) (Asks home a packet) (Ends home a packet) n.grants n.grants refl));
          mails = entered-says home (enter_step home n).after.grants n;
        }
        | false ↦ own-silent n n refl
      ]

  -- unless the node recovers
  own-unless : (n : PlainNode) (s : Stepped PlainNode) → own n s → own n (cond n.recovering (idle_step n) s)
  own-unless n s h = elim n.recovering as (λ b. own n (cond b (idle_step n) s)) [ true ↦ own-silent n n refl | false ↦ h ]

own-message : (home : Home) (a : ℕ) (m : Message) (n : PlainNode) → IsOwnStep (Hears home a (Plain m)) (Asks home a (Plain m)) (Ends home a (Plain m)) home n (on_message home a m n)
own-message home a (message.Batch u index items) n =
    own-silent home a (Plain (message.Batch u index items)) n _ (batch-grants home u index items (sender_at home.plan (streams_of home) a) n)
own-message home a (message.Subscribe asked) n =
    own-unless home a (Plain (message.Subscribe asked)) n (on_subscribe home asked (reader_place home a) n) (own-subscribed home a (Plain (message.Subscribe asked)) asked (reader_place home a) n)
own-message home a (message.Truncated u base) n = own-truncated home a (Plain (message.Truncated u base)) u base (sender_at home.plan (streams_of home) a) n
own-message home a (message.Beat b) n =
    own-heard home a (Plain (message.Beat b)) b (replica_number home a) n (on_upstream_beat b (sender_at home.plan (streams_of home) a) n) refl refl (upstream-grants b (sender_at home.plan (streams_of home) a) n)
own-message home a (message.Ack i count) n =
    own-silent home a (Plain (message.Ack i count)) n (cond n.recovering n (on_ack home i count (reader_place home a) n))
    (elim n.recovering as (λ b. (cond b n (on_ack home i count (reader_place home a) n)).grants ≡ n.grants) [ true ↦ refl | false ↦ ack-grants home i count (reader_place home a) n ])
own-message home a (message.Ask i ask) n = own-asked home a (Plain (message.Ask i ask)) i ask (replica_number home a) n refl refl
own-message home a (message.Grant i ask) n = own-granted home a (Plain (message.Grant i ask)) i ask n
own-message home a (message.SnapAsk i try) n =
    own-unless home a (Plain (message.SnapAsk i try)) n (on_snap_ask home a i try n)
    (record { grants = step-same (Hears home a (Plain (message.SnapAsk i try))) (Asks home a (Plain (message.SnapAsk i try))) (Ends home a (Plain (message.SnapAsk i try))) n.grants n.grants refl; mails = (tt, tt) })

own-packet : (home : Home) (a : ℕ) (packet : Packet) (n : PlainNode) → IsOwnStep (Hears home a packet) (Asks home a packet) (Ends home a packet) home n (on_packet home a packet n)
own-packet home a (Plain m) n = own-message home a m n
own-packet home a (SnapFor i try s) n = own-silent home a (SnapFor i try s) n (on_snap home i try s n) (snap-grants home i try s n)

pub own-delivered : (home : Home) (a : ℕ) (packet : Packet) (n : PlainNode) → IsOwnStep (Hears home a packet) (Asks home a packet) (Ends home a packet) home n (packet_step home a packet n)
unfolding packet_step
own-delivered home a packet n = let k = own-packet home a packet (with_marks_ended n) in record { grants = k.grants; mails = k.mails }

-- ---- milling

abbrev pub Never : ℕ → Key → Type 0
Never q key = ⊥

pub own-milled : (home : Home) (r : ℕ) (n : PlainNode) → IsOwnStep Never Never Never home n (mill_step home r n)
unfolding mill_step
own-milled home r n =
    let m = after_stable_buckets home r n in
    let done = is_stabilization n.state && ready home m == 0 in
    let items = given_items (length (out_stable home n)) (given_stable home n m done) in
    record {
      grants = elim done as (λ b. IsAskStep Never Never Never n.grants (after_last_correction b m).grants) [
        | true ↦ step-finished Never Never Never n.grants n.grants (step-same Never Never Never n.grants n.grants refl)
        | false ↦ step-same Never Never Never n.grants n.grants refl
      ];
      mails = give-says home (after_last_correction done m).grants items (after_last_correction done m);
    }

-- ---- a tick

-- a replica that this tick finds absent
abbrev pub FoundAbsent : ℕ → PlainNode → ℕ → Key → Type 0
FoundAbsent now n q key = nth false (map is_absent (after_clock now n).peers) q ≡ true

processed-grants : (home : Home) (last : ℕ) (n : PlainNode) → (processing_upto home last n).after.grants ≡ n.grants
processed-grants home last n = refl

abbrev HasGrants : Grants → Stepped PlainNode → Type 0
HasGrants g s = s.after.grants ≡ g

processing-grants : (home : Home) (n : PlainNode) → HasGrants n.grants (processing_step home n)
processing-grants home n =
    by-processing home n (HasGrants n.grants) refl (λ last e due. processed-grants home last n)

abbrev SendsSaying : Home → Grants → Stepped PlainNode → Type 0
SendsSaying home g s = Each (Says home g) s.sends

processing-says : (home : Home) (g : Grants) (n : PlainNode) → SendsSaying home g (processing_step home n)
processing-says home g n =
    by-processing home n (SendsSaying home g) tt (λ last e due. processed-says last)
  where
    processed-says : (last : ℕ) → SendsSaying home g (processing_upto home last n)
    processed-says last =
        let count = last + 1 - node_frontier n in
        let stably = min count (complete_buckets home n) in
        let new = with_failure (with_closed home (count - stably) (after_stable_buckets home stably n)) in
        give-says home g (given_items (length (out_stable home n)) (given_by home n new (nat_lt 0 stably) (nat_lt stably count))) new

announcing-says : (home : Home) (n : PlainNode) → Each (Says home n.grants) (announcing_step home n).sends
announcing-says home n =
    each-append (Says home n.grants) (in_actor_order (acks_from home n n.ports (streams_of home))) (in_actor_order (beats home n))
    (each-sorted (Says home n.grants) (acks_from home n n.ports (streams_of home)) (each-acks (Says home n.grants) home n n.ports (streams_of home) (λ to count. tt)))
    (each-sorted (Says home n.grants) (beats home n) (each-beats (Says home n.grants) home n (λ to l. (refl, refl))))

module _ (H A E : ℕ → Key → Type 0) (home : Home) (g : Grants) where
  -- the node asks, or not, and says so
  record IsReconciling (n : PlainNode) (s : Stepped PlainNode) : Type 0 where
    grants : IsAskStep H A E g s.after.grants
    mails : Each (Says home s.after.grants) s.sends

  reconciling-own : (n : PlainNode) → IsAskStep H A E g n.grants → IsReconciling n (ask_step home n)
  reconciling-own n h =
      by-asking home n (IsReconciling n)
      (record { grants = subst (λ (x : Grants). IsAskStep H A E g x) (sym (entered-grants home n)) (step-asking H A E g n.grants h); mails = entered-says home (enter_step home n).after.grants n })
      (record {
        grants = step-asking H A E g n.grants h;
        mails = each-to (Says home (with_ask n.grants)) (message.Ask (own_key n.grants).0 (own_key n.grants).1) (peers_of home) (λ to. record { inc = refl; next = refl; runs = refl });
      }) (record { grants = h; mails = tt })

  serving-own : (n : PlainNode) → IsAskStep H A E g n.grants → IsReconciling n (serving_step home n)
  serving-own n h =
      let a = choice_step home n in
      let b = ask_step home a.after in
      let c = processing_step home b.after in
      let two = reconciling-own a.after h in
      let same = processing-grants home b.after in
      let ab = each-append (Says home b.after.grants) a.sends b.sends
      (each-sorted (Says home b.after.grants) (mails (subscriptions home.plan n.ports (streams_of home))) (each-subscription (Says home b.after.grants) home.plan n.ports (streams_of home) (λ to asked. tt))) two.mails in
      let abc = each-append (Says home b.after.grants) (a.sends ++ b.sends) c.sends ab (processing-says home b.after.grants b.after) in
      record {
        grants = subst (λ (x : Grants). IsAskStep H A E g x) (sym same) two.grants;
        mails = each-append (Says home c.after.grants) (a.sends ++ b.sends ++ c.sends) (announcing_step home c.after).sends
            (subst (λ (x : Grants). Each (Says home x) (a.sends ++ b.sends ++ c.sends)) (sym same) abc) (announcing-says home c.after);
      }

  going_on-own : (n : PlainNode) → IsAskStep H A E g n.grants → IsReconciling n (rest_of_tick home n)
  going_on-own n h =
      elim n.recovering as (λ b. IsReconciling n (cond (not b) (serving_step home n) (cond (may_start_afresh home n) (serving_step home (with_fresh_start n)) (then_do (snapshot_ask_step home n) (announcing_step home))))) [
        | false ↦ serving-own n h
        | true ↦ elim (may_start_afresh home n) as (λ b. IsReconciling n (cond b (serving_step home (with_fresh_start n)) (then_do (snapshot_ask_step home n) (announcing_step home)))) [
          | true ↦ afresh (serving-own (with_fresh_start n) h)
          | false ↦ record {
            grants = h;
            mails = each-append (Says home n.grants) (snapshot_ask_step home n).sends (announcing_step home n).sends
                (each-to (Says home n.grants) (message.SnapAsk n.grants.inc n.tries) (peers_of home) (λ to. tt)) (announcing-says home n);
          }
        ]
      ]
    where
      afresh : IsReconciling (with_fresh_start n) (serving_step home (with_fresh_start n)) → IsReconciling n (serving_step home (with_fresh_start n))
      afresh k = record { grants = k.grants; mails = k.mails }

pub own-ticked : (home : Home) (now : ℕ) (n : PlainNode) → IsOwnStep Never Never (FoundAbsent now n) home n (tick_step home now n)
unfolding tick_step
own-ticked home now n =
    let k = going_on-own Never Never (FoundAbsent now n) home n.grants (after_clock now (with_marks_ended n))
    (step-silent Never Never (FoundAbsent now n) n.grants (map is_absent (after_clock now n).peers) (λ q key e. e)) in
    record { grants = k.grants; mails = k.mails }
