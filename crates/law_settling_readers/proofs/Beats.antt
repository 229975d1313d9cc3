-- The beats that an event sends: a node's tick alone sends any, and each says the state that the tick leaves.
use Rattle.std.proofs.Common.{◌≡◌, ℕ, Bool, true, false, cond, not, ◌&&◌, ◌==◌, nat_lt, List, [], ◌∷◌, ◌++◌, map, length, refl, sym, ap, ◌∙◌, Option, Some, None, slice_get, ◌⊎◌, inl, inr}
use Rattle.dpc_lists.specs.Lists.{nth}
use Rattle.dpc_model.specs.Granting.{own_key, grants, with_promise, may_enter_by, with_ask}
use Rattle.dpc_model.specs.NodeStates.{is_up_failure, is_stabilization}
use Rattle.dpc_model.specs.Actors.{role_of, replicas_of}
use Rattle.dpc_model.specs.Ports.{subscriptions}
use Rattle.dpc_model.specs.Sessions.{Shown, given_items, answer_to, no_session}
use Rattle.dpc_model.specs.declared.sessions.Sub.{Sub}
use Rattle.dpc_model.specs.declared.tuples.Item.{Item}
use Rattle.dpc_model.specs.declared.tuples.Item.TheVariants as item
use Rattle.dpc_model.specs.declared.actors.Role.TheVariants.{Source as IsSource, Node as IsNode, Client as IsClient}
use Rattle.dpc_model.specs.declared.messages.Sess.{Sess}
use Rattle.dpc_model.specs.declared.messages.Beat.{Beat}
use Rattle.dpc_model.specs.declared.messages.Subscribe.{Subscribe}
use Rattle.dpc_model.specs.declared.messages.Event.{Event}
use Rattle.dpc_model.specs.declared.messages.Message.{Message}
use Rattle.dpc_model.specs.declared.messages.Message.TheVariants as message
use Rattle.dpc_model.specs.declared.messages.NodeState.TheVariants.{Stabilization}
use Rattle.node_model.specs.Mails.{Packet, Plain, SnapFor, Mail, mail, mails, in_actor_order, to_each, Stepped}
use Rattle.node_model.specs.Nodes.{Home, PlainNode, streams_of, own_readers, out_stable, ready, shown}
use Rattle.node_model.specs.NodeSteps.{idle_step, then_do, peers_of, replica_number, reader_place, give, given_by, given_stable, enter_step, on_subscribe, on_ask, on_snap_ask, on_message, with_marks_ended, packet_step, after_stable_buckets, after_last_correction, mill_step, after_clock, may_start_afresh, choice_step, ask_step, count_upto, stably, after_buckets, processing_upto, processing_step, acks_from, beat_of, beats, announcing_step, serving_step, snapshot_ask_step, with_fresh_start, rest_of_tick, tick_step}
use Rattle.node_model.specs.Sources.{source_emits, source_releases, source_packet_step, source_tick_step}
use Rattle.node_model.specs.Clients.{client_tick_step}
use Rattle.world_model.specs.Worlds.{World, Envelope, Slot, home_of, slot_of, source_at, client_at, from, node_stepped, source_stepped, client_stepped, happens}
use Rattle.law_safety.proofs.EventCases.{AreCases, by-event}
use Rattle.law_safety.proofs.Happening.{IsFine}
use Rattle.law_safety.proofs.Promises.{slot-here}
use Rattle.law_safety.proofs.StepCases.{by-asking, by-processing, by-answer}
use Rattle.dpc_lists.proofs.Each.{Each, each-append, each-weaker}
use Rattle.law_granting.proofs.Each.{each-sorted, each-to, each-batches, each-subscription, each-acks, each-beats}
use Rattle.law_granting.proofs.Slots.{got-sent}
use Rattle.law_granting.proofs.Asked.{each-unit}

abbrev is_beat : Packet → Bool
is_beat (Plain (message.Beat b)) = true
is_beat (Plain (message.Batch u index items)) = false
is_beat (Plain (message.Truncated u base)) = false
is_beat (Plain (message.Subscribe asked)) = false
is_beat (Plain (message.Ack i n)) = false
is_beat (Plain (message.Ask i n)) = false
is_beat (Plain (message.Grant i n)) = false
is_beat (Plain (message.SnapAsk i n)) = false
is_beat (SnapFor i try s) = false

abbrev NoBeat : Mail → Type 0
NoBeat m = is_beat m.packet ≡ false

-- a beat says this node's state
abbrev Says : PlainNode → Packet → Type 0
Says n packet = (b : Beat) → packet ≡ Plain (message.Beat b) → (b.state ≡ n.state) × (b.recovering ≡ n.recovering)

no-beat : (packet : Packet) (b : Beat) → is_beat packet ≡ false → packet ≡ Plain (message.Beat b) → ⊥
no-beat packet b none same = let clash : true ≡ false = sym (ap is_beat same) ∙ none in cc

beat-says : (n : PlainNode) (l : Option (Sess × ℕ)) → Says n (Plain (beat_of n l))
beat-says n l b e =
    let same = beats-same (record { inc = n.grants.inc; state = n.state; recovering = n.recovering; over = n.grants.over; tally = l }) b e in
    (sym (ap (λ (z : Beat). z.state) same), sym (ap (λ (z : Beat). z.recovering) same))
  where
    beats-same : (c d : Beat) → Plain (message.Beat c) ≡ Plain (message.Beat d) → c ≡ d
    beats-same c d e = cc

-- ---- a node's steps

module _ (home : Home) where
  give-none : (items : List Item) (n : PlainNode) → Each NoBeat (give home items n).sends
  give-none items n = each-batches NoBeat (own_readers home) items n.subs (λ to u index. refl)

  enter-none : (n : PlainNode) → Each NoBeat (enter_step home n).sends
  unfolding enter_step
  enter-none n = give-none (item.Undo (length (out_stable home n)) ∷ []) (record n { closed = []; state = Stabilization; grants = with_ask n.grants })

  answer-none : (k : ℕ) (shows : Shown) (sub : Sub) (asked : Subscribe) → Each NoBeat (elim (answer_to shows sub asked).answer as (λ _. List Mail) [ None ↦ [] | Some m ↦ mail (nth 0 (own_readers home) k) m ∷ [] ])
  answer-none k shows sub asked =
      by-answer shows sub asked (nth 0 (own_readers home) k) (Each NoBeat) tt (refl, tt) (refl, tt)

  subscribe-none : (asked : Subscribe) (k : Option ℕ) (n : PlainNode) → Each NoBeat (on_subscribe home asked k n).sends
  subscribe-none asked None n = tt
  subscribe-none asked (Some k) n = answer-none k (shown home n) (nth no_session n.subs k) asked

  ask-none : (i ask : ℕ) (r : Option ℕ) (n : PlainNode) → Each NoBeat (on_ask home i ask r n).sends
  ask-none i ask None n = tt
  ask-none i ask (Some r) n = elim (grants n.grants n.state r (i, ask)) as (λ c. Each NoBeat (cond {A = Stepped PlainNode} c (record { after = record n { grants = with_promise n.grants r (i, ask) }; sends = mail (nth 0 (replicas_of home.plan home.frag) r) (message.Grant i ask) ∷ [] }) (idle_step n)).sends) [
    | true ↦ (refl, tt)
    | false ↦ tt
  ]

  unless-none : (c : Bool) (n : PlainNode) (t : Stepped PlainNode) → Each NoBeat t.sends → Each NoBeat (cond {A = Stepped PlainNode} c (idle_step n) t).sends
  unless-none true n t h = tt
  unless-none false n t h = h

  message-none : (a : ℕ) (m : Message) (n : PlainNode) → Each NoBeat (on_message home a m n).sends
  message-none a (message.Batch u index items) n = tt
  message-none a (message.Subscribe asked) n = unless-none n.recovering n (on_subscribe home asked (reader_place home a) n) (subscribe-none asked (reader_place home a) n)
  message-none a (message.Truncated u base) n = tt
  message-none a (message.Beat b) n = tt
  message-none a (message.Ack i count) n = tt
  message-none a (message.Ask i ask) n = ask-none i ask (replica_number home a) n
  message-none a (message.Grant i ask) n = elim (is_up_failure n.state && may_enter_by n.grants (i, ask)) as (λ c. Each NoBeat (cond {A = Stepped PlainNode} c (enter_step home n) (idle_step n)).sends) [
    | true ↦ enter-none n
    | false ↦ tt
  ]
  message-none a (message.SnapAsk i try) n = unless-none n.recovering n (on_snap_ask home a i try n) (refl, tt)

  pub took-none : (a : ℕ) (packet : Packet) (n : PlainNode) → Each NoBeat (packet_step home a packet n).sends
  unfolding packet_step
  took-none a (Plain m) n = message-none a m (with_marks_ended n)
  took-none a (SnapFor i try s) n = tt

  pub milled-none : (r : ℕ) (n : PlainNode) → Each NoBeat (mill_step home r n).sends
  unfolding mill_step
  milled-none r n =
      let m = after_stable_buckets home r n in
      let done = is_stabilization n.state && ready home m == 0 in
      give-none (given_items (length (out_stable home n)) (given_stable home n m done)) (after_last_correction done m)

  -- ---- a tick

  asking-none : (n : PlainNode) → Each NoBeat (ask_step home n).sends
  asking-none n =
      by-asking home n (λ s. Each NoBeat s.sends) (enter-none n) (each-to NoBeat (message.Ask (own_key n.grants).0 (own_key n.grants).1) (peers_of home) (λ to. refl)) tt

  upto-none : (last : ℕ) (n : PlainNode) → Each NoBeat (processing_upto home last n).sends
  upto-none last n =
      let count = count_upto last n in
      let r = stably home n count in
      let new = after_buckets home r count n in
      give-none (given_items (length (out_stable home n)) (given_by home n new (nat_lt 0 r) (nat_lt r count))) new

  processing-none : (n : PlainNode) → Each NoBeat (processing_step home n).sends
  processing-none n =
      by-processing home n (λ s. Each NoBeat s.sends) tt (λ last e due. upto-none last n)

  abbrev Saying : PlainNode → Mail → Type 0
  Saying n m = Says n m.packet

  none-says : (n : PlainNode) (ms : List Mail) → Each NoBeat ms → Each (Saying n) ms
  none-says n ms h = each-weaker NoBeat (Saying n) ms (λ m none b e. absurd (no-beat m.packet b none e)) h

  announcing-says : (n : PlainNode) → Each (Saying n) (announcing_step home n).sends
  announcing-says n =
      each-append (Saying n) (in_actor_order (acks_from home n n.ports (streams_of home))) (in_actor_order (beats home n))
      (none-says n (in_actor_order (acks_from home n n.ports (streams_of home))) (each-sorted NoBeat (acks_from home n n.ports (streams_of home)) (each-acks NoBeat home n n.ports (streams_of home) (λ to count. refl))))
      (each-sorted (Saying n) (beats home n) (each-beats (Saying n) home n (λ to l. beat-says n l)))

  serving-says : (n : PlainNode) → Each (Saying (serving_step home n).after) (serving_step home n).sends
  serving-says n =
      let first = choice_step home n in
      let second = ask_step home first.after in
      let third = processing_step home second.after in
      let m = third.after in
      let subscribed = each-sorted NoBeat (mails (subscriptions home.plan n.ports (streams_of home))) (each-subscription NoBeat home.plan n.ports (streams_of home) (λ to asked. refl)) in
      each-append (Saying m) (first.sends ++ second.sends ++ third.sends) (announcing_step home m).sends
      (none-says m (first.sends ++ second.sends ++ third.sends) (each-append NoBeat (first.sends ++ second.sends) third.sends (each-append NoBeat first.sends second.sends subscribed (asking-none first.after)) (processing-none second.after))) (announcing-says m)

  recovering-says : (n : PlainNode) → Each (Saying n) (then_do (snapshot_ask_step home n) (announcing_step home)).sends
  recovering-says n =
      each-append (Saying n) (to_each (message.SnapAsk n.grants.inc n.tries) (peers_of home)) (announcing_step home n).sends
      (none-says n (to_each (message.SnapAsk n.grants.inc n.tries) (peers_of home)) (each-to NoBeat (message.SnapAsk n.grants.inc n.tries) (peers_of home) (λ to. refl))) (announcing-says n)

  rest-says : (m : PlainNode) → Each (Saying (rest_of_tick home m).after) (rest_of_tick home m).sends
  rest-says m =
      elim m.recovering as (λ b. Tells (cond (not b) (serving_step home m) (cond (may_start_afresh home m) (serving_step home (with_fresh_start m)) (then_do (snapshot_ask_step home m) (announcing_step home))))) [
        | false ↦ serving-says m
        | true ↦ elim (may_start_afresh home m) as (λ b. Tells (cond b (serving_step home (with_fresh_start m)) (then_do (snapshot_ask_step home m) (announcing_step home)))) [
          | true ↦ serving-says (with_fresh_start m)
          | false ↦ recovering-says m
        ]
      ]
    where
      Tells : Stepped PlainNode → Type 0
      Tells t = Each (Saying t.after) t.sends

  pub ticked-says : (now : ℕ) (n : PlainNode) → Each (Saying (tick_step home now n).after) (tick_step home now n).sends
  unfolding tick_step
  ticked-says now n = rest-says (after_clock now (with_marks_ended n))

-- ---- an event

-- the envelope was sent before, or its sender is up and is as the beat says
abbrev pub SaysSo : World → World → ℕ → Envelope → Beat → Type 0
SaysSo w next j g b = (slice_get w.envelopes j ≡ Some g) ⊎ ((n : PlainNode) × ((slot_of next g.sender).node ≡ Some n) × (b.state ≡ n.state) × (b.recovering ≡ n.recovering))

module _ (w : World) (most : ℕ) (fine : IsFine w most) (j f r : ℕ) (g : Envelope) (b : Beat) (role : role_of w.plan g.sender ≡ IsNode f r) (packet : g.packet ≡ Plain (message.Beat b)) where
  abbrev At : Event → World → Type 0
  At e next = slice_get next.envelopes j ≡ Some g → SaysSo w next j g b

  -- mails that are no beats
  none-at : (a : ℕ) (ms : List Mail) (next : World) → Each NoBeat ms → next.envelopes ≡ w.envelopes ++ map (from a) ms → slice_get next.envelopes j ≡ Some g → SaysSo w next j g b
  none-at a ms next none sends there =
      elim (got-sent NoBeat a w.envelopes ms j g none (sym (ap (λ (es : List Envelope). slice_get es j) sends) ∙ there)) [
        | inl old ↦ inl old
        | inr new ↦ absurd (no-beat g.packet b (ap (λ (z : Envelope). is_beat z.packet) new.1 ∙ new.2) packet)
      ]

  -- mails of one that is no node
  other-at : (a : ℕ) (ms : List Mail) (next : World) → (a ≡ g.sender → ⊥) → next.envelopes ≡ w.envelopes ++ map (from a) ms → slice_get next.envelopes j ≡ Some g → SaysSo w next j g b
  other-at a ms next other sends there =
      elim (got-sent (λ m. Unit {0}) a w.envelopes ms j g (each-unit ms) (sym (ap (λ (es : List Envelope). slice_get es j) sends) ∙ there)) [
        | inl old ↦ inl old
        | inr new ↦ absurd (other (sym (ap (λ (z : Envelope). z.sender) new.1)))
      ]

  source-other : (a v : ℕ) → role_of w.plan a ≡ IsSource v → a ≡ g.sender → ⊥
  source-other a v is same = let clash : IsSource v ≡ IsNode f r = sym is ∙ ap (λ (z : ℕ). role_of w.plan z) same ∙ role in cc

  client-other : (a c : ℕ) → role_of w.plan a ≡ IsClient c → a ≡ g.sender → ⊥
  client-other a c is same = let clash : IsClient c ≡ IsNode f r = sym is ∙ ap (λ (z : ℕ). role_of w.plan z) same ∙ role in cc

  ticked-at : (a now h q : ℕ) (n : PlainNode) → role_of w.plan a ≡ IsNode h q → let t = tick_step (home_of w.plan (h, q)) now n in slice_get (node_stepped a t w).envelopes j ≡ Some g → SaysSo w (node_stepped a t w) j g b
  ticked-at a now h q n role_a there =
      let home = home_of w.plan (h, q) in
      let t = tick_step home now n in
      elim (got-sent (Saying home t.after) a w.envelopes t.sends j g (ticked-says home now n) there) [
        | inl old ↦ inl old
        | inr new ↦
            let sender : g.sender ≡ a = ap (λ (z : Envelope). z.sender) new.1 in
            let slot : slot_of (node_stepped a t w) a ≡ record (slot_of w a) { node = Some t.after } = slot-here w most a h q (λ (z : Slot). record z { node = Some t.after }) fine role_a in
            let says = new.2 b (sym (ap (λ (z : Envelope). z.packet) new.1) ∙ packet) in
            inr (t.after, ap (λ (z : ℕ). (slot_of (node_stepped a t w) z).node) sender ∙ ap (λ (z : Slot). z.node) slot, says.0, says.1)
      ]

  says-cases : AreCases w At
  says-cases =
      record {
        still = λ e there. inl there;
        wires = λ e cuts there. inl there;
        emitted = λ a v t is there. other-at a (source_emits w.plan v t (source_at w v)).sends (source_stepped a (source_emits w.plan v t (source_at w v)) w) (source-other a v is) refl there;
        released = λ a v t is there. other-at a (source_releases w.plan v t (source_at w v)).sends (source_stepped a (source_releases w.plan v t (source_at w v)) w) (source-other a v is) refl there;
        source_took = λ i v d sent can is there. other-at d.to (source_packet_step w.plan v d.sender d.packet (source_at w v)).sends (source_stepped d.to (source_packet_step w.plan v d.sender d.packet (source_at w v)) w) (source-other d.to v is) refl there;
        source_ticks = λ a v now is there. other-at a (source_tick_step w.plan v now (source_at w v)).sends (source_stepped a (source_tick_step w.plan v now (source_at w v)) w) (source-other a v is) refl there;
        crashed = λ a h q is there. inl there;
        restarted = λ a i h q is there. inl there;
        node_took = λ i h q d n sent can is up there. none-at d.to (packet_step (home_of w.plan (h, q)) d.sender d.packet n).sends (node_stepped d.to (packet_step (home_of w.plan (h, q)) d.sender d.packet n) w) (took-none (home_of w.plan (h, q)) d.sender d.packet n) refl there;
        node_ticked = λ a now h q n is up clock there. ticked-at a now h q n is there;
        node_milled = λ a m h q n is up can there. none-at a (mill_step (home_of w.plan (h, q)) m n).sends (node_stepped a (mill_step (home_of w.plan (h, q)) m n) w) (milled-none (home_of w.plan (h, q)) m n) refl there;
        client_took = λ i c d sent can is there. inl there;
        client_ticks = λ a c now is there. other-at a (client_tick_step w.plan c now (client_at w c)).sends (client_stepped a c (client_tick_step w.plan c now (client_at w c)) w) (client-other a c is) refl there;
      }

  -- a beat that an event sends says the state of its sender behind the event
  pub says-so : (e : Event) → slice_get (happens w e).envelopes j ≡ Some g → SaysSo w (happens w e) j g b
  says-so e there = by-event w At says-cases e there
