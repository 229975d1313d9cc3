-- What a node's step sends in one reader's session.
use Rattle.std.proofs.Common.{◌≡◌, ℕ, ◌+◌, ◌-◌, min, ◌<◌, Bool, true, false, cond, not, ◌&&◌, ◌==◌, nat_lt, List, [], ◌∷◌, map, length, refl, sym, ap, subst, ◌∙◌, arith, Option, Some, None, inl, inr}
use Rattle.std.proofs.lemmas.List.{length-map, map-append}
use Rattle.dpc_lists.specs.Lists.{nth, changed}
use Rattle.dpc_model.specs.Inlets.{same_sess}
use Rattle.dpc_model.specs.Granting.{grants, with_promise, own_key, with_ask, may_enter_by}
use Rattle.dpc_model.specs.Actors.{replicas_of}
use Rattle.dpc_model.specs.Ports.{no_port, sender_at, on_truncated, all_truncated, subscriptions}
use Rattle.dpc_model.specs.Sessions.{no_session, answer_to, with_session_shut, given_items}
use Rattle.dpc_model.specs.declared.sessions.Sub.{Sub}
use Rattle.dpc_model.specs.declared.tuples.Item.{Item}
use Rattle.dpc_model.specs.declared.tuples.Item.TheVariants as item
use Rattle.dpc_model.specs.declared.messages.Sess.{Sess}
use Rattle.dpc_model.specs.declared.messages.Subscribe.{Subscribe}
use Rattle.dpc_model.specs.declared.messages.Message.{Message}
use Rattle.dpc_model.specs.declared.messages.Message.TheVariants as message
use Rattle.dpc_model.specs.declared.messages.NodeState.TheVariants.{Stabilization}
use Rattle.node_model.specs.Mails.{Snap, Packet, Plain, SnapFor, Mail, mail, mails, in_actor_order, to_each, Stepped}
use Rattle.dpc_model.specs.NodeStates.{is_up_failure, is_stabilization}
use Rattle.node_model.specs.Nodes.{Home, PlainNode, streams_of, own_readers, node_frontier, out_stable, shown, complete_buckets, ready}
use Rattle.node_model.specs.NodeSteps.{idle_step, then_do, peers_of, replica_number, reader_place, with_port, give, given_by, given_stable, enter_step, after_loss, after_adoption, on_subscribe, on_truncation, on_ack, on_ask, on_grant, on_snap_ask, on_snap, on_message, on_packet, with_marks_ended, packet_step, after_stable_buckets, after_last_correction, mill_step, after_clock, may_start_afresh, choice_step, ask_step, with_closed, with_failure, processing_upto, processing_step, acks_from, beats, announcing_step, serving_step, snapshot_ask_step, rest_of_tick, with_fresh_start, tick_step}
use Rattle.world_model.specs.Worlds.{Envelope, from}
use Rattle.world_model.specs.SessionLaw.{Channel}
use Rattle.dpc_lists.proofs.Truths.{both-of, eq-of, eq-test, and-false}
use Rattle.law_safety.proofs.Histories.{AreDistinct}
use Rattle.law_safety.proofs.StepCases.{by-asking, by-processing}
use Rattle.dpc_lists.proofs.Elements.{length-changed, nth-here}
use Rattle.dpc_lists.proofs.Places.{place-within, place-nth}
use Rattle.dpc_model.proofs.Subs.{length-counted}
use Rattle.dpc_lists.proofs.Each.{Each, each-append}
use Rattle.node_model.proofs.Mailed.{batch-subs, beat-subs, ack-subs}
use Rattle.law_granting.specs.Taken.{subscribes_packet}
use Rattle.law_granting.proofs.Each.{each-sorted, each-to, each-subscription, each-acks, each-beats}
use Rattle.law_granting.proofs.Keys.{nth-changed}
use Rattle.law_granting.proofs.Asked.{same-or}
use Rattle.law_granting.proofs.Sending.{indexes, indexes-append, SendsOn, sends-none, sends-shut, sends-then, answer_index, sends-answered, IsNoBatch, none-indexed, skip-other, take-mine, nth-map, sends-given}

-- what a step sends to the reader of one place in one session
pub record NodeSends (home : Home) (a k : ℕ) (s : Sess) (opens : Bool) (old : List Sub) (t : Stepped PlainNode) : Type 0 where
  pub many : length t.after.subs ≡ length (own_readers home)
  pub on : SendsOn s opens (nth no_session old k) (nth no_session t.after.subs k) (indexes (record { sender = a; reader = nth 0 (own_readers home) k; sess = s }) (map (from a) t.sends))

module _ (home : Home) (a k : ℕ) (s : Sess) (opens : Bool) (distinct : AreDistinct (own_readers home)) (low : k < length (own_readers home)) where
  abbrev line : Channel
  line = record { sender = a; reader = nth 0 (own_readers home) k; sess = s }

  abbrev Sends : List Sub → Stepped PlainNode → Type 0
  Sends old t = NodeSends home a k s opens old t

  -- sessions stay, and no batch is sent
  sends-quiet : (old : List Sub) (t : Stepped PlainNode) → length old ≡ length (own_readers home) → t.after.subs ≡ old → Each IsNoBatch t.sends → Sends old t
  sends-quiet old t many same none =
      record {
        many = ap length same ∙ many;
        on = subst (λ (z : List ℕ). SendsOn s opens (nth no_session old k) (nth no_session t.after.subs k) z) (sym (none-indexed line a t.sends none))
            (subst (λ (z : List Sub). SendsOn s opens (nth no_session old k) (nth no_session z k) []) (sym same) (sends-none s opens (nth no_session old k)));
      }

  -- all sessions are shut
  sends-closed : (old : List Sub) (m : PlainNode) → length old ≡ length (own_readers home) → m.subs ≡ map with_session_shut old → Sends old (idle_step m)
  sends-closed old m many same =
      record {
        many = ap length same ∙ length-map old with_session_shut ∙ many;
        on = subst (λ (z : List Sub). SendsOn s opens (nth no_session old k) (nth no_session z k) []) (sym same)
            (subst (λ (z : Sub). SendsOn s opens (nth no_session old k) z []) (sym (nth-map with_session_shut old k refl)) (sends-shut s opens (nth no_session old k)));
      }

  sends-give : (items : List Item) (m : PlainNode) → length m.subs ≡ length (own_readers home) → Sends m.subs (give home items m)
  sends-give items m many = record { many = length-counted items m.subs ∙ many; on = sends-given (own_readers home) a k s opens items m.subs distinct many low }

  sends-behind : (old : List Sub) (t : Stepped PlainNode) (f : PlainNode → Stepped PlainNode) → Sends old t → Sends t.after.subs (f t.after) → Sends old (then_do t f)
  sends-behind old t f h g =
      record {
        many = g.many;
        on = subst (λ (z : List ℕ). SendsOn s opens (nth no_session old k) (nth no_session (f t.after).after.subs k) z)
            (sym (ap (λ (es : List Envelope). indexes line es) (map-append (from a) t.sends (f t.after).sends) ∙ indexes-append line (map (from a) t.sends) (map (from a) (f t.after).sends)))
            (sends-then s opens (nth no_session old k) (nth no_session t.after.subs k) (nth no_session (f t.after).after.subs k) (indexes line (map (from a) t.sends)) (indexes line (map (from a) (f t.after).sends)) h.on g.on);
      }

  -- ---- packets

  subscribed-sends : (sender : ℕ) (asked : Subscribe) (o : Option ℕ) (n : PlainNode) → reader_place home sender ≡ o → (sender ≡ nth 0 (own_readers home) k → same_sess asked.sess s ≡ true → opens ≡ true) →
      length n.subs ≡ length (own_readers home) → Sends n.subs (on_subscribe home asked o n)
  subscribed-sends sender asked None n e told many = sends-quiet n.subs (idle_step n) many refl tt
  subscribed-sends sender asked (Some j) n e told many =
      elim (same-or j k) [
        | inl same ↦ subst (λ (z : ℕ). Sends n.subs (on_subscribe home asked (Some z) n)) (sym same)
            (mine (subst (λ (z : ℕ). sender ≡ nth 0 (own_readers home) z) same (sym (place-nth sender (own_readers home) j e))))
        | inr other ↦ others other
      ]
    where
      mine : sender ≡ nth 0 (own_readers home) k → Sends n.subs (on_subscribe home asked (Some k) n)
      mine it =
          let answer = answer_to (shown home n) (nth no_session n.subs k) asked in
          record {
            many = length-changed k (λ _. answer.after) n.subs ∙ many;
            on = subst (λ (z : Sub). SendsOn s opens (nth no_session n.subs k) z (indexes line (map (from a) (on_subscribe home asked (Some k) n).sends))) (sym (nth-here no_session k (λ _. answer.after) n.subs (omega (arith, many, low))))
                (subst (λ (z : List ℕ). SendsOn s opens (nth no_session n.subs k) answer.after z) (sym (answer-is answer.answer))
                (sends-answered s opens (shown home n) (nth no_session n.subs k) asked (told it)));
          }
        where
          answer-is : (o : Option Message) → indexes line (map (from a) (elim o as (λ _. List Mail) [ None ↦ [] | Some m ↦ mail (nth 0 (own_readers home) k) m ∷ [] ])) ≡ answer_index s o
          answer-is None = refl
          answer-is (Some m) = take-mine line a (mail (nth 0 (own_readers home) k) m) [] (both-of (a == a) (nth 0 (own_readers home) k == nth 0 (own_readers home) k) (eq-test a a refl) (eq-test (nth 0 (own_readers home) k) (nth 0 (own_readers home) k) refl))

      others : (j ≡ k → ⊥) → Sends n.subs (on_subscribe home asked (Some j) n)
      others other =
          let answer = answer_to (shown home n) (nth no_session n.subs j) asked in
          record {
            many = length-changed j (λ _. answer.after) n.subs ∙ many;
            on = subst (λ (z : List ℕ). SendsOn s opens (nth no_session n.subs k) (nth no_session (changed j (λ _. answer.after) n.subs) k) z) (sym (answer-is answer.answer))
                (elim (nth-changed no_session j (λ (_ : Sub). answer.after) n.subs k) [
                  | inl still ↦ subst (λ (z : Sub). SendsOn s opens (nth no_session n.subs k) z []) (sym still) (sends-none s opens (nth no_session n.subs k))
                  | inr here ↦ absurd (other (sym here.0))
                ]);
          }
        where
          apart : (nth 0 (own_readers home) j == nth 0 (own_readers home) k) ≡ false
          apart = by-value (nth 0 (own_readers home) j == nth 0 (own_readers home) k) refl
            where
              by-value : (b : Bool) → (nth 0 (own_readers home) j == nth 0 (own_readers home) k) ≡ b → (nth 0 (own_readers home) j == nth 0 (own_readers home) k) ≡ false
              by-value false d = d
              by-value true d = absurd (other (distinct j k (place-within (λ b. sender == b) (own_readers home) j e) low (eq-of (nth 0 (own_readers home) j) (nth 0 (own_readers home) k) d)))

          answer-is : (o : Option Message) → indexes line (map (from a) (elim o as (λ _. List Mail) [ None ↦ [] | Some m ↦ mail (nth 0 (own_readers home) j) m ∷ [] ])) ≡ []
          answer-is None = refl
          answer-is (Some m) = skip-other line a (mail (nth 0 (own_readers home) j) m) [] (and-false (a == a) (nth 0 (own_readers home) j == nth 0 (own_readers home) k) apart)

  again-sends : (n : PlainNode) (old : List Sub) → n.subs ≡ old → length old ≡ length (own_readers home) → Sends old (idle_step (after_loss home n))
  unfolding after_loss
  again-sends n old same many = sends-closed old (after_loss home n) many (ap (λ (z : List Sub). map with_session_shut z) same)

  truncation-sends : (u : Sess) (base : ℕ) (o : Option (ℕ × ℕ)) (n : PlainNode) → length n.subs ≡ length (own_readers home) → Sends n.subs (idle_step (on_truncation home u base o n))
  truncation-sends u base None n many = sends-quiet n.subs (idle_step n) many refl tt
  truncation-sends u base (Some pr) n many =
      let old = nth no_port n.ports pr.0 in
      let port = on_truncated pr.1 u base old in
      let m = with_port pr.0 (λ _. port) n in
      elim (same_sess u old.inlet.sess && all_truncated port) as (λ b. Sends n.subs (idle_step (cond b (after_loss home m) m))) [
        | true ↦ again-sends m n.subs refl many
        | false ↦ sends-quiet n.subs (idle_step m) many refl tt
      ]

  snap-sends : (i try : ℕ) (x : Snap) (n : PlainNode) → length n.subs ≡ length (own_readers home) → Sends n.subs (idle_step (on_snap home i try x n))
  unfolding after_adoption
  snap-sends i try x n many = elim (n.recovering && i == n.grants.inc && try == n.tries) as (λ b. Sends n.subs (idle_step (cond b (after_adoption home x n) n))) [
    | true ↦ sends-closed n.subs (after_adoption home x n) many refl
    | false ↦ sends-quiet n.subs (idle_step n) many refl tt
  ]

  entered-sends : (n : PlainNode) → length n.subs ≡ length (own_readers home) → Sends n.subs (enter_step home n)
  unfolding enter_step
  entered-sends n many = sends-give (item.Undo (length (out_stable home n)) ∷ []) (record n { closed = []; state = Stabilization; grants = with_ask n.grants }) many

  grant-sends : (i ask : ℕ) (n : PlainNode) → length n.subs ≡ length (own_readers home) → Sends n.subs (on_grant home i ask n)
  grant-sends i ask n many = elim (is_up_failure n.state && may_enter_by n.grants (i, ask)) as (λ b. Sends n.subs (cond b (enter_step home n) (idle_step n))) [ true ↦ entered-sends n many | false ↦ sends-quiet n.subs (idle_step n) many refl tt ]

  ask-sends : (i ask : ℕ) (o : Option ℕ) (n : PlainNode) → length n.subs ≡ length (own_readers home) → Sends n.subs (on_ask home i ask o n)
  ask-sends i ask None n many = sends-quiet n.subs (idle_step n) many refl tt
  ask-sends i ask (Some r) n many = elim (grants n.grants n.state r (i, ask)) as (λ b. Sends n.subs (cond b (record { after = record n { grants = with_promise n.grants r (i, ask) }; sends = mail (nth 0 (replicas_of home.plan home.frag) r) (message.Grant i ask) ∷ [] }) (idle_step n))) [
    | true ↦ sends-quiet n.subs (record { after = record n { grants = with_promise n.grants r (i, ask) }; sends = mail (nth 0 (replicas_of home.plan home.frag) r) (message.Grant i ask) ∷ [] }) many refl (λ z. refl, tt)
    | false ↦ sends-quiet n.subs (idle_step n) many refl tt
  ]

  unless-sends : (n : PlainNode) (t : Stepped PlainNode) → length n.subs ≡ length (own_readers home) → Sends n.subs t → Sends n.subs (cond n.recovering (idle_step n) t)
  unless-sends n t many h = elim n.recovering as (λ b. Sends n.subs (cond b (idle_step n) t)) [ true ↦ sends-quiet n.subs (idle_step n) many refl tt | false ↦ h ]

  message-sends : (sender : ℕ) (m : Message) (n : PlainNode) → (sender ≡ nth 0 (own_readers home) k → subscribes_packet s (Plain m) ≡ true → opens ≡ true) → length n.subs ≡ length (own_readers home) → Sends n.subs (on_message home sender m n)
  message-sends sender (message.Batch u index items) n told many = sends-quiet n.subs (on_message home sender (message.Batch u index items) n) many (batch-subs home u index items (sender_at home.plan (streams_of home) sender) n) tt
  message-sends sender (message.Subscribe asked) n told many = unless-sends n (on_subscribe home asked (reader_place home sender) n) many (subscribed-sends sender asked (reader_place home sender) n refl told many)
  message-sends sender (message.Truncated u base) n told many = truncation-sends u base (sender_at home.plan (streams_of home) sender) n many
  message-sends sender (message.Beat b) n told many = sends-quiet n.subs (on_message home sender (message.Beat b) n) many (beat-subs b (replica_number home sender) (sender_at home.plan (streams_of home) sender) n) tt
  message-sends sender (message.Ack i count) n told many =
      sends-quiet n.subs (on_message home sender (message.Ack i count) n) many (elim n.recovering as (λ b. (cond b n (on_ack home i count (reader_place home sender) n)).subs ≡ n.subs) [ true ↦ refl | false ↦ ack-subs home i count (reader_place home sender) n ]) tt
  message-sends sender (message.Ask i ask) n told many = ask-sends i ask (replica_number home sender) n many
  message-sends sender (message.Grant i ask) n told many = grant-sends i ask n many
  message-sends sender (message.SnapAsk i try) n told many = unless-sends n (on_snap_ask home sender i try n) many (sends-quiet n.subs (on_snap_ask home sender i try n) many refl (λ z. refl, tt))

  packet-sends : (sender : ℕ) (packet : Packet) (n : PlainNode) → (sender ≡ nth 0 (own_readers home) k → subscribes_packet s packet ≡ true → opens ≡ true) → length n.subs ≡ length (own_readers home) → Sends n.subs (on_packet home sender packet n)
  packet-sends sender (Plain m) n told many = message-sends sender m n told many
  packet-sends sender (SnapFor i try x) n told many = snap-sends i try x n many

  pub delivered-sends : (sender : ℕ) (packet : Packet) (n : PlainNode) → (sender ≡ nth 0 (own_readers home) k → subscribes_packet s packet ≡ true → opens ≡ true) → length n.subs ≡ length (own_readers home) →
      NodeSends home a k s opens n.subs (packet_step home sender packet n)
  unfolding packet_step
  delivered-sends sender packet n told many = packet-sends sender packet (with_marks_ended n) told many

  -- ---- milling, and a tick

  pub milled-sends : (r : ℕ) (n : PlainNode) → length n.subs ≡ length (own_readers home) → NodeSends home a k s opens n.subs (mill_step home r n)
  unfolding mill_step
  milled-sends r n many =
      let m = after_stable_buckets home r n in
      elim (is_stabilization n.state && ready home m == 0) as (λ b. Sends n.subs (give home (given_items (length (out_stable home n)) (given_stable home n m b)) (after_last_correction b m))) [
        | true ↦ sends-give (given_items (length (out_stable home n)) (given_stable home n m true)) (after_last_correction true m) many
        | false ↦ sends-give (given_items (length (out_stable home n)) (given_stable home n m false)) (after_last_correction false m) many
      ]

  reconciling-sends : (n : PlainNode) → length n.subs ≡ length (own_readers home) → Sends n.subs (ask_step home n)
  reconciling-sends n many =
      by-asking home n (Sends n.subs) (entered-sends n many)
      (sends-quiet n.subs (record { after = record n { grants = with_ask n.grants }; sends = to_each (message.Ask (own_key n.grants).0 (own_key n.grants).1) (peers_of home) }) many refl
      (each-to IsNoBatch (message.Ask (own_key n.grants).0 (own_key n.grants).1) (peers_of home) (λ to z. refl))) (sends-quiet n.subs (idle_step n) many refl tt)

  processing-sends : (n : PlainNode) → length n.subs ≡ length (own_readers home) → Sends n.subs (processing_step home n)
  processing-sends n many =
      by-processing home n (Sends n.subs) (sends-quiet n.subs (idle_step n) many refl tt) (λ last e due. processed last)
    where
      processed : (last : ℕ) → NodeSends home a k s opens n.subs (processing_upto home last n)
      processed last =
          let count = last + 1 - node_frontier n in
          let stably = min count (complete_buckets home n) in
          let new = with_failure (with_closed home (count - stably) (after_stable_buckets home stably n)) in
          sends-give (given_items (length (out_stable home n)) (given_by home n new (nat_lt 0 stably) (nat_lt stably count))) new many

  announcing-sends : (n : PlainNode) → length n.subs ≡ length (own_readers home) → Sends n.subs (announcing_step home n)
  announcing-sends n many =
      sends-quiet n.subs (announcing_step home n) many refl
      (each-append IsNoBatch (in_actor_order (acks_from home n n.ports (streams_of home))) (in_actor_order (beats home n))
      (each-sorted IsNoBatch (acks_from home n n.ports (streams_of home)) (each-acks IsNoBatch home n n.ports (streams_of home) (λ to count z. refl)))
      (each-sorted IsNoBatch (beats home n) (each-beats IsNoBatch home n (λ to l z. refl))))

  choosing-sends : (n : PlainNode) → length n.subs ≡ length (own_readers home) → Sends n.subs (choice_step home n)
  choosing-sends n many =
      sends-quiet n.subs (choice_step home n) many refl
      (each-sorted IsNoBatch (mails (subscriptions home.plan n.ports (streams_of home))) (each-subscription IsNoBatch home.plan n.ports (streams_of home) (λ to asked z. refl)))

  serving-sends : (n : PlainNode) → length n.subs ≡ length (own_readers home) → Sends n.subs (serving_step home n)
  serving-sends n many =
      let x = choice_step home n in
      let y = ask_step home x.after in
      let z = processing_step home y.after in
      let one = choosing-sends n many in
      let two = reconciling-sends x.after one.many in
      let three = processing-sends y.after two.many in
      let four = announcing-sends z.after three.many in
      sends-behind n.subs (then_do (then_do x (ask_step home)) (processing_step home)) (announcing_step home)
      (sends-behind n.subs (then_do x (ask_step home)) (processing_step home) (sends-behind n.subs x (ask_step home) one two) three) four

  going_on-sends : (n : PlainNode) → length n.subs ≡ length (own_readers home) → Sends n.subs (rest_of_tick home n)
  going_on-sends n many =
      elim n.recovering as (λ b. Sends n.subs (cond (not b) (serving_step home n) (cond (may_start_afresh home n) (serving_step home (with_fresh_start n)) (then_do (snapshot_ask_step home n) (announcing_step home))))) [
        | false ↦ serving-sends n many
        | true ↦ elim (may_start_afresh home n) as (λ b. Sends n.subs (cond b (serving_step home (with_fresh_start n)) (then_do (snapshot_ask_step home n) (announcing_step home)))) [
          | true ↦ serving-sends (with_fresh_start n) many
          | false ↦ sends-behind n.subs (snapshot_ask_step home n) (announcing_step home)
              (sends-quiet n.subs (snapshot_ask_step home n) many refl (each-to IsNoBatch (message.SnapAsk n.grants.inc n.tries) (peers_of home) (λ to z. refl))) (announcing-sends n many)
        ]
      ]

  pub ticked-sends : (now : ℕ) (n : PlainNode) → length n.subs ≡ length (own_readers home) → NodeSends home a k s opens n.subs (tick_step home now n)
  unfolding tick_step
  ticked-sends now n many = going_on-sends (after_clock now (with_marks_ended n)) many
