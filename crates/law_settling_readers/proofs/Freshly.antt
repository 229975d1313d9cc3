-- A port that asked a finished replica anew: what comes of its session, event by event.
use Rattle.std.proofs.Common.{◌≡◌, ℕ, ◌+◌, ◌<◌, ◌≤◌, Bool, true, false, ◌&&◌, ◌==◌, nat_le, nat_lt, List, map, length, refl, sym, ap, subst, ◌∙◌, arith, Some, slice_get, inl, inr}
use Rattle.dpc_model.specs.Reading.{Reader}
use Rattle.dpc_model.specs.Inlets.{InletState, same_sess}
use Rattle.dpc_model.specs.Actors.{role_of, inputs_of, sends_stream}
use Rattle.dpc_model.specs.Ports.{Port, without_ended_marks}
use Rattle.dpc_model.specs.Replicas.{unmarked_at}
use Rattle.dpc_model.specs.Sessions.{first_batch}
use Rattle.dpc_model.specs.declared.actors.Role.{Role}
use Rattle.dpc_model.specs.declared.actors.Role.TheVariants.{Source as IsSource, Node as IsNode, Client as IsClient, Nobody}
use Rattle.dpc_model.specs.declared.tuples.Item.{Item}
use Rattle.dpc_model.specs.declared.messages.Event.{Event}
use Rattle.dpc_model.specs.declared.messages.Sess.{Sess}
use Rattle.dpc_model.specs.declared.messages.Subscribe.{Subscribe}
use Rattle.dpc_model.specs.declared.messages.Message.TheVariants as message
use Rattle.dpc_model.specs.declared.plans.Plan.{Plan}
use Rattle.dpc_model.specs.declared.plans.StreamRef.TheVariants.{Frag}
use Rattle.dpc_model.specs.declared.scripts.Script.{Script}
use Rattle.node_model.specs.Mails.{Packet, Plain}
use Rattle.node_model.specs.Nodes.{Home, PlainNode, shown}
use Rattle.node_model.specs.NodeSteps.{with_marks_ended}
use Rattle.world_model.specs.Worlds.{Envelope, home_of, node_place, slot_of, happens}
use Rattle.world_model.specs.Safe.{HoldsOf}
use Rattle.world_model.specs.Schedules.{Progress}
use Rattle.dpc_lists.proofs.Truths.{both-of, eq-of, eq-test, lt-of, le-of}
use Rattle.dpc_lists.proofs.Elements.{get-added}
use Rattle.dpc_model.proofs.Alike.{same_sess-self}
use Rattle.dpc_lists.proofs.Somes.{some-same}
use Rattle.node_model.proofs.Mailed.{batch-is, subscribe-is}
use Rattle.law_safety.proofs.Frames.{marks-good, out_stable-held, held-map}
use Rattle.law_safety.proofs.Happening.{node-here}
use Rattle.law_safety.proofs.Numbering.{node-at}
use Rattle.law_safety.proofs.Worlding.{place-of}
use Rattle.law_granting.specs.Taken.{port_of, subscribes_packet}
use Rattle.law_settling.specs.Finished.{IsFinished}
use Rattle.law_settling.proofs.Fresh.{tick_count, Completes}
use Rattle.law_settling.proofs.Full.{asks_with}
use Rattle.law_settling.proofs.Ports.{node-there}
use Rattle.law_settling.proofs.Rules.{MayGo}
use Rattle.law_settling.proofs.Standing.{asked_inlet}
use Rattle.law_settling_readers.proofs.Once.{asks_of}
use Rattle.law_settling_readers.proofs.Marks.{Mark, marks_of}
use Rattle.law_settling.proofs.PortGoing.{PortGoes, port-goes}
use Rattle.law_settling_readers.proofs.Reading.{replica_at, replicas_in, sends_it, IsSeen, replica-sends}
use Rattle.law_settling_readers.proofs.Replying.{is_reply}
use Rattle.law_settling_readers.proofs.Serving.{ReplicaGoes, answer_from, refusal_from, replica-goes}
use Rattle.law_settling_readers.proofs.Whole.{first-whole}

-- the subscription to the session
abbrev pub ask_sent : Script → ℕ → ℕ → ℕ → Sess → Reader → Envelope
ask_sent script x f c u h = record { sender = x; to = replica_at script.plan f c; packet = Plain (message.Subscribe (asks_with u h)) }

-- the port asked replica c in this session, with what it holds; any batch of it is the answer, and any truncation is of a node
pub record IsFresh (script : Script) (x p f t : ℕ) (u : Sess) (h : Reader) (c : ℕ) (ms : List Mark) (z : Progress) : Type 0 where
  pub port : Port
  pub there : port_of z.world x p ≡ Some port
  pub inlet : port.inlet ≡ asked_inlet h u
  pub chosen : port.chosen ≡ c
  pub budget : port.ticks + 1 ≤ t + tick_count x z
  pub marks : marks_of port.watches ≡ ms
  pub ended : map (unmarked_at (length h.stable)) ms ≡ ms
  pub number : ℕ
  pub sent : slice_get z.world.envelopes number ≡ Some (ask_sent script x f c u h)
  pub batches : (j i : ℕ) (g : Envelope) (v : Sess) (items : List Item) → slice_get z.world.envelopes j ≡ Some g → sends_it script.plan f g.sender ≡ true → g.to ≡ x → g.packet ≡ Plain (message.Batch v i items) → same_sess v u ≡ true → (i ≡ 0) × Completes script h items
  pub truncations : (j base : ℕ) (g : Envelope) (v : Sess) → slice_get z.world.envelopes j ≡ Some g → sends_it script.plan f g.sender ≡ true → g.to ≡ x → g.packet ≡ Plain (message.Truncated v base) → same_sess v u ≡ true →
      (g.sender ≡ replica_at script.plan f c) × (nat_le base (length h.stable) ≡ false) × ((e b : ℕ) × (role_of script.plan x ≡ IsNode e b))

truncated-is : {u v : Sess} {i j : ℕ} → Plain (message.Truncated u i) ≡ Plain (message.Truncated v j) → (u ≡ v) × (i ≡ j)
truncated-is e = (cc, cc)

-- the marks that end leave what a replica shows
marks-finished : (home : Home) (n : PlainNode) → IsFinished home n → IsFinished home (with_marks_ended n)
marks-finished home n h =
    record { cursor = h.cursor; closed = h.closed; state = h.state; recovering = h.recovering; output = out_stable-held home n (with_marks_ended n) (held-map without_ended_marks (λ p. refl) n.ports) refl ∙ h.output }

module _ (script : Script) (x p f k : ℕ) where
  abbrev Goes : Progress → Event → Type 0
  Goes z e = MayGo script (IsSeen script x p f k) z e

  -- a sender of the stream is a replica that is up
  pub sender-node : (z : Progress) → IsSeen script x p f k z → (b : ℕ) → sends_it z.world.plan f b ≡ true → (r : ℕ) × (n : PlainNode) × (role_of z.world.plan b ≡ IsNode f r) × ((slot_of z.world b).node ≡ Some n)
  sender-node z seen b sends = by-role (role_of z.world.plan b) refl sends
    where
      by-role : (role : Role) → role_of z.world.plan b ≡ role → sends_stream (Frag f) role ≡ true → (r : ℕ) × (n : PlainNode) × (role_of z.world.plan b ≡ IsNode f r) × ((slot_of z.world b).node ≡ Some n)
      by-role (IsSource v) is e = cc
      by-role (IsClient c) is e = cc
      by-role Nobody is e = cc
      by-role (IsNode g r) is e =
          let same : f ≡ g = eq-of f g e in
          let role : role_of z.world.plan b ≡ IsNode f r = is ∙ ap (λ (o : ℕ). IsNode o r) (sym same) in
          let n = node-there z.world seen.stand.most b f r seen.stand.fine seen.stand.up role in (r, n.0, role, n.1)

  -- what an event makes of the session at a replica
  pub replica-event : (z : Progress) (e : Event) → Goes z e → (b r : ℕ) (n : PlainNode) → role_of z.world.plan b ≡ IsNode f r → (slot_of z.world b).node ≡ Some n →
      (m : PlainNode) × ((slot_of (happens z.world e) b).node ≡ Some m) × ReplicaGoes z.world (home_of z.world.plan (f, r)) x b k n m (happens z.world e)
  replica-event z e may b r n role up =
      let st = may.here.stand in
      let next = may.next.stand in
      let same : (happens z.world e).plan ≡ z.world.plan = next.of_plan ∙ sym st.of_plan in
      replica-goes z.world st.most x f r b k st.fine role st.line.placed st.line.low st.line.back n up (st.done b r n role up) e may.quiet
      (λ m up_m. subst (λ (pl : Plan). IsFinished (home_of pl (f, r)) m) same (next.done b r m (ap (λ (pl : Plan). role_of pl b) same ∙ role) up_m))

  -- the port after an event
  pub port-next : (z : Progress) (e : Event) → Goes z e → (q : Port) → port_of z.world x p ≡ Some q → (r : Port) × (port_of (happens z.world e) x p ≡ Some r) × PortGoes z.world x p (Frag f) e (happens z.world e) q r
  port-next z e may q there = let st = may.here.stand in port-goes z.world st.most x p (Frag f) st.fine st.many st.line.port st.calm e may.quiet may.next.stand.calm q there

  pub plan-sends : (z : Progress) → IsSeen script x p f k z → (b : ℕ) → sends_it script.plan f b ≡ true → sends_it z.world.plan f b ≡ true
  plan-sends z seen b h = ap (λ (pl : Plan). sends_it pl f b) seen.stand.of_plan ∙ h

  -- a subscription to the port's session is the one that it sent
  pub same-ask : (t : ℕ) (u : Sess) (h : Reader) (c : ℕ) (ms : List Mark) (z : Progress) → IsSeen script x p f k z → IsFresh script x p f t u h c ms z → c < replicas_in script.plan f → (j : ℕ) (g : Envelope) (v : Subscribe) → slice_get z.world.envelopes j ≡ Some g → g.sender ≡ x → sends_it z.world.plan f g.to ≡ true →
      g.packet ≡ Plain (message.Subscribe v) → same_sess v.sess u ≡ true → (v ≡ asks_with u h) × (g.to ≡ replica_at script.plan f c)
  same-ask t u h c ms z seen fresh low j g v there sender to packet same =
      let st = seen.stand in
      let asked = ask_sent script x f c u h in
      let low_w : c < replicas_in z.world.plan f = subst (λ (pl : Plan). c < replicas_in pl f) (sym st.of_plan) low in
      let sends : sends_it z.world.plan f (replica_at script.plan f c) ≡ true = ap (λ (pl : Plan). sends_it z.world.plan f (replica_at pl f c)) (sym st.of_plan) ∙ replica-sends script.plan x p f k z.world st fresh.port fresh.there c low_w in
      let mine : asks_of (sends_it z.world.plan f) x u asked ≡ true = both-of (x == x && sends_it z.world.plan f (replica_at script.plan f c)) (same_sess u u) (both-of (x == x) (sends_it z.world.plan f (replica_at script.plan f c)) (eq-test x x refl) sends) (same_sess-self u) in
      let its : asks_of (sends_it z.world.plan f) x u g ≡ true = both-of (g.sender == x && sends_it z.world.plan f g.to) (subscribes_packet u g.packet) (both-of (g.sender == x) (sends_it z.world.plan f g.to) (eq-test g.sender x sender) to) (ap (λ (y : Packet). subscribes_packet u y) packet ∙ same) in
      let one = st.once u j fresh.number g asked there fresh.sent its mine in
      let is : g ≡ asked = some-same g asked (sym there ∙ ap (λ (i : ℕ). slice_get z.world.envelopes i) one ∙ fresh.sent) in
      (subscribe-is v (asks_with u h) (sym packet ∙ ap (λ (y : Envelope). y.packet) is), ap (λ (y : Envelope). y.to) is)

  -- the answer of a replica completes
  answer-completes : (z : Progress) (u : Sess) (h : Reader) (q : Port) → IsSeen script x p f k z → port_of z.world x p ≡ Some q → q.inlet ≡ asked_inlet h u → (b r : ℕ) (n : PlainNode) → role_of z.world.plan b ≡ IsNode f r → (slot_of z.world b).node ≡ Some n →
      Completes script h (first_batch (shown (home_of z.world.plan (f, r)) (with_marks_ended n)) (asks_with u h))
  answer-completes z u h q seen there inlet b r n role up =
      let st = seen.stand in
      let w = z.world in
      let home = home_of w.plan (f, r) in
      let good = marks-good home st.most n (node-here w st.most b f r n st.fine role up) in
      let place = place-of w.plan (node_place w.plan b) f r st.fine.checked (node-at w.plan b f r role) in
      let holds = subst (λ (i : InletState). HoldsOf w.plan (Frag f) i.held) inlet (st.holds q there) in
      let all = first-whole home st.most (with_marks_ended n) u h place good (marks-finished home n (st.done b r n role up)) holds in
      (all.0, all.1, all.2 ∙ ap (λ (pl : Plan). pl.end) st.of_plan, all.3)

  -- what comes in the session stays so
  pub batches-next : (t : ℕ) (u : Sess) (h : Reader) (c : ℕ) (ms : List Mark) (z : Progress) (e : Event) → Goes z e → IsFresh script x p f t u h c ms z → c < replicas_in script.plan f →
      (j i : ℕ) (g : Envelope) (v : Sess) (items : List Item) → slice_get (happens z.world e).envelopes j ≡ Some g → sends_it script.plan f g.sender ≡ true → g.to ≡ x → g.packet ≡ Plain (message.Batch v i items) → same_sess v u ≡ true → (i ≡ 0) × Completes script h items
  batches-next t u h c ms z e may fresh low j i g v items there sender to packet same =
      let node = sender-node z may.here g.sender (plan-sends z may.here g.sender sender) in
      let m = replica-event z e may g.sender node.0 node.1 node.2 node.3 in
      by-goes node.0 node.1 m.0 node.2 node.3 m.2
    where
      by-goes : (r : ℕ) (n m : PlainNode) → role_of z.world.plan g.sender ≡ IsNode f r → (slot_of z.world g.sender).node ≡ Some n → ReplicaGoes z.world (home_of z.world.plan (f, r)) x g.sender k n m (happens z.world e) → (i ≡ 0) × Completes script h items
      by-goes r n m role up (ReplicaGoes.KeepsSub sub none) = fresh.batches j i g v items (none j g there refl to (ap is_reply packet)) sender to packet same
      by-goes r n m role up (ReplicaGoes.Opens l d a asked opened sends) =
          elim (get-added z.world.envelopes (answer_from (home_of z.world.plan (f, r)) g.sender x n a) j g (sym (ap (λ (es : List Envelope). slice_get es j) sends) ∙ there)) [
            | inl old ↦ fresh.batches j i g v items old sender to packet same
            | inr new ↦
                let it = batch-is (ap (λ (y : Envelope). y.packet) new.1 ∙ packet) in
                let to_it : sends_it z.world.plan f d.to ≡ true = ap (λ (o : ℕ). sends_it z.world.plan f o) asked.to ∙ plan-sends z may.here g.sender sender in
                let mine = (same-ask t u h c ms z may.here fresh low l d a asked.there asked.sender to_it asked.packet (subst (λ (y : Sess). same_sess y u ≡ true) (sym it.0) same)).0 in
                let items_are : first_batch (shown (home_of z.world.plan (f, r)) (with_marks_ended n)) (asks_with u h) ≡ items = ap (λ (y : Subscribe). first_batch (shown (home_of z.world.plan (f, r)) (with_marks_ended n)) y) (sym mine) ∙ it.2 in
                (sym it.1, subst (Completes script h) items_are (answer-completes z u h fresh.port may.here fresh.there fresh.inlet g.sender r n role up))
          ]
      by-goes r n m role up (ReplicaGoes.Refuses l d a asked low_n refused sends) =
          elim (get-added z.world.envelopes (refusal_from g.sender x n a) j g (sym (ap (λ (es : List Envelope). slice_get es j) sends) ∙ there)) [
            | inl old ↦ fresh.batches j i g v items old sender to packet same
            | inr new ↦ let clash : Plain (message.Truncated a.sess n.base) ≡ Plain (message.Batch v i items) = ap (λ (y : Envelope). y.packet) new.1 ∙ packet in cc
          ]

  pub truncations-next : (t : ℕ) (u : Sess) (h : Reader) (c : ℕ) (ms : List Mark) (z : Progress) (e : Event) → Goes z e → IsFresh script x p f t u h c ms z → c < replicas_in script.plan f →
      (j base : ℕ) (g : Envelope) (v : Sess) → slice_get (happens z.world e).envelopes j ≡ Some g → sends_it script.plan f g.sender ≡ true → g.to ≡ x → g.packet ≡ Plain (message.Truncated v base) → same_sess v u ≡ true →
      (g.sender ≡ replica_at script.plan f c) × (nat_le base (length h.stable) ≡ false) × ((d b : ℕ) × (role_of script.plan x ≡ IsNode d b))
  truncations-next t u h c ms z e may fresh low j base g v there sender to packet same =
      let node = sender-node z may.here g.sender (plan-sends z may.here g.sender sender) in
      let m = replica-event z e may g.sender node.0 node.1 node.2 node.3 in
      by-goes node.0 node.1 m.0 node.2 node.3 m.2
    where
      past : (a b : ℕ) → nat_lt a b ≡ true → nat_le b a ≡ false
      past a b e = by-test (nat_le b a) refl
        where
          by-test : (d : Bool) → nat_le b a ≡ d → nat_le b a ≡ false
          by-test false k = k
          by-test true k = let less = lt-of a b e in let more = le-of b a k in absurd (omega (arith, less, more))

      -- the reader is a node, since a client is kept for
      reader-node : (r : ℕ) (n : PlainNode) → role_of z.world.plan g.sender ≡ IsNode f r → (slot_of z.world g.sender).node ≡ Some n → length h.stable < n.base → (d b : ℕ) × (role_of script.plan x ≡ IsNode d b)
      reader-node r n role up more = by-role (role_of z.world.plan x) refl
        where
          by-role : (is : Role) → role_of z.world.plan x ≡ is → (d b : ℕ) × (role_of script.plan x ≡ IsNode d b)
          by-role (IsNode d b) is = (d, b, ap (λ (pl : Plan). role_of pl x) (sym may.here.stand.of_plan) ∙ is)
          by-role (IsClient y) is =
              let few = may.here.kept y g.sender r n fresh.port is role up fresh.there in
              let count = ap (λ (i : InletState). length i.held.stable) fresh.inlet in absurd (omega (arith, few, more, count))
          by-role (IsSource y) is = let none : slice_get (inputs_of z.world.plan (IsSource y)) p ≡ Some (Frag f) = subst (λ (o : Role). slice_get (inputs_of z.world.plan o) p ≡ Some (Frag f)) is may.here.stand.line.port.there in cc
          by-role Nobody is = let none : slice_get (inputs_of z.world.plan Nobody) p ≡ Some (Frag f) = subst (λ (o : Role). slice_get (inputs_of z.world.plan o) p ≡ Some (Frag f)) is may.here.stand.line.port.there in cc

      by-goes : (r : ℕ) (n m : PlainNode) → role_of z.world.plan g.sender ≡ IsNode f r → (slot_of z.world g.sender).node ≡ Some n → ReplicaGoes z.world (home_of z.world.plan (f, r)) x g.sender k n m (happens z.world e) →
          (g.sender ≡ replica_at script.plan f c) × (nat_le base (length h.stable) ≡ false) × ((d b : ℕ) × (role_of script.plan x ≡ IsNode d b))
      by-goes r n m role up (ReplicaGoes.KeepsSub sub none) = fresh.truncations j base g v (none j g there refl to (ap is_reply packet)) sender to packet same
      by-goes r n m role up (ReplicaGoes.Opens l d a asked opened sends) =
          elim (get-added z.world.envelopes (answer_from (home_of z.world.plan (f, r)) g.sender x n a) j g (sym (ap (λ (es : List Envelope). slice_get es j) sends) ∙ there)) [
            | inl old ↦ fresh.truncations j base g v old sender to packet same
            | inr new ↦ no-batch a.sess v 0 base (first_batch (shown (home_of z.world.plan (f, r)) (with_marks_ended n)) a) (ap (λ (y : Envelope). y.packet) new.1 ∙ packet)
          ]
        where
          no-batch : {A : Type 0} (s v : Sess) (i base : ℕ) (items : List Item) → Plain (message.Batch s i items) ≡ Plain (message.Truncated v base) → A
          no-batch s v i base items e = cc
      by-goes r n m role up (ReplicaGoes.Refuses l d a asked low_n refused sends) =
          elim (get-added z.world.envelopes (refusal_from g.sender x n a) j g (sym (ap (λ (es : List Envelope). slice_get es j) sends) ∙ there)) [
            | inl old ↦ fresh.truncations j base g v old sender to packet same
            | inr new ↦
                let it = truncated-is (ap (λ (y : Envelope). y.packet) new.1 ∙ packet) in
                let to_it : sends_it z.world.plan f d.to ≡ true = ap (λ (o : ℕ). sends_it z.world.plan f o) asked.to ∙ plan-sends z may.here g.sender sender in
                let mine = same-ask t u h c ms z may.here fresh low l d a asked.there asked.sender to_it asked.packet (subst (λ (y : Sess). same_sess y u ≡ true) (sym it.0) same) in
                let count : a.n ≡ length h.stable = ap (λ (y : Subscribe). y.n) mine.0 in
                let less = lt-of a.n n.base low_n in
                (sym asked.to ∙ mine.1, past (length h.stable) base (subst (λ (b : ℕ). nat_lt (length h.stable) b ≡ true) it.1 (subst (λ (b : ℕ). nat_lt b n.base ≡ true) count low_n)), reader-node r n role up (omega (arith, less, count)))
          ]
