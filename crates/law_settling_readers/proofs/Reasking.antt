-- A tick of a port: it opens its session anew at the replica that it chooses, or stays as it is.
use Rattle.std.proofs.Common.{◌≡◌, ℕ, ◌<◌, ◌≤◌, Bool, true, false, cond, ◌||◌, List, map, length, refl, sym, ap, subst, ◌∙◌, arith, Option, Some, None, slice_get, ◌⊎◌, inl, inr}
use Rattle.std.proofs.lemmas.List.{length-map}
use Rattle.law_settling.proofs.Full.{asks_with}
use Rattle.law_settling.proofs.Ports.{node-there}
use Rattle.dpc_lists.specs.Lists.{nth, has}
use Rattle.dpc_model.specs.Reading.{Reader}
use Rattle.dpc_model.specs.Inlets.{same_sess, is_newer, with_next_session}
use Rattle.dpc_model.specs.Actors.{role_of, sends_stream}
use Rattle.dpc_model.specs.Ports.{Port, choice_at, must_reopen, port_after_choice}
use Rattle.dpc_model.specs.Replicas.{Watch, after_count, after_tick, unmarked_at}
use Rattle.dpc_model.specs.Sessions.{is_newer_than_kept, no_session, first_batch}
use Rattle.dpc_model.specs.declared.actors.Role.TheVariants.{Node as IsNode}
use Rattle.dpc_model.specs.declared.sessions.Sub.{Sub}
use Rattle.dpc_model.specs.declared.tuples.Item.{Item}
use Rattle.dpc_model.specs.declared.messages.Event.{Event}
use Rattle.dpc_model.specs.declared.messages.Event.TheVariants.{Tick}
use Rattle.dpc_model.specs.declared.messages.Sess.{Sess}
use Rattle.dpc_model.specs.declared.messages.Subscribe.{Subscribe}
use Rattle.dpc_model.specs.declared.messages.Message.TheVariants as message
use Rattle.dpc_model.specs.declared.plans.Plan.{Plan}
use Rattle.dpc_model.specs.declared.plans.StreamRef.TheVariants.{Frag}
use Rattle.dpc_model.specs.declared.scripts.Script.{Script}
use Rattle.node_model.specs.Mails.{Plain}
use Rattle.node_model.specs.Nodes.{PlainNode, shown}
use Rattle.node_model.specs.NodeSteps.{with_marks_ended}
use Rattle.world_model.specs.Worlds.{Envelope, home_of, slot_of, happens}
use Rattle.world_model.specs.Schedules.{Progress, next_progress}
use Rattle.dpc_lists.proofs.Truths.{eq-test}
use Rattle.dpc_lists.proofs.Elements.{get-added}
use Rattle.dpc_lists.proofs.Somes.{some-same}
use Rattle.law_granting.specs.Taken.{port_of}
use Rattle.law_settling.proofs.Fresh.{tick_count, new-waits}
use Rattle.law_settling.proofs.Readings.{next-newer, never-next}
use Rattle.law_settling.proofs.Rules.{MayGo}
use Rattle.law_settling.proofs.Standing.{asked_inlet}
use Rattle.law_settling.proofs.Ticking.{before_choice}
use Rattle.law_settling.proofs.Waitings.{waits}
use Rattle.law_settling_readers.proofs.Marks.{Mark, marks_of, free_in, Fits, AreHeard, counted-marks, ticked-marks, ended-twice, choice-fits}
use Rattle.law_settling.proofs.PortGoing.{HasTicked}
use Rattle.law_settling_readers.proofs.Reading.{replica_at, replicas_in, sends_it, IsSeen, chosen-low, old-ask, old-batch, old-truncation, old-kept}
use Rattle.law_settling_readers.proofs.Replying.{is_reply}
use Rattle.law_settling_readers.proofs.Serving.{ReplicaGoes, answer_from, refusal_from}
use Rattle.law_settling_readers.proofs.Freshly.{IsFresh, ask_sent, sender-node, replica-event, plan-sends}

-- the port's subscription waits
pub record IsAsking (script : Script) (x p f k t : ℕ) (u : Sess) (h : Reader) (c : ℕ) (ms : List Mark) (n : ℕ) (z : Progress) : Type 0 where
  pub fresh : IsFresh script x p f t u h c ms z
  pub sent : slice_get z.world.envelopes n ≡ Some (ask_sent script x f c u h)
  pub low : c < replicas_in script.plan f
  pub fits : Fits c ms
  pub waits : waits n z.waiting ≡ true
  pub newer : (r : ℕ) (m : PlainNode) → role_of script.plan (replica_at script.plan f c) ≡ IsNode f r → (slot_of z.world (replica_at script.plan f c)).node ≡ Some m → is_newer_than_kept u (nth no_session m.subs k).kept ≡ true

-- of at most so many replicas that truncated nothing
abbrev pub Asking : Script → ℕ → ℕ → ℕ → ℕ → ℕ → ℕ → Progress → Type 0
Asking script x p f k t most z = (u : Sess) × (h : Reader) × (c : ℕ) × (ms : List Mark) × (n : ℕ) × IsAsking script x p f k t u h c ms n z × (free_in ms ≤ most)

-- a batch or a truncation of a session
abbrev pub IsReplyIn : Envelope → Sess → Type 0
IsReplyIn g v = ((i : ℕ) × (items : List Item) × (g.packet ≡ Plain (message.Batch v i items))) ⊎ ((base : ℕ) × (g.packet ≡ Plain (message.Truncated v base)))

-- the marks as a tick leaves them
pub ticked-marks-are : (q : Port) → marks_of (before_choice q).watches ≡ map (unmarked_at (length q.inlet.held.stable)) (marks_of q.watches)
ticked-marks-are q = ticked-marks (map (after_count (length q.inlet.held.stable)) q.watches) ∙ counted-marks (length q.inlet.held.stable) q.watches

module _ (script : Script) (x p f k : ℕ) where
  abbrev Goes : Progress → Event → Type 0
  Goes z e = MayGo script (IsSeen script x p f k) z e

  -- what the port has heard by its tick
  pub heard-then : (z : Progress) (e : Event) → Goes z e → (q r : Port) → port_of z.world x p ≡ Some q → port_of (happens z.world e) x p ≡ Some r → r ≡ port_after_choice (before_choice q) →
      AreHeard (before_choice q).watches × ((before_choice q).chosen < length (marks_of (before_choice q).watches))
  heard-then z e may q r there now is =
      let heard = subst (λ (ws : List Watch). AreHeard ws) (ap (λ (v : Port). v.watches) is) (may.next.heard r now) in
      let watched = (may.here.stand.watched q there).0 in
      let many = length-map (before_choice q).watches (λ (w : Watch). w.truncated) in
      let one = length-map (map (after_count (length q.inlet.held.stable)) q.watches) after_tick in
      let two = length-map q.watches (after_count (length q.inlet.held.stable)) in
      (heard, omega (arith, watched, many, one, two))

  -- a port that opens its session anew asks the replica that it chooses
  pub reopens : (z : Progress) (e : Event) (clock : ℕ) (q r : Port) → e ≡ Tick x clock → Goes z e → port_of z.world x p ≡ Some q → port_of (happens z.world e) x p ≡ Some r → HasTicked z.world x (Frag f) (happens z.world e) q r → must_reopen (before_choice q) ≡ true →
      Asking script x p f k 0 (free_in (marks_of (before_choice q).watches)) (next_progress script z e)
  reopens z e clock q r event may there now ticked must =
      let st = may.here.stand in
      let y = before_choice q in
      let u = (with_next_session q.inlet).sess in
      let c = choice_at y in
      let ms = marks_of y.watches in
      let asks = ticked.asks must in
      let heard = heard-then z e may q r there now ticked.port in
      let after : tick_count x (next_progress script z e) ≡ 1 = ap (λ (d : Event). tick_count x (next_progress script z d)) event ∙ ap (λ (b : Bool). cond {A = ℕ} (b || has z.ticked x) 1 0) (eq-test x x refl) in
      let inlet : r.inlet ≡ asked_inlet q.inlet.held u = ap (λ (v : Port). v.inlet) ticked.port ∙ ap (λ (b : Bool). cond b (with_next_session q.inlet) q.inlet) must in
      let ticks : r.ticks ≡ 0 = ap (λ (v : Port). v.ticks) ticked.port ∙ ap (λ (b : Bool). cond {A = ℕ} b 0 y.ticks) must in
      let chosen : r.chosen ≡ c = ap (λ (v : Port). v.chosen) ticked.port in
      let low_next = chosen-low script.plan x p f k (happens z.world e) may.next.stand r now in
      let low : c < replicas_in script.plan f = subst (λ (pl : Plan). c < replicas_in pl f) may.next.stand.of_plan (subst (λ (i : ℕ). i < replicas_in (happens z.world e).plan f) chosen low_next) in
      let marks_are = ticked-marks-are q in
      let sent : slice_get (happens z.world e).envelopes asks.0 ≡ Some (record { sender = x; to = replica_at script.plan f c; packet = Plain (message.Subscribe (asks_with u q.inlet.held)) }) =
      asks.1 ∙ ap {B = Option Envelope} (λ (pl : Plan). Some (record { sender = x; to = replica_at pl f c; packet = Plain (message.Subscribe (asks_with u q.inlet.held)) })) st.of_plan in (
        u,
        q.inlet.held,
        c,
        ms,
        asks.0,
        record {
          fresh = record {
            port = r;
            there = now;
            inlet = inlet;
            chosen = chosen;
            budget = omega (arith, ticks, after);
            marks = ap (λ (v : Port). marks_of v.watches) ticked.port;
            ended = ap (λ (xs : List Mark). map (unmarked_at (length q.inlet.held.stable)) xs) marks_are ∙ ended-twice (length q.inlet.held.stable) (marks_of q.watches) ∙ sym marks_are;
            number = asks.0;
            sent = sent;
            batches = λ j i g v items at sends to packet same. absurd (none-new j g v at sends to (inl (i, items, packet)) same);
            truncations = λ j base g v at sends to packet same. absurd (none-new j g v at sends to (inr (base, packet)) same);
          };
          sent = sent;
          low = low;
          fits = choice-fits y heard.0 heard.1;
          waits = new-waits script z e asks.0 _ asks.2 sent;
          newer = λ s m role up. newer-than s m role up;
        },
        omega arith,
      )
    where
      never : (v : Sess) → is_newer v q.inlet.sess ≡ false → same_sess v (with_next_session q.inlet).sess ≡ true → ⊥
      never v old same = never-next q.inlet.sess v old same

      -- an old reply is not of the next session
      old-reply : (j : ℕ) (g : Envelope) (v : Sess) → slice_get z.world.envelopes j ≡ Some g → sends_it z.world.plan f g.sender ≡ true → g.to ≡ x → IsReplyIn g v → is_newer v q.inlet.sess ≡ false
      old-reply j g v at sends to (inl batch) = old-batch script.plan x p f k z.world may.here.stand q there j batch.0 g v batch.1 at sends to batch.2
      old-reply j g v at sends to (inr cut) = old-truncation script.plan x p f k z.world may.here.stand q there j cut.0 g v at sends to cut.1

      replies : (g : Envelope) (v : Sess) → IsReplyIn g v → is_reply g.packet ≡ true
      replies g v (inl batch) = ap is_reply batch.2
      replies g v (inr cut) = ap is_reply cut.1

      sess-of : (d g : Envelope) (a : Subscribe) (v : Sess) → d ≡ g → (((i : ℕ) × (items : List Item) × (d.packet ≡ Plain (message.Batch a.sess i items))) ⊎ ((base : ℕ) × (d.packet ≡ Plain (message.Truncated a.sess base)))) → IsReplyIn g v → a.sess ≡ v
      sess-of d g a v is (inl one) (inl two) = let e = sym one.2 ∙ ap (λ (o : Envelope). o.packet) is ∙ two.2 in batch-sess a.sess v one.0 two.0 one.1 two.1 e
        where
          batch-sess : (s v : Sess) (i j : ℕ) (xs ys : List Item) → Plain (message.Batch s i xs) ≡ Plain (message.Batch v j ys) → s ≡ v
          batch-sess s v i j xs ys e = cc
      sess-of d g a v is (inr one) (inr two) = let e = sym one.1 ∙ ap (λ (o : Envelope). o.packet) is ∙ two.1 in cut-sess a.sess v one.0 two.0 e
        where
          cut-sess : (s v : Sess) (i j : ℕ) → Plain (message.Truncated s i) ≡ Plain (message.Truncated v j) → s ≡ v
          cut-sess s v i j e = cc
      sess-of d g a v is (inl one) (inr two) = let e = sym one.2 ∙ ap (λ (o : Envelope). o.packet) is ∙ two.1 in cc
      sess-of d g a v is (inr one) (inl two) = let e = sym one.1 ∙ ap (λ (o : Envelope). o.packet) is ∙ two.2 in cc

      none-new : (j : ℕ) (g : Envelope) (v : Sess) → slice_get (happens z.world e).envelopes j ≡ Some g → sends_it script.plan f g.sender ≡ true → g.to ≡ x → IsReplyIn g v → same_sess v (with_next_session q.inlet).sess ≡ true → ⊥
      none-new j g v at sends to reply same =
          let sends_w = plan-sends script x p f k z may.here g.sender sends in
          let node = sender-node script x p f k z may.here g.sender sends_w in
          let m = replica-event script x p f k z e may g.sender node.0 node.1 node.2 node.3 in
          by-goes node.0 node.1 m.0 sends_w m.2
        where
          by-goes : (s : ℕ) (n m : PlainNode) → sends_it z.world.plan f g.sender ≡ true → ReplicaGoes z.world (home_of z.world.plan (f, s)) x g.sender k n m (happens z.world e) → ⊥
          by-goes s n m sends_w (ReplicaGoes.KeepsSub sub none) = never v (old-reply j g v (none j g at refl to (replies g v reply)) sends_w to reply) same
          by-goes s n m sends_w (ReplicaGoes.Opens l d a asked opened grows) =
              elim (get-added z.world.envelopes (answer_from (home_of z.world.plan (f, s)) g.sender x n a) j g (sym (ap (λ (es : List Envelope). slice_get es j) grows) ∙ at)) [
                | inl old ↦ never v (old-reply j g v old sends_w to reply) same
                | inr new ↦
                    let sess = sess-of (answer_from (home_of z.world.plan (f, s)) g.sender x n a) g a v new.1 (inl (0, first_batch (shown (home_of z.world.plan (f, s)) (with_marks_ended n)) a, refl)) reply in
                    let to_it : sends_it z.world.plan f d.to ≡ true = ap (λ (o : ℕ). sends_it z.world.plan f o) asked.to ∙ sends_w in
                    never a.sess (old-ask script.plan x p f k z.world may.here.stand q there l d a asked.there asked.sender to_it asked.packet) (subst (λ (o : Sess). same_sess o (with_next_session q.inlet).sess ≡ true) (sym sess) same)
              ]
          by-goes s n m sends_w (ReplicaGoes.Refuses l d a asked low_n refused grows) =
              elim (get-added z.world.envelopes (refusal_from g.sender x n a) j g (sym (ap (λ (es : List Envelope). slice_get es j) grows) ∙ at)) [
                | inl old ↦ never v (old-reply j g v old sends_w to reply) same
                | inr new ↦
                    let sess = sess-of (refusal_from g.sender x n a) g a v new.1 (inr (n.base, refl)) reply in
                    let to_it : sends_it z.world.plan f d.to ≡ true = ap (λ (o : ℕ). sends_it z.world.plan f o) asked.to ∙ sends_w in
                    never a.sess (old-ask script.plan x p f k z.world may.here.stand q there l d a asked.there asked.sender to_it asked.packet) (subst (λ (o : Sess). same_sess o (with_next_session q.inlet).sess ≡ true) (sym sess) same)
              ]

      newer-than : (s : ℕ) (m : PlainNode) → role_of script.plan (replica_at script.plan f (choice_at (before_choice q))) ≡ IsNode f s → (slot_of (happens z.world e) (replica_at script.plan f (choice_at (before_choice q)))).node ≡ Some m →
          is_newer_than_kept (with_next_session q.inlet).sess (nth no_session m.subs k).kept ≡ true
      newer-than s m role up =
          by-kept (nth no_session m.subs k).kept refl
        where
          by-kept : (o : Option Sess) → (nth no_session m.subs k).kept ≡ o → is_newer_than_kept (with_next_session q.inlet).sess o ≡ true
          by-kept None is = refl
          by-kept (Some v) is = next-newer q.inlet.sess v (old-before s m v role up is)
            where
              old-before : (s : ℕ) (m : PlainNode) (v : Sess) → role_of script.plan (replica_at script.plan f (choice_at (before_choice q))) ≡ IsNode f s → (slot_of (happens z.world e) (replica_at script.plan f (choice_at (before_choice q)))).node ≡ Some m → (nth no_session m.subs k).kept ≡ Some v → is_newer v q.inlet.sess ≡ false
              old-before s m v role up is =
                  let st = may.here.stand in
                  let b = replica_at script.plan f (choice_at (before_choice q)) in
                  let role_w : role_of z.world.plan b ≡ IsNode f s = ap (λ (pl : Plan). role_of pl b) st.of_plan ∙ role in
                  let n = node-there z.world st.most b f s st.fine st.up role_w in
                  let goes = replica-event script x p f k z e may b s n.0 role_w n.1 in
                  let one : goes.0 ≡ m = some-same goes.0 m (sym goes.1 ∙ up) in
                  by-goes n.0 goes.0 n.1 role_w (ap (λ (o : PlainNode). (nth no_session o.subs k).kept) one ∙ is) goes.2
                where
                  low-choice : choice_at (before_choice q) < replicas_in z.world.plan f
                  low-choice =
                      let next = may.next.stand in
                      let chosen : r.chosen ≡ choice_at (before_choice q) = ap (λ (y : Port). y.chosen) ticked.port in
                      subst (λ (pl : Plan). choice_at (before_choice q) < replicas_in pl f) (next.of_plan ∙ sym may.here.stand.of_plan) (subst (λ (i : ℕ). i < replicas_in (happens z.world e).plan f) chosen (chosen-low script.plan x p f k (happens z.world e) next r now))

                  by-goes : (n o : PlainNode) → (slot_of z.world (replica_at script.plan f (choice_at (before_choice q)))).node ≡ Some n → role_of z.world.plan (replica_at script.plan f (choice_at (before_choice q))) ≡ IsNode f s → (nth no_session o.subs k).kept ≡ Some v →
                      ReplicaGoes z.world (home_of z.world.plan (f, s)) x (replica_at script.plan f (choice_at (before_choice q))) k n o (happens z.world e) → is_newer v q.inlet.sess ≡ false
                  by-goes n o up_n role_w kept (ReplicaGoes.KeepsSub sub none) =
                      let c = choice_at (before_choice q) in
                      let st = may.here.stand in
                      old-kept script.plan x p f k z.world st q there c s n v low-choice (ap (λ (pl : Plan). role_of z.world.plan (replica_at pl f c)) st.of_plan ∙ role_w) (ap (λ (pl : Plan). (slot_of z.world (replica_at pl f c)).node) st.of_plan ∙ up_n)
                      (ap (λ (d : Sub). d.kept) (sym sub) ∙ kept)
                  by-goes n o up_n role_w kept (ReplicaGoes.Opens l d a asked opened grows) =
                      let same : a.sess ≡ v = some-same a.sess v (sym (ap (λ (y : Sub). y.kept) opened) ∙ kept) in
                      let to_it : sends_it z.world.plan f d.to ≡ true = ap (λ (b : ℕ). sends_it z.world.plan f b) asked.to ∙ ap (λ (w : _). sends_stream (Frag f) w) role_w ∙ eq-test f f refl in
                      subst (λ (y : Sess). is_newer y q.inlet.sess ≡ false) same (old-ask script.plan x p f k z.world may.here.stand q there l d a asked.there asked.sender to_it asked.packet)
                  by-goes n o up_n role_w kept (ReplicaGoes.Refuses l d a asked low_n refused grows) =
                      let same : a.sess ≡ v = some-same a.sess v (sym (ap (λ (y : Sub). y.kept) refused) ∙ kept) in
                      let to_it : sends_it z.world.plan f d.to ≡ true = ap (λ (b : ℕ). sends_it z.world.plan f b) asked.to ∙ ap (λ (w : _). sends_stream (Frag f) w) role_w ∙ eq-test f f refl in
                      subst (λ (y : Sess). is_newer y q.inlet.sess ≡ false) same (old-ask script.plan x p f k z.world may.here.stand q there l d a asked.there asked.sender to_it asked.packet)
