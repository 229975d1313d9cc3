-- The subscription of a port comes and is answered or refused, and the answer comes.
use Rattle.std.proofs.Common.{◌≡◌, ℕ, ◌+◌, ◌<◌, ◌≤◌, true, false, List, [], ◌∷◌, ◌++◌, length, refl, sym, ap, subst, ◌∙◌, arith, Option, Some, slice_get, ◌⊎◌, inl, inr}
use Rattle.std.proofs.lemmas.Option.{slice_get_within}
use Rattle.dpc_lists.specs.Lists.{nth}
use Rattle.dpc_model.specs.Reading.{Reader}
use Rattle.dpc_model.specs.Inlets.{InletState, same_sess, is_newer}
use Rattle.dpc_model.specs.Actors.{role_of}
use Rattle.dpc_model.specs.Sessions.{is_newer_than_kept, no_session, first_batch}
use Rattle.dpc_model.specs.declared.actors.Role.TheVariants.{Node as IsNode}
use Rattle.dpc_model.specs.declared.sessions.Sub.{Sub}
use Rattle.dpc_model.specs.declared.tuples.Item.{Item}
use Rattle.dpc_model.specs.declared.messages.Event.{Event}
use Rattle.dpc_model.specs.declared.messages.Event.TheVariants.{Deliver}
use Rattle.dpc_model.specs.declared.messages.Sess.{Sess}
use Rattle.dpc_model.specs.declared.messages.Subscribe.{Subscribe}
use Rattle.dpc_model.specs.declared.messages.Message.TheVariants as message
use Rattle.dpc_model.specs.declared.plans.Plan.{Plan}
use Rattle.dpc_model.specs.declared.scripts.Script.{Script}
use Rattle.dpc_lists.proofs.Elements.{get-last}
use Rattle.dpc_lists.proofs.Somes.{some-same}
use Rattle.node_model.specs.Mails.{Plain}
use Rattle.node_model.specs.Nodes.{PlainNode, shown}
use Rattle.node_model.specs.NodeSteps.{with_marks_ended}
use Rattle.world_model.specs.Worlds.{Envelope, home_of, slot_of, can_come, happens}
use Rattle.world_model.specs.Schedules.{Progress, next_progress, may_come}
use Rattle.world_model.specs.Events.{is_delivery}
use Rattle.law_settling.specs.Finished.{IsFinished}
use Rattle.law_settling.proofs.Opening.{all-come}
use Rattle.law_settling.proofs.Fresh.{HasWhole, new-waits, still-sent}
use Rattle.law_settling.proofs.Full.{asks_with}
use Rattle.law_settling.proofs.Ports.{node-there}
use Rattle.law_settling.proofs.Readings.{same-or-older}
use Rattle.law_settling.proofs.Rules.{MayGo}
use Rattle.law_settling.proofs.Waitings.{waits, waits-on, comes}
use Rattle.law_settling_readers.proofs.Marks.{Mark, free_in, Fits}
use Rattle.law_settling_readers.proofs.Reading.{replica_at, replicas_in, sends_it, IsSeen, replica-sends, old-ask}
use Rattle.law_settling_readers.proofs.Serving.{ReplicaGoes, IsAskedFor, answer_from, refusal_from, replies-now}
use Rattle.law_settling_readers.proofs.Freshly.{IsFresh, ask_sent, replica-event, same-ask}
use Rattle.law_settling_readers.proofs.Reasking.{IsAsking}
use Rattle.law_settling_readers.proofs.Turning.{Turned, fits-next}

-- the answer waits, or the truncation
pub record IsReplying (script : Script) (x p f t : ℕ) (u : Sess) (h : Reader) (c : ℕ) (ms : List Mark) (n : ℕ) (z : Progress) : Type 0 where
  pub fresh : IsFresh script x p f t u h c ms z
  pub low : c < replicas_in script.plan f
  pub fits : Fits c ms
  pub sent : ((items : List Item) × (slice_get z.world.envelopes n ≡ Some (record { sender = replica_at script.plan f c; to = x; packet = Plain (message.Batch u 0 items) })))
      ⊎ ((base : ℕ) × (slice_get z.world.envelopes n ≡ Some (record { sender = replica_at script.plan f c; to = x; packet = Plain (message.Truncated u base) })))
  pub waits : waits n z.waiting ≡ true

abbrev pub Replying : Script → ℕ → ℕ → ℕ → ℕ → ℕ → Progress → Type 0
Replying script x p f t most z = (u : Sess) × (h : Reader) × (c : ℕ) × (ms : List Mark) × (n : ℕ) × IsReplying script x p f t u h c ms n z × (free_in ms ≤ most)

-- the port has the whole, or one replica more truncated
abbrev pub Settled : Script → ℕ → ℕ → ℕ → ℕ → Progress → Type 0
Settled script x p f bound z = HasWhole script x p z ⊎ ((most : ℕ) × Turned script x p f most z × (most + 1 ≤ bound))

module _ (script : Script) (x p f k : ℕ) where
  abbrev Goes : Progress → Event → Type 0
  Goes z e = MayGo script (IsSeen script x p f k) z e

  -- what was sent comes
  pub comes-here : (z : Progress) (n : ℕ) (g : Envelope) → IsSeen script x p f k z → slice_get z.world.envelopes n ≡ Some g → comes z.world n ≡ true
  comes-here z n g seen there = let st = seen.stand in all-come z.world st.most n st.fine st.up (slice_get_within z.world.envelopes n g there)

  pub can-here : (z : Progress) (n : ℕ) (g : Envelope) → IsSeen script x p f k z → slice_get z.world.envelopes n ≡ Some g → can_come z.world g ≡ true
  can-here z n g seen there = sym (ap (λ (o : Option Envelope). may_come z.world o) there) ∙ comes-here z n g seen there

  -- the replica that was asked, as a node
  pub asked-node : (z : Progress) → IsSeen script x p f k z → (c : ℕ) → c < replicas_in script.plan f → (r : ℕ) × (n : PlainNode) × (role_of z.world.plan (replica_at script.plan f c) ≡ IsNode f r) × ((slot_of z.world (replica_at script.plan f c)).node ≡ Some n)
  asked-node z seen c low =
      let st = seen.stand in
      let low_w : c < replicas_in z.world.plan f = subst (λ (pl : Plan). c < replicas_in pl f) (sym st.of_plan) low in
      let node = st.line.replica c low_w in
      let role : role_of z.world.plan (replica_at script.plan f c) ≡ IsNode f node.0 = ap (λ (pl : Plan). role_of z.world.plan (replica_at pl f c)) (sym st.of_plan) ∙ node.1 in
      let n = node-there z.world st.most (replica_at script.plan f c) f node.0 st.fine st.up role in
      (node.0, n.0, role, n.1)

  asked-sends : (z : Progress) → IsSeen script x p f k z → (c : ℕ) → c < replicas_in script.plan f → sends_it z.world.plan f (replica_at script.plan f c) ≡ true
  asked-sends z seen c low =
      let st = seen.stand in
      let low_w : c < replicas_in z.world.plan f = subst (λ (pl : Plan). c < replicas_in pl f) (sym st.of_plan) low in
      ap (λ (pl : Plan). sends_it z.world.plan f (replica_at pl f c)) (sym st.of_plan) ∙ replica-sends script.plan x p f k z.world st seen.port seen.there c low_w

  -- ---- the subscription is under way

  abbrev Answered : ℕ → ℕ → Progress → Type 0
  Answered t bound z = Replying script x p f t bound z ⊎ Settled script x p f bound z

  -- the answer or refusal was just sent
  replies : (t : ℕ) (u : Sess) (h : Reader) (c : ℕ) (ms : List Mark) (z : Progress) (e : Event) (r : ℕ) (n : PlainNode) (v : Subscribe) → IsFresh script x p f t u h c ms (next_progress script z e) → c < replicas_in script.plan f → Fits c ms → v ≡ asks_with u h →
      ((happens z.world e).envelopes ≡ z.world.envelopes ++ answer_from (home_of z.world.plan (f, r)) (replica_at script.plan f c) x n v ∷ []) ⊎ ((happens z.world e).envelopes ≡ z.world.envelopes ++ refusal_from (replica_at script.plan f c) x n v ∷ []) →
      Replying script x p f t (free_in ms) (next_progress script z e)
  replies t u h c ms z e r n v fresh low fits same sent =
      let i = length z.world.envelopes in (
        u,
        h,
        c,
        ms,
        i,
        elim sent [
          | inl grows ↦
              let items = first_batch (shown (home_of z.world.plan (f, r)) (with_marks_ended n)) (asks_with u h) in
              let there : slice_get (happens z.world e).envelopes i ≡ Some (record { sender = replica_at script.plan f c; to = x; packet = Plain (message.Batch u 0 items) }) =
              ap (λ (es : List Envelope). slice_get es i) grows ∙ get-last z.world.envelopes (answer_from (home_of z.world.plan (f, r)) (replica_at script.plan f c) x n v) ∙ ap {B = Option Envelope} (λ (y : Subscribe). Some (answer_from (home_of z.world.plan (f, r)) (replica_at script.plan f c) x n y)) same in
              record { fresh = fresh; low = low; fits = fits; sent = inl (items, there); waits = new-waits script z e i _ (omega arith) there }
          | inr grows ↦
              let there : slice_get (happens z.world e).envelopes i ≡ Some (record { sender = replica_at script.plan f c; to = x; packet = Plain (message.Truncated u n.base) }) =
              ap (λ (es : List Envelope). slice_get es i) grows ∙ get-last z.world.envelopes (refusal_from (replica_at script.plan f c) x n v) ∙ ap {B = Option Envelope} (λ (y : Subscribe). Some (refusal_from (replica_at script.plan f c) x n y)) same in
              record { fresh = fresh; low = low; fits = fits; sent = inr (n.base, there); waits = new-waits script z e i _ (omega arith) there }
        ],
        omega arith,
      )

  -- an event that is not its delivery
  pub asking-next : (t : ℕ) (u : Sess) (h : Reader) (c : ℕ) (ms : List Mark) (n : ℕ) (z : Progress) (e : Event) → t ≤ 2 → Goes z e → is_delivery n e ≡ false → IsAsking script x p f k t u h c ms n z →
      IsAsking script x p f k t u h c ms n (next_progress script z e) ⊎ Answered t (free_in ms) (next_progress script z e)
  asking-next t u h c ms n z e few may other asking =
      elim (fits-next script x p f k t u h c ms z e few may asking.fresh asking.low asking.fits) [
        | inr settled ↦ inr (inr settled)
        | inl fresh ↦
            let node = asked-node z may.here c asking.low in
            let m = replica-event script x p f k z e may (replica_at script.plan f c) node.0 node.1 node.2 node.3 in
            by-goes fresh node.0 node.1 m.0 node.2 node.3 m.1 m.2
      ]
    where
      on : IsFresh script x p f t u h c ms (next_progress script z e) → (m : PlainNode) → (slot_of (happens z.world e) (replica_at script.plan f c)).node ≡ Some m → is_newer_than_kept u (nth no_session m.subs k).kept ≡ true → IsAsking script x p f k t u h c ms n (next_progress script z e)
      on fresh m up newer =
          record {
            fresh = fresh;
            sent = still-sent z.world e n _ asking.sent;
            low = asking.low;
            fits = asking.fits;
            waits = waits-on script z e n may.quiet other asking.waits;
            newer = λ r o role up_o. let one : m ≡ o = some-same m o (sym up ∙ up_o) in ap (λ (y : PlainNode). is_newer_than_kept u (nth no_session y.subs k).kept) (sym one) ∙ newer;
          }

      older : (j : ℕ) (g : Envelope) (v : Subscribe) → slice_get z.world.envelopes j ≡ Some g → g.sender ≡ x → g.to ≡ replica_at script.plan f c → g.packet ≡ Plain (message.Subscribe v) → is_newer v.sess u ≡ false
      older j g v at sender to packet =
          let sess : asking.fresh.port.inlet.sess ≡ u = ap (λ (i : InletState). i.sess) asking.fresh.inlet in
          subst (λ (y : Sess). is_newer v.sess y ≡ false) sess
          (old-ask script.plan x p f k z.world may.here.stand asking.fresh.port asking.fresh.there j g v at sender (ap (λ (b : ℕ). sends_it z.world.plan f b) to ∙ asked-sends z may.here c asking.low) packet)

      the-same : (j : ℕ) (g : Envelope) (v : Subscribe) → slice_get z.world.envelopes j ≡ Some g → g.sender ≡ x → g.to ≡ replica_at script.plan f c → g.packet ≡ Plain (message.Subscribe v) → same_sess v.sess u ≡ true → v ≡ asks_with u h
      the-same j g v at sender to packet same =
          (same-ask script x p f k t u h c ms z may.here asking.fresh asking.low j g v at sender (ap (λ (b : ℕ). sends_it z.world.plan f b) to ∙ asked-sends z may.here c asking.low) packet same).0

      by-goes : IsFresh script x p f t u h c ms (next_progress script z e) → (r : ℕ) (o m : PlainNode) → role_of z.world.plan (replica_at script.plan f c) ≡ IsNode f r → (slot_of z.world (replica_at script.plan f c)).node ≡ Some o → (slot_of (happens z.world e) (replica_at script.plan f c)).node ≡ Some m →
          ReplicaGoes z.world (home_of z.world.plan (f, r)) x (replica_at script.plan f c) k o m (happens z.world e) → IsAsking script x p f k t u h c ms n (next_progress script z e) ⊎ Answered t (free_in ms) (next_progress script z e)
      by-goes fresh r o m role up_o up (ReplicaGoes.KeepsSub sub none) =
          let role_plan : role_of script.plan (replica_at script.plan f c) ≡ IsNode f r = ap (λ (pl : Plan). role_of pl (replica_at script.plan f c)) (sym may.here.stand.of_plan) ∙ role in
          inl (on fresh m up (ap (λ (y : Sub). is_newer_than_kept u y.kept) sub ∙ asking.newer r o role_plan up_o))
      by-goes fresh r o m role up_o up (ReplicaGoes.Opens j g v asked opened grows) =
          (elim (same_sess v.sess u) as (λ b. same_sess v.sess u ≡ b → IsAsking script x p f k t u h c ms n (next_progress script z e) ⊎ Answered t (free_in ms) (next_progress script z e)) [
            | true ↦ λ same. inr (inl (replies t u h c ms z e r o v fresh asking.low asking.fits (the-same j g v asked.there asked.sender asked.to asked.packet same) (inl grows)))
            | false ↦ λ apart. inl (on fresh m up (ap (λ (y : Sub). is_newer_than_kept u y.kept) opened ∙ same-or-older u v.sess (older j g v asked.there asked.sender asked.to asked.packet) apart))
          ]) refl
      by-goes fresh r o m role up_o up (ReplicaGoes.Refuses j g v asked low_n refused grows) =
          (elim (same_sess v.sess u) as (λ b. same_sess v.sess u ≡ b → IsAsking script x p f k t u h c ms n (next_progress script z e) ⊎ Answered t (free_in ms) (next_progress script z e)) [
            | true ↦ λ same. inr (inl (replies t u h c ms z e r o v fresh asking.low asking.fits (the-same j g v asked.there asked.sender asked.to asked.packet same) (inr grows)))
            | false ↦ λ apart. inl (on fresh m up (ap (λ (y : Sub). is_newer_than_kept u y.kept) refused ∙ same-or-older u v.sess (older j g v asked.there asked.sender asked.to asked.packet) apart))
          ]) refl

  -- its delivery
  pub asked-now : (t : ℕ) (u : Sess) (h : Reader) (c : ℕ) (ms : List Mark) (n : ℕ) (z : Progress) → t ≤ 2 → Goes z (Deliver n) → IsAsking script x p f k t u h c ms n z → Answered t (free_in ms) (next_progress script z (Deliver n))
  asked-now t u h c ms n z few may asking =
      let st = may.here.stand in
      let next = may.next.stand in
      let a = replica_at script.plan f c in
      let e = Deliver n in
      elim (fits-next script x p f k t u h c ms z e few may asking.fresh asking.low asking.fits) [
        | inr settled ↦ inr settled
        | inl fresh ↦
            let node = asked-node z may.here c asking.low in
            let r = node.0 in
            let o = node.1 in
            let role_plan : role_of script.plan a ≡ IsNode f r = ap (λ (pl : Plan). role_of pl a) (sym st.of_plan) ∙ node.2 in
            let asked : IsAskedFor z.world a x k o n (ask_sent script x f c u h) (asks_with u h) = record { there = asking.sent; sender = refl; to = refl; packet = refl; newer = asking.newer r o role_plan node.3 } in
            let same : (happens z.world e).plan ≡ z.world.plan = next.of_plan ∙ sym st.of_plan in
            let reply = replies-now z.world st.most x f r a k st.fine node.2 st.line.placed st.line.low st.line.back o node.3 (st.done a r o node.2 node.3) n (ask_sent script x f c u h) (asks_with u h) asked (can-here z n (ask_sent script x f c u h) may.here asking.sent)
            (λ m up_m. subst (λ (pl : Plan). IsFinished (home_of pl (f, r)) m) same (next.done a r m (ap (λ (pl : Plan). role_of pl a) same ∙ node.2) up_m)) in
            inl (replies t u h c ms z e r o (asks_with u h) fresh asking.low asking.fits refl (elim reply [ inl grows ↦ inl grows | inr refused ↦ inr refused.1 ]))
      ]

  -- ---- the answer is under way

  pub replying-next : (t : ℕ) (u : Sess) (h : Reader) (c : ℕ) (ms : List Mark) (n : ℕ) (z : Progress) (e : Event) → t ≤ 2 → Goes z e → is_delivery n e ≡ false → IsReplying script x p f t u h c ms n z → IsReplying script x p f t u h c ms n (next_progress script z e) ⊎ Settled script x p f (free_in ms) (next_progress script z e)
  replying-next t u h c ms n z e few may other replying =
      elim (fits-next script x p f k t u h c ms z e few may replying.fresh replying.low replying.fits) [
        | inr settled ↦ inr settled
        | inl fresh ↦ inl (record {
          fresh = fresh;
          low = replying.low;
          fits = replying.fits;
          sent = elim replying.sent [ inl batch ↦ inl (batch.0, still-sent z.world e n _ batch.1) | inr cut ↦ inr (cut.0, still-sent z.world e n _ cut.1) ];
          waits = waits-on script z e n may.quiet other replying.waits;
        })
      ]
