-- From a port that asked its source anew to one that has the whole of it, event by event.
use Rattle.std.proofs.Common.{◌≡◌, ℕ, ◌+◌, ◌≤◌, Bool, true, false, cond, not, ◌&&◌, ◌||◌, ◌==◌, nat_le, min, List, [], ◌∷◌, ◌++◌, length, refl, sym, ap, subst, ◌∙◌, arith, Option, Some, None, slice_get, ◌⊎◌, inl, inr}
use Rattle.dpc_lists.specs.Lists.{nth, has}
use Rattle.dpc_model.specs.Reading.{Reader, is_sure}
use Rattle.dpc_model.specs.Inlets.{InletState, same_sess, is_newer, take_batch, after_tally, with_next_session}
use Rattle.dpc_model.specs.Ports.{Port, choice_at, must_reopen}
use Rattle.dpc_model.specs.Sessions.{is_newer_than_kept, first_batch as first_items}
use Rattle.dpc_model.specs.declared.sessions.Sub.{Sub}
use Rattle.dpc_model.specs.declared.tuples.Item.{Item}
use Rattle.dpc_model.specs.declared.messages.Event.{Event}
use Rattle.dpc_model.specs.declared.messages.Event.TheVariants.{Deliver, Tick}
use Rattle.dpc_model.specs.declared.messages.Sess.{Sess}
use Rattle.dpc_model.specs.declared.messages.Subscribe.{Subscribe}
use Rattle.dpc_model.specs.declared.messages.Message.TheVariants as message
use Rattle.dpc_model.specs.declared.plans.Plan.{Plan}
use Rattle.dpc_model.specs.declared.scripts.Script.{Script}
use Rattle.node_model.specs.Mails.{Packet, Plain, SnapFor}
use Rattle.node_model.specs.Sources.{source_shown}
use Rattle.world_model.specs.Worlds.{Envelope, source_at, happens, can_come, is_up}
use Rattle.world_model.specs.Schedules.{Progress, next_progress, may_follow, is_free, now_of, may_come}
use Rattle.dpc_lists.proofs.Truths.{both, eq-test, le-of, not-of}
use Rattle.std.proofs.lemmas.Option.{slice_get_within}
use Rattle.dpc_model.specs.Actors.{senders_of}
use Rattle.dpc_model.specs.declared.plans.StreamRef.TheVariants.{Source}
use Rattle.dpc_lists.proofs.Elements.{get-added, get-last}
use Rattle.dpc_model.proofs.Alike.{same_sess-self}
use Rattle.node_model.proofs.Mailed.{batch-is}
use Rattle.world_model.specs.Safe.{HoldsOf}
use Rattle.law_safety.proofs.Sourcing.{IsFineSource}
use Rattle.law_safety.proofs.Happening.{source-here}
use Rattle.law_granting.specs.Taken.{port_of}
use Rattle.world_model.specs.Events.{is_delivery}
use Rattle.law_settling.proofs.Waitings.{waits, waits-on, comes}
use Rattle.law_settling.proofs.Rules.{MayGo, Keeps, same-delivery}
use Rattle.law_settling.proofs.Opening.{all-come}
use Rattle.law_settling.proofs.Exact.{inlet_after}
use Rattle.law_settling.proofs.Ticking.{before_choice}
use Rattle.law_settling.proofs.PortGoing.{HasTicked}
use Rattle.law_settling.proofs.Going.{InletGoes, Stays, TakesIn, TicksOn, took-now}
use Rattle.law_settling.proofs.Sourcing.{sub_at, answer_mail, SourceGoes, Keeps as KeepsSub, Opens, source-goes, answers-now}
use Rattle.law_settling.proofs.Full.{asks_with, first-whole}
use Rattle.law_settling.proofs.Standing.{asked_inlet, old-batch, old-ask, old-kept}
use Rattle.law_settling.proofs.Readings.{other-batch, first-batch, asked-tally, next-newer, never-next, same-or-older}
use Rattle.law_settling.proofs.Fresh.{IsSeen, HasWhole, tick_count, ticks-grow, Completes, IsFresh, IsAsking, IsReplying, Replied, Coming, new-waits, still-sent, Reopens, Holds, port-next, first-here, ticked-says, whole-kept}

-- the reader ticks once in a phase
pub not-ticked : (script : Script) (z : Progress) (a now : ℕ) → may_follow script z (Tick a now) ≡ true → has z.ticked a ≡ false
not-ticked script z a now may =
    let one = both (is_free z && is_up z.world a && not (has z.ticked a)) (now == now_of script z) may in
    let two = both (is_free z && is_up z.world a) (not (has z.ticked a)) one.0 in
    not-of (has z.ticked a) two.1

-- a tick that is the first or second of the session opens no other one
pub early : (n : ℕ) → n ≤ 1 → nat_le 3 (min 3 (n + 1)) ≡ true → ⊥
early n low test = let three = le-of 3 (min 3 (n + 1)) test in omega (arith, low, three)

module _ (script : Script) (x p s k : ℕ) where
  abbrev Goes : Progress → Event → Type 0
  Goes z e = MayGo script (IsSeen script x p s k) z e

  -- the answer that a source sends in the session completes
  answer-completes : (z : Progress) (u : Sess) (h : Reader) (q : Port) → IsSeen script x p s k z → port_of z.world x p ≡ Some q → q.inlet ≡ asked_inlet h u → Completes script h (first_items (source_shown z.world.plan s (source_at z.world s)) (asks_with u h))
  answer-completes z u h q seen there inlet =
      let st = seen.stand in
      let fine = subst (λ (pl : Plan). Fine pl) st.of_plan (source-here z.world st.most s st.fine) in
      let holds = subst (λ (i : InletState). Holds_of i) inlet (st.holds q there) in
      subst (λ (pl : Plan). Completes script h (first_items (source_shown pl s (source_at z.world s)) (asks_with u h))) (sym st.of_plan)
      (first-whole script.plan s u h (source_at z.world s) st.checked.checked fine st.ended holds)
    where
      Fine : Plan → Type 0
      Fine pl = IsFineSource pl s (source_at z.world s)

      Holds_of : InletState → Type 0
      Holds_of i = HoldsOf script.plan (Source s) i.held

  -- what comes in the session stays so
  batches-next : (t : ℕ) (u : Sess) (h : Reader) (z : Progress) (e : Event) → MayGo script (IsSeen script x p s k) z e → IsFresh script x p s t u h z →
      (j : ℕ) (f : Envelope) (v : Sess) (i : ℕ) (items : List Item) → slice_get (happens z.world e).envelopes j ≡ Some f → f.sender ≡ s → f.to ≡ x → f.packet ≡ Plain (message.Batch v i items) → same_sess v u ≡ true → (i ≡ 0) × Completes script h items
  batches-next t u h z e may fresh j f v i items there sender to packet same =
      let st = may.here.stand in
      elim (source-goes z.world st.most x p s k st.fine st.line st.within e may.quiet) [
        | KeepsSub sub none ↦ fresh.batches j f v i items (none j f v i items there sender to packet) sender to packet same
        | Opens n g asked at who back asks newer opened sends ↦
            elim (get-added z.world.envelopes (answer_mail z.world s x asked) j f (sym (ap (λ (es : List Envelope). slice_get es j) sends) ∙ there)) [
              | inl old ↦ fresh.batches j f v i items old sender to packet same
              | inr new ↦
                  let it = batch-is (ap (λ (y : Envelope). y.packet) new.1 ∙ packet) in
                  let mine : asked ≡ asks_with u h = st.asked fresh.port u h n g asked fresh.there fresh.inlet at who back asks (subst (λ (y : Sess). same_sess y u ≡ true) (sym it.0) same) in
                  let items_are : first_items (source_shown z.world.plan s (source_at z.world s)) (asks_with u h) ≡ items = ap (λ (y : Subscribe). first_items (source_shown z.world.plan s (source_at z.world s)) y) (sym mine) ∙ it.2 in
                  (sym it.1, subst (Completes script h) items_are (answer-completes z u h fresh.port may.here fresh.there fresh.inlet))
            ]
      ]

  -- a fresh port stays so, or has the whole
  pub fresh-next : (t : ℕ) (u : Sess) (h : Reader) (z : Progress) (e : Event) → t ≤ 2 → MayGo script (IsSeen script x p s k) z e → IsFresh script x p s t u h z → IsFresh script x p s t u h (next_progress script z e) ⊎ HasWhole script x p (next_progress script z e)
  fresh-next t u h z e few may fresh =
      let k_next = port-next script x p s k z e may fresh.port fresh.there in
      let count = ticks-grow script x z e may.quiet in
      let budget = fresh.budget in
      let stays : k_next.0.inlet ≡ fresh.port.inlet → k_next.0.ticks ≡ fresh.port.ticks → IsFresh script x p s t u h (next_progress script z e) ⊎ HasWhole script x p (next_progress script z e) =
      λ inlet ticks. inl (record { port = k_next.0; there = k_next.1; inlet = inlet ∙ fresh.inlet; budget = omega (arith, ticks, budget, count); batches = batches-next t u h z e may fresh }) in
      by-goes k_next.0 k_next.1 k_next.2 stays
    where
      by-packet : (r : Port) → port_of (happens z.world e) x p ≡ Some r → (j : ℕ) (f : Envelope) → slice_get z.world.envelopes j ≡ Some f → f.to ≡ x → f.sender ≡ s → (packet : Packet) → f.packet ≡ packet → r.ticks ≡ fresh.port.ticks → r.inlet ≡ inlet_after packet fresh.port.inlet →
          (r.inlet ≡ fresh.port.inlet → r.ticks ≡ fresh.port.ticks → IsFresh script x p s t u h (next_progress script z e) ⊎ HasWhole script x p (next_progress script z e)) → IsFresh script x p s t u h (next_progress script z e) ⊎ HasWhole script x p (next_progress script z e)
      by-packet r now j f at to sender (Plain (message.Batch v i items)) packet ticks inlet stays =
          (elim (same_sess v u) as (λ b. same_sess v u ≡ b → IsFresh script x p s t u h (next_progress script z e) ⊎ HasWhole script x p (next_progress script z e)) [
            | false ↦ λ other. stays (inlet ∙ other-batch fresh.port.inlet v i items (ap (λ (y : InletState). same_sess v y.sess) fresh.inlet ∙ other)) ticks
            | true ↦ λ same.
                let all = fresh.batches j f v i items at sender to packet same in
                let held : r.inlet.held ≡ all.1.0.after =
                ap (λ (y : InletState). y.held) inlet ∙ ap (λ (y : InletState). (take_batch y v i items).after.held) fresh.inlet ∙ ap (λ (n : ℕ). (take_batch (asked_inlet h u) v n items).after.held) all.0 ∙ first-batch h u v items all.1.0 same all.1.1 in
                inr (record { port = r; there = now; bound = ap (λ (y : Reader). y.bound) held ∙ all.1.2; sure = ap is_sure held ∙ all.1.3 })
          ]) refl
      by-packet r now j f at to sender (Plain (message.Beat b)) packet ticks inlet stays = stays (inlet ∙ ap (λ (y : InletState). after_tally y b.tally) fresh.inlet ∙ asked-tally h u b.tally ∙ sym fresh.inlet) ticks
      by-packet r now j f at to sender (Plain (message.Subscribe asked)) packet ticks inlet stays = stays inlet ticks
      by-packet r now j f at to sender (Plain (message.Truncated v base)) packet ticks inlet stays = stays inlet ticks
      by-packet r now j f at to sender (Plain (message.Ack i n)) packet ticks inlet stays = stays inlet ticks
      by-packet r now j f at to sender (Plain (message.Ask i n)) packet ticks inlet stays = stays inlet ticks
      by-packet r now j f at to sender (Plain (message.Grant i n)) packet ticks inlet stays = stays inlet ticks
      by-packet r now j f at to sender (Plain (message.SnapAsk i n)) packet ticks inlet stays = stays inlet ticks
      by-packet r now j f at to sender (SnapFor i try snap) packet ticks inlet stays = stays inlet ticks

      by-goes : (r : Port) → port_of (happens z.world e) x p ≡ Some r → InletGoes z.world x p s e (happens z.world e) fresh.port r → (r.inlet ≡ fresh.port.inlet → r.ticks ≡ fresh.port.ticks → IsFresh script x p s t u h (next_progress script z e) ⊎ HasWhole script x p (next_progress script z e)) →
          IsFresh script x p s t u h (next_progress script z e) ⊎ HasWhole script x p (next_progress script z e)
      by-goes r now (Stays with_it) stays = stays with_it.inlet_is with_it.ticks
      by-goes r now (TakesIn j f is at to sender with_it) stays = by-packet r now j f at to sender f.packet refl with_it.ticks with_it.inlet_is stays
      by-goes r now (TicksOn clock is ticked) stays =
          let old = not-ticked script z x clock (subst (λ (d : Event). may_follow script z d ≡ true) is may.may) in
          let before : tick_count x z ≡ 0 = ap (λ (b : Bool). cond {A = ℕ} b 1 0) old in
          let after : tick_count x (next_progress script z e) ≡ 1 = ap (λ (d : Event). tick_count x (next_progress script z d)) is ∙ ap (λ (b : Bool). cond {A = ℕ} (b || has z.ticked x) 1 0) (eq-test x x refl) in
          let budget = fresh.budget in
          let low : fresh.port.ticks ≤ 1 = omega (arith, budget, before, few) in
          elim (ticked-says script x p s k z e may fresh.port r fresh.there now ticked) [
            | Holds whole waits inlet ticks ↦ inl (record { port = r; there = now; inlet = inlet ∙ fresh.inlet; budget = omega (arith, ticks, budget, before, after); batches = batches-next t u h z e may fresh })
            | Reopens must why inlet ticks ↦ absurd (no-reopen why low)
          ]
        where
          no-reopen : (fresh.port.inlet.broken || (not fresh.port.inlet.answered && nat_le 3 (min 3 (fresh.port.ticks + 1)))) ≡ true → fresh.port.ticks ≤ 1 → ⊥
          no-reopen why low = early fresh.port.ticks low (sym (ap (λ (i : InletState). i.broken || (not i.answered && nat_le 3 (min 3 (fresh.port.ticks + 1)))) fresh.inlet) ∙ why)

  -- ---- the subscription is under way

  ask-sent : (u : Sess) (h : Reader) → Envelope
  ask-sent u h = record { sender = x; to = s; packet = Plain (message.Subscribe (asks_with u h)) }

  -- the source answers: the answer waits
  answered-now : (t : ℕ) (u : Sess) (h : Reader) (z : Progress) (e : Event) → IsFresh script x p s t u h (next_progress script z e) → (v : Subscribe) → v ≡ asks_with u h → (happens z.world e).envelopes ≡ z.world.envelopes ++ answer_mail z.world s x v ∷ [] → Replied script x p s t (next_progress script z e)
  answered-now t u h z e fresh v same sends =
      let n = length z.world.envelopes in
      let items = first_items (source_shown z.world.plan s (source_at z.world s)) (asks_with u h) in
      let there : slice_get (happens z.world e).envelopes n ≡ Some (record { sender = s; to = x; packet = Plain (message.Batch u 0 items) }) =
      ap (λ (es : List Envelope). slice_get es n) sends ∙ get-last z.world.envelopes (answer_mail z.world s x v) ∙ ap {B = Option Envelope} (λ (y : Subscribe). Some (answer_mail z.world s x y)) same in
      inl (u, h, n, record { fresh = fresh; items = items; sent = there; waits = new-waits script z e n _ (omega arith) there })

  -- an event that is not its delivery
  pub asking-next : (t : ℕ) (u : Sess) (h : Reader) (n : ℕ) (z : Progress) (e : Event) → t ≤ 2 → MayGo script (IsSeen script x p s k) z e → is_delivery n e ≡ false → IsAsking script x p s k t u h n z →
      IsAsking script x p s k t u h n (next_progress script z e) ⊎ Replied script x p s t (next_progress script z e)
  asking-next t u h n z e few may other asking =
      elim (fresh-next t u h z e few may asking.fresh) [
        | inr whole ↦ inr (inr whole)
        | inl fresh ↦ by-source fresh (source-goes z.world may.here.stand.most x p s k may.here.stand.fine may.here.stand.line may.here.stand.within e may.quiet)
      ]
    where
      on : IsFresh script x p s t u h (next_progress script z e) → is_newer_than_kept u (sub_at (happens z.world e) s k).kept ≡ true → IsAsking script x p s k t u h n (next_progress script z e)
      on fresh newer = record { fresh = fresh; sent = still-sent z.world e n _ asking.sent; waits = waits-on script z e n may.quiet other asking.waits; newer = newer }

      by-source : IsFresh script x p s t u h (next_progress script z e) → SourceGoes z.world x s k (happens z.world e) → IsAsking script x p s k t u h n (next_progress script z e) ⊎ Replied script x p s t (next_progress script z e)
      by-source fresh (KeepsSub sub none) = inl (on fresh (ap (λ (y : Sub). is_newer_than_kept u y.kept) sub ∙ asking.newer))
      by-source fresh (Opens m g v at who back asks newer opened sends) =
          let st = may.here.stand in
          let q = asking.fresh.port in
          let sess : q.inlet.sess ≡ u = ap (λ (i : InletState). i.sess) asking.fresh.inlet in
          let old : is_newer v.sess u ≡ false = subst (λ (y : Sess). is_newer v.sess y ≡ false) sess (old-ask script.plan x p s k z.world st q asking.fresh.there m g v at who back asks) in
          (elim (same_sess v.sess u) as (λ b. same_sess v.sess u ≡ b → IsAsking script x p s k t u h n (next_progress script z e) ⊎ Replied script x p s t (next_progress script z e)) [
            | true ↦ λ same. inr (answered-now t u h z e fresh v (st.asked q u h m g v asking.fresh.there asking.fresh.inlet at who back asks same) sends)
            | false ↦ λ apart. inl (on fresh (ap (λ (y : Sub). is_newer_than_kept u y.kept) opened ∙ same-or-older u v.sess old apart))
          ]) refl

  -- the answer under way
  pub replying-next : (t : ℕ) (u : Sess) (h : Reader) (n : ℕ) (z : Progress) (e : Event) → t ≤ 2 → MayGo script (IsSeen script x p s k) z e → is_delivery n e ≡ false → IsReplying script x p s t u h n z →
      IsReplying script x p s t u h n (next_progress script z e) ⊎ HasWhole script x p (next_progress script z e)
  replying-next t u h n z e few may other replying =
      elim (fresh-next t u h z e few may replying.fresh) [
        | inr whole ↦ inr whole
        | inl fresh ↦ inl (record { fresh = fresh; items = replying.items; sent = still-sent z.world e n _ replying.sent; waits = waits-on script z e n may.quiet other replying.waits })
      ]

  -- every envelope may come
  pub comes-here : (z : Progress) (n : ℕ) (f : Envelope) → IsSeen script x p s k z → slice_get z.world.envelopes n ≡ Some f → comes z.world n ≡ true
  comes-here z n f seen there = let st = seen.stand in all-come z.world st.most n st.fine st.up (slice_get_within z.world.envelopes n f there)

  pub can-here : (z : Progress) (n : ℕ) (f : Envelope) → IsSeen script x p s k z → slice_get z.world.envelopes n ≡ Some f → can_come z.world f ≡ true
  can-here z n f seen there = sym (ap (λ (o : Option Envelope). may_come z.world o) there) ∙ comes-here z n f seen there

  -- the answer is taken
  pub replied : (t : ℕ) (u : Sess) (h : Reader) (n : ℕ) (z : Progress) → MayGo script (IsSeen script x p s k) z (Deliver n) → IsReplying script x p s t u h n z → HasWhole script x p (next_progress script z (Deliver n))
  replied t u h n z may replying =
      let st = may.here.stand in
      let fresh = replying.fresh in
      let f : Envelope = record { sender = s; to = x; packet = Plain (message.Batch u 0 replying.items) } in
      let r = took-now z.world st.most x p s k st.fine st.many st.line st.calm n f replying.sent (can-here z n f may.here replying.sent) refl refl may.next.stand.calm fresh.port fresh.there in
      let all = fresh.batches n f u 0 replying.items replying.sent refl refl refl (same_sess-self u) in
      let held : r.0.inlet.held ≡ all.1.0.after =
      ap (λ (y : InletState). y.held) r.2.inlet_is ∙ ap (λ (y : InletState). (take_batch y u 0 replying.items).after.held) fresh.inlet ∙ first-batch h u u replying.items all.1.0 (same_sess-self u) all.1.1 in
      record { port = r.0; there = r.1; bound = ap (λ (y : Reader). y.bound) held ∙ all.1.2; sure = ap is_sure held ∙ all.1.3 }

  -- the subscription is taken
  pub asked-now : (t : ℕ) (u : Sess) (h : Reader) (n : ℕ) (z : Progress) → t ≤ 2 → MayGo script (IsSeen script x p s k) z (Deliver n) → IsAsking script x p s k t u h n z → Replied script x p s t (next_progress script z (Deliver n))
  asked-now t u h n z few may asking =
      let st = may.here.stand in
      let f : Envelope = record { sender = x; to = s; packet = Plain (message.Subscribe (asks_with u h)) } in
      let a = answers-now z.world st.most x p s k st.fine st.line st.within n f (asks_with u h) asking.sent (can-here z n f may.here asking.sent) refl refl refl asking.newer in
      elim (fresh-next t u h z (Deliver n) few may asking.fresh) [
        | inr whole ↦ inr whole
        | inl fresh ↦ answered-now t u h z (Deliver n) fresh (asks_with u h) refl a.1
      ]

  -- what is on its way goes on
  pub replied-kept : (t : ℕ) → t ≤ 2 → Keeps script (IsSeen script x p s k) (Replied script x p s t)
  replied-kept t few z e may (inr whole) = inr (whole-kept script x p s k z e may whole)
  replied-kept t few z e may (inl (u, h, n, replying)) =
      (elim (is_delivery n e) as (λ b. is_delivery n e ≡ b → Replied script x p s t (next_progress script z e)) [
        | true ↦ λ d.
            let same = same-delivery n e may.quiet d in
            subst (λ (g : Event). Replied script x p s t (next_progress script z g)) (sym same) (inr (replied t u h n z (subst (MayGo script (IsSeen script x p s k) z) same may) replying))
        | false ↦ λ d. elim (replying-next t u h n z e few may d replying) [ inl on ↦ inl (u, h, n, on) | inr whole ↦ inr whole ]
      ]) refl

  -- a phase later the answer is as old as it may be
  pub later : (t : ℕ) (z : Progress) → Replied script x p s t z → Replied script x p s (t + 1) z
  later t z (inr whole) = inr whole
  later t z (inl (u, h, n, r)) =
      let budget = r.fresh.budget in
      inl (u, h, n, record { fresh = record { port = r.fresh.port; there = r.fresh.there; inlet = r.fresh.inlet; budget = omega (arith, budget); batches = r.fresh.batches }; items = r.items; sent = r.sent; waits = r.waits })

  pub coming-kept : Keeps script (IsSeen script x p s k) (Coming script x p s k)
  coming-kept z e may (inr replied_so) = inr (replied-kept 1 (omega arith) z e may replied_so)
  coming-kept z e may (inl (u, h, n, asking)) =
      (elim (is_delivery n e) as (λ b. is_delivery n e ≡ b → Coming script x p s k (next_progress script z e)) [
        | true ↦ λ d.
            let same = same-delivery n e may.quiet d in
            subst (λ (g : Event). Coming script x p s k (next_progress script z g)) (sym same) (inr (later 0 (next_progress script z (Deliver n)) (asked-now 0 u h n z (omega arith) (subst (MayGo script (IsSeen script x p s k) z) same may) asking)))
        | false ↦ λ d. elim (asking-next 0 u h n z e (omega arith) may d asking) [ inl on ↦ inl (u, h, n, on) | inr more ↦ inr (later 0 (next_progress script z e) more) ]
      ]) refl

  -- ---- the session is opened anew

  -- at a tick that finds a fault the port asks
  pub reopens : (z : Progress) (e : Event) (now : ℕ) (q r : Port) → e ≡ Tick x now → MayGo script (IsSeen script x p s k) z e → port_of z.world x p ≡ Some q → port_of (happens z.world e) x p ≡ Some r → HasTicked z.world x (Source s) (happens z.world e) q r →
      must_reopen (before_choice q) ≡ true → r.inlet ≡ with_next_session q.inlet → r.ticks ≡ 0 → Coming script x p s k (next_progress script z e)
  reopens z e now q r is may there after ticked must inlet ticks =
      let st = may.here.stand in
      let u = (with_next_session q.inlet).sess in
      let h = q.inlet.held in
      let count : tick_count x (next_progress script z e) ≡ 1 = ap (λ (d : Event). tick_count x (next_progress script z d)) is ∙ ap (λ (b : Bool). cond {A = ℕ} (b || has z.ticked x) 1 0) (eq-test x x refl) in
      let place = ticked.asks must in
      let choice : choice_at (before_choice q) ≡ 0 = sym (ap (λ (y : Port). y.chosen) ticked.port) ∙ first-here script x p s k (next_progress script z e) may.next r after in
      let to : nth 0 (senders_of z.world.plan (Source s)) (choice_at (before_choice q)) ≡ s = ap (λ (y : ℕ). nth 0 (senders_of z.world.plan (Source s)) y) choice ∙ st.line.first in
      let sent : slice_get (happens z.world e).envelopes place.0 ≡ Some (record { sender = x; to = s; packet = Plain (message.Subscribe (asks_with u h)) }) =
      place.1 ∙ ap {B = Option Envelope} (λ (y : ℕ). Some (record { sender = x; to = y; packet = Plain (message.Subscribe (asks_with u h)) })) to in
      let goes = source-goes z.world st.most x p s k st.fine st.line st.within e may.quiet in
      inl (
        u,
        h,
        place.0,
        record {
          fresh = record { port = r; there = after; inlet = inlet; budget = omega (arith, ticks, count); batches = λ j f v i items at sender to_x packet same. absurd (none-yet goes j f v i items at sender to_x packet same) };
          sent = sent;
          waits = new-waits script z e place.0 _ place.2 sent;
          newer = newer-now goes;
        },
      )
    where
      none-yet : SourceGoes z.world x s k (happens z.world e) → (j : ℕ) (f : Envelope) (v : Sess) (i : ℕ) (items : List Item) → slice_get (happens z.world e).envelopes j ≡ Some f → f.sender ≡ s → f.to ≡ x → f.packet ≡ Plain (message.Batch v i items) → same_sess v (record q.inlet.sess { number = q.inlet.sess.number + 1 }) ≡ true → ⊥
      none-yet (KeepsSub sub none) j f v i items at sender to packet same =
          never-next q.inlet.sess v (old-batch script.plan x p s k z.world may.here.stand q there j f v i items (none j f v i items at sender to packet) sender to packet) same
      none-yet (Opens m g asked was who back asks newer opened sends) j f v i items at sender to packet same =
          elim (get-added z.world.envelopes (answer_mail z.world s x asked) j f (sym (ap (λ (es : List Envelope). slice_get es j) sends) ∙ at)) [
            | inl old ↦ never-next q.inlet.sess v (old-batch script.plan x p s k z.world may.here.stand q there j f v i items old sender to packet) same
            | inr new ↦
                let it = batch-is (ap (λ (y : Envelope). y.packet) new.1 ∙ packet) in
                never-next q.inlet.sess v (subst (λ (y : Sess). is_newer y q.inlet.sess ≡ false) it.0 (old-ask script.plan x p s k z.world may.here.stand q there m g asked was who back asks)) same
          ]

      newer-than : (o : Option Sess) → ((v : Sess) → o ≡ Some v → is_newer v q.inlet.sess ≡ false) → is_newer_than_kept (record q.inlet.sess { number = q.inlet.sess.number + 1 }) o ≡ true
      newer-than None h = refl
      newer-than (Some v) h = next-newer q.inlet.sess v (h v refl)

      newer-now : SourceGoes z.world x s k (happens z.world e) → is_newer_than_kept (record q.inlet.sess { number = q.inlet.sess.number + 1 }) (sub_at (happens z.world e) s k).kept ≡ true
      newer-now (KeepsSub sub none) = ap (λ (y : Sub). is_newer_than_kept (record q.inlet.sess { number = q.inlet.sess.number + 1 }) y.kept) sub ∙ newer-than (sub_at z.world s k).kept (λ v kept. old-kept script.plan x p s k z.world may.here.stand q there v kept)
      newer-now (Opens m g asked was who back asks newer opened sends) =
          ap (λ (y : Sub). is_newer_than_kept (record q.inlet.sess { number = q.inlet.sess.number + 1 }) y.kept) opened ∙ next-newer q.inlet.sess asked.sess (old-ask script.plan x p s k z.world may.here.stand q there m g asked was who back asks)
