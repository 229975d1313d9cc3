-- A port that reads a fragment and misses something finds it out: a beat shows the fault, or three ticks bring no answer.
use Rattle.std.proofs.Common.{◌≡◌, ℕ, ◌+◌, ◌<◌, ◌≤◌, Bool, true, false, cond, not, ◌&&◌, ◌||◌, ◌==◌, nat_le, min, List, [], ◌∷◌, map, length, refl, sym, ap, subst, ◌∙◌, arith, Option, Some, None, slice_get, ◌⊎◌, inl, inr}
use Rattle.std.proofs.lemmas.List.{length-map}
use Rattle.dpc_lists.specs.Lists.{nth}
use Rattle.dpc_model.specs.Reading.{is_sure}
use Rattle.dpc_model.specs.Inlets.{InletState, is_newer, with_next_session, take_batch, after_tally}
use Rattle.dpc_model.specs.Actors.{role_of, inputs_of}
use Rattle.dpc_model.specs.Ports.{Port, sender_at, choice_at, must_reopen, port_after_choice, without_ended_marks}
use Rattle.dpc_model.specs.Replicas.{Watch, after_count, after_tick}
use Rattle.dpc_model.specs.Sessions.{is_newer_than_kept, no_session, tally_of}
use Rattle.dpc_model.specs.declared.actors.Role.TheVariants.{Node as IsNode}
use Rattle.dpc_model.specs.declared.sessions.Sub.{Sub}
use Rattle.dpc_model.specs.declared.messages.Beat.{Beat}
use Rattle.dpc_model.specs.declared.messages.Event.{Event}
use Rattle.dpc_model.specs.declared.messages.Event.TheVariants.{Deliver, Tick}
use Rattle.dpc_model.specs.declared.messages.Sess.{Sess}
use Rattle.dpc_model.specs.declared.messages.Message.TheVariants as message
use Rattle.dpc_model.specs.declared.plans.Plan.{Plan}
use Rattle.dpc_model.specs.declared.plans.StreamRef.TheVariants.{Frag}
use Rattle.dpc_model.specs.declared.scripts.Script.{Script}
use Rattle.node_model.specs.Mails.{Packet, Plain, SnapFor}
use Rattle.node_model.specs.Nodes.{PlainNode}
use Rattle.world_model.specs.Worlds.{World, Envelope, home_of, slot_of, happens}
use Rattle.world_model.specs.Schedules.{Progress, next_progress}
use Rattle.dpc_lists.proofs.Truths.{eq-of, eq-test, not-false, neither}
use Rattle.dpc_model.proofs.Alike.{same_sess-eq, newer-trans}
use Rattle.dpc_lists.proofs.Somes.{some-same}
use Rattle.law_granting.specs.Taken.{port_of}
use Rattle.world_model.specs.Events.{is_delivery}
use Rattle.law_settling.proofs.Faults.{IsBroken, IsAnswered, IsSlow, IsTold, told-of, below}
use Rattle.law_settling.proofs.Fresh.{HasWhole, new-waits, still-sent}
use Rattle.law_settling.proofs.Full.{tally-parts}
use Rattle.law_settling.proofs.PortExact.{port_after}
use Rattle.law_settling.proofs.PortGoing.{HasTicked, PortGoes}
use Rattle.law_settling.proofs.PortNow.{took-now, tick-now}
use Rattle.law_settling.proofs.Readings.{after-broken, after-answered, tally-says, none-says}
use Rattle.law_settling.proofs.Rules.{MayGo}
use Rattle.law_settling.proofs.Ticking.{before_choice}
use Rattle.law_settling.proofs.Waitings.{waits, waits-on}
use Rattle.law_settling_readers.proofs.Marks.{Mark, marks_of, free_in}
use Rattle.law_settling_readers.proofs.Reading.{replica_at, replicas_in, IsSeen, old-kept}
use Rattle.law_settling_readers.proofs.Serving.{ReplicaGoes, tells-now}
use Rattle.law_settling_readers.proofs.Freshly.{port-next, replica-event}
use Rattle.law_settling_readers.proofs.Reasking.{Asking, reopens}
use Rattle.law_settling_readers.proofs.Replied.{asked-node, can-here}
use Rattle.law_settling_readers.proofs.Turns.{Asked}

-- a port goes on: what it misses it still misses, an answered one stays so, and it reads the same replica
pub record IsOnward (q r : Port) : Type 0 where
  pub broken : q.inlet.broken ≡ true → r.inlet.broken ≡ true
  pub answered : q.inlet.answered ≡ true → r.inlet.answered ≡ true
  pub chosen : r.chosen ≡ q.chosen
  pub ticks : r.ticks ≡ q.ticks

-- or a tick of it was counted
pub record IsCounted (q r : Port) : Type 0 where
  pub whole : q.inlet.broken ≡ false
  pub waits : (not q.inlet.answered && nat_le 3 (min 3 (q.ticks + 1))) ≡ false
  pub inlet : r.inlet ≡ q.inlet
  pub chosen : r.chosen ≡ q.chosen
  pub ticks : r.ticks ≡ min 3 (q.ticks + 1)

-- it goes on, was counted, or asked anew
pub data PortSays (script : Script) (x p f k : ℕ) (next : Progress) (q r : Port) : Type 0 where
  GoesOn : IsOnward q r → PortSays script x p f k next q r
  Counts : IsCounted q r → PortSays script x p f k next q r
  Asks : Asked script x p f k (replicas_in script.plan f) next → PortSays script x p f k next q r

-- answered, while this replica is read
pub record IsAnsweredBy (x p c : ℕ) (z : Progress) : Type 0 where
  pub port : Port
  pub there : port_of z.world x p ≡ Some port
  pub answered : port.inlet.answered ≡ true
  pub chosen : port.chosen ≡ c

-- and a beat of that replica waits
pub record IsHearing (script : Script) (x p f k n c : ℕ) (b : Beat) (z : Progress) : Type 0 where
  pub answered : IsAnsweredBy x p c z
  pub low : c < replicas_in script.plan f
  pub sent : slice_get z.world.envelopes n ≡ Some (record { sender = replica_at script.plan f c; to = x; packet = Plain (message.Beat b) })
  pub waits : waits n z.waiting ≡ true
  pub told : (r : ℕ) (m : PlainNode) → role_of script.plan (replica_at script.plan f c) ≡ IsNode f r → (slot_of z.world (replica_at script.plan f c)).node ≡ Some m → IsTold b.tally (nth no_session m.subs k)

abbrev pub Hearing : Script → ℕ → ℕ → ℕ → ℕ → Progress → Type 0
Hearing script x p f k z = (n : ℕ) × (c : ℕ) × (b : Beat) × IsHearing script x p f k n c b z

-- ---- ports

-- what comes leaves a port onward
onward-after : (i : ℕ) (packet : Packet) (y : Port) → IsOnward y (port_after i packet y)
onward-after i (Plain (message.Batch u index items)) y =
    elim (y.chosen == i) as (λ c. IsOnward y (cond c (record y { inlet = (take_batch y.inlet u index items).after }) y)) [
      | true ↦ record { broken = after-broken (Plain (message.Batch u index items)) y.inlet; answered = after-answered (Plain (message.Batch u index items)) y.inlet; chosen = refl; ticks = refl }
      | false ↦ record { broken = λ h. h; answered = λ h. h; chosen = refl; ticks = refl }
    ]
onward-after i (Plain (message.Beat b)) y =
    record {
      broken = λ h. elim (i == y.chosen) as (λ c. (cond c (after_tally y.inlet b.tally) y.inlet).broken ≡ true) [ true ↦ after-broken (Plain (message.Beat b)) y.inlet h | false ↦ h ];
      answered = λ h. elim (i == y.chosen) as (λ c. (cond c (after_tally y.inlet b.tally) y.inlet).answered ≡ true) [ true ↦ h | false ↦ h ];
      chosen = refl;
      ticks = refl;
    }
onward-after i (Plain (message.Truncated u base)) y = record { broken = λ h. h; answered = λ h. h; chosen = refl; ticks = refl }
onward-after i (Plain (message.Subscribe asked)) y = record { broken = λ h. h; answered = λ h. h; chosen = refl; ticks = refl }
onward-after i (Plain (message.Ack j n)) y = record { broken = λ h. h; answered = λ h. h; chosen = refl; ticks = refl }
onward-after i (Plain (message.Ask j n)) y = record { broken = λ h. h; answered = λ h. h; chosen = refl; ticks = refl }
onward-after i (Plain (message.Grant j n)) y = record { broken = λ h. h; answered = λ h. h; chosen = refl; ticks = refl }
onward-after i (Plain (message.SnapAsk j n)) y = record { broken = λ h. h; answered = λ h. h; chosen = refl; ticks = refl }
onward-after i (SnapFor j try s) y = record { broken = λ h. h; answered = λ h. h; chosen = refl; ticks = refl }

-- a port whose tick opens nothing anew
counted-so : (q r : Port) → r ≡ port_after_choice (before_choice q) → must_reopen (before_choice q) ≡ false → IsCounted q r
counted-so q r is stays =
    let y = before_choice q in
    let one = neither (not (choice_at y == y.chosen) || q.inlet.broken) (not q.inlet.answered && nat_le 3 (min 3 (q.ticks + 1))) stays in
    let two = neither (not (choice_at y == y.chosen)) q.inlet.broken one.0 in
    record {
      whole = two.1;
      waits = one.1;
      inlet = ap (λ (z : Port). z.inlet) is ∙ ap (λ (b : Bool). cond b (with_next_session q.inlet) q.inlet) stays;
      chosen = ap (λ (z : Port). z.chosen) is ∙ eq-of (choice_at y) y.chosen (not-false (choice_at y == y.chosen) two.0);
      ticks = ap (λ (z : Port). z.ticks) is ∙ ap (λ (b : Bool). cond {A = ℕ} b 0 (min 3 (q.ticks + 1))) stays;
    }

-- no more replicas are free of marks than there are
free-few : (ms : List Mark) → free_in ms ≤ length ms
free-few [] = omega arith
free-few (None ∷ ms) = let rest = free-few ms in omega (arith, rest)
free-few (Some b ∷ ms) = let rest = free-few ms in omega (arith, rest)

-- a session that is newer than what is kept is newer than what was told
newer-told : (l : Sess × ℕ) (sub : Sub) (u : Sess) → IsTold (Some l) sub → is_newer_than_kept u sub.kept ≡ true → is_newer u l.0 ≡ true
newer-told l sub u (inl still) newer = let kept = (tally-parts sub l.0 l.1 still).0 in sym (ap (λ (o : Option Sess). is_newer_than_kept u o) kept) ∙ newer
newer-told l sub u (inr past) newer = newer-trans u past.0 l.0 (sym (ap (λ (o : Option Sess). is_newer_than_kept u o) past.1) ∙ newer) past.2

-- what was told of a session still holds, or a newer one is kept
told-next : (w : World) (home : _) (x a k : ℕ) (n m : PlainNode) (next : World) (tally : Option (Sess × ℕ)) → ReplicaGoes w home x a k n m next → IsTold tally (nth no_session n.subs k) → IsTold tally (nth no_session m.subs k)
told-next w home x a k n m next None goes told = tt
told-next w home x a k n m next (Some l) (ReplicaGoes.KeepsSub same none) told = subst (λ (y : Sub). IsTold (Some l) y) (sym same) told
told-next w home x a k n m next (Some l) (ReplicaGoes.Opens j g v asked opened sends) told = inr (v.sess, ap (λ (y : Sub). y.kept) opened, newer-told l (nth no_session n.subs k) v.sess told asked.newer)
told-next w home x a k n m next (Some l) (ReplicaGoes.Refuses j g v asked low refused sends) told = inr (v.sess, ap (λ (y : Sub). y.kept) refused, newer-told l (nth no_session n.subs k) v.sess told asked.newer)

module _ (script : Script) (x p f k : ℕ) where
  abbrev Goes : Progress → Event → Type 0
  Goes z e = MayGo script (IsSeen script x p f k) z e

  -- it asked anew, or was answered since
  abbrev pub AskedAnew : Progress → Type 0
  AskedAnew z = Asked script x p f k (replicas_in script.plan f) z

  -- ---- the port

  -- what a tick of the reader does
  ticked-says : (z : Progress) (e : Event) (clock : ℕ) (q r : Port) → e ≡ Tick x clock → Goes z e → port_of z.world x p ≡ Some q → port_of (happens z.world e) x p ≡ Some r → HasTicked z.world x (Frag f) (happens z.world e) q r → IsCounted q r ⊎ AskedAnew (next_progress script z e)
  ticked-says z e clock q r event may there now ticked =
      (elim (must_reopen (before_choice q)) as (λ b. must_reopen (before_choice q) ≡ b → IsCounted q r ⊎ AskedAnew (next_progress script z e)) [
        | false ↦ λ stays. inl (counted-so q r ticked.port stays)
        | true ↦ λ must. let asking = reopens script x p f k z e clock q r event may there now ticked must in inr (inl (anew asking))
      ]) refl
    where
      few : free_in (marks_of (before_choice q).watches) ≤ replicas_in script.plan f
      few =
          let st = may.here.stand in
          let free = free-few (marks_of (before_choice q).watches) in
          let marks = length-map (before_choice q).watches (λ (w : Watch). w.truncated) in
          let one = length-map (map (after_count (length q.inlet.held.stable)) q.watches) after_tick in
          let two = length-map q.watches (after_count (length q.inlet.held.stable)) in
          let many : length q.watches ≡ replicas_in script.plan f = (st.watched q there).1 ∙ ap (λ (pl : Plan). replicas_in pl f) st.of_plan in
          omega (arith, free, marks, one, two, many)

      anew : Asking script x p f k 0 (free_in (marks_of (before_choice q).watches)) (next_progress script z e) → Asking script x p f k 0 (replicas_in script.plan f) (next_progress script z e)
      anew (u, h, c, ms, n, it, free) = let most = few in (u, h, c, ms, n, it, omega (arith, free, most))

  says : (z : Progress) (e : Event) → Goes z e → (q : Port) → port_of z.world x p ≡ Some q → (r : Port) × (port_of (happens z.world e) x p ≡ Some r) × PortSays script x p f k (next_progress script z e) q r
  says z e may q there = let n = port-next script x p f k z e may q there in (n.0, n.1, by-goes n.0 n.1 n.2)
    where
      by-goes : (r : Port) → port_of (happens z.world e) x p ≡ Some r → PortGoes z.world x p (Frag f) e (happens z.world e) q r → PortSays script x p f k (next_progress script z e) q r
      by-goes r now (PortGoes.Rests (inl is)) = GoesOn (subst (λ (y : Port). IsOnward q y) (sym is) (record { broken = λ h. h; answered = λ h. h; chosen = refl; ticks = refl }))
      by-goes r now (PortGoes.Rests (inr is)) = GoesOn (subst (λ (y : Port). IsOnward q y) (sym is) (record { broken = λ h. h; answered = λ h. h; chosen = refl; ticks = refl }))
      by-goes r now (PortGoes.TakesIn j i g event at to place is lost) =
          let on = onward-after i g.packet (without_ended_marks q) in
          GoesOn (subst (λ (y : Port). IsOnward q y) (sym is) (record { broken = on.broken; answered = on.answered; chosen = on.chosen; ticks = on.ticks }))
      by-goes r now (PortGoes.TicksOn clock event ticked) = elim (ticked-says z e clock q r event may there now ticked) [ inl counted ↦ Counts counted | inr anew ↦ Asks anew ]

  -- a tick that may come is not void
  tick-says : (z : Progress) (now : ℕ) → Goes z (Tick x now) → (q : Port) → port_of z.world x p ≡ Some q → (r : Port) × (port_of (happens z.world (Tick x now)) x p ≡ Some r) × (IsCounted q r ⊎ AskedAnew (next_progress script z (Tick x now)))
  tick-says z now may q there =
      let st = may.here.stand in
      let r = tick-now z.world st.most x p (Frag f) st.fine st.many st.line.port st.calm now (may.here.clocked x now may.may) may.next.stand.calm q there in
      (r.0, r.1, ticked-says z (Tick x now) now q r.0 refl may there r.1 r.2)

  -- ---- a broken port

  pub broken-next : (z : Progress) (e : Event) → Goes z e → IsBroken x p z → IsBroken x p (next_progress script z e) ⊎ AskedAnew (next_progress script z e)
  broken-next z e may h = let n = says z e may h.port h.there in by-says n.0 n.1 n.2
    where
      by-says : (r : Port) → port_of (happens z.world e) x p ≡ Some r → PortSays script x p f k (next_progress script z e) h.port r → IsBroken x p (next_progress script z e) ⊎ AskedAnew (next_progress script z e)
      by-says r now (GoesOn on) = inl (record { port = r; there = now; broken = on.broken h.broken })
      by-says r now (Counts counted) = let clash : true ≡ false = sym h.broken ∙ counted.whole in cc
      by-says r now (Asks anew) = inr anew

  pub broken-ticks : (z : Progress) (now : ℕ) → Goes z (Tick x now) → IsBroken x p z → AskedAnew (next_progress script z (Tick x now))
  broken-ticks z now may h =
      let n = tick-says z now may h.port h.there in
      elim n.2 [
        | inl counted ↦ let clash : true ≡ false = sym h.broken ∙ counted.whole in cc
        | inr anew ↦ anew
      ]

  -- ---- an answered port

  pub answered-next : (c : ℕ) (z : Progress) (e : Event) → Goes z e → IsAnsweredBy x p c z → IsAnsweredBy x p c (next_progress script z e) ⊎ AskedAnew (next_progress script z e)
  answered-next c z e may h = let n = says z e may h.port h.there in by-says n.0 n.1 n.2
    where
      by-says : (r : Port) → port_of (happens z.world e) x p ≡ Some r → PortSays script x p f k (next_progress script z e) h.port r → IsAnsweredBy x p c (next_progress script z e) ⊎ AskedAnew (next_progress script z e)
      by-says r now (GoesOn on) = inl (record { port = r; there = now; answered = on.answered h.answered; chosen = on.chosen ∙ h.chosen })
      by-says r now (Counts counted) = inl (record { port = r; there = now; answered = ap (λ (i : InletState). i.answered) counted.inlet ∙ h.answered; chosen = counted.chosen ∙ h.chosen })
      by-says r now (Asks anew) = inr anew

  -- ---- a port that is not answered

  pub slow-next : (i : ℕ) → i ≤ 3 → (z : Progress) (e : Event) → Goes z e → IsSlow x p i z → IsSlow x p i (next_progress script z e) ⊎ (IsAnswered x p (next_progress script z e) ⊎ AskedAnew (next_progress script z e))
  slow-next i few z e may h = let n = says z e may h.port h.there in by-says n.0 n.1 n.2
    where
      by-answer : (r : Port) → port_of (happens z.world e) x p ≡ Some r → i ≤ r.ticks → IsSlow x p i (next_progress script z e) ⊎ (IsAnswered x p (next_progress script z e) ⊎ AskedAnew (next_progress script z e))
      by-answer r now low =
          (elim r.inlet.answered as (λ b. r.inlet.answered ≡ b → IsSlow x p i (next_progress script z e) ⊎ (IsAnswered x p (next_progress script z e) ⊎ AskedAnew (next_progress script z e))) [
            | true ↦ λ a. inr (inl (record { port = r; there = now; answered = a }))
            | false ↦ λ a. inl (record { port = r; there = now; answered = a; ticks = low })
          ]) refl

      by-says : (r : Port) → port_of (happens z.world e) x p ≡ Some r → PortSays script x p f k (next_progress script z e) h.port r → IsSlow x p i (next_progress script z e) ⊎ (IsAnswered x p (next_progress script z e) ⊎ AskedAnew (next_progress script z e))
      by-says r now (GoesOn on) = let same = on.ticks in let low = h.ticks in by-answer r now (omega (arith, same, low))
      by-says r now (Counts counted) = let more = counted.ticks in let low = h.ticks in by-answer r now (omega (arith, more, low, few))
      by-says r now (Asks anew) = inr (inr anew)

  -- at its tick one more is counted, and the third opens the session anew
  pub slow-ticks : (i : ℕ) (z : Progress) (now : ℕ) → Goes z (Tick x now) → IsSlow x p i z → ((i + 1 ≤ 2) × IsSlow x p (i + 1) (next_progress script z (Tick x now))) ⊎ AskedAnew (next_progress script z (Tick x now))
  slow-ticks i z now may h =
      let n = tick-says z now may h.port h.there in
      elim n.2 [
        | inr anew ↦ inr anew
        | inl counted ↦
            let low = h.ticks in
            let more = counted.ticks in
            let few : nat_le 3 (min 3 (h.port.ticks + 1)) ≡ false = sym (ap (λ (b : Bool). not b && nat_le 3 (min 3 (h.port.ticks + 1))) h.answered) ∙ counted.waits in
            let early : h.port.ticks + 1 ≤ 2 = below h.port.ticks few in
            inl (omega (arith, early, low), record { port = n.0; there = n.1; answered = ap (λ (j : InletState). j.answered) counted.inlet ∙ h.answered; ticks = omega (arith, more, low, early) })
      ]

  -- ---- a beat

  pub hearing-next : (n c : ℕ) (b : Beat) (z : Progress) (e : Event) → Goes z e → is_delivery n e ≡ false → IsHearing script x p f k n c b z → IsHearing script x p f k n c b (next_progress script z e) ⊎ AskedAnew (next_progress script z e)
  hearing-next n c b z e may other h =
      elim (answered-next c z e may h.answered) [
        | inr anew ↦ inr anew
        | inl answered ↦ inl (record { answered = answered; low = h.low; sent = still-sent z.world e n _ h.sent; waits = waits-on script z e n may.quiet other h.waits; told = told })
      ]
    where
      told : (r : ℕ) (m : PlainNode) → role_of script.plan (replica_at script.plan f c) ≡ IsNode f r → (slot_of (happens z.world e) (replica_at script.plan f c)).node ≡ Some m → IsTold b.tally (nth no_session m.subs k)
      told r m role up =
          let old = asked-node script x p f k z may.here c h.low in
          let goes = replica-event script x p f k z e may (replica_at script.plan f c) old.0 old.1 old.2 old.3 in
          let role_there : role_of script.plan (replica_at script.plan f c) ≡ IsNode f old.0 = ap (λ (pl : Plan). role_of pl (replica_at script.plan f c)) (sym may.here.stand.of_plan) ∙ old.2 in
          subst (λ (y : PlainNode). IsTold b.tally (nth no_session y.subs k)) (some-same goes.0 m (sym goes.1 ∙ up))
          (told-next z.world (home_of z.world.plan (f, old.0)) x (replica_at script.plan f c) k old.1 goes.0 (happens z.world e) b.tally goes.2 (h.told old.0 old.1 role_there old.3))

  -- a beat that comes shows the fault, or there is none
  pub heard-now : (n c : ℕ) (b : Beat) (z : Progress) → Goes z (Deliver n) → IsHearing script x p f k n c b z → IsBroken x p (next_progress script z (Deliver n)) ⊎ HasWhole script x p (next_progress script z (Deliver n))
  heard-now n c b z may h =
      let st = may.here.stand in
      let q = h.answered.port in
      let g : Envelope = record { sender = replica_at script.plan f c; to = x; packet = Plain (message.Beat b) } in
      let low_w : c < replicas_in z.world.plan f = subst (λ (pl : Plan). c < replicas_in pl f) (sym st.of_plan) h.low in
      let place : sender_at z.world.plan (inputs_of z.world.plan (role_of z.world.plan x)) g.sender ≡ Some (p, c) =
      ap (λ (pl : Plan). sender_at z.world.plan (inputs_of z.world.plan (role_of z.world.plan x)) (replica_at pl f c)) (sym st.of_plan) ∙ st.line.sender c low_w in
      let r = took-now z.world st.most x p (Frag f) st.fine st.many st.line.port st.calm n c g h.sent (can-here script x p f k z n g may.here h.sent) refl place may.next.stand.calm q h.answered.there in
      let inlet : r.0.inlet ≡ after_tally q.inlet b.tally = ap (λ (y : Port). y.inlet) r.2.0 ∙ ap (λ (d : Bool). cond d (after_tally q.inlet b.tally) q.inlet) (eq-test c q.chosen (sym h.answered.chosen)) in
      by-tally b.tally r.0 r.1 inlet refl
    where
      by-tally : (l : Option (Sess × ℕ)) (r : Port) → port_of (happens z.world (Deliver n)) x p ≡ Some r → r.inlet ≡ after_tally h.answered.port.inlet b.tally → b.tally ≡ l → IsBroken x p (next_progress script z (Deliver n)) ⊎ HasWhole script x p (next_progress script z (Deliver n))
      by-tally None r now inlet is =
          inl (record { port = r; there = now; broken = ap (λ (i : InletState). i.broken) inlet ∙ ap (λ (o : Option (Sess × ℕ)). (after_tally h.answered.port.inlet o).broken) is ∙ none-says h.answered.port.inlet h.answered.answered })
      by-tally (Some l) r now inlet is =
          let st = may.here.stand in
          let q = h.answered.port in
          let linked : r.inlet ≡ after_tally q.inlet (Some l) = inlet ∙ ap (λ (o : Option (Sess × ℕ)). after_tally q.inlet o) is in
          elim (tally-says q.inlet l.0 l.1 h.answered.answered) [
            | inl broken ↦ inl (record { port = r; there = now; broken = ap (λ (i : InletState). i.broken) linked ∙ broken })
            | inr says ↦
                let sess : l.0 ≡ q.inlet.sess = same_sess-eq l.0 q.inlet.sess says.1 in
                let node = asked-node script x p f k z may.here c h.low in
                let role_there : role_of script.plan (replica_at script.plan f c) ≡ IsNode f node.0 = ap (λ (pl : Plan). role_of pl (replica_at script.plan f c)) (sym st.of_plan) ∙ node.2 in
                let at : replica_at script.plan f c ≡ replica_at z.world.plan f c = ap (λ (pl : Plan). replica_at pl f c) (sym st.of_plan) in
                let at_chosen : replica_at script.plan f c ≡ replica_at z.world.plan f q.chosen = at ∙ ap (λ (i : ℕ). replica_at z.world.plan f i) (sym h.answered.chosen) in
                let low_w : c < replicas_in z.world.plan f = subst (λ (pl : Plan). c < replicas_in pl f) (sym st.of_plan) h.low in
                elim (subst (λ (o : Option (Sess × ℕ)). IsTold o (nth no_session node.1.subs k)) is (h.told node.0 node.1 role_there node.3)) [
                  | inl still ↦
                      let link_is : tally_of (nth no_session node.1.subs k) ≡ Some (q.inlet.sess, l.1) = still ∙ ap {B = Option (Sess × ℕ)} (λ (y : Sess). Some (y, l.1)) sess in
                      let all = st.took q node.0 l.1 node.1 h.answered.there says.0 (subst (λ (a : ℕ). role_of z.world.plan a ≡ IsNode f node.0) at_chosen node.2) (subst (λ (a : ℕ). (slot_of z.world a).node ≡ Some node.1) at_chosen node.3) link_is says.2 in
                      inr (record { port = r; there = now; bound = ap (λ (i : InletState). i.held.bound) linked ∙ all.0 ∙ ap (λ (pl : Plan). pl.end) st.of_plan; sure = ap (λ (i : InletState). is_sure i.held) linked ∙ all.1 })
                  | inr past ↦
                      let old = old-kept script.plan x p f k z.world st q h.answered.there c node.0 node.1 past.0 low_w (subst (λ (a : ℕ). role_of z.world.plan a ≡ IsNode f node.0) at node.2) (subst (λ (a : ℕ). (slot_of z.world a).node ≡ Some node.1) at node.3) past.1 in
                      let new : is_newer past.0 q.inlet.sess ≡ true = subst (λ (y : Sess). is_newer past.0 y ≡ true) sess past.2 in
                      let clash : true ≡ false = sym new ∙ old in cc
                ]
          ]

  -- at its tick the replica that is read sends a beat
  pub replica-beats : (c : ℕ) (z : Progress) (now : ℕ) → Goes z (Tick (replica_at script.plan f c) now) → c < replicas_in script.plan f → IsAnsweredBy x p c z → Hearing script x p f k (next_progress script z (Tick (replica_at script.plan f c) now)) ⊎ AskedAnew (next_progress script z (Tick (replica_at script.plan f c) now))
  replica-beats c z now may low h =
      let st = may.here.stand in
      let a = replica_at script.plan f c in
      let node = asked-node script x p f k z may.here c low in
      let t = tells-now z.world st.most x f node.0 a k st.fine node.2 st.line.placed st.line.low st.line.back node.1 node.3 (st.done a node.0 node.1 node.2 node.3) now (may.here.clocked a now may.may) in
      elim (answered-next c z (Tick a now) may h) [
        | inr anew ↦ inr anew
        | inl answered ↦ inl (
          t.3.0,
          c,
          record { inc = t.0.grants.inc; state = t.0.state; recovering = t.0.recovering; over = t.0.grants.over; tally = tally_of (nth no_session node.1.subs k) },
          record {
            answered = answered;
            low = low;
            sent = t.3.1;
            waits = new-waits script z (Tick a now) t.3.0 _ t.3.2 t.3.1;
            told = λ r m role up. told-of (tally_of (nth no_session node.1.subs k)) (nth no_session m.subs k)
                (ap (λ (y : PlainNode). tally_of (nth no_session y.subs k)) (sym (some-same t.0 m (sym t.1 ∙ up))) ∙ ap (λ (y : Sub). tally_of y) t.2);
          },
        )
      ]
