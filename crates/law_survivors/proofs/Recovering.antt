-- While a replica recovers its senders forget no more than what another one of its fragment, which stands whole, had processed before.
use Rattle.std.proofs.Common.{◌≡◌, ℕ, ◌+◌, ◌<◌, ◌≤◌, true, List, [], ◌∷◌, ◌++◌, length, refl, sym, ap, subst, ◌∙◌, arith, Option, Some, None, slice_get, ◌⊎◌, inl, inr}
use Rattle.std.proofs.lemmas.List.{append-nil, append_assoc}
use Rattle.dpc_lists.specs.Lists.{nth}
use Rattle.dpc_lists.proofs.Elements.{nth-past}
use Rattle.dpc_lists.proofs.Each.{Each}
use Rattle.dpc_lists.proofs.Somes.{some-same}
use Rattle.dpc_lists.proofs.Truths.{true-not-false}
use Rattle.dpc_model.specs.Actors.{role_of, inputs_of}
use Rattle.dpc_model.specs.Sessions.{Acked}
use Rattle.dpc_model.specs.declared.actors.Role.{Role}
use Rattle.dpc_model.specs.declared.actors.Role.TheVariants.{Node as IsNode}
use Rattle.dpc_model.specs.declared.messages.Event.{Event}
use Rattle.dpc_model.specs.declared.messages.Event.TheVariants.{Phase, Tick}
use Rattle.dpc_model.specs.declared.messages.Message.TheVariants as message
use Rattle.dpc_model.specs.declared.plans.Plan.{Plan}
use Rattle.dpc_model.specs.declared.plans.StreamRef.{StreamRef}
use Rattle.dpc_model.specs.declared.plans.StreamRef.TheVariants.{Frag}
use Rattle.dpc_model.specs.declared.scripts.Script.{Script}
use Rattle.dpc_model.proofs.Numbers.{le-or}
use Rattle.node_model.specs.Mails.{Packet, Plain, SnapFor, Stepped}
use Rattle.node_model.specs.Nodes.{Home, PlainNode, own_readers}
use Rattle.node_model.specs.NodeSteps.{packet_step, mill_step, tick_step}
use Rattle.world_model.specs.Worlds.{World, Envelope, Slot, home_of, slot_of, happens, run}
use Rattle.world_model.specs.Schedules.{Progress, next_progress, progress, is_live_so_far}
use Rattle.world_model.specs.Steady.{OpensWell}
use Rattle.world_model.proofs.Running.{run-push}
use Rattle.law_safety.proofs.Law.{run-good}
use Rattle.law_safety.proofs.Growing.{run-plan}
use Rattle.law_granting.proofs.Slots.{got-sent}
use Rattle.law_granting.proofs.Saying.{own-delivered, own-milled, own-ticked}
use Rattle.law_granting.proofs.Prefix.{IsReader}
use Rattle.law_readers.specs.Newest.{IsPortOf}
use Rattle.law_readers.specs.Settling.{CanSettle}
use Rattle.law_readers.proofs.Counting.{LowPacket}
use Rattle.law_schedules.proofs.Journals.{progress-run, prefix-live}
use Rattle.law_settling.proofs.Along.{every-behind, progress-push, live-may, running-along}
use Rattle.law_settling.proofs.Ports.{node-there}
use Rattle.law_settling.proofs.Promises.{IsOpenAt, open-of}
use Rattle.law_settling.proofs.Splitting.{stays}
use Rattle.law_calm.proofs.Ticking.{AcksOf, Acks, packet-acks, milled-acks}
use Rattle.law_survivors.specs.Spared.{is_spared, done_by, AreKeptFor, KeptWhileRecovering}
use Rattle.law_survivors.proofs.Doing.{HasStepped, ReplicaDoes, replica-does}
use Rattle.law_survivors.proofs.Levels.{IsLevelIn, level-next}
use Rattle.law_survivors.proofs.Broken.{OfNone, MailOfNone, StillRecovers, GoesOn, tick-splits}
use Rattle.law_survivors.proofs.Spared.{reads-it}
use Rattle.law_survivors.proofs.Running.{spared-at}
use Rattle.law_survivors.proofs.Acked.{acked-done}
use Rattle.law_survivors.proofs.Presently.{waited, waits-present}
use Rattle.law_survivors.proofs.Laws.{snapshots-suffice, know-no-more}

-- ---- an event that is no tick of a, or behind which a recovers

module _ (w next : World) (d : Event) (a g r : ℕ) (does : ReplicaDoes w (home_of w.plan (g, r)) a d next) (n m : PlainNode) (up : (slot_of w a).node ≡ Some n) (now : (slot_of next a).node ≡ Some m) (silent : (clock : ℕ) → d ≡ Tick a clock → m.recovering ≡ true) where
  abbrev Here : Home
  Here = home_of w.plan (g, r)

  -- an acknowledgement is old, or of nothing
  abbrev IsOldOrNone : ℕ → Envelope → ℕ → Type 0
  IsOldOrNone k e count = (slice_get w.envelopes k ≡ Some e) ⊎ (count ≡ 0)

  by-step : (v : PlainNode) (t : Stepped PlainNode) → HasStepped w next a v t → Each (Acks Here (record v { recovering = true })) t.sends → (k i count : ℕ) (e : Envelope) → slice_get next.envelopes k ≡ Some e → e.packet ≡ Plain (message.Ack i count) → IsOldOrNone k e count
  by-step v t s each k i count e there packet =
      elim (got-sent (Acks Here (record v { recovering = true })) a w.envelopes t.sends k e each (sym (ap (λ (es : List Envelope). slice_get es k) s.sends) ∙ there)) [
        | inl old ↦ inl old
        | inr (y, of, acks) ↦
            let z : PlainNode = record v { recovering = true } in
            let is = subst (λ (q : Packet). AcksOf Here z e.to q) packet (subst (λ (q : Envelope). AcksOf Here z q.to q.packet) (sym of) acks) in
            inr is.count_is
      ]

  by-tick : (v : PlainNode) (t : Stepped PlainNode) → HasStepped w next a v t → Each (MailOfNone Here) t.sends → (k i count : ℕ) (e : Envelope) → slice_get next.envelopes k ≡ Some e → e.packet ≡ Plain (message.Ack i count) → IsOldOrNone k e count
  by-tick v t s each k i count e there packet =
      elim (got-sent (MailOfNone Here) a w.envelopes t.sends k e each (sym (ap (λ (es : List Envelope). slice_get es k) s.sends) ∙ there)) [
        | inl old ↦ inl old
        | inr (y, of, none) ↦ inr (subst (λ (q : Packet). OfNone Here q) packet (subst (λ (q : Envelope). OfNone Here q.packet) (sym of) none))
      ]

  pub none-acked : (k i count : ℕ) (e : Envelope) → slice_get next.envelopes k ≡ Some e → e.sender ≡ a → e.packet ≡ Plain (message.Ack i count) → IsOldOrNone k e count
  none-acked = by-does does
    where
      split : (v : PlainNode) (clock : ℕ) → d ≡ Tick a clock → HasStepped w next a v (tick_step Here clock v) → StillRecovers Here (tick_step Here clock v) v ⊎ GoesOn Here (tick_step Here clock v) v → (k i count : ℕ) (e : Envelope) → slice_get next.envelopes k ≡ Some e → e.packet ≡ Plain (message.Ack i count) → IsOldOrNone k e count
      split v clock event s (inl y) k i count e there packet = by-tick v (tick_step Here clock v) s y.acks k i count e there packet
      split v clock event s (inr y) k i count e there packet = absurd (true-not-false (sym (silent clock event) ∙ ap (λ (q : PlainNode). q.recovering) (some-same m (tick_step Here clock v).after (sym now ∙ s.now)) ∙ y.whole))

      by-does : ReplicaDoes w Here a d next → (k i count : ℕ) (e : Envelope) → slice_get next.envelopes k ≡ Some e → e.sender ≡ a → e.packet ≡ Plain (message.Ack i count) → IsOldOrNone k e count
      by-does (ReplicaDoes.Rests slot sends) k i count e there mine packet = inl (sends k e there mine)
      by-does (ReplicaDoes.Falls crash down last sends) k i count e there mine packet = inl (sends k e there mine)
      by-does (ReplicaDoes.Starts j newer down begun last sends) k i count e there mine packet = inl (sends k e there mine)
      by-does (ReplicaDoes.Takes j f v event at can to s) k i count e there mine packet = by-step v (packet_step Here f.sender f.packet v) s (packet-acks Here (record v { recovering = true }) f.sender f.packet v) k i count e there packet
      by-does (ReplicaDoes.Ticks clock v event s) k i count e there mine packet = split v clock event s (tick-splits Here clock v) k i count e there packet
      by-does (ReplicaDoes.Mills j v s) k i count e there mine packet = by-step v (mill_step Here j v) s (milled-acks Here (record v { recovering = true }) j v) k i count e there packet

-- an incarnation goes on
module _ (w next : World) (d : Event) (a g r : ℕ) (does : ReplicaDoes w (home_of w.plan (g, r)) a d next) (n m : PlainNode) (up : (slot_of w a).node ≡ Some n) (now : (slot_of next a).node ≡ Some m) where
  abbrev There : Home
  There = home_of w.plan (g, r)

  pub inc-still : m.grants.inc ≡ n.grants.inc
  inc-still = by-does does
    where
      stepped : (v : PlainNode) (t : Stepped PlainNode) → HasStepped w next a v t → t.after.grants.inc ≡ v.grants.inc → m.grants.inc ≡ n.grants.inc
      stepped v t s inc = ap (λ (y : PlainNode). y.grants.inc) (some-same m t.after (sym now ∙ s.now)) ∙ inc ∙ ap (λ (y : PlainNode). y.grants.inc) (some-same v n (sym s.up ∙ up))

      by-does : ReplicaDoes w There a d next → m.grants.inc ≡ n.grants.inc
      by-does (ReplicaDoes.Rests slot sends) = ap (λ (y : PlainNode). y.grants.inc) (some-same m n (sym now ∙ ap (λ (z : Slot). z.node) slot ∙ up))
      by-does (ReplicaDoes.Falls crash down last sends) = let clash : ◌≡◌ {A = Option PlainNode} None (Some m) = sym down ∙ now in cc
      by-does (ReplicaDoes.Starts j newer down begun last sends) = let clash : ◌≡◌ {A = Option PlainNode} None (Some n) = sym down ∙ up in cc
      by-does (ReplicaDoes.Takes j f v event at can to s) = stepped v (packet_step There f.sender f.packet v) s (own-delivered There f.sender f.packet v).grants.inc
      by-does (ReplicaDoes.Ticks clock v event s) = stepped v (tick_step There clock v) s (own-ticked There clock v).grants.inc
      by-does (ReplicaDoes.Mills j v s) = stepped v (mill_step There j v) s (own-milled There j v).grants.inc

-- ---- from a point on

module _ (script : Script) (events : List Event) (can : CanSettle script) (live : is_live_so_far script events ≡ true) (well : OpensWell script events) (a g r : ℕ) (role_a : role_of script.plan a ≡ IsNode g r) where
  abbrev plan : Plan
  plan = script.plan

  pub open-at : (done rest : List Event) → events ≡ done ++ rest → length script.phases + 4 ≤ (progress script done).phase → IsOpenAt script (progress script done)
  open-at done rest is far = open-of script can (progress script done) (running-along script events live well done rest is (omega (arith, far)))

  pub node-at : (done rest : List Event) → events ≡ done ++ rest → length script.phases + 4 ≤ (progress script done).phase → (m : PlainNode) × ((slot_of (run plan done) a).node ≡ Some m)
  node-at done rest is far =
      let here = open-at done rest is far in
      let node = node-there (progress script done).world here.most a g r here.fine here.up (ap (λ (pl : Plan). role_of pl a) here.of_plan ∙ role_a) in
      (node.0, ap (λ (w : World). (slot_of w a).node) (sym (progress-run script done)) ∙ node.1)

  -- a phase that is late stays so
  pub later-on : (done rest : List Event) (e : Event) → events ≡ done ++ e ∷ rest → length script.phases + 4 ≤ (progress script done).phase → length script.phases + 4 ≤ (progress script (done ++ e ∷ [])).phase
  later-on done rest e is far =
      let follows = live-may script events done rest e live is in
      subst (λ (y : Progress). length script.phases + 4 ≤ y.phase) (sym (progress-push script done e)) (elim (stays script (progress script done) e follows) [
        | inl same ↦ omega (arith, same, far)
        | inr o ↦ subst (λ (c : Event). length script.phases + 4 ≤ (next_progress script (progress script done) c).phase) (sym o.0) (omega (arith, far))
      ])

  -- a goes on in its incarnation
  pub inc-on : (done rest : List Event) (e : Event) → events ≡ done ++ e ∷ rest → length script.phases + 4 ≤ (progress script done).phase → (n m : PlainNode) → (slot_of (run plan done) a).node ≡ Some n → (slot_of (happens (run plan done) e) a).node ≡ Some m → m.grants.inc ≡ n.grants.inc
  inc-on done rest e is far n m up now =
      let w = run plan done in
      let good = run-good plan done can.plan in
      let role_w : role_of w.plan a ≡ IsNode g r = ap (λ (pl : Plan). role_of pl a) (run-plan plan done) ∙ role_a in
      inc-still w (happens w e) e a g r (replica-does w (1 + length done) good.fine a g r role_w e) n m up now

  -- at a port
  module _ (p f : ℕ) (port : IsPortOf script.plan a p (Frag f)) where
    -- the level of what a acknowledges in one incarnation
    abbrev pub LevelIn : ℕ → ℕ → World → Type 0
    LevelIn inc count w = IsLevelIn (λ (i : ℕ). i ≡ inc) plan a f count w

    -- the level over an event that is no tick of a, or behind which a recovers
    pub level-on : (inc count more : ℕ) → count ≤ more → (done rest : List Event) (e : Event) → events ≡ done ++ e ∷ rest → length script.phases + 4 ≤ (progress script done).phase → (n m : PlainNode) → (slot_of (run plan done) a).node ≡ Some n → (slot_of (happens (run plan done) e) a).node ≡ Some m →
        ((clock : ℕ) → e ≡ Tick a clock → m.recovering ≡ true) → n.grants.inc ≡ inc → LevelIn inc count (run plan done) → LevelIn inc more (happens (run plan done) e)
    level-on inc count more most done rest e is late n m up now silent same h =
        let w = run plan done in
        let z = progress script done in
        let plans = run-plan plan done in
        let world = progress-run script done in
        let good = run-good plan done can.plan in
        let follows = live-may script events done rest e live is in
        let role_w : role_of w.plan a ≡ IsNode g r = ap (λ (pl : Plan). role_of pl a) plans ∙ role_a in
        let does = replica-does w (1 + length done) good.fine a g r role_w e in
        let present = waits-present script a g r role_a events can live well done (e ∷ rest) is (far_of late) in
        let level : IsLevelIn (λ (i : ℕ). i ≡ inc) w.plan a f more (happens w e) =
        level-next w (happens w e) (1 + length done) e good.fine a f count more (λ (i : ℕ). i ≡ inc)
        (λ k i number y event there mine packet. waited script a z k e event follows present i number y n (ap (λ (v : World). slice_get v.envelopes k) world ∙ there) mine packet (ap (λ (v : World). (slot_of v a).node) world ∙ up) ∙ same)
        (subst (λ (pl : Plan). IsReader pl (Frag f) a) (sym plans) (reads-it plan a p f port.there)) most (subst (λ (pl : Plan). IsLevelIn (λ (i : ℕ). i ≡ inc) pl a f count w) (sym plans) h)
        (λ t c role_t. replica-does w (1 + length done) good.fine t f c role_t e)
        (λ k i number y counts there mine to packet. few number (none-acked w (happens w e) e a g r does n m up now silent k i number y there mine packet)) in
        subst (λ (pl : Plan). IsLevelIn (λ (i : ℕ). i ≡ inc) pl a f more (happens w e)) plans level
      where
        far_of : length script.phases + 4 ≤ (progress script done).phase → length script.phases + 1 < (progress script done).phase
        far_of far = omega (arith, far)

        few : {T : Type 0} (number : ℕ) → T ⊎ (number ≡ 0) → T ⊎ (number ≤ more)
        few number (inl old) = inl old
        few number (inr none) = inr (omega (arith, none))

    -- beside a replica that the script spares
    module _ (x b : ℕ) (role_x : role_of script.plan x ≡ IsNode g b) (spared : is_spared script x ≡ true) where
      pub record IsKeptSo (size inc count : ℕ) (done : List Event) : Type 0 where
        pub long : size ≤ length done
        pub late : length script.phases + 4 ≤ (progress script done).phase
        pub same : (m : PlainNode) → (slot_of (run plan done) a).node ≡ Some m → m.grants.inc ≡ inc
        pub level : LevelIn inc count (run plan done)

      -- the first point
      same-port : IsPortOf plan x p (Frag f)
      same-port =
          let inputs : inputs_of plan (role_of plan a) ≡ inputs_of plan (role_of plan x) = ap (λ (z : Role). inputs_of plan z) role_a ∙ sym (ap (λ (z : Role). inputs_of plan z) role_x) in
          record { there = ap (λ (ss : List StreamRef). slice_get ss p) (sym inputs) ∙ port.there; only = λ q e. port.only q (ap (λ (ss : List StreamRef). slice_get ss q) inputs ∙ e) }

      well-before : (early late : List Event) → events ≡ early ++ late → OpensWell script early
      well-before early late is before rest at = well before (rest ++ late) (is ∙ ap (λ (es : List Event). es ++ late) at ∙ append_assoc before (Phase (length script.phases + 1) ∷ rest) late)

      pub first-kept : (early late : List Event) (n m : PlainNode) → events ≡ early ++ late → length script.phases + 4 ≤ (progress script early).phase → (slot_of (run plan early) x).node ≡ Some n → (slot_of (run plan early) a).node ≡ Some m → m.recovering ≡ true →
          IsKeptSo (length early) m.grants.inc (done_by (home_of plan (g, b)) p n) early
      first-kept early late n m is far up_x up_a recovers =
          record {
            long = omega arith;
            late = far;
            same = λ z up. ap (λ (y : PlainNode). y.grants.inc) (some-same z m (sym up ∙ up_a));
            level = record {
              nodes = λ t c v role_t up_t. record {
                base = keeps.bases t c v role_t up_t;
                many = many t c v role_t up_t;
                acks = λ k it. by-place t c v role_t up_t k it (le-or (length (own_readers (home_of plan (f, c)))) k);
              };
              snaps = λ k q e there role. by-packet k q e there role e.packet refl;
              told = λ k i number e counts there mine to packet. acked-done script early can so_far x g b a r p f k i number n m e role_x spared role_a port up_x up_a recovers there mine to packet counts;
            };
          }
        where
          so_far : is_live_so_far script early ≡ true
          so_far = prefix-live script early late (subst (λ (es : List Event). is_live_so_far script es ≡ true) is live)

          keeps : AreKeptFor plan (run plan early) x f (done_by (home_of plan (g, b)) p n)
          keeps = snapshots-suffice script early can so_far x g b p f n role_x spared same-port up_x

          many : (t c : ℕ) (v : PlainNode) → role_of plan t ≡ IsNode f c → (slot_of (run plan early) t).node ≡ Some v → length v.acks ≡ length (own_readers (home_of plan (f, c)))
          many t c v role_t up_t = (((spared-at script events can live x g b role_x spared early late is).done p f n same-port up_x).nodes t c v role_t up_t).many

          none-le : (i j : ℕ) → i ≡ 0 → i ≤ j
          none-le i j e = omega (arith, e)

          by-place : (t c : ℕ) (v : PlainNode) → role_of plan t ≡ IsNode f c → (slot_of (run plan early) t).node ≡ Some v → (k : ℕ) → nth 0 (own_readers (home_of plan (f, c))) k ≡ a → (length (own_readers (home_of plan (f, c))) ≤ k) ⊎ (k < length (own_readers (home_of plan (f, c)))) →
              (nth {X = Acked} (0, 0) v.acks k).1 ≤ done_by (home_of plan (g, b)) p n
          by-place t c v role_t up_t k it (inr low) = know-no-more script early can so_far (well-before early late is) x g b a r t f c p k n m v role_x spared role_a port role_t far up_x up_a recovers up_t low it
          by-place t c v role_t up_t k it (inl past) =
              let all = many t c v role_t up_t in
              none-le (nth {X = Acked} (0, 0) v.acks k).1 (done_by (home_of plan (g, b)) p n) (ap (λ (z : Acked). z.1) (nth-past {X = Acked} (0, 0) v.acks k (omega (arith, all, past))))

          by-packet : (k q : ℕ) (e : Envelope) → slice_get (run plan early).envelopes k ≡ Some e → role_of plan e.sender ≡ IsNode f q → (z : Packet) → e.packet ≡ z → LowPacket (done_by (home_of plan (g, b)) p n) e.packet
          by-packet k q e there role (Plain y) at = subst (λ (z : Packet). LowPacket (done_by (home_of plan (g, b)) p n) z) (sym at) tt
          by-packet k q e there role (SnapFor i try s) at = subst (λ (z : Packet). LowPacket (done_by (home_of plan (g, b)) p n) z) (sym at) (keeps.snapshots k q i try e s there role at)

      -- an event
      kept-on : (size inc count : ℕ) → ((done rest : List Event) (m : PlainNode) → events ≡ done ++ rest → size ≤ length done → (slot_of (run plan done) a).node ≡ Some m → m.recovering ≡ true) →
          (done rest : List Event) (e : Event) → events ≡ done ++ e ∷ rest → IsKeptSo size inc count done → IsKeptSo size inc count (done ++ e ∷ [])
      kept-on size inc count recovers done rest e is h =
          let w = run plan done in
          let push = run-push plan done e in
          let is_next : events ≡ (done ++ e ∷ []) ++ rest = is ∙ sym (append_assoc done (e ∷ []) rest) in
          let far = later-on done rest e is h.late in
          let size_next = longer (length done) (length (done ++ e ∷ [])) size (grows done e) h.long in
          let node = node-at done (e ∷ rest) is h.late in
          let node_next = node-at (done ++ e ∷ []) rest is_next far in
          let up_next : (slot_of (happens w e) a).node ≡ Some node_next.0 = ap (λ (v : World). (slot_of v a).node) (sym push) ∙ node_next.1 in
          let still = recovers (done ++ e ∷ []) rest node_next.0 is_next size_next node_next.1 in
          let same = inc-on done rest e is h.late node.0 node_next.0 node.1 up_next in
          let level = level-on inc count count (omega arith) done rest e is h.late node.0 node_next.0 node.1 up_next (λ clock event. still) (h.same node.0 node.1) h.level in
          record {
            long = size_next;
            late = far;
            same = λ m up. ap (λ (y : PlainNode). y.grants.inc) (some-same m node_next.0 (sym up ∙ node_next.1)) ∙ same ∙ h.same node.0 node.1;
            level = subst (λ (v : World). LevelIn inc count v) (sym push) level;
          }
        where
          grows : (xs : List Event) (y : Event) → length xs ≤ length (xs ++ y ∷ [])
          grows [] y = omega arith
          grows (u ∷ xs) y = let rest = grows xs y in omega (arith, rest)

          longer : (i j k : ℕ) → i ≤ j → k ≤ i → k ≤ j
          longer i j k more low = omega (arith, more, low)

-- ---- the law

pub kept-recovering : (script : Script) (events : List Event) → KeptWhileRecovering script events
kept-recovering script events can live well x g b a r p f n early late role_x spared role_a port is far up_x recovers =
    let plan = script.plan in
    let count = done_by (home_of plan (g, b)) p n in
    let node = node-at script events can live well a g r role_a early late is far in
    let first = first-kept script events can live well a g r role_a p f port x b role_x spared early late n node.0 is far up_x node.1 (recovers early late node.0 is (omega arith) node.1) in
    let all = every-behind events early (λ (es : List Event). IsKeptSo script events can live well a g r role_a p f port x b role_x spared (length early) node.0.grants.inc count es) first
    (kept-on script events can live well a g r role_a p f port x b role_x spared (length early) node.0.grants.inc count recovers) late [] (is ∙ ap (λ (es : List Event). early ++ es) (sym (append-nil late))) in
    let level = subst (λ (es : List Event). IsLevelIn (λ (i : ℕ). i ≡ node.0.grants.inc) plan a f count (run plan es)) (sym is) all.level in
    record {
      bases = λ t c v role_t up. (level.nodes t c v role_t up).base;
      acks = λ t c k v role_t up it. (level.nodes t c v role_t up).acks k it;
      snapshots = λ k c i try e s at role_t same. subst (λ (z : Packet). LowPacket count z) same (level.snaps k c e at role_t);
    }
