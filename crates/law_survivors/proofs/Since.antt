-- A replica that ticked since it last recovered asked for what each of its ports holds: where it begins to recover, it lacks something.
use Rattle.std.proofs.Common.{Bool, cond, not, ◌||◌, ◌&&◌, ◌==◌, nat_le, [], ◌≡◌, ℕ, ◌+◌, ◌≤◌, true, false, List, ◌∷◌, ◌++◌, length, refl, sym, ap, subst, ◌∙◌, Option, Some, None, slice_get, ◌⊎◌, inl, inr}
use Rattle.std.proofs.lemmas.List.{append-nil, append_assoc}
use Rattle.dpc_model.specs.Inlets.{InletState, with_next_session}
use Rattle.dpc_model.specs.Ports.{choice_at, must_reopen, port_after_choice, port_after_tick, without_ended_marks}
use Rattle.dpc_model.specs.declared.messages.Event.TheVariants.{Tick}
use Rattle.node_model.proofs.Mailed.{mill-ports}
use Rattle.world_model.specs.Schedules.{progress}
use Rattle.world_model.specs.Steady.{OpensWell}
use Rattle.world_model.proofs.Running.{run-push}
use Rattle.law_safety.proofs.Growing.{event-grows}
use Rattle.law_readers.specs.Newest.{KnowsNoNewer}
use Rattle.law_readers.proofs.Going.{TicksTo, chosen-ticks}
use Rattle.law_readers.proofs.Known.{none-newer}
use Rattle.law_calm.proofs.Steps.{port_at, Stays, Opens}
use Rattle.law_survivors.proofs.Asking.{IsAskedAt, asked-next}
use Rattle.law_survivors.proofs.Broken.{tick-goes, tick-splits}
use Rattle.law_survivors.proofs.Recovering.{node-at as node-at-point, later-on}
use Rattle.law_survivors.proofs.Resting.{tick-there}
use Rattle.law_survivors.proofs.Taken.{still-took}
use Rattle.dpc_lists.proofs.Somes.{some-same}
use Rattle.dpc_lists.proofs.Truths.{true-not-false}
use Rattle.dpc_model.specs.Actors.{role_of}
use Rattle.dpc_model.specs.Ports.{Port}
use Rattle.dpc_model.specs.declared.actors.Role.TheVariants.{Node as IsNode}
use Rattle.dpc_model.specs.declared.messages.Event.{Event}
use Rattle.dpc_model.specs.declared.plans.Plan.{Plan}
use Rattle.dpc_model.specs.declared.plans.StreamRef.TheVariants.{Frag}
use Rattle.dpc_model.specs.declared.scripts.Script.{Script}
use Rattle.node_model.specs.Nodes.{Home, PlainNode}
use Rattle.node_model.specs.NodeSteps.{packet_step, mill_step, tick_step}
use Rattle.world_model.specs.Worlds.{Slot, home_of, slot_of, happens, run, World}
use Rattle.world_model.specs.Schedules.{is_live_so_far}
use Rattle.law_safety.proofs.Growing.{run-plan}
use Rattle.law_safety.proofs.Law.{run-good}
use Rattle.law_granting.specs.Taken.{node_port}
use Rattle.law_readers.specs.Newest.{IsPortOf}
use Rattle.law_readers.specs.Settling.{CanSettle}
use Rattle.law_survivors.specs.Spared.{is_spared, StandsWhole, RecoversNot, BeginnersLack}
use Rattle.law_survivors.proofs.Acked.{both-at}
use Rattle.law_survivors.proofs.Behind.{AllAsked, IsBehind, AreRefusedBelow, Standing}
use Rattle.law_survivors.proofs.Doing.{ReplicaDoes, replica-does}
use Rattle.law_survivors.proofs.Running.{spared-at}
use Rattle.law_survivors.proofs.Lacking.{begins-lacking}

-- ---- one event over which a does not recover

module _ (w next : World) (home : Home) (a : ℕ) (d : Event) (n m : PlainNode) (up : (slot_of w a).node ≡ Some n) (now : (slot_of next a).node ≡ Some m) (old : n.recovering ≡ false) (new : m.recovering ≡ false) where
  ticks-went : (p : ℕ) (q : Port) → Stays w home a p q (port_after_choice (port_after_tick (without_ended_marks q))) ⊎ Opens q (port_after_choice (port_after_tick (without_ended_marks q)))
  ticks-went p q = by-ticks (chosen-ticks (port_after_tick (without_ended_marks q)))
    where
      by-ticks : TicksTo (port_after_tick (without_ended_marks q)) (port_after_choice (port_after_tick (without_ended_marks q))) → Stays w home a p q (port_after_choice (port_after_tick (without_ended_marks q))) ⊎ Opens q (port_after_choice (port_after_tick (without_ended_marks q)))
      by-ticks (inl (inlet, chosen)) = inl (record { sess = ap (λ (z : InletState). z.sess) inlet; chosen = chosen; held = inl (ap (λ (z : InletState). z.held) inlet) })
      by-ticks (inr inlet) = inr (record { inlet = inlet; chosen = refl })

  stays : (p : ℕ) (q r : Port) → q ≡ r → Stays w home a p q r
  stays p q r same = record { sess = ap (λ (z : Port). z.inlet.sess) (sym same); chosen = ap (λ (z : Port). z.chosen) (sym same); held = inl (ap (λ (z : Port). z.inlet.held) (sym same)) }

  -- each port keeps its session, or opens the next one
  pub moves : ReplicaDoes w home a d next → (p : ℕ) (r : Port) → slice_get m.ports p ≡ Some r → (q : Port) × (slice_get n.ports p ≡ Some q) × (Stays w home a p q r ⊎ Opens q r)
  moves (ReplicaDoes.Rests slot sends) p r at =
      let same : m.ports ≡ n.ports = ap (λ (z : PlainNode). z.ports) (some-same m n (sym now ∙ ap (λ (z : Slot). z.node) slot ∙ up)) in
      (r, ap (λ (ps : List Port). slice_get ps p) (sym same) ∙ at, inl (stays p r r refl))
  moves (ReplicaDoes.Falls crash down last sends) p r at = let clash : ◌≡◌ {A = Option PlainNode} None (Some m) = sym down ∙ now in cc
  moves (ReplicaDoes.Starts i newer down begun last sends) p r at = let clash : ◌≡◌ {A = Option PlainNode} None (Some n) = sym down ∙ up in cc
  moves (ReplicaDoes.Mills q v s) p r at =
      let same : m.ports ≡ n.ports = ap (λ (z : PlainNode). z.ports) (some-same m (mill_step home q v).after (sym now ∙ s.now)) ∙ mill-ports home q v ∙ ap (λ (z : PlainNode). z.ports) (some-same v n (sym s.up ∙ up)) in
      (r, ap (λ (ps : List Port). slice_get ps p) (sym same) ∙ at, inl (stays p r r refl))
  moves (ReplicaDoes.Ticks clock v event s) p r at =
      let before = some-same v n (sym s.up ∙ up) in
      let after = some-same (tick_step home clock v).after m (sym s.now ∙ now) in
      let y = (tick-goes home clock v (ap (λ (z : PlainNode). z.recovering) before ∙ old)).ports p r (ap (λ (z : PlainNode). slice_get z.ports p) after ∙ at) in
      (y.0, ap (λ (z : PlainNode). slice_get z.ports p) (sym before) ∙ y.1, subst (λ (z : Port). Stays w home a p y.0 z ⊎ Opens y.0 z) (sym y.2) (ticks-went p y.0))
  moves (ReplicaDoes.Takes k e v event there can to s) p r at =
      let before = some-same v n (sym s.up ∙ up) in
      let after = some-same (packet_step home e.sender e.packet v).after m (sym s.now ∙ now) in
      let y = still-took home e.sender e.packet v (ap (λ (z : PlainNode). z.recovering) before ∙ old) (ap (λ (z : PlainNode). z.recovering) after ∙ new) p r (ap (λ (z : PlainNode). slice_get z.ports p) after ∙ at) in (
        y.0,
        ap (λ (z : PlainNode). slice_get z.ports p) (sym before) ∙ y.1,
        inl (record { sess = y.2.sess; chosen = y.2.chosen; held = elim y.2.held [ inl same ↦ inl same | inr batch ↦ inr (record { place = k; envelope = e; there = there; to = to; took = batch }) ] }),
      )

-- ---- since a tick

-- what a tick chooses misses no batch
choice-sound : (q : Port) → (port_after_choice q).inlet.broken ≡ false
choice-sound q =
    (elim (must_reopen q) as (λ c. must_reopen q ≡ c → (cond {A = InletState} c (with_next_session q.inlet) q.inlet).broken ≡ false) [
      | true ↦ λ e. refl
      | false ↦ λ e. middle (not (choice_at q == q.chosen)) q.inlet.broken (not q.inlet.answered && nat_le 3 q.ticks) e
    ]) refl
  where
    middle : (b c d : Bool) → (b || c || d) ≡ false → c ≡ false
    middle true c d e = cc
    middle false true d e = cc
    middle false false d e = refl

module _ (script : Script) (events : List Event) (can : CanSettle script) (live : is_live_so_far script events ≡ true) (x g b : ℕ) (role_x : role_of script.plan x ≡ IsNode g b) (spared : is_spared script x ≡ true) (a r : ℕ) (role_a : role_of script.plan a ≡ IsNode g r) where
  abbrev plan : Plan
  plan = script.plan

  does-of : (done : List Event) (d : Event) → ReplicaDoes (run script.plan done) (home_of script.plan (g, r)) a d (happens (run script.plan done) d)
  does-of done d =
      let same = run-plan plan done in
      subst (λ (z : Plan). ReplicaDoes (run plan done) (home_of z (g, r)) a d (happens (run plan done) d)) same (replica-does (run plan done) (1 + length done) (run-good plan done can.plan).fine a g r (ap (λ (z : Plan). role_of z a) same ∙ role_a) d)

  -- a does not recover, and each of its ports was asked for so
  pub record IsAskedSo (done : List Event) : Type 0 where
    pub node : PlainNode
    pub up : (slot_of (run script.plan done) a).node ≡ Some node
    pub whole : node.recovering ≡ false
    pub asked : AllAsked script.plan a (run script.plan done)

  -- an event over which it does not recover
  asked-so-next : (done rest : List Event) (d : Event) (m : PlainNode) → events ≡ done ++ d ∷ rest → IsAskedSo done → (slot_of (happens (run script.plan done) d) a).node ≡ Some m → m.recovering ≡ false → IsAskedSo (done ++ d ∷ [])
  asked-so-next done rest d m is h now whole =
      record {
        node = m;
        up = ap (λ (v : World). (slot_of v a).node) push ∙ now;
        whole = whole;
        asked = subst (λ (v : World). AllAsked plan a v) (sym push) (subst (λ (z : Plan). AllAsked z a (happens w d)) same all);
      }
    where
      w : World
      w = run script.plan done

      push : run script.plan (done ++ d ∷ []) ≡ happens (run script.plan done) d
      push = run-push plan done d

      same : (run script.plan done).plan ≡ script.plan
      same = run-plan plan done

      all : AllAsked (run script.plan done).plan a (happens (run script.plan done) d)
      all p f q port at =
          let role_w : role_of w.plan a ≡ IsNode g r = ap (λ (z : Plan). role_of z a) same ∙ role_a in
          let here : IsPortOf plan a p (Frag f) = subst (λ (z : Plan). IsPortOf z a p (Frag f)) same port in
          let does : ReplicaDoes w (home_of w.plan (g, r)) a d (happens w d) = subst (λ (z : Plan). ReplicaDoes w (home_of z (g, r)) a d (happens w d)) (sym same) (does-of done d) in
          let k = moves w (happens w d) (home_of w.plan (g, r)) a d h.node m h.up now h.whole whole does p q (sym (ap (λ (o : Option PlainNode). node_port p o) now) ∙ at) in
          let was : port_at w a p ≡ Some k.0 = ap (λ (o : Option PlainNode). node_port p o) h.up ∙ k.1 in
          asked-next w (happens w d) (1 + length done) d (run-good plan done can.plan).fine a g r role_w (event-grows w d) does p f port (subst (λ (z : Plan). KnowsNoNewer z w a p (Frag f)) (sym same) (none-newer plan done can.plan a p (Frag f) here)) q at k.0 was k.2
          (λ s. subst (λ (z : Plan). IsAskedAt z a f w k.0) (sym same) (h.asked p f k.0 here was))

  -- behind a tick it is so
  module _ (well : OpensWell script events) where
    asked-so-ticked : (done rest : List Event) (clock : ℕ) (m : PlainNode) → events ≡ done ++ Tick a clock ∷ rest → length script.phases + 4 ≤ (progress script done).phase → (slot_of (run script.plan (done ++ Tick a clock ∷ [])) a).node ≡ Some m → m.recovering ≡ false → IsAskedSo (done ++ Tick a clock ∷ [])
    asked-so-ticked done rest clock m is late up whole = record { node = m; up = up; whole = whole; asked = by-state (both.0.state m up) }
      where
        here : List Event
        here = done ++ Tick a clock ∷ []

        at : events ≡ (done ++ Tick a clock ∷ []) ++ rest
        at = is ∙ sym (append_assoc done (Tick a clock ∷ []) rest)

        stands : StandsWhole (run script.plan (done ++ Tick a clock ∷ [])) x
        stands = (spared-at script events can live x g b role_x spared here rest at).stands

        both : IsBehind script.plan a stands.node.cursor (run script.plan (done ++ Tick a clock ∷ [])) × AreRefusedBelow script.plan a stands.node.cursor (run script.plan (done ++ Tick a clock ∷ []))
        both = both-at script events can live x g b role_x spared a r role_a here rest at stands.node stands.up

        -- no port is broken behind it
        sound : (p : ℕ) (q : Port) → slice_get m.ports p ≡ Some q → q.inlet.broken ≡ false
        sound p q there =
            let n = node-at-point script events can live well a g r role_a done (Tick a clock ∷ rest) is late in
            let home = home_of (run plan done).plan (g, r) in
            let s = tick-there script events can live well a g r role_a done rest (Tick a clock) is late clock n.0 is n.1 in
            let one : (tick_step home clock n.0).after ≡ m = some-same (tick_step home clock n.0).after m (sym s.now ∙ ap (λ (v : World). (slot_of v a).node) (sym (run-push plan done (Tick a clock))) ∙ up) in
            elim (tick-splits home clock n.0) [
              | inl late_it ↦ absurd (true-not-false (sym late_it.recovers ∙ ap (λ (z : PlainNode). z.recovering) one ∙ whole))
              | inr goes ↦ (let y = goes.ports p q (ap (λ (z : PlainNode). slice_get z.ports p) one ∙ there) in ap (λ (z : Port). z.inlet.broken) y.2 ∙ choice-sound (port_after_tick (without_ended_marks y.0)))
            ]

        by-state : Standing script.plan a (run script.plan (done ++ Tick a clock ∷ [])) both.0.top stands.node.cursor m → AllAsked script.plan a (run script.plan (done ++ Tick a clock ∷ []))
        by-state (inr (still, asked, so)) = asked
        by-state (inl (broken, few)) = λ p f q port there. (let place : slice_get m.ports p ≡ Some q = sym (ap (λ (o : Option PlainNode). node_port p o) up) ∙ there in absurd (true-not-false (sym (broken p q place) ∙ sound p q place)))

    -- through a piece in which it does not recover
    asked-so-through : (done piece rest : List Event) → events ≡ done ++ (piece ++ rest) → length script.phases + 4 ≤ (progress script done).phase → IsAskedSo done → RecoversNot script a done piece → IsAskedSo (done ++ piece)
    asked-so-through done [] rest is late h none = subst IsAskedSo (sym (append-nil done)) h
    asked-so-through done (d ∷ piece) rest is late h none =
        let is_next : events ≡ (done ++ d ∷ []) ++ (piece ++ rest) = is ∙ sym (append_assoc done (d ∷ []) (piece ++ rest)) in
        let late_next = later-on script events can live well a g r role_a done (piece ++ rest) d is late in
        let node = node-at-point script events can live well a g r role_a (done ++ d ∷ []) (piece ++ rest) is_next late_next in
        subst IsAskedSo (append_assoc done (d ∷ []) piece)
        (asked-so-through (done ++ d ∷ []) piece rest is_next late_next
        (asked-so-next done (piece ++ rest) d node.0 is h (ap (λ (v : World). (slot_of v a).node) (sym (run-push plan done d)) ∙ node.1) (none (d ∷ []) piece node.0 refl node.1))
        (λ some others m at up. none (d ∷ some) others m (ap (λ (es : List Event). d ∷ es) at) (ap (λ (es : List Event). (slot_of (run plan es) a).node) (sym (append_assoc done (d ∷ []) some)) ∙ up)))

-- ---- the law

pub beginners-lack : (script : Script) (events : List Event) → BeginnersLack script events
beginners-lack script events can live well x g b a r now done mid rest d role_x spared role_a is late none h =
    let ticked = done ++ Tick a now ∷ [] in
    let at_tick : events ≡ done ++ Tick a now ∷ (mid ++ d ∷ rest) = is ∙ append_assoc done (Tick a now ∷ []) (mid ++ d ∷ rest) in
    let late_next = later-on script events can live well a g r role_a done (mid ++ d ∷ rest) (Tick a now) at_tick late in
    let node = node-at-point script events can live well a g r role_a ticked (mid ++ d ∷ rest) is late_next in
    let start = asked-so-ticked script events can live x g b role_x spared a r role_a well done (mid ++ d ∷ rest) now node.0 at_tick late node.1 (none [] mid node.0 refl (ap (λ (es : List Event). (slot_of (run script.plan es) a).node) (append-nil ticked) ∙ node.1)) in
    let all = asked-so-through script events can live x g b role_x spared a r role_a well ticked mid (d ∷ rest) is late_next start none in
    begins-lacking script events can live x g b role_x spared a r role_a (ticked ++ mid) rest d (is ∙ sym (append_assoc ticked mid (d ∷ rest))) h all.asked
