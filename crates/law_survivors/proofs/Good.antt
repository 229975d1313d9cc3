-- A snapshot that a replica which stands whole made in the fourth quiet phase or behind it stays good for the try that it was made for: the
-- senders forget no more than it has.
use Rattle.std.proofs.Common.{◌≡◌, ℕ, ◌+◌, ◌*◌, ◌≤◌, Bool, true, List, [], ◌∷◌, ◌++◌, map, length, refl, sym, ap, subst, ◌∙◌, arith, Option, Some, None, slice_get, ◌⊎◌, inl, inr}
use Rattle.std.proofs.lemmas.Option.{slice_get_within}
use Rattle.dpc_lists.specs.Lists.{nth}
use Rattle.dpc_lists.proofs.Somes.{some-same}
use Rattle.dpc_model.specs.Streams.{cut}
use Rattle.dpc_model.specs.Actors.{role_of}
use Rattle.dpc_model.specs.Ports.{Port, without_ended_marks}
use Rattle.dpc_model.specs.declared.actors.Role.TheVariants.{Node as IsNode}
use Rattle.dpc_model.specs.declared.tuples.Tuple.{Tuple}
use Rattle.dpc_model.specs.declared.messages.Event.{Event}
use Rattle.dpc_model.specs.declared.messages.Event.TheVariants.{Deliver}
use Rattle.dpc_model.specs.declared.plans.Plan.{Plan}
use Rattle.dpc_model.specs.declared.plans.StreamRef.TheVariants.{Frag}
use Rattle.dpc_model.specs.declared.scripts.Script.{Script}
use Rattle.node_model.specs.Mails.{SnapFor, Snap, Stepped}
use Rattle.node_model.specs.Nodes.{Home, PlainNode, inputs_done}
use Rattle.node_model.specs.NodeSteps.{snapshot, with_marks_ended, packet_step, mill_step, tick_step}
use Rattle.world_model.specs.Worlds.{World, Envelope, Slot, home_of, slot_of, happens, run}
use Rattle.world_model.specs.Schedules.{progress, is_live_so_far}
use Rattle.world_model.specs.Steady.{OpensWell}
use Rattle.world_model.proofs.Running.{run-push}
use Rattle.law_safety.proofs.Law.{run-good}
use Rattle.law_safety.proofs.Growing.{run-plan}
use Rattle.law_readers.specs.Newest.{IsPortOf}
use Rattle.law_readers.specs.Settling.{CanSettle}
use Rattle.law_settling.proofs.Along.{every-behind}
use Rattle.law_survivors.specs.Spared.{is_spared, done_by}
use Rattle.law_survivors.proofs.Doing.{HasStepped, ReplicaDoes, replica-does}
use Rattle.law_survivors.proofs.Levels.{IsLevelIn}
use Rattle.law_survivors.proofs.Recovering.{first-kept, level-on, later-on, inc-on, node-at}
use Rattle.law_survivors.proofs.Tries.{TriesGo, packet-tries, milled-status, ticked-tries}
use Rattle.law_survivors.proofs.Tried.{IsTriedAt, AreTried, SnapsNow, snap-new, tried-run}

-- ---- one node over an event

-- it recovered in the same try before, or this try began now, by a delivery
abbrev pub CameSo : Event → PlainNode → PlainNode → Type 0
CameSo d n m = ((n.recovering ≡ true) × (m.tries ≡ n.tries)) ⊎ ((k : ℕ) × (d ≡ Deliver k) × (m.tries ≡ n.tries + 1))

same-go : (d : Event) (v z : PlainNode) → (z.tries ≡ v.tries) × (z.recovering ≡ true → v.recovering ≡ true) → z.recovering ≡ true → CameSo d v z
same-go d v z go r = inl (go.1 r, go.0)

took-go : (d : Event) (k : ℕ) (v z : PlainNode) → d ≡ Deliver k → TriesGo v z → z.recovering ≡ true → CameSo d v z
took-go d k v z event (inl go) r = inl (go.1 r, go.0)
took-go d k v z event (inr go) r = inr (k, event, go.0)

module _ (w next : World) (home : Home) (a : ℕ) (d : Event) (n m : PlainNode) (up : (slot_of w a).node ≡ Some n) (now : (slot_of next a).node ≡ Some m) (recovers : m.recovering ≡ true) where
  stepped-so : (v : PlainNode) (t : Stepped PlainNode) → HasStepped w next a v t → (t.after.recovering ≡ true → CameSo d v t.after) → CameSo d n m
  stepped-so v t s go =
      let after = some-same t.after m (sym s.now ∙ now) in
      subst (λ (y : PlainNode). CameSo d n y) after (subst (λ (y : PlainNode). CameSo d y t.after) (some-same v n (sym s.up ∙ up)) (go (ap (λ (y : PlainNode). y.recovering) after ∙ recovers)))

  pub came-so : ReplicaDoes w home a d next → CameSo d n m
  came-so (ReplicaDoes.Rests slot sends) =
      let one = some-same n m (sym up ∙ sym (ap (λ (z : Slot). z.node) slot) ∙ now) in
      inl (ap (λ (y : PlainNode). y.recovering) one ∙ recovers, ap (λ (y : PlainNode). y.tries) (sym one))
  came-so (ReplicaDoes.Falls crash down last sends) = let clash : ◌≡◌ {A = Option PlainNode} None (Some m) = sym down ∙ now in cc
  came-so (ReplicaDoes.Starts i newer down begun last sends) = let clash : ◌≡◌ {A = Option PlainNode} None (Some n) = sym down ∙ up in cc
  came-so (ReplicaDoes.Takes k e v event there can to s) = stepped-so v (packet_step home e.sender e.packet v) s (took-go d k v (packet_step home e.sender e.packet v).after event (packet-tries home e.sender e.packet v))
  came-so (ReplicaDoes.Ticks clock v event s) = stepped-so v (tick_step home clock v) s (same-go d v (tick_step home clock v).after (ticked-tries home clock v))
  came-so (ReplicaDoes.Mills r v s) = stepped-so v (mill_step home r v) s (let k = milled-status home r v in same-go d v (mill_step home r v).after (ap (λ (z : ℕ × Bool). z.0) k, λ e. sym (ap (λ (z : ℕ × Bool). z.1) k) ∙ e))

-- ---- a snapshot has what its sender had done

cuts-same : (b : ℕ) (ports : List Port) → map (λ (p : Port). cut p.inlet.held.stable b) (map without_ended_marks ports) ≡ map (λ (p : Port). cut p.inlet.held.stable b) ports
cuts-same b [] = refl
cuts-same b (q ∷ ports) = ap (λ (ts : List (List Tuple)). cut q.inlet.held.stable b ∷ ts) (cuts-same b ports)

snap-done : (home : Home) (p : ℕ) (n : PlainNode) (s : Snap) → s ≡ snapshot home (with_marks_ended n) → length (nth [] s.inputs p) ≡ done_by home p n
snap-done home p n s is =
    let same : inputs_done home (with_marks_ended n) ≡ inputs_done home n = cuts-same (n.cursor * home.plan.width) n.ports in
    ap (λ (z : Snap). length (nth [] z.inputs p)) is ∙ ap (λ (tss : List (List Tuple)). length (nth [] tss p)) same

-- ---- from a point on

module _ (script : Script) (events : List Event) (can : CanSettle script) (live : is_live_so_far script events ≡ true) (well : OpensWell script events) (x g b a r : ℕ) (role_x : role_of script.plan x ≡ IsNode g b) (spared : is_spared script x ≡ true) (role_a : role_of script.plan a ≡ IsNode g r) where
  abbrev plan : Plan
  plan = script.plan

  -- the level of what a acknowledges in one incarnation
  abbrev Level : ℕ → ℕ → ℕ → World → Type 0
  Level inc f count w = IsLevelIn (λ (i : ℕ). i ≡ inc) plan a f count w

  -- the present try of a is this one, and a recovers
  pub record InTry (w : World) (i try : ℕ) : Type 0 where
    pub node : PlainNode
    pub up : (slot_of w a).node ≡ Some node
    pub recovers : node.recovering ≡ true
    pub inc : i ≡ node.grants.inc
    pub try_is : try ≡ node.tries

  -- envelopes from a number on are such snapshots
  pub record AreGood (first : ℕ) (done : List Event) : Type 0 where
    pub late : length script.phases + 4 ≤ (progress script done).phase
    pub good : (k i try p f : ℕ) (e : Envelope) (s : Snap) → first ≤ k → slice_get (run plan done).envelopes k ≡ Some e → e.sender ≡ x → e.to ≡ a → e.packet ≡ SnapFor i try s → InTry (run plan done) i try → IsPortOf plan a p (Frag f) →
        Level i f (length (nth [] s.inputs p)) (run plan done)

  first-good : (early : List Event) → length script.phases + 4 ≤ (progress script early).phase → AreGood (length (run plan early).envelopes) early
  first-good early far = record { late = far; good = λ k i try p f e s new there from to packet in_try port. let low = slice_get_within (run plan early).envelopes k e there in absurd (omega (arith, low, new)) }

  good-next : (first : ℕ) (done rest : List Event) (d : Event) → events ≡ done ++ d ∷ rest → AreGood first done → AreGood first (done ++ d ∷ [])
  good-next first done rest d is h =
      record {
        late = later-on script events can live well a g r role_a done rest d is h.late;
        good = λ k i try p f e s new there from to packet in_try port. subst (λ (v : World). Level i f (length (nth [] s.inputs p)) v) (sym push)
            (on k i try p f e s new (ap (λ (v : World). slice_get v.envelopes k) (sym push) ∙ there) from to packet (subst (λ (v : World). InTry v i try) push in_try) port);
      }
    where
      w : World
      w = run plan done

      push : run plan (done ++ d ∷ []) ≡ happens (run plan done) d
      push = run-push plan done d

      does : (t c : ℕ) → role_of plan t ≡ IsNode g c → ReplicaDoes (run plan done) (home_of plan (g, c)) t d (happens (run plan done) d)
      does t c role =
          let same = run-plan plan done in
          subst (λ (z : Plan). ReplicaDoes (run plan done) (home_of z (g, c)) t d (happens (run plan done) d)) same
          (replica-does (run plan done) (1 + length done) (run-good plan done can.plan).fine t g c (ap (λ (z : Plan). role_of z t) same ∙ role) d)

      tried : AreTried plan a g (run plan done)
      tried = tried-run plan done can.plan a g r role_a

      node : (m : PlainNode) × ((slot_of (run plan done) a).node ≡ Some m)
      node = node-at script events can live well a g r role_a done (d ∷ rest) is h.late

      -- where the try was reached before the event, a recovered in it
      was-in : (i try : ℕ) → InTry (happens (run plan done) d) i try → IsTriedAt (slot_of (run plan done) a) i try → InTry (run plan done) i try
      was-in i try now reached = by-came (came-so (run plan done) (happens (run plan done) d) (home_of plan (g, r)) a d node.0 now.node node.1 now.up now.recovers (does a r role_a))
        where
          inc : i ≡ node.0.grants.inc
          inc = now.inc ∙ inc-on script events can live well a g r role_a done rest d is h.late node.0 now.node node.1 now.up

          by-came : CameSo d node.0 now.node → InTry (run plan done) i try
          by-came (inl k) = record { node = node.0; up = node.1; recovers = k.0; inc = inc; try_is = now.try_is ∙ k.1 }
          by-came (inr (j, event, new)) = let low = reached.tried node.0 node.1 (sym inc) in let is_now = now.try_is in absurd (omega (arith, low, is_now, new))

      -- so the level of then holds now
      level-then : (i try p f count : ℕ) → IsPortOf plan a p (Frag f) → InTry (happens (run plan done) d) i try → (old : InTry (run plan done) i try) → Level i f count (run plan done) → Level i f count (happens (run plan done) d)
      level-then i try p f count port now old level =
          level-on script events can live well a g r role_a p f port i count count (omega arith) done rest d is h.late old.node now.node old.up now.up (λ clock event. now.recovers) (sym old.inc) level

      by-new : (k i try p f : ℕ) (e : Envelope) (s : Snap) → first ≤ k → e.sender ≡ x → e.to ≡ a → e.packet ≡ SnapFor i try s → InTry (happens (run plan done) d) i try → IsPortOf plan a p (Frag f) →
          (slice_get (run plan done).envelopes k ≡ Some e) ⊎ SnapsNow (run plan done) (happens (run plan done) d) d g plan x b (home_of plan (g, b)) e.to i try s → Level i f (length (nth [] s.inputs p)) (happens (run plan done) d)
      by-new k i try p f e s new from to packet now port (inl old) =
          let was = was-in i try now (tried.snaps k i try b e s old (ap (λ (z : ℕ). role_of plan z) from ∙ role_x) to packet) in
          level-then i try p f (length (nth [] s.inputs p)) port now was (h.good k i try p f e s new old from to packet was port)
      by-new k i try p f e s new from to packet now port (inr y) =
          let was = was-in i try now (tried.asks y.place i try y.envelope y.there (sym y.answer.to_is ∙ to) y.answer.asked) in
          let count : length (nth [] s.inputs p) ≡ done_by (home_of plan (g, b)) p y.node = snap-done (home_of plan (g, b)) p y.node s y.answer.snap in
          let first_level = (first-kept script events can live well a g r role_a p f port x b role_x spared done (d ∷ rest) y.node was.node is h.late y.step.up was.up was.recovers).level in
          let level : Level i f (length (nth [] s.inputs p)) (run plan done) = subst (λ (c : ℕ). Level i f c (run plan done)) (sym count) (subst (λ (j : ℕ). Level j f (done_by (home_of plan (g, b)) p y.node) (run plan done)) (sym was.inc) first_level) in
          level-then i try p f (length (nth [] s.inputs p)) port now was level

      on : (k i try p f : ℕ) (e : Envelope) (s : Snap) → first ≤ k → slice_get (happens (run plan done) d).envelopes k ≡ Some e → e.sender ≡ x → e.to ≡ a → e.packet ≡ SnapFor i try s → InTry (happens (run plan done) d) i try → IsPortOf plan a p (Frag f) → Level i f (length (nth [] s.inputs p)) (happens (run plan done) d)
      on k i try p f e s new there from to packet now port =
          by-new k i try p f e s new from to packet now port (snap-new (run plan done) (happens (run plan done) d) d g plan x b (does x b role_x) k i try e s there from packet)

  -- from the first point on
  pub good-from : (early mid rest : List Event) → length script.phases + 4 ≤ (progress script early).phase → events ≡ early ++ (mid ++ rest) → AreGood (length (run plan early).envelopes) (early ++ mid)
  good-from early mid rest far is = every-behind events early (λ (es : List Event). AreGood (length (run plan early).envelopes) es) (first-good early far) (good-next (length (run plan early).envelopes)) mid rest is
