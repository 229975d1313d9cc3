-- A replica that went on from a snapshot: its ports stay broken until its next tick, which opens them all, and its senders keep what it has.
use Rattle.std.proofs.Common.{◌≡◌, ℕ, ◌+◌, ◌<◌, ◌≤◌, true, false, List, [], ◌∷◌, ◌++◌, length, refl, sym, ap, subst, ◌∙◌, arith, Option, Some, None, slice_get, inl, inr}
use Rattle.dpc_lists.specs.Lists.{nth}
use Rattle.dpc_lists.proofs.Somes.{some-same}
use Rattle.dpc_model.specs.Actors.{role_of, inputs_of}
use Rattle.dpc_model.specs.Ports.{Port}
use Rattle.dpc_model.specs.declared.actors.Role.TheVariants.{Node as IsNode}
use Rattle.dpc_model.specs.declared.messages.Event.{Event}
use Rattle.dpc_model.specs.declared.messages.Event.TheVariants.{Phase, Emit, Release, Cut, Heal, Crash, Restart, Deliver, Tick, Mill}
use Rattle.dpc_model.specs.declared.messages.Message.TheVariants as message
use Rattle.dpc_model.specs.declared.tuples.Tuple.{Tuple}
use Rattle.dpc_model.specs.declared.plans.Plan.{Plan}
use Rattle.dpc_model.specs.declared.plans.StreamRef.{StreamRef}
use Rattle.dpc_model.specs.declared.plans.StreamRef.TheVariants.{Frag}
use Rattle.dpc_model.specs.declared.scripts.Script.{Script}
use Rattle.node_model.proofs.Mailed.{mill-ports}
use Rattle.node_model.specs.Mails.{Plain, SnapFor, Snap}
use Rattle.node_model.specs.Nodes.{Home, PlainNode}
use Rattle.node_model.specs.NodeSteps.{packet_step, mill_step, tick_step}
use Rattle.world_model.specs.Worlds.{World, Envelope, Slot, home_of, slot_of, node_stepped, happens, run}
use Rattle.world_model.specs.Schedules.{progress, is_live_so_far}
use Rattle.world_model.specs.Steady.{OpensWell}
use Rattle.world_model.specs.Events.{is_quiet}
use Rattle.world_model.proofs.Running.{run-push}
use Rattle.law_safety.proofs.Happening.{IsFine}
use Rattle.law_safety.proofs.Promises.{slot-here}
use Rattle.law_safety.proofs.Law.{run-good}
use Rattle.law_safety.proofs.Growing.{run-plan, event-grows}
use Rattle.law_granting.specs.Taken.{node_port}
use Rattle.law_granting.proofs.Prefix.{IsReader}
use Rattle.law_readers.specs.Newest.{IsPortOf, KnowsNoNewer}
use Rattle.law_readers.specs.Settling.{CanSettle}
use Rattle.law_readers.specs.Sure.{SourcesSendSurely}
use Rattle.law_readers.proofs.Known.{none-newer}
use Rattle.law_readers.proofs.Surely.{sources-sure}
use Rattle.law_schedules.proofs.Journals.{progress-run}
use Rattle.law_settling.proofs.Along.{live-may}
use Rattle.law_settling.proofs.Nodes.{node-ticked-now}
use Rattle.law_settling.proofs.Splitting.{in-quiet}
use Rattle.law_calm.proofs.Steps.{port_at}
use Rattle.law_survivors.specs.Spared.{spares_at, StandsIn}
use Rattle.law_survivors.proofs.Adopting.{was-adopted}
use Rattle.law_survivors.proofs.Broken.{AreBroken, packet-broken, tick-goes}
use Rattle.law_survivors.proofs.Doing.{HasStepped, ReplicaDoes, replica-does}
use Rattle.law_survivors.proofs.Kept.{NoneIsFresh}
use Rattle.law_survivors.proofs.Levels.{IsLevelIn}
use Rattle.law_survivors.proofs.Once.{fresh-at}
use Rattle.law_survivors.proofs.Presently.{waits-present, waited}
use Rattle.law_survivors.proofs.Recovering.{open-at, later-on, inc-on, level-on}
use Rattle.law_survivors.proofs.Reopened.{opened-kept}
use Rattle.law_survivors.proofs.Spared.{IsKeptWorld, kept-event, reads-it}
use Rattle.law_survivors.proofs.Taken.{still-took}

-- ---- one node over an event that is none of its ticks, where it does not recover before or behind it

module _ (w next : World) (home : Home) (a : ℕ) (d : Event) (n m : PlainNode) (up : (slot_of w a).node ≡ Some n) (now : (slot_of next a).node ≡ Some m) (old : n.recovering ≡ false) (new : m.recovering ≡ false) (apart : (clock : ℕ) → d ≡ Tick a clock → ⊥) where
  -- its ports hold no less, and stay broken
  pub record RestsOn : Type 0 where
    pub broken : AreBroken n.ports → AreBroken m.ports
    pub ports : (p : ℕ) (r : Port) → slice_get m.ports p ≡ Some r → (q : Port) × (slice_get n.ports p ≡ Some q) × (length q.inlet.held.stable ≤ length r.inlet.held.stable)

  le-self : (k : ℕ) → k ≤ k
  le-self k = omega arith

  same-ports : m.ports ≡ n.ports → RestsOn
  same-ports same =
      record {
        broken = λ h. subst (λ (ps : List Port). AreBroken ps) (sym same) h;
        ports = λ p r e. (r, ap (λ (ps : List Port). slice_get ps p) (sym same) ∙ e, le-self (length r.inlet.held.stable));
      }

  pub rests-on : ReplicaDoes w home a d next → RestsOn
  rests-on (ReplicaDoes.Rests slot sends) = same-ports (ap (λ (z : PlainNode). z.ports) (some-same m n (sym now ∙ ap (λ (z : Slot). z.node) slot ∙ up)))
  rests-on (ReplicaDoes.Falls crash down last sends) = let clash : ◌≡◌ {A = Option PlainNode} None (Some m) = sym down ∙ now in cc
  rests-on (ReplicaDoes.Starts i newer down begun last sends) = let clash : ◌≡◌ {A = Option PlainNode} None (Some n) = sym down ∙ up in cc
  rests-on (ReplicaDoes.Ticks clock v event s) = absurd (apart clock event)
  rests-on (ReplicaDoes.Mills r v s) =
      let before = some-same v n (sym s.up ∙ up) in
      let after = some-same (mill_step home r v).after m (sym s.now ∙ now) in
      same-ports (ap (λ (z : PlainNode). z.ports) (sym after) ∙ mill-ports home r v ∙ ap (λ (z : PlainNode). z.ports) before)
  rests-on (ReplicaDoes.Takes k e v event there can to s) =
      let before = some-same v n (sym s.up ∙ up) in
      let after = some-same (packet_step home e.sender e.packet v).after m (sym s.now ∙ now) in
      let took = still-took home e.sender e.packet v (ap (λ (z : PlainNode). z.recovering) before ∙ old) (ap (λ (z : PlainNode). z.recovering) after ∙ new) in
      record {
        broken = λ h. subst (λ (z : PlainNode). AreBroken z.ports) after (packet-broken home e.sender e.packet v (subst (λ (z : PlainNode). AreBroken z.ports) (sym before) h));
        ports = λ p r at.
            let y = took p r (ap (λ (z : PlainNode). slice_get z.ports p) after ∙ at) in (
              y.0,
              ap (λ (z : PlainNode). slice_get z.ports p) (sym before) ∙ y.1,
              elim y.2.held [
                | inl same ↦ subst (λ (z : _). length y.0.inlet.held.stable ≤ length z.stable) (sym same) (le-self (length y.0.inlet.held.stable))
                | inr batch ↦ batch.more
              ],
            );
      }

-- the step of a tick
tick-steps : (v : World) (most a g r clock : ℕ) (n : PlainNode) → IsFine v most → role_of v.plan a ≡ IsNode g r → (slot_of v a).node ≡ Some n → happens v (Tick a clock) ≡ node_stepped a (tick_step (home_of v.plan (g, r)) clock n) v → HasStepped v (happens v (Tick a clock)) a n (tick_step (home_of v.plan (g, r)) clock n)
tick-steps v most a g r clock n fine role up event =
    let t = tick_step (home_of v.plan (g, r)) clock n in
    let slot : slot_of (node_stepped a t v) a ≡ record (slot_of v a) { node = Some t.after } = slot-here v most a g r (λ (z : Slot). record z { node = Some t.after }) fine role in
    record {
      up = up;
      now = ap (λ (y : World). (slot_of y a).node) event ∙ ap (λ (z : Slot). z.node) slot;
      last = ap (λ (y : World). (slot_of y a).last_inc) event ∙ ap (λ (z : Slot). z.last_inc) slot;
      sends = ap (λ (y : World). y.envelopes) event;
    }

quiet-spares : (a : ℕ) (e : Event) → is_quiet e ≡ true → spares_at a e ≡ true
quiet-spares a (Phase p) q = cc
quiet-spares a (Emit s t) q = cc
quiet-spares a (Release s t) q = cc
quiet-spares a (Cut b c) q = cc
quiet-spares a (Heal b c) q = cc
quiet-spares a (Crash b) q = cc
quiet-spares a (Restart b i) q = cc
quiet-spares a (Deliver k) q = refl
quiet-spares a (Tick b now) q = refl
quiet-spares a (Mill b r) q = refl

-- ---- along a live journal

module _ (script : Script) (events : List Event) (can : CanSettle script) (live : is_live_so_far script events ≡ true) (well : OpensWell script events) (a g r : ℕ) (role_a : role_of script.plan a ≡ IsNode g r) where
  abbrev plan : Plan
  plan = script.plan

  -- between the adoption and the next tick
  pub record IsResting (incarnation : ℕ) (done : List Event) : Type 0 where
    pub late : length script.phases + 4 ≤ (progress script done).phase
    pub stands : StandsIn incarnation (run plan done) a
    pub broken : AreBroken stands.node.ports
    pub level : (p f : ℕ) (q : Port) → IsPortOf plan a p (Frag f) → port_at (run plan done) a p ≡ Some q → IsLevelIn (λ (i : ℕ). i ≡ incarnation) plan a f (length q.inlet.held.stable) (run plan done)

  -- behind that tick
  pub record IsStanding (incarnation : ℕ) (done : List Event) : Type 0 where
    pub late : length script.phases + 4 ≤ (progress script done).phase
    pub kept : IsKeptWorld incarnation (λ (i : ℕ). i ≡ incarnation) plan a (run plan done)

  -- what an event is made of
  module _ (done rest : List Event) (d : Event) (is : events ≡ done ++ d ∷ rest) (late : length script.phases + 4 ≤ (progress script done).phase) where
    abbrev w : World
    w = run plan done

    abbrev next : World
    next = happens (run plan done) d

    push : run plan (done ++ d ∷ []) ≡ next
    push = run-push plan done d

    on-plan : (run plan done).plan ≡ plan
    on-plan = run-plan plan done

    role_w : role_of w.plan a ≡ IsNode g r
    role_w = ap (λ (z : Plan). role_of z a) on-plan ∙ role_a

    does-all : (t f c : ℕ) → role_of w.plan t ≡ IsNode f c → ReplicaDoes w (home_of w.plan (f, c)) t d next
    does-all t f c role = replica-does w (1 + length done) (run-good plan done can.plan).fine t f c role d

    came : (inc : ℕ) (n : PlainNode) → (slot_of w a).node ≡ Some n → n.grants.inc ≡ inc → (k i count : ℕ) (e : Envelope) → d ≡ Deliver k → slice_get w.envelopes k ≡ Some e → e.sender ≡ a → e.packet ≡ Plain (message.Ack i count) → i ≡ inc
    came inc n up same k i count e event there mine packet =
        let world = progress-run script done in
        waited script a (progress script done) k d event (live-may script events done rest d live is) (waits-present script a g r role_a events can live well done (d ∷ rest) is (far late)) i count e n (ap (λ (v : World). slice_get v.envelopes k) world ∙ there) mine packet (ap (λ (v : World). (slot_of v a).node) world ∙ up) ∙ same
      where
        far : length script.phases + 4 ≤ (progress script done).phase → length script.phases + 1 < (progress script done).phase
        far h = omega (arith, h)

    -- it stands, and goes on so
    standing-next : (incarnation : ℕ) → IsKeptWorld incarnation (λ (i : ℕ). i ≡ incarnation) plan a w → IsKeptWorld incarnation (λ (i : ℕ). i ≡ incarnation) plan a next
    standing-next incarnation h =
        let good = run-good plan done can.plan in
        let same = on-plan in
        let here = open-at script events can live well a g r role_a done (d ∷ rest) is late in
        let spared = elim (in-quiet script (progress script done) d here.at (live-may script events done rest d live is)) as (λ _. spares_at a d ≡ true) [ inl quiet ↦ quiet-spares a d quiet | inr o ↦ ap (λ (e : Event). spares_at a e) o.0 ] in
        let after : IsKeptWorld incarnation (λ (i : ℕ). i ≡ incarnation) w.plan a next =
        kept-event w (1 + length done) good.fine a g r role_w
        (subst (λ (z : Plan). (p q : ℕ) (s : StreamRef) → slice_get (inputs_of z (role_of z a)) p ≡ Some s → slice_get (inputs_of z (role_of z a)) q ≡ Some s → p ≡ q) (sym same) (λ p q s. can.once a p q s))
        (λ p s port. subst (λ (z : Plan). KnowsNoNewer z w a p s) (sym same) (none-newer plan done can.plan a p s (subst (λ (z : Plan). IsPortOf z a p s) same port)))
        (subst (λ (z : Plan). SourcesSendSurely z w.envelopes) (sym same) (sources-sure plan done)) incarnation (λ (i : ℕ). i ≡ incarnation) (subst (λ (z : Plan). IsKeptWorld incarnation (λ (i : ℕ). i ≡ incarnation) z a w) (sym same) h) d spared
        (came incarnation h.stands.node h.stands.up h.stands.inc)
        (subst (λ (z : Plan). (p f : ℕ) → IsPortOf z a p (Frag f) → (reader : IsReader z (Frag f) a) → NoneIsFresh z a f reader.place w d) (sym same) (λ p f port reader. fresh-at script events can.plan live a p f port reader done rest d is)) in
        subst (λ (z : Plan). IsKeptWorld incarnation (λ (i : ℕ). i ≡ incarnation) z a next) same after

    pub stands-on : (incarnation : ℕ) → IsKeptWorld incarnation (λ (i : ℕ). i ≡ incarnation) plan a w → IsStanding incarnation (done ++ d ∷ [])
    stands-on incarnation h =
        record { late = later-on script events can live well a g r role_a done rest d is late; kept = subst (λ (v : World). IsKeptWorld incarnation (λ (i : ℕ). i ≡ incarnation) plan a v) (sym push) (standing-next incarnation h) }

    -- it rests, and does not recover behind an event that is none of its ticks
    pub rests-next : (incarnation : ℕ) → IsResting incarnation done → (m : PlainNode) → (slot_of next a).node ≡ Some m → m.recovering ≡ false → ((clock : ℕ) → d ≡ Tick a clock → ⊥) → IsResting incarnation (done ++ d ∷ [])
    rests-next incarnation h m now whole apart =
        let n = h.stands.node in
        let goes = rests-on w next (home_of w.plan (g, r)) a d n m h.stands.up now h.stands.whole whole apart (does-all a g r role_w) in
        record {
          late = later-on script events can live well a g r role_a done rest d is late;
          stands = record { node = m; up = ap (λ (v : World). (slot_of v a).node) push ∙ now; inc = inc-on script events can live well a g r role_a done rest d is late n m h.stands.up now ∙ h.stands.inc; whole = whole };
          broken = goes.broken h.broken;
          level = λ p f q port at.
              let k = goes.ports p q (sym (ap (λ (o : Option PlainNode). node_port p o) now) ∙ ap (λ (v : World). port_at v a p) (sym push) ∙ at) in
              let before = h.level p f k.0 port (ap (λ (o : Option PlainNode). node_port p o) h.stands.up ∙ k.1) in
              subst (λ (v : World). IsLevelIn (λ (i : ℕ). i ≡ incarnation) plan a f (length q.inlet.held.stable) v) (sym push)
              (level-on script events can live well a g r role_a p f port incarnation (length k.0.inlet.held.stable) (length q.inlet.held.stable) k.2 done rest d is late n m h.stands.up now (λ clock event. absurd (apart clock event)) h.stands.inc before);
        }

    -- a tick of a is a step of it
    pub tick-there : (clock : ℕ) (n : PlainNode) → events ≡ done ++ Tick a clock ∷ rest → (slot_of w a).node ≡ Some n → HasStepped w (happens w (Tick a clock)) a n (tick_step (home_of w.plan (g, r)) clock n)
    tick-there clock n at up =
        let z = progress script done in
        let here = open-at script events can live well a g r role_a done (Tick a clock ∷ rest) at late in
        let world = progress-run script done in
        let role_z : role_of z.world.plan a ≡ IsNode g r = ap (λ (pl : Plan). role_of pl a) here.of_plan ∙ role_a in
        let up_z : (slot_of z.world a).node ≡ Some n = ap (λ (v : World). (slot_of v a).node) world ∙ up in
        subst (λ (v : World). HasStepped v (happens v (Tick a clock)) a n (tick_step (home_of v.plan (g, r)) clock n)) world
        (tick-steps z.world here.most a g r clock n here.fine role_z up_z (node-ticked-now z.world here.most a g r here.fine role_z clock n (here.clocked a clock (live-may script events done rest (Tick a clock) live at)) up_z))

    -- its tick
    pub rests-ticks : (incarnation clock : ℕ) → d ≡ Tick a clock → IsResting incarnation done → IsStanding incarnation (done ++ d ∷ [])
    rests-ticks incarnation clock event h =
        let n = h.stands.node in
        let home = home_of w.plan (g, r) in
        let t = tick_step home clock n in
        let good = run-good plan done can.plan in
        let s = subst (λ (e : Event). HasStepped w (happens w e) a n (tick_step (home_of w.plan (g, r)) clock n)) (sym event) (tick-there clock n (is ∙ ap (λ (e : Event). done ++ e ∷ rest) event) h.stands.up) in
        let goes = tick-goes home clock n h.stands.whole in
        let kept : IsKeptWorld incarnation (λ (i : ℕ). i ≡ incarnation) w.plan a next =
        record {
          stands = record { node = t.after; up = s.now; inc = inc-on script events can live well a g r role_a done rest d is late n t.after h.stands.up s.now ∙ h.stands.inc; whole = goes.whole };
          kept = λ p f port.
              let here : IsPortOf plan a p (Frag f) = subst (λ (z : Plan). IsPortOf z a p (Frag f)) on-plan port in
              opened-kept w next (1 + length done) d good.fine a g r role_w (event-grows w d) does-all clock n event s h.stands.whole h.broken (λ (i : ℕ). i ≡ incarnation) (came incarnation n h.stands.up h.stands.inc) p f port (reads-it w.plan a p f port.there)
              (subst (λ (z : Plan). KnowsNoNewer z w a p (Frag f)) (sym on-plan) (none-newer plan done can.plan a p (Frag f) here)) (λ q at. subst (λ (z : Plan). IsLevelIn (λ (i : ℕ). i ≡ incarnation) z a f (length q.inlet.held.stable) w) (sym on-plan) (h.level p f q here at));
        } in
        record {
          late = later-on script events can live well a g r role_a done rest d is late;
          kept = subst (λ (v : World). IsKeptWorld incarnation (λ (i : ℕ). i ≡ incarnation) plan a v) (sym push) (subst (λ (z : Plan). IsKeptWorld incarnation (λ (i : ℕ). i ≡ incarnation) z a next) on-plan kept);
        }

  -- ---- the adoption

  -- by this event a goes on from a snapshot that is good
  pub adopted-rests : (done rest : List Event) (k : ℕ) (n m : PlainNode) → events ≡ done ++ Deliver k ∷ rest → length script.phases + 4 ≤ (progress script done).phase → (slot_of (run plan done) a).node ≡ Some n → n.recovering ≡ true → (slot_of (happens (run plan done) (Deliver k)) a).node ≡ Some m → m.recovering ≡ false →
      ((i try p f : ℕ) (e : Envelope) (s : Snap) → slice_get (run plan done).envelopes k ≡ Some e → e.to ≡ a → e.packet ≡ SnapFor i try s → i ≡ n.grants.inc → try ≡ n.tries → IsPortOf plan a p (Frag f) → IsLevelIn (λ (j : ℕ). j ≡ n.grants.inc) plan a f (length (nth [] s.inputs p)) (run plan done)) →
      IsResting n.grants.inc (done ++ Deliver k ∷ [])
  adopted-rests done rest k n m is late up recovers now whole good =
      let w = run plan done in
      let push = run-push plan done (Deliver k) in
      let role_w : role_of w.plan a ≡ IsNode g r = ap (λ (z : Plan). role_of z a) (run-plan plan done) ∙ role_a in
      let was = was-adopted w (happens w (Deliver k)) (home_of w.plan (g, r)) a k n m up recovers now whole (replica-does w (1 + length done) (run-good plan done can.plan).fine a g r role_w (Deliver k)) in
      let it = was.it in
      let inc = inc-on script events can live well a g r role_a done rest (Deliver k) is late n m up now in
      record {
        late = later-on script events can live well a g r role_a done rest (Deliver k) is late;
        stands = record { node = m; up = ap (λ (y : World). (slot_of y a).node) push ∙ now; inc = inc; whole = whole };
        broken = it.broken;
        level = λ p f q port at.
            let count = length (nth [] it.snap.inputs p) in
            let held : q.inlet.held.stable ≡ nth [] it.snap.inputs p = it.holds p q (sym (ap (λ (o : Option PlainNode). node_port p o) now) ∙ ap (λ (y : World). port_at y a p) (sym push) ∙ at) in
            let level = good it.inc it.try p f was.envelope it.snap was.there was.to it.packet_is it.inc_is it.try_is port in
            subst (λ (y : World). IsLevelIn (λ (i : ℕ). i ≡ n.grants.inc) plan a f (length q.inlet.held.stable) y) (sym push)
            (subst (λ (c : ℕ). IsLevelIn (λ (i : ℕ). i ≡ n.grants.inc) plan a f c (happens (run plan done) (Deliver k))) (sym (ap (λ (ts : List Tuple). length ts) held))
            (level-on script events can live well a g r role_a p f port n.grants.inc count count (omega arith) done rest (Deliver k) is late n m up now (λ clock event. let clash : Deliver k ≡ Tick a clock = event in cc) refl level));
      }
