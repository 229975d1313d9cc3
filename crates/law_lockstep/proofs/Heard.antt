-- So in the one-thread journal who does not recover hears every beat, and a calm one is steady.
use Rattle.std.proofs.Common.{◌≡◌, ℕ, zero, suc, ◌+◌, ◌<◌, ◌≤◌, ◌==◌, true, false, List, [], ◌∷◌, ◌++◌, map, length, refl, sym, ap, subst, ◌∙◌, arith, Option, Some, None, slice_get}
use Rattle.std.specs.Prelude.{IfSome}
use Rattle.std.proofs.lemmas.List.{append-nil, append_assoc}
use Rattle.std.proofs.lemmas.Option.{slice_get_within}
use Rattle.dpc_lists.specs.Lists.{nth}
use Rattle.dpc_model.specs.Actors.{role_of, inputs_of, senders_of}
use Rattle.dpc_model.specs.Ports.{Port}
use Rattle.dpc_model.specs.Replicas.{Watch}
use Rattle.dpc_model.specs.declared.actors.Role.{Role}
use Rattle.dpc_model.specs.declared.actors.Role.TheVariants.{Source as IsSource, Node as IsNode, Client as IsClient, Nobody}
use Rattle.dpc_model.specs.declared.messages.Event.{Event}
use Rattle.dpc_model.specs.declared.messages.Event.TheVariants.{Phase, Emit, Release, Cut, Heal, Crash, Restart, Deliver, Tick, Mill}
use Rattle.dpc_model.specs.declared.plans.ClientSpec.{ClientSpec}
use Rattle.dpc_model.specs.declared.plans.Plan.{Plan}
use Rattle.dpc_model.specs.declared.plans.StreamRef.{StreamRef}
use Rattle.dpc_model.specs.declared.plans.StreamRef.TheVariants.{Source, Frag}
use Rattle.dpc_model.specs.declared.scripts.Script.{Script}
use Rattle.node_model.specs.Nodes.{PlainNode, streams_of}
use Rattle.world_model.specs.Orderly.{is_port_sound, are_ports_sound}
use Rattle.world_model.specs.Worlds.{World, home_of, slot_of, client_at, happens, run_from, run, new_world}
use Rattle.world_model.specs.Schedules.{Progress, first_progress, next_progress, progress, is_live_so_far, is_live, lockstep_journal, settling_phases}
use Rattle.world_model.specs.Steady.{NoneThree, IsHeardAt, AreHeard, HeardBy, TickIsHeard, phase_at, SteadyFrom, IsSteady, OpensWell}
use Rattle.dpc_lists.proofs.Truths.{both}
use Rattle.law_safety.proofs.Happening.{node-here}
use Rattle.law_safety.proofs.Numbering.{home-inputs}
use Rattle.law_safety.proofs.Worlding.{client-below}
use Rattle.law_granting.specs.Taken.{node_port, role_port, port_of}
use Rattle.law_schedules.proofs.Journals.{live-far, prefix-live, phases-counted, progress-run}
use Rattle.law_schedules.proofs.Lockstep.{lock-live}
use Rattle.law_readers.specs.Newest.{IsPortOf}
use Rattle.law_readers.specs.Settling.{CanSettle}
use Rattle.law_readers.proofs.Known.{run-clients}
use Rattle.law_settling.specs.Rests.{RestsPast}
use Rattle.law_settling.proofs.Steadily.{well-part, rests-along}
use Rattle.law_settling.proofs.Along.{progress-push, running-along, phase_after, phase-from}
use Rattle.law_settling.proofs.Lines.{reading-of}
use Rattle.law_settling.proofs.Promises.{IsOpenAt, open-of}
use Rattle.law_settling.proofs.Waitings.{is_due, comes}
use Rattle.law_settling_readers.specs.Streams.{HearsPast}
use Rattle.law_settling_readers.proofs.Readers.{reader-of}
use Rattle.law_settling_readers.proofs.Watched.{port-watched}
use Rattle.law_lockstep.specs.Calm.{CalmFrom, IsCalm, RestingReadersHear}
use Rattle.law_lockstep.proofs.Tidy.{is_tidy, lock-tidy}
use Rattle.law_lockstep.proofs.Waiting.{within-tick}
use Rattle.law_lockstep.proofs.Order.{none-ticked, nothing-due}
use Rattle.law_lockstep.proofs.Seeing.{calm-rests, seen-along}

-- ---- lists

none-three : (ws : List Watch) → ((i : ℕ) (u : Watch) → slice_get ws i ≡ Some u → u.ticks ≤ 1) → NoneThree ws
none-three [] h = tt
none-three (w ∷ ws) h = (λ three. let few = h 0 w refl in omega (arith, few, three), none-three ws (λ i u at. h (suc i) u at))

all-heard : (ports : List Port) → ((p : ℕ) (q : Port) → slice_get ports p ≡ Some q → IsHeardAt q) → AreHeard ports
all-heard [] h = tt
all-heard (q ∷ ports) h = (h 0 q refl, all-heard ports (λ p y at. h (suc p) y at))

-- each port of a node reads a stream
port-reads : (plan : Plan) (i most p : ℕ) (q : Port) (ss : List StreamRef) (ports : List Port) → are_ports_sound plan i most ss ports ≡ true → slice_get ports p ≡ Some q → (s : StreamRef) × (slice_get ss p ≡ Some s)
port-reads plan i most p q ss [] sound at = cc
port-reads plan i most p q [] (y ∷ ports) sound at = cc
port-reads plan i most zero q (s ∷ ss) (y ∷ ports) sound at = (s, refl)
port-reads plan i most (suc p) q (s ∷ ss) (y ∷ ports) sound at = port-reads plan i most p q ss ports (both (is_port_sound plan s i most y) (are_ports_sound plan i most ss ports) sound).1 at

-- and a client's port
client-reads : (cs : List ClientSpec) (c : ℕ) → c < length cs → (s : StreamRef) × (slice_get (nth [] (map (λ (client : ClientSpec). client.input ∷ []) cs) c) 0 ≡ Some s)
client-reads [] c low = absurd (omega (arith, low))
client-reads (client ∷ cs) zero low = (client.input, refl)
client-reads (client ∷ cs) (suc c) low = client-reads cs c (omega (arith, low))

-- ---- a tick

module _ (script : Script) (events : List Event) (can : CanSettle script) (live : is_live_so_far script events ≡ true) (well : OpensWell script events)
    (unticked : (done rest : List Event) (m : ℕ) → events ≡ done ++ Deliver m ∷ rest → (progress script done).ticked ≡ [])
    (undue : (done rest : List Event) (a now m : ℕ) → events ≡ done ++ Tick a now ∷ rest → ((progress script done).phase == 0) ≡ false → m < length (progress script done).world.envelopes → comes (progress script done).world m ≡ true → is_due m (progress script done).waiting ≡ true → ⊥)
    (x floor : ℕ) (late : length script.phases < floor) (rests : RestsPast script events x floor) where
  module _ (done rest : List Event) (now : ℕ) (is : events ≡ done ++ Tick x now ∷ rest) (far : floor < (progress script done).phase) where
    -- the state behind it
    abbrev Next : Progress
    Next = next_progress script (progress script done) (Tick x now)

    open-next : IsOpenAt script Next
    open-next =
        let push = progress-push script done (Tick x now) in
        let later : events ≡ (done ++ Tick x now ∷ []) ++ rest = is ∙ sym (append_assoc done (Tick x now ∷ []) rest) in
        let far_next : floor < (progress script (done ++ Tick x now ∷ [])).phase = subst (λ (y : Progress). floor < y.phase) (sym push) far in
        subst (IsOpenAt script) push (open-of script can (progress script (done ++ Tick x now ∷ [])) (running-along script events live well (done ++ Tick x now ∷ []) rest later (omega (arith, far_next, late))))

    many-next : length Next.world.clients ≡ length Next.world.plan.clients
    many-next =
        let push = progress-push script done (Tick x now) in
        subst (λ (y : Progress). length y.world.clients ≡ length script.plan.clients) push (subst (λ (w : World). length w.clients ≡ length script.plan.clients) (sym (progress-run script (done ++ Tick x now ∷ []))) (run-clients script.plan (done ++ Tick x now ∷ [])))
        ∙ ap (λ (pl : Plan). length pl.clients) (sym open-next.of_plan)

    -- a port of the reader
    port-is-heard : (p : ℕ) (s : StreamRef) (q : Port) → slice_get (inputs_of Next.world.plan (role_of Next.world.plan x)) p ≡ Some s → port_of Next.world x p ≡ Some q → IsHeardAt q
    port-is-heard p s q reads there several =
        let h = open-next in
        let plan = script.plan in
        let reads_plan : slice_get (inputs_of plan (role_of plan x)) p ≡ Some s = subst (λ (pl : Plan). slice_get (inputs_of pl (role_of pl x)) p ≡ Some s) h.of_plan reads in
        let port : IsPortOf plan x p s = record { there = reads_plan; only = λ j at. can.once x j p s at reads_plan } in
        let port_next = subst (λ (pl : Plan). IsPortOf pl x p s) (sym h.of_plan) port in
        let watched = port-watched Next.world h.most x p s h.fine many-next port_next q there in
        by-stream s port (watched.1 ∙ ap (λ (pl : Plan). length (senders_of pl s)) h.of_plan)
      where
        by-stream : (s : StreamRef) → IsPortOf script.plan x p s → length q.watches ≡ length (senders_of script.plan s) → NoneThree q.watches
        by-stream (Source v) port many = let one = (reading-of script.plan x p v can.plan port).1.one in absurd (omega (arith, several, many, one))
        by-stream (Frag f) port many =
            let reader = reader-of script.plan x p f can.once port in
            none-three q.watches (λ i u at.
            let inside = slice_get_within q.watches i u at in
            within-tick script x p f reader.0 i (omega (arith, inside, many)) events floor late live unticked undue
            (λ before after split far_on. seen-along script events x p f reader.0 can reader.1 live well before after split far_on)
            (λ before after split far_on. rests-along script events x floor live rests before after split far_on) done rest now is far q there u at)

    pub heard-by : HeardBy Next.world x (role_of Next.world.plan x)
    heard-by = by-role (role_of Next.world.plan x) refl
      where
        by-role : (role : Role) → role_of Next.world.plan x ≡ role → HeardBy Next.world x role
        by-role (IsSource v) role = tt
        by-role Nobody role = tt
        by-role (IsNode f r) role = by-node (slot_of Next.world x).node refl
          where
            by-node : (o : Option PlainNode) → (slot_of Next.world x).node ≡ o → IfSome o (λ (n : PlainNode). AreHeard n.ports)
            by-node None up = tt
            by-node (Some n) up =
                let h = open-next in
                let home = home_of Next.world.plan (f, r) in
                let good = node-here Next.world h.most x f r n h.fine role up in
                all-heard n.ports (λ p q at.
                let reads = port-reads Next.world.plan n.grants.inc h.most p q (streams_of home) n.ports good.orderly.ports at in
                let streams : slice_get (inputs_of Next.world.plan (role_of Next.world.plan x)) p ≡ Some reads.0 = ap (λ (z : Role). slice_get (inputs_of Next.world.plan z) p) role ∙ ap (λ (ss : List StreamRef). slice_get ss p) (home-inputs home r) ∙ reads.1 in
                port-is-heard p reads.0 q streams (ap (λ (z : Role). role_port Next.world x p z) role ∙ ap (λ (o : Option PlainNode). node_port p o) up ∙ at))
        by-role (IsClient c) role =
            let reads = client-reads Next.world.plan.clients c (client-below Next.world.plan x c role) in
            port-is-heard 0 reads.0 (client_at Next.world c).port (ap (λ (z : Role). slice_get (inputs_of Next.world.plan z) 0) role ∙ reads.1) (ap (λ (z : Role). role_port Next.world x 0 z) role)

  -- each tick of the reader past that phase
  pub hears-past : HearsPast script events x floor
  hears-past done rest now is far =
      let counted = phases-counted script done (prefix-live script done (Tick x now ∷ rest) (subst (λ (es : List Event). is_live_so_far script es ≡ true) is live)) in
      subst (λ (w : World). TickIsHeard (happens w (Tick x now)) (Tick x now)) (progress-run script done) (heard-by done rest now is (omega (arith, far, counted)))

-- ---- a beginning of a journal in which nothing is due when one ticks

pub tidy-hears : (script : Script) (whole events later : List Event) → CanSettle script → is_live script whole ≡ true → is_tidy false whole ≡ true → whole ≡ events ++ later → OpensWell script events → (x floor : ℕ) → length script.phases < floor → RestsPast script events x floor → HearsPast script events x floor
tidy-hears script whole events later can live tidy is well x floor late rests =
    let so_far = prefix-live script events later (subst (λ (es : List Event). is_live_so_far script es ≡ true) is (live-far script whole live)) in
    hears-past script events can so_far well (λ done rest m at. none-ticked script whole live tidy done (rest ++ later) m (longer done (Deliver m ∷ rest) at)) (λ done rest a now m at. nothing-due script whole live tidy done (rest ++ later) a now m (longer done (Tick a now ∷ rest) at)) x floor late rests
  where
    longer : (done more : List Event) → events ≡ done ++ more → whole ≡ done ++ (more ++ later)
    longer done more at = is ∙ ap (λ (es : List Event). es ++ later) at ∙ append_assoc done more later

-- ---- the whole journal

steady-from : (script : Script) (p : ℕ) (w : World) (events : List Event) → CalmFrom script p w events →
    ((done rest : List Event) (e : Event) → events ≡ done ++ e ∷ rest → length script.phases + settling_phases < phase_at (phase_after p done) e → TickIsHeard (happens (run_from w done) e) e) → SteadyFrom script p w events
steady-from script p w [] calm heard = tt
steady-from script p w (e ∷ events) calm heard = (
  λ far. (calm.0 far, heard [] events e refl far),
  steady-from script (phase_at p e) (happens w e) events calm.1 (λ done rest d is far. heard (e ∷ done) rest d (ap (λ (es : List Event). e ∷ es) is) far),
)

-- a tick of anybody in a calm one
event-heard : (script : Script) (events : List Event) → CanSettle script → is_live script events ≡ true → is_tidy false events ≡ true → OpensWell script events → IsCalm script events → (done rest : List Event) (e : Event) → events ≡ done ++ e ∷ rest → length script.phases + settling_phases < phase_at (progress script done).phase e → TickIsHeard (happens (run script.plan done) e) e
event-heard script events can live tidy well calm done rest (Tick a now) is far =
    let so_far = live-far script events live in
    let counted = phases-counted script done (prefix-live script done (Tick a now ∷ rest) (subst (λ (es : List Event). is_live_so_far script es ≡ true) is so_far)) in
    tidy-hears script events events [] can live tidy (sym (append-nil events)) well a (length script.phases + settling_phases) (omega arith) (calm-rests script events so_far calm a) done rest now is (omega (arith, far, counted))
event-heard script events can live tidy well calm done rest (Phase p) is far = tt
event-heard script events can live tidy well calm done rest (Emit s t) is far = tt
event-heard script events can live tidy well calm done rest (Release s t) is far = tt
event-heard script events can live tidy well calm done rest (Cut a b) is far = tt
event-heard script events can live tidy well calm done rest (Heal a b) is far = tt
event-heard script events can live tidy well calm done rest (Crash a) is far = tt
event-heard script events can live tidy well calm done rest (Restart a i) is far = tt
event-heard script events can live tidy well calm done rest (Deliver j) is far = tt
event-heard script events can live tidy well calm done rest (Mill a r) is far = tt

pub tidy-steady : (script : Script) (events : List Event) → CanSettle script → is_live script events ≡ true → is_tidy false events ≡ true → OpensWell script events → IsCalm script events → IsSteady script events
unfolding run progress
tidy-steady script events can live tidy well calm =
    steady-from script 0 (new_world script.plan) events calm (λ done rest e is far.
    let phase : (progress script done).phase ≡ phase_after 0 done = phase-from script (first_progress script) done in
    event-heard script events can live tidy well calm done rest e is (subst (λ (n : ℕ). length script.phases + settling_phases < phase_at n e) (sym phase) far))

pub lock-steady : (script : Script) → CanSettle script → OpensWell script (lockstep_journal script) → IsCalm script (lockstep_journal script) → IsSteady script (lockstep_journal script)
lock-steady script can well calm = tidy-steady script (lockstep_journal script) can (lock-live script) (lock-tidy script) well calm

pub lock-hears : (script : Script) → RestingReadersHear script
lock-hears script can well events later x floor is late rests = tidy-hears script (lockstep_journal script) events later can (lock-live script) (lock-tidy script) is (well-part script (lockstep_journal script) events later is well) x floor late rests
