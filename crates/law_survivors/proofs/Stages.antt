-- In the one-thread journal: what may still come to a replica that recovers. In the phase of its loss it sends no subscription any more; in the
-- next one none of it comes, and in the one behind that no refusal; and a snapshot comes no sooner.
use Rattle.std.proofs.Common.{◌≡◌, ℕ, zero, suc, ◌+◌, ◌<◌, ◌≤◌, Bool, true, List, [], ◌∷◌, ◌++◌, length, refl, sym, ap, subst, ◌∙◌, arith, Option, Some, None, slice_get, ◌⊎◌, inl, inr}
use Rattle.std.proofs.lemmas.List.{append-nil, length-append}
use Rattle.std.proofs.lemmas.Option.{slice_get_within}
use Rattle.dpc_lists.proofs.Each.{Each}
use Rattle.dpc_lists.proofs.Elements.{get-first}
use Rattle.dpc_lists.proofs.Somes.{some-same}
use Rattle.dpc_lists.proofs.Truths.{eq-of, true-not-false}
use Rattle.dpc_model.specs.Actors.{role_of, inputs_of, sends_stream}
use Rattle.dpc_model.specs.declared.actors.Role.{Role}
use Rattle.dpc_model.specs.declared.actors.Role.TheVariants.{Source as IsSource, Node as IsNode, Client as IsClient, Nobody}
use Rattle.dpc_model.specs.declared.messages.Event.{Event}
use Rattle.dpc_model.specs.declared.messages.Event.TheVariants.{Phase, Emit, Release, Cut, Heal, Crash, Restart, Deliver, Tick, Mill}
use Rattle.dpc_model.specs.declared.messages.Sess.{Sess}
use Rattle.dpc_model.specs.declared.messages.Subscribe.{Subscribe}
use Rattle.dpc_model.specs.declared.messages.Message.TheVariants as message
use Rattle.dpc_model.specs.declared.plans.Plan.{Plan}
use Rattle.dpc_model.specs.declared.plans.StreamRef.{StreamRef}
use Rattle.dpc_model.specs.declared.plans.StreamRef.TheVariants.{Source, Frag}
use Rattle.dpc_model.specs.declared.scripts.Script.{Script}
use Rattle.dpc_model.proofs.Numbers.{le-or}
use Rattle.node_model.specs.Mails.{Packet, Plain, SnapFor, Snap, Stepped}
use Rattle.node_model.specs.Nodes.{Home, PlainNode, streams_of}
use Rattle.node_model.specs.NodeSteps.{packet_step, mill_step, tick_step}
use Rattle.world_model.specs.Worlds.{World, Envelope, Slot, home_of, slot_of, happens, run}
use Rattle.world_model.specs.Schedules.{Progress, next_progress, progress, may_follow, is_live_so_far, lockstep_journal}
use Rattle.world_model.specs.Steady.{OpensWell}
use Rattle.world_model.specs.Events.{is_quiet}
use Rattle.world_model.proofs.Running.{run-push}
use Rattle.law_safety.proofs.Distinct.{readers-distinct}
use Rattle.law_safety.proofs.Numbering.{home-inputs}
use Rattle.law_safety.proofs.Growing.{Grows, event-grows, run-plan}
use Rattle.law_safety.proofs.Law.{run-good}
use Rattle.law_safety.proofs.Pointwise.{sender-of}
use Rattle.law_safety.proofs.Senders.{sender_sends}
use Rattle.law_granting.proofs.Slots.{got-sent}
use Rattle.law_readers.specs.Newest.{IsPortOf}
use Rattle.law_readers.specs.Settling.{CanSettle}
use Rattle.law_readers.specs.Sure.{SourcesSendSurely, SendsSurely}
use Rattle.law_readers.proofs.Surely.{sources-sure}
use Rattle.law_schedules.proofs.Journals.{live-far, progress-run}
use Rattle.law_schedules.proofs.Lockstep.{lock-live}
use Rattle.law_settling.proofs.Along.{every-prefix, progress-push, live-may, running-along}
use Rattle.law_settling.proofs.Promises.{IsOpenAt, open-of}
use Rattle.law_settling.proofs.Ports.{node-there}
use Rattle.law_settling.proofs.Splitting.{Opens, stays, in-quiet, quiet-goes}
use Rattle.law_lockstep.proofs.Tidy.{lock-tidy}
use Rattle.law_lockstep.proofs.Order.{none-ticked}
use Rattle.law_survivors.proofs.Doing.{HasStepped, ReplicaDoes, replica-does}
use Rattle.law_survivors.proofs.Good.{came-so}
use Rattle.law_survivors.proofs.Pending.{marks, marks_by, marks-push, MarkedBy, comes-behind}
use Rattle.law_survivors.proofs.Recovering.{inc-still}
use Rattle.law_survivors.proofs.Spared.{reads-it}
use Rattle.law_survivors.proofs.Steps.{refuses-new}
use Rattle.law_survivors.proofs.Tries.{packet-refused, milled-status, ticked-tries, MailSays, PacketSays, packet-says, milled-says, ticked-says}
use Rattle.law_survivors.proofs.Tried.{IsTriedAt, AreTried, ask-new, snap-new, tried-run}

-- ---- what was sent below a number

-- the subscriptions of a
abbrev pub SubsBelow : ℕ → World → ℕ → Type 0
SubsBelow a w high = (k : ℕ) (e : Envelope) (asks : Subscribe) → slice_get w.envelopes k ≡ Some e → e.sender ≡ a → e.packet ≡ Plain (message.Subscribe asks) → k < high

-- the refusals of streams that it reads
abbrev pub RefusalsBelow : Plan → ℕ → World → ℕ → Type 0
RefusalsBelow plan a w high =
    (k base p f c : ℕ) (e : Envelope) (u : Sess) → IsPortOf plan a p (Frag f) → slice_get w.envelopes k ≡ Some e → role_of plan e.sender ≡ IsNode f c → e.to ≡ a → e.packet ≡ Plain (message.Truncated u base) → k < high

-- the snapshots for a try of a have this number, or a greater one
abbrev pub SnapsFrom : Plan → ℕ → ℕ → World → ℕ → ℕ → ℕ → Type 0
SnapsFrom plan a g w i try low = (k c : ℕ) (e : Envelope) (s : Snap) → slice_get w.envelopes k ≡ Some e → role_of plan e.sender ≡ IsNode g c → e.to ≡ a → e.packet ≡ SnapFor i try s → low ≤ k

-- there is none
abbrev pub NoSnap : Plan → ℕ → ℕ → World → ℕ → ℕ → Type 0
NoSnap plan a g w i try = (k c : ℕ) (e : Envelope) (s : Snap) → slice_get w.envelopes k ≡ Some e → role_of plan e.sender ≡ IsNode g c → e.to ≡ a → e.packet ≡ SnapFor i try s → ⊥

-- nor did a ask for one
abbrev pub NoAsk : ℕ → World → ℕ → ℕ → Type 0
NoAsk a w i try = (k : ℕ) (e : Envelope) → slice_get w.envelopes k ≡ Some e → e.sender ≡ a → e.packet ≡ Plain (message.SnapAsk i try) → ⊥

pub get-low : {X : Type 0} (xs : List X) (i : ℕ) → i < length xs → (y : X) × (slice_get xs i ≡ Some y)
get-low [] i low = absurd (omega (arith, low))
get-low (y ∷ xs) zero low = (y, refl)
get-low (y ∷ xs) (suc i) low = get-low xs i (omega (arith, low))

-- an envelope is an old one, or its number is new
old-or : (w next : World) (k : ℕ) (e : Envelope) → Grows w next → slice_get next.envelopes k ≡ Some e → (slice_get w.envelopes k ≡ Some e) ⊎ (length w.envelopes ≤ k)
old-or w next k e grows there =
    elim (le-or (length w.envelopes) k) [
      | inl high ↦ inr high
      | inr low ↦
          let y = get-low w.envelopes k low in
          let same : slice_get next.envelopes k ≡ Some y.0 = ap (λ (es : List Envelope). slice_get es k) grows.envelopes ∙ get-first w.envelopes grows.more k y.0 y.1 in
          inl (y.1 ∙ ap {B = Option Envelope} Some (some-same y.0 e (sym same ∙ there)))
    ]

-- ---- an event

module _ (plan : Plan) (w next : World) (d : Event) (a g r : ℕ) (does : (t f c : ℕ) → role_of plan t ≡ IsNode f c → ReplicaDoes w (home_of plan (f, c)) t d next) (role : role_of plan a ≡ IsNode g r) where
  abbrev Here : Home
  Here = home_of plan (g, r)

  abbrev Any : ℕ → ℕ → Type 0
  Any i try = Unit {0}

  abbrev AnySnap : ℕ → ℕ → ℕ → Snap → Type 0
  AnySnap to i try s = Unit {0}

  -- a subscribes by a tick alone, behind which it does not recover
  abbrev pub IsSilent : Type 0
  IsSilent = (clock : ℕ) (m : PlainNode) → d ≡ Tick a clock → (slot_of next a).node ≡ Some m → m.recovering ≡ true

  by-mails : (n : PlainNode) (t : Stepped PlainNode) → HasStepped w next a n t → Each (MailSays ⊥ Any AnySnap) t.sends → (k : ℕ) (e : Envelope) (asks : Subscribe) → slice_get next.envelopes k ≡ Some e → e.packet ≡ Plain (message.Subscribe asks) → slice_get w.envelopes k ≡ Some e
  by-mails n t s each k e asks there packet =
      elim (got-sent (MailSays ⊥ Any AnySnap) a w.envelopes t.sends k e each (sym (ap (λ (es : List Envelope). slice_get es k) s.sends) ∙ there)) [
        | inl old ↦ old
        | inr (m, of, says) ↦ absurd (subst (λ (z : Packet). PacketSays ⊥ Any (AnySnap e.to) z) packet (subst (λ (z : Envelope). PacketSays ⊥ Any (AnySnap z.to) z.packet) (sym of) says))
      ]

  sub-old : IsSilent → (k : ℕ) (e : Envelope) (asks : Subscribe) → slice_get next.envelopes k ≡ Some e → e.sender ≡ a → e.packet ≡ Plain (message.Subscribe asks) → slice_get w.envelopes k ≡ Some e
  sub-old silent k e asks there mine packet = by-does (does a g r role)
    where
      by-does : ReplicaDoes w Here a d next → slice_get w.envelopes k ≡ Some e
      by-does (ReplicaDoes.Rests slot sends) = sends k e there mine
      by-does (ReplicaDoes.Falls crash down last sends) = sends k e there mine
      by-does (ReplicaDoes.Starts i newer down now last sends) = sends k e there mine
      by-does (ReplicaDoes.Takes j f n event at can to s) = by-mails n (packet_step Here f.sender f.packet n) s (packet-says Here ⊥ Any AnySnap f.sender f.packet n (λ t i try y z. tt)) k e asks there packet
      by-does (ReplicaDoes.Ticks clock n event s) =
          by-mails n (tick_step Here clock n) s (ticked-says Here ⊥ Any AnySnap clock n (λ y. tt) (λ whole. true-not-false (sym (silent clock (tick_step Here clock n).after event s.now) ∙ whole))) k e asks there packet
      by-does (ReplicaDoes.Mills j n s) = by-mails n (mill_step Here j n) s (milled-says Here ⊥ Any AnySnap j n) k e asks there packet

  pub subs-on : (high : ℕ) → IsSilent → SubsBelow a w high → SubsBelow a next high
  subs-on high silent h k e asks there mine packet = h k e asks (sub-old silent k e asks there mine packet) mine packet

  -- no subscription of a comes
  abbrev pub NoneComes : Type 0
  NoneComes = (k : ℕ) (e : Envelope) (asks : Subscribe) → d ≡ Deliver k → slice_get w.envelopes k ≡ Some e → e.sender ≡ a → e.packet ≡ Plain (message.Subscribe asks) → ⊥

  pub refusals-on : (high : ℕ) → NoneComes → RefusalsBelow plan a w high → RefusalsBelow plan a next high
  refusals-on high none h k base p f c e u port there from to packet =
      let reader = reads-it plan a p f port.there in
      elim (refuses-new w next (home_of plan (f, c)) e.sender d a reader.place (readers-distinct plan (Frag f)) reader.low reader.it (does e.sender f c from) k base e u there refl to packet) [
        | inl old ↦ h k base p f c e u port old from to packet
        | inr n ↦ absurd (none n.place n.envelope n.asked n.event n.there n.reader n.packet)
      ]

  -- a snapshot is an old one, or answers an ask that comes
  pub snap-or : (k i try c : ℕ) (e : Envelope) (s : Snap) → slice_get next.envelopes k ≡ Some e → role_of plan e.sender ≡ IsNode g c → e.to ≡ a → e.packet ≡ SnapFor i try s →
      (slice_get w.envelopes k ≡ Some e) ⊎ ((j : ℕ) × (f : Envelope) × (d ≡ Deliver j) × (slice_get w.envelopes j ≡ Some f) × (f.sender ≡ a) × (f.packet ≡ Plain (message.SnapAsk i try)))
  snap-or k i try c e s there from to packet =
      elim (snap-new w next d g plan e.sender c (does e.sender g c from) k i try e s there refl packet) [
        | inl old ↦ inl old
        | inr n ↦ inr (n.place, n.envelope, n.event, n.there, sym n.answer.to_is ∙ to, n.answer.asked)
      ]

  -- an ask is an old one, or sent by a tick
  pub ask-or : (k i try : ℕ) (e : Envelope) → slice_get next.envelopes k ≡ Some e → e.sender ≡ a → e.packet ≡ Plain (message.SnapAsk i try) → (slice_get w.envelopes k ≡ Some e) ⊎ ((clock : ℕ) × (d ≡ Tick a clock))
  ask-or k i try e there mine packet =
      elim (ask-new w next d a g r plan (does a g r role) k i try e there mine packet) [
        | inl old ↦ inl old
        | inr n ↦ inr (n.clock, n.tick)
      ]

  -- a try begins: a refusal came
  pub record WasRefused : Type 0 where
    pub place : ℕ
    pub envelope : Envelope
    pub event : d ≡ Deliver place
    pub there : slice_get w.envelopes place ≡ Some envelope
    pub port : ℕ
    pub stream : StreamRef
    pub base : ℕ
    pub sess : Sess
    pub reads : slice_get (streams_of Here) port ≡ Some stream
    pub sends : sends_stream stream (role_of plan envelope.sender) ≡ true
    pub to : envelope.to ≡ a
    pub packet : envelope.packet ≡ Plain (message.Truncated sess base)

  pub was-refused : (n m : PlainNode) → (slot_of w a).node ≡ Some n → (slot_of next a).node ≡ Some m → m.tries ≡ n.tries + 1 → WasRefused
  was-refused n m up now more = by-does (does a g r role)
    where
      same : n.tries ≡ m.tries → WasRefused
      same e = absurd (omega (arith, e, more))

      by-does : ReplicaDoes w Here a d next → WasRefused
      by-does (ReplicaDoes.Rests slot sends) = same (ap (λ (z : PlainNode). z.tries) (some-same n m (sym up ∙ sym (ap (λ (z : Slot). z.node) slot) ∙ now)))
      by-does (ReplicaDoes.Falls crash down last sends) = let clash : ◌≡◌ {A = Option PlainNode} None (Some m) = sym down ∙ now in cc
      by-does (ReplicaDoes.Starts i newer down begun last sends) = let clash : ◌≡◌ {A = Option PlainNode} None (Some n) = sym down ∙ up in cc
      by-does (ReplicaDoes.Ticks clock v tick s) = same (ap (λ (z : PlainNode). z.tries) (some-same n v (sym up ∙ s.up)) ∙ sym (ticked-tries Here clock v).0 ∙ ap (λ (z : PlainNode). z.tries) (some-same (tick_step Here clock v).after m (sym s.now ∙ now)))
      by-does (ReplicaDoes.Mills q v s) = same (ap (λ (z : PlainNode). z.tries) (some-same n v (sym up ∙ s.up)) ∙ sym (ap (λ (z : ℕ × Bool). z.0) (milled-status Here q v)) ∙ ap (λ (z : PlainNode). z.tries) (some-same (mill_step Here q v).after m (sym s.now ∙ now)))
      by-does (ReplicaDoes.Takes i e v came at can to s) =
          let before = some-same v n (sym s.up ∙ up) in
          let after = some-same (packet_step Here e.sender e.packet v).after m (sym s.now ∙ now) in
          let refused = packet-refused Here e.sender e.packet v (ap (λ (z : PlainNode). z.tries) after ∙ more ∙ ap (λ (z : PlainNode). z.tries + 1) (sym before)) in
          let it = sender-of plan (streams_of Here) e.sender refused.port refused.replica refused.sender in
          record {
            place = i;
            envelope = e;
            event = came;
            there = at;
            port = refused.port;
            stream = it.stream;
            base = refused.base;
            sess = refused.sess;
            reads = it.at;
            sends = sender_sends plan it.stream e.sender refused.replica it.place;
            to = to;
            packet = refused.packet_is;
          }

-- ---- marks

pub marks-few : (plan : Plan) (es : List Event) → ((marks plan es).0 ≤ (marks plan es).1) × ((marks plan es).1 ≤ length (run plan es).envelopes)
marks-few plan es = every-prefix es (λ (done : List Event). ((marks plan done).0 ≤ (marks plan done).1) × ((marks plan done).1 ≤ length (run plan done).envelopes)) (omega arith, omega arith) (λ done rest e is h. by-push done e h) es [] (sym (append-nil es))
  where
    more : (w : World) (e : Event) → length w.envelopes ≤ length (happens w e).envelopes
    more w e = let grows = event-grows w e in let same = ap (λ (xs : List Envelope). length xs) grows.envelopes in let sum = length-append w.envelopes grows.more in omega (arith, same, sum)

    by-event : (w : World) (m : ℕ × ℕ) (e : Event) → (m.0 ≤ m.1) × (m.1 ≤ length w.envelopes) → ((marks_by w m e).0 ≤ (marks_by w m e).1) × ((marks_by w m e).1 ≤ length (happens w e).envelopes)
    by-event w m (Phase p) h = (h.1, omega arith)
    by-event w m (Emit s t) h = let low = h.1 in let k = more w (Emit s t) in (h.0, omega (arith, low, k))
    by-event w m (Release s t) h = let low = h.1 in let k = more w (Release s t) in (h.0, omega (arith, low, k))
    by-event w m (Cut a b) h = let low = h.1 in let k = more w (Cut a b) in (h.0, omega (arith, low, k))
    by-event w m (Heal a b) h = let low = h.1 in let k = more w (Heal a b) in (h.0, omega (arith, low, k))
    by-event w m (Crash a) h = let low = h.1 in let k = more w (Crash a) in (h.0, omega (arith, low, k))
    by-event w m (Restart a i) h = let low = h.1 in let k = more w (Restart a i) in (h.0, omega (arith, low, k))
    by-event w m (Deliver j) h = let low = h.1 in let k = more w (Deliver j) in (h.0, omega (arith, low, k))
    by-event w m (Tick a now) h = let low = h.1 in let k = more w (Tick a now) in (h.0, omega (arith, low, k))
    by-event w m (Mill a r) h = let low = h.1 in let k = more w (Mill a r) in (h.0, omega (arith, low, k))

    by-push : (done : List Event) (e : Event) → ((marks plan done).0 ≤ (marks plan done).1) × ((marks plan done).1 ≤ length (run plan done).envelopes) → ((marks plan (done ++ e ∷ [])).0 ≤ (marks plan (done ++ e ∷ [])).1) × ((marks plan (done ++ e ∷ [])).1 ≤ length (run plan (done ++ e ∷ [])).envelopes)
    by-push done e h =
        subst (λ (m : ℕ × ℕ). (m.0 ≤ m.1) × (m.1 ≤ length (run plan (done ++ e ∷ [])).envelopes)) (sym (marks-push plan done e))
        (subst (λ (v : World). ((marks_by (run plan done) (marks plan done) e).0 ≤ (marks_by (run plan done) (marks plan done) e).1) × ((marks_by (run plan done) (marks plan done) e).1 ≤ length v.envelopes)) (sym (run-push plan done e)) (by-event (run plan done) (marks plan done) e h))

pub quiet-marks : (w : World) (m : ℕ × ℕ) (e : Event) → is_quiet e ≡ true → marks_by w m e ≡ m
quiet-marks w m (Phase p) q = cc
quiet-marks w m (Emit s t) q = cc
quiet-marks w m (Release s t) q = cc
quiet-marks w m (Cut a b) q = cc
quiet-marks w m (Heal a b) q = cc
quiet-marks w m (Crash a) q = cc
quiet-marks w m (Restart a i) q = cc
quiet-marks w m (Deliver k) q = refl
quiet-marks w m (Tick a now) q = refl
quiet-marks w m (Mill a r) q = refl

-- nobody has ticked behind a quiet event: nobody had before it, and it is no tick
none-before : (script : Script) (z : Progress) (a : ℕ) (e : Event) → is_quiet e ≡ true → (next_progress script z e).ticked ≡ [] → (z.ticked ≡ []) × ((clock : ℕ) → e ≡ Tick a clock → ⊥)
none-before script z a (Phase p) q none = cc
none-before script z a (Emit s t) q none = cc
none-before script z a (Release s t) q none = cc
none-before script z a (Cut b c) q none = cc
none-before script z a (Heal b c) q none = cc
none-before script z a (Crash b) q none = cc
none-before script z a (Restart b i) q none = cc
none-before script z a (Deliver k) q none = (none, λ clock e. cc)
none-before script z a (Tick b now) q none = cc
none-before script z a (Mill b r) q none = (none, λ clock e. cc)

-- ---- along the one-thread journal

module _ (script : Script) (can : CanSettle script) (well : OpensWell script (lockstep_journal script)) (a g r : ℕ) (role_a : role_of script.plan a ≡ IsNode g r) where
  abbrev plan : Plan
  plan = script.plan

  abbrev events : List Event
  events = lockstep_journal script

  abbrev live : is_live_so_far script (lockstep_journal script) ≡ true
  live = live-far script (lockstep_journal script) (lock-live script)

  -- ---- what is known of a replica that recovers

  pub record IsYoung (w : World) (m : ℕ × ℕ) (z : Progress) (n : PlainNode) : Type 0 where
    pub subs : SubsBelow a w m.1
    pub snaps : (z.phase ≤ length script.phases + 1) ⊎ (NoSnap plan a g w n.grants.inc n.tries × (z.ticked ≡ [] → NoAsk a w n.grants.inc n.tries))

  pub record IsOlder (w : World) (m : ℕ × ℕ) (z : Progress) (n : PlainNode) : Type 0 where
    pub subs : SubsBelow a w m.0
    pub refusals : RefusalsBelow plan a w m.1
    pub snaps : (z.phase ≤ length script.phases + 2) ⊎ SnapsFrom plan a g w n.grants.inc n.tries m.1

  -- nothing that could refuse it comes any more
  pub record IsFree (w : World) (m : ℕ × ℕ) : Type 0 where
    pub subs : SubsBelow a w m.0
    pub refusals : RefusalsBelow plan a w m.0

  pub data IsStaged (w : World) (m : ℕ × ℕ) (z : Progress) (n : PlainNode) : Type 0 where
    Young : IsYoung w m z n → IsStaged w m z n
    Older : IsOlder w m z n → IsStaged w m z n
    Free : IsFree w m → IsStaged w m z n

  pub record AreStaged (w : World) (m : ℕ × ℕ) (z : Progress) : Type 0 where
    pub fresh : z.ticked ≡ [] → SubsBelow a w m.1
    pub stage : (n : PlainNode) → (slot_of w a).node ≡ Some n → n.recovering ≡ true → IsStaged w m z n

  pub below-more : (w : World) (i j : ℕ) → i ≤ j → SubsBelow a w i → SubsBelow a w j
  below-more w i j le h k e asks there mine packet = let low = h k e asks there mine packet in omega (arith, low, le)

  pub refusals-more : (w : World) (i j : ℕ) → i ≤ j → RefusalsBelow plan a w i → RefusalsBelow plan a w j
  refusals-more w i j le h k base p f c e u port there from to packet = let low = h k base p f c e u port there from to packet in omega (arith, low, le)

  all-subs : (w : World) → SubsBelow a w (length w.envelopes)
  all-subs w k e asks there mine packet = slice_get_within w.envelopes k e there

  pub all-refusals : (w : World) → RefusalsBelow plan a w (length w.envelopes)
  all-refusals w k base p f c e u port there from to packet = slice_get_within w.envelopes k e there

  -- ---- a quiet event

  module _ (done rest : List Event) (d : Event) (is : lockstep_journal script ≡ done ++ d ∷ rest) (far : length script.phases < (progress script done).phase) where
    abbrev w : World
    w = run script.plan done

    abbrev next : World
    next = happens (run script.plan done) d

    abbrev m : ℕ × ℕ
    m = marks script.plan done

    abbrev z : Progress
    z = progress script done

    pub does-all : (t f c : ℕ) → role_of plan t ≡ IsNode f c → ReplicaDoes (run script.plan done) (home_of plan (f, c)) t d (happens (run script.plan done) d)
    does-all t f c role =
        let same = run-plan plan done in
        subst (λ (y : Plan). ReplicaDoes w (home_of y (f, c)) t d next) same (replica-does w (1 + length done) (run-good plan done can.plan).fine t f c (ap (λ (y : Plan). role_of y t) same ∙ role) d)

    marked : MarkedBy (marks script.plan done) d
    marked = comes-behind script done rest d is

    pub here : IsOpenAt script (progress script done)
    here = open-of script can z (running-along script (lockstep_journal script) live well done (d ∷ rest) is far)

    pub node-here : (n : PlainNode) × ((slot_of (run script.plan done) a).node ≡ Some n)
    node-here =
        let node = node-there z.world here.most a g r here.fine here.up (ap (λ (y : Plan). role_of y a) here.of_plan ∙ role_a) in
        (node.0, ap (λ (v : World). (slot_of v a).node) (sym (progress-run script done)) ∙ node.1)

    tried : AreTried plan a g (run script.plan done)
    tried = tried-run plan done can.plan a g r role_a

    pub same-inc : (n o : PlainNode) → (slot_of (run script.plan done) a).node ≡ Some n → (slot_of (happens (run script.plan done) d) a).node ≡ Some o → o.grants.inc ≡ n.grants.inc
    same-inc n o up now = inc-still w next d a g r (subst (λ (y : Plan). ReplicaDoes w (home_of y (g, r)) a d next) (sym (run-plan plan done)) (does-all a g r role_a)) n o up now

    -- what comes lies between the marks
    pub between : (k : ℕ) → d ≡ Deliver k → ((marks script.plan done).0 ≤ k) × (k < (marks script.plan done).1)
    between k event = subst (λ (e : Event). MarkedBy m e) event marked

    pub none-comes : SubsBelow a (run script.plan done) (marks script.plan done).0 → NoneComes plan (run script.plan done) (happens (run script.plan done) d) d a g r does-all role_a
    none-comes h k e asks event there mine packet = let low = h k e asks there mine packet in let high = (between k event).0 in absurd (omega (arith, low, high))

    pub nobody-ticked : (k : ℕ) → d ≡ Deliver k → (progress script done).ticked ≡ []
    nobody-ticked k event = none-ticked script (lockstep_journal script) (lock-live script) (lock-tidy script) done rest k (is ∙ ap (λ (e : Event). done ++ e ∷ rest) event)

    -- ---- what goes on

    pub free-next : IsSilent plan (run script.plan done) (happens (run script.plan done) d) d a g r does-all role_a → IsFree (run script.plan done) (marks script.plan done) → IsFree (happens (run script.plan done) d) (marks script.plan done)
    free-next silent h = record { subs = subs-on plan w next d a g r does-all role_a m.0 silent h.subs; refusals = refusals-on plan w next d a g r does-all role_a m.0 (none-comes h.subs) h.refusals }

    -- no try begins where nothing that could refuse it comes
    pub none-begins : IsFree (run script.plan done) (marks script.plan done) → (n o : PlainNode) → (slot_of (run script.plan done) a).node ≡ Some n → (slot_of (happens (run script.plan done) d) a).node ≡ Some o → o.tries ≡ n.tries + 1 → ⊥
    none-begins free n o up now more = refused (was-refused plan w next d a g r does-all role_a n o up now more)
      where
        sure : SourcesSendSurely plan (run script.plan done).envelopes
        sure = sources-sure plan done

        refused : WasRefused plan (run script.plan done) (happens (run script.plan done) d) d a g r does-all role_a → ⊥
        refused h = by-stream h.stream h.reads h.sends
          where
            by-stream : (s : StreamRef) → slice_get (streams_of (home_of plan (g, r))) h.port ≡ Some s → sends_stream s (role_of plan h.envelope.sender) ≡ true → ⊥
            by-stream (Source v) reads sends = by-role (role_of plan h.envelope.sender) refl sends
              where
                by-role : (sort : Role) → role_of plan h.envelope.sender ≡ sort → sends_stream (Source v) sort ≡ true → ⊥
                by-role (IsSource y) of t = subst (λ (p : Packet). SendsSurely (run script.plan done).envelopes h.envelope.sender h.envelope.to p) h.packet (sure h.place y h.envelope h.there of)
                by-role (IsNode f c) of t = cc
                by-role (IsClient c) of t = cc
                by-role Nobody of t = cc
            by-stream (Frag f) reads sends = by-role (role_of plan h.envelope.sender) refl sends
              where
                reads_it : slice_get (inputs_of plan (role_of plan a)) h.port ≡ Some (Frag f)
                reads_it = ap (λ (z : Role). slice_get (inputs_of plan z) h.port) role_a ∙ ap (λ (ss : List StreamRef). slice_get ss h.port) (home-inputs (home_of plan (g, r)) r) ∙ reads

                by-role : (sort : Role) → role_of plan h.envelope.sender ≡ sort → sends_stream (Frag f) sort ≡ true → ⊥
                by-role (IsNode v c) of t =
                    let from : role_of plan h.envelope.sender ≡ IsNode f c = of ∙ ap (λ (z : ℕ). IsNode z c) (sym (eq-of f v t)) in
                    let low = free.refusals h.place h.base h.port f c h.envelope h.sess (record { there = reads_it; only = λ q e. can.once a q h.port (Frag f) e reads_it }) h.there from h.to h.packet in
                    let high = (between h.place h.event).0 in
                    absurd (omega (arith, low, high))
                by-role (IsSource y) of t = cc
                by-role (IsClient c) of t = cc
                by-role Nobody of t = cc

    -- it recovers behind the event
    module _ (quiet : is_quiet d ≡ true) (n o : PlainNode) (up : (slot_of (run script.plan done) a).node ≡ Some n) (now : (slot_of (happens (run script.plan done) d) a).node ≡ Some o) (recovers : o.recovering ≡ true) where
      abbrev y : Progress
      y = next_progress script (progress script done) d

      silent : IsSilent plan (run script.plan done) (happens (run script.plan done) d) d a g r does-all role_a
      silent clock q event there = ap (λ (v : PlainNode). v.recovering) (some-same q o (sym there ∙ now)) ∙ recovers

      phase-same : (next_progress script (progress script done) d).phase ≡ (progress script done).phase
      phase-same = (quiet-goes script z d quiet here.at).1

      few-phase : (count : ℕ) → z.phase ≤ count → y.phase ≤ count
      few-phase count low = omega (arith, low, phase-same)

      no-snap-on : (i try : ℕ) → NoSnap plan a g w i try → (z.ticked ≡ [] → NoAsk a w i try) → NoSnap plan a g next i try
      no-snap-on i try none asks k c e s there from to packet =
          elim (snap-or plan w next d a g r does-all role_a k i try c e s there from to packet) [
            | inl old ↦ none k c e s old from to packet
            | inr (j, f, event, at, mine, asked) ↦ asks (nobody-ticked j event) j f at mine asked
          ]

      no-ask-on : (i try : ℕ) → (z.ticked ≡ [] → NoAsk a w i try) → y.ticked ≡ [] → NoAsk a next i try
      no-ask-on i try asks none k e there mine packet =
          let before = none-before script z a d quiet none in
          elim (ask-or plan w next d a g r does-all role_a k i try e there mine packet) [
            | inl old ↦ asks before.0 k e old mine packet
            | inr (clock, event) ↦ before.1 clock event
          ]

      snaps-on : (i try : ℕ) → SnapsFrom plan a g w i try m.1 → SnapsFrom plan a g next i try m.1
      snaps-on i try h k c e s there from to packet =
          elim (old-or w next k e (event-grows w d) there) [
            | inl old ↦ h k c e s old from to packet
            | inr high ↦ (let few = (marks-few plan done).1 in omega (arith, high, few))
          ]

      stays-staged : o.grants.inc ≡ n.grants.inc → o.tries ≡ n.tries → IsStaged w m z n → IsStaged next m y o
      stays-staged inc try (Young h) =
          Young (record {
            subs = subs-on plan w next d a g r does-all role_a m.1 silent h.subs;
            snaps = elim h.snaps [
              | inl low ↦ inl (few-phase (length script.phases + 1) low)
              | inr (none, asks) ↦ inr (subst (λ (i : ℕ). NoSnap plan a g next i o.tries × (y.ticked ≡ [] → NoAsk a next i o.tries)) (sym inc)
                  (subst (λ (t : ℕ). NoSnap plan a g next n.grants.inc t × (y.ticked ≡ [] → NoAsk a next n.grants.inc t)) (sym try) (no-snap-on n.grants.inc n.tries none asks, no-ask-on n.grants.inc n.tries asks)))
            ];
          })
      stays-staged inc try (Older h) =
          Older (record {
            subs = subs-on plan w next d a g r does-all role_a m.0 silent h.subs;
            refusals = refusals-on plan w next d a g r does-all role_a m.1 (none-comes h.subs) h.refusals;
            snaps = elim h.snaps [
              | inl low ↦ inl (few-phase (length script.phases + 2) low)
              | inr from ↦ inr (subst (λ (i : ℕ). SnapsFrom plan a g next i o.tries m.1) (sym inc) (subst (λ (t : ℕ). SnapsFrom plan a g next n.grants.inc t m.1) (sym try) (snaps-on n.grants.inc n.tries from)))
            ];
          })
      stays-staged inc try (Free h) = Free (free-next silent h)

      -- a loss begins a new try
      begins : (k : ℕ) → d ≡ Deliver k → o.tries ≡ n.tries + 1 → o.grants.inc ≡ n.grants.inc → (z.ticked ≡ [] → SubsBelow a w m.1) → IsStaged next m y o
      begins k event more inc fresh =
          Young (record {
            subs = subs-on plan w next d a g r does-all role_a m.1 silent (fresh (nobody-ticked k event));
            snaps = inr (
              none,
              λ t j e there mine packet. elim (ask-or plan w next d a g r does-all role_a j o.grants.inc o.tries e there mine packet) [
                | inl old ↦ unreached o.grants.inc o.tries inc more refl (tried.asks j o.grants.inc o.tries e old mine packet)
                | inr (clock, tick) ↦ (let clash : Deliver k ≡ Tick a clock = sym event ∙ tick in cc)
              ],
            );
          })
        where
          -- no old envelope names it
          unreached : (i try : ℕ) → i ≡ n.grants.inc → o.tries ≡ n.tries + 1 → try ≡ o.tries → IsTriedAt (slot_of w a) i try → ⊥
          unreached i try same next_try is_now h = let low = h.tried n up (sym same) in absurd (omega (arith, low, next_try, is_now))

          none : NoSnap plan a g next o.grants.inc o.tries
          none j c e s there from to packet =
              elim (snap-or plan w next d a g r does-all role_a j o.grants.inc o.tries c e s there from to packet) [
                | inl old ↦ unreached o.grants.inc o.tries inc more refl (tried.snaps j o.grants.inc o.tries c e s old from to packet)
                | inr (i, f, came, at, mine, asked) ↦ unreached o.grants.inc o.tries inc more refl (tried.asks i o.grants.inc o.tries f at mine asked)
              ]

      staged-next : AreStaged w m z → IsStaged next m y o
      staged-next h =
          let inc = same-inc n o up now in
          elim (came-so w next (home_of plan (g, r)) a d n o up now recovers (does-all a g r role_a)) [
            | inl k ↦ stays-staged inc k.1 (h.stage n up k.0)
            | inr (k, event, more) ↦ begins k event more inc h.fresh
          ]

    quiet-staged : is_quiet d ≡ true → AreStaged (run script.plan done) (marks script.plan done) (progress script done) → AreStaged (happens (run script.plan done) d) (marks script.plan done) (next_progress script (progress script done) d)
    quiet-staged quiet h =
        record {
          fresh = λ none. (let before = none-before script z a d quiet none in subs-on plan w next d a g r does-all role_a m.1 (λ clock q event there. absurd (before.1 clock event)) (h.fresh before.0));
          stage = λ o now recovers. staged-next quiet node-here.0 o node-here.1 now recovers h;
        }

  -- ---- a phase opens

  opened-staged : (w : World) (m : ℕ × ℕ) (z : Progress) (p : ℕ) → p ≡ z.phase + 1 → length script.phases ≤ z.phase → (m.0 ≤ m.1) → (length script.phases < z.phase → AreStaged w m z) → AreStaged w (m.1, length w.envelopes) (next_progress script z (Phase p))
  opened-staged w m z p next from order h =
      record { fresh = λ none. all-subs w; stage = λ n up recovers. by-phase n up recovers (le-or z.phase (length script.phases)) }
    where
      -- a phase behind
      older : (n : PlainNode) → IsStaged w m z n → IsStaged w (m.1, length w.envelopes) (next_progress script z (Phase p)) n
      older n (Young k) = Older (record { subs = k.subs; refusals = all-refusals w; snaps = elim k.snaps [ inl low ↦ inl (omega (arith, low, next)) | inr none ↦ inr (λ j c e s there f to packet. absurd (none.0 j c e s there f to packet)) ] })
      older n (Older k) = Free (record { subs = below-more w m.0 m.1 order k.subs; refusals = k.refusals })
      older n (Free k) = Free (record { subs = below-more w m.0 m.1 order k.subs; refusals = refusals-more w m.0 m.1 order k.refusals })

      by-phase : (n : PlainNode) → (slot_of w a).node ≡ Some n → n.recovering ≡ true → (z.phase ≤ length script.phases) ⊎ (length script.phases < z.phase) → IsStaged w (m.1, length w.envelopes) (next_progress script z (Phase p)) n
      by-phase n up recovers (inl low) = Young (record { subs = all-subs w; snaps = inl (omega (arith, low, next)) })
      by-phase n up recovers (inr far) = older n ((h far).stage n up recovers)

  -- ---- at each point

  abbrev Inv : List Event → Type 0
  Inv done = length script.phases < (progress script done).phase → AreStaged (run script.plan done) (marks script.plan done) (progress script done)

  first-inv : Inv []
  unfolding progress
  first-inv far = absurd (omega (arith, far))

  inv-next : (done rest : List Event) (d : Event) → lockstep_journal script ≡ done ++ d ∷ rest → Inv done → Inv (done ++ d ∷ [])
  inv-next done rest d is h far =
      let follows = live-may script (lockstep_journal script) done rest d live is in
      let z = progress script done in
      let far_next : length script.phases < (next_progress script z d).phase = subst (λ (y : Progress). length script.phases < y.phase) (progress-push script done d) far in
      subst (λ (y : Progress). AreStaged (run script.plan (done ++ d ∷ [])) (marks script.plan (done ++ d ∷ [])) y) (sym (progress-push script done d))
      (subst (λ (k : ℕ × ℕ). AreStaged (run script.plan (done ++ d ∷ [])) k (next_progress script z d)) (sym (marks-push plan done d))
      (subst (λ (v : World). AreStaged v (marks_by (run script.plan done) (marks script.plan done) d) (next_progress script z d)) (sym (run-push plan done d)) (by-stays far_next (stays script z d follows) follows)))
    where
      opens : (p : ℕ) → d ≡ Phase p → p ≡ (progress script done).phase + 1 → length script.phases < p → AreStaged (happens (run script.plan done) d) (marks_by (run script.plan done) (marks script.plan done) d) (next_progress script (progress script done) d)
      opens p event later low =
          subst (λ (e : Event). AreStaged (happens (run script.plan done) e) (marks_by (run script.plan done) (marks script.plan done) e) (next_progress script (progress script done) e)) (sym event)
          (opened-staged (run script.plan done) (marks script.plan done) (progress script done) p later (omega (arith, later, low)) (marks-few plan done).0 h)

      by-stays : length script.phases < (next_progress script (progress script done) d).phase → ((next_progress script (progress script done) d).phase ≡ (progress script done).phase) ⊎ Opens (progress script done) d → may_follow script (progress script done) d ≡ true →
          AreStaged (happens (run script.plan done) d) (marks_by (run script.plan done) (marks script.plan done) d) (next_progress script (progress script done) d)
      by-stays low (inr o) follows = opens ((progress script done).phase + 1) o.0 refl (subst (λ (c : Event). length script.phases < (next_progress script (progress script done) c).phase) o.0 low)
      by-stays low (inl same) follows =
          let far_now : length script.phases < (progress script done).phase = omega (arith, low, same) in
          elim (in-quiet script (progress script done) d (here done rest d is far_now).at follows) [
            | inl quiet ↦ subst (λ (k : ℕ × ℕ). AreStaged (happens (run script.plan done) d) k (next_progress script (progress script done) d)) (sym (quiet-marks (run script.plan done) (marks script.plan done) d quiet)) (quiet-staged done rest d is far_now quiet (h far_now))
            | inr o ↦ opens ((progress script done).phase + 1) o.0 refl (subst (λ (c : Event). length script.phases < (next_progress script (progress script done) c).phase) o.0 low)
          ]

  pub staged-at : (done rest : List Event) → lockstep_journal script ≡ done ++ rest → length script.phases < (progress script done).phase → AreStaged (run script.plan done) (marks script.plan done) (progress script done)
  staged-at done rest is = every-prefix (lockstep_journal script) Inv first-inv (λ before after e at h. inv-next before after e at h) done rest is
