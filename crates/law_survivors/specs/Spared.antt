-- Replicas that a script never crashes, and what their senders keep for them.
use Rattle.std.specs.Prelude.{◌⊎◌, ◌≡◌, ℕ, ◌+◌, ◌<◌, ◌≤◌, Bool, true, false, not, ◌&&◌, ◌||◌, ◌==◌, IsTrue, List, [], ◌∷◌, ◌++◌, length, flat_map, Some, None, slice_get}
use Rattle.dpc_lists.specs.Lists.{nth, list_any, list_all, range_with_len}
use Rattle.dpc_model.specs.Fragments.{ideal}
use Rattle.dpc_model.specs.Inlets.{same_sess}
use Rattle.dpc_model.specs.Actors.{role_of, sends_stream, replicas_of}
use Rattle.dpc_model.specs.Ports.{Port}
use Rattle.dpc_model.specs.Replicas.{Watch, says_recovering}
use Rattle.dpc_model.specs.declared.actors.Role.TheVariants.{Node as IsNode}
use Rattle.dpc_model.specs.declared.messages.Event.{Event}
use Rattle.dpc_model.specs.declared.messages.Event.TheVariants.{Phase, Emit, Release, Cut, Heal, Crash, Restart, Deliver, Tick, Mill}
use Rattle.dpc_model.specs.declared.tuples.Item.{Item}
use Rattle.dpc_model.specs.declared.messages.Sess.{Sess}
use Rattle.dpc_model.specs.declared.messages.Message.TheVariants as message
use Rattle.dpc_model.specs.declared.plans.Plan.{Plan}
use Rattle.dpc_model.specs.declared.plans.StreamRef.TheVariants.{Frag}
use Rattle.dpc_model.specs.declared.scripts.Directive.{Directive}
use Rattle.dpc_model.specs.declared.scripts.Directive.TheVariants as directive
use Rattle.dpc_model.specs.declared.scripts.Phase.{Phase as PhaseSpec}
use Rattle.dpc_model.specs.declared.scripts.Script.{Script}
use Rattle.node_model.specs.Mails.{Snap, Plain, SnapFor}
use Rattle.node_model.specs.Nodes.{Home, PlainNode, own_readers, inputs_done}
use Rattle.world_model.specs.Worlds.{World, Envelope, home_of, slot_of, happens, run}
use Rattle.world_model.specs.Schedules.{progress, is_live_so_far, lockstep_journal}
use Rattle.world_model.specs.Steady.{OpensWell}
use Rattle.law_granting.specs.Taken.{node_port}
use Rattle.law_readers.specs.Newest.{IsPortOf}
use Rattle.law_readers.specs.Settling.{CanSettle}

-- ---- who is never crashed

-- a directive does not crash this actor
abbrev pub spares : ℕ → Directive → Bool
spares a (directive.Emit s t) = true
spares a (directive.Release s t) = true
spares a (directive.Cut b c) = true
spares a (directive.Heal b c) = true
spares a (directive.Lose b c) = true
spares a (directive.Repeat b c) = true
spares a (directive.Crash b) = not (b == a)
spares a (directive.Restart b) = true

-- no directive of the script does
abbrev pub is_spared : Script → ℕ → Bool
is_spared script a = list_all (spares a) (flat_map (λ (p : PhaseSpec). p.directives) script.phases)

-- nor does an event
abbrev pub spares_at : ℕ → Event → Bool
spares_at a (Phase p) = true
spares_at a (Emit s t) = true
spares_at a (Release s t) = true
spares_at a (Cut b c) = true
spares_at a (Heal b c) = true
spares_at a (Crash b) = not (b == a)
spares_at a (Restart b i) = true
spares_at a (Deliver k) = true
spares_at a (Tick b now) = true
spares_at a (Mill b r) = true

-- of each fragment one replica is never crashed
abbrev pub keeps_one : Script → Bool
keeps_one script = list_all (λ f. list_any (is_spared script) (replicas_of script.plan f)) (range_with_len 0 (length script.plan.frags))

-- of a fragment no two replicas are crashed: for one of them all others are never
abbrev pub spares_others : Script → List ℕ → Bool
spares_others script replicas = list_any (λ a. list_all (λ b. b == a || is_spared script b) replicas) replicas

-- of each fragment at most one replica is ever crashed, and another one is there. With two replicas it says the same as keeps_one, with
-- more it says more; where two of three are crashed, they may hand each other stale snapshots for ever
abbrev pub keeps_all_but_one : Script → Bool
keeps_all_but_one script = keeps_one script && list_all (λ f. spares_others script (replicas_of script.plan f)) (range_with_len 0 (length script.plan.frags))

-- ---- what holds of such a replica

-- a node is up, in this incarnation, and does not recover
pub record StandsIn (incarnation : ℕ) (w : World) (a : ℕ) : Type 0 where
  pub node : PlainNode
  pub up : (slot_of w a).node ≡ Some node
  pub inc : node.grants.inc ≡ incarnation
  pub whole : node.recovering ≡ false

-- and it never was in another one
abbrev pub StandsWhole : World → ℕ → Type 0
StandsWhole w a = StandsIn 1 w a

-- what is known of such a replica: nothing, or that it does not recover
pub record IsHeardWhole (u : Watch) : Type 0 where
  pub inc : u.inc ≤ 1
  pub said : says_recovering u ≡ false
  pub unmarked : u.truncated ≡ None

-- what a fragment's replicas may forget is at most a number of tuples, and x acknowledged no more of them
pub record AreKeptFor (plan : Plan) (w : World) (x f count : ℕ) : Type 0 where
  -- the base of a replica that is up, and what it knows x to have acknowledged
  pub bases : (a r : ℕ) (n : PlainNode) → role_of plan a ≡ IsNode f r → (slot_of w a).node ≡ Some n → n.base ≤ count
  pub acks : (a r k : ℕ) (n : PlainNode) → role_of plan a ≡ IsNode f r → (slot_of w a).node ≡ Some n → nth 0 (own_readers (home_of plan (f, r))) k ≡ x → (nth (0, 0) n.acks k).1 ≤ count
  -- snapshots of the fragment, and acknowledgements of x, however long ago they were sent
  pub snapshots : (k r i try : ℕ) (e : Envelope) (s : Snap) → slice_get w.envelopes k ≡ Some e → role_of plan e.sender ≡ IsNode f r → e.packet ≡ SnapFor i try s → s.base ≤ count
  pub told : (k i n : ℕ) (e : Envelope) → slice_get w.envelopes k ≡ Some e → e.sender ≡ x → sends_stream (Frag f) (role_of plan e.to) ≡ true → e.packet ≡ Plain (message.Ack i n) → n ≤ count

-- how many tuples of a port lie below a node's cursor: so many a snapshot of it carries
abbrev pub done_by : Home → ℕ → PlainNode → ℕ
done_by home p n = length (nth [] (inputs_done home n) p)

-- so a replica x that no event crashes stays whole
abbrev pub SparedStandWhole : Script → List Event → Type 0
SparedStandWhole script events =
    CanSettle script → IsTrue (is_live_so_far script events) → (x g b : ℕ) → role_of script.plan x ≡ IsNode g b → is_spared script x ≡ true → StandsWhole (run script.plan events) x

-- all that it holds of a fragment is what the fragment's replicas may forget at most
abbrev pub SendersKeepForSpared : Script → List Event → Type 0
SendersKeepForSpared script events =
    CanSettle script → IsTrue (is_live_so_far script events) → (x g b p f : ℕ) (q : Port) → role_of script.plan x ≡ IsNode g b → is_spared script x ≡ true → IsPortOf script.plan x p (Frag f) →
    node_port p (slot_of (run script.plan events) x).node ≡ Some q → AreKeptFor script.plan (run script.plan events) x f (length q.inlet.held.stable)

-- each replica of its fragment that is up heard of x, whose number is b, nothing but that it does not recover
abbrev pub HearWhole : Script → List Event → Type 0
HearWhole script events =
    CanSettle script → IsTrue (is_live_so_far script events) → (x g b a r : ℕ) (m : PlainNode) (u : Watch) → role_of script.plan x ≡ IsNode g b → is_spared script x ≡ true → role_of script.plan a ≡ IsNode g r →
    (slot_of (run script.plan events) a).node ≡ Some m → slice_get m.peers b ≡ Some u → IsHeardWhole u

-- even what it has processed is: whoever goes on from a snapshot of it lacks nothing that was forgotten by then
abbrev pub SnapshotsSuffice : Script → List Event → Type 0
SnapshotsSuffice script events =
    CanSettle script → IsTrue (is_live_so_far script events) → (x g b p f : ℕ) (n : PlainNode) → role_of script.plan x ≡ IsNode g b → is_spared script x ≡ true → IsPortOf script.plan x p (Frag f) →
    (slot_of (run script.plan events) x).node ≡ Some n → AreKeptFor script.plan (run script.plan events) x f (done_by (home_of script.plan (g, b)) p n)

-- and none of them ever refuses it its present session
abbrev pub SparedAreNotRefused : Script → List Event → Type 0
SparedAreNotRefused script events =
    CanSettle script → IsTrue (is_live_so_far script events) → (x g b p f k base : ℕ) (q : Port) (e : Envelope) (u : Sess) → role_of script.plan x ≡ IsNode g b → is_spared script x ≡ true → IsPortOf script.plan x p (Frag f) →
    node_port p (slot_of (run script.plan events) x).node ≡ Some q → slice_get (run script.plan events).envelopes k ≡ Some e → e.to ≡ x → sends_stream (Frag f) (role_of script.plan e.sender) ≡ true →
    e.packet ≡ Plain (message.Truncated u base) → same_sess u q.inlet.sess ≡ false

-- a session that a replica refused a reader it never answers by a batch, neither before nor after
abbrev pub RefusedAreNotAnswered : Script → List Event → Type 0
RefusedAreNotAnswered script events =
    CanSettle script → IsTrue (is_live_so_far script events) → (x p f a r j k base index : ℕ) (e b : Envelope) (s : Sess) (items : List Item) → IsPortOf script.plan x p (Frag f) → role_of script.plan a ≡ IsNode f r →
    slice_get (run script.plan events).envelopes j ≡ Some e → e.sender ≡ a → e.to ≡ x → e.packet ≡ Plain (message.Truncated s base) →
    slice_get (run script.plan events).envelopes k ≡ Some b → b.sender ≡ a → b.to ≡ x → b.packet ≡ Plain (message.Batch s index items) → ⊥

-- what a replica a acknowledged in its present incarnation a spared one of its fragment has done, as long as a recovers
abbrev pub AckedIsDone : Script → List Event → Type 0
AckedIsDone script events =
    CanSettle script → IsTrue (is_live_so_far script events) → (x g b a r p f k i count : ℕ) (n m : PlainNode) (e : Envelope) → role_of script.plan x ≡ IsNode g b → is_spared script x ≡ true → role_of script.plan a ≡ IsNode g r → IsPortOf script.plan a p (Frag f) →
    (slot_of (run script.plan events) x).node ≡ Some n → (slot_of (run script.plan events) a).node ≡ Some m → m.recovering ≡ true →
    slice_get (run script.plan events).envelopes k ≡ Some e → e.sender ≡ a → sends_stream (Frag f) (role_of script.plan e.to) ≡ true → e.packet ≡ Plain (message.Ack i count) → i ≡ m.grants.inc →
    count ≤ done_by (home_of script.plan (g, b)) p n

-- from the fourth quiet phase on what a replica t of a fragment knows of the acknowledgements of a node a that reads it, and has place k, is of
-- the present incarnation of a, or it is nothing
abbrev pub KnowsPresently : Script → List Event → Type 0
KnowsPresently script events =
    CanSettle script → IsTrue (is_live_so_far script events) → OpensWell script events → (a g r t f c p k : ℕ) (m v : PlainNode) → role_of script.plan a ≡ IsNode g r → IsPortOf script.plan a p (Frag f) → role_of script.plan t ≡ IsNode f c →
    length script.phases + 4 ≤ (progress script events).phase → (slot_of (run script.plan events) a).node ≡ Some m → (slot_of (run script.plan events) t).node ≡ Some v → k < length (own_readers (home_of script.plan (f, c))) → nth 0 (own_readers (home_of script.plan (f, c))) k ≡ a →
    ((nth (0, 0) v.acks k).0 ≡ m.grants.inc) ⊎ ((nth (0, 0) v.acks k).1 ≡ 0)

-- so as long as a recovers, t knows it to have acknowledged no more than a spared replica x of its fragment has done
abbrev pub KnowNoMore : Script → List Event → Type 0
KnowNoMore script events =
    CanSettle script → IsTrue (is_live_so_far script events) → OpensWell script events → (x g b a r t f c p k : ℕ) (n m v : PlainNode) → role_of script.plan x ≡ IsNode g b → is_spared script x ≡ true → role_of script.plan a ≡ IsNode g r → IsPortOf script.plan a p (Frag f) → role_of script.plan t ≡ IsNode f c →
    length script.phases + 4 ≤ (progress script events).phase → (slot_of (run script.plan events) x).node ≡ Some n → (slot_of (run script.plan events) a).node ≡ Some m → m.recovering ≡ true → (slot_of (run script.plan events) t).node ≡ Some v →
    k < length (own_readers (home_of script.plan (f, c))) → nth 0 (own_readers (home_of script.plan (f, c))) k ≡ a → (nth (0, 0) v.acks k).1 ≤ done_by (home_of script.plan (g, b)) p n

-- what a fragment's replicas may forget is at most a number of tuples, and they know x to have acknowledged no more
pub record ForgetNoMore (plan : Plan) (w : World) (x f count : ℕ) : Type 0 where
  pub bases : (t c : ℕ) (v : PlainNode) → role_of plan t ≡ IsNode f c → (slot_of w t).node ≡ Some v → v.base ≤ count
  pub acks : (t c k : ℕ) (v : PlainNode) → role_of plan t ≡ IsNode f c → (slot_of w t).node ≡ Some v → nth 0 (own_readers (home_of plan (f, c))) k ≡ x → (nth (0, 0) v.acks k).1 ≤ count
  pub snapshots : (k c i try : ℕ) (e : Envelope) (s : Snap) → slice_get w.envelopes k ≡ Some e → role_of plan e.sender ≡ IsNode f c → e.packet ≡ SnapFor i try s → s.base ≤ count

-- if a recovers from a point on, which lies in the fourth quiet phase or behind it, then they forget no more than what a spared replica x of
-- its fragment had done at that point: a snapshot that x made then is good for a as long as it recovers
abbrev pub KeptWhileRecovering : Script → List Event → Type 0
KeptWhileRecovering script events =
    CanSettle script → IsTrue (is_live_so_far script events) → OpensWell script events → (x g b a r p f : ℕ) (n : PlainNode) (early late : List Event) → role_of script.plan x ≡ IsNode g b → is_spared script x ≡ true → role_of script.plan a ≡ IsNode g r → IsPortOf script.plan a p (Frag f) →
    events ≡ early ++ late → length script.phases + 4 ≤ (progress script early).phase → (slot_of (run script.plan early) x).node ≡ Some n →
    ((done rest : List Event) (m : PlainNode) → events ≡ done ++ rest → length early ≤ length done → (slot_of (run script.plan done) a).node ≡ Some m → m.recovering ≡ true) →
    ForgetNoMore script.plan (run script.plan events) a f (done_by (home_of script.plan (g, b)) p n)

-- past the first quiet phase of the one-thread journal no tick of a replica ends its recovery, where another one of its fragment is spared: it
-- hears of that one before each tick, and waits for a snapshot
abbrev pub NoneStartsAfresh : Script → Type 0
NoneStartsAfresh script =
    CanSettle script → OpensWell script (lockstep_journal script) → (x g b a r now : ℕ) (n m : PlainNode) (done rest : List Event) → role_of script.plan x ≡ IsNode g b → is_spared script x ≡ true → role_of script.plan a ≡ IsNode g r →
    lockstep_journal script ≡ done ++ Tick a now ∷ rest → length script.phases + 1 < (progress script done).phase → (slot_of (run script.plan done) a).node ≡ Some n → n.recovering ≡ true →
    (slot_of (happens (run script.plan done) (Tick a now)) a).node ≡ Some m → m.recovering ≡ true

-- of each fragment of such a script one and the same replica stays whole, whatever comes
abbrev pub KeepsOneWhole : Script → Type 0
KeepsOneWhole script =
    CanSettle script → keeps_one script ≡ true → (f : ℕ) → f < length script.plan.frags → (x : ℕ) × (r : ℕ) × (role_of script.plan x ≡ IsNode f r) × (is_spared script x ≡ true)
    × ((events : List Event) → IsTrue (is_live_so_far script events) → StandsWhole (run script.plan events) x)

-- ---- going on from a snapshot

-- at no point of a piece, which follows `done`, does a recover
abbrev pub RecoversNot : Script → ℕ → List Event → List Event → Type 0
RecoversNot script a done piece = (some rest : List Event) (m : PlainNode) → piece ≡ some ++ rest → (slot_of (run script.plan (done ++ some)) a).node ≡ Some m → m.recovering ≡ false

-- by the delivery of envelope k behind `done` a goes on from a snapshot of x, which x sent behind `early`, a point of the fourth quiet phase or
-- behind it
pub record GoesOnFrom (script : Script) (x a k : ℕ) (early done : List Event) : Type 0 where
  pub late : length script.phases + 4 ≤ (progress script early).phase
  pub unsent : length (run script.plan early).envelopes ≤ k
  pub envelope : Envelope
  pub there : slice_get (run script.plan done).envelopes k ≡ Some envelope
  pub sender : envelope.sender ≡ x
  pub before : PlainNode
  pub up : (slot_of (run script.plan done) a).node ≡ Some before
  pub recovered : before.recovering ≡ true
  pub after : PlainNode
  pub now : (slot_of (happens (run script.plan done) (Deliver k)) a).node ≡ Some after
  pub whole : after.recovering ≡ false

-- who goes on so from a snapshot of a spared replica x of its fragment, and does not recover until it ticks, never recovers again
abbrev pub StandsOnceTicked : Script → List Event → Type 0
StandsOnceTicked script events =
    CanSettle script → IsTrue (is_live_so_far script events) → OpensWell script events → (x g b a r k now : ℕ) (early mid until rest : List Event) → role_of script.plan x ≡ IsNode g b → is_spared script x ≡ true → role_of script.plan a ≡ IsNode g r →
    events ≡ (early ++ mid) ++ Deliver k ∷ (until ++ Tick a now ∷ rest) → GoesOnFrom script x a k early (early ++ mid) → RecoversNot script a ((early ++ mid) ++ Deliver k ∷ []) until →
    RecoversNot script a (((early ++ mid) ++ Deliver k ∷ []) ++ until ++ Tick a now ∷ []) rest

-- in the one-thread journal nothing that could come before that tick makes it recover: it never does again
abbrev pub NeverAgain : Script → Type 0
NeverAgain script =
    CanSettle script → OpensWell script (lockstep_journal script) → (x g b a r k : ℕ) (early mid rest : List Event) → role_of script.plan x ≡ IsNode g b → is_spared script x ≡ true → role_of script.plan a ≡ IsNode g r →
    lockstep_journal script ≡ (early ++ mid) ++ Deliver k ∷ rest → GoesOnFrom script x a k early (early ++ mid) → RecoversNot script a ((early ++ mid) ++ Deliver k ∷ []) rest

-- ---- how often a replica recovers

-- by this event behind `done` a begins to recover
pub record Begins (script : Script) (a : ℕ) (done : List Event) (d : Event) : Type 0 where
  pub before : PlainNode
  pub up : (slot_of (run script.plan done) a).node ≡ Some before
  pub whole : before.recovering ≡ false
  pub after : PlainNode
  pub now : (slot_of (happens (run script.plan done) d) a).node ≡ Some after
  pub recovers : after.recovering ≡ true

-- where at most one replica of each fragment is crashed, none begins twice from the fourth quiet phase of the one-thread journal on
abbrev pub BeginsOnce : Script → Type 0
BeginsOnce script =
    CanSettle script → OpensWell script (lockstep_journal script) → keeps_all_but_one script ≡ true → (a g r : ℕ) (done mid rest : List Event) (d e : Event) → role_of script.plan a ≡ IsNode g r → lockstep_journal script ≡ done ++ d ∷ (mid ++ e ∷ rest) →
    length script.phases + 4 ≤ (progress script done).phase → Begins script a done d → Begins script a ((done ++ d ∷ []) ++ mid) e → ⊥

-- at each point of a piece, which follows `done`, a recovers
abbrev pub RecoversThrough : Script → ℕ → List Event → List Event → Type 0
RecoversThrough script a done piece = (some rest : List Event) (m : PlainNode) → piece ≡ some ++ rest → (slot_of (run script.plan (done ++ some)) a).node ≡ Some m → m.recovering ≡ true

-- in quiet phases of the one-thread journal a replica that recovers beside a spared one goes on before the fourth phase behind that point opens
abbrev pub EndsInTime : Script → Type 0
EndsInTime script =
    CanSettle script → OpensWell script (lockstep_journal script) → (x g b a r : ℕ) (done piece rest : List Event) → role_of script.plan x ≡ IsNode g b → is_spared script x ≡ true → role_of script.plan a ≡ IsNode g r → lockstep_journal script ≡ done ++ (piece ++ rest) →
    length script.phases < (progress script done).phase → RecoversThrough script a done piece → (progress script (done ++ piece)).phase ≤ (progress script done).phase + 3

-- where at most one replica of each fragment is crashed, all points past the seventh quiet phase at which one recovers lie within three phases
abbrev pub RecoversTogether : Script → Type 0
RecoversTogether script =
    CanSettle script → OpensWell script (lockstep_journal script) → keeps_all_but_one script ≡ true → (a g r : ℕ) (done piece rest : List Event) (n m : PlainNode) → role_of script.plan a ≡ IsNode g r → lockstep_journal script ≡ done ++ (piece ++ rest) →
    length script.phases + 8 ≤ (progress script done).phase → (slot_of (run script.plan done) a).node ≡ Some n → n.recovering ≡ true → (slot_of (run script.plan (done ++ piece)) a).node ≡ Some m → m.recovering ≡ true → (progress script (done ++ piece)).phase ≤ (progress script done).phase + 3

-- a port of a node that reads a fragment holds less than the fragment's whole stream
pub record LacksSome (plan : Plan) (a : ℕ) (n : PlainNode) : Type 0 where
  pub place : ℕ
  pub frag : ℕ
  pub port : Port
  pub reads : IsPortOf plan a place (Frag frag)
  pub there : slice_get n.ports place ≡ Some port
  pub few : length port.inlet.held.stable < length (ideal plan (Frag frag))

-- so it is of who begins to recover beside a spared replica x, having ticked in the fourth quiet phase or behind it since it last recovered
abbrev pub BeginnersLack : Script → List Event → Type 0
BeginnersLack script events =
    CanSettle script → IsTrue (is_live_so_far script events) → OpensWell script events → (x g b a r now : ℕ) (done mid rest : List Event) (d : Event) → role_of script.plan x ≡ IsNode g b → is_spared script x ≡ true → role_of script.plan a ≡ IsNode g r →
    events ≡ (done ++ Tick a now ∷ []) ++ (mid ++ d ∷ rest) → length script.phases + 4 ≤ (progress script done).phase → RecoversNot script a (done ++ Tick a now ∷ []) mid → (h : Begins script a ((done ++ Tick a now ∷ []) ++ mid) d) → LacksSome script.plan a h.before

-- ---- when recoveries are over

-- each port of a that reads a fragment holds the fragment's whole stream
abbrev pub HoldsWhole : Plan → World → ℕ → Type 0
HoldsWhole plan w a = (p f : ℕ) (n : PlainNode) (q : Port) → IsPortOf plan a p (Frag f) → (slot_of w a).node ≡ Some n → slice_get n.ports p ≡ Some q → length (ideal plan (Frag f)) ≤ length q.inlet.held.stable

-- where a replica holds whole streams whenever it did not recover for `wait` phases, from a phase on, it recovers no more `wait` and four phases
-- behind that one
abbrev pub RestsOnceWhole : Script → Type 0
RestsOnceWhole script =
    CanSettle script → OpensWell script (lockstep_journal script) → keeps_all_but_one script ≡ true → (a g r from wait : ℕ) → role_of script.plan a ≡ IsNode g r → length script.phases + 8 ≤ from → 3 ≤ wait →
    ((first mid rest : List Event) → lockstep_journal script ≡ first ++ (mid ++ rest) → from ≤ (progress script first).phase → (progress script first).phase + wait ≤ (progress script (first ++ mid)).phase → RecoversNot script a first mid → HoldsWhole script.plan (run script.plan (first ++ mid)) a) →
    (done rest : List Event) (m : PlainNode) → lockstep_journal script ≡ done ++ rest → from + wait + 4 ≤ (progress script done).phase → (slot_of (run script.plan done) a).node ≡ Some m → m.recovering ≡ false
