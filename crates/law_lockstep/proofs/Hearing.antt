-- A reader of a fragment and one of its replicas: the replica's tick sends a beat, and when it comes the reader counts no tick since.
use Rattle.std.proofs.Common.{◌≡◌, ℕ, ◌+◌, ◌<◌, ◌≤◌, Bool, true, false, cond, nat_lt, length, refl, sym, ap, subst, ◌∙◌, arith, Option, Some, slice_get}
use Rattle.std.proofs.lemmas.Option.{slice_get_within}
use Rattle.dpc_lists.specs.Lists.{nth, changed}
use Rattle.dpc_model.specs.Actors.{role_of, inputs_of}
use Rattle.dpc_model.specs.Ports.{Port, sender_at, without_ended_marks}
use Rattle.dpc_model.specs.Replicas.{Watch, after_beat, after_count}
use Rattle.dpc_model.specs.Sessions.{tally_of, no_session}
use Rattle.dpc_model.specs.declared.actors.Role.TheVariants.{Node as IsNode}
use Rattle.dpc_model.specs.declared.messages.Beat.{Beat}
use Rattle.dpc_model.specs.declared.messages.Event.{Event}
use Rattle.dpc_model.specs.declared.messages.Event.TheVariants.{Deliver, Tick}
use Rattle.dpc_model.specs.declared.messages.Message.TheVariants as message
use Rattle.dpc_model.specs.declared.plans.Plan.{Plan}
use Rattle.dpc_model.specs.declared.plans.StreamRef.TheVariants.{Frag}
use Rattle.dpc_model.specs.declared.scripts.Script.{Script}
use Rattle.node_model.specs.Mails.{Plain, mail}
use Rattle.node_model.specs.Nodes.{PlainNode, own_readers}
use Rattle.node_model.specs.NodeSteps.{tick_step}
use Rattle.world_model.specs.Worlds.{World, Envelope, Slot, home_of, slot_of, from, node_stepped, can_come, happens}
use Rattle.world_model.specs.Schedules.{Progress, next_progress, may_come, may_follow, is_phase_complete}
use Rattle.dpc_lists.proofs.Truths.{eq-test, not-less}
use Rattle.dpc_lists.proofs.Elements.{get-changed}
use Rattle.dpc_lists.proofs.Somes.{some-same}
use Rattle.law_safety.proofs.Happening.{node-here}
use Rattle.law_safety.proofs.Emptied.{shape-of}
use Rattle.law_safety.proofs.Promises.{slot-here}
use Rattle.law_granting.specs.Taken.{port_of}
use Rattle.law_granting.proofs.Moves.{get-mapped, get-was}
use Rattle.law_settling.specs.Rests.{RestsAt}
use Rattle.law_settling.specs.Phased.{opened}
use Rattle.law_settling.proofs.Fresh.{new-waits, still-sent}
use Rattle.law_settling.proofs.Nodes.{node-ticked-now}
use Rattle.law_settling.proofs.Opening.{all-come}
use Rattle.law_settling.proofs.PortExact.{port_after}
use Rattle.law_settling.proofs.PortGoing.{port-goes}
use Rattle.law_settling.proofs.PortNow.{took-now}
use Rattle.law_settling.proofs.PortSteps.{sent-place}
use Rattle.law_settling.proofs.Ports.{node-there, port-there}
use Rattle.law_settling.proofs.Promises.{IsOpenAt}
use Rattle.world_model.specs.Events.{is_tick, is_quiet, is_delivery}
use Rattle.law_settling.proofs.Rules.{opened-due}
use Rattle.law_settling.proofs.Stages.{due-waits}
use Rattle.law_settling.proofs.Waitings.{waits, is_due, waits-on, comes}
use Rattle.law_settling_readers.proofs.Comings.{inc-stays}
use Rattle.law_settling_readers.proofs.Reading.{replica_at, replicas_in, IsReader}
use Rattle.law_settling_readers.proofs.Watching.{WatchGoes, watch-goes}
use Rattle.law_lockstep.proofs.Tellings.{tick-tells}

-- a state past the script's phases, as the port of a reader sees it
pub record IsSeen (script : Script) (x p f k : ℕ) (z : Progress) : Type 0 where
  pub here : IsOpenAt script z
  pub line : IsReader z.world.plan x p f k
  pub many : length z.world.clients ≡ length z.world.plan.clients
  -- what is known of a replica is of no later incarnation
  pub below : (q : Port) (i r : ℕ) (v : Watch) (n : PlainNode) → port_of z.world x p ≡ Some q → i < replicas_in z.world.plan f → role_of z.world.plan (replica_at z.world.plan f i) ≡ IsNode f r → (slot_of z.world (replica_at z.world.plan f i)).node ≡ Some n → slice_get q.watches i ≡ Some v → v.inc ≤ n.grants.inc

-- an event of a quiet phase, and what is seen before and behind it
pub record Sees (script : Script) (x p f k : ℕ) (z : Progress) (e : Event) : Type 0 where
  pub quiet : is_quiet e ≡ true
  pub may : may_follow script z e ≡ true
  pub here : IsSeen script x p f k z
  pub next : IsSeen script x p f k (next_progress script z e)

-- and the reader does not recover
pub record IsCalmly (x : ℕ) (z y : Progress) : Type 0 where
  pub here : RestsAt z.world x
  pub next : RestsAt y.world x

module _ (script : Script) (x p f k i : ℕ) (low : i < replicas_in script.plan f) where
  -- the replica of this number, as an actor
  abbrev Rep : ℕ
  Rep = replica_at script.plan f i

  abbrev pub Seen : Progress → Type 0
  Seen z = IsSeen script x p f k z

  -- ---- the replica

  pub record Replica (z : Progress) : Type 0 where
    pub number : ℕ
    pub node : PlainNode
    pub role : role_of z.world.plan Rep ≡ IsNode f number
    pub up : (slot_of z.world Rep).node ≡ Some node

  pub low-here : (z : Progress) → Seen z → i < replicas_in z.world.plan f
  low-here z seen = subst (λ (pl : Plan). i < replicas_in pl f) (sym seen.here.of_plan) low

  same-replica : (z : Progress) → Seen z → replica_at z.world.plan f i ≡ Rep
  same-replica z seen = ap (λ (pl : Plan). replica_at pl f i) seen.here.of_plan

  pub replica-here : (z : Progress) → Seen z → Replica z
  replica-here z seen =
      let h = seen.here in
      let found = seen.line.replica i (low-here z seen) in
      let role : role_of z.world.plan Rep ≡ IsNode f found.0 = ap (λ (a : ℕ). role_of z.world.plan a) (sym (same-replica z seen)) ∙ found.1 in
      let node = node-there z.world h.most Rep f found.0 h.fine h.up role in
      record { number = found.0; node = node.0; role = role; up = node.1 }

  -- ---- its beat

  -- a beat of its present incarnation waits for the reader
  pub record IsBeating (m : ℕ) (z : Progress) : Type 0 where
    pub beat : Beat
    pub sent : slice_get z.world.envelopes m ≡ Some (from Rep (mail x (message.Beat beat)))
    pub waits : waits m z.waiting ≡ true
    pub inc : (o : PlainNode) → (slot_of z.world Rep).node ≡ Some o → o.grants.inc ≡ beat.inc

  -- its tick sends one
  pub told-now : (z : Progress) (now : ℕ) → Sees script x p f k z (Tick Rep now) → (m : ℕ) × IsBeating m (next_progress script z (Tick Rep now))
  told-now z now goes =
      let h = goes.here.here in
      let w = z.world in
      let it = replica-here z goes.here in
      let home = home_of w.plan (f, it.number) in
      let t = tick_step home now it.node in
      let event : happens w (Tick Rep now) ≡ node_stepped Rep t w = node-ticked-now w h.most Rep f it.number h.fine it.role now it.node (h.clocked Rep now goes.may) it.up in
      let slot : slot_of (node_stepped Rep t w) Rep ≡ record (slot_of w Rep) { node = Some t.after } = slot-here w h.most Rep f it.number (λ (s : Slot). record s { node = Some t.after }) h.fine it.role in
      let up : (slot_of (happens w (Tick Rep now)) Rep).node ≡ Some t.after = ap (λ (v : World). (slot_of v Rep).node) event ∙ ap (λ (s : Slot). s.node) slot in
      let next = goes.next.here in
      let plans : (happens w (Tick Rep now)).plan ≡ w.plan = next.of_plan ∙ sym h.of_plan in
      let role_next : role_of (happens w (Tick Rep now)).plan Rep ≡ IsNode f it.number = ap (λ (pl : Plan). role_of pl Rep) plans ∙ it.role in
      let shape = shape-of (home_of (happens w (Tick Rep now)).plan (f, it.number)) next.most t.after (node-here (happens w (Tick Rep now)) next.most Rep f it.number t.after next.fine role_next up).orderly.shape in
      let subs : length t.after.subs ≡ length (own_readers home) = shape.subs ∙ ap (λ (pl : Plan). length (own_readers (home_of pl (f, it.number)))) plans in
      let line = goes.here.line in
      let placed = line.low in
      let beat : Beat = record { inc = t.after.grants.inc; state = t.after.state; recovering = t.after.recovering; over = t.after.grants.over; tally = tally_of (nth no_session t.after.subs k) } in
      let place = sent-place Rep w.envelopes (mail x (message.Beat beat)) t.sends (tick-tells home x k line.back placed now it.node (omega (arith, subs, placed))) in
      let sent : slice_get (happens w (Tick Rep now)).envelopes place.0 ≡ Some (from Rep (mail x (message.Beat beat))) = ap (λ (v : World). slice_get v.envelopes place.0) event ∙ place.1 in (
        place.0,
        record {
          beat = beat;
          sent = sent;
          waits = new-waits script z (Tick Rep now) place.0 _ place.2 sent;
          inc = λ o there. let one : t.after ≡ o = some-same t.after o (sym up ∙ there) in sym (ap (λ (y : PlainNode). y.grants.inc) one);
        },
      )

  pub comes-here : (z : Progress) (m : ℕ) → Seen z → IsBeating m z → comes z.world m ≡ true
  comes-here z m seen h = all-come z.world seen.here.most m seen.here.fine seen.here.up (slice_get_within z.world.envelopes m _ h.sent)

  -- it stays until it is delivered
  pub beating-next : (z : Progress) (e : Event) (m : ℕ) → Sees script x p f k z e → is_delivery m e ≡ false → IsBeating m z → IsBeating m (next_progress script z e)
  beating-next z e m goes other h =
      let here = goes.here.here in
      let it = replica-here z goes.here in
      let stays = inc-stays z.world here.most Rep f it.number here.fine it.role e goes.quiet it.node it.up in
      record {
        beat = h.beat;
        sent = still-sent z.world e m _ h.sent;
        waits = waits-on script z e m goes.quiet other h.waits;
        inc = λ o up. let one : stays.0 ≡ o = some-same stays.0 o (sym stays.1 ∙ up) in sym (ap (λ (y : PlainNode). y.grants.inc) one) ∙ stays.2 ∙ h.inc it.node it.up;
      }

  -- it is due in the next phase
  pub beating-opened : (z : Progress) (m : ℕ) → Seen z → is_phase_complete z ≡ true → IsBeating m z → IsBeating m (opened script z) × (is_due m (opened script z).waiting ≡ true)
  beating-opened z m seen complete h =
      let due = opened-due script z m seen.here.at complete (comes-here z m seen h) h.waits in
      (record { beat = h.beat; sent = h.sent; waits = due-waits m (opened script z).waiting due; inc = h.inc }, due)

  -- ---- what the reader knows of the replica

  -- no more than so many ticks since its last beat
  abbrev pub Within : ℕ → Progress → Type 0
  Within n z = (q : Port) → port_of z.world x p ≡ Some q → (u : Watch) → slice_get q.watches i ≡ Some u → u.ticks ≤ n

  pub port-here : (z : Progress) → Seen z → (q : Port) × (port_of z.world x p ≡ Some q)
  port-here z seen = port-there z.world seen.here.most x p (Frag f) seen.here.fine seen.here.up seen.line.port.there

  -- the watch before an event
  pub record WatchWas (z : Progress) (e : Event) (u : Watch) : Type 0 where
    pub port : Port
    pub there : port_of z.world x p ≡ Some port
    pub watch : Watch
    pub at : slice_get port.watches i ≡ Some watch
    pub goes : WatchGoes z.world x p i e watch u

  watch-was : (z : Progress) (e : Event) → Sees script x p f k z e → IsCalmly x z (next_progress script z e) → (r : Port) → port_of (happens z.world e) x p ≡ Some r → (u : Watch) → slice_get r.watches i ≡ Some u → WatchWas z e u
  watch-was z e goes calm r now u at =
      let h = goes.here.here in
      let q = port-here z goes.here in
      let n = port-goes z.world h.most x p (Frag f) h.fine goes.here.many goes.here.line.port calm.here e goes.quiet calm.next q.0 q.1 in
      let one : n.0 ≡ r = some-same n.0 r (sym n.1 ∙ now) in
      let w = watch-goes z.world x p e (Frag f) (happens z.world e) q.0 n.0 n.2 i u (ap (λ (y : Port). slice_get y.watches i) one ∙ at) in
      record { port = q.0; there = q.1; watch = w.0; at = w.1; goes = w.2 }

  -- others leave it
  pub within-next : (n : ℕ) (z : Progress) (e : Event) → Sees script x p f k z e → IsCalmly x z (next_progress script z e) → is_tick x e ≡ false → Within n z → Within n (next_progress script z e)
  within-next n z e goes calm other h r now u at = let was = watch-was z e goes calm r now u at in by-goes was was.goes
    where
      by-goes : (was : WatchWas z e u) → WatchGoes z.world x p i e was.watch u → u.ticks ≤ n
      by-goes was (WatchGoes.Stays said ticks) = let old = h was.port was.there was.watch was.at in omega (arith, old, ticks)
      by-goes was (WatchGoes.Notes j g b event sent place packet said ticks) = omega (arith, ticks)
      by-goes was (WatchGoes.Counts clock event said ticks) = let clash : true ≡ false = sym (eq-test x x refl) ∙ sym (ap (λ (c : Event). is_tick x c) event) ∙ other in cc

  -- an event counts one at most
  pub within-more : (n : ℕ) (z : Progress) (e : Event) → Sees script x p f k z e → IsCalmly x z (next_progress script z e) → Within n z → Within (n + 1) (next_progress script z e)
  within-more n z e goes calm h r now u at = let was = watch-was z e goes calm r now u at in by-goes was was.goes
    where
      by-goes : (was : WatchWas z e u) → WatchGoes z.world x p i e was.watch u → u.ticks ≤ n + 1
      by-goes was (WatchGoes.Stays said ticks) = let old = h was.port was.there was.watch was.at in omega (arith, old, ticks)
      by-goes was (WatchGoes.Notes j g b event sent place packet said ticks) = omega (arith, ticks)
      by-goes was (WatchGoes.Counts clock event said ticks) = let old = h was.port was.there was.watch was.at in omega (arith, old, ticks)

  -- the beat comes
  pub heard-now : (z : Progress) (m : ℕ) → Sees script x p f k z (Deliver m) → IsCalmly x z (next_progress script z (Deliver m)) → IsBeating m z → Within 0 (next_progress script z (Deliver m))
  heard-now z m goes calm h r now u at =
      let here = goes.here.here in
      let q = port-here z goes.here in
      let b = h.beat in
      let g = from Rep (mail x (message.Beat b)) in
      let it = replica-here z goes.here in
      let place : sender_at z.world.plan (inputs_of z.world.plan (role_of z.world.plan x)) Rep ≡ Some (p, i) =
      ap (λ (a : ℕ). sender_at z.world.plan (inputs_of z.world.plan (role_of z.world.plan x)) a) (sym (same-replica z goes.here)) ∙ goes.here.line.sender i (low-here z goes.here) in
      let can : can_come z.world g ≡ true = sym (ap (λ (o : Option Envelope). may_come z.world o) h.sent) ∙ comes-here z m goes.here h in
      let taken = took-now z.world here.most x p (Frag f) here.fine goes.here.many goes.here.line.port calm.here m i g h.sent can refl place calm.next q.0 q.1 in
      let one : r ≡ port_after i (Plain (message.Beat b)) (without_ended_marks q.0) = some-same r taken.0 (sym now ∙ taken.1) ∙ taken.2.0 in
      let found : slice_get (changed i (after_beat b.inc b.state b.recovering) (without_ended_marks q.0).watches) i ≡ Some u = ap (λ (y : Port). slice_get y.watches i) (sym one) ∙ at in
      let y = get-was i (after_beat b.inc b.state b.recovering) (without_ended_marks q.0).watches i u found in
      by-watch q.0 q.1 found y.0 y.1
    where
      by-watch : (q : Port) → port_of z.world x p ≡ Some q → slice_get (changed i (after_beat h.beat.inc h.beat.state h.beat.recovering) (without_ended_marks q).watches) i ≡ Some u → (y : Watch) → slice_get (without_ended_marks q).watches i ≡ Some y → u.ticks ≤ 0
      by-watch q there found y at_y =
          let b = h.beat in
          let it = replica-here z goes.here in
          let a = same-replica z goes.here in
          let v = get-mapped (after_count (length q.inlet.held.stable)) q.watches i y at_y in
          let below = goes.here.below q i it.number v.0 it.node there (low-here z goes.here) (ap (λ (c : ℕ). role_of z.world.plan c) a ∙ it.role) (ap (λ (c : ℕ). (slot_of z.world c).node) a ∙ it.up) v.1 in
          let inc = h.inc it.node it.up in
          let same : y.inc ≡ v.0.inc = ap (λ (o : Watch). o.inc) (sym v.2) in
          let new : nat_lt b.inc y.inc ≡ false = not-less b.inc y.inc (omega (arith, below, inc, same)) in
          let is : u ≡ after_beat b.inc b.state b.recovering y = some-same u (after_beat b.inc b.state b.recovering y) (sym found ∙ get-changed i (after_beat b.inc b.state b.recovering) (without_ended_marks q).watches y at_y) in
          let noted : u ≡ record y { inc = b.inc; ticks = 0; said = Some (b.state, b.recovering) } = is ∙ ap (λ (t : Bool). cond {A = Watch} t y (record y { inc = b.inc; ticks = 0; said = Some (b.state, b.recovering) })) new in
          let none : u.ticks ≡ 0 = ap (λ (o : Watch). o.ticks) noted in
          omega (arith, none)
