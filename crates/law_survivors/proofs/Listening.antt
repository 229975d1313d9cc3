-- Two replicas of a fragment, of which one stands whole: its tick sends the other one a beat, and when it comes no tick is counted since.
use Rattle.std.proofs.Common.{◌≡◌, ℕ, ◌≤◌, Bool, true, false, cond, nat_lt, List, refl, sym, ap, subst, ◌∙◌, arith, Option, Some, None, slice_get, inl, inr}
use Rattle.std.proofs.lemmas.Option.{slice_get_within}
use Rattle.dpc_lists.specs.Lists.{changed}
use Rattle.dpc_model.specs.Actors.{role_of}
use Rattle.dpc_model.specs.Replicas.{Watch, after_beat}
use Rattle.dpc_model.specs.declared.actors.Role.TheVariants.{Node as IsNode}
use Rattle.dpc_model.specs.declared.messages.Beat.{Beat}
use Rattle.dpc_model.specs.declared.messages.Event.{Event}
use Rattle.dpc_model.specs.declared.messages.Event.TheVariants.{Deliver, Tick}
use Rattle.dpc_model.specs.declared.messages.Message.TheVariants as message
use Rattle.dpc_model.specs.declared.plans.Plan.{Plan}
use Rattle.dpc_model.specs.declared.scripts.Script.{Script}
use Rattle.dpc_lists.proofs.Truths.{eq-test, not-less}
use Rattle.dpc_lists.proofs.Elements.{get-changed}
use Rattle.dpc_lists.proofs.Somes.{some-same}
use Rattle.node_model.specs.Mails.{Plain, mail}
use Rattle.node_model.specs.Nodes.{PlainNode}
use Rattle.node_model.specs.NodeSteps.{packet_step, mill_step, tick_step}
use Rattle.world_model.specs.Worlds.{World, Envelope, Slot, home_of, slot_of, from, node_stepped, can_come, happens}
use Rattle.world_model.specs.Schedules.{Progress, next_progress, may_come, may_follow, is_phase_complete}
use Rattle.world_model.specs.Events.{is_tick, is_quiet, is_delivery}
use Rattle.law_safety.proofs.Promises.{slot-here}
use Rattle.law_granting.proofs.Moves.{get-was}
use Rattle.law_settling.specs.Phased.{opened}
use Rattle.law_settling.proofs.Fresh.{new-waits, still-sent}
use Rattle.law_settling.proofs.Knowing.{tick-tells}
use Rattle.law_settling.proofs.Nodes.{node-took-now, node-ticked-now}
use Rattle.law_settling.proofs.Opening.{all-come}
use Rattle.law_settling.proofs.PortSteps.{sent-place}
use Rattle.law_settling.proofs.Ports.{node-there}
use Rattle.law_settling.proofs.Promises.{IsOpenAt}
use Rattle.law_settling.proofs.Replicas.{number-is, peer-is}
use Rattle.law_settling.proofs.Rules.{opened-due}
use Rattle.law_settling.proofs.Stages.{due-waits}
use Rattle.law_settling.proofs.Waitings.{waits, is_due, waits-on, comes}
use Rattle.law_survivors.specs.Spared.{StandsWhole, IsHeardWhole}
use Rattle.law_survivors.proofs.Doing.{ReplicaDoes, replica-does}
use Rattle.law_survivors.proofs.Peers.{Hears, packet-hears, told-peers, milled-peers}

-- a state past the script's phases: x stands whole, and its peer a heard so of it
pub record IsSeen (script : Script) (x a b : ℕ) (z : Progress) : Type 0 where
  pub here : IsOpenAt script z
  pub whole : StandsWhole z.world x
  pub heard : (m : PlainNode) (u : Watch) → (slot_of z.world a).node ≡ Some m → slice_get m.peers b ≡ Some u → IsHeardWhole u

-- an event of a quiet phase, and what is seen before and behind it
pub record Sees (script : Script) (x a b : ℕ) (z : Progress) (e : Event) : Type 0 where
  pub quiet : is_quiet e ≡ true
  pub may : may_follow script z e ≡ true
  pub here : IsSeen script x a b z
  pub next : IsSeen script x a b (next_progress script z e)

module _ (script : Script) (x g b a r : ℕ) (role_x : role_of script.plan x ≡ IsNode g b) (role_a : role_of script.plan a ≡ IsNode g r) (other : a ≡ x → ⊥) where
  abbrev pub Seen : Progress → Type 0
  Seen z = IsSeen script x a b z

  x-here : (z : Progress) → Seen z → role_of z.world.plan x ≡ IsNode g b
  x-here z seen = ap (λ (pl : Plan). role_of pl x) seen.here.of_plan ∙ role_x

  a-here : (z : Progress) → Seen z → role_of z.world.plan a ≡ IsNode g r
  a-here z seen = ap (λ (pl : Plan). role_of pl a) seen.here.of_plan ∙ role_a

  -- ---- the beat

  -- a beat of x waits for its peer
  pub record IsBeating (m : ℕ) (z : Progress) : Type 0 where
    pub beat : Beat
    pub sent : slice_get z.world.envelopes m ≡ Some (from x (mail a (message.Beat beat)))
    pub waits : waits m z.waiting ≡ true
    pub inc : beat.inc ≡ 1

  -- a tick of x sends one
  pub told-now : (z : Progress) (now : ℕ) → Sees script x a b z (Tick x now) → (m : ℕ) × IsBeating m (next_progress script z (Tick x now))
  told-now z now goes =
      let h = goes.here.here in
      let w = z.world in
      let n = goes.here.whole.node in
      let role = x-here z goes.here in
      let home = home_of w.plan (g, b) in
      let t = tick_step home now n in
      let event : happens w (Tick x now) ≡ node_stepped x t w = node-ticked-now w h.most x g b h.fine role now n (h.clocked x now goes.may) goes.here.whole.up in
      let slot : slot_of (node_stepped x t w) x ≡ record (slot_of w x) { node = Some t.after } = slot-here w h.most x g b (λ (s : Slot). record s { node = Some t.after }) h.fine role in
      let up : (slot_of (happens w (Tick x now)) x).node ≡ Some t.after = ap (λ (v : World). (slot_of v x).node) event ∙ ap (λ (s : Slot). s.node) slot in
      let one : goes.next.whole.node ≡ t.after = some-same goes.next.whole.node t.after (sym goes.next.whole.up ∙ up) in
      let beat : Beat = record { inc = t.after.grants.inc; state = t.after.state; recovering = t.after.recovering; over = t.after.grants.over; tally = None } in
      let place = sent-place x w.envelopes (mail a (message.Beat beat)) t.sends (tick-tells home now n a (peer-is w.plan x a g b r role (a-here z goes.here) other)) in
      let sent : slice_get (happens w (Tick x now)).envelopes place.0 ≡ Some (from x (mail a (message.Beat beat))) = ap (λ (v : World). slice_get v.envelopes place.0) event ∙ place.1 in
      (place.0, record { beat = beat; sent = sent; waits = new-waits script z (Tick x now) place.0 _ place.2 sent; inc = ap (λ (y : PlainNode). y.grants.inc) (sym one) ∙ goes.next.whole.inc })

  pub comes-here : (z : Progress) (m : ℕ) → Seen z → IsBeating m z → comes z.world m ≡ true
  comes-here z m seen h = all-come z.world seen.here.most m seen.here.fine seen.here.up (slice_get_within z.world.envelopes m _ h.sent)

  -- it stays until it is delivered
  pub beating-next : (z : Progress) (e : Event) (m : ℕ) → Sees script x a b z e → is_delivery m e ≡ false → IsBeating m z → IsBeating m (next_progress script z e)
  beating-next z e m goes apart h = record { beat = h.beat; sent = still-sent z.world e m _ h.sent; waits = waits-on script z e m goes.quiet apart h.waits; inc = h.inc }

  -- it is due in the next phase
  pub beating-opened : (z : Progress) (m : ℕ) → Seen z → is_phase_complete z ≡ true → IsBeating m z → IsBeating m (opened script z) × (is_due m (opened script z).waiting ≡ true)
  beating-opened z m seen complete h =
      let due = opened-due script z m seen.here.at complete (comes-here z m seen h) h.waits in
      (record { beat = h.beat; sent = h.sent; waits = due-waits m (opened script z).waiting due; inc = h.inc }, due)

  -- ---- what the peer knows of it

  -- no tick since its last beat
  abbrev pub JustHeard : Progress → Type 0
  JustHeard z = (n : PlainNode) → (slot_of z.world a).node ≡ Some n → (u : Watch) → slice_get n.peers b ≡ Some u → u.ticks ≤ 0

  beat-ticks : (i : ℕ) (s : _) (recovering : Bool) (u : Watch) → u.ticks ≤ 0 → (after_beat i s recovering u).ticks ≤ 0
  beat-ticks i s recovering u h = elim (nat_lt i u.inc) as (λ c. (cond {A = Watch} c u (record u { inc = i; ticks = 0; said = Some (s, recovering) })).ticks ≤ 0) [ true ↦ h | false ↦ omega arith ]

  -- what the peer's step leaves of its watches
  heard-stepped : (z : Progress) (next : World) (n o m : PlainNode) → JustHeard z → (slot_of z.world a).node ≡ Some n → (slot_of next a).node ≡ Some o → (slot_of next a).node ≡ Some m → o.peers ≡ n.peers → (u : Watch) → slice_get m.peers b ≡ Some u → u.ticks ≤ 0
  heard-stepped z next n o m h up now there same u at = h n up u (ap (λ (ws : List Watch). slice_get ws b) (sym same) ∙ ap (λ (y : PlainNode). slice_get y.peers b) (some-same o m (sym now ∙ there)) ∙ at)

  -- all but its own tick leave it
  pub heard-next : (z : Progress) (e : Event) → Sees script x a b z e → is_tick a e ≡ false → JustHeard z → JustHeard (next_progress script z e)
  heard-next z e goes apart h m there u at = on (replica-does z.world goes.here.here.most goes.here.here.fine a g r (a-here z goes.here) e)
    where
      took : (n : PlainNode) (f : Envelope) → (slot_of z.world a).node ≡ Some n → (ws : List Watch) → Hears (home_of z.world.plan (g, r)) f.sender f.packet n.peers ws → slice_get ws b ≡ Some u → u.ticks ≤ 0
      took n f up ws (Hears.Same same) at_ws = h n up u (ap (λ (vs : List Watch). slice_get vs b) (sym same) ∙ at_ws)
      took n f up ws (Hears.Notes beat q packet place same) at_ws =
          let k = get-was q (after_beat beat.inc beat.state beat.recovering) n.peers b u (ap (λ (vs : List Watch). slice_get vs b) (sym same) ∙ at_ws) in
          elim k.2 [
            | inl still ↦ subst (λ (y : Watch). y.ticks ≤ 0) still (h n up k.0 k.1)
            | inr here ↦ subst (λ (y : Watch). y.ticks ≤ 0) here.1 (beat-ticks beat.inc beat.state beat.recovering k.0 (h n up k.0 k.1))
          ]

      not-ticked : (now : ℕ) → e ≡ Tick a now → ⊥
      not-ticked now event = let clash : true ≡ false = sym (eq-test a a refl) ∙ sym (ap (λ (c : Event). is_tick a c) event) ∙ apart in cc

      on : ReplicaDoes z.world (home_of z.world.plan (g, r)) a e (happens z.world e) → u.ticks ≤ 0
      on (ReplicaDoes.Rests slot sends) = h m (sym (ap (λ (s : Slot). s.node) slot) ∙ there) u at
      on (ReplicaDoes.Falls crash down last sends) = let clash : ◌≡◌ {A = Option PlainNode} None (Some m) = sym down ∙ there in cc
      on (ReplicaDoes.Starts i newer down now last sends) =
          let node = node-there z.world goes.here.here.most a g r goes.here.here.fine goes.here.here.up (a-here z goes.here) in
          let clash : ◌≡◌ {A = Option PlainNode} None (Some node.0) = sym down ∙ node.1 in cc
      on (ReplicaDoes.Takes k f n event sent can to s) =
          let t = packet_step (home_of z.world.plan (g, r)) f.sender f.packet n in
          took n f s.up t.after.peers (packet-hears (home_of z.world.plan (g, r)) f.sender f.packet n) (ap (λ (y : PlainNode). slice_get y.peers b) (some-same t.after m (sym s.now ∙ there)) ∙ at)
      on (ReplicaDoes.Ticks now n event s) = absurd (not-ticked now event)
      on (ReplicaDoes.Mills q n s) = heard-stepped z (happens z.world e) n (mill_step (home_of z.world.plan (g, r)) q n).after m h s.up s.now there (milled-peers (home_of z.world.plan (g, r)) q n) u at

  -- the beat comes
  pub heard-now : (z : Progress) (m : ℕ) → Sees script x a b z (Deliver m) → IsBeating m z → JustHeard (next_progress script z (Deliver m))
  heard-now z m goes h o there u at =
      let here = goes.here.here in
      let w = z.world in
      let role = a-here z goes.here in
      let home = home_of w.plan (g, r) in
      let node = node-there w here.most a g r here.fine here.up role in
      let f : Envelope = from x (mail a (message.Beat h.beat)) in
      let can : can_come w f ≡ true = sym (ap (λ (o : Option Envelope). may_come w o) h.sent) ∙ comes-here z m goes.here h in
      let now = node-took-now w here.most a g r here.fine role m f node.0 h.sent can refl node.1 in
      let t = packet_step home x (Plain (message.Beat h.beat)) node.0 in
      let one : t.after ≡ o = some-same t.after o (sym now ∙ there) in
      let peers = told-peers home x b h.beat node.0 (number-is w.plan x g b r (x-here z goes.here)) in
      let found : slice_get (changed b (after_beat h.beat.inc h.beat.state h.beat.recovering) node.0.peers) b ≡ Some u = ap (λ (ws : List Watch). slice_get ws b) (sym peers) ∙ ap (λ (y : PlainNode). slice_get y.peers b) one ∙ at in
      let y = get-was b (after_beat h.beat.inc h.beat.state h.beat.recovering) node.0.peers b u found in
      let known = goes.here.heard node.0 y.0 node.1 y.1 in
      let is : u ≡ after_beat h.beat.inc h.beat.state h.beat.recovering y.0 = some-same u (after_beat h.beat.inc h.beat.state h.beat.recovering y.0) (sym found ∙ get-changed b (after_beat h.beat.inc h.beat.state h.beat.recovering) node.0.peers y.0 y.1) in
      let few = known.inc in
      let first = h.inc in
      let new : nat_lt h.beat.inc y.0.inc ≡ false = not-less h.beat.inc y.0.inc (omega (arith, few, first)) in
      let noted : u ≡ record y.0 { inc = h.beat.inc; ticks = 0; said = Some (h.beat.state, h.beat.recovering) } = is ∙ ap (λ (c : Bool). cond {A = Watch} c y.0 (record y.0 { inc = h.beat.inc; ticks = 0; said = Some (h.beat.state, h.beat.recovering) })) new in
      let none : u.ticks ≡ 0 = ap (λ (o : Watch). o.ticks) noted in
      omega (arith, none)
