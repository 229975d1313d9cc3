-- A reader that watches replicas all of which have finished: what an event makes of what it knows of each of them.
use Rattle.std.specs.Prelude.{IfSome}
use Rattle.std.proofs.Common.{◌≡◌, ℕ, zero, suc, ◌+◌, ◌<◌, ◌≤◌, min, Bool, true, false, cond, ◌||◌, ◌==◌, nat_lt, List, [], ◌∷◌, map, length, refl, sym, ap, subst, ◌∙◌, arith, Option, Some, None, slice_get, inl, inr}
use Rattle.std.proofs.lemmas.List.{length-map}
use Rattle.dpc_lists.specs.Lists.{changed, has, place_of}
use Rattle.dpc_model.specs.Actors.{role_of, inputs_of, senders_of}
use Rattle.dpc_model.specs.Inlets.{same_sess, take_batch}
use Rattle.dpc_model.specs.Ports.{Port, sender_at, without_ended_marks}
use Rattle.dpc_model.specs.Replicas.{Watch, after_beat, after_tick, with_mark, after_count}
use Rattle.dpc_model.specs.declared.actors.Role.{Role}
use Rattle.dpc_model.specs.declared.actors.Role.TheVariants.{Source as IsSource, Node as IsNode, Client as IsClient, Nobody}
use Rattle.dpc_model.specs.declared.messages.Beat.{Beat}
use Rattle.dpc_model.specs.declared.messages.Event.{Event}
use Rattle.dpc_model.specs.declared.messages.Event.TheVariants.{Phase, Emit, Release, Cut, Heal, Crash, Restart, Deliver, Tick, Mill}
use Rattle.dpc_model.specs.declared.messages.Message.TheVariants as message
use Rattle.dpc_model.specs.declared.plans.Plan.{Plan}
use Rattle.dpc_model.specs.declared.plans.StreamRef.{StreamRef}
use Rattle.dpc_model.specs.declared.plans.StreamRef.TheVariants.{Frag}
use Rattle.dpc_model.specs.declared.scripts.Script.{Script}
use Rattle.dpc_lists.proofs.Elements.{length-changed}
use Rattle.node_model.specs.Mails.{Packet, Plain, SnapFor}
use Rattle.node_model.specs.Nodes.{PlainNode}
use Rattle.world_model.specs.Worlds.{World, Envelope, slot_of, client_at, happens}
use Rattle.world_model.specs.Schedules.{Progress, next_progress, may_follow}
use Rattle.world_model.specs.Steady.{NoneThree, IsHeardAt, AreHeard as AreAllHeard, HeardBy, TickIsHeard}
use Rattle.law_safety.proofs.Pointwise.{sender-of}
use Rattle.dpc_lists.proofs.Truths.{eq-test}
use Rattle.dpc_lists.proofs.Somes.{some-same}
use Rattle.law_granting.specs.Taken.{node_port, role_port, port_of}
use Rattle.law_granting.proofs.Moves.{get-mapped, get-was}
use Rattle.law_schedules.specs.Journals.{Ticks}
use Rattle.law_settling.specs.Rests.{RestsAt}
use Rattle.law_settling.proofs.Lines.{place-low}
use Rattle.law_settling.proofs.PortExact.{port_after}
use Rattle.law_settling.proofs.PortGoing.{PortGoes, port-goes}
use Rattle.world_model.specs.Events.{is_tick, is_quiet}
use Rattle.law_settling.proofs.Rules.{same-tick}
use Rattle.law_settling.proofs.Splitting.{IsQuietAt}
use Rattle.law_settling_readers.proofs.Reading.{replica_at, replicas_in, sends_it, Stand, replica-sends}

-- ---- what is known of one replica

-- it stays, or a beat of the replica is noted, or a tick is counted
pub data WatchGoes (w : World) (x p i : ℕ) (e : Event) (v u : Watch) : Type 0 where
  Stays : u.said ≡ v.said → u.ticks ≡ v.ticks → WatchGoes w x p i e v u
  Notes : (j : ℕ) (g : Envelope) (b : Beat) → e ≡ Deliver j → slice_get w.envelopes j ≡ Some g → sender_at w.plan (inputs_of w.plan (role_of w.plan x)) g.sender ≡ Some (p, i) → g.packet ≡ Plain (message.Beat b) → u.said ≡ Some (b.state, b.recovering) → u.ticks ≡ 0 → WatchGoes w x p i e v u
  Counts : (now : ℕ) → e ≡ Tick x now → u.said ≡ v.said → u.ticks ≡ min 4 (v.ticks + 1) → WatchGoes w x p i e v u

module _ (w : World) (x p : ℕ) (e : Event) where
  abbrev pub Known : ℕ → List Watch → Watch → Type 0
  Known i ws u = (v : Watch) × (slice_get ws i ≡ Some v) × WatchGoes w x p i e v u

  -- one that is as before but for its mark
  goes-from : (i : ℕ) (v y u : Watch) → y.said ≡ v.said → y.ticks ≡ v.ticks → WatchGoes w x p i e y u → WatchGoes w x p i e v u
  goes-from i v y u said ticks (WatchGoes.Stays s t) = WatchGoes.Stays (s ∙ said) (t ∙ ticks)
  goes-from i v y u said ticks (WatchGoes.Notes j g b event at place packet s t) = WatchGoes.Notes j g b event at place packet s t
  goes-from i v y u said ticks (WatchGoes.Counts now event s t) = WatchGoes.Counts now event (s ∙ said) (t ∙ ap (λ (n : ℕ). min 4 (n + 1)) ticks)

  from-ended : (i n : ℕ) (ws : List Watch) (u : Watch) → Known i (map (after_count n) ws) u → Known i ws u
  from-ended i n ws u (y, at, goes) =
      let k = get-mapped (after_count n) ws i y at in
      (k.0, k.1, goes-from i k.0 y u (ap (λ (z : Watch). z.said) (sym k.2)) (ap (λ (z : Watch). z.ticks) (sym k.2)) goes)

  same-known : (i : ℕ) (ws : List Watch) (u : Watch) → slice_get ws i ≡ Some u → Known i ws u
  same-known i ws u at = (u, at, WatchGoes.Stays refl refl)

  marked-known : (i c base : ℕ) (ws : List Watch) (u : Watch) → slice_get (changed c (with_mark base) ws) i ≡ Some u → Known i ws u
  marked-known i c base ws u at =
      let k = get-was c (with_mark base) ws i u at in (
        k.0,
        k.1,
        elim k.2 [
          | inl same ↦ WatchGoes.Stays (ap (λ (z : Watch). z.said) (sym same)) (ap (λ (z : Watch). z.ticks) (sym same))
          | inr here ↦ WatchGoes.Stays (ap (λ (z : Watch). z.said) (sym here.1)) (ap (λ (z : Watch). z.ticks) (sym here.1))
        ],
      )

  -- a beat of replica c
  beaten-known : (i c j : ℕ) (g : Envelope) (b : Beat) (ws : List Watch) (u : Watch) → e ≡ Deliver j → slice_get w.envelopes j ≡ Some g → sender_at w.plan (inputs_of w.plan (role_of w.plan x)) g.sender ≡ Some (p, c) → g.packet ≡ Plain (message.Beat b) →
      slice_get (changed c (after_beat b.inc b.state b.recovering) ws) i ≡ Some u → Known i ws u
  beaten-known i c j g b ws u event sent place packet at =
      let k = get-was c (after_beat b.inc b.state b.recovering) ws i u at in (
        k.0,
        k.1,
        elim k.2 [
          | inl same ↦ WatchGoes.Stays (ap (λ (z : Watch). z.said) (sym same)) (ap (λ (z : Watch). z.ticks) (sym same))
          | inr here ↦ noted k.0 here.0 here.1
        ],
      )
    where
      noted : (v : Watch) → i ≡ c → after_beat b.inc b.state b.recovering v ≡ u → WatchGoes w x p i e v u
      noted v here is =
          (elim (nat_lt b.inc v.inc) as (λ t. cond {A = Watch} t v (record v { inc = b.inc; ticks = 0; said = Some (b.state, b.recovering) }) ≡ u → WatchGoes w x p i e v u) [
            | true ↦ λ d. WatchGoes.Stays (ap (λ (z : Watch). z.said) (sym d)) (ap (λ (z : Watch). z.ticks) (sym d))
            | false ↦ λ d. WatchGoes.Notes j g b event sent (place ∙ ap {B = Option (ℕ × ℕ)} (λ (m : ℕ). Some (p, m)) (sym here)) packet (ap (λ (z : Watch). z.said) (sym d)) (ap (λ (z : Watch). z.ticks) (sym d))
          ]) is

  taken-known : (i c j : ℕ) (g : Envelope) (y : Port) (u : Watch) → e ≡ Deliver j → slice_get w.envelopes j ≡ Some g → sender_at w.plan (inputs_of w.plan (role_of w.plan x)) g.sender ≡ Some (p, c) →
      (packet : Packet) → g.packet ≡ packet → slice_get (port_after c packet y).watches i ≡ Some u → Known i y.watches u
  taken-known i c j g y u event sent place (Plain (message.Batch s index items)) is at = same-known i y.watches u (sym (ap (λ (ws : List Watch). slice_get ws i) left) ∙ at)
    where
      left : (cond (y.chosen == c) (record y { inlet = (take_batch y.inlet s index items).after }) y).watches ≡ y.watches
      left = elim (y.chosen == c) as (λ t. (cond t (record y { inlet = (take_batch y.inlet s index items).after }) y).watches ≡ y.watches) [ true ↦ refl | false ↦ refl ]
  taken-known i c j g y u event sent place (Plain (message.Truncated s base)) is at =
      (elim (same_sess s y.inlet.sess) as (λ t. slice_get (cond t (changed c (with_mark base) y.watches) y.watches) i ≡ Some u → Known i y.watches u) [
        | true ↦ λ d. marked-known i c base y.watches u d
        | false ↦ λ d. same-known i y.watches u d
      ]) at
  taken-known i c j g y u event sent place (Plain (message.Beat b)) is at = beaten-known i c j g b y.watches u event sent place is at
  taken-known i c j g y u event sent place (Plain (message.Subscribe asked)) is at = same-known i y.watches u at
  taken-known i c j g y u event sent place (Plain (message.Ack l n)) is at = same-known i y.watches u at
  taken-known i c j g y u event sent place (Plain (message.Ask l n)) is at = same-known i y.watches u at
  taken-known i c j g y u event sent place (Plain (message.Grant l n)) is at = same-known i y.watches u at
  taken-known i c j g y u event sent place (Plain (message.SnapAsk l n)) is at = same-known i y.watches u at
  taken-known i c j g y u event sent place (SnapFor l try s) is at = same-known i y.watches u at

  ticked-known : (i n now : ℕ) (ws : List Watch) (u : Watch) → e ≡ Tick x now → slice_get (map after_tick (map (after_count n) ws)) i ≡ Some u → Known i ws u
  ticked-known i n now ws u event at =
      let k = get-mapped after_tick (map (after_count n) ws) i u at in
      from-ended i n ws u (k.0, k.1, WatchGoes.Counts now event (ap (λ (z : Watch). z.said) (sym k.2)) (ap (λ (z : Watch). z.ticks) (sym k.2)))

  pub watch-goes : (s : StreamRef) (next : World) (q r : Port) → PortGoes w x p s e next q r → (i : ℕ) (u : Watch) → slice_get r.watches i ≡ Some u → Known i q.watches u
  watch-goes s next q r (PortGoes.Rests (inl is)) i u at = same-known i q.watches u (sym (ap (λ (y : Port). slice_get y.watches i) is) ∙ at)
  watch-goes s next q r (PortGoes.Rests (inr is)) i u at =
      from-ended i (length q.inlet.held.stable) q.watches u (same-known i (without_ended_marks q).watches u (sym (ap (λ (y : Port). slice_get y.watches i) is) ∙ at))
  watch-goes s next q r (PortGoes.TakesIn j c g event sent to place is lost) i u at =
      from-ended i (length q.inlet.held.stable) q.watches u (taken-known i c j g (without_ended_marks q) u event sent place g.packet refl (sym (ap (λ (y : Port). slice_get y.watches i) is) ∙ at))
  watch-goes s next q r (PortGoes.TicksOn now event ticked) i u at = ticked-known i (length q.inlet.held.stable) now q.watches u event (sym (ap (λ (y : Port). slice_get y.watches i) ticked.port) ∙ at)

  -- as many as before
  ended-many : (q : Port) → length (without_ended_marks q).watches ≡ length q.watches
  ended-many q = length-map q.watches (after_count (length q.inlet.held.stable))

  taken-many : (c : ℕ) (packet : Packet) (y : Port) → length (port_after c packet y).watches ≡ length y.watches
  taken-many c (Plain (message.Batch s index items)) y = elim (y.chosen == c) as (λ t. length (cond t (record y { inlet = (take_batch y.inlet s index items).after }) y).watches ≡ length y.watches) [ true ↦ refl | false ↦ refl ]
  taken-many c (Plain (message.Truncated s base)) y = elim (same_sess s y.inlet.sess) as (λ t. length (cond t (changed c (with_mark base) y.watches) y.watches) ≡ length y.watches) [ true ↦ length-changed c (with_mark base) y.watches | false ↦ refl ]
  taken-many c (Plain (message.Beat b)) y = length-changed c (after_beat b.inc b.state b.recovering) y.watches
  taken-many c (Plain (message.Subscribe asked)) y = refl
  taken-many c (Plain (message.Ack l n)) y = refl
  taken-many c (Plain (message.Ask l n)) y = refl
  taken-many c (Plain (message.Grant l n)) y = refl
  taken-many c (Plain (message.SnapAsk l n)) y = refl
  taken-many c (SnapFor l try s) y = refl

  pub watches-many : (s : StreamRef) (next : World) (q r : Port) → PortGoes w x p s e next q r → length r.watches ≡ length q.watches
  watches-many s next q r (PortGoes.Rests (inl is)) = ap (λ (y : Port). length y.watches) is
  watches-many s next q r (PortGoes.Rests (inr is)) = ap (λ (y : Port). length y.watches) is ∙ ended-many q
  watches-many s next q r (PortGoes.TakesIn j c g event sent to place is lost) = ap (λ (y : Port). length y.watches) is ∙ taken-many c g.packet (without_ended_marks q) ∙ ended-many q
  watches-many s next q r (PortGoes.TicksOn now event ticked) = ap (λ (y : Port). length y.watches) ticked.port ∙ length-map (without_ended_marks q).watches after_tick ∙ ended-many q

-- ---- good states

-- no last beat of several replicas is three ticks ago
abbrev pub NoneThird : ℕ → ℕ → World → Type 0
NoneThird x p w = (q : Port) → port_of w x p ≡ Some q → 1 < length q.watches → (i : ℕ) (v : Watch) → slice_get q.watches i ≡ Some v → v.ticks ≡ 3 → ⊥

-- its reader does not recover, all replicas have finished; no beat of a later incarnation is known, and none is three ticks ago once the reader ticked in the phase
pub record IsWatching (script : Script) (x p f k : ℕ) (z : Progress) : Type 0 where
  pub stand : Stand script.plan x p f k z.world
  pub at : IsQuietAt script z
  pub clocked : (a now : ℕ) → may_follow script z (Tick a now) ≡ true → Ticks z.world a now
  pub port : Port
  pub there : port_of z.world x p ≡ Some port
  pub below : (q : Port) (i r : ℕ) (v : Watch) (n : PlainNode) → port_of z.world x p ≡ Some q → i < replicas_in script.plan f → role_of script.plan (replica_at script.plan f i) ≡ IsNode f r → (slot_of z.world (replica_at script.plan f i)).node ≡ Some n → slice_get q.watches i ≡ Some v → v.inc ≤ n.grants.inc
  pub aware : has z.ticked x ≡ true → NoneThird x p z.world

module _ (script : Script) (x p f k : ℕ) where
  -- who sends what the port takes
  pub takes-sends : (z : Progress) (q : Port) → Stand script.plan x p f k z.world → port_of z.world x p ≡ Some q → (a i : ℕ) → sender_at z.world.plan (inputs_of z.world.plan (role_of z.world.plan x)) a ≡ Some (p, i) → sends_it script.plan f a ≡ true
  takes-sends z q st there a i place =
      let pl = z.world.plan in
      let found = sender-of pl (inputs_of pl (role_of pl x)) a p i place in
      let same : found.stream ≡ Frag f = some-same found.stream (Frag f) (sym found.at ∙ st.line.port.there) in
      let from = place-low a (senders_of pl (Frag f)) i (subst (λ (s : StreamRef). place_of (λ b. a == b) (senders_of pl s) ≡ Some i) same found.place) in
      ap (λ (v : Plan). sends_it v f a) (sym st.of_plan) ∙ ap (λ (b : ℕ). sends_it z.world.plan f b) (sym from.1) ∙ replica-sends script.plan x p f k z.world st q there i from.0

  -- the port before an event, and what became of one replica's watch
  pub record WatchWas (z : Progress) (e : Event) (r : Port) (i : ℕ) (u : Watch) : Type 0 where
    pub port : Port
    pub there : port_of z.world x p ≡ Some port
    pub many : length r.watches ≡ length port.watches
    pub watch : Watch
    pub at : slice_get port.watches i ≡ Some watch
    pub goes : WatchGoes z.world x p i e watch u

  pub watch-was : (z : Progress) (e : Event) → is_quiet e ≡ true → Stand script.plan x p f k z.world → RestsAt (happens z.world e) x → (q r : Port) → port_of z.world x p ≡ Some q → port_of (happens z.world e) x p ≡ Some r → (i : ℕ) (u : Watch) → slice_get r.watches i ≡ Some u → WatchWas z e r i u
  watch-was z e quiet st calm_next q r there now i u at =
      let n = port-goes z.world st.most x p (Frag f) st.fine st.many st.line.port st.calm e quiet calm_next q there in
      let one : n.0 ≡ r = some-same n.0 r (sym n.1 ∙ now) in
      let goes = subst (λ (y : Port). PortGoes z.world x p (Frag f) e (happens z.world e) q y) one n.2 in
      let k = watch-goes z.world x p e (Frag f) (happens z.world e) q r goes i u at in
      record { port = q; there = there; many = watches-many z.world x p e (Frag f) (happens z.world e) q r goes; watch = k.0; at = k.1; goes = k.2 }

-- ---- a reader's own tick

none-third : (ws : List Watch) → NoneThree ws → (i : ℕ) (v : Watch) → slice_get ws i ≡ Some v → v.ticks ≡ 3 → ⊥
none-third [] h i v at three = cc
none-third (w ∷ ws) h zero v at three = h.0 (ap (λ (y : Watch). y.ticks) (some-same w v at) ∙ three)
none-third (w ∷ ws) h (suc i) v at three = none-third ws h.1 i v at three

port-heard : (ports : List Port) (p : ℕ) (q : Port) → AreAllHeard ports → slice_get ports p ≡ Some q → IsHeardAt q
port-heard [] p q h at = cc
port-heard (y ∷ ports) zero q h at = subst (λ (z : Port). IsHeardAt z) (some-same y q at) h.0
port-heard (y ∷ ports) (suc p) q h at = port-heard ports p q h.1 at

tick-heard : (w : World) (x p : ℕ) → HeardBy w x (role_of w.plan x) → NoneThird x p w
tick-heard w x p h q there several = none-third q.watches (by-role (role_of w.plan x) h there several)
  where
    by-node : (o : Option PlainNode) → IfSome o (λ (n : PlainNode). AreAllHeard n.ports) → node_port p o ≡ Some q → IsHeardAt q
    by-node None g e = cc
    by-node (Some n) g e = port-heard n.ports p q g e

    by-role : (role : Role) → HeardBy w x role → role_port w x p role ≡ Some q → IsHeardAt q
    by-role (IsSource s) g e = cc
    by-role Nobody g e = cc
    by-role (IsNode f r) g e = by-node (slot_of w x).node g e
    by-role (IsClient c) g e = (elim (p == 0) as (λ t. cond {A = Option Port} t (Some (client_at w c).port) None ≡ Some q → IsHeardAt q) [
      | true ↦ λ d. subst (λ (z : Port). IsHeardAt z) (some-same (client_at w c).port q d) g
      | false ↦ λ d. cc
    ]) e

pub ticked-on : (script : Script) (z : Progress) (e : Event) (x : ℕ) → is_quiet e ≡ true → is_tick x e ≡ false → has (next_progress script z e).ticked x ≡ has z.ticked x
ticked-on script z (Phase n) x quiet other = cc
ticked-on script z (Emit s t) x quiet other = cc
ticked-on script z (Release s t) x quiet other = cc
ticked-on script z (Cut a b) x quiet other = cc
ticked-on script z (Heal a b) x quiet other = cc
ticked-on script z (Crash a) x quiet other = cc
ticked-on script z (Restart a i) x quiet other = cc
ticked-on script z (Deliver j) x quiet other = refl
ticked-on script z (Tick a now) x quiet other = ap (λ (t : Bool). t || has z.ticked x) other
ticked-on script z (Mill a r) x quiet other = refl

-- an event of a phase
pub aware-next : (script : Script) (x p f k : ℕ) (z : Progress) (e : Event) (q : Port) → is_quiet e ≡ true → Stand script.plan x p f k z.world → RestsAt (happens z.world e) x → port_of z.world x p ≡ Some q → ((now : ℕ) → e ≡ Tick x now → TickIsHeard (happens z.world (Tick x now)) (Tick x now)) →
    (has z.ticked x ≡ true → NoneThird x p z.world) → has (next_progress script z e).ticked x ≡ true → NoneThird x p (happens z.world e)
aware-next script x p f k z e q quiet st calm_next there heard aware ticked =
    (elim (is_tick x e) as (λ t. is_tick x e ≡ t → NoneThird x p (happens z.world e)) [
      | true ↦ λ d.
          let same = same-tick x e quiet d in
          subst (λ (c : Event). NoneThird x p (happens z.world c)) (sym same.1) (tick-heard (happens z.world (Tick x same.0)) x p (heard same.0 same.1))
      | false ↦ λ d. others d (aware (sym (ticked-on script z e x quiet d) ∙ ticked))
    ]) refl
  where
    others : is_tick x e ≡ false → NoneThird x p z.world → NoneThird x p (happens z.world e)
    others other none r now several i u at three =
        let was = watch-was script x p f k z e quiet st calm_next q r there now i u at in by-goes was was.goes
      where
        by-goes : (was : WatchWas script x p f k z e r i u) → WatchGoes z.world x p i e was.watch u → ⊥
        by-goes was (WatchGoes.Stays said ticks) = let many = was.many in none was.port was.there (omega (arith, several, many)) i was.watch was.at (sym ticks ∙ three)
        by-goes was (WatchGoes.Notes j g b event sent place packet said ticks) = omega (arith, three, ticks)
        by-goes was (WatchGoes.Counts clock event said ticks) = let clash : true ≡ false = sym (eq-test x x refl) ∙ sym (ap (λ (c : Event). is_tick x c) event) ∙ other in cc
