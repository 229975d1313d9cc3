-- No run invents a tentative tuple.
use Rattle.std.proofs.Common.{◌≡◌, ℕ, ◌+◌, true, false, cond, List, [], ◌∷◌, ◌++◌, map, length, drop, refl, sym, ap, subst, ◌∙◌, Option, Some, None, slice_get}
use Rattle.std.specs.Prelude.{All}
use Rattle.std.proofs.Math.Seq.{drop-append_seam, drop-length}
use Rattle.std.proofs.lemmas.List.Elements.{All-nil, All-cons}
use Rattle.dpc_lists.specs.Lists.{list_all, push}
use Rattle.dpc_model.specs.Actors.{role_of}
use Rattle.dpc_model.specs.declared.actors.Role.{Role}
use Rattle.dpc_model.specs.declared.actors.Role.TheVariants.{Source as IsSource, Node as IsNode, Client as IsClient, Nobody}
use Rattle.dpc_model.specs.declared.tuples.Tuple.{Tuple}
use Rattle.dpc_model.specs.declared.messages.Event.{Event}
use Rattle.dpc_model.specs.declared.messages.Event.TheVariants.{Phase, Emit, Release, Cut, Heal, Crash, Restart, Deliver, Tick, Mill}
use Rattle.dpc_model.specs.declared.messages.Message.TheVariants as message
use Rattle.dpc_model.specs.declared.plans.Plan.{Plan}
use Rattle.node_model.specs.Mails.{Mail, mails, Stepped}
use Rattle.node_model.specs.Nodes.{PlainNode, out_tentative}
use Rattle.node_model.specs.NodeSteps.{packet_step, mill_step, tick_step}
use Rattle.node_model.specs.Sources.{source_emits, source_releases, source_packet_step, source_tick_step, SourceState}
use Rattle.node_model.specs.Clients.{ClientState, client_stream, client_tick_step}
use Rattle.dpc_model.specs.Ports.{without_ended_marks, port_after_tick, subscriptions, acks_to}
use Rattle.dpc_model.specs.Actors.{senders_of}
use Rattle.world_model.specs.Worlds.{World, Envelope, Slot, home_of, from, slot_of, source_at, client_at, node_stepped, source_stepped, client_stepped, is_release_time, is_clock, emits, releases, link_up, crashes, restarts, node_takes, taken_by, can_come, comes, node_ticks, ticks, can_mill, node_mills, mills, happens, new_world}
use Rattle.world_model.specs.Safe.{EachStep}
use Rattle.world_model.specs.Orderly.{items_carried}
use Rattle.law_safety.specs.Plans.{IsCheckedPlan}
use Rattle.dpc_lists.proofs.Truths.{all-append}
use Rattle.law_safety.proofs.Happening.{IsFine, happens-next}
use Rattle.law_safety.proofs.Law.{new_world-fine}
use Rattle.law_sessions.specs.Laws.{TentativesStand, tentative_output, NoneInvented, NoneIsInvented}
use Rattle.law_sessions.proofs.Keeping.{is_bare}
use Rattle.law_sessions.proofs.Noding.{subscriptions-bare}
use Rattle.law_sessions.proofs.Worlds.{stepped-slot}
use Rattle.law_sessions.proofs.Standing.{AreStanding, Stands, bare-standing, ticked-stands, milled-stands, delivered-stands, emits-standing, releases-standing, source_delivered-standing, source_ticked-standing}

-- what a world sent anew stands
abbrev AllStand : World → World → Type 0
AllStand w next = All (λ (x : Envelope). TentativesStand (tentative_output next x.sender (role_of next.plan x.sender)) (items_carried x.packet)) (drop (length w.envelopes) next.envelopes)

none-sent : (w next : World) → next.envelopes ≡ w.envelopes → AllStand w next
none-sent w next same =
    subst (λ (es : List Envelope). All (λ (x : Envelope). TentativesStand (tentative_output next x.sender (role_of next.plan x.sender)) (items_carried x.packet)) es)
    (sym (ap (λ (es : List Envelope). drop (length w.envelopes) es) same ∙ drop-length w.envelopes)) (All-nil (λ (x : Envelope). TentativesStand (tentative_output next x.sender (role_of next.plan x.sender)) (items_carried x.packet)))

mails-sent : (w next : World) (a : ℕ) (ms : List Mail) → next.envelopes ≡ w.envelopes ++ map (from a) ms → AreStanding (tentative_output next a (role_of next.plan a)) ms → AllStand w next
mails-sent w next a ms same h =
    subst (λ (es : List Envelope). All (λ (x : Envelope). TentativesStand (tentative_output next x.sender (role_of next.plan x.sender)) (items_carried x.packet)) es)
    (sym (ap (λ (es : List Envelope). drop (length w.envelopes) es) same ∙ drop-append_seam w.envelopes (map (from a) ms))) (each ms h)
  where
    each : (ms : List Mail) → AreStanding (tentative_output next a (role_of next.plan a)) ms → All (λ (x : Envelope). TentativesStand (tentative_output next x.sender (role_of next.plan x.sender)) (items_carried x.packet)) (map (from a) ms)
    each [] h = All-nil (λ (x : Envelope). TentativesStand (tentative_output next x.sender (role_of next.plan x.sender)) (items_carried x.packet))
    each (m ∷ ms) h = All-cons (λ (x : Envelope). TentativesStand (tentative_output next x.sender (role_of next.plan x.sender)) (items_carried x.packet)) (from a m) (map (from a) ms) h.0 (each ms h.1)

node-sent : (w : World) (most a f r : ℕ) (s : Stepped PlainNode) → IsFine w most → role_of w.plan a ≡ IsNode f r → Stands (home_of w.plan (f, r)) s → AllStand w (node_stepped a s w)
node-sent w most a f r s fine role stands =
    let next = node_stepped a s w in
    let slot : slot_of next a ≡ record (slot_of w a) { node = Some s.after } = stepped-slot w most a f r (λ (slot : Slot). record slot { node = Some s.after }) fine role in
    let out : tentative_output next a (role_of w.plan a) ≡ out_tentative (home_of w.plan (f, r)) s.after =
    ap (λ (x : Role). tentative_output next a x) role ∙ ap (λ (x : Slot). elim x.node [ None ↦ [] | Some n ↦ out_tentative (home_of w.plan (f, r)) n ]) slot in
    mails-sent w next a s.sends refl (subst (λ (ts : List Tuple). AreStanding ts s.sends) (sym out) stands)

source-sent : (w : World) (a s : ℕ) (t : Stepped SourceState) → role_of w.plan a ≡ IsSource s → AreStanding [] t.sends → AllStand w (source_stepped a t w)
source-sent w a s t role stands =
    let next = source_stepped a t w in
    mails-sent w next a t.sends refl (subst (λ (x : Role). AreStanding (tentative_output next a x) t.sends) (sym role) stands)

-- ---- events

emit-stands : (w : World) (a t : ℕ) (role : Role) → role_of w.plan a ≡ role → AllStand w (emits w a t role)
emit-stands w a t (IsSource s) e = elim (is_release_time w.plan t) as (λ b. AllStand w (cond b (source_stepped a (source_emits w.plan s t (source_at w s)) w) w)) [
  | true ↦ source-sent w a s (source_emits w.plan s t (source_at w s)) e (emits-standing w.plan s t (source_at w s))
  | false ↦ none-sent w w refl
]
emit-stands w a t (IsNode f r) e = none-sent w w refl
emit-stands w a t (IsClient c) e = none-sent w w refl
emit-stands w a t Nobody e = none-sent w w refl

release-stands : (w : World) (a t : ℕ) (role : Role) → role_of w.plan a ≡ role → AllStand w (releases w a t role)
release-stands w a t (IsSource s) e = elim (is_release_time w.plan t) as (λ b. AllStand w (cond b (source_stepped a (source_releases w.plan s t (source_at w s)) w) w)) [
  | true ↦ source-sent w a s (source_releases w.plan s t (source_at w s)) e (releases-standing w.plan s t (source_at w s))
  | false ↦ none-sent w w refl
]
release-stands w a t (IsNode f r) e = none-sent w w refl
release-stands w a t (IsClient c) e = none-sent w w refl
release-stands w a t Nobody e = none-sent w w refl

crash-stands : (w : World) (a : ℕ) (role : Role) → AllStand w (crashes w a role)
crash-stands w a (IsNode f r) = none-sent w (crashes w a (IsNode f r)) refl
crash-stands w a (IsSource s) = none-sent w w refl
crash-stands w a (IsClient c) = none-sent w w refl
crash-stands w a Nobody = none-sent w w refl

restart-stands : (w : World) (a i : ℕ) (role : Role) → AllStand w (restarts w a i role)
restart-stands w a i (IsNode f r) = none-sent w (restarts w a i (IsNode f r)) refl
restart-stands w a i (IsSource s) = none-sent w w refl
restart-stands w a i (IsClient c) = none-sent w w refl
restart-stands w a i Nobody = none-sent w w refl

taken-stands : (w : World) (most : ℕ) (e : Envelope) (role : Role) → IsFine w most → role_of w.plan e.to ≡ role → AllStand w (taken_by w e role)
taken-stands w most e (IsSource s) fine f = source-sent w e.to s (source_packet_step w.plan s e.sender e.packet (source_at w s)) f (source_delivered-standing w.plan s e.sender e.packet (source_at w s))
taken-stands w most e (IsNode f r) fine g = by-node (slot_of w e.to).node
  where
    by-node : (o : Option PlainNode) → AllStand w (node_takes w e (home_of w.plan (f, r)) o)
    by-node None = none-sent w w refl
    by-node (Some n) = node-sent w most e.to f r (packet_step (home_of w.plan (f, r)) e.sender e.packet n) fine g (delivered-stands (home_of w.plan (f, r)) e.sender e.packet n)
taken-stands w most e (IsClient c) fine f = none-sent w (taken_by w e (IsClient c)) refl
taken-stands w most e Nobody fine f = none-sent w w refl

deliver-stands : (w : World) (most : ℕ) (o : Option Envelope) → IsFine w most → AllStand w (comes w o)
deliver-stands w most None fine = none-sent w w refl
deliver-stands w most (Some e) fine = elim (can_come w e) as (λ b. AllStand w (cond b (taken_by w e (role_of w.plan e.to)) w)) [
  | true ↦ taken-stands w most e (role_of w.plan e.to) fine refl
  | false ↦ none-sent w w refl
]

client-bare : (plan : Plan) (c now : ℕ) (x : ClientState) → list_all is_bare (client_tick_step plan c now x).sends ≡ true
unfolding client_tick_step
client-bare plan c now x =
    let port = port_after_tick (without_ended_marks x.port) in
    all-append is_bare (mails (subscriptions plan (port ∷ []) (client_stream plan c ∷ []))) (mails (acks_to plan 1 (length x.port.inlet.held.stable) (client_stream plan c)))
    (subscriptions-bare plan (port ∷ []) (client_stream plan c ∷ [])) (acked (senders_of plan (client_stream plan c)))
  where
    acked : (ids : List ℕ) → list_all is_bare (mails (map (λ a. record { to = a; message = message.Ack 1 (length x.port.inlet.held.stable) }) ids)) ≡ true
    acked [] = refl
    acked (b ∷ ids) = acked ids

tick-stands : (w : World) (most a now : ℕ) (role : Role) → IsFine w most → role_of w.plan a ≡ role → AllStand w (ticks w a now role)
tick-stands w most a now (IsSource s) fine e = elim (is_clock (source_at w s).clock now) as (λ b. AllStand w (cond b (source_stepped a (source_tick_step w.plan s now (source_at w s)) w) w)) [
  | true ↦ source-sent w a s (source_tick_step w.plan s now (source_at w s)) e (source_ticked-standing w.plan s now (source_at w s))
  | false ↦ none-sent w w refl
]
tick-stands w most a now (IsNode f r) fine e = by-node (slot_of w a).node
  where
    by-node : (o : Option PlainNode) → AllStand w (node_ticks w a now (home_of w.plan (f, r)) o)
    by-node None = none-sent w w refl
    by-node (Some n) = elim (is_clock n.clock now) as (λ b. AllStand w (cond b (node_stepped a (tick_step (home_of w.plan (f, r)) now n) w) w)) [
      | true ↦ node-sent w most a f r (tick_step (home_of w.plan (f, r)) now n) fine e (ticked-stands (home_of w.plan (f, r)) now n)
      | false ↦ none-sent w w refl
    ]
tick-stands w most a now (IsClient c) fine e = elim (is_clock (client_at w c).clock now) as (λ b. AllStand w (cond b (client_stepped a c (client_tick_step w.plan c now (client_at w c)) w) w)) [
  | true ↦
      let t = client_tick_step w.plan c now (client_at w c) in
      let next = client_stepped a c t w in
      mails-sent w next a t.sends refl (bare-standing (tentative_output next a (role_of w.plan a)) t.sends (client-bare w.plan c now (client_at w c)))
  | false ↦ none-sent w w refl
]
tick-stands w most a now Nobody fine e = none-sent w w refl

mill-stands : (w : World) (most a r : ℕ) (role : Role) → IsFine w most → role_of w.plan a ≡ role → AllStand w (mills w a r role)
mill-stands w most a r (IsNode f p) fine e = by-node (slot_of w a).node
  where
    by-node : (o : Option PlainNode) → AllStand w (node_mills w a r (home_of w.plan (f, p)) o)
    by-node None = none-sent w w refl
    by-node (Some n) = elim (can_mill (home_of w.plan (f, p)) r n) as (λ b. AllStand w (cond b (node_stepped a (mill_step (home_of w.plan (f, p)) r n) w) w)) [
      | true ↦ node-sent w most a f p (mill_step (home_of w.plan (f, p)) r n) fine e (milled-stands (home_of w.plan (f, p)) r n)
      | false ↦ none-sent w w refl
    ]
mill-stands w most a r (IsSource s) fine e = none-sent w w refl
mill-stands w most a r (IsClient c) fine e = none-sent w w refl
mill-stands w most a r Nobody fine e = none-sent w w refl

event-stands : (w : World) (most : ℕ) (e : Event) → IsFine w most → NoneInvented w e
event-stands w most (Phase p) fine = none-sent w w refl
event-stands w most (Emit a t) fine = emit-stands w a t (role_of w.plan a) refl
event-stands w most (Release a t) fine = release-stands w a t (role_of w.plan a) refl
event-stands w most (Cut a b) fine = elim (link_up w a b) as (λ c. AllStand w (cond c (record w { cuts = push w.cuts (a, b) }) w)) [
  | true ↦ none-sent w (record w { cuts = push w.cuts (a, b) }) refl
  | false ↦ none-sent w w refl
]
event-stands w most (Heal a b) fine = none-sent w (happens w (Heal a b)) refl
event-stands w most (Crash a) fine = crash-stands w a (role_of w.plan a)
event-stands w most (Restart a i) fine = restart-stands w a i (role_of w.plan a)
event-stands w most (Deliver k) fine = deliver-stands w most (slice_get w.envelopes k) fine
event-stands w most (Tick a now) fine = tick-stands w most a now (role_of w.plan a) fine refl
event-stands w most (Mill a r) fine = mill-stands w most a r (role_of w.plan a) fine refl

-- ---- a run

each-stands : (w : World) (most : ℕ) (events : List Event) → IsFine w most → EachStep NoneInvented w events
each-stands w most [] fine = tt
each-stands w most (e ∷ events) fine = (event-stands w most e fine, each-stands (happens w e) (most + 1) events (happens-next w most e fine).fine)

pub none-invented : (plan : Plan) (events : List Event) → IsCheckedPlan plan → NoneIsInvented plan events
none-invented plan events checked = each-stands (new_world plan) 1 events (new_world-fine plan checked)
