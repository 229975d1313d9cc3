-- What each event does to one port, and what it asks for it; and so what every port of a run has read.
use Rattle.std.proofs.Common.{◌≡◌, ℕ, zero, suc, ◌+◌, ◌<◌, ◌≤◌, Bool, true, false, cond, ◌==◌, nat_lt, List, [], ◌∷◌, ◌++◌, map, length, refl, sym, ap, subst, ◌∙◌, arith, Option, Some, None, slice_get, unwrap_or, ◌⊎◌, inl, inr}
use Rattle.std.proofs.lemmas.Option.{slice_get_within}
use Rattle.dpc_model.specs.declared.plans.ClientSpec.{ClientSpec}
use Rattle.dpc_lists.specs.Lists.{nth, changed, range_with_len}
use Rattle.dpc_model.specs.Reading.{empty_reader, stable_reader}
use Rattle.dpc_model.specs.Inlets.{InletState, sess_of, new_inlet, restarted_inlet, with_next_session, asked_by}
use Rattle.dpc_model.specs.Actors.{role_of, inputs_of, sends_stream, senders_of}
use Rattle.dpc_model.specs.declared.actors.Role.{Role}
use Rattle.dpc_model.specs.declared.actors.Role.TheVariants.{Source as IsSource, Node as IsNode, Client as IsClient, Nobody}
use Rattle.dpc_model.specs.Ports.{Port, port_at, sender_at}
use Rattle.dpc_model.specs.declared.tuples.Item.{Item}
use Rattle.dpc_model.specs.declared.messages.Event.{Event}
use Rattle.dpc_model.specs.declared.messages.Sess.{Sess}
use Rattle.dpc_model.specs.declared.messages.Subscribe.{Subscribe}
use Rattle.dpc_model.specs.declared.messages.Message.TheVariants as message
use Rattle.dpc_model.specs.declared.plans.Plan.{Plan}
use Rattle.dpc_model.specs.declared.plans.StreamRef.{StreamRef}
use Rattle.dpc_model.specs.declared.plans.StreamRef.TheVariants.{Source}
use Rattle.node_model.specs.Mails.{Packet, Plain, Mail, Stepped}
use Rattle.node_model.specs.Nodes.{Home, PlainNode, streams_of, new_node, restarted_node}
use Rattle.node_model.specs.NodeSteps.{packet_step, mill_step, tick_step}
use Rattle.node_model.specs.Sources.{source_emits, source_releases, source_packet_step, source_tick_step}
use Rattle.node_model.specs.Clients.{ClientState, client_stream, new_client, client_after_packet, client_tick_step}
use Rattle.world_model.specs.Worlds.{World, Envelope, Slot, home_of, node_place, slot_of, source_at, client_at, from, node_stepped, source_stepped, client_stepped, restart_slot, happens, run, new_world}
use Rattle.world_model.specs.Safe.{HoldsOf}
use Rattle.law_safety.specs.Plans.{IsCheckedPlan}
use Rattle.dpc_lists.proofs.Truths.{eq-test, eq-of}
use Rattle.dpc_lists.proofs.Elements.{get-only, none-there, nth-here}
use Rattle.dpc_lists.proofs.Somes.{some-same}
use Rattle.law_safety.proofs.Pointwise.{sender-of}
use Rattle.law_safety.proofs.Pointwise.{port-at as sound-port, holds-at}
use Rattle.law_safety.proofs.SoundPorts.{port-of}
use Rattle.world_model.specs.Orderly.{is_port_sound}
use Rattle.world_model.proofs.Running.{new_world-none}
use Rattle.law_safety.proofs.Numbering.{actors-pass, all-nth, home-inputs}
use Rattle.law_safety.proofs.EventCases.{AreCases, by-event}
use Rattle.law_safety.proofs.Growing.{event-grows, run-plan}
use Rattle.law_safety.proofs.Worlding.{client-below, clients-at, reading-at}
use Rattle.law_safety.proofs.Clienting.{IsGoodClient, new_client-good}
use Rattle.law_safety.proofs.Happening.{IsFine, node-here}
use Rattle.law_safety.proofs.Law.{run-good, new_world-fine, new_world-plan}
use Rattle.law_safety.proofs.Promises.{slot-here}
use Rattle.law_granting.specs.Taken.{node_port, role_port, port_of}
use Rattle.law_granting.proofs.Keys.{nth-changed}
use Rattle.law_granting.proofs.Slots.{slot-there, got-sent}
use Rattle.law_granting.proofs.Asked.{same-or, each-unit}
use Rattle.law_granting.proofs.Moves.{get-mapped}
use Rattle.law_granting.proofs.Taking.{sent-by, client-actor}
use Rattle.law_granting.proofs.Running.{new-slot}
use Rattle.law_readers.specs.Newest.{IsPortOf}
use Rattle.law_readers.specs.Held.{HasRead, PortsHaveRead}
use Rattle.law_readers.proofs.Running.{every-run}
use Rattle.law_readers.proofs.Passing.{Kept}
use Rattle.law_readers.proofs.Sessions.{AsksAs, AsksOf, ReaderSteps, delivered-reader, milled-reader, ticked-reader}
use Rattle.law_readers.proofs.Known.{asks-place, run-known, run-clients, new-clients}
use Rattle.law_readers.proofs.Going.{Goes, delivered-go, milled-go, ticked-go, TicksTo, client-go, client-ticks-to, AsksBy, client-asks-by}
use Rattle.law_readers.proofs.Read.{WentTo, ReadStep, reached-port, read-next}

-- ---- what a step tells as a step of the port

kept-went : (plan : Plan) (x : ℕ) (s : StreamRef) (es : List Envelope) (q r : Port) → Kept q r → r.inlet.broken ≡ false → WentTo plan x s es q r
kept-went plan x s es q r h whole = inl (h.still whole, h.chosen)

ticks-went : (plan : Plan) (x : ℕ) (s : StreamRef) (es : List Envelope) (q r : Port) → TicksTo q r → WentTo plan x s es q r
ticks-went plan x s es q r (inl same) = inl same
ticks-went plan x s es q r (inr opened) = inr (inl opened)

goes-went : (plan : Plan) (x k : ℕ) (s : StreamRef) (es : List Envelope) (e : Envelope) (T : Sess → ℕ → List Item → Type 0) (q r : Port) → slice_get es k ≡ Some e → e.to ≡ x →
    ((u : Sess) (index : ℕ) (items : List Item) → T u index items → (e.packet ≡ Plain (message.Batch u index items)) × (nth 0 (senders_of plan s) q.chosen ≡ e.sender)) → Goes T q r → r.inlet.broken ≡ false → WentTo plan x s es q r
goes-went plan x k s es e T q r there to told h whole =
    elim (h.whole whole) [
      | inl same ↦ inl (same, h.chosen)
      | inr one ↦
          let it = told one.0 one.1 one.2 one.3 in
          inr (inr (record {
            place = k;
            envelope = e;
            there = there;
            to = to;
            sender = it.1;
            sess = one.0;
            index = one.1;
            items = one.2;
            packet = it.0;
            reads = one.4;
            kept = h.sess;
            chosen = h.chosen;
          }))
    ]

-- ---- the world

module _ (w : World) (most x p : ℕ) (s : StreamRef) (fine : IsFine w most) (many : length w.clients ≡ length w.plan.clients) (port : IsPortOf w.plan x p s) where
  abbrev After : World → Type 0
  After next = ReadStep w.plan x p s w next

  abbrev Went : Port → Port → Type 0
  Went q r = WentTo w.plan x s w.envelopes q r

  -- what an envelope asks for the port
  abbrev AsksNow : Envelope → Type 0
  AsksNow e = (asked : Subscribe) → e.sender ≡ x → sends_stream s (role_of w.plan e.to) ≡ true → e.packet ≡ Plain (message.Subscribe asked) → (q : Port) × (port_of w x p ≡ Some q) × (asked ≡ asked_by (with_next_session q.inlet))

  no-source : (v : ℕ) → role_of w.plan x ≡ IsSource v → ⊥
  no-source v is = let none : slice_get (inputs_of w.plan (IsSource v)) p ≡ Some s = subst (λ (z : Role). slice_get (inputs_of w.plan z) p ≡ Some s) is port.there in cc

  -- the port of a world in which the reader is as before
  same-port : (next : World) → slot_of next x ≡ slot_of w x → ((c : ℕ) → client_at next c ≡ client_at w c) → (role : Role) → role_port next x p role ≡ role_port w x p role
  same-port next slot clients (IsNode f r) = ap (λ (z : Slot). node_port p z.node) slot
  same-port next slot clients (IsClient c) = ap (λ (z : ClientState). cond {A = Option Port} (p == 0) (Some z.port) None) (clients c)
  same-port next slot clients (IsSource v) = refl
  same-port next slot clients Nobody = refl

  still-step : (next : World) → next.plan ≡ w.plan → slot_of next x ≡ slot_of w x → ((c : ℕ) → client_at next c ≡ client_at w c) → ((k : ℕ) (e : Envelope) → slice_get next.envelopes k ≡ Some e → (slice_get w.envelopes k ≡ Some e) ⊎ AsksNow e) → After next
  still-step next plan slot clients asks =
      record {
        ports = λ r there whole. (r, sym (same-port next slot clients (role_of w.plan x)) ∙ ap (λ (z : Plan). role_port next x p (role_of z x)) (sym plan) ∙ there, inl (refl, refl));
        asks = λ k e asked there me to packet. elim (asks k e there) [ inl old ↦ inl old | inr new ↦ inr (new asked me to packet) ];
      }

  -- mails of an actor that is not the reader
  mailed : (a : ℕ) (ms : List Mail) → (x ≡ a → ⊥) → (k : ℕ) (e : Envelope) → slice_get (w.envelopes ++ map (from a) ms) k ≡ Some e → (slice_get w.envelopes k ≡ Some e) ⊎ AsksNow e
  mailed a ms other k e there =
      elim (got-sent (λ m. Unit {0}) a w.envelopes ms k e (each-unit ms) there) [
        | inl old ↦ inl old
        | inr new ↦ inr (λ asked me to packet. absurd (other (sym me ∙ ap (λ (z : Envelope). z.sender) new.1)))
      ]

  source-step : (next : World) (a v : ℕ) (ms : List Mail) → next.plan ≡ w.plan → next.envelopes ≡ w.envelopes ++ map (from a) ms → slot_of next x ≡ slot_of w x → ((c : ℕ) → client_at next c ≡ client_at w c) → role_of w.plan a ≡ IsSource v → After next
  source-step next a v ms plan same slot clients role =
      still-step next plan slot clients (λ k e there. mailed a ms (λ me. no-source v (ap (λ (z : ℕ). role_of w.plan z) me ∙ role)) k e (sym (ap (λ (es : List Envelope). slice_get es k) same) ∙ there))

  -- ---- nodes

  -- one slot is changed
  slot-step : (y g q : ℕ) (change : Slot → Slot) (es : List Envelope) → role_of w.plan y ≡ IsNode g q →
      (x ≡ y → (r : Port) → node_port p (change (slot_of w y)).node ≡ Some r → r.inlet.broken ≡ false → (z : Port) × (node_port p (slot_of w y).node ≡ Some z) × Went z r) →
      ((k : ℕ) (e : Envelope) → slice_get es k ≡ Some e → (slice_get w.envelopes k ≡ Some e) ⊎ AsksNow e) → After (record w { nodes = changed (node_place w.plan y) change w.nodes; envelopes = es })
  slot-step y g q change es role ports asks =
      record {
        ports = λ r there whole. by-role (role_of w.plan x) refl r there whole;
        asks = λ k e asked there me to packet. elim (asks k e there) [ inl old ↦ inl old | inr new ↦ inr (new asked me to packet) ];
      }
    where
      by-role : (is : Role) → role_of w.plan x ≡ is → (r : Port) → role_port (record w { nodes = changed (node_place w.plan y) change w.nodes; envelopes = es }) x p is ≡ Some r → r.inlet.broken ≡ false →
          (z : Port) × (role_port w x p is ≡ Some z) × Went z r
      by-role (IsSource v) is r there whole = cc
      by-role Nobody is r there whole = cc
      by-role (IsClient c) is r there whole = (r, there, inl (refl, refl))
      by-role (IsNode f b) is r there whole =
          elim (same-or x y) [
            | inl same ↦
                let here : slot_of (record w { nodes = changed (node_place w.plan y) change w.nodes; envelopes = es }) y ≡ change (slot_of w y) = slot-here w most y g q change fine role in
                let now = ap (λ (z : ℕ). slot_of (record w { nodes = changed (node_place w.plan y) change w.nodes; envelopes = es }) z) same ∙ here in
                let k = ports same r (sym (ap (λ (z : Slot). node_port p z.node) now) ∙ there) whole in
                (k.0, ap (λ (z : ℕ). node_port p (slot_of w z).node) same ∙ k.1, k.2)
            | inr other ↦ (r, sym (ap (λ (z : Slot). node_port p z.node) (slot-there w y x g q f b change role is other)) ∙ there, inl (refl, refl))
          ]

  crash-step : (y g q : ℕ) → role_of w.plan y ≡ IsNode g q → After (record w { nodes = changed (node_place w.plan y) (λ (slot : Slot). record slot { node = None }) w.nodes })
  crash-step y g q role = slot-step y g q (λ (slot : Slot). record slot { node = None }) w.envelopes role (λ same r there whole. cc) (λ k e there. inl there)

  restarted-broken : (home : Home) (i : ℕ) (r : Port) → slice_get (restarted_node home i).ports p ≡ Some r → r.inlet.broken ≡ true
  unfolding restarted_node
  restarted-broken home i r e =
      let k = get-mapped (port_at home.plan (restarted_inlet (stable_reader [] 0) (sess_of i 0))) (streams_of home) p r e in sym (ap (λ (z : Port). z.inlet.broken) k.2)

  restart-step : (y i g q : ℕ) → role_of w.plan y ≡ IsNode g q → After (record w { nodes = changed (node_place w.plan y) (restart_slot (home_of w.plan (g, q)) i) w.nodes })
  restart-step y i g q role = slot-step y g q (restart_slot (home_of w.plan (g, q)) i) w.envelopes role (λ same r there whole. by-node r whole (slot_of w y).node refl there) (λ k e there. inl there)
    where
      by-node : (r : Port) → r.inlet.broken ≡ false → (o : Option PlainNode) → (slot_of w y).node ≡ o →
          node_port p (elim o as (λ _. Slot) [ Some n ↦ slot_of w y | None ↦ cond (nat_lt (slot_of w y).last_inc i) (record { last_inc = i; node = Some (restarted_node (home_of w.plan (g, q)) i) }) (slot_of w y) ]).node ≡ Some r →
          (z : Port) × (node_port p (slot_of w y).node ≡ Some z) × Went z r
      by-node r whole (Some n) up d = (r, d, inl (refl, refl))
      by-node r whole None up d =
          elim (nat_lt (slot_of w y).last_inc i) as (λ b. node_port p (cond {A = Slot} b (record { last_inc = i; node = Some (restarted_node (home_of w.plan (g, q)) i) }) (slot_of w y)).node ≡ Some r → (z : Port) × (node_port p (slot_of w y).node ≡ Some z) × Went z r) [
            | true ↦ λ e. let broken = restarted-broken (home_of w.plan (g, q)) i r e in let clash : true ≡ false = sym broken ∙ whole in cc
            | false ↦ λ e. (r, e, inl (refl, refl))
          ] d

  -- a subscription to a sender of the stream is of the port
  asks-here : (y g q : ℕ) (n : PlainNode) (rs : List Port) (to : ℕ) (asks : Subscribe) → role_of w.plan y ≡ IsNode g q → (slot_of w y).node ≡ Some n → x ≡ y → sends_stream s (role_of w.plan to) ≡ true →
      AsksAs (home_of w.plan (g, q)) n.ports rs to asks → (z : Port) × (slice_get n.ports p ≡ Some z) × (asks ≡ asked_by (with_next_session z.inlet))
  asks-here y g q n rs to asks role up same sends a =
      let place = asks-place w most x p s fine port y g q n rs to asks role up same sends a in (a.port, ap (λ (z : ℕ). slice_get n.ports z) (sym place) ∙ a.there, a.asks)

  -- a node's step
  node-step : (y g q : ℕ) (n : PlainNode) (t : Stepped PlainNode) → role_of w.plan y ≡ IsNode g q → (slot_of w y).node ≡ Some n →
      (x ≡ y → (r : Port) → slice_get t.after.ports p ≡ Some r → r.inlet.broken ≡ false → (z : Port) × (slice_get n.ports p ≡ Some z) × Went z r) → ReaderSteps (home_of w.plan (g, q)) n t → After (node_stepped y t w)
  node-step y g q n t role up goes reads =
      slot-step y g q (λ (slot : Slot). record slot { node = Some t.after }) (w.envelopes ++ map (from y) t.sends) role
      (λ same r there whole. let k = goes same r there whole in (k.0, ap (λ (o : Option PlainNode). node_port p o) up ∙ k.1, k.2))
      (λ k e there. by-place k e (got-sent (λ m. AsksOf (home_of w.plan (g, q)) n.ports t.after.ports m.to m.packet) y w.envelopes t.sends k e reads.asks there))
    where
      by-place : (k : ℕ) (e : Envelope) → (slice_get w.envelopes k ≡ Some e) ⊎ ((m : Mail) × (e ≡ from y m) × AsksOf (home_of w.plan (g, q)) n.ports t.after.ports m.to m.packet) → (slice_get w.envelopes k ≡ Some e) ⊎ AsksNow e
      by-place k e (inl old) = inl old
      by-place k e (inr (m, of, asks_of)) =
          inr (λ asked me to packet.
          let same : x ≡ y = sym me ∙ ap (λ (z : Envelope). z.sender) of in
          let mail_packet : m.packet ≡ Plain (message.Subscribe asked) = sym (ap (λ (z : Envelope). z.packet) of) ∙ packet in
          let asks_as : AsksOf (home_of w.plan (g, q)) n.ports t.after.ports m.to (Plain (message.Subscribe asked)) = subst (λ (z : Packet). AsksOf (home_of w.plan (g, q)) n.ports t.after.ports m.to z) mail_packet asks_of in
          let it = asks-here y g q n t.after.ports m.to asked role up same (subst (λ (z : ℕ). sends_stream s (role_of w.plan z) ≡ true) (ap (λ (z : Envelope). z.to) of) to) asks_as in
          let role_x : role_of w.plan x ≡ IsNode g q = ap (λ (z : ℕ). role_of w.plan z) same ∙ role in
          let there : port_of w x p ≡ Some it.0 = ap (λ (z : Role). role_port w x p z) role_x ∙ ap (λ (z : ℕ). node_port p (slot_of w z).node) same ∙ ap (λ (o : Option PlainNode). node_port p o) up ∙ it.1 in
          (it.0, there, it.2))

  -- ---- clients

  client-step : (d : ℕ) (change : ClientState → ClientState) (es : List Envelope) → d < length w.clients → (role_of w.plan x ≡ IsClient d → p ≡ 0 → (change (client_at w d)).port.inlet.broken ≡ false → Went (client_at w d).port (change (client_at w d)).port) →
      ((k : ℕ) (e : Envelope) → slice_get es k ≡ Some e → (slice_get w.envelopes k ≡ Some e) ⊎ AsksNow e) → After (record w { clients = changed d change w.clients; envelopes = es })
  client-step d change es low goes asks =
      record {
        ports = λ r there whole. by-role (role_of w.plan x) refl r there whole;
        asks = λ k e asked there me to packet. elim (asks k e there) [ inl old ↦ inl old | inr new ↦ inr (new asked me to packet) ];
      }
    where
      here : client_at (record w { clients = changed d change w.clients; envelopes = es }) d ≡ change (client_at w d)
      here = nth-here (new_client w.plan d) d change w.clients low

      by-role : (is : Role) → role_of w.plan x ≡ is → (r : Port) → role_port (record w { clients = changed d change w.clients; envelopes = es }) x p is ≡ Some r → r.inlet.broken ≡ false → (z : Port) × (role_port w x p is ≡ Some z) × Went z r
      by-role (IsSource v) is r there whole = cc
      by-role Nobody is r there whole = cc
      by-role (IsNode f b) is r there whole = (r, there, inl (refl, refl))
      by-role (IsClient c) is r there whole =
          (elim (p == 0) as (λ b. (p == 0) ≡ b → cond {A = Option Port} b (Some (client_at (record w { clients = changed d change w.clients; envelopes = es }) c).port) None ≡ Some r → (z : Port) × (cond {A = Option Port} b (Some (client_at w c).port) None ≡ Some z) × Went z r) [
            | false ↦ λ f e. cc
            | true ↦ λ f e. ((client_at w c).port, refl, at-client (eq-of p 0 f) (nth-changed (new_client w.plan c) d change w.clients c) (some-same (client_at (record w { clients = changed d change w.clients; envelopes = es }) c).port r e))
          ]) refl there
        where
          at-client : p ≡ 0 → (nth (new_client w.plan c) (changed d change w.clients) c ≡ client_at w c) ⊎ ((c ≡ d) × (nth (new_client w.plan c) (changed d change w.clients) c ≡ change (client_at w c))) →
              (client_at (record w { clients = changed d change w.clients; envelopes = es }) c).port ≡ r → Went (client_at w c).port r
          at-client first (inl still) now = subst (λ (z : Port). Went (client_at w c).port z) (ap (λ (z : ClientState). z.port) (sym still) ∙ now) (inl (refl, refl))
          at-client first (inr at) now =
              let is_d : role_of w.plan x ≡ IsClient d = is ∙ ap IsClient at.0 in
              let it : (change (client_at w c)).port ≡ r = ap (λ (z : ClientState). z.port) (sym at.1) ∙ now in
              let goes_c = subst (λ (z : ℕ). (change (client_at w z)).port.inlet.broken ≡ false → Went (client_at w z).port (change (client_at w z)).port) (sym at.0) (goes is_d first) in
              subst (λ (z : Port). Went (client_at w c).port z) it (goes_c (ap (λ (z : Port). z.inlet.broken) it ∙ whole))

  client-in : (a d : ℕ) → role_of w.plan a ≡ IsClient d → d < length w.clients
  client-in a d role = let low = client-below w.plan a d role in omega (arith, low, many)

  -- the stream of a client's only port
  client-stream-is : (d : ℕ) → role_of w.plan x ≡ IsClient d → p ≡ 0 → client_stream w.plan d ≡ s
  client-stream-is d is first =
      let there : slice_get (inputs_of w.plan (IsClient d)) 0 ≡ Some s = subst (λ (z : ℕ). slice_get (inputs_of w.plan (IsClient d)) z ≡ Some s) first (subst (λ (z : Role). slice_get (inputs_of w.plan z) p ≡ Some s) is port.there) in
      ap (λ (o : Option StreamRef). unwrap_or o (Source 0)) there

  took-step : (k d : ℕ) (e : Envelope) → slice_get w.envelopes k ≡ Some e → role_of w.plan e.to ≡ IsClient d → After (record w { clients = changed d (client_after_packet w.plan d e.sender e.packet) w.clients })
  took-step k d e there role =
      client-step d (client_after_packet w.plan d e.sender e.packet) w.envelopes (client-in e.to d role)
      (λ is first whole. goes-went w.plan x k s w.envelopes e _ (client_at w d).port (client_after_packet w.plan d e.sender e.packet (client_at w d)).port there (client-actor w.plan e.to x d role is)
      (λ u index items t. (t.0, by-sender is first t.1.0 (client_at w d).port.chosen t.1.1)) (client-go w.plan d e.sender e.packet (client_at w d)) whole) (λ j f at. inl at)
    where
      by-sender : role_of w.plan x ≡ IsClient d → p ≡ 0 → (j chosen : ℕ) → sender_at w.plan (client_stream w.plan d ∷ []) e.sender ≡ Some (j, chosen) → nth 0 (senders_of w.plan s) chosen ≡ e.sender
      by-sender is first j chosen place =
          let found = sender-of w.plan (client_stream w.plan d ∷ []) e.sender j chosen place in
          let zero_place : j ≡ 0 = get-only (client_stream w.plan d) found.stream j found.at in
          sent-by w.plan (client_stream w.plan d ∷ []) e.sender 0 chosen s (ap {B = Option StreamRef} Some (client-stream-is d is first)) (subst (λ (z : ℕ). sender_at w.plan (client_stream w.plan d ∷ []) e.sender ≡ Some (z, chosen)) zero_place place)

  ticks-step : (a d now : ℕ) → role_of w.plan a ≡ IsClient d → After (client_stepped a d (client_tick_step w.plan d now (client_at w d)) w)
  ticks-step a d now role =
      let t = client_tick_step w.plan d now (client_at w d) in
      client-step d (λ _. t.after) (w.envelopes ++ map (from a) t.sends) (client-in a d role) (λ is first whole. ticks-went w.plan x s w.envelopes (client_at w d).port t.after.port (client-ticks-to w.plan d now (client_at w d)))
      (λ k e there. by-place k e (got-sent (λ m. AsksBy (asked_by (with_next_session (client_at w d).port.inlet)) m.packet) a w.envelopes t.sends k e (client-asks-by w.plan d now (client_at w d)) there))
    where
      by-place : (k : ℕ) (e : Envelope) → (slice_get w.envelopes k ≡ Some e) ⊎ ((m : Mail) × (e ≡ from a m) × AsksBy (asked_by (with_next_session (client_at w d).port.inlet)) m.packet) → (slice_get w.envelopes k ≡ Some e) ⊎ AsksNow e
      by-place k e (inl old) = inl old
      by-place k e (inr (m, of, asks_by)) =
          inr (λ asked me to packet.
          let same : x ≡ a = sym me ∙ ap (λ (z : Envelope). z.sender) of in
          let is : role_of w.plan x ≡ IsClient d = ap (λ (z : ℕ). role_of w.plan z) same ∙ role in
          let by : AsksBy (asked_by (with_next_session (client_at w d).port.inlet)) (Plain (message.Subscribe asked)) = subst (λ (z : Packet). AsksBy (asked_by (with_next_session (client_at w d).port.inlet)) z) (sym (ap (λ (z : Envelope). z.packet) of) ∙ packet) asks_by in
          let first : p ≡ 0 = client-first d is in
          let test : (p == 0) ≡ true = eq-test p 0 first in
          ((client_at w d).port, ap (λ (z : Role). role_port w x p z) is ∙ ap (λ (b : Bool). cond {A = Option Port} b (Some (client_at w d).port) None) test, by))
        where
          client-first : (d : ℕ) → role_of w.plan x ≡ IsClient d → p ≡ 0
          client-first d is = first-of (inputs_of w.plan (IsClient d)) (single w.plan.clients d) (subst (λ (z : Role). slice_get (inputs_of w.plan z) p ≡ Some s) is port.there)
            where
              single : (cs : List ClientSpec) (i : ℕ) → length (nth [] (map (λ (client : ClientSpec). client.input ∷ []) cs) i) ≤ 1
              single [] i = omega arith
              single (c ∷ cs) zero = omega arith
              single (c ∷ cs) (suc i) = single cs i

              first-of : (ss : List StreamRef) → length ss ≤ 1 → slice_get ss p ≡ Some s → p ≡ 0
              first-of ss low e = let within = slice_get_within ss p s e in omega (arith, low, within)

  -- ---- every event

  pub read-cases : AreCases w (λ e next. After next)
  read-cases =
      record {
        still = λ e. still-step w refl refl (λ c. refl) (λ k f there. inl there);
        wires = λ e cuts. still-step (record w { cuts = cuts }) refl refl (λ c. refl) (λ k f there. inl there);
        emitted = λ a v t role. source-step (source_stepped a (source_emits w.plan v t (source_at w v)) w) a v (source_emits w.plan v t (source_at w v)).sends refl refl refl (λ c. refl) role;
        released = λ a v t role. source-step (source_stepped a (source_releases w.plan v t (source_at w v)) w) a v (source_releases w.plan v t (source_at w v)).sends refl refl refl (λ c. refl) role;
        source_took = λ k v e there can role.
            let t = source_packet_step w.plan v e.sender e.packet (source_at w v) in source-step (source_stepped e.to t w) e.to v t.sends refl refl refl (λ c. refl) role;
        source_ticks = λ a v now role. source-step (source_stepped a (source_tick_step w.plan v now (source_at w v)) w) a v (source_tick_step w.plan v now (source_at w v)).sends refl refl refl (λ c. refl) role;
        crashed = λ y g q role. crash-step y g q role;
        restarted = λ y i g q role. restart-step y i g q role;
        node_took = λ k g q e n there can role up.
            let home = home_of w.plan (g, q) in
            node-step e.to g q n (packet_step home e.sender e.packet n) role up (λ same r at whole.
            let z = delivered-go home e.sender e.packet n p r at in
            (z.0, z.1, goes-went w.plan x k s w.envelopes e _ z.0 r there (sym same) (λ u index items t. (t.0, sent-by w.plan (streams_of home) e.sender p z.0.chosen s (node-stream e.to g q role same) t.1)) z.2 whole)) (delivered-reader home e.sender e.packet n);
        node_ticked = λ y now g q n role up clock.
            let home = home_of w.plan (g, q) in
            node-step y g q n (tick_step home now n) role up (λ same r at whole. let z = ticked-go home now n p r at in (z.0, z.1, ticks-went w.plan x s w.envelopes z.0 r z.2)) (ticked-reader home now n);
        node_milled = λ y m g q n role up can.
            let home = home_of w.plan (g, q) in
            node-step y g q n (mill_step home m n) role up (λ same r at whole. let z = milled-go home m n p r at in (z.0, z.1, kept-went w.plan x s w.envelopes z.0 r z.2 whole)) (milled-reader home m n);
        client_took = λ k d e there can role. took-step k d e there role;
        client_ticks = λ a d now role. ticks-step a d now role;
      }
    where
      node-stream : (y g q : ℕ) → role_of w.plan y ≡ IsNode g q → x ≡ y → slice_get (streams_of (home_of w.plan (g, q))) p ≡ Some s
      node-stream y g q role same =
          ap (λ (ss : List StreamRef). slice_get ss p) (sym (home-inputs (home_of w.plan (g, q)) q)) ∙ ap (λ (z : Role). slice_get (inputs_of w.plan z) p) (sym (ap (λ (z : ℕ). role_of w.plan z) same ∙ role)) ∙ port.there

  good-client : (c : ℕ) → c < length w.plan.clients → IsGoodClient w.plan c most (client_at w c)
  good-client c low =
      let zero_on : 0 + c ≡ c = omega arith in
      subst (λ (z : ℕ). IsGoodClient w.plan z most (client_at w c)) zero_on
      (clients-at w.plan most 0 c w.clients (new_client w.plan c) fine.clients (subst (λ (z : ℕ). IsGoodClient w.plan z most (new_client w.plan c)) (sym zero_on) (new_client-good w.plan c most fine.checked.checked (reading-at w.plan c fine.checked low) fine.some)))

  -- what a port holds is of its stream
  pub port-holds : (q : Port) → port_of w x p ≡ Some q → HoldsOf w.plan s q.inlet.held
  port-holds q there = by-role (role_of w.plan x) refl there
    where
      by-role : (is : Role) → role_of w.plan x ≡ is → role_port w x p is ≡ Some q → HoldsOf w.plan s q.inlet.held
      by-role (IsSource v) is e = cc
      by-role Nobody is e = cc
      by-role (IsNode g r) is e = by-node (slot_of w x).node refl e
        where
          by-node : (o : Option PlainNode) → (slot_of w x).node ≡ o → node_port p o ≡ Some q → HoldsOf w.plan s q.inlet.held
          by-node None up f = cc
          by-node (Some n) up f =
              let good = node-here w most x g r n fine is up in
              let stream : slice_get (streams_of (home_of w.plan (g, r))) p ≡ Some s = ap (λ (ss : List StreamRef). slice_get ss p) (sym (home-inputs (home_of w.plan (g, r)) r)) ∙ ap (λ (z : Role). slice_get (inputs_of w.plan z) p) (sym is) ∙ port.there in
              holds-at w.plan p s (streams_of (home_of w.plan (g, r))) n.ports q good.safe.inputs stream f
      by-role (IsClient c) is e =
          (elim (p == 0) as (λ b. (p == 0) ≡ b → cond {A = Option Port} b (Some (client_at w c).port) None ≡ Some q → HoldsOf w.plan s q.inlet.held) [
            | false ↦ λ f g. cc
            | true ↦ λ f g.
                let good = good-client c (client-below w.plan x c is) in
                subst (λ (z : StreamRef). HoldsOf w.plan z q.inlet.held) (client-stream-is c is (eq-of p 0 f))
                (subst (λ (z : Port). HoldsOf w.plan (client_stream w.plan c) z.inlet.held) (some-same (client_at w c).port q g) good.safe.holds)
          ]) refl e

  sound-low : (u : StreamRef) (inc : ℕ) (q : Port) → is_port_sound w.plan u inc most q ≡ true → u ≡ s → q.chosen < length (senders_of w.plan s)
  sound-low u inc q sound same =
      let k = port-of w.plan u inc most q sound in
      let low = k.chosen in
      let many_watches = k.watches in
      subst (λ (z : StreamRef). q.chosen < length (senders_of w.plan z)) same (omega (arith, low, many_watches))

  -- it reads one of the stream's senders
  pub port-chosen : (q : Port) → port_of w x p ≡ Some q → q.chosen < length (senders_of w.plan s)
  port-chosen q there = by-role (role_of w.plan x) refl there
    where
      by-role : (is : Role) → role_of w.plan x ≡ is → role_port w x p is ≡ Some q → q.chosen < length (senders_of w.plan s)
      by-role (IsSource v) is e = cc
      by-role Nobody is e = cc
      by-role (IsNode g r) is e = by-node (slot_of w x).node refl e
        where
          by-node : (o : Option PlainNode) → (slot_of w x).node ≡ o → node_port p o ≡ Some q → q.chosen < length (senders_of w.plan s)
          by-node None up f = cc
          by-node (Some n) up f =
              let good = node-here w most x g r n fine is up in
              let stream : slice_get (streams_of (home_of w.plan (g, r))) p ≡ Some s = ap (λ (ss : List StreamRef). slice_get ss p) (sym (home-inputs (home_of w.plan (g, r)) r)) ∙ ap (λ (z : Role). slice_get (inputs_of w.plan z) p) (sym is) ∙ port.there in
              let found = sound-port w.plan n.grants.inc most p s (streams_of (home_of w.plan (g, r))) n.ports good.orderly.ports stream in
              let it : found.0 ≡ q = some-same found.0 q (sym found.1 ∙ f) in
              sound-low s n.grants.inc q (subst (λ (z : Port). is_port_sound w.plan s n.grants.inc most z ≡ true) it found.2) refl
      by-role (IsClient c) is e =
          (elim (p == 0) as (λ b. (p == 0) ≡ b → cond {A = Option Port} b (Some (client_at w c).port) None ≡ Some q → q.chosen < length (senders_of w.plan s)) [
            | false ↦ λ f g. cc
            | true ↦ λ f g.
                let good = good-client c (client-below w.plan x c is) in
                let it : (client_at w c).port ≡ q = some-same (client_at w c).port q g in
                sound-low (client_stream w.plan c) 1 q (subst (λ (z : Port). is_port_sound w.plan (client_stream w.plan c) 1 most z ≡ true) it good.sound) (client-stream-is c is (eq-of p 0 f))
          ]) refl e

-- ---- the opening, and a run

new-node-port : (home : Home) (p : ℕ) (q : Port) → slice_get (new_node home).ports p ≡ Some q → q.inlet ≡ new_inlet 1
unfolding new_node
new-node-port home p q e = let k = get-mapped (port_at home.plan (new_inlet 1)) (streams_of home) p q e in sym (ap (λ (z : Port). z.inlet) k.2)

new-clients-port : (plan : Plan) (c : ℕ) (xs : List ℕ) (i : ℕ) → (nth (new_client plan c) (map (new_client plan) xs) i).port.inlet ≡ new_inlet 1
unfolding new_client
new-clients-port plan c [] i = refl
new-clients-port plan c (x ∷ xs) zero = refl
new-clients-port plan c (x ∷ xs) (suc i) = new-clients-port plan c xs i

new-client-port : (plan : Plan) (c : ℕ) → (client_at (new_world plan) c).port.inlet ≡ new_inlet 1
unfolding new_world
new-client-port plan c = new-clients-port plan c (range_with_len 0 (length plan.clients)) c

-- at the opening no port has read a batch
new-port : (plan : Plan) (x p : ℕ) (role : Role) (q : Port) → role_of plan x ≡ role → role_port (new_world plan) x p role ≡ Some q → q.inlet ≡ new_inlet 1
new-port plan x p (IsSource v) q is e = cc
new-port plan x p Nobody q is e = cc
new-port plan x p (IsNode f r) q is e =
    new-node-port (home_of plan (f, r)) p q (subst (λ (z : Slot). node_port p z.node ≡ Some q) (new-slot plan x f r is) e)
new-port plan x p (IsClient c) q is e =
    elim (p == 0) as (λ b. cond {A = Option Port} b (Some (client_at (new_world plan) c).port) None ≡ Some q → q.inlet ≡ new_inlet 1) [
      | true ↦ λ g. sym (ap (λ (z : Port). z.inlet) (some-same (client_at (new_world plan) c).port q g)) ∙ new-client-port plan c
      | false ↦ λ g. cc
    ] e

-- a port of a run's world
run-read : (plan : Plan) (events : List Event) (x p : ℕ) (s : StreamRef) → IsCheckedPlan plan → IsPortOf plan x p s → (q : Port) → port_of (run plan events) x p ≡ Some q → q.inlet.broken ≡ false → HasRead plan x s (run plan events).envelopes q
run-read plan events x p s checked port =
    every-run plan (λ w. (q : Port) → port_of w x p ≡ Some q → q.inlet.broken ≡ false → HasRead plan x s w.envelopes q)
    (λ q there whole.
    let start = new_world plan in
    let same = new_world-plan plan in
    let fine = new_world-fine plan checked in
    let many = new-clients plan ∙ ap (λ (z : Plan). length z.clients) (sym same) in
    let inlet = new-port plan x p (role_of plan x) q refl (ap (λ (z : Plan). role_port start x p (role_of z x)) (sym same) ∙ there) in
    let held : q.inlet.held ≡ empty_reader = ap (λ (z : InletState). z.held) inlet in
    let holds = subst (λ (z : Plan). HoldsOf z s q.inlet.held) same (port-holds start 1 x p s fine many (subst (λ (z : Plan). IsPortOf z x p s) (sym same) port) q there) in
    record {
      start = empty_reader;
      batches = [];
      many = sym (ap (λ (z : InletState). z.next) inlet);
      each = λ j items e. cc;
      folded = record { after = empty_reader; taken = [] };
      read = refl;
      held = held;
      holds = subst (λ z. HoldsOf plan s z) held holds;
      asks = λ k e asked at me to packet same_one. absurd (none-there k e start.envelopes (new_world-none plan) at);
      opening = λ same_one. refl;
    })
    (λ before e h.
    let w = run plan before in
    let g = run-good plan before checked in
    let same = run-plan plan before in
    let many = run-clients plan before ∙ ap (λ (z : Plan). length z.clients) (sym same) in
    let port_w = subst (λ (z : Plan). IsPortOf z x p s) (sym same) port in
    let step = subst (λ (z : Plan). ReadStep z x p s w (happens w e)) same (by-event w (λ e next. ReadStep w.plan x p s w next) (read-cases w (1 + length before) x p s g.fine many port_w) e) in
    let known = run-known plan before x p s checked port in
    let grows = event-grows w e in
    let port_role : (q : Port) → port_of w x p ≡ Some q → role_port w x p (role_of plan x) ≡ Some q = λ q there. ap (λ (z : Plan). role_port w x p (role_of z x)) (sym same) ∙ there in
    read-next plan x p s w (happens w e) grows.more grows.envelopes step
    (λ q there. subst (λ (z : Plan). HoldsOf z s q.inlet.held) same (port-holds w (1 + length before) x p s g.fine many port_w q there))
    (λ k f asked q there me to packet at. reached-port w x p (role_of plan x) asked.sess q (known.asked k f asked there me to packet) (port_role q at))
    (λ q at. reached-port w x p (role_of plan x) (sess_of 1 1) q known.first (port_role q at)) h) events

pub ports-have-read : (plan : Plan) (events : List Event) → IsCheckedPlan plan → PortsHaveRead plan events
ports-have-read plan events checked x p s q port there whole = run-read plan events x p s checked port q there whole

-- the replica that a port reads sends its stream
pub reads-sender : (plan : Plan) (events : List Event) (x p : ℕ) (s : StreamRef) (q : Port) → IsCheckedPlan plan → IsPortOf plan x p s → port_of (run plan events) x p ≡ Some q → sends_stream s (role_of plan (nth 0 (senders_of plan s) q.chosen)) ≡ true
reads-sender plan events x p s q checked port there =
    let w = run plan events in
    let same = run-plan plan events in
    let many = run-clients plan events ∙ ap (λ (z : Plan). length z.clients) (sym same) in
    let low = subst (λ (z : Plan). q.chosen < length (senders_of z s)) same (port-chosen w (1 + length events) x p s (run-good plan events checked).fine many (subst (λ (z : Plan). IsPortOf z x p s) (sym same) port) q there) in
    all-nth (λ (b : ℕ). sends_stream s (role_of plan b)) 0 (senders_of plan s) q.chosen low (actors-pass (sends_stream s) plan)
