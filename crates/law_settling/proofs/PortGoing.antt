-- What an event of a quiet phase makes of a port, where its node does not recover.
use Rattle.std.proofs.Common.{◌≡◌, ℕ, ◌≤◌, true, false, List, [], ◌∷◌, ◌++◌, map, length, refl, sym, ap, subst, ◌∙◌, Option, Some, slice_get, ◌⊎◌, inl, inr}
use Rattle.dpc_lists.specs.Lists.{nth, changed}
use Rattle.dpc_model.specs.Actors.{role_of, inputs_of}
use Rattle.dpc_model.specs.Ports.{Port, sender_at, must_reopen, port_after_choice, without_ended_marks}
use Rattle.dpc_model.specs.declared.actors.Role.{Role}
use Rattle.dpc_model.specs.declared.actors.Role.TheVariants.{Node as IsNode, Client as IsClient}
use Rattle.dpc_model.specs.declared.messages.Event.{Event}
use Rattle.dpc_model.specs.declared.messages.Event.TheVariants.{Deliver, Tick, Mill}
use Rattle.dpc_model.specs.declared.plans.StreamRef.{StreamRef}
use Rattle.dpc_model.specs.declared.plans.StreamRef.TheVariants.{Source}
use Rattle.dpc_lists.proofs.Somes.{some-same}
use Rattle.node_model.specs.Mails.{Stepped}
use Rattle.node_model.specs.Nodes.{PlainNode, streams_of}
use Rattle.node_model.specs.NodeSteps.{packet_step, mill_step, tick_step}
use Rattle.node_model.specs.Clients.{ClientState, client_stream, client_after_packet, client_tick_step}
use Rattle.world_model.specs.Worlds.{World, Envelope, home_of, slot_of, client_at, source_at, from, node_stepped, source_stepped, client_stepped, happens}
use Rattle.law_safety.proofs.EventCases.{AreCases, by-event}
use Rattle.law_safety.proofs.Numbering.{home-inputs}
use Rattle.law_safety.proofs.Happening.{IsFine}
use Rattle.node_model.specs.Sources.{SourceState, source_packet_step, source_tick_step}
use Rattle.node_model.proofs.Mailed.{mill-ports}
use Rattle.law_granting.specs.Taken.{port_of}
use Rattle.law_granting.proofs.Taking.{client-actor}
use Rattle.world_model.specs.Events.{is_quiet}
use Rattle.law_settling.specs.Rests.{RestsAt}
use Rattle.law_settling.proofs.Exact.{IsIn}
use Rattle.law_settling.proofs.Ticking.{before_choice, ask_mail, node-ticks, client-ticks}
use Rattle.law_readers.specs.Newest.{IsPortOf}
use Rattle.law_settling.proofs.PortSteps.{sent-place, client-inputs, To, port-same, node-step, client-step, client-low}
use Rattle.law_settling.proofs.PortExact.{port_after, PortTook, NotLost, node-exact, client-exact}

-- a tick of the port
pub record HasTicked (w : World) (x : ℕ) (s : StreamRef) (next : World) (q r : Port) : Type 0 where
  pub port : r ≡ port_after_choice (before_choice q)
  pub asks : must_reopen (before_choice q) ≡ true → (k : ℕ) × (slice_get next.envelopes k ≡ Some (from x (ask_mail w.plan s (before_choice q)))) × (length w.envelopes ≤ k)

-- the port is as before but for marks that ended, takes a packet of a sender of its stream, or ticks, and asks where it opens its session anew
pub data PortGoes (w : World) (x p : ℕ) (s : StreamRef) (e : Event) (next : World) (q r : Port) : Type 0 where
  Rests : (r ≡ q) ⊎ (r ≡ without_ended_marks q) → PortGoes w x p s e next q r
  TakesIn : (j i : ℕ) (f : Envelope) → e ≡ Deliver j → slice_get w.envelopes j ≡ Some f → f.to ≡ x → sender_at w.plan (inputs_of w.plan (role_of w.plan x)) f.sender ≡ Some (p, i) → r ≡ port_after i f.packet (without_ended_marks q) →
      ((g b : ℕ) → role_of w.plan x ≡ IsNode g b → NotLost f.packet (without_ended_marks q) r) → PortGoes w x p s e next q r
  TicksOn : (now : ℕ) → e ≡ Tick x now → HasTicked w x s next q r → PortGoes w x p s e next q r

module _ (w : World) (most x p : ℕ) (s : StreamRef) (fine : IsFine w most) (many : length w.clients ≡ length w.plan.clients) (port : IsPortOf w.plan x p s) (calm : RestsAt w x) where
  still : (e : Event) (next : World) (q : Port) → port_of next x p ≡ port_of w x p → port_of w x p ≡ Some q → To x p next (PortGoes w x p s e next) q
  still e next q same there = (q, same ∙ there, Rests (inl refl))

  -- ---- nodes

  node-streams : (y g b : ℕ) → role_of w.plan y ≡ IsNode g b → x ≡ y → streams_of (home_of w.plan (g, b)) ≡ inputs_of w.plan (role_of w.plan x)
  node-streams y g b role same = sym (home-inputs (home_of w.plan (g, b)) b) ∙ ap (λ (z : Role). inputs_of w.plan z) (sym (ap (λ (z : ℕ). role_of w.plan z) same ∙ role))

  -- a packet of a sender of the stream, or of another
  abbrev pub Took : Envelope → Port → Port → Type 0
  Took f q r =
      ((i : ℕ) × (sender_at w.plan (inputs_of w.plan (role_of w.plan x)) f.sender ≡ Some (p, i)) × (r ≡ port_after i f.packet (without_ended_marks q)) × ((g b : ℕ) → role_of w.plan x ≡ IsNode g b → NotLost f.packet (without_ended_marks q) r))
      ⊎ (((i : ℕ) → sender_at w.plan (inputs_of w.plan (role_of w.plan x)) f.sender ≡ Some (p, i) → ⊥) × (r ≡ without_ended_marks q))

  pub node-packet : (y g b : ℕ) (f : Envelope) (n : PlainNode) → role_of w.plan y ≡ IsNode g b → x ≡ y → (q : Port) → slice_get n.ports p ≡ Some q → n.recovering ≡ false → (packet_step (home_of w.plan (g, b)) f.sender f.packet n).after.recovering ≡ false →
      (r : Port) × (slice_get (packet_step (home_of w.plan (g, b)) f.sender f.packet n).after.ports p ≡ Some r) × Took f q r
  node-packet y g b f n role same q at whole calm_next =
      let home = home_of w.plan (g, b) in
      let k = node-exact home f.sender p f.packet n q whole at calm_next in
      let streams = node-streams y g b role same in
      (k.0, k.1, took k.0 (subst (λ (ss : List StreamRef). PortTook w.plan ss p f.sender f.packet (without_ended_marks q) k.0) streams k.2) (subst (λ (ss : List StreamRef). (i : ℕ) → sender_at w.plan ss f.sender ≡ Some (p, i) → NotLost f.packet (without_ended_marks q) k.0) streams k.3))
    where
      took : (r : Port) → PortTook w.plan (inputs_of w.plan (role_of w.plan x)) p f.sender f.packet (without_ended_marks q) r → ((i : ℕ) → sender_at w.plan (inputs_of w.plan (role_of w.plan x)) f.sender ≡ Some (p, i) → NotLost f.packet (without_ended_marks q) r) → Took f q r
      took r (PortTook.Mine i place is) lost = inl (i, place, is, λ g b node. lost i place)
      took r (PortTook.Others none is) lost = inr (none, is)

  taken-goes : (j : ℕ) (f : Envelope) (next : World) (q r : Port) → slice_get w.envelopes j ≡ Some f → f.to ≡ x → Took f q r → PortGoes w x p s (Deliver j) next q r
  taken-goes j f next q r sent to (inl mine) = TakesIn j mine.0 f refl sent to mine.1 mine.2 mine.3
  taken-goes j f next q r sent to (inr other) = Rests (inr other.1)

  node-took : (j g b : ℕ) (f : Envelope) (n : PlainNode) → slice_get w.envelopes j ≡ Some f → role_of w.plan f.to ≡ IsNode g b → (slot_of w f.to).node ≡ Some n → RestsAt (node_stepped f.to (packet_step (home_of w.plan (g, b)) f.sender f.packet n) w) x →
      (q : Port) → port_of w x p ≡ Some q → let next = node_stepped f.to (packet_step (home_of w.plan (g, b)) f.sender f.packet n) w in To x p next (PortGoes w x p s (Deliver j) next) q
  node-took j g b f n sent role up calm_next q there =
      let t = packet_step (home_of w.plan (g, b)) f.sender f.packet n in
      node-step w most x p s fine many port calm (PortGoes w x p s (Deliver j) (node_stepped f.to t w)) (λ z. Rests (inl refl)) f.to g b n t role up calm_next (λ same z its at whole calm_z.
      let k = node-packet f.to g b f n role same z at whole calm_z in (k.0, k.1, taken-goes j f (node_stepped f.to t w) z k.0 sent (sym same) k.2)) q there

  pub node-tick : (y g b now : ℕ) (n : PlainNode) → role_of w.plan y ≡ IsNode g b → x ≡ y → (q : Port) → slice_get n.ports p ≡ Some q → n.recovering ≡ false →
      let t = tick_step (home_of w.plan (g, b)) now n in (r : Port) × (slice_get t.after.ports p ≡ Some r) × HasTicked w x s (node_stepped y t w) q r
  node-tick y g b now n role same q at whole =
      let home = home_of w.plan (g, b) in
      let t = tick_step home now n in
      let stream : slice_get (streams_of home) p ≡ Some s = ap (λ (ss : List StreamRef). slice_get ss p) (node-streams y g b role same) ∙ port.there in
      let k = node-ticks home p s q now n whole at stream in (
        port_after_choice (before_choice q),
        k.after,
        record {
          port = refl;
          asks = λ must.
              let place = sent-place y w.envelopes (ask_mail w.plan s (before_choice q)) t.sends (k.asks must) in
              (place.0, place.1 ∙ ap {B = Option Envelope} (λ (z : ℕ). Some (from z (ask_mail w.plan s (before_choice q)))) (sym same), place.2);
        },
      )

  node-mill : (e : Event) (y g b m : ℕ) (n : PlainNode) → role_of w.plan y ≡ IsNode g b → (slot_of w y).node ≡ Some n → RestsAt (node_stepped y (mill_step (home_of w.plan (g, b)) m n) w) x → (q : Port) → port_of w x p ≡ Some q →
      let next = node_stepped y (mill_step (home_of w.plan (g, b)) m n) w in To x p next (PortGoes w x p s e next) q
  node-mill e y g b m n role up calm_next q there =
      node-step w most x p s fine many port calm (PortGoes w x p s e (node_stepped y (mill_step (home_of w.plan (g, b)) m n) w)) (λ z. Rests (inl refl)) y g b n (mill_step (home_of w.plan (g, b)) m n) role up calm_next
      (λ same z its at whole calm_z. (z, ap (λ (ps : List Port). slice_get ps p) (mill-ports (home_of w.plan (g, b)) m n) ∙ at, Rests (inl refl))) q there

  -- ---- clients

  -- what an envelope makes of the port
  pub client-packet : (f : Envelope) (d : ℕ) (z : ClientState) → role_of w.plan x ≡ IsClient d → (q : Port) → q ≡ z.port → Took f q (client_after_packet w.plan d f.sender f.packet z).port
  client-packet f d z role q same =
      let reads = client-inputs w.plan.clients d p s (subst (λ (r : Role). slice_get (inputs_of w.plan r) p ≡ Some s) role port.there) in
      let stream : client_stream w.plan d ≡ s = ap (λ (ss : List StreamRef). nth (Source 0) ss 0) reads.1 in
      let inputs : client_stream w.plan d ∷ [] ≡ inputs_of w.plan (role_of w.plan x) = ap (λ (u : StreamRef). u ∷ []) stream ∙ sym reads.1 ∙ ap (λ (r : Role). inputs_of w.plan r) (sym role) in
      let after = (client_after_packet w.plan d f.sender f.packet z).port in
      let k = subst (λ (ss : List StreamRef). PortTook w.plan ss 0 f.sender f.packet (without_ended_marks z.port) after) inputs (client-exact w.plan d f.sender f.packet z) in
      took after (subst (λ (i : ℕ). PortTook w.plan (inputs_of w.plan (role_of w.plan x)) i f.sender f.packet (without_ended_marks q) after) (sym reads.0)
      (subst (λ (y : Port). PortTook w.plan (inputs_of w.plan (role_of w.plan x)) 0 f.sender f.packet (without_ended_marks y) after) (sym same) k))
    where
      no-node : (g b : ℕ) → IsClient d ≡ IsNode g b → ⊥
      no-node g b e = cc

      took : (r : Port) → PortTook w.plan (inputs_of w.plan (role_of w.plan x)) p f.sender f.packet (without_ended_marks q) r → Took f q r
      took r (PortTook.Mine i place is) = inl (i, place, is, λ g b node. absurd (no-node g b (sym role ∙ node)))
      took r (PortTook.Others none is) = inr (none, is)

  pub client-tick : (a d now : ℕ) (z : ClientState) → role_of w.plan x ≡ IsClient d → x ≡ a → HasTicked w x s (client_stepped a d (client_tick_step w.plan d now z) w) z.port (client_tick_step w.plan d now z).after.port
  client-tick a d now z role same =
      let reads = client-inputs w.plan.clients d p s (subst (λ (r : Role). slice_get (inputs_of w.plan r) p ≡ Some s) role port.there) in
      let stream : client_stream w.plan d ≡ s = ap (λ (ss : List StreamRef). nth (Source 0) ss 0) reads.1 in
      let t = client_tick_step w.plan d now z in
      let k = client-ticks w.plan d now z in
      record {
        port = some-same t.after.port (port_after_choice (before_choice z.port)) k.after;
        asks = λ must.
            let place = sent-place a w.envelopes (ask_mail w.plan s (before_choice z.port)) t.sends (subst (λ (u : StreamRef). IsIn (ask_mail w.plan u (before_choice z.port)) t.sends) stream (k.asks must)) in
            (place.0, place.1 ∙ ap {B = Option Envelope} (λ (i : ℕ). Some (from i (ask_mail w.plan s (before_choice z.port)))) (sym same), place.2);
      }

  -- ---- every event

  abbrev Goes : Event → World → Type 0
  Goes e next = is_quiet e ≡ true → RestsAt next x → (q : Port) → port_of w x p ≡ Some q → To x p next (PortGoes w x p s e next) q

  source-still : (e : Event) (a : ℕ) (t : Stepped SourceState) (q : Port) → port_of w x p ≡ Some q → To x p (source_stepped a t w) (PortGoes w x p s e (source_stepped a t w)) q
  source-still e a t q there = still e (source_stepped a t w) q (port-same w most x p s fine many port calm (source_stepped a t w) refl (λ f b is. refl) (λ c is. refl)) there

  goes-cases : AreCases w Goes
  goes-cases =
      record {
        still = λ e quiet calm_next q there. still e w q refl there;
        wires = λ e cuts quiet calm_next q there. still e (record w { cuts = cuts }) q (port-same w most x p s fine many port calm (record w { cuts = cuts }) refl (λ f b is. refl) (λ c is. refl)) there;
        emitted = λ a v t role quiet calm_next q there. cc;
        released = λ a v t role quiet calm_next q there. cc;
        source_took = λ j v f sent can role quiet calm_next q there. source-still (Deliver j) f.to (source_packet_step w.plan v f.sender f.packet (source_at w v)) q there;
        source_ticks = λ a v now role quiet calm_next q there. source-still (Tick a now) a (source_tick_step w.plan v now (source_at w v)) q there;
        crashed = λ a f r role quiet calm_next q there. cc;
        restarted = λ a i f r role quiet calm_next q there. cc;
        node_took = λ j g b f n sent can role up quiet calm_next q there. node-took j g b f n sent role up calm_next q there;
        node_ticked = λ y now g b n role up clock quiet calm_next q there.
            node-step w most x p s fine many port calm (PortGoes w x p s (Tick y now) (node_stepped y (tick_step (home_of w.plan (g, b)) now n) w)) (λ z. Rests (inl refl)) y g b n (tick_step (home_of w.plan (g, b)) now n) role up calm_next
            (λ same z its at whole calm_z. let k = node-tick y g b now n role same z at whole in (k.0, k.1, TicksOn now (ap (λ (i : ℕ). Tick i now) (sym same)) k.2)) q there;
        node_milled = λ y m g b n role up can quiet calm_next q there. node-mill (Mill y m) y g b m n role up calm_next q there;
        client_took = λ j d f sent can role quiet calm_next q there.
            let next : World = record w { clients = changed d (client_after_packet w.plan d f.sender f.packet) w.clients } in
            client-step w most x p s fine many port calm (PortGoes w x p s (Deliver j) next) (λ z. Rests (inl refl)) d (client_after_packet w.plan d f.sender f.packet) w.envelopes (client-low w most x p s fine many port calm f.to d role)
            (λ is z same was. taken-goes j f next z.port (client_after_packet w.plan d f.sender f.packet z).port sent (client-actor w.plan f.to x d role is) (client-packet f d z is z.port refl)) q there;
        client_ticks = λ a d now role quiet calm_next q there.
            client-step w most x p s fine many port calm (PortGoes w x p s (Tick a now) (client_stepped a d (client_tick_step w.plan d now (client_at w d)) w)) (λ z. Rests (inl refl)) d (λ _. (client_tick_step w.plan d now (client_at w d)).after) (w.envelopes ++ map (from a) (client_tick_step w.plan d now (client_at w d)).sends) (client-low w most x p s fine many port calm a d role)
            (λ is z same was.
            let mine : x ≡ a = client-actor w.plan x a d is role in
            TicksOn now (ap (λ (i : ℕ). Tick i now) (sym mine))
            (subst (λ (y : ClientState). HasTicked w x s (client_stepped a d (client_tick_step w.plan d now (client_at w d)) w) y.port (client_tick_step w.plan d now (client_at w d)).after.port) (sym same) (client-tick a d now (client_at w d) is mine))) q there;
      }

  pub port-goes : (e : Event) → is_quiet e ≡ true → RestsAt (happens w e) x → (q : Port) → port_of w x p ≡ Some q → (r : Port) × (port_of (happens w e) x p ≡ Some r) × PortGoes w x p s e (happens w e) q r
  port-goes e quiet calm_next q there = by-event w Goes goes-cases e quiet calm_next q there
