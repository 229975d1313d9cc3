-- In a run the senders of a stream are asked for a session of a port at most once.
use Rattle.std.proofs.Common.{◌≡◌, ℕ, ◌+◌, ◌≤◌, Bool, true, false, ◌&&◌, ◌==◌, List, [], ◌∷◌, ◌++◌, map, length, refl, sym, ap, subst, ◌∙◌, arith, Some, slice_get, inl, inr}
use Rattle.std.proofs.lemmas.List.{append-nil}
use Rattle.std.proofs.lemmas.Option.{slice_get_within}
use Rattle.dpc_lists.specs.Lists.{nth}
use Rattle.dpc_model.specs.Inlets.{same_sess, with_next_session, asked_by}
use Rattle.dpc_model.specs.Actors.{role_of, inputs_of, sends_stream, senders_of}
use Rattle.dpc_model.specs.Ports.{choice_at, port_after_tick, without_ended_marks}
use Rattle.dpc_model.specs.declared.actors.Role.{Role}
use Rattle.dpc_model.specs.declared.actors.Role.TheVariants.{Source as IsSource, Node as IsNode}
use Rattle.dpc_model.specs.declared.messages.Event.{Event}
use Rattle.dpc_model.specs.declared.messages.Sess.{Sess}
use Rattle.dpc_model.specs.declared.messages.Subscribe.{Subscribe}
use Rattle.dpc_model.specs.declared.messages.Message.TheVariants as message
use Rattle.dpc_model.specs.declared.plans.Plan.{Plan}
use Rattle.dpc_model.specs.declared.plans.StreamRef.{StreamRef}
use Rattle.node_model.specs.Mails.{Plain, Mail}
use Rattle.node_model.specs.Nodes.{PlainNode}
use Rattle.node_model.specs.NodeSteps.{packet_step, mill_step, tick_step}
use Rattle.node_model.specs.Sources.{source_emits, source_releases, source_packet_step, source_tick_step}
use Rattle.node_model.specs.Clients.{client_tick_step}
use Rattle.world_model.specs.Worlds.{World, Envelope, home_of, slot_of, source_at, client_at, from, happens, run, new_world}
use Rattle.world_model.specs.SessionLaw.{Channel}
use Rattle.law_safety.specs.Plans.{IsCheckedPlan}
use Rattle.dpc_lists.proofs.Truths.{both, eq-of, eq-test}
use Rattle.dpc_model.proofs.Numbers.{zero-or}
use Rattle.dpc_lists.proofs.Elements.{get-behind}
use Rattle.dpc_model.proofs.Alike.{same_sess-eq, same_sess-self}
use Rattle.law_safety.proofs.EventCases.{AreCases, by-event}
use Rattle.law_safety.proofs.Happening.{IsFine}
use Rattle.law_safety.proofs.Law.{run-good}
use Rattle.dpc_lists.proofs.Each.{Each}
use Rattle.world_model.proofs.Running.{new_world-none}
use Rattle.law_granting.specs.Taken.{subscribes_packet, role_port}
use Rattle.law_granting.proofs.Asked.{same-or}
use Rattle.law_session_origins.proofs.Firsts.{sub-of}
use Rattle.law_readers.specs.Newest.{IsPortOf}
use Rattle.law_readers.proofs.Running.{every-run}
use Rattle.law_readers.proofs.Known.{asks-place, none-newer, run-clients}
use Rattle.law_readers.proofs.Read.{ReadStep, reached-port}
use Rattle.law_readers.proofs.Steps.{read-cases}
use Rattle.law_settling.proofs.Readings.{never-next}
use Rattle.law_settling_readers.proofs.Counts.{count, count-append, count-none, count-map, count-same, IsFound, found-of, one-place}
use Rattle.law_settling_readers.proofs.AskedOnce.{is_asking, took-quiet, milled-quiet, ticked-few, client-few}

-- the envelope asks for the session
abbrev pub asks_of : (ℕ → Bool) → ℕ → Sess → Envelope → Bool
asks_of to x u e = e.sender == x && to e.to && subscribes_packet u e.packet

abbrev pub asks_so : Channel → Envelope → Bool
asks_so l e = asks_of (λ b. b == l.sender) l.reader l.sess e

pub record AsksOf (to : ℕ → Bool) (x : ℕ) (u : Sess) (e : Envelope) : Type 0 where
  pub reader : e.sender ≡ x
  pub sender : to e.to ≡ true
  pub asked : Subscribe
  pub packet : e.packet ≡ Plain (message.Subscribe asked)
  pub session : same_sess asked.sess u ≡ true

pub asks-parts : (to : ℕ → Bool) (x : ℕ) (u : Sess) (e : Envelope) → asks_of to x u e ≡ true → AsksOf to x u e
asks-parts to x u e h =
    let one = both (e.sender == x && to e.to) (subscribes_packet u e.packet) h in
    let two = both (e.sender == x) (to e.to) one.0 in
    let sub = sub-of u e.packet one.1 in
    record { reader = eq-of e.sender x two.0; sender = two.1; asked = sub.0; packet = sub.1; session = sub.2 }

-- ---- what an event sends

module _ (w : World) (most x p : ℕ) (a : ℕ → Bool) (s : StreamRef) (u : Sess) (fine : IsFine w most) (port : IsPortOf w.plan x p s) (sends : (b : ℕ) → a b ≡ true → sends_stream s (role_of w.plan b) ≡ true) where
  abbrev Asks : Envelope → Bool
  Asks e = asks_of a x u e

  abbrev NewFew : List Envelope → Type 0
  NewFew es = (more : List Envelope) × (es ≡ w.envelopes ++ more) × (count Asks more ≤ 1)

  none-new : NewFew w.envelopes
  none-new = ([], sym (append-nil w.envelopes), omega arith)

  other-mails : (b : ℕ) (ms : List Mail) → (x ≡ b → ⊥) → count Asks (map (from b) ms) ≡ 0
  other-mails b ms other = count-map Asks (from b) ms ∙ count-none (λ (m : Mail). Asks (from b m)) ms (each ms)
    where
      apart : (b == x) ≡ false
      apart = by-test (b == x) refl
        where
          by-test : (c : Bool) → (b == x) ≡ c → (b == x) ≡ false
          by-test false e = e
          by-test true e = absurd (other (sym (eq-of b x e)))

      each : (ms : List Mail) → Each (λ (m : Mail). Asks (from b m) ≡ false) ms
      each [] = tt
      each (m ∷ ms) = (ap (λ (c : Bool). c && a m.to && subscribes_packet u m.packet) apart, each ms)

  own-mails : (b : ℕ) (ms : List Mail) → x ≡ b → count Asks (map (from b) ms) ≡ count (is_asking a u) ms
  own-mails b ms same = count-map Asks (from b) ms ∙ count-same (λ (m : Mail). Asks (from b m)) (is_asking a u) ms (λ m. ap (λ (c : Bool). c && a m.to && subscribes_packet u m.packet) (eq-test b x (sym same)))

  others-few : (b : ℕ) (ms : List Mail) → (x ≡ b → ⊥) → NewFew (w.envelopes ++ map (from b) ms)
  others-few b ms other = let none = other-mails b ms other in (map (from b) ms, refl, omega (arith, none))

  -- mails of a node or client, where they are few if it is the reader
  any-few : (b : ℕ) (ms : List Mail) → (x ≡ b → count (is_asking a u) ms ≤ 1) → NewFew (w.envelopes ++ map (from b) ms)
  any-few b ms few =
      elim (same-or x b) [
        | inl mine ↦ let own = own-mails b ms mine in let low = few mine in (map (from b) ms, refl, omega (arith, own, low))
        | inr other ↦ others-few b ms other
      ]

  quiet-few : (b : ℕ) (ms : List Mail) → Each (λ (m : Mail). is_asking a u m ≡ false) ms → NewFew (w.envelopes ++ map (from b) ms)
  quiet-few b ms none = let zero_count = count-none (is_asking a u) ms none in any-few b ms (λ mine. omega (arith, zero_count))

  no-source : (v b : ℕ) → role_of w.plan b ≡ IsSource v → x ≡ b → ⊥
  no-source v b role same =
      let is : role_of w.plan x ≡ IsSource v = ap (λ (z : ℕ). role_of w.plan z) same ∙ role in
      let none : slice_get (inputs_of w.plan (IsSource v)) p ≡ Some s = subst (λ (z : Role). slice_get (inputs_of w.plan z) p ≡ Some s) is port.there in cc

  node-tick-few : (y now g q : ℕ) (n : PlainNode) → role_of w.plan y ≡ IsNode g q → (slot_of w y).node ≡ Some n → x ≡ y → count (is_asking a u) (tick_step (home_of w.plan (g, q)) now n).sends ≤ 1
  node-tick-few y now g q n role up same =
      ticked-few (home_of w.plan (g, q)) a u p now n (λ j z t at reads to.
      asks-place w most x p s fine port y g q n [] (nth 0 (senders_of w.plan t) (choice_at (port_after_tick (without_ended_marks z)))) (asked_by (with_next_session z.inlet)) role up same (sends _ to)
      (record { place = j; stream = t; port = z; reads = reads; there = at; sender = refl; session = λ r e. cc; asks = refl }))

  few-cases : AreCases w (λ e next. NewFew next.envelopes)
  few-cases =
      record {
        still = λ e. none-new;
        wires = λ e cuts. none-new;
        emitted = λ b v t role. others-few b (source_emits w.plan v t (source_at w v)).sends (no-source v b role);
        released = λ b v t role. others-few b (source_releases w.plan v t (source_at w v)).sends (no-source v b role);
        source_took = λ k v f sent can role. others-few f.to (source_packet_step w.plan v f.sender f.packet (source_at w v)).sends (no-source v f.to role);
        source_ticks = λ b v now role. others-few b (source_tick_step w.plan v now (source_at w v)).sends (no-source v b role);
        crashed = λ y g q role. none-new;
        restarted = λ y i g q role. none-new;
        node_took = λ k g q f n sent can role up. quiet-few f.to (packet_step (home_of w.plan (g, q)) f.sender f.packet n).sends (took-quiet (home_of w.plan (g, q)) a u f.sender f.packet n);
        node_ticked = λ y now g q n role up clock. any-few y (tick_step (home_of w.plan (g, q)) now n).sends (λ same. node-tick-few y now g q n role up same);
        node_milled = λ y m g q n role up can. quiet-few y (mill_step (home_of w.plan (g, q)) m n).sends (milled-quiet (home_of w.plan (g, q)) a u m n);
        client_took = λ k d f sent can role. none-new;
        client_ticks = λ b d now role. any-few b (client_tick_step w.plan d now (client_at w d)).sends (λ same. client-few w.plan d now a u (client_at w d));
      }

  pub event-few : (e : Event) → NewFew (happens w e).envelopes
  event-few e = by-event w (λ e next. NewFew next.envelopes) few-cases e

-- ---- a run

module _ (plan : Plan) (x p : ℕ) (a : ℕ → Bool) (s : StreamRef) (u : Sess) (checked : IsCheckedPlan plan) (port : IsPortOf plan x p s) (sends : (b : ℕ) → a b ≡ true → sends_stream s (role_of plan b) ≡ true) where
  abbrev At : Envelope → Bool
  At e = asks_of a x u e

  once-next : (before : List Event) (e : Event) → count At (run plan before).envelopes ≤ 1 → count At (happens (run plan before) e).envelopes ≤ 1
  once-next before e h =
      let w = run plan before in
      let g = run-good plan before checked in
      let many = run-clients plan before ∙ ap (λ (z : Plan). length z.clients) (sym g.of_plan) in
      let port_w = subst (λ (z : Plan). IsPortOf z x p s) (sym g.of_plan) port in
      let sends_w = λ (b : ℕ) (is : a b ≡ true). ap (λ (z : Plan). sends_stream s (role_of z b)) g.of_plan ∙ sends b is in
      let new = event-few w (1 + length before) x p a s u g.fine port_w sends_w e in
      let step = subst (λ (z : Plan). ReadStep z x p s w (happens w e)) g.of_plan (by-event w (λ e next. ReadStep w.plan x p s w next) (read-cases w (1 + length before) x p s g.fine many port_w) e) in
      let sum = ap (count At) new.1 ∙ count-append At w.envelopes new.0 in
      let low = new.2 in
      by-count new.0 new.1 step low sum
    where
      clash : (more : List Envelope) → (happens (run plan before) e).envelopes ≡ (run plan before).envelopes ++ more → ReadStep plan x p s (run plan before) (happens (run plan before) e) → IsFound At more → IsFound At (run plan before).envelopes → ⊥
      clash more grows step f g =
          let w = run plan before in
          let new = asks-parts a x u f.item f.passes in
          let old = asks-parts a x u g.item g.passes in
          let there : slice_get (happens w e).envelopes (length w.envelopes + f.place) ≡ Some f.item = ap (λ (es : List Envelope). slice_get es (length w.envelopes + f.place)) grows ∙ get-behind w.envelopes more f.place ∙ f.there in
          let newer = none-newer plan before checked x p s port in
          elim (step.asks (length w.envelopes + f.place) f.item new.asked there new.reader (sends f.item.to new.sender) new.packet) [
            | inl before_it ↦ let low = slice_get_within w.envelopes (length w.envelopes + f.place) f.item before_it in absurd (omega (arith, low))
            | inr it ↦
                let reached = newer.asked g.place g.item old.asked g.there old.reader (sends g.item.to old.sender) old.packet in
                let at : role_port w x p (role_of plan x) ≡ Some it.0 = ap (λ (z : Plan). role_port w x p (role_of z x)) (sym (run-good plan before checked).of_plan) ∙ it.1 in
                let not_newer = reached-port w x p (role_of plan x) old.asked.sess it.0 reached at in
                let one : old.asked.sess ≡ u = same_sess-eq old.asked.sess u old.session in
                let two : new.asked.sess ≡ u = same_sess-eq new.asked.sess u new.session in
                let is : new.asked.sess ≡ (with_next_session it.0.inlet).sess = ap (λ (y : Subscribe). y.sess) it.2 in
                never-next it.0.inlet.sess old.asked.sess not_newer (subst (λ (v : Sess). same_sess old.asked.sess v ≡ true) (one ∙ sym two ∙ is) (same_sess-self old.asked.sess))
          ]

      by-count : (more : List Envelope) → (happens (run plan before) e).envelopes ≡ (run plan before).envelopes ++ more → ReadStep plan x p s (run plan before) (happens (run plan before) e) → count At more ≤ 1 →
          count At (happens (run plan before) e).envelopes ≡ count At (run plan before).envelopes + count At more → count At (happens (run plan before) e).envelopes ≤ 1
      by-count more grows step low sum =
          elim (zero-or (count At more)) [
            | inl none ↦ omega (arith, none, h, sum)
            | inr some ↦ elim (zero-or (count At (run plan before).envelopes)) [
              | inl none ↦ omega (arith, none, low, sum)
              | inr old ↦ absurd (clash more grows step (found-of At more some) (found-of At (run plan before).envelopes old))
            ]
          ]

  pub asked-once : (events : List Event) → count At (run plan events).envelopes ≤ 1
  asked-once events = every-run plan (λ w. count At w.envelopes ≤ 1) (first (new_world plan).envelopes (new_world-none plan)) once-next events
    where
      first : (es : List Envelope) → es ≡ [] → count At es ≤ 1
      first [] e = omega arith
      first (f ∷ es) e = cc

  -- so there is one such envelope
  pub only-one : (events : List Event) (i j : ℕ) (f g : Envelope) → slice_get (run plan events).envelopes i ≡ Some f → slice_get (run plan events).envelopes j ≡ Some g → asks_of a x u f ≡ true → asks_of a x u g ≡ true → i ≡ j
  only-one events i j f g at_i at_j p r = one-place At (run plan events).envelopes i j f g (asked-once events) at_i at_j p r
