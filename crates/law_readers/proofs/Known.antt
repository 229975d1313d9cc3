-- Every event keeps that no session which is known of a port is newer than the port's own.
use Rattle.std.proofs.Common.{◌≡◌, ℕ, zero, suc, ◌+◌, ◌<◌, ◌≤◌, Bool, true, false, cond, ◌||◌, ◌&&◌, ◌==◌, nat_lt, List, [], ◌∷◌, ◌++◌, map, length, refl, sym, ap, subst, ◌∙◌, arith, Option, Some, None, slice_get, ◌⊎◌, inl, inr}
use Rattle.std.proofs.lemmas.Grind.{common_steps}
use Rattle.std.proofs.lemmas.List.{length-map}
use Rattle.std.proofs.lemmas.List.FromFn.{length-range_with_len}
use Rattle.std.specs.Prelude.{IfSome}
use Rattle.dpc_lists.specs.Lists.{nth, changed, range_with_len}
use Rattle.dpc_model.specs.Inlets.{is_newer, sess_of, new_inlet, restarted_inlet}
use Rattle.dpc_model.specs.Reading.{stable_reader}
use Rattle.dpc_model.specs.Actors.{role_of, inputs_of, sends_stream, senders_of, readers_of}
use Rattle.dpc_model.specs.Replicas.{after_count, after_tick}
use Rattle.dpc_model.specs.declared.actors.Role.{Role}
use Rattle.dpc_model.specs.declared.actors.Role.TheVariants.{Source as IsSource, Node as IsNode, Client as IsClient, Nobody}
use Rattle.dpc_model.specs.Ports.{Port, port_at, without_ended_marks, port_after_tick, choice_at}
use Rattle.dpc_model.specs.Sessions.{no_session, opening_session}
use Rattle.dpc_model.specs.declared.sessions.Sub.{Sub}
use Rattle.dpc_model.specs.declared.messages.Event.{Event}
use Rattle.dpc_model.specs.declared.messages.Sess.{Sess}
use Rattle.dpc_model.specs.declared.messages.Subscribe.{Subscribe}
use Rattle.dpc_model.specs.declared.messages.Message.TheVariants as message
use Rattle.dpc_model.specs.declared.plans.Plan.{Plan}
use Rattle.dpc_model.specs.declared.plans.StreamRef.{StreamRef}
use Rattle.dpc_model.specs.declared.plans.StreamRef.TheVariants.{Source, Frag}
use Rattle.dpc_lists.proofs.Elements.{length-changed, none-there}
use Rattle.node_model.specs.Mails.{Packet, Plain, SnapFor, Mail, Stepped}
use Rattle.node_model.specs.Nodes.{Home, PlainNode, streams_of, own_readers, first_session, new_node, restarted_node}
use Rattle.node_model.specs.NodeSteps.{packet_step, mill_step, tick_step}
use Rattle.node_model.specs.Sources.{SourceState, source_readers, source_emits, source_releases, source_packet_step, source_tick_step, new_source}
use Rattle.node_model.specs.Clients.{ClientState, new_client, client_after_packet, client_tick_step}
use Rattle.world_model.specs.Orderly.{is_port_sound}
use Rattle.world_model.specs.Worlds.{World, Envelope, Slot, no_source, home_of, node_place, slot_of, source_at, client_at, from, node_stepped, source_stepped, client_stepped, restart_slot, happens, run, new_world}
use Rattle.law_safety.specs.Plans.{IsCheckedPlan}
use Rattle.world_model.proofs.Running.{run-push, new_world-none}
use Rattle.dpc_lists.proofs.Truths.{lt-of, eq-test}
use Rattle.dpc_model.proofs.Alike.{same_stream-eq}
use Rattle.dpc_lists.proofs.Somes.{some-same}
use Rattle.law_safety.proofs.SoundPorts.{port-of}
use Rattle.law_safety.proofs.Pointwise.{port-at as sound-port}
use Rattle.law_safety.proofs.Numbering.{actors-pass, all-nth, home-inputs, source-at as source-number}
use Rattle.law_safety.proofs.Ticked.{choice-below}
use Rattle.law_safety.proofs.EventCases.{AreCases, by-event}
use Rattle.law_safety.proofs.Worlding.{client-below}
use Rattle.law_safety.proofs.Happening.{IsFine, happens-next, node-here}
use Rattle.law_safety.proofs.Law.{run-good}
use Rattle.law_safety.proofs.Promises.{slot-here}
use Rattle.dpc_lists.proofs.Each.{Each}
use Rattle.law_safety.proofs.Growing.{run-plan}
use Rattle.law_granting.specs.Asking.{AreAsksInOrder}
use Rattle.law_granting.proofs.Keys.{nth-changed}
use Rattle.law_granting.proofs.Slots.{slot-there, got-sent}
use Rattle.law_granting.proofs.Asked.{same-or}
use Rattle.law_granting.proofs.Moves.{get-mapped}
use Rattle.law_granting.proofs.Running.{new-slot, run-order}
use Rattle.law_readers.specs.Newest.{IsReachedAt, IsReached, node_subs, subs_of, IsPortOf, NoneIsNewer}
use Rattle.law_readers.proofs.Running.{every-run}
use Rattle.law_readers.proofs.Passing.{Passed}
use Rattle.law_readers.proofs.Sessions.{KeptOk, SentOk, SentTo, Keeps, delivered-keeps, milled-keeps, ticked-keeps, newer-never, newer-not-then, AsksAs, AsksOf, ReaderSteps, delivered-reader, milled-reader, ticked-reader, client-session, client-ticked, AsksFor, client-asks, SourceKeeps, emits-keeps, releases-keeps, source-ticks-keeps, source-takes-keeps}

-- ---- streams

pub sends-source : (s : StreamRef) (v : ℕ) → sends_stream s (IsSource v) ≡ true → s ≡ Source v
sends-source s v e = same_stream-eq s (Source v) e

pub sends-node : (s : StreamRef) (f r : ℕ) → sends_stream s (IsNode f r) ≡ true → s ≡ Frag f
sends-node s f r e = same_stream-eq s (Frag f) e

pub sends-one : (s t : StreamRef) (role : Role) → sends_stream s role ≡ true → sends_stream t role ≡ true → t ≡ s
sends-one s t (IsSource v) e k = sends-source t v k ∙ sym (sends-source s v e)
sends-one s t (IsNode f r) e k = sends-node t f r k ∙ sym (sends-node s f r e)
sends-one s t (IsClient c) e k = cc
sends-one s t Nobody e k = cc

-- ---- what is known

pub record Known (plan : Plan) (x p : ℕ) (s : StreamRef) (w : World) : Type 0 where
  pub first : IsReached w x p (role_of plan x) (sess_of 1 1)
  pub kept : (a : ℕ) → sends_stream s (role_of plan a) ≡ true → KeptOk (IsReached w x p (role_of plan x)) (readers_of plan s) x (subs_of w a (role_of plan a))
  pub asked : (k : ℕ) (e : Envelope) (asks : Subscribe) → slice_get w.envelopes k ≡ Some e → e.sender ≡ x → sends_stream s (role_of plan e.to) ≡ true → e.packet ≡ Plain (message.Subscribe asks) → IsReached w x p (role_of plan x) asks.sess
  pub sent : (k : ℕ) (e : Envelope) → slice_get w.envelopes k ≡ Some e → e.to ≡ x → sends_stream s (role_of plan e.sender) ≡ true → SentOk (IsReached w x p (role_of plan x)) e.packet

sent-more : (Q R : Sess → Type 0) → ((u : Sess) → Q u → R u) → (p : Packet) → SentOk Q p → SentOk R p
sent-more Q R f (Plain (message.Batch u index items)) h = f u h
sent-more Q R f (Plain (message.Truncated u base)) h = f u h
sent-more Q R f (Plain (message.Subscribe asked)) h = tt
sent-more Q R f (Plain (message.Beat b)) h = tt
sent-more Q R f (Plain (message.Ack i n)) h = tt
sent-more Q R f (Plain (message.Ask i n)) h = tt
sent-more Q R f (Plain (message.Grant i n)) h = tt
sent-more Q R f (Plain (message.SnapAsk i n)) h = tt
sent-more Q R f (SnapFor i try s) h = tt

-- what an envelope is to tell
pub record Tells (plan : Plan) (x : ℕ) (s : StreamRef) (Q : Sess → Type 0) (e : Envelope) : Type 0 where
  pub asked : (asks : Subscribe) → e.sender ≡ x → sends_stream s (role_of plan e.to) ≡ true → e.packet ≡ Plain (message.Subscribe asks) → Q asks.sess
  pub sent : e.to ≡ x → sends_stream s (role_of plan e.sender) ≡ true → SentOk Q e.packet

known-next : (x p : ℕ) (s : StreamRef) (w next : World) → ((u : Sess) → IsReached w x p (role_of w.plan x) u → IsReached next x p (role_of w.plan x) u) →
    ((a : ℕ) → sends_stream s (role_of w.plan a) ≡ true → (subs_of next a (role_of w.plan a) ≡ subs_of w a (role_of w.plan a)) ⊎ KeptOk (IsReached next x p (role_of w.plan x)) (readers_of w.plan s) x (subs_of next a (role_of w.plan a))) →
    ((k : ℕ) (e : Envelope) → slice_get next.envelopes k ≡ Some e → (slice_get w.envelopes k ≡ Some e) ⊎ Tells w.plan x s (IsReached next x p (role_of w.plan x)) e) → Known w.plan x p s w → Known w.plan x p s next
known-next x p s w next more subs envelopes h =
    record {
      first = more (sess_of 1 1) h.first;
      kept = λ a sends. elim (subs a sends) [
        | inl same ↦ λ k sub u there it kept. more u (h.kept a sends k sub u (ap (λ (zs : List Sub). slice_get zs k) (sym same) ∙ there) it kept)
        | inr new ↦ new
      ];
      asked = λ k e asks there of to packet. elim (envelopes k e there) [ inl old ↦ more asks.sess (h.asked k e asks old of to packet) | inr new ↦ new.asked asks of to packet ];
      sent = λ k e there to of. elim (envelopes k e there) [
        | inl old ↦ sent-more (IsReached w x p (role_of w.plan x)) (IsReached next x p (role_of w.plan x)) more e.packet (h.sent k e old to of)
        | inr new ↦ new.sent to of
      ];
    }

each-under : (A : Type 0) (P : Mail → Type 0) (ms : List Mail) → (A → Each P ms) → Each (λ m. A → P m) ms
each-under A P [] h = tt
each-under A P (m ∷ ms) h = (λ a. (h a).0, each-under A P ms (λ a. (h a).1))

each-both : (P R : Mail → Type 0) (ms : List Mail) → Each P ms → Each R ms → Each (λ m. P m × R m) ms
each-both P R [] h k = tt
each-both P R (m ∷ ms) h k = ((h.0, k.0), each-both P R ms h.1 k.1)

-- the reader stays as it was
reached-same : (w next : World) (x p : ℕ) (role : Role) → slot_of next x ≡ slot_of w x → ((c : ℕ) → client_at next c ≡ client_at w c) → (u : Sess) → IsReached w x p role u → IsReached next x p role u
reached-same w next x p (IsNode f r) slot clients u h = subst (λ (z : Slot). IsReachedAt z p u) (sym slot) h
reached-same w next x p (IsClient c) slot clients u h = subst (λ (z : ClientState). is_newer u z.port.inlet.sess ≡ false) (sym (clients c)) h
reached-same w next x p (IsSource s) slot clients u h = tt
reached-same w next x p Nobody slot clients u h = tt

-- ---- a node that was restarted

old-first : (u : Sess) (i last : ℕ) → u.inc ≤ last → last < i → is_newer u (sess_of i 0) ≡ false
old-first u i last low less = let lower : u.inc < i = omega (arith, low, less) in older u.inc lower
  where
    older : (k : ℕ) → k < i → (nat_lt i k || (k == i && nat_lt 0 u.number)) ≡ false
    older k e = grind (arith, common_steps)

each-port : (Q : Sess → Type 0) (ports : List Port) (p : ℕ) → ((q : Port) → slice_get ports p ≡ Some q → Q q.inlet.sess) → IfSome (slice_get ports p) (λ (q : Port). Q q.inlet.sess)
each-port Q ports p h =
    (elim (slice_get ports p) as (λ o. slice_get ports p ≡ o → IfSome o (λ (q : Port). Q q.inlet.sess)) [
      | None ↦ λ e. tt
      | Some q ↦ λ e. h q e
    ]) refl

restarted-reached : (home : Home) (i p last : ℕ) (u : Sess) → u.inc ≤ last → last < i → IfSome (slice_get (restarted_node home i).ports p) (λ (z : Port). is_newer u z.inlet.sess ≡ false)
unfolding restarted_node
restarted-reached home i p last u low less =
    each-port (λ (v : Sess). is_newer u v ≡ false) (map (port_at home.plan (restarted_inlet (stable_reader [] 0) (sess_of i 0))) (streams_of home)) p
    (λ q e.
    let k = get-mapped (port_at home.plan (restarted_inlet (stable_reader [] 0) (sess_of i 0))) (streams_of home) p q e in
    subst (λ (z : Port). is_newer u z.inlet.sess ≡ false) k.2 (old-first u i last low less))

restarted-kept : (home : Home) (i k : ℕ) (sub : Sub) → slice_get (restarted_node home i).subs k ≡ Some sub → sub.kept ≡ None
unfolding restarted_node
restarted-kept home i k sub there = let was = get-mapped (λ (_ : ℕ). no_session) (own_readers home) k sub there in sym (ap (λ (z : Sub). z.kept) was.2)

nth-set : {X : Type 0} (d : X) (i : ℕ) (y : X) (xs : List X) → i < length xs → nth d (changed i (λ _. y) xs) i ≡ y
nth-set d i y [] low = absurd (omega (arith, low))
nth-set d zero y (x ∷ xs) low = refl
nth-set d (suc i) y (x ∷ xs) low = nth-set d i y xs (omega (arith, low))

-- a reader that is a node has the port, with a session of an incarnation that it reached
abbrev pub HasPort : World → World → ℕ → ℕ → Type 0
HasPort w next x p = (f r : ℕ) (n : PlainNode) → role_of w.plan x ≡ IsNode f r → (slot_of next x).node ≡ Some n → (q : Port) × (slice_get n.ports p ≡ Some q) × (q.inlet.sess.inc ≤ (slot_of next x).last_inc)

-- ---- whom a port asks

-- a subscription of a reader to a sender of the stream is of the port of that stream
pub asks-place : (w : World) (most x p : ℕ) (s : StreamRef) → IsFine w most → IsPortOf w.plan x p s → (y g q : ℕ) (n : PlainNode) (rs : List Port) (to : ℕ) (asks : Subscribe) → role_of w.plan y ≡ IsNode g q → (slot_of w y).node ≡ Some n → x ≡ y →
    sends_stream s (role_of w.plan to) ≡ true → (a : AsksAs (home_of w.plan (g, q)) n.ports rs to asks) → a.place ≡ p
asks-place w most x p s fine port y g q n rs to asks role up same sends a =
    let home = home_of w.plan (g, q) in
    let role_x : role_of w.plan x ≡ IsNode g q = ap (λ (z : ℕ). role_of w.plan z) same ∙ role in
    let good = node-here w most y g q n fine role up in
    let found = sound-port w.plan n.grants.inc most a.place a.stream (streams_of home) n.ports good.orderly.ports a.reads in
    let it : found.0 ≡ a.port = some-same found.0 a.port (sym found.1 ∙ a.there) in
    let sound = port-of w.plan a.stream n.grants.inc most a.port (subst (λ (z : Port). is_port_sound w.plan a.stream n.grants.inc most z ≡ true) it found.2) in
    let ticked = port_after_tick (without_ended_marks a.port) in
    let watches : length ticked.watches ≡ length a.port.watches = length-map (map (after_count (length a.port.inlet.held.stable)) a.port.watches) after_tick ∙ length-map a.port.watches (after_count (length a.port.inlet.held.stable)) in
    let chosen = sound.chosen in
    let low : choice_at ticked < length ticked.watches = choice-below ticked (omega (arith, watches, chosen)) in
    let few = sound.watches in
    let passes : sends_stream a.stream (role_of w.plan (nth 0 (senders_of w.plan a.stream) (choice_at ticked))) ≡ true =
    all-nth (λ (b : ℕ). sends_stream a.stream (role_of w.plan b)) 0 (senders_of w.plan a.stream) (choice_at ticked) (omega (arith, low, watches, few)) (actors-pass (sends_stream a.stream) w.plan) in
    let its : sends_stream a.stream (role_of w.plan to) ≡ true = subst (λ (b : ℕ). sends_stream a.stream (role_of w.plan b) ≡ true) (sym a.sender) passes in
    let stream : a.stream ≡ s = sends-one s a.stream (role_of w.plan to) sends its in
    let inputs : slice_get (inputs_of w.plan (role_of w.plan x)) a.place ≡ Some s =
    ap (λ (z : Role). slice_get (inputs_of w.plan z) a.place) role_x ∙ ap (λ (ss : List StreamRef). slice_get ss a.place) (home-inputs home q) ∙ a.reads ∙ ap (λ (z : StreamRef). Some z) stream in
    port.only a.place inputs

module _ (w : World) (most x p : ℕ) (s : StreamRef) (fine : IsFine w most) (many : length w.clients ≡ length w.plan.clients) (port : IsPortOf w.plan x p s) (h : Known w.plan x p s w) where
  abbrev Now : World → Sess → Type 0
  Now next u = IsReached next x p (role_of w.plan x) u

  abbrev After : World → Type 0
  After next = HasPort w next x p → Known w.plan x p s next

  -- ---- links

  wires-known : (cuts : List (ℕ × ℕ)) → Known w.plan x p s (record w { cuts = cuts })
  wires-known cuts =
      known-next x p s w (record w { cuts = cuts }) (reached-same w (record w { cuts = cuts }) x p (role_of w.plan x) refl (λ c. refl)) (λ a sends. inl (subs-same a (role_of w.plan a))) (λ k e there. inl there) h
    where
      subs-same : (a : ℕ) (role : Role) → subs_of (record w { cuts = cuts }) a role ≡ subs_of w a role
      subs-same a (IsSource v) = refl
      subs-same a (IsNode f r) = refl
      subs-same a (IsClient c) = refl
      subs-same a Nobody = refl

  -- ---- sources

  source-known : (a v : ℕ) (t : Stepped SourceState) → role_of w.plan a ≡ IsSource v →
      (s ≡ Source v → KeptOk (Now (source_stepped a t w)) (source_readers w.plan v) x (source_at w v).subs → SourceKeeps w.plan (Now (source_stepped a t w)) x v t) → Known w.plan x p s (source_stepped a t w)
  source-known a v t role steps =
      known-next x p s w (source_stepped a t w) more (λ b sends. subs b (role_of w.plan b) sends refl)
      (λ k e there. by-place k e (got-sent (λ m. s ≡ Source v → SentTo (Now (source_stepped a t w)) x m) a w.envelopes t.sends k e (each-under (s ≡ Source v) (SentTo (Now (source_stepped a t w)) x) t.sends (λ same. (mine same).1)) there)) h
    where
      more : (u : Sess) → Now w u → Now (source_stepped a t w) u
      more u k = reached-same w (source_stepped a t w) x p (role_of w.plan x) refl (λ c. refl) u k

      sends-it : s ≡ Source v → sends_stream s (role_of w.plan a) ≡ true
      sends-it same = rw (role, same) (eq-test v v refl)

      mine : s ≡ Source v → SourceKeeps w.plan (Now (source_stepped a t w)) x v t
      mine same =
          let old = h.kept a (sends-it same) in
          steps same (λ k sub u there it kept. more u (old k sub u (subst (λ (z : Role). slice_get (subs_of w a z) k ≡ Some sub) (sym role) there) (subst (λ (z : StreamRef). nth 0 (readers_of w.plan z) k ≡ x) (sym same) it) kept))

      subs : (b : ℕ) (is : Role) → sends_stream s is ≡ true → role_of w.plan b ≡ is → (subs_of (source_stepped a t w) b is ≡ subs_of w b is) ⊎ KeptOk (Now (source_stepped a t w)) (readers_of w.plan s) x (subs_of (source_stepped a t w) b is)
      subs b (IsNode f r) sends there = inl refl
      subs b (IsClient c) sends there = inl refl
      subs b Nobody sends there = inl refl
      subs b (IsSource y) sends there = by-place-of (nth-changed no_source a (λ (_ : SourceState). t.after) w.sources y)
        where
          by-place-of : (nth no_source (changed a (λ (_ : SourceState). t.after) w.sources) y ≡ nth no_source w.sources y) ⊎ ((y ≡ a) × (nth no_source (changed a (λ (_ : SourceState). t.after) w.sources) y ≡ t.after)) →
              (subs_of (source_stepped a t w) b (IsSource y) ≡ subs_of w b (IsSource y)) ⊎ KeptOk (Now (source_stepped a t w)) (readers_of w.plan s) x (subs_of (source_stepped a t w) b (IsSource y))
          by-place-of (inl still) = inl (ap (λ (z : SourceState). z.subs) still)
          by-place-of (inr here) =
              let number : y ≡ v = here.0 ∙ sym (source-number w.plan a v role) in
              let same : s ≡ Source v = sends-source s y sends ∙ ap Source number in
              inr (subst (λ (zs : List Sub). KeptOk (Now (source_stepped a t w)) (readers_of w.plan s) x zs) (sym (ap (λ (z : SourceState). z.subs) here.1))
              (subst (λ (z : StreamRef). KeptOk (Now (source_stepped a t w)) (readers_of w.plan z) x t.after.subs) (sym same) (mine same).0))

      by-place : (k : ℕ) (e : Envelope) → (slice_get w.envelopes k ≡ Some e) ⊎ ((m : Mail) × (e ≡ from a m) × (s ≡ Source v → SentTo (Now (source_stepped a t w)) x m)) → (slice_get w.envelopes k ≡ Some e) ⊎ Tells w.plan x s (Now (source_stepped a t w)) e
      by-place k e (inl old) = inl old
      by-place k e (inr (m, of, sent)) =
          let sender : role_of w.plan e.sender ≡ IsSource v = ap (λ (z : Envelope). role_of w.plan z.sender) of ∙ role in
          inr (record {
            asked = λ asks me to packet.
                let is : role_of w.plan x ≡ IsSource v = ap (λ (z : ℕ). role_of w.plan z) (sym me) ∙ sender in
                subst (λ (z : Role). IsReached (source_stepped a t w) x p z asks.sess) (sym is) tt;
            sent = λ to sends.
                let same = sends-source s v (subst (λ (z : Role). sends_stream s z ≡ true) sender sends) in
                subst (λ (z : Envelope). SentOk (Now (source_stepped a t w)) z.packet) (sym of) (sent same (sym (ap (λ (z : Envelope). z.to) of) ∙ to));
          })

  -- ---- nodes

  same-home : (f r g q y : ℕ) → role_of w.plan x ≡ IsNode f r → role_of w.plan y ≡ IsNode g q → x ≡ y → IsNode f r ≡ IsNode g q
  same-home f r g q y there role same = sym there ∙ ap (λ (z : ℕ). role_of w.plan z) same ∙ role

  -- one slot is changed
  slot-known : (y g q : ℕ) (change : Slot → Slot) (es : List Envelope) → role_of w.plan y ≡ IsNode g q → let next = record w { nodes = changed (node_place w.plan y) change w.nodes; envelopes = es } in
      (x ≡ y → (u : Sess) → IsReachedAt (slot_of w y) p u → IsReachedAt (change (slot_of w y)) p u) →
      (((u : Sess) → Now w u → Now next u) → s ≡ Frag g → KeptOk (Now next) (readers_of w.plan s) x (node_subs (change (slot_of w y)).node)) →
      (((u : Sess) → Now w u → Now next u) → slot_of next y ≡ change (slot_of w y) → (k : ℕ) (e : Envelope) → slice_get es k ≡ Some e → (slice_get w.envelopes k ≡ Some e) ⊎ Tells w.plan x s (Now next) e) → Known w.plan x p s next
  slot-known y g q change es role moves subs envelopes =
      let next : World = record w { nodes = changed (node_place w.plan y) change w.nodes; envelopes = es } in
      let here : slot_of next y ≡ change (slot_of w y) = slot-here w most y g q change fine role in
      let more : (u : Sess) → Now w u → Now next u = λ u k. moved (role_of w.plan x) refl here u k in
      known-next x p s w next more (λ a sends. kept more here a (role_of w.plan a) refl sends) (envelopes more here) h
    where
      moved : (is : Role) → role_of w.plan x ≡ is → slot_of (record w { nodes = changed (node_place w.plan y) change w.nodes; envelopes = es }) y ≡ change (slot_of w y) →
          (u : Sess) → IsReached w x p is u → IsReached (record w { nodes = changed (node_place w.plan y) change w.nodes; envelopes = es }) x p is u
      moved (IsSource v) is here u k = tt
      moved Nobody is here u k = tt
      moved (IsClient c) is here u k = k
      moved (IsNode f r) is here u k =
          elim (same-or x y) [
            | inl same ↦
                let now = ap (λ (z : ℕ). slot_of (record w { nodes = changed (node_place w.plan y) change w.nodes; envelopes = es }) z) same ∙ here in
                subst (λ (z : Slot). IsReachedAt z p u) (sym now) (moves same u (subst (λ (z : ℕ). IsReachedAt (slot_of w z) p u) same k))
            | inr other ↦ subst (λ (z : Slot). IsReachedAt z p u) (sym (slot-there w y x g q f r change role is other)) k
          ]

      kept : ((u : Sess) → Now w u → Now (record w { nodes = changed (node_place w.plan y) change w.nodes; envelopes = es }) u) → slot_of (record w { nodes = changed (node_place w.plan y) change w.nodes; envelopes = es }) y ≡ change (slot_of w y) →
          (a : ℕ) (is : Role) → role_of w.plan a ≡ is → sends_stream s is ≡ true →
          (subs_of (record w { nodes = changed (node_place w.plan y) change w.nodes; envelopes = es }) a is ≡ subs_of w a is)
          ⊎ KeptOk (Now (record w { nodes = changed (node_place w.plan y) change w.nodes; envelopes = es })) (readers_of w.plan s) x (subs_of (record w { nodes = changed (node_place w.plan y) change w.nodes; envelopes = es }) a is)
      kept more here a (IsSource v) is sends = inl refl
      kept more here a (IsClient c) is sends = inl refl
      kept more here a Nobody is sends = inl refl
      kept more here a (IsNode f r) is sends =
          elim (same-or a y) [
            | inr other ↦ inl (ap (λ (z : Slot). node_subs z.node) (slot-there w y a g q f r change role is other))
            | inl same ↦
                let whole : IsNode f r ≡ IsNode g q = sym is ∙ ap (λ (z : ℕ). role_of w.plan z) same ∙ role in
                let one : f ≡ g = cc in
                let now = ap (λ (z : ℕ). slot_of (record w { nodes = changed (node_place w.plan y) change w.nodes; envelopes = es }) z) same ∙ here in
                inr (subst (λ (z : Slot). KeptOk (Now (record w { nodes = changed (node_place w.plan y) change w.nodes; envelopes = es })) (readers_of w.plan s) x (node_subs z.node)) (sym now)
                (subs more (sends-node s f r sends ∙ ap Frag one)))
          ]

  crash-known : (y g q : ℕ) → role_of w.plan y ≡ IsNode g q → Known w.plan x p s (record w { nodes = changed (node_place w.plan y) (λ (slot : Slot). record slot { node = None }) w.nodes })
  crash-known y g q role =
      slot-known y g q (λ (slot : Slot). record slot { node = None }) w.envelopes role (λ same u k. record { came = k.came; now = tt }) (λ more same k sub u there it kept. cc) (λ more here k e there. inl there)

  restart-known : (y i g q : ℕ) → role_of w.plan y ≡ IsNode g q → Known w.plan x p s (record w { nodes = changed (node_place w.plan y) (restart_slot (home_of w.plan (g, q)) i) w.nodes })
  restart-known y i g q role =
      slot-known y g q (restart_slot (home_of w.plan (g, q)) i) w.envelopes role (λ same u k. moves (slot_of w y) u k) (λ more same k sub u there it kept. subs more same k sub u it kept (slot_of w y).node refl there) (λ more here k e there. inl there)
    where
      moves : (slot : Slot) (u : Sess) → IsReachedAt slot p u → IsReachedAt (restart_slot (home_of w.plan (g, q)) i slot) p u
      moves slot u k = by-node slot.node refl
        where
          by-node : (o : Option PlainNode) → slot.node ≡ o → IsReachedAt (elim o as (λ _. Slot) [ Some n ↦ slot | None ↦ cond (nat_lt slot.last_inc i) (record { last_inc = i; node = Some (restarted_node (home_of w.plan (g, q)) i) }) slot ]) p u
          by-node (Some n) up = k
          by-node None up =
              (elim (nat_lt slot.last_inc i) as (λ b. nat_lt slot.last_inc i ≡ b → IsReachedAt (cond {A = Slot} b (record { last_inc = i; node = Some (restarted_node (home_of w.plan (g, q)) i) }) slot) p u) [
                | false ↦ λ e. k
                | true ↦ λ e.
                    let less = lt-of slot.last_inc i e in
                    let low = k.came in
                    record { came = omega (arith, low, less); now = restarted-reached (home_of w.plan (g, q)) i p slot.last_inc u low less }
              ]) refl

      subs : ((u : Sess) → Now w u → Now (record w { nodes = changed (node_place w.plan y) (restart_slot (home_of w.plan (g, q)) i) w.nodes }) u) → s ≡ Frag g → (k : ℕ) (sub : Sub) (u : Sess) → nth 0 (readers_of w.plan s) k ≡ x → sub.kept ≡ Some u →
          (o : Option PlainNode) → (slot_of w y).node ≡ o →
          slice_get (node_subs (elim o as (λ _. Slot) [ Some n ↦ slot_of w y | None ↦ cond (nat_lt (slot_of w y).last_inc i) (record { last_inc = i; node = Some (restarted_node (home_of w.plan (g, q)) i) }) (slot_of w y) ]).node) k ≡ Some sub →
          Now (record w { nodes = changed (node_place w.plan y) (restart_slot (home_of w.plan (g, q)) i) w.nodes }) u
      subs more same k sub u it kept (Some n) up there =
          let sends : sends_stream s (role_of w.plan y) ≡ true = rw (role, same) (eq-test g g refl) in
          more u (h.kept y sends k sub u (subst (λ (z : Role). slice_get (subs_of w y z) k ≡ Some sub) (sym role) there) it kept)
      subs more same k sub u it kept None up there =
          elim (nat_lt (slot_of w y).last_inc i) as (λ b. slice_get (node_subs (cond {A = Slot} b (record { last_inc = i; node = Some (restarted_node (home_of w.plan (g, q)) i) }) (slot_of w y)).node) k ≡ Some sub →
          Now (record w { nodes = changed (node_place w.plan y) (restart_slot (home_of w.plan (g, q)) i) w.nodes }) u) [
            | true ↦ λ e. let none : ◌≡◌ {A = Option Sess} sub.kept None = restarted-kept (home_of w.plan (g, q)) i k sub e in let clash : ◌≡◌ {A = Option Sess} None (Some u) = sym none ∙ kept in cc
            | false ↦ λ e. let empty : slice_get (node_subs None) k ≡ Some sub = subst (λ (o : Option PlainNode). slice_get (node_subs o) k ≡ Some sub) up e in cc
          ] there

  -- a node's step
  node-known : (y g q : ℕ) (n : PlainNode) (t : Stepped PlainNode) → role_of w.plan y ≡ IsNode g q → (slot_of w y).node ≡ Some n →
      (((u : Sess) → Now w u → Now (node_stepped y t w) u) → s ≡ Frag g → KeptOk (Now (node_stepped y t w)) (own_readers (home_of w.plan (g, q))) x n.subs →
      Passed (Keeps (home_of w.plan (g, q)) (Now (node_stepped y t w)) x) (SentTo (Now (node_stepped y t w)) x) t) →
      ReaderSteps (home_of w.plan (g, q)) n t → HasPort w (node_stepped y t w) x p → Known w.plan x p s (node_stepped y t w)
  node-known y g q n t role up steps reads has =
      slot-known y g q (λ (slot : Slot). record slot { node = Some t.after }) (w.envelopes ++ map (from y) t.sends) role (λ same u k. moves same u k) (λ more same. subst (λ (z : StreamRef). KeptOk (Now (node_stepped y t w)) (readers_of w.plan z) x t.after.subs) (sym same) (passed more same).after)
      (λ more here k e there. by-place more here k e (got-sent (λ m. (s ≡ Frag g → SentTo (Now (node_stepped y t w)) x m) × AsksOf (home_of w.plan (g, q)) n.ports t.after.ports m.to m.packet) y w.envelopes t.sends k e
      (each-both (λ m. s ≡ Frag g → SentTo (Now (node_stepped y t w)) x m) (λ m. AsksOf (home_of w.plan (g, q)) n.ports t.after.ports m.to m.packet) t.sends
      (each-under (s ≡ Frag g) (SentTo (Now (node_stepped y t w)) x) t.sends (λ same. (passed more same).sends)) reads.asks) there))
    where
      moves : x ≡ y → (u : Sess) → IsReachedAt (slot_of w y) p u → IsReachedAt (record (slot_of w y) { node = Some t.after }) p u
      moves same u k =
          record {
            came = k.came;
            now = each-port (λ (v : Sess). is_newer u v ≡ false) t.after.ports p (λ r e.
                let was = reads.ports p r e in
                let at_node = subst (λ (o : Option PlainNode). IfSome o (λ (z : PlainNode). IfSome (slice_get z.ports p) (λ (b : Port). is_newer u b.inlet.sess ≡ false))) up k.now in
                let old = subst (λ (o : Option Port). IfSome o (λ (b : Port). is_newer u b.inlet.sess ≡ false)) was.1 at_node in
                newer-not-then u was.0.inlet.sess r.inlet.sess old was.2);
          }

      passed : ((u : Sess) → Now w u → Now (node_stepped y t w) u) → s ≡ Frag g → Passed (Keeps (home_of w.plan (g, q)) (Now (node_stepped y t w)) x) (SentTo (Now (node_stepped y t w)) x) t
      passed more same =
          let sends : sends_stream s (role_of w.plan y) ≡ true = rw (role, same) (eq-test g g refl) in
          steps more same (λ k sub u there it kept. more u (h.kept y sends k sub u (rw (role, up) there) (subst (λ (z : StreamRef). nth 0 (readers_of w.plan z) k ≡ x) (sym same) it) kept))

      -- a subscription is of the port, and of its session
      asked-now : slot_of (node_stepped y t w) y ≡ record (slot_of w y) { node = Some t.after } → x ≡ y → (to : ℕ) (asks : Subscribe) → sends_stream s (role_of w.plan to) ≡ true → AsksAs (home_of w.plan (g, q)) n.ports t.after.ports to asks →
          Now (node_stepped y t w) asks.sess
      asked-now here same to asks sends a =
          let role_x : role_of w.plan x ≡ IsNode g q = ap (λ (z : ℕ). role_of w.plan z) same ∙ role in
          let place = asks-place w most x p s fine port y g q n t.after.ports to asks role up same sends a in
          let slot : slot_of (node_stepped y t w) x ≡ record (slot_of w y) { node = Some t.after } = ap (λ (z : ℕ). slot_of (node_stepped y t w) z) same ∙ here in
          let there : (slot_of (node_stepped y t w) x).node ≡ Some t.after = ap (λ (z : Slot). z.node) slot in
          let r = has g q t.after role_x there in
          let session : asks.sess ≡ r.0.inlet.sess = a.session r.0 (ap (λ (z : ℕ). slice_get t.after.ports z) place ∙ r.1) in
          let inc : r.0.inlet.sess.inc ≤ (slot_of (node_stepped y t w) x).last_inc = r.2 in
          subst (λ (z : Role). IsReached (node_stepped y t w) x p z asks.sess) (sym role_x) (subst (λ (v : Sess). IsReachedAt (slot_of (node_stepped y t w) x) p v) (sym session) (record {
            came = inc;
            now = subst (λ (o : Option PlainNode). IfSome o (λ (z : PlainNode). IfSome (slice_get z.ports p) (λ (b : Port). is_newer r.0.inlet.sess b.inlet.sess ≡ false))) (sym there)
                (subst (λ (o : Option Port). IfSome o (λ (b : Port). is_newer r.0.inlet.sess b.inlet.sess ≡ false)) (sym r.1) (newer-never r.0.inlet.sess));
          }))

      by-place : ((u : Sess) → Now w u → Now (node_stepped y t w) u) → slot_of (node_stepped y t w) y ≡ record (slot_of w y) { node = Some t.after } → (k : ℕ) (e : Envelope) →
          (slice_get w.envelopes k ≡ Some e) ⊎ ((m : Mail) × (e ≡ from y m) × ((s ≡ Frag g → SentTo (Now (node_stepped y t w)) x m) × AsksOf (home_of w.plan (g, q)) n.ports t.after.ports m.to m.packet)) →
          (slice_get w.envelopes k ≡ Some e) ⊎ Tells w.plan x s (Now (node_stepped y t w)) e
      by-place more here k e (inl old) = inl old
      by-place more here k e (inr (m, of, both)) =
          let sender : y ≡ e.sender = sym (ap (λ (z : Envelope). z.sender) of) in
          let to_is : m.to ≡ e.to = sym (ap (λ (z : Envelope). z.to) of) in
          let packet_is : m.packet ≡ e.packet = sym (ap (λ (z : Envelope). z.packet) of) in
          inr (record {
            asked = λ asks me to packet.
                let asks_as : AsksOf (home_of w.plan (g, q)) n.ports t.after.ports m.to (Plain (message.Subscribe asks)) = subst (λ (z : Packet). AsksOf (home_of w.plan (g, q)) n.ports t.after.ports m.to z) (packet_is ∙ packet) both.1 in
                asked-now here (sym (sender ∙ me)) m.to asks (subst (λ (z : ℕ). sends_stream s (role_of w.plan z) ≡ true) (sym to_is) to) asks_as;
            sent = λ to sends.
                let same = sends-node s g q (subst (λ (z : Role). sends_stream s z ≡ true) (ap (λ (z : ℕ). role_of w.plan z) (sym sender) ∙ role) sends) in
                subst (λ (z : Packet). SentOk (Now (node_stepped y t w)) z) packet_is (both.0 same (to_is ∙ to));
          })

  -- ---- clients

  client-more : (next : World) → slot_of next x ≡ slot_of w x → ((c : ℕ) → role_of w.plan x ≡ IsClient c → is_newer (client_at w c).port.inlet.sess (client_at next c).port.inlet.sess ≡ false) → (u : Sess) → Now w u → Now next u
  client-more next slot goes u k = by-role (role_of w.plan x) refl k
    where
      by-role : (is : Role) → role_of w.plan x ≡ is → IsReached w x p is u → IsReached next x p is u
      by-role (IsNode f r) is j = subst (λ (z : Slot). IsReachedAt z p u) (sym slot) j
      by-role (IsClient c) is j = newer-not-then u (client_at w c).port.inlet.sess (client_at next c).port.inlet.sess j (goes c is)
      by-role (IsSource v) is j = tt
      by-role Nobody is j = tt

  took-known : (d : ℕ) (e : Envelope) → Known w.plan x p s (record w { clients = changed d (client_after_packet w.plan d e.sender e.packet) w.clients })
  took-known d e =
      let next : World = record w { clients = changed d (client_after_packet w.plan d e.sender e.packet) w.clients } in
      known-next x p s w next (client-more next refl (λ c is. goes c)) (λ a sends. inl (subs-same a (role_of w.plan a))) (λ k f there. inl there) h
    where
      goes : (c : ℕ) → is_newer (client_at w c).port.inlet.sess (nth (new_client w.plan c) (changed d (client_after_packet w.plan d e.sender e.packet) w.clients) c).port.inlet.sess ≡ false
      goes c =
          elim (nth-changed (new_client w.plan c) d (client_after_packet w.plan d e.sender e.packet) w.clients c) [
            | inl still ↦ subst (λ (z : ClientState). is_newer (client_at w c).port.inlet.sess z.port.inlet.sess ≡ false) (sym still) (newer-never (client_at w c).port.inlet.sess)
            | inr here ↦ subst (λ (z : ClientState). is_newer (client_at w c).port.inlet.sess z.port.inlet.sess ≡ false) (sym here.1)
                (subst (λ (v : Sess). is_newer (client_at w c).port.inlet.sess v ≡ false) (sym (client-session w.plan d e.sender e.packet (client_at w c))) (newer-never (client_at w c).port.inlet.sess))
          ]

      subs-same : (a : ℕ) (role : Role) → subs_of (record w { clients = changed d (client_after_packet w.plan d e.sender e.packet) w.clients }) a role ≡ subs_of w a role
      subs-same a (IsSource v) = refl
      subs-same a (IsNode f r) = refl
      subs-same a (IsClient c) = refl
      subs-same a Nobody = refl

  client-ticks-known : (a d now : ℕ) → role_of w.plan a ≡ IsClient d → Known w.plan x p s (client_stepped a d (client_tick_step w.plan d now (client_at w d)) w)
  client-ticks-known a d now role =
      let t = client_tick_step w.plan d now (client_at w d) in
      known-next x p s w (client_stepped a d t w) (client-more (client_stepped a d t w) refl (λ c is. goes c)) (λ b sends. inl (subs-same b (role_of w.plan b)))
      (λ k e there. by-place k e (got-sent (λ m. AsksFor t.after.port.inlet.sess m.packet) a w.envelopes t.sends k e (client-asks w.plan d now (client_at w d)) there)) h
    where
      goes : (c : ℕ) → is_newer (client_at w c).port.inlet.sess (nth (new_client w.plan c) (changed d (λ (_ : ClientState). (client_tick_step w.plan d now (client_at w d)).after) w.clients) c).port.inlet.sess ≡ false
      goes c =
          elim (nth-changed (new_client w.plan c) d (λ (_ : ClientState). (client_tick_step w.plan d now (client_at w d)).after) w.clients c) [
            | inl still ↦ subst (λ (z : ClientState). is_newer (client_at w c).port.inlet.sess z.port.inlet.sess ≡ false) (sym still) (newer-never (client_at w c).port.inlet.sess)
            | inr here ↦ subst (λ (z : ClientState). is_newer (client_at w c).port.inlet.sess z.port.inlet.sess ≡ false) (sym here.1)
                (subst (λ (z : ℕ). is_newer (client_at w c).port.inlet.sess (client_tick_step w.plan z now (client_at w z)).after.port.inlet.sess ≡ false) here.0 (client-ticked w.plan c now (client_at w c)))
          ]

      subs-same : (b : ℕ) (is : Role) → subs_of (client_stepped a d (client_tick_step w.plan d now (client_at w d)) w) b is ≡ subs_of w b is
      subs-same b (IsSource v) = refl
      subs-same b (IsNode f r) = refl
      subs-same b (IsClient c) = refl
      subs-same b Nobody = refl

      here : client_at (client_stepped a d (client_tick_step w.plan d now (client_at w d)) w) d ≡ (client_tick_step w.plan d now (client_at w d)).after
      here = let low = client-below w.plan a d role in nth-set (new_client w.plan d) d (client_tick_step w.plan d now (client_at w d)).after w.clients (omega (arith, low, many))

      by-place : (k : ℕ) (e : Envelope) → (slice_get w.envelopes k ≡ Some e) ⊎ ((m : Mail) × (e ≡ from a m) × AsksFor (client_tick_step w.plan d now (client_at w d)).after.port.inlet.sess m.packet) →
          (slice_get w.envelopes k ≡ Some e) ⊎ Tells w.plan x s (Now (client_stepped a d (client_tick_step w.plan d now (client_at w d)) w)) e
      by-place k e (inl old) = inl old
      by-place k e (inr (m, of, asks_for)) =
          let next = client_stepped a d (client_tick_step w.plan d now (client_at w d)) w in
          let sender : role_of w.plan e.sender ≡ IsClient d = ap (λ (z : Envelope). role_of w.plan z.sender) of ∙ role in
          inr (record {
            asked = λ asks me to packet.
                let is : role_of w.plan x ≡ IsClient d = ap (λ (z : ℕ). role_of w.plan z) (sym me) ∙ sender in
                let session : AsksFor (client_tick_step w.plan d now (client_at w d)).after.port.inlet.sess (Plain (message.Subscribe asks)) =
                subst (λ (z : Packet). AsksFor (client_tick_step w.plan d now (client_at w d)).after.port.inlet.sess z) (sym (ap (λ (z : Envelope). z.packet) of) ∙ packet) asks_for in
                subst (λ (z : Role). IsReached next x p z asks.sess) (sym is)
                (subst (λ (z : ClientState). is_newer asks.sess z.port.inlet.sess ≡ false) (sym here) (subst (λ (v : Sess). is_newer v (client_tick_step w.plan d now (client_at w d)).after.port.inlet.sess ≡ false) (sym session) (newer-never (client_tick_step w.plan d now (client_at w d)).after.port.inlet.sess)));
            sent = λ to sends. let clash : false ≡ true = subst (λ (z : Role). sends_stream s z ≡ true) sender sends in cc;
          })

  -- ---- every event

  known-cases : AreCases w (λ e next. After next)
  known-cases =
      record {
        still = λ e has. h;
        wires = λ e cuts has. wires-known cuts;
        emitted = λ a v t role has. source-known a v (source_emits w.plan v t (source_at w v)) role (λ same kept. emits-keeps w.plan (Now (source_stepped a (source_emits w.plan v t (source_at w v)) w)) x v t (source_at w v) kept);
        released = λ a v t role has. source-known a v (source_releases w.plan v t (source_at w v)) role (λ same kept. releases-keeps w.plan (Now (source_stepped a (source_releases w.plan v t (source_at w v)) w)) x v t (source_at w v) kept);
        source_took = λ k v e there can role has.
            let t = source_packet_step w.plan v e.sender e.packet (source_at w v) in
            source-known e.to v t role (λ same kept. source-takes-keeps w.plan (Now (source_stepped e.to t w)) x v e.sender e.packet (source_at w v)
            (λ asks packet me. reached-same w (source_stepped e.to t w) x p (role_of w.plan x) refl (λ c. refl) asks.sess (h.asked k e asks there me (rw (role, same) (eq-test v v refl)) packet)) kept);
        source_ticks = λ a v now role has. source-known a v (source_tick_step w.plan v now (source_at w v)) role (λ same kept. source-ticks-keeps w.plan (Now (source_stepped a (source_tick_step w.plan v now (source_at w v)) w)) x v now (source_at w v) kept);
        crashed = λ y g q role has. crash-known y g q role;
        restarted = λ y i g q role has. restart-known y i g q role;
        node_took = λ k g q e n there can role up has.
            let home = home_of w.plan (g, q) in
            let t = packet_step home e.sender e.packet n in
            node-known e.to g q n t role up (λ more same kept. delivered-keeps home (Now (node_stepped e.to t w)) x e.sender e.packet n
            (λ asks packet me. more asks.sess (h.asked k e asks there me (rw (role, same) (eq-test g g refl)) packet)) kept) (delivered-reader home e.sender e.packet n) has;
        node_ticked = λ y now g q n role up clock has.
            let home = home_of w.plan (g, q) in
            let t = tick_step home now n in node-known y g q n t role up (λ more same kept. ticked-keeps home (Now (node_stepped y t w)) x now n kept) (ticked-reader home now n) has;
        node_milled = λ y m g q n role up can has.
            let home = home_of w.plan (g, q) in
            let t = mill_step home m n in node-known y g q n t role up (λ more same kept. milled-keeps home (Now (node_stepped y t w)) x m n kept) (milled-reader home m n) has;
        client_took = λ k d e there can role has. took-known d e;
        client_ticks = λ a d now role has. client-ticks-known a d now role;
      }

-- ---- the opening

opened-source : (plan : Plan) (v k : ℕ) (sub : Sub) (xs : List ℕ) (j : ℕ) → slice_get (nth no_source (map (new_source plan) xs) j).subs k ≡ Some sub → sub.kept ≡ Some (sess_of 1 1)
unfolding new_source
opened-source plan v k sub [] j e = cc
opened-source plan v k sub (y ∷ xs) zero e = let was = get-mapped (λ (_ : ℕ). opening_session) (source_readers plan y) k sub e in sym (ap (λ (z : Sub). z.kept) was.2)
opened-source plan v k sub (y ∷ xs) (suc j) e = opened-source plan v k sub xs j e

opened-node : (home : Home) (k : ℕ) (sub : Sub) (u : Sess) → slice_get (new_node home).subs k ≡ Some sub → sub.kept ≡ Some u → u ≡ sess_of 1 1
unfolding new_node
opened-node home k sub u e kept =
    let was = get-mapped (λ (_ : ℕ). first_session home) (own_readers home) k sub e in
    first (home.replica == 0) (ap (λ (z : Sub). z.kept) was.2 ∙ kept)
  where
    first : (b : Bool) → (cond {A = Sub} b opening_session no_session).kept ≡ Some u → u ≡ sess_of 1 1
    first true d = some-sess u d
      where
        some-sess : (v : Sess) → ◌≡◌ {A = Option Sess} (Some (sess_of 1 1)) (Some v) → v ≡ sess_of 1 1
        some-sess v d = cc
    first false d = cc

opened-port : (home : Home) (p : ℕ) → IfSome (slice_get (new_node home).ports p) (λ (q : Port). is_newer (sess_of 1 1) q.inlet.sess ≡ false)
unfolding new_node
opened-port home p =
    each-port (λ (v : Sess). is_newer (sess_of 1 1) v ≡ false) (map (port_at home.plan (new_inlet 1)) (streams_of home)) p
    (λ q e. let k = get-mapped (port_at home.plan (new_inlet 1)) (streams_of home) p q e in subst (λ (z : Port). is_newer (sess_of 1 1) z.inlet.sess ≡ false) k.2 refl)

opened-client : (plan : Plan) (c : ℕ) (xs : List ℕ) (i : ℕ) → (nth (new_client plan c) (map (new_client plan) xs) i).port.inlet.sess ≡ sess_of 1 1
unfolding new_client
opened-client plan c [] i = refl
opened-client plan c (x ∷ xs) zero = refl
opened-client plan c (x ∷ xs) (suc i) = opened-client plan c xs i

opened-clients : (plan : Plan) (c : ℕ) → is_newer (sess_of 1 1) (client_at (new_world plan) c).port.inlet.sess ≡ false
unfolding new_world
opened-clients plan c = subst (λ (v : Sess). is_newer (sess_of 1 1) v ≡ false) (sym (opened-client plan c (range_with_len 0 (length plan.clients)) c)) refl

opened-source-world : (plan : Plan) (v k : ℕ) (sub : Sub) → slice_get (source_at (new_world plan) v).subs k ≡ Some sub → sub.kept ≡ Some (sess_of 1 1)
unfolding new_world
opened-source-world plan v k sub e = opened-source plan v k sub (range_with_len 0 (length plan.sources)) v e

pub new-clients : (plan : Plan) → length (new_world plan).clients ≡ length plan.clients
unfolding new_world
new-clients plan = length-map (range_with_len 0 (length plan.clients)) (new_client plan) ∙ length-range_with_len 0 (length plan.clients)

opened-reached : (plan : Plan) (x p : ℕ) (role : Role) → role_of plan x ≡ role → IsReached (new_world plan) x p role (sess_of 1 1)
opened-reached plan x p (IsNode f r) is =
    subst (λ (z : Slot). IsReachedAt z p (sess_of 1 1)) (sym (new-slot plan x f r is)) (record { came = omega arith; now = opened-port (home_of plan (f, r)) p })
opened-reached plan x p (IsClient c) is = opened-clients plan c
opened-reached plan x p (IsSource v) is = tt
opened-reached plan x p Nobody is = tt

pub opened-subs : (plan : Plan) (a k : ℕ) (sub : Sub) (u : Sess) (role : Role) → role_of plan a ≡ role → slice_get (subs_of (new_world plan) a role) k ≡ Some sub → sub.kept ≡ Some u → u ≡ sess_of 1 1
opened-subs plan a k sub u (IsNode f r) is e kept =
    opened-node (home_of plan (f, r)) k sub u (subst (λ (z : Slot). slice_get (node_subs z.node) k ≡ Some sub) (new-slot plan a f r is) e) kept
opened-subs plan a k sub u (IsSource v) is e kept = some-sess u (sym (opened-source-world plan v k sub e) ∙ kept)
  where
    some-sess : (v : Sess) → ◌≡◌ {A = Option Sess} (Some (sess_of 1 1)) (Some v) → v ≡ sess_of 1 1
    some-sess v d = cc
opened-subs plan a k sub u (IsClient c) is e kept = cc
opened-subs plan a k sub u Nobody is e kept = cc

new-known : (plan : Plan) (x p : ℕ) (s : StreamRef) → Known plan x p s (new_world plan)
new-known plan x p s =
    record {
      first = opened-reached plan x p (role_of plan x) refl;
      kept = λ a sends k sub u there it kept. subst (λ (v : Sess). IsReached (new_world plan) x p (role_of plan x) v) (sym (opened-subs plan a k sub u (role_of plan a) refl there kept)) (opened-reached plan x p (role_of plan x) refl);
      asked = λ k e asks there me to packet. absurd (none-there k e (new_world plan).envelopes (new_world-none plan) there);
      sent = λ k e there to sends. absurd (none-there k e (new_world plan).envelopes (new_world-none plan) there);
    }

-- ---- a run

clients-cases : (w : World) (many : ℕ) → length w.clients ≡ many → AreCases w (λ e next. length next.clients ≡ many)
clients-cases w many h =
    record {
      still = λ e. h;
      wires = λ e cuts. h;
      emitted = λ a s t role. h;
      released = λ a s t role. h;
      source_took = λ k s e there can role. h;
      source_ticks = λ a s now role. h;
      crashed = λ a f r role. h;
      restarted = λ a i f r role. h;
      node_took = λ k f r e n there can role up. h;
      node_ticked = λ a now f r n role up clock. h;
      node_milled = λ a m f r n role up can. h;
      client_took = λ k c e there can role. length-changed c (client_after_packet w.plan c e.sender e.packet) w.clients ∙ h;
      client_ticks = λ a c now role. length-changed c (λ (_ : ClientState). (client_tick_step w.plan c now (client_at w c)).after) w.clients ∙ h;
    }

pub run-clients : (plan : Plan) (events : List Event) → length (run plan events).clients ≡ length plan.clients
run-clients plan events = every-run plan (λ w. length w.clients ≡ length plan.clients) (new-clients plan) (λ before e h. by-event (run plan before) (λ e next. length next.clients ≡ length plan.clients) (clients-cases (run plan before) (length plan.clients) h) e) events

has-port : (plan : Plan) (before : List Event) (e : Event) (x p : ℕ) (s : StreamRef) → IsCheckedPlan plan → slice_get (inputs_of plan (role_of plan x)) p ≡ Some s → HasPort (run plan before) (happens (run plan before) e) x p
has-port plan before e x p s checked input f r n role up =
    let w = run plan before in
    let g = run-good plan before checked in
    let next = happens w e in
    let after = happens-next w (1 + length before) e g.fine in
    let is : next.plan ≡ plan = after.plan ∙ run-plan plan before in
    let role_p : role_of plan x ≡ IsNode f r = ap (λ (z : Plan). role_of z x) (sym (run-plan plan before)) ∙ role in
    let role_n : role_of next.plan x ≡ IsNode f r = ap (λ (z : Plan). role_of z x) is ∙ role_p in
    let inputs : slice_get (streams_of (home_of plan (f, r))) p ≡ Some s = ap (λ (ss : List StreamRef). slice_get ss p) (sym (home-inputs (home_of plan (f, r)) r)) ∙ ap (λ (z : Role). slice_get (inputs_of plan z) p) (sym role_p) ∙ input in
    let good = node-here next (1 + length before + 1) x f r n after.fine role_n up in
    let found = sound-port next.plan n.grants.inc (1 + length before + 1) p s (streams_of (home_of next.plan (f, r))) n.ports good.orderly.ports (subst (λ (z : Plan). slice_get (streams_of (home_of z (f, r))) p ≡ Some s) (sym is) inputs) in
    let sound = port-of next.plan s n.grants.inc (1 + length before + 1) found.0 found.2 in
    let order = subst AreAsksInOrder (run-push plan before e) (run-order plan (before ++ e ∷ []) checked) in
    let inc = order.incarnation x f r n (record { role = role_n; up = up }) in
    let own = sound.inc in
    (found.0, found.1, omega (arith, inc, own))

pub run-known : (plan : Plan) (events : List Event) (x p : ℕ) (s : StreamRef) → IsCheckedPlan plan → IsPortOf plan x p s → Known plan x p s (run plan events)
run-known plan events x p s checked port =
    every-run plan (λ w. Known plan x p s w) (new-known plan x p s)
    (λ before e h.
    let w = run plan before in
    let g = run-good plan before checked in
    let same = run-plan plan before in
    subst (λ (z : Plan). Known z x p s (happens w e)) same
    (by-event w (λ e next. HasPort w next x p → Known w.plan x p s next)
    (known-cases w (1 + length before) x p s g.fine (run-clients plan before ∙ ap (λ (z : Plan). length z.clients) (sym same)) (subst (λ (z : Plan). IsPortOf z x p s) (sym same) port) (subst (λ (z : Plan). Known z x p s w) (sym same) h)) e
    (has-port plan before e x p s checked port.there))) events

pub none-newer : (plan : Plan) (events : List Event) → IsCheckedPlan plan → NoneIsNewer plan events
none-newer plan events checked x p s port =
    let h = run-known plan events x p s checked port in
    let Q = λ (u : Sess). IsReached (run plan events) x p (role_of plan x) u in
    record {
      kept = λ a k sub u sends there it kept. h.kept a sends k sub u there it kept;
      asked = λ k e asks there me to packet. h.asked k e asks there me to packet;
      batches = λ k index e u items there to sends packet. subst (λ (z : Packet). SentOk (λ (u : Sess). IsReached (run plan events) x p (role_of plan x) u) z) packet (h.sent k e there to sends);
      truncated = λ k base e u there to sends packet. subst (λ (z : Packet). SentOk (λ (u : Sess). IsReached (run plan events) x p (role_of plan x) u) z) packet (h.sent k e there to sends);
    }
