-- The promise behind a Grant stands while the ask is not over and no tick finds the asker absent.
use Rattle.std.proofs.Common.{◌≡◌, ℕ, ◌+◌, ◌<◌, ◌≤◌, Bool, true, false, cond, not, ◌&&◌, ◌||◌, ◌==◌, nat_lt, nat_le, List, [], ◌∷◌, ◌++◌, map, length, refl, sym, ap, subst, ◌∙◌, arith, Option, Some, None, slice_get, ◌⊎◌, inl, inr}
use Rattle.std.specs.Prelude.{IfSome}
use Rattle.std.proofs.lemmas.Grind.{common_steps}
use Rattle.std.proofs.lemmas.Option.{slice_get_within}
use Rattle.dpc_lists.specs.Lists.{nth, changed}
use Rattle.dpc_model.specs.Replicas.{is_absent}
use Rattle.dpc_model.specs.Granting.{Key, key_le}
use Rattle.dpc_model.specs.Actors.{role_of, are_peers, replicas_of}
use Rattle.dpc_model.specs.declared.actors.Role.{Role}
use Rattle.dpc_model.specs.declared.actors.Role.TheVariants.{Source as IsSource, Node as IsNode, Client as IsClient, Nobody}
use Rattle.dpc_model.specs.declared.messages.Event.{Event}
use Rattle.dpc_model.specs.declared.messages.Message.TheVariants as message
use Rattle.dpc_model.specs.declared.plans.Plan.{Plan}
use Rattle.node_model.specs.Mails.{Packet, Plain, Mail, Stepped}
use Rattle.dpc_model.specs.NodeStates.{is_stabilization}
use Rattle.node_model.specs.Nodes.{Home, PlainNode, restarted_node}
use Rattle.node_model.specs.NodeSteps.{replica_number, after_clock, packet_step, mill_step, tick_step}
use Rattle.world_model.specs.Worlds.{World, Envelope, Slot, home_of, node_place, slot_of, from, node_stepped, restart_slot, is_clock, happens, run_from, run, new_world}
use Rattle.world_model.specs.Orderly.{is_fitting, carries_fitting}
use Rattle.law_safety.specs.Plans.{IsCheckedPlan}
use Rattle.dpc_lists.proofs.Truths.{both, lt-of, eq-of, eq-test, not-of}
use Rattle.dpc_lists.proofs.Places.{place-nth}
use Rattle.dpc_lists.proofs.Somes.{some-same}
use Rattle.law_safety.proofs.Numbering.{all-at, replica-number}
use Rattle.law_safety.proofs.Happening.{IsFine, happens-next}
use Rattle.law_safety.proofs.Law.{new_world-fine, run-fine}
use Rattle.law_granting.specs.Asking.{reconciles, IsOver}
use Rattle.law_granting.specs.Meanwhile.{role_finds, finds_absent, NeverFindsAbsent, SendsGrant, IsUpIn, HasOpenAsk, ServesMeanwhile}
use Rattle.law_granting.proofs.Keys.{key-trans, IsAskStep}
use Rattle.law_granting.proofs.Saying.{Says, PacketSays, Hears, Asks, Ends, Never, FoundAbsent, own-delivered, own-milled, own-ticked}
use Rattle.law_safety.proofs.EventCases.{AreCases, by-event}
use Rattle.law_safety.proofs.Promises.{slot-here}
use Rattle.law_granting.proofs.Slots.{slot-there, got-sent}
use Rattle.law_granting.proofs.Asked.{IsAskingWorld, told-so, same-or, event-asking, each-unit}
use Rattle.law_granting.proofs.Running.{new_world-asking, run-asking}
use Rattle.world_model.proofs.Running.{run_from-append}
use Rattle.dpc_lists.proofs.Each.{Each}

-- ---- what stands

-- an ask of this key is not over
record IsPending (x : Slot) (key : Key) : Type 0 where
  node : PlainNode
  up : x.node ≡ Some node
  inc : node.grants.inc ≡ key.0
  going_on : node.grants.over < key.1

-- a node's promise is to an actor, for an ask of this key or a later one
record HoldsFor (home : Home) (a : ℕ) (key : Key) (n : PlainNode) : Type 0 where
  replica : ℕ
  more : Key
  number : replica_number home a ≡ Some replica
  promise : n.grants.promise ≡ Some (replica, more)
  most : key_le key more ≡ true

record Stands (w : World) (a b f ra rb i : ℕ) (key : Key) : Type 0 where
  role_a : role_of w.plan a ≡ IsNode f ra
  role_b : role_of w.plan b ≡ IsNode f rb
  apart : a ≡ b → ⊥
  came : key.0 ≤ (slot_of w a).last_inc
  last : i ≤ (slot_of w b).last_inc
  promise : (n : PlainNode) → (slot_of w b).node ≡ Some n → n.grants.inc ≡ i → IsPending (slot_of w a) key → HoldsFor (home_of w.plan (f, rb)) a key n

-- ---- how slots keep it

record KeepsAsker (key : Key) (x y : Slot) : Type 0 where
  last : x.last_inc ≤ y.last_inc
  back : IsPending y key → IsPending x key

record KeepsGranter (home : Home) (a i : ℕ) (key : Key) (pending : Type 0) (x y : Slot) : Type 0 where
  last : x.last_inc ≤ y.last_inc
  back : (m : PlainNode) → y.node ≡ Some m → m.grants.inc ≡ i → pending → ((n : PlainNode) → x.node ≡ Some n → n.grants.inc ≡ i → HoldsFor home a key n) → HoldsFor home a key m

asker-same : (key : Key) (x y : Slot) → y ≡ x → KeepsAsker key x y
asker-same key x y e = subst (λ (z : Slot). KeepsAsker key x z) (sym e) (record { last = omega arith; back = λ p. p })

asker-down : (key : Key) (x : Slot) → KeepsAsker key x (record x { node = None })
asker-down key x = record { last = omega arith; back = λ p. let up = p.up in cc }

granter-same : (home : Home) (a i : ℕ) (key : Key) (pending : Type 0) (x y : Slot) → y ≡ x → KeepsGranter home a i key pending x y
granter-same home a i key pending x y e = subst (λ (z : Slot). KeepsGranter home a i key pending x z) (sym e) (record { last = omega arith; back = λ m up inc p h. h m up inc })

granter-down : (home : Home) (a i : ℕ) (key : Key) (pending : Type 0) (x : Slot) → KeepsGranter home a i key pending x (record x { node = None })
granter-down home a i key pending x = record { last = omega arith; back = λ m up inc p h. cc }

asker-restart : (home : Home) (i : ℕ) (key : Key) (x : Slot) → key.0 ≤ x.last_inc → KeepsAsker key x (restart_slot home i x)
unfolding restarted_node
asker-restart home i key x low = by-node x.node refl
  where
    by-node : (o : Option PlainNode) → x.node ≡ o → KeepsAsker key x (elim o [ Some n ↦ x | None ↦ cond (nat_lt x.last_inc i) (record { last_inc = i; node = Some (restarted_node home i) }) x ])
    by-node (Some n) e = asker-same key x x refl
    by-node None e = (elim (nat_lt x.last_inc i) as (λ b. nat_lt x.last_inc i ≡ b → KeepsAsker key x (cond b (record { last_inc = i; node = Some (restarted_node home i) }) x)) [
      | true ↦ λ f.
          let less = lt-of x.last_inc i f in
          record {
            last = omega (arith, less);
            back = λ p.
                let same = some-same (restarted_node home i) p.node p.up in
                let inc : i ≡ key.0 = ap (λ (n : PlainNode). n.grants.inc) same ∙ p.inc in absurd (omega (arith, low, less, inc));
          }
      | false ↦ λ f. asker-same key x x refl
    ]) refl

granter-restart : (home place : Home) (a i j : ℕ) (key : Key) (pending : Type 0) (x : Slot) → i ≤ x.last_inc → KeepsGranter home a i key pending x (restart_slot place j x)
unfolding restarted_node
granter-restart home place a i j key pending x low = by-node x.node refl
  where
    by-node : (o : Option PlainNode) → x.node ≡ o → KeepsGranter home a i key pending x (elim o [ Some n ↦ x | None ↦ cond (nat_lt x.last_inc j) (record { last_inc = j; node = Some (restarted_node place j) }) x ])
    by-node (Some n) e = granter-same home a i key pending x x refl
    by-node None e = (elim (nat_lt x.last_inc j) as (λ b. nat_lt x.last_inc j ≡ b → KeepsGranter home a i key pending x (cond b (record { last_inc = j; node = Some (restarted_node place j) }) x)) [
      | true ↦ λ f.
          let less = lt-of x.last_inc j f in
          record {
            last = omega (arith, less);
            back = λ m up inc p h.
                let same = some-same (restarted_node place j) m up in
                let now : j ≡ i = ap (λ (n : PlainNode). n.grants.inc) same ∙ inc in absurd (omega (arith, low, less, now));
          }
      | false ↦ λ f. granter-same home a i key pending x x refl
    ]) refl

asker-step : (H A E : ℕ → Key → Type 0) (key : Key) (x : Slot) (n m : PlainNode) → x.node ≡ Some n → IsAskStep H A E n.grants m.grants → KeepsAsker key x (record x { node = Some m })
asker-step H A E key x n m up s =
    record {
      last = omega arith;
      back = λ p.
          let same = some-same m p.node p.up in
          let less : m.grants.over < key.1 = subst (λ (z : PlainNode). z.grants.over < key.1) (sym same) p.going_on in
          let more = s.over in
          record { node = n; up = up; inc = sym s.inc ∙ ap (λ (z : PlainNode). z.grants.inc) same ∙ p.inc; going_on = omega (arith, less, more) };
    }

granter-step : (H A E : ℕ → Key → Type 0) (home : Home) (a i : ℕ) (key : Key) (pending : Type 0) (x : Slot) (n m : PlainNode) → x.node ≡ Some n → IsAskStep H A E n.grants m.grants →
    (pending → (q : ℕ) (more : Key) → replica_number home a ≡ Some q → key_le key more ≡ true → E q more → ⊥) → KeepsGranter home a i key pending x (record x { node = Some m })
granter-step H A E home a i key pending x n m up s stays =
    record {
      last = omega arith;
      back = λ y e inc p h.
          let same = some-same m y e in
          let old = h n up (sym s.inc ∙ ap (λ (z : PlainNode). z.grants.inc) same ∙ inc) in
          let now = s.holds old.replica old.more old.promise (stays p old.replica old.more old.number old.most) in
          subst (λ (z : PlainNode). HoldsFor home a key z) same
          (record { replica = old.replica; more = now.0; number = old.number; promise = now.1; most = key-trans key old.more now.0 old.most now.2 });
    }

-- ---- a world after an event

stands-slots : (w next : World) (a b f ra rb i : ℕ) (key : Key) → next.plan ≡ w.plan → KeepsAsker key (slot_of w a) (slot_of next a) →
    KeepsGranter (home_of w.plan (f, rb)) a i key (IsPending (slot_of w a) key) (slot_of w b) (slot_of next b) → Stands w a b f ra rb i key → Stands next a b f ra rb i key
stands-slots w next a b f ra rb i key plan asker granter h =
    let one = asker.last in
    let two = granter.last in
    let came = h.came in
    let last = h.last in
    record {
      role_a = rw plan h.role_a;
      role_b = rw plan h.role_b;
      apart = h.apart;
      came = omega (arith, one, came);
      last = omega (arith, two, last);
      promise = λ m up inc p. let old = asker.back p in
          subst (λ (x : Plan). HoldsFor (home_of x (f, rb)) a key m) (sym plan) (granter.back m up inc old (λ n d e. h.promise n d e old));
    }

stands-quiet : (w next : World) (a b f ra rb i : ℕ) (key : Key) → next.plan ≡ w.plan → next.nodes ≡ w.nodes → Stands w a b f ra rb i key → Stands next a b f ra rb i key
stands-quiet w next a b f ra rb i key plan nodes h =
    let same : (c : ℕ) → slot_of next c ≡ slot_of w c = λ c. rw (plan, nodes) refl in
    stands-slots w next a b f ra rb i key plan (asker-same key (slot_of w a) (slot_of next a) (same a))
    (granter-same (home_of w.plan (f, rb)) a i key (IsPending (slot_of w a) key) (slot_of w b) (slot_of next b) (same b)) h

-- one slot is changed
stands-slot : (w : World) (most x p q a b f ra rb i : ℕ) (key : Key) (g : Slot → Slot) (es : List Envelope) → IsFine w most → role_of w.plan x ≡ IsNode p q →
    (a ≡ x → KeepsAsker key (slot_of w a) (g (slot_of w a))) → (b ≡ x → KeepsGranter (home_of w.plan (f, rb)) a i key (IsPending (slot_of w a) key) (slot_of w b) (g (slot_of w b))) →
    Stands w a b f ra rb i key → Stands (record w { nodes = changed (node_place w.plan x) g w.nodes; envelopes = es }) a b f ra rb i key
stands-slot w most x p q a b f ra rb i key g es fine role asker granter h =
    let next = record w { nodes = changed (node_place w.plan x) g w.nodes; envelopes = es } in
    stands-slots w next a b f ra rb i key refl (elim (same-or a x) [
      | inl same ↦ subst (λ (y : Slot). KeepsAsker key (slot_of w a) y) (sym (at-it a same)) (asker same)
      | inr other ↦ asker-same key (slot_of w a) (slot_of next a) (slot-there w x a p q f ra g role h.role_a other)
    ]) (elim (same-or b x) [
      | inl same ↦ subst (λ (y : Slot). KeepsGranter (home_of w.plan (f, rb)) a i key (IsPending (slot_of w a) key) (slot_of w b) y) (sym (at-it b same)) (granter same)
      | inr other ↦ granter-same (home_of w.plan (f, rb)) a i key (IsPending (slot_of w a) key) (slot_of w b) (slot_of next b) (slot-there w x b p q f rb g role h.role_b other)
    ]) h
  where
    at-it : (c : ℕ) → c ≡ x → slot_of (record w { nodes = changed (node_place w.plan x) g w.nodes; envelopes = es }) c ≡ g (slot_of w c)
    at-it c same = subst (λ (y : ℕ). slot_of (record w { nodes = changed (node_place w.plan x) g w.nodes; envelopes = es }) y ≡ g (slot_of w y)) (sym same) (slot-here w most x p q g fine role)

-- ---- each event

-- a beat of a pending ask's replica does not say that a later ask is over
beat-early : (w : World) (a : ℕ) (key more k : Key) (m : PlainNode) → (slot_of w a).node ≡ Some m → m.grants.inc ≡ (slot_of w a).last_inc → m.grants.inc ≡ key.0 → m.grants.over < key.1 → IsOver (slot_of w a) k →
    key_le key more ≡ true → key_le more k ≡ true → ⊥
beat-early w a key more k m up last inc less told one two =
    let over : k.0 ≡ m.grants.inc → k.1 ≤ m.grants.over = subst (λ (o : Option PlainNode). IfSome o (λ (x : PlainNode). k.0 ≡ x.grants.inc → k.1 ≤ x.grants.over)) up told.over in
    let came = told.came in
    late (key-trans key more k one two) (same-or key.0 k.0) over came
  where
    late : key_le key k ≡ true → (key.0 ≡ k.0) ⊎ (key.0 ≡ k.0 → ⊥) → (k.0 ≡ m.grants.inc → k.1 ≤ m.grants.over) → k.0 ≤ (slot_of w a).last_inc → ⊥
    late h (inl same) over came =
        let low = over (sym same ∙ sym inc) in
        let second : key.1 ≤ k.1 = key-second key k same h in omega (arith, low, less, second)
      where
        key-second : (x y : Key) → x.0 ≡ y.0 → key_le x y ≡ true → x.1 ≤ y.1
        key-second x y e d = grind (arith, common_steps)
    late h (inr other) over came =
        let first : key.0 < k.0 = key-first key k other h in omega (arith, first, came, last, inc)
      where
        key-first : (x y : Key) → (x.0 ≡ y.0 → ⊥) → key_le x y ≡ true → x.0 < y.0
        key-first x y e d =
            (elim (nat_lt x.0 y.0) as (λ b. nat_lt x.0 y.0 ≡ b → (b || (x.0 == y.0 && nat_le x.1 y.1)) ≡ true → x.0 < y.0) [
              | true ↦ λ u v. lt-of x.0 y.0 u
              | false ↦ λ u v. absurd (e (eq-of x.0 y.0 (both (x.0 == y.0) (nat_le x.1 y.1) v).0))
            ]) refl d

stands-cases : (w : World) (most a b f ra rb i : ℕ) (key : Key) → IsFine w most → IsAskingWorld w → Stands w a b f ra rb i key → AreCases w (λ e next. finds_absent b a w e ≡ false → Stands next a b f ra rb i key)
stands-cases w most a b f ra rb i key fine asking h =
    record {
      still = λ e calm. h;
      wires = λ e cuts calm. stands-quiet w (record w { cuts = cuts }) a b f ra rb i key refl refl h;
      emitted = λ x s t role calm. stands-quiet w _ a b f ra rb i key refl refl h;
      released = λ x s t role calm. stands-quiet w _ a b f ra rb i key refl refl h;
      source_took = λ k s e there can role calm. stands-quiet w _ a b f ra rb i key refl refl h;
      source_ticks = λ x s now role calm. stands-quiet w _ a b f ra rb i key refl refl h;
      crashed = λ x p q role calm. stands-slot w most x p q a b f ra rb i key (λ (slot : Slot). record slot { node = None }) w.envelopes fine role (λ same. asker-down key (slot_of w a))
          (λ same. granter-down (home_of w.plan (f, rb)) a i key (IsPending (slot_of w a) key) (slot_of w b)) h;
      restarted = λ x j p q role calm. stands-slot w most x p q a b f ra rb i key (restart_slot (home_of w.plan (p, q)) j) w.envelopes fine role (λ same. asker-restart (home_of w.plan (p, q)) j key (slot_of w a) h.came)
          (λ same. granter-restart (home_of w.plan (f, rb)) (home_of w.plan (p, q)) a i j key (IsPending (slot_of w a) key) (slot_of w b) h.last) h;
      node_took = λ k p q e n there can role up calm.
          let home = home_of w.plan (p, q) in
          let own = own-delivered home e.sender e.packet n in
          stepped e.to p q n (packet_step home e.sender e.packet n) (Hears home e.sender e.packet) (Asks home e.sender e.packet) (Ends home e.sender e.packet) role up own.grants
          (λ same pending r more number most ends.
          let whole : IsNode f rb ≡ IsNode p q = sym h.role_b ∙ ap (λ (x : ℕ). role_of w.plan x) same ∙ role in
          heard k p q e there whole pending r more number most ends);
      node_ticked = λ x now p q n role up clock calm.
          let home = home_of w.plan (p, q) in
          stepped x p q n (tick_step home now n) Never Never (FoundAbsent now n) role up (own-ticked home now n).grants
          (λ same pending r more number most found. silent x now n same up clock calm r number found);
      node_milled = λ x r p q n role up can calm.
          let home = home_of w.plan (p, q) in
          stepped x p q n (mill_step home r n) Never Never Never role up (own-milled home r n).grants (λ same pending z more number most found. found);
      client_took = λ k c e there can role calm. stands-quiet w _ a b f ra rb i key refl refl h;
      client_ticks = λ x c now role calm. stands-quiet w _ a b f ra rb i key refl refl h;
    }
  where
    stepped : (x p q : ℕ) (n : PlainNode) (s : Stepped PlainNode) (H A E : ℕ → Key → Type 0) → role_of w.plan x ≡ IsNode p q → (slot_of w x).node ≡ Some n → IsAskStep H A E n.grants s.after.grants →
        (b ≡ x → IsPending (slot_of w a) key → (r : ℕ) (more : Key) → replica_number (home_of w.plan (f, rb)) a ≡ Some r → key_le key more ≡ true → E r more → ⊥) → Stands (node_stepped x s w) a b f ra rb i key
    stepped x p q n s H A E role up own stays =
        stands-slot w most x p q a b f ra rb i key (λ (slot : Slot). record slot { node = Some s.after }) (w.envelopes ++ map (from x) s.sends) fine role
        (λ same. asker-step H A E key (slot_of w a) n s.after (ap (λ (y : ℕ). (slot_of w y).node) same ∙ up) own)
        (λ same. granter-step H A E (home_of w.plan (f, rb)) a i key (IsPending (slot_of w a) key) (slot_of w b) n s.after (ap (λ (y : ℕ). (slot_of w y).node) same ∙ up) own (stays same)) h

    heard : (k p q : ℕ) (e : Envelope) → slice_get w.envelopes k ≡ Some e → IsNode f rb ≡ IsNode p q → IsPending (slot_of w a) key → (r : ℕ) (more : Key) → replica_number (home_of w.plan (f, rb)) a ≡ Some r → key_le key more ≡ true →
        Ends (home_of w.plan (p, q)) e.sender e.packet r more → ⊥
    heard k p q e there whole pending r more number most ends =
        let one : p ≡ f = cc in
        let hears = ends.1 in
        let sender : e.sender ≡ a = sym (place-nth e.sender (replicas_of w.plan p) r hears.0) ∙ ap (λ (g : ℕ). nth 0 (replicas_of w.plan g) r) one ∙ place-nth a (replicas_of w.plan f) r number in
        let tells = asking.sent k f ra e there (ap (λ (x : ℕ). role_of w.plan x) sender ∙ h.role_a) in
        let told = subst (λ (x : ℕ). IsOver (slot_of w x) ends.0) sender (told-so (slot_of w e.sender) e.packet ends.0 hears.1 tells) in
        beat-early w a key more ends.0 pending.node pending.up (asking.nodes a f ra pending.node h.role_a pending.up).inc pending.inc pending.going_on told most ends.2

    silent : (x now : ℕ) (n : PlainNode) → b ≡ x → (slot_of w x).node ≡ Some n → is_clock n.clock now ≡ true → (x == b && role_finds w b a now (role_of w.plan b)) ≡ false → (r : ℕ) → replica_number (home_of w.plan (f, rb)) a ≡ Some r →
        nth false (map is_absent (after_clock now n).peers) r ≡ true → ⊥
    silent x now n same up clock calm r number found =
        let it : (x == b) ≡ true = eq-test x b (sym same) in
        let here : (slot_of w b).node ≡ Some n = ap (λ (y : ℕ). (slot_of w y).node) same ∙ up in
        let seen : role_finds w b a now (role_of w.plan b) ≡ true = rw (h.role_b, here, clock, number) found in
        let all : (x == b && role_finds w b a now (role_of w.plan b)) ≡ true = rw (it, seen) refl in
        let clash : true ≡ false = sym all ∙ calm in cc

-- ---- a run

stands-run : (w : World) (most : ℕ) (events : List Event) (a b f ra rb i : ℕ) (key : Key) → IsFine w most → IsAskingWorld w → Stands w a b f ra rb i key → NeverFindsAbsent b a w events → Stands (run_from w events) a b f ra rb i key
stands-run w most [] a b f ra rb i key fine asking h calm = h
stands-run w most (e ∷ events) a b f ra rb i key fine asking h calm =
    stands-run (happens w e) (most + 1) events a b f ra rb i key (happens-next w most e fine).fine (event-asking w most e fine asking)
    (by-event w (λ e next. finds_absent b a w e ≡ false → Stands next a b f ra rb i key) (stands-cases w most a b f ra rb i key fine asking h) e calm.0) calm.1

-- where the granter holds its promise, it does not reconcile
stands-serves : (w : World) (a b f ra rb i : ℕ) (key : Key) → IsAskingWorld w → Stands w a b f ra rb i key → HasOpenAsk w a key → (n : PlainNode) → (slot_of w b).node ≡ Some n → n.grants.inc ≡ i → reconciles n ≡ false
stands-serves w a b f ra rb i key asking h open_ask n up inc = by-value (reconciles n) refl
  where
    by-value : (c : Bool) → reconciles n ≡ c → reconciles n ≡ false
    by-value false e = e
    by-value true e =
        let p = both (is_stabilization n.state) (not n.recovering) e in
        let busy = (asking.nodes b f rb n h.role_b up).asking.busy (not-of n.recovering p.1) p.0 in
        let holds = h.promise n up inc (record { node = open_ask.node; up = open_ask.up; inc = open_ask.inc; going_on = open_ask.open_still }) in
        let clash : ◌≡◌ {A = Option (ℕ × Key)} None (Some (holds.replica, holds.more)) = sym busy.promised ∙ holds.promise in cc

-- ---- the event that sends the Grant

record ArePeers (x y : Role) : Type 0 where
  frag : ℕ
  one : ℕ
  other : ℕ
  first : x ≡ IsNode frag one
  second : y ≡ IsNode frag other
  apart : one ≡ other → ⊥

peers-roles : (x y : Role) → are_peers x y ≡ true → ArePeers x y
peers-roles (IsNode f r) (IsNode g q) h =
    let p = both (f == g) (not (r == q)) h in
    let same = eq-of f g p.0 in
    record { frag = f; one = r; other = q; first = refl; second = ap (λ (z : ℕ). IsNode z q) (sym same); apart = λ e. differ (eq-test r q e) p.1 }
  where
    differ : (r == q) ≡ true → not (r == q) ≡ true → ⊥
    differ e d = let no : not true ≡ true = rw e at d in cc
peers-roles (IsNode f r) (IsSource s) h = cc
peers-roles (IsNode f r) (IsClient c) h = cc
peers-roles (IsNode f r) Nobody h = cc
peers-roles (IsSource s) y h = cc
peers-roles (IsClient c) y h = cc
peers-roles Nobody y h = cc

-- the node that sent it holds its promise
grant-cases : (w : World) (most k a b f rb : ℕ) (key : Key) → IsFine w most → length w.envelopes ≤ k → role_of w.plan b ≡ IsNode f rb →
    AreCases w (λ e next. slice_get next.envelopes k ≡ Some (record { sender = b; to = a; packet = Plain (message.Grant key.0 key.1) }) → (n : PlainNode) → (slot_of next b).node ≡ Some n → HoldsFor (home_of w.plan (f, rb)) a key n)
grant-cases w most k a b f rb key fine new role_b =
    record {
      still = λ e there n up. absurd (none there);
      wires = λ e cuts there n up. absurd (none there);
      emitted = λ x s t role there n up. absurd (other x _ there (λ p q d. let clash : IsSource s ≡ IsNode p q = sym role ∙ d in cc));
      released = λ x s t role there n up. absurd (other x _ there (λ p q d. let clash : IsSource s ≡ IsNode p q = sym role ∙ d in cc));
      source_took = λ j s e here can role there n up. absurd (other e.to _ there (λ p q d. let clash : IsSource s ≡ IsNode p q = sym role ∙ d in cc));
      source_ticks = λ x s now role there n up. absurd (other x _ there (λ p q d. let clash : IsSource s ≡ IsNode p q = sym role ∙ d in cc));
      crashed = λ x p q role there n up. absurd (none there);
      restarted = λ x i p q role there n up. absurd (none there);
      node_took = λ j p q e m here can role was there n up. stepped e.to p q m (packet_step (home_of w.plan (p, q)) e.sender e.packet m) role (own-delivered (home_of w.plan (p, q)) e.sender e.packet m).mails there n up;
      node_ticked = λ x now p q m role was clock there n up. stepped x p q m (tick_step (home_of w.plan (p, q)) now m) role (own-ticked (home_of w.plan (p, q)) now m).mails there n up;
      node_milled = λ x r p q m role was can there n up. stepped x p q m (mill_step (home_of w.plan (p, q)) r m) role (own-milled (home_of w.plan (p, q)) r m).mails there n up;
      client_took = λ j c e here can role there n up. absurd (none there);
      client_ticks = λ x c now role there n up. absurd (other x _ there (λ p q d. let clash : IsClient c ≡ IsNode p q = sym role ∙ d in cc));
    }
  where
    none : slice_get w.envelopes k ≡ Some (record { sender = b; to = a; packet = Plain (message.Grant key.0 key.1) }) → ⊥
    none there = let less = slice_get_within w.envelopes k _ there in omega (arith, less, new)

    other : (x : ℕ) (ms : List Mail) → slice_get (w.envelopes ++ map (from x) ms) k ≡ Some (record { sender = b; to = a; packet = Plain (message.Grant key.0 key.1) }) → ((p q : ℕ) → role_of w.plan x ≡ IsNode p q → ⊥) → ⊥
    other x ms there unlike =
        elim (got-sent (λ m. Unit {0}) x w.envelopes ms k (record { sender = b; to = a; packet = Plain (message.Grant key.0 key.1) }) (each-unit ms) there) [
          | inl old ↦ none old
          | inr found ↦
              let same : b ≡ x = ap (λ (z : Envelope). z.sender) found.1 in unlike f rb (ap (λ (z : ℕ). role_of w.plan z) (sym same) ∙ role_b)
        ]

    stepped : (x p q : ℕ) (m : PlainNode) (s : Stepped PlainNode) → role_of w.plan x ≡ IsNode p q → Each (Says (home_of w.plan (p, q)) s.after.grants) s.sends →
        slice_get (w.envelopes ++ map (from x) s.sends) k ≡ Some (record { sender = b; to = a; packet = Plain (message.Grant key.0 key.1) }) → (n : PlainNode) → (slot_of (node_stepped x s w) b).node ≡ Some n → HoldsFor (home_of w.plan (f, rb)) a key n
    stepped x p q m s role says there n up =
        elim (got-sent (Says (home_of w.plan (p, q)) s.after.grants) x w.envelopes s.sends k (record { sender = b; to = a; packet = Plain (message.Grant key.0 key.1) }) says there) [
          | inl old ↦ absurd (none old)
          | inr found ↦ holds found.0 found.1 found.2
        ]
      where
        holds : (mail : Mail) → ◌≡◌ {A = Envelope} (record { sender = b; to = a; packet = Plain (message.Grant key.0 key.1) }) (from x mail) → Says (home_of w.plan (p, q)) s.after.grants mail → HoldsFor (home_of w.plan (f, rb)) a key n
        holds mail e h =
            let same : b ≡ x = ap (λ (z : Envelope). z.sender) e in
            let to : a ≡ mail.to = ap (λ (z : Envelope). z.to) e in
            let packet : Plain (message.Grant key.0 key.1) ≡ mail.packet = ap (λ (z : Envelope). z.packet) e in
            let whole : IsNode p q ≡ IsNode f rb = sym role ∙ ap (λ (z : ℕ). role_of w.plan z) (sym same) ∙ role_b in
            let one : p ≡ f = cc in
            let two : q ≡ rb = cc in
            let grant : PacketSays (home_of w.plan (p, q)) s.after.grants a (Plain (message.Grant key.0 key.1)) =
            subst (λ (z : ℕ). PacketSays (home_of w.plan (p, q)) s.after.grants z (Plain (message.Grant key.0 key.1))) (sym to)
            (subst (λ (z : Packet). PacketSays (home_of w.plan (p, q)) s.after.grants mail.to z) (sym packet) h) in
            let here = slot-here w most x p q (λ (slot : Slot). record slot { node = Some s.after }) fine role in
            let there_b : slot_of (node_stepped x s w) b ≡ record (slot_of w x) { node = Some s.after } = ap (λ (z : ℕ). slot_of (node_stepped x s w) z) same ∙ here in
            let node = some-same s.after n (sym (ap (λ (z : Slot). z.node) there_b) ∙ up) in
            subst (λ (z : ℕ). HoldsFor (home_of w.plan (z, rb)) a key n) one (subst (λ (z : ℕ). HoldsFor (home_of w.plan (p, z)) a key n) two
            (subst (λ (z : PlainNode). HoldsFor (home_of w.plan (p, q)) a key z) node (record { replica = grant.replica; more = grant.more; number = grant.number; promise = grant.promise; most = grant.most })))

record IsStanding (w : World) (a b i : ℕ) (key : Key) : Type 0 where
  frag : ℕ
  one : ℕ
  other : ℕ
  stands : Stands w a b frag one other i key

key-came : (x y : Key) → key_le x y ≡ true → x.0 ≤ y.0
key-came x y e =
    (elim (nat_lt x.0 y.0) as (λ b. nat_lt x.0 y.0 ≡ b → (b || (x.0 == y.0 && nat_le x.1 y.1)) ≡ true → x.0 ≤ y.0) [
      | true ↦ λ u v. let less = lt-of x.0 y.0 u in omega (arith, less)
      | false ↦ λ u v. let same = eq-of x.0 y.0 (both (x.0 == y.0) (nat_le x.1 y.1) v).0 in omega (arith, same)
    ]) refl e

grant-stands : (w : World) (most : ℕ) (e : Event) (k a b i : ℕ) (key : Key) → IsFine w most → IsAskingWorld w → SendsGrant w e k a b key → IsUpIn (happens w e) b i → IsStanding (happens w e) a b i key
grant-stands w most e k a b i key fine asking sends up =
    let next = happens w e in
    let after = happens-next w most e fine in
    let order = event-asking w most e fine asking in
    let fits = all-at (is_fitting next.plan) next.envelopes k (record { sender = b; to = a; packet = Plain (message.Grant key.0 key.1) }) after.fine.fits sends.grant in
    let way = (both (are_peers (role_of next.plan b) (role_of next.plan a)) (carries_fitting next.plan (role_of next.plan b) (Plain (message.Grant key.0 key.1))) fits).0 in
    let peers = peers-roles (role_of next.plan b) (role_of next.plan a) way in
    let role_b : role_of w.plan b ≡ IsNode peers.frag peers.one = subst (λ (p : Plan). role_of p b ≡ IsNode peers.frag peers.one) after.plan peers.first in
    let holds = by-event w (λ e next. slice_get next.envelopes k ≡ Some (record { sender = b; to = a; packet = Plain (message.Grant key.0 key.1) }) → (n : PlainNode) → (slot_of next b).node ≡ Some n → HoldsFor (home_of w.plan (peers.frag, peers.one)) a key n)
    (grant-cases w most k a b peers.frag peers.one key fine sends.new role_b) e sends.grant in
    let mine = order.nodes b peers.frag peers.one up.node peers.first up.up in
    let held = holds up.node up.up in
    let number : held.replica ≡ peers.other = replica-number next.plan a peers.frag peers.other held.replica peers.second (subst (λ (p : Plan). replica_number (home_of p (peers.frag, peers.one)) a ≡ Some held.replica) (sym after.plan) held.number) in
    let asked = mine.promises a peers.other held.more peers.second (subst (λ (r : ℕ). up.node.grants.promise ≡ Some (r, held.more)) number held.promise) in
    let first = key-came key held.more held.most in
    let came = asked.came in
    let inc = mine.inc in
    let last = up.inc in
    record {
      frag = peers.frag;
      one = peers.other;
      other = peers.one;
      stands = record {
        role_a = peers.second;
        role_b = peers.first;
        apart = λ same. apart-roles same peers;
        came = omega (arith, first, came);
        last = omega (arith, inc, last);
        promise = λ n here _ _. subst (λ (p : Plan). HoldsFor (home_of p (peers.frag, peers.one)) a key n) (sym after.plan) (holds n here);
      };
    }
  where
    apart-roles : a ≡ b → ArePeers (role_of (happens w e).plan b) (role_of (happens w e).plan a) → ⊥
    apart-roles same p =
        let whole : IsNode p.frag p.other ≡ IsNode p.frag p.one = sym p.second ∙ ap (λ (z : ℕ). role_of (happens w e).plan z) same ∙ p.first in
        let one : p.other ≡ p.one = cc in p.apart (sym one)

-- ---- the law

pub serves-meanwhile : (plan : Plan) → IsCheckedPlan plan → ServesMeanwhile plan
unfolding run
serves-meanwhile plan checked before later e k a b i key sends up calm open_ask n here inc =
    let new = new_world-fine plan checked in
    let fine = (run-fine (new_world plan) 1 before new).fine in
    let asking = run-asking (new_world plan) 1 before new (new_world-asking plan) in
    let old = run_from (new_world plan) before in
    let granted = happens old e in
    let many = 1 + length before in
    let start = grant-stands old many e k a b i key fine asking sends up in
    let after = (happens-next old many e fine).fine in
    let order = event-asking old many e fine asking in
    let stands = stands-run granted (many + 1) later a b start.frag start.one start.other i key after order start.stands calm in
    let whole = run_from-append (new_world plan) before (e ∷ later) in
    stands-serves (run_from granted later) a b start.frag start.one start.other i key (run-asking granted (many + 1) later after order) stands
    (subst (λ (w : World). HasOpenAsk w a key) whole open_ask) n (subst (λ (w : World). (slot_of w b).node ≡ Some n) whole here) inc
