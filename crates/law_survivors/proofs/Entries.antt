-- Past the fourth quiet phase what a replica knows of a reader's acknowledgements is of the reader's present incarnation, or nothing.
use Rattle.std.proofs.Common.{◌≡◌, ℕ, zero, suc, ◌+◌, ◌<◌, ◌≤◌, max, Bool, true, false, cond, not, ◌==◌, nat_lt, List, [], ◌∷◌, ◌++◌, map, length, refl, sym, ap, subst, ◌∙◌, arith, Option, Some, None, slice_get, unwrap_or, ◌⊎◌, inl, inr}
use Rattle.std.specs.Prelude.{is_some}
use Rattle.std.proofs.lemmas.Option.{slice_get_within}
use Rattle.dpc_lists.specs.Lists.{nth, changed, list_all, place_of}
use Rattle.dpc_model.specs.Actors.{role_of, roles_of, inputs_of, sends_stream, senders_of}
use Rattle.dpc_model.specs.Ports.{Port}
use Rattle.dpc_model.specs.Sessions.{Acked, after_ack}
use Rattle.dpc_model.specs.declared.sessions.Sub.{Sub}
use Rattle.dpc_model.specs.declared.actors.Role.{Role}
use Rattle.dpc_model.specs.declared.actors.Role.TheVariants.{Node as IsNode, Nobody}
use Rattle.dpc_model.specs.declared.messages.Event.{Event}
use Rattle.dpc_model.specs.declared.messages.Event.TheVariants.{Deliver, Tick}
use Rattle.dpc_model.specs.declared.messages.Message.{Message}
use Rattle.dpc_model.specs.declared.messages.Message.TheVariants as message
use Rattle.dpc_model.specs.declared.plans.Plan.{Plan}
use Rattle.dpc_model.specs.declared.plans.StreamRef.{StreamRef}
use Rattle.dpc_model.specs.declared.plans.StreamRef.TheVariants.{Frag}
use Rattle.dpc_model.specs.declared.scripts.Script.{Script}
use Rattle.dpc_model.proofs.Roles.{numbers_where, numbers_if}
use Rattle.dpc_lists.proofs.Truths.{both, eq-of, eq-test, not-lt}
use Rattle.dpc_lists.proofs.Somes.{some-same}
use Rattle.dpc_lists.proofs.Places.{place-nth, place-within}
use Rattle.dpc_lists.proofs.Elements.{nth-here}
use Rattle.dpc_lists.proofs.Each.{Each}
use Rattle.node_model.specs.Mails.{Packet, Plain, Mail, mail, mails, in_actor_order, Stepped}
use Rattle.node_model.specs.Nodes.{Home, PlainNode, streams_of, own_readers}
use Rattle.node_model.specs.NodeSteps.{then_do, reader_place, on_ack, done_at, with_marks_ended, packet_step, mill_step, after_clock, may_start_afresh, choice_step, ask_step, processing_step, acks_from, beats, announcing_step, serving_step, snapshot_ask_step, with_fresh_start, tick_step}
use Rattle.world_model.specs.Worlds.{World, Envelope, Slot, home_of, slot_of, from, node_stepped, can_come, is_up, role_up, happens}
use Rattle.world_model.specs.Schedules.{Undelivered, Progress, next_progress, progress, progress_from, may_come, is_live_so_far}
use Rattle.world_model.specs.Events.{is_delivery}
use Rattle.world_model.specs.Steady.{OpensWell}
use Rattle.law_safety.proofs.Histories.{AreDistinct}
use Rattle.law_safety.proofs.Distinct.{readers-distinct}
use Rattle.law_safety.proofs.Emptied.{no_ack, shape-of, emptied-of}
use Rattle.law_safety.proofs.Happening.{node-here}
use Rattle.law_safety.proofs.Numbering.{home-inputs}
use Rattle.law_safety.proofs.Pointwise.{port-at}
use Rattle.law_safety.proofs.Promises.{slot-here}
use Rattle.law_safety.proofs.Growing.{run-plan}
use Rattle.law_granting.proofs.Asked.{each-unit}
use Rattle.law_granting.proofs.Keys.{nth-changed}
use Rattle.law_granting.proofs.Prefix.{IsReader}
use Rattle.law_readers.specs.Newest.{IsPortOf}
use Rattle.law_readers.specs.Settling.{CanSettle}
use Rattle.law_readers.proofs.Passing.{Obliges, Takes, packet-passed, mill-passed, tick-passed}
use Rattle.law_readers.proofs.Counting.{none-acked}
use Rattle.law_schedules.proofs.Journals.{progress-run}
use Rattle.law_settling.specs.Phased.{opened}
use Rattle.law_settling.proofs.Along.{running-along}
use Rattle.law_settling.proofs.Exact.{IsIn, in-left, in-right, in-sorted}
use Rattle.law_settling.proofs.Fresh.{new-waits, still-sent}
use Rattle.law_settling.proofs.Journeys.{IsStep, IsJourney}
use Rattle.law_settling.proofs.Nodes.{node-took-now, node-ticked-now}
use Rattle.law_settling.proofs.Opening.{all-come}
use Rattle.law_settling.proofs.PortSteps.{sent-place}
use Rattle.law_settling.proofs.Ports.{node-there}
use Rattle.law_settling.proofs.Promises.{IsOpenAt, open-of}
use Rattle.law_settling.proofs.Rules.{MayGo, Keeps, due-taken, opened-due, same-delivery, tick-due, kept-full, first-good}
use Rattle.law_settling.proofs.Stages.{due-waits, role-within}
use Rattle.law_settling.proofs.Travels.{arrives}
use Rattle.law_settling.proofs.Waitings.{waits, is_due, waits-on, comes}
use Rattle.law_settling_readers.proofs.Comings.{inc-stays}
use Rattle.law_survivors.proofs.Doing.{ReplicaDoes, replica-does}
use Rattle.law_survivors.proofs.Olden.{reached-run}
use Rattle.law_survivors.proofs.Presently.{waited, IsPresentAt, waits-present}
use Rattle.law_survivors.proofs.Refused.{asking-run}

-- ---- what one replica knows

abbrev entry_at : ℕ → List Acked → Acked
entry_at k acks = nth {X = Acked} (0, 0) acks k

-- of this incarnation, or nothing; and of none that is later
abbrev pub IsOfInc : ℕ → ℕ → List Acked → Type 0
IsOfInc k inc acks = ((entry_at k acks).0 ≤ inc) × (((entry_at k acks).0 ≡ inc) ⊎ ((entry_at k acks).1 ≡ 0))

zero-entry : {X : Type 0} (xs : List X) (k : ℕ) → (entry_at k (map (λ (_ : X). (0, 0)) xs)).0 ≡ 0
zero-entry [] k = refl
zero-entry (x ∷ xs) zero = refl
zero-entry (x ∷ xs) (suc k) = zero-entry xs k

-- an acknowledgement of the incarnation itself
after-inc : (inc count : ℕ) (e : Acked) → e.0 ≤ inc → (after_ack inc count e).0 ≡ inc
after-inc inc count e low =
    (elim (nat_lt e.0 inc) as (λ c. nat_lt e.0 inc ≡ c → (cond {A = Acked} c (inc, count) (cond (e.0 == inc) (inc, max e.1 count) e)).0 ≡ inc) [
      | true ↦ λ less. refl
      | false ↦ λ more. (elim (e.0 == inc) as (λ c. (e.0 == inc) ≡ c → (cond {A = Acked} c (inc, max e.1 count) e).0 ≡ inc) [
        | true ↦ λ same. refl
        | false ↦ λ other. absurd (apart e.0 inc low more other)
      ]) refl
    ]) refl
  where
    apart : (i j : ℕ) → i ≤ j → nat_lt i j ≡ false → (i == j) ≡ false → ⊥
    apart i j low more other = let high = not-lt i j more in let same : i ≡ j = omega (arith, low, high) in let clash : false ≡ true = sym other ∙ eq-test i j same in cc

module _ (home : Home) (x k inc : ℕ) (it : nth 0 (own_readers home) k ≡ x) where
  abbrev pub OfInc : List Port → List Sub → List Acked → ℕ → Type 0
  OfInc ports subs acks base = IsOfInc k inc acks

  abbrev Any : Mail → Type 0
  Any m = Unit {0}

  inc-obliges : Obliges home OfInc Any
  inc-obliges =
      record {
        told = λ to m e. tt;
        snapped = λ n to i try h. tt;
        batched = λ n j sub l items h there tally. tt;
        counted = λ n h. h;
        shut = λ n h. h;
        emptied = λ n h. (let none = zero-entry n.acks k in omega (arith, none), inr (none-acked n.acks k));
        based = λ n count h. h;
        moved = λ n rs keeps h. h;
      }

  -- what x acknowledges is of this incarnation
  abbrev pub TellsInc : ℕ → Packet → Type 0
  TellsInc a packet = (i count : ℕ) → packet ≡ Plain (message.Ack i count) → a ≡ x → i ≡ inc

  told-inc : (i count : ℕ) (e : Acked) → i ≡ inc → e.0 ≤ inc → ((after_ack i count e).0 ≤ inc) × (((after_ack i count e).0 ≡ inc) ⊎ ((after_ack i count e).1 ≡ 0))
  told-inc i count e same low =
      let is : (after_ack i count e).0 ≡ inc = ap (λ (j : ℕ). (after_ack j count e).0) same ∙ after-inc inc count e low in
      (le-equal (after_ack i count e).0 inc is, inl is)
    where
      le-equal : (i j : ℕ) → i ≡ j → i ≤ j
      le-equal i j e = omega (arith, e)

  inc-takes : (a : ℕ) (packet : Packet) → TellsInc a packet → Takes home OfInc Any a packet
  inc-takes a packet tells =
      record {
        subscribed = λ asked j n same reader h. record { after = h; sends = each-unit _ };
        acked = λ i count j n same reader h. by-place i count n same h j reader (nth-changed (0, 0) j (after_ack i count) n.acks k);
        took = λ u index p r items n same place chosen h. h;
        adopted = λ i try s n same h. h;
      }
    where
      by-place : (i count : ℕ) (n : PlainNode) → packet ≡ Plain (message.Ack i count) → IsOfInc k inc n.acks → (j : ℕ) → nth 0 (own_readers home) j ≡ a →
          (entry_at k (changed j (after_ack i count) n.acks) ≡ entry_at k n.acks) ⊎ ((k ≡ j) × (entry_at k (changed j (after_ack i count) n.acks) ≡ after_ack i count (entry_at k n.acks))) → IsOfInc k inc (changed j (after_ack i count) n.acks)
      by-place i count n same h j reader (inl still) = subst (λ (z : Acked). (z.0 ≤ inc) × ((z.0 ≡ inc) ⊎ (z.1 ≡ 0))) (sym still) h
      by-place i count n same h j reader (inr (here, now)) =
          subst (λ (z : Acked). (z.0 ≤ inc) × ((z.0 ≡ inc) ⊎ (z.1 ≡ 0))) (sym now) (told-inc i count (entry_at k n.acks) (tells i count same (sym reader ∙ ap (λ (z : ℕ). nth 0 (own_readers home) z) (sym here) ∙ it)) h.0)

  pub packet-inc : (a : ℕ) (packet : Packet) (n : PlainNode) → TellsInc a packet → IsOfInc k inc n.acks → IsOfInc k inc (packet_step home a packet n).after.acks
  packet-inc a packet n tells h = (packet-passed home OfInc Any inc-obliges a packet (inc-takes a packet tells) n h).after

  pub milled-inc : (r : ℕ) (n : PlainNode) → IsOfInc k inc n.acks → IsOfInc k inc (mill_step home r n).after.acks
  milled-inc r n h = (mill-passed home OfInc Any inc-obliges r n h).after

  pub ticked-inc : (now : ℕ) (n : PlainNode) → IsOfInc k inc n.acks → IsOfInc k inc (tick_step home now n).after.acks
  ticked-inc now n h = (tick-passed home OfInc Any inc-obliges now n (λ m j. j) (λ m j. each-unit _) h).after

  -- ---- an acknowledgement comes

  no-ack-at : (acks : List Acked) (j : ℕ) → list_all no_ack acks ≡ true → (entry_at j acks).1 ≡ 0
  no-ack-at [] j h = refl
  no-ack-at (a ∷ acks) zero h = let p = both (no_ack a) (list_all no_ack acks) h in eq-of a.1 0 (both (a.0 == 0) (a.1 == 0) p.0).1
  no-ack-at (a ∷ acks) (suc j) h = no-ack-at acks j (both (no_ack a) (list_all no_ack acks) h).1

  acked-acks : (i count j : ℕ) (n : PlainNode) → reader_place home x ≡ Some j → n.recovering ≡ false → (packet_step home x (Plain (message.Ack i count)) n).after.acks ≡ changed j (after_ack i count) n.acks
  unfolding packet_step
  acked-acks i count j n place whole =
      let m = with_marks_ended n in
      ap (λ (c : Bool). (cond {A = PlainNode} c m (on_ack home i count (reader_place home x) m)).acks) whole ∙ ap (λ (o : Option ℕ). (on_ack home i count o m).acks) place

  recovering-acks : (i count : ℕ) (n : PlainNode) → n.recovering ≡ true → (packet_step home x (Plain (message.Ack i count)) n).after.acks ≡ n.acks
  unfolding packet_step
  recovering-acks i count n recovers = let m = with_marks_ended n in ap (λ (c : Bool). (cond {A = PlainNode} c m (on_ack home i count (reader_place home x) m)).acks) recovers

  found : (xs : List ℕ) (i : ℕ) → i < length xs → nth 0 xs i ≡ x → (j : ℕ) × (place_of (λ b. x == b) xs ≡ Some j)
  found [] i low e = absurd (omega (arith, low))
  found (y ∷ xs) zero low e = let same = eq-test x y (sym e) in (0, ap (λ (b : Bool). cond {A = Option ℕ} b (Some 0) (elim (place_of (λ b. x == b) xs) as (λ _. Option ℕ) [ None ↦ None | Some i ↦ Some (suc i) ])) same)
  found (y ∷ xs) (suc i) low e =
      let rest = found xs i (omega (arith, low)) e in
      elim (x == y) as (λ b. (j : ℕ) × (cond {A = Option ℕ} b (Some 0) (elim (place_of (λ b. x == b) xs) as (λ _. Option ℕ) [ None ↦ None | Some i ↦ Some (suc i) ]) ≡ Some j)) [
        | true ↦ (0, refl)
        | false ↦ (suc rest.0, ap (λ (o : Option ℕ). elim o as (λ _. Option ℕ) [ None ↦ None | Some i ↦ Some (suc i) ]) rest.1)
      ]

  pub come-inc : (distinct : AreDistinct (own_readers home)) (low : k < length (own_readers home)) (i count : ℕ) (n : PlainNode) → i ≡ inc → length n.acks ≡ length (own_readers home) → (n.recovering ≡ true → list_all no_ack n.acks ≡ true) → (entry_at k n.acks).0 ≤ inc →
      IsOfInc k inc (packet_step home x (Plain (message.Ack i count)) n).after.acks
  come-inc distinct low i count n same many empty few = by-value n.recovering refl
    where
      by-value : (c : Bool) → n.recovering ≡ c → IsOfInc k inc (packet_step home x (Plain (message.Ack i count)) n).after.acks
      by-value true recovers = subst (λ (es : List Acked). IsOfInc k inc es) (sym (recovering-acks i count n recovers)) (few, inr (no-ack-at n.acks k (empty recovers)))
      by-value false whole =
          let p = found (own_readers home) k low it in
          let one : p.0 ≡ k = distinct p.0 k (place-within (λ b. x == b) (own_readers home) p.0 p.1) low (place-nth x (own_readers home) p.0 p.1 ∙ sym it) in
          let acks = acked-acks i count p.0 n p.1 whole ∙ ap (λ (j : ℕ). changed j (after_ack i count) n.acks) one in
          let here : entry_at k (changed k (after_ack i count) n.acks) ≡ after_ack i count (entry_at k n.acks) = nth-here (0, 0) k (after_ack i count) n.acks (omega (arith, many, low)) in
          subst (λ (es : List Acked). IsOfInc k inc es) (sym acks) (subst (λ (z : Acked). (z.0 ≤ inc) × ((z.0 ≡ inc) ⊎ (z.1 ≡ 0))) (sym here) (told-inc i count (entry_at k n.acks) same few))

-- ---- a tick acknowledges to each sender

in-mails : (m : Message) (t : ℕ) (ids : List ℕ) → IsIn t ids → IsIn (mail t m) (mails (map (λ (a : ℕ). record { to = a; message = m }) ids))
in-mails m t [] h = absurd h
in-mails m t (a ∷ ids) (inl e) = inl (ap (λ (z : ℕ). mail z m) e)
in-mails m t (a ∷ ids) (inr h) = inr (in-mails m t ids h)

module _ (home : Home) (t p : ℕ) (s : StreamRef) (reads : slice_get (streams_of home) p ≡ Some s) (among : IsIn t (senders_of home.plan s)) where
  -- an acknowledgement of this node goes to t
  abbrev pub Acknowledges : PlainNode → List Mail → Type 0
  Acknowledges z ms = (count : ℕ) × IsIn (mail t (message.Ack z.grants.inc count)) ms

  acked-in : (z : PlainNode) (i : ℕ) (q : Port) (ports : List Port) (ss : List StreamRef) → slice_get ports i ≡ Some q → slice_get ss i ≡ Some s → Acknowledges z (acks_from home z ports ss)
  acked-in z i q [] ss there at = cc
  acked-in z i q (y ∷ ports) [] there at = cc
  acked-in z zero q (y ∷ ports) (v ∷ ss) there at =
      let same : v ≡ s = some-same v s at in
      let m = message.Ack z.grants.inc (done_at home z y) in
      (done_at home z y, in-left (mail t m) (mails (map (λ (a : ℕ). record { to = a; message = m }) (senders_of home.plan v))) (acks_from home z ports ss) (in-mails m t (senders_of home.plan v) (subst (λ (u : StreamRef). IsIn t (senders_of home.plan u)) (sym same) among)))
  acked-in z (suc i) q (y ∷ ports) (v ∷ ss) there at =
      let rest = acked-in z i q ports ss there at in
      (rest.0, in-right (mail t (message.Ack z.grants.inc rest.0)) (mails (map (λ (a : ℕ). record { to = a; message = message.Ack z.grants.inc (done_at home z y) }) (senders_of home.plan v))) (acks_from home z ports ss) rest.1)

  announced-in : (z : PlainNode) (q : Port) → slice_get z.ports p ≡ Some q → Acknowledges z (announcing_step home z).sends
  announced-in z q there =
      let k = acked-in z p q z.ports (streams_of home) there reads in
      (k.0, in-left _ (in_actor_order (acks_from home z z.ports (streams_of home))) (in_actor_order (beats home z)) (in-sorted _ (acks_from home z z.ports (streams_of home)) k.1))

  served-in : (m : PlainNode) (q : Port) → slice_get (serving_step home m).after.ports p ≡ Some q → Acknowledges (serving_step home m).after (serving_step home m).sends
  served-in m q there =
      let a = choice_step home m in
      let b = ask_step home a.after in
      let c = processing_step home b.after in
      let k = announced-in c.after q there in (k.0, in-right _ (a.sends ++ b.sends ++ c.sends) (announcing_step home c.after).sends k.1)

  pub ticked-in : (now : ℕ) (n : PlainNode) (q : Port) → slice_get (tick_step home now n).after.ports p ≡ Some q → Acknowledges (tick_step home now n).after (tick_step home now n).sends
  unfolding tick_step
  ticked-in now n q there =
      let m = after_clock now (with_marks_ended n) in
      (elim n.recovering as (λ b. let y = cond {A = Stepped PlainNode} (not b) (serving_step home m) (cond (may_start_afresh home m) (serving_step home (with_fresh_start m)) (then_do (snapshot_ask_step home m) (announcing_step home))) in slice_get y.after.ports p ≡ Some q → Acknowledges y.after y.sends) [
        | false ↦ λ e. served-in m q e
        | true ↦ elim (may_start_afresh home m) as (λ b. let y = cond {A = Stepped PlainNode} b (serving_step home (with_fresh_start m)) (then_do (snapshot_ask_step home m) (announcing_step home)) in slice_get y.after.ports p ≡ Some q → Acknowledges y.after y.sends) [
          | true ↦ λ e. served-in (with_fresh_start m) q e
          | false ↦ λ e. let k = announced-in m q e in (k.0, in-right _ (snapshot_ask_step home m).sends (announcing_step home m).sends k.1)
        ]
      ]) there

-- ---- who sends a fragment's stream

passes-in : (test : Role → Bool) (k i a : ℕ) (role : Role) (roles : List Role) → slice_get roles i ≡ Some role → test role ≡ true → a ≡ k + i → IsIn a (numbers_where test k roles)
passes-in test k i a role [] there pass at = cc
passes-in test k zero a role (r ∷ roles) there pass at =
    let same : r ≡ role = some-same r role there in
    let test_r : test r ≡ true = ap test same ∙ pass in
    let here : k ≡ a = omega (arith, at) in
    subst (λ (b : Bool). IsIn a (numbers_if test k r roles b)) (sym test_r) (inl here)
passes-in test k (suc i) a role (r ∷ roles) there pass at =
    let rest = passes-in test (k + 1) i a role roles there pass (omega (arith, at)) in
    elim (test r) as (λ b. IsIn a (numbers_if test k r roles b)) [ true ↦ inr rest | false ↦ rest ]

sender-in : (plan : Plan) (t f c : ℕ) → role_of plan t ≡ IsNode f c → IsIn t (senders_of plan (Frag f))
sender-in plan t f c role = by-place (slice_get (roles_of plan) t) refl
  where
    by-place : (o : Option Role) → slice_get (roles_of plan) t ≡ o → IsIn t (senders_of plan (Frag f))
    by-place None e = let clash : Nobody ≡ IsNode f c = sym (ap (λ (o : Option Role). unwrap_or o Nobody) e) ∙ role in cc
    by-place (Some r) e =
        let same : r ≡ IsNode f c = sym (ap (λ (o : Option Role). unwrap_or o Nobody) e) ∙ role in
        passes-in (sends_stream (Frag f)) 0 t t r (roles_of plan) e (ap (sends_stream (Frag f)) same ∙ eq-test f f refl) (omega arith)

-- ---- along quiet phases

module _ (script : Script) (a g r t f c p : ℕ) (role_a : role_of script.plan a ≡ IsNode g r) (role_t : role_of script.plan t ≡ IsNode f c) (port : IsPortOf script.plan a p (Frag f)) (reader : IsReader script.plan (Frag f) a) where
  -- what is seen past the first quiet phase
  pub record IsSeen (z : Progress) : Type 0 where
    pub here : IsOpenAt script z
    pub present : Each (λ (y : Undelivered). IsPresentAt a z.world y.number) z.waiting
    pub reached : (v m : PlainNode) → (slot_of z.world t).node ≡ Some v → (slot_of z.world a).node ≡ Some m → (entry_at reader.place v.acks).0 ≤ m.grants.inc

  -- t knows of the present incarnation alone, or of nothing
  pub record IsKnown (z : Progress) : Type 0 where
    pub known : (v m : PlainNode) → (slot_of z.world t).node ≡ Some v → (slot_of z.world a).node ≡ Some m → IsOfInc reader.place m.grants.inc v.acks

  -- an acknowledgement of it waits
  pub record IsAcking (n : ℕ) (z : Progress) : Type 0 where
    pub inc : ℕ
    pub count : ℕ
    pub sent : slice_get z.world.envelopes n ≡ Some (from a (mail t (message.Ack inc count)))
    pub waits : waits n z.waiting ≡ true
    pub is : (m : PlainNode) → (slot_of z.world a).node ≡ Some m → inc ≡ m.grants.inc

  abbrev pub Stage : ℕ → Progress → Type 0
  Stage zero z = IsKnown z
  Stage (suc zero) z = ((n : ℕ) × IsAcking n z) ⊎ IsKnown z
  Stage (suc (suc n)) z = Unit {0}

  here-a : (z : Progress) → IsOpenAt script z → role_of z.world.plan a ≡ IsNode g r
  here-a z here = ap (λ (pl : Plan). role_of pl a) here.of_plan ∙ role_a

  here-t : (z : Progress) → IsOpenAt script z → role_of z.world.plan t ≡ IsNode f c
  here-t z here = ap (λ (pl : Plan). role_of pl t) here.of_plan ∙ role_t

  placed : (z : Progress) → IsOpenAt script z → nth 0 (own_readers (home_of z.world.plan (f, c))) reader.place ≡ a
  placed z here = ap (λ (pl : Plan). nth 0 (own_readers (home_of pl (f, c))) reader.place) here.of_plan ∙ reader.it

  low-at : (z : Progress) → IsOpenAt script z → reader.place < length (own_readers (home_of z.world.plan (f, c)))
  low-at z here = let low = reader.low in let many = ap (λ (pl : Plan). length (own_readers (home_of pl (f, c)))) here.of_plan in omega (arith, low, many)

  -- the incarnation of a stays
  same-inc : (z : Progress) (e : Event) → MayGo script IsSeen z e → (n m : PlainNode) → (slot_of z.world a).node ≡ Some n → (slot_of (happens z.world e) a).node ≡ Some m → m.grants.inc ≡ n.grants.inc
  same-inc z e may n m up now =
      let h = may.here.here in
      let k = inc-stays z.world h.most a g r h.fine (here-a z h) e may.quiet n up in ap (λ (y : PlainNode). y.grants.inc) (some-same m k.0 (sym now ∙ k.1)) ∙ k.2

  -- ---- it stays known

  known-kept : Keeps script IsSeen IsKnown
  known-kept z e may h = record { known = λ v m up now. on (replica-does z.world may.here.here.most may.here.here.fine t f c (here-t z may.here.here) e) v m up now }
    where
      node-a : (n : PlainNode) × ((slot_of z.world a).node ≡ Some n)
      node-a = node-there z.world may.here.here.most a g r may.here.here.fine may.here.here.up (here-a z may.here.here)

      -- with the incarnation that a had
      later : (v m : PlainNode) → (slot_of (happens z.world e) a).node ≡ Some m → IsOfInc reader.place node-a.0.grants.inc v.acks → IsOfInc reader.place m.grants.inc v.acks
      later v m now k = subst (λ (i : ℕ). IsOfInc reader.place i v.acks) (sym (same-inc z e may node-a.0 m node-a.1 now)) k

      stepped : (n v : PlainNode) (y : Stepped PlainNode) (m : PlainNode) → (slot_of (happens z.world e) t).node ≡ Some y.after → (slot_of (happens z.world e) t).node ≡ Some v → (slot_of (happens z.world e) a).node ≡ Some m → IsOfInc reader.place node-a.0.grants.inc y.after.acks → IsOfInc reader.place m.grants.inc v.acks
      stepped n v y m done up now k = later v m now (subst (λ (q : PlainNode). IsOfInc reader.place node-a.0.grants.inc q.acks) (some-same y.after v (sym done ∙ up)) k)

      on : ReplicaDoes z.world (home_of z.world.plan (f, c)) t e (happens z.world e) → (v m : PlainNode) → (slot_of (happens z.world e) t).node ≡ Some v → (slot_of (happens z.world e) a).node ≡ Some m → IsOfInc reader.place m.grants.inc v.acks
      on (ReplicaDoes.Rests slot sends) v m up now = later v m now (h.known v node-a.0 (sym (ap (λ (s : Slot). s.node) slot) ∙ up) node-a.1)
      on (ReplicaDoes.Falls crash down last sends) v m up now = let clash : ◌≡◌ {A = Option PlainNode} None (Some v) = sym down ∙ up in cc
      on (ReplicaDoes.Starts i newer down up_now last sends) v m up now =
          let node = node-there z.world may.here.here.most t f c may.here.here.fine may.here.here.up (here-t z may.here.here) in
          let clash : ◌≡◌ {A = Option PlainNode} None (Some node.0) = sym down ∙ node.1 in cc
      on (ReplicaDoes.Takes j q n event there can to s) v m up now =
          stepped n v (packet_step (home_of z.world.plan (f, c)) q.sender q.packet n) m s.now up now
          (packet-inc (home_of z.world.plan (f, c)) a reader.place node-a.0.grants.inc (placed z may.here.here) q.sender q.packet n (λ i count packet mine. waited script a z j e event may.may may.here.present i count q node-a.0 there mine packet node-a.1) (h.known n node-a.0 s.up node-a.1))
      on (ReplicaDoes.Ticks clock n event s) v m up now =
          stepped n v (tick_step (home_of z.world.plan (f, c)) clock n) m s.now up now (ticked-inc (home_of z.world.plan (f, c)) a reader.place node-a.0.grants.inc (placed z may.here.here) clock n (h.known n node-a.0 s.up node-a.1))
      on (ReplicaDoes.Mills q n s) v m up now =
          stepped n v (mill_step (home_of z.world.plan (f, c)) q n) m s.now up now (milled-inc (home_of z.world.plan (f, c)) a reader.place node-a.0.grants.inc (placed z may.here.here) q n (h.known n node-a.0 s.up node-a.1))

  -- ---- the acknowledgement

  comes-so : (z : Progress) (n : ℕ) (q : Envelope) → IsOpenAt script z → slice_get z.world.envelopes n ≡ Some q → comes z.world n ≡ true
  comes-so z n q here there = all-come z.world here.most n here.fine here.up (slice_get_within z.world.envelopes n q there)

  heard-now : (n : ℕ) (z : Progress) → MayGo script IsSeen z (Deliver n) → IsAcking n z → IsKnown (next_progress script z (Deliver n))
  heard-now n z may h =
      let here = may.here.here in
      let w = z.world in
      let role = here-t z here in
      let home = home_of w.plan (f, c) in
      let node = node-there w here.most t f c here.fine here.up role in
      let node_a = node-there w here.most a g r here.fine here.up (here-a z here) in
      let q : Envelope = from a (mail t (message.Ack h.inc h.count)) in
      let can : can_come w q ≡ true = sym (ap (λ (o : Option Envelope). may_come w o) h.sent) ∙ comes-so z n q here h.sent in
      let now = node-took-now w here.most t f c here.fine role n q node.0 h.sent can refl node.1 in
      let good = node-here w here.most t f c node.0 here.fine role node.1 in
      let shape = shape-of home here.most node.0 good.orderly.shape in
      let fresh = come-inc home a reader.place node_a.0.grants.inc (placed z here) (readers-distinct w.plan (Frag f)) (low-at z here) h.inc h.count node.0 (h.is node_a.0 node_a.1) shape.acks (λ recovers. (emptied-of node.0 recovers good.orderly.recovering).acks) (may.here.reached node.0 node_a.0 node.1 node_a.1) in
      record {
        known = λ v m up up_a.
            subst (λ (i : ℕ). IsOfInc reader.place i v.acks) (sym (same-inc z (Deliver n) may node_a.0 m node_a.1 up_a))
            (subst (λ (y : PlainNode). IsOfInc reader.place node_a.0.grants.inc y.acks) (some-same (packet_step home a (Plain (message.Ack h.inc h.count)) node.0).after v (sym now ∙ up)) fresh);
      }

  acking-next : (n : ℕ) (z : Progress) (e : Event) → MayGo script IsSeen z e → is_delivery n e ≡ false → IsAcking n z → IsAcking n (next_progress script z e)
  acking-next n z e may apart h =
      let here = may.here.here in
      let node_a = node-there z.world here.most a g r here.fine here.up (here-a z here) in
      record { inc = h.inc; count = h.count; sent = still-sent z.world e n _ h.sent; waits = waits-on script z e n may.quiet apart h.waits; is = λ m up. h.is node_a.0 node_a.1 ∙ sym (same-inc z e may node_a.0 m node_a.1 up) }

  told-kept : Keeps script IsSeen (Stage 1)
  told-kept z e may (inr known) = inr (known-kept z e may known)
  told-kept z e may (inl (n, h)) =
      (elim (is_delivery n e) as (λ b. is_delivery n e ≡ b → Stage 1 (next_progress script z e)) [
        | true ↦ λ d.
            let same = same-delivery n e may.quiet d in
            subst (λ (q : Event). Stage 1 (next_progress script z q)) (sym same) (inr (heard-now n z (subst (MayGo script IsSeen z) same may) h))
        | false ↦ λ d. inl (n, acking-next n z e may d h)
      ]) refl

  -- a tick of a sends one
  acks-now : (z : Progress) (now : ℕ) → MayGo script IsSeen z (Tick a now) → Unit {0} → Stage 1 (next_progress script z (Tick a now))
  acks-now z now may h =
      let here = may.here.here in
      let w = z.world in
      let role = here-a z here in
      let home = home_of w.plan (g, r) in
      let node = node-there w here.most a g r here.fine here.up role in
      let y = tick_step home now node.0 in
      let event : happens w (Tick a now) ≡ node_stepped a y w = node-ticked-now w here.most a g r here.fine role now node.0 (here.clocked a now may.may) node.1 in
      let slot : slot_of (node_stepped a y w) a ≡ record (slot_of w a) { node = Some y.after } = slot-here w here.most a g r (λ (s : Slot). record s { node = Some y.after }) here.fine role in
      let up : (slot_of (happens w (Tick a now)) a).node ≡ Some y.after = ap (λ (v : World). (slot_of v a).node) event ∙ ap (λ (s : Slot). s.node) slot in
      let next = may.next.here in
      let plans : (happens w (Tick a now)).plan ≡ w.plan = next.of_plan ∙ sym here.of_plan in
      let reads : slice_get (streams_of home) p ≡ Some (Frag f) = sym (ap (λ (ss : List StreamRef). slice_get ss p) (home-inputs home r)) ∙ ap (λ (o : Role). slice_get (inputs_of w.plan o) p) (sym role) ∙ subst (λ (pl : Plan). slice_get (inputs_of pl (role_of pl a)) p ≡ Some (Frag f)) (sym here.of_plan) port.there in
      let sound = (node-here (happens w (Tick a now)) next.most a g r y.after next.fine (ap (λ (pl : Plan). role_of pl a) plans ∙ role) up).orderly.ports in
      let at = port-at (happens w (Tick a now)).plan y.after.grants.inc next.most p (Frag f) (streams_of (home_of (happens w (Tick a now)).plan (g, r))) y.after.ports sound (ap (λ (pl : Plan). slice_get (streams_of (home_of pl (g, r))) p) plans ∙ reads) in
      let k = ticked-in home t p (Frag f) reads (sender-in w.plan t f c (here-t z here)) now node.0 at.0 at.1 in
      let place = sent-place a w.envelopes (mail t (message.Ack y.after.grants.inc k.0)) y.sends k.1 in
      let sent : slice_get (happens w (Tick a now)).envelopes place.0 ≡ Some (from a (mail t (message.Ack y.after.grants.inc k.0))) = ap (λ (v : World). slice_get v.envelopes place.0) event ∙ place.1 in
      inl (place.0, record { inc = y.after.grants.inc; count = k.0; sent = sent; waits = new-waits script z (Tick a now) place.0 _ place.2 sent; is = λ m there. ap (λ (q : PlainNode). q.grants.inc) (some-same y.after m (sym up ∙ there)) })

  -- ---- two phases

  hears-in : (z : Progress) (es : List Event) → IsStep script IsSeen z es → Stage 1 z → IsKnown (progress_from script (opened script z) es)
  hears-in z es step (inr known) = kept-full script IsSeen IsKnown known-kept (opened script z) es step.phase (record { known = known.known })
  hears-in z es step (inl (n, h)) =
      let good = first-good script IsSeen (opened script z) es step.phase.good in
      let due : is_due n (opened script z).waiting ≡ true = opened-due script z n step.at step.complete (comes-so (opened script z) n _ good.here h.sent) h.waits in
      let now : IsAcking n (opened script z) = record { inc = h.inc; count = h.count; sent = h.sent; waits = due-waits n (opened script z).waiting due; is = h.is } in
      due-taken script IsSeen n (IsAcking n) IsKnown (record {
        others = λ y e may apart k. inl (acking-next n y e may apart k);
        taken = λ y may k. heard-now n y may k;
        keeps = known-kept;
        can = λ y seen k. comes-so y n _ seen.here k.sent;
        at = λ y seen. seen.here.at;
      }) (opened script z) es step.phase now due

  a-up : (z : Progress) → IsSeen z → is_up z.world a ≡ true
  a-up z good =
      let node = node-there z.world good.here.most a g r good.here.fine good.here.up (here-a z good.here) in
      ap (λ (o : Role). role_up z.world a o) (here-a z good.here) ∙ ap (λ (o : Option PlainNode). is_some o) node.1

  acks-in : (z : Progress) (es : List Event) → IsStep script IsSeen z es → Stage 1 (progress_from script (opened script z) es)
  acks-in z es step =
      tick-due script IsSeen a (λ y. Unit {0}) (Stage 1) (record {
        others = λ y e may apart k. inl tt;
        ticked = λ y now may k. acks-now y now may k;
        keeps = told-kept;
        up = a-up;
        there = λ y good. role-within y.world.plan a (IsNode g r) (here-a y good.here) (λ e. cc);
        at = λ y good. good.here.at;
      }) (opened script z) es step.phase tt refl

  known-lead : IsJourney script IsSeen Stage 2
  known-lead = record { lead = leads; kept = known-kept; opens = λ z h. record { known = h.known } }
    where
      leads : (i : ℕ) (z : Progress) (es : List Event) → i < 2 → IsStep script IsSeen z es → Stage (suc i) z → Stage i (progress_from script (opened script z) es)
      leads zero z es few step h = hears-in z es step h
      leads (suc zero) z es few step h = acks-in z es step
      leads (suc (suc n)) z es few step h = absurd (omega (arith, few))

  -- ---- a live journal

  module _ (events : List Event) (can : CanSettle script) (live : is_live_so_far script events ≡ true) (well : OpensWell script events) where
    seen-at : (done rest : List Event) → events ≡ done ++ rest → length script.phases + 1 < (progress script done).phase → IsSeen (progress script done)
    seen-at done rest is far =
        let plan = script.plan in
        let z = progress script done in
        let here = open-of script can z (running-along script events live well done rest is (omega (arith, far))) in
        let world = progress-run script done in
        let reached = reached-run plan done can.plan a g r f role_a reader in
        record {
          here = here;
          present = waits-present script a g r role_a events can live well done rest is far;
          reached = λ v m up up_a.
              let last = ((asking-run plan done can.plan).nodes a g r m (ap (λ (pl : Plan). role_of pl a) (run-plan plan done) ∙ role_a) (ap (λ (w : World). (slot_of w a).node) (sym world) ∙ up_a)).inc in
              let low = reached.entries t c v role_t (ap (λ (w : World). (slot_of w t).node) (sym world) ∙ up) in omega (arith, last, low);
        }

    -- from the fourth quiet phase on
    pub known-late : (done rest : List Event) → events ≡ done ++ rest → length script.phases + 1 + 2 + 1 ≤ (progress script done).phase → IsKnown (progress script done)
    known-late done rest is far =
        arrives script events live well IsSeen Stage 2 (length script.phases + 1) known-lead (omega arith) (λ done rest is far. seen-at done rest is far) (λ z good. tt) done rest is far
