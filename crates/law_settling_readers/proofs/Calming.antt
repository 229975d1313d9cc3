-- From a full phase on each beat that comes is of a finished replica, and within two more each replica is heard STABLE.
use Rattle.std.proofs.Common.{◌≡◌, ℕ, ◌+◌, ◌<◌, ◌≤◌, Bool, true, false, cond, not, ◌||◌, nat_lt, List, [], ◌∷◌, length, refl, sym, ap, subst, ◌∙◌, arith, Option, Some, slice_get, ◌⊎◌, inl, inr}
use Rattle.std.proofs.lemmas.List.{length-append}
use Rattle.std.proofs.lemmas.Option.{slice_get_within}
use Rattle.dpc_lists.specs.Lists.{changed, has, list_all}
use Rattle.dpc_model.specs.Actors.{role_of, inputs_of, sends_stream}
use Rattle.dpc_model.specs.Ports.{Port, sender_at, without_ended_marks}
use Rattle.dpc_model.specs.Replicas.{Watch, after_beat, after_count}
use Rattle.dpc_model.specs.declared.actors.Role.{Role}
use Rattle.dpc_model.specs.declared.actors.Role.TheVariants.{Source as IsSource, Node as IsNode, Client as IsClient, Nobody}
use Rattle.dpc_model.specs.declared.messages.Beat.{Beat}
use Rattle.dpc_model.specs.declared.messages.Event.{Event}
use Rattle.dpc_model.specs.declared.messages.Event.TheVariants.{Deliver, Tick}
use Rattle.dpc_model.specs.declared.messages.Message.TheVariants as message
use Rattle.dpc_model.specs.declared.messages.NodeState.TheVariants as state
use Rattle.dpc_model.specs.declared.plans.Plan.{Plan}
use Rattle.dpc_model.specs.declared.plans.StreamRef.TheVariants.{Frag}
use Rattle.dpc_model.specs.declared.scripts.Script.{Script}
use Rattle.node_model.specs.Mails.{Plain, mail}
use Rattle.node_model.specs.Nodes.{PlainNode}
use Rattle.world_model.specs.Worlds.{Envelope, slot_of, from, can_come, happens}
use Rattle.world_model.specs.Schedules.{Undelivered, Progress, next_progress, progress_from, may_come, may_follow, may_deliver, is_free, is_first_of_its_way}
use Rattle.dpc_lists.proofs.Truths.{both, eq-of, eq-test, not-less}
use Rattle.dpc_model.proofs.Numbers.{le-or}
use Rattle.dpc_lists.proofs.Elements.{get-changed}
use Rattle.dpc_lists.proofs.Somes.{some-same}
use Rattle.law_safety.proofs.Growing.{event-grows}
use Rattle.dpc_lists.proofs.Each.{Each}
use Rattle.law_granting.specs.Taken.{port_of}
use Rattle.law_granting.proofs.Moves.{get-mapped, get-was}
use Rattle.law_settling.specs.Phased.{opened}
use Rattle.law_settling.proofs.Fresh.{still-sent}
use Rattle.law_settling.proofs.Journeys.{IsStep}
use Rattle.law_settling.proofs.Opening.{all-come}
use Rattle.law_settling.proofs.PortExact.{port_after}
use Rattle.law_settling.proofs.PortNow.{took-now}
use Rattle.law_settling.proofs.Ports.{node-there}
use Rattle.law_settling.proofs.Rules.{MayGo, Keeps, kept-full, last-good, some-phase, same-delivery}
use Rattle.world_model.specs.Events.{is_delivery}
use Rattle.law_settling.proofs.Waitings.{waits, waits-on, comes, done-of}
use Rattle.law_settling_readers.proofs.Beats.{says-so}
use Rattle.law_settling_readers.proofs.Comings.{not-gone, inc-stays}
use Rattle.law_settling_readers.proofs.Orderly.{EachGoes, each-next, each-opened}
use Rattle.law_settling_readers.proofs.Reading.{replica_at, replicas_in, sends_it}
use Rattle.law_settling_readers.proofs.Watching.{WatchGoes, IsWatching, WatchWas, takes-sends, watch-was}

-- ---- envelopes from a number on

-- each beat from this number on that a replica sent says that it is STABLE
pub record SayStable (script : Script) (f K : ℕ) (z : Progress) : Type 0 where
  pub few : K ≤ length z.world.envelopes
  pub says : (j : ℕ) (g : Envelope) (b : Beat) → K ≤ j → slice_get z.world.envelopes j ≡ Some g → sends_it script.plan f g.sender ≡ true → g.packet ≡ Plain (message.Beat b) → (b.state ≡ state.Stable) × (b.recovering ≡ false)

abbrev IsLate : ℕ → Undelivered → Type 0
IsLate K y = K ≤ y.number

abbrev IsDueOrLate : ℕ → Undelivered → Type 0
IsDueOrLate K y = (y.pending ≡ true) ⊎ (K ≤ y.number)

-- and what waits was sent from there on
abbrev pub Fresh : Script → ℕ → ℕ → Progress → Type 0
Fresh script f K z = SayStable script f K z × Each (IsLate K) z.waiting

late-goes : (K : ℕ) (z : Progress) → K ≤ length z.world.envelopes → EachGoes z (IsLate K) (IsLate K)
late-goes K z few = record { left = λ y n one h. h; same = λ y h. h; due = λ ds y waits h. h; new = λ i low. omega (arith, few, low) }

due-or-late-goes : (K : ℕ) (z : Progress) → K ≤ length z.world.envelopes → EachGoes z (IsDueOrLate K) (IsDueOrLate K)
due-or-late-goes K z few = record { left = λ y n one h. h; same = λ y h. h; due = λ ds y waits h. inl refl; new = λ i low. inr (omega (arith, few, low)) }

-- what is delivered was sent from there on
delivered-late : (script : Script) (K j : ℕ) (z : Progress) → may_follow script z (Deliver j) ≡ true → Each (IsLate K) z.waiting → K ≤ j
delivered-late script K j z may late = elim (le-or K j) [
  | inl low ↦ low
  | inr less ↦
      let first = (both (may_come z.world (slice_get z.world.envelopes j)) (is_first_of_its_way z.world j z.waiting) (both (is_free z) (may_deliver z j) may).1).1 in
      absurd (not-gone z.world j z.waiting first (none z.waiting less late))
]
  where
    none : (xs : List Undelivered) → j < K → Each (IsLate K) xs → Each (λ (y : Undelivered). y.number ≡ j → ⊥) xs
    none [] less h = tt
    none (y ∷ ys) less h = let low = h.0 in ((λ same. omega (arith, less, low, same)), none ys less h.1)

module _ (script : Script) (x p f k : ℕ) where
  abbrev Goes : Progress → Event → Type 0
  Goes z e = MayGo script (IsWatching script x p f k) z e

  sender-role : (plan : Plan) (b : ℕ) → sends_it plan f b ≡ true → (r : ℕ) × (role_of plan b ≡ IsNode f r)
  sender-role plan b sends = by-role (role_of plan b) refl sends
    where
      by-role : (role : Role) → role_of plan b ≡ role → sends_stream (Frag f) role ≡ true → (r : ℕ) × (role_of plan b ≡ IsNode f r)
      by-role (IsSource v) is e = cc
      by-role (IsClient c) is e = cc
      by-role Nobody is e = cc
      by-role (IsNode g r) is e = (r, is ∙ ap (λ (o : ℕ). IsNode o r) (sym (eq-of f g e)))

  pub says-kept : (K : ℕ) → Keeps script (IsWatching script x p f k) (SayStable script f K)
  says-kept K z e may h =
      let grows = event-grows z.world e in
      let many = ap length grows.envelopes ∙ length-append z.world.envelopes grows.more in
      let few = h.few in
      record { few = omega (arith, few, many); says = says }
    where
      says : (j : ℕ) (g : Envelope) (b : Beat) → K ≤ j → slice_get (happens z.world e).envelopes j ≡ Some g → sends_it script.plan f g.sender ≡ true → g.packet ≡ Plain (message.Beat b) → (b.state ≡ state.Stable) × (b.recovering ≡ false)
      says j g b low at sends packet =
          let st = may.here.stand in
          let next = may.next.stand in
          let role = sender-role script.plan g.sender sends in
          let role_now : role_of z.world.plan g.sender ≡ IsNode f role.0 = ap (λ (pl : Plan). role_of pl g.sender) st.of_plan ∙ role.1 in
          let role_next : role_of (happens z.world e).plan g.sender ≡ IsNode f role.0 = ap (λ (pl : Plan). role_of pl g.sender) next.of_plan ∙ role.1 in
          elim (says-so z.world st.most st.fine j f role.0 g b role_now packet e at) [
            | inl old ↦ h.says j g b low old sends packet
            | inr new ↦ let done = next.done g.sender role.0 new.0 role_next new.1 in (new.2 ∙ done.state, new.3 ∙ done.recovering)
          ]

  pub fresh-kept : (K : ℕ) → Keeps script (IsWatching script x p f k) (Fresh script f K)
  fresh-kept K z e may h = (says-kept K z e may h.0, each-next script z e (IsLate K) (IsLate K) (late-goes K z h.0.few) h.1)

  pub fresh-opened : (K : ℕ) (z : Progress) → Fresh script f K z → Fresh script f K (opened script z)
  fresh-opened K z h = let few = h.0.few in (record { few = h.0.few; says = h.0.says }, each-opened script z (z.phase + 1) (IsLate K) (IsLate K) (λ ds y waits late. late) (λ i low. omega (arith, few, low)) h.1)

  -- ---- a phase leads to states in which all is fresh

  abbrev Freshening : ℕ → Progress → Type 0
  Freshening K z = SayStable script f K z × Each (IsDueOrLate K) z.waiting

  freshening-kept : (K : ℕ) → Keeps script (IsWatching script x p f k) (Freshening K)
  freshening-kept K z e may h = (says-kept K z e may h.0, each-next script z e (IsDueOrLate K) (IsDueOrLate K) (due-or-late-goes K z h.0.few) h.1)

  abbrev Steps : Progress → List Event → Type 0
  Steps z es = IsStep script (IsWatching script x p f k) z es

  pub lead-fresh : (z : Progress) (es : List Event) → Steps z es → (K : ℕ) × Fresh script f K (progress_from script (opened script z) es)
  lead-fresh z es step =
      let K = length z.world.envelopes in
      let first : Freshening K (opened script z) = (
        record { few = omega arith; says = λ j g b low at sends packet. let high = slice_get_within z.world.envelopes j g at in absurd (omega (arith, low, high)) },
        each-opened script z (z.phase + 1) (λ y. Unit {0}) (IsDueOrLate K) (λ ds y waits h. inl refl) (λ i low. inr (omega (arith, low))) (each-any z.waiting),
      ) in
      let y = progress_from script (opened script z) es in
      let last = kept-full script (IsWatching script x p f k) (Freshening K) (freshening-kept K) (opened script z) es step.phase first in
      let good = last-good script (IsWatching script x p f k) (opened script z) es step.phase.good in
      let done = (done-of y (some-phase script y good.at) step.phase.full.complete).delivered in
      (K, (last.0, all-late K y good last.0.few y.waiting done last.1))
    where
      each-any : (xs : List Undelivered) → Each (λ y. Unit {0}) xs
      each-any [] = tt
      each-any (y ∷ ys) = (tt, each-any ys)

      -- nothing that was due is left
      all-late : (K : ℕ) (y : Progress) → IsWatching script x p f k y → K ≤ length y.world.envelopes → (xs : List Undelivered) → list_all (λ (u : Undelivered). not u.pending || not (may_come y.world (slice_get y.world.envelopes u.number))) xs ≡ true → Each (IsDueOrLate K) xs → Each (IsLate K) xs
      all-late K y good few [] done h = tt
      all-late K y good few (u ∷ us) done h =
          let parts = both (not u.pending || not (may_come y.world (slice_get y.world.envelopes u.number))) (list_all (λ (v : Undelivered). not v.pending || not (may_come y.world (slice_get y.world.envelopes v.number))) us) done in
          let here = parts.0 in
          let rest = parts.1 in
          (elim h.0 [ inr late ↦ late | inl due ↦ by-number due here (le-or (length y.world.envelopes) u.number) ], all-late K y good few us rest h.1)
        where
          by-number : u.pending ≡ true → (not u.pending || not (may_come y.world (slice_get y.world.envelopes u.number))) ≡ true → (length y.world.envelopes ≤ u.number) ⊎ (u.number < length y.world.envelopes) → IsLate K u
          by-number due here (inl past) = omega (arith, few, past)
          by-number due here (inr low) =
              let can = all-come y.world good.stand.most u.number good.stand.fine good.stand.up low in
              let clash : false ≡ true = rw (due, can) at here in cc

  -- ---- a replica is heard

  -- the reader heard of replica i that it is STABLE, and where there are others, within two ticks
  abbrev pub CalmAt : ℕ → Progress → Type 0
  CalmAt i z = (q : Port) → port_of z.world x p ≡ Some q → (u : Watch) → slice_get q.watches i ≡ Some u → (u.said ≡ Some (state.Stable, false)) × (1 < length q.watches → u.ticks ≤ 2)

  said-stable : (u : Watch) (b : Beat) → u.said ≡ Some (b.state, b.recovering) → (b.state ≡ state.Stable) × (b.recovering ≡ false) → u.said ≡ Some (state.Stable, false)
  said-stable u b said says = said ∙ ap {B = Option _} (λ s. Some (s, b.recovering)) says.0 ∙ ap {B = Option _} (λ (r : Bool). Some (state.Stable, r)) says.1

  calm-next : (K i : ℕ) (z : Progress) (e : Event) → Goes z e → Fresh script f K z → CalmAt i z → CalmAt i (next_progress script z e)
  calm-next K i z e may fresh calm r now u at =
      let was = watch-was script x p f k z e may.quiet may.here.stand may.next.stand.calm may.here.port r may.here.there now i u at in
      by-goes was (calm was.port was.there was.watch was.at) was.goes
    where
      by-goes : (was : WatchWas script x p f k z e r i u) → (was.watch.said ≡ Some (state.Stable, false)) × (1 < length was.port.watches → was.watch.ticks ≤ 2) → WatchGoes z.world x p i e was.watch u → (u.said ≡ Some (state.Stable, false)) × (1 < length r.watches → u.ticks ≤ 2)
      by-goes was old (WatchGoes.Stays said ticks) = (said ∙ old.0, λ several. let many = was.many in let few = old.1 (omega (arith, several, many)) in omega (arith, few, ticks))
      by-goes was old (WatchGoes.Notes j g b event sent place packet said ticks) =
          let late = delivered-late script K j z (subst (λ (d : Event). may_follow script z d ≡ true) event may.may) fresh.1 in
          let sends = takes-sends script x p f k z may.here.port may.here.stand may.here.there g.sender i place in
          (said-stable u b said (fresh.0.says j g b late sent sends packet), λ several. omega (arith, ticks))
      by-goes was old (WatchGoes.Counts clock event said ticks) =
          (said ∙ old.0, λ several. let many = was.many in let few = old.1 (omega (arith, several, many)) in let apart = third several in omega (arith, few, ticks, apart))
        where
          ticked : has (next_progress script z (Tick x clock)).ticked x ≡ true
          ticked = let here = eq-test x x refl in rw here refl

          third : 1 < length r.watches → u.ticks ≡ 3 → ⊥
          third several = may.next.aware (subst (λ (d : Event). has (next_progress script z d).ticked x ≡ true) (sym event) ticked) r now several i u at

  -- a beat of replica i, in its present incarnation, waits
  pub record IsBeating (K i n : ℕ) (b : Beat) (z : Progress) : Type 0 where
    pub sent : slice_get z.world.envelopes n ≡ Some (from (replica_at script.plan f i) (mail x (message.Beat b)))
    pub late : K ≤ n
    pub waits : waits n z.waiting ≡ true
    pub inc : (r : ℕ) (o : PlainNode) → role_of script.plan (replica_at script.plan f i) ≡ IsNode f r → (slot_of z.world (replica_at script.plan f i)).node ≡ Some o → o.grants.inc ≡ b.inc

  abbrev pub Told : ℕ → ℕ → Progress → Type 0
  Told K i z = CalmAt i z ⊎ ((n : ℕ) × (b : Beat) × IsBeating K i n b z)

  -- the replica
  pub record Replica (i : ℕ) (z : Progress) : Type 0 where
    pub number : ℕ
    pub node : PlainNode
    pub role : role_of script.plan (replica_at script.plan f i) ≡ IsNode f number
    pub role_now : role_of z.world.plan (replica_at script.plan f i) ≡ IsNode f number
    pub up : (slot_of z.world (replica_at script.plan f i)).node ≡ Some node

  pub replica-here : (i : ℕ) (z : Progress) → i < replicas_in script.plan f → IsWatching script x p f k z → Replica i z
  replica-here i z low good =
      let st = good.stand in
      let line = subst (λ (pl : Plan). i < replicas_in pl f) (sym st.of_plan) low in
      let found = st.line.replica i line in
      let role : role_of script.plan (replica_at script.plan f i) ≡ IsNode f found.0 = ap (λ (pl : Plan). role_of pl (replica_at pl f i)) (sym st.of_plan) ∙ found.1 in
      let role_now : role_of z.world.plan (replica_at script.plan f i) ≡ IsNode f found.0 = ap (λ (pl : Plan). role_of pl (replica_at script.plan f i)) st.of_plan ∙ role in
      let node = node-there z.world st.most (replica_at script.plan f i) f found.0 st.fine st.up role_now in
      record { number = found.0; node = node.0; role = role; role_now = role_now; up = node.1 }

  pub comes-here : (z : Progress) (n : ℕ) (g : Envelope) → IsWatching script x p f k z → slice_get z.world.envelopes n ≡ Some g → comes z.world n ≡ true
  comes-here z n g good there = let st = good.stand in all-come z.world st.most n st.fine st.up (slice_get_within z.world.envelopes n g there)

  -- an event that is not its delivery
  pub beating-next : (K i n : ℕ) (b : Beat) (z : Progress) (e : Event) → i < replicas_in script.plan f → Goes z e → is_delivery n e ≡ false → IsBeating K i n b z → IsBeating K i n b (next_progress script z e)
  beating-next K i n b z e low may other h =
      let st = may.here.stand in
      let a = replica_at script.plan f i in
      let it = replica-here i z low may.here in
      let stays = inc-stays z.world st.most a f it.number st.fine it.role_now e may.quiet it.node it.up in
      record {
        sent = still-sent z.world e n _ h.sent;
        late = h.late;
        waits = waits-on script z e n may.quiet other h.waits;
        inc = λ r o role up. let one : stays.0 ≡ o = some-same stays.0 o (sym stays.1 ∙ up) in sym (ap (λ (m : PlainNode). m.grants.inc) one) ∙ stays.2 ∙ h.inc it.number it.node it.role it.up;
      }

  -- it comes, and is noted
  pub heard-now : (K i n : ℕ) (b : Beat) (z : Progress) → i < replicas_in script.plan f → Goes z (Deliver n) → Fresh script f K z → IsBeating K i n b z → CalmAt i (next_progress script z (Deliver n))
  heard-now K i n b z low may fresh h r now u at =
      let st = may.here.stand in
      let q = may.here.port in
      let a = replica_at script.plan f i in
      let g = from a (mail x (message.Beat b)) in
      let it = replica-here i z low may.here in
      let line = subst (λ (pl : Plan). i < replicas_in pl f) (sym st.of_plan) low in
      let place : sender_at z.world.plan (inputs_of z.world.plan (role_of z.world.plan x)) a ≡ Some (p, i) =
      ap (λ (pl : Plan). sender_at z.world.plan (inputs_of z.world.plan (role_of z.world.plan x)) (replica_at pl f i)) (sym st.of_plan) ∙ st.line.sender i line in
      let can : can_come z.world g ≡ true = sym (ap (λ (o : Option Envelope). may_come z.world o) h.sent) ∙ comes-here z n g may.here h.sent in
      let taken = took-now z.world st.most x p (Frag f) st.fine st.many st.line.port st.calm n i g h.sent can refl place may.next.stand.calm q may.here.there in
      let one : r ≡ port_after i (Plain (message.Beat b)) (without_ended_marks q) = some-same r taken.0 (sym now ∙ taken.1) ∙ taken.2.0 in
      let sends = takes-sends script x p f k z q st may.here.there a i place in
      let says = fresh.0.says n g b h.late h.sent sends refl in
      let found : slice_get (changed i (after_beat b.inc b.state b.recovering) (without_ended_marks q).watches) i ≡ Some u = ap (λ (y : Port). slice_get y.watches i) (sym one) ∙ at in
      let y = get-was i (after_beat b.inc b.state b.recovering) (without_ended_marks q).watches i u found in
      by-watch says found y.0 y.1
    where
      by-watch : (b.state ≡ state.Stable) × (b.recovering ≡ false) → slice_get (changed i (after_beat b.inc b.state b.recovering) (without_ended_marks may.here.port).watches) i ≡ Some u → (y : Watch) → slice_get (without_ended_marks may.here.port).watches i ≡ Some y → (u.said ≡ Some (state.Stable, false)) × (1 < length r.watches → u.ticks ≤ 2)
      by-watch says found y at_y =
          let q = may.here.port in
          let it = replica-here i z low may.here in
          let v = get-mapped (after_count (length q.inlet.held.stable)) q.watches i y at_y in
          let below = may.here.below q i it.number v.0 it.node may.here.there low it.role it.up v.1 in
          let inc = h.inc it.number it.node it.role it.up in
          let same : y.inc ≡ v.0.inc = ap (λ (o : Watch). o.inc) (sym v.2) in
          let new : nat_lt b.inc y.inc ≡ false = not-less b.inc y.inc (omega (arith, below, inc, same)) in
          let is : u ≡ after_beat b.inc b.state b.recovering y = some-same u (after_beat b.inc b.state b.recovering y) (sym found ∙ get-changed i (after_beat b.inc b.state b.recovering) (without_ended_marks q).watches y at_y) in
          let noted : u ≡ record y { inc = b.inc; ticks = 0; said = Some (b.state, b.recovering) } = is ∙ ap (λ (t : Bool). cond {A = Watch} t y (record y { inc = b.inc; ticks = 0; said = Some (b.state, b.recovering) })) new in
          let none : u.ticks ≡ 0 = ap (λ (o : Watch). o.ticks) noted in
          (said-stable u b (ap (λ (o : Watch). o.said) noted) says, λ several. omega (arith, none))

  pub told-kept : (K i : ℕ) → i < replicas_in script.plan f → Keeps script (IsWatching script x p f k) (λ z. Fresh script f K z × Told K i z)
  told-kept K i low z e may (fresh, inl calm) = (fresh-kept K z e may fresh, inl (calm-next K i z e may fresh calm))
  told-kept K i low z e may (fresh, inr (n, b, h)) = (
    fresh-kept K z e may fresh,
    (elim (is_delivery n e) as (λ t. is_delivery n e ≡ t → Told K i (next_progress script z e)) [
      | true ↦ λ d.
          let same = same-delivery n e may.quiet d in
          inl (subst (λ (c : Event). CalmAt i (next_progress script z c)) (sym same) (heard-now K i n b z low (subst (MayGo script (IsWatching script x p f k) z) same may) fresh h))
      | false ↦ λ d. inr (n, b, beating-next K i n b z e low may d h)
    ]) refl,
  )

  pub calm-kept : (K i : ℕ) → Keeps script (IsWatching script x p f k) (λ z. Fresh script f K z × CalmAt i z)
  calm-kept K i z e may (fresh, calm) = (fresh-kept K z e may fresh, calm-next K i z e may fresh calm)
