-- Where at most one replica of each fragment is crashed, in the one-thread journal no replica begins twice to recover from the fourth quiet
-- phase on: it goes on from a snapshot of a spared one, made behind the first beginning.
use Rattle.std.proofs.Common.{◌≡◌, ◌==◌, ◌||◌, ℕ, ◌+◌, ◌<◌, ◌≤◌, Bool, true, false, List, [], ◌∷◌, ◌++◌, length, refl, sym, ap, subst, ◌∙◌, zero-le, arith, Option, Some, None, slice_get, ◌⊎◌, inl, inr}
use Rattle.std.proofs.lemmas.List.{append-nil, append_assoc}
use Rattle.dpc_lists.specs.Lists.{nth, list_any, list_all, range_with_len}
use Rattle.dpc_lists.proofs.Elements.{get-first, nth-past}
use Rattle.dpc_lists.proofs.Somes.{some-same}
use Rattle.dpc_lists.proofs.Truths.{both, eq-of, in-range, true-not-false}
use Rattle.dpc_model.specs.Actors.{role_of, replicas_of}
use Rattle.dpc_model.specs.declared.actors.Role.TheVariants.{Node as IsNode}
use Rattle.dpc_model.specs.declared.messages.Event.{Event}
use Rattle.dpc_model.specs.declared.messages.Event.TheVariants.{Deliver, Tick}
use Rattle.dpc_model.specs.declared.plans.FragSpec.{FragSpec}
use Rattle.dpc_model.specs.declared.plans.Plan.{Plan}
use Rattle.dpc_model.specs.declared.scripts.Script.{Script}
use Rattle.dpc_model.proofs.Numbers.{le-or}
use Rattle.node_model.specs.Mails.{SnapFor, Snap}
use Rattle.node_model.specs.Nodes.{Home, PlainNode, no_fragment}
use Rattle.node_model.specs.NodeSteps.{mill_step}
use Rattle.world_model.specs.Worlds.{World, Envelope, Slot, home_of, slot_of, happens, run}
use Rattle.world_model.specs.Schedules.{progress, is_live_so_far, lockstep_journal}
use Rattle.world_model.specs.Steady.{OpensWell}
use Rattle.world_model.proofs.Running.{run-push}
use Rattle.law_safety.proofs.Growing.{event-grows, run-plan}
use Rattle.law_safety.proofs.Law.{run-good}
use Rattle.law_readers.specs.Settling.{CanSettle}
use Rattle.law_schedules.proofs.Journals.{live-far}
use Rattle.law_schedules.proofs.Lockstep.{lock-live}
use Rattle.law_settling.proofs.Along.{every-behind}
use Rattle.law_settling.proofs.Exact.{IsIn}
use Rattle.law_settling.proofs.Replicas.{replica-in, number-low}
use Rattle.law_survivors.specs.Spared.{is_spared, keeps_one, spares_others, keeps_all_but_one, RecoversNot, GoesOnFrom, Begins, BeginsOnce}
use Rattle.law_survivors.proofs.Adopting.{WasAdopted, was-adopted}
use Rattle.law_survivors.proofs.Afresh.{none-afresh}
use Rattle.law_survivors.proofs.Choosing.{spared-of}
use Rattle.law_survivors.proofs.Doing.{ReplicaDoes, replica-does}
use Rattle.law_survivors.proofs.Good.{CameSo, came-so}
use Rattle.law_survivors.proofs.Never.{never-again, snap-peer}
use Rattle.law_survivors.proofs.Recovering.{node-at, later-on, inc-on}
use Rattle.law_survivors.proofs.Refused.{asking-run}
use Rattle.law_survivors.proofs.Running.{spared-at}
use Rattle.law_survivors.proofs.Stages.{get-low, snap-or}
use Rattle.law_survivors.proofs.Tries.{milled-status}
use Rattle.law_survivors.proofs.Tried.{IsTriedAt, AreTried, tried-on, tried-run}

-- ---- the others are spared

-- an element of a list for which a test holds
one-of : (p : ℕ → Bool) (xs : List ℕ) → list_any p xs ≡ true → (x : ℕ) × (p x ≡ true)
one-of p [] any = absurd (cc)
one-of p (x ∷ xs) any =
    (elim (p x) as (λ b. p x ≡ b → (y : ℕ) × (p y ≡ true)) [
      | true ↦ λ e. (x, e)
      | false ↦ λ e. one-of p xs (sym (ap (λ b. b || list_any p xs) e) ∙ any)
    ]) refl

-- what holds of all of a list holds of one that is in it
all-in : (q : ℕ → Bool) (xs : List ℕ) (a : ℕ) → IsIn a xs → list_all q xs ≡ true → q a ≡ true
all-in q [] a h all = absurd h
all-in q (x ∷ xs) a (inl e) all = subst (λ (z : ℕ). q z ≡ true) e (both (q x) (list_all q xs) all).0
all-in q (x ∷ xs) a (inr h) all = all-in q xs a h (both (q x) (list_all q xs) all).1

-- the fragment of a node is there
pub fragment-low : (plan : Plan) (a g r : ℕ) → role_of plan a ≡ IsNode g r → g < length plan.frags
fragment-low plan a g r role = by-place (le-or (length plan.frags) g)
  where
    by-place : (length plan.frags ≤ g) ⊎ (g < length plan.frags) → g < length plan.frags
    by-place (inr low) = low
    by-place (inl high) =
        let few = number-low plan a g r r role in
        let none : (nth no_fragment plan.frags g).replicas ≡ 0 = ap (λ (f : FragSpec). f.replicas) (nth-past no_fragment plan.frags g high) in
        absurd (omega (arith, few, none))

-- whoever is not spared is the only one of its fragment
pub others-spared : (script : Script) → keeps_all_but_one script ≡ true → (a g r y c : ℕ) → role_of script.plan a ≡ IsNode g r → role_of script.plan y ≡ IsNode g c → is_spared script a ≡ false → (y ≡ a → ⊥) → is_spared script y ≡ true
others-spared script keeps a g r y c role_a role_y not_a apart =
    let n = length script.plan.frags in
    let low = fragment-low script.plan a g r role_a in
    let upto : g < 0 + n = omega (arith, low) in
    let each = both (keeps_one script) (list_all (λ f. spares_others script (replicas_of script.plan f)) (range_with_len 0 n)) keeps in
    let here = in-range (λ f. spares_others script (replicas_of script.plan f)) 0 n g each.1 zero-le upto in
    let one = one-of (λ b. list_all (λ d. d == b || is_spared script d) (replicas_of script.plan g)) (replicas_of script.plan g) here in
    let of_a = all-in (λ d. d == one.0 || is_spared script d) (replicas_of script.plan g) a (replica-in script.plan a g r role_a) one.1 in
    let of_y = all-in (λ d. d == one.0 || is_spared script d) (replicas_of script.plan g) y (replica-in script.plan y g c role_y) one.1 in
    let same : (a == one.0) ≡ true = by-first (a == one.0) (is_spared script a) of_a not_a in
    by-other (y == one.0) (is_spared script y) of_y (λ e. apart (eq-of y one.0 e ∙ sym (eq-of a one.0 same)))
  where
    by-first : (b c : Bool) → (b || c) ≡ true → c ≡ false → b ≡ true
    by-first true c h none = refl
    by-first false c h none = absurd (true-not-false (sym h ∙ none))

    by-other : (b c : Bool) → (b || c) ≡ true → (b ≡ true → ⊥) → c ≡ true
    by-other true c h none = absurd (none refl)
    by-other false c h none = h

-- where a script keeps one, each replica that it crashes has a spared peer
pub one-kept : (script : Script) → keeps_all_but_one script ≡ true → keeps_one script ≡ true
one-kept script keeps = (both (keeps_one script) (list_all (λ f. spares_others script (replicas_of script.plan f)) (range_with_len 0 (length script.plan.frags))) keeps).0

-- ---- an event behind which it does not recover any more

ends-by : (w next : World) (home : Home) (a : ℕ) (d : Event) (n m : PlainNode) → (slot_of w a).node ≡ Some n → n.recovering ≡ true → (slot_of next a).node ≡ Some m → m.recovering ≡ false → ReplicaDoes w home a d next → ((k : ℕ) × (d ≡ Deliver k)) ⊎ ((clock : ℕ) × (d ≡ Tick a clock))
ends-by w next home a d n m up recovers now whole does = by-does does
  where
    still : m.recovering ≡ n.recovering → ((k : ℕ) × (d ≡ Deliver k)) ⊎ ((clock : ℕ) × (d ≡ Tick a clock))
    still same = absurd (true-not-false (sym recovers ∙ sym same ∙ whole))

    by-does : ReplicaDoes w home a d next → ((k : ℕ) × (d ≡ Deliver k)) ⊎ ((clock : ℕ) × (d ≡ Tick a clock))
    by-does (ReplicaDoes.Rests slot sends) = still (ap (λ (z : PlainNode). z.recovering) (some-same m n (sym now ∙ ap (λ (z : Slot). z.node) slot ∙ up)))
    by-does (ReplicaDoes.Falls crash down last sends) = let clash : ◌≡◌ {A = Option PlainNode} None (Some m) = sym down ∙ now in cc
    by-does (ReplicaDoes.Starts i newer down begun last sends) = let clash : ◌≡◌ {A = Option PlainNode} None (Some n) = sym down ∙ up in cc
    by-does (ReplicaDoes.Takes k e v event there can to s) = inl (k, event)
    by-does (ReplicaDoes.Ticks clock v event s) = inr (clock, event)
    by-does (ReplicaDoes.Mills q v s) =
        still (ap (λ (z : PlainNode). z.recovering) (some-same m (mill_step home q v).after (sym now ∙ s.now)) ∙ ap (λ (z : ℕ × Bool). z.1) (milled-status home q v) ∙ ap (λ (z : PlainNode). z.recovering) (some-same v n (sym s.up ∙ up)))

-- ---- along the one-thread journal

module _ (script : Script) (can : CanSettle script) (well : OpensWell script (lockstep_journal script)) (keeps : keeps_all_but_one script ≡ true) (a g r : ℕ) (role_a : role_of script.plan a ≡ IsNode g r) where
  abbrev plan : Plan
  plan = script.plan

  abbrev live : is_live_so_far script (lockstep_journal script) ≡ true
  live = live-far script (lockstep_journal script) (lock-live script)

  does-of : (done : List Event) (d : Event) (t f c : ℕ) → role_of plan t ≡ IsNode f c → ReplicaDoes (run script.plan done) (home_of plan (f, c)) t d (happens (run script.plan done) d)
  does-of done d t f c role =
      let same = run-plan plan done in
      subst (λ (y : Plan). ReplicaDoes (run plan done) (home_of y (f, c)) t d (happens (run plan done) d)) same (replica-does (run plan done) (1 + length done) (run-good plan done can.plan).fine t f c (ap (λ (y : Plan). role_of y t) same ∙ role) d)

  -- whoever recovers is not spared
  not-spared : (done rest : List Event) (n : PlainNode) → lockstep_journal script ≡ done ++ rest → (slot_of (run script.plan done) a).node ≡ Some n → n.recovering ≡ true → is_spared script a ≡ false
  not-spared done rest n is up recovers =
      (elim (is_spared script a) as (λ c. is_spared script a ≡ c → c ≡ false) [
        | false ↦ λ e. refl
        | true ↦ λ e. (let h = (spared-at script (lockstep_journal script) can live a g r role_a e done rest is).stands in absurd (true-not-false (sym recovers ∙ ap (λ (z : PlainNode). z.recovering) (some-same n h.node (sym up ∙ h.up)) ∙ h.whole)))
      ]) refl

  -- ---- the end of a recovery

  record Ends (before mid : List Event) : Type 0 where
    first : List Event
    event : Event
    last : List Event
    is : mid ≡ first ++ event ∷ last
    old : PlainNode
    up : (slot_of (run script.plan (before ++ first)) a).node ≡ Some old
    recovered : old.recovering ≡ true
    new : PlainNode
    now : (slot_of (happens (run script.plan (before ++ first)) event) a).node ≡ Some new
    whole : new.recovering ≡ false

  ends : (before mid rest : List Event) (n m : PlainNode) → lockstep_journal script ≡ before ++ (mid ++ rest) → length script.phases + 4 ≤ (progress script before).phase → (slot_of (run script.plan before) a).node ≡ Some n → n.recovering ≡ true → (slot_of (run script.plan (before ++ mid)) a).node ≡ Some m → m.recovering ≡ false → Ends before mid
  ends before [] rest n m is late up recovers at whole =
      absurd (true-not-false (sym recovers ∙ ap (λ (z : PlainNode). z.recovering) (some-same n m (sym up ∙ ap (λ (es : List Event). (slot_of (run script.plan es) a).node) (sym (append-nil before)) ∙ at)) ∙ whole))
  ends before (d ∷ mid) rest n m is late up recovers at whole =
      let is_next : lockstep_journal script ≡ (before ++ d ∷ []) ++ (mid ++ rest) = is ∙ sym (append_assoc before (d ∷ []) (mid ++ rest)) in
      let late_next = later-on script (lockstep_journal script) can live well a g r role_a before (mid ++ rest) d is late in
      let node = node-at script (lockstep_journal script) can live well a g r role_a (before ++ d ∷ []) (mid ++ rest) is_next late_next in
      (elim node.0.recovering as (λ c. node.0.recovering ≡ c → Ends before (d ∷ mid)) [
        | false ↦ λ e. record {
          first = [];
          event = d;
          last = mid;
          is = refl;
          old = n;
          up = ap (λ (es : List Event). (slot_of (run script.plan es) a).node) (append-nil before) ∙ up;
          recovered = recovers;
          new = node.0;
          now = ap (λ (es : List Event). (slot_of (happens (run script.plan es) d) a).node) (append-nil before) ∙ ap (λ (v : World). (slot_of v a).node) (sym (run-push plan before d)) ∙ node.1;
          whole = e;
        }
        | true ↦ λ e. later (ends (before ++ d ∷ []) mid rest node.0 m is_next late_next node.1 e (ap (λ (es : List Event). (slot_of (run script.plan es) a).node) (append_assoc before (d ∷ []) mid) ∙ at) whole)
      ]) refl
    where
      later : Ends (before ++ d ∷ []) mid → Ends before (d ∷ mid)
      later h =
          record {
            first = d ∷ h.first;
            event = h.event;
            last = h.last;
            is = ap (λ (es : List Event). d ∷ es) h.is;
            old = h.old;
            up = ap (λ (es : List Event). (slot_of (run script.plan es) a).node) (sym (append_assoc before (d ∷ []) h.first)) ∙ h.up;
            recovered = h.recovered;
            new = h.new;
            now = ap (λ (es : List Event). (slot_of (happens (run script.plan es) h.event) a).node) (sym (append_assoc before (d ∷ []) h.first)) ∙ h.now;
            whole = h.whole;
          }

  -- ---- a try that began is not named by what was sent before

  record HasTried (inc try : ℕ) (done : List Event) : Type 0 where
    late : length script.phases + 4 ≤ (progress script done).phase
    inc_is : (n : PlainNode) → (slot_of (run script.plan done) a).node ≡ Some n → n.grants.inc ≡ inc
    tried : IsTriedAt (slot_of (run script.plan done) a) inc try

  tried-next : (inc try : ℕ) (done rest : List Event) (d : Event) → lockstep_journal script ≡ done ++ d ∷ rest → HasTried inc try done → HasTried inc try (done ++ d ∷ [])
  tried-next inc try done rest d is h =
      let push = run-push plan done d in
      let node = node-at script (lockstep_journal script) can live well a g r role_a done (d ∷ rest) is h.late in
      record {
        late = later-on script (lockstep_journal script) can live well a g r role_a done rest d is h.late;
        inc_is = λ n up. inc-on script (lockstep_journal script) can live well a g r role_a done rest d is h.late node.0 n node.1 (ap (λ (v : World). (slot_of v a).node) (sym push) ∙ up) ∙ h.inc_is node.0 node.1;
        tried = subst (λ (v : World). IsTriedAt (slot_of v a) inc try) (sym push) (tried-on (run plan done) (happens (run plan done) d) d a g r plan (does-of done d a g r role_a) inc try h.tried);
      }

  grown : (before mid : List Event) (k : ℕ) (e : Envelope) → slice_get (run script.plan before).envelopes k ≡ Some e → slice_get (run script.plan (before ++ mid)).envelopes k ≡ Some e
  grown before [] k e there = ap (λ (es : List Event). slice_get (run script.plan es).envelopes k) (append-nil before) ∙ there
  grown before (d ∷ mid) k e there =
      let w = run plan before in
      let grows = event-grows w d in
      let next : slice_get (run plan (before ++ d ∷ [])).envelopes k ≡ Some e = ap (λ (v : World). slice_get v.envelopes k) (run-push plan before d) ∙ ap (λ (es : List Envelope). slice_get es k) grows.envelopes ∙ get-first w.envelopes grows.more k e there in
      ap (λ (es : List Event). slice_get (run script.plan es).envelopes k) (sym (append_assoc before (d ∷ []) mid)) ∙ grown (before ++ d ∷ []) mid k e next

  -- ---- two beginnings

  -- a walk behind a beginning
  tried-through : (before first rest : List Event) (n : PlainNode) → lockstep_journal script ≡ before ++ (first ++ rest) → length script.phases + 4 ≤ (progress script before).phase → (slot_of (run script.plan before) a).node ≡ Some n → HasTried n.grants.inc n.tries (before ++ first)
  tried-through before first rest n is late up =
      let world_role : role_of (run plan before).plan a ≡ IsNode g r = ap (λ (z : Plan). role_of z a) (run-plan plan before) ∙ role_a in
      let last = ((asking-run plan before can.plan).nodes a g r n world_role up).inc in
      every-behind (lockstep_journal script) before (λ (es : List Event). HasTried n.grants.inc n.tries es) (record {
        late = late;
        inc_is = λ m at. ap (λ (z : PlainNode). z.grants.inc) (some-same m n (sym at ∙ up));
        tried = record { came = omega (arith, last); tried = λ m at same. subst (λ (z : PlainNode). n.tries ≤ z.tries) (some-same n m (sym up ∙ at)) (omega arith) };
      }) (tried-next n.grants.inc n.tries) first rest is

  -- nothing that was sent by the beginning names the try behind it
  unnamed : (done rest : List Event) (d : Event) → lockstep_journal script ≡ done ++ d ∷ rest → length script.phases + 4 ≤ (progress script done).phase → (h : Begins script a done d) → (k i try c : ℕ) (e : Envelope) (s : Snap) → slice_get (run script.plan (done ++ d ∷ [])).envelopes k ≡ Some e → role_of plan e.sender ≡ IsNode g c → e.to ≡ a → e.packet ≡ SnapFor i try s → i ≡ h.after.grants.inc → try < h.after.tries
  unnamed done rest d is far h k i try c e s there from to packet inc =
      below (came-so (run plan done) (happens (run plan done) d) (home_of plan (g, r)) a d h.before h.after h.up h.now h.recovers (does-of done d a g r role_a))
    where
      tried : AreTried plan a g (run script.plan done)
      tried = tried-run plan done can.plan a g r role_a

      inc_before : h.before.grants.inc ≡ i
      inc_before = sym (inc-on script (lockstep_journal script) can live well a g r role_a done rest d is far h.before h.after h.up h.now) ∙ sym inc

      reached : IsTriedAt (slot_of (run script.plan done) a) i try
      reached =
          elim (snap-or plan (run plan done) (happens (run plan done) d) d a g r (λ t f c is_t. does-of done d t f c is_t) role_a k i try c e s (ap (λ (v : World). slice_get v.envelopes k) (sym (run-push plan done d)) ∙ there) from to packet) [
            | inl old ↦ tried.snaps k i try c e s old from to packet
            | inr (j, f, event, at, mine, asked) ↦ tried.asks j i try f at mine asked
          ]

      below : CameSo d h.before h.after → try < h.after.tries
      below (inl k) = absurd (true-not-false (sym k.0 ∙ h.whole))
      below (inr (j, event, more)) = let low = reached.tried h.before h.up inc_before in omega (arith, low, more)

  -- a recovery that begins ends by a snapshot that is good: no other one begins
  by-snapshot : (done mid rest : List Event) (d e : Event) → lockstep_journal script ≡ done ++ d ∷ (mid ++ e ∷ rest) → length script.phases + 4 ≤ (progress script done).phase → (h : Begins script a done d) → Begins script a ((done ++ d ∷ []) ++ mid) e → (end : Ends (done ++ d ∷ []) mid) → (k : ℕ) → end.event ≡ Deliver k → ⊥
  by-snapshot done mid rest d e is far h again end k event =
      true-not-false (sym again.recovers ∙ none (end.last ++ e ∷ []) rest again.after (sym (append_assoc end.last (e ∷ []) rest)) (ap (λ (es : List Event). (slot_of (run plan es) a).node) regrouped ∙ ap (λ (v : World). (slot_of v a).node) (run-push plan (early ++ mid) e) ∙ again.now))
    where
      early : List Event
      early = done ++ d ∷ []

      at : lockstep_journal script ≡ early ++ (mid ++ e ∷ rest)
      at = is ∙ sym (append_assoc done (d ∷ []) (mid ++ e ∷ rest))

      late : length script.phases + 4 ≤ (progress script (done ++ d ∷ [])).phase
      late = later-on script (lockstep_journal script) can live well a g r role_a done (mid ++ e ∷ rest) d is far

      parts : mid ++ e ∷ rest ≡ end.first ++ (end.event ∷ (end.last ++ e ∷ rest))
      parts = ap (λ (es : List Event). es ++ e ∷ rest) end.is ∙ append_assoc end.first (end.event ∷ end.last) (e ∷ rest)

      at_end : lockstep_journal script ≡ (early ++ end.first) ++ Deliver k ∷ (end.last ++ e ∷ rest)
      at_end = at ∙ ap (λ (es : List Event). early ++ es) parts ∙ ap (λ (c : Event). early ++ (end.first ++ (c ∷ (end.last ++ e ∷ rest)))) event ∙ sym (append_assoc early end.first (Deliver k ∷ (end.last ++ e ∷ rest)))

      regrouped : ((early ++ end.first) ++ Deliver k ∷ []) ++ (end.last ++ e ∷ []) ≡ (early ++ mid) ++ e ∷ []
      regrouped =
          append_assoc (early ++ end.first) (Deliver k ∷ []) (end.last ++ e ∷ []) ∙ append_assoc early end.first (Deliver k ∷ (end.last ++ e ∷ [])) ∙ ap (λ (c : Event). early ++ (end.first ++ (c ∷ (end.last ++ e ∷ [])))) (sym event)
          ∙ ap (λ (es : List Event). early ++ es) (sym (append_assoc end.first (end.event ∷ end.last) (e ∷ []))) ∙ ap (λ (es : List Event). early ++ (es ++ e ∷ [])) (sym end.is) ∙ sym (append_assoc early mid (e ∷ []))

      up_early : (slot_of (run script.plan early) a).node ≡ Some h.after
      up_early = ap (λ (v : World). (slot_of v a).node) (run-push plan done d) ∙ h.now

      now_k : (slot_of (happens (run script.plan (early ++ end.first)) (Deliver k)) a).node ≡ Some end.new
      now_k = ap (λ (c : Event). (slot_of (happens (run script.plan (early ++ end.first)) c) a).node) (sym event) ∙ end.now

      was : WasAdopted (run script.plan (early ++ end.first)) a k end.old end.new
      was = was-adopted (run plan (early ++ end.first)) (happens (run plan (early ++ end.first)) (Deliver k)) (home_of plan (g, r)) a k end.old end.new end.up end.recovered now_k end.whole (does-of (early ++ end.first) (Deliver k) a g r role_a)

      same : (run script.plan (early ++ end.first)).plan ≡ plan
      same = run-plan plan (early ++ end.first)

      peer : (c : ℕ) × (role_of plan was.envelope.sender ≡ IsNode g c) × (was.envelope.sender ≡ a → ⊥)
      peer =
          let p = snap-peer (run plan (early ++ end.first)) (1 + length (early ++ end.first)) (run-good plan (early ++ end.first) can.plan).fine a g r k was.it.inc was.it.try (ap (λ (z : Plan). role_of z a) same ∙ role_a) was.envelope was.it.snap was.there was.to was.it.packet_is in
          (p.0, ap (λ (z : Plan). role_of z was.envelope.sender) (sym same) ∙ p.1, p.2)

      spared : is_spared script was.envelope.sender ≡ true
      spared = others-spared script keeps a g r was.envelope.sender peer.0 role_a peer.1 (not-spared early (mid ++ e ∷ rest) h.after at up_early h.recovers) peer.2

      unsent : length (run script.plan early).envelopes ≤ k
      unsent = by-place (le-or (length (run script.plan early).envelopes) k)
        where
          by-place : (length (run script.plan early).envelopes ≤ k) ⊎ (k < length (run script.plan early).envelopes) → length (run script.plan early).envelopes ≤ k
          by-place (inl high) = high
          by-place (inr low) =
              let old = get-low (run plan early).envelopes k low in
              let one : old.0 ≡ was.envelope = some-same old.0 was.envelope (sym (grown early end.first k old.0 old.1) ∙ was.there) in
              let there : slice_get (run plan early).envelopes k ≡ Some was.envelope = old.1 ∙ ap {B = Option Envelope} Some one in
              let tried = tried-through early end.first (end.event ∷ (end.last ++ e ∷ rest)) h.after (at ∙ ap (λ (es : List Event). early ++ es) parts) late up_early in
              let inc : was.it.inc ≡ h.after.grants.inc = was.it.inc_is ∙ tried.inc_is end.old end.up in
              let less = unnamed done (mid ++ e ∷ rest) d is far h k was.it.inc was.it.try peer.0 was.envelope was.it.snap there peer.1 was.to was.it.packet_is inc in
              let more = tried.tried.tried end.old end.up (tried.inc_is end.old end.up) in
              let same_try = was.it.try_is in
              absurd (omega (arith, less, more, same_try))

      goes : GoesOnFrom script was.envelope.sender a k early (early ++ end.first)
      goes = record { late = late; unsent = unsent; envelope = was.envelope; there = was.there; sender = refl; before = end.old; up = end.up; recovered = end.recovered; after = end.new; now = now_k; whole = end.whole }

      none : RecoversNot script a ((early ++ end.first) ++ Deliver k ∷ []) (end.last ++ e ∷ rest)
      none = never-again script can well was.envelope.sender g peer.0 a r k early end.first (end.last ++ e ∷ rest) peer.1 spared role_a at_end goes

  -- nor does it end by a tick
  by-tick : (before first rest : List Event) (n m : PlainNode) (clock : ℕ) → lockstep_journal script ≡ (before ++ first) ++ Tick a clock ∷ rest → length script.phases + 1 < (progress script (before ++ first)).phase → (slot_of (run script.plan (before ++ first)) a).node ≡ Some n → n.recovering ≡ true →
      (slot_of (happens (run script.plan (before ++ first)) (Tick a clock)) a).node ≡ Some m → m.recovering ≡ false → ⊥
  by-tick before first rest n m clock is far up recovers now whole =
      let x = spared-of script (one-kept script keeps) g (fragment-low script.plan a g r role_a) in
      true-not-false (sym (none-afresh script can well x.0 g x.1 a r clock n m (before ++ first) rest x.2 x.3 role_a is far up recovers now) ∙ whole)

  pub begins-once : (done mid rest : List Event) (d e : Event) → lockstep_journal script ≡ done ++ d ∷ (mid ++ e ∷ rest) → length script.phases + 4 ≤ (progress script done).phase → Begins script a done d → Begins script a ((done ++ d ∷ []) ++ mid) e → ⊥
  begins-once done mid rest d e is far h again =
      let early = done ++ d ∷ [] in
      let at : lockstep_journal script ≡ early ++ (mid ++ e ∷ rest) = is ∙ sym (append_assoc done (d ∷ []) (mid ++ e ∷ rest)) in
      let late = later-on script (lockstep_journal script) can live well a g r role_a done (mid ++ e ∷ rest) d is far in
      let up_early : (slot_of (run plan early) a).node ≡ Some h.after = ap (λ (v : World). (slot_of v a).node) (run-push plan done d) ∙ h.now in
      let end = ends early mid (e ∷ rest) h.after again.before at late up_early h.recovers again.up again.whole in
      let parts : mid ++ e ∷ rest ≡ end.first ++ (end.event ∷ (end.last ++ e ∷ rest)) = ap (λ (es : List Event). es ++ e ∷ rest) end.is ∙ append_assoc end.first (end.event ∷ end.last) (e ∷ rest) in
      let at_end : lockstep_journal script ≡ (early ++ end.first) ++ end.event ∷ (end.last ++ e ∷ rest) = at ∙ ap (λ (es : List Event). early ++ es) parts ∙ sym (append_assoc early end.first (end.event ∷ (end.last ++ e ∷ rest))) in
      let tried = tried-through early end.first (end.event ∷ (end.last ++ e ∷ rest)) h.after (at ∙ ap (λ (es : List Event). early ++ es) parts) late up_early in
      elim (ends-by (run plan (early ++ end.first)) (happens (run plan (early ++ end.first)) end.event) (home_of plan (g, r)) a end.event end.old end.new end.up end.recovered end.now end.whole (does-of (early ++ end.first) end.event a g r role_a)) [
        | inl (k, event) ↦ by-snapshot done mid rest d e is far h again end k event
        | inr (clock, event) ↦
            by-tick early end.first (end.last ++ e ∷ rest) end.old end.new clock (at_end ∙ ap (λ (c : Event). (early ++ end.first) ++ c ∷ (end.last ++ e ∷ rest)) event) (near (progress script (early ++ end.first)).phase tried.late) end.up end.recovered
            (ap (λ (c : Event). (slot_of (happens (run plan (early ++ end.first)) c) a).node) (sym event) ∙ end.now) end.whole
      ]
    where
      near : (p : ℕ) → length script.phases + 4 ≤ p → length script.phases + 1 < p
      near p far = omega (arith, far)

-- ---- the law

pub none-twice : (script : Script) → BeginsOnce script
none-twice script can well keeps a g r done mid rest d e role_a is far first second = begins-once script can well keeps a g r role_a done mid rest d e is far first second
