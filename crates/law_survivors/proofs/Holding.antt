-- Where a replica holds whole streams as soon as it did not recover for some phases, its recoveries are over soon: another beginning would be
-- of one that lacks something, or the second one.
use Rattle.std.proofs.Common.{◌≡◌, ℕ, ◌+◌, ◌<◌, ◌≤◌, Bool, true, false, List, [], ◌∷◌, ◌++◌, length, refl, sym, ap, subst, ◌∙◌, arith, Option, Some, ◌⊎◌, inl, inr}
use Rattle.std.specs.Prelude.{is_some}
use Rattle.std.proofs.lemmas.List.{append-nil, append_assoc}
use Rattle.dpc_lists.specs.Lists.{has}
use Rattle.dpc_lists.proofs.Somes.{some-same}
use Rattle.dpc_lists.proofs.Truths.{true-not-false}
use Rattle.dpc_model.specs.Actors.{role_of}
use Rattle.dpc_model.specs.declared.actors.Role.{Role}
use Rattle.dpc_model.specs.declared.actors.Role.TheVariants.{Node as IsNode}
use Rattle.dpc_model.specs.declared.messages.Event.{Event}
use Rattle.dpc_model.specs.declared.messages.Event.TheVariants.{Tick}
use Rattle.dpc_model.specs.declared.plans.Plan.{Plan}
use Rattle.dpc_model.specs.declared.scripts.Script.{Script}
use Rattle.node_model.specs.Nodes.{PlainNode}
use Rattle.world_model.specs.Worlds.{World, slot_of, is_up, role_up, run}
use Rattle.world_model.specs.Schedules.{Progress, next_progress, progress, is_live_so_far, lockstep_journal}
use Rattle.world_model.specs.Steady.{OpensWell}
use Rattle.world_model.specs.Events.{is_quiet, is_tick}
use Rattle.law_readers.specs.Settling.{CanSettle}
use Rattle.law_schedules.proofs.Journals.{live-far, progress-run}
use Rattle.law_schedules.proofs.Lockstep.{lock-live}
use Rattle.law_settling.specs.Phased.{opened}
use Rattle.law_settling.proofs.Along.{every-behind, progress-push, live-may}
use Rattle.law_settling.proofs.Rules.{same-tick, some-phase}
use Rattle.law_settling.proofs.Splitting.{stays, in-quiet, quiet-goes}
use Rattle.law_settling.proofs.Stages.{role-within}
use Rattle.law_settling_readers.proofs.Watching.{ticked-on}
use Rattle.law_survivors.specs.Spared.{keeps_all_but_one, RecoversNot, Begins, HoldsWhole, RestsOnceWhole}
use Rattle.law_survivors.proofs.Afresh.{has-ticked}
use Rattle.law_survivors.proofs.Choosing.{spared-of}
use Rattle.law_survivors.proofs.Recovering.{open-at, node-at, later-on}
use Rattle.law_survivors.proofs.Since.{beginners-lack}
use Rattle.law_survivors.proofs.Standing.{tick-or}
use Rattle.law_survivors.proofs.Together.{none-opened, AtPhase, late-through, same-up, same-begins, again, at-phase, together}
use Rattle.law_survivors.proofs.Twice.{begins-once, fragment-low, one-kept}

regroup : (early first : List Event) (d : Event) (last more : List Event) → ((early ++ first) ++ d ∷ []) ++ (last ++ more) ≡ early ++ ((first ++ d ∷ last) ++ more)
regroup early first d last more = simp append_assoc

module _ (script : Script) (can : CanSettle script) (well : OpensWell script (lockstep_journal script)) (keeps : keeps_all_but_one script ≡ true) (a g r : ℕ) (role_a : role_of script.plan a ≡ IsNode g r) where
  abbrev plan : Plan
  plan = script.plan

  abbrev live : is_live_so_far script (lockstep_journal script) ≡ true
  live = live-far script (lockstep_journal script) (lock-live script)

  -- phases do not go back
  phase-through : (k : ℕ) (before piece rest : List Event) → lockstep_journal script ≡ before ++ (piece ++ rest) → k ≤ (progress script before).phase → k ≤ (progress script (before ++ piece)).phase
  phase-through k before piece rest is low =
      every-behind (lockstep_journal script) before (λ (es : List Event). k ≤ (progress script es).phase) low (λ done behind d at h. subst (λ (y : Progress). k ≤ y.phase) (sym (progress-push script done d)) (by-stays done behind d at h)) piece rest is
    where
      by-stays : (done behind : List Event) (d : Event) → lockstep_journal script ≡ done ++ d ∷ behind → k ≤ (progress script done).phase → k ≤ (next_progress script (progress script done) d).phase
      by-stays done behind d at h =
          elim (stays script (progress script done) d (live-may script (lockstep_journal script) done behind d live at)) [
            | inl same ↦ omega (arith, same, h)
            | inr o ↦ subst (λ (c : Event). k ≤ (next_progress script (progress script done) c).phase) (sym o.0) (omega (arith, h))
          ]

  -- ---- it recovers at some point of a piece, or at none

  record Meets (before piece : List Event) : Type 0 where
    first : List Event
    last : List Event
    is : piece ≡ first ++ last
    node : PlainNode
    up : (slot_of (run script.plan (before ++ first)) a).node ≡ Some node
    recovers : node.recovering ≡ true

  up-here : (before some : List Event) (n m : PlainNode) → (slot_of (run script.plan before) a).node ≡ Some n → n.recovering ≡ false → some ≡ [] → (slot_of (run script.plan (before ++ some)) a).node ≡ Some m → m.recovering ≡ false
  up-here before some n m up whole none at =
      let here : (slot_of (run plan before) a).node ≡ Some m = ap (λ (xs : List Event). (slot_of (run plan xs) a).node) (sym (ap (λ (es : List Event). before ++ es) none ∙ append-nil before)) ∙ at in
      ap (λ (y : PlainNode). y.recovering) (some-same m n (sym here ∙ up)) ∙ whole

  rests-none : (before : List Event) (n : PlainNode) → (slot_of (run script.plan before) a).node ≡ Some n → n.recovering ≡ false → RecoversNot script a before []
  rests-none before n up whole [] rest m is at = up-here before [] n m up whole refl at
  rests-none before n up whole (e ∷ some) rest m is at = cc

  rests-more : (before piece : List Event) (d : Event) (n : PlainNode) → (slot_of (run script.plan before) a).node ≡ Some n → n.recovering ≡ false → RecoversNot script a (before ++ d ∷ []) piece → RecoversNot script a before (d ∷ piece)
  rests-more before piece d n up whole h [] rest m is at = up-here before [] n m up whole refl at
  rests-more before piece d n up whole h (e ∷ some) rest m is at =
      h some rest m (tail d e piece (some ++ rest) is) (ap (λ (xs : List Event). (slot_of (run plan xs) a).node) (append_assoc before (d ∷ []) some ∙ ap (λ (c : Event). before ++ c ∷ some) (head d e piece (some ++ rest) is)) ∙ at)
    where
      head : (d e : Event) (xs ys : List Event) → d ∷ xs ≡ e ∷ ys → d ≡ e
      head d e xs ys same = cc

      tail : (d e : Event) (xs ys : List Event) → d ∷ xs ≡ e ∷ ys → xs ≡ ys
      tail d e xs ys same = cc

  here-meets : (before piece : List Event) (n : PlainNode) → (slot_of (run script.plan before) a).node ≡ Some n → n.recovering ≡ true → Meets before piece
  here-meets before piece n up recovers = record { first = []; last = piece; is = refl; node = n; up = ap (λ (xs : List Event). (slot_of (run plan xs) a).node) (append-nil before) ∙ up; recovers = recovers }

  later-meets : (before piece : List Event) (d : Event) → Meets (before ++ d ∷ []) piece → Meets before (d ∷ piece)
  later-meets before piece d h = record { first = d ∷ h.first; last = h.last; is = ap (λ (es : List Event). d ∷ es) h.is; node = h.node; up = ap (λ (xs : List Event). (slot_of (run plan xs) a).node) (sym (append_assoc before (d ∷ []) h.first)) ∙ h.up; recovers = h.recovers }

  rests-or : (before piece rest : List Event) → lockstep_journal script ≡ before ++ (piece ++ rest) → length script.phases + 4 ≤ (progress script before).phase → RecoversNot script a before piece ⊎ Meets before piece
  rests-or before [] rest is late =
      let node = node-at script (lockstep_journal script) can live well a g r role_a before rest is late in
      (elim node.0.recovering as (λ c. node.0.recovering ≡ c → RecoversNot script a before [] ⊎ Meets before []) [
        | false ↦ λ e. inl (rests-none before node.0 node.1 e)
        | true ↦ λ e. inr (here-meets before [] node.0 node.1 e)
      ]) refl
  rests-or before (d ∷ piece) rest is late =
      let node = node-at script (lockstep_journal script) can live well a g r role_a before (d ∷ (piece ++ rest)) is late in
      (elim node.0.recovering as (λ c. node.0.recovering ≡ c → RecoversNot script a before (d ∷ piece) ⊎ Meets before (d ∷ piece)) [
        | true ↦ λ e. inr (here-meets before (d ∷ piece) node.0 node.1 e)
        | false ↦ λ e. elim (rests-or (before ++ d ∷ []) piece rest (is ∙ sym (append_assoc before (d ∷ []) (piece ++ rest))) (later-on script (lockstep_journal script) can live well a g r role_a before (piece ++ rest) d is late)) [
          | inl none ↦ inl (rests-more before piece d node.0 node.1 e none)
          | inr meets ↦ inr (later-meets before piece d meets)
        ]
      ]) refl

  -- ---- it ticks within two phases

  record Ticks (piece : List Event) : Type 0 where
    first : List Event
    now : ℕ
    last : List Event
    is : piece ≡ first ++ Tick a now ∷ last

  -- the phase has number q, or is the next one and a has not ticked in it
  data Waits (q : ℕ) (z : Progress) : Type 0 where
    Before : z.phase ≡ q → Waits q z
    Within : z.phase ≡ q + 1 → has z.ticked a ≡ false → Waits q z

  waits-quiet : (q : ℕ) (z : Progress) (d : Event) → is_quiet d ≡ true → ((clock : ℕ) → d ≡ Tick a clock → ⊥) → (next_progress script z d).phase ≡ z.phase → Waits q z → Waits q (next_progress script z d)
  waits-quiet q z d quiet apart same (Before at) = Before (same ∙ at)
  waits-quiet q z d quiet apart same (Within at none) = Within (same ∙ at) (ticked-on script z d a quiet (by-test (is_tick a d) refl) ∙ none)
    where
      by-test : (t : Bool) → is_tick a d ≡ t → is_tick a d ≡ false
      by-test false e = e
      by-test true e = (let k = same-tick a d quiet e in absurd (apart k.0 k.1))

  waits-opened : (q : ℕ) (z : Progress) → has z.ticked a ≡ true → Waits q z → Waits q (opened script z)
  waits-opened q z ticked (Before at) = Within (ap (λ (k : ℕ). k + 1) at) refl
  waits-opened q z ticked (Within at none) = absurd (true-not-false (sym ticked ∙ none))

  later-ticks : (piece : List Event) (d : Event) → Ticks piece → Ticks (d ∷ piece)
  later-ticks piece d h = record { first = d ∷ h.first; now = h.now; last = h.last; is = ap (λ (es : List Event). d ∷ es) h.is }

  waits-next : (q : ℕ) (done rest : List Event) (d : Event) → lockstep_journal script ≡ done ++ d ∷ rest → length script.phases + 4 ≤ (progress script done).phase → ((clock : ℕ) → d ≡ Tick a clock → ⊥) → Waits q (progress script done) → Waits q (progress script (done ++ d ∷ []))
  waits-next q done rest d is late apart h =
      let z = progress script done in
      let here = open-at script (lockstep_journal script) can live well a g r role_a done (d ∷ rest) is late in
      let node = node-at script (lockstep_journal script) can live well a g r role_a done (d ∷ rest) is late in
      let role : role_of z.world.plan a ≡ IsNode g r = ap (λ (pl : Plan). role_of pl a) here.of_plan ∙ role_a in
      let up_z : (slot_of z.world a).node ≡ Some node.0 = ap (λ (w : World). (slot_of w a).node) (progress-run script done) ∙ node.1 in
      let up : is_up z.world a ≡ true = ap (λ (o : Role). role_up z.world a o) role ∙ ap (λ (o : Option PlainNode). is_some o) up_z in
      subst (λ (y : Progress). Waits q y) (sym (progress-push script done d)) (elim (in-quiet script z d here.at (live-may script (lockstep_journal script) done rest d live is)) [
        | inl quiet ↦ waits-quiet q z d quiet apart (quiet-goes script z d quiet here.at).1 h
        | inr o ↦ subst (λ (c : Event). Waits q (next_progress script z c)) (sym o.0) (waits-opened q z (has-ticked z a (some-phase script z here.at) o.1 up (role-within z.world.plan a (IsNode g r) role (λ e. cc))) h)
      ])

  ticks-or : (q : ℕ) (before piece rest : List Event) → lockstep_journal script ≡ before ++ (piece ++ rest) → length script.phases + 4 ≤ (progress script before).phase → Waits q (progress script before) → Ticks piece ⊎ Waits q (progress script (before ++ piece))
  ticks-or q before [] rest is late h = inr (subst (λ (es : List Event). Waits q (progress script es)) (sym (append-nil before)) h)
  ticks-or q before (d ∷ piece) rest is late h =
      elim (tick-or a d) [
        | inl (clock, event) ↦ inl (record { first = []; now = clock; last = piece; is = ap (λ (c : Event). c ∷ piece) event })
        | inr apart ↦ elim (ticks-or q (before ++ d ∷ []) piece rest (is ∙ sym (append_assoc before (d ∷ []) (piece ++ rest))) (later-on script (lockstep_journal script) can live well a g r role_a before (piece ++ rest) d is late) (waits-next q before (piece ++ rest) d is late apart h)) [
          | inl found ↦ inl (later-ticks piece d found)
          | inr waits ↦ inr (subst (λ (es : List Event). Waits q (progress script es)) (append_assoc before (d ∷ []) piece) waits)
        ]
      ]

  ticks-in : (before piece rest : List Event) → lockstep_journal script ≡ before ++ (piece ++ rest) → length script.phases + 4 ≤ (progress script before).phase → (progress script before).phase + 2 ≤ (progress script (before ++ piece)).phase → Ticks piece
  ticks-in before piece rest is late far = by-walk (ticks-or (progress script before).phase before piece rest is late (Before refl))
    where
      by-walk : Ticks piece ⊎ Waits (progress script before).phase (progress script (before ++ piece)) → Ticks piece
      by-walk (inl found) = found
      by-walk (inr (Before at)) = absurd (omega (arith, far, at))
      by-walk (inr (Within at none)) = absurd (omega (arith, far, at))

  -- ---- a beginning of one that holds whole streams

  holder-begins : (first mid rest : List Event) (d : Event) → lockstep_journal script ≡ first ++ (mid ++ d ∷ rest) → length script.phases + 4 ≤ (progress script first).phase → (progress script first).phase + 2 ≤ (progress script (first ++ mid)).phase → RecoversNot script a first mid →
      HoldsWhole script.plan (run script.plan (first ++ mid)) a → Begins script a (first ++ mid) d → ⊥
  holder-begins first mid rest d is late far none whole h =
      let t = ticks-in first mid (d ∷ rest) is late far in
      let x = spared-of script (one-kept script keeps) g (fragment-low plan a g r role_a) in
      let parts : mid ++ d ∷ rest ≡ t.first ++ (Tick a t.now ∷ (t.last ++ d ∷ rest)) = ap (λ (es : List Event). es ++ d ∷ rest) t.is ∙ append_assoc t.first (Tick a t.now ∷ t.last) (d ∷ rest) in
      let at_tick : lockstep_journal script ≡ (first ++ t.first) ++ Tick a t.now ∷ (t.last ++ d ∷ rest) = is ∙ ap (λ (es : List Event). first ++ es) parts ∙ sym (append_assoc first t.first (Tick a t.now ∷ (t.last ++ d ∷ rest))) in
      let ticked = (first ++ t.first) ++ Tick a t.now ∷ [] in
      let all : ticked ++ t.last ≡ first ++ mid = append_assoc (first ++ t.first) (Tick a t.now ∷ []) t.last ∙ append_assoc first t.first (Tick a t.now ∷ t.last) ∙ ap (λ (es : List Event). first ++ es) (sym t.is) in
      let begins = same-begins script can well keeps a g r role_a (ticked ++ t.last) (first ++ mid) d all h in
      let lacks = beginners-lack script (lockstep_journal script) can live well x.0 g x.1 a r t.now (first ++ t.first) t.last rest d x.2 x.3 role_a (at_tick ∙ sym (append_assoc (first ++ t.first) (Tick a t.now ∷ []) (t.last ++ d ∷ rest)))
      (late-through script can well keeps a g r role_a first t.first (Tick a t.now ∷ (t.last ++ d ∷ rest)) (is ∙ ap (λ (es : List Event). first ++ es) parts) late) (behind-tick t.first t.now t.last t.is) begins in
      let more = whole lacks.place lacks.frag begins.before lacks.port lacks.reads (ap (λ (es : List Event). (slot_of (run plan es) a).node) (sym all) ∙ begins.up) lacks.there in
      let less = lacks.few in
      absurd (omega (arith, more, less))
    where
      -- nor does it recover behind the tick
      behind-tick : (before : List Event) (now : ℕ) (last : List Event) → mid ≡ before ++ Tick a now ∷ last → RecoversNot script a ((first ++ before) ++ Tick a now ∷ []) last
      behind-tick before now last is some others m at up =
          none (before ++ Tick a now ∷ some) others m (is ∙ ap (λ (es : List Event). before ++ Tick a now ∷ es) at ∙ sym (append_assoc before (Tick a now ∷ some) others))
          (ap (λ (es : List Event). (slot_of (run plan es) a).node) (sym (append_assoc (first ++ before) (Tick a now ∷ []) some ∙ append_assoc first before (Tick a now ∷ some))) ∙ up)

  -- ---- the law

  module _ (from wait : ℕ) (past : length script.phases + 8 ≤ from) (enough : 3 ≤ wait)
      (holds : (first mid rest : List Event) → lockstep_journal script ≡ first ++ (mid ++ rest) → from ≤ (progress script first).phase → (progress script first).phase + wait ≤ (progress script (first ++ mid)).phase → RecoversNot script a first mid → HoldsWhole script.plan (run script.plan (first ++ mid)) a) where
    -- it recovered in between, so it began before
    met-before : (early piece last rest : List Event) (d : Event) (m : PlainNode) → lockstep_journal script ≡ early ++ (piece ++ d ∷ (last ++ rest)) → (progress script early).phase ≡ from → Begins script a (early ++ piece) d → from + wait + 4 ≤ (progress script ((early ++ piece) ++ d ∷ last)).phase →
        (slot_of (run script.plan ((early ++ piece) ++ d ∷ last)) a).node ≡ Some m → m.recovering ≡ true → Meets early piece → ⊥
    met-before early piece last rest d m is at h far up recovers meets =
        let point = early ++ meets.first in
        let late : length script.phases + 4 ≤ (progress script early).phase = soon (progress script early).phase at in
        let parts : piece ++ d ∷ (last ++ rest) ≡ meets.first ++ ((meets.last ++ d ∷ last) ++ rest) =
        ap (λ (es : List Event). es ++ d ∷ (last ++ rest)) meets.is ∙ append_assoc meets.first meets.last (d ∷ (last ++ rest)) ∙ ap (λ (es : List Event). meets.first ++ es) (sym (append_assoc meets.last (d ∷ last) rest)) in
        let is_first : lockstep_journal script ≡ early ++ (meets.first ++ ((meets.last ++ d ∷ last) ++ rest)) = is ∙ ap (λ (es : List Event). early ++ es) parts in
        let is_point : lockstep_journal script ≡ point ++ ((meets.last ++ d ∷ last) ++ rest) = is_first ∙ sym (append_assoc early meets.first ((meets.last ++ d ∷ last) ++ rest)) in
        let whole : point ++ (meets.last ++ d ∷ last) ≡ (early ++ piece) ++ d ∷ last =
        sym (append_assoc point meets.last (d ∷ last)) ∙ ap (λ (es : List Event). es ++ d ∷ last) (append_assoc early meets.first meets.last ∙ ap (λ (es : List Event). early ++ es) (sym meets.is)) in
        let low = phase-through from early meets.first ((meets.last ++ d ∷ last) ++ rest) is_first (from-there (progress script early).phase at) in
        let few = together script can well keeps a g r role_a point (meets.last ++ d ∷ last) rest meets.node m is_point (old (progress script point).phase low) meets.up meets.recovers (same-up script can well keeps a g r role_a (point ++ (meets.last ++ d ∷ last)) ((early ++ piece) ++ d ∷ last) m whole up) recovers in
        let far_point : from + wait + 4 ≤ (progress script (point ++ (meets.last ++ d ∷ last))).phase = subst (λ (es : List Event). from + wait + 4 ≤ (progress script es).phase) (sym whole) far in
        let b = again script can well keeps a g r role_a early meets.first ((meets.last ++ d ∷ last) ++ rest) meets.node is_first late (long (progress script early).phase (progress script point).phase (progress script (point ++ (meets.last ++ d ∷ last))).phase at few far_point) meets.up meets.recovers in
        let before = early ++ b.first in
        let all : (before ++ b.event ∷ []) ++ (b.last ++ meets.last) ≡ early ++ piece =
        regroup early b.first b.event b.last meets.last ∙ ap (λ (es : List Event). early ++ (es ++ meets.last)) (sym b.is) ∙ ap (λ (es : List Event). early ++ es) (sym meets.is) in
        let journal : lockstep_journal script ≡ before ++ b.event ∷ ((b.last ++ meets.last) ++ d ∷ (last ++ rest)) =
        is ∙ sym (append_assoc early piece (d ∷ (last ++ rest))) ∙ ap (λ (es : List Event). es ++ d ∷ (last ++ rest)) (sym all) ∙ append_assoc (before ++ b.event ∷ []) (b.last ++ meets.last) (d ∷ (last ++ rest)) ∙ append_assoc before (b.event ∷ []) ((b.last ++ meets.last) ++ d ∷ (last ++ rest)) in
        let late_before = late-through script can well keeps a g r role_a early b.first (b.event ∷ ((b.last ++ meets.last) ++ d ∷ (last ++ rest))) (journal ∙ append_assoc early b.first (b.event ∷ ((b.last ++ meets.last) ++ d ∷ (last ++ rest)))) late in
        begins-once script can well keeps a g r role_a before (b.last ++ meets.last) (last ++ rest) b.event d journal late_before b.begins (same-begins script can well keeps a g r role_a ((before ++ b.event ∷ []) ++ (b.last ++ meets.last)) (early ++ piece) d all h)
      where
        soon : (p : ℕ) → p ≡ from → length script.phases + 4 ≤ p
        soon p at = omega (arith, at, past)

        old : (p : ℕ) → from ≤ p → length script.phases + 8 ≤ p
        old p low = omega (arith, low, past)

        from-there : (p : ℕ) → p ≡ from → from ≤ p
        from-there p at = omega (arith, at)

        long : (p q s : ℕ) → p ≡ from → s ≤ q + 3 → from + wait + 4 ≤ s → p + 3 < q
        long p q s at few far = omega (arith, at, few, far, enough)

    -- a beginning so late is of one that holds whole streams, or the second one
    late-beginning : (done last rest : List Event) (d : Event) (m : PlainNode) → lockstep_journal script ≡ done ++ d ∷ (last ++ rest) → from + wait ≤ (progress script done).phase → Begins script a done d → from + wait + 4 ≤ (progress script (done ++ d ∷ last)).phase → (slot_of (run script.plan (done ++ d ∷ last)) a).node ≡ Some m → m.recovering ≡ true → ⊥
    late-beginning done last rest d m is low h far up recovers = by-point (at-phase script can well keeps a g r role_a from [] done (d ∷ (last ++ rest)) is (none-opened script from) (omega (arith, low)))
      where
        by-point : AtPhase script can well keeps a g r role_a from [] done → ⊥
        by-point e =
            let same : done ≡ e.first ++ e.last = e.is in
            let is_e : lockstep_journal script ≡ e.first ++ (e.last ++ d ∷ (last ++ rest)) = is ∙ ap (λ (es : List Event). es ++ d ∷ (last ++ rest)) same ∙ append_assoc e.first e.last (d ∷ (last ++ rest)) in
            let late : length script.phases + 4 ≤ (progress script e.first).phase = soon (progress script e.first).phase e.at in
            let begins = same-begins script can well keeps a g r role_a (e.first ++ e.last) done d (sym same) h in
            let low_e : from + wait ≤ (progress script (e.first ++ e.last)).phase = subst (λ (es : List Event). from + wait ≤ (progress script es).phase) same low in
            let long = waited (progress script e.first).phase (progress script (e.first ++ e.last)).phase e.at low_e in
            elim (rests-or e.first e.last (d ∷ (last ++ rest)) is_e late) [
              | inl none ↦ holder-begins e.first e.last (last ++ rest) d is_e late (two (progress script e.first).phase (progress script (e.first ++ e.last)).phase long) none (holds e.first e.last (d ∷ (last ++ rest)) is_e (from-there (progress script e.first).phase e.at) long none) begins
              | inr meets ↦
                  met-before e.first e.last last rest d m is_e e.at begins (subst (λ (es : List Event). from + wait + 4 ≤ (progress script (es ++ d ∷ last)).phase) same far)
                  (same-up script can well keeps a g r role_a ((e.first ++ e.last) ++ d ∷ last) (done ++ d ∷ last) m (ap (λ (es : List Event). es ++ d ∷ last) (sym same)) up) recovers meets
            ]
          where
            soon : (p : ℕ) → p ≡ from → length script.phases + 4 ≤ p
            soon p at = omega (arith, at, past)

            from-there : (p : ℕ) → p ≡ from → from ≤ p
            from-there p at = omega (arith, at)

            waited : (p q : ℕ) → p ≡ from → from + wait ≤ q → p + wait ≤ q
            waited p q at low = omega (arith, at, low)

            two : (p q : ℕ) → p + wait ≤ q → p + 2 ≤ q
            two p q long = omega (arith, long, enough)

    never : (done rest : List Event) (m : PlainNode) → lockstep_journal script ≡ done ++ rest → from + wait + 4 ≤ (progress script done).phase → (slot_of (run script.plan done) a).node ≡ Some m → m.recovering ≡ true → ⊥
    never done rest m is far up recovers = by-first (at-phase script can well keeps a g r role_a (from + wait) [] done rest is (none-opened script (from + wait)) (omega (arith, far)))
      where
        soon : (p : ℕ) → p ≡ from + wait → length script.phases + 4 ≤ p
        soon p at = omega (arith, at, past)

        far-off : (p : ℕ) → p ≡ from + wait → p + 3 < (progress script done).phase
        far-off p at = omega (arith, at, far)

        there : (p : ℕ) → p ≡ from + wait → from + wait ≤ p
        there p at = omega (arith, at)

        by-first : AtPhase script can well keeps a g r role_a (from + wait) [] done → ⊥
        by-first e =
            let is_e : lockstep_journal script ≡ e.first ++ (e.last ++ rest) = is ∙ ap (λ (es : List Event). es ++ rest) e.is ∙ append_assoc e.first e.last rest in
            let long : (progress script e.first).phase + 3 < (progress script (e.first ++ e.last)).phase = subst (λ (es : List Event). (progress script e.first).phase + 3 < (progress script es).phase) e.is (far-off (progress script e.first).phase e.at) in
            let b = again script can well keeps a g r role_a e.first e.last rest m is_e (soon (progress script e.first).phase e.at) long (same-up script can well keeps a g r role_a (e.first ++ e.last) done m (sym e.is) up) recovers in
            let done_is : (e.first ++ b.first) ++ b.event ∷ b.last ≡ done = append_assoc e.first b.first (b.event ∷ b.last) ∙ ap (λ (es : List Event). e.first ++ es) (sym b.is) ∙ sym e.is in
            let parts : lockstep_journal script ≡ (e.first ++ b.first) ++ b.event ∷ (b.last ++ rest) = is ∙ ap (λ (es : List Event). es ++ rest) (sym done_is) ∙ append_assoc (e.first ++ b.first) (b.event ∷ b.last) rest in
            late-beginning (e.first ++ b.first) b.last rest b.event m parts (phase-through (from + wait) e.first b.first (b.event ∷ (b.last ++ rest)) (parts ∙ append_assoc e.first b.first (b.event ∷ (b.last ++ rest))) (there (progress script e.first).phase e.at)) b.begins
            (subst (λ (es : List Event). from + wait + 4 ≤ (progress script es).phase) (sym done_is) far) (same-up script can well keeps a g r role_a ((e.first ++ b.first) ++ b.event ∷ b.last) done m done_is up) recovers

pub rests-once-whole : (script : Script) → RestsOnceWhole script
rests-once-whole script can well keeps a g r from wait role_a past enough holds done rest m is far up =
    (elim m.recovering as (λ c. m.recovering ≡ c → c ≡ false) [
      | false ↦ λ e. refl
      | true ↦ λ e. absurd (never script can well keeps a g r role_a from wait past enough holds done rest m is far up e)
    ]) refl
