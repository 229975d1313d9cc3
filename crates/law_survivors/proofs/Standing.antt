-- Who goes on from a snapshot that a spared replica of its fragment made in the fourth quiet phase or behind it, and ticks before it recovers
-- again, never recovers again.
use Rattle.std.proofs.Common.{◌≡◌, ℕ, ◌+◌, ◌≤◌, true, false, List, [], ◌∷◌, ◌++◌, length, refl, sym, ap, subst, ◌∙◌, Some, ◌⊎◌, inl, inr}
use Rattle.std.proofs.lemmas.List.{append-nil, append_assoc}
use Rattle.dpc_lists.specs.Lists.{nth}
use Rattle.dpc_lists.proofs.Somes.{some-same}
use Rattle.dpc_model.specs.Actors.{role_of}
use Rattle.dpc_model.specs.declared.actors.Role.TheVariants.{Node as IsNode}
use Rattle.dpc_model.specs.declared.messages.Event.{Event}
use Rattle.dpc_model.specs.declared.messages.Event.TheVariants.{Phase, Emit, Release, Cut, Heal, Crash, Restart, Deliver, Tick, Mill}
use Rattle.dpc_model.specs.declared.plans.Plan.{Plan}
use Rattle.dpc_model.specs.declared.scripts.Script.{Script}
use Rattle.node_model.specs.Nodes.{PlainNode}
use Rattle.world_model.specs.Worlds.{World, Envelope, slot_of, run}
use Rattle.world_model.specs.Schedules.{progress, is_live_so_far}
use Rattle.world_model.specs.Steady.{OpensWell}
use Rattle.world_model.proofs.Running.{run-push}
use Rattle.law_granting.proofs.Asked.{same-or}
use Rattle.law_readers.specs.Settling.{CanSettle}
use Rattle.law_settling.proofs.Along.{every-behind}
use Rattle.law_survivors.specs.Spared.{is_spared, RecoversNot, GoesOnFrom, StandsOnceTicked}
use Rattle.law_survivors.proofs.Good.{good-from}
use Rattle.law_survivors.proofs.Levels.{IsLevelIn}
use Rattle.law_survivors.proofs.Recovering.{node-at, later-on}
use Rattle.law_survivors.proofs.Resting.{IsResting, IsStanding, stands-on, rests-next, rests-ticks, adopted-rests}

-- a's tick, or another event
pub tick-or : (a : ℕ) (d : Event) → ((clock : ℕ) × (d ≡ Tick a clock)) ⊎ ((clock : ℕ) → d ≡ Tick a clock → ⊥)
tick-or a (Tick b now) =
    elim (same-or a b) [
      | inl same ↦ inl (now, ap (λ (z : ℕ). Tick z now) (sym same))
      | inr other ↦ inr (λ clock e. other (actor b now clock e))
    ]
  where
    actor : (b now clock : ℕ) → Tick b now ≡ Tick a clock → a ≡ b
    actor b now clock e = cc
tick-or a (Phase p) = inr (λ clock e. cc)
tick-or a (Emit s t) = inr (λ clock e. cc)
tick-or a (Release s t) = inr (λ clock e. cc)
tick-or a (Cut b c) = inr (λ clock e. cc)
tick-or a (Heal b c) = inr (λ clock e. cc)
tick-or a (Crash b) = inr (λ clock e. cc)
tick-or a (Restart b i) = inr (λ clock e. cc)
tick-or a (Deliver k) = inr (λ clock e. cc)
tick-or a (Mill b r) = inr (λ clock e. cc)

module _ (script : Script) (events : List Event) (can : CanSettle script) (live : is_live_so_far script events ≡ true) (well : OpensWell script events) (a g r : ℕ) (role_a : role_of script.plan a ≡ IsNode g r) where
  abbrev plan : Plan
  plan = script.plan

  abbrev Resting : ℕ → List Event → Type 0
  Resting inc done = IsResting script events can live well a g r role_a inc done

  abbrev Standing : ℕ → List Event → Type 0
  Standing inc done = IsStanding script events can live well a g r role_a inc done

  -- it went on from a good snapshot, and rests until its tick, or had it
  abbrev pub GoesWell : ℕ → List Event → Type 0
  GoesWell inc done = Resting inc done ⊎ Standing inc done

  well-late : (inc : ℕ) (done : List Event) → GoesWell inc done → length script.phases + 4 ≤ (progress script done).phase
  well-late inc done (inl h) = h.late
  well-late inc done (inr h) = h.late

  -- an event behind which it does not recover
  pub well-next : (inc : ℕ) (done rest : List Event) (d : Event) → events ≡ done ++ d ∷ rest → GoesWell inc done → ((m : PlainNode) → (slot_of (run plan (done ++ d ∷ [])) a).node ≡ Some m → m.recovering ≡ false) → GoesWell inc (done ++ d ∷ [])
  well-next inc done rest d is (inr h) none = inr (stands-on script events can live well a g r role_a done rest d is h.late inc h.kept)
  well-next inc done rest d is (inl h) none =
      elim (tick-or a d) [
        | inl (clock, event) ↦ inr (rests-ticks script events can live well a g r role_a done rest d is h.late inc clock event h)
        | inr apart ↦
            let node = node-at script events can live well a g r role_a (done ++ d ∷ []) rest (is ∙ sym (append_assoc done (d ∷ []) rest)) (later-on script events can live well a g r role_a done rest d is h.late) in
            inl (rests-next script events can live well a g r role_a done rest d is h.late inc h node.0 (ap (λ (v : World). (slot_of v a).node) (sym (run-push plan done d)) ∙ node.1) (none node.0 node.1) apart)
      ]

  shifted : (done piece : List Event) (d : Event) → RecoversNot script a done (d ∷ piece) → RecoversNot script a (done ++ d ∷ []) piece
  shifted done piece d none some rest m is up = none (d ∷ some) rest m (ap (λ (es : List Event). d ∷ es) is) (ap (λ (es : List Event). (slot_of (run plan es) a).node) (sym (append_assoc done (d ∷ []) some)) ∙ up)

  -- a piece in which it does not recover
  pub well-through : (inc : ℕ) (done piece rest : List Event) → events ≡ done ++ (piece ++ rest) → GoesWell inc done → RecoversNot script a done piece → GoesWell inc (done ++ piece)
  well-through inc done [] rest is h none = subst (λ (es : List Event). GoesWell inc es) (sym (append-nil done)) h
  well-through inc done (d ∷ piece) rest is h none =
      subst (λ (es : List Event). GoesWell inc es) (append_assoc done (d ∷ []) piece)
      (well-through inc (done ++ d ∷ []) piece rest (is ∙ sym (append_assoc done (d ∷ []) (piece ++ rest))) (well-next inc done (piece ++ rest) d is h (λ m up. none (d ∷ []) piece m refl up)) (shifted done piece d none))

  -- its tick
  pub well-ticks : (inc : ℕ) (done rest : List Event) (clock : ℕ) → events ≡ done ++ Tick a clock ∷ rest → GoesWell inc done → Standing inc (done ++ Tick a clock ∷ [])
  well-ticks inc done rest clock is (inl h) = rests-ticks script events can live well a g r role_a done rest (Tick a clock) is h.late inc clock refl h
  well-ticks inc done rest clock is (inr h) = stands-on script events can live well a g r role_a done rest (Tick a clock) is h.late inc h.kept

  -- behind it, it never recovers
  pub stands-through : (inc : ℕ) (done rest : List Event) → events ≡ done ++ rest → Standing inc done → RecoversNot script a done rest
  stands-through inc done rest is h some others m at up =
      let all = every-behind events done (λ (es : List Event). Standing inc es) h (λ before behind d e k. stands-on script events can live well a g r role_a before behind d e k.late inc k.kept) some others (is ∙ ap (λ (es : List Event). done ++ es) at) in
      ap (λ (y : PlainNode). y.recovering) (some-same m all.kept.stands.node (sym up ∙ all.kept.stands.up)) ∙ all.kept.stands.whole

  -- ---- beside a spared replica

  module _ (x b : ℕ) (role_x : role_of script.plan x ≡ IsNode g b) (spared : is_spared script x ≡ true) where
    pub goes-on : (early mid rest : List Event) (k : ℕ) → events ≡ (early ++ mid) ++ Deliver k ∷ rest → (h : GoesOnFrom script x a k early (early ++ mid)) → Resting h.before.grants.inc ((early ++ mid) ++ Deliver k ∷ [])
    goes-on early mid rest k is h =
        let good = good-from script events can live well x g b a r role_x spared role_a early mid (Deliver k ∷ rest) h.late (is ∙ append_assoc early mid (Deliver k ∷ rest)) in
        adopted-rests script events can live well a g r role_a (early ++ mid) rest k h.before h.after is good.late h.up h.recovered h.now h.whole
        (λ i try p f e s there to packet inc try_is port. subst (λ (j : ℕ). IsLevelIn (λ (i : ℕ). i ≡ j) plan a f (length (nth [] s.inputs p)) (run plan (early ++ mid))) inc
        (good.good k i try p f e s h.unsent there (ap (λ (z : Envelope). z.sender) (some-same e h.envelope (sym there ∙ h.there)) ∙ h.sender) to packet (record { node = h.before; up = h.up; recovers = h.recovered; inc = inc; try_is = try_is }) port))

-- ---- the law

pub stands-once-ticked : (script : Script) (events : List Event) → StandsOnceTicked script events
stands-once-ticked script events can live well x g b a r k now early mid until rest role_x spared role_a is h none =
    let done = (early ++ mid) ++ Deliver k ∷ [] in
    let rests = goes-on script events can live well a g r role_a x b role_x spared early mid (until ++ Tick a now ∷ rest) k is h in
    let at : events ≡ done ++ (until ++ Tick a now ∷ rest) = is ∙ sym (append_assoc (early ++ mid) (Deliver k ∷ []) (until ++ Tick a now ∷ rest)) in
    let before = well-through script events can live well a g r role_a h.before.grants.inc done until (Tick a now ∷ rest) at (inl rests) none in
    let at_tick : events ≡ (done ++ until) ++ Tick a now ∷ rest = at ∙ sym (append_assoc done until (Tick a now ∷ rest)) in
    let stands = well-ticks script events can live well a g r role_a h.before.grants.inc (done ++ until) rest now at_tick before in
    stands-through script events can live well a g r role_a h.before.grants.inc ((done ++ until) ++ Tick a now ∷ []) rest (at_tick ∙ sym (append_assoc (done ++ until) (Tick a now ∷ []) rest)) stands
