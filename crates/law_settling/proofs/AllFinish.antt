-- Replicas with whole inputs all finish: one after another enters, and has finished a phase later.
use Rattle.std.proofs.Common.{◌≡◌, ℕ, ◌<◌, ◌≤◌, Bool, true, false, List, [], ◌∷◌, ◌++◌, length, refl, sym, ap, subst, ◌∙◌, arith, Option, Some, None, ◌⊎◌, inl, inr}
use Rattle.std.proofs.lemmas.List.{append_assoc}
use Rattle.dpc_lists.specs.Lists.{nth, list_all}
use Rattle.dpc_model.specs.Actors.{replicas_of}
use Rattle.dpc_model.specs.NodeStates.{is_up_failure}
use Rattle.dpc_model.specs.declared.messages.Event.{Event}
use Rattle.dpc_model.specs.declared.messages.Event.TheVariants.{Phase, Emit, Release, Cut, Heal, Crash, Restart, Deliver, Tick, Mill}
use Rattle.dpc_model.specs.declared.scripts.Script.{Script}
use Rattle.dpc_lists.proofs.Truths.{not-both}
use Rattle.dpc_model.proofs.Alike.{phase-is}
use Rattle.dpc_lists.proofs.Somes.{some-same}
use Rattle.node_model.specs.Nodes.{PlainNode}
use Rattle.world_model.specs.Worlds.{World, home_of, slot_of, run}
use Rattle.world_model.specs.Schedules.{Progress, progress, is_live_so_far}
use Rattle.world_model.specs.Steady.{OpensWell}
use Rattle.law_safety.proofs.Numbering.{replica-at}
use Rattle.law_schedules.specs.Journals.{phases_in}
use Rattle.law_schedules.proofs.Journals.{progress-run}
use Rattle.law_readers.specs.Settling.{CanSettle}
use Rattle.world_model.specs.Events.{is_quiet}
use Rattle.law_settling.specs.Rests.{AllRestPast}
use Rattle.law_settling.specs.Finished.{IsFinished, FinishedAt}
use Rattle.law_settling.specs.Entered.{IsReplicaOf, AreWhole}
use Rattle.law_settling.proofs.Splitting.{opens}
use Rattle.law_settling.proofs.Along.{live-may}
use Rattle.law_settling.proofs.Bounded.{every-or, count, count-more, count-grows}
use Rattle.law_settling.proofs.Fellows.{many_replicas}
use Rattle.law_settling.proofs.Replicas.{number-low}
use Rattle.law_settling.proofs.Finishes.{resting-finishes}
use Rattle.law_settling.proofs.Moving.{IsReplica, IsWorking, pick}
use Rattle.law_settling.proofs.Resting.{same-replica}
use Rattle.law_settling.proofs.Onward.{phases-add, IsFine, fine-kept, IsPoint, point-later, at-point, kept-later, next-phase}

quiet-phases : (es : List Event) → list_all is_quiet es ≡ true → phases_in es ≡ 0
quiet-phases [] h = refl
quiet-phases (Phase p ∷ es) h = cc
quiet-phases (Emit s t ∷ es) h = cc
quiet-phases (Release s t ∷ es) h = cc
quiet-phases (Cut a b ∷ es) h = cc
quiet-phases (Heal a b ∷ es) h = cc
quiet-phases (Crash a ∷ es) h = cc
quiet-phases (Restart a i ∷ es) h = cc
quiet-phases (Deliver k ∷ es) h = quiet-phases es h
quiet-phases (Tick a now ∷ es) h = quiet-phases es h
quiet-phases (Mill a r ∷ es) h = quiet-phases es h

-- who is UP_FAILURE
abbrev pub fails_at : Script → ℕ → Progress → ℕ → Bool
fails_at script f z q = elim (slot_of z.world (nth 0 (replicas_of script.plan f) q)).node as (λ _. Bool) [ None ↦ false | Some n ↦ is_up_failure n.state ]

pub fails-is : (script : Script) (f : ℕ) (z : Progress) (b q : ℕ) (n : PlainNode) → IsReplica script f z b q n → is_up_failure n.state ≡ fails_at script f z q
fails-is script f z b q n at = sym (ap (λ (i : ℕ). elim (slot_of z.world i).node as (λ _. Bool) [ None ↦ false | Some n ↦ is_up_failure n.state ]) (replica-at script.plan b f q at.role) ∙ ap (λ (o : Option PlainNode). elim o as (λ _. Bool) [ None ↦ false | Some n ↦ is_up_failure n.state ]) at.up)

module _ (script : Script) (events before : List Event) (f : ℕ) (can : CanSettle script) (live : is_live_so_far script events ≡ true) (well : OpensWell script events) (floor : ℕ) (past_floor : length script.phases < floor) (rests : AllRestPast script events f floor)
    (wholes : (done more : List Event) → events ≡ done ++ more → length before ≤ length done → AreWhole script.plan (run script.plan done) f) where
  abbrev pub Point : List Event → Type 0
  Point done = IsPoint script events before f can live well floor past_floor rests wholes done

  abbrev pub fails : List Event → ℕ
  fails done = count (fails_at script f (progress script done)) (many_replicas script.plan f)

  pub good-at : (done rest : List Event) → events ≡ done ++ rest → Point done → IsWorking script f (progress script done)
  good-at done rest is point = at-point script events before f can live well floor past_floor rests wholes done rest is point

  pub later-is : (done one two rest : List Event) → events ≡ done ++ ((one ++ two) ++ rest) → events ≡ (done ++ one) ++ (two ++ rest)
  later-is done one two rest is = is ∙ ap (λ (es : List Event). done ++ es) (append_assoc one two rest) ∙ sym (append_assoc done one (two ++ rest))

  -- ---- fewer, or the same ones

  fine-later : (done mid rest : List Event) → events ≡ done ++ (mid ++ rest) → Point done → (b q : ℕ) (n m : PlainNode) → IsReplica script f (progress script done) b q n → IsReplica script f (progress script (done ++ mid)) b q m → is_up_failure n.state ≡ false → is_up_failure m.state ≡ false
  fine-later done mid rest is point b q n m at there fine =
      let h = kept-later script events before f can live well floor past_floor rests wholes (IsFine script f b q) (fine-kept script f b q) (λ z x. record { node = x.node; replica = record { role = x.replica.role; up = x.replica.up }; fine = x.fine }) done mid rest is point (record { node = n; replica = at; fine = fine }) in
      ap (λ (y : PlainNode). is_up_failure y.state) (same-replica script f (progress script (done ++ mid)) b b q h.node m h.replica there).1 ∙ h.fine

  pub was-failing : (done mid rest : List Event) → events ≡ done ++ (mid ++ rest) → Point done → (q : ℕ) → q < many_replicas script.plan f → fails_at script f (progress script (done ++ mid)) q ≡ true → fails_at script f (progress script done) q ≡ true
  was-failing done mid rest is point q low on =
      let whole : events ≡ (done ++ mid) ++ rest = is ∙ sym (append_assoc done mid rest) in
      let n = pick script f (progress script done) q (good-at done (mid ++ rest) is point) low in
      let m = pick script f (progress script (done ++ mid)) q (good-at (done ++ mid) rest whole (point-later script events before f can live well floor past_floor rests wholes done mid rest is point)) low in
      let one : m.0 ≡ n.0 = sym (replica-at script.plan m.0 f q m.2.role) ∙ replica-at script.plan n.0 f q n.2.role in
      let there : IsReplica script f (progress script (done ++ mid)) n.0 q m.1 = subst (λ (i : ℕ). IsReplica script f (progress script (done ++ mid)) i q m.1) one m.2 in
      by-old (fails_at script f (progress script done) q) refl n.0 n.1 m.1 n.2 there
    where
      by-old : (c : Bool) → fails_at script f (progress script done) q ≡ c → (b : ℕ) (n m : PlainNode) → IsReplica script f (progress script done) b q n → IsReplica script f (progress script (done ++ mid)) b q m → fails_at script f (progress script done) q ≡ true
      by-old true e b n m at there = e
      by-old false e b n m at there =
          let off = fine-later done mid rest is point b q n m at there (fails-is script f (progress script done) b q n at ∙ e) in
          absurd (not-both (is_up_failure m.state) (fails-is script f (progress script (done ++ mid)) b q m there ∙ on) off)

  pub fails-low : (done mid rest : List Event) → events ≡ done ++ (mid ++ rest) → Point done → fails (done ++ mid) ≤ fails done
  fails-low done mid rest is point = count-more (fails_at script f (progress script (done ++ mid))) (fails_at script f (progress script done)) (many_replicas script.plan f) (λ q low on. was-failing done mid rest is point q low on)

  pub fewer-or : (done mid rest : List Event) → events ≡ done ++ (mid ++ rest) → Point done → ((q : ℕ) → q < many_replicas script.plan f → fails_at script f (progress script done) q ≡ true → fails_at script f (progress script (done ++ mid)) q ≡ true) ⊎ (fails (done ++ mid) < fails done)
  fewer-or done mid rest is point =
      elim (every-or (λ q. fails_at script f (progress script done) q ≡ true → fails_at script f (progress script (done ++ mid)) q ≡ true) (λ q. (fails_at script f (progress script done) q ≡ true) × (fails_at script f (progress script (done ++ mid)) q ≡ false)) (many_replicas script.plan f) (λ q low. by-bits (fails_at script f (progress script done) q) (fails_at script f (progress script (done ++ mid)) q))) [
        | inl all ↦ inl all
        | inr one ↦ inr (count-grows (fails_at script f (progress script (done ++ mid))) (fails_at script f (progress script done)) (many_replicas script.plan f) one.0 (λ q low on. was-failing done mid rest is point q low on) one.1 one.2.1 one.2.0)
      ]
    where
      by-bits : (x y : Bool) → (x ≡ true → y ≡ true) ⊎ ((x ≡ true) × (y ≡ false))
      by-bits x true = inl (λ e. refl)
      by-bits true false = inr (refl, refl)
      by-bits false false = inl (λ e. e)

  -- ---- who is not UP_FAILURE finishes

  finish-one : (done mid rest : List Event) → events ≡ done ++ (mid ++ rest) → Point done → 2 ≤ phases_in mid → (b q : ℕ) (n : PlainNode) → IsReplica script f (progress script done) b q n → is_up_failure n.state ≡ false → FinishedAt script.plan (run script.plan (done ++ mid)) b f q
  finish-one done mid rest is point some b q n at fine =
      let one = next-phase script events before f can live well floor past_floor rests wholes done mid rest is point (omega (arith, some)) in
      let here = one.0 in
      let p = one.1 in
      let more = one.2 in
      let split = one.3 in
      let none = quiet-phases here one.4 in
      let sum = phases-add here (Phase p ∷ more) in
      let same = ap phases_in split in
      let is_here : events ≡ done ++ (here ++ ((Phase p ∷ more) ++ rest)) = is ∙ ap (λ (es : List Event). done ++ (es ++ rest)) split ∙ ap (λ (es : List Event). done ++ es) (append_assoc here (Phase p ∷ more) rest) in
      let d1 = done ++ here in
      let at_d1 : events ≡ d1 ++ (Phase p ∷ (more ++ rest)) = is_here ∙ sym (append_assoc done here (Phase p ∷ (more ++ rest))) in
      let point_1 = point-later script events before f can live well floor past_floor rests wholes done here ((Phase p ∷ more) ++ rest) is_here point in
      let number = (opens script (progress script d1) p (live-may script events d1 (more ++ rest) (Phase p) live at_d1)).0 in
      let d2 = d1 ++ Phase p ∷ [] in
      let point_2 = point-later script events before f can live well floor past_floor rests wholes d1 (Phase p ∷ []) (more ++ rest) at_d1 point_1 in
      let at_d2 : events ≡ d2 ++ (more ++ rest) = at_d1 ∙ sym (append_assoc d1 (Phase p ∷ []) (more ++ rest)) in
      let two = next-phase script events before f can live well floor past_floor rests wholes d2 more rest at_d2 point_2 (omega (arith, some, same, sum, none)) in
      let whole_is : events ≡ d1 ++ (Phase p ∷ (two.0 ++ Phase two.1 ∷ (two.2 ++ rest))) = at_d1 ∙ ap (λ (es : List Event). d1 ++ (Phase p ∷ es)) (ap (λ (es : List Event). es ++ rest) two.3 ∙ append_assoc two.0 (Phase two.1 ∷ two.2) rest) in
      let good_1 = good-at d1 (Phase p ∷ (more ++ rest)) at_d1 point_1 in
      let kept = kept-later script events before f can live well floor past_floor rests wholes (IsFine script f b q) (fine-kept script f b q) (λ z x. record { node = x.node; replica = record { role = x.replica.role; up = x.replica.up }; fine = x.fine }) done here ((Phase p ∷ more) ++ rest) is_here point (record { node = n; replica = at; fine = fine }) in
      let up : (slot_of (run script.plan d1) b).node ≡ Some kept.node = ap (λ (w : World). (slot_of w b).node) (sym (progress-run script d1)) ∙ kept.replica.up in
      let far = point_1.far in
      let phase = phase-is number in
      let out = resting-finishes script events can live well d1 two.0 two.2 rest p two.1 floor whole_is past_floor (omega (arith, far, phase)) two.4 b f q kept.node (rests b q at.role) at.role up (good_1.whole b q kept.node kept.replica) kept.fine in
      let list : d1 ++ (Phase p ∷ (two.0 ++ Phase two.1 ∷ two.2)) ≡ done ++ mid = append_assoc done here (Phase p ∷ (two.0 ++ Phase two.1 ∷ two.2)) ∙ ap (λ (es : List Event). done ++ (here ++ (Phase p ∷ es))) (sym two.3) ∙ ap (λ (es : List Event). done ++ es) (sym split) in
      subst (λ (es : List Event). FinishedAt script.plan (run script.plan es) b f q) list out

  abbrev pub AllDone : List Event → Type 0
  AllDone done = (b q : ℕ) (n : PlainNode) → IsReplicaOf script.plan (run script.plan done) f b q n → IsFinished (home_of script.plan (f, q)) n

  -- where it was not UP_FAILURE before
  pub finished-now : (done mid rest : List Event) → events ≡ done ++ (mid ++ rest) → Point done → 2 ≤ phases_in mid → (b q : ℕ) (m : PlainNode) → IsReplicaOf script.plan (run script.plan (done ++ mid)) f b q m → fails_at script f (progress script done) q ≡ false → IsFinished (home_of script.plan (f, q)) m
  finished-now done mid rest is point some b q m there off =
      let n = pick script f (progress script done) q (good-at done (mid ++ rest) is point) (number-low script.plan b f q q there.role) in
      let one : n.0 ≡ b = sym (replica-at script.plan n.0 f q n.2.role) ∙ replica-at script.plan b f q there.role in
      let at : IsReplica script f (progress script done) b q n.1 = subst (λ (i : ℕ). IsReplica script f (progress script done) i q n.1) one n.2 in
      let out = finish-one done mid rest is point some b q n.1 at (fails-is script f (progress script done) b q n.1 at ∙ off) in
      subst (λ (y : PlainNode). IsFinished (home_of script.plan (f, q)) y) (some-same out.node m (sym out.up ∙ there.up)) out.finished

  pub none-fail : (done mid rest : List Event) → events ≡ done ++ (mid ++ rest) → Point done → 2 ≤ phases_in mid → ((q : ℕ) → q < many_replicas script.plan f → fails_at script f (progress script done) q ≡ false) → AllDone (done ++ mid)
  none-fail done mid rest is point some off b q m there = finished-now done mid rest is point some b q m there (off q (number-low script.plan b f q q there.role))
