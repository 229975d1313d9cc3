-- By the number of replicas that are UP_FAILURE: all of a fragment's replicas finish.
use Rattle.std.proofs.Common.{◌≡◌, ℕ, zero, suc, ◌+◌, ◌*◌, ◌<◌, ◌≤◌, Bool, true, false, List, ◌++◌, length, refl, sym, ap, subst, ◌∙◌, arith, ◌⊎◌, inl, inr}
use Rattle.std.proofs.lemmas.List.{append_assoc}
use Rattle.dpc_model.specs.Granting.{Key}
use Rattle.dpc_model.specs.NodeStates.{is_up_failure}
use Rattle.dpc_model.specs.declared.messages.Event.{Event}
use Rattle.dpc_model.specs.declared.scripts.Script.{Script}
use Rattle.dpc_lists.proofs.Truths.{not-both}
use Rattle.dpc_lists.proofs.Somes.{some-same}
use Rattle.node_model.specs.Nodes.{PlainNode}
use Rattle.world_model.specs.Worlds.{home_of, run}
use Rattle.world_model.specs.Schedules.{progress, is_live_so_far, settling_phases}
use Rattle.world_model.specs.Steady.{OpensWell}
use Rattle.law_safety.proofs.Numbering.{replica-at}
use Rattle.law_granting.proofs.Keys.{key-refl}
use Rattle.law_schedules.specs.Journals.{phases_in}
use Rattle.law_schedules.proofs.Journals.{live-far, prefix-live, phases-counted}
use Rattle.law_readers.specs.Settling.{CanSettle}
use Rattle.law_settling.specs.Rests.{AllRestPast}
use Rattle.law_settling.specs.Finished.{IsFinished}
use Rattle.law_settling.specs.Entered.{IsReplicaOf, AreWhole, AreFailingOrDone, OversAreKnown, EnteredBetween, finishing_phases, RestingReplicasFinish, ReplicasFinish}
use Rattle.law_settling.proofs.Bounded.{first-of, count-low, count-grows}
use Rattle.law_settling.proofs.Fellows.{many_replicas}
use Rattle.law_settling.proofs.Replicas.{number-low}
use Rattle.law_settling.proofs.Knowing.{Knows}
use Rattle.law_settling.proofs.Ending.{known-late}
use Rattle.law_settling.proofs.Moving.{IsReplica, pick}
use Rattle.law_settling.proofs.Resting.{same-replica}
use Rattle.law_settling.proofs.Steadily.{steady-all-rest}
use Rattle.law_settling.proofs.Reentering.{replica-there, replica-back, one-resting-enters}
use Rattle.law_settling.proofs.Onward.{phases-add, cut-phases, IsDone, IsLike, done-kept, like-kept, point-later, kept-later}
use Rattle.law_settling.proofs.AllFinish.{fails_at, fails-is, Point, fails, good-at, later-is, was-failing, fails-low, fewer-or, finished-now, none-fail, AllDone}

module _ (script : Script) (events before : List Event) (f : ℕ) (can : CanSettle script) (live : is_live_so_far script events ≡ true) (well : OpensWell script events) (floor : ℕ) (past_floor : length script.phases < floor) (rests : AllRestPast script events f floor)
    (wholes : (done more : List Event) → events ≡ done ++ more → length before ≤ length done → AreWhole script.plan (run script.plan done) f) where
  abbrev At : List Event → Type 0
  At done = Point script events before f can live well floor past_floor rests wholes done

  abbrev Finished : List Event → Type 0
  Finished done = AllDone script events before f can live well floor past_floor rests wholes done

  abbrev failing : List Event → ℕ
  failing done = fails script events before f can live well floor past_floor rests wholes done

  counted : (done rest : List Event) → events ≡ done ++ rest → (progress script done).phase ≡ phases_in done
  counted done rest is = phases-counted script done (prefix-live script done rest (subst (λ (es : List Event). is_live_so_far script es ≡ true) is live))

  there-of : (done : List Event) (b q : ℕ) (n : PlainNode) → IsReplica script f (progress script done) b q n → IsReplicaOf script.plan (run script.plan done) f b q n
  there-of done b q n at = replica-there script events before f can live well floor past_floor rests wholes done b q n at

  back-of : (done : List Event) (b q : ℕ) (n : PlainNode) → IsReplicaOf script.plan (run script.plan done) f b q n → IsReplica script f (progress script done) b q n
  back-of done b q n at = replica-back script events before f can live well floor past_floor rests wholes done b q n at

  -- three phases on each has heard of the others' asks that are over
  known-now : (done mid rest : List Event) → events ≡ done ++ (mid ++ rest) → At done → 3 ≤ phases_in mid →
      ((b q : ℕ) (n : PlainNode) → IsReplicaOf script.plan (run script.plan done) f b q n → fails_at script f (progress script (done ++ mid)) q ≡ false → IsFinished (home_of script.plan (f, q)) n) → OversAreKnown script.plan (run script.plan (done ++ mid)) f
  known-now done mid rest is point some finished a q n b r m at_n at_m apart =
      let good = good-at script events before f can live well floor past_floor rests wholes done (mid ++ rest) is point in
      let p = pick script f (progress script done) q good (number-low script.plan a f q q at_n.role) in
      let one : p.0 ≡ a = sym (replica-at script.plan p.0 f q p.2.role) ∙ replica-at script.plan a f q at_n.role in
      let old : IsReplica script f (progress script done) a q p.1 = subst (λ (i : ℕ). IsReplica script f (progress script done) i q p.1) one p.2 in
      let key : Key = (p.1.grants.inc, p.1.grants.over) in
      let far = point.far in
      let whole : events ≡ (done ++ mid) ++ rest = is ∙ sym (append_assoc done mid rest) in
      let count_1 = counted done (mid ++ rest) is in
      let count_2 = counted (done ++ mid) rest whole in
      let sum = phases-add done mid in
      let known = known-late script events can live well a b f q r key at_n.role at_m.role apart (progress script done).phase (omega (arith, far, past_floor)) done mid rest is refl (record { node = p.1; up = old.up; over = key-refl key }) (omega (arith, count_1, count_2, sum, some)) in
      let it : known.node ≡ m = some-same known.node m (sym known.up ∙ (back-of (done ++ mid) b r m at_m).up) in
      let knows : Knows q key m.grants = subst (λ (y : PlainNode). Knows q key y.grants) it known.knows in
      let same = same-ask p.1 old (fails_at script f (progress script (done ++ mid)) q) refl in
      subst (λ (i : ℕ). Knows q (i, n.grants.over) m.grants) (sym same.0) (subst (λ (o : ℕ). Knows q (p.1.grants.inc, o) m.grants) (sym same.1) knows)
    where
      same-ask : (n1 : PlainNode) → IsReplica script f (progress script done) a q n1 → (c : Bool) → fails_at script f (progress script (done ++ mid)) q ≡ c → (n.grants.inc ≡ n1.grants.inc) × (n.grants.over ≡ n1.grants.over)
      same-ask n1 old true e =
          let h = kept-later script events before f can live well floor past_floor rests wholes (IsLike script f a q n1.grants.inc n1.grants.over) (like-kept script f a q n1.grants.inc n1.grants.over) (λ z x. record { node = x.node; replica = record { role = x.replica.role; up = x.replica.up }; like = x.like }) done mid rest is point
          (record { node = n1; replica = old; like = inr (refl, refl) }) in
          let it = (same-replica script f (progress script (done ++ mid)) a a q h.node n h.replica (back-of (done ++ mid) a q n at_n)).1 in
          elim h.like [
            | inl fine ↦ absurd (not-both (is_up_failure h.node.state) (fails-is script f (progress script (done ++ mid)) a q h.node h.replica ∙ e) fine)
            | inr same ↦ (ap (λ (y : PlainNode). y.grants.inc) it ∙ same.0, ap (λ (y : PlainNode). y.grants.over) it ∙ same.1)
          ]
      same-ask n1 old false e =
          let cursor = (finished a q n1 (there-of done a q n1 old) e).cursor in
          let h = kept-later script events before f can live well floor past_floor rests wholes (IsDone script f a q n1.grants.inc n1.grants.over) (done-kept script f a q n1.grants.inc n1.grants.over) (λ z x. record { node = x.node; replica = record { role = x.replica.role; up = x.replica.up }; past = x.past; inc = x.inc; over = x.over }) done mid rest is point
          (record { node = n1; replica = old; past = omega (arith, cursor); inc = refl; over = refl }) in
          let it = (same-replica script f (progress script (done ++ mid)) a a q h.node n h.replica (back-of (done ++ mid) a q n at_n)).1 in
          (ap (λ (y : PlainNode). y.grants.inc) it ∙ h.inc, ap (λ (y : PlainNode). y.grants.over) it ∙ h.over)

  -- a part of the rest
  parted : (done one two rest : List Event) → events ≡ done ++ ((one ++ two) ++ rest) → events ≡ done ++ (one ++ (two ++ rest))
  parted done one two rest is = is ∙ ap (λ (es : List Event). done ++ es) (append_assoc one two rest)

  moved-on : (done one two rest : List Event) → events ≡ done ++ ((one ++ two) ++ rest) → At done → At (done ++ one)
  moved-on done one two rest is point = point-later script events before f can live well floor past_floor rests wholes done one (two ++ rest) (parted done one two rest is) point

  onward : (done one two rest : List Event) → events ≡ done ++ ((one ++ two) ++ rest) → events ≡ (done ++ one) ++ (two ++ rest)
  onward done one two rest is = later-is script events before f can live well floor past_floor rests wholes done one two rest is

  off-before : (x y : Bool) → (x ≡ true → y ≡ true) → y ≡ false → x ≡ false
  off-before false y h e = refl
  off-before true y h e = absurd (not-both y (h refl) e)

  sort : {F : Type 0} {x : Bool} (c : Bool) → x ≡ c → (x ≡ false → F) → (x ≡ true) ⊎ F
  sort true e h = inl e
  sort false e h = inr (h e)

  -- where the same ones are UP_FAILURE as two phases before, the others have finished
  sorted-now : (done one two rest : List Event) → events ≡ done ++ ((one ++ two) ++ rest) → At done → 2 ≤ phases_in one → ((q : ℕ) → q < many_replicas script.plan f → fails_at script f (progress script ((done ++ one) ++ two)) q ≡ false → fails_at script f (progress script done) q ≡ false) →
      AreFailingOrDone script.plan (run script.plan ((done ++ one) ++ two)) f
  sorted-now done one two rest is point some was b q n at =
      let sum = phases-add one two in
      let low = number-low script.plan b f q q at.role in
      sort (is_up_failure n.state) refl (λ off.
      finished-now script events before f can live well floor past_floor rests wholes done (one ++ two) rest is point (omega (arith, sum, some)) b q n (subst (λ (es : List Event). IsReplicaOf script.plan (run script.plan es) f b q n) (append_assoc done one two) at)
      (was q low (sym (fails-is script f (progress script ((done ++ one) ++ two)) b q n (back-of ((done ++ one) ++ two) b q n at)) ∙ off)))

  -- one less is UP_FAILURE
  one-less : (done mid rest : List Event) → events ≡ done ++ (mid ++ rest) → At done → 3 * many_replicas script.plan f + 4 ≤ phases_in mid → AreFailingOrDone script.plan (run script.plan done) f → OversAreKnown script.plan (run script.plan done) f →
      (q : ℕ) → q < many_replicas script.plan f → fails_at script f (progress script done) q ≡ true → failing (done ++ mid) < failing done
  one-less done mid rest is point some sorted known q low on =
      let n = pick script f (progress script done) q (good-at script events before f can live well floor past_floor rests wholes done (mid ++ rest) is point) low in
      let failed : is_up_failure n.1.state ≡ true = fails-is script f (progress script done) n.0 q n.1 n.2 ∙ on in
      let far = point.far in
      let number = counted done (mid ++ rest) is in
      let sum = phases-add done mid in
      let long = point.long in
      by-entered (one-resting-enters script events can live well done mid rest f floor is past_floor rests (omega (arith, far, number)) (omega (arith, sum, some)) (λ es more at h. wholes es more at (omega (arith, h, long))) sorted known n.0 q n.1 (there-of done n.0 q n.1 n.2) failed)
    where
      by-entered : EnteredBetween script.plan (run script.plan done) (run script.plan (done ++ mid)) f → failing (done ++ mid) < failing done
      by-entered out =
          let new = back-of (done ++ mid) out.actor out.number out.new out.is in
          let old = back-of done out.actor out.number out.old out.was in
          count-grows (fails_at script f (progress script (done ++ mid))) (fails_at script f (progress script done)) (many_replicas script.plan f) out.number (λ j few in_it. was-failing script events before f can live well floor past_floor rests wholes done mid rest is point j few in_it) (number-low script.plan out.actor f out.number out.number new.role)
          (sym (fails-is script f (progress script (done ++ mid)) out.actor out.number out.new new) ∙ out.fine) (sym (fails-is script f (progress script done) out.actor out.number out.old old) ∙ out.failed)

  third-step : (u : ℕ) (done one two rest : List Event) → events ≡ done ++ ((one ++ two) ++ rest) → At done → failing done ≤ suc u → 3 * many_replicas script.plan f + 4 ≤ phases_in one → 2 ≤ phases_in two →
      AreFailingOrDone script.plan (run script.plan done) f → OversAreKnown script.plan (run script.plan done) f → (At (done ++ one) → failing (done ++ one) ≤ u → Finished ((done ++ one) ++ two)) → Finished (done ++ (one ++ two))
  third-step u done one two rest is point few long some sorted known rec =
      elim (first-of (fails_at script f (progress script done)) (many_replicas script.plan f)) [
        | inr none ↦ let sum = phases-add one two in none-fail script events before f can live well floor past_floor rests wholes done (one ++ two) rest is point (omega (arith, sum, some)) none
        | inl l ↦
            let less = one-less done one (two ++ rest) (parted done one two rest is) point long sorted known l.0 l.1.low l.1.passes in
            subst Finished (append_assoc done one two) (rec (moved-on done one two rest is point) (omega (arith, less, few)))
      ]

  -- ---- by the number of those that are UP_FAILURE

  second-step : (u : ℕ) (done one two three last rest : List Event) → events ≡ done ++ ((one ++ (two ++ (three ++ last))) ++ rest) → At done → failing done ≤ suc u → 2 ≤ phases_in one → 3 ≤ phases_in two → 3 * many_replicas script.plan f + 4 ≤ phases_in three → 2 ≤ phases_in last →
      ((d m : List Event) → events ≡ d ++ (m ++ rest) → At d → failing d ≤ u → phases_in last ≤ phases_in m → Finished (d ++ m)) → Finished (done ++ (one ++ (two ++ (three ++ last))))
  second-step u done one two three last rest is point few long_1 long_2 long_3 long_4 rec =
      let part_1 = two ++ (three ++ last) in
      let part_2 = three ++ last in
      let is_1 = onward done one part_1 rest is in
      let point_1 = moved-on done one part_1 rest is point in
      let is_2 = onward (done ++ one) two part_2 rest is_1 in
      let point_2 = moved-on (done ++ one) two part_2 rest is_1 point_1 in
      let is_3 = onward ((done ++ one) ++ two) three last rest is_2 in
      let sum_1 = phases-add two part_2 in
      let sum_2 = phases-add three last in
      let low_1 = fails-low script events before f can live well floor past_floor rests wholes done one (part_1 ++ rest) (parted done one part_1 rest is) point in
      let low_2 = fails-low script events before f can live well floor past_floor rests wholes (done ++ one) two (part_2 ++ rest) (parted (done ++ one) two part_2 rest is_1) point_1 in
      subst Finished (append_assoc done one part_1) (elim (fewer-or script events before f can live well floor past_floor rests wholes done one (part_1 ++ rest) (parted done one part_1 rest is) point) [
        | inr less ↦ rec (done ++ one) part_1 is_1 point_1 (omega (arith, less, few)) (omega (arith, sum_1, sum_2))
        | inl still_1 ↦ subst Finished (append_assoc (done ++ one) two part_2) (elim (fewer-or script events before f can live well floor past_floor rests wholes (done ++ one) two (part_2 ++ rest) (parted (done ++ one) two part_2 rest is_1) point_1) [
          | inr less ↦ rec ((done ++ one) ++ two) part_2 is_2 point_2 (omega (arith, less, low_1, few)) (omega (arith, sum_2))
          | inl still_2 ↦
              let was : (q : ℕ) → q < many_replicas script.plan f → fails_at script f (progress script ((done ++ one) ++ two)) q ≡ false → fails_at script f (progress script done) q ≡ false =
              (λ (q : ℕ) (low : q < many_replicas script.plan f) (off : fails_at script f (progress script ((done ++ one) ++ two)) q ≡ false). off-before (fails_at script f (progress script done) q) (fails_at script f (progress script ((done ++ one) ++ two)) q) (λ on. still_2 q low (still_1 q low on)) off) in
              third-step u ((done ++ one) ++ two) three last rest is_2 point_2 (omega (arith, low_1, low_2, few)) long_3 long_4
              (sorted-now done one two (part_2 ++ rest) (both-parts is) point long_1 was)
              (known-now (done ++ one) two (part_2 ++ rest) (parted (done ++ one) two part_2 rest is_1) point_1 long_2 (λ b q n at off. finished-now script events before f can live well floor past_floor rests wholes done one (part_1 ++ rest) (parted done one part_1 rest is) point long_1 b q n at (was q (number-low script.plan b f q q at.role) off)))
              (λ at_3 fewer. rec (((done ++ one) ++ two) ++ three) last is_3 at_3 fewer (omega arith))
        ])
      ])
    where
      both-parts : events ≡ done ++ ((one ++ (two ++ (three ++ last))) ++ rest) → events ≡ done ++ ((one ++ two) ++ ((three ++ last) ++ rest))
      both-parts at = at ∙ ap (λ (es : List Event). done ++ (es ++ rest)) (sym (append_assoc one two (three ++ last))) ∙ ap (λ (es : List Event). done ++ es) (append_assoc (one ++ two) (three ++ last) rest)

  all-done : (u : ℕ) (done mid rest : List Event) → events ≡ done ++ (mid ++ rest) → At done → failing done ≤ u → finishing_phases (many_replicas script.plan f) u ≤ phases_in mid → Finished (done ++ mid)
  all-done zero done mid rest is point few some =
      none-fail script events before f can live well floor past_floor rests wholes done mid rest is point some (λ q low. none-of q low (fails_at script f (progress script done) q) refl)
    where
      none-of : (q : ℕ) → q < many_replicas script.plan f → (c : Bool) → fails_at script f (progress script done) q ≡ c → fails_at script f (progress script done) q ≡ false
      none-of q low false e = e
      none-of q low true e = let more = count-grows (λ _. false) (fails_at script f (progress script done)) (many_replicas script.plan f) q (λ j l on. cc) low refl e in absurd (omega (arith, more, few))
  all-done (suc u) done mid rest is point few some =
      let c1 = cut-phases 2 mid (omega (arith, some)) in
      let size_1 = c1.3 in
      let sum_1 = phases-add c1.0 c1.1 in
      let same_1 = ap phases_in c1.2 in
      let c2 = cut-phases 3 c1.1 (omega (arith, some, size_1, sum_1, same_1)) in
      let size_2 = c2.3 in
      let sum_2 = phases-add c2.0 c2.1 in
      let same_2 = ap phases_in c2.2 in
      let c3 = cut-phases (3 * many_replicas script.plan f + 4) c2.1 (omega (arith, some, size_1, sum_1, same_1, size_2, sum_2, same_2)) in
      let size_3 = c3.3 in
      let sum_3 = phases-add c3.0 c3.1 in
      let same_3 = ap phases_in c3.2 in
      let two = least-phases (many_replicas script.plan f) u in
      let parts : mid ≡ c1.0 ++ (c2.0 ++ (c3.0 ++ c3.1)) = c1.2 ∙ ap (λ (es : List Event). c1.0 ++ es) (c2.2 ∙ ap (λ (es : List Event). c2.0 ++ es) c3.2) in
      let left : finishing_phases (many_replicas script.plan f) u ≤ phases_in c3.1 = omega (arith, some, size_1, sum_1, same_1, size_2, sum_2, same_2, size_3, sum_3, same_3) in
      subst (λ (es : List Event). Finished (done ++ es)) (sym parts)
      (second-step u done c1.0 c2.0 c3.0 c3.1 rest (is ∙ ap (λ (es : List Event). done ++ (es ++ rest)) parts) point few (omega (arith, size_1)) (omega (arith, size_2)) (omega (arith, size_3)) (omega (arith, two, left))
      (λ d m at p less far. all-done u d m rest at p less (omega (arith, far, left))))
    where
      least-phases : (m v : ℕ) → 2 ≤ finishing_phases m v
      least-phases m zero = omega arith
      least-phases m (suc v) = let rest_of = least-phases m v in omega (arith, rest_of)

pub resting-finish : (script : Script) (events : List Event) → RestingReplicasFinish script events
resting-finish script events can live well before mid rest f floor is past_floor rests late far wholes =
    let count_before = phases-counted script before (prefix-live script before (mid ++ rest) (subst (λ (es : List Event). is_live_so_far script es ≡ true) is live)) in
    let sum = phases-add before mid in
    let low = count-low (fails_at script f (progress script before)) (many_replicas script.plan f) in
    all-done script events before f can live well floor past_floor rests wholes (many_replicas script.plan f) before mid rest is (record { long = omega arith; far = omega (arith, late, count_before) }) low (omega (arith, far, sum))

pub replicas-finish : (script : Script) (events : List Event) → ReplicasFinish script events
replicas-finish script events can lives well steady before mid rest f is late far wholes =
    let so_far = live-far script events lives in
    resting-finish script events can so_far well before mid rest f (length script.phases + settling_phases) is (omega arith) (steady-all-rest script events so_far steady f) late far wholes
