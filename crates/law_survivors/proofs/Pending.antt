-- In the one-thread journal an envelope comes in the phase behind the one in which it was sent, and in no other.
use Rattle.std.proofs.Common.{◌≡◌, ℕ, zero, suc, ◌+◌, ◌-◌, ◌/◌, ◌%◌, ◌<◌, ◌≤◌, Bool, true, false, cond, ◌==◌, List, [], ◌∷◌, ◌++◌, map, length, refl, sym, ap, subst, ◌∙◌, arith}
use Rattle.std.specs.Prelude.{reverse, fold, replicate, flat_map}
use Rattle.std.specs.List.{filter}
use Rattle.std.proofs.lemmas.Grind.{reverse_onto}
use Rattle.dpc_lists.specs.Lists.{range_with_len}
use Rattle.dpc_lists.proofs.Each.{Each, each-append}
use Rattle.dpc_model.specs.Limits.{most_milled}
use Rattle.dpc_model.specs.declared.messages.Event.{Event}
use Rattle.dpc_model.specs.declared.messages.Event.TheVariants.{Phase, Emit, Release, Cut, Heal, Crash, Restart, Deliver, Tick, Mill}
use Rattle.dpc_model.specs.declared.plans.Plan.{Plan}
use Rattle.dpc_model.specs.declared.scripts.Directive.{Directive}
use Rattle.dpc_model.specs.declared.scripts.Directive.TheVariants as directive
use Rattle.dpc_model.specs.declared.scripts.Phase.{Phase as PhaseSpec}
use Rattle.dpc_model.specs.declared.scripts.Script.{Script}
use Rattle.world_model.specs.Worlds.{World, slot_of, ready_at, is_up, happens, run_from, run, new_world, all_settled}
use Rattle.world_model.specs.Schedules.{Told, tell, tell_all, tell_directive, mill_events, deliveries_of, actors_of, tell_phase, tell_phases, tell_quiet, last_clock, quiet_limit, lockstep, lockstep_journal}
use Rattle.law_settling_readers.proofs.Comings.{run-is}

-- ---- marks

-- the numbers of envelopes that were sent when the phase before the present one opened, and when the present one did
abbrev pub marks_by : World → ℕ × ℕ → Event → ℕ × ℕ
marks_by w m (Phase p) = (m.1, length w.envelopes)
marks_by w m (Emit s t) = m
marks_by w m (Release s t) = m
marks_by w m (Cut a b) = m
marks_by w m (Heal a b) = m
marks_by w m (Crash a) = m
marks_by w m (Restart a i) = m
marks_by w m (Deliver k) = m
marks_by w m (Tick a now) = m
marks_by w m (Mill a r) = m

abbrev pub marks_from : World → ℕ × ℕ → List Event → ℕ × ℕ
marks_from w m [] = m
marks_from w m (e ∷ es) = marks_from (happens w e) (marks_by w m e) es

abbrev pub marks : Plan → List Event → ℕ × ℕ
marks plan events = marks_from (new_world plan) (0, 0) events

marks-later : (w : World) (m : ℕ × ℕ) (es : List Event) (e : Event) → marks_from w m (es ++ e ∷ []) ≡ marks_by (run_from w es) (marks_from w m es) e
marks-later w m [] e = refl
marks-later w m (d ∷ es) e = marks-later (happens w d) (marks_by w m d) es e

pub marks-push : (plan : Plan) (es : List Event) (e : Event) → marks plan (es ++ e ∷ []) ≡ marks_by (run plan es) (marks plan es) e
marks-push plan es e = marks-later (new_world plan) (0, 0) es e ∙ ap (λ (w : World). marks_by w (marks plan es) e) (sym (run-is plan es))

-- what comes was sent between the two
abbrev pub MarkedBy : ℕ × ℕ → Event → Type 0
MarkedBy m (Deliver k) = (m.0 ≤ k) × (k < m.1)
MarkedBy m (Phase p) = Unit {0}
MarkedBy m (Emit s t) = Unit {0}
MarkedBy m (Release s t) = Unit {0}
MarkedBy m (Cut a b) = Unit {0}
MarkedBy m (Heal a b) = Unit {0}
MarkedBy m (Crash a) = Unit {0}
MarkedBy m (Restart a i) = Unit {0}
MarkedBy m (Tick a now) = Unit {0}
MarkedBy m (Mill a r) = Unit {0}

abbrev AreMarked : World → ℕ × ℕ → List Event → Type 0
AreMarked w m [] = Unit {0}
AreMarked w m (e ∷ es) = MarkedBy m e × AreMarked (happens w e) (marks_by w m e) es

marked-push : (w : World) (m : ℕ × ℕ) (es : List Event) (e : Event) → AreMarked w m es → MarkedBy (marks_from w m es) e → AreMarked w m (es ++ e ∷ [])
marked-push w m [] e h k = (k, tt)
marked-push w m (d ∷ es) e h k = (h.0, marked-push (happens w d) (marks_by w m d) es e h.1 k)

marked-at : (w : World) (m : ℕ × ℕ) (done rest : List Event) (e : Event) → AreMarked w m (done ++ e ∷ rest) → MarkedBy (marks_from w m done) e
marked-at w m [] rest e h = h.0
marked-at w m (d ∷ done) rest e h = marked-at (happens w d) (marks_by w m d) done rest e h.1

run-later : (w : World) (es : List Event) (e : Event) → run_from w (es ++ e ∷ []) ≡ happens (run_from w es) e
run-later w [] e = refl
run-later w (d ∷ es) e = run-later (happens w d) es e

-- ---- an event within a phase

-- it opens none, and what comes was sent between the marks
abbrev IsWithin : ℕ × ℕ → Event → Type 0
IsWithin m (Deliver k) = (m.0 ≤ k) × (k < m.1)
IsWithin m (Phase p) = ⊥
IsWithin m (Emit s t) = Unit {0}
IsWithin m (Release s t) = Unit {0}
IsWithin m (Cut a b) = Unit {0}
IsWithin m (Heal a b) = Unit {0}
IsWithin m (Crash a) = Unit {0}
IsWithin m (Restart a i) = Unit {0}
IsWithin m (Tick a now) = Unit {0}
IsWithin m (Mill a r) = Unit {0}

within-same : (w : World) (m : ℕ × ℕ) (e : Event) → IsWithin m e → marks_by w m e ≡ m
within-same w m (Phase p) h = absurd h
within-same w m (Emit s t) h = refl
within-same w m (Release s t) h = refl
within-same w m (Cut a b) h = refl
within-same w m (Heal a b) h = refl
within-same w m (Crash a) h = refl
within-same w m (Restart a i) h = refl
within-same w m (Deliver k) h = refl
within-same w m (Tick a now) h = refl
within-same w m (Mill a r) h = refl

within-marked : (m : ℕ × ℕ) (e : Event) → IsWithin m e → MarkedBy m e
within-marked m (Phase p) h = absurd h
within-marked m (Emit s t) h = tt
within-marked m (Release s t) h = tt
within-marked m (Cut a b) h = tt
within-marked m (Heal a b) h = tt
within-marked m (Crash a) h = tt
within-marked m (Restart a i) h = tt
within-marked m (Deliver k) h = h
within-marked m (Tick a now) h = tt
within-marked m (Mill a r) h = tt

-- ---- what is told so far

record IsTold (plan : Plan) (x : Told) (m : ℕ × ℕ) : Type 0 where
  marked : AreMarked (new_world plan) (0, 0) (reverse x.events)
  marks_are : marks_from (new_world plan) (0, 0) (reverse x.events) ≡ m
  world : run_from (new_world plan) (reverse x.events) ≡ x.world

told-last : (es : List Event) (e : Event) → reverse (e ∷ es) ≡ reverse es ++ e ∷ []
told-last es e = reverse_onto es e []

module _ (plan : Plan) where
  tell-told : (x : Told) (m : ℕ × ℕ) (e : Event) → IsTold plan x m → MarkedBy m e → IsTold plan (tell x e) (marks_by x.world m e)
  tell-told x m e h k =
      let es = reverse x.events in
      record {
        marked = subst (λ (l : List Event). AreMarked (new_world plan) (0, 0) l) (sym (told-last x.events e)) (marked-push (new_world plan) (0, 0) es e h.marked (subst (λ (n : ℕ × ℕ). MarkedBy n e) (sym h.marks_are) k));
        marks_are = ap (λ (l : List Event). marks_from (new_world plan) (0, 0) l) (told-last x.events e) ∙ marks-later (new_world plan) (0, 0) es e ∙ ap (λ (w : World). marks_by w (marks_from (new_world plan) (0, 0) es) e) h.world ∙ ap (λ (n : ℕ × ℕ). marks_by x.world n e) h.marks_are;
        world = ap (λ (l : List Event). run_from (new_world plan) l) (told-last x.events e) ∙ run-later (new_world plan) es e ∙ ap (λ (w : World). happens w e) h.world;
      }

  within-told : (x : Told) (m : ℕ × ℕ) (e : Event) → IsTold plan x m → IsWithin m e → IsTold plan (tell x e) m
  within-told x m e h k = subst (λ (n : ℕ × ℕ). IsTold plan (tell x e) n) (within-same x.world m e k) (tell-told x m e h (within-marked m e k))

  all-told : (es : List Event) (x : Told) (m : ℕ × ℕ) → Each (IsWithin m) es → IsTold plan x m → IsTold plan (tell_all x es) m
  all-told [] x m each h = h
  all-told (e ∷ es) x m each h = all-told es (tell x e) m each.1 (within-told x m e h each.0)

  directive-told : (x : Told) (m : ℕ × ℕ) (d : Directive) → IsTold plan x m → IsTold plan (tell_directive x d) m
  directive-told x m (directive.Emit s t) h = within-told x m (Emit s t) h tt
  directive-told x m (directive.Release s t) h = within-told x m (Release s t) h tt
  directive-told x m (directive.Cut a b) h = within-told x m (Cut a b) h tt
  directive-told x m (directive.Heal a b) h = within-told x m (Heal a b) h tt
  directive-told x m (directive.Lose a b) h = h
  directive-told x m (directive.Repeat a b) h = h
  directive-told x m (directive.Crash a) h = within-told x m (Crash a) h tt
  directive-told x m (directive.Restart a) h = within-told x m (Restart a ((slot_of x.world a).last_inc + 1)) h tt

  directives-told : (ds : List Directive) (x : Told) (m : ℕ × ℕ) → IsTold plan x m → IsTold plan (fold tell_directive x ds) m
  directives-told [] x m h = h
  directives-told (d ∷ ds) x m h = directives-told ds (tell_directive x d) m (directive-told x m d h)

-- ---- the events of a phase

each-same : (m : ℕ × ℕ) (n : ℕ) (e : Event) → IsWithin m e → Each (IsWithin m) (replicate n e)
each-same m zero e h = tt
each-same m (suc n) e h = (h, each-same m n e h)

each-flat : (m : ℕ × ℕ) (f : ℕ → List Event) → ((a : ℕ) → Each (IsWithin m) (f a)) → (xs : List ℕ) → Each (IsWithin m) (flat_map f xs)
each-flat m f h [] = tt
each-flat m f h (a ∷ xs) = each-append (IsWithin m) (f a) (flat_map f xs) (h a) (each-flat m f h xs)

each-mill : (m : ℕ × ℕ) (a r : ℕ) → Each (IsWithin m) (mill_events a r)
each-mill m a r = each-append (IsWithin m) (replicate (r / most_milled) (Mill a most_milled)) (cond (r % most_milled == 0) [] (Mill a (r % most_milled) ∷ [])) (each-same m (r / most_milled) (Mill a most_milled) tt) (by-rest (r % most_milled == 0))
  where
    by-rest : (b : Bool) → Each (IsWithin m) (cond b [] (Mill a (r % most_milled) ∷ []))
    by-rest true = tt
    by-rest false = (tt, tt)

each-delivery : (m : ℕ × ℕ) (times : ℕ → ℕ) (ks : List ℕ) → Each (λ (k : ℕ). (m.0 ≤ k) × (k < m.1)) ks → Each (IsWithin m) (flat_map (λ k. replicate (times k) (Deliver k)) ks)
each-delivery m times [] h = tt
each-delivery m times (k ∷ ks) h = each-append (IsWithin m) (replicate (times k) (Deliver k)) (flat_map (λ k. replicate (times k) (Deliver k)) ks) (each-same m (times k) (Deliver k) h.0) (each-delivery m times ks h.1)

each-tick : (m : ℕ × ℕ) (now : ℕ) (xs : List ℕ) → Each (IsWithin m) (map (λ a. Tick a now) xs)
each-tick m now [] = tt
each-tick m now (a ∷ xs) = (tt, each-tick m now xs)

each-range : (P : ℕ → Type 0) (low many : ℕ) → ((k : ℕ) → low ≤ k → k < low + many → P k) → Each P (range_with_len low many)
each-range P low zero h = tt
each-range P low (suc many) h = (h low (omega arith) (omega arith), each-range P (low + 1) many (λ k above below. h k (omega (arith, above)) (omega (arith, below))))

module _ (plan : Plan) where
  phase-told : (p first before : ℕ) (ds : List Directive) (now : ℕ) (x : Told) → IsTold plan x (before, first) → IsTold plan (tell_phase p first ds now x) (first, length x.world.envelopes)
  phase-told p first before ds now x h =
      let m : ℕ × ℕ = (first, length x.world.envelopes) in
      let y = fold tell_directive (tell x (Phase p)) ds in
      let w = y.world in
      let pending = range_with_len first (length x.world.envelopes - first) in
      let milling = flat_map (λ a. mill_events a (ready_at w a)) (actors_of w.plan) in
      let delivering = flat_map (λ k. replicate (deliveries_of w ds k) (Deliver k)) pending in
      let ticking = map (λ a. Tick a now) (filter (is_up w) (actors_of w.plan)) in
      let opened : IsTold plan (tell x (Phase p)) m = tell-told plan x (before, first) (Phase p) h tt in
      let each : Each (IsWithin m) (milling ++ delivering ++ ticking) =
      each-append (IsWithin m) (milling ++ delivering) ticking
      (each-append (IsWithin m) milling delivering (each-flat m (λ a. mill_events a (ready_at w a)) (λ a. each-mill m a (ready_at w a)) (actors_of w.plan))
      (each-delivery m (deliveries_of w ds) pending (each-range (λ (k : ℕ). (first ≤ k) × (k < length x.world.envelopes)) first (length x.world.envelopes - first) (λ k above below. (above, within k first (length x.world.envelopes) above below)))))
      (each-tick m now (filter (is_up w) (actors_of w.plan))) in
      all-told plan (milling ++ delivering ++ ticking) y m each (directives-told plan ds (tell x (Phase p)) m opened)
    where
      within : (k low high : ℕ) → low ≤ k → k < low + (high - low) → k < high
      within k low high above below = omega (arith, above, below)

  phases-told : (specs : List PhaseSpec) (p first before : ℕ) (x : Told) → IsTold plan x (before, first) → (next : ℕ) × IsTold plan (tell_phases p first specs x).1 (next, (tell_phases p first specs x).0)
  phases-told [] p first before x h = (before, h)
  phases-told (spec ∷ specs) p first before x h = phases-told specs (p + 1) (length x.world.envelopes) first (tell_phase p first spec.directives spec.now x) (phase-told p first before spec.directives spec.now x h)

  quiet-told : (most p first before now : ℕ) (x : Told) → IsTold plan x (before, first) → (m : ℕ × ℕ) × IsTold plan (tell_quiet most p first now x) m
  quiet-told zero p first before now x h = ((before, first), h)
  quiet-told (suc most) p first before now x h =
      elim (all_settled x.world) as (λ b. (m : ℕ × ℕ) × IsTold plan (elim b as (λ _. Told) [ true ↦ x | false ↦ tell_quiet most (p + 1) (length x.world.envelopes) (now + 1) (tell_phase p first [] now x) ]) m) [
        | true ↦ ((before, first), h)
        | false ↦ quiet-told most (p + 1) (length x.world.envelopes) first (now + 1) (tell_phase p first [] now x) (phase-told p first before [] now x h)
      ]

told-marked : (script : Script) → (m : ℕ × ℕ) × IsTold script.plan (lockstep script) m
unfolding lockstep
told-marked script =
    let start : Told = record { world = new_world script.plan; events = [] } in
    let told = tell_phases 1 0 script.phases start in
    let first : IsTold script.plan start (0, 0) = record { marked = tt; marks_are = refl; world = refl } in
    let all = phases-told script.plan script.phases 1 0 0 start first in
    elim script.settle as (λ b. (m : ℕ × ℕ) × IsTold script.plan (cond b (tell_quiet (quiet_limit script.plan) (length script.phases + 1) told.0 (last_clock script + 1) told.1) told.1) m) [
      | true ↦ quiet-told script.plan (quiet_limit script.plan) (length script.phases + 1) told.0 all.0 (last_clock script + 1) told.1 all.1
      | false ↦ ((all.0, told.0), all.1)
    ]

lock-marked : (script : Script) → AreMarked (new_world script.plan) (0, 0) (lockstep_journal script)
unfolding lockstep_journal
lock-marked script = (told-marked script).1.marked

-- so it is in the one-thread journal
pub comes-behind : (script : Script) (done rest : List Event) (e : Event) → lockstep_journal script ≡ done ++ e ∷ rest → MarkedBy (marks script.plan done) e
comes-behind script done rest e is = marked-at (new_world script.plan) (0, 0) done rest e (subst (λ (es : List Event). AreMarked (new_world script.plan) (0, 0) es) is (lock-marked script))
