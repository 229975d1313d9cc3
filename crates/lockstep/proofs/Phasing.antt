-- The phases of a run, as steps one after another.
use Rattle.std.proofs.Common.{◌≡◌, ℕ, zero, suc, ◌+◌, ◌-◌, ◌<◌, Bool, true, false, List, [], ◌∷◌, ◌++◌, length, drop, get_or, refl, sym, ap, ◌∙◌, Option, Some, None}
use Rattle.std.specs.Prelude.{fold}
use Rattle.std.proofs.lemmas.List.{drop_more}
use Rattle.dpc_lists.specs.Lists.{range_with_len}
use Rattle.dpc_model.specs.declared.messages.Event.{Event}
use Rattle.dpc_model.specs.declared.messages.Event.TheVariants.{Phase}
use Rattle.dpc_model.specs.declared.scripts.Directive.{Directive}
use Rattle.dpc_model.specs.declared.scripts.Phase.{Phase as PhaseSpec}
use Rattle.world_model.specs.Worlds.{World, all_settled}
use Rattle.world_model.specs.Schedules.{Told, event_of, tell, tell_all, tell_directive, phase_events, tell_phase, tell_phases, tell_quiet}
use Rattle.world_core.specs.Runs.{RunOf, world_of}
use Rattle.lockstep.specs.Locking.{IsAt, Follows, Exceeds}
use Rattle.lockstep.specs.declared.faults.RunFault.{RunFault}
use Rattle.lockstep.proofs.Standing.{Grows, grows-nothing, grows-tell, grows-then, grows-fold, follows-then, follows-same, exceeds-then, exceeds-more, exceeds-same, Leads, leads-on, leads-there, leads-past, leads-second}

-- ---- a directive

-- where it has an event, that is told
abbrev told_of : Told → Option Event → Told
told_of x o = elim o [ None ↦ x | Some e ↦ tell x e ]

pub grows-directive : (d : Directive) → Grows (λ x. tell_directive x d)
grows-directive d x = by-event (event_of x.world d)
  where
    by-event : (o : Option Event) → (more : List Event) × ((told_of x o).events ≡ more ++ x.events)
    by-event None = ([], refl)
    by-event (Some e) = (e ∷ [], refl)

-- either of two
abbrev by_test : Bool → Told → Told → Told
by_test b x y = elim b [ true ↦ x | false ↦ y ]

-- ---- one phase

-- the events behind the directives, where so many envelopes were sent before the phase
abbrev behind : ℕ → ℕ → List Directive → ℕ → Told → Told
behind sent first ds now y = tell_all y (phase_events y.world ds (range_with_len first (sent - first)) now)

abbrev direct : List Directive → Told → Told
direct ds x = fold tell_directive x ds

grows-behind : (sent first : ℕ) (ds : List Directive) (now : ℕ) → Grows (behind sent first ds now)
grows-behind sent first ds now y = grows-fold tell grows-tell (phase_events y.world ds (range_with_len first (sent - first)) now) y

phase-parts : (p first sent : ℕ) (ds : List Directive) (now : ℕ) (old : RunOf) → sent ≡ length (world_of old).envelopes → (x : Told) → IsAt old x →
    behind sent first ds now (direct ds (tell x (Phase p))) ≡ tell_phase p first ds now x
phase-parts p first sent ds now old is x at =
    ap (λ (n : ℕ). behind n first ds now (direct ds (tell x (Phase p)))) (is ∙ ap (λ (w : World). length w.envelopes) (sym at.world))

-- the list of the events that was made of the world behind the directives
events-same : (sent first : ℕ) (ds : List Directive) (now : ℕ) (es : List Event) (w : RunOf) → es ≡ phase_events (world_of w) ds (range_with_len first (sent - first)) now → (y : Told) → IsAt w y →
    tell_all y es ≡ behind sent first ds now y
events-same sent first ds now es w is y at =
    ap (λ (l : List Event). tell_all y l) (is ∙ ap (λ (v : World). phase_events v ds (range_with_len first (sent - first)) now) (sym at.world))

pub phase-follows : (p first sent : ℕ) (ds : List Directive) (now : ℕ) (es : List Event) (old a b new : RunOf) → sent ≡ length (world_of old).envelopes →
    es ≡ phase_events (world_of b) ds (range_with_len first (sent - first)) now →
    Follows (λ x. tell x (Phase p)) old a → Follows (direct ds) a b → Follows (λ x. tell_all x es) b new → Follows (tell_phase p first ds now) old new
phase-follows p first sent ds now es old a b new is made one two three =
    follows-same (λ x. behind sent first ds now (direct ds (tell x (Phase p)))) (tell_phase p first ds now) old new (phase-parts p first sent ds now old is)
    (follows-then (λ x. direct ds (tell x (Phase p))) (behind sent first ds now) old b new
    (follows-then (λ x. tell x (Phase p)) (direct ds) old a b one two)
    (follows-same (λ x. tell_all x es) (behind sent first ds now) b new (events-same sent first ds now es b made) three))

pub phase-exceeds-first : (p first sent : ℕ) (ds : List Directive) (now : ℕ) (old : RunOf) (fault : RunFault) → sent ≡ length (world_of old).envelopes →
    Exceeds (λ x. tell x (Phase p)) old fault → Exceeds (tell_phase p first ds now) old fault
phase-exceeds-first p first sent ds now old fault is h =
    exceeds-same (λ x. behind sent first ds now (direct ds (tell x (Phase p)))) (tell_phase p first ds now) old fault (phase-parts p first sent ds now old is)
    (exceeds-more (λ x. tell x (Phase p)) (λ y. behind sent first ds now (direct ds y)) old fault
    (grows-then (direct ds) (behind sent first ds now) (grows-fold tell_directive grows-directive ds) (grows-behind sent first ds now)) h)

pub phase-exceeds-directed : (p first sent : ℕ) (ds : List Directive) (now : ℕ) (old a : RunOf) (fault : RunFault) → sent ≡ length (world_of old).envelopes →
    Follows (λ x. tell x (Phase p)) old a → Exceeds (direct ds) a fault → Exceeds (tell_phase p first ds now) old fault
phase-exceeds-directed p first sent ds now old a fault is one h =
    exceeds-same (λ x. behind sent first ds now (direct ds (tell x (Phase p)))) (tell_phase p first ds now) old fault (phase-parts p first sent ds now old is)
    (exceeds-more (λ x. direct ds (tell x (Phase p))) (behind sent first ds now) old fault (grows-behind sent first ds now)
    (exceeds-then (λ x. tell x (Phase p)) (direct ds) old a fault one h))

pub phase-exceeds-behind : (p first sent : ℕ) (ds : List Directive) (now : ℕ) (es : List Event) (old a b : RunOf) (fault : RunFault) → sent ≡ length (world_of old).envelopes →
    es ≡ phase_events (world_of b) ds (range_with_len first (sent - first)) now →
    Follows (λ x. tell x (Phase p)) old a → Follows (direct ds) a b → Exceeds (λ x. tell_all x es) b fault → Exceeds (tell_phase p first ds now) old fault
phase-exceeds-behind p first sent ds now es old a b fault is made one two h =
    exceeds-same (λ x. behind sent first ds now (direct ds (tell x (Phase p)))) (tell_phase p first ds now) old fault (phase-parts p first sent ds now old is)
    (exceeds-then (λ x. direct ds (tell x (Phase p))) (behind sent first ds now) old b fault
    (follows-then (λ x. tell x (Phase p)) (direct ds) old a b one two)
    (exceeds-same (λ x. tell_all x es) (behind sent first ds now) b fault (events-same sent first ds now es b made) h))

-- ---- several phases

pub grows-phase : (p first : ℕ) (ds : List Directive) (now : ℕ) → Grows (tell_phase p first ds now)
grows-phase p first ds now x =
    grows-then (λ x. direct ds (tell x (Phase p))) (behind (length x.world.envelopes) first ds now)
    (grows-then (λ x. tell x (Phase p)) (direct ds) (grows-tell (Phase p)) (grows-fold tell_directive grows-directive ds)) (grows-behind (length x.world.envelopes) first ds now) x

pub grows-phases : (p first : ℕ) (specs : List PhaseSpec) → Grows (λ x. (tell_phases p first specs x).1)
grows-phases p first [] x = grows-nothing x
grows-phases p first (spec ∷ rest) x =
    grows-then (tell_phase p first spec.directives spec.now) (λ y. (tell_phases (p + 1) (length x.world.envelopes) rest y).1) (grows-phase p first spec.directives spec.now)
    (grows-phases (p + 1) (length x.world.envelopes) rest) x

pub grows-quiet : (most p first now : ℕ) → Grows (tell_quiet most p first now)
grows-quiet zero p first now x = grows-nothing x
grows-quiet (suc most) p first now x =
    by-test x (tell_quiet most (p + 1) (length x.world.envelopes) (now + 1) (tell_phase p first [] now x)) (all_settled x.world)
    (grows-then (tell_phase p first [] now) (tell_quiet most (p + 1) (length x.world.envelopes) (now + 1)) (grows-phase p first [] now)
    (grows-quiet most (p + 1) (length x.world.envelopes) (now + 1)) x)
  where
    by-test : (x y : Told) (b : Bool) → (more : List Event) × (y.events ≡ more ++ x.events) → (more : List Event) × ((by_test b x y).events ≡ more ++ x.events)
    by-test x y true h = ([], refl)
    by-test x y false h = h

-- ---- the loop over the phases of a script

-- a phase of the script, and those behind it
pub phases-more : (specs : List PhaseSpec) (i : ℕ) (spec : PhaseSpec) (p first : ℕ) → i < length specs → spec ≡ get_or specs i spec → (y : Told) →
    tell_phases p first (drop i specs) y ≡ tell_phases (p + 1) (length y.world.envelopes) (drop (i + 1) specs) (tell_phase p first spec.directives spec.now y)
phases-more specs i spec p first low is y =
    ap (λ (l : List PhaseSpec). tell_phases p first l y) (drop_more specs i spec low)
    ∙ ap (λ (s : PhaseSpec). tell_phases (p + 1) (length y.world.envelopes) (drop (i + 1) specs) (tell_phase p first s.directives s.now y)) (sym is)

pub phases-past : (f : Told → ℕ × Told) (specs : List PhaseSpec) (i : ℕ) (spec : PhaseSpec) (p first : ℕ) (a b : RunOf) (fault : RunFault) → i < length specs → spec ≡ get_or specs i spec →
    Leads f (tell_phases p first (drop i specs)) a b → Exceeds (tell_phase p first spec.directives spec.now) b fault → Exceeds (λ x. (f x).1) a fault
phases-past f specs i spec p first a b fault low is l h =
    leads-past (λ x. (f x).1) (λ y. (tell_phases p first (drop i specs) y).1) a b fault (leads-second f (tell_phases p first (drop i specs)) a b l)
    (exceeds-same (λ y. (tell_phases (p + 1) (length (world_of b).envelopes) (drop (i + 1) specs) (tell_phase p first spec.directives spec.now y)).1) (λ y. (tell_phases p first (drop i specs) y).1) b fault
    (λ y at.
    ap (λ (n : ℕ). (tell_phases (p + 1) n (drop (i + 1) specs) (tell_phase p first spec.directives spec.now y)).1) (ap (λ (w : World). length w.envelopes) (sym at.world))
    ∙ ap (λ (z : ℕ × Told). z.1) (sym (phases-more specs i spec p first low is y)))
    (exceeds-more (tell_phase p first spec.directives spec.now) (λ y. (tell_phases (p + 1) (length (world_of b).envelopes) (drop (i + 1) specs) y).1) b fault
    (grows-phases (p + 1) (length (world_of b).envelopes) (drop (i + 1) specs)) h))

-- ---- the loop of quiet phases

-- the clients are settled
quiet-settled : (most p first now : ℕ) (y : Told) → all_settled y.world ≡ true → tell_quiet most p first now y ≡ y
quiet-settled zero p first now y e = refl
quiet-settled (suc most) p first now y e = ap (λ (b : Bool). by_test b y (tell_quiet most (p + 1) (length y.world.envelopes) (now + 1) (tell_phase p first [] now y))) e

pub quiet-ends : (f : Told → Told) (most p first now : ℕ) (a b : RunOf) → all_settled (world_of b) ≡ true → Leads f (tell_quiet most p first now) a b → Follows f a b
quiet-ends f most p first now a b e l =
    leads-there f (tell_quiet most p first now) a b l (λ y at. quiet-settled most p first now y (ap (λ (w : World). all_settled w) at.world ∙ e))

-- one more
quiet-more : (most p first now : ℕ) (y : Told) → all_settled y.world ≡ false → tell_quiet (suc most) p first now y ≡ tell_quiet most (p + 1) (length y.world.envelopes) (now + 1) (tell_phase p first [] now y)
quiet-more most p first now y e = ap (λ (b : Bool). by_test b y (tell_quiet most (p + 1) (length y.world.envelopes) (now + 1) (tell_phase p first [] now y))) e

pub quiet-lead : (f : Told → Told) (most left p first now next sent : ℕ) (a b c : RunOf) → all_settled (world_of b) ≡ false → most ≡ suc left → next ≡ p + 1 → sent ≡ length (world_of b).envelopes →
    Leads f (tell_quiet most p first now) a b → Follows (tell_phase p first [] now) b c → Leads f (tell_quiet left next sent (now + 1)) a c
quiet-lead f most left p first now next sent a b c e some one many l q =
    leads-on f (tell_quiet most p first now) (tell_quiet left next sent (now + 1)) (tell_phase p first [] now) a b c l q
    (λ y at.
    ap (λ (n : ℕ). tell_quiet n p first now y) some ∙ quiet-more left p first now y (ap (λ (w : World). all_settled w) at.world ∙ e)
    ∙ ap (λ (n : ℕ). tell_quiet left n (length y.world.envelopes) (now + 1) (tell_phase p first [] now y)) (sym one)
    ∙ ap (λ (n : ℕ). tell_quiet left next n (now + 1) (tell_phase p first [] now y)) (ap (λ (w : World). length w.envelopes) at.world ∙ sym many))

pub quiet-past : (f : Told → Told) (most left p first now : ℕ) (a b : RunOf) (fault : RunFault) → all_settled (world_of b) ≡ false → most ≡ suc left →
    Leads f (tell_quiet most p first now) a b → Exceeds (tell_phase p first [] now) b fault → Exceeds f a fault
quiet-past f most left p first now a b fault e some l h =
    leads-past f (tell_quiet most p first now) a b fault l
    (exceeds-same (λ y. tell_quiet left (p + 1) (length (world_of b).envelopes) (now + 1) (tell_phase p first [] now y)) (tell_quiet most p first now) b fault
    (λ y at.
    ap (λ (n : ℕ). tell_quiet left (p + 1) n (now + 1) (tell_phase p first [] now y)) (ap (λ (w : World). length w.envelopes) (sym at.world))
    ∙ sym (ap (λ (n : ℕ). tell_quiet n p first now y) some ∙ quiet-more left p first now y (ap (λ (w : World). all_settled w) at.world ∙ e)))
    (exceeds-more (tell_phase p first [] now) (tell_quiet left (p + 1) (length (world_of b).envelopes) (now + 1)) b fault (grows-quiet left (p + 1) (length (world_of b).envelopes) (now + 1)) h))
