-- The clocks of a script's phases do not fall, and there are few phases.
use Rattle.std.proofs.Common.{◌≡◌, ℕ, ◌+◌, ◌<◌, ◌≤◌, Bool, true, false, List, [], ◌∷◌, ◌++◌, map, length, refl, sym, ap, subst, ◌∙◌, arith}
use Rattle.std.specs.Prelude.{not, ◌==◌, nat_lt, if◌then◌else◌, flat_map, Option, Some, None}
use Rattle.std.proofs.lemmas.Bool.{ltb-false, ltb-true}
use Rattle.std.proofs.lemmas.List.{append-nil, append_assoc, map_push, length-append, length-map}
use Rattle.std.proofs.lemmas.Grind.{flat_map-append}
use Rattle.dpc_model.specs.Streams.{IsOrdered}
use Rattle.dpc_model.specs.declared.tuples.Tuple.{Tuple}
use Rattle.dpc_model.specs.declared.plans.SourceSpec.{SourceSpec}
use Rattle.dpc_model.specs.declared.plans.FragSpec.{FragSpec}
use Rattle.dpc_model.specs.declared.plans.Plan.{Plan}
use Rattle.dpc_model.specs.declared.scripts.Directive.{Directive}
use Rattle.dpc_model.specs.declared.scripts.Directive.TheVariants.{Emit, Release, Cut, Heal, Lose, Repeat, Crash, Restart}
use Rattle.dpc_model.specs.declared.scripts.Phase.{Phase}
use Rattle.dpc_model.specs.declared.scripts.Script.{Script}
use Rattle.script_rules.specs.Statements.{Statement, HeaderLine, SourceLine, LogLine, FragmentLine, PatienceLine, OperatorLine, ClientLine, BeginLine, SendLine, LinkLine, NodeLine, TickLine, SettleLine}
use Rattle.script_rules.specs.Drafts.{Draft, nothing_yet, and_then}
use Rattle.script_rules.specs.Checking.{header_statements, source_statements, patience_statements, operator_statement, frag_statements, client_statement, directive_statement, phase_statements, statements_of, IsChecked}
use Rattle.script_rules.proofs.Ordered.{itself, last_number, ordered-push, ordered-map}
use Rattle.script_rules.proofs.Passing.{IsFine, Passes, all_said, checked_passes}
use Rattle.script_rules.proofs.Parts.{said_of_sources, said_of_frags, said_of_clients, said_of_phases, said_at_last, said_from_begin, parts, flat_map-flat, flat_map-none, flat_map-quiet, flat_map-one}

abbrev pub clocks : Draft → List ℕ
clocks d = map (λ (p : Phase). p.now) d.phases

-- the clock that a statement names
abbrev clock_in : Statement → List ℕ
clock_in (TickLine now) = now ∷ []
clock_in _ = []

-- in order, and at most 2,000
abbrev pub AreClocks : List ℕ → Type 0
AreClocks ns = IsOrdered itself ns × (length ns ≤ 2000)

room_left : (n : ℕ) (b : Bool) → nat_lt n 2000 ≡ b → not b ≡ false → n < 2000
room_left n true e h = ltb-true n 2000 e
room_left n false e h = absurd cc

one_clock_more : (d : Draft) (now : ℕ) → IsFine d (TickLine now) → AreClocks (clocks d) → AreClocks (clocks d ++ now ∷ [])
one_clock_more d now fine h =
    let low : last_number (clocks d) ≤ now = ltb-false now (last_number (clocks d)) fine.state in
    let room : length d.phases < 2000 = room_left (length d.phases) (nat_lt (length d.phases) 2000) refl fine.limit in
    let same : length (clocks d) ≡ length d.phases = length-map d.phases (λ (p : Phase). p.now) in
    let more : length (clocks d ++ now ∷ []) ≡ length (clocks d) + 1 = length-append (clocks d) (now ∷ []) in
    (ordered-push (clocks d) now h.0 low, omega (arith, room, same, more))

-- a statement keeps the clocks, with its own behind them
pub step : (d : Draft) (s : Statement) → IsFine d s → AreClocks (clocks d) → AreClocks (clocks (and_then d s))
step d (HeaderLine place number) fine h = h
step d (SourceLine name columns) fine h = h
step d (LogLine source time vals) fine h = h
step d (FragmentLine name replicas streams) fine h = h
step d (PatienceLine delay) fine h = h
step d (OperatorLine name inputs kind) fine h = h
step d (ClientLine name stream) fine h = h
step d BeginLine fine h = h
step d (SendLine make source time) fine h = h
step d (LinkLine make a b) fine h = h
step d (NodeLine true node) fine h = h
step d (NodeLine false node) fine h = h
step d (TickLine now) fine h = subst AreClocks (sym (map_push (λ (p : Phase). p.now) d.phases (record { directives = d.directives; now = now }))) (one_clock_more d now fine h)
step d SettleLine fine h = h

steps : (d : Draft) (ss : List Statement) → Passes d ss → AreClocks (clocks d) → AreClocks (clocks (all_said d ss))
steps d [] p h = h
steps d (s ∷ ss) p h = steps (and_then d s) ss p.1 (step d s p.0 h)

added : (d : Draft) (s : Statement) → clocks (and_then d s) ≡ clocks d ++ clock_in s
added d (HeaderLine place number) = sym (append-nil (clocks d))
added d (SourceLine name columns) = sym (append-nil (clocks d))
added d (LogLine source time vals) = sym (append-nil (clocks d))
added d (FragmentLine name replicas streams) = sym (append-nil (clocks d))
added d (PatienceLine delay) = sym (append-nil (clocks d))
added d (OperatorLine name inputs kind) = sym (append-nil (clocks d))
added d (ClientLine name stream) = sym (append-nil (clocks d))
added d BeginLine = sym (append-nil (clocks d))
added d (SendLine make source time) = sym (append-nil (clocks d))
added d (LinkLine make a b) = sym (append-nil (clocks d))
added d (NodeLine true node) = sym (append-nil (clocks d))
added d (NodeLine false node) = sym (append-nil (clocks d))
added d (TickLine now) = map_push (λ (p : Phase). p.now) d.phases _
added d SettleLine = sym (append-nil (clocks d))

all_added : (d : Draft) (ss : List Statement) → clocks (all_said d ss) ≡ clocks d ++ flat_map clock_in ss
all_added d [] = sym (append-nil (clocks d))
all_added d (s ∷ ss) = all_added (and_then d s) ss ∙ ap (λ l. l ++ flat_map clock_in ss) (added d s) ∙ append_assoc (clocks d) (clock_in s) (flat_map clock_in ss)

-- ---- the clocks that a script names are those of its phases

no_clock_of_directive : (plan : Plan) (x : Directive) → clock_in (directive_statement plan x) ≡ []
no_clock_of_directive plan (Emit s t) = refl
no_clock_of_directive plan (Release s t) = refl
no_clock_of_directive plan (Cut a b) = refl
no_clock_of_directive plan (Heal a b) = refl
no_clock_of_directive plan (Lose a b) = refl
no_clock_of_directive plan (Repeat a b) = refl
no_clock_of_directive plan (Crash a) = refl
no_clock_of_directive plan (Restart a) = refl

clock_of_phase : (plan : Plan) (p : Phase) → flat_map clock_in (phase_statements plan p) ≡ p.now ∷ []
clock_of_phase plan p =
    flat_map-append clock_in (map (directive_statement plan) p.directives) (TickLine p.now ∷ [])
    ∙ ap (λ l. l ++ p.now ∷ []) (flat_map-quiet clock_in (directive_statement plan) p.directives (no_clock_of_directive plan))

no_clock_of_source : (s : SourceSpec) → flat_map clock_in (source_statements s) ≡ []
no_clock_of_source s = flat_map-quiet clock_in (λ (t : Tuple). LogLine s.name t.stime t.vals) s.log (λ t. refl)

no_clock_of_patience : (o : Option ℕ) → flat_map clock_in (patience_statements o) ≡ []
no_clock_of_patience None = refl
no_clock_of_patience (Some delay) = refl

no_clock_of_frag : (plan : Plan) (f : FragSpec) → flat_map clock_in (frag_statements plan f) ≡ []
no_clock_of_frag plan f =
    flat_map-append clock_in (patience_statements f.delay) (map (operator_statement plan f) f.ops)
    ∙ ap (λ l. l ++ flat_map clock_in (map (operator_statement plan f) f.ops)) (no_clock_of_patience f.delay)
    ∙ flat_map-quiet clock_in (operator_statement plan f) f.ops (λ op. refl)

no_clock_of_header : (plan : Plan) → flat_map clock_in (header_statements plan) ≡ []
no_clock_of_header plan = elim (plan.version == 3) as (λ t. flat_map clock_in (if t then HeaderLine 4 (if plan.passing then 1 else 0) ∷ [] else []) ≡ []) [ true ↦ refl | false ↦ refl ]

no_clock_at_last : (settle : Bool) → flat_map clock_in (said_at_last settle) ≡ []
no_clock_at_last true = refl
no_clock_at_last false = refl

-- a part without clocks, and what stands behind it
behind : (a b : List Statement) → flat_map clock_in a ≡ [] → flat_map clock_in (a ++ b) ≡ flat_map clock_in b
behind a b none = flat_map-append clock_in a b ∙ ap (λ l. l ++ flat_map clock_in b) none

clocks_of : (s : Script) → flat_map clock_in (statements_of s) ≡ map (λ (p : Phase). p.now) s.phases
clocks_of s =
    let sources : flat_map clock_in (said_of_sources s.plan) ≡ [] = flat_map-flat clock_in source_statements s.plan.sources ∙ flat_map-none _ s.plan.sources no_clock_of_source in
    let frags : flat_map clock_in (said_of_frags s.plan) ≡ [] = flat_map-flat clock_in (frag_statements s.plan) s.plan.frags ∙ flat_map-none _ s.plan.frags (no_clock_of_frag s.plan) in
    let clients : flat_map clock_in (said_of_clients s.plan) ≡ [] = flat_map-quiet clock_in (client_statement s.plan) s.plan.clients (λ c. refl) in
    let phases : flat_map clock_in (said_of_phases s) ≡ map (λ (p : Phase). p.now) s.phases =
    flat_map-flat clock_in (phase_statements s.plan) s.phases ∙ flat_map-one _ (λ (p : Phase). p.now) s.phases (clock_of_phase s.plan) in
    let from_begin : flat_map clock_in (said_from_begin s) ≡ map (λ (p : Phase). p.now) s.phases =
    flat_map-append clock_in (said_of_phases s) (said_at_last s.settle) ∙ rw (phases, no_clock_at_last s.settle) (append-nil (map (λ (p : Phase). p.now) s.phases)) in
    ap (flat_map clock_in) (parts s) ∙ behind (header_statements s.plan) _ (no_clock_of_header s.plan) ∙ behind (said_of_sources s.plan) _ sources
    ∙ behind (said_of_frags s.plan) _ frags ∙ behind (said_of_clients s.plan) _ clients ∙ from_begin

-- the clocks of a checked script
pub checked_clocks : (s : Script) → IsChecked s → IsOrdered (λ (p : Phase). p.now) s.phases × (length s.phases ≤ 2000)
checked_clocks s c =
    let said : clocks (all_said nothing_yet (statements_of s)) ≡ map (λ (p : Phase). p.now) s.phases = all_added nothing_yet (statements_of s) ∙ clocks_of s in
    let all : AreClocks (map (λ (p : Phase). p.now) s.phases) = subst AreClocks said (steps nothing_yet (statements_of s) (checked_passes s c) (tt, omega arith)) in
    let few : length (map (λ (p : Phase). p.now) s.phases) ≤ 2000 = all.1 in
    let same : length (map (λ (p : Phase). p.now) s.phases) ≡ length s.phases = length-map s.phases (λ (p : Phase). p.now) in
    (ordered-map (λ (p : Phase). p.now) s.phases all.0, omega (arith, few, same))
