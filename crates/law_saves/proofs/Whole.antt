-- What a node of a checked script hands out can be saved.
use Rattle.std.proofs.Common.{◌≡◌, ℕ, zero, suc, ◌+◌, ◌*◌, ◌^◌, ◌<◌, ◌≤◌, true, false, List, [], ◌∷◌, map, length, take, drop, Some, unwrap_or, slice_get, slice_index_or, refl, sym, ap, subst, ◌∙◌, arith, All}
use Rattle.std.specs.Option.{option_map}
use Rattle.std.proofs.lemmas.List.{length-map}
use Rattle.std.proofs.lemmas.List.Elements.{All-map}
use Rattle.dpc_lists.specs.Lists.{nth, list_all}
use Rattle.dpc_lists.proofs.Truths.{both, both-of, eq-of, lt-of, lt-test, all-drop, all-weaker}
use Rattle.dpc_model.specs.Actors.{role_of}
use Rattle.dpc_model.specs.Columns.{stream_columns}
use Rattle.dpc_model.specs.Engines.{nameless}
use Rattle.dpc_model.specs.Fragments.{serial, outputs_after, read_wire, AreSoundOps}
use Rattle.dpc_model.specs.declared.actors.Role.TheVariants.{Node as IsNode}
use Rattle.dpc_model.specs.declared.messages.Event.{Event}
use Rattle.dpc_model.specs.declared.operators.OpSpec.{OpSpec}
use Rattle.dpc_model.specs.declared.plans.FragSpec.{FragSpec}
use Rattle.dpc_model.specs.declared.plans.Plan.{Plan}
use Rattle.dpc_model.specs.declared.plans.StreamRef.TheVariants.{Frag}
use Rattle.dpc_model.specs.declared.scripts.Script.{Script}
use Rattle.dpc_model.specs.declared.tuples.Tuple.{Tuple}
use Rattle.dpc_model.specs.declared.tuples.Tagged.{Tagged}
use Rattle.node_model.specs.Nodes.{PlainNode, no_fragment, spec_of, streams_of, inputs_done, out_stable}
use Rattle.node_model.specs.NodeSteps.{snapshot}
use Rattle.node_model.specs.Stands.{SnapValue}
use Rattle.world_model.specs.Worlds.{home_of, slot_of, run}
use Rattle.world_model.specs.Orderly.{fits_stream, fits_port, port_columns}
use Rattle.fragment_mill.specs.Mills.{MillState, MillAfter, OperatorAfter, specs_of, spec_of as stage_spec, kind_of, width_of}
use Rattle.fragment_mill.specs.Milling.{IsReady}
use Rattle.fragment_mill.specs.States.{part_of, parts_of, ops_at, IsOf}
use Rattle.fragment_mill.specs.declared.mill.Stage.{Stage}
use Rattle.fragment_mill.specs.declared.operator.Operator.{Operator}
use Rattle.fragment_mill.specs.declared.operator.Operator.TheVariants.{Filter, Map, Union, Join, Aggregate}
use Rattle.fragment_mill.specs.declared.states.OperatorParts.{OperatorParts}
use Rattle.fragment_mill.proofs.Resumes.{all-come-back}
use Rattle.pipeline.specs.Recovery.{StandsForSnapshot}
use Rattle.snapshot_form.specs.Bytes.{snapshot_bytes}
use Rattle.snapshot_form.specs.Reading.{port_count_at}
use Rattle.snapshot_form.specs.Savable.{CanBeKept, IsSavable}
use Rattle.script_rules.specs.Checking.{IsChecked, is_in_range, is_source_in_range, is_frag_in_range, is_client_in_range, is_phase_in_range, are_inputs_in_range}
use Rattle.script_rules.specs.Facts.{HasFacts}
use Rattle.law_checked_plans.proofs.Plans.{checked_plan}
use Rattle.law_safety.specs.Plans.{IsPlace}
use Rattle.law_safety.proofs.Columns.{AllColumns}
use Rattle.law_safety.proofs.OutFits.{home-fragment, frags-sound, out_stable-fits, cursor-within, inputs-columns}
use Rattle.law_safety.proofs.Columns.{serial-columns}
use Rattle.law_safety.proofs.SoundPorts.{node-columns}
use Rattle.law_safety.proofs.Worlding.{actor-at}
use Rattle.law_safety.proofs.Frames.{IsGood}
use Rattle.law_safety.proofs.Growing.{run-plan}
use Rattle.law_fit.proofs.GoodNodes.{good-fit}
use Rattle.law_fit.proofs.FitWorlds.{node-good, run-world}
use Rattle.law_saves.specs.Typed.{HasNumbers, IsTyped}
use Rattle.law_saves.proofs.Widths.{is_width, IsKnown, narrow}
use Rattle.law_saves.proofs.Taking.{Flow, Takes, takes}
use Rattle.law_saves.proofs.Told.{is_small, all-told, sides-small}

-- ---- the engine

-- a plan's fragment, told in two ways
spec-at : (plan : Plan) (f r : ℕ) → f < length plan.frags → (ops_at plan f ≡ (spec_of (home_of plan (f, r))).ops) × (port_count_at plan f ≡ length (streams_of (home_of plan (f, r))))
spec-at plan f r l = at plan.frags f l
  where
    at : (frags : List FragSpec) (i : ℕ) → i < length frags
        → (unwrap_or (option_map (λ (x : FragSpec). x.ops) (slice_get frags i)) [] ≡ (nth no_fragment frags i).ops)
        × (unwrap_or (option_map (λ (x : FragSpec). length x.inputs) (slice_get frags i)) 0 ≡ length (nth no_fragment frags i).inputs)
    at [] i h = absurd (omega (arith, h))
    at (x ∷ frags) zero h = (refl, refl)
    at (x ∷ frags) (suc i) h = at frags i (omega (arith, h))

nth-spec : (stages : List Stage) (i : ℕ) (d : Stage) (e : OpSpec) → i < length stages → nth e (specs_of stages) i ≡ stage_spec (slice_index_or stages i d)
nth-spec [] i d e h = absurd (omega (arith, h))
nth-spec (s ∷ stages) zero d e h = refl
nth-spec (s ∷ stages) (suc i) d e h = nth-spec stages i d e (omega (arith, h))

-- what an operator keeps of such inputs can be told
operator-kept : (o : Operator) (cs : List ℕ) (tss : List (List Tuple)) (k w : ℕ) → OperatorAfter o (serial tss) k → unwrap_or (width_of o) w ≡ w → k * w ≤ 2 ^ 62
    → are_inputs_in_range (kind_of o) (length cs) ≡ true → list_all is_width cs ≡ true → AllColumns cs tss → HasNumbers (part_of o) → CanBeKept (part_of o)
operator-kept (Filter x) cs tss k w after wide fits many widths columns typed = tt
operator-kept (Map x) cs tss k w after wide fits many widths columns typed = tt
operator-kept (Union x) cs tss k w after wide fits many widths columns typed = tt
operator-kept (Aggregate x) cs tss k w after wide fits many widths columns typed = typed
operator-kept (Join j) cs tss k w after wide fits many widths columns typed =
    let small = sides-small j cs tss k after (eq-of (length cs) 2 many) widths columns (rw wide fits) in
    (all-told j.left small.0 typed.0, all-told j.right small.1 typed.1)

-- a fragment of a checked script, and what flows into it up to a bucket
pub record Fed (plan : Plan) (f r : ℕ) (xs : List Tagged) (k : ℕ) : Type 0 where
  pub known : IsKnown plan
  pub place : IsPlace (home_of plan (f, r))
  pub inputs : list_all (fits_port (port_columns (home_of plan (f, r)))) xs ≡ true
  pub within : k * plan.width ≤ plan.end

stage-kept : (plan : Plan) (f r : ℕ) (xs : List Tagged) (m : MillState) (k i : ℕ) (d : Stage) → Fed plan f r xs k → IsReady m → m.width ≡ plan.width
    → specs_of m.stages ≡ nameless (spec_of (home_of plan (f, r))).ops → MillAfter m xs k → i < length m.stages → HasNumbers (part_of (slice_index_or m.stages i d).operator)
    → CanBeKept (part_of (slice_index_or m.stages i d).operator)
stage-kept plan f r xs m k i d fed ready wide same took low typed =
    let ops = (spec_of (home_of plan (f, r))).ops in
    let s = slice_index_or m.stages i d in
    let n = narrow plan f fed.known fed.place.there in
    let ports = port_columns (home_of plan (f, r)) in
    let made = home-fragment (home_of plan (f, r)) fed.place in
    let flow : Flow ports [] ops xs [] = record { inputs = fed.inputs; outputs = tt; even = made.even } in
    let many : length m.stages ≡ length ops = sym (length-map m.stages stage_spec) ∙ ap length same ∙ length-map ops (λ (op : OpSpec). record op { name = [] }) in
    let b = k * m.width in
    let there : i < length ops = omega (arith, low, many) in
    let e = stage_spec d in
    let t = takes plan ports [] ops xs [] b i e there n.widths.stand flow in
    let here : nth e (nameless ops) i ≡ stage_spec s = ap (λ (x : List OpSpec). nth e x i) (sym same) ∙ nth-spec m.stages i d e low in
    let u : Takes (stage_spec s) xs (outputs_after [] (take i (specs_of m.stages)) xs b)
    = subst (λ (x : List OpSpec). Takes (stage_spec s) xs (outputs_after [] (take i x) xs b)) (sym same)
    (subst (λ (op : OpSpec). Takes op xs (outputs_after [] (take i (nameless ops)) xs b)) here t) in
    let fit = ready.fits i d low in
    let fits : k * m.width ≤ 2 ^ 62 = rw wide (omega (arith, fed.within, fed.known.end)) in
    operator-kept s.operator u.columns (map (read_wire xs (outputs_after [] (take i (specs_of m.stages)) xs b)) s.reads) k m.width (took.stages i d low) fit.width fits u.many u.widths u.inputs typed

un-map : {X Y : Type 0} (P : X → Type 0) (f : Y → X) (ys : List Y) → All P (map f ys) → All (λ (y : Y). P (f y)) ys
un-map P f [] h i d low = absurd (omega (arith, low))
un-map P f (y ∷ ys) h zero d low = h 0 (f y) (omega arith)
un-map P f (y ∷ ys) h (suc i) d low = un-map P f ys (λ k e l. h (suc k) e (omega (arith, l))) i d (omega (arith, low))

parts-kept : (plan : Plan) (f r : ℕ) (xs : List Tagged) (m : MillState) (k : ℕ) → Fed plan f r xs k → IsReady m → m.width ≡ plan.width
    → specs_of m.stages ≡ nameless (spec_of (home_of plan (f, r))).ops → MillAfter m xs k → All HasNumbers (parts_of m).operators → All CanBeKept (parts_of m).operators
parts-kept plan f r xs m k fed ready wide same took typed =
    let part : Stage → OperatorParts = λ (s : Stage). part_of s.operator in
    All-map CanBeKept part m.stages (λ i d low. stage-kept plan f r xs m k i d fed ready wide same took low (un-map HasNumbers part m.stages typed i d low))

-- ---- the whole

-- what a good node that does not recover hands out
pub handed : (plan : Plan) (f r most : ℕ) (p : PlainNode) (v : SnapValue MillState) → IsKnown plan → IsPlace (home_of plan (f, r)) → IsGood (home_of plan (f, r)) most p → p.recovering ≡ false
    → StandsForSnapshot (spec_of (home_of plan (f, r))).ops plan.width v (snapshot (home_of plan (f, r)) p) → IsTyped v → length (snapshot_bytes v) < 2 ^ 32 → IsSavable plan f v
unfolding out_stable
handed plan f r most p v known place good well stands typed short =
    let home = home_of plan (f, r) in
    let w = plan.width in
    let xs = serial (inputs_done home p) in
    let at = spec-at plan f r place.there in
    let within = cursor-within home p place good.safe well in
    let columns = inputs-columns (p.cursor * w) (port_columns home) p.ports (node-columns home most p place.checked good.safe good.orderly) in
    let fed : Fed plan f r xs p.cursor = record { known = known; place = place; inputs = serial-columns (port_columns home) (inputs_done home p) columns; within = within } in
    let sound : AreSoundOps (ops_at plan f) = rw at.0 (frags-sound plan.frags no_fragment f place.checked.sound.ops place.there) in
    let of : IsOf plan f v.mill = record { sound = sound; width = stands.of.wide; operators = rw at.0 stands.of.operators; idle = stands.of.unspent } in
    let next = stands.mill.next in
    let took : MillAfter v.mill xs v.mill.next = subst (MillAfter v.mill xs) (sym next) stands.mill in
    let fits = out_stable-fits home p place good.safe well in
    let n = narrow plan f known place.there in
    let end = known.end in
    let low : plan.end < 2 ^ 63 = omega (arith, end) in
    record {
      back = all-come-back plan f v.mill xs typed.ready of took;
      next = next ∙ sym stands.cursor;
      ports = ap length stands.counts ∙ length-map (inputs_done home p) length ∙ length-map p.ports _ ∙ (good-fit home most p place.checked low good).ports ∙ sym at.1;
      cursor = typed.cursor;
      counts = typed.counts;
      numbers = typed.numbers;
      kept = all-told v.kept (rw stands.kept (all-weaker is_small (fits_stream plan (Frag f)) (drop p.base (out_stable home p))
          (λ t h.
          let k = both _ _ h in
          let early = lt-of t.stime plan.end k.0 in
          both-of _ _ (lt-test t.stime (2 ^ 62) (omega (arith, early, end))) (subst (λ c. is_width c ≡ true) (sym (eq-of (length t.vals) (stream_columns plan (Frag f)) k.1)) n.stream))
          (all-drop (fits_stream plan (Frag f)) p.base (out_stable home p) fits))) typed.kept;
      operators = parts-kept plan f r xs v.mill p.cursor fed typed.ready stands.of.wide stands.of.operators stands.mill typed.operators;
      short = short;
    }

-- what is known of a checked script's plan
pub known-of : (s : Script) → IsChecked s → HasFacts s → IsKnown s.plan
unfolding is_in_range
known-of s checked facts =
    let sources = list_all is_source_in_range s.plan.sources in
    let frags = list_all (is_frag_in_range s.plan) s.plan.frags in
    let clients = both _ (list_all (is_phase_in_range s.plan) s.phases) checked.in_range in
    let third = both _ (list_all is_client_in_range s.plan.clients) clients.0 in
    let second = both _ frags third.0 in
    let first = both _ sources second.0 in
    record { checked = checked_plan s facts; frags = facts.frags; sources_known = first.1; frags_known = second.1; end = facts.form.ends }

pub hands-out : (s : Script) (events : List Event) (a f r : ℕ) (p : PlainNode) (v : SnapValue MillState) → IsChecked s → HasFacts s
    → role_of s.plan a ≡ IsNode f r → (slot_of (run s.plan events) a).node ≡ Some p → p.recovering ≡ false
    → StandsForSnapshot (spec_of (home_of s.plan (f, r))).ops s.plan.width v (snapshot (home_of s.plan (f, r)) p)
    → IsTyped v → length (snapshot_bytes v) < 2 ^ 32 → IsSavable s.plan f v
hands-out s events a f r p v checked facts role up well stands typed short =
    let plan = s.plan in
    let known = known-of s checked facts in
    let most = 1 + length events in
    let same = run-plan plan events in
    let place = (actor-at plan a f r known.checked role).place in
    let good = node-good (run plan events) most a f r p (run-world plan events known.checked) (ap (λ (q : Plan). role_of q a) same ∙ role) up in
    handed plan f r most p v known place (subst (λ (q : Plan). IsGood (home_of q (f, r)) most p) same good) well stands typed short
