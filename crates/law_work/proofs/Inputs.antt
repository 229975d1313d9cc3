-- What a safe node holds below its bounds is what its fragment takes when nothing fails.
use Rattle.std.proofs.Common.{◌≡◌, ℕ, zero, suc, ◌+◌, ◌-◌, ◌*◌, ◌≤◌, Bool, true, false, ◌&&◌, nat_le, List, [], ◌∷◌, ◌++◌, map, refl, sym, ap, ◌∙◌, arith, append-nil}
use Rattle.std.proofs.lemmas.Grind.{common_steps}
use Rattle.std.proofs.lemmas.List.Elements.{filter-append, recursion_from_All}
use Rattle.std.specs.List.{AllByRecursion}
use Rattle.std.specs.Prelude.{if◌then◌else◌}
use Rattle.dpc_lists.specs.Lists.{range_with_len, is_nil}
use Rattle.dpc_lists.proofs.Elements.{map-map}
use Rattle.dpc_model.specs.Fragments.{serial, ideal_upto, IsSound}
use Rattle.dpc_model.specs.Inlets.{InletState}
use Rattle.dpc_model.specs.Operators.{between}
use Rattle.dpc_model.specs.Parts.{processed, ArePastBounds}
use Rattle.dpc_model.specs.Ports.{Port, held_at}
use Rattle.dpc_model.specs.Reading.{Reader}
use Rattle.dpc_model.specs.Streams.{cut, is_below}
use Rattle.dpc_model.specs.declared.plans.Plan.{Plan}
use Rattle.dpc_model.specs.declared.plans.StreamRef.{StreamRef}
use Rattle.dpc_model.specs.declared.tuples.Tuple.{Tuple}
use Rattle.dpc_model.specs.declared.tuples.Tagged.{Tagged}
use Rattle.dpc_model.proofs.WindowCausality.{filter-implied}
use Rattle.node_model.specs.Nodes.{Home, PlainNode, streams_of, held_by, bucket_of, complete_upto, ready}
use Rattle.node_model.specs.NodeParts.{inputs_of}
use Rattle.node_core.specs.Milling.{next_buckets}
use Rattle.world_model.specs.Safe.{HoldsOf, EachHolds, EachReaches}
use Rattle.law_safety.proofs.Milling.{reaches_least}
use Rattle.law_safety.proofs.Outputs.{cut-held, inputs-held}
use Rattle.law_fit.proofs.Readers.{IsPast}
use Rattle.law_work.specs.TrueWork.{true_inputs, true_bucket, true_buckets, IsSoundNode}

-- ---- what was processed

-- a node that serves has processed the failure-free inputs below its cursor
pub processed-true : (home : Home) (p : PlainNode) → IsSoundNode home p → p.recovering ≡ false → processed home.plan.width (inputs_of p) ≡ true_inputs home.plan home.frag p.cursor
processed-true home p sound up =
    let b = p.cursor * home.plan.width in
    ap serial
    (map-map (λ (i : InletState). cut i.held.stable b) (λ (q : Port). q.inlet) p.ports
    ∙ inputs-held home.plan b sound.place.checked.sound (streams_of home) p.ports sound.safe.inputs (sound.safe.output up).reaches)

-- ---- one bucket

none-between : (a b bound : ℕ) (ts : List Tuple) → b ≤ bound → AllByRecursion (λ (t : Tuple). bound ≤ t.stime) ts → between a b ts ≡ []
none-between a b bound [] h late = refl
none-between a b bound (t ∷ ts) h late = grind (arith, common_steps, late.0, none-between a b bound ts h late.1)

-- at a port that goes as far
port-between : (plan : Plan) (s : StreamRef) (a b : ℕ) (r : Reader) → IsSound plan → HoldsOf plan s r → IsPast r → b ≤ r.bound → between a b (r.stable ++ r.tentative) ≡ between a b (ideal_upto plan s b)
port-between plan s a b r sound h past below =
    let lies = λ (t : Tuple). nat_le a t.stime && is_below b t in
    filter-append lies r.stable r.tentative
    ∙ rw (none-between a b r.bound r.tentative below (recursion_from_All (λ (t : Tuple). r.bound ≤ t.stime) r.tentative past)) (append-nil (between a b r.stable))
    ∙ sym (filter-implied lies (is_below b) (λ (t : Tuple) e. grind (arith, common_steps)) r.stable)
    ∙ ap (λ (ts : List Tuple). between a b ts) (cut-held plan s r b sound h below)

ports-between : (plan : Plan) (a b : ℕ) → IsSound plan → (ss : List StreamRef) (rs : List Reader) → EachHolds plan ss rs → AllByRecursion IsPast rs → EachReaches b rs →
    map (λ (r : Reader). between a b (r.stable ++ r.tentative)) rs ≡ map (λ (ts : List Tuple). between a b ts) (map (λ s. ideal_upto plan s b) ss)
ports-between plan a b sound [] [] h past reach = refl
ports-between plan a b sound [] (r ∷ rs) h past reach = absurd h
ports-between plan a b sound (s ∷ ss) [] h past reach = absurd h
ports-between plan a b sound (s ∷ ss) (r ∷ rs) h past reach =
    rw (port-between plan s a b r sound h.0 past.0 reach.0)
    (ap (λ (tss : List (List Tuple)). between a b (ideal_upto plan s b) ∷ tss) (ports-between plan a b sound ss rs h.1 past.1 reach.1))

-- what the inlets have, the readers of the ports have
past-ports : (ports : List Port) → AllByRecursion (λ (i : InletState). IsPast i.held) (map (λ (q : Port). q.inlet) ports) → AllByRecursion IsPast (map held_at ports)
past-ports [] h = tt
past-ports (q ∷ ports) h = (h.0, past-ports ports h.1)

pub past-readers : (p : PlainNode) → ArePastBounds (inputs_of p) → AllByRecursion IsPast (held_by p)
past-readers p past = past-ports p.ports (recursion_from_All (λ (i : InletState). IsPast i.held) (map (λ (q : Port). q.inlet) p.ports) past)

-- a complete bucket of a node is its fragment's failure-free one
pub bucket-true : (home : Home) (p : PlainNode) (k : ℕ) → IsSoundNode home p → k + 1 ≤ complete_upto home p → bucket_of home p k ≡ true_bucket home.plan home.frag k
bucket-true home p k sound few =
    ap serial
    (ports-between home.plan (k * home.plan.width) ((k + 1) * home.plan.width) sound.place.checked.sound (streams_of home) (held_by p) sound.safe.inputs (past-readers p sound.past)
    (reaches_least home.plan.width (k + 1) (held_by p) sound.place.checked.width few))

-- ---- the next ready buckets

-- where some bucket is ready the node serves, and the ready ones are complete
pub ready-complete : (home : Home) (p : PlainNode) (count : ℕ) → 1 ≤ count → count ≤ ready home p → (p.recovering ≡ false) × (p.cursor + count ≤ complete_upto home p)
unfolding ready
ready-complete home p count some few = serves p.recovering refl few
  where
    open_too : (bs : List (List Tagged)) → count ≤ (if is_nil bs then complete_upto home p - p.cursor else 0) → p.cursor + count ≤ complete_upto home p
    open_too [] low = omega (arith, some, low)
    open_too (b ∷ bs) low = absurd (omega (arith, some, low))

    serves : (r : Bool) → p.recovering ≡ r → count ≤ (if r then 0 else (if is_nil p.closed then complete_upto home p - p.cursor else 0)) → (p.recovering ≡ false) × (p.cursor + count ≤ complete_upto home p)
    serves true e low = absurd (omega (arith, some, low))
    serves false e low = (e, open_too p.closed low)

same-range : {Y : Type 0} (f g : ℕ → Y) (k n : ℕ) → ((j : ℕ) → j + 1 ≤ k + n → f j ≡ g j) → map f (range_with_len k n) ≡ map g (range_with_len k n)
same-range f g k zero same = refl
same-range {Y} f g k (suc n) same =
    rw (same k (omega arith)) (ap (λ (ys : List Y). g k ∷ ys) (same-range f g (k + 1) n (λ j low. same j (omega (arith, low)))))

-- they are the failure-free ones
pub next-true : (home : Home) (p : PlainNode) (count : ℕ) → IsSoundNode home p → p.cursor + count ≤ complete_upto home p →
    next_buckets home p count ≡ true_buckets home.plan home.frag p.cursor count
next-true home p count sound few =
    same-range (bucket_of home p) (true_bucket home.plan home.frag) p.cursor count (λ j low. bucket-true home p j sound (omega (arith, few, low)))
