-- What a value shows of the plain inputs and outputs that it stands for.
use Rattle.std.proofs.Common.{◌≡◌, ℕ, zero, suc, ◌-◌, ◌*◌, ◌<◌, ◌≤◌, List, [], ◌∷◌, ◌++◌, length, refl, sym, ap, subst, ◌∙◌, arith, length-append}
use Rattle.std.proofs.lemmas.List.Elements.{All-head, All-tail, filter-append}
use Rattle.std.specs.List.{All, AllZip}
use Rattle.dpc_lists.specs.Lists.{nth}
use Rattle.dpc_model.specs.Streams.{InOrder, cut, count_below, is_below}
use Rattle.dpc_model.specs.Inlets.{InletState, no_inlet}
use Rattle.dpc_model.specs.Parts.{Inputs, Outputs, AreInOrder}
use Rattle.dpc_model.specs.PartStands.{InletValue, StandsForInlet}
use Rattle.dpc_model.specs.declared.operators.OpSpec.{OpSpec}
use Rattle.dpc_model.specs.declared.tuples.Tuple.{Tuple}
use Rattle.dpc_model.proofs.Cuts.{cut-below}
use Rattle.inlet.proofs.Dropping.{kept-InOrder}
use Rattle.sunion.specs.Unions.{no_value}
use Rattle.sunion.proofs.Standing.{stands-at}
use Rattle.pipeline.specs.Flowing.{PipelineValue, StandsForData}

-- ---- the whole

pub cursor-shown : (ops : List OpSpec) (v : PipelineValue) (x : Inputs) (o : Outputs) → StandsForData ops v x o → v.union.union.cursor ≡ x.cursor
cursor-shown ops v x o h = h.ports.cursor

pub closed-shown : (ops : List OpSpec) (v : PipelineValue) (x : Inputs) (o : Outputs) → StandsForData ops v x o → v.union.union.closed ≡ length x.closed
closed-shown ops v x o h = h.ports.closed

pub subs-shown : (ops : List OpSpec) (v : PipelineValue) (x : Inputs) (o : Outputs) → StandsForData ops v x o → v.output.subs ≡ o.subs
subs-shown ops v x o h = h.output.subs

-- there are as many ports
as-many : (b : ℕ) (vs : List InletValue) (is : List InletState) → AllZip (StandsForInlet b) vs is → length vs ≡ length is
as-many b [] [] z = refl
as-many b [] (i ∷ is) z = absurd z
as-many b (v ∷ vs) [] z = absurd z
as-many b (v ∷ vs) (i ∷ is) z = ap suc (as-many b vs is z.1)

pub ports-shown : (ops : List OpSpec) (v : PipelineValue) (x : Inputs) (o : Outputs) → StandsForData ops v x o → length v.union.union.inlets ≡ length x.inlets
ports-shown ops v x o h = as-many (x.cursor * v.union.width) v.union.union.inlets x.inlets h.ports.inlets

-- ---- one port

pub inlet-shown : (ops : List OpSpec) (v : PipelineValue) (x : Inputs) (o : Outputs) (port : ℕ) → port < length v.union.union.inlets → StandsForData ops v x o →
    StandsForInlet (x.cursor * v.union.width) (nth no_value v.union.union.inlets port) (nth no_inlet x.inlets port)
inlet-shown ops v x o port low h = stands-at (x.cursor * v.union.width) port v.union.union.inlets x.inlets low h.ports.inlets

pub count-shown : (ops : List OpSpec) (v : PipelineValue) (x : Inputs) (o : Outputs) (port : ℕ) → port < length v.union.union.inlets → StandsForData ops v x o →
    (nth no_value v.union.union.inlets port).count ≡ length (nth no_inlet x.inlets port).held.stable
count-shown ops v x o port low h = (inlet-shown ops v x o port low h).count

pub broken-shown : (ops : List OpSpec) (v : PipelineValue) (x : Inputs) (o : Outputs) (port : ℕ) → port < length v.union.union.inlets → StandsForData ops v x o →
    (nth no_value v.union.union.inlets port).state.broken ≡ (nth no_inlet x.inlets port).broken
broken-shown ops v x o port low h = ap (λ (i : InletState). i.broken) (inlet-shown ops v x o port low h).rest

pub answered-shown : (ops : List OpSpec) (v : PipelineValue) (x : Inputs) (o : Outputs) (port : ℕ) → port < length v.union.union.inlets → StandsForData ops v x o →
    (nth no_value v.union.union.inlets port).state.answered ≡ (nth no_inlet x.inlets port).answered
answered-shown ops v x o port low h = ap (λ (i : InletState). i.answered) (inlet-shown ops v x o port low h).rest

pub sess-shown : (ops : List OpSpec) (v : PipelineValue) (x : Inputs) (o : Outputs) (port : ℕ) → port < length v.union.union.inlets → StandsForData ops v x o →
    (nth no_value v.union.union.inlets port).state.sess ≡ (nth no_inlet x.inlets port).sess
sess-shown ops v x o port low h = ap (λ (i : InletState). i.sess) (inlet-shown ops v x o port low h).rest

-- ---- the stable tuples below the cursor's bucket

-- so many lie below a time, where those that were forgotten do, and of what is kept all but those from a place on
pub done-counts : (b place long result : ℕ) (kept : List Tuple) (v : InletValue) (x : InletState) → InOrder x.held.stable → StandsForInlet b v x →
    kept ≡ v.state.held.stable → (InOrder kept → place ≡ count_below kept b) → place ≤ length kept → long ≡ length kept → result ≡ v.count - (long - place) → result ≡ count_below x.held.stable b
done-counts b place long result kept v x o h same here within counted_as told =
    let gone = h.kept.0 in
    let all : x.held.stable ≡ gone ++ kept = h.kept.1 ∙ ap (λ (ts : List Tuple). gone ++ ts) (sym same) in
    let cuts : cut x.held.stable b ≡ gone ++ cut kept b =
    ap (λ (ts : List Tuple). cut ts b) all ∙ filter-append (is_below b) gone kept ∙ rw (cut-below b gone h.kept.2) refl in
    let counted = ap (λ (ts : List Tuple). length ts) cuts ∙ length-append gone (cut kept b) in
    let count = h.count ∙ ap (λ (ts : List Tuple). length ts) all ∙ length-append gone kept in
    let at = here (subst InOrder (sym same) (kept-InOrder b v x o h)) in omega (arith, counted, count, at, within, counted_as, told)

-- the time of the cursor's bucket
pub cursor-at : (ops : List OpSpec) (v : PipelineValue) (x : Inputs) (o : Outputs) (cursor width : ℕ) → StandsForData ops v x o → cursor ≡ v.union.union.cursor → width ≡ v.union.width →
    cursor * width ≡ x.cursor * v.union.width
cursor-at ops v x o cursor width h here same = ap (λ (n : ℕ). n * width) (here ∙ h.ports.cursor) ∙ ap (λ (n : ℕ). x.cursor * n) same

ordered-at : (port : ℕ) (inlets : List InletState) → All (λ (i : InletState). InOrder i.held.stable) inlets → InOrder (nth no_inlet inlets port).held.stable
ordered-at port [] all = tt
ordered-at zero (i ∷ inlets) all = All-head (λ (j : InletState). InOrder j.held.stable) i inlets all
ordered-at (suc port) (i ∷ inlets) all = ordered-at port inlets (All-tail (λ (j : InletState). InOrder j.held.stable) i inlets all)

-- so many of a port's stable tuples are processed stably
pub done-shown : (ops : List OpSpec) (v : PipelineValue) (x : Inputs) (o : Outputs) (port time done : ℕ) (i : InletValue) → port < length v.union.union.inlets → StandsForData ops v x o → AreInOrder x →
    time ≡ x.cursor * v.union.width → i ≡ nth no_value v.union.union.inlets port →
    ((y : InletState) → InOrder y.held.stable → StandsForInlet time i y → done ≡ count_below y.held.stable time) →
    done ≡ count_below (nth no_inlet x.inlets port).held.stable (x.cursor * v.union.width)
done-shown ops v x o port time done i low h ordered at here told =
    let y = nth no_inlet x.inlets port in
    let shown : StandsForInlet time i y =
    subst (λ (j : InletValue). StandsForInlet time j y) (sym here) (subst (λ (n : ℕ). StandsForInlet n (nth no_value v.union.union.inlets port) y) (sym at) (inlet-shown ops v x o port low h)) in
    told y (ordered-at port x.inlets ordered) shown ∙ ap (λ (n : ℕ). count_below y.held.stable n) at
