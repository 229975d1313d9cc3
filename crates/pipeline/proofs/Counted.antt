-- Of each port's stable tuples those below the cursor's bucket.
use Rattle.std.proofs.Common.{◌≡◌, ℕ, zero, suc, ◌+◌, ◌*◌, ◌<◌, ◌≤◌, List, [], ◌∷◌, ◌++◌, map, take, length, refl, sym, ap, subst, ◌∙◌, arith}
use Rattle.std.proofs.lemmas.Simd.{map-map}
use Rattle.std.proofs.lemmas.List.{take_all}
use Rattle.std.proofs.lemmas.List.Elements.{All-head, All-tail}
use Rattle.std.proofs.lemmas.Slice.Zip.{AllZip-long}
use Rattle.std.specs.List.{All}
use Rattle.dpc_lists.specs.Lists.{nth}
use Rattle.dpc_model.specs.Streams.{InOrder, cut, count_below}
use Rattle.dpc_model.specs.Inlets.{InletState, no_inlet}
use Rattle.dpc_model.specs.Parts.{Inputs, done_in, AreInOrder}
use Rattle.dpc_model.specs.PartStands.{InletValue, StandsForInlet}
use Rattle.dpc_model.specs.declared.tuples.Tuple.{Tuple}
use Rattle.sunion.specs.Values.{SUnionValue}
use Rattle.sunion.specs.Unions.{StandsForInputs, no_value}
use Rattle.sunion.proofs.Standing.{stands-at}

-- ---- one port

-- ---- all ports

mapped-next : {X Y : Type 0} (f : X → Y) (d : X) (i : ℕ) (xs : List X) → i < length xs → map f (take (i + 1) xs) ≡ map f (take i xs) ++ f (nth d xs i) ∷ []
mapped-next f d i [] low = absurd (omega (arith, low))
mapped-next f d zero (x ∷ xs) low = refl
mapped-next {X} {Y} f d (suc i) (x ∷ xs) low =
    let next : suc i + 1 ≡ suc (i + 1) = omega arith in rw next (ap (λ (ys : List Y). f x ∷ ys) (mapped-next f d i xs (omega (arith, low))))

all-at : {X : Type 0} (P : X → Type 0) (d : X) (i : ℕ) (xs : List X) → i < length xs → All P xs → P (nth d xs i)
all-at P d i [] low h = absurd (omega (arith, low))
all-at P d zero (x ∷ xs) low h = All-head P x xs h
all-at P d (suc i) (x ∷ xs) low h = all-at P d i xs (omega (arith, low)) (All-tail P x xs h)

pub counted-next : (v : SUnionValue) (x : Inputs) (port time n : ℕ) (inlet : InletValue) (counts : List ℕ) → StandsForInputs v x → AreInOrder x → port < length v.union.inlets →
    time ≡ v.union.cursor * v.width → inlet ≡ nth no_value v.union.inlets port → ((i : InletState) → StandsForInlet time inlet i → InOrder i.held.stable → n ≡ count_below i.held.stable time) →
    counts ≡ map (λ (i : InletState). count_below i.held.stable (x.cursor * v.width)) (take port x.inlets) →
    counts ++ n ∷ [] ≡ map (λ (i : InletState). count_below i.held.stable (x.cursor * v.width)) (take (port + 1) x.inlets)
counted-next v x port time n inlet counts h o low at is told so_far =
    let b = x.cursor * v.width in
    let same : b ≡ time = ap (λ (k : ℕ). k * v.width) (sym h.cursor) ∙ sym at in
    let long = AllZip-long (StandsForInlet b) v.union.inlets x.inlets h.inlets in
    let there : port < length x.inlets = omega (arith, low, long) in
    let i = nth no_inlet x.inlets port in
    let ordered : InOrder i.held.stable = all-at (λ (j : InletState). InOrder j.held.stable) no_inlet port x.inlets there o in
    let stood : StandsForInlet time inlet i =
    subst (λ (c : ℕ). StandsForInlet c inlet i) same (subst (λ (w : InletValue). StandsForInlet b w i) (sym is) (stands-at b port v.union.inlets x.inlets low h.inlets)) in
    let here : n ≡ count_below i.held.stable b = told i stood ordered ∙ ap (λ (c : ℕ). count_below i.held.stable c) (sym same) in
    ap (λ (m : ℕ). counts ++ m ∷ []) here ∙ ap (λ (cs : List ℕ). cs ++ count_below i.held.stable b ∷ []) so_far
    ∙ sym (mapped-next (λ (j : InletState). count_below j.held.stable b) no_inlet port x.inlets there)

pub all-counted : (v : SUnionValue) (x : Inputs) (port ports : ℕ) (counts : List ℕ) → StandsForInputs v x → ports ≡ length v.union.inlets → ports ≤ port →
    counts ≡ map (λ (i : InletState). count_below i.held.stable (x.cursor * v.width)) (take port x.inlets) → counts ≡ map length (done_in v.width x)
all-counted v x port ports counts h many past so_far =
    let b = x.cursor * v.width in
    let long = AllZip-long (StandsForInlet b) v.union.inlets x.inlets h.inlets in
    so_far ∙ ap (λ (is : List InletState). map (λ (i : InletState). count_below i.held.stable b) is) (take_all port x.inlets (omega (arith, past, many, long)))
    ∙ sym (map-map (λ (ts : List Tuple). length ts) (λ (i : InletState). cut i.held.stable b) x.inlets)
