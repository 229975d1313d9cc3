-- A data path that begins: at the opening, in a later incarnation, and after all was lost.
use Rattle.std.proofs.Common.{◌≡◌, ℕ, zero, suc, ◌*◌, ◌<◌, Bool, List, [], ◌∷◌, map, length, replicate, slice_get, refl, sym, ap, subst, ◌∙◌, arith, All, Some, None, false}
use Rattle.std.proofs.lemmas.List.Elements.{All-nil, All-cons}
use Rattle.std.proofs.lemmas.Slice.Zip.{AllZip-long}
use Rattle.dpc_model.specs.Fragments.{AreSoundOps, AreSoundFrags}
use Rattle.dpc_model.specs.Inlets.{InletState, restarted_inlet, sess_of}
use Rattle.dpc_model.specs.Parts.{Inputs, Stream, Outputs}
use Rattle.dpc_model.specs.PartStands.{OutputValue, StandsForInlet, StandsForPorts, StandsForOutput}
use Rattle.dpc_model.specs.Reading.{stable_reader}
use Rattle.dpc_model.specs.Sessions.{Acked, with_session_shut}
use Rattle.dpc_model.specs.declared.operators.OpSpec.{OpSpec}
use Rattle.dpc_model.specs.declared.plans.FragSpec.{FragSpec}
use Rattle.dpc_model.specs.declared.sessions.Sub.{Sub}
use Rattle.dpc_model.specs.declared.tuples.Tuple.{Tuple}
use Rattle.dpc_model.proofs.Numbers.{none-times}
use Rattle.checkpoint_redo.specs.Keeping.{KeptValue}
use Rattle.fragment_mill.specs.Mills.{MillState, MillAfter, specs_of}
use Rattle.soutput.specs.Giving.{restarted_output}
use Rattle.sunion.specs.Values.{SUnionValue}
use Rattle.sunion.specs.Unions.{union_at, restarted_union}
use Rattle.sunion.specs.Laws.{inlets_anew, inputs_anew, inputs_at}
use Rattle.sunion.proofs.Lawful.{start-stands, restarting-stands}
use Rattle.pipeline.specs.Flowing.{PipelineValue, IsMillOf, StandsForData}
use Rattle.pipeline.specs.Recovery.{restarted_inputs, lost_inputs, lost_outputs, zeros_for}
use Rattle.pipeline.proofs.Opening.{before-first}

-- ---- the fragment of a plan

pub sound-at : (frags : List FragSpec) (i : ℕ) (f : FragSpec) → AreSoundFrags frags → slice_get frags i ≡ Some f → AreSoundOps f.ops
sound-at [] i f s e = absurd cc
sound-at (g ∷ frags) zero f s e = let same : g ≡ f = cc in subst (λ (h : FragSpec). AreSoundOps h.ops) same s.0
sound-at (g ∷ frags) (suc i) f s e = sound-at frags i f s.1 e

-- ---- lists of one element

pub map-replicate : {X Y : Type 0} (f : X → Y) (x : X) (n : ℕ) → map f (replicate n x) ≡ replicate n (f x)
map-replicate f x zero = refl
map-replicate {X} {Y} f x (suc n) = ap (λ (ys : List Y). f x ∷ ys) (map-replicate f x n)

abbrev pub empty_streams : ℕ → List (List Tuple)
empty_streams n = replicate n []

pub none-below : (b n : ℕ) → All (λ (ts : List Tuple). All (λ (t : Tuple). t.stime < b) ts) (empty_streams n)
none-below b zero = All-nil (λ (ts : List Tuple). All (λ (t : Tuple). t.stime < b) ts)
none-below b (suc n) = All-cons (λ (ts : List Tuple). All (λ (t : Tuple). t.stime < b) ts) [] (empty_streams n) (All-nil (λ (t : Tuple). t.stime < b)) (none-below b n)

pub none-counted : (n : ℕ) → map (λ (ts : List Tuple). length ts) (empty_streams n) ≡ replicate n 0
none-counted n = map-replicate (λ (ts : List Tuple). length ts) [] n

-- ---- an output of which nothing was given

abbrev pub blank : List Sub → List Acked → OutputValue
blank subs acks = record { count = 0; kept = []; base = 0; bound = 0; tentative = []; passed = None; subs = subs; acks = acks }

-- with it, and a mill that took nothing, a data path begins
pub begins : (ops : List OpSpec) (u : SUnionValue) (k : KeptValue MillState) (out : OutputValue) (passing : Bool) (x : Inputs) (subs : List Sub) (acks : List Acked) →
    AreSoundOps ops → 0 < u.width → StandsForPorts u.width u.union x → IsMillOf ops u.width k.keeper.state → k.keeper.held ≡ None → MillAfter k.keeper.state [] 0 →
    x.cursor ≡ 0 → x.closed ≡ [] → out ≡ blank subs acks →
    StandsForData ops (record { union = u; keeper = k; output = out; passing = passing }) x (record { subs = subs; acks = acks; base = 0 })
begins ops u k out passing x subs acks sound some ports mill held after start none is =
    let s : Stream = record { stable = []; bound = 0; tentative = []; passed = None } in
    let o : Outputs = record { subs = subs; acks = acks; base = 0 } in
    let bare : StandsForOutput s (blank subs acks) o = record {
      count = refl;
      within = omega arith;
      kept = refl;
      base = refl;
      bound = refl;
      tentative = refl;
      passed = refl;
      subs = refl;
      acks = refl;
    } in
    subst (λ (v : OutputValue). StandsForData ops (record { union = u; keeper = k; output = v; passing = passing }) x o) (sym is)
    (before-first ops u k (blank subs acks) passing x sound some ports mill held after start none bare)

-- ---- in a later incarnation

restarted-are : (w inc n : ℕ) → inputs_at w inc 0 (empty_streams n) ≡ restarted_inputs n inc
restarted-are w inc n =
    let zero_time = none-times w in
    let inlets : map (λ (ts : List Tuple). restarted_inlet (stable_reader ts (0 * w)) (sess_of inc 0)) (empty_streams n) ≡ replicate n (restarted_inlet (stable_reader [] 0) (sess_of inc 0)) =
    map-replicate (λ (ts : List Tuple). restarted_inlet (stable_reader ts (0 * w)) (sess_of inc 0)) [] n ∙ ap (λ (b : ℕ). replicate n (restarted_inlet (stable_reader [] b) (sess_of inc 0))) zero_time in
    ap (λ (is : List InletState). record { inlets = is; stamps = []; cursor = 0; closed = [] }) inlets

pub restarted-ports : (u : SUnionValue) (w end delay inc n : ℕ) (counts : List ℕ) → u ≡ union_at w end delay inc 0 counts → counts ≡ replicate n 0 → StandsForPorts u.width u.union (restarted_inputs n inc)
restarted-ports u w end delay inc n counts is none =
    let law = start-stands.1 w end delay inc 0 (empty_streams n) (none-below (0 * w) n) in
    let same : union_at w end delay inc 0 (map (λ (ts : List Tuple). length ts) (empty_streams n)) ≡ u =
    ap (λ (cs : List ℕ). union_at w end delay inc 0 cs) (none-counted n ∙ sym none) ∙ sym is in
    subst (λ (v : SUnionValue). StandsForPorts v.width v.union (restarted_inputs n inc)) same
    (subst (λ (x : Inputs). StandsForPorts w (union_at w end delay inc 0 (map (λ (ts : List Tuple). length ts) (empty_streams n))).union x) (restarted-are w inc n) law)

-- ---- after a loss

lost-inlets : (b n : ℕ) (xs : List InletState) → length xs ≡ n → inlets_anew b (empty_streams n) xs ≡ map (λ (i : InletState). restarted_inlet (stable_reader [] b) i.sess) xs
lost-inlets b zero [] e = refl
lost-inlets b zero (x ∷ xs) e = absurd (omega (arith, e))
lost-inlets b (suc n) [] e = absurd (omega (arith, e))
lost-inlets b (suc n) (x ∷ xs) e = ap (λ (is : List InletState). restarted_inlet (stable_reader [] b) x.sess ∷ is) (lost-inlets b n xs (omega (arith, e)))

lost-are : (w n : ℕ) (x : Inputs) → length x.inlets ≡ n → inputs_anew w 0 (empty_streams n) x ≡ lost_inputs x
lost-are w n x e =
    let zero_time = none-times w in
    let inlets : inlets_anew (0 * w) (empty_streams n) x.inlets ≡ map (λ (i : InletState). restarted_inlet (stable_reader [] 0) i.sess) x.inlets =
    lost-inlets (0 * w) n x.inlets e ∙ ap (λ (b : ℕ). map (λ (i : InletState). restarted_inlet (stable_reader [] b) i.sess) x.inlets) zero_time in
    ap (λ (is : List InletState). record { inlets = is; stamps = []; cursor = 0; closed = [] }) inlets

pub lost-ports : (u v : SUnionValue) (x : Inputs) (n : ℕ) (counts : List ℕ) → StandsForPorts v.width v.union x → n ≡ length v.union.inlets → counts ≡ replicate n 0 → u ≡ restarted_union 0 counts v → StandsForPorts u.width u.union (lost_inputs x)
lost-ports u v x n counts h many none is =
    let long = AllZip-long (StandsForInlet (x.cursor * v.width)) v.union.inlets x.inlets h.inlets in
    let law = restarting-stands v x 0 (empty_streams n) h (none-below (0 * v.width) n) in
    let same : restarted_union 0 (map (λ (ts : List Tuple). length ts) (empty_streams n)) v ≡ u = ap (λ (cs : List ℕ). restarted_union 0 cs v) (none-counted n ∙ sym none) ∙ sym is in
    subst (λ (t : SUnionValue). StandsForPorts t.width t.union (lost_inputs x)) same
    (subst (λ (y : Inputs). StandsForPorts v.width (restarted_union 0 (map (λ (ts : List Tuple). length ts) (empty_streams n)) v).union y) (lost-are v.width n x (long ∙ sym many)) law)

-- a mill of the same operators and width
pub same-mill : (ops : List OpSpec) (w : ℕ) (m n : MillState) → IsMillOf ops w m → specs_of n.stages ≡ specs_of m.stages → Some n.width ≡ Some m.width → n.spent ≡ false → IsMillOf ops w n
same-mill ops w m n h operators width unspent = let same : n.width ≡ m.width = cc in record { operators = operators ∙ h.operators; wide = same ∙ h.wide; unspent = unspent }

pub loses : (ops : List OpSpec) (old : PipelineValue) (u : SUnionValue) (k : KeptValue MillState) (out : OutputValue) (x : Inputs) (o : Outputs) (n : ℕ) (counts : List ℕ) →
    StandsForData ops old x o → n ≡ length old.union.union.inlets → counts ≡ replicate n 0 → u ≡ restarted_union 0 counts old.union →
    specs_of k.keeper.state.stages ≡ specs_of old.keeper.keeper.state.stages → Some k.keeper.state.width ≡ Some old.keeper.keeper.state.width →
    k.keeper.state.spent ≡ false → k.keeper.held ≡ None → MillAfter k.keeper.state [] 0 → out ≡ restarted_output 0 [] 0 old.output →
    StandsForData ops (record { union = u; keeper = k; output = out; passing = old.passing }) (lost_inputs x) (lost_outputs o)
loses ops old u k out x o n counts h many none is operators width unspent held after output =
    let w = old.union.width in
    let wide : u.width ≡ w = ap (λ (t : SUnionValue). t.width) is in
    let mill = same-mill ops w old.keeper.keeper.state k.keeper.state h.state operators width unspent in
    let is_out : out ≡ blank (map with_session_shut o.subs) (zeros_for o.acks) =
    output ∙ ap (λ (ss : List Sub). blank (map with_session_shut ss) (zeros_for old.output.acks)) h.output.subs ∙ ap (λ (zs : List Acked). blank (map with_session_shut o.subs) (zeros_for zs)) h.output.acks in
    begins ops u k out old.passing (lost_inputs x) (map with_session_shut o.subs) (zeros_for o.acks) h.sound (subst (λ (j : ℕ). 0 < j) (sym wide) h.some)
    (lost-ports u old.union x n counts h.ports many none is) (subst (λ (j : ℕ). IsMillOf ops j k.keeper.state) (sym wide) mill) held after refl refl is_out
