-- What a node puts out, also tentatively, fits its stream.
use Rattle.std.proofs.Common.{◌≡◌, ℕ, zero, suc, ◌+◌, ◌*◌, ◌<◌, ◌≤◌, Bool, true, false, ◌&&◌, List, [], ◌∷◌, ◌++◌, map, length, drop, refl, sym, ap, ◌∙◌, arith, add-zero}
use Rattle.std.proofs.lemmas.Grind.{common_steps}
use Rattle.std.specs.List.{filter, enumerate_from}
use Rattle.dpc_lists.specs.Lists.{nth, push, list_all}
use Rattle.dpc_model.specs.Streams.{cut, is_below}
use Rattle.dpc_model.specs.Operators.{all_of}
use Rattle.dpc_model.specs.Columns.{fragment_columns, columns_by, frags_columns, stream_columns}
use Rattle.dpc_model.specs.Fragments.{tag, tagged_from, serial, fragment_value, ReadsBelow, ReadBefore, AreSoundOps, AreSoundFrags}
use Rattle.dpc_model.specs.Ports.{Port, held_at}
use Rattle.dpc_model.specs.declared.tuples.Tuple.{Tuple}
use Rattle.dpc_model.specs.declared.tuples.Tagged.{Tagged}
use Rattle.dpc_model.specs.declared.plans.FragSpec.{FragSpec}
use Rattle.dpc_model.specs.declared.plans.Plan.{Plan}
use Rattle.dpc_model.specs.declared.plans.StreamRef.{StreamRef}
use Rattle.dpc_model.specs.declared.plans.StreamRef.TheVariants.{Source, Frag}
use Rattle.dpc_model.proofs.FragmentValues.{nth-push, nth-pushed, length-push}
use Rattle.dpc_model.proofs.IdealCausality.{cut-fragment_value}
use Rattle.dpc_model.proofs.Buckets.{lies-below}
use Rattle.dpc_model.specs.Engines.{lies_in, is_serial}
use Rattle.node_model.specs.Nodes.{Home, PlainNode, no_fragment, spec_of, streams_of, held_by, inputs_done, node_frontier, buckets_of, out_stable, out_with_closed, out_tentative}
use Rattle.world_model.specs.Safe.{IsSafeNode}
use Rattle.world_model.specs.Orderly.{IsOrderlyNode, has_columns, fits_port, fits_stream, port_columns}
use Rattle.law_safety.proofs.Milling.{reaches-end}
use Rattle.law_safety.specs.Plans.{IsPlace, are_even_ops, are_even_frags}
use Rattle.dpc_lists.proofs.Truths.{both, both-of, lt-of, lt-test, all-append, all-sort, all-part, all-filter, all-weaker, all-drop}
use Rattle.law_safety.proofs.Columns.{AllColumns, fragment-columns, serial-columns, ideal_upto-fits, fits-of}
use Rattle.law_safety.proofs.Serials.{AreColumns}
use Rattle.law_safety.proofs.SoundPorts.{node-columns}
use Rattle.law_safety.proofs.Closing.{AreClosed, closed-of, is_placed}
use Rattle.law_safety.proofs.Processing.{holds-length}

-- ---- the columns of a fragment

-- columns that stand stay
nth-frags : (plan : Plan) (done : List ℕ) (frags : List FragSpec) (k : ℕ) → k < length done → nth 0 (frags_columns plan done frags) k ≡ nth 0 done k
nth-frags plan done [] k h = refl
nth-frags plan done (f ∷ rest) k h =
    let c = fragment_columns (map (columns_by plan done) f.inputs) f.ops in
    nth-frags plan (push done c) rest k (omega (arith, h, length-push done c)) ∙ nth-push 0 done c k h

columns-same : (plan : Plan) (vs ws : List ℕ) (n : ℕ) → ((k : ℕ) → k < n → nth 0 vs k ≡ nth 0 ws k) → (ss : List StreamRef) → ReadsBelow n ss → map (columns_by plan vs) ss ≡ map (columns_by plan ws) ss
columns-same plan vs ws n same [] h = refl
columns-same plan vs ws n same (Source s ∷ ss) h = ap (λ (cs : List ℕ). columns_by plan ws (Source s) ∷ cs) (columns-same plan vs ws n same ss h)
columns-same plan vs ws n same (Frag f ∷ ss) h = rw (same f h.0) (ap (λ (cs : List ℕ). columns_by plan ws (Frag f) ∷ cs) (columns-same plan vs ws n same ss h.1))

-- the columns of a fragment behind those that stand, and that its unions are even
pub record HasFragment (plan : Plan) (cs : List ℕ) (f : ℕ) (frag : FragSpec) : Type 0 where
  pub columns : nth 0 cs f ≡ fragment_columns (map (columns_by plan cs) frag.inputs) frag.ops
  pub even : are_even_ops (map (columns_by plan cs) frag.inputs) [] frag.ops ≡ true

fragment-at : (plan : Plan) (done : List ℕ) (frags : List FragSpec) (d : FragSpec) (i : ℕ) → i < length frags → ReadBefore (length done) frags → are_even_frags plan done frags ≡ true →
    HasFragment plan (frags_columns plan done frags) (length done + i) (nth d frags i)
fragment-at plan done [] d i h r even = absurd (omega (arith, h))
fragment-at plan done (f ∷ rest) d zero h r even =
    let ports = map (columns_by plan done) f.inputs in
    let c = fragment_columns ports f.ops in
    let cs = frags_columns plan (push done c) rest in
    let stand : (k : ℕ) → k < length done → nth 0 cs k ≡ nth 0 done k =
    λ k below. nth-frags plan (push done c) rest k (omega (arith, below, length-push done c)) ∙ nth-push 0 done c k below in
    let same = columns-same plan cs done (length done) stand f.inputs r.0 in
    let e = both (are_even_ops ports [] f.ops) (are_even_frags plan (push done c) rest) even in
    record {
      columns = rw (add-zero (length done)) (nth-frags plan (push done c) rest (length done) (omega (arith, length-push done c)) ∙ nth-pushed 0 done c
          ∙ ap (λ (ports : List ℕ). fragment_columns ports f.ops) (sym same));
      even = rw same e.0;
    }
fragment-at plan done (f ∷ rest) d (suc i) h r even =
    let ports = map (columns_by plan done) f.inputs in
    let c = fragment_columns ports f.ops in
    let one : length done + suc i ≡ length (push done c) + i = omega (arith, length-push done c) in
    let e = both (are_even_ops ports [] f.ops) (are_even_frags plan (push done c) rest) even in
    rw one (fragment-at plan (push done c) rest d i (omega (arith, h)) (rw (length-push done c) r.1) e.1)

pub home-fragment : (home : Home) → IsPlace home → HasFragment home.plan (frags_columns home.plan [] home.plan.frags) home.frag (spec_of home)
home-fragment home place =
    let one : 0 + home.frag ≡ home.frag = omega arith in
    rw one at (fragment-at home.plan [] home.plan.frags no_fragment home.frag place.there place.checked.sound.inputs place.checked.even)

-- what a fragment makes of tuples with its ports' columns has its stream's
pub value-columns : (home : Home) (xs : List Tagged) (b : ℕ) → IsPlace home → list_all (fits_port (port_columns home)) xs ≡ true →
    list_all (has_columns (stream_columns home.plan (Frag home.frag))) (fragment_value (spec_of home).ops xs b) ≡ true
value-columns home xs b place h =
    let f = home-fragment home place in
    rw f.columns (fragment-columns (port_columns home) (spec_of home).ops xs b h f.even)

-- ---- times

pub frags-sound : (frags : List FragSpec) (d : FragSpec) (f : ℕ) → AreSoundFrags frags → f < length frags → AreSoundOps (nth d frags f).ops
frags-sound [] d f h l = absurd (omega (arith, l))
frags-sound (x ∷ frags) d zero h l = h.0
frags-sound (x ∷ frags) d (suc f) h l = frags-sound frags d f h.1 (omega (arith, l))

abbrev pub is_below_tag : ℕ → Tagged → Bool
is_below_tag b x = is_below b x.tuple

pub filter-all : {X : Type 0} (q : X → Bool) (xs : List X) → list_all q xs ≡ true → filter q xs ≡ xs
filter-all q [] h = refl
filter-all q (x ∷ xs) h = let p = both (q x) (list_all q xs) h in rw p.0 (ap (λ ys. x ∷ ys) (filter-all q xs p.1))

-- what a fragment makes of tuples below a time lies below it
pub value-below : (home : Home) (xs : List Tagged) (b : ℕ) → IsPlace home → list_all (is_below_tag b) xs ≡ true → list_all (is_below b) (fragment_value (spec_of home).ops xs b) ≡ true
value-below home xs b place h =
    let ops = (spec_of home).ops in
    let sound = frags-sound home.plan.frags no_fragment home.frag place.checked.sound.ops place.there in
    let same : cut (fragment_value ops xs b) b ≡ fragment_value ops xs b = cut-fragment_value ops xs b b sound (omega arith) ∙ ap (λ (ys : List Tagged). fragment_value ops ys b) (filter-all (is_below_tag b) xs h) in
    rw same at (all-filter (is_below b) (is_below b) (fragment_value ops xs b) (λ t k. k))

-- ---- what a node has processed

tags-below : (b p : ℕ) (ts : List Tuple) → list_all (is_below b) ts ≡ true → list_all (is_below_tag b) (map (tag p) ts) ≡ true
tags-below b p [] h = refl
tags-below b p (t ∷ ts) h = let k = both (is_below b t) (list_all (is_below b) ts) h in both-of (is_below b t) _ k.0 (tags-below b p ts k.1)

pub inputs-below : (b c p : ℕ) (ports : List Port) → c ≤ b → list_all (is_below_tag b) (tagged_from p (map (λ (q : Port). cut q.inlet.held.stable c) ports)) ≡ true
inputs-below b c p [] h = refl
inputs-below b c p (q ∷ ports) h =
    all-append (is_below_tag b) (map (tag p) (cut q.inlet.held.stable c)) _
    (tags-below b p (cut q.inlet.held.stable c) (all-filter (is_below b) (is_below c) q.inlet.held.stable (λ t k. lt-test t.stime b (let less = lt-of t.stime c k in omega (arith, less, h)))))
    (inputs-below b c (p + 1) ports h)

pub inputs-columns : (c : ℕ) (cs : List ℕ) (ports : List Port) → AreColumns cs (map held_at ports) → AllColumns cs (map (λ (q : Port). cut q.inlet.held.stable c) ports)
inputs-columns c [] [] h = tt
inputs-columns c [] (q ∷ ports) h = absurd h
inputs-columns c (d ∷ cs) [] h = absurd h
inputs-columns c (d ∷ cs) (q ∷ ports) h = (all-part (has_columns d) (is_below c) q.inlet.held.stable (front q.inlet.held.stable q.inlet.held.tentative h.0), inputs-columns c cs ports h.1)
  where
    front : (xs ys : List Tuple) → list_all (has_columns d) (xs ++ ys) ≡ true → list_all (has_columns d) xs ≡ true
    front [] ys k = refl
    front (x ∷ xs) ys k = let e = both (has_columns d x) (list_all (has_columns d) (xs ++ ys)) k in both-of (has_columns d x) (list_all (has_columns d) xs) e.0 (front xs ys e.1)

-- the closed buckets lie below the frontier, and have the columns
pub record Lies (b : ℕ) (cs : List ℕ) (xs : List Tagged) : Type 0 where
  pub below : list_all (is_below_tag b) xs ≡ true
  pub columns : list_all (fits_port cs) xs ≡ true

lies-append : (b : ℕ) (cs : List ℕ) (xs ys : List Tagged) → Lies b cs xs → Lies b cs ys → Lies b cs (xs ++ ys)
lies-append b cs xs ys h k = record { below = all-append (is_below_tag b) xs ys h.below k.below; columns = all-append (fits_port cs) xs ys h.columns k.columns }

closed-lies : (width : ℕ) (cs : List ℕ) (c i top : ℕ) (closed : List (List Tagged)) → c + i + length closed ≤ top → list_all (is_placed width cs c) (enumerate_from i closed) ≡ true →
    Lies (top * width) cs (all_of closed)
closed-lies width cs c i top [] few h = record { below = refl; columns = refl }
closed-lies width cs c i top (b ∷ closed) few h =
    let p = both (is_placed width cs c (i, b)) (list_all (is_placed width cs c) (enumerate_from (i + 1) closed)) h in
    let q = both (list_all (lies_in width (c + i)) b && is_serial b) (list_all (fits_port cs) b) p.0 in
    let inside = (both (list_all (lies_in width (c + i)) b) (is_serial b) q.0).0 in
    lies-append (top * width) cs b (all_of closed)
    (record {
      below = all-weaker (is_below_tag (top * width)) (lies_in width (c + i)) b (λ x k.
          let high = lies-below width (c + i) x k in
          let low : c + i + 1 ≤ top = omega (arith, few) in
          let grown : (c + i + 1) * width ≤ top * width = grind (arith, common_steps) in
          lt-test x.tuple.stime (top * width) (omega (arith, high, grown))) inside;
      columns = q.1;
    })
    (closed-lies width cs c (i + 1) top closed (omega (arith, few)) p.1)

-- the whole of what a node has processed, also as it stands
pub view-lies : (home : Home) (most : ℕ) (n : PlainNode) → IsPlace home → IsSafeNode home n → IsOrderlyNode home most n →
    Lies (node_frontier n * home.plan.width) (port_columns home) (serial (inputs_done home n) ++ all_of n.closed)
view-lies home most n place safe o =
    let w = home.plan.width in
    let later : n.cursor * w ≤ node_frontier n * w = grind (arith, common_steps) in
    let closed = closed-of home n o.closed in
    lies-append (node_frontier n * w) (port_columns home) (serial (inputs_done home n)) (all_of n.closed)
    (record {
      below = all-sort (is_below_tag (node_frontier n * w)) (λ (x : Tagged). x.tuple.stime) (tagged_from 0 (inputs_done home n)) (inputs-below (node_frontier n * w) (n.cursor * w) 0 n.ports later);
      columns = serial-columns (port_columns home) (inputs_done home n) (inputs-columns (n.cursor * w) (port_columns home) n.ports (node-columns home most n place.checked safe o));
    })
    (closed-lies w (port_columns home) n.cursor 0 (node_frontier n) n.closed (omega arith) closed.placed)

pub view-within : (home : Home) (n : PlainNode) → IsPlace home → AreClosed home n.cursor n.closed → node_frontier n * home.plan.width ≤ home.plan.end
view-within home n place closed =
    let whole = place.checked.whole in
    let few = closed.within in
    let grown : node_frontier n * home.plan.width ≤ buckets_of home.plan * home.plan.width = grind (arith, common_steps) in
    omega (arith, whole, grown)

pub out_with_closed-fits : (home : Home) (most : ℕ) (n : PlainNode) → IsPlace home → IsSafeNode home n → IsOrderlyNode home most n → list_all (fits_stream home.plan (Frag home.frag)) (out_with_closed home n) ≡ true
unfolding out_with_closed
out_with_closed-fits home most n place safe o =
    let xs = serial (inputs_done home n) ++ all_of n.closed in
    let b = node_frontier n * home.plan.width in
    let l = view-lies home most n place safe o in
    fits-of home.plan (Frag home.frag) b (fragment_value (spec_of home).ops xs b) (view-within home n place (closed-of home n o.closed))
    (value-below home xs b place l.below) (value-columns home xs b place l.columns)

pub drop-fits : (plan : Plan) (s : StreamRef) (k : ℕ) (ts : List Tuple) → list_all (fits_stream plan s) ts ≡ true → list_all (fits_stream plan s) (drop k ts) ≡ true
drop-fits plan s k ts h = all-drop (fits_stream plan s) k ts h

pub out_tentative-fits : (home : Home) (most : ℕ) (n : PlainNode) → IsPlace home → IsSafeNode home n → IsOrderlyNode home most n → list_all (fits_stream home.plan (Frag home.frag)) (out_tentative home n) ≡ true
unfolding out_tentative
out_tentative-fits home most n place safe o = drop-fits home.plan (Frag home.frag) (length (out_stable home n)) (out_with_closed home n) (out_with_closed-fits home most n place safe o)

-- the bound of what a node has processed stably
pub cursor-within : (home : Home) (n : PlainNode) → IsPlace home → IsSafeNode home n → n.recovering ≡ false → n.cursor * home.plan.width ≤ home.plan.end
cursor-within home n place safe up =
    let same = holds-length home.plan (streams_of home) (held_by n) safe.inputs in
    let some = place.reads in
    reaches-end home.plan (n.cursor * home.plan.width) (streams_of home) (held_by n) (omega (arith, same, some)) safe.inputs (safe.output up).reaches

pub out_stable-fits : (home : Home) (n : PlainNode) → IsPlace home → IsSafeNode home n → n.recovering ≡ false → list_all (fits_stream home.plan (Frag home.frag)) (out_stable home n) ≡ true
out_stable-fits home n place safe up =
    rw (safe.output up).output (ideal_upto-fits home.plan (Frag home.frag) (n.cursor * home.plan.width) place.checked (cursor-within home n place safe up))
