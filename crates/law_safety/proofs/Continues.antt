-- Closing more buckets continues the tentative output.
use Rattle.std.proofs.Common.{◌≡◌, ℕ, suc, ◌+◌, ◌*◌, ◌<◌, ◌≤◌, Bool, true, ◌&&◌, nat_le, List, [], ◌∷◌, ◌++◌, length, refl, sym, ap, ◌∙◌, arith, append_assoc, length-append}
use Rattle.std.proofs.lemmas.Grind.{common_steps}
use Rattle.std.proofs.lemmas.List.{append-nil}
use Rattle.std.proofs.lemmas.List.Elements.{filter-append}
use Rattle.std.specs.List.{enumerate_from, AllByRecursion}
use Rattle.dpc_lists.specs.Lists.{list_all, IsPrefixOf}
use Rattle.dpc_model.specs.Streams.{NoneBelow, IsOrdered, InOrder, cut}
use Rattle.dpc_model.specs.Operators.{all_of}
use Rattle.dpc_model.specs.Engines.{lies_in, is_serial}
use Rattle.dpc_model.specs.Fragments.{serial, cut_tagged, tagged_from, fragment_value}
use Rattle.dpc_model.specs.declared.tuples.Tuple.{Tuple}
use Rattle.dpc_model.specs.declared.tuples.Tagged.{Tagged}
use Rattle.dpc_model.proofs.Buckets.{lies-from, lies-below}
use Rattle.dpc_model.proofs.Causality.{IsOrdered-sort}
use Rattle.dpc_model.proofs.IdealCausality.{cut-fragment_value}
use Rattle.dpc_model.proofs.Prefixes.{cut-beginning}
use Rattle.dpc_model.proofs.Order.{tagged_time, fragment-InOrder}
use Rattle.dpc_model.proofs.Cuts.{ordered-append, none-below}
use Rattle.dpc_model.proofs.Serial.{serial-ordered}
use Rattle.node_model.specs.Nodes.{Home, PlainNode, no_fragment, spec_of, inputs_done, node_frontier, out_with_closed}
use Rattle.world_model.specs.Safe.{IsSafeNode}
use Rattle.world_model.specs.Orderly.{IsOrderlyNode, fits_port, port_columns}
use Rattle.law_safety.specs.Plans.{IsPlace}
use Rattle.dpc_lists.proofs.Truths.{both, le-of, le-test, lt-of, all-append, all-sort, all-weaker}
use Rattle.law_safety.proofs.Closing.{is_placed, AreClosed}
use Rattle.law_safety.proofs.OutFits.{frags-sound, filter-all, is_below_tag, view-lies, inputs-below}

-- ---- order

-- each of these is at or past a time
abbrev pub is_past_tag : ℕ → Tagged → Bool
is_past_tag b x = nat_le b x.tuple.stime

past-none_below : (n : ℕ) (xs : List Tagged) → list_all (is_past_tag n) xs ≡ true → NoneBelow tagged_time n xs
past-none_below n [] h = tt
past-none_below n (x ∷ xs) h = let p = both (is_past_tag n x) (list_all (is_past_tag n) xs) h in (le-of n x.tuple.stime p.0, past-none_below n xs p.1)

rec-of : {X : Type 0} (q : X → Bool) (P : X → Type 0) → ((x : X) → q x ≡ true → P x) → (xs : List X) → list_all q xs ≡ true → AllByRecursion P xs
rec-of q P f [] h = tt
rec-of q P f (x ∷ xs) h = let p = both (q x) (list_all q xs) h in (f x p.0, rec-of q P f xs p.1)

all-of-append : (xss yss : List (List Tagged)) → all_of (xss ++ yss) ≡ all_of xss ++ all_of yss
all-of-append [] yss = refl
all-of-append (xs ∷ xss) yss = ap (λ (zs : List Tagged). xs ++ zs) (all-of-append xss yss) ∙ sym (append_assoc xs (all_of xss) (all_of yss))

-- closed buckets from number i on lie at or past a time, in order
record AreLater (w top : ℕ) (xs : List Tagged) : Type 0 where
  past : list_all (is_past_tag (top * w)) xs ≡ true
  ordered : IsOrdered tagged_time xs

closed-later : (w : ℕ) (cs : List ℕ) (c i top : ℕ) (closed : List (List Tagged)) → top ≤ c + i → list_all (is_placed w cs c) (enumerate_from i closed) ≡ true → AreLater w top (all_of closed)
closed-later w cs c i top [] low h = record { past = refl; ordered = tt }
closed-later w cs c i top (b ∷ closed) low h =
    let p = both (is_placed w cs c (i, b)) (list_all (is_placed w cs c) (enumerate_from (i + 1) closed)) h in
    let q = both (list_all (lies_in w (c + i)) b && is_serial b) (list_all (fits_port cs) b) p.0 in
    let r = both (list_all (lies_in w (c + i)) b) (is_serial b) q.0 in
    let rest = closed-later w cs c (i + 1) top closed (omega (arith, low)) p.1 in
    let behind = closed-later w cs c (i + 1) (c + i + 1) closed (omega arith) p.1 in
    let grown : top * w ≤ (c + i) * w = grind (arith, common_steps) in
    record {
      past = all-append (is_past_tag (top * w)) b (all_of closed)
          (all-weaker (is_past_tag (top * w)) (lies_in w (c + i)) b (λ x k.
          let from = lies-from w (c + i) x k in
          le-test (top * w) x.tuple.stime (omega (arith, from, grown))) r.0) rest.past;
      ordered = ordered-append tagged_time ((c + i + 1) * w) b (all_of closed) (serial-ordered b r.1) behind.ordered
          (rec-of (lies_in w (c + i)) (λ (x : Tagged). tagged_time x < (c + i + 1) * w) (lies-below w (c + i)) b r.0)
          (rec-of (is_past_tag ((c + i + 1) * w)) (λ (x : Tagged). (c + i + 1) * w ≤ tagged_time x) (λ x k. le-of ((c + i + 1) * w) x.tuple.stime k) (all_of closed) behind.past);
    }

numbered-rest : (q : ℕ × List Tagged → Bool) (i : ℕ) (xs ys : List (List Tagged)) → list_all q (enumerate_from i (xs ++ ys)) ≡ true → list_all q (enumerate_from (i + length xs) ys) ≡ true
numbered-rest q i [] ys h = let none : i + 0 ≡ i = omega arith in rw none h
numbered-rest q i (x ∷ xs) ys h =
    let more : i + suc (length xs) ≡ i + 1 + length xs = omega arith in rw more (numbered-rest q (i + 1) xs ys (both (q (i, x)) (list_all q (enumerate_from (i + 1) (xs ++ ys))) h).1)

-- the inputs and the closed buckets of an orderly node, in order of time
view-ordered : (home : Home) (n : PlainNode) → AreClosed home n.cursor n.closed → IsOrdered tagged_time (serial (inputs_done home n) ++ all_of n.closed)
view-ordered home n closed =
    let w = home.plan.width in
    let later = closed-later w (port_columns home) n.cursor 0 n.cursor n.closed (omega arith) closed.placed in
    ordered-append tagged_time (n.cursor * w) (serial (inputs_done home n)) (all_of n.closed) (IsOrdered-sort tagged_time (tagged_from 0 (inputs_done home n))) later.ordered
    (rec-of (is_below_tag (n.cursor * w)) (λ (x : Tagged). tagged_time x < n.cursor * w) (λ x k. lt-of x.tuple.stime (n.cursor * w) k) (serial (inputs_done home n))
    (all-sort (is_below_tag (n.cursor * w)) tagged_time (tagged_from 0 (inputs_done home n)) (inputs-below (n.cursor * w) (n.cursor * w) 0 n.ports (omega arith))))
    (rec-of (is_past_tag (n.cursor * w)) (λ (x : Tagged). n.cursor * w ≤ tagged_time x) (λ x k. le-of (n.cursor * w) x.tuple.stime k) (all_of n.closed) later.past)

-- more closed buckets continue the view
pub view-continues : (home : Home) (most : ℕ) (n m : PlainNode) (more : List (List Tagged)) → IsPlace home → IsSafeNode home n → IsOrderlyNode home most n → AreClosed home m.cursor m.closed →
    inputs_done home m ≡ inputs_done home n → m.cursor ≡ n.cursor → m.closed ≡ n.closed ++ more → IsPrefixOf (out_with_closed home n) (out_with_closed home m)
unfolding out_with_closed
view-continues home most n m more place safe o closed inputs cursor grown =
    let ops = (spec_of home).ops in
    let w = home.plan.width in
    let b = node_frontier n * w in
    let b' = node_frontier m * w in
    let old = serial (inputs_done home n) ++ all_of n.closed in
    let new = serial (inputs_done home m) ++ all_of m.closed in
    let long = ap length grown ∙ length-append n.closed more in
    let views : node_frontier n ≤ node_frontier m = omega (arith, long, cursor) in
    let reach : b ≤ b' = grind (arith, common_steps) in
    let same : new ≡ old ++ all_of more =
    ap (λ (tss : List (List Tuple)). serial tss ++ all_of m.closed) inputs
    ∙ ap (λ (bs : List (List Tagged)). serial (inputs_done home n) ++ all_of bs) grown
    ∙ ap (λ (xs : List Tagged). serial (inputs_done home n) ++ xs) (all-of-append n.closed more)
    ∙ sym (append_assoc (serial (inputs_done home n)) (all_of n.closed) (all_of more)) in
    let placed : list_all (is_placed w (port_columns home) n.cursor) (enumerate_from 0 (n.closed ++ more)) ≡ true = rw (← grown, ← cursor) closed.placed in
    let behind = closed-later w (port_columns home) n.cursor (0 + length n.closed) (node_frontier n) more (omega arith) (numbered-rest (is_placed w (port_columns home) n.cursor) 0 n.closed more placed) in
    let kept : cut_tagged b new ≡ old =
    ap (λ (xs : List Tagged). cut_tagged b xs) same ∙ filter-append (is_below_tag b) old (all_of more)
    ∙ rw (filter-all (is_below_tag b) old (view-lies home most n place safe o).below, none-below tagged_time b b (all_of more) (omega arith) (past-none_below b (all_of more) behind.past)) (append-nil old) in
    let sound = frags-sound home.plan.frags no_fragment home.frag place.checked.sound.ops place.there in
    let cut_is : cut (fragment_value ops new b') b ≡ fragment_value ops old b = cut-fragment_value ops new b b' sound reach ∙ ap (λ (xs : List Tagged). fragment_value ops xs b) kept in
    let in_order : InOrder (fragment_value ops new b') = fragment-InOrder ops new b' (view-ordered home m closed) in
    rw cut_is at (cut-beginning b (fragment_value ops new b') in_order)
