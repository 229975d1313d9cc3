-- The tuples of a bucket port by port, and then in order of time.
use Rattle.std.proofs.Common.{◌≡◌, ℕ, zero, suc, ◌+◌, ◌*◌, ◌<◌, List, [], ◌∷◌, ◌++◌, map, take, length, sym, ap, ◌∙◌, arith, append_assoc, slice_index_or}
use Rattle.std.proofs.lemmas.List.{map-append, take_more, length-map, length-take-le}
use Rattle.std.proofs.lemmas.List.Elements.{filter-append}
use Rattle.std.specs.Prelude.{nat_le, ◌&&◌}
use Rattle.dpc_model.specs.Streams.{InOrder, is_below}
use Rattle.dpc_model.specs.Operators.{between}
use Rattle.dpc_model.specs.Fragments.{tag, tagged_from}
use Rattle.dpc_model.specs.Parts.{bucket_at}
use Rattle.dpc_model.specs.PartStands.{InletValue}
use Rattle.dpc_model.specs.declared.tuples.Tuple.{Tuple}
use Rattle.dpc_model.specs.declared.tuples.Tagged.{Tagged}
use Rattle.dpc_model.proofs.Serial.{tagged_from-push}
use Rattle.sunion.specs.Ports.{bucket_of, KeptInOrder}

-- what one port keeps is in order of time
pub kept-at : (ports : List InletValue) (i : ℕ) (port : InletValue) → KeptInOrder ports → i < length ports → port ≡ slice_index_or ports i port → InOrder port.state.held.stable
kept-at [] i port o low e = absurd (omega (arith, low))
kept-at (p ∷ ports) zero port o low e = rw e o.0
kept-at (p ∷ ports) (suc i) port o low e = kept-at ports i port o.1 (omega (arith, low)) e

-- one port more
pub bucket-more : (width k i : ℕ) (ports : List InletValue) (port : InletValue) → i < length ports → port ≡ slice_index_or ports i port →
    (tagged_from 0 (bucket_of width k (take i ports)) ++ map (tag i) (between (k * width) ((k + 1) * width) port.state.held.stable))
    ++ map (tag i) (between (k * width) ((k + 1) * width) port.state.held.tentative)
    ≡ tagged_from 0 (bucket_of width k (take (i + 1) ports))
bucket-more width k i ports port low e =
    let from = k * width in
    let upto = (k + 1) * width in
    let held = port.state.held in
    let done = tagged_from 0 (bucket_of width k (take i ports)) in
    let taken : take (i + 1) ports ≡ take i ports ++ port ∷ [] = take_more ports i port low ∙ ap (λ (p : InletValue). take i ports ++ p ∷ []) (sym e) in
    let f : InletValue → List Tuple = λ p. bucket_at width k p.state.held in
    let number : 0 + length (bucket_of width k (take i ports)) ≡ i = omega (arith, length-map (take i ports) f, length-take-le i ports (omega (arith, low))) in
    let all : bucket_of width k (take (i + 1) ports) ≡ bucket_of width k (take i ports) ++ between from upto (held.stable ++ held.tentative) ∷ [] =
    ap (λ (ps : List InletValue). bucket_of width k ps) taken ∙ map-append f (take i ports) (port ∷ []) in
    let parts : between from upto (held.stable ++ held.tentative) ≡ between from upto held.stable ++ between from upto held.tentative =
    filter-append (λ (t : Tuple). nat_le from t.stime && is_below upto t) held.stable held.tentative in
    append_assoc done (map (tag i) (between from upto held.stable)) (map (tag i) (between from upto held.tentative))
    ∙ ap (λ (xs : List Tagged). done ++ xs) (sym (map-append (tag i) (between from upto held.stable) (between from upto held.tentative)) ∙ ap (λ (ts : List Tuple). map (tag i) ts) (sym parts))
    ∙ ap (λ (n : ℕ). done ++ map (tag n) (between from upto (held.stable ++ held.tentative))) (sym number)
    ∙ sym (tagged_from-push 0 (bucket_of width k (take i ports)) (between from upto (held.stable ++ held.tentative)))
    ∙ ap (λ (tss : List (List Tuple)). tagged_from 0 tss) (sym all)
