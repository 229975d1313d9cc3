-- What a client of a run holds, and the merge of two.
use Rattle.std.proofs.Common.{◌≡◌, ℕ, zero, suc, ◌+◌, ◌≤◌, ◌<◌, max, nat_lt, true, false, List, [], ◌∷◌, length, map, drop, refl, sym, subst, arith}
use Rattle.std.proofs.lemmas.Bool.{ltb-true, ltb-false}
use Rattle.dpc_lists.specs.Lists.{IsPrefixOf, nth, range_with_len}
use Rattle.dpc_model.specs.Fragments.{ideal, ideal_upto}
use Rattle.dpc_model.specs.Reading.{Reader, empty_reader}
use Rattle.dpc_model.specs.declared.messages.Event.{Event}
use Rattle.dpc_model.specs.declared.plans.Plan.{Plan}
use Rattle.dpc_model.specs.declared.plans.StreamRef.{StreamRef}
use Rattle.dpc_model.specs.declared.tuples.Tuple.{Tuple}
use Rattle.node_model.specs.Clients.{client_stream, new_client, reader_of}
use Rattle.world_model.specs.Worlds.{client_at, new_world, run}
use Rattle.world_model.specs.Safe.{HoldsOf}
use Rattle.law_safety.specs.Plans.{IsCheckedPlan}
use Rattle.law_safety.proofs.Clienting.{IsGoodClient, new_client-good}
use Rattle.law_safety.proofs.Law.{run-good}
use Rattle.law_safety.proofs.Worlding.{clients-at, reading-at}
use Rattle.back_channel.specs.Merging.{merge, longer, OneBegins, Leaves}
use Rattle.back_channel.specs.Told.{reader_of as reader_with}
use Rattle.back_channel.proofs.Beginnings.{Begins, begins-append, begins-split, begins-length, one-begins, first-begins, second-begins, longer-begins}
use Rattle.law_pairs.specs.Pairs.{held_at}

-- ---- one client

pub client-of : (plan : Plan) (events : List Event) (c : ℕ) → IsCheckedPlan plan → c < length plan.clients → IsGoodClient plan c (1 + length events) (client_at (run plan events) c)
client-of plan events c checked low =
    let w = run plan events in
    let most = 1 + length events in
    let g = run-good plan events checked in
    let there = subst (λ (p : Plan). c < length p.clients) (sym g.of_plan) low in
    let fresh = new_client-good w.plan c most g.fine.checked.checked (reading-at w.plan c g.fine.checked there) (omega arith) in
    let same : 0 + c ≡ c = omega arith in
    let good = clients-at w.plan most 0 c w.clients (new_client w.plan c) g.fine.clients (rw same fresh) in
    subst (λ (p : Plan). IsGoodClient p c most (client_at w c)) g.of_plan (rw same at good)

-- it holds what it took
pub taken-leaves : (plan : Plan) (events : List Event) (c : ℕ) → IsCheckedPlan plan → c < length plan.clients → Leaves empty_reader (client_at (run plan events) c).taken (held_at (run plan events) c)
taken-leaves plan events c checked low =
    let x = client_at (run plan events) c in
    (record { after = reader_of x; taken = x.taken }, (client-of plan events c checked low).safe.folded, refl)

pub holds-of : (plan : Plan) (events : List Event) (c : ℕ) → IsCheckedPlan plan → c < length plan.clients → HoldsOf plan (client_stream plan c) (held_at (run plan events) c)
holds-of plan events c checked low = (client-of plan events c checked low).safe.holds

new-client : (plan : Plan) (c : ℕ) → (held_at (new_world plan) c ≡ empty_reader) × ((client_at (new_world plan) c).taken ≡ [])
unfolding new_world new_client
new-client plan c = among_new (range_with_len 0 (length plan.clients)) c
  where
    among_new : (ns : List ℕ) (i : ℕ) → (reader_of (nth (new_client plan c) (map (new_client plan) ns) i) ≡ empty_reader) × ((nth (new_client plan c) (map (new_client plan) ns) i).taken ≡ [])
    among_new [] i = (refl, refl)
    among_new (n ∷ ns) zero = (refl, refl)
    among_new (n ∷ ns) (suc i) = among_new ns i

pub first-holds : (plan : Plan) (c : ℕ) → held_at (run plan []) c ≡ empty_reader
unfolding run
first-holds plan c = (new-client plan c).0

pub first-taken : (plan : Plan) (c : ℕ) → (client_at (run plan []) c).taken ≡ []
unfolding run
first-taken plan c = (new-client plan c).1

-- ---- two readers of one stream

pub prefix-begins : (xs ys : List Tuple) → IsPrefixOf xs ys → Begins xs ys
prefix-begins xs ys h = subst (λ (zs : List Tuple). Begins xs zs) (sym h.1) (begins-append xs h.0)

pub holders-go : (plan : Plan) (s : StreamRef) (r q : Reader) → HoldsOf plan s r → HoldsOf plan s q → OneBegins r.stable q.stable
holders-go plan s r q h k =
    one-begins r.stable q.stable (ideal plan s) (prefix-begins r.stable (ideal plan s) h.stable) (prefix-begins q.stable (ideal plan s) k.stable)

-- what is known to be all up to two bounds is all up to the greater one
upto-greater : (plan : Plan) (s : StreamRef) (a b n : ℕ) → length (ideal_upto plan s a) ≤ n → length (ideal_upto plan s b) ≤ n → length (ideal_upto plan s (max a b)) ≤ n
upto-greater plan s a b n h k =
    (elim (nat_lt a b) as (λ c. nat_lt a b ≡ c → length (ideal_upto plan s (max a b)) ≤ n) [
      | true ↦ λ e. let l = ltb-true a b e in let same : b ≡ max a b = omega (arith, l) in subst (λ (t : ℕ). length (ideal_upto plan s t) ≤ n) same k
      | false ↦ λ e. let l = ltb-false a b e in let same : a ≡ max a b = omega (arith, l) in subst (λ (t : ℕ). length (ideal_upto plan s t) ≤ n) same h
    ]) refl

pub merge-holds : (plan : Plan) (s : StreamRef) (r q : Reader) → HoldsOf plan s r → HoldsOf plan s q → HoldsOf plan s (reader_with (merge r q))
merge-holds plan s r q h k =
    let whole = ideal plan s in
    let both = holders-go plan s r q h k in
    let left = prefix-begins r.stable whole h.stable in
    let right = prefix-begins q.stable whole k.stable in
    let begins = longer-begins r.stable q.stable whole left right in
    let on-left = begins-length r.stable (longer r.stable q.stable) (first-begins r.stable q.stable both) in
    let on-right = begins-length q.stable (longer r.stable q.stable) (second-begins r.stable q.stable both) in
    let in-left = h.bound in
    let in-right = k.bound in
    let low = h.within in
    let high = k.within in
    record {
      stable = (drop (length (longer r.stable q.stable)) whole, begins-split (longer r.stable q.stable) whole begins);
      within = omega (arith, low, high);
      bound = upto-greater plan s r.bound q.bound (length (longer r.stable q.stable)) (omega (arith, in-left, on-left)) (omega (arith, in-right, on-right));
    }
