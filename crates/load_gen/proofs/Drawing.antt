-- What a further draw, entry or phase leaves.
use Rattle.std.proofs.Common.{◌≡◌, ℕ, suc, ◌+◌, ◌-◌, ◌*◌, ◌/◌, ◌%◌, ◌^◌, ◌<◌, ◌≤◌, ℤ, pos, List, [], ◌∷◌, ◌++◌, length, slice_index_or, Some, refl, sym, ap, ◌∙◌, arith}
use Rattle.std.proofs.lemmas.List.FromFn.{map-range_with_len_more, length-map-range_with_len, get_or-map-range_with_len}
use Rattle.dpc_model.specs.declared.tuples.Tuple.{Tuple}
use Rattle.dpc_lists.proofs.Truths.{lt-test}
use Rattle.load_gen.specs.Generated.{entries, failures, phases, next_state, state_after, entry, entries_of, failure, ending, begun, ended, failure_draw, failure_draws, phase_of, phases_of}

pub state-more : (seed i : ℕ) → state_after seed (i + 1) ≡ next_state (state_after seed i)
unfolding state_after
state-more seed i = let next : i + 1 ≡ suc i = omega arith in rw next refl

-- the states behind one draw and behind two
pub one-more : (seed i x : ℕ) → x ≡ state_after seed i → next_state x ≡ state_after seed (i + 1)
one-more seed i x e = rw (e, state-more seed i) refl

pub two-more : (seed i x : ℕ) → x ≡ state_after seed i → next_state (next_state x) ≡ state_after seed (i + 2)
two-more seed i x e =
    let same : i + 1 + 1 ≡ i + 2 = omega arith in
    one-more seed (i + 1) (next_state x) (one-more seed i x e) ∙ ap (state_after seed) same

pub entries-more : (seed first n : ℕ) → entries_of seed first (n + 1) ≡ entries_of seed first n ++ entry seed first n ∷ []
entries-more seed first n = map-range_with_len_more (entry seed first) 0 n n (omega arith)

pub draws-more : (seed n : ℕ) → failure_draws seed (n + 1) ≡ failure_draws seed n ++ failure_draw seed (n + 1) ∷ []
draws-more seed n = map-range_with_len_more (failure_draw seed) 1 n (n + 1) (omega arith)

pub phases-more : (seed n : ℕ) → phases_of seed (n + 1) ≡ phases_of seed n ++ phase_of seed (n + 1) ∷ []
phases-more seed n = map-range_with_len_more (phase_of seed) 1 n (n + 1) (omega arith)

pub many-draws : (seed n : ℕ) → length (failure_draws seed n) ≡ n
many-draws seed n = length-map-range_with_len (failure_draw seed) 1 n

-- the draw of failure number j stands at place j - 1
pub draw-at : (seed j n d : ℕ) → 1 ≤ j → j ≤ n → slice_index_or (failure_draws seed n) (j - 1) d ≡ failure_draw seed j
draw-at seed j n d low high = get_or-map-range_with_len (failure_draw seed) 1 n (j - 1) j d (omega (arith, low, high)) (omega (arith, low))

-- an entry by the state before its draws
pub entry-is : (seed first i x a : ℕ) (vals : List ℤ) → x ≡ state_after seed (first + 2 * i) → a ≡ next_state x / 2 ^ 33 % 10 →
    vals ≡ pos (next_state (next_state x) / 2 ^ 33 % 1000) ∷ [] → ◌≡◌ {A = Tuple} (record { stime = 10 * i + a; vals = vals }) (entry seed first i)
entry-is seed first i x a vals e f g =
    let one = one-more seed (first + 2 * i) x e in
    let two = two-more seed (first + 2 * i) x e in
    rw (f, g, ← one, ← two) refl

pub entries-is : entries ≡ 10000
unfolding entries
entries-is = refl

pub failures-is : failures ≡ 40
unfolding failures
failures-is = refl

pub phases-is : phases ≡ 200
unfolding phases
phases-is = refl

pub last-entries : (seed first x i : ℕ) → x ≡ state_after seed (first + 2 * i) → i ≡ 10000 → x ≡ state_after seed (first + 2 * entries)
last-entries seed first x i e f = e ∙ ap (λ n. state_after seed (first + 2 * n)) (f ∙ sym entries-is)

-- what ends and what begins in a phase, by the draws that were kept
pub ended-is : (seed p d : ℕ) → p % 5 ≡ 2 → 2 < p → p ≤ 200 → ending (p / 5) (slice_index_or (failure_draws seed failures) (p / 5 - 1) d) ≡ ended seed p
ended-is seed p d e low high =
    let is = failures-is in
    rw (draw-at seed (p / 5) failures d (omega (arith, e, low)) (omega (arith, high, is)), e, lt-test 2 p low) refl

pub begun-is : (seed p d : ℕ) → p % 5 ≡ 0 → 1 ≤ p → p ≤ 200 →
    Some (failure (p / 5) (slice_index_or (failure_draws seed failures) (p / 5 - 1) d)) ≡ begun seed p
begun-is seed p d e low high =
    let is = failures-is in
    rw (draw-at seed (p / 5) failures d (omega (arith, e, low)) (omega (arith, high, is)), e) refl

pub seeded : (seed : ℕ) → state_after seed 0 ≡ seed
unfolding state_after
seeded seed = refl
