-- Of tuples in order of time those from one time on and below another.
use Rattle.std.proofs.Common.{◌≡◌, ℕ, zero, suc, ◌+◌, ◌<◌, ◌≤◌, nat_le, List, [], ◌∷◌, drop, length, get_or, ◌++◌, map, refl, sym, ap, ◌∙◌, arith, slice_index_or, append_assoc}
use Rattle.std.proofs.lemmas.Bool.{lt-ltb}
use Rattle.std.proofs.lemmas.Grind.{common_steps}
use Rattle.std.specs.List.{filter}
use Rattle.std.proofs.lemmas.List.{drop_more}
use Rattle.dpc_model.specs.Streams.{InOrder, time_of, cut, count_below}
use Rattle.dpc_model.specs.Operators.{between}
use Rattle.dpc_model.specs.Fragments.{tag}
use Rattle.dpc_model.specs.declared.tuples.Tagged.{Tagged}
use Rattle.dpc_model.specs.declared.tuples.Tuple.{Tuple}
use Rattle.dpc_model.proofs.Cuts.{from-drop, none-below, count-more, count-end}

count-within : (ts : List Tuple) (b : ℕ) → count_below ts b ≤ length ts
count-within [] b = omega arith
count-within (t ∷ ts) b = grind (arith, common_steps, count-within ts b)

-- ---- the first tuple that is not below a time lies from low on and up to high

abbrev pub Lies : List Tuple → ℕ → ℕ → ℕ → Type 0
Lies ts b low high = (low ≤ high) × (high ≤ length ts) × (InOrder ts → (low ≤ count_below ts b) × (count_below ts b ≤ high))

pub search-start : (ts : List Tuple) (b n : ℕ) → n ≡ length ts → Lies ts b 0 n
search-start ts b n long = (omega arith, omega (arith, long), λ o. (omega arith, let all = count-within ts b in omega (arith, long, all)))

pub search-above : (ts : List Tuple) (b low high middle : ℕ) (t : Tuple) → middle < high → t ≡ slice_index_or ts middle t → t.stime < b → Lies ts b low high → Lies ts b (middle + 1) high
search-above ts b low high middle t within e below h =
    let end = h.1 in
    let there : middle < length ts = omega (arith, within, end) in
    let time : time_of (get_or ts middle t) < b = let same = ap time_of e in omega (arith, same, below) in
    (omega (arith, within), h.1, λ o. (count-more time_of ts middle b t o there time, (h.2 o).1))

pub search-below : (ts : List Tuple) (b low high middle : ℕ) (t : Tuple) → middle < high → low ≤ middle → t ≡ slice_index_or ts middle t → b ≤ t.stime → Lies ts b low high → Lies ts b low middle
search-below ts b low high middle t within from e past h =
    let end = h.1 in
    let there : middle < length ts = omega (arith, within, end) in
    let time : b ≤ time_of (get_or ts middle t) = let same = ap time_of e in omega (arith, same, past) in
    (from, omega (arith, there), λ o. ((h.2 o).0, count-end time_of ts middle b t o there time))

-- ---- from the first one on

cut-from : (from upto : ℕ) (ts : List Tuple) → cut (filter (λ (t : Tuple). nat_le from t.stime) ts) upto ≡ between from upto ts
cut-from from upto [] = refl
cut-from from upto (t ∷ ts) = grind (arith, common_steps, cut-from from upto ts)

pub between-from : (from upto : ℕ) (ts : List Tuple) (place : ℕ) → InOrder ts → place ≡ count_below ts from → cut (drop place ts) upto ≡ between from upto ts
between-from from upto ts place o e =
    ap (λ (n : ℕ). cut (drop n ts) upto) e ∙ ap (λ (us : List Tuple). cut us upto) (from-drop time_of from ts o) ∙ cut-from from upto ts

-- past one that is not below the end there is none
pub none-left : (ts : List Tuple) (i upto : ℕ) (t : Tuple) → InOrder ts → i < length ts → t ≡ slice_index_or ts i t → upto ≤ t.stime → cut (drop i ts) upto ≡ []
none-left [] i upto t o low e h = absurd (omega (arith, low))
none-left (u ∷ ts) zero upto t o low e h =
    let time : upto ≤ time_of u = let same = ap time_of e in omega (arith, same, h) in
    none-below time_of upto (time_of u) (u ∷ ts) time (omega arith, o.0)
none-left (u ∷ ts) (suc i) upto t o low e h = none-left ts i upto t o.1 (omega (arith, low)) e h

-- one more that is
pub cut-next : (port upto place : ℕ) (ts : List Tuple) (t : Tuple) (done now whole : List Tagged) → place < length ts → t ≡ slice_index_or ts place t → t.stime < upto → now ≡ done ++ tag port t ∷ [] →
    done ++ map (tag port) (cut (drop place ts) upto) ≡ whole → now ++ map (tag port) (cut (drop (place + 1) ts) upto) ≡ whole
cut-next port upto place ts t done now whole inside e low pushed so_far =
    let rest : List Tuple = cut (drop (place + 1) ts) upto in
    let here : cut (drop place ts) upto ≡ t ∷ rest =
    ap (λ (us : List Tuple). cut us upto) (drop_more ts place t inside ∙ ap (λ (u : Tuple). u ∷ drop (place + 1) ts) (sym e)) ∙ rw (lt-ltb t.stime upto low) refl in
    ap (λ (xs : List Tagged). xs ++ map (tag port) rest) pushed
    ∙ append_assoc done (tag port t ∷ []) (map (tag port) rest)
    ∙ ap (λ (us : List Tuple). done ++ map (tag port) us) (sym here)
    ∙ so_far
