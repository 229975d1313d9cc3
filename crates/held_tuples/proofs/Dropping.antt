-- Tuples without the first ones below a time.
use Rattle.std.proofs.Common.{◌≡◌, ℕ, ◌+◌, ◌<◌, ◌≤◌, true, false, cond, List, [], ◌∷◌, ◌++◌, drop, length, refl, sym, ap, subst, ◌∙◌, arith, slice_index_or, slice_set, length-append}
use Rattle.std.proofs.lemmas.Bool.{lt-ltb, le-ltb}
use Rattle.std.proofs.lemmas.List.{drop_more, drop_all, length-drop}
use Rattle.dpc_model.specs.Streams.{is_below}
use Rattle.dpc_model.specs.declared.tuples.Tuple.{Tuple}
use Rattle.held_tuples.specs.Runs.{from_first, joined}

-- one more below the time, and one that isn't
pub drops-next : (b place : ℕ) (ts : List Tuple) (t d : Tuple) → place < length ts → t ≡ slice_index_or ts place d → t.stime < b → from_first b (drop (place + 1) ts) ≡ from_first b (drop place ts)
drops-next b place ts t d inside e low =
    let time : (slice_index_or ts place d).stime < b = let same = ap (λ (u : Tuple). u.stime) e in omega (arith, same, low) in
    sym (ap (λ (us : List Tuple). from_first b us) (drop_more ts place d inside) ∙ rw (lt-ltb (slice_index_or ts place d).stime b time) refl)

pub drops-upto : (b place : ℕ) (ts : List Tuple) (t d : Tuple) → place < length ts → t ≡ slice_index_or ts place d → b ≤ t.stime → drop place ts ≡ from_first b (drop place ts)
drops-upto b place ts t d inside e past =
    let time : b ≤ (slice_index_or ts place d).stime = let same = ap (λ (u : Tuple). u.stime) e in omega (arith, same, past) in
    let here = drop_more ts place d inside in
    here ∙ sym (ap (λ (us : List Tuple). from_first b us) here ∙ rw (le-ltb (slice_index_or ts place d).stime b time) refl)

pub drops-all : (b place : ℕ) (ts : List Tuple) → length ts ≤ place → drop place ts ≡ from_first b (drop place ts)
drops-all b place ts past = let none = drop_all place ts past in none ∙ sym (ap (λ (us : List Tuple). from_first b us) none)

-- ---- of two lists

pub all-gone : (b : ℕ) (ts us : List Tuple) → from_first b ts ≡ [] → from_first b (ts ++ us) ≡ from_first b us
all-gone b [] us = λ e. refl
all-gone b (t ∷ ts) us =
    (elim (is_below b t) as (λ c. is_below b t ≡ c → cond c (from_first b ts) (t ∷ ts) ≡ [] → cond c (from_first b (ts ++ us)) (t ∷ (ts ++ us)) ≡ from_first b us) [
      | true ↦ λ e none. all-gone b ts us none
      | false ↦ λ e none. absurd (let long = ap (λ (xs : List Tuple). length xs) none in omega (arith, long))
    ]) refl

pub some-left : (b : ℕ) (ts us : List Tuple) → 0 < length (from_first b ts) → from_first b (ts ++ us) ≡ from_first b ts ++ us
some-left b [] us = λ some. absurd (omega (arith, some))
some-left b (t ∷ ts) us =
    (elim (is_below b t) as (λ c. is_below b t ≡ c → 0 < length (cond c (from_first b ts) (t ∷ ts)) → cond c (from_first b (ts ++ us)) (t ∷ (ts ++ us)) ≡ cond c (from_first b ts) (t ∷ ts) ++ us) [
      | true ↦ λ e some. some-left b ts us some
      | false ↦ λ e some. refl
    ]) refl

-- ---- the first of some lists

pub left-first : (b n : ℕ) (tss : List (List Tuple)) (run at new : List Tuple) → run ≡ slice_index_or tss 0 run → at ≡ slice_index_or tss 0 at → new ≡ drop n at →
    drop n run ≡ from_first b run → n < length run → joined (slice_set tss 0 new) ≡ from_first b (joined tss)
left-first b n [] run at new is same gives drops low = refl
left-first b n (ts ∷ tss) run at new is same gives drops low =
    let first : drop n ts ≡ from_first b ts = subst (λ (us : List Tuple). drop n us ≡ from_first b us) is drops in
    let long = ap (λ (us : List Tuple). length us) is in
    let left = length-drop n ts in
    let some : 0 < length (from_first b ts) = subst (λ (us : List Tuple). 0 < length us) first (omega (arith, left, long, low)) in
    ap (λ (us : List Tuple). us ++ joined tss) (gives ∙ ap (λ (us : List Tuple). drop n us) same ∙ first) ∙ sym (some-left b ts (joined tss) some)

pub first-gone : (b n : ℕ) (tss rest : List (List Tuple)) (run : List Tuple) → run ≡ slice_index_or tss 0 run → rest ≡ drop 1 tss → drop n run ≡ from_first b run → length run ≤ n →
    from_first b (joined rest) ≡ from_first b (joined tss)
first-gone b n [] rest run is left drops past = rw left refl
first-gone b n (ts ∷ tss) rest run is left drops past =
    let none : from_first b ts ≡ [] = subst (λ (us : List Tuple). from_first b us ≡ []) is (sym drops ∙ drop_all n run past) in
    rw left (sym (all-gone b ts (joined tss) none))

pub first-counted : (tss rest : List (List Tuple)) (run : List Tuple) → 0 < length tss → run ≡ slice_index_or tss 0 run → rest ≡ drop 1 tss →
    length run + length (joined rest) ≡ length (joined tss)
first-counted [] rest run some is left = absurd (omega (arith, some))
first-counted (ts ∷ tss) rest run some is left =
    let long = ap (λ (us : List Tuple). length us) is in
    let all = length-append ts (joined tss) in
    let others = ap (λ (uss : List (List Tuple)). length (joined uss)) left in omega (arith, long, all, others)
