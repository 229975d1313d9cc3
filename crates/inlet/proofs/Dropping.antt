-- What is kept, and how many tuples lie below a time, once an inlet let its first tuples go.
use Rattle.std.proofs.Common.{◌≡◌, ℕ, ◌+◌, ◌<◌, ◌≤◌, true, false, cond, List, [], ◌∷◌, ◌++◌, length, nat_le, refl, sym, ap, subst, ◌∙◌, arith, append-nil, length-append}
use Rattle.std.proofs.lemmas.Grind.{common_steps}
use Rattle.std.proofs.lemmas.List.Elements.{All-head, All-tail, filter-append}
use Rattle.std.specs.List.{All}
use Rattle.dpc_model.specs.Streams.{NoneBelow, time_of, InOrder, is_below, cut}
use Rattle.dpc_model.specs.Engines.{from_time}
use Rattle.dpc_model.specs.Inlets.{InletState}
use Rattle.dpc_model.specs.PartStands.{InletValue, StandsForInlet}
use Rattle.dpc_model.specs.declared.tuples.Tuple.{Tuple}
use Rattle.dpc_model.proofs.Cuts.{none-below, all-from, cut-below}
use Rattle.inlet.specs.Forgotten.{from_first}
use Rattle.inlet.proofs.Standing.{splits, lacks-some}

-- what stands behind some tuples is in order
InOrder-behind : (xs ys : List Tuple) → InOrder (xs ++ ys) → InOrder ys
InOrder-behind [] ys o = o
InOrder-behind (x ∷ xs) ys o = InOrder-behind xs ys o.1

-- of tuples in order none is left that is below b
pub from_first-past : (b : ℕ) (ts : List Tuple) → InOrder ts → NoneBelow time_of b (from_first b ts)
from_first-past b [] o = tt
from_first-past b (t ∷ ts) o =
    (elim (is_below b t) as (λ c. is_below b t ≡ c → NoneBelow time_of b (cond c (from_first b ts) (t ∷ ts))) [
      | true ↦ λ e. from_first-past b ts o.1
      | false ↦ λ e. let low : b ≤ time_of t = grind (arith, common_steps) in (low, all-past (time_of t) ts low o.0)
    ]) refl
  where
    all-past : (n : ℕ) (us : List Tuple) → b ≤ n → NoneBelow time_of n us → NoneBelow time_of b us
    all-past n [] low s = tt
    all-past n (u ∷ us) low s = (let later = s.0 in omega (arith, low, later), all-past n us low s.1)

-- what is kept of a stream in order of time is in order of time
pub kept-InOrder : (b : ℕ) (v : InletValue) (x : InletState) → InOrder x.held.stable → StandsForInlet b v x → InOrder v.state.held.stable
kept-InOrder b v x o h =
    let gone = lacks-some b v x h in
    InOrder-behind gone.0 v.state.held.stable (subst InOrder gone.1.keeps.kept o)

-- of what is kept none is left that is below c
pub drop_below-past : (b c : ℕ) (v : InletValue) (x : InletState) → InOrder x.held.stable → StandsForInlet b v x → NoneBelow time_of c (from_first c v.state.held.stable)
drop_below-past b c v x o h = from_first-past c v.state.held.stable (kept-InOrder b v x o h)

-- the tuples below b of a stream in order of time, its first ones, that are below b, apart
cut-kept : (b : ℕ) (gone kept : List Tuple) → InOrder kept → All (λ (t : Tuple). t.stime < b) gone → length (cut (gone ++ kept) b) + length (from_first b kept) ≡ length (gone ++ kept)
cut-kept b gone kept o low =
    let s = splits b kept in
    let past = none-below time_of b b (from_first b kept) (omega arith) (from_first-past b kept o) in
    let below : cut kept b ≡ s.first = ap (λ (ts : List Tuple). cut ts b) s.all ∙ filter-append (is_below b) s.first (from_first b kept) ∙ rw (cut-below b s.first s.below, past) (append-nil s.first) in
    let whole : cut (gone ++ kept) b ≡ gone ++ s.first = filter-append (is_below b) gone kept ∙ rw (cut-below b gone low, below) refl in
    let counted = ap (λ (ts : List Tuple). length ts) whole ∙ length-append gone s.first in
    let parted = ap (λ (ts : List Tuple). length ts) s.all ∙ length-append s.first (from_first b kept) in
    let all = length-append gone kept in omega (arith, counted, parted, all)

-- tuples below b are none from it on
from_time-none : (b : ℕ) (ts : List Tuple) → All (λ (t : Tuple). t.stime < b) ts → from_time b ts ≡ []
from_time-none b [] low = refl
from_time-none b (t ∷ ts) low =
    let first = All-head (λ (u : Tuple). u.stime < b) t ts low in
    let rest = from_time-none b ts (All-tail (λ (u : Tuple). u.stime < b) t ts low) in
    grind (arith, common_steps, first, rest)

-- what is left of a stream in order of time is what it has from b on
pub drop_below-leaves : (b : ℕ) (v : InletValue) (x : InletState) → InOrder x.held.stable → StandsForInlet b v x → from_first b v.state.held.stable ≡ from_time b x.held.stable
drop_below-leaves b v x o h =
    let gone = lacks-some b v x h in
    let kept = v.state.held.stable in
    let s = splits b kept in
    let past = all-from time_of b b (from_first b kept) (omega arith) (drop_below-past b b v x o h) in
    let from_kept : from_time b kept ≡ from_first b kept =
    ap (λ (ts : List Tuple). from_time b ts) s.all ∙ filter-append (λ (t : Tuple). nat_le b t.stime) s.first (from_first b kept) ∙ rw (from_time-none b s.first s.below) past in
    let whole : from_time b (gone.0 ++ kept) ≡ from_first b kept =
    filter-append (λ (t : Tuple). nat_le b t.stime) gone.0 kept ∙ rw (from_time-none b gone.0 gone.1.below) from_kept in
    sym whole ∙ ap (λ (ts : List Tuple). from_time b ts) (sym gone.1.keeps.kept)

-- the number that was let go in all is how many tuples of the stream lie below b
pub drop_below-counts : (b : ℕ) (v : InletValue) (x : InletState) (dropped : ℕ) → InOrder x.held.stable → StandsForInlet b v x →
    dropped + length (from_first b v.state.held.stable) ≡ v.count → dropped ≡ length (cut x.held.stable b)
drop_below-counts b v x dropped o h e =
    let gone = lacks-some b v x h in
    let kept = gone.1.keeps.kept in
    let counted = cut-kept b gone.0 v.state.held.stable (kept-InOrder b v x o h) gone.1.below in
    let cuts = ap (λ (ts : List Tuple). length (cut ts b)) kept in
    let count = gone.1.keeps.count ∙ ap (λ (ts : List Tuple). length ts) kept in omega (arith, counted, cuts, count, e)
