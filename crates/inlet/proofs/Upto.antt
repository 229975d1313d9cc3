-- Tuples in order of time, one more at the end.
use Rattle.std.proofs.Common.{◌≡◌, ℕ, zero, suc, ◌+◌, ◌<◌, ◌≤◌, List, [], ◌∷◌, ◌++◌, take, length, refl, ap, sym, ◌∙◌, arith, slice_index_or, append_assoc, subst, Option, Some, None}
use Rattle.std.specs.List.{AllByRecursion}
use Rattle.dpc_model.specs.Streams.{NoneBelow, InOrder, time_of}
use Rattle.dpc_model.specs.declared.tuples.Tuple.{Tuple}
use Rattle.inlet.specs.Ordered.{IsUpto, IsUptoIf}

none-below-more : (n : ℕ) (ts : List Tuple) (t : Tuple) → NoneBelow time_of n ts → n ≤ t.stime → NoneBelow time_of n (ts ++ t ∷ [])
none-below-more n [] t h le = (le, tt)
none-below-more n (u ∷ ts) t h le = (h.0, none-below-more n ts t h.1 le)

ordered-more : (n : ℕ) (ts : List Tuple) (t : Tuple) → InOrder ts → AllByRecursion (λ (u : Tuple). u.stime ≤ n) ts → n ≤ t.stime → InOrder (ts ++ t ∷ [])
ordered-more n [] t o h le = (tt, tt)
ordered-more n (u ∷ ts) t o h le = (none-below-more u.stime ts t o.0 (omega (arith, h.0, le)), ordered-more n ts t o.1 h.1 le)

upto-more : (n : ℕ) (ts : List Tuple) (t : Tuple) → AllByRecursion (λ (u : Tuple). u.stime ≤ n) ts → n ≤ t.stime → AllByRecursion (λ (u : Tuple). u.stime ≤ t.stime) (ts ++ t ∷ [])
upto-more n [] t h le = (omega arith, tt)
upto-more n (u ∷ ts) t h le = (omega (arith, h.0, le), upto-more n ts t h.1 le)

pub one-more : (n : ℕ) (ts : List Tuple) (t : Tuple) → IsUpto ts n → n ≤ t.stime → IsUpto (ts ++ t ∷ []) t.stime
one-more n ts t h le = record { ordered = ordered-more n ts t h.ordered h.upto le; upto = upto-more n ts t h.upto le }

take-next : (i : ℕ) (ts : List Tuple) (d : Tuple) → i < length ts → take (i + 1) ts ≡ take i ts ++ slice_index_or ts i d ∷ []
take-next i [] d low = absurd (omega (arith, low))
take-next zero (u ∷ ts) d low = refl
take-next (suc i) (u ∷ ts) d low = let next : suc i + 1 ≡ suc (i + 1) = omega arith in rw next (ap (λ (us : List Tuple). u ∷ us) (take-next i ts d (omega (arith, low))))

-- the next one of the tuples behind those before
pub next-behind : (n i : ℕ) (before ts : List Tuple) (t d : Tuple) → i < length ts → t ≡ slice_index_or ts i d → IsUpto (before ++ take i ts) n → n ≤ t.stime →
    IsUpto (before ++ take (i + 1) ts) t.stime
next-behind n i before ts t d low is h le =
    subst (λ (us : List Tuple). IsUpto us t.stime)
    (append_assoc before (take i ts) (t ∷ []) ∙ ap (λ (us : List Tuple). before ++ us) (ap (λ (u : Tuple). take i ts ++ u ∷ []) is ∙ sym (take-next i ts d low)))
    (one-more n (before ++ take i ts) t h le)

-- no tuple lies past the begin
pub nothing : IsUpto [] 0
nothing = record { ordered = tt; upto = tt }

none-below-fewer : (n k : ℕ) (ts : List Tuple) → NoneBelow time_of n ts → NoneBelow time_of n (take k ts)
none-below-fewer n zero ts h = tt
none-below-fewer n (suc k) [] h = tt
none-below-fewer n (suc k) (t ∷ ts) h = (h.0, none-below-fewer n k ts h.1)

ordered-fewer : (k : ℕ) (ts : List Tuple) → InOrder ts → InOrder (take k ts)
ordered-fewer zero ts o = tt
ordered-fewer (suc k) [] o = tt
ordered-fewer (suc k) (t ∷ ts) o = (none-below-fewer t.stime k ts o.0, ordered-fewer k ts o.1)

upto-fewer : (n k : ℕ) (ts : List Tuple) → AllByRecursion (λ (u : Tuple). u.stime ≤ n) ts → AllByRecursion (λ (u : Tuple). u.stime ≤ n) (take k ts)
upto-fewer n zero ts h = tt
upto-fewer n (suc k) [] h = tt
upto-fewer n (suc k) (t ∷ ts) h = (h.0, upto-fewer n k ts h.1)

-- the first ones of tuples in order
pub fewer : (k : ℕ) (ts : List Tuple) (last : Option ℕ) → IsUptoIf ts last → IsUptoIf (take k ts) last
fewer k ts None h = h
fewer k ts (Some n) h = record { ordered = ordered-fewer k ts h.ordered; upto = upto-fewer n k ts h.upto }
