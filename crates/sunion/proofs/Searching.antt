-- Of tuples in order of time those that lie in a bucket.
use Rattle.std.proofs.Common.{◌≡◌, ℕ, zero, suc, ◌-◌, nat_le, List, [], ◌∷◌, take, drop, length, refl, ap, ◌∙◌, arith}
use Rattle.std.proofs.lemmas.Grind.{common_steps}
use Rattle.std.specs.List.{filter}
use Rattle.std.proofs.lemmas.List.{take_all}
use Rattle.dpc_model.specs.Streams.{InOrder, time_of, cut, count_below}
use Rattle.dpc_model.specs.Operators.{between}
use Rattle.dpc_model.specs.declared.tuples.Tuple.{Tuple}
use Rattle.dpc_model.proofs.Cuts.{from-drop, below-take}

drop-ordered : (n : ℕ) (ts : List Tuple) → InOrder ts → InOrder (drop n ts)
drop-ordered zero ts o = o
drop-ordered (suc n) [] o = tt
drop-ordered (suc n) (t ∷ ts) o = drop-ordered n ts o.1

-- a slice from a place on
pub slice-from : (n : ℕ) (ts : List Tuple) → take (length ts - n) (drop n ts) ≡ drop n ts
slice-from zero ts = let all : length ts - 0 ≡ length ts = omega arith in rw all (take_all (length ts) ts (omega arith))
slice-from (suc n) [] = let none : 0 - suc n ≡ 0 = omega arith in rw none refl
slice-from (suc n) (t ∷ ts) = let less : length (t ∷ ts) - suc n ≡ length ts - n = omega arith in rw less (slice-from n ts)

-- what lies from a time on is in order
pub rest-ordered : (ts : List Tuple) (n : ℕ) → InOrder ts → InOrder (drop n ts)
rest-ordered ts n o = drop-ordered n ts o

between-cut : (from upto : ℕ) (ts : List Tuple) → between from upto (cut ts upto) ≡ between from upto ts
between-cut from upto [] = refl
between-cut from upto (t ∷ ts) = grind (arith, common_steps, between-cut from upto ts)

between-late : (from upto : ℕ) (ts : List Tuple) → between from upto (filter (λ (t : Tuple). nat_le from t.stime) ts) ≡ between from upto ts
between-late from upto [] = refl
between-late from upto (t ∷ ts) = grind (arith, common_steps, between-late from upto ts)

-- the tuples from the first place on and up to the second hold what lies between
pub part-between : (from upto : ℕ) (ts : List Tuple) → InOrder ts →
    let rest = drop (count_below ts from) ts in between from upto (take (count_below rest upto) rest) ≡ between from upto ts
part-between from upto ts o =
    let rest : List Tuple = drop (count_below ts from) ts in
    ap (λ (us : List Tuple). between from upto us) (below-take time_of upto rest (rest-ordered ts (count_below ts from) o))
    ∙ between-cut from upto rest
    ∙ ap (λ (us : List Tuple). between from upto us) (from-drop time_of from ts o)
    ∙ between-late from upto ts
