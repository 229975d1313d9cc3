-- The tuples that a side keeps, and those that it lets go.
use Rattle.std.proofs.Common.{◌≡◌, ℕ, ◌+◌, true, false, List, [], ◌∷◌, drop, refl, ap, arith, nat_le}
use Rattle.std.proofs.lemmas.Grind.{common_steps}
use Rattle.dpc_model.specs.Streams.{NoneBelow, InOrder, time_of}
use Rattle.dpc_model.specs.declared.tuples.Tuple.{Tuple}
use Rattle.ops_join.specs.Joins.{kept_from}
use Rattle.ops_join.specs.Sides.{is_over}

kept-all : (w b n : ℕ) (ts : List Tuple) → nat_le b (n + w) ≡ true → NoneBelow time_of n ts → kept_from w b ts ≡ ts
kept-all w b n [] h s = refl
kept-all w b n (t ∷ ts) h s =
    let here : nat_le b (t.stime + w) ≡ true = grind (arith, common_steps, s.0) in
    rw here (ap (λ (us : List Tuple). t ∷ us) (kept-all w b n ts h s.1))

-- where the first tuple is kept, so are all
pub kept-ordered : (w b : ℕ) (ts : List Tuple) → InOrder ts → is_over w b ts ≡ false → kept_from w b ts ≡ ts
kept-ordered w b [] o h = refl
kept-ordered w b (t ∷ ts) o h =
    let here : nat_le b (t.stime + w) ≡ true = grind (arith, common_steps) in
    rw here (ap (λ (us : List Tuple). t ∷ us) (kept-all w b t.stime ts here o.0))

-- a first tuple that is not kept
pub kept-dropped : (w b : ℕ) (ts : List Tuple) → is_over w b ts ≡ true → kept_from w b (drop 1 ts) ≡ kept_from w b ts
kept-dropped w b [] h = refl
kept-dropped w b (t ∷ ts) h = let here : nat_le b (t.stime + w) ≡ false = grind (arith, common_steps) in rw here refl

pub order-dropped : (ts : List Tuple) → InOrder ts → InOrder (drop 1 ts)
order-dropped [] o = tt
order-dropped (t ∷ ts) o = o.1
