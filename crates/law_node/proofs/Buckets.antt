-- What processing buckets makes of the parts of the plain node.
use Rattle.std.proofs.Common.{◌≡◌, ℕ, zero, suc, ◌+◌, ◌-◌, ◌≤◌, Bool, true, false, ◌==◌, min, List, [], ◌++◌, map, length, drop, refl, sym, ap, ◌∙◌, arith, Some, None}
use Rattle.std.proofs.lemmas.Grind.{common_steps}
use Rattle.std.specs.Prelude.{if◌then◌else◌}
use Rattle.dpc_lists.specs.Lists.{is_nil, range_with_len}
use Rattle.dpc_model.specs.Reading.{Reader}
use Rattle.dpc_model.specs.Fragments.{fragment_value}
use Rattle.dpc_model.specs.Due.{first_incomplete}
use Rattle.dpc_model.specs.Parts.{Inputs, stream_by, bucket_held}
use Rattle.dpc_model.specs.declared.tuples.Tagged.{Tagged}
use Rattle.sunion.specs.Unions.{held_in, complete_upto_in, after_advancing}
use Rattle.law_buckets.specs.Series.{buckets_from, after_closing_all}
use Rattle.node_model.specs.Nodes.{Home, spec_of, PlainNode, bucket_of, complete_upto, complete_buckets, held_by, out_bound, node_frontier}
use Rattle.node_model.specs.NodeSteps.{after_stable_buckets, given_stable, given_by, after_buckets, count_upto, stably}
use Rattle.node_model.specs.NodeParts.{inputs_of}
use Rattle.pipeline.specs.Flowing.{given_between, after_processing, stably_upto}
use Rattle.node_model.proofs.Viewed.{held-is, made_of, stable-is, tentative-is}

-- ---- buckets

pub held-in-is : (n : PlainNode) → held_in (inputs_of n) ≡ held_by n
held-in-is n = held-is n.ports

pub complete-is : (home : Home) (n : PlainNode) → complete_upto home n ≡ complete_upto_in home.plan.width (inputs_of n)
complete-is home n = ap (λ (rs : List Reader). first_incomplete home.plan.width rs) (sym (held-in-is n))

pub ready-is : (home : Home) (n : PlainNode) → complete_buckets home n ≡ (if is_nil (inputs_of n).closed then complete_upto_in home.plan.width (inputs_of n) - (inputs_of n).cursor else 0)
ready-is home n = ap (λ (k : ℕ). if is_nil n.closed then k - n.cursor else 0) (complete-is home n)

pub buckets-are : (home : Home) (n : PlainNode) (k count : ℕ) → map (bucket_of home n) (range_with_len k count) ≡ buckets_from home.plan.width (inputs_of n) k count
buckets-are home n k count = ap (λ (rs : List Reader). map (λ (i : ℕ). bucket_held home.plan.width rs i) (range_with_len k count)) (sym (held-in-is n))

-- ---- stably

pub advanced-inputs : (home : Home) (r : ℕ) (n : PlainNode) → inputs_of (after_stable_buckets home r n) ≡ after_advancing r (inputs_of n)
advanced-inputs home r n = refl

no-more : {X : Type 0} (k : ℕ) (xs : List X) → xs ≡ [] → drop k xs ≡ []
no-more zero xs e = e
no-more (suc k) xs e = rw e refl

some-bucket : (c r : ℕ) → 1 ≤ r → (c + r == 0) ≡ false
some-bucket c r some = grind (arith, common_steps, some)

-- what is given where so many buckets are processed stably
pub given-stably : (home : Home) (r : ℕ) (n : PlainNode) (done : Bool) → 1 ≤ r → (made_of home (after_stable_buckets home r n)).tentative ≡ [] →
    given_stable home n (after_stable_buckets home r n) done ≡ given_between (made_of home n) (made_of home (after_stable_buckets home r n)) true false done
given-stably home r n done some none =
    let m = after_stable_buckets home r n in
    let e = no-more (length (made_of home n).tentative) (made_of home m).tentative none in
    rw (stable-is home n, stable-is home m, some-bucket n.cursor r some, e) refl

-- ---- up to a last bucket

pub count-is : (last : ℕ) (n : PlainNode) → count_upto last n ≡ Rattle.pipeline.specs.Flowing.count_upto last (inputs_of n)
count-is last n = refl

pub stably-is : (home : Home) (last : ℕ) (n : PlainNode) → stably home n (count_upto last n) ≡ stably_upto home.plan.width last (inputs_of n)
stably-is home last n = ap (λ (k : ℕ). min (count_upto last n) k) (ready-is home n)

-- the inputs behind them
pub processed-inputs : (home : Home) (last : ℕ) (n : PlainNode) →
    inputs_of (after_buckets home (stably home n (count_upto last n)) (count_upto last n) n) ≡ after_processing home.plan.width last (inputs_of n)
processed-inputs home last n =
    let count = count_upto last n in
    let r = stably home n count in
    let m = after_stable_buckets home r n in
    ap (λ (bs : List (List Tagged)). record (inputs_of m) { closed = n.closed ++ bs }) (buckets-are home m (node_frontier m) (count - r))
    ∙ ap (λ (k : ℕ). after_closing_all home.plan.width (count - k) (after_advancing k (inputs_of n))) (stably-is home last n)

pub made-alike : (home : Home) (n : PlainNode) (x : Inputs) → inputs_of n ≡ x → made_of home n ≡ stream_by (fragment_value (spec_of home).ops) home.plan.width home.plan.passing x
made-alike home n x e = ap (λ (y : Inputs). stream_by (fragment_value (spec_of home).ops) home.plan.width home.plan.passing y) e

bound-is : (home : Home) (n : PlainNode) (any : Bool) → (any ≡ true → (n.cursor == 0) ≡ false) →
    (if any then out_bound home n else None) ≡ (if any then Some ((made_of home n).bound, length (made_of home n).stable) else None)
bound-is home n true some = rw (some refl, stable-is home n) refl
bound-is home n false some = refl

-- what is given where buckets are processed, some of them stably and the others as they stand
pub given-processed : (home : Home) (old new : PlainNode) (any_stable any_closed : Bool) → (any_stable ≡ true → (new.cursor == 0) ≡ false) →
    given_by home old new any_stable any_closed ≡ given_between (made_of home old) (made_of home new) any_stable any_closed false
given-processed home old new any_stable any_closed some =
    rw (stable-is home old, tentative-is home old, tentative-is home new, bound-is home new any_stable some, stable-is home new) refl
