-- The rows of a stream, bucket by bucket.
use Rattle.std.proofs.Common.{◌≡◌, ℕ, ◌+◌, ◌*◌, List, ◌++◌, sym, ap, ◌∙◌}
use Rattle.dpc_model.specs.Streams.{cut, time_of}
use Rattle.dpc_model.specs.Engines.{from_time}
use Rattle.dpc_model.specs.Fragments.{ideal}
use Rattle.dpc_model.specs.declared.tuples.Tuple.{Tuple}
use Rattle.dpc_model.specs.declared.plans.Plan.{Plan}
use Rattle.dpc_model.specs.declared.plans.StreamRef.{StreamRef}
use Rattle.dpc_model.proofs.Cuts.{ordered-split}
use Rattle.ops_join.specs.RowsOut.{Takes, TakesFirst}
use Rattle.ops_join.proofs.Givings.{takes-none, takes-then, takes-as, first-as, first-then, first-longer, first-of}
use Rattle.ideal_run.specs.Buckets.{bucket_of}
use Rattle.ideal_run.specs.IdealPlans.{IsIdealPlan}
use Rattle.ideal_run.proofs.Texts.{cut-next, ideal-cut, ideal-ordered, none-early}

module _ (plan : Plan) (s : StreamRef) (ideals : IsIdealPlan plan) where
  -- the rows below bucket k
  abbrev pub rows_below : ℕ → List Tuple
  rows_below k = cut (ideal plan s) (k * plan.width)

  below-next : (k : ℕ) → rows_below k ++ bucket_of plan k s ≡ rows_below (k + 1)
  below-next k = cut-next plan.width k (ideal plan s) (ideal-ordered plan s ideals)

  below-rest : (k : ℕ) → ideal plan s ≡ rows_below k ++ from_time (k * plan.width) (ideal plan s)
  below-rest k = ordered-split time_of (k * plan.width) (ideal plan s) (ideal-ordered plan s ideals)

  module _ {A B : Type 0} (a : A → B → List Tuple → Type 0) where
    pub given-none : Takes a a (rows_below 0)
    given-none = takes-as a a _ (rows_below 0) (sym (none-early plan.width (ideal plan s) (ideal-ordered plan s ideals))) (takes-none a)

    pub given-next : (b c : A → B → List Tuple → Type 0) (k : ℕ) (rows : List Tuple) → rows ≡ bucket_of plan k s → Takes a b (rows_below k) → Takes b c rows → Takes a c (rows_below (k + 1))
    given-next b c k rows is p q = takes-as a c (rows_below k ++ rows) (rows_below (k + 1)) (ap (λ (ts : List Tuple). rows_below k ++ ts) is ∙ below-next k) (takes-then a b c (rows_below k) rows p q)

    -- it ends at bucket k
    pub given-upto : (b : A → B → List Tuple → Type 0) (k : ℕ) → Takes a b (rows_below k) → TakesFirst a b (ideal plan s)
    given-upto b k p = first-as a b (rows_below k ++ from_time (k * plan.width) (ideal plan s)) (ideal plan s) (sym (below-rest k)) (first-of a b (rows_below k) (from_time (k * plan.width) (ideal plan s)) p)

    -- and in bucket k
    pub given-in : (b c : A → B → List Tuple → Type 0) (k : ℕ) (rows : List Tuple) → rows ≡ bucket_of plan k s → Takes a b (rows_below k) → TakesFirst b c rows → TakesFirst a c (ideal plan s)
    given-in b c k rows is p q =
        let some = first-as a c (rows_below k ++ rows) (rows_below (k + 1)) (ap (λ (ts : List Tuple). rows_below k ++ ts) is ∙ below-next k) (first-then a b c (rows_below k) rows p q) in
        first-as a c (rows_below (k + 1) ++ from_time ((k + 1) * plan.width) (ideal plan s)) (ideal plan s) (sym (below-rest (k + 1)))
        (first-longer a c (rows_below (k + 1)) (from_time ((k + 1) * plan.width) (ideal plan s)) some)

    pub given-all : (b : A → B → List Tuple → Type 0) (k : ℕ) → k * plan.width ≡ plan.end → Takes a b (rows_below k) → Takes a b (ideal plan s)
    given-all b k end p = takes-as a b (rows_below k) (ideal plan s) (ap (λ e. cut (ideal plan s) e) end ∙ ideal-cut plan s ideals) p
