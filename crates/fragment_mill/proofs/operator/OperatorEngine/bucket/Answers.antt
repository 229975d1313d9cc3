use Rattle.std.proofs.Common.{◌≡◌, ℕ, ◌+◌, ◌*◌, ◌++◌, List, Result, IfOk, OnOk, unwrap_or, All, sym, ◌∙◌, ap}
use Rattle.std.proofs.lemmas.List.Elements.{All-nil}
use Rattle.dpc_model.specs.Engines.{LiesIn, LiesBelow}
use Rattle.dpc_model.specs.declared.faults.StepFault.{StepFault}
use Rattle.dpc_model.specs.declared.tuples.Tuple.{Tuple}
use Rattle.dpc_model.specs.declared.tuples.Tagged.{Tagged}
use Rattle.fragment_mill.specs.Mills.{OperatorAfter, next_of, width_of}
use Rattle.fragment_mill.specs.Milling.{added_of, IsOfBucket}
use Rattle.fragment_mill.proofs.Places.{inside-ok, inside-wide, filter-inside, map-inside, union-inside}
use Rattle.fragment_mill.specs.declared.operator.Operator.{Operator}
use Rattle.fragment_mill.specs.declared.operator.Operator.TheVariants.{Filter, Map, Union, Join, Aggregate}
use Rattle.fragment_mill.proofs.operator.OperatorEngine.bucket.Goals as goal

module _ (o p : Operator) (xs : List Tagged) (k : ℕ) (r : Result (List Tuple) StepFault) (e : o ≡ p) where
  answer-same : IfOk r (λ out. (before : List Tagged) → OperatorAfter p before k → out ≡ added_of p before xs k) →
      IfOk r (λ out. (before : List Tagged) → OperatorAfter o before k → out ≡ added_of o before xs k)
  answer-same h = rw e h

  after-same : (n : Operator) → OnOk r ((before : List Tagged) → OperatorAfter p before k → OperatorAfter n (before ++ xs) (k + 1)) →
      OnOk r ((before : List Tagged) → OperatorAfter o before k → OperatorAfter n (before ++ xs) (k + 1))
  after-same n h = rw e h

  inside-same : IfOk r (λ out. (w : ℕ) → unwrap_or (width_of p) w ≡ w → All (LiesIn w k) xs → All (IsOfBucket w k) out) →
      IfOk r (λ out. (w : ℕ) → unwrap_or (width_of o) w ≡ w → All (LiesIn w k) xs → All (IsOfBucket w k) out)
  inside-same h = rw e h

  next-same : k ≡ next_of o → next_of p ≡ k
  next-same h = sym (h ∙ ap next_of e)

pub returns-in-Filter-clause-inside : goal.returns-in-Filter-clause-inside
returns-in-Filter-clause-inside c =
    let f = c.in-Filter.filter in
    let next = next-same c.args.self.now (Filter f) c.args.inputs.now c.args.k c.bucket.result c.in-Filter.is c.requires.next in
    inside-same _ (Filter f) c.args.inputs.now c.args.k c.bucket.result c.in-Filter.is
    (inside-ok c.bucket.result (Filter f) c.args.inputs.now c.args.k c.bucket.ensures.answer next (λ w e h. filter-inside w c.args.k f c.args.inputs.now h))

pub returns-in-Map-clause-inside : goal.returns-in-Map-clause-inside
returns-in-Map-clause-inside c =
    let m = c.in-Map.map in
    let next = next-same c.args.self.now (Map m) c.args.inputs.now c.args.k c.bucket-in-Map.result c.in-Map.is c.requires.next in
    inside-same _ (Map m) c.args.inputs.now c.args.k c.bucket-in-Map.result c.in-Map.is
    (inside-ok c.bucket-in-Map.result (Map m) c.args.inputs.now c.args.k c.bucket-in-Map.ensures.answer next (λ w e h. map-inside w c.args.k m c.args.inputs.now h))

pub returns-in-Union-clause-inside : goal.returns-in-Union-clause-inside
returns-in-Union-clause-inside c =
    let u = c.in-Union.union in
    let next = next-same c.args.self.now (Union u) c.args.inputs.now c.args.k c.bucket-in-Union.result c.in-Union.is c.requires.next in
    inside-same _ (Union u) c.args.inputs.now c.args.k c.bucket-in-Union.result c.in-Union.is
    (inside-ok c.bucket-in-Union.result (Union u) c.args.inputs.now c.args.k c.bucket-in-Union.ensures.answer (record { next = next; below = All-nil (LiesBelow (c.args.k * u.width)) })
    (λ w e h. union-inside w c.args.k u c.args.inputs.now h))

pub returns-in-Join-clause-inside : goal.returns-in-Join-clause-inside
returns-in-Join-clause-inside c =
    let j = c.in-Join.join in
    inside-same _ (Join j) c.args.inputs.now c.args.k c.bucket-in-Join.result c.in-Join.is
    (inside-wide c.bucket-in-Join.result (Join j) j.width c.args.k c.args.inputs.now (λ w e. e) c.bucket-in-Join.ensures.inside)

pub returns-in-Aggregate-clause-inside : goal.returns-in-Aggregate-clause-inside
returns-in-Aggregate-clause-inside c =
    let a = c.in-Aggregate.aggregate in
    inside-same _ (Aggregate a) c.args.inputs.now c.args.k c.bucket-in-Aggregate.result c.in-Aggregate.is
    (inside-wide c.bucket-in-Aggregate.result (Aggregate a) a.width c.args.k c.args.inputs.now (λ w e. e) c.bucket-in-Aggregate.ensures.inside)

pub returns-in-Union-clause-answer : goal.returns-in-Union-clause-answer
returns-in-Union-clause-answer c = answer-same _ (Union c.in-Union.union) _ _ _ c.in-Union.is c.bucket-in-Union.ensures.answer

pub returns-in-Aggregate-clause-answer : goal.returns-in-Aggregate-clause-answer
returns-in-Aggregate-clause-answer c = answer-same _ (Aggregate c.in-Aggregate.aggregate) _ _ _ c.in-Aggregate.is c.bucket-in-Aggregate.ensures.answer

pub returns-in-Aggregate-clause-after : goal.returns-in-Aggregate-clause-after
returns-in-Aggregate-clause-after c =
    after-same _ (Aggregate c.in-Aggregate.aggregate) _ _ _ c.in-Aggregate.is (Aggregate c.bucket-in-Aggregate.new.self) c.bucket-in-Aggregate.ensures.after
