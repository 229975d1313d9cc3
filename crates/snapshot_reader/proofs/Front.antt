-- Things one behind another, of which some were read.
use Rattle.std.proofs.Common.{◌≡◌, ℕ, suc, ◌-◌, ◌+◌, ◌<◌, ◌≤◌, List, [], ◌∷◌, ◌++◌, length, drop, get_or, Option, Some, None, refl, ap, sym, subst, ◌∙◌, append_assoc, add-one, drop-cons, arith}
use Rattle.std.proofs.lemmas.List.{append-nil, drop_all}
use Rattle.std.specs.Prelude.{Result, Err}
use Rattle.snapshot_form.specs.Reading.{followed_by, many_at, operator_at, operators_at}
use Rattle.dpc_model.specs.declared.operators.OpSpec.{OpSpec}
use Rattle.fragment_mill.specs.declared.states.OperatorParts.{OperatorParts}
use Rattle.snapshot_reader.specs.declared.faults.ReadFault.{ReadFault}
use Rattle.snapshot_reader.specs.declared.faults.ReadFault.TheVariants.{NoMemory, NoReading}
use Rattle.snapshot_reader.specs.Told.{IsRead}

module _ {T : Type 0} where
  -- what is read behind those before
  abbrev pub with_before : List T → Option (List T × List ℕ) → Option (List T × List ℕ)
  with_before before None = None
  with_before before (Some x) = Some (before ++ x.0, x.1)

  -- one, and what is read behind it
  abbrev pub and_more : Option (T × List ℕ) → (List ℕ → Option (List T × List ℕ)) → Option (List T × List ℕ)
  and_more o next = followed_by o (λ t more. followed_by (next more) (λ ts rest. Some (t ∷ ts, rest)))

  pub none-before : (o : Option (List T × List ℕ)) → o ≡ with_before [] o
  none-before None = refl
  none-before (Some x) = refl

  moved : (before : List T) (x : T) (o : Option (List T × List ℕ)) →
      with_before before (followed_by o (λ ts rest. Some (x ∷ ts, rest))) ≡ with_before (before ++ x ∷ []) o
  moved before x None = refl
  moved before x (Some y) = ap (λ (l : List T). Some (l, y.1)) (sym (append_assoc before (x ∷ []) y.0))

  -- one more was read
  pub one-more : (before : List T) (o : Option (T × List ℕ)) (next : List ℕ → Option (List T × List ℕ)) (x : T) (more : List ℕ) → o ≡ Some (x, more) →
      with_before before (and_more o next) ≡ with_before (before ++ x ∷ []) (next more)
  one-more before o next x more h = ap (λ (p : Option (T × List ℕ)). with_before before (and_more p next)) h ∙ moved before x (next more)

  -- there is no such thing
  pub no-more : (before : List T) (o : Option (T × List ℕ)) (next : List ℕ → Option (List T × List ℕ)) → o ≡ None → with_before before (and_more o next) ≡ None
  no-more before o next h = ap (λ (p : Option (T × List ℕ)). with_before before (and_more p next)) h

  -- nothing is left to read
  pub all-read : (before : List T) (rest : List ℕ) → with_before before (Some ([], rest)) ≡ Some (before, rest)
  all-read before rest = ap (λ (l : List T). Some (l, rest)) (append-nil before)

  -- ---- so many, of which a number was read before

  module _ (at : List ℕ → Option (T × List ℕ)) where
    pub many-begun : (count : ℕ) (whole : List ℕ) → many_at at count whole ≡ with_before [] (many_at at (count - 0) whole)
    many-begun count whole = let all : count - 0 ≡ count = omega arith in rw all (none-before (many_at at count whole))

    first-left : (count index : ℕ) (rest : List ℕ) (before : List T) → index < count →
        with_before before (many_at at (count - index) rest) ≡ with_before before (and_more (at rest) (many_at at (count - (index + 1))))
    first-left count index rest before h =
        let left : count - index ≡ suc (count - (index + 1)) = omega arith in
        ap (λ (n : ℕ). with_before before (many_at at n rest)) left

    pub many-more : (count index : ℕ) (whole rest more : List ℕ) (before : List T) (x : T) → index < count →
        many_at at count whole ≡ with_before before (many_at at (count - index) rest) → at rest ≡ Some (x, more) →
        many_at at count whole ≡ with_before (before ++ x ∷ []) (many_at at (count - (index + 1)) more)
    many-more count index whole rest more before x h way e =
        way ∙ first-left count index rest before h ∙ one-more before (at rest) (many_at at (count - (index + 1))) x more e

    pub many-stops : (count index : ℕ) (whole rest : List ℕ) (before : List T) → index < count →
        many_at at count whole ≡ with_before before (many_at at (count - index) rest) → at rest ≡ None → many_at at count whole ≡ None
    many-stops count index whole rest before h way e =
        way ∙ first-left count index rest before h ∙ no-more before (at rest) (many_at at (count - (index + 1))) e

    pub many-ends : (count index : ℕ) (whole rest : List ℕ) (before : List T) → count ≤ index →
        many_at at count whole ≡ with_before before (many_at at (count - index) rest) → many_at at count whole ≡ Some (before, rest)
    many-ends count index whole rest before h way =
        let none : count - index ≡ 0 = omega arith in
        way ∙ ap (λ (n : ℕ). with_before before (many_at at n rest)) none ∙ all-read before rest

-- ---- what the operators keep, of which some was read before

first-operator : (ops : List OpSpec) (index : ℕ) (rest : List ℕ) (before : List OperatorParts) (op : OpSpec) → index < length ops → op ≡ get_or ops index op →
    with_before before (operators_at (drop index ops) rest) ≡ with_before before (and_more (operator_at op.kind rest) (operators_at (drop (index + 1) ops)))
first-operator ops index rest before op h is =
    let left : drop index ops ≡ op ∷ drop (index + 1) ops =
    drop-cons ops index op h ∙ rw (sym is, add-one index) refl in
    ap (λ (l : List OpSpec). with_before before (operators_at l rest)) left

pub operators-more : (ops : List OpSpec) (index : ℕ) (whole rest more : List ℕ) (before : List OperatorParts) (op : OpSpec) (x : OperatorParts) → index < length ops → op ≡ get_or ops index op →
    operators_at ops whole ≡ with_before before (operators_at (drop index ops) rest) → operator_at op.kind rest ≡ Some (x, more) →
    operators_at ops whole ≡ with_before (before ++ x ∷ []) (operators_at (drop (index + 1) ops) more)
operators-more ops index whole rest more before op x h is way e =
    way ∙ first-operator ops index rest before op h is ∙ one-more before (operator_at op.kind rest) (operators_at (drop (index + 1) ops)) x more e

pub operators-stop : (ops : List OpSpec) (index : ℕ) (whole rest : List ℕ) (before : List OperatorParts) (op : OpSpec) → index < length ops → op ≡ get_or ops index op →
    operators_at ops whole ≡ with_before before (operators_at (drop index ops) rest) → operator_at op.kind rest ≡ None → operators_at ops whole ≡ None
operators-stop ops index whole rest before op h is way e =
    way ∙ first-operator ops index rest before op h is ∙ no-more before (operator_at op.kind rest) (operators_at (drop (index + 1) ops)) e

pub operators-end : (ops : List OpSpec) (index : ℕ) (whole rest : List ℕ) (before : List OperatorParts) → length ops ≤ index →
    operators_at ops whole ≡ with_before before (operators_at (drop index ops) rest) → operators_at ops whole ≡ Some (before, rest)
operators-end ops index whole rest before h way =
    way ∙ ap (λ (l : List OpSpec). with_before before (operators_at l rest)) (drop_all index ops h) ∙ all-read before rest

-- where one was not read, neither is what needs it
pub stops : {A B : Type 0} (one : Option (A × List ℕ)) (all : Option (B × List ℕ)) (e : ReadFault) (rest left : List ℕ) → IsRead {T = A} one (Err e) rest → (one ≡ None → all ≡ None) →
    IsRead {T = B} all (Err e) left
stops one all NoMemory rest left h f = tt
stops one all NoReading rest left h f = f h

-- one was read, and so what follows it
pub passed : {A B : Type 0} (one : Option (A × List ℕ)) (next : A → List ℕ → Option (B × List ℕ)) (x : A) (more left : List ℕ) (r : Result B ReadFault) → one ≡ Some (x, more) →
    IsRead {T = B} (next x more) r left → IsRead {T = B} (followed_by one next) r left
passed {A = A} {B = B} one next x more left r e h = subst (λ (o : Option (A × List ℕ)). IsRead {T = B} (followed_by o next) r left) (sym e) h
