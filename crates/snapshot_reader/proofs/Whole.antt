-- The snapshot that all the bytes are.
use Rattle.std.proofs.Common.{◌≡◌, ℕ, List, [], ◌∷◌, ◌==◌, true, false, ◌<◌, length, get_or, Option, Some, None, refl, ap, ◌∙◌, subst, sym, suc, eqb-true, arith}
use Rattle.std.specs.Prelude.{Result, Ok, Err, IfOk, IsErrOf}
use Rattle.dpc_model.specs.declared.operators.OpSpec.{OpSpec}
use Rattle.dpc_model.specs.declared.plans.FragSpec.{FragSpec}
use Rattle.dpc_model.specs.declared.plans.Plan.{Plan}
use Rattle.fragment_mill.specs.Mills.{MillState}
use Rattle.fragment_mill.specs.States.{ops_at}
use Rattle.fragment_mill.proofs.Resumes.{ops-are}
use Rattle.node_model.specs.Stands.{SnapValue}
use Rattle.snapshot_form.specs.Reading.{PlainSnapshot, plain_at, whole_snapshot, snapshot_in}
use Rattle.snapshot_reader.specs.declared.faults.ReadFault.{ReadFault}
use Rattle.snapshot_reader.specs.declared.faults.ReadFault.TheVariants.{NoMemory, NoReading}
use Rattle.snapshot_reader.specs.Told.{IsRead, IsTold}

abbrev pub Answer : Type 0
Answer = Result (SnapValue MillState) ReadFault

module _ (plan : Plan) (frag : ℕ) where
  -- no plain snapshot stands in front
  pub none-read : (told : Option (PlainSnapshot × List ℕ)) (e : ReadFault) (rest : List ℕ) → IsRead {T = PlainSnapshot} told (Err e) rest →
      IsTold {T = SnapValue MillState} (whole_snapshot plan frag told) (Err e)
  none-read told NoMemory rest h = tt
  none-read told NoReading rest h = ap (whole_snapshot plan frag) h

  left-over : (p : PlainSnapshot) (rest : List ℕ) → (length rest == 0) ≡ false → whole_snapshot plan frag (Some (p, rest)) ≡ None
  left-over p [] h = absurd cc
  left-over p (b ∷ rest) h = refl

  -- bytes are left over
  pub goes-on : (told : Option (PlainSnapshot × List ℕ)) (p : PlainSnapshot) (rest : List ℕ) → told ≡ Some (p, rest) → (length rest == 0) ≡ false → whole_snapshot plan frag told ≡ None
  goes-on told p rest e h = ap (whole_snapshot plan frag) e ∙ left-over p rest h

  at-end : (p : PlainSnapshot) (rest : List ℕ) → (length rest == 0) ≡ true → whole_snapshot plan frag (Some (p, rest)) ≡ whole_snapshot plan frag (Some (p, []))
  at-end p [] h = refl
  at-end p (b ∷ rest) h = absurd (omega (arith, eqb-true (suc (length rest)) 0 h))

  -- none is left over
  pub ends : (told : Option (PlainSnapshot × List ℕ)) (p : PlainSnapshot) (rest : List ℕ) (r : Answer) → told ≡ Some (p, rest) → (length rest == 0) ≡ true →
      IsTold (whole_snapshot plan frag (Some (p, []))) r → IsTold (whole_snapshot plan frag told) r
  ends told p rest r e h told_of =
      subst (λ (o : Option (SnapValue MillState)). IsTold o r) (sym (ap (whole_snapshot plan frag) e ∙ at-end p rest h)) told_of

  -- what the answer says of the bytes
  pub record Says (bytes : List ℕ) (r : Answer) : Type 0 where
    pub reading : IfOk r (λ s. snapshot_in plan frag bytes ≡ Some s)
    pub none : IsErrOf r NoReading → snapshot_in plan frag bytes ≡ None

  says : (bytes : List ℕ) (r : Answer) → IsTold (snapshot_in plan frag bytes) r → Says bytes r
  says bytes (Ok s) h = record { reading = h; none = λ e. absurd cc }
  says bytes (Err NoMemory) h = record { reading = tt; none = λ e. absurd cc }
  says bytes (Err NoReading) h = record { reading = tt; none = λ e. h }

  pub told-of : (bytes read : List ℕ) (ops : List OpSpec) (r : Answer) → ops_at plan frag ≡ ops → read ≡ bytes → IsTold (whole_snapshot plan frag (plain_at ops read)) r → Says bytes r
  unfolding snapshot_in
  told-of bytes read ops r same all h =
      let told = λ (l : List OpSpec) (bs : List ℕ). whole_snapshot plan frag (plain_at l bs) in
      says bytes r (subst (λ (o : Option (SnapValue MillState)). IsTold o r) (ap (told ops) all ∙ ap (λ (l : List OpSpec). told l bytes) (sym same)) h)

-- the operators of a fragment, as code finds them
pub frag-ops : (plan : Plan) (frag : ℕ) (frags : List FragSpec) (f : FragSpec) (ops : List OpSpec) → frag < length plan.frags → frags ≡ plan.frags → f ≡ get_or frags frag f →
    ops ≡ (get_or frags frag f).ops → ops_at plan frag ≡ ops
frag-ops plan frag frags f ops known same is own =
    ops-are plan frag f known (is ∙ ap (λ (l : List FragSpec). get_or l frag f) same) ∙ ap (λ (x : FragSpec). x.ops) is ∙ sym own
