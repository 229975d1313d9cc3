-- What holds of every verdict and of every refusal.
use Rattle.std.proofs.Common.{◌≡◌, ℕ, List, Result, Ok, Err, IsErrAnd, refl, sym, ap, subst, ◌∙◌}
use Rattle.dpc_model.specs.Fragments.{ideal}
use Rattle.dpc_model.specs.Reading.{Reader, empty_reader}
use Rattle.dpc_model.specs.declared.plans.Plan.{Plan}
use Rattle.dpc_model.specs.declared.plans.StreamRef.{StreamRef}
use Rattle.dpc_model.specs.declared.tuples.Item.{Item}
use Rattle.ideal_run.specs.IdealPlans.{IsIdealPlan}
use Rattle.ideal_run.proofs.Texts.{ideal-ordered, ideal-cut}
use Rattle.audit_core.specs.Audits.{audited, judged, read_items, verdict_on, IsRead, IsAudit}
use Rattle.audit_core.specs.Meanings.{Says, SaysOf, IsFirstWithout}
use Rattle.audit_core.specs.declared.faults.AuditFault.{AuditFault}
use Rattle.audit_core.specs.declared.faults.AuditFault.TheVariants as fault
use Rattle.audit_core.specs.declared.verdict.Verdict.{Verdict}
use Rattle.audit_core.proofs.Foldings.{all-folded, first-without}
use Rattle.audit_core.proofs.Sayings.{says}

says-read : (plan : Plan) (stream : StreamRef) (items : List Item) (v : Verdict) → IsIdealPlan plan → (told : Result Reader ℕ) → read_items 0 empty_reader items ≡ told → judged plan stream told ≡ Ok v → Says plan stream items v
says-read plan stream items v sound (Err n) read e = absurd (let apart : ◌≡◌ {A = Result Verdict ℕ} (Err n) (Ok v) = e in cc)
says-read plan stream items v sound (Ok r) read e =
    let folded = all-folded items r read in
    let same : verdict_on plan.end (ideal plan stream) r ≡ v = let both : ◌≡◌ {A = Result Verdict ℕ} (Ok (verdict_on plan.end (ideal plan stream) r)) (Ok v) = e in cc in
    let so = says plan.end (ideal plan stream) r (ideal-ordered plan stream sound) (ideal-cut plan stream sound) in (
      folded.folded,
      folded.is,
      subst (λ (s : Reader). SaysOf plan.end (ideal plan stream) s v) (sym folded.after) (subst (λ (w : Verdict). SaysOf plan.end (ideal plan stream) r w) same so),
    )

pub says-so : (plan : Plan) (stream : StreamRef) (items : List Item) (v : Verdict) → IsIdealPlan plan → audited plan stream items ≡ Ok v → Says plan stream items v
unfolding audited
says-so plan stream items v sound e = says-read plan stream items v sound (read_items 0 empty_reader items) refl e

refused-read : (plan : Plan) (stream : StreamRef) (items : List Item) (n : ℕ) (told : Result Reader ℕ) → read_items 0 empty_reader items ≡ told → judged plan stream told ≡ Err n → IsFirstWithout items n
refused-read plan stream items n (Err m) read e =
    let same : m ≡ n = let both : ◌≡◌ {A = Result Verdict ℕ} (Err m) (Err n) = e in cc in
    first-without items n (read ∙ ap (λ k. Err k) same)
refused-read plan stream items n (Ok r) read e = absurd (let apart : ◌≡◌ {A = Result Verdict ℕ} (Ok (verdict_on plan.end (ideal plan stream) r)) (Err n) = e in cc)

pub refused-at : (plan : Plan) (stream : StreamRef) (items : List Item) (n : ℕ) → audited plan stream items ≡ Err n → IsFirstWithout items n
unfolding audited
refused-at plan stream items n e = refused-read plan stream items n (read_items 0 empty_reader items) refl e

-- what stops the reading is what is answered
pub stopped : (plan : Plan) (stream : StreamRef) (told : Result Reader ℕ) (why : AuditFault) (answer : Result Verdict AuditFault) → IsErrAnd answer (λ w. w ≡ why) → IsRead told (Err why) → IsAudit (judged plan stream told) answer
stopped plan stream told why (Ok v) same h = absurd same
stopped plan stream told why (Err fault.NoMemory) same h = tt
stopped plan stream told why (Err (fault.NoReading n)) same h =
    ap (judged plan stream) (subst (λ (w : AuditFault). IsRead told (Err w)) (sym same) h)
