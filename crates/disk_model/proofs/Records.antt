-- One call more on record.
use Rattle.std.proofs.Common.{◌≡◌, ℕ, suc, ◌+◌, Bool, true, false, not, cond, inl, inr, List, [], ◌∷◌, ◌++◌, ◌-◌, length, get_or, refl, sym, ◌∙◌, ap, subst, arith, length-append}
use Rattle.std.proofs.lemmas.Bool.{cases_lt}
use Rattle.std.proofs.lemmas.List.{get_or_append_left, get_or-append_right}
use Rattle.disk_model.specs.Disk.{MayLeave, History}
use Rattle.disk_model.specs.Paging.{image_of}
use Rattle.disk_model.specs.Calls.{one_more, replayed, faults_of, is_listed, AreMarked}
use Rattle.disk_model.specs.Recording.{IsOfNow}
use Rattle.disk_model.specs.declared.call.Kind.{Kind}
use Rattle.disk_model.specs.declared.call.Kind.TheVariants.{Read, Write, Sync}
use Rattle.disk_model.specs.declared.call.Call.{Call}
use Rattle.disk_model.specs.declared.pages.Pages.{Pages}

pub replayed_push : (h : History) (calls : List Call) (call : Call) → replayed h (calls ++ call ∷ []) ≡ one_more (replayed h calls) call.kind call.done
replayed_push h [] call = refl
replayed_push h (first ∷ calls) call = replayed_push (one_more h first.kind first.done) calls call

pub faults_push : (calls : List Call) (call : Call) → faults_of (calls ++ call ∷ []) ≡ faults_of calls + cond call.done 0 1
faults_push [] call = elim call.done as (λ done. cond done 0 (suc 0) ≡ 0 + cond done 0 1) [ true ↦ omega arith | false ↦ omega arith ]
faults_push (first ∷ calls) call =
    let rest = faults_push calls call in
    elim first.done as (λ done. cond done (faults_of (calls ++ call ∷ [])) (suc (faults_of (calls ++ call ∷ []))) ≡ cond done (faults_of calls) (suc (faults_of calls)) + cond call.done 0 1) [ true ↦ rest | false ↦ omega (arith, rest) ]

pub marked_push : (fails : List ℕ) (calls : List Call) (call : Call) → AreMarked fails calls → call.done ≡ not (is_listed fails (length calls)) → AreMarked fails (calls ++ call ∷ [])
marked_push fails calls call all is k default low = elim (cases_lt k (length calls)) [
  | inl before ↦ ap (λ (c : Call). c.done) (get_or_append_left calls (call ∷ []) default k before) ∙ all k default before
  | inr from ↦
      let last : k ≡ length calls = omega (arith, length-append calls (call ∷ [])) in
      subst (λ n. (get_or (calls ++ call ∷ []) n default).done ≡ not (is_listed fails n)) (sym last)
      (ap (λ (c : Call). c.done) (get_or-append_right calls (call ∷ []) (length calls) (length calls) default refl (omega arith) ∙ head_is (length calls - length calls) (omega arith)) ∙ is)
]
  where
    head_is : (n : ℕ) → n ≡ 0 → get_or (call ∷ []) n default ≡ call
    head_is n none = ap (λ m. get_or (call ∷ []) m default) none

-- what is read now may be left once the call is on record
pub may_record : (h : History) (kind : Kind) (done : Bool) (pages : Pages) → IsOfNow kind pages → MayLeave h.now (image_of pages.map) → MayLeave (one_more h kind done).now (image_of pages.map)
may_record h (Read at count) done pages now may = may
may_record h (Write at count) done pages now may = λ i out. may i out.1
may_record h (Sync seen) true pages now may = λ i out. ap (λ (p : Pages). image_of p.map i) (sym now)
may_record h (Sync seen) false pages now may = may

-- a push that found memory, or none
pub either : (ok : Bool) (old new : List Call) (call : Call) → new ≡ cond ok (old ++ call ∷ []) old → (P : List Call → Type 0) → P (old ++ call ∷ []) → P old → P new
either true old new call is P more same = subst P (sym is) more
either false old new call is P more same = subst P (sym is) same
