-- The first line with a fault is the one that a refusal names.
use Rattle.std.proofs.Common.{◌≡◌, ℕ, suc, ◌+◌, List, [], ◌∷◌, ◌++◌, length, Some, None, refl, sym, ap, subst, ◌∙◌, arith, inl, inr}
use Rattle.std.specs.Prelude.{Result, Ok, Err, fold}
use Rattle.std.proofs.lemmas.List.{append-nil}
use Rattle.script_rules.specs.declared.reasons.Reason.{Reason}
use Rattle.script_rules.specs.declared.reasons.Reason.TheVariants.{ForeignByte}
use Rattle.script_rules.specs.declared.reasons.PlanFault.{PlanFault}
use Rattle.script_rules.specs.Drafts.{Draft}
use Rattle.script_rules.specs.Reading.{fault_of, fault_of_end, with_line, read_from}
use Rattle.script_rules.specs.Laws.{AreFaultless, IsRefusedFrom}

-- a refusal's line and its reason
abbrev line_in : Result Draft PlanFault → ℕ
line_in (Ok d) = 0
line_in (Err fault) = fault.line

abbrev reason_in : Result Draft PlanFault → Reason
reason_in (Ok d) = ForeignByte
reason_in (Err fault) = fault.reason

abbrev Lines : Type 0
Lines = List (List ℕ)

-- no line is one of none
none_in : (d : Draft) → AreFaultless d []
none_in d [] after line e = absurd cc
none_in d (x ∷ before) after line e = absurd cc

-- one more line in front
one_in_front : (d : Draft) (line : List ℕ) (lines : Lines) → fault_of d line ≡ None → AreFaultless (with_line d line) lines → AreFaultless d (line ∷ lines)
one_in_front d line lines none rest [] after other e = let same : line ≡ other = cc in subst (λ l. fault_of d l ≡ None) same none
one_in_front d line lines none rest (x ∷ before) after other e =
    let same : line ≡ x = cc in
    let behind : lines ≡ before ++ other ∷ after = cc in
    subst (λ l. fault_of (fold with_line (with_line d l) before) other ≡ None) same (rest before after other behind)

-- a refusal further on, seen from one line before
further : (n : ℕ) (d : Draft) (line : List ℕ) (lines : Lines) (m : ℕ) (r : Reason) → fault_of d line ≡ None → IsRefusedFrom (n + 1) (with_line d line) lines m r → IsRefusedFrom n d (line ∷ lines) m r
further n d line lines m r none (inl x) =
    inl (record {
      before = line ∷ x.before;
      line = x.line;
      after = x.after;
      parts = ap (λ l. line ∷ l) x.parts;
      number = omega (arith, x.number);
      faultless = one_in_front d line x.before none x.faultless;
      fault = x.fault;
    })
further n d line lines m r none (inr x) =
    inr (record { number = omega (arith, x.number); faultless = one_in_front d line lines none x.faultless; fault = x.fault })

-- what a reading refuses is refused
pub refused : (n : ℕ) (d : Draft) (lines : Lines) (m : ℕ) (r : Reason) → read_from n d lines ≡ Err (record { line = m; reason = r }) → IsRefusedFrom n d lines m r
refused n d [] m r e =
    (elim (fault_of_end d) as (λ o. fault_of_end d ≡ o → (elim o as (λ o. Result Draft PlanFault) [ None ↦ Ok d | Some q ↦ Err (record { line = n; reason = q }) ]) ≡ Err (record { line = m; reason = r }) → IsRefusedFrom n d [] m r) [
      | None ↦ λ is e. absurd cc
      | Some q ↦ λ is e.
          let number : n ≡ m = ap line_in e in
          let reason : q ≡ r = ap reason_in e in
          inr (record { number = omega (arith, number); faultless = none_in d; fault = is ∙ ap Some reason })
    ]) refl e
refused n d (line ∷ lines) m r e =
    (elim (fault_of d line) as (λ o. fault_of d line ≡ o → (elim o as (λ o. Result Draft PlanFault) [ None ↦ read_from (n + 1) (with_line d line) lines | Some q ↦ Err (record { line = n; reason = q }) ]) ≡ Err (record { line = m; reason = r }) → IsRefusedFrom n d (line ∷ lines) m r) [
      | None ↦ λ is e. further n d line lines m r is (refused (n + 1) (with_line d line) lines m r e)
      | Some q ↦ λ is e.
          let number : n ≡ m = ap line_in e in
          let reason : q ≡ r = ap reason_in e in
          inl (record { before = []; line = line; after = lines; parts = refl; number = omega (arith, number); faultless = none_in d; fault = is ∙ ap Some reason })
    ]) refl e

-- lines without a fault are read
pub reads_on : (n : ℕ) (d : Draft) (before rest : Lines) → AreFaultless d before → read_from n d (before ++ rest) ≡ read_from (n + length before) (fold with_line d before) rest
reads_on n d [] rest none = let same : n + 0 ≡ n = omega arith in ap (λ k. read_from k d rest) (sym same)
reads_on n d (line ∷ before) rest none =
    let now : fault_of d line ≡ None = none [] before line refl in
    let later : AreFaultless (with_line d line) before = λ b a l e. none (line ∷ b) a l (ap (λ ls. line ∷ ls) e) in
    let number : (n + 1) + length before ≡ n + suc (length before) = omega arith in
    rw (now, read_from) (reads_on (n + 1) (with_line d line) before rest later ∙ ap (λ k. read_from k (fold with_line (with_line d line) before) rest) number)

-- what is refused a reading refuses
pub refuses : (n : ℕ) (d : Draft) (lines : Lines) (m : ℕ) (r : Reason) → IsRefusedFrom n d lines m r → read_from n d lines ≡ Err (record { line = m; reason = r })
refuses n d lines m r (inl x) =
    ap (read_from n d) x.parts ∙ reads_on n d x.before (x.line ∷ x.after) x.faultless
    ∙ rw (x.fault, read_from) (ap (λ k. Err (record { line = k; reason = r })) (sym x.number))
refuses n d lines m r (inr x) =
    let whole : lines ++ [] ≡ lines = append-nil lines in
    ap (read_from n d) (sym whole) ∙ reads_on n d lines [] x.faultless ∙ rw (x.fault, read_from) (ap (λ k. Err (record { line = k; reason = r })) (sym x.number))
