-- A text that is no journal is refused with one of three reasons.
use Rattle.std.proofs.Common.{◌≡◌, ℕ, ◌+◌, ◌≤◌, Bool, true, false, List, [], ◌∷◌, ◌++◌, length, Option, Some, None, refl, sym, ap, ◌∙◌, arith, inl, inr, length-append}
use Rattle.std.specs.Prelude.{Result, Ok, Err, codes, bytes_eq, option_map, if◌then◌else◌, ◌==◌}
use Rattle.std.proofs.lemmas.Bool.{eqb-true}
use Rattle.dpc_model.specs.declared.messages.Event.{Event}
use Rattle.dpc_model.specs.declared.plans.Plan.{Plan}
use Rattle.script_rules.specs.Lines.{pieces, lines_of}
use Rattle.journal_text.specs.Entries.{entry_of}
use Rattle.journal_text.specs.Journals.{counted, opened, concluded, entries_of, journal_of_lines, journal_of, IsReason}
use Rattle.journal_text.proofs.ByLines.{by_lines}

-- a count is told in version 3 alone
abbrev IsTold : Plan → Option ℕ → Type 0
IsTold plan None = Unit {0}
IsTold plan (Some n) = plan.version ≡ 3

module _ (plan : Plan) where
  -- refused with this reason, behind so many entries
  record IsRefused (least most entry reason : ℕ) : Type 0 where
    low : least ≤ entry
    high : entry ≤ most
    reason_is : IsReason plan reason

  abbrev IsRefusedAs : Result (List Event) (ℕ × ℕ) → ℕ → ℕ → Type 0
  IsRefusedAs r entry reason = r ≡ Err (entry, reason)

  here : (n most entry reason own : ℕ) → IsReason plan own → n ≤ most → IsRefusedAs (Err (n, own)) entry reason → IsRefused n most entry reason
  here n most entry reason own is le h =
      let pair : ◌≡◌ {A = ℕ × ℕ} (n, own) (entry, reason) = cc in
      let place : n ≡ entry = ap (λ (x : ℕ × ℕ). x.0) pair in
      let same : own ≡ reason = ap (λ (x : ℕ × ℕ). x.1) pair in
      record { low = omega (arith, place); high = omega (arith, le, place); reason_is = rw (← same) is }

  at_the_end : (count : Option ℕ) → IsTold plan count → (events : List Event) (rest : List (List ℕ)) (entry reason : ℕ) → IsRefusedAs (concluded count events rest) entry reason → IsRefused (length events) (length events) entry reason
  at_the_end count told events (x ∷ rest) entry reason h = here (length events) (length events) entry reason 1 (inl refl) (omega arith) h
  at_the_end None told events [] entry reason h = absurd cc
  at_the_end (Some n) told events [] entry reason h =
      (elim (n == length events) as (λ t. IsRefusedAs (if t then Ok events else Err (length events, 4)) entry reason → IsRefused (length events) (length events) entry reason) [
        | true ↦ λ g. absurd cc
        | false ↦ λ g. here (length events) (length events) entry reason 4 (inr (inr (refl, told))) (omega arith) g
      ]) h

  wider : (least most more entry reason : ℕ) → most ≤ more → IsRefused least most entry reason → IsRefused least more entry reason
  wider least most more entry reason le r = record { low = r.low; high = omega (arith, le, r.high); reason_is = r.reason_is }

  entries_refused : (lines : List (List ℕ)) (count : Option ℕ) → IsTold plan count → (before : List Event) (entry reason : ℕ) → IsRefusedAs (entries_of plan count before lines) entry reason →
      IsRefused (length before) (length before + length lines) entry reason
  entries_refused [] count told before entry reason h = here (length before) (length before + 0) entry reason 3 (inr (inl refl)) (omega arith) h
  entries_refused (l ∷ rest) count told before entry reason h =
      (elim (bytes_eq l (codes "journal end")) as (λ t. IsRefusedAs (if t then concluded count before rest
      else (elim (entry_of plan l) [ None ↦ Err (length before, 1) | Some e ↦ entries_of plan count (before ++ e ∷ []) rest ])) entry reason → IsRefused (length before) (length before + length (l ∷ rest)) entry reason) [
        | true ↦ λ g. wider (length before) (length before) (length before + length (l ∷ rest)) entry reason (omega arith) (at_the_end count told before rest entry reason g)
        | false ↦ λ g.
            (elim (entry_of plan l) as (λ o. IsRefusedAs (elim o [ None ↦ Err (length before, 1) | Some e ↦ entries_of plan count (before ++ e ∷ []) rest ]) entry reason → IsRefused (length before) (length before + length (l ∷ rest)) entry reason) [
              | None ↦ λ g. here (length before) (length before + length (l ∷ rest)) entry reason 1 (inl refl) (omega arith) g
              | Some e ↦ λ g.
                  let r = entries_refused rest count told (before ++ e ∷ []) entry reason g in
                  let more : length (before ++ e ∷ []) ≡ length before + 1 = length-append before (e ∷ []) in
                  let low = r.low in
                  let high = r.high in
                  record { low = omega (arith, low, more); high = omega (arith, high, more); reason_is = r.reason_is }
            ]) g
      ]) h

  told_by : (l : List ℕ) (count : Option ℕ) → opened plan l ≡ Some count → IsTold plan count
  told_by l None h = tt
  told_by l (Some n) h =
      (elim (plan.version == 3) as (λ t. (plan.version == 3) ≡ t → (if t then option_map Some (counted (pieces 32 l)) else if bytes_eq l (codes "journal") then Some None else None) ≡ Some (Some n) → plan.version ≡ 3) [
        | true ↦ λ e g. eqb-true plan.version 3 e
        | false ↦ λ e g. none (bytes_eq l (codes "journal")) g
      ]) refl h
    where
      none : (t : Bool) → ◌≡◌ {A = Option (Option ℕ)} (if t then Some None else None) (Some (Some n)) → plan.version ≡ 3
      none true g = absurd cc
      none false g = absurd cc

  pub refused_with : (text : List ℕ) (entry reason : ℕ) → journal_of plan text ≡ Err (entry, reason) → (entry ≤ length (lines_of text)) × IsReason plan reason
  refused_with text entry reason h = by_first (lines_of text) (sym (by_lines plan text (lines_of text) refl) ∙ h)
    where
      by_count : (l : List ℕ) (rest : List (List ℕ)) (o : Option (Option ℕ)) → opened plan l ≡ o → IsRefusedAs (elim o [ None ↦ Err (0, 1) | Some count ↦ entries_of plan count [] rest ]) entry reason →
          (entry ≤ length (l ∷ rest)) × IsReason plan reason
      by_count l rest None e g = let r = here 0 0 entry reason 1 (inl refl) (omega arith) g in let high = r.high in (omega (arith, high), r.reason_is)
      by_count l rest (Some count) e g = let r = entries_refused rest count (told_by l count e) [] entry reason g in let high = r.high in (omega (arith, high), r.reason_is)

      by_first : (lines : List (List ℕ)) → IsRefusedAs (journal_of_lines plan lines) entry reason → (entry ≤ length lines) × IsReason plan reason
      by_first [] g = let r = here 0 0 entry reason 3 (inr (inl refl)) (omega arith) g in let high = r.high in (omega (arith, high), r.reason_is)
      by_first (l ∷ rest) g = by_count l rest (opened plan l) refl g
