-- What an answer says of the parts.
use Rattle.std.proofs.Common.{◌≡◌, ℕ, zero, suc, ◌≤◌, true, false, List, [], Option, Some, None, refl, ap, sym, ◌∙◌, arith, inl, inr, ◌⊎◌}
use Rattle.std.specs.Prelude.{Result, Ok, Err, ◌==◌, if◌then◌else◌, unwrap_or}
use Rattle.std.proofs.lemmas.Bool.{eqb-true}
use Rattle.dpc_model.specs.ScriptText.{script_text, upgraded}
use Rattle.dpc_model.specs.declared.messages.Event.{Event}
use Rattle.dpc_model.specs.declared.scripts.Script.{Script}
use Rattle.script_rules.specs.declared.reasons.PlanFault.{PlanFault}
use Rattle.script_rules.specs.Reading.{reading, read, refusal, fault_in}
use Rattle.script_rules.specs.Reading as whole
use Rattle.script_rules.proofs.Ranges.{ranges, header_ranges}
use Rattle.law_scripts.proofs.ReadChecked.{reads_checked}
use Rattle.journal_text.specs.Journals.{journal_of}
use Rattle.journal_inputs.specs.declared.faults.Refusal.{Refusal}
use Rattle.journal_inputs.specs.declared.faults.Refusal.TheVariants.{Script as InScript, Journal as InJournal}
use Rattle.journal_inputs.specs.Parts.{script_part, journal_part}
use Rattle.journal_inputs.specs.Inputs.{and_then, script_or_refusal, journal_or_refusal, script_in, journal_in, with_journal, input_of, newest_fault, older, upgraded_with, upgraded_parts, upgraded_text}
use Rattle.journal_inputs.specs.Upgrades.{IsOldScript, IsUpgradeOf, IsUpgrade}

-- ---- one step behind another

pub ok_is : {X : Type 0} (x y : X) → ◌≡◌ {A = Result X Refusal} (Ok x) (Ok y) → x ≡ y
ok_is x y h = cc

refusal_is : {X : Type 0} (v w : Refusal) → ◌≡◌ {A = Result X Refusal} (Err v) (Err w) → v ≡ w
refusal_is v w h = cc

fault_is : (v w : PlanFault) → InScript v ≡ InScript w → v ≡ w
fault_is v w h = cc

pub taken : {X Y : Type 0} (r : Result X Refusal) (f : X → Result Y Refusal) (y : Y) → and_then r f ≡ Ok y → (x : X) × (r ≡ Ok x) × (f x ≡ Ok y)
taken (Ok x) f y h = (x, refl, h)
taken (Err why) f y h = absurd cc

not_taken : {X Y : Type 0} (r : Result X Refusal) (f : X → Result Y Refusal) (why : Refusal) → and_then r f ≡ Err why → (r ≡ Err why) ⊎ ((x : X) × (r ≡ Ok x) × (f x ≡ Err why))
not_taken (Ok x) f why h = inr (x, refl, h)
not_taken (Err w) f why h = inl (ap (λ v. Err v) (refusal_is w why h))

-- ---- a part or its refusal

pub script_is : (r : Result Script PlanFault) (s : Script) → script_or_refusal r ≡ Ok s → whole.script_in r ≡ Some s
script_is (Ok q) s h = ap Some (ok_is q s h)
script_is (Err fault) s h = absurd cc

script_refused : (r : Result Script PlanFault) (fault : PlanFault) → script_or_refusal r ≡ Err (InScript fault) → fault_in r ≡ Some fault
script_refused (Ok s) fault h = absurd cc
script_refused (Err own) fault h = ap Some (fault_is own fault (refusal_is (InScript own) (InScript fault) h))

script_never : (r : Result Script PlanFault) (entry reason : ℕ) → script_or_refusal r ≡ Err (InJournal entry reason) → ⊥
script_never (Ok s) entry reason h = absurd cc
script_never (Err own) entry reason h = absurd cc

pub journal_is : (r : Result (List Event) (ℕ × ℕ)) (events : List Event) → journal_or_refusal r ≡ Ok events → r ≡ Ok events
journal_is (Ok own) events h = ap (λ l. Ok l) (ok_is own events h)
journal_is (Err why) events h = absurd cc

journal_refused : (r : Result (List Event) (ℕ × ℕ)) (entry reason : ℕ) → journal_or_refusal r ≡ Err (InJournal entry reason) → r ≡ Err (entry, reason)
journal_refused (Ok own) entry reason h = absurd cc
journal_refused (Err (e, n)) entry reason h =
    let first : e ≡ entry = cc in
    let second : n ≡ reason = cc in
    ap (λ k. Err (k, n)) first ∙ ap (λ k. Err (entry, k)) second

journal_never : (r : Result (List Event) (ℕ × ℕ)) (fault : PlanFault) → journal_or_refusal r ≡ Err (InScript fault) → ⊥
journal_never (Ok own) fault h = absurd cc
journal_never (Err why) fault h = absurd cc

-- ---- a script and its journal

abbrev journal_text_in : List ℕ → List ℕ
journal_text_in text = unwrap_or (journal_part text) []

abbrev behind : List ℕ → Script → Result (Script × List Event) Refusal
behind text s = with_journal s (journal_in s.plan (journal_text_in text))

pub record IsBoth (text : List ℕ) (s : Script) (events : List Event) : Type 0 where
  pub script : read (script_part text) ≡ Some s
  pub journal : journal_of s.plan (journal_text_in text) ≡ Ok events

pub is_both : (text : List ℕ) (s : Script) (events : List Event) → input_of text ≡ Ok (s, events) → IsBoth text s events
unfolding input_of
is_both text s events h =
    let first = taken (script_in (script_part text)) (behind text) (s, events) h in
    let q = first.0 in
    let second = taken (journal_in q.plan (journal_text_in text)) (λ es. Ok (q, es)) (s, events) first.2 in
    let both = ok_is (q, second.0) (s, events) second.2 in
    let script : q ≡ s = ap (λ (x : Script × List Event). x.0) both in
    let own : second.0 ≡ events = ap (λ (x : Script × List Event). x.1) both in
    record {
      script = script_is (reading (script_part text)) q first.1 ∙ ap Some script;
      journal = ap (λ x. journal_of x.plan (journal_text_in text)) (sym script) ∙ journal_is (journal_of q.plan (journal_text_in text)) second.0 second.1 ∙ ap (λ l. Ok l) own;
    }

-- a journal in front of nothing is refused as a journal is
no_script_behind : (text : List ℕ) (s : Script) (fault : PlanFault) → behind text s ≡ Err (InScript fault) → ⊥
no_script_behind text s fault h = neither (not_taken (journal_in s.plan (journal_text_in text)) (λ es. Ok (s, es)) (InScript fault) h)
  where
    neither : (journal_in s.plan (journal_text_in text) ≡ Err (InScript fault)) ⊎ ((es : List Event) × (journal_in s.plan (journal_text_in text) ≡ Ok es) × (◌≡◌ {A = Result (Script × List Event) Refusal} (Ok (s, es)) (Err (InScript fault)))) → ⊥
    neither (inl is) = journal_never (journal_of s.plan (journal_text_in text)) fault is
    neither (inr (es, is, h)) = absurd cc

journal_behind : (text : List ℕ) (s : Script) (entry reason : ℕ) → behind text s ≡ Err (InJournal entry reason) → journal_of s.plan (journal_text_in text) ≡ Err (entry, reason)
journal_behind text s entry reason h = one_of (not_taken (journal_in s.plan (journal_text_in text)) (λ es. Ok (s, es)) (InJournal entry reason) h)
  where
    one_of : (journal_in s.plan (journal_text_in text) ≡ Err (InJournal entry reason)) ⊎ ((es : List Event) × (journal_in s.plan (journal_text_in text) ≡ Ok es) × (◌≡◌ {A = Result (Script × List Event) Refusal} (Ok (s, es)) (Err (InJournal entry reason)))) →
        journal_of s.plan (journal_text_in text) ≡ Err (entry, reason)
    one_of (inl is) = journal_refused (journal_of s.plan (journal_text_in text)) entry reason is
    one_of (inr (es, is, h)) = absurd cc

pub script_is_refused : (text : List ℕ) (fault : PlanFault) → input_of text ≡ Err (InScript fault) → refusal (script_part text) ≡ Some fault
unfolding input_of
script_is_refused text fault h = one_of (not_taken (script_in (script_part text)) (behind text) (InScript fault) h)
  where
    one_of : (script_in (script_part text) ≡ Err (InScript fault)) ⊎ ((s : Script) × (script_in (script_part text) ≡ Ok s) × (behind text s ≡ Err (InScript fault))) → refusal (script_part text) ≡ Some fault
    one_of (inl is) = script_refused (reading (script_part text)) fault is
    one_of (inr (s, is, h)) = absurd (no_script_behind text s fault h)

abbrev JournalIsRefused : List ℕ → ℕ → ℕ → Type 0
JournalIsRefused text entry reason = (s : Script) × (read (script_part text) ≡ Some s) × (journal_of s.plan (journal_text_in text) ≡ Err (entry, reason))

pub journal_is_refused : (text : List ℕ) (entry reason : ℕ) → input_of text ≡ Err (InJournal entry reason) →
    (s : Script) × (read (script_part text) ≡ Some s) × (journal_of s.plan (unwrap_or (journal_part text) []) ≡ Err (entry, reason))
unfolding input_of
journal_is_refused text entry reason h = one_of (not_taken (script_in (script_part text)) (behind text) (InJournal entry reason) h)
  where
    one_of : (script_in (script_part text) ≡ Err (InJournal entry reason)) ⊎ ((s : Script) × (script_in (script_part text) ≡ Ok s) × (behind text s ≡ Err (InJournal entry reason))) → JournalIsRefused text entry reason
    one_of (inl is) = absurd (script_never (reading (script_part text)) entry reason is)
    one_of (inr (s, is, h)) = (s, script_is (reading (script_part text)) s is, journal_behind text s entry reason h)

-- ---- what is upgraded

old_version : (n : ℕ) → 1 ≤ n → n ≤ 3 → (n == 3) ≡ false → (n ≡ 1) ⊎ (n ≡ 2)
old_version zero low high other = absurd (omega (arith, low))
old_version (suc zero) low high other = inl refl
old_version (suc (suc zero)) low high other = inr refl
old_version (suc (suc (suc zero))) low high other = absurd cc
old_version (suc (suc (suc (suc n)))) low high other = absurd (omega (arith, high))

is_old : (text : List ℕ) (s : Script) → read (script_part text) ≡ Some s → (s.plan.version == 3) ≡ false → IsOldScript text s
is_old text s is other =
    let checked = reads_checked (script_part text) s is in
    let range = (header_ranges s.plan (ranges s checked.in_range).header).version in
    record { is = is; version = old_version s.plan.version range.0 range.1 other }

older_is : (s q : Script) → older s ≡ Ok q → (s ≡ q) × ((s.plan.version == 3) ≡ false)
older_is s q h =
    (elim (s.plan.version == 3) as (λ t. (s.plan.version == 3) ≡ t → (if t then Err (InScript newest_fault) else Ok s) ≡ Ok q → (s ≡ q) × ((s.plan.version == 3) ≡ false)) [
      | true ↦ λ is h. absurd cc
      | false ↦ λ is h. (ok_is s q h, is)
    ]) refl h

abbrev old_script : List ℕ → Result Script Refusal
old_script text = and_then (script_in (script_part text)) older

old_script_is : (text : List ℕ) (s : Script) → old_script text ≡ Ok s → IsOldScript text s
old_script_is text s h =
    let first = taken (script_in (script_part text)) older s h in
    let q = first.0 in
    let same = older_is q s first.2 in
    let is = script_is (reading (script_part text)) q first.1 ∙ ap Some same.0 in
    is_old text s is (ap (λ x. x.plan.version == 3) (sym same.0) ∙ same.1)

upgrade_is : (s : Script) (o : Option (List ℕ)) (new : List ℕ) → upgraded_parts o s ≡ Ok new → IsUpgradeOf s o new
upgrade_is s None new h = sym (ok_is (script_text (upgraded s)) new h)
upgrade_is s (Some journal) new h =
    let step = taken (journal_in s.plan journal) (λ es. Ok (upgraded_with s es)) new h in
    (step.0, journal_is (journal_of s.plan journal) step.0 step.1, sym (ok_is (upgraded_with s step.0) new step.2))

pub is_upgrade : (text new : List ℕ) → upgraded_text text ≡ Ok new → IsUpgrade text new
unfolding upgraded_text
is_upgrade text new h =
    let first = taken (old_script text) (upgraded_parts (journal_part text)) new h in
    record { script = first.0; old = old_script_is text first.0 first.1; new_parts = upgrade_is first.0 (journal_part text) new first.2 }

-- ---- what is not upgraded

older_refused_with : (s : Script) (why : Refusal) → older s ≡ Err why → (s.plan.version ≡ 3) × (why ≡ InScript newest_fault)
older_refused_with s why h =
    (elim (s.plan.version == 3) as (λ t. (s.plan.version == 3) ≡ t → (if t then Err (InScript newest_fault) else Ok s) ≡ Err why → (s.plan.version ≡ 3) × (why ≡ InScript newest_fault)) [
      | true ↦ λ is h. (eqb-true s.plan.version 3 is, sym (refusal_is (InScript newest_fault) why h))
      | false ↦ λ is h. absurd cc
    ]) refl h

abbrev ScriptIsNotUpgraded : List ℕ → PlanFault → Type 0
ScriptIsNotUpgraded text fault =
    (refusal (script_part text) ≡ Some fault) ⊎ ((s : Script) × (read (script_part text) ≡ Some s) × (s.plan.version ≡ 3) × (fault ≡ newest_fault))

old_script_refused : (text : List ℕ) (fault : PlanFault) → old_script text ≡ Err (InScript fault) → ScriptIsNotUpgraded text fault
old_script_refused text fault h = one_of (not_taken (script_in (script_part text)) older (InScript fault) h)
  where
    one_of : (script_in (script_part text) ≡ Err (InScript fault)) ⊎ ((s : Script) × (script_in (script_part text) ≡ Ok s) × (older s ≡ Err (InScript fault))) → ScriptIsNotUpgraded text fault
    one_of (inl is) = inl (script_refused (reading (script_part text)) fault is)
    one_of (inr (s, is, h)) =
        let why = older_refused_with s (InScript fault) h in
        inr (s, script_is (reading (script_part text)) s is, why.0, fault_is fault newest_fault why.1)

old_script_never : (text : List ℕ) (entry reason : ℕ) → old_script text ≡ Err (InJournal entry reason) → ⊥
old_script_never text entry reason h = neither (not_taken (script_in (script_part text)) older (InJournal entry reason) h)
  where
    neither : (script_in (script_part text) ≡ Err (InJournal entry reason)) ⊎ ((s : Script) × (script_in (script_part text) ≡ Ok s) × (older s ≡ Err (InJournal entry reason))) → ⊥
    neither (inl is) = script_never (reading (script_part text)) entry reason is
    neither (inr (s, is, h)) = let why = (older_refused_with s (InJournal entry reason) h).1 in absurd cc

no_script_in_upgrade : (s : Script) (o : Option (List ℕ)) (fault : PlanFault) → upgraded_parts o s ≡ Err (InScript fault) → ⊥
no_script_in_upgrade s None fault h = absurd cc
no_script_in_upgrade s (Some journal) fault h = neither (not_taken (journal_in s.plan journal) (λ es. Ok (upgraded_with s es)) (InScript fault) h)
  where
    neither : (journal_in s.plan journal ≡ Err (InScript fault)) ⊎ ((es : List Event) × (journal_in s.plan journal ≡ Ok es) × (Ok (upgraded_with s es) ≡ Err (InScript fault))) → ⊥
    neither (inl is) = journal_never (journal_of s.plan journal) fault is
    neither (inr (es, is, h)) = absurd cc

journal_in_upgrade : (s : Script) (o : Option (List ℕ)) (entry reason : ℕ) → upgraded_parts o s ≡ Err (InJournal entry reason) →
    (journal : List ℕ) × (o ≡ Some journal) × (journal_of s.plan journal ≡ Err (entry, reason))
journal_in_upgrade s None entry reason h = absurd cc
journal_in_upgrade s (Some journal) entry reason h = one_of (not_taken (journal_in s.plan journal) (λ es. Ok (upgraded_with s es)) (InJournal entry reason) h)
  where
    one_of : (journal_in s.plan journal ≡ Err (InJournal entry reason)) ⊎ ((es : List Event) × (journal_in s.plan journal ≡ Ok es) × (Ok (upgraded_with s es) ≡ Err (InJournal entry reason))) →
        (own : List ℕ) × (Some journal ≡ Some own) × (journal_of s.plan own ≡ Err (entry, reason))
    one_of (inl is) = (journal, refl, journal_refused (journal_of s.plan journal) entry reason is)
    one_of (inr (es, is, h)) = absurd cc

pub script_is_not_upgraded : (text : List ℕ) (fault : PlanFault) → upgraded_text text ≡ Err (InScript fault) →
    (refusal (script_part text) ≡ Some fault) ⊎ ((s : Script) × (read (script_part text) ≡ Some s) × (s.plan.version ≡ 3) × (fault ≡ newest_fault))
unfolding upgraded_text
script_is_not_upgraded text fault h = one_of (not_taken (old_script text) (upgraded_parts (journal_part text)) (InScript fault) h)
  where
    one_of : (old_script text ≡ Err (InScript fault)) ⊎ ((s : Script) × (old_script text ≡ Ok s) × (upgraded_parts (journal_part text) s ≡ Err (InScript fault))) → ScriptIsNotUpgraded text fault
    one_of (inl is) = old_script_refused text fault is
    one_of (inr (s, is, h)) = absurd (no_script_in_upgrade s (journal_part text) fault h)

abbrev JournalIsNotUpgraded : List ℕ → ℕ → ℕ → Type 0
JournalIsNotUpgraded text entry reason =
    (s : Script) × (journal : List ℕ) × IsOldScript text s × (journal_part text ≡ Some journal) × (journal_of s.plan journal ≡ Err (entry, reason))

pub journal_is_not_upgraded : (text : List ℕ) (entry reason : ℕ) → upgraded_text text ≡ Err (InJournal entry reason) →
    (s : Script) × (journal : List ℕ) × IsOldScript text s × (journal_part text ≡ Some journal) × (journal_of s.plan journal ≡ Err (entry, reason))
unfolding upgraded_text
journal_is_not_upgraded text entry reason h = one_of (not_taken (old_script text) (upgraded_parts (journal_part text)) (InJournal entry reason) h)
  where
    one_of : (old_script text ≡ Err (InJournal entry reason)) ⊎ ((s : Script) × (old_script text ≡ Ok s) × (upgraded_parts (journal_part text) s ≡ Err (InJournal entry reason))) → JournalIsNotUpgraded text entry reason
    one_of (inl is) = absurd (old_script_never text entry reason is)
    one_of (inr (s, is, h)) =
        let step = journal_in_upgrade s (journal_part text) entry reason h in
        (s, step.0, old_script_is text s is, step.1, step.2)
