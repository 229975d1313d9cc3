-- A plan is judged part by part, and a script behind its plan.
use Rattle.std.proofs.Common.{◌≡◌, ℕ, ◌+◌, Bool, true, false, List, [], ◌∷◌, ◌++◌, length, Some, None, refl, sym, ap, subst, ◌∙◌}
use Rattle.std.specs.Prelude.{Result, Ok, Err, flat_map, option_map}
use Rattle.std.proofs.lemmas.List.{append_assoc}
use Rattle.dpc_model.specs.declared.plans.Plan.{Plan}
use Rattle.dpc_model.specs.declared.scripts.Script.{Script}
use Rattle.script_rules.specs.declared.reasons.PlanFault.{PlanFault}
use Rattle.script_rules.specs.Statements.{Statement, BeginLine}
use Rattle.script_rules.specs.Drafts.{Draft, nothing_yet, and_then, script_of}
use Rattle.script_rules.specs.Checking.{check, check_from, is_in_range, IsChecked, header_statements, phase_statements, statements_of}
use Rattle.script_rules.proofs.Parts.{parts, said_of_sources, said_of_frags, said_of_clients, said_at_last}
use Rattle.script_rules.proofs.Ranges.{ranges}
use Rattle.script_rules.proofs.Headers.{header_said}
use Rattle.script_rules.proofs.SaysItself.{says_itself}
use Rattle.script_rules.proofs.Passing.{all_said, said-append}
use Rattle.script_check.specs.Judging.{told, told_fault, Judges, bare, declaring, running}
use Rattle.script_check.specs.Behind.{IsBehindClients, JudgesFragments, JudgesClients, JudgesPlan}
use Rattle.script_check.proofs.Judging.{check-append, judges_then, judges_stop}
use Rattle.script_check.proofs.AllSources.{sources_said}

module _ (plan : Plan) where
  abbrev h : List Statement
  h = header_statements plan

  abbrev s : List Statement
  s = said_of_sources plan

  abbrev f : List Statement
  f = said_of_frags plan

  abbrev c : List Statement
  c = said_of_clients plan

  abbrev b : List Statement
  b = BeginLine ∷ []

  whole : statements_of (bare plan) ≡ h ++ (s ++ (f ++ (c ++ b)))
  whole = parts (bare plan)

  header_draft : all_said nothing_yet h ≡ declaring plan [] [] []
  header_draft = header_said plan

  abbrev pub SourcesJudge : ℕ → Result ℕ PlanFault → Type 0
  SourcesJudge l r = (n : ℕ) → l ≡ told n → Judges r n (declaring plan [] [] []) s

  abbrev pub FragsJudge : ℕ → Result ℕ PlanFault → Type 0
  FragsJudge l r = (n : ℕ) → l ≡ told n → JudgesFragments r n plan

  abbrev pub ClientsJudge : ℕ → Result ℕ PlanFault → Type 0
  ClientsJudge l r = (n : ℕ) (d : Draft) → l ≡ told n → IsBehindClients plan [] d → JudgesClients r n plan d

  -- where the parts up to here have no fault
  abbrev Sources : Result ℕ PlanFault → ℕ → Type 0
  Sources r n = Judges r n (declaring plan [] [] []) s

  to_sources : (l : ℕ) (r : Result ℕ PlanFault) → Judges (Ok l) 1 nothing_yet h → Sources r (1 + length h) → Judges r 1 nothing_yet (h ++ s)
  to_sources l r hh hs = judges_then r l 1 nothing_yet h s hh (subst (λ d. Judges r (1 + length h) d s) (sym header_draft) hs)

  sources_draft : (l n : ℕ) → Sources (Ok l) n → all_said nothing_yet (h ++ s) ≡ declaring plan plan.sources [] []
  sources_draft l n hs = said-append nothing_yet h s ∙ ap (λ d. all_said d s) header_draft ∙ sources_said plan n plan.sources hs.1

  pub header_stops : (fault : PlanFault) → Judges (Err fault) 1 nothing_yet h → JudgesPlan (Err fault) plan
  header_stops fault hh = subst (Judges (Err fault) 1 nothing_yet) (sym whole) (judges_stop fault 1 nothing_yet h (s ++ (f ++ (c ++ b))) hh)

  pub sources_stop : (l : ℕ) (fault : PlanFault) → Judges (Ok l) 1 nothing_yet h → ((n : ℕ) → l ≡ told n → Sources (Err fault) n) → JudgesPlan (Err fault) plan
  sources_stop l fault hh hs =
      subst (Judges (Err fault) 1 nothing_yet) (append_assoc h s (f ++ (c ++ b)) ∙ sym whole)
      (judges_stop fault 1 nothing_yet (h ++ s) (f ++ (c ++ b)) (to_sources l (Err fault) hh (hs (1 + length h) hh.0)))

  -- behind the sources
  pub record UpToSources (line : ℕ) : Type 0 where
    pub judged : Judges (Ok line) 1 nothing_yet (h ++ s)
    pub draft : all_said nothing_yet (h ++ s) ≡ declaring plan plan.sources [] []

  pub up_to_sources : (l line : ℕ) → Judges (Ok l) 1 nothing_yet h → ((n : ℕ) → l ≡ told n → Sources (Ok line) n) → UpToSources line
  up_to_sources l line hh hs =
      let here = hs (1 + length h) hh.0 in
      record { judged = to_sources l (Ok line) hh here; draft = sources_draft line (1 + length h) here }

  pub frags_stop : (line : ℕ) (fault : PlanFault) → UpToSources line → ((n : ℕ) → line ≡ told n → JudgesFragments (Err fault) n plan) → JudgesPlan (Err fault) plan
  frags_stop line fault u hf =
      let n = 1 + length (h ++ s) in
      let here : Judges (Err fault) 1 nothing_yet ((h ++ s) ++ f) = judges_then (Err fault) line 1 nothing_yet (h ++ s) f u.judged (subst (λ d. Judges (Err fault) n d f) (sym u.draft) (hf n u.judged.0)) in
      subst (Judges (Err fault) 1 nothing_yet) (append_assoc (h ++ s) f (c ++ b) ∙ append_assoc h s (f ++ (c ++ b)) ∙ sym whole) (judges_stop fault 1 nothing_yet ((h ++ s) ++ f) (c ++ b) here)

  -- behind the fragments
  pub record UpToFrags (line : ℕ) : Type 0 where
    pub judged : Judges (Ok line) 1 nothing_yet ((h ++ s) ++ f)
    pub behind : IsBehindClients plan [] (all_said nothing_yet ((h ++ s) ++ f))

  pub up_to_frags : (line next : ℕ) → UpToSources line → ((n : ℕ) → line ≡ told n → JudgesFragments (Ok next) n plan) → UpToFrags next
  up_to_frags line next u hf =
      let n = 1 + length (h ++ s) in
      let here = hf n u.judged.0 in
      let x = here.1.1 in
      record {
        judged = judges_then (Ok next) line 1 nothing_yet (h ++ s) f u.judged (subst (λ d. Judges (Ok next) n d f) (sym u.draft) here.0);
        behind = record {
          fs = x.fs;
          clients = [];
          named = x.stand.named;
          ops = x.stand.ops;
          same = refl;
          draft = said-append nothing_yet (h ++ s) f ∙ ap (λ d. all_said d f) u.draft ∙ x.draft;
        };
      }

  pub clients_stop : (line : ℕ) (fault : PlanFault) → UpToFrags line → ((n : ℕ) (d : Draft) → line ≡ told n → IsBehindClients plan [] d → JudgesClients (Err fault) n plan d) → JudgesPlan (Err fault) plan
  clients_stop line fault u hc =
      let p = (h ++ s) ++ f in
      let here : Judges (Err fault) 1 nothing_yet (p ++ c) = judges_then (Err fault) line 1 nothing_yet p c u.judged (hc (1 + length p) (all_said nothing_yet p) u.judged.0 u.behind) in
      subst (Judges (Err fault) 1 nothing_yet) (append_assoc p c b ∙ append_assoc (h ++ s) f (c ++ b) ∙ append_assoc h s (f ++ (c ++ b)) ∙ sym whole) (judges_stop fault 1 nothing_yet (p ++ c) b here)

  begun_at : (line : ℕ) (r : Result ℕ PlanFault) → Judges r 1 nothing_yet ((((h ++ s) ++ f) ++ c) ++ b) → IsBehindClients plan plan.clients (all_said nothing_yet (((h ++ s) ++ f) ++ c)) → JudgesPlan r plan
  begun_at line (Err fault) j x = subst (Judges (Err fault) 1 nothing_yet) (all_parts ∙ sym whole) j
    where
      all_parts : (((h ++ s) ++ f) ++ c) ++ b ≡ h ++ (s ++ (f ++ (c ++ b)))
      all_parts = append_assoc ((h ++ s) ++ f) c b ∙ append_assoc (h ++ s) f (c ++ b) ∙ append_assoc h s (f ++ (c ++ b))
  begun_at line (Ok next) j x =
      let p = ((h ++ s) ++ f) ++ c in
      let same : p ++ b ≡ statements_of (bare plan) = append_assoc ((h ++ s) ++ f) c b ∙ append_assoc (h ++ s) f (c ++ b) ∙ append_assoc h s (f ++ (c ++ b)) ∙ sym whole in (
        subst (Judges (Ok next) 1 nothing_yet) same j,
        record { fs = x.fs; clients = x.clients; draft = ap (all_said nothing_yet) (sym same) ∙ said-append nothing_yet p b ∙ ap (λ d. and_then d BeginLine) x.draft },
      )

  pub begin_judged : (line next : ℕ) (r : Result ℕ PlanFault) → UpToFrags line → ((n : ℕ) (d : Draft) → line ≡ told n → IsBehindClients plan [] d → JudgesClients (Ok next) n plan d) →
      ((n : ℕ) (d : Draft) → next ≡ told n → IsBehindClients plan plan.clients d → Judges r n d b) → JudgesPlan r plan
  begin_judged line next r u hc hb =
      let p = (h ++ s) ++ f in
      let here = hc (1 + length p) (all_said nothing_yet p) u.judged.0 u.behind in
      let judged : Judges (Ok next) 1 nothing_yet (p ++ c) = judges_then (Ok next) line 1 nothing_yet p c u.judged here.0 in
      let behind : IsBehindClients plan plan.clients (all_said nothing_yet (p ++ c)) = subst (IsBehindClients plan plan.clients) (sym (said-append nothing_yet p c)) here.1 in
      begun_at line r (judges_then r next 1 nothing_yet (p ++ c) b judged (hb (1 + length (p ++ c)) (all_said nothing_yet (p ++ c)) judged.0 behind)) behind

-- ---- a script

bare_in_range : (x : Script) → is_in_range x ≡ true → is_in_range (bare x.plan) ≡ true
unfolding is_in_range
bare_in_range x k = let r = ranges x k in rw (r.header, r.sources, r.frags, r.clients) refl

abbrev behind_plan : Script → List Statement
behind_plan x = flat_map (phase_statements x.plan) x.phases ++ said_at_last x.settle

both : (x : Script) → statements_of x ≡ statements_of (bare x.plan) ++ behind_plan x
both x =
    let h = header_statements x.plan in
    let s = said_of_sources x.plan in
    let f = said_of_frags x.plan in
    let c = said_of_clients x.plan in
    let e = behind_plan x in
    let b : List Statement = BeginLine ∷ [] in
    parts x
    ∙ ap (λ l. h ++ (s ++ (f ++ l))) (sym (append_assoc c b e)) ∙ ap (λ l. h ++ (s ++ l)) (sym (append_assoc f (c ++ b) e)) ∙ ap (λ l. h ++ l) (sym (append_assoc s (f ++ (c ++ b)) e))
    ∙ sym (append_assoc h (s ++ (f ++ (c ++ b))) e) ∙ ap (λ l. l ++ e) (sym (parts (bare x.plan)))

pub plan_fails : (x : Script) (fault : PlanFault) → JudgesPlan (Err fault) x.plan → option_map told_fault (check x) ≡ Some fault
unfolding check
plan_fails x fault j = ap (λ ss. option_map told_fault (check_from 1 nothing_yet ss)) (both x) ∙ judges_stop fault 1 nothing_yet (statements_of (bare x.plan)) (behind_plan x) j

plan_checked : (x : Script) (line : ℕ) → is_in_range x ≡ true → JudgesPlan (Ok line) x.plan → IsChecked (bare x.plan)
unfolding check
plan_checked x line k j = record { in_range = bare_in_range x k; faultless = j.0.1 }

plan_draft : (x : Script) (line : ℕ) → is_in_range x ≡ true → JudgesPlan (Ok line) x.plan → all_said nothing_yet (statements_of (bare x.plan)) ≡ running x.plan [] []
plan_draft y line k j =
    let plan = y.plan in
    let x = j.1 in
    let itself = says_itself (bare plan) (plan_checked y line k j) in
    let script : script_of (record (declaring plan plan.sources x.fs x.clients) { begun = true }) ≡ bare plan = ap script_of (sym x.draft) ∙ itself in
    let frags : x.fs ≡ plan.frags = ap (λ (z : Script). z.plan.frags) script in
    let clients : x.clients ≡ plan.clients = ap (λ (z : Script). z.plan.clients) script in
    x.draft ∙ ap (λ l. record (declaring plan plan.sources l x.clients) { begun = true }) frags ∙ ap (λ l. record (declaring plan plan.sources plan.frags l) { begun = true }) clients

nothing_behind : (n : ℕ) (d : Draft) (settle : Bool) → check_from n d (said_at_last settle) ≡ None
nothing_behind n d true = refl
nothing_behind n d false = refl

-- phases, judged behind a plan
abbrev pub PhasesJudge : Script → ℕ → Result ℕ PlanFault → Type 0
PhasesJudge x line r = (n : ℕ) → line ≡ told n → IsChecked (bare x.plan) → Judges r n (running x.plan [] []) (flat_map (phase_statements x.plan) x.phases)

to_phases : (x : Script) (line : ℕ) (r : Result ℕ PlanFault) → is_in_range x ≡ true → JudgesPlan (Ok line) x.plan → PhasesJudge x line r → Judges r 1 nothing_yet (statements_of (bare x.plan) ++ flat_map (phase_statements x.plan) x.phases)
to_phases x line r k j judges =
    let p = statements_of (bare x.plan) in
    let ss = flat_map (phase_statements x.plan) x.phases in
    judges_then r line 1 nothing_yet p ss j.0 (subst (λ d. Judges r (1 + length p) d ss) (sym (plan_draft x line k j)) (judges (1 + length p) j.0.0 (plan_checked x line k j)))

pub phases_fail : (x : Script) (line : ℕ) (fault : PlanFault) → is_in_range x ≡ true → JudgesPlan (Ok line) x.plan → PhasesJudge x line (Err fault) → option_map told_fault (check x) ≡ Some fault
unfolding check
phases_fail x line fault k j judges =
    let p = statements_of (bare x.plan) in
    let ss = flat_map (phase_statements x.plan) x.phases in
    ap (λ l. option_map told_fault (check_from 1 nothing_yet l)) (both x ∙ sym (append_assoc p ss (said_at_last x.settle)))
    ∙ judges_stop fault 1 nothing_yet (p ++ ss) (said_at_last x.settle) (to_phases x line (Err fault) k j judges)

pub script_passes : (x : Script) (line next : ℕ) → is_in_range x ≡ true → JudgesPlan (Ok line) x.plan → PhasesJudge x line (Ok next) → check x ≡ None
unfolding check
script_passes x line next k j judges =
    let p = statements_of (bare x.plan) in
    let ss = flat_map (phase_statements x.plan) x.phases in
    let here = to_phases x line (Ok next) k j judges in
    ap (check_from 1 nothing_yet) (both x ∙ sym (append_assoc p ss (said_at_last x.settle)))
    ∙ check-append 1 nothing_yet (p ++ ss) (said_at_last x.settle) here.1 ∙ nothing_behind (1 + length (p ++ ss)) (all_said nothing_yet (p ++ ss)) x.settle
