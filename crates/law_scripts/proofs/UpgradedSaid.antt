-- What an upgraded script says passes every test, as it did: no test asks for the version behind the header.
use Rattle.std.proofs.Common.{◌≡◌, ℕ, ◌+◌, ◌/◌, ◌≤◌, true, false, cond, ◌==◌, List, [], ◌∷◌, ◌++◌, refl, sym, ap, subst, ◌∙◌, Option, Some, None}
use Rattle.dpc_lists.proofs.Truths.{not-less}
use Rattle.dpc_model.specs.ScriptText.{upgraded}
use Rattle.dpc_model.specs.declared.scripts.Script.{Script}
use Rattle.dpc_model.specs.declared.plans.Plan.{Plan}
use Rattle.script_rules.specs.declared.reasons.PlanFault.{PlanFault}
use Rattle.script_rules.specs.declared.reasons.Reason.{Reason}
use Rattle.script_rules.specs.Statements.{Statement, HeaderLine, SourceLine, LogLine, FragmentLine, PatienceLine, OperatorLine, ClientLine, BeginLine, SendLine, LinkLine, NodeLine, TickLine, SettleLine}
use Rattle.script_rules.specs.Drafts.{Draft, nothing_yet, and_then}
use Rattle.script_rules.specs.Reasons.{first_of_tests, tests_said}
use Rattle.script_rules.specs.Checking.{header_statements, check, check_from, statements_of, IsChecked}
use Rattle.script_rules.proofs.Passing.{IsFine, Passes, all_said, is_fine, fine_tests, passes_first, passes_then, checked_passes}
use Rattle.script_rules.proofs.Headers.{passing_number, header_of, declared, header_said, few_buckets}
use Rattle.script_rules.proofs.Parts.{said_of_sources, said_of_frags, said_of_clients, said_from_begin, parts}

-- the plan of an upgraded script
abbrev pub upgraded_plan : Plan → Plan
upgraded_plan plan = record plan { version = 3 }

-- ---- behind the header

-- scripts under way that differ in version, and in what the header says behind its end
module _ (version other width delay end : ℕ) where
  abbrev first : Draft → List ℕ → Draft
  first d t = record d { header = version ∷ width ∷ delay ∷ end ∷ t }

  abbrev second : Draft → List ℕ → Draft
  second d q = record d { header = other ∷ width ∷ delay ∷ end ∷ q }

  tests-same : (d : Draft) (t q : List ℕ) (s : Statement) → tests_said (first d t) s ≡ tests_said (second d q) s
  tests-same d t q (HeaderLine place number) = refl
  tests-same d t q (SourceLine name columns) = refl
  tests-same d t q (LogLine source time vals) = refl
  tests-same d t q (FragmentLine name replicas streams) = refl
  tests-same d t q (PatienceLine delay) = refl
  tests-same d t q (OperatorLine name inputs kind) = refl
  tests-same d t q (ClientLine name stream) = refl
  tests-same d t q BeginLine = refl
  tests-same d t q (SendLine make source time) = refl
  tests-same d t q (LinkLine make a b) = refl
  tests-same d t q (NodeLine true node) = refl
  tests-same d t q (NodeLine false node) = refl
  tests-same d t q (TickLine now) = refl
  tests-same d t q SettleLine = refl

  fine-same : (d : Draft) (t q : List ℕ) (s : Statement) → IsFine (first d t) s → IsFine (second d q) s
  fine-same d t q s fine = is_fine (second d q) s (ap first_of_tests (sym (tests-same d t q s)) ∙ fine_tests (first d t) s fine)

  -- the scripts after one statement
  record Next (d : Draft) (t q : List ℕ) (s : Statement) : Type 0 where
    draft : Draft
    behind : List ℕ
    other_behind : List ℕ
    one : and_then (first d t) s ≡ first draft behind
    two : and_then (second d q) s ≡ second draft other_behind

  next-of : (d : Draft) (t q : List ℕ) (s : Statement) → Next d t q s
  next-of d t q (HeaderLine place number) = record { draft = d; behind = t ++ number ∷ []; other_behind = q ++ number ∷ []; one = refl; two = refl }
  next-of d t q (SourceLine name columns) = record { draft = and_then (first d t) (SourceLine name columns); behind = t; other_behind = q; one = refl; two = refl }
  next-of d t q (LogLine source time vals) = record { draft = and_then (first d t) (LogLine source time vals); behind = t; other_behind = q; one = refl; two = refl }
  next-of d t q (FragmentLine name replicas streams) = record { draft = and_then (first d t) (FragmentLine name replicas streams); behind = t; other_behind = q; one = refl; two = refl }
  next-of d t q (PatienceLine delay) = record { draft = and_then (first d t) (PatienceLine delay); behind = t; other_behind = q; one = refl; two = refl }
  next-of d t q (OperatorLine name inputs kind) = record { draft = and_then (first d t) (OperatorLine name inputs kind); behind = t; other_behind = q; one = refl; two = refl }
  next-of d t q (ClientLine name stream) = record { draft = and_then (first d t) (ClientLine name stream); behind = t; other_behind = q; one = refl; two = refl }
  next-of d t q BeginLine = record { draft = and_then (first d t) BeginLine; behind = t; other_behind = q; one = refl; two = refl }
  next-of d t q (SendLine make source time) = record { draft = and_then (first d t) (SendLine make source time); behind = t; other_behind = q; one = refl; two = refl }
  next-of d t q (LinkLine make a b) = record { draft = and_then (first d t) (LinkLine make a b); behind = t; other_behind = q; one = refl; two = refl }
  next-of d t q (NodeLine true node) = record { draft = and_then (first d t) (NodeLine true node); behind = t; other_behind = q; one = refl; two = refl }
  next-of d t q (NodeLine false node) = record { draft = and_then (first d t) (NodeLine false node); behind = t; other_behind = q; one = refl; two = refl }
  next-of d t q (TickLine now) = record { draft = and_then (first d t) (TickLine now); behind = t; other_behind = q; one = refl; two = refl }
  next-of d t q SettleLine = record { draft = and_then (first d t) SettleLine; behind = t; other_behind = q; one = refl; two = refl }

  passes-same : (d : Draft) (t q : List ℕ) (ss : List Statement) → Passes (first d t) ss → Passes (second d q) ss
  passes-same d t q [] p = tt
  passes-same d t q (s ∷ ss) p =
      let n = next-of d t q s in
      let rest = passes-same n.draft n.behind n.other_behind ss (subst (λ (x : Draft). Passes x ss) n.one p.1) in
      (fine-same d t q s p.0, subst (λ (x : Draft). Passes x ss) (sym n.two) rest)

-- ---- the header

passes-append : (d : Draft) (a b : List Statement) → Passes d a → Passes (all_said d a) b → Passes d (a ++ b)
passes-append d [] b p q = q
passes-append d (s ∷ a) b p q = (p.0, passes-append (and_then d s) a b p.1 q)

header-passes : (version width delay end passing : ℕ) → end / width ≤ 10000 → Passes nothing_yet (HeaderLine 0 version ∷ HeaderLine 1 width ∷ HeaderLine 2 delay ∷ HeaderLine 3 end ∷ HeaderLine 4 passing ∷ [])
header-passes version width delay end passing few = (quiet, (quiet_width, (quiet_delay, (quiet_end, (quiet_passing, tt)))))
  where
    quiet : IsFine nothing_yet (HeaderLine 0 version)
    quiet = record { name = refl; known = refl; time = refl; columns = refl; stream = refl; parts = refl; state = refl; limit = refl }

    quiet_width : IsFine (and_then nothing_yet (HeaderLine 0 version)) (HeaderLine 1 width)
    quiet_width = record { name = refl; known = refl; time = refl; columns = refl; stream = refl; parts = refl; state = refl; limit = refl }

    quiet_delay : IsFine (and_then (and_then nothing_yet (HeaderLine 0 version)) (HeaderLine 1 width)) (HeaderLine 2 delay)
    quiet_delay = record { name = refl; known = refl; time = refl; columns = refl; stream = refl; parts = refl; state = refl; limit = refl }

    quiet_end : IsFine (and_then (and_then (and_then nothing_yet (HeaderLine 0 version)) (HeaderLine 1 width)) (HeaderLine 2 delay)) (HeaderLine 3 end)
    quiet_end = record { name = refl; known = refl; time = refl; columns = refl; stream = refl; parts = refl; state = refl; limit = not-less 10000 (end / width) few }

    quiet_passing : IsFine (and_then (and_then (and_then (and_then nothing_yet (HeaderLine 0 version)) (HeaderLine 1 width)) (HeaderLine 2 delay)) (HeaderLine 3 end)) (HeaderLine 4 passing)
    quiet_passing = record { name = refl; known = refl; time = refl; columns = refl; stream = refl; parts = refl; state = refl; limit = refl }

-- ---- the whole

-- what passes has no fault
faultless : (n : ℕ) (d : Draft) (ss : List Statement) → Passes d ss → check_from n d ss ≡ None
faultless n d [] p = refl
faultless n d (s ∷ ss) p =
    ap (λ (o : Option Reason). elim o as (λ _. Option PlanFault) [ None ↦ check_from (n + 1) (and_then d s) ss | Some r ↦ Some (record { line = n; reason = r }) ]) (fine_tests d s p.0)
    ∙ faultless (n + 1) (and_then d s) ss p.1

abbrev body : Script → List Statement
body s = said_of_sources s.plan ++ (said_of_frags s.plan ++ (said_of_clients s.plan ++ said_from_begin s))

body-same : (s : Script) → body (upgraded s) ≡ body s
body-same s = refl

pub upgraded-passes : (s : Script) → IsChecked s → check (upgraded s) ≡ None
unfolding check
upgraded-passes s checked =
    let plan = s.plan in
    let all = subst (λ (ss : List Statement). Passes nothing_yet ss) (parts s) (checked_passes s checked) in
    let header = passes_first nothing_yet (header_statements plan) (body s) all in
    let rest = subst (λ (d : Draft). Passes d (body s)) (header_said plan) (passes_then nothing_yet (header_statements plan) (body s) all) in
    let now : Passes (declared (header_of (upgraded_plan plan)) [] [] []) (body s) =
    passes-same plan.version 3 plan.width plan.delay plan.end nothing_yet (cond (plan.version == 3) (passing_number plan.passing ∷ []) []) (passing_number plan.passing ∷ []) (body s) rest in
    let whole = passes-append nothing_yet (header_statements (upgraded_plan plan)) (body s) (header-passes 3 plan.width plan.delay plan.end (passing_number plan.passing) (few_buckets plan header)) now in
    faultless 1 nothing_yet (statements_of (upgraded s)) (subst (λ (ss : List Statement). Passes nothing_yet ss) (sym (parts (upgraded s))) whole)
