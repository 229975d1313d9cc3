-- A checked script has at most 16 sources and 16 clients, so at most 96 actors.
use Rattle.std.proofs.Common.{◌≡◌, ℕ, ◌*◌, ◌≤◌, true, false, not, nat_lt, nat_le, List, [], ◌∷◌, ◌++◌, length, refl, sym, subst, arith, length-append}
use Rattle.std.specs.Prelude.{unwrap_or}
use Rattle.std.proofs.lemmas.List.{length-map}
use Rattle.std.proofs.lemmas.List.FromFn.{length-range_with_len}
use Rattle.dpc_lists.specs.Lists.{list_all, range_with_len}
use Rattle.dpc_lists.proofs.Elements.{length-changed}
use Rattle.dpc_lists.proofs.Truths.{both, le-of, lt-of, not-false}
use Rattle.dpc_model.specs.Actors.{roles_of}
use Rattle.dpc_model.specs.declared.actors.Role.TheVariants.{Client as IsClient}
use Rattle.dpc_model.specs.declared.plans.FragSpec.{FragSpec}
use Rattle.dpc_model.specs.declared.scripts.Script.{Script}
use Rattle.script_rules.specs.Places.{is_between}
use Rattle.script_rules.specs.Statements.{Statement, HeaderLine, SourceLine, LogLine, FragmentLine, PatienceLine, OperatorLine, ClientLine, BeginLine, SendLine, LinkLine, NodeLine, TickLine, SettleLine}
use Rattle.script_rules.specs.Drafts.{Draft, nothing_yet, and_then, source_named, with_log}
use Rattle.script_rules.specs.Checking.{IsChecked, statements_of}
use Rattle.script_rules.specs.Facts.{has_sizes}
use Rattle.script_rules.proofs.Forms.{checked_has_form}
use Rattle.script_rules.proofs.Passing.{IsFine, Passes, all_said, checked_passes}
use Rattle.script_rules.proofs.SaysItself.{says_itself}
use Rattle.law_session_origins.specs.Numbers.{replicas_before}
use Rattle.law_session_origins.proofs.Numbered.{source_roles, node_roles, client_roles, many-before}
use Rattle.law_settling_scripts.proofs.Few.{few_frags}
use Rattle.law_journals.specs.Entries.{most_actors}

-- ---- sources and clients

record HasFew (d : Draft) : Type 0 where
  sources : length d.sources ≤ 16
  clients : length d.clients ≤ 16

one-more : {X : Type 0} (xs : List X) (x : X) → not (nat_lt (length xs) 16) ≡ false → length (xs ++ x ∷ []) ≤ 16
one-more xs x room =
    let less = lt-of (length xs) 16 (not-false (nat_lt (length xs) 16) room) in
    let more = length-append xs (x ∷ []) in
    omega (arith, less, more)

step : (d : Draft) (s : Statement) → IsFine d s → HasFew d → HasFew (and_then d s)
step d (HeaderLine place number) fine h = record { sources = h.sources; clients = h.clients }
step d (SourceLine name columns) fine h = record { sources = one-more d.sources _ fine.limit; clients = h.clients }
step d (LogLine source time vals) fine h =
    let same = length-changed (unwrap_or (source_named d source) 0) (with_log (record { stime = time; vals = vals })) d.sources in
    let few = h.sources in
    record { sources = omega (arith, same, few); clients = h.clients }
step d (FragmentLine name replicas streams) fine h = record { sources = h.sources; clients = h.clients }
step d (PatienceLine delay) fine h = record { sources = h.sources; clients = h.clients }
step d (OperatorLine name inputs kind) fine h = record { sources = h.sources; clients = h.clients }
step d (ClientLine name stream) fine h = record { sources = h.sources; clients = one-more d.clients _ fine.limit }
step d BeginLine fine h = record { sources = h.sources; clients = h.clients }
step d (SendLine make source time) fine h = record { sources = h.sources; clients = h.clients }
step d (LinkLine make a b) fine h = record { sources = h.sources; clients = h.clients }
step d (NodeLine true node) fine h = record { sources = h.sources; clients = h.clients }
step d (NodeLine false node) fine h = record { sources = h.sources; clients = h.clients }
step d (TickLine now) fine h = record { sources = h.sources; clients = h.clients }
step d SettleLine fine h = record { sources = h.sources; clients = h.clients }

steps : (d : Draft) (ss : List Statement) → Passes d ss → HasFew d → HasFew (all_said d ss)
steps d [] p h = h
steps d (s ∷ ss) p h = steps (and_then d s) ss p.1 (step d s p.0 h)

pub few_sources : (s : Script) → IsChecked s → length s.plan.sources ≤ 16
few_sources s c = subst (λ (x : Script). length x.plan.sources ≤ 16) (says_itself s c) (steps nothing_yet (statements_of s) (checked_passes s c) (record { sources = omega arith; clients = omega arith })).sources

pub few_clients : (s : Script) → IsChecked s → length s.plan.clients ≤ 16
few_clients s c = subst (λ (x : Script). length x.plan.clients ≤ 16) (says_itself s c) (steps nothing_yet (statements_of s) (checked_passes s c) (record { sources = omega arith; clients = omega arith })).clients

-- ---- actors

few-replicas : (frags : List FragSpec) → list_all has_sizes frags ≡ true → replicas_before (length frags) frags ≤ 4 * length frags
few-replicas [] h = omega arith
few-replicas (f ∷ frags) h =
    let p = both (has_sizes f) (list_all has_sizes frags) h in
    let low = le-of f.replicas 4 (both (nat_le 1 f.replicas) (nat_le f.replicas 4) (both (is_between 1 4 f.replicas) _ p.0).0).1 in
    let rest = few-replicas frags p.1 in
    omega (arith, low, rest)

pub few-actors : (s : Script) → IsChecked s → length (roles_of s.plan) ≤ most_actors
few-actors s c =
    let plan = s.plan in
    let frags = few_frags s c in
    let sources = few_sources s c in
    let clients = few_clients s c in
    let nodes = few-replicas plan.frags (checked_has_form s c).sizes in
    let before = many-before plan in
    let last = length-map (range_with_len 0 (length plan.clients)) IsClient in
    let many = length-range_with_len 0 (length plan.clients) in
    let sum = length-append (source_roles plan ++ node_roles plan) (client_roles plan) in
    let split : roles_of plan ≡ (source_roles plan ++ node_roles plan) ++ client_roles plan = refl in
    subst (λ (l : ℕ). l ≤ 96) (sym sum) (omega (arith, frags, sources, clients, nodes, before, last, many))
