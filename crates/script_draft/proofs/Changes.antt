-- What a further line makes of a draft.
use Rattle.std.proofs.Common.{◌≡◌, ℕ, zero, suc, ◌+◌, ◌<◌, ◌≤◌, List, [], ◌∷◌, length, Some, refl, sym, ap, ◌∙◌, arith, get_or}
use Rattle.std.specs.Prelude.{slice_set, unwrap_or}
use Rattle.std.proofs.lemmas.List.Sums.{sum_by-set}
use Rattle.dpc_lists.specs.Lists.{changed}
use Rattle.dpc_model.specs.Words.{Word}
use Rattle.dpc_model.specs.declared.tuples.Tuple.{Tuple}
use Rattle.dpc_model.specs.declared.plans.SourceSpec.{SourceSpec}
use Rattle.script_rules.specs.Statements.{LogLine}
use Rattle.script_rules.specs.Drafts.{Draft, and_then, source_named, with_log}
use Rattle.script_draft.specs.Caches.{CountsEntries}

-- an element is set to what it becomes
pub set-changed : {X : Type 0} (f : X → X) (xs : List X) (i : ℕ) (old new : X) → i < length xs → old ≡ get_or xs i old → new ≡ f old → slice_set xs i new ≡ changed i f xs
set-changed f [] i old new low e k = absurd (omega (arith, low))
set-changed f (x ∷ xs) zero old new low e k = rw (k, e) refl
set-changed f (x ∷ xs) (suc i) old new low e k = ap (λ ys. x ∷ ys) (set-changed f xs i old new (omega (arith, low)) e k)

pub log-added : (d : Draft) (name : Word) (s : ℕ) (t : Tuple) (old new : SourceSpec) → s < length d.sources → old ≡ get_or d.sources s old → new ≡ with_log t old → source_named d name ≡ Some s →
    record d { sources = slice_set d.sources s new } ≡ and_then d (LogLine name t.stime t.vals)
log-added d name s t old new low e k named =
    ap (λ sources. record d { sources = sources }) (set-changed (with_log t) d.sources s old new low e k ∙ ap (λ o. changed (unwrap_or o 0) (with_log t) d.sources) (sym named))

-- the entries of all logs, where one log got k more
pub entries-log : (sources : List SourceSpec) (i n m k : ℕ) (old new : SourceSpec) → i < length sources → old ≡ get_or sources i old → length new.log ≡ length old.log + k → CountsEntries sources n → m ≡ n + k → m ≤ 200000 →
    CountsEntries (slice_set sources i new) m
entries-log sources i n m k old new low is more h all few =
    let sum = sum_by-set (λ (s : SourceSpec). length s.log) sources i new old low in
    let here : length (get_or sources i old).log ≡ length old.log = ap (λ (s : SourceSpec). length s.log) (sym is) in
    let count = h.count in
    record { count = omega (arith, sum, here, count, more, all); few = few }
