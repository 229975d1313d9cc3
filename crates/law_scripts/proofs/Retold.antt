-- What a text says passes every test in the order of its canonical text too.
use Rattle.std.proofs.Common.{◌≡◌, ℕ, ◌+◌, ◌≤◌, true, false, List, [], ◌∷◌, ◌++◌, map, length, Option, Some, None, refl, sym, ap, subst, ◌∙◌, arith, inl, inr, ◌⊎◌}
use Rattle.std.specs.Prelude.{ℤ, nat_lt, flat_map}
use Rattle.std.proofs.lemmas.Bool.{not-false, ltb-true}
use Rattle.std.proofs.lemmas.List.{append-nil, append_assoc, length-append}
use Rattle.dpc_model.specs.Words.{Word}
use Rattle.dpc_model.specs.declared.plans.SourceSpec.{SourceSpec}
use Rattle.dpc_lists.proofs.Elements.{length-changed, nil-of}
use Rattle.script_rules.specs.declared.reasons.PlanFault.{PlanFault}
use Rattle.script_rules.specs.declared.keywords.Keyword.{Keyword}
use Rattle.script_rules.specs.declared.keywords.Keyword.TheVariants as key
use Rattle.script_rules.specs.Statements.{Statement, statement_of, word, number_at, HeaderLine, SourceLine, LogLine, FragmentLine, PatienceLine, OperatorLine, ClientLine, BeginLine, SendLine, LinkLine, NodeLine, TickLine, SettleLine}
use Rattle.script_rules.specs.Drafts.{Draft, nothing_yet, plan_of, source_names, frag_names, and_then}
use Rattle.script_rules.specs.Checking.{source_statements, phase_statements, directive_statement, check_from}
use Rattle.script_rules.proofs.Apart.{twice-first}
use Rattle.script_rules.proofs.Passing.{IsFine, Passes, passes_first, all_said, said-append, fine_tests}
use Rattle.script_rules.proofs.Parts.{said_at_last}
use Rattle.script_rules.proofs.Headers.{declared}
use Rattle.script_rules.proofs.Sources.{names_in}
use Rattle.script_rules.proofs.Formed.{IsPlaced, is_declaring}
use Rattle.script_rules.proofs.Fitted.{IsFitted, fitted}
use Rattle.law_scripts.proofs.SourcesPass.{passes_both, MayFollow, sources_pass}
use Rattle.law_scripts.proofs.SaidSoFar.{frag_said, client_said, heads, begun_said, said_then, Grows, as_declared, last_name}
use Rattle.law_scripts.proofs.Growing.{IsUnderWay, IsLine, early_kept, flag_kept, line_grows}

-- ---- what passes has no fault

pub no_fault : (n : ℕ) (d : Draft) (ss : List Statement) → Passes d ss → check_from n d ss ≡ None
no_fault n d [] h = refl
no_fault n d (s ∷ ss) h =
    ap (λ o. elim o as (λ o. Option PlanFault) [ None ↦ check_from (n + 1) (and_then d s) ss | Some r ↦ Some (record { line = n; reason = r }) ]) (fine_tests d s h.0)
    ∙ no_fault (n + 1) (and_then d s) ss h.1

-- ---- what is said so far, and then one more

-- some parts, and the rest behind them
abbrev nested : List (List Statement) → List Statement → List Statement
nested [] rest = rest
nested (part ∷ more) rest = part ++ nested more rest

nested_end : (ls : List (List Statement)) (rest : List Statement) → nested ls rest ≡ nested ls [] ++ rest
nested_end [] rest = refl
nested_end (part ∷ more) rest = ap (λ l. part ++ l) (nested_end more rest) ∙ sym (append_assoc part (nested more []) rest)

abbrev parts_of : Draft → List (List Statement)
parts_of d =
    heads 0 d.header ∷ flat_map source_statements d.sources ∷ flat_map (frag_said (source_names d) (frag_names d)) d.frags ∷ map (client_said (source_names d) (frag_names d)) d.clients
    ∷ begun_said d.begun ∷ flat_map (phase_statements (plan_of d)) d.phases ∷ map (directive_statement (plan_of d)) d.directives ∷ said_at_last d.settle ∷ []

said_last : (d : Draft) (rest : List Statement) → said_then d rest ≡ said_then d [] ++ rest
said_last d rest = nested_end (parts_of d) rest

-- ---- the draft, told again

-- the canonical text of what was said so far passes every test, and says the same
pub record IsRetold (d : Draft) : Type 0 where
  pub passes : Passes nothing_yet (said_then d [])
  pub same : all_said nothing_yet (said_then d []) ≡ d

pub nothing_retold : IsRetold nothing_yet
nothing_retold = record { passes = tt; same = refl }

-- a statement that is said at the end
retold_behind : (d : Draft) (s : Statement) → Grows d s → IsFine d s → IsRetold d → IsRetold (and_then d s)
retold_behind d s grows fine r =
    let before : List Statement = said_then d [] in
    let whole : said_then (and_then d s) [] ≡ before ++ s ∷ [] = grows [] ∙ said_last d (s ∷ []) in
    let last : Passes (all_said nothing_yet before) (s ∷ []) = subst (λ e. Passes e (s ∷ [])) (sym r.same) (fine, tt) in
    record {
      passes = subst (Passes nothing_yet) (sym whole) (passes_both nothing_yet before (s ∷ []) r.passes last);
      same = ap (all_said nothing_yet) whole ∙ said-append nothing_yet before (s ∷ []) ∙ ap (λ e. and_then e s) r.same;
    }

-- ---- sources alone

heads_said : (g h : List ℕ) (i : ℕ) → all_said (declared g [] [] []) (heads i h) ≡ declared (g ++ h) [] [] []
heads_said g [] i = ap (λ l. declared l [] [] []) (sym (append-nil g))
heads_said g (n ∷ h) i = heads_said (g ++ n ∷ []) h (i + 1) ∙ ap (λ l. declared l [] [] []) (append_assoc g (n ∷ []) h)

sources_alone : (h : List ℕ) (ss : List SourceSpec) → said_then (declared h ss [] []) [] ≡ heads 0 h ++ flat_map source_statements ss
sources_alone h ss = ap (λ l. heads 0 h ++ l) (append-nil (flat_map source_statements ss))

follows_header : (h : List ℕ) (ss : List SourceSpec) → IsFitted (declared h ss [] []) → length ss ≤ 16 → MayFollow h [] ss
follows_header h ss k few =
    let all : List Word = names_in ss in
    record {
      names = twice-first all [] (twice-first (all ++ []) [] (twice-first ((all ++ []) ++ []) [] k.form.distinct));
      fit = k.form.sources.fit;
      ordered = k.form.sources.ordered;
      few = k.form.sources.few;
      room = few;
    }

-- where the header is told again, so are the sources
retold_sources : (h : List ℕ) (ss : List SourceSpec) → Passes nothing_yet (heads 0 h) → IsFitted (declared h ss [] []) → length ss ≤ 16 → IsRetold (declared h ss [] [])
retold_sources h ss header k few =
    let said : List Statement = flat_map source_statements ss in
    let stands : all_said nothing_yet (heads 0 h) ≡ declared h [] [] [] = heads_said [] h 0 in
    let heard = sources_pass h [] ss (follows_header h ss k few) in
    let whole = sources_alone h ss in
    record {
      passes = subst (Passes nothing_yet) (sym whole) (passes_both nothing_yet (heads 0 h) said header (subst (λ e. Passes e said) (sym stands) heard.passes));
      same = ap (all_said nothing_yet) whole ∙ said-append nothing_yet (heads 0 h) said ∙ ap (λ e. all_said e said) stands ∙ heard.said;
    }

-- ---- a log line, which is said in the middle

-- a script that declares sources alone
only_sources : (d : Draft) → (IsUnderWay (last_name d.sources) d) → IsPlaced d (LogLine [] 0 []) → d ≡ declared d.header d.sources [] []
only_sources d u p =
    let early = u.early (is_declaring d p.0).1 in
    as_declared d early ∙ ap (λ l. declared d.header d.sources d.frags l) (nil-of d.clients p.2) ∙ ap (λ l. declared d.header d.sources l []) (nil-of d.frags p.1)

abbrev LogRetold : Word → ℕ → List ℤ → Draft → Type 0
LogRetold source time vals d = IsFitted (and_then d (LogLine source time vals)) → length d.sources ≤ 16 → IsRetold d → IsRetold (and_then d (LogLine source time vals))

retold_log : (source : Word) (time : ℕ) (vals : List ℤ) (h : List ℕ) (ss : List SourceSpec) → LogRetold source time vals (declared h ss [] [])
retold_log source time vals h ss k few r =
    let e : Draft = and_then (declared h ss [] []) (LogLine source time vals) in
    let header : Passes nothing_yet (heads 0 h) = passes_first nothing_yet (heads 0 h) (flat_map source_statements ss) (subst (Passes nothing_yet) (sources_alone h ss) r.passes) in
    let many : length e.sources ≡ length ss = length-changed _ _ ss in
    retold_sources h e.sources header k (omega (arith, many, few))

-- ---- every line

-- at most 16 sources
still_few : (d : Draft) (s : Statement) → IsFine d s → length d.sources ≤ 16 → length (and_then d s).sources ≤ 16
still_few d (HeaderLine place number) fine few = few
still_few d (SourceLine name columns) fine few =
    let room = ltb-true (length d.sources) 16 (not-false (nat_lt (length d.sources) 16) fine.limit) in
    let more : length (and_then d (SourceLine name columns)).sources ≡ length d.sources + 1 = length-append d.sources _ in
    omega (arith, room, more)
still_few d (LogLine source time vals) fine few =
    let many : length (and_then d (LogLine source time vals)).sources ≡ length d.sources = length-changed _ _ d.sources in
    omega (arith, many, few)
still_few d (FragmentLine name replicas streams) fine few = few
still_few d (PatienceLine delay) fine few = few
still_few d (OperatorLine name inputs kind) fine few = few
still_few d (ClientLine name stream) fine few = few
still_few d BeginLine fine few = few
still_few d (SendLine make source time) fine few = few
still_few d (LinkLine make a b) fine few = few
still_few d (NodeLine true node) fine few = few
still_few d (NodeLine false node) fine few = few
still_few d (TickLine now) fine few = few
still_few d SettleLine fine few = few

-- what every line of a text keeps
pub record IsTold (d : Draft) : Type 0 where
  pub state : IsUnderWay (last_name d.sources) d
  pub few : length d.sources ≤ 16
  pub retold : IsRetold d

pub nothing_told : IsUnderWay [] nothing_yet → IsTold nothing_yet
nothing_told u = record { state = u; few = omega arith; retold = nothing_retold }

log_or_not : (k : Keyword) → (k ≡ key.Log) ⊎ (k ≡ key.Log → ⊥)
log_or_not (key.Header place) = inr (λ e. absurd cc)
log_or_not key.Source = inr (λ e. absurd cc)
log_or_not key.Log = inl refl
log_or_not key.Fragment = inr (λ e. absurd cc)
log_or_not key.Patience = inr (λ e. absurd cc)
log_or_not key.Filter = inr (λ e. absurd cc)
log_or_not key.Map = inr (λ e. absurd cc)
log_or_not key.Union = inr (λ e. absurd cc)
log_or_not key.Join = inr (λ e. absurd cc)
log_or_not key.Aggregate = inr (λ e. absurd cc)
log_or_not key.Client = inr (λ e. absurd cc)
log_or_not key.Begin = inr (λ e. absurd cc)
log_or_not key.Emit = inr (λ e. absurd cc)
log_or_not key.Release = inr (λ e. absurd cc)
log_or_not key.Cut = inr (λ e. absurd cc)
log_or_not key.Heal = inr (λ e. absurd cc)
log_or_not key.Lose = inr (λ e. absurd cc)
log_or_not key.Repeat = inr (λ e. absurd cc)
log_or_not key.Crash = inr (λ e. absurd cc)
log_or_not key.Restart = inr (λ e. absurd cc)
log_or_not key.Tick = inr (λ e. absurd cc)
log_or_not key.Settle = inr (λ e. absurd cc)

-- a line is told again, a log line with its source and any other one at the end
line_retold : (d : Draft) (k : Keyword) (ws : List Word) → (k ≡ key.Log) ⊎ (k ≡ key.Log → ⊥) → IsLine (last_name d.sources) d k ws → IsTold d → IsRetold (and_then d (statement_of k ws))
line_retold d k ws (inl is) l t =
    let s : Statement = LogLine (word ws 0) (number_at ws 1) _ in
    let says : statement_of k ws ≡ s = ap (λ k. statement_of k ws) is in
    let placed : IsPlaced d s = subst (IsPlaced d) says l.placed in
    let next : IsFitted (and_then d s) = subst (λ s. IsFitted (and_then d s)) says (fitted d (statement_of k ws) l.placed l.fine l.state.fitted) in
    let bare = only_sources d t.state placed in
    subst (λ s. IsRetold (and_then d s)) (sym says) (subst (LogRetold (word ws 0) (number_at ws 1) _) (sym bare) (retold_log (word ws 0) (number_at ws 1) _ d.header d.sources) next t.few t.retold)
line_retold d k ws (inr other) l t = retold_behind d (statement_of k ws) (line_grows (last_name d.sources) d k ws l (λ is. absurd (other is))) l.fine t.retold

pub line_told : (d : Draft) (k : Keyword) (ws : List Word) → IsLine (last_name d.sources) d k ws → IsTold d → IsTold (and_then d (statement_of k ws))
line_told d k ws l t =
    let s : Statement = statement_of k ws in
    let u = t.state in
    record {
      state = record {
        fitted = fitted d s l.placed l.fine u.fitted;
        early = early_kept d s l.placed u.early;
        flag = flag_kept d k ws l.fills l.part u.flag;
        named = refl;
      };
      few = still_few d s l.fine t.few;
      retold = line_retold d k ws (log_or_not k) l t;
    }
