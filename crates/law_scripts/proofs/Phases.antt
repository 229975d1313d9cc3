-- The lines of phases say these, whatever stands behind them.
use Rattle.std.proofs.Common.{◌≡◌, ℕ, ◌^◌, ◌<◌, ◌≤◌, Bool, true, false, List, [], ◌∷◌, ◌++◌, map, length, Some, refl, sym, ap, ◌∙◌, arith}
use Rattle.std.specs.Prelude.{◌&&◌, ◌||◌, nat_lt, flat_map, codes}
use Rattle.std.specs.Fmt.{decimal}
use Rattle.std.proofs.lemmas.Bool.{and_parts}
use Rattle.std.proofs.lemmas.List.Folds.{list_all-append}
use Rattle.dpc_lists.specs.Lists.{list_all}
use Rattle.dpc_model.specs.Words.{Word}
use Rattle.dpc_model.specs.ScriptText.{source_name, actor_name, directive_line, phase_lines, settle_lines, number_line}
use Rattle.dpc_model.specs.declared.plans.SourceSpec.{SourceSpec}
use Rattle.dpc_model.specs.declared.plans.FragSpec.{FragSpec}
use Rattle.dpc_model.specs.declared.plans.ClientSpec.{ClientSpec}
use Rattle.dpc_model.specs.declared.plans.Plan.{Plan}
use Rattle.dpc_model.specs.declared.scripts.Directive.{Directive}
use Rattle.dpc_model.specs.declared.scripts.Directive.TheVariants.{Emit, Release, Cut, Heal, Lose, Repeat, Crash, Restart}
use Rattle.dpc_model.specs.declared.scripts.Phase.{Phase}
use Rattle.script_rules.specs.declared.keywords.Keyword.{Keyword}
use Rattle.script_rules.specs.declared.keywords.Keyword.TheVariants as key
use Rattle.script_rules.specs.Spelling.{is_name, is_node_name, number}
use Rattle.script_rules.specs.Statements.{Statement, statement_of, BeginLine, SendLine, TickLine}
use Rattle.script_rules.specs.Keywords.{keywords, late_keywords, looked_up}
use Rattle.script_rules.specs.declared.places.Sort.TheVariants.{Name, Actor, Range}
use Rattle.script_rules.specs.Places.{must, is_between, places_of}
use Rattle.script_rules.specs.Reasons.{is_its_part}
use Rattle.script_rules.specs.Drafts.{Draft}
use Rattle.script_rules.specs.Checking.{directive_statement, phase_statements, top, is_directive_in_range, is_phase_in_range}
use Rattle.script_rules.specs.Laws.{is_actor, has_named_actors}
use Rattle.script_rules.proofs.Numerals.{number-decimal}
use Rattle.script_rules.proofs.Ranges.{between, top_is_low}
use Rattle.script_rules.proofs.Headers.{header_of, declared}
use Rattle.script_rules.proofs.Parts.{said_at_last}
use Rattle.law_scripts.proofs.Lines.{is_plain, is_first}
use Rattle.law_scripts.proofs.Fits.{Stands, Fits}
use Rattle.law_scripts.proofs.Says.{SaysLine, Says, joined}
use Rattle.law_scripts.proofs.Placing.{name_stands, actor_stands, number_stands}
use Rattle.law_scripts.proofs.Operators.{known_word}
use Rattle.law_scripts.proofs.Referring.{HasGoodNames, source_is_named, actor_is_named}
use Rattle.law_scripts.proofs.Parts.{whole_header}

module _ (plan : Plan) (names : HasGoodNames plan) (ends : plan.end ≤ top plan) (sources : List SourceSpec) (frags : List FragSpec) (clients : List ClientSpec) where
  -- behind `begin`, some phases and some directives without a tick
  abbrev pub running : List Phase → List Directive → Draft
  running phases directives = record (declared (header_of plan) sources frags clients) { begun = true; phases = phases; directives = directives }

  -- whatever the directives are by then
  abbrev BehindDirectives : List Phase → List (List Word) → List Statement → Type 0
  BehindDirectives phases lines ss = (done : List Directive) → Says (running phases done) lines ss

  abbrev BehindPhases : List (List Word) → List Statement → Type 0
  BehindPhases lines ss = (done : List Phase) → Says (running done []) lines ss

  -- ---- directives

  send_fits : (s t : ℕ) → nat_lt s (length plan.sources) ≡ true → is_between 1 plan.end t ≡ true → Fits (must Name ∷ must (Range 1 plan.end) ∷ []) (source_name plan s ∷ decimal t ∷ [])
  send_fits s t there h =
      let most = (between 1 plan.end t h).1 in
      let few = top_is_low plan in
      (name_stands (source_name plan s) (source_is_named plan s names there), (number_stands 1 plan.end t (omega (arith, most, few, ends)) h, refl))

  time_back : (t : ℕ) → is_between 1 plan.end t ≡ true → number (decimal t) ≡ t
  time_back t h =
      let most = (between 1 plan.end t h).1 in
      let few = top_is_low plan in
      number-decimal t (omega (arith, most, few, ends))

  actor_fits : (a : ℕ) → is_actor plan a ≡ true → Stands Actor (actor_name plan a)
  actor_fits a h =
      let w = actor_name plan a in
      let p = and_parts (is_plain w) (is_name w || is_node_name w) (actor_is_named plan a names h) in
      actor_stands w p.0 p.1

  link_fits : (a b : ℕ) → (is_actor plan a && is_actor plan b) ≡ true → Fits (must Actor ∷ must Actor ∷ []) (actor_name plan a ∷ actor_name plan b ∷ [])
  link_fits a b h =
      let p = and_parts (is_actor plan a) (is_actor plan b) h in
      (actor_fits a p.0, (actor_fits b p.1, refl))

  -- a directive's line, by its kind
  line_of : (phases : List Phase) (done : List Directive) (k : Keyword) (w : Word) (ws : List Word) (s : Statement) → looked_up keywords w ≡ Some k → looked_up (keywords ++ late_keywords) w ≡ Some k → is_first w ≡ true →
      Fits (places_of (running phases done) k) ws → is_its_part (running phases done) k ≡ true → statement_of k ws ≡ s → SaysLine (running phases done) w ws s
  line_of phases done k w ws s early late first fits part said =
      record { keyword = k; known = known_word plan.version w k early late; first = first; fits = fits; part = part; said = said }

  directives_say : (phases : List Phase) (xs : List Directive) (lines : List (List Word)) (ss : List Statement) → list_all (is_directive_in_range plan) xs ≡ true → list_all (has_named_actors plan) xs ≡ true →
      BehindDirectives phases lines ss → BehindDirectives phases (map (directive_line plan) xs ++ lines) (map (directive_statement plan) xs ++ ss)
  directives_say phases [] lines ss h k rest = rest
  directives_say phases (Emit s t ∷ xs) lines ss h k rest =
      let p = and_parts (is_between 1 plan.end t) (list_all (is_directive_in_range plan) xs) h in
      let q = and_parts (nat_lt s (length plan.sources)) (list_all (has_named_actors plan) xs) k in
      let more = directives_say phases xs lines ss p.1 q.1 rest in
      λ done. (line_of phases done key.Emit (codes "emit") _ _ refl refl refl (send_fits s t q.0 p.0) refl (ap (SendLine Emit (source_name plan s)) (time_back t p.0)), more _)
  directives_say phases (Release s t ∷ xs) lines ss h k rest =
      let p = and_parts (is_between 1 plan.end t) (list_all (is_directive_in_range plan) xs) h in
      let q = and_parts (nat_lt s (length plan.sources)) (list_all (has_named_actors plan) xs) k in
      let more = directives_say phases xs lines ss p.1 q.1 rest in
      λ done. (line_of phases done key.Release (codes "release") _ _ refl refl refl (send_fits s t q.0 p.0) refl (ap (SendLine Release (source_name plan s)) (time_back t p.0)), more _)
  directives_say phases (Cut a b ∷ xs) lines ss h k rest =
      let q = and_parts (is_actor plan a && is_actor plan b) (list_all (has_named_actors plan) xs) k in
      let more = directives_say phases xs lines ss h q.1 rest in
      λ done. (line_of phases done key.Cut (codes "cut") _ _ refl refl refl (link_fits a b q.0) refl refl, more _)
  directives_say phases (Heal a b ∷ xs) lines ss h k rest =
      let q = and_parts (is_actor plan a && is_actor plan b) (list_all (has_named_actors plan) xs) k in
      let more = directives_say phases xs lines ss h q.1 rest in
      λ done. (line_of phases done key.Heal (codes "heal") _ _ refl refl refl (link_fits a b q.0) refl refl, more _)
  directives_say phases (Lose a b ∷ xs) lines ss h k rest =
      let q = and_parts (is_actor plan a && is_actor plan b) (list_all (has_named_actors plan) xs) k in
      let more = directives_say phases xs lines ss h q.1 rest in
      λ done. (line_of phases done key.Lose (codes "lose") _ _ refl refl refl (link_fits a b q.0) refl refl, more _)
  directives_say phases (Repeat a b ∷ xs) lines ss h k rest =
      let q = and_parts (is_actor plan a && is_actor plan b) (list_all (has_named_actors plan) xs) k in
      let more = directives_say phases xs lines ss h q.1 rest in
      λ done. (line_of phases done key.Repeat (codes "repeat") _ _ refl refl refl (link_fits a b q.0) refl refl, more _)
  directives_say phases (Crash a ∷ xs) lines ss h k rest =
      let q = and_parts (is_actor plan a) (list_all (has_named_actors plan) xs) k in
      let more = directives_say phases xs lines ss h q.1 rest in
      λ done. (line_of phases done key.Crash (codes "crash") _ _ refl refl refl (actor_fits a q.0, refl) refl refl, more _)
  directives_say phases (Restart a ∷ xs) lines ss h k rest =
      let q = and_parts (is_actor plan a) (list_all (has_named_actors plan) xs) k in
      let more = directives_say phases xs lines ss h q.1 rest in
      λ done. (line_of phases done key.Restart (codes "restart") _ _ refl refl refl (actor_fits a q.0, refl) refl refl, more _)

  -- ---- phases

  tick_line_says : (phases : List Phase) (done : List Directive) (now : ℕ) → is_between 0 (10 ^ 12) now ≡ true → SaysLine (running phases done) (codes "tick") (decimal now ∷ []) (TickLine now)
  tick_line_says phases done now h =
      let most = (between 0 (10 ^ 12) now h).1 in
      let low : now < 2 ^ 64 = omega (arith, most) in
      line_of phases done key.Tick (codes "tick") _ _ refl refl refl (number_stands 0 (10 ^ 12) now low h, refl) refl (ap TickLine (number-decimal now low))

  phases_say : (ps : List Phase) (lines : List (List Word)) (ss : List Statement) → list_all (is_phase_in_range plan) ps ≡ true → list_all (has_named_actors plan) (flat_map (λ (p : Phase). p.directives) ps) ≡ true → BehindPhases lines ss →
      BehindPhases (flat_map (phase_lines plan) ps ++ lines) (flat_map (phase_statements plan) ps ++ ss)
  phases_say [] lines ss h k rest = rest
  phases_say (p ∷ ps) lines ss h k rest =
      let r = and_parts (is_phase_in_range plan p) (list_all (is_phase_in_range plan) ps) h in
      let here = and_parts (list_all (is_directive_in_range plan) p.directives) (is_between 0 (10 ^ 12) p.now) r.0 in
      let named = and_parts (list_all (has_named_actors plan) p.directives) (list_all (has_named_actors plan) (flat_map (λ (x : Phase). x.directives) ps)) (sym (list_all-append (has_named_actors plan) p.directives (flat_map (λ (x : Phase). x.directives) ps)) ∙ k) in
      let more_lines : List (List Word) = flat_map (phase_lines plan) ps ++ lines in
      let more_said : List Statement = flat_map (phase_statements plan) ps ++ ss in
      let more : BehindPhases more_lines more_said = phases_say ps lines ss r.1 named.1 rest in
      let tick_line : List (List Word) = number_line (codes "tick") p.now ∷ [] in
      λ done. joined (running done []) (phase_lines plan p) (flat_map (phase_lines plan) ps) lines (phase_statements plan p) (flat_map (phase_statements plan) ps) ss
      (joined (running done []) (map (directive_line plan) p.directives) tick_line more_lines (map (directive_statement plan) p.directives) (TickLine p.now ∷ []) more_said
      (directives_say done p.directives (tick_line ++ more_lines) (TickLine p.now ∷ more_said) here.0 named.0 (λ xs. (tick_line_says done xs p.now here.1, more _)) []))

  settle_says : (settle : Bool) → BehindPhases (settle_lines settle) (said_at_last settle)
  settle_says true done = (line_of done [] key.Settle (codes "settle") _ _ refl refl refl refl refl refl, refl)
  settle_says false done = refl

  -- from `begin` on
  pub run_says : (ps : List Phase) (settle : Bool) → list_all (is_phase_in_range plan) ps ≡ true → list_all (has_named_actors plan) (flat_map (λ (p : Phase). p.directives) ps) ≡ true →
      Says (declared (header_of plan) sources frags clients) ((codes "begin" ∷ []) ∷ (flat_map (phase_lines plan) ps ++ settle_lines settle)) (BeginLine ∷ (flat_map (phase_statements plan) ps ++ said_at_last settle))
  run_says ps settle h k = (
    record {
      keyword = key.Begin;
      known = known_word plan.version (codes "begin") key.Begin refl refl;
      first = refl;
      fits = refl;
      part = whole_header plan sources frags clients;
      said = refl;
    },
    phases_say ps (settle_lines settle) (said_at_last settle) h k (settle_says settle) [],
  )
