-- What is said in the end are the statements of the script, and their words are its lines.
use Rattle.std.proofs.Common.{◌≡◌, ℕ, zero, suc, ◌≤◌, Bool, true, false, List, [], ◌∷◌, ◌++◌, map, length, Option, Some, None, refl, sym, ap, ◌∙◌, arith}
use Rattle.std.specs.Prelude.{not, ◌&&◌, ◌||◌, ◌==◌, flat_map, codes, if◌then◌else◌}
use Rattle.std.proofs.lemmas.Bool.{or_parts, not-false, eqb-true, ne_eqb}
use Rattle.std.proofs.lemmas.List.{append-nil, map-append}
use Rattle.dpc_lists.specs.Lists.{is_nil}
use Rattle.dpc_model.specs.Words.{Word}
use Rattle.dpc_model.specs.ScriptText.{stream_name, wire_word, header_lines, source_lines, log_line, patience_lines, operator_line, frag_lines, client_line, directive_line, phase_lines, settle_lines, number_line, script_lines}
use Rattle.dpc_model.specs.declared.tuples.Tuple.{Tuple}
use Rattle.dpc_model.specs.declared.operators.Wire.{Wire}
use Rattle.dpc_model.specs.declared.operators.Wire.TheVariants.{Port, Op}
use Rattle.dpc_model.specs.declared.operators.OpSpec.{OpSpec}
use Rattle.dpc_model.specs.declared.plans.SourceSpec.{SourceSpec}
use Rattle.dpc_model.specs.declared.plans.FragSpec.{FragSpec}
use Rattle.dpc_model.specs.declared.plans.ClientSpec.{ClientSpec}
use Rattle.dpc_model.specs.declared.plans.Plan.{Plan}
use Rattle.dpc_model.specs.declared.plans.StreamRef.{StreamRef}
use Rattle.dpc_model.specs.declared.plans.StreamRef.TheVariants.{Source, Frag}
use Rattle.dpc_model.specs.declared.scripts.Directive.{Directive}
use Rattle.dpc_model.specs.declared.scripts.Directive.TheVariants.{Emit, Release, Cut, Heal, Lose, Repeat, Crash, Restart}
use Rattle.dpc_model.specs.declared.scripts.Phase.{Phase}
use Rattle.dpc_model.specs.declared.scripts.Script.{Script}
use Rattle.dpc_lists.proofs.Elements.{nil-of}
use Rattle.script_rules.specs.declared.reasons.Reason.{Reason}
use Rattle.script_rules.specs.declared.reasons.Reason.TheVariants.{PartMissing}
use Rattle.script_rules.specs.Statements.{Statement, HeaderLine, SourceLine, LogLine, FragmentLine, OperatorLine, BeginLine, TickLine}
use Rattle.script_rules.specs.Drafts.{Draft, is_wide, is_passing, has_header, plan_of, source_names, frag_names, op_names, script_of}
use Rattle.script_rules.specs.Reasons.{lacks_end}
use Rattle.script_rules.specs.Reading.{fault_of_end}
use Rattle.script_rules.specs.Checking.{header_statements, source_statements, patience_statements, operator_statement, frag_statements, client_statement, directive_statement, phase_statements, statements_of}
use Rattle.script_rules.proofs.Parts.{parts, said_of_sources, said_of_frags, said_of_clients, said_of_phases, said_at_last, said_from_begin}
use Rattle.script_rules.proofs.Headers.{passing_number}
use Rattle.script_rules.proofs.Recalled.{wire_name}
use Rattle.script_rules.proofs.Streams.{name_at}
use Rattle.script_rules.proofs.ReadForms.{few_of}
use Rattle.law_scripts.proofs.Scripts.{lines_from_begin, line_parts}
use Rattle.law_scripts.proofs.Saying.{words_said}
use Rattle.law_scripts.proofs.SaidSoFar.{op_said, frag_said, frag_said_at, client_said, heads, said_then}
use Rattle.law_scripts.proofs.FragsSaid.{all_ports}
use Rattle.law_scripts.proofs.Growing.{IsFlag}

-- ---- the header

abbrev with_header : Draft → List ℕ → Draft
with_header d h = record d { header = h }

-- a flag is the number of what it says
flag_number : (v p : ℕ) → v ≡ 3 → p ≤ 1 → passing_number (v == 2 || (true && p == 1)) ≡ p
flag_number v p three low =
    let not_two : (v == 2) ≡ false = ne_eqb v 2 (λ two. omega (arith, three, two)) in
    ap (λ t. passing_number (t || (p == 1))) not_two ∙ flag p low
  where
    flag : (p : ℕ) → p ≤ 1 → passing_number (p == 1) ≡ p
    flag zero low = refl
    flag (suc zero) low = refl
    flag (suc (suc p)) low = absurd (omega (arith, low))

header_of_four : (d : Draft) (v w dl e : ℕ) → (4 == (if v == 3 then 5 else 4)) ≡ true → heads 0 (v ∷ w ∷ dl ∷ e ∷ []) ≡ header_statements (plan_of (with_header d (v ∷ w ∷ dl ∷ e ∷ [])))
header_of_four d v w dl e whole =
    let first : List Statement → List Statement = λ l. HeaderLine 0 v ∷ HeaderLine 1 w ∷ HeaderLine 2 dl ∷ HeaderLine 3 e ∷ l in
    let last : ℕ = passing_number (is_passing (with_header d (v ∷ w ∷ dl ∷ e ∷ []))) in
    (elim (v == 3) as (λ t. (4 == (if t then 5 else 4)) ≡ true → first [] ≡ first (if t then HeaderLine 4 last ∷ [] else [])) [
      | true ↦ λ h. absurd cc
      | false ↦ λ h. refl
    ]) whole

header_of_five : (d : Draft) (v w dl e p : ℕ) → (5 == (if v == 3 then 5 else 4)) ≡ true → p ≤ 1 → heads 0 (v ∷ w ∷ dl ∷ e ∷ p ∷ []) ≡ header_statements (plan_of (with_header d (v ∷ w ∷ dl ∷ e ∷ p ∷ [])))
header_of_five d v w dl e p whole low =
    let first : List Statement → List Statement = λ l. HeaderLine 0 v ∷ HeaderLine 1 w ∷ HeaderLine 2 dl ∷ HeaderLine 3 e ∷ l in
    (elim (v == 3) as (λ t. (v == 3) ≡ t → (5 == (if t then 5 else 4)) ≡ true → first (HeaderLine 4 p ∷ []) ≡ first (if t then HeaderLine 4 (passing_number (v == 2 || (t && p == 1))) ∷ [] else [])) [
      | true ↦ λ three h. ap (λ n. first (HeaderLine 4 n ∷ [])) (sym (flag_number v p (eqb-true v 3 three) low))
      | false ↦ λ three h. absurd cc
    ]) refl whole

no_more : (wide : Bool) (n : ℕ) → (suc (suc (suc (suc (suc (suc n))))) == (if wide then 5 else 4)) ≡ true → ⊥
no_more true n h = let five = eqb-true (suc (suc (suc (suc (suc (suc n)))))) 5 h in omega (arith, five)
no_more false n h = let four = eqb-true (suc (suc (suc (suc (suc (suc n)))))) 4 h in omega (arith, four)

header_is : (d : Draft) (h : List ℕ) → has_header (with_header d h) ≡ true → IsFlag h → heads 0 h ≡ header_statements (plan_of (with_header d h))
header_is d [] whole flag = absurd (few_of (is_wide (with_header d [])) 0 whole (omega arith))
header_is d (v ∷ []) whole flag = absurd (few_of (v == 3) 1 whole (omega arith))
header_is d (v ∷ w ∷ []) whole flag = absurd (few_of (v == 3) 2 whole (omega arith))
header_is d (v ∷ w ∷ dl ∷ []) whole flag = absurd (few_of (v == 3) 3 whole (omega arith))
header_is d (v ∷ w ∷ dl ∷ e ∷ []) whole flag = header_of_four d v w dl e whole
header_is d (v ∷ w ∷ dl ∷ e ∷ p ∷ []) whole flag = header_of_five d v w dl e p whole flag
header_is d (v ∷ w ∷ dl ∷ e ∷ p ∷ q ∷ rest) whole flag = absurd (no_more (v == 3) (length rest) whole)

-- ---- fragments and clients

wire_words : (plan : Plan) (f : FragSpec) (ws : List Wire) → map (wire_name (map (stream_name plan) f.inputs) (op_names f)) ws ≡ map (wire_word plan f) ws
wire_words plan f [] = refl
wire_words plan f (Port p ∷ ws) = ap (λ l. wire_word plan f (Port p) ∷ l) (wire_words plan f ws)
wire_words plan f (Op i ∷ ws) = ap (λ l. wire_word plan f (Op i) ∷ l) (wire_words plan f ws)

ops_are : (plan : Plan) (f : FragSpec) (ops : List OpSpec) → map (op_said (map (stream_name plan) f.inputs) (op_names f)) ops ≡ map (operator_statement plan f) ops
ops_are plan f [] = refl
ops_are plan f (op ∷ ops) =
    ap (λ ws. OperatorLine op.name ws op.kind ∷ map (op_said (map (stream_name plan) f.inputs) (op_names f)) ops) (wire_words plan f op.reads)
    ∙ ap (λ l. operator_statement plan f op ∷ l) (ops_are plan f ops)

frags_are : (d : Draft) (fs : List FragSpec) → flat_map (frag_said (source_names d) (frag_names d)) fs ≡ flat_map (frag_statements (plan_of d)) fs
frags_are d [] = refl
frags_are d (f ∷ fs) =
    let rest = flat_map (frag_said (source_names d) (frag_names d)) fs in
    ap (λ ports. frag_said_at ports f ++ rest) (sym (all_ports d f.inputs))
    ∙ ap (λ l. (FragmentLine f.name f.replicas (map (stream_name (plan_of d)) f.inputs) ∷ (patience_statements f.delay ++ l)) ++ rest) (ops_are (plan_of d) f f.ops)
    ∙ ap (λ l. frag_statements (plan_of d) f ++ l) (frags_are d fs)

clients_are : (d : Draft) (cs : List ClientSpec) → map (client_said (source_names d) (frag_names d)) cs ≡ map (client_statement (plan_of d)) cs
clients_are d [] = refl
clients_are d (c ∷ cs) = rw (one c.input, clients_are d cs) refl
  where
    one : (s : StreamRef) → name_at (source_names d) (frag_names d) s ≡ stream_name (plan_of d) s
    one (Source s) = refl
    one (Frag f) = refl

-- ---- all that is said

abbrev before_begin : Draft → List Statement → List Statement
before_begin d rest =
    heads 0 d.header ++ (flat_map source_statements d.sources ++ (flat_map (frag_said (source_names d) (frag_names d)) d.frags ++ (map (client_said (source_names d) (frag_names d)) d.clients ++ rest)))

ended : (d : Draft) → fault_of_end d ≡ None → lacks_end d ≡ false
ended d h = of (lacks_end d) h
  where
    of : (b : Bool) → if◌then◌else◌ {A = Option Reason} b (Some PartMissing) None ≡ None → b ≡ false
    of true h = absurd cc
    of false h = refl

pub said_in_the_end : (d : Draft) → fault_of_end d ≡ None → (d.begun ≡ true → has_header d ≡ true) → IsFlag d.header → said_then d [] ≡ statements_of (script_of d)
said_in_the_end d end whole flag =
    let tests = or_parts (not d.begun) (not (is_nil d.directives)) (ended d end) in
    let begun : d.begun ≡ true = not-false d.begun tests.0 in
    let none : d.directives ≡ [] = nil-of d.directives (not-false (is_nil d.directives) tests.1) in
    let plan : Plan = plan_of d in
    let phases : List Statement = flat_map (phase_statements plan) d.phases in
    let run : List Statement = BeginLine ∷ (phases ++ said_at_last d.settle) in
    ap (λ b. before_begin d ((if b then BeginLine ∷ [] else []) ++ (phases ++ (map (directive_statement plan) d.directives ++ (said_at_last d.settle ++ []))))) begun
    ∙ ap (λ xs. before_begin d (BeginLine ∷ (phases ++ (map (directive_statement plan) xs ++ (said_at_last d.settle ++ []))))) none
    ∙ ap (λ l. before_begin d (BeginLine ∷ (phases ++ l))) (append-nil (said_at_last d.settle))
    ∙ ap (λ l. heads 0 d.header ++ (flat_map source_statements d.sources ++ (flat_map (frag_said (source_names d) (frag_names d)) d.frags ++ (l ++ run)))) (clients_are d d.clients)
    ∙ ap (λ l. heads 0 d.header ++ (flat_map source_statements d.sources ++ (l ++ (said_of_clients plan ++ run)))) (frags_are d d.frags)
    ∙ ap (λ l. l ++ (said_of_sources plan ++ (said_of_frags plan ++ (said_of_clients plan ++ run)))) (header_is d d.header (whole begun) flag)
    ∙ sym (parts (script_of d))

-- ---- the words of what is said

each_words : {X : Type 0} (f : X → Statement) (l : X → List Word) (xs : List X) → ((x : X) → words_said (f x) ≡ l x) → map words_said (map f xs) ≡ map l xs
each_words f l [] h = refl
each_words f l (x ∷ xs) h = rw (h x, each_words f l xs h) refl

flat_words : {X : Type 0} (f : X → List Statement) (l : X → List (List Word)) (xs : List X) → ((x : X) → map words_said (f x) ≡ l x) → map words_said (flat_map f xs) ≡ flat_map l xs
flat_words f l [] h = refl
flat_words f l (x ∷ xs) h = map-append words_said (f x) (flat_map f xs) ∙ rw (h x, flat_words f l xs h) refl

header_words : (plan : Plan) → map words_said (header_statements plan) ≡ header_lines plan
header_words plan =
    let first : List (List Word) → List (List Word) = λ l.
    number_line (codes "borealis") plan.version ∷ number_line (codes "width") plan.width ∷ number_line (codes "delay") plan.delay ∷ number_line (codes "end") plan.end ∷ l in
    elim (plan.version == 3) as (λ t. first (map words_said (if t then HeaderLine 4 (if plan.passing then 1 else 0) ∷ [] else [])) ≡ first (if t then (number_line (codes "passing") (if plan.passing then 1 else 0) ∷ []) else [])) [
      | true ↦ refl
      | false ↦ refl
    ]

source_words : (s : SourceSpec) → map words_said (source_statements s) ≡ source_lines s
source_words s = ap (λ l. words_said (SourceLine s.name s.columns) ∷ l) (each_words (λ (t : Tuple). LogLine s.name t.stime t.vals) (log_line s.name) s.log (λ t. refl))

patience_words : (o : Option ℕ) → map words_said (patience_statements o) ≡ patience_lines o
patience_words None = refl
patience_words (Some n) = refl

frag_words : (plan : Plan) (f : FragSpec) → map words_said (frag_statements plan f) ≡ frag_lines plan f
frag_words plan f =
    ap (λ l. words_said (FragmentLine f.name f.replicas (map (stream_name plan) f.inputs)) ∷ l)
    (map-append words_said (patience_statements f.delay) (map (operator_statement plan f) f.ops) ∙ rw (patience_words f.delay, each_words (operator_statement plan f) (operator_line plan f) f.ops (λ op. refl)) refl)

directive_words : (plan : Plan) (x : Directive) → words_said (directive_statement plan x) ≡ directive_line plan x
directive_words plan (Emit s t) = refl
directive_words plan (Release s t) = refl
directive_words plan (Cut a b) = refl
directive_words plan (Heal a b) = refl
directive_words plan (Lose a b) = refl
directive_words plan (Repeat a b) = refl
directive_words plan (Crash a) = refl
directive_words plan (Restart a) = refl

phase_words : (plan : Plan) (p : Phase) → map words_said (phase_statements plan p) ≡ phase_lines plan p
phase_words plan p =
    map-append words_said (map (directive_statement plan) p.directives) (TickLine p.now ∷ [])
    ∙ ap (λ l. l ++ number_line (codes "tick") p.now ∷ []) (each_words (directive_statement plan) (directive_line plan) p.directives (directive_words plan))

settle_words : (settle : Bool) → map words_said (said_at_last settle) ≡ settle_lines settle
settle_words true = refl
settle_words false = refl

pub statement_words : (s : Script) → map words_said (statements_of s) ≡ script_lines s
statement_words s =
    let plan = s.plan in
    let from_begin : List Statement = said_from_begin s in
    let from_clients : List Statement = said_of_clients plan ++ from_begin in
    let from_frags : List Statement = said_of_frags plan ++ from_clients in
    let from_sources : List Statement = said_of_sources plan ++ from_frags in
    let begin : map words_said from_begin ≡ lines_from_begin s =
    ap (λ l. (codes "begin" ∷ []) ∷ l) (map-append words_said (said_of_phases s) (said_at_last s.settle) ∙ rw (flat_words (phase_statements plan) (phase_lines plan) s.phases (phase_words plan), settle_words s.settle) refl) in
    let clients : map words_said from_clients ≡ map (client_line plan) plan.clients ++ lines_from_begin s =
    map-append words_said (said_of_clients plan) from_begin ∙ rw (each_words (client_statement plan) (client_line plan) plan.clients (λ c. refl), begin) refl in
    let frags : map words_said from_frags ≡ flat_map (frag_lines plan) plan.frags ++ (map (client_line plan) plan.clients ++ lines_from_begin s) =
    map-append words_said (said_of_frags plan) from_clients ∙ rw (flat_words (frag_statements plan) (frag_lines plan) plan.frags (frag_words plan), clients) refl in
    let sources : map words_said from_sources ≡ flat_map source_lines plan.sources ++ (flat_map (frag_lines plan) plan.frags ++ (map (client_line plan) plan.clients ++ lines_from_begin s)) =
    map-append words_said (said_of_sources plan) from_frags ∙ rw (flat_words source_statements source_lines plan.sources source_words, frags) refl in
    ap (map words_said) (parts s) ∙ map-append words_said (header_statements plan) from_sources
    ∙ ap (λ l. l ++ map words_said from_sources) (header_words plan) ∙ ap (λ l. header_lines plan ++ l) sources ∙ sym (line_parts s)
