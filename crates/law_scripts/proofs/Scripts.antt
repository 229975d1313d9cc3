-- The lines of a script in range that refers to names say what the script says.
use Rattle.std.proofs.Common.{◌≡◌, true, List, [], ◌∷◌, ◌++◌, map, sym, subst, ◌∙◌}
use Rattle.std.specs.Prelude.{◌&&◌, flat_map, codes}
use Rattle.std.proofs.lemmas.Bool.{and_parts}
use Rattle.std.proofs.lemmas.List.{append_assoc}
use Rattle.dpc_lists.specs.Lists.{list_all}
use Rattle.dpc_model.specs.Words.{Word}
use Rattle.dpc_model.specs.ScriptText.{header_lines, source_lines, frag_lines, client_line, phase_lines, settle_lines, script_lines}
use Rattle.dpc_model.specs.declared.plans.ClientSpec.{ClientSpec}
use Rattle.dpc_model.specs.declared.scripts.Phase.{Phase}
use Rattle.dpc_model.specs.declared.scripts.Script.{Script}
use Rattle.script_rules.specs.Statements.{Statement}
use Rattle.script_rules.specs.Drafts.{nothing_yet}
use Rattle.script_rules.specs.Checking.{is_in_range, header_statements, statements_of}
use Rattle.script_rules.specs.Facts.{is_there}
use Rattle.script_rules.specs.Laws.{has_named_actors, refers_to_names}
use Rattle.script_rules.proofs.Ranges.{ranges, header_ranges}
use Rattle.script_rules.proofs.Parts.{parts, said_of_sources, said_of_frags, said_of_clients, said_from_begin}
use Rattle.law_scripts.proofs.Says.{Says}
use Rattle.law_scripts.proofs.Referring.{good_names}
use Rattle.law_scripts.proofs.Parts.{header_says, sources_say}
use Rattle.law_scripts.proofs.Fragments.{refers, frags_say, clients_say}
use Rattle.law_scripts.proofs.Phases.{run_says}

-- the lines from `begin` on
abbrev pub lines_from_begin : Script → List (List Word)
lines_from_begin s = (codes "begin" ∷ []) ∷ (flat_map (phase_lines s.plan) s.phases ++ settle_lines s.settle)

-- the lines, part by part
pub line_parts : (s : Script) →
    script_lines s ≡ header_lines s.plan ++ (flat_map source_lines s.plan.sources ++ (flat_map (frag_lines s.plan) s.plan.frags ++ (map (client_line s.plan) s.plan.clients ++ lines_from_begin s)))
line_parts s =
    let header = header_lines s.plan in
    let sources = flat_map source_lines s.plan.sources in
    let frags = flat_map (frag_lines s.plan) s.plan.frags in
    let clients = map (client_line s.plan) s.plan.clients in
    append_assoc (((header ++ sources) ++ frags) ++ clients) ((codes "begin" ∷ []) ∷ flat_map (phase_lines s.plan) s.phases) (settle_lines s.settle)
    ∙ append_assoc ((header ++ sources) ++ frags) clients (lines_from_begin s) ∙ append_assoc (header ++ sources) frags (clients ++ lines_from_begin s)
    ∙ append_assoc header sources (frags ++ (clients ++ lines_from_begin s))

-- what a script refers to, part by part
record Refers (s : Script) : Type 0 where
  frags : list_all (refers s.plan) s.plan.frags ≡ true
  clients : list_all (λ (c : ClientSpec). is_there s.plan c.input) s.plan.clients ≡ true
  directives : list_all (has_named_actors s.plan) (flat_map (λ (p : Phase). p.directives) s.phases) ≡ true

refer_parts : (s : Script) → refers_to_names s ≡ true → Refers s
refer_parts s h =
    let frags = list_all (refers s.plan) s.plan.frags in
    let clients = list_all (λ (c : ClientSpec). is_there s.plan c.input) s.plan.clients in
    let directives = list_all (has_named_actors s.plan) (flat_map (λ (p : Phase). p.directives) s.phases) in
    let a = and_parts (frags && clients) directives h in
    let b = and_parts frags clients a.0 in
    record { frags = b.0; clients = b.1; directives = a.1 }

pub script_says : (s : Script) → is_in_range s ≡ true → refers_to_names s ≡ true → Says nothing_yet (script_lines s) (statements_of s)
script_says s h k =
    let plan = s.plan in
    let r = ranges s h in
    let names = good_names s r in
    let refer = refer_parts s k in
    let ends = (header_ranges plan r.header).ends in
    let from_clients_lines : List (List Word) = map (client_line plan) plan.clients ++ lines_from_begin s in
    let from_clients : List Statement = said_of_clients plan ++ said_from_begin s in
    let from_frags_lines : List (List Word) = flat_map (frag_lines plan) plan.frags ++ from_clients_lines in
    let from_frags : List Statement = said_of_frags plan ++ from_clients in
    let from_sources_lines : List (List Word) = flat_map source_lines plan.sources ++ from_frags_lines in
    let from_sources : List Statement = said_of_sources plan ++ from_frags in
    let whole : Says nothing_yet (header_lines plan ++ from_sources_lines) (header_statements plan ++ from_sources) =
    header_says plan from_sources_lines from_sources r.header
    (sources_say plan plan.sources from_frags_lines from_frags r.sources (λ sources.
    frags_say plan names sources plan.frags from_clients_lines from_clients r.frags refer.frags (λ frags.
    clients_say plan names sources frags plan.clients (lines_from_begin s) (said_from_begin s) r.clients refer.clients (λ clients.
    run_says plan names ends sources frags clients s.phases s.settle r.phases refer.directives) []) []) []) in
    subst (λ lines. Says nothing_yet lines (statements_of s)) (sym (line_parts s)) (subst (Says nothing_yet (header_lines plan ++ from_sources_lines)) (sym (parts s)) whole)
