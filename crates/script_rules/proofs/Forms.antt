-- The form of a checked script, and the actors of every plan in order of number.
use Rattle.std.proofs.Common.{ℕ, ◌+◌, Bool, true, false, cond, List, [], ◌∷◌, ◌++◌, map, subst, ap, ◌∙◌, arith, ◌≡◌}
use Rattle.std.specs.List.{filter, enumerate_from}
use Rattle.dpc_model.specs.Actors.{roles_of}
use Rattle.dpc_model.specs.declared.actors.Role.{Role}
use Rattle.dpc_model.specs.declared.scripts.Script.{Script}
use Rattle.dpc_lists.specs.Lists.{IsRising}
use Rattle.dpc_model.proofs.Numbers.{rising-lower}
use Rattle.script_rules.specs.Drafts.{nothing_yet}
use Rattle.script_rules.specs.Statements.{Statement}
use Rattle.script_rules.specs.Checking.{header_statements, IsChecked}
use Rattle.script_rules.specs.Laws.{CheckedHasForm, ActorsAreInOrder}
use Rattle.script_rules.proofs.Passing.{Passes, passes_first, passes_then, all_said, checked_passes}
use Rattle.script_rules.proofs.Parts.{said_of_sources, said_of_frags, said_of_clients, said_from_begin, parts}
use Rattle.script_rules.proofs.Ranges.{ranges, header_ranges, top_is_low, frag_sizes}
use Rattle.script_rules.proofs.Headers.{few_buckets, header_of, header_said}
use Rattle.script_rules.proofs.AllSources.{sources_fit}
use Rattle.script_rules.proofs.Distinct.{with_sources, names_differ, parts_are_there}
use Rattle.script_rules.proofs.Sound.{sound_plan, reads_are_there}
use Rattle.script_rules.proofs.Clocks.{checked_clocks}
use Rattle.script_rules.proofs.Once.{all_once}

-- what passes, part by part
pub record PassesParts (s : Script) : Type 0 where
  pub header : Passes nothing_yet (header_statements s.plan)
  pub sources : Passes (all_said nothing_yet (header_statements s.plan)) (said_of_sources s.plan)
  pub frags : Passes (all_said (all_said nothing_yet (header_statements s.plan)) (said_of_sources s.plan)) (said_of_frags s.plan)
  pub clients : Passes (all_said (all_said (all_said nothing_yet (header_statements s.plan)) (said_of_sources s.plan)) (said_of_frags s.plan)) (said_of_clients s.plan)
  pub from_begin : Passes (all_said (all_said (all_said (all_said nothing_yet (header_statements s.plan)) (said_of_sources s.plan)) (said_of_frags s.plan)) (said_of_clients s.plan)) (said_from_begin s)

pub passes_parts : (s : Script) → IsChecked s → PassesParts s
passes_parts s c =
    let from_begin : List Statement = said_from_begin s in
    let from_clients : List Statement = said_of_clients s.plan ++ from_begin in
    let from_frags : List Statement = said_of_frags s.plan ++ from_clients in
    let from_sources : List Statement = said_of_sources s.plan ++ from_frags in
    let header : List Statement = header_statements s.plan in
    let all : Passes nothing_yet (header ++ from_sources) = subst (Passes nothing_yet) (parts s) (checked_passes s c) in
    let a = passes_then nothing_yet header from_sources all in
    let b = passes_then (all_said nothing_yet header) (said_of_sources s.plan) from_frags a in
    let e = passes_then (all_said (all_said nothing_yet header) (said_of_sources s.plan)) (said_of_frags s.plan) from_clients b in
    record {
      header = passes_first nothing_yet header from_sources all;
      sources = passes_first (all_said nothing_yet header) (said_of_sources s.plan) from_frags a;
      frags = passes_first (all_said (all_said nothing_yet header) (said_of_sources s.plan)) (said_of_frags s.plan) from_clients b;
      clients = passes_first (all_said (all_said (all_said nothing_yet header) (said_of_sources s.plan)) (said_of_frags s.plan)) (said_of_clients s.plan) from_begin e;
      from_begin = passes_then (all_said (all_said (all_said nothing_yet header) (said_of_sources s.plan)) (said_of_frags s.plan)) (said_of_clients s.plan) from_begin e;
    }

pub checked_has_form : CheckedHasForm
checked_has_form s c =
    let r = ranges s c.in_range in
    let h = header_ranges s.plan r.header in
    let p = passes_parts s c in
    let clocks = checked_clocks s c in
    let low = top_is_low s.plan in
    let sources = sources_fit (header_of s.plan) [] s.plan.sources (subst (λ d. Passes d (said_of_sources s.plan)) (header_said s.plan) p.sources) (omega arith) in
    let stands : all_said (all_said nothing_yet (header_statements s.plan)) (said_of_sources s.plan) ≡ with_sources s = ap (λ d. all_said d (said_of_sources s.plan)) (header_said s.plan) ∙ sources.said in
    let frags : Passes (with_sources s) (said_of_frags s.plan) = subst (λ d. Passes d (said_of_frags s.plan)) stands p.frags in
    let clients : Passes (all_said (with_sources s) (said_of_frags s.plan)) (said_of_clients s.plan) = subst (λ d. Passes (all_said d (said_of_frags s.plan)) (said_of_clients s.plan)) stands p.clients in
    let reads = reads_are_there s c r sources frags clients in
    let there = parts_are_there s c sources in
    let high = h.ends in
    record {
      width = h.width;
      whole = h.whole;
      begins = h.begins;
      ends = omega (arith, low, high);
      few_buckets = few_buckets s.plan p.header;
      sizes = frag_sizes s.plan s.plan.frags r.frags;
      inputs = reads.inputs;
      clients = reads.clients;
      sound = sound_plan s c r sources frags;
      logs = sources.fit;
      few_entries = sources.few;
      once = all_once s.plan _ s.plan.frags p.frags;
      distinct = names_differ s c sources;
      some_source = there.source;
      some_frag = there.frag;
      some_client = there.client;
      clocks = clocks.0;
      few_phases = clocks.1;
    }

-- ---- actors in order

numbers_rise : (test : Role → Bool) (k : ℕ) (roles : List Role) → IsRising k (map (λ (x : ℕ × Role). x.0) (filter (λ (x : ℕ × Role). test x.1) (enumerate_from k roles)))
numbers_rise test k [] = tt
numbers_rise test k (role ∷ roles) =
    elim (test role) as (λ b. IsRising k (map (λ (x : ℕ × Role). x.0) (cond b ((k, role) ∷ filter (λ (x : ℕ × Role). test x.1) (enumerate_from (k + 1) roles)) (filter (λ (x : ℕ × Role). test x.1) (enumerate_from (k + 1) roles))))) [
      | true ↦ (omega arith, numbers_rise test (k + 1) roles)
      | false ↦ rising-lower k (k + 1) _ (omega arith) (numbers_rise test (k + 1) roles)
    ]

pub actors_are_in_order : ActorsAreInOrder
actors_are_in_order test plan = numbers_rise test 0 (roles_of plan)
