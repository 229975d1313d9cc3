-- The plan of a checked script is sound.
use Rattle.std.proofs.Common.{◌≡◌, true, List, [], ◌++◌, map, refl, arith}
use Rattle.std.specs.Prelude.{flat_map, length}
use Rattle.dpc_lists.specs.Lists.{list_all}
use Rattle.dpc_model.specs.Words.{Word}
use Rattle.dpc_model.specs.Fragments.{IsSound}
use Rattle.dpc_model.specs.declared.plans.FragSpec.{FragSpec}
use Rattle.dpc_model.specs.declared.plans.ClientSpec.{ClientSpec}
use Rattle.dpc_model.specs.declared.plans.Plan.{Plan}
use Rattle.dpc_model.specs.declared.scripts.Script.{Script}
use Rattle.script_rules.specs.Drafts.{op_names}
use Rattle.script_rules.specs.Checking.{IsChecked}
use Rattle.script_rules.specs.Facts.{is_there}
use Rattle.script_rules.proofs.Called.{named_sources, named}
use Rattle.script_rules.proofs.Apart.{twice-first}
use Rattle.script_rules.proofs.Names.{nobody_among, source_names_in_range, frag_names_in_range}
use Rattle.script_rules.proofs.Passing.{Passes, all_said}
use Rattle.script_rules.proofs.Parts.{said_of_frags, said_of_clients}
use Rattle.script_rules.proofs.Ranges.{HasRanges, sound_frags}
use Rattle.script_rules.proofs.Headers.{header_of}
use Rattle.script_rules.proofs.AllSources.{SourcesFit, logs_in_order}
use Rattle.script_rules.proofs.Distinct.{with_sources, names_differ}
use Rattle.script_rules.proofs.Inputs.{HasStreamNames, KnowsStreams, frags_read, read_before}
use Rattle.script_rules.proofs.There.{all_there, knows_all, clients_there}

pub stream_names : (s : Script) → IsChecked s → HasRanges s → SourcesFit (header_of s.plan) [] s.plan.sources → HasStreamNames s.plan
stream_names s c r sources =
    let streams : List Word = named_sources s.plan ++ named s.plan.frags in
    let operators : List Word = flat_map op_names s.plan.frags in
    let clients : List Word = map (λ (x : ClientSpec). x.name) s.plan.clients in
    record {
      apart = twice-first streams operators (twice-first (streams ++ operators) clients (names_differ s c sources));
      sources = nobody_among (named_sources s.plan) (source_names_in_range s.plan.sources r.sources);
      frags = nobody_among (named s.plan.frags) (frag_names_in_range s.plan s.plan.frags r.frags).0;
    }

pub sound_plan : (s : Script) → IsChecked s → HasRanges s → SourcesFit (header_of s.plan) [] s.plan.sources → Passes (with_sources s) (said_of_frags s.plan) → IsSound s.plan
sound_plan s c r sources p =
    record {
      logs = logs_in_order s.plan sources.ordered;
      ops = sound_frags s.plan s.plan.frags r.frags;
      inputs = read_before (length s.plan.sources) 0 s.plan.frags (frags_read s.plan (with_sources s) s.plan.frags (stream_names s c r sources) (record { sources = refl; frags = refl }) p 0 refl);
    }

-- what is read is there
pub record ReadsAreThere (plan : Plan) : Type 0 where
  pub inputs : list_all (λ (f : FragSpec). list_all (is_there plan) f.inputs) plan.frags ≡ true
  pub clients : list_all (λ (c : ClientSpec). is_there plan c.input) plan.clients ≡ true

pub reads_are_there : (s : Script) → IsChecked s → HasRanges s → SourcesFit (header_of s.plan) [] s.plan.sources → Passes (with_sources s) (said_of_frags s.plan) →
    Passes (all_said (with_sources s) (said_of_frags s.plan)) (said_of_clients s.plan) → ReadsAreThere s.plan
reads_are_there s c r sources p q =
    let names = stream_names s c r sources in
    let knows : KnowsStreams s.plan (with_sources s) s.plan.frags = record { sources = refl; frags = refl } in
    record {
      inputs = all_there s.plan 0 s.plan.frags (omega arith) (frags_read s.plan (with_sources s) s.plan.frags names knows p 0 refl);
      clients = clients_there s.plan (all_said (with_sources s) (said_of_frags s.plan)) s.plan.clients names (knows_all s.plan (with_sources s) s.plan.frags knows) q;
    }
