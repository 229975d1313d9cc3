-- The names of sources, fragments, clients and operators.
use Rattle.std.proofs.Common.{List, map}
use Rattle.std.specs.Prelude.{flat_map}
use Rattle.dpc_model.specs.Words.{Word}
use Rattle.dpc_model.specs.declared.plans.SourceSpec.{SourceSpec}
use Rattle.dpc_model.specs.declared.plans.FragSpec.{FragSpec}
use Rattle.dpc_model.specs.declared.plans.ClientSpec.{ClientSpec}
use Rattle.dpc_model.specs.declared.plans.Plan.{Plan}
use Rattle.script_rules.specs.Drafts.{Draft, op_names}

abbrev pub named_sources : Plan → List Word
named_sources plan = map (λ (s : SourceSpec). s.name) plan.sources

abbrev pub named : List FragSpec → List Word
named fs = map (λ (f : FragSpec). f.name) fs

abbrev pub client_names : Draft → List Word
client_names d = map (λ (c : ClientSpec). c.name) d.clients

abbrev pub operator_names : Draft → List Word
operator_names d = flat_map op_names d.frags
