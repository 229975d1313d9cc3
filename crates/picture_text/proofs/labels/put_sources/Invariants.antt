use Rattle.std.proofs.Common.{◌≡◌, ◌++◌, map, take}
use Rattle.dpc_model.specs.declared.plans.SourceSpec.{SourceSpec}
use Rattle.picture_text.proofs.labels.put_sources.Given as goal

abbrev pub invariant-loop-source : goal.invariant-loop-source
invariant-loop-source l = l.labels.items ≡ l.fn.labels.items ++ map (λ (s : SourceSpec). s.name) (take l.source-index l.sources)
