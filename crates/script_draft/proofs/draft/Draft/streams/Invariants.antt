use Rattle.std.proofs.Common.{◌≡◌, ◌++◌, map, length}
use Rattle.std.specs.Prelude.{unwrap_or}
use Rattle.dpc_model.specs.declared.plans.StreamRef.TheVariants.{Source}
use Rattle.script_rules.specs.Drafts.{stream_named}
use Rattle.script_draft.specs.Names.{names_in}
use Rattle.script_draft.proofs.draft.Draft.streams.Given as goal

-- those so far, and those of the rest
abbrev pub invariant-loop-name : goal.invariant-loop-name
invariant-loop-name l =
    l.streams.items ++ map (λ w. unwrap_or (stream_named l.self w) (Source 0)) (names_in l.names) ≡ map (λ w. unwrap_or (stream_named l.self w) (Source 0)) (names_in l.fn.names)

abbrev pub decreases-loop-name : goal.decreases-loop-name
decreases-loop-name l = length (names_in l.names)
