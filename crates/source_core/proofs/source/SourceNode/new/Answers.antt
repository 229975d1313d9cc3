use Rattle.std.proofs.Common.{◌∙◌, ℕ, List, map, ap}
use Rattle.dpc_model.specs.Sessions.{opening_session}
use Rattle.dpc_model.specs.declared.sessions.Sub.{Sub}
use Rattle.node_model.specs.Sources.{new_source}
use Rattle.source_core.specs.Emitting.{SourceValue}
use Rattle.source_core.proofs.source.SourceNode.new.Goals as goal

pub returns : goal.returns
unfolding new_source
returns c =
    let made : List ℕ → List Sub → SourceValue = λ rs ss. record { number = c.args.number; readers = rs; state = record { emitted = 0; bound = 0; subs = ss; clock = 0 } } in
    ap (λ (ss : List Sub). made c.in_ok-readers.readers.items ss) (c.in_ok-sessions.ensures ∙ ap (λ (rs : List ℕ). map (λ _. opening_session) rs) c.as_slice.ensures.value)
    ∙ ap (λ (rs : List ℕ). made rs (map (λ _. opening_session) rs)) c.in_ok-readers.ensures
