use Rattle.std.proofs.Common.{sym, ◌∙◌}
use Rattle.diagram_reader.proofs.Numbered.{fragment_replicas}
use Rattle.diagram_reader.proofs.statements.fragment.Goals as goal

pub number_at-replicas-requires : goal.number_at-replicas-requires
number_at-replicas-requires c = (fragment_replicas _ _ c.requires).0

pub returns-in-Some : goal.returns-in-Some
returns-in-Some c =
    rw (c.word-name.ensures, c.all_names-streams.ensures) at (sym (c.fault_of_fragment.ensures c.number_at-replicas.result) ∙ c.in-Some.is)

pub add_fragment-requires-clause-few : goal.add_fragment-requires-clause-few
add_fragment-requires-clause-few c = rw c.number_at-replicas.ensures (fragment_replicas _ _ c.requires).2

pub add_fragment-requires-clause-faultless : goal.add_fragment-requires-clause-faultless
add_fragment-requires-clause-faultless c = sym (c.fault_of_fragment.ensures c.number_at-replicas.result) ∙ c.in_default.is

pub returns : goal.returns
returns c =
    let name = c.word-name.ensures in
    let replicas = c.number_at-replicas.ensures in
    let streams = c.all_names-streams.ensures in (
      rw (name, streams) at (sym (c.fault_of_fragment.ensures c.number_at-replicas.result) ∙ c.in_default.is),
      rw (name, replicas, streams) at c.in_ok-add_fragment.ensures.ok,
    )
