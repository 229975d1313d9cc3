use Rattle.std.proofs.Common.{sym, subst}
use Rattle.fragment_mill.specs.Mills.{MillState}
use Rattle.node_model.specs.Stands.{SnapValue}
use Rattle.pipeline.specs.Recovery.{StandsForSnapshot, snap_of}
use Rattle.pipeline.proofs.Adopted.{as-many, in-range}
use Rattle.trial_nodes.proofs.pipelines.recovered.Goals as goal

pub adopt-requires-clause-ports : goal.adopt-requires-clause-ports
adopt-requires-clause-ports c =
    let e = c.in_ok-pipeline.ensures in
    let can = e.3 in
    let v = c.in_ok-pipeline.pipeline in
    let snapshot = c.in_ok-snapshot.ensures e.0 e.1 e.2 can.stands can.closing.ordered in
    let copy : StandsForSnapshot e.0 v.union.width c.in_ok-copy.copy (snap_of v.union.width e.1 e.2) =
    subst (λ (s : SnapValue MillState). StandsForSnapshot e.0 v.union.width s (snap_of v.union.width e.1 e.2)) (sym c.in_ok-copy.ensures) snapshot in
    as-many e.0 v.union.width c.lose.new.self e.1 e.2 _ c.in_ok-copy.copy copy (c.in_ok-lose.ensures.lost e.0 e.1 e.2 can.stands)

pub adopt-requires-clause-range : goal.adopt-requires-clause-range
adopt-requires-clause-range c =
    let e = c.in_ok-pipeline.ensures in
    let can = e.3 in
    let v = c.in_ok-pipeline.pipeline in
    let snapshot = c.in_ok-snapshot.ensures e.0 e.1 e.2 can.stands can.closing.ordered in
    let copy : StandsForSnapshot e.0 v.union.width c.in_ok-copy.copy (snap_of v.union.width e.1 e.2) =
    subst (λ (s : SnapValue MillState). StandsForSnapshot e.0 v.union.width s (snap_of v.union.width e.1 e.2)) (sym c.in_ok-copy.ensures) snapshot in
    in-range e.0 v c.lose.new.self e.1 e.2 1 c.in_ok-copy.copy can copy c.in_ok-lose.ensures.fixed.inputs.width
