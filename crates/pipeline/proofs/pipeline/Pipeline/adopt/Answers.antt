use Rattle.std.proofs.Common.{◌≡◌, ◌*◌, ◌∙◌, ℕ, List, None, length, ap, sym, subst}
use Rattle.dpc_model.specs.declared.tuples.Tuple.{Tuple}
use Rattle.checkpoint_redo.specs.Keeping.{KeptValue}
use Rattle.fragment_mill.specs.Mills.{MillState}
use Rattle.node_model.specs.Stands.{SnapValue}
use Rattle.soutput.specs.Giving.{restarted_output}
use Rattle.sunion.specs.Unions.{restarted_union}
use Rattle.pipeline.specs.Flowing.{PipelineValue, StandsForData}
use Rattle.pipeline.specs.Recovery.{CanAdopt, adopted_inputs, adopted_outputs}
use Rattle.pipeline.specs.contracts.pipeline.Pipeline.{the_view}
use Rattle.pipeline.specs.contracts.snapshots.Snapshot.{the_view as the_snapshot}
use Rattle.pipeline.proofs.Adopted.{adopts}
use Rattle.pipeline.proofs.pipeline.Pipeline.adopt.Goals as goal

pub returns-clause-adopted : goal.returns-clause-adopted
returns-clause-adopted c = λ ops x o s h.
    let p = c.self.inside in
    let q = c.snapshot.inside in
    let w = p.inputs.width in
    let snapshot : SnapValue MillState = the_snapshot q in
    let bound = q.cursor * c.width.result in
    let can : CanAdopt ops (the_view p) x o snapshot s =
    subst (λ (v : SnapValue MillState). CanAdopt ops (the_view p) x o v s) (sym c.snapshot.view_is) (subst (λ (v : PipelineValue). CanAdopt ops v x o c.args.snapshot.now s) (sym c.self.view_is) h) in
    let many : length q.counts ≡ length p.inputs.union.inlets =
    ap (λ (v : SnapValue MillState). length v.counts) c.snapshot.view_is ∙ c.requires.ports ∙ ap (λ (v : PipelineValue). length v.union.union.inlets) (sym c.self.view_is) in
    let union : c.restart_at.new.self ≡ restarted_union q.cursor q.counts p.inputs = c.in_ok-restart_at.ensures ∙ ap (λ (cs : List ℕ). restarted_union q.cursor cs p.inputs) c.as_slice.ensures in
    let keeper : c.new.result.keeper ≡ record { state = q.mill; held = None } =
    ap (λ (k : KeptValue MillState). k.keeper) c.new.ensures ∙ ap (λ (m : MillState). record { state = m; held = None }) c.in-Ok.ensures.same in
    let end : bound ≡ q.cursor * w = ap (λ (n : ℕ). q.cursor * n) c.width.ensures in
    let output : c.restart_at-2.new.self ≡ restarted_output q.base q.kept bound p.output = c.in_ok-restart_at-2.ensures ∙ ap (λ (ts : List Tuple). restarted_output q.base ts bound p.output) c.in_ok-kept.ensures in
    subst (λ (v : PipelineValue). StandsForData ops (record { union = c.restart_at.new.self; keeper = c.new.result; output = c.restart_at-2.new.self; passing = p.passing }) (adopted_inputs v.union.width s x) (adopted_outputs s o)) c.self.view_is
    (adopts ops (the_view p) c.restart_at.new.self c.new.result c.restart_at-2.new.self x o snapshot s bound can many union keeper end output)
