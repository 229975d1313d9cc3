use Rattle.std.proofs.Common.{sym, subst, ◌≡◌}
use Rattle.dpc_model.specs.Parts.{shown_of}
use Rattle.dpc_model.specs.Sessions.{view_items}
use Rattle.soutput.proofs.Standing.{view-stands}
use Rattle.pipeline.specs.Flowing.{PipelineValue, StandsForData, stream_at}
use Rattle.pipeline.specs.contracts.pipeline.Pipeline.{the_view}
use Rattle.pipeline.proofs.pipeline.Pipeline.view.Goals as goal

pub returns : goal.returns
returns c = λ ops x o stable_now h.
    let p = c.self.inside in
    let items = c.in_ok-items.items in
    let stood = subst (λ (v : PipelineValue). StandsForData ops v x o) (sym c.self.view_is) h in
    subst (λ (v : PipelineValue). items ≡ view_items (shown_of (stream_at ops v x) o.base stable_now)) c.self.view_is
    (view-stands stable_now items (stream_at ops (the_view p) x) p.output o stood.output c.in_ok-items.ensures)
