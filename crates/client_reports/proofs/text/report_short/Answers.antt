use Rattle.std.proofs.Common.{◌≡◌, subst}
use Rattle.std.specs.Prelude.{flat_map, zip}
use Rattle.dpc_model.specs.declared.plans.Plan.{Plan}
use Rattle.client_fold.specs.Folding.{StandForClients}
use Rattle.client_reports.specs.Telling.{named, short_by}
use Rattle.report.specs.Text.{report_short, client_short}
use Rattle.client_reports.proofs.Reports.{shorts-same}
use Rattle.client_reports.proofs.text.report_short.Goals as goal

pub returns : goal.returns
unfolding report_short
returns c = λ w same stands.
    let plan = c.args.plan.now in
    rw (c.in_ok-put_summaries.ensures, c.new-text.ensures.items, c.as_slice.ensures)
    (subst (λ (p : Plan). StandForClients p 0 c.args.clients.now w.clients → flat_map short_by (named p.clients c.args.clients.now) ≡ flat_map (client_short w.plan) (zip w.plan.clients w.clients)) same
    (λ h. shorts-same w.plan 0 w.plan.clients c.args.clients.now w.clients h) stands)
