use Rattle.std.proofs.Common.{◌≡◌, subst}
use Rattle.std.specs.Prelude.{flat_map, zip}
use Rattle.dpc_model.specs.declared.plans.Plan.{Plan}
use Rattle.client_fold.specs.Folding.{StandForClients}
use Rattle.client_reports.specs.Telling.{named, text_by}
use Rattle.report.specs.Text.{report_text, client_text}
use Rattle.client_reports.proofs.Reports.{texts-same}
use Rattle.client_reports.proofs.text.report_text.Goals as goal

pub returns : goal.returns
unfolding report_text
returns c = λ w same stands.
    let plan = c.args.plan.now in
    rw (c.in_ok-put_clients.ensures, c.new-text.ensures.items, c.as_slice.ensures)
    (subst (λ (p : Plan). StandForClients p 0 c.args.clients.now w.clients → flat_map text_by (named p.clients c.args.clients.now) ≡ flat_map (client_text w.plan) (zip w.plan.clients w.clients)) same
    (λ h. texts-same w.plan 0 w.plan.clients c.args.clients.now w.clients h) stands)
