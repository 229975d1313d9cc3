-- The parts of a run, and its reports.
use Rattle.std.proofs.Common.{◌≡◌, List, refl, ap, ◌∙◌}
use Rattle.dpc_model.specs.Fragments.{ideal_upto, ideal}
use Rattle.dpc_model.specs.declared.messages.Event.{Event}
use Rattle.dpc_model.specs.declared.plans.Plan.{Plan}
use Rattle.world_model.specs.Worlds.{World, run}
use Rattle.law_safety.proofs.Growing.{run-plan}
use Rattle.report.specs.Text.{report_text, report_short, ideal_text}
use Rattle.client_reports.specs.Json.{report_json}
use Rattle.law_upgrade.specs.Upgrading.{upgraded_plan, upgraded_world}
use Rattle.law_upgrade.proofs.Events.{run-same}

-- ---- the parts of a run

pub plan-upgraded : (plan : Plan) (es : List Event) → (run (upgraded_plan plan) es).plan ≡ upgraded_plan plan
plan-upgraded plan es = run-plan (upgraded_plan plan) es

pub sources-same : (plan : Plan) (es : List Event) → (run (upgraded_plan plan) es).sources ≡ (run plan es).sources
sources-same plan es = ap (λ (w : World). w.sources) (run-same plan es)

pub nodes-same : (plan : Plan) (es : List Event) → (run (upgraded_plan plan) es).nodes ≡ (run plan es).nodes
nodes-same plan es = ap (λ (w : World). w.nodes) (run-same plan es)

pub clients-same : (plan : Plan) (es : List Event) → (run (upgraded_plan plan) es).clients ≡ (run plan es).clients
clients-same plan es = ap (λ (w : World). w.clients) (run-same plan es)

pub cuts-same : (plan : Plan) (es : List Event) → (run (upgraded_plan plan) es).cuts ≡ (run plan es).cuts
cuts-same plan es = ap (λ (w : World). w.cuts) (run-same plan es)

pub envelopes-same : (plan : Plan) (es : List Event) → (run (upgraded_plan plan) es).envelopes ≡ (run plan es).envelopes
envelopes-same plan es = ap (λ (w : World). w.envelopes) (run-same plan es)

-- ---- reports

text-same : (w : World) → report_text (upgraded_world w) ≡ report_text w
unfolding report_text
text-same w = refl

short-text-same : (w : World) → report_short (upgraded_world w) ≡ report_short w
unfolding report_short
short-text-same w = refl

pub report-same : (plan : Plan) (es : List Event) → report_text (run (upgraded_plan plan) es) ≡ report_text (run plan es)
report-same plan es = ap report_text (run-same plan es) ∙ text-same (run plan es)

pub short-same : (plan : Plan) (es : List Event) → report_short (run (upgraded_plan plan) es) ≡ report_short (run plan es)
short-same plan es = ap report_short (run-same plan es) ∙ short-text-same (run plan es)

json-text-same : (w : World) → report_json (upgraded_world w) ≡ report_json w
unfolding report_json
json-text-same w = refl

pub json-same : (plan : Plan) (es : List Event) → report_json (run (upgraded_plan plan) es) ≡ report_json (run plan es)
json-same plan es = ap report_json (run-same plan es) ∙ json-text-same (run plan es)

pub ideal-same : (plan : Plan) → ideal_text (upgraded_plan plan) ≡ ideal_text plan
unfolding ideal_text ideal ideal_upto
ideal-same plan = refl
