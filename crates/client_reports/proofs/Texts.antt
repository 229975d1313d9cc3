-- The text of the clients' value is the report.
use Rattle.std.proofs.Common.{◌≡◌, ◌∙◌, ℕ, List, [], ◌∷◌, ◌++◌, map, false, sym, ap}
use Rattle.std.specs.Prelude.{zip}
use Rattle.dpc_model.specs.declared.plans.Plan.{Plan}
use Rattle.serde_json.specs.Data.{Data}
use Rattle.serde_json.specs.Written.{has_float, compact_text}
use Rattle.client_fold.specs.Folding.{ClientValue, StandForClients}
use Rattle.world_model.specs.Worlds.{World}
use Rattle.client_reports.specs.Json.{clients_data, data_of, report_json}
use Rattle.client_reports.specs.Telling.{named, data_by}
use Rattle.client_reports.proofs.Reports.{data-all-same}
use Rattle.client_reports.proofs.Values.{in-clients}

pub is-report : (plan : Plan) (clients : List ClientValue) (d : Data) (text : List ℕ) → d ≡ clients_data (map data_by (named plan.clients clients)) → (has_float d ≡ false → text ≡ compact_text d) →
    (w : World) → w.plan ≡ plan → StandForClients plan 0 clients w.clients → text ++ 10 ∷ [] ≡ report_json w
unfolding report_json
is-report plan clients d text is written w same stands =
    let told : map data_by (named plan.clients clients) ≡ map (data_of w.plan) (zip w.plan.clients w.clients) =
    data-all-same plan 0 plan.clients clients w.clients stands ∙ ap (λ (p : Plan). map (data_of p) (zip p.clients w.clients)) (sym same) in
    let no_float : has_float d ≡ false = ap has_float is ∙ in-clients (named plan.clients clients) in
    ap (λ (t : List ℕ). t ++ 10 ∷ []) (written no_float ∙ ap compact_text (is ∙ ap clients_data told))
