use Rattle.std.proofs.Common.{◌≡◌, ◌∙◌, ◌++◌, ◌∷◌, [], List, ℕ, map, ap, rules, string_bytes, Vec, Global}
use Rattle.dpc_model.specs.declared.plans.ClientSpec.{ClientSpec}
use Rattle.serde_json.specs.View.{view}
use Rattle.serde_json.specs.declared.value.Value.{the_lemmas}
use Rattle.client_reports.specs.Json.{clients_data}
use Rattle.client_reports.specs.Telling.{named, data_by}
use Rattle.client_reports.proofs.Texts.{is-report}
use Rattle.client_reports.proofs.json.report_json.Goals as goal

pub returns : goal.returns
returns c = λ w same stands.
    let plan = c.args.plan.now in
    let clients = c.args.clients.now in
    let built : view c.in_ok-value.value ≡ clients_data (map view c.in_ok-list.list.items) = search (rules, the_lemmas) in
    let told : map view c.in_ok-list.list.items ≡ map data_by (named plan.clients clients) = c.in_ok-list.ensures ∙ ap (λ (specs : List ClientSpec). map data_by (named specs clients)) c.as_slice.ensures in
    c.in_ok-push.ensures.items ∙ ap (λ (v : Vec ℕ Global). v.items ++ 10 ∷ []) c.into_bytes-text.ensures.value
    ∙ is-report plan clients (view c.in_ok-value.value) (string_bytes c.in_ok-to_string.field-0) (built ∙ ap clients_data told) c.in_ok-to_string.ensures.text w same stands
