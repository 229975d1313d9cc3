-- A plan with one fragment and one client is checked where a few tests hold.
use Rattle.std.proofs.Common.{◌≡◌, ℕ, zero, suc, ◌<◌, true, length, arith}
use Rattle.dpc_lists.specs.Lists.{list_all}
use Rattle.dpc_model.specs.declared.plans.Plan.{Plan}
use Rattle.node_model.specs.Clients.{client_stream}
use Rattle.law_safety.specs.Plans.{IsChecked, IsCheckedPlan, inputs_at, has_senders}

pub checked-one : (plan : Plan) → IsChecked plan → length plan.frags ≡ 1 → length plan.clients ≡ 1 →
    0 < length (inputs_at plan 0) → list_all (has_senders plan) (inputs_at plan 0) ≡ true → has_senders plan (client_stream plan 0) ≡ true → IsCheckedPlan plan
checked-one plan checked one_frag one_client some sent client =
    record { checked = checked; reads = λ f h. reads f h; sent = λ f h. each f h; clients = λ c h. clients c h }
  where
    reads : (f : ℕ) → f < length plan.frags → 0 < length (inputs_at plan f)
    reads zero h = some
    reads (suc f) h = absurd (omega (arith, h, one_frag))

    each : (f : ℕ) → f < length plan.frags → list_all (has_senders plan) (inputs_at plan f) ≡ true
    each zero h = sent
    each (suc f) h = absurd (omega (arith, h, one_frag))

    clients : (c : ℕ) → c < length plan.clients → has_senders plan (client_stream plan c) ≡ true
    clients zero h = client
    clients (suc c) h = absurd (omega (arith, h, one_client))
