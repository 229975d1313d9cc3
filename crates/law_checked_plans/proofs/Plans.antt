-- From what engines rely on to what every run relies on.
use Rattle.std.proofs.Common.{◌≡◌, ℕ, zero, suc, ◌<◌, true, List, [], ◌∷◌, map, length, refl, arith}
use Rattle.std.specs.Prelude.{◌&&◌, ◌==◌, nat_lt, nat_le}
use Rattle.std.proofs.lemmas.Bool.{and_parts, leb-true}
use Rattle.dpc_lists.specs.Lists.{nth, list_all}
use Rattle.dpc_model.specs.declared.tuples.Tuple.{Tuple}
use Rattle.dpc_model.specs.declared.plans.SourceSpec.{SourceSpec}
use Rattle.dpc_model.specs.declared.plans.FragSpec.{FragSpec}
use Rattle.dpc_model.specs.declared.plans.ClientSpec.{ClientSpec}
use Rattle.dpc_model.specs.declared.plans.Plan.{Plan}
use Rattle.dpc_model.specs.declared.plans.StreamRef.TheVariants.{Source}
use Rattle.dpc_model.specs.declared.scripts.Script.{Script}
use Rattle.dpc_model.proofs.Numbers.{buckets-whole}
use Rattle.node_model.specs.Nodes.{no_fragment}
use Rattle.node_model.specs.Clients.{client_stream}
use Rattle.script_rules.specs.Places.{is_between}
use Rattle.script_rules.specs.Facts.{HasFacts, log_fits, is_there, has_sizes}
use Rattle.law_safety.specs.Plans.{IsCheckedPlan, inputs_at}
use Rattle.law_safety.proofs.Numbering.{all-nth}
use Rattle.law_checked_plans.proofs.Evens.{frags_even}
use Rattle.law_checked_plans.proofs.Sent.{sent, all_sent}

logs_fit : (end : ℕ) (sources : List SourceSpec) (s : ℕ) → list_all (log_fits end) sources ≡ true →
    list_all (λ (t : Tuple). nat_lt t.stime end && length t.vals == nth 0 (map (λ (source : SourceSpec). source.columns) sources) s) (nth [] (map (λ (source : SourceSpec). source.log) sources) s) ≡ true
logs_fit end [] s h = refl
logs_fit end (x ∷ xs) zero h = (and_parts (log_fits end x) (list_all (log_fits end) xs) h).0
logs_fit end (x ∷ xs) (suc s) h = logs_fit end xs s (and_parts (log_fits end x) (list_all (log_fits end) xs) h).1

client_at : (plan : Plan) (clients : List ClientSpec) (c : ℕ) → c < length clients → list_all (λ (x : ClientSpec). is_there plan x.input) clients ≡ true →
    is_there plan (nth (Source 0) (nth [] (map (λ (client : ClientSpec). client.input ∷ []) clients) c) 0) ≡ true
client_at plan [] c l h = absurd (omega (arith, l))
client_at plan (x ∷ xs) zero l h = (and_parts (is_there plan x.input) (list_all (λ (y : ClientSpec). is_there plan y.input) xs) h).0
client_at plan (x ∷ xs) (suc c) l h = client_at plan xs c (omega (arith, l)) (and_parts (is_there plan x.input) (list_all (λ (y : ClientSpec). is_there plan y.input) xs) h).1

reads_some : (f : FragSpec) → has_sizes f ≡ true → 0 < length f.inputs
reads_some f h =
    let inputs = (and_parts (is_between 1 4 f.replicas) (is_between 1 8 (length f.inputs)) h).1 in
    leb-true 1 (length f.inputs) (and_parts (nat_le 1 (length f.inputs)) (nat_le (length f.inputs) 8) inputs).0

pub checked_plan : (s : Script) → HasFacts s → IsCheckedPlan s.plan
checked_plan s facts =
    let plan = s.plan in
    let form = facts.form in
    record {
      checked = record {
        sound = form.sound;
        width = form.width;
        whole = buckets-whole plan.width plan.end form.whole;
        logs = λ i. logs_fit plan.end plan.sources i form.logs;
        even = frags_even plan [] plan.frags refl 0 refl form.sound.inputs facts.frags;
      };
      reads = λ f l. reads_some (nth no_fragment plan.frags f) (all-nth has_sizes no_fragment plan.frags f l form.sizes);
      sent = λ f l. all_sent plan (inputs_at plan f) form.sizes (all-nth (λ (x : FragSpec). list_all (is_there plan) x.inputs) no_fragment plan.frags f l form.inputs);
      clients = λ c l. sent plan (client_stream plan c) form.sizes (client_at plan plan.clients c l form.clients);
    }
