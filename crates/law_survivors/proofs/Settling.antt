-- So where a script crashes at most one replica of each fragment, and mends what it breaks, every client is settled at the end.
use Rattle.std.proofs.Common.{◌≡◌, ℕ, zero, suc, ◌+◌, ◌*◌, ◌<◌, ◌≤◌, true, [], length, sym, ap, ◌∙◌, arith, slice_get, inl, inr}
use Rattle.std.proofs.lemmas.List.{append-nil}
use Rattle.std.proofs.lemmas.Option.{slice_get_within}
use Rattle.std.proofs.Math.Nat.{suc-mul}
use Rattle.dpc_model.specs.Actors.{nodes_of, inputs_of}
use Rattle.dpc_model.specs.declared.actors.Role.{Role}
use Rattle.dpc_model.specs.declared.scripts.Script.{Script}
use Rattle.dpc_model.proofs.Numbers.{client-role}
use Rattle.node_model.specs.Clients.{client_stream, client_settled}
use Rattle.world_model.specs.Worlds.{run, all_settled}
use Rattle.world_model.specs.Schedules.{lockstep_journal, quiet_limit, settling_phases}
use Rattle.script_rules.specs.Checking.{IsChecked}
use Rattle.script_rules.proofs.SaysItself.{checked_has_facts}
use Rattle.law_safety.proofs.Worlding.{reading-at}
use Rattle.law_safety.proofs.Law.{run-good}
use Rattle.law_schedules.specs.Journals.{phases_in}
use Rattle.law_schedules.proofs.Timely.{live-ends}
use Rattle.law_schedules.proofs.Lockstep.{lock-live}
use Rattle.law_readers.proofs.Known.{run-clients}
use Rattle.law_settling_readers.specs.Streams.{serving_phases}
use Rattle.law_settling_scripts.proofs.Can.{can_settle}
use Rattle.law_healing.specs.Healing.{heals}
use Rattle.law_healing.proofs.Opening.{opens-well}
use Rattle.law_survivors.specs.Spared.{keeps_all_but_one}
use Rattle.law_survivors.specs.Finishing.{HaveAtMost, finished_by, SettlesWithCrashes}
use Rattle.law_settling_whole.proofs.Whole.{most_replicas, none-more, four-at-most, stream-there, below-all, none-waits, client-done}
use Rattle.law_survivors.proofs.Fragmentwise.{client-has}

-- the quiet phases are enough for all fragments and the clients
limit-is-far : (n f most : ℕ) → finished_by (n + 8) (settling_phases * (most + 1)) f + serving_phases most ≤ n + (f + 1) * (most + 1) * settling_phases
limit-is-far n zero most = omega arith
limit-is-far n (suc f) most =
    let rest = limit-is-far n f most in
    let same : suc f + 1 ≡ suc (f + 1) = omega arith in
    let sum : (suc f + 1) * (most + 1) ≡ (f + 1) * (most + 1) + (most + 1) = ap (λ (k : ℕ). k * (most + 1)) same ∙ suc-mul (f + 1) (most + 1) in
    omega (arith, rest, sum)

-- where all quiet phases were opened, every client has its stream
all-done : (script : Script) → IsChecked script → heals script ≡ true → keeps_all_but_one script ≡ true → phases_in (lockstep_journal script) ≡ length script.phases + quiet_limit script.plan → all_settled (run script.plan (lockstep_journal script)) ≡ true
all-done script checked healed keeps full =
    let plan = script.plan in
    let events = lockstep_journal script in
    let form = (checked_has_facts script checked).form in
    let most = most_replicas 0 plan.frags in
    let can = can_settle script checked in
    let well = opens-well script events healed (lock-live script) in
    let few : HaveAtMost plan most = λ f. (four-at-most plan.frags f form.sizes, none-more 0 plan.frags f) in
    let far = limit-is-far (length script.phases) (length plan.frags) most in
    let late : finished_by (length script.phases + 8) (settling_phases * (most + 1)) (length plan.frags) + serving_phases most ≤ phases_in events = omega (arith, far, full) in
    let w = run plan events in
    let g = run-good plan events can.plan in
    none-waits (client_settled w.plan) w.clients (λ c x there.
    let low = slice_get_within w.clients c x there in
    let many = run-clients plan events in
    let place : c < length plan.clients = omega (arith, low, many) in
    let a = length plan.sources + (length (nodes_of plan) + c) in
    let role = client-role plan a c (omega arith) (omega arith) place in
    let input = (reading-at plan c can.plan place).reads in
    let before = below-all plan (client_stream plan c) (stream-there plan plan.clients c (client_stream plan c) form.clients input) in
    let reads = ap (λ (r : Role). slice_get (inputs_of plan r) 0) role ∙ input in
    client-done plan w a c x g.of_plan role there (client-has script can well keeps most few a c role events [] (sym (append-nil events)) (length plan.frags) 0 (client_stream plan c) late reads before))

pub settles-with-crashes : (script : Script) → SettlesWithCrashes script
settles-with-crashes script checked on healed keeps =
    elim ((live-ends script (lockstep_journal script) (lock-live script)).1 on) [
      | inl done ↦ done
      | inr full ↦ all-done script checked healed keeps full
    ]
