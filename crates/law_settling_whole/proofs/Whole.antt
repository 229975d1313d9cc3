-- Every client of a checked script is settled at the end of a live run.
use Rattle.std.proofs.Common.{◌≡◌, ℕ, zero, suc, ◌+◌, ◌*◌, ◌<◌, ◌≤◌, Bool, true, false, not, ◌==◌, List, [], ◌∷◌, map, length, refl, sym, ap, subst, ◌∙◌, arith, Option, Some, slice_get, unwrap_or, inl, inr}
use Rattle.std.specs.Prelude.{max, fold}
use Rattle.std.proofs.lemmas.Bool.{and_parts}
use Rattle.std.proofs.lemmas.List.{append-nil}
use Rattle.std.proofs.lemmas.Option.{slice_get_within, same_Some}
use Rattle.std.proofs.Math.Nat.{suc-mul}
use Rattle.dpc_lists.specs.Lists.{nth, list_any, list_all, is_nil}
use Rattle.dpc_model.specs.Reading.{is_sure}
use Rattle.dpc_model.specs.Actors.{nodes_of, role_of, inputs_of}
use Rattle.dpc_model.specs.Ports.{Port}
use Rattle.dpc_model.specs.declared.actors.Role.{Role}
use Rattle.dpc_model.specs.declared.actors.Role.TheVariants.{Client as IsClient}
use Rattle.dpc_model.specs.declared.messages.Event.{Event}
use Rattle.dpc_model.specs.declared.plans.ClientSpec.{ClientSpec}
use Rattle.dpc_model.specs.declared.plans.FragSpec.{FragSpec}
use Rattle.dpc_model.specs.declared.plans.Plan.{Plan}
use Rattle.dpc_model.specs.declared.plans.StreamRef.{StreamRef}
use Rattle.dpc_model.specs.declared.plans.StreamRef.TheVariants.{Source, Frag}
use Rattle.dpc_model.specs.declared.scripts.Script.{Script}
use Rattle.dpc_model.proofs.Numbers.{client-role}
use Rattle.node_model.specs.Nodes.{no_fragment}
use Rattle.node_model.specs.Clients.{ClientState, client_stream, client_settled, new_client}
use Rattle.world_model.specs.Worlds.{World, client_at, happens, run, new_world, all_settled}
use Rattle.world_model.specs.Schedules.{is_live, quiet_limit, settling_phases}
use Rattle.world_model.specs.Steady.{SteadyFrom, IsSteady, OpensWell, Settles, phase_at}
use Rattle.script_rules.specs.Places.{is_between}
use Rattle.script_rules.specs.Facts.{is_there, has_sizes}
use Rattle.script_rules.specs.Checking.{IsChecked}
use Rattle.script_rules.proofs.Ranges.{between}
use Rattle.script_rules.proofs.SaysItself.{checked_has_facts}
use Rattle.dpc_lists.proofs.Truths.{both-of, eq-test, lt-of}
use Rattle.law_safety.proofs.Worlding.{reading-at}
use Rattle.law_safety.proofs.Law.{run-good}
use Rattle.law_granting.specs.Taken.{role_port, port_of}
use Rattle.law_schedules.specs.Journals.{phases_in}
use Rattle.law_schedules.proofs.Timely.{live-ends}
use Rattle.law_readers.proofs.Known.{run-clients}
use Rattle.law_settling.specs.Read.{reading_phases}
use Rattle.law_settling_readers.specs.Streams.{ReadersHaveStreams}
use Rattle.law_settling_scripts.proofs.Can.{can_settle}
use Rattle.std.specs.Prelude.{IsTrue}
use Rattle.world_model.specs.Schedules.{lockstep_journal}
use Rattle.law_schedules.proofs.Lockstep.{lock-live}
use Rattle.law_healing.specs.Healing.{heals}
use Rattle.law_healing.proofs.Opening.{opens-well}
use Rattle.law_lockstep.specs.Calm.{CalmFrom, IsCalm}
use Rattle.law_lockstep.proofs.Heard.{lock-steady}
use Rattle.law_calm.specs.Crashes.{has_no_crash}
use Rattle.law_calm.proofs.Scripts.{script-calm}
use Rattle.law_settling_readers.proofs.Laws.{readers-law}
use Rattle.law_settling_whole.specs.Heard.{HeardFrom, IsHeard}
use Rattle.law_settling_whole.proofs.Fragments.{starts, IsBelow, HasAll, has-here, AreFew, port-has, are-served}

-- ---- how many replicas there are

abbrev pub most_replicas : ℕ → List FragSpec → ℕ
most_replicas n fs = fold max n (map (λ (f : FragSpec). f.replicas) fs)

most-grows : (n : ℕ) (fs : List FragSpec) → n ≤ most_replicas n fs
most-grows n [] = omega arith
most-grows n (f ∷ fs) = let more = most-grows (max n f.replicas) fs in omega (arith, more)

pub none-more : (n : ℕ) (fs : List FragSpec) (f : ℕ) → (nth no_fragment fs f).replicas ≤ most_replicas n fs
none-more n [] f = omega arith
none-more n (x ∷ fs) zero = let more = most-grows (max n x.replicas) fs in omega (arith, more)
none-more n (x ∷ fs) (suc f) = none-more (max n x.replicas) fs f

replicas-of : (f : FragSpec) → has_sizes f ≡ true → (1 ≤ f.replicas) × (f.replicas ≤ 4)
replicas-of f h = between 1 4 f.replicas (and_parts (is_between 1 4 f.replicas) (is_between 1 8 (length f.inputs)) h).0

pub four-at-most : (fs : List FragSpec) (f : ℕ) → list_all has_sizes fs ≡ true → (nth no_fragment fs f).replicas ≤ 4
four-at-most [] f h = omega arith
four-at-most (x ∷ fs) zero h = (replicas-of x (and_parts (has_sizes x) (list_all has_sizes fs) h).0).1
four-at-most (x ∷ fs) (suc f) h = four-at-most fs f (and_parts (has_sizes x) (list_all has_sizes fs) h).1

one-at-least : (fs : List FragSpec) → is_nil fs ≡ false → list_all has_sizes fs ≡ true → 1 ≤ most_replicas 0 fs
one-at-least [] some h = cc
one-at-least (x ∷ fs) some h =
    let one = (replicas-of x (and_parts (has_sizes x) (list_all has_sizes fs) h).0).0 in
    let more = none-more 0 (x ∷ fs) 0 in
    omega (arith, one, more)

-- the quiet phases are enough for all fragments
limit-is-far : (n f most : ℕ) → 1 ≤ most → starts (n + settling_phases + reading_phases + 1) (settling_phases * (most + 1)) f ≤ n + (f + 1) * (most + 1) * settling_phases
limit-is-far n zero most some = omega (arith, some)
limit-is-far n (suc f) most some =
    let rest = limit-is-far n f most some in
    let same : suc f + 1 ≡ suc (f + 1) = omega arith in
    let sum : (suc f + 1) * (most + 1) ≡ (f + 1) * (most + 1) + (most + 1) = ap (λ (k : ℕ). k * (most + 1)) same ∙ suc-mul (f + 1) (most + 1) in
    omega (arith, rest, sum)

-- ---- clients

-- what a client reads is there
pub stream-there : (plan : Plan) (clients : List ClientSpec) (c : ℕ) (s : StreamRef) → list_all (λ (x : ClientSpec). is_there plan x.input) clients ≡ true →
    slice_get (nth [] (map (λ (client : ClientSpec). client.input ∷ []) clients) c) 0 ≡ Some s → is_there plan s ≡ true
stream-there plan [] c s h e = cc
stream-there plan (x ∷ clients) zero s h e = subst (λ (u : StreamRef). is_there plan u ≡ true) (same_Some x.input s e) (and_parts (is_there plan x.input) (list_all (λ (y : ClientSpec). is_there plan y.input) clients) h).0
stream-there plan (x ∷ clients) (suc c) s h e = stream-there plan clients c s (and_parts (is_there plan x.input) (list_all (λ (y : ClientSpec). is_there plan y.input) clients) h).1 e

pub below-all : (plan : Plan) (s : StreamRef) → is_there plan s ≡ true → IsBelow (length plan.frags) s
below-all plan (Source k) h = tt
below-all plan (Frag f) h = lt-of f (length plan.frags) h

pub none-waits : (test : ClientState → Bool) (xs : List ClientState) → ((c : ℕ) (x : ClientState) → slice_get xs c ≡ Some x → test x ≡ true) → not (list_any (λ x. not (test x)) xs) ≡ true
none-waits test [] h = refl
none-waits test (x ∷ xs) h = let here = h 0 x refl in rw here (none-waits test xs (λ c y e. h (suc c) y e))

-- a client whose port has all is settled
pub client-done : (plan : Plan) (w : World) (a c : ℕ) (x : ClientState) → w.plan ≡ plan → role_of plan a ≡ IsClient c → slice_get w.clients c ≡ Some x → HasAll plan w a 0 → client_settled w.plan x ≡ true
client-done plan w a c x same role there has =
    let role_w : role_of w.plan a ≡ IsClient c = ap (λ (z : Plan). role_of z a) same ∙ role in
    let at : client_at w c ≡ x = ap (λ (o : Option ClientState). unwrap_or o (new_client w.plan c)) there in
    let port : port_of w a 0 ≡ Some x.port = ap (λ (r : Role). role_port w a 0 r) role_w ∙ ap {B = Option Port} (λ (y : ClientState). Some y.port) at in
    let here = has-here plan w a 0 x.port has port in
    both-of (x.port.inlet.held.bound == w.plan.end) (is_sure x.port.inlet.held) (eq-test x.port.inlet.held.bound w.plan.end (here.0 ∙ sym (ap (λ (z : Plan). z.end) same))) here.1

-- where all quiet phases were opened, every client has its stream
all-done : (script : Script) (events : List Event) → IsChecked script → ReadersHaveStreams script events → is_live script events ≡ true → OpensWell script events → IsSteady script events →
    phases_in events ≡ length script.phases + quiet_limit script.plan → all_settled (run script.plan events) ≡ true
all-done script events checked serves lives well steady full =
    let form = (checked_has_facts script checked).form in
    let frags = script.plan.frags in
    let most = most_replicas 0 frags in
    let can = can_settle script checked in
    let few : AreFew script.plan most = λ f. (four-at-most frags f form.sizes, none-more 0 frags f) in
    let far = limit-is-far (length script.phases) (length frags) most (one-at-least frags form.some_frag form.sizes) in
    let late : starts (length script.phases + settling_phases + reading_phases + 1) (settling_phases * (most + 1)) (length frags) ≤ phases_in events = omega (arith, far, full) in
    let w = run script.plan events in
    let g = run-good script.plan events can.plan in
    none-waits (client_settled w.plan) w.clients (λ c x there.
    let low = slice_get_within w.clients c x there in
    let many = run-clients script.plan events in
    let place : c < length script.plan.clients = omega (arith, low, many) in
    let a = length script.plan.sources + (length (nodes_of script.plan) + c) in
    let role = client-role script.plan a c (omega arith) (omega arith) place in
    let input = (reading-at script.plan c can.plan place).reads in
    let below = below-all script.plan (client_stream script.plan c) (stream-there script.plan script.plan.clients c (client_stream script.plan c) form.clients input) in
    let reads = ap (λ (r : Role). slice_get (inputs_of script.plan r) 0) role ∙ input in
    let has = port-has script events most can lives well steady serves few (length frags) (are-served script events most can lives well steady serves few (length frags)) events [] (sym (append-nil events)) late a 0 (client_stream script.plan c) reads below in
    client-done script.plan w a c x g.of_plan role there has)

-- whatever was lost, cut or crashed before: every client is settled at the end
settles : (script : Script) (events : List Event) → IsChecked script → ReadersHaveStreams script events → Settles script events
settles script events checked serves on lives well steady =
    elim ((live-ends script events lives).1 on) [
      | inl done ↦ done
      | inr full ↦ all-done script events checked serves lives well steady full
    ]

pub checked-settles : (script : Script) (events : List Event) → IsChecked script → Settles script events
checked-settles script events checked = settles script events checked (readers-law script events)

-- so it is of the one-thread journal of a script that heals, where recoveries end
pub healed-settles : (script : Script) → IsChecked script → IsTrue script.settle → heals script ≡ true → IsCalm script (lockstep_journal script) → IsTrue (all_settled (run script.plan (lockstep_journal script)))
healed-settles script checked on healed calm =
    let well = opens-well script (lockstep_journal script) healed (lock-live script) in
    checked-settles script (lockstep_journal script) checked on (lock-live script) well (lock-steady script (can_settle script checked) well calm)

pub crashless-settles : (script : Script) → IsChecked script → IsTrue script.settle → heals script ≡ true → has_no_crash script ≡ true → IsTrue (all_settled (run script.plan (lockstep_journal script)))
crashless-settles script checked on healed none = healed-settles script checked on healed (script-calm script (lockstep_journal script) (can_settle script checked).plan none (lock-live script))

-- ---- by threads

steady-of : (script : Script) (p : ℕ) (w : World) (events : List Event) → CalmFrom script p w events → HeardFrom script p w events → SteadyFrom script p w events
steady-of script p w [] calm heard = tt
steady-of script p w (e ∷ events) calm heard = ((λ late. (calm.0 late, heard.0 late)), steady-of script (phase_at p e) (happens w e) events calm.1 heard.1)

pub calm-steady : (script : Script) (events : List Event) → IsCalm script events → IsHeard script events → IsSteady script events
calm-steady script events calm heard = steady-of script 0 (new_world script.plan) events calm heard

-- in any live run of a script that crashes nobody no more is asked than that readers hear
pub heard-settles : (script : Script) (events : List Event) → IsChecked script → IsTrue script.settle → heals script ≡ true → has_no_crash script ≡ true → IsTrue (is_live script events) → IsHeard script events → IsTrue (all_settled (run script.plan events))
heard-settles script events checked on healed none lives heard =
    let calm = script-calm script events (can_settle script checked).plan none lives in
    checked-settles script events checked on lives (opens-well script events healed lives) (calm-steady script events calm heard)
