-- The laws.
use Rattle.std.proofs.Common.{◌≡◌, ℕ, ◌+◌, ◌&&◌, ◌==◌, ◌≤◌, true, List, length, refl, sym, ap, subst, ◌∙◌, arith}
use Rattle.dpc_lists.specs.Lists.{nth}
use Rattle.dpc_model.specs.Fragments.{ideal, ideal_upto}
use Rattle.dpc_model.specs.Actors.{role_of, sends_stream, senders_of}
use Rattle.dpc_model.specs.declared.tuples.Tuple.{Tuple}
use Rattle.dpc_model.specs.declared.messages.Event.{Event}
use Rattle.dpc_model.specs.declared.plans.Plan.{Plan}
use Rattle.dpc_model.specs.declared.plans.StreamRef.TheVariants.{Frag}
use Rattle.dpc_model.specs.declared.scripts.Script.{Script}
use Rattle.node_model.specs.Mails.{Packet}
use Rattle.node_model.specs.Nodes.{own_readers}
use Rattle.world_model.specs.Worlds.{home_of, run}
use Rattle.dpc_model.specs.Reading.{is_sure}
use Rattle.dpc_model.specs.Ports.{Port}
use Rattle.dpc_model.specs.Replicas.{Watch}
use Rattle.dpc_model.specs.declared.actors.Role.TheVariants.{Node as IsNode}
use Rattle.node_model.specs.Nodes.{PlainNode, no_fragment}
use Rattle.world_model.specs.Worlds.{World, slot_of, new_world}
use Rattle.world_model.specs.Schedules.{progress, is_live_so_far}
use Rattle.law_safety.specs.Plans.{IsCheckedPlan}
use Rattle.std.proofs.Common.{◌<◌, false, nat_lt, ◌++◌, append_assoc, slice_get, Some}
use Rattle.std.proofs.lemmas.List.FromFn.{length-range_with_len}
use Rattle.dpc_lists.proofs.Truths.{lt-of, not-lt}
use Rattle.law_safety.proofs.Law.{new_world-fine}
use Rattle.law_granting.specs.Taken.{port_of}
use Rattle.law_granting.proofs.Asked.{IsAskingWorld}
use Rattle.law_granting.proofs.Running.{new_world-asking, run-asking}
use Rattle.law_schedules.specs.Journals.{phases_in}
use Rattle.law_schedules.proofs.Journals.{prefix-live, phases-counted, progress-run}
use Rattle.law_readers.specs.Newest.{IsPortOf}
use Rattle.law_session_origins.specs.Numbers.{replicas_at, first_replica}
use Rattle.law_session_origins.proofs.RoleNumbers.{has-numbers}
use Rattle.law_settling.specs.Finished.{IsFinished}
use Rattle.law_settling.proofs.Steadily.{steady-rests}
use Rattle.law_settling.proofs.Firsts.{longer-begins}
use Rattle.law_settling.proofs.Onward.{phases-add}
use Rattle.law_settling_readers.specs.Streams.{HasStream, RestingReaderHasStream, ReadersHaveStreams}
use Rattle.law_settling_readers.proofs.Comings.{run-is}
use Rattle.law_settling_readers.proofs.Reading.{replica_at, replicas_in, IsReader}
use Rattle.law_settling_readers.proofs.Watches.{watches-below}
use Rattle.law_settling_readers.proofs.Heard.{steady-hears, heard-late}
use Rattle.law_settling_readers.proofs.Readers.{reader-of, whole-late}
use Rattle.dpc_lists.proofs.Truths.{both-of, eq-test}
use Rattle.law_safety.proofs.Emptied.{shape-of}
use Rattle.law_safety.proofs.Happening.{node-here}
use Rattle.law_safety.proofs.Law.{run-good}
use Rattle.law_safety.proofs.Growing.{run-plan}
use Rattle.law_granting.specs.Taken.{subscribes_packet}
use Rattle.law_schedules.proofs.Journals.{live-far}
use Rattle.law_settling.proofs.Sources.{whole-prefix}
use Rattle.law_settling.proofs.Finishing.{ideal-end}
use Rattle.law_settling_readers.specs.Asked.{AsksFor, AreAskedOnce, AreAnsweredOnce}
use Rattle.law_settling_readers.specs.Streams.{TakersHaveAll}
use Rattle.law_settling_readers.proofs.Once.{asks_of, only-one}
use Rattle.law_settling_readers.proofs.Answered.{answered-once}
use Rattle.law_settling_readers.proofs.Whole.{run-holds, took-whole}

pub asked-once-law : (plan : Plan) (events : List Event) → IsCheckedPlan plan → AreAskedOnce plan events
asked-once-law plan events checked x p i j s u port one two =
    only-one plan x p (λ b. sends_stream s (role_of plan b)) s u checked port (λ b h. h) events i j one.envelope two.envelope one.there two.there (asks i one) (asks j two)
  where
    asks : (k : ℕ) (a : AsksFor plan (run plan events).envelopes x s u k) → asks_of (λ b. sends_stream s (role_of plan b)) x u a.envelope ≡ true
    asks k a =
        both-of (a.envelope.sender == x && sends_stream s (role_of plan a.envelope.to)) (subscribes_packet u a.envelope.packet)
        (both-of (a.envelope.sender == x) (sends_stream s (role_of plan a.envelope.to)) (eq-test a.envelope.sender x a.reader) a.sender) (ap (λ (y : Packet). subscribes_packet u y) a.packet ∙ a.session)

pub answered-once-law : (script : Script) (events : List Event) → AreAnsweredOnce script events
answered-once-law script events can live done rest is x p a s u port sends = answered-once script events can.plan (live-far script events live) x p a s u port sends done rest is

-- a port that is whole holds the whole stream
stream-whole : (plan : Plan) (done : List Event) (x p f : ℕ) (q : Port) → IsCheckedPlan plan → IsPortOf plan x p (Frag f) → port_of (run plan done) x p ≡ Some q → q.inlet.held.bound ≡ plan.end → is_sure q.inlet.held ≡ true → HasStream plan (Frag f) q.inlet.held
stream-whole plan done x p f q checked port there bound sure =
    let holds = run-holds plan done x p (Frag f) q checked port there in
    let all : length (ideal plan (Frag f)) ≤ length q.inlet.held.stable =
    subst (λ (ts : List Tuple). length ts ≤ length q.inlet.held.stable) (ap (λ (b : ℕ). ideal_upto plan (Frag f) b) bound ∙ sym (ideal-end plan (Frag f))) holds.bound in
    record { stable = whole-prefix q.inlet.held.stable (ideal plan (Frag f)) holds.stable all; bound = bound; sure = sure }

pub takers-law : (script : Script) (events : List Event) → TakersHaveAll script events
takers-law script events can live done rest is x p f r q n port took finished =
    let plan = script.plan in
    let w = run plan done in
    let a = nth 0 (senders_of plan (Frag f)) q.chosen in
    let g = run-good plan done can.plan in
    let sends : sends_stream (Frag f) (role_of plan a) ≡ true = ap (λ o. sends_stream (Frag f) o) took.role ∙ eq-test f f refl in
    let answered = answered-once script events can.plan (live-far script events live) x p a (Frag f) q.inlet.sess port sends done rest is in
    let many = (shape-of (home_of w.plan (f, r)) (1 + length done) n (node-here w (1 + length done) a f r n g.fine (ap (λ (z : Plan). role_of z a) g.of_plan ∙ took.role) took.up).orderly.shape).subs in
    let many_plan : length n.subs ≡ length (own_readers (home_of plan (f, r))) = many ∙ ap (λ (z : Plan). length (own_readers (home_of z (f, r)))) g.of_plan in
    let low = took.low in
    let whole = took-whole plan done x p f r a took.place answered.0 can.plan port q took.port took.whole refl took.role n took.up took.reader took.low answered.1 took.many took.tally (omega (arith, low, many_plan)) took.all finished in
    stream-whole plan done x p f q can.plan port took.port whole.0 whole.1

-- ---- the readers of a fragment all of whose replicas have finished

-- all points from some one on in a journal have no fewer phases, and those with more phases stand behind it
pub longer-then : (before done rest more : List Event) → before ++ rest ≡ done ++ more → phases_in before < phases_in done → length before ≤ length done
longer-then before done rest more same late =
    (elim (nat_lt (length done) (length before)) as (λ b. nat_lt (length done) (length before) ≡ b → length before ≤ length done) [
      | false ↦ λ e. not-lt (length done) (length before) e
      | true ↦ λ e.
          let less = lt-of (length done) (length before) e in
          let extra = longer-begins done before more rest (sym same) (omega (arith, less)) in
          let sum = phases-add done extra.0 in
          let count = ap phases_in extra.1 in absurd (omega (arith, sum, count, late))
    ]) refl

-- what a port knows of a replica that is up is of no later incarnation
pub known-below : (plan : Plan) (done : List Event) (x p f k i r : ℕ) (q : Port) (v : Watch) (n : PlainNode) → IsCheckedPlan plan → IsReader plan x p f k → port_of (run plan done) x p ≡ Some q → i < replicas_in plan f → role_of plan (replica_at plan f i) ≡ IsNode f r →
    (slot_of (run plan done) (replica_at plan f i)).node ≡ Some n → slice_get q.watches i ≡ Some v → v.inc ≤ n.grants.inc
known-below plan done x p f k i r q v n checked line there low role up known =
    let a = replica_at plan f i in
    let w = run plan done in
    let most = watches-below plan done checked x p a i f r q v (line.sender i low) role there known in
    let asking : IsAskingWorld w = subst IsAskingWorld (sym (run-is plan done)) (run-asking (new_world plan) 1 done (new_world-fine plan checked) (new_world-asking plan)) in
    let last = (asking.nodes a f r n (ap (λ (pl : Plan). role_of pl a) (run-plan plan done) ∙ role) up).inc in
    omega (arith, most, last)

pub resting-readers-law : (script : Script) (events : List Event) → RestingReaderHasStream script events
resting-readers-law script events can live well before mid rest f x p is past rests hears finished far port =
    let plan = script.plan in
    let base = phases_in before in
    let reader = reader-of plan x p f can.once port in
    let line = reader.1 in
    let counted : (done more : List Event) → events ≡ done ++ more → (progress script done).phase ≡ phases_in done = (λ done more at. phases-counted script done (prefix-live script done more (subst (λ (es : List Event). is_live_so_far script es ≡ true) at live))) in
    let fin : (done more : List Event) → events ≡ done ++ more → base < (progress script done).phase → (a r : ℕ) (n : PlainNode) → role_of plan a ≡ IsNode f r → (slot_of (run plan done) a).node ≡ Some n → IsFinished (home_of plan (f, r)) n =
    (λ done more at late a r n role up. let phase = counted done more at in finished done more at (longer-then before done (mid ++ rest) more (sym is ∙ at) (omega (arith, phase, late))) a r n (record { role = role; up = up })) in
    let below = (λ (done more : List Event) (at : events ≡ done ++ more) (q : Port) (i r : ℕ) (v : Watch) (n : PlainNode). known-below plan done x p f reader.0 i r q v n can.plan line) in
    let heard = heard-late script events x p f reader.0 base can line live well past rests hears fin below in
    let there : events ≡ (before ++ mid) ++ rest = is ∙ sym (append_assoc before mid rest) in
    let phase = counted (before ++ mid) rest there in
    let many : replicas_in plan f ≡ (nth no_fragment plan.frags f).replicas = ap {B = ℕ} (λ ss. length ss) ((has-numbers plan).fragment f) ∙ length-range_with_len (first_replica plan f) (replicas_at plan f) in
    let whole = whole-late script events x p f reader.0 (base + 3) can line live well (omega (arith, past)) (λ done more at late. rests done more at (omega (arith, late))) (λ done more at late. fin done more at (omega (arith, late)))
    (λ done more at late. heard done more at (omega (arith, late))) (before ++ mid) rest there (omega (arith, phase, many, far)) in
    let at : port_of (run plan (before ++ mid)) x p ≡ Some whole.port = ap (λ (w : World). port_of w x p) (sym (progress-run script (before ++ mid))) ∙ whole.there in
    record { port = whole.port; there = at; has = stream-whole plan (before ++ mid) x p f whole.port can.plan port at whole.bound whole.sure }

pub readers-law : (script : Script) (events : List Event) → ReadersHaveStreams script events
readers-law script events can live well steady before mid rest f is past finished far x p port =
    let so_far = live-far script events live in
    resting-readers-law script events can so_far well before mid rest f x p is (omega (arith, past)) (λ done more at late. steady-rests script events so_far steady x done more at (omega (arith, past, late)))
    (λ done more now at late. steady-hears script events so_far steady x done more now at (omega (arith, past, late))) finished far port
