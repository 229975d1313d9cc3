-- All that is known of a port that reads a fragment, and of the fragment's replicas, where all of them have finished.
use Rattle.std.proofs.Common.{◌≡◌, ℕ, ◌+◌, ◌<◌, ◌≤◌, Bool, true, false, ◌==◌, List, ◌++◌, length, refl, sym, ap, subst, ◌∙◌, arith, Option, Some, slice_get, unwrap_or}
use Rattle.dpc_lists.specs.Lists.{nth, place_of}
use Rattle.dpc_model.specs.Reading.{is_sure}
use Rattle.dpc_model.specs.Inlets.{is_newer}
use Rattle.dpc_model.specs.Actors.{role_of, inputs_of, sends_stream, senders_of, readers_of}
use Rattle.dpc_model.specs.Ports.{Port, sender_at}
use Rattle.dpc_model.specs.Sessions.{tally_of, no_session}
use Rattle.dpc_model.specs.declared.actors.Role.{Role}
use Rattle.dpc_model.specs.declared.actors.Role.TheVariants.{Node as IsNode, Client as IsClient}
use Rattle.dpc_model.specs.declared.sessions.Sub.{Sub}
use Rattle.dpc_model.specs.declared.tuples.Item.{Item}
use Rattle.dpc_model.specs.declared.messages.Event.{Event}
use Rattle.dpc_model.specs.declared.messages.Event.TheVariants.{Tick}
use Rattle.dpc_model.specs.declared.messages.Sess.{Sess}
use Rattle.dpc_model.specs.declared.messages.Subscribe.{Subscribe}
use Rattle.dpc_model.specs.declared.messages.Message.TheVariants as message
use Rattle.dpc_model.specs.declared.plans.Plan.{Plan}
use Rattle.dpc_model.specs.declared.plans.StreamRef.TheVariants.{Frag}
use Rattle.dpc_model.specs.declared.scripts.Script.{Script}
use Rattle.node_model.specs.Mails.{Plain}
use Rattle.node_model.specs.Nodes.{PlainNode, own_readers}
use Rattle.world_model.specs.Worlds.{World, Envelope, home_of, slot_of, run}
use Rattle.world_model.specs.Steady.{OpensWell}
use Rattle.world_model.specs.Safe.{HoldsOf}
use Rattle.world_model.specs.Schedules.{Progress, progress, may_follow, is_live_so_far}
use Rattle.law_safety.specs.Plans.{IsCheckedPlan}
use Rattle.dpc_lists.proofs.Truths.{eq-test}
use Rattle.dpc_lists.proofs.Elements.{some-there}
use Rattle.law_safety.proofs.Numbering.{actors-pass, all-nth}
use Rattle.law_safety.proofs.Happening.{IsFine, node-here}
use Rattle.law_safety.proofs.Emptied.{shape-of}
use Rattle.law_safety.proofs.Law.{run-good}
use Rattle.law_granting.specs.Taken.{port_of}
use Rattle.law_schedules.specs.Journals.{Ticks}
use Rattle.law_schedules.proofs.Journals.{prefix-live, progress-run}
use Rattle.law_schedules.proofs.Timely.{ticks-so}
use Rattle.law_readers.specs.Settling.{CanSettle}
use Rattle.law_readers.specs.Newest.{IsPortOf, subs_of, node_subs, KnowsNoNewer}
use Rattle.law_readers.proofs.Known.{none-newer, run-clients}
use Rattle.law_readers.proofs.Read.{reached-port}
use Rattle.law_readers.proofs.Steps.{port-chosen}
use Rattle.law_settling.specs.Rests.{RestsAt, RestsPast}
use Rattle.law_settling.specs.Finished.{IsFinished}
use Rattle.law_settling.proofs.Along.{IsRunning, running-along}
use Rattle.law_settling.proofs.Steadily.{rests-along}
use Rattle.law_settling.proofs.Opening.{IsAllUp}
use Rattle.law_settling.proofs.Ports.{port-there, clocked-of}
use Rattle.law_settling.proofs.Walking.{may-of}
use Rattle.law_settling.proofs.Splitting.{IsQuietAt}
use Rattle.law_settling_readers.proofs.Answered.{answered-once}
use Rattle.law_settling_readers.proofs.Once.{asks_of, only-one}
use Rattle.law_settling_readers.proofs.Watched.{port-watched}
use Rattle.law_settling_readers.proofs.Whole.{run-holds, took-whole}
use Rattle.law_settling_readers.proofs.Marks.{AreHeard}

-- ---- a reader and the replicas that it reads

-- the replica of this number, as an actor
abbrev pub replica_at : Plan → ℕ → ℕ → ℕ
replica_at plan f i = nth 0 (senders_of plan (Frag f)) i

abbrev pub replicas_in : Plan → ℕ → ℕ
replicas_in plan f = length (senders_of plan (Frag f))

pub record IsReader (plan : Plan) (x p f k : ℕ) : Type 0 where
  pub port : IsPortOf plan x p (Frag f)
  -- the place of the reader at the replicas
  pub placed : place_of (λ b. x == b) (readers_of plan (Frag f)) ≡ Some k
  pub low : k < length (readers_of plan (Frag f))
  pub back : nth 0 (readers_of plan (Frag f)) k ≡ x
  -- each replica is a node, and what comes of it is of this port
  pub replica : (i : ℕ) → i < replicas_in plan f → (r : ℕ) × (role_of plan (replica_at plan f i) ≡ IsNode f r)
  pub sender : (i : ℕ) → i < replicas_in plan f → sender_at plan (inputs_of plan (role_of plan x)) (replica_at plan f i) ≡ Some (p, i)

-- an actor that sends the stream
abbrev pub sends_it : Plan → ℕ → ℕ → Bool
sends_it plan f b = sends_stream (Frag f) (role_of plan b)

-- ---- what is known in a world

pub record Stand (plan : Plan) (x p f k : ℕ) (w : World) : Type 0 where
  pub of_plan : w.plan ≡ plan
  pub line : IsReader w.plan x p f k
  pub most : ℕ
  pub fine : IsFine w most
  pub many : length w.clients ≡ length w.plan.clients
  pub calm : RestsAt w x
  pub up : IsAllUp w
  pub newer : KnowsNoNewer w.plan w x p (Frag f)
  pub done : (a r : ℕ) (n : PlainNode) → role_of w.plan a ≡ IsNode f r → (slot_of w a).node ≡ Some n → IsFinished (home_of w.plan (f, r)) n
  -- the replicas are asked for a session once
  pub once : (u : Sess) (i j : ℕ) (g h : Envelope) → slice_get w.envelopes i ≡ Some g → slice_get w.envelopes j ≡ Some h → asks_of (sends_it w.plan f) x u g ≡ true → asks_of (sends_it w.plan f) x u h ≡ true → i ≡ j
  -- who took all of a replica has the whole
  pub took : (q : Port) (r m : ℕ) (n : PlainNode) → port_of w x p ≡ Some q → q.inlet.broken ≡ false → role_of w.plan (replica_at w.plan f q.chosen) ≡ IsNode f r → (slot_of w (replica_at w.plan f q.chosen)).node ≡ Some n →
      tally_of (nth no_session n.subs k) ≡ Some (q.inlet.sess, m) → m ≤ q.inlet.next → (q.inlet.held.bound ≡ w.plan.end) × (is_sure q.inlet.held ≡ true)
  pub holds : (q : Port) → port_of w x p ≡ Some q → HoldsOf w.plan (Frag f) q.inlet.held
  -- the port knows of each replica
  pub watched : (q : Port) → port_of w x p ≡ Some q → (q.chosen < length q.watches) × (length q.watches ≡ replicas_in w.plan f)

-- a good state, as the port sees it: its reader does not recover, all replicas have finished, and the port has heard so of each
pub record IsSeen (script : Script) (x p f k : ℕ) (z : Progress) : Type 0 where
  pub stand : Stand script.plan x p f k z.world
  pub at : IsQuietAt script z
  pub clocked : (a now : ℕ) → may_follow script z (Tick a now) ≡ true → Ticks z.world a now
  pub port : Port
  pub there : port_of z.world x p ≡ Some port
  pub heard : (q : Port) → port_of z.world x p ≡ Some q → AreHeard q.watches
  -- a client's tuples are kept
  pub kept : (c a r : ℕ) (n : PlainNode) (q : Port) → role_of z.world.plan x ≡ IsClient c → role_of z.world.plan a ≡ IsNode f r → (slot_of z.world a).node ≡ Some n → port_of z.world x p ≡ Some q → n.base ≤ length q.inlet.held.stable

-- ---- from a run

run-took : (script : Script) (events done rest : List Event) (x p f k : ℕ) → IsCheckedPlan script.plan → is_live_so_far script events ≡ true → events ≡ done ++ rest → IsReader script.plan x p f k →
    ((a r : ℕ) (n : PlainNode) → role_of script.plan a ≡ IsNode f r → (slot_of (run script.plan done) a).node ≡ Some n → IsFinished (home_of script.plan (f, r)) n) →
    (q : Port) (r m : ℕ) (n : PlainNode) → port_of (run script.plan done) x p ≡ Some q → q.inlet.broken ≡ false → role_of script.plan (replica_at script.plan f q.chosen) ≡ IsNode f r → (slot_of (run script.plan done) (replica_at script.plan f q.chosen)).node ≡ Some n →
    tally_of (nth no_session n.subs k) ≡ Some (q.inlet.sess, m) → m ≤ q.inlet.next → (q.inlet.held.bound ≡ script.plan.end) × (is_sure q.inlet.held ≡ true)
run-took script events done rest x p f k checked live is line finished q r m n there whole role up tally all =
    let plan = script.plan in
    let w = run plan done in
    let a = replica_at plan f q.chosen in
    let g = run-good plan done checked in
    let sends : sends_stream (Frag f) (role_of plan a) ≡ true = ap (λ (o : Role). sends_stream (Frag f) o) role ∙ eq-test f f refl in
    let answered = answered-once script events checked live x p a (Frag f) q.inlet.sess line.port sends done rest is in
    let role_w : role_of w.plan a ≡ IsNode f r = ap (λ (z : Plan). role_of z a) g.of_plan ∙ role in
    let many = (shape-of (home_of w.plan (f, r)) (1 + length done) n (node-here w (1 + length done) a f r n g.fine role_w up).orderly.shape).subs in
    let many_plan : length n.subs ≡ length (own_readers (home_of plan (f, r))) = many ∙ ap (λ (z : Plan). length (own_readers (home_of z (f, r)))) g.of_plan in
    let low = line.low in
    took-whole plan done x p f r a k answered.0 checked line.port q there whole refl role n up line.back low answered.1 m tally (omega (arith, low, many_plan)) all (finished a r n role up)

pub stand-of : (script : Script) (events done rest : List Event) (x p f k : ℕ) → IsCheckedPlan script.plan → is_live_so_far script events ≡ true → events ≡ done ++ rest → IsReader script.plan x p f k → IsAllUp (run script.plan done) → RestsAt (run script.plan done) x →
    ((a r : ℕ) (n : PlainNode) → role_of script.plan a ≡ IsNode f r → (slot_of (run script.plan done) a).node ≡ Some n → IsFinished (home_of script.plan (f, r)) n) → Stand script.plan x p f k (run script.plan done)
stand-of script events done rest x p f k checked live is line up calm finished =
    let plan = script.plan in
    let w = run plan done in
    let g = run-good plan done checked in
    let same = sym g.of_plan in
    record {
      of_plan = g.of_plan;
      line = subst (λ (z : Plan). IsReader z x p f k) same line;
      most = 1 + length done;
      fine = g.fine;
      many = run-clients plan done ∙ ap (λ (z : Plan). length z.clients) same;
      calm = calm;
      up = up;
      newer = subst (λ (z : Plan). KnowsNoNewer z w x p (Frag f)) same (none-newer plan done checked x p (Frag f) line.port);
      done = subst (λ (z : Plan). (a r : ℕ) (n : PlainNode) → role_of z a ≡ IsNode f r → (slot_of w a).node ≡ Some n → IsFinished (home_of z (f, r)) n) same finished;
      once = λ u i j d e at_i at_j one two.
          only-one plan x p (sends_it plan f) (Frag f) u checked line.port (λ b h. h) done i j d e at_i at_j (subst (λ (z : Plan). asks_of (sends_it z f) x u d ≡ true) g.of_plan one) (subst (λ (z : Plan). asks_of (sends_it z f) x u e ≡ true) g.of_plan two);
      took = subst (λ (z : Plan). (q : Port) (r m : ℕ) (n : PlainNode) → port_of w x p ≡ Some q → q.inlet.broken ≡ false → role_of z (replica_at z f q.chosen) ≡ IsNode f r → (slot_of w (replica_at z f q.chosen)).node ≡ Some n →
          tally_of (nth no_session n.subs k) ≡ Some (q.inlet.sess, m) → m ≤ q.inlet.next → (q.inlet.held.bound ≡ z.end) × (is_sure q.inlet.held ≡ true)) same (run-took script events done rest x p f k checked live is line finished);
      holds = subst (λ (z : Plan). (q : Port) → port_of w x p ≡ Some q → HoldsOf z (Frag f) q.inlet.held) same (λ q there. run-holds plan done x p (Frag f) q checked line.port there);
      watched = λ q there. port-watched w (1 + length done) x p (Frag f) g.fine (run-clients plan done ∙ ap (λ (z : Plan). length z.clients) same) (subst (λ (z : Plan). IsPortOf z x p (Frag f)) same line.port) q there;
    }

-- ---- at each point of a live run at which all replicas have finished

module _ (script : Script) (events done rest : List Event) (x p f k : ℕ) (can : CanSettle script) (line : IsReader script.plan x p f k) (live : is_live_so_far script events ≡ true) (well : OpensWell script events) (floor : ℕ) (late : length script.phases < floor) (rests : RestsPast script events x floor)
    (is : events ≡ done ++ rest) (past : floor < (progress script done).phase)
    (finished : (a r : ℕ) (n : PlainNode) → role_of script.plan a ≡ IsNode f r → (slot_of (run script.plan done) a).node ≡ Some n → IsFinished (home_of script.plan (f, r)) n) where
  running-at : IsRunning script (progress script done)
  running-at = running-along script events live well done rest is (omega (arith, late, past))

  pub stand-at : Stand script.plan x p f k (progress script done).world
  stand-at =
      let world = progress-run script done in
      subst (λ (v : World). Stand script.plan x p f k v) (sym world)
      (stand-of script events done rest x p f k can.plan live is line (subst IsAllUp world running-at.standing.up) (subst (λ (v : World). RestsAt v x) world (rests-along script events x floor live rests done rest is past)) finished)

  pub port-at : (q : Port) × (port_of (progress script done).world x p ≡ Some q)
  port-at = let st = stand-at in port-there (progress script done).world st.most x p (Frag f) st.fine st.up st.line.port.there

  pub quiet-at : IsQuietAt script (progress script done)
  quiet-at = running-at.standing.at

  pub clocked-at : (a now : ℕ) → may_follow script (progress script done) (Tick a now) ≡ true → Ticks (progress script done).world a now
  clocked-at a now may_it =
      subst (λ (v : World). Ticks v a now) (sym (progress-run script done))
      (ticks-so script done a now (clocked-of script can) (prefix-live script done rest (subst (λ (es : List Event). is_live_so_far script es ≡ true) is live)) (may-of script done (Tick a now) may_it))

-- ---- no session is newer than the port's

module _ (plan : Plan) (x p f k : ℕ) (w : World) (st : Stand plan x p f k w) (q : Port) (there : port_of w x p ≡ Some q) where
  pub replica-sends : (i : ℕ) → i < replicas_in w.plan f → sends_it w.plan f (replica_at w.plan f i) ≡ true
  replica-sends i low = all-nth (λ (b : ℕ). sends_stream (Frag f) (role_of w.plan b)) 0 (senders_of w.plan (Frag f)) i low (actors-pass (sends_stream (Frag f)) w.plan)

  pub chosen-low : q.chosen < replicas_in w.plan f
  chosen-low = port-chosen w st.most x p (Frag f) st.fine st.many st.line.port q there

  pub old-ask : (j : ℕ) (g : Envelope) (v : Subscribe) → slice_get w.envelopes j ≡ Some g → g.sender ≡ x → sends_it w.plan f g.to ≡ true → g.packet ≡ Plain (message.Subscribe v) → is_newer v.sess q.inlet.sess ≡ false
  old-ask j g v sent sender to packet = reached-port w x p (role_of w.plan x) v.sess q (st.newer.asked j g v sent sender to packet) there

  pub old-batch : (j i : ℕ) (g : Envelope) (v : Sess) (items : List Item) → slice_get w.envelopes j ≡ Some g → sends_it w.plan f g.sender ≡ true → g.to ≡ x → g.packet ≡ Plain (message.Batch v i items) → is_newer v q.inlet.sess ≡ false
  old-batch j i g v items sent sender to packet = reached-port w x p (role_of w.plan x) v q (st.newer.batches j i g v items sent to sender packet) there

  pub old-truncation : (j base : ℕ) (g : Envelope) (v : Sess) → slice_get w.envelopes j ≡ Some g → sends_it w.plan f g.sender ≡ true → g.to ≡ x → g.packet ≡ Plain (message.Truncated v base) → is_newer v q.inlet.sess ≡ false
  old-truncation j base g v sent sender to packet = reached-port w x p (role_of w.plan x) v q (st.newer.truncated j base g v sent to sender packet) there

  pub old-kept : (i r : ℕ) (n : PlainNode) (v : Sess) → i < replicas_in w.plan f → role_of w.plan (replica_at w.plan f i) ≡ IsNode f r → (slot_of w (replica_at w.plan f i)).node ≡ Some n → (nth no_session n.subs k).kept ≡ Some v → is_newer v q.inlet.sess ≡ false
  old-kept i r n v low role up kept =
      let a = replica_at w.plan f i in
      let many = (shape-of (home_of w.plan (f, r)) st.most n (node-here w st.most a f r n st.fine role up).orderly.shape).subs in
      let placed = st.line.low in
      let found = some-there n.subs k (omega (arith, many, placed)) in
      let it : found.0 ≡ nth no_session n.subs k = sym (ap (λ (o : Option Sub). unwrap_or o no_session) found.1) in
      let at : slice_get (subs_of w a (role_of w.plan a)) k ≡ Some (nth no_session n.subs k) = ap (λ (o : Role). slice_get (subs_of w a o) k) role ∙ ap (λ (o : Option PlainNode). slice_get (node_subs o) k) up ∙ found.1 ∙ ap {B = Option Sub} Some it in
      reached-port w x p (role_of w.plan x) v q (st.newer.kept a k (nth no_session n.subs k) v (replica-sends i low) at st.line.back kept) there
