-- A reader of a fragment, and what is known of it along a live run: from some phases on past the replicas' finish it has its whole stream.
use Rattle.std.proofs.Common.{◌≡◌, ℕ, ◌+◌, ◌*◌, ◌<◌, ◌≤◌, Bool, true, cond, List, ◌++◌, length, refl, sym, ap, subst, ◌∙◌, arith, Option, Some, None, slice_get, unwrap_or}
use Rattle.dpc_lists.specs.Lists.{nth}
use Rattle.dpc_model.specs.Actors.{role_of, inputs_of, same_stream, sends_stream, senders_of, readers_of}
use Rattle.dpc_model.specs.Ports.{Port}
use Rattle.dpc_model.specs.declared.actors.Role.{Role}
use Rattle.dpc_model.specs.declared.actors.Role.TheVariants.{Source as IsSource, Node as IsNode, Client as IsClient, Nobody}
use Rattle.dpc_model.specs.declared.messages.Event.{Event}
use Rattle.dpc_model.specs.declared.plans.Plan.{Plan}
use Rattle.dpc_model.specs.declared.plans.StreamRef.{StreamRef}
use Rattle.dpc_model.specs.declared.plans.StreamRef.TheVariants.{Source, Frag}
use Rattle.dpc_model.specs.declared.scripts.Script.{Script}
use Rattle.node_model.specs.Nodes.{PlainNode}
use Rattle.node_model.specs.Clients.{client_stream}
use Rattle.world_model.specs.Worlds.{World, home_of, slot_of, client_at, run}
use Rattle.world_model.specs.Schedules.{progress, is_live_so_far}
use Rattle.world_model.specs.Steady.{OpensWell}
use Rattle.law_safety.specs.Plans.{IsCheckedPlan}
use Rattle.dpc_lists.proofs.Truths.{eq-of, eq-test}
use Rattle.dpc_lists.proofs.Elements.{some-there}
use Rattle.dpc_lists.proofs.Somes.{some-same}
use Rattle.law_safety.proofs.Numbering.{actors-pass, all-nth, any-at}
use Rattle.law_safety.proofs.Growing.{run-plan}
use Rattle.law_granting.specs.Taken.{role_port, port_of}
use Rattle.law_granting.proofs.Prefix.{reader-found}
use Rattle.law_schedules.proofs.Journals.{progress-run}
use Rattle.law_readers.specs.Newest.{IsPortOf}
use Rattle.law_readers.specs.Settling.{CanSettle}
use Rattle.law_readers.proofs.Kept.{clients-kept}
use Rattle.law_session_origins.specs.Numbers.{ReadsOnce}
use Rattle.law_session_origins.proofs.OnePort.{finds-senders}
use Rattle.law_settling.specs.Rests.{RestsPast}
use Rattle.law_settling.specs.Finished.{IsFinished}
use Rattle.law_settling.proofs.Fresh.{HasWhole}
use Rattle.law_settling.proofs.Lines.{place-found, place-low}
use Rattle.law_settling.proofs.PortSteps.{client-inputs}
use Rattle.law_settling.proofs.Travels.{arrives}
use Rattle.law_settling_readers.proofs.Marks.{AreHeard}
use Rattle.law_settling_readers.proofs.Reading.{replica_at, replicas_in, IsReader, IsSeen, stand-at, port-at, quiet-at, clocked-at}
use Rattle.law_settling_readers.proofs.Staged.{Stage, reading_stages, top-stage, whole-last, stages-lead}

-- an actor that sends a fragment's stream is one of its replicas
sender-node : (plan : Plan) (f a : ℕ) → sends_stream (Frag f) (role_of plan a) ≡ true → (r : ℕ) × (role_of plan a ≡ IsNode f r)
sender-node plan f a h = by-role (role_of plan a) refl h
  where
    by-role : (role : Role) → role_of plan a ≡ role → sends_stream (Frag f) role ≡ true → (r : ℕ) × (role_of plan a ≡ IsNode f r)
    by-role (IsSource s) e k = cc
    by-role (IsClient c) e k = cc
    by-role Nobody e k = cc
    by-role (IsNode g r) e k = (r, e ∙ ap (λ (i : ℕ). IsNode i r) (sym (eq-of f g k)))

-- the only port of a fragment's stream has its place at each replica
pub reader-of : (plan : Plan) (x p f : ℕ) → ReadsOnce plan → IsPortOf plan x p (Frag f) → (k : ℕ) × IsReader plan x p f k
reader-of plan x p f once port =
    let it_reads = reader-found plan (Frag f) x (any-at (same_stream (Frag f)) (inputs_of plan (role_of plan x)) p (Frag f) port.there (eq-test f f refl)) in
    let reader = place-found x (readers_of plan (Frag f)) it_reads.place it_reads.low it_reads.it in
    let known = place-low x (readers_of plan (Frag f)) reader.0 reader.1 in (
      reader.0,
      record {
        port = port;
        placed = reader.1;
        low = known.0;
        back = known.1;
        replica = λ i low. sender-node plan f (replica_at plan f i) (all-nth (λ (b : ℕ). sends_stream (Frag f) (role_of plan b)) 0 (senders_of plan (Frag f)) i low (actors-pass (sends_stream (Frag f)) plan));
        sender = λ i low.
            let found = some-there (senders_of plan (Frag f)) i low in
            let it : found.0 ≡ replica_at plan f i = sym (ap (λ (o : Option ℕ). unwrap_or o 0) found.1) in
            finds-senders plan once x p i (replica_at plan f i) (Frag f) port.there (found.1 ∙ ap {B = Option ℕ} Some it);
      },
    )

-- a client holds what a replica of its fragment forgot
kept-here : (plan : Plan) (events : List Event) (x p f c a r : ℕ) (n : PlainNode) (q : Port) → IsCheckedPlan plan → IsPortOf plan x p (Frag f) → role_of plan x ≡ IsClient c → role_of plan a ≡ IsNode f r → (slot_of (run plan events) a).node ≡ Some n →
    role_port (run plan events) x p (IsClient c) ≡ Some q → n.base ≤ length q.inlet.held.stable
kept-here plan events x p f c a r n q checked port client role up there =
    let reads = client-inputs plan.clients c p (Frag f) (subst (λ (o : Role). slice_get (inputs_of plan o) p ≡ Some (Frag f)) client port.there) in
    let stream : client_stream plan c ≡ Frag f = ap (λ (ss : List StreamRef). nth (Source 0) ss 0) reads.1 in
    let base = (clients-kept plan events checked x c f (record { client = client; stream = stream })).bases a r n role up in
    subst (λ (z : Port). n.base ≤ length z.inlet.held.stable) (by-place reads.0 there) base
  where
    by-place : p ≡ 0 → role_port (run plan events) x p (IsClient c) ≡ Some q → (client_at (run plan events) c).port ≡ q
    by-place first e = some-same (client_at (run plan events) c).port q (ap (λ (b : Bool). cond {A = Option Port} b (Some (client_at (run plan events) c).port) None) (sym (eq-test p 0 first)) ∙ e)

module _ (script : Script) (events : List Event) (x p f k base : ℕ) (can : CanSettle script) (line : IsReader script.plan x p f k) (live : is_live_so_far script events ≡ true) (well : OpensWell script events) (past : length script.phases < base) (rests : RestsPast script events x base)
    (finished : (done rest : List Event) → events ≡ done ++ rest → base < (progress script done).phase → (a r : ℕ) (n : PlainNode) → role_of script.plan a ≡ IsNode f r → (slot_of (run script.plan done) a).node ≡ Some n → IsFinished (home_of script.plan (f, r)) n)
    (heard : (done rest : List Event) → events ≡ done ++ rest → base < (progress script done).phase → (q : Port) → port_of (progress script done).world x p ≡ Some q → AreHeard q.watches) where
  -- a state in which all replicas have finished, and the port heard so
  seen-at : (done rest : List Event) → events ≡ done ++ rest → base < (progress script done).phase → IsSeen script x p f k (progress script done)
  seen-at done rest is far =
      let plan = script.plan in
      let w = run plan done in
      let fin = finished done rest is far in
      let st = stand-at script events done rest x p f k can line live well base past rests is far fin in
      let port = port-at script events done rest x p f k can line live well base past rests is far fin in
      let world = progress-run script done in
      record {
        stand = st;
        at = quiet-at script events done rest x p f k can line live well base past rests is far fin;
        clocked = clocked-at script events done rest x p f k can line live well base past rests is far fin;
        port = port.0;
        there = port.1;
        heard = heard done rest is far;
        kept = subst (λ (v : World). AreKept v.plan v) (sym world)
            (subst (λ (pl : Plan). AreKept pl w) (sym (run-plan plan done)) (λ c a r n q client role at there. kept-here plan done x p f c a r n q can.plan line.port client role at (ap (λ (o : Role). role_port w x p o) (sym client) ∙ there)));
      }
    where
      AreKept : Plan → World → Type 0
      AreKept pl w = (c a r : ℕ) (n : PlainNode) (q : Port) → role_of pl x ≡ IsClient c → role_of pl a ≡ IsNode f r → (slot_of w a).node ≡ Some n → role_port w x p (role_of pl x) ≡ Some q → n.base ≤ length q.inlet.held.stable

  -- 3R + 9 phases later the whole is there
  pub whole-late : (done rest : List Event) → events ≡ done ++ rest → base + 3 * replicas_in script.plan f + 9 ≤ (progress script done).phase → HasWhole script x p (progress script done)
  whole-late done rest is far =
      whole-last script x p f k (progress script done)
      (arrives script events live well (IsSeen script x p f k) (Stage script x p f k) (reading_stages script x p f k) base (stages-lead script x p f k) past
      (λ done rest at far. seen-at done rest at far) (λ z seen. top-stage script x p f k z seen.port seen.there) done rest is (omega (arith, far)))
