-- Nodes that begin: with a snapshot, afresh, at the opening and after a restart; and what snapshots are true.
use Rattle.std.proofs.Common.{◌≡◌, ℕ, zero, suc, ◌*◌, ◌≤◌, min, true, false, ◌==◌, List, [], ◌∷◌, map, length, refl, ap, ◌∙◌, arith, Option, None}
use Rattle.std.specs.Prelude.{replicate}
use Rattle.std.proofs.lemmas.List.{length-map}
use Rattle.std.proofs.Math.Nat.{le-div_iff_mul-le}
use Rattle.dpc_lists.specs.Lists.{list_all, least}
use Rattle.dpc_model.specs.Fragments.{ideal, ideal_upto}
use Rattle.dpc_model.specs.Reading.{Reader, stable_reader}
use Rattle.dpc_model.specs.Granting.{Key}
use Rattle.dpc_model.specs.Inlets.{InletState, new_inlet, restarted_inlet, sess_of}
use Rattle.dpc_model.specs.Replicas.{new_watch}
use Rattle.dpc_model.specs.Actors.{senders_of}
use Rattle.dpc_model.specs.Ports.{Port, held_at, port_at}
use Rattle.dpc_model.specs.Sessions.{Acked, with_session_shut, no_session}
use Rattle.dpc_model.specs.declared.plans.Plan.{Plan}
use Rattle.dpc_model.specs.declared.plans.StreamRef.{StreamRef}
use Rattle.dpc_model.proofs.IdealCausality.{cut-ideal}
use Rattle.dpc_model.proofs.Prefixes.{cut-beginning}
use Rattle.node_model.specs.Mails.{Snap}
use Rattle.node_model.specs.Nodes.{Home, PlainNode, spec_of, streams_of, own_readers, held_by, out_stable, new_node, restarted_node, first_session}
use Rattle.node_model.specs.NodeSteps.{emptied_port, adopted_ports, after_adoption, with_fresh_start, snapshot}
use Rattle.world_model.specs.Safe.{HoldsOf, EachHolds, EachReaches, IsSafeNode, IsTrueSnap}
use Rattle.world_model.specs.Orderly.{is_port_sound, are_ports_sound}
use Rattle.law_safety.proofs.Outputs.{out_stable-ideal, ideal-InOrder, inputs-held}
use Rattle.law_safety.proofs.Milling.{reaches-end}
use Rattle.law_safety.specs.Plans.{IsChecked, IsPlace, has_senders}
use Rattle.dpc_lists.proofs.Truths.{both, both-of, le-test, lt-of, eq-of, all-map}
use Rattle.law_safety.proofs.SoundPorts.{port-test}
use Rattle.law_safety.proofs.Closing.{closed-test, none-closed}
use Rattle.law_safety.proofs.Processing.{holds-length}
use Rattle.law_safety.proofs.Frames.{IsGood, is_empty_port}
use Rattle.law_safety.proofs.Emptied.{shape-of, shape-test, emptied-of, emptied-test, no_ack, is_shut, empty-holds, emptied-sound}

-- every port reaches the beginning of time
reaches-zero : (rs : List Reader) → EachReaches 0 rs
reaches-zero [] = tt
reaches-zero (r ∷ rs) = (omega arith, reaches-zero rs)

-- the least number acknowledged where nothing was
least-none : (acks : List Acked) → list_all no_ack acks ≡ true → least 0 (map (λ (a : Acked). a.1) acks) ≡ 0
least-none [] h = refl
least-none (a ∷ []) h = eq-of a.1 0 (both (a.0 == 0) (a.1 == 0) (both (no_ack a) true h).0).1
least-none (a ∷ b ∷ acks) h =
    let first = eq-of a.1 0 (both (a.0 == 0) (a.1 == 0) (both (no_ack a) (list_all no_ack (b ∷ acks)) h).0).1 in omega (arith, first)

-- ---- afresh

pub fresh-good : (home : Home) (most : ℕ) (n : PlainNode) → IsPlace home → n.recovering ≡ true → IsGood home most n → IsGood home most (with_fresh_start n)
unfolding out_stable
fresh-good home most n place down g =
    let o = g.orderly in
    let e = emptied-of n down o.recovering in
    let zero_time : n.cursor * home.plan.width ≡ 0 = rw e.cursor (omega arith) in
    let reaches : EachReaches (n.cursor * home.plan.width) (held_by n) = rw zero_time (reaches-zero (held_by n)) in
    record {
      safe = record {
        inputs = g.safe.inputs;
        output = λ _. record {
          reaches = reaches;
          base = let none = e.base in omega (arith, none);
          output = out_stable-ideal home (with_fresh_start n) place.checked.sound place.there g.safe.inputs reaches;
        };
      };
      orderly = record {
        ports = o.ports;
        state = rw e.closed refl;
        recovering = refl;
        closed = o.closed;
        stamps = o.stamps;
        base = λ _. le-test (min (least 0 (map (λ (a : Acked). a.1) n.acks)) _) n.base (let none = least-none n.acks e.acks in omega (arith, none));
        shape = o.shape;
      };
    }

-- ---- a snapshot

ideal-holds : (plan : Plan) (s : StreamRef) (b : ℕ) → IsChecked plan → b ≤ plan.end → HoldsOf plan s (stable_reader (ideal_upto plan s b) b)
ideal-holds plan s b checked within =
    record {
      stable = rw (← cut-ideal plan s b checked.sound.ops within) (cut-beginning b (ideal plan s) (ideal-InOrder plan s checked.sound));
      within = within;
      bound = omega arith;
    }

adopted-holds : (plan : Plan) (b : ℕ) → IsChecked plan → b ≤ plan.end → (ss : List StreamRef) (ports : List Port) → EachHolds plan ss (map held_at ports) →
    EachHolds plan ss (map held_at (adopted_ports b (map (λ s. ideal_upto plan s b) ss) ports))
adopted-holds plan b checked within [] [] h = tt
adopted-holds plan b checked within [] (p ∷ ports) h = absurd h
adopted-holds plan b checked within (s ∷ ss) [] h = absurd h
adopted-holds plan b checked within (s ∷ ss) (p ∷ ports) h = (ideal-holds plan s b checked within, adopted-holds plan b checked within ss ports h.1)

adopted-reaches : (plan : Plan) (b : ℕ) (ss : List StreamRef) (ports : List Port) → EachHolds plan ss (map held_at ports) → EachReaches b (map held_at (adopted_ports b (map (λ s. ideal_upto plan s b) ss) ports))
adopted-reaches plan b [] [] h = tt
adopted-reaches plan b [] (p ∷ ports) h = absurd h
adopted-reaches plan b (s ∷ ss) [] h = absurd h
adopted-reaches plan b (s ∷ ss) (p ∷ ports) h = (omega arith, adopted-reaches plan b ss ports h.1)

adopted-sound : (plan : Plan) (i most b : ℕ) (ss : List StreamRef) (ports : List Port) → are_ports_sound plan i most ss ports ≡ true → are_ports_sound plan i most ss (adopted_ports b (map (λ s. ideal_upto plan s b) ss) ports) ≡ true
adopted-sound plan i most b [] [] h = refl
adopted-sound plan i most b [] (p ∷ ports) h = cc
adopted-sound plan i most b (s ∷ ss) [] h = cc
adopted-sound plan i most b (s ∷ ss) (p ∷ ports) h =
    let k = both (is_port_sound plan s i most p) (are_ports_sound plan i most ss ports) h in
    both-of (is_port_sound plan s i most (emptied_port (ideal_upto plan s b) b p)) _ (emptied-sound plan s i most b (ideal_upto plan s b) p k.0) (adopted-sound plan i most b ss ports k.1)

pub adopted-good : (home : Home) (most : ℕ) (s : Snap) (n : PlainNode) → IsPlace home → n.recovering ≡ true → IsTrueSnap home.plan home.frag s → IsGood home most n → IsGood home most (after_adoption home s n)
unfolding after_adoption
adopted-good home most s n place down truth g =
    let m = after_adoption home s n in
    let b = s.cursor * home.plan.width in
    let o = g.orderly in
    let e = emptied-of n down o.recovering in
    let k = shape-of home most n o.shape in
    let holds : EachHolds home.plan (streams_of home) (held_by m) = rw truth.inputs (adopted-holds home.plan b place.checked truth.within (streams_of home) n.ports g.safe.inputs) in
    let reaches : EachReaches b (held_by m) = rw truth.inputs (adopted-reaches home.plan b (streams_of home) n.ports g.safe.inputs) in
    let output = out_stable-ideal home m place.checked.sound place.there holds reaches in
    record {
      safe = record {
        inputs = holds;
        output = λ _. record { reaches = reaches; base = rw output truth.base; output = output };
      };
      orderly = record {
        ports = rw truth.inputs (adopted-sound home.plan n.grants.inc most b (streams_of home) n.ports o.ports);
        state = refl;
        recovering = refl;
        closed = closed-test home m (none-closed home s.cursor ((le-div_iff_mul-le {k = home.plan.width} {x = s.cursor} {y = home.plan.end} place.checked.width).1 truth.within));
        stamps = refl;
        base = λ _. le-test (min (least 0 (map (λ (a : Acked). a.1) n.acks)) _) s.base (let none = least-none n.acks e.acks in omega (arith, none));
        shape = shape-test home most m (record { subs = length-map n.subs with_session_shut ∙ k.subs; acks = k.acks; peers = k.peers; heard = k.heard; me = k.me; tries = k.tries; over = k.over });
      };
    }

-- a snapshot that a node sends is true
pub snapshot-true : (home : Home) (n : PlainNode) → IsPlace home → n.recovering ≡ false → IsSafeNode home n → IsTrueSnap home.plan home.frag (snapshot home n)
snapshot-true home n place up safe =
    let o = safe.output up in
    let b = n.cursor * home.plan.width in
    let same = holds-length home.plan (streams_of home) (held_by n) safe.inputs in
    let some = place.reads in
    record {
      within = reaches-end home.plan b (streams_of home) (held_by n) (omega (arith, same, some)) safe.inputs o.reaches;
      inputs = inputs-held home.plan b place.checked.sound (streams_of home) n.ports safe.inputs o.reaches;
      base = rw o.output at o.base;
    }

-- ---- the opening, and a restart

-- ports of an inlet that holds nothing
new-holds : (plan : Plan) (inlet : InletState) → IsChecked plan → inlet.held ≡ stable_reader [] 0 → (ss : List StreamRef) → EachHolds plan ss (map held_at (map (port_at plan inlet) ss))
new-holds plan inlet checked none [] = tt
new-holds plan inlet checked none (s ∷ ss) = (rw none (empty-holds plan s checked), new-holds plan inlet checked none ss)

pub new-sound : (plan : Plan) (i most : ℕ) (inlet : InletState) → inlet.held ≡ stable_reader [] 0 → inlet.sess.inc ≡ i → inlet.sess.number ≤ most → (ss : List StreamRef) → list_all (has_senders plan) ss ≡ true →
    are_ports_sound plan i most ss (map (port_at plan inlet) ss) ≡ true
new-sound plan i most inlet none inc number [] sent = refl
new-sound plan i most inlet none inc number (s ∷ ss) sent =
    let p = both (has_senders plan s) (list_all (has_senders plan) ss) sent in
    let many : length (map (λ _. new_watch) (senders_of plan s)) ≡ length (senders_of plan s) = length-map (senders_of plan s) (λ _. new_watch) in
    let some = lt-of 0 (length (senders_of plan s)) p.0 in
    both-of (is_port_sound plan s i most (port_at plan inlet s)) (are_ports_sound plan i most ss (map (port_at plan inlet) ss))
    (port-test plan s i most (port_at plan inlet s) (record {
      past = rw none refl;
      inc = inc;
      number = number;
      watches = many;
      chosen = omega (arith, many, some);
      fits = rw none refl;
    })) (new-sound plan i most inlet none inc number ss p.1)

empty-ports : (plan : Plan) (i : ℕ) (ss : List StreamRef) → list_all is_empty_port (map (port_at plan (restarted_inlet (stable_reader [] 0) (sess_of i 0))) ss) ≡ true
empty-ports plan i ss = all-map is_empty_port (port_at plan (restarted_inlet (stable_reader [] 0) (sess_of i 0))) ss (λ s. refl)

length-replicate : {X : Type 0} (n : ℕ) (x : X) → length (replicate n x) ≡ n
length-replicate zero x = refl
length-replicate (suc n) x = ap suc (length-replicate n x)

pub restarted-good : (home : Home) (most i : ℕ) → IsPlace home → IsGood home most (restarted_node home i)
unfolding restarted_node
restarted-good home most i place =
    let m = restarted_node home i in
    let inlet = restarted_inlet (stable_reader [] 0) (sess_of i 0) in
    record {
      safe = record { inputs = new-holds home.plan inlet place.checked refl (streams_of home); output = λ e. cc };
      orderly = record {
        ports = new-sound home.plan i most inlet refl refl (omega arith) (streams_of home) place.sent;
        state = refl;
        recovering = emptied-test m (record {
          state = refl;
          ports = empty-ports home.plan i (streams_of home);
          stamps = refl;
          closed = refl;
          cursor = refl;
          base = refl;
          acks = all-map no_ack (λ _. (0, 0)) (own_readers home) (λ a. refl);
          subs = all-map is_shut (λ _. no_session) (own_readers home) (λ a. refl);
          running = refl;
        });
        closed = closed-test home m (none-closed home 0 (omega arith));
        stamps = refl;
        base = λ e. cc;
        shape = shape-test home most m (record {
          subs = length-map (own_readers home) (λ _. no_session);
          acks = length-map (own_readers home) (λ _. (0, 0));
          peers = length-replicate (spec_of home).replicas new_watch;
          heard = length-replicate {X = Option Key} (spec_of home).replicas None;
          me = refl;
          tries = omega arith;
          over = omega arith;
        });
      };
    }

pub new-good : (home : Home) (most : ℕ) → IsPlace home → 1 ≤ most → IsGood home most (new_node home)
unfolding new_node out_stable
new-good home most place few =
    let m = new_node home in
    let inlet = new_inlet 1 in
    let holds = new-holds home.plan inlet place.checked refl (streams_of home) in
    let zero_time : 0 * home.plan.width ≡ 0 = omega arith in
    let reaches : EachReaches (0 * home.plan.width) (held_by m) = rw zero_time (reaches-zero (held_by m)) in
    record {
      safe = record {
        inputs = holds;
        output = λ _. record { reaches = reaches; base = omega arith; output = out_stable-ideal home m place.checked.sound place.there holds reaches };
      };
      orderly = record {
        ports = new-sound home.plan 1 most inlet refl refl few (streams_of home) place.sent;
        state = refl;
        recovering = refl;
        closed = closed-test home m (none-closed home 0 (omega arith));
        stamps = refl;
        base = λ _. le-test (min (least 0 (map (λ (a : Acked). a.1) m.acks)) _) 0 (let none = least-none m.acks (all-map no_ack (λ _. (0, 0)) (own_readers home) (λ a. refl)) in omega (arith, none));
        shape = shape-test home most m (record {
          subs = length-map (own_readers home) (λ _. first_session home);
          acks = length-map (own_readers home) (λ _. (0, 0));
          peers = length-replicate (spec_of home).replicas new_watch;
          heard = length-replicate {X = Option Key} (spec_of home).replicas None;
          me = refl;
          tries = omega arith;
          over = omega arith;
        });
      };
    }
