-- What a port is to be, part by part.
use Rattle.std.proofs.Common.{◌≡◌, ℕ, ◌<◌, ◌≤◌, Bool, true, ◌==◌, nat_lt, nat_le, List, [], ◌∷◌, ◌++◌, map, length, refl}
use Rattle.dpc_lists.specs.Lists.{list_all, IsPrefixOf}
use Rattle.dpc_model.specs.Columns.{stream_columns}
use Rattle.dpc_model.specs.Fragments.{ideal}
use Rattle.dpc_model.specs.Actors.{senders_of}
use Rattle.dpc_model.specs.Ports.{Port, held_at}
use Rattle.dpc_model.specs.declared.tuples.Tuple.{Tuple}
use Rattle.dpc_model.specs.declared.plans.Plan.{Plan}
use Rattle.dpc_model.specs.declared.plans.StreamRef.{StreamRef}
use Rattle.node_model.specs.Nodes.{Home, PlainNode, streams_of, held_by}
use Rattle.world_model.specs.Safe.{EachHolds, IsSafeNode}
use Rattle.world_model.specs.Orderly.{is_port_sound, are_ports_sound, is_tentative_past, fits_stream, has_columns, port_columns, IsOrderlyNode}
use Rattle.law_safety.specs.Plans.{IsChecked}
use Rattle.dpc_lists.proofs.Truths.{both, both-of, le-of, le-test, lt-of, lt-test, eq-of, eq-test, all-append, all-weaker}
use Rattle.law_safety.proofs.Columns.{ideal-fits}
use Rattle.law_safety.proofs.Serials.{AreColumns}

pub record IsSoundPort (plan : Plan) (s : StreamRef) (i most : ℕ) (p : Port) : Type 0 where
  pub past : is_tentative_past plan p.inlet.held ≡ true
  pub inc : p.inlet.sess.inc ≡ i
  pub number : p.inlet.sess.number ≤ most
  pub watches : length p.watches ≡ length (senders_of plan s)
  pub chosen : p.chosen < length p.watches
  pub fits : list_all (fits_stream plan s) p.inlet.held.tentative ≡ true

pub port-of : (plan : Plan) (s : StreamRef) (i most : ℕ) (p : Port) → is_port_sound plan s i most p ≡ true → IsSoundPort plan s i most p
port-of plan s i most p h =
    let a = both _ (list_all (fits_stream plan s) p.inlet.held.tentative) h in
    let b = both _ (nat_lt p.chosen (length p.watches)) a.0 in
    let c = both _ (length p.watches == length (senders_of plan s)) b.0 in
    let d = both _ (nat_le p.inlet.sess.number most) c.0 in
    let e = both (is_tentative_past plan p.inlet.held) (p.inlet.sess.inc == i) d.0 in
    record {
      past = e.0;
      inc = eq-of p.inlet.sess.inc i e.1;
      number = le-of p.inlet.sess.number most d.1;
      watches = eq-of (length p.watches) (length (senders_of plan s)) c.1;
      chosen = lt-of p.chosen (length p.watches) b.1;
      fits = a.1;
    }

pub port-test : (plan : Plan) (s : StreamRef) (i most : ℕ) (p : Port) → IsSoundPort plan s i most p → is_port_sound plan s i most p ≡ true
port-test plan s i most p h =
    both-of _ (list_all (fits_stream plan s) p.inlet.held.tentative)
    (both-of _ (nat_lt p.chosen (length p.watches))
    (both-of _ (length p.watches == length (senders_of plan s))
    (both-of _ (nat_le p.inlet.sess.number most)
    (both-of (is_tentative_past plan p.inlet.held) (p.inlet.sess.inc == i) h.past (eq-test p.inlet.sess.inc i h.inc))
    (le-test p.inlet.sess.number most h.number)) (eq-test (length p.watches) (length (senders_of plan s)) h.watches)) (lt-test p.chosen (length p.watches) h.chosen)) h.fits

all-front : {X : Type 0} (q : X → Bool) (xs ys : List X) → list_all q (xs ++ ys) ≡ true → list_all q xs ≡ true
all-front q [] ys h = refl
all-front q (x ∷ xs) ys h = let p = both (q x) (list_all q (xs ++ ys)) h in both-of (q x) (list_all q xs) p.0 (all-front q xs ys p.1)

-- what a reader holds stably fits its stream
pub held-fits : (plan : Plan) (s : StreamRef) (ts : List Tuple) → IsChecked plan → IsPrefixOf ts (ideal plan s) → list_all (fits_stream plan s) ts ≡ true
held-fits plan s ts checked p = all-front (fits_stream plan s) ts p.0 (rw p.1 at (ideal-fits plan s checked))

columns-of : (plan : Plan) (s : StreamRef) (ts : List Tuple) → list_all (fits_stream plan s) ts ≡ true → list_all (has_columns (stream_columns plan s)) ts ≡ true
columns-of plan s ts h = all-weaker (has_columns (stream_columns plan s)) (fits_stream plan s) ts (λ t k. (both (nat_lt t.stime plan.end) (has_columns (stream_columns plan s) t) k).1) h

pub ports-columns : (plan : Plan) (i most : ℕ) (ss : List StreamRef) (ports : List Port) → IsChecked plan → EachHolds plan ss (map held_at ports) → are_ports_sound plan i most ss ports ≡ true →
    AreColumns (map (stream_columns plan) ss) (map held_at ports)
ports-columns plan i most [] [] checked h k = tt
ports-columns plan i most [] (p ∷ ports) checked h k = absurd h
ports-columns plan i most (s ∷ ss) [] checked h k = absurd h
ports-columns plan i most (s ∷ ss) (p ∷ ports) checked h k =
    let d = both (is_port_sound plan s i most p) (are_ports_sound plan i most ss ports) k in
    let sound = port-of plan s i most p d.0 in (
      all-append (has_columns (stream_columns plan s)) p.inlet.held.stable p.inlet.held.tentative
          (columns-of plan s p.inlet.held.stable (held-fits plan s p.inlet.held.stable checked h.0.stable))
          (columns-of plan s p.inlet.held.tentative sound.fits),
      ports-columns plan i most ss ports checked h.1 d.1,
    )

pub node-columns : (home : Home) (most : ℕ) (n : PlainNode) → IsChecked home.plan → IsSafeNode home n → IsOrderlyNode home most n → AreColumns (port_columns home) (held_by n)
node-columns home most n checked safe o = ports-columns home.plan n.grants.inc most (streams_of home) n.ports checked safe.inputs o.ports
