-- One port of a node is changed.
use Rattle.std.proofs.Common.{◌≡◌, ℕ, zero, suc, ◌+◌, ◌*◌, ◌≤◌, true, ◌==◌, List, [], ◌∷◌, map, refl, sym, ap, ◌∙◌, arith, Some, None, slice_get}
use Rattle.dpc_lists.specs.Lists.{changed, place_of}
use Rattle.dpc_model.specs.Actors.{senders_of}
use Rattle.dpc_model.specs.Ports.{Port, held_at, sender_from, sender_at}
use Rattle.dpc_model.specs.Fragments.{ideal_upto}
use Rattle.dpc_model.specs.declared.plans.Plan.{Plan}
use Rattle.dpc_model.specs.declared.plans.StreamRef.{StreamRef}
use Rattle.dpc_model.specs.declared.plans.StreamRef.TheVariants.{Frag}
use Rattle.node_model.specs.Nodes.{Home, PlainNode, streams_of, held_by, out_stable}
use Rattle.world_model.specs.Safe.{HoldsOf, EachHolds, EachReaches, IsSafeNode}
use Rattle.world_model.specs.Orderly.{is_port_sound, are_ports_sound}
use Rattle.law_safety.proofs.Outputs.{out_stable-ideal}
use Rattle.law_safety.specs.Plans.{IsPlace}
use Rattle.dpc_lists.proofs.Truths.{both, both-of}
use Rattle.dpc_lists.proofs.Somes.{some-each}

-- a change that changes nothing
pub changed-same : {X : Type 0} (i : ℕ) (f : X → X) (xs : List X) → ((x : X) → slice_get xs i ≡ Some x → f x ≡ x) → changed i f xs ≡ xs
changed-same i f [] h = refl
changed-same zero f (x ∷ xs) h = ap (λ y. y ∷ xs) (h x refl)
changed-same (suc i) f (x ∷ xs) h = ap (λ ys. x ∷ ys) (changed-same i f xs h)

-- an element of as many as the others
pub port-at : (plan : Plan) (i most p : ℕ) (s : StreamRef) (ss : List StreamRef) (ports : List Port) → are_ports_sound plan i most ss ports ≡ true → slice_get ss p ≡ Some s →
    (q : Port) × (slice_get ports p ≡ Some q) × (is_port_sound plan s i most q ≡ true)
port-at plan i most p s [] ports h e = cc
port-at plan i most p s (u ∷ ss) [] h e = cc
port-at plan i most zero s (u ∷ ss) (q ∷ ports) h e =
    let same : u ≡ s = cc in (q, refl, rw same at (both (is_port_sound plan u i most q) (are_ports_sound plan i most ss ports) h).0)
port-at plan i most (suc p) s (u ∷ ss) (q ∷ ports) h e = port-at plan i most p s ss ports (both (is_port_sound plan u i most q) (are_ports_sound plan i most ss ports) h).1 e

pub holds-at : (plan : Plan) (p : ℕ) (s : StreamRef) (ss : List StreamRef) (ports : List Port) (q : Port) → EachHolds plan ss (map held_at ports) → slice_get ss p ≡ Some s → slice_get ports p ≡ Some q →
    HoldsOf plan s (held_at q)
holds-at plan p s [] ports q h e f = cc
holds-at plan p s (u ∷ ss) [] q h e f = absurd h
holds-at plan zero s (u ∷ ss) (x ∷ ports) q h e f = let same : u ≡ s = cc in let same_port : x ≡ q = cc in rw (same, same_port) at h.0
holds-at plan (suc p) s (u ∷ ss) (x ∷ ports) q h e f = holds-at plan p s ss ports q h.1 e f

pub ports-changed : (plan : Plan) (i most p : ℕ) (s : StreamRef) (f : Port → Port) (ss : List StreamRef) (ports : List Port) → slice_get ss p ≡ Some s →
    ((q : Port) → slice_get ports p ≡ Some q → is_port_sound plan s i most q ≡ true → is_port_sound plan s i most (f q) ≡ true) →
    are_ports_sound plan i most ss ports ≡ true → are_ports_sound plan i most ss (changed p f ports) ≡ true
ports-changed plan i most p s f [] ports e keeps h = cc
ports-changed plan i most p s f (u ∷ ss) [] e keeps h = cc
ports-changed plan i most zero s f (u ∷ ss) (x ∷ ports) e keeps h =
    let same : u ≡ s = cc in
    let k = both (is_port_sound plan u i most x) (are_ports_sound plan i most ss ports) h in
    both-of (is_port_sound plan u i most (f x)) (are_ports_sound plan i most ss ports) (rw same (keeps x refl (rw same at k.0))) k.1
ports-changed plan i most (suc p) s f (u ∷ ss) (x ∷ ports) e keeps h =
    let k = both (is_port_sound plan u i most x) (are_ports_sound plan i most ss ports) h in
    both-of (is_port_sound plan u i most x) (are_ports_sound plan i most ss (changed p f ports)) k.0 (ports-changed plan i most p s f ss ports e keeps k.1)

pub holds-changed : (plan : Plan) (p : ℕ) (s : StreamRef) (f : Port → Port) (ss : List StreamRef) (ports : List Port) → slice_get ss p ≡ Some s →
    ((q : Port) → slice_get ports p ≡ Some q → HoldsOf plan s (held_at q) → HoldsOf plan s (held_at (f q))) →
    EachHolds plan ss (map held_at ports) → EachHolds plan ss (map held_at (changed p f ports))
holds-changed plan p s f [] ports e keeps h = cc
holds-changed plan p s f (u ∷ ss) [] e keeps h = absurd h
holds-changed plan zero s f (u ∷ ss) (x ∷ ports) e keeps h = let same : u ≡ s = cc in (rw same (keeps x refl (rw same at h.0)), h.1)
holds-changed plan (suc p) s f (u ∷ ss) (x ∷ ports) e keeps h = (h.0, holds-changed plan p s f ss ports e keeps h.1)

pub reaches-changed : (b p : ℕ) (f : Port → Port) (ports : List Port) → ((q : Port) → slice_get ports p ≡ Some q → (held_at q).bound ≤ (held_at (f q)).bound) →
    EachReaches b (map held_at ports) → EachReaches b (map held_at (changed p f ports))
reaches-changed b p f [] grows h = tt
reaches-changed b zero f (x ∷ ports) grows h = let more = grows x refl in let first = h.0 in (omega (arith, more, first), h.1)
reaches-changed b (suc p) f (x ∷ ports) grows h = (h.0, reaches-changed b p f ports grows h.1)

-- a node whose readers hold more
pub safe-grown : (home : Home) (n m : PlainNode) → IsPlace home → EachHolds home.plan (streams_of home) (held_by m) →
    (EachReaches (n.cursor * home.plan.width) (held_by n) → EachReaches (n.cursor * home.plan.width) (held_by m)) →
    m.cursor ≡ n.cursor → m.base ≡ n.base → m.recovering ≡ n.recovering → IsSafeNode home n → IsSafeNode home m
safe-grown home n m place holds grows cursor base recovering safe =
    record {
      inputs = holds;
      output = λ e.
          let o = safe.output (sym recovering ∙ e) in
          let reaches : EachReaches (m.cursor * home.plan.width) (held_by m) = rw cursor (grows o.reaches) in
          let out = out_stable-ideal home m place.checked.sound place.there holds reaches in
          let same : out_stable home m ≡ out_stable home n = out ∙ ap (λ (c : ℕ). ideal_upto home.plan (Frag home.frag) (c * home.plan.width)) cursor ∙ sym o.output in
          record { reaches = reaches; base = rw (same, base) o.base; output = out };
    }

-- ---- the port that a sender is of

-- the stream of the port, and the sender's place
pub record IsSenderOf (plan : Plan) (ss : List StreamRef) (a p r : ℕ) : Type 0 where
  pub stream : StreamRef
  pub at : slice_get ss p ≡ Some stream
  pub place : place_of (λ b. a == b) (senders_of plan stream) ≡ Some r

sender-from : (plan : Plan) (k a p r : ℕ) (ss : List StreamRef) → sender_from k plan ss a ≡ Some (p, r) → (j : ℕ) × (p ≡ k + j) × IsSenderOf plan ss a j r
sender-from plan k a p r [] e = cc
sender-from plan k a p r (s ∷ ss) e =
    (elim (place_of (λ b. a == b) (senders_of plan s)) as (λ o. place_of (λ b. a == b) (senders_of plan s) ≡ o →
    elim o [ None ↦ sender_from (k + 1) plan ss a | Some q ↦ Some (k, q) ] ≡ Some (p, r) → (j : ℕ) × (p ≡ k + j) × IsSenderOf plan (s ∷ ss) a j r) [
      | None ↦ λ f g.
          let rest = sender-from plan (k + 1) a p r ss g in
          let far = rest.1 in (suc rest.0, omega (arith, far), record { stream = rest.2.stream; at = rest.2.at; place = rest.2.place })
      | Some q ↦ λ f g.
          let pair = some-each k q p r g in
          let same = pair.0 in
          let place = pair.1 in
          (0, omega (arith, same), record { stream = s; at = refl; place = rw place at f })
    ]) refl e

pub sender-of : (plan : Plan) (ss : List StreamRef) (a p r : ℕ) → sender_at plan ss a ≡ Some (p, r) → IsSenderOf plan ss a p r
sender-of plan ss a p r e =
    let found = sender-from plan 0 a p r ss e in
    let far = found.1 in
    let same : found.0 ≡ p = omega (arith, far) in
    rw same at found.2
