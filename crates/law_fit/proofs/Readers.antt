-- What the readers of a good node's ports hold: each is in order and bounded, and all reach the cursor's bucket.
use Rattle.std.proofs.Common.{◌≡◌, ℕ, ◌*◌, ◌≤◌, Bool, true, nat_le, List, [], ◌∷◌, ◌++◌, map, arith, All, inl, inr}
use Rattle.std.proofs.lemmas.List.Elements.{All-from_recursion}
use Rattle.std.specs.List.{AllByRecursion}
use Rattle.dpc_lists.specs.Lists.{list_all}
use Rattle.dpc_model.specs.Streams.{NoneBelow, time_of, InOrder}
use Rattle.dpc_model.specs.Fragments.{IsSound}
use Rattle.dpc_model.specs.Inlets.{InletState}
use Rattle.dpc_model.specs.Reading.{Reader}
use Rattle.dpc_model.specs.Ports.{Port, held_at}
use Rattle.dpc_model.specs.declared.tuples.Tuple.{Tuple}
use Rattle.dpc_model.specs.declared.plans.Plan.{Plan}
use Rattle.dpc_model.specs.declared.plans.StreamRef.{StreamRef}
use Rattle.node_model.specs.Nodes.{Home, PlainNode, held_by}
use Rattle.world_model.specs.Safe.{HoldsOf, EachHolds, EachReaches}
use Rattle.world_model.specs.Orderly.{is_port_sound, are_ports_sound, is_passed_mark}
use Rattle.dpc_lists.proofs.Truths.{both, le-of}
use Rattle.law_safety.proofs.SoundPorts.{port-of}
use Rattle.law_safety.proofs.Frames.{IsGood}
use Rattle.law_safety.proofs.Emptied.{emptied-of}
use Rattle.law_safety.proofs.Delivered.{recovers-or}
use Rattle.law_safety.proofs.Outputs.{ideal-InOrder}

-- ---- lists

-- what a test of each element says of each
pub each-of : {X : Type 0} (q : X → Bool) (P : X → Type 0) (xs : List X) → ((x : X) → q x ≡ true → P x) → list_all q xs ≡ true → AllByRecursion P xs
each-of q P [] says h = tt
each-of q P (x ∷ xs) says h = let k = both (q x) (list_all q xs) h in (says x k.0, each-of q P xs says k.1)

pub all-of : {X : Type 0} (q : X → Bool) (P : X → Type 0) (xs : List X) → ((x : X) → q x ≡ true → P x) → list_all q xs ≡ true → All P xs
all-of q P xs says h = All-from_recursion P xs (each-of q P xs says h)

-- a beginning of tuples in order is in order
none-beginning : (n : ℕ) (xs ys : List Tuple) → NoneBelow time_of n (xs ++ ys) → NoneBelow time_of n xs
none-beginning n [] ys h = tt
none-beginning n (x ∷ xs) ys h = (h.0, none-beginning n xs ys h.1)

order-beginning : (xs ys : List Tuple) → InOrder (xs ++ ys) → InOrder xs
order-beginning [] ys h = tt
order-beginning (x ∷ xs) ys h = (none-beginning (time_of x) xs ys h.0, order-beginning xs ys h.1)

-- ---- readers of ports

-- what each port's reader has, each inlet's has
pub inlets-all : (P : Reader → Type 0) (ports : List Port) → AllByRecursion P (map held_at ports) → All (λ (i : InletState). P i.held) (map (λ (p : Port). p.inlet) ports)
inlets-all P ports h = All-from_recursion (λ (i : InletState). P i.held) (map (λ (p : Port). p.inlet) ports) (each ports h)
  where
    each : (ps : List Port) → AllByRecursion P (map held_at ps) → AllByRecursion (λ (i : InletState). P i.held) (map (λ (p : Port). p.inlet) ps)
    each [] a = tt
    each (p ∷ ps) a = (a.0, each ps a.1)

-- what follows of holding a stream
pub holding-each : (plan : Plan) (P : Reader → Type 0) (ss : List StreamRef) (rs : List Reader) → ((s : StreamRef) (r : Reader) → HoldsOf plan s r → P r) → EachHolds plan ss rs → AllByRecursion P rs
holding-each plan P [] [] says h = tt
holding-each plan P [] (r ∷ rs) says h = absurd h
holding-each plan P (s ∷ ss) [] says h = absurd h
holding-each plan P (s ∷ ss) (r ∷ rs) says h = (says s r h.0, holding-each plan P ss rs says h.1)

pub held-ordered : (plan : Plan) (s : StreamRef) (r : Reader) → IsSound plan → HoldsOf plan s r → InOrder r.stable
held-ordered plan s r sound h = order-beginning r.stable h.stable.0 (rw h.stable.1 at (ideal-InOrder plan s sound))

pub reaching-each : (b : ℕ) (rs : List Reader) → EachReaches b rs → AllByRecursion (λ (r : Reader). b ≤ r.bound) rs
reaching-each b [] h = tt
reaching-each b (r ∷ rs) h = (h.0, reaching-each b rs h.1)

-- no tentative tuple of a port lies below its bound
abbrev pub IsPast : Reader → Type 0
IsPast r = All (λ (t : Tuple). r.bound ≤ t.stime) r.tentative

port-past : (plan : Plan) (s : StreamRef) (i most : ℕ) (p : Port) → is_port_sound plan s i most p ≡ true → IsPast p.inlet.held
port-past plan s i most p h =
    let r = p.inlet.held in
    let k = both (list_all (λ (t : Tuple). nat_le r.bound t.stime) r.tentative) (is_passed_mark plan r.bound r.passed) (port-of plan s i most p h).past in
    all-of (λ (t : Tuple). nat_le r.bound t.stime) (λ (t : Tuple). r.bound ≤ t.stime) r.tentative (λ t e. le-of r.bound t.stime e) k.0

pub past-each : (plan : Plan) (i most : ℕ) (ss : List StreamRef) (ports : List Port) → are_ports_sound plan i most ss ports ≡ true → AllByRecursion IsPast (map held_at ports)
past-each plan i most [] [] h = tt
past-each plan i most [] (p ∷ ports) h = cc
past-each plan i most (s ∷ ss) [] h = cc
past-each plan i most (s ∷ ss) (p ∷ ports) h =
    let k = both (is_port_sound plan s i most p) (are_ports_sound plan i most ss ports) h in
    (port-past plan s i most p k.0, past-each plan i most ss ports k.1)

-- ---- a good node reaches its cursor

reaches-none : (b : ℕ) (rs : List Reader) → b ≡ 0 → EachReaches b rs
reaches-none b [] none = tt
reaches-none b (r ∷ rs) none = (omega (arith, none), reaches-none b rs none)

pub good-reaches : (home : Home) (most : ℕ) (n : PlainNode) → IsGood home most n → EachReaches (n.cursor * home.plan.width) (held_by n)
good-reaches home most n g =
    (elim (recovers-or n) [
      | inl down ↦ let start = (emptied-of n down g.orderly.recovering).cursor in reaches-none (n.cursor * home.plan.width) (held_by n) (rw start (omega arith))
      | inr up ↦ (g.safe.output up).reaches
    ])
