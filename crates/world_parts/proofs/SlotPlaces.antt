-- The places of nodes: each stands for the plain one, and what is told of it.
use Rattle.std.proofs.Common.{◌≡◌, ℕ, zero, suc, List, [], ◌∷◌, refl, sym, ap, subst, ◌∙◌, Option, Some, None, slice_get, unwrap_or, is_some}
use Rattle.std.specs.Prelude.{option_map}
use Rattle.dpc_model.specs.Actors.{role_of, nodes_of}
use Rattle.dpc_model.specs.declared.actors.Role.{Role}
use Rattle.dpc_model.specs.declared.actors.Role.TheVariants.{Source as IsSource, Node as IsNode, Client as IsClient, Nobody}
use Rattle.dpc_model.specs.declared.plans.Plan.{Plan}
use Rattle.dpc_lists.proofs.Somes.{some-same}
use Rattle.node_model.specs.Nodes.{Home, PlainNode, ready}
use Rattle.node_core.specs.Standing.{NodeValue, StandsForNode}
use Rattle.world_model.specs.Worlds.{World, Slot, node_place, home_of, slot_of, node_role, node_at, role_up, is_up, ready_in, ready_role, ready_at}
use Rattle.law_safety.proofs.Numbering.{node-at}
use Rattle.world_parts.specs.Parts.{SlotValue, WorldPartsValue, StandsForUp, StandsForSlot, StandForSlots, StandsForWorld}
use Rattle.world_parts.specs.Telling.{IsNoNode, StandsForRole}

-- ---- the places

pub record SlotThere (plan : Plan) (i : ℕ) (n : ℕ × ℕ) (vs : List SlotValue) (xs : List Slot) : Type 0 where
  pub code : SlotValue
  pub plain : Slot
  pub code_at : slice_get vs i ≡ Some code
  pub plain_at : slice_get xs i ≡ Some plain
  pub stands : StandsForSlot (home_of plan n) code plain

pub slot-there : (plan : Plan) (i : ℕ) (n : ℕ × ℕ) (ns : List (ℕ × ℕ)) (vs : List SlotValue) (xs : List Slot) → slice_get ns i ≡ Some n → StandForSlots plan ns vs xs → SlotThere plan i n vs xs
slot-there plan i n [] vs xs e h = cc
slot-there plan i n (m ∷ ns) [] xs e h = absurd h
slot-there plan i n (m ∷ ns) (v ∷ vs) [] e h = absurd h
slot-there plan zero n (m ∷ ns) (v ∷ vs) (x ∷ xs) e h =
    record { code = v; plain = x; code_at = refl; plain_at = refl; stands = subst (λ (k : ℕ × ℕ). StandsForSlot (home_of plan k) v x) (some-same m n e) h.0 }
slot-there plan (suc i) n (m ∷ ns) (v ∷ vs) (x ∷ xs) e h =
    let rest = slot-there plan i n ns vs xs e h.1 in record { code = rest.code; plain = rest.plain; code_at = rest.code_at; plain_at = rest.plain_at; stands = rest.stands }

-- the place of a node
pub node-there : (plan : Plan) (v : WorldPartsValue) (x : World) (a f r : ℕ) → StandsForWorld plan v x → role_of plan a ≡ IsNode f r → SlotThere plan (node_place plan a) (f, r) v.nodes x.nodes
node-there plan v x a f r h role = slot-there plan (node_place plan a) (f, r) (nodes_of plan) v.nodes x.nodes (node-at plan a f r role) h.nodes

no-slot : Slot
no-slot = record { last_inc = 0; node = None }

-- the plain one
pub slot-is : (plan : Plan) (v : WorldPartsValue) (x : World) (a : ℕ) (y : Slot) → StandsForWorld plan v x → slice_get x.nodes (node_place plan a) ≡ Some y → slot_of x a ≡ y
slot-is plan v x a y h e =
    ap (λ (p : Plan). unwrap_or (slice_get x.nodes (node_place p a)) (record { last_inc = 0; node = None })) h.plan_is ∙ ap (λ (o : Option Slot). unwrap_or o (record { last_inc = 0; node = None })) e

-- ---- last incarnations

inc-some : (plan : Plan) (i : ℕ) (v : SlotValue) (ns : List (ℕ × ℕ)) (vs : List SlotValue) (xs : List Slot) → StandForSlots plan ns vs xs → slice_get vs i ≡ Some v → (y : Slot) × (slice_get xs i ≡ Some y) × (v.last_inc ≡ y.last_inc)
inc-some plan i v [] [] xs h e = cc
inc-some plan i v [] (u ∷ vs) xs h e = absurd h
inc-some plan i v (n ∷ ns) [] xs h e = absurd h
inc-some plan i v (n ∷ ns) (u ∷ vs) [] h e = absurd h
inc-some plan zero v (n ∷ ns) (u ∷ vs) (x ∷ xs) h e = let same : u ≡ v = cc in (x, refl, subst (λ (w : SlotValue). w.last_inc ≡ x.last_inc) same h.0.last_inc)
inc-some plan (suc i) v (n ∷ ns) (u ∷ vs) (x ∷ xs) h e = inc-some plan i v ns vs xs h.1 e

inc-none : (plan : Plan) (i : ℕ) (ns : List (ℕ × ℕ)) (vs : List SlotValue) (xs : List Slot) → StandForSlots plan ns vs xs → slice_get vs i ≡ None → slice_get xs i ≡ None
inc-none plan i [] [] [] h e = refl
inc-none plan i [] [] (x ∷ xs) h e = absurd h
inc-none plan i [] (u ∷ vs) xs h e = absurd h
inc-none plan i (n ∷ ns) [] xs h e = absurd h
inc-none plan i (n ∷ ns) (u ∷ vs) [] h e = absurd h
inc-none plan zero (n ∷ ns) (u ∷ vs) (x ∷ xs) h e = cc
inc-none plan (suc i) (n ∷ ns) (u ∷ vs) (x ∷ xs) h e = inc-none plan i ns vs xs h.1 e

pub last_inc_told : (plan : Plan) (v : WorldPartsValue) (x : World) (a : ℕ) (u : SlotValue) → StandsForWorld plan v x → slice_get v.nodes (node_place plan a) ≡ Some u → u.last_inc ≡ (slot_of x a).last_inc
last_inc_told plan v x a u h e =
    let found = inc-some plan (node_place plan a) u (nodes_of plan) v.nodes x.nodes h.nodes e in
    found.2 ∙ ap (λ (y : Slot). y.last_inc) (sym (slot-is plan v x a found.0 h found.1))

pub last_inc_none : (plan : Plan) (v : WorldPartsValue) (x : World) (a : ℕ) → StandsForWorld plan v x → slice_get v.nodes (node_place plan a) ≡ None → 0 ≡ (slot_of x a).last_inc
last_inc_none plan v x a h e =
    let none = inc-none plan (node_place plan a) (nodes_of plan) v.nodes x.nodes h.nodes e in
    sym (ap (λ (p : Plan). (unwrap_or (slice_get x.nodes (node_place p a)) (record { last_inc = 0; node = None })).last_inc) h.plan_is
    ∙ ap (λ (o : Option Slot). (unwrap_or o (record { last_inc = 0; node = None })).last_inc) none)

-- ---- the node of an actor

-- a node's place, as it was read
pub node_stands :
    (plan : Plan) (v : WorldPartsValue) (x : World) (a f r : ℕ) (u : SlotValue) (o : Option NodeValue) → StandsForWorld plan v x → role_of plan a ≡ IsNode f r → slice_get v.nodes (node_place plan a) ≡ Some u → u.node ≡ o →
    StandsForRole plan (role_of plan a) o (node_at x a)
node_stands plan v x a f r u o h role e is =
    let t = node-there plan v x a f r h role in
    let same : t.code ≡ u = one t.code u t.code_at e in
    let here : slot_of x a ≡ t.plain = slot-is plan v x a t.plain h t.plain_at in
    let up : StandsForUp (home_of plan (f, r)) o (slot_of x a).node =
    subst (λ (y : Slot). StandsForUp (home_of plan (f, r)) o y.node) (sym here) (subst (λ (w : Option NodeValue). StandsForUp (home_of plan (f, r)) w t.plain.node) (ap (λ (w : SlotValue). w.node) same ∙ is) t.stands.node) in
    subst (λ (p : Plan). StandsForRole plan (role_of plan a) o (node_role x a (role_of p a))) (sym h.plan_is) (subst (λ (k : Role). StandsForRole plan k o (node_role x a k)) (sym role) up)
  where
    one : (y z : SlotValue) → slice_get v.nodes (node_place plan a) ≡ Some y → slice_get v.nodes (node_place plan a) ≡ Some z → y ≡ z
    one y z p q = cc

-- its place is there
pub node_found : (plan : Plan) (v : WorldPartsValue) (x : World) (a f r : ℕ) → StandsForWorld plan v x → role_of plan a ≡ IsNode f r → slice_get v.nodes (node_place plan a) ≡ None → ⊥
node_found plan v x a f r h role e = let at = (node-there plan v x a f r h role).code_at in none-some (node-there plan v x a f r h role).code at e
  where
    none-some : (y : SlotValue) → slice_get v.nodes (node_place plan a) ≡ Some y → slice_get v.nodes (node_place plan a) ≡ None → ⊥
    none-some y p q = cc

-- ---- what is told of it

-- said by the world's own plan
by-own : (plan : Plan) (v : WorldPartsValue) (x : World) (a : ℕ) (o : Option NodeValue) → StandsForWorld plan v x → StandsForRole plan (role_of plan a) o (node_at x a) → StandsForRole x.plan (role_of x.plan a) o (node_role x a (role_of x.plan a))
by-own plan v x a o h k = subst (λ (p : Plan). StandsForRole p (role_of p a) o (node_at x a)) (sym h.plan_is) k

up-same : (home : Home) (o : Option NodeValue) (p : Option PlainNode) → StandsForUp home o p → is_some o ≡ is_some p
up-same home None None h = refl
up-same home (Some v) (Some p) h = refl
up-same home None (Some p) h = absurd h
up-same home (Some v) None h = absurd h

pub up_told : (plan : Plan) (v : WorldPartsValue) (x : World) (a f r : ℕ) (o : Option NodeValue) → StandsForWorld plan v x → role_of plan a ≡ IsNode f r → StandsForRole plan (role_of plan a) o (node_at x a) → is_some o ≡ is_up x a
up_told plan v x a f r o h role k =
    let here : role_of x.plan a ≡ IsNode f r = subst (λ (p : Plan). role_of p a ≡ IsNode f r) (sym h.plan_is) role in
    let up : StandsForUp (home_of x.plan (f, r)) o (slot_of x a).node = subst (λ (q : Role). StandsForRole x.plan q o (node_role x a q)) here (by-own plan v x a o h k) in
    up-same (home_of x.plan (f, r)) o (slot_of x a).node up ∙ sym (ap (λ (q : Role). role_up x a q) here)

-- how many of its buckets are ready
ready-up : (home : Home) (n : NodeValue) (count : ℕ) (p : Option PlainNode) → ((home : Home) (p : PlainNode) → StandsForNode home n p → count ≡ ready home p) → StandsForUp home (Some n) p → count ≡ ready_in home p
ready-up home n count None told h = absurd h
ready-up home n count (Some p) told h = told home p h.0

ready-down : (home : Home) (p : Option PlainNode) → StandsForUp home None p → 0 ≡ ready_in home p
ready-down home None h = refl
ready-down home (Some p) h = absurd h

pub ready_told :
    (plan : Plan) (v : WorldPartsValue) (x : World) (a : ℕ) (n : NodeValue) (count : ℕ) → StandsForWorld plan v x → ((home : Home) (p : PlainNode) → StandsForNode home n p → count ≡ ready home p) →
    StandsForRole plan (role_of plan a) (Some n) (node_at x a) → count ≡ ready_at x a
ready_told plan v x a n count h told k = by-role (role_of x.plan a) (by-own plan v x a (Some n) h k)
  where
    by-role : (q : Role) → StandsForRole x.plan q (Some n) (node_role x a q) → count ≡ ready_role x a q
    by-role (IsNode f r) up = ready-up (home_of x.plan (f, r)) n count (slot_of x a).node told up
    by-role (IsSource s) up = let none = up.code in cc
    by-role (IsClient c) up = let none = up.code in cc
    by-role Nobody up = let none = up.code in cc

pub none_ready : (plan : Plan) (v : WorldPartsValue) (x : World) (a : ℕ) → StandsForWorld plan v x → StandsForRole plan (role_of plan a) None (node_at x a) → 0 ≡ ready_at x a
none_ready plan v x a h k = by-role (role_of x.plan a) (by-own plan v x a None h k)
  where
    by-role : (q : Role) → StandsForRole x.plan q None (node_role x a q) → 0 ≡ ready_role x a q
    by-role (IsNode f r) up = ready-down (home_of x.plan (f, r)) (slot_of x a).node up
    by-role (IsSource s) up = refl
    by-role (IsClient c) up = refl
    by-role Nobody up = refl

-- its state
state-up : (home : Home) (o : Option NodeValue) (p : Option PlainNode) → StandsForUp home o p → option_map (λ (n : NodeValue). n.state) o ≡ option_map (λ (n : PlainNode). n.state) p
state-up home None None h = refl
state-up home (Some n) (Some p) h = ap Some h.0.state
state-up home None (Some p) h = absurd h
state-up home (Some n) None h = absurd h

pub state_told :
    (plan : Plan) (v : WorldPartsValue) (x : World) (a : ℕ) (o : Option NodeValue) → StandsForWorld plan v x → StandsForRole plan (role_of plan a) o (node_at x a) →
    option_map (λ (n : NodeValue). n.state) o ≡ option_map (λ (p : PlainNode). p.state) (node_at x a)
state_told plan v x a o h k = by-role (role_of x.plan a) (by-own plan v x a o h k)
  where
    none-both : (p : Option PlainNode) → IsNoNode o p → option_map (λ (n : NodeValue). n.state) o ≡ option_map (λ (n : PlainNode). n.state) p
    none-both p up = rw (up.code, up.plain) refl

    by-role : (q : Role) → StandsForRole x.plan q o (node_role x a q) → option_map (λ (n : NodeValue). n.state) o ≡ option_map (λ (p : PlainNode). p.state) (node_role x a q)
    by-role (IsNode f r) up = state-up (home_of x.plan (f, r)) o (slot_of x a).node up
    by-role (IsSource s) up = none-both None up
    by-role (IsClient c) up = none-both None up
    by-role Nobody up = none-both None up
