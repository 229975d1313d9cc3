-- The place of a node stands for the plain one, also where it is changed.
use Rattle.std.proofs.Common.{◌≡◌, ℕ, zero, suc, ◌+◌, List, [], ◌∷◌, refl, sym, ap, subst, ◌∙◌, Option, Some, None, slice_get, slice_set, unwrap_or}
use Rattle.std.specs.List.{AllZip}
use Rattle.dpc_lists.specs.Lists.{changed}
use Rattle.dpc_model.specs.Actors.{role_of, nodes_of}
use Rattle.dpc_model.specs.declared.actors.Role.TheVariants.{Node as IsNode}
use Rattle.dpc_model.specs.declared.plans.Plan.{Plan}
use Rattle.world_model.specs.Worlds.{World, Envelope, Slot, home_of, node_place, slot_of, items_in, item_count}
use Rattle.law_safety.proofs.Numbering.{node-at}
use Rattle.world_parts.specs.Parts.{WorldPartsValue, SlotValue, StandsForSlot, StandForSlots, StandsForWorld}

-- ---- lists of places

-- a plain place that the one at this number stands for
pub record IsPlaceAt (plan : Plan) (i : ℕ) (n : ℕ × ℕ) (vs : List SlotValue) (xs : List Slot) : Type 0 where
  pub value : SlotValue
  pub slot : Slot
  pub is : slice_get vs i ≡ Some value
  pub plain : slice_get xs i ≡ Some slot
  pub stands : StandsForSlot (home_of plan n) value slot

pub slots-at : (plan : Plan) (i : ℕ) (n : ℕ × ℕ) (ns : List (ℕ × ℕ)) (vs : List SlotValue) (xs : List Slot) → slice_get ns i ≡ Some n → StandForSlots plan ns vs xs → IsPlaceAt plan i n vs xs
slots-at plan i n [] vs xs e h = cc
slots-at plan i n (m ∷ ns) [] xs e h = absurd h
slots-at plan i n (m ∷ ns) (v ∷ vs) [] e h = absurd h
slots-at plan zero n (m ∷ ns) (v ∷ vs) (x ∷ xs) e h =
    let same : m ≡ n = cc in record { value = v; slot = x; is = refl; plain = refl; stands = subst (λ (k : ℕ × ℕ). StandsForSlot (home_of plan k) v x) same h.0 }
slots-at plan (suc i) n (m ∷ ns) (v ∷ vs) (x ∷ xs) e h =
    let at = slots-at plan i n ns vs xs e h.1 in record { value = at.value; slot = at.slot; is = at.is; plain = at.plain; stands = at.stands }

-- one place is changed
pub slots-changed : (plan : Plan) (i : ℕ) (n : ℕ × ℕ) (new : SlotValue) (f : Slot → Slot) (ns : List (ℕ × ℕ)) (vs : List SlotValue) (xs : List Slot) → slice_get ns i ≡ Some n →
    ((v : SlotValue) (x : Slot) → slice_get vs i ≡ Some v → slice_get xs i ≡ Some x → StandsForSlot (home_of plan n) v x → StandsForSlot (home_of plan n) new (f x)) →
    StandForSlots plan ns vs xs → StandForSlots plan ns (slice_set vs i new) (changed i f xs)
slots-changed plan i n new f [] vs xs e keeps h = cc
slots-changed plan i n new f (m ∷ ns) [] xs e keeps h = absurd h
slots-changed plan i n new f (m ∷ ns) (v ∷ vs) [] e keeps h = absurd h
slots-changed plan zero n new f (m ∷ ns) (v ∷ vs) (x ∷ xs) e keeps h =
    let same : m ≡ n = cc in
    (subst (λ (k : ℕ × ℕ). StandsForSlot (home_of plan k) new (f x)) (sym same) (keeps v x refl refl (subst (λ (k : ℕ × ℕ). StandsForSlot (home_of plan k) v x) same h.0)), h.1)
slots-changed plan (suc i) n new f (m ∷ ns) (v ∷ vs) (x ∷ xs) e keeps h = (h.0, slots-changed plan i n new f ns vs xs e keeps h.1)

-- ---- the nodes of a world

-- the parts with another value at a place
abbrev pub with_slot : ℕ → SlotValue → WorldPartsValue → WorldPartsValue
with_slot i new v = record v { nodes = slice_set v.nodes i new }

pub place-of : (plan : Plan) (a f r : ℕ) (v : WorldPartsValue) (x : World) → role_of plan a ≡ IsNode f r → StandsForWorld plan v x → IsPlaceAt plan (node_place plan a) (f, r) v.nodes x.nodes
place-of plan a f r v x role h = slots-at plan (node_place plan a) (f, r) (nodes_of plan) v.nodes x.nodes (node-at plan a f r role) h.nodes

pub slot-here : (x : World) (a : ℕ) (s : Slot) → slice_get x.nodes (node_place x.plan a) ≡ Some s → slot_of x a ≡ s
slot-here x a s e = ap (λ (o : Option Slot). unwrap_or o (record { last_inc = 0; node = None })) e

-- the plan alone says how many items envelopes carry
items-same : (x y : World) (es : List Envelope) → x.plan ≡ y.plan → item_count x es ≡ item_count y es
items-same x y [] same = refl
items-same x y (e ∷ es) same =
    ap (λ (p : Plan). items_in p e.to e.packet + item_count x es) same ∙ ap (λ (n : ℕ). items_in y.plan e.to e.packet + n) (items-same x y es same)

-- a world with another place of a node
pub place-changed : (plan : Plan) (a f r : ℕ) (v : WorldPartsValue) (x : World) (new : SlotValue) (g : Slot → Slot) → role_of plan a ≡ IsNode f r → StandsForWorld plan v x →
    ((u : SlotValue) (s : Slot) → slice_get v.nodes (node_place plan a) ≡ Some u → slice_get x.nodes (node_place plan a) ≡ Some s → StandsForSlot (home_of plan (f, r)) u s → StandsForSlot (home_of plan (f, r)) new (g s)) →
    StandsForWorld plan (with_slot (node_place plan a) new v) (record x { nodes = changed (node_place plan a) g x.nodes })
place-changed plan a f r v x new g role h keeps =
    record {
      plan_is = h.plan_is;
      sources = h.sources;
      nodes = slots-changed plan (node_place plan a) (f, r) new g (nodes_of plan) v.nodes x.nodes (node-at plan a f r role) keeps h.nodes;
      clients = h.clients;
      cuts = h.cuts;
      envelopes = h.envelopes;
      items = h.items ∙ items-same x (record x { nodes = changed (node_place plan a) g x.nodes }) x.envelopes refl;
    }

-- ---- envelopes

-- a plain element that the one at this number stands for
pub zip-at : {V X : Type 0} (R : V → X → Type 0) (i : ℕ) (v : V) (vs : List V) (xs : List X) → slice_get vs i ≡ Some v → AllZip R vs xs → (x : X) × (slice_get xs i ≡ Some x) × R v x
zip-at R i v [] xs e h = cc
zip-at R i v (u ∷ vs) [] e h = absurd h
zip-at R zero v (u ∷ vs) (x ∷ xs) e h = let same : u ≡ v = cc in (x, refl, subst (λ w. R w x) same h.0)
zip-at R (suc i) v (u ∷ vs) (x ∷ xs) e h = zip-at R i v vs xs e h.1
