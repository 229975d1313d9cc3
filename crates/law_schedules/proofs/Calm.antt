-- What every event leaves of a world, and what deliveries, ticks and milling leave.
use Rattle.std.proofs.Common.{◌≡◌, ℕ, zero, suc, ◌≤◌, Bool, true, false, cond, ◌&&◌, nat_lt, nat_le, List, [], ◌∷◌, ◌++◌, map, length, refl, sym, ap, subst, ◌∙◌, arith, append_assoc, Option, Some, None, slice_get, unwrap_or, is_some}
use Rattle.std.proofs.lemmas.List.{length-append}
use Rattle.dpc_lists.specs.Lists.{nth, changed, push}
use Rattle.dpc_model.specs.Actors.{role_of}
use Rattle.dpc_model.specs.declared.actors.Role.{Role}
use Rattle.dpc_model.specs.declared.actors.Role.TheVariants.{Source as IsSource, Node as IsNode, Client as IsClient, Nobody}
use Rattle.dpc_model.specs.declared.messages.Event.{Event}
use Rattle.dpc_model.specs.declared.messages.Event.TheVariants.{Phase, Emit, Release, Cut, Heal, Crash, Restart, Deliver, Tick, Mill}
use Rattle.dpc_model.specs.declared.plans.Plan.{Plan}
use Rattle.node_model.specs.Nodes.{Home, PlainNode, restarted_node, ready, complete_buckets}
use Rattle.node_model.specs.Mails.{Stepped}
use Rattle.node_model.specs.NodeSteps.{packet_step, mill_step, tick_step}
use Rattle.node_model.specs.Sources.{source_emits, source_releases, source_packet_step, source_tick_step, SourceState}
use Rattle.node_model.specs.Clients.{ClientState, client_after_packet, client_tick_step}
use Rattle.world_model.specs.Worlds.{World, Envelope, Slot, home_of, node_place, from, slot_of, source_at, client_at, node_stepped, source_stepped, client_stepped, is_release_time, is_clock, emits, releases, link_up, role_up, is_up, cuts_link, crashes, restart_slot, restarts, node_takes, taken_by, can_come, comes, node_ticks, ticks, can_mill, node_mills, mills, happens}
use Rattle.world_model.specs.Schedules.{may_come}
use Rattle.dpc_lists.proofs.Truths.{both, le-of}
use Rattle.law_schedules.proofs.Nodes.{IsZeroed, IsCalmNode, still-calm, onward-calm, itself, delivered-calm, ticked-calm, milled-moves}

-- ---- the nodes of a world

abbrev pub no_slot : Slot
no_slot = record { last_inc = 0; node = None }

-- the node at a place
abbrev pub node_in : List Slot → ℕ → Option PlainNode
node_in slots i = (nth no_slot slots i).node

abbrev pub IsZeroedAt : Option PlainNode → Type 0
IsZeroedAt None = Unit {0}
IsZeroedAt (Some n) = IsZeroed n

abbrev pub AreZeroed : List Slot → Type 0
AreZeroed slots = (i : ℕ) → IsZeroedAt (node_in slots i)

-- one that is down stays down
abbrev pub IsCalmAt : Option PlainNode → Option PlainNode → Type 0
IsCalmAt None None = Unit {0}
IsCalmAt None (Some m) = ⊥
IsCalmAt (Some n) None = ⊥
IsCalmAt (Some n) (Some m) = IsCalmNode n m

abbrev AreCalm : List Slot → List Slot → Type 0
AreCalm slots others = (i : ℕ) → IsCalmAt (node_in slots i) (node_in others i)

-- ---- what is left

pub record IsGrown (w v : World) : Type 0 where
  pub plan : v.plan ≡ w.plan
  pub more : List Envelope
  pub sent : v.envelopes ≡ w.envelopes ++ more
  pub zeroed : AreZeroed w.nodes → AreZeroed v.nodes

-- no envelope is taken back
pub grown-longer : (w v : World) → IsGrown w v → length w.envelopes ≤ length v.envelopes
grown-longer w v c =
    let many : length v.envelopes ≡ length (w.envelopes ++ c.more) = ap (λ (es : List Envelope). length es) c.sent in
    let sum = length-append w.envelopes c.more in omega (arith, many, sum)

pub record IsCalm (w v : World) : Type 0 where
  pub plan : v.plan ≡ w.plan
  pub cuts : v.cuts ≡ w.cuts
  pub more : List Envelope
  pub sent : v.envelopes ≡ w.envelopes ++ more
  pub slots : AreCalm w.nodes v.nodes

none-more : (es : List Envelope) → es ≡ es ++ []
none-more [] = refl
none-more (e ∷ es) = ap (λ (l : List Envelope). e ∷ l) (none-more es)

calm-itself : (o : Option PlainNode) → IsCalmAt o o
calm-itself None = tt
calm-itself (Some n) = still-calm n n (itself n)

-- a change of one slot
changed-each : (R : Slot → Slot → Type 0) (k : ℕ) (f : Slot → Slot) (xs : List Slot) → ((x : Slot) → slice_get xs k ≡ Some x → R x (f x)) → ((x : Slot) → R x x) →
    (i : ℕ) → R (nth no_slot xs i) (nth no_slot (changed k f xs) i)
changed-each R k f [] h same i = same no_slot
changed-each R zero f (x ∷ xs) h same zero = h x refl
changed-each R zero f (x ∷ xs) h same (suc i) = same (nth no_slot xs i)
changed-each R (suc k) f (x ∷ xs) h same zero = same x
changed-each R (suc k) f (x ∷ xs) h same (suc i) = changed-each R k f xs h same i

abbrev IsCalmSlot : Slot → Slot → Type 0
IsCalmSlot x y = IsCalmAt x.node y.node

abbrev KeepsZeroed : Slot → Slot → Type 0
KeepsZeroed x y = IsZeroedAt x.node → IsZeroedAt y.node

zeroed-calm : (o p : Option PlainNode) → IsCalmAt o p → IsZeroedAt o → IsZeroedAt p
zeroed-calm None None c z = tt
zeroed-calm None (Some m) c z = absurd c
zeroed-calm (Some n) None c z = absurd c
zeroed-calm (Some n) (Some m) c z = c.zeroed z

pub calm-grown : (w v : World) → IsCalm w v → IsGrown w v
calm-grown w v c = record { plan = c.plan; more = c.more; sent = c.sent; zeroed = λ z i. zeroed-calm (node_in w.nodes i) (node_in v.nodes i) (c.slots i) (z i) }

same-calm : (w : World) → IsCalm w w
same-calm w = record { plan = refl; cuts = refl; more = []; sent = none-more w.envelopes; slots = λ i. calm-itself (node_in w.nodes i) }

-- ---- steps of actors

node-calm : (w : World) (a : ℕ) (n : PlainNode) (s : Stepped PlainNode) → (slot_of w a).node ≡ Some n → IsCalmNode n s.after → IsCalm w (node_stepped a s w)
node-calm w a n s up c =
    record {
      plan = refl;
      cuts = refl;
      more = map (from a) s.sends;
      sent = refl;
      slots = changed-each IsCalmSlot (node_place w.plan a) (λ (slot : Slot). record slot { node = Some s.after }) w.nodes
          (λ x e. let here : x.node ≡ Some n = sym (ap (λ (o : Option Slot). Slot.node (unwrap_or o no_slot)) e) ∙ up in
          subst (λ (o : Option PlainNode). IsCalmAt o (Some s.after)) (sym here) c) (λ x. calm-itself x.node);
    }

source-calm : (w : World) (a : ℕ) (s : Stepped SourceState) → IsCalm w (source_stepped a s w)
source-calm w a s = record { plan = refl; cuts = refl; more = map (from a) s.sends; sent = refl; slots = λ i. calm-itself (node_in w.nodes i) }

clients-calm : (w : World) (xs : List ClientState) → IsCalm w (record w { clients = xs })
clients-calm w xs = record { plan = refl; cuts = refl; more = []; sent = none-more w.envelopes; slots = λ i. calm-itself (node_in w.nodes i) }

-- ---- deliveries, ticks and milling

taken-calm : (w : World) (e : Envelope) (role : Role) → IsCalm w (taken_by w e role)
taken-calm w e (IsSource s) = source-calm w e.to (source_packet_step w.plan s e.sender e.packet (source_at w s))
taken-calm w e (IsNode f r) = by-node (slot_of w e.to).node refl
  where
    by-node : (o : Option PlainNode) → (slot_of w e.to).node ≡ o → IsCalm w (node_takes w e (home_of w.plan (f, r)) o)
    by-node None up = same-calm w
    by-node (Some n) up = node-calm w e.to n (packet_step (home_of w.plan (f, r)) e.sender e.packet n) up (delivered-calm (home_of w.plan (f, r)) e.sender e.packet n)
taken-calm w e (IsClient c) = clients-calm w (changed c (client_after_packet w.plan c e.sender e.packet) w.clients)
taken-calm w e Nobody = same-calm w

comes-calm : (w : World) (o : Option Envelope) → IsCalm w (comes w o)
comes-calm w None = same-calm w
comes-calm w (Some e) = elim (can_come w e) as (λ b. IsCalm w (cond b (taken_by w e (role_of w.plan e.to)) w)) [
  | true ↦ taken-calm w e (role_of w.plan e.to)
  | false ↦ same-calm w
]

pub deliver-calm : (w : World) (k : ℕ) → IsCalm w (happens w (Deliver k))
deliver-calm w k = comes-calm w (slice_get w.envelopes k)

ticks-calm : (w : World) (a now : ℕ) (role : Role) → IsCalm w (ticks w a now role)
ticks-calm w a now (IsSource s) =
    elim (is_clock (source_at w s).clock now) as (λ b. IsCalm w (cond b (source_stepped a (source_tick_step w.plan s now (source_at w s)) w) w)) [
      | true ↦ source-calm w a (source_tick_step w.plan s now (source_at w s))
      | false ↦ same-calm w
    ]
ticks-calm w a now (IsNode f r) = by-node (slot_of w a).node refl
  where
    by-node : (o : Option PlainNode) → (slot_of w a).node ≡ o → IsCalm w (node_ticks w a now (home_of w.plan (f, r)) o)
    by-node None up = same-calm w
    by-node (Some n) up =
        elim (is_clock n.clock now) as (λ b. IsCalm w (cond b (node_stepped a (tick_step (home_of w.plan (f, r)) now n) w) w)) [
          | true ↦ node-calm w a n (tick_step (home_of w.plan (f, r)) now n) up (ticked-calm (home_of w.plan (f, r)) now n)
          | false ↦ same-calm w
        ]
ticks-calm w a now (IsClient c) =
    elim (is_clock (client_at w c).clock now) as (λ b. IsCalm w (cond b (client_stepped a c (client_tick_step w.plan c now (client_at w c)) w) w)) [
      | true ↦ record { plan = refl; cuts = refl; more = map (from a) (client_tick_step w.plan c now (client_at w c)).sends; sent = refl; slots = λ i. calm-itself (node_in w.nodes i) }
      | false ↦ same-calm w
    ]
ticks-calm w a now Nobody = same-calm w

pub tick-calm : (w : World) (a now : ℕ) → IsCalm w (happens w (Tick a now))
tick-calm w a now = ticks-calm w a now (role_of w.plan a)

-- ---- directives

sources-grown : (w : World) (a : ℕ) (b : Bool) (s : Stepped SourceState) → IsGrown w (cond b (source_stepped a s w) w)
sources-grown w a true s = calm-grown w _ (source-calm w a s)
sources-grown w a false s = calm-grown w w (same-calm w)

slots-grown : (w : World) (k : ℕ) (f : Slot → Slot) → ((x : Slot) → KeepsZeroed x (f x)) → IsGrown w (record w { nodes = changed k f w.nodes })
slots-grown w k f keeps =
    record { plan = refl; more = []; sent = none-more w.envelopes; zeroed = λ z i. changed-each KeepsZeroed k f w.nodes (λ x e. keeps x) (λ x h. h) i (z i) }

restarted-zeroed : (home : Home) (i : ℕ) → IsZeroed (restarted_node home i)
unfolding restarted_node
restarted-zeroed home i e = refl

restart-keeps : (home : Home) (i : ℕ) (x : Slot) → KeepsZeroed x (restart_slot home i x)
restart-keeps home i x z =
    (elim x.node as (λ o. x.node ≡ o → IsZeroedAt (Slot.node (elim o [ Some n ↦ x | None ↦ cond (nat_lt x.last_inc i) (record { last_inc = i; node = Some (restarted_node home i) }) x ]))) [
      | Some n ↦ λ e. z
      | None ↦ λ e. elim (nat_lt x.last_inc i) as (λ b. IsZeroedAt (Slot.node (cond b (record { last_inc = i; node = Some (restarted_node home i) }) x))) [
        | true ↦ restarted-zeroed home i
        | false ↦ z
      ]
    ]) refl

cuts-grown : (w : World) (cuts : List (ℕ × ℕ)) → IsGrown w (record w { cuts = cuts })
cuts-grown w cuts = record { plan = refl; more = []; sent = none-more w.envelopes; zeroed = λ z. z }

emit-grown : (w : World) (a t : ℕ) (role : Role) → IsGrown w (emits w a t role)
emit-grown w a t (IsSource s) = sources-grown w a (is_release_time w.plan t) (source_emits w.plan s t (source_at w s))
emit-grown w a t (IsNode f r) = calm-grown w w (same-calm w)
emit-grown w a t (IsClient c) = calm-grown w w (same-calm w)
emit-grown w a t Nobody = calm-grown w w (same-calm w)

release-grown : (w : World) (a t : ℕ) (role : Role) → IsGrown w (releases w a t role)
release-grown w a t (IsSource s) = sources-grown w a (is_release_time w.plan t) (source_releases w.plan s t (source_at w s))
release-grown w a t (IsNode f r) = calm-grown w w (same-calm w)
release-grown w a t (IsClient c) = calm-grown w w (same-calm w)
release-grown w a t Nobody = calm-grown w w (same-calm w)

crash-grown : (w : World) (a : ℕ) (role : Role) → IsGrown w (crashes w a role)
crash-grown w a (IsNode f r) = slots-grown w (node_place w.plan a) (λ (slot : Slot). record slot { node = None }) (λ x z. tt)
crash-grown w a (IsSource s) = calm-grown w w (same-calm w)
crash-grown w a (IsClient c) = calm-grown w w (same-calm w)
crash-grown w a Nobody = calm-grown w w (same-calm w)

restart-grown : (w : World) (a i : ℕ) (role : Role) → IsGrown w (restarts w a i role)
restart-grown w a i (IsNode f r) = slots-grown w (node_place w.plan a) (restart_slot (home_of w.plan (f, r)) i) (restart-keeps (home_of w.plan (f, r)) i)
restart-grown w a i (IsSource s) = calm-grown w w (same-calm w)
restart-grown w a i (IsClient c) = calm-grown w w (same-calm w)
restart-grown w a i Nobody = calm-grown w w (same-calm w)

cut-grown : (w : World) (a b : ℕ) → IsGrown w (cuts_link w a b)
cut-grown w a b = elim (link_up w a b) as (λ c. IsGrown w (cond c (record w { cuts = push w.cuts (a, b) }) w)) [
  | true ↦ cuts-grown w (push w.cuts (a, b))
  | false ↦ calm-grown w w (same-calm w)
]

-- ---- milling

milled-zeroed : (home : Home) (r : ℕ) (n : PlainNode) → can_mill home r n ≡ true → n.recovering ≡ false
unfolding ready
milled-zeroed home r n h =
    let p = both (nat_le 1 r && nat_le r 16) (nat_le r (cond n.recovering 0 (complete_buckets home n))) h in
    let low = le-of 1 r (both (nat_le 1 r) (nat_le r 16) p.0).0 in
    (elim n.recovering as (λ b. nat_le r (cond b 0 (complete_buckets home n)) ≡ true → b ≡ false) [
      | true ↦ λ e. let none = le-of r 0 e in absurd (omega (arith, low, none))
      | false ↦ λ e. refl
    ]) p.1

milled-calm : (home : Home) (r : ℕ) (n : PlainNode) → can_mill home r n ≡ true → IsCalmNode n (mill_step home r n).after
milled-calm home r n h =
    let m = milled-moves home r n in
    let moved = m.moved in
    onward-calm n (mill_step home r n).after (m.also ∙ milled-zeroed home r n h) (omega (arith, moved))

mills-calm : (w : World) (a r : ℕ) (role : Role) → IsCalm w (mills w a r role)
mills-calm w a r (IsNode f q) = by-node (slot_of w a).node refl
  where
    by-node : (o : Option PlainNode) → (slot_of w a).node ≡ o → IsCalm w (node_mills w a r (home_of w.plan (f, q)) o)
    by-node None up = same-calm w
    by-node (Some n) up =
        let home = home_of w.plan (f, q) in
        (elim (can_mill home r n) as (λ b. can_mill home r n ≡ b → IsCalm w (cond b (node_stepped a (mill_step home r n) w) w)) [
          | true ↦ λ e. node-calm w a n (mill_step home r n) up (milled-calm home r n e)
          | false ↦ λ e. same-calm w
        ]) refl
mills-calm w a r (IsSource s) = same-calm w
mills-calm w a r (IsClient c) = same-calm w
mills-calm w a r Nobody = same-calm w

pub mill-calm : (w : World) (a r : ℕ) → IsCalm w (happens w (Mill a r))
mill-calm w a r = mills-calm w a r (role_of w.plan a)

pub happens-grown : (w : World) (e : Event) → IsGrown w (happens w e)
happens-grown w (Phase p) = calm-grown w w (same-calm w)
happens-grown w (Emit a t) = emit-grown w a t (role_of w.plan a)
happens-grown w (Release a t) = release-grown w a t (role_of w.plan a)
happens-grown w (Cut a b) = cut-grown w a b
happens-grown w (Heal a b) = cuts-grown w _
happens-grown w (Crash a) = crash-grown w a (role_of w.plan a)
happens-grown w (Restart a i) = restart-grown w a i (role_of w.plan a)
happens-grown w (Deliver k) = calm-grown w _ (deliver-calm w k)
happens-grown w (Tick a now) = calm-grown w _ (tick-calm w a now)
happens-grown w (Mill a r) = calm-grown w _ (mill-calm w a r)

-- ---- what may come stays

up-same : (o p : Option PlainNode) → IsCalmAt o p → is_some p ≡ is_some o
up-same None None c = refl
up-same None (Some m) c = absurd c
up-same (Some n) None c = absurd c
up-same (Some n) (Some m) c = refl

calm-up : (w v : World) → IsCalm w v → (a : ℕ) → is_up v a ≡ is_up w a
calm-up w v c a = ap (λ (plan : Plan). role_up v a (role_of plan a)) c.plan ∙ by-role (role_of w.plan a)
  where
    by-role : (role : Role) → role_up v a role ≡ role_up w a role
    by-role (IsSource s) = refl
    by-role (IsNode f r) =
        ap (λ (plan : Plan). is_some (node_in v.nodes (node_place plan a))) c.plan ∙ up-same (node_in w.nodes (node_place w.plan a)) (node_in v.nodes (node_place w.plan a)) (c.slots (node_place w.plan a))
    by-role (IsClient d) = refl
    by-role Nobody = refl

-- links and who is up stay, and envelopes are added
pub record IsLike (w v : World) : Type 0 where
  pub plan : v.plan ≡ w.plan
  pub cuts : v.cuts ≡ w.cuts
  pub more : List Envelope
  pub sent : v.envelopes ≡ w.envelopes ++ more
  pub up : (a : ℕ) → is_up v a ≡ is_up w a

pub calm-like : (w v : World) → IsCalm w v → IsLike w v
calm-like w v c = record { plan = c.plan; cuts = c.cuts; more = c.more; sent = c.sent; up = calm-up w v c }

pub like-itself : (w : World) → IsLike w w
like-itself w = record { plan = refl; cuts = refl; more = []; sent = none-more w.envelopes; up = λ a. refl }

pub like-then : (w v u : World) → IsLike w v → IsLike v u → IsLike w u
like-then w v u a b =
    record {
      plan = b.plan ∙ a.plan;
      cuts = b.cuts ∙ a.cuts;
      more = a.more ++ b.more;
      sent = b.sent ∙ ap (λ (es : List Envelope). es ++ b.more) a.sent ∙ append_assoc w.envelopes a.more b.more;
      up = λ i. b.up i ∙ a.up i;
    }

pub like-come : (w v : World) → IsLike w v → (o : Option Envelope) → may_come v o ≡ may_come w o
like-come w v c None = refl
like-come w v c (Some e) = rw (c.up e.to, c.plan, c.cuts) refl
