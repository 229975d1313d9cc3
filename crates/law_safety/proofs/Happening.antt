-- Every event keeps a world safe and orderly, sends RecDone surely, and a tick serves.
use Rattle.std.proofs.Common.{◌≡◌, ℕ, ◌+◌, ◌-◌, ◌≤◌, Bool, true, false, cond, ◌&&◌, ◌==◌, nat_lt, nat_le, List, [], ◌∷◌, ◌++◌, map, length, drop, refl, sym, ap, subst, ◌∙◌, arith, Option, Some, None, slice_get, unwrap_or}
use Rattle.std.specs.Prelude.{IsTrue, IfSome}
use Rattle.std.proofs.Math.Seq.{drop-append_seam, drop-length}
use Rattle.dpc_lists.specs.Lists.{nth, changed, list_all, is_nil, push}
use Rattle.dpc_model.specs.Fragments.{log_of}
use Rattle.dpc_model.specs.Actors.{role_of, nodes_of}
use Rattle.dpc_model.specs.declared.actors.Role.{Role}
use Rattle.dpc_model.specs.declared.actors.Role.TheVariants.{Source as IsSource, Node as IsNode, Client as IsClient, Nobody}
use Rattle.dpc_model.specs.declared.messages.Event.{Event}
use Rattle.dpc_model.specs.declared.messages.Event.TheVariants.{Phase, Emit, Release, Cut, Heal, Crash, Restart, Deliver, Tick, Mill}
use Rattle.dpc_model.specs.declared.tuples.Tagged.{Tagged}
use Rattle.dpc_model.specs.declared.plans.Plan.{Plan}
use Rattle.node_model.specs.Mails.{Mail, Stepped}
use Rattle.dpc_model.specs.NodeStates.{is_stabilization}
use Rattle.node_model.specs.Nodes.{Home, PlainNode, ready, complete_upto, restarted_node}
use Rattle.node_model.specs.NodeSteps.{packet_step, mill_step, tick_step}
use Rattle.node_model.specs.Sources.{SourceState, source_readers, source_emits, source_releases, source_packet_step, source_tick_step}
use Rattle.node_model.specs.Clients.{ClientState, new_client, client_after_packet, client_tick_step}
use Rattle.world_model.specs.Worlds.{World, Envelope, Slot, home_of, node_place, from, slot_of, source_at, client_at, no_source, node_stepped, source_stepped, client_stepped, is_release_time, is_clock, emits, releases, link_up, cuts_link, crashes, restart_slot, restarts, node_takes, taken_by, can_come, comes, node_ticks, ticks, can_mill, node_mills, mills, happens}
use Rattle.world_model.specs.Safe.{AreTrue, IsTruePacket, IsDone, SendsDoneSurely, Serves, ServesAt, TicksServe, IsSafeStep}
use Rattle.world_model.specs.Orderly.{is_fitting, packet_way, carries_fitting, is_source_orderly, are_sources_orderly}
use Rattle.law_safety.proofs.Truth.{AreTrue-append}
use Rattle.law_safety.specs.Plans.{IsCheckedPlan, IsPlace}
use Rattle.dpc_lists.proofs.Truths.{both, le-of, eq-of, all-append}
use Rattle.dpc_lists.proofs.Elements.{get-changed}
use Rattle.dpc_model.proofs.Cuts.{none-counted}
use Rattle.law_safety.proofs.Frames.{IsGood}
use Rattle.law_safety.proofs.Emptied.{later-good}
use Rattle.law_safety.proofs.Starting.{restarted-good}
use Rattle.law_safety.proofs.Numbering.{node-at, source-at, all-at}
use Rattle.law_safety.proofs.Mailing.{AreMails, mails-true, mails-fit, mails-weaker}
use Rattle.law_safety.proofs.Giving.{IsGoodStep, IsDoneNode, milled-good}
use Rattle.law_safety.proofs.Delivered.{delivered-good}
use Rattle.law_safety.proofs.Ticked.{ticked-good}
use Rattle.law_safety.proofs.Serving.{ticked-serves}
use Rattle.law_safety.proofs.Sourcing.{IsFineSource, IsSourceStep, fine-of, orderly-of, emits-step, releases-step, source_delivered-step, source_ticked-step}
use Rattle.law_safety.proofs.Clienting.{IsGoodClient, client_delivered-good, client_ticked-good, client_ticked-mails, new_client-good}
use Rattle.law_safety.proofs.Worlding.{IsGoodSlot, AreGoodSlots, slots-later, slots-at, slots-changed, sources-at, sources-changed, AreGoodClients, client-later, clients-later, clients-at, clients-changed, actor-at, surely-sent, true-at, reading-at, client-below}

-- ---- the world

-- a world of a checked plan that is safe and orderly
pub record IsFine (w : World) (most : ℕ) : Type 0 where
  pub checked : IsCheckedPlan w.plan
  pub some : 1 ≤ most
  pub sent : AreTrue w.plan w.envelopes
  pub fits : list_all (is_fitting w.plan) w.envelopes ≡ true
  pub sources : are_sources_orderly w.plan 0 w.sources ≡ true
  pub nodes_up : AreGoodSlots w.plan most (nodes_of w.plan) w.nodes
  pub clients : AreGoodClients w.plan most 0 w.clients

-- a world after one event
pub record IsNext (w : World) (most : ℕ) (next : World) : Type 0 where
  pub fine : IsFine next (most + 1)
  pub done : SendsDoneSurely next (drop (length w.envelopes) next.envelopes)
  pub plan : next.plan ≡ w.plan

-- one that sends nothing
sends-nothing : (w next : World) → next.envelopes ≡ w.envelopes → SendsDoneSurely next (drop (length w.envelopes) next.envelopes)
sends-nothing w next same = subst (λ (es : List Envelope). SendsDoneSurely next es) (sym (ap (λ (es : List Envelope). drop (length w.envelopes) es) same ∙ drop-length w.envelopes)) tt

later-fine : (w : World) (most : ℕ) → IsFine w most → IsFine w (most + 1)
later-fine w most h =
    let some = h.some in
    record {
      checked = h.checked;
      some = omega (arith, some);
      sent = h.sent;
      fits = h.fits;
      sources = h.sources;
      nodes_up = slots-later w.plan most (nodes_of w.plan) w.nodes h.nodes_up;
      clients = clients-later w.plan most 0 w.clients h.clients;
    }

pub same-next : (w : World) (most : ℕ) → IsFine w most → IsNext w most w
same-next w most h = record { fine = later-fine w most h; done = sends-nothing w w refl; plan = refl }

-- what was sent before and now
sent-done : (w next : World) (a : ℕ) (ms : List Mail) → next.plan ≡ w.plan → next.envelopes ≡ w.envelopes ++ map (from a) ms → AreMails next.plan a (IsDone next a (role_of next.plan a)) ms →
    SendsDoneSurely next (drop (length w.envelopes) next.envelopes)
sent-done w next a ms plan same h =
    subst (λ (es : List Envelope). SendsDoneSurely next es)
    (sym (ap (λ (es : List Envelope). drop (length w.envelopes) es) same ∙ drop-append_seam w.envelopes (map (from a) ms))) (surely-sent next a ms h)

-- ---- a node steps

pub node-next : (w : World) (most a f r : ℕ) (s : Stepped PlainNode) → IsFine w most → role_of w.plan a ≡ IsNode f r → IsGoodStep (home_of w.plan (f, r)) a (most + 1) (IsDoneNode (home_of w.plan (f, r)) s.after) s →
    IsNext w most (node_stepped a s w)
node-next w most a f r s h role step =
    let next = node_stepped a s w in
    let some = h.some in
    let at = node-at w.plan a f r role in
    let found = slots-at w.plan most (node_place w.plan a) (f, r) (nodes_of w.plan) w.nodes at h.nodes_up in
    let here : slot_of next a ≡ record found.0 { node = Some s.after } =
    ap (λ (o : Option Slot). unwrap_or o (record { last_inc = 0; node = None })) (get-changed (node_place w.plan a) (λ (slot : Slot). record slot { node = Some s.after }) w.nodes found.0 found.1) in
    let is_done : IsDoneNode (home_of w.plan (f, r)) s.after → IsDone next a (role_of w.plan a) = λ d. rw (role, here) d in
    let mails = mails-weaker w.plan a (IsDoneNode (home_of w.plan (f, r)) s.after) (IsDone next a (role_of w.plan a)) is_done s.sends step.mails in
    record {
      fine = record {
        checked = h.checked;
        some = omega (arith, some);
        sent = AreTrue-append w.plan w.envelopes (map (from a) s.sends) h.sent (mails-true w.plan a _ s.sends step.mails);
        fits = all-append (is_fitting w.plan) w.envelopes (map (from a) s.sends) h.fits (mails-fit w.plan a _ s.sends step.mails);
        sources = h.sources;
        nodes_up = slots-changed w.plan most (node_place w.plan a) (f, r) (λ (slot : Slot). record slot { node = Some s.after }) (nodes_of w.plan) w.nodes at (λ slot e k. step.after) h.nodes_up;
        clients = clients-later w.plan most 0 w.clients h.clients;
      };
      done = sent-done w next a s.sends refl refl mails;
      plan = refl;
    }

-- the node that is up at an actor
pub node-here : (w : World) (most a f r : ℕ) (n : PlainNode) → IsFine w most → role_of w.plan a ≡ IsNode f r → (slot_of w a).node ≡ Some n → IsGood (home_of w.plan (f, r)) most n
node-here w most a f r n h role e =
    let found = slots-at w.plan most (node_place w.plan a) (f, r) (nodes_of w.plan) w.nodes (node-at w.plan a f r role) h.nodes_up in
    let here : slot_of w a ≡ found.0 = ap (λ (o : Option Slot). unwrap_or o (record { last_inc = 0; node = None })) found.1 in
    let up : found.0.node ≡ Some n = sym (ap (λ (slot : Slot). slot.node) here) ∙ e in
    subst (λ (o : Option PlainNode). IfSome o (λ x. IsGood (home_of w.plan (f, r)) most x)) up found.2

-- ---- a source steps

no_source-fine : (plan : Plan) (s : ℕ) → IsFineSource plan s no_source
no_source-fine plan s = record { within = omega arith; below = let none = none-counted (log_of plan s) in omega (arith, none); few = omega arith; subs = omega arith }

pub source-here : (w : World) (most s : ℕ) → IsFine w most → IsFineSource w.plan s (source_at w s)
source-here w most s h =
    (elim (slice_get w.sources s) as (λ o. slice_get w.sources s ≡ o → IsFineSource w.plan s (unwrap_or o no_source)) [
      | None ↦ λ e. no_source-fine w.plan s
      | Some x ↦ λ e. let zero_on : 0 + s ≡ s = omega arith in fine-of w.plan s x (rw zero_on at (sources-at w.plan 0 s w.sources x h.sources e))
    ]) refl

source-next : (w : World) (most a s : ℕ) (t : Stepped SourceState) → IsFine w most → role_of w.plan a ≡ IsSource s → IsSourceStep w.plan a s (source_at w s) t → IsNext w most (source_stepped a t w)
source-next w most a s t h role step =
    let next = source_stepped a t w in
    let some = h.some in
    let here : s ≡ a = source-at w.plan a s role in
    record {
      fine = record {
        checked = h.checked;
        some = omega (arith, some);
        sent = AreTrue-append w.plan w.envelopes (map (from a) t.sends) h.sent (mails-true w.plan a _ t.sends step.mails);
        fits = all-append (is_fitting w.plan) w.envelopes (map (from a) t.sends) h.fits (mails-fit w.plan a _ t.sends step.mails);
        sources = sources-changed w.plan 0 a (λ _. t.after) w.sources (λ x e k. kept here x e k) h.sources;
        nodes_up = slots-later w.plan most (nodes_of w.plan) w.nodes h.nodes_up;
        clients = clients-later w.plan most 0 w.clients h.clients;
      };
      done = sent-done w next a t.sends refl refl (mails-weaker w.plan a (Unit {0}) (IsDone next a (role_of w.plan a)) (λ d. rw role tt) t.sends step.mails);
      plan = refl;
    }
  where
    kept : s ≡ a → (x : SourceState) → slice_get w.sources a ≡ Some x → is_source_orderly w.plan (0 + a) x ≡ true → is_source_orderly w.plan (0 + a) t.after ≡ true
    kept here x e k =
        let zero_on : 0 + a ≡ a = omega arith in
        let old : is_source_orderly w.plan a x ≡ true = rw zero_on at k in
        let now : source_at w s ≡ x = ap (λ (i : ℕ). nth no_source w.sources i) here ∙ ap (λ (o : Option SourceState). unwrap_or o no_source) e in
        let many : length x.subs ≡ length (source_readers w.plan a) = eq-of _ _ (both _ (length x.subs == length (source_readers w.plan a)) old).1 in
        rw zero_on (subst (λ (i : ℕ). is_source_orderly w.plan i t.after ≡ true) here
        (orderly-of w.plan s t.after step.fine (step.subs ∙ ap (λ (y : SourceState). length y.subs) now ∙ many ∙ ap (λ (i : ℕ). length (source_readers w.plan i)) (sym here))))

-- ---- emit and release

emit-next : (w : World) (most a t : ℕ) (role : Role) → role_of w.plan a ≡ role → IsFine w most → IsNext w most (emits w a t role)
emit-next w most a t (IsSource s) e h =
    elim (is_release_time w.plan t) as (λ b. IsNext w most (cond b (source_stepped a (source_emits w.plan s t (source_at w s)) w) w)) [
      | true ↦ source-next w most a s (source_emits w.plan s t (source_at w s)) h e (emits-step w.plan a s t (source_at w s) h.checked.checked e (source-here w most s h))
      | false ↦ same-next w most h
    ]
emit-next w most a t (IsNode f r) e h = same-next w most h
emit-next w most a t (IsClient c) e h = same-next w most h
emit-next w most a t Nobody e h = same-next w most h

release-next : (w : World) (most a t : ℕ) (role : Role) → role_of w.plan a ≡ role → IsFine w most → IsNext w most (releases w a t role)
release-next w most a t (IsSource s) e h =
    (elim (is_release_time w.plan t) as (λ b. is_release_time w.plan t ≡ b → IsNext w most (cond b (source_stepped a (source_releases w.plan s t (source_at w s)) w) w)) [
      | true ↦ λ f. source-next w most a s (source_releases w.plan s t (source_at w s)) h e
          (releases-step w.plan a s t (source_at w s) h.checked.checked e (le-of t w.plan.end (both (nat_le 1 t) (nat_le t w.plan.end) f).1) (source-here w most s h))
      | false ↦ λ f. same-next w most h
    ]) refl
release-next w most a t (IsNode f r) e h = same-next w most h
release-next w most a t (IsClient c) e h = same-next w most h
release-next w most a t Nobody e h = same-next w most h

-- ---- links, crashes, restarts

-- the links are no part of it
cuts-next : (w : World) (most : ℕ) (cuts : List (ℕ × ℕ)) → IsFine w most → IsNext w most (record w { cuts = cuts })
cuts-next w most cuts h =
    let f = later-fine w most h in
    record {
      fine = record { checked = f.checked; some = f.some; sent = f.sent; fits = f.fits; sources = f.sources; nodes_up = f.nodes_up; clients = f.clients };
      done = sends-nothing w (record w { cuts = cuts }) refl;
      plan = refl;
    }

cut-next : (w : World) (most a b : ℕ) → IsFine w most → IsNext w most (cuts_link w a b)
cut-next w most a b h = elim (link_up w a b) as (λ c. IsNext w most (cond c (record w { cuts = push w.cuts (a, b) }) w)) [
  | true ↦ cuts-next w most (push w.cuts (a, b)) h
  | false ↦ same-next w most h
]

-- the slots of nodes are changed, and nothing is sent
slots-next : (w : World) (most a f r : ℕ) (g : Slot → Slot) → IsFine w most → role_of w.plan a ≡ IsNode f r →
    ((slot : Slot) → IsGoodSlot w.plan most (f, r) slot → IsGoodSlot w.plan (most + 1) (f, r) (g slot)) → IsNext w most (record w { nodes = changed (node_place w.plan a) g w.nodes })
slots-next w most a f r g h role keeps =
    let l = later-fine w most h in
    record {
      fine = record {
        checked = l.checked;
        some = l.some;
        sent = l.sent;
        fits = l.fits;
        sources = l.sources;
        nodes_up = slots-changed w.plan most (node_place w.plan a) (f, r) g (nodes_of w.plan) w.nodes (node-at w.plan a f r role) (λ slot e k. keeps slot k) h.nodes_up;
        clients = l.clients;
      };
      done = sends-nothing w (record w { nodes = changed (node_place w.plan a) g w.nodes }) refl;
      plan = refl;
    }

crash-next : (w : World) (most a : ℕ) (role : Role) → role_of w.plan a ≡ role → IsFine w most → IsNext w most (crashes w a role)
crash-next w most a (IsNode f r) e h = slots-next w most a f r (λ (slot : Slot). record slot { node = None }) h e (λ slot k. tt)
crash-next w most a (IsSource s) e h = same-next w most h
crash-next w most a (IsClient c) e h = same-next w most h
crash-next w most a Nobody e h = same-next w most h

restart-slot : (w : World) (most i f r : ℕ) (slot : Slot) → IsPlace (home_of w.plan (f, r)) → IsGoodSlot w.plan most (f, r) slot → IsGoodSlot w.plan (most + 1) (f, r) (restart_slot (home_of w.plan (f, r)) i slot)
restart-slot w most i f r slot place h = by-node slot.node refl
  where
    by-node : (o : Option PlainNode) → slot.node ≡ o → IsGoodSlot w.plan (most + 1) (f, r) (elim o [ Some n ↦ slot | None ↦ cond (nat_lt slot.last_inc i) (record { last_inc = i; node = Some (restarted_node (home_of w.plan (f, r)) i) }) slot ])
    by-node (Some n) e =
        subst (λ (o : Option PlainNode). IfSome o (λ x. IsGood (home_of w.plan (f, r)) (most + 1) x)) (sym e)
        (later-good (home_of w.plan (f, r)) most n (subst (λ (o : Option PlainNode). IfSome o (λ x. IsGood (home_of w.plan (f, r)) most x)) e h))
    by-node None e = elim (nat_lt slot.last_inc i) as (λ b. IsGoodSlot w.plan (most + 1) (f, r) (cond b (record { last_inc = i; node = Some (restarted_node (home_of w.plan (f, r)) i) }) slot)) [
      | true ↦ restarted-good (home_of w.plan (f, r)) (most + 1) i place
      | false ↦ subst (λ (o : Option PlainNode). IfSome o (λ x. IsGood (home_of w.plan (f, r)) (most + 1) x)) (sym e) tt
    ]

restart-next : (w : World) (most a i : ℕ) (role : Role) → role_of w.plan a ≡ role → IsFine w most → IsNext w most (restarts w a i role)
restart-next w most a i (IsNode f r) e h =
    slots-next w most a f r (restart_slot (home_of w.plan (f, r)) i) h e (λ slot k. restart-slot w most i f r slot (actor-at w.plan a f r h.checked e).place k)
restart-next w most a i (IsSource s) e h = same-next w most h
restart-next w most a i (IsClient c) e h = same-next w most h
restart-next w most a i Nobody e h = same-next w most h

-- ---- an envelope comes

clients-next : (w : World) (most c : ℕ) (f : ClientState → ClientState) → IsFine w most → ((x : ClientState) → IsGoodClient w.plan c most x → IsGoodClient w.plan c (most + 1) (f x)) → IsNext w most (record w { clients = changed c f w.clients })
clients-next w most c f h keeps =
    let l = later-fine w most h in
    let zero_on : 0 + c ≡ c = omega arith in
    record {
      fine = record {
        checked = l.checked;
        some = l.some;
        sent = l.sent;
        fits = l.fits;
        sources = l.sources;
        nodes_up = l.nodes_up;
        clients = clients-changed w.plan most 0 c f w.clients (λ x e k. rw zero_on (keeps x (rw zero_on at k))) h.clients;
      };
      done = sends-nothing w (record w { clients = changed c f w.clients }) refl;
      plan = refl;
    }

taken-next : (w : World) (most : ℕ) (e : Envelope) (role : Role) → role_of w.plan e.to ≡ role → IsTruePacket w.plan (role_of w.plan e.sender) e.packet → is_fitting w.plan e ≡ true → IsFine w most → IsNext w most (taken_by w e role)
taken-next w most e (IsSource s) role truth fits h =
    source-next w most e.to s (source_packet_step w.plan s e.sender e.packet (source_at w s)) h role
    (source_delivered-step w.plan e.to s e.sender e.packet (source_at w s) h.checked.checked role (source-here w most s h))
taken-next w most e (IsNode f r) role truth fits h = by-node (slot_of w e.to).node refl
  where
    by-node : (o : Option PlainNode) → (slot_of w e.to).node ≡ o → IsNext w most (node_takes w e (home_of w.plan (f, r)) o)
    by-node None up = same-next w most h
    by-node (Some n) up =
        let home = home_of w.plan (f, r) in
        let p = both (packet_way w.plan (role_of w.plan e.sender) (role_of w.plan e.to) e.packet) (carries_fitting w.plan (role_of w.plan e.sender) e.packet) fits in
        node-next w most e.to f r (packet_step home e.sender e.packet n) h role
        (delivered-good home e.to most e.sender e.packet n (actor-at w.plan e.to f r h.checked role) (rw role at p.0) p.1 truth (node-here w most e.to f r n h role up))
taken-next w most e (IsClient c) role truth fits h =
    let p = both (packet_way w.plan (role_of w.plan e.sender) (role_of w.plan e.to) e.packet) (carries_fitting w.plan (role_of w.plan e.sender) e.packet) fits in
    clients-next w most c (client_after_packet w.plan c e.sender e.packet) h (λ x k. client-later w.plan c most _ (client_delivered-good w.plan c most e.sender e.packet x truth p.1 k))
taken-next w most e Nobody role truth fits h = same-next w most h

deliver-next : (w : World) (most k : ℕ) → IsFine w most → IsNext w most (comes w (slice_get w.envelopes k))
deliver-next w most k h =
    (elim (slice_get w.envelopes k) as (λ o. slice_get w.envelopes k ≡ o → IsNext w most (comes w o)) [
      | None ↦ λ f. same-next w most h
      | Some e ↦ λ f. elim (can_come w e) as (λ b. IsNext w most (cond b (taken_by w e (role_of w.plan e.to)) w)) [
        | true ↦ taken-next w most e (role_of w.plan e.to) refl (true-at w.plan w.envelopes k e h.sent f) (all-at (is_fitting w.plan) w.envelopes k e h.fits f) h
        | false ↦ same-next w most h
      ]
    ]) refl

-- ---- a tick

tick-next : (w : World) (most a now : ℕ) (role : Role) → role_of w.plan a ≡ role → IsFine w most → IsNext w most (ticks w a now role)
tick-next w most a now (IsSource s) e h =
    elim (is_clock (source_at w s).clock now) as (λ b. IsNext w most (cond b (source_stepped a (source_tick_step w.plan s now (source_at w s)) w) w)) [
      | true ↦ source-next w most a s (source_tick_step w.plan s now (source_at w s)) h e (source_ticked-step w.plan a s now (source_at w s) e (source-here w most s h))
      | false ↦ same-next w most h
    ]
tick-next w most a now (IsNode f r) e h = by-node (slot_of w a).node refl
  where
    by-node : (o : Option PlainNode) → (slot_of w a).node ≡ o → IsNext w most (node_ticks w a now (home_of w.plan (f, r)) o)
    by-node None up = same-next w most h
    by-node (Some n) up =
        let home = home_of w.plan (f, r) in
        elim (is_clock n.clock now) as (λ b. IsNext w most (cond b (node_stepped a (tick_step home now n) w) w)) [
          | true ↦
              let step = ticked-good home a most now n (actor-at w.plan a f r h.checked e) (node-here w most a f r n h e up) in
              node-next w most a f r (tick_step home now n) h e
              (record { after = step.after; mails = mails-weaker w.plan a ⊥ (IsDoneNode home (tick_step home now n).after) (λ d. absurd d) (tick_step home now n).sends step.mails })
          | false ↦ same-next w most h
        ]
tick-next w most a now (IsClient c) e h =
    elim (is_clock (client_at w c).clock now) as (λ b. IsNext w most (cond b (client_stepped a c (client_tick_step w.plan c now (client_at w c)) w) w)) [
      | true ↦ client-ticks
      | false ↦ same-next w most h
    ]
  where
    client-ticks : IsNext w most (client_stepped a c (client_tick_step w.plan c now (client_at w c)) w)
    client-ticks =
        let t = client_tick_step w.plan c now (client_at w c) in
        let next = client_stepped a c t w in
        let reading = reading-at w.plan c h.checked (client-below w.plan a c e) in
        let zero_on : 0 + c ≡ c = omega arith in
        let good : IsGoodClient w.plan c most (client_at w c) = rw zero_on at (clients-at w.plan most 0 c w.clients (new_client w.plan c) h.clients (rw zero_on (new_client-good w.plan c most h.checked.checked reading h.some))) in
        let mails = client_ticked-mails w.plan a c most now (client_at w c) e reading good.sound in
        let kept = (clients-next w most c (λ _. t.after) h (λ x k. client_ticked-good w.plan c most now (client_at w c) good)).fine in
        record {
          fine = record {
            checked = kept.checked;
            some = kept.some;
            sent = AreTrue-append w.plan w.envelopes (map (from a) t.sends) h.sent (mails-true w.plan a ⊥ t.sends mails);
            fits = all-append (is_fitting w.plan) w.envelopes (map (from a) t.sends) h.fits (mails-fit w.plan a ⊥ t.sends mails);
            sources = kept.sources;
            nodes_up = kept.nodes_up;
            clients = kept.clients;
          };
          done = sent-done w next a t.sends refl refl (mails-weaker w.plan a ⊥ (IsDone next a (role_of w.plan a)) (λ d. absurd d) t.sends mails);
          plan = refl;
        }
tick-next w most a now Nobody e h = same-next w most h

-- it serves
tick-serves : (w : World) (most a now : ℕ) (role : Role) → role_of w.plan a ≡ role → IsFine w most → ServesAt w a now role
tick-serves w most a now (IsSource s) e h = tt
tick-serves w most a now (IsNode f r) e h = by-node (slot_of w a).node refl
  where
    home : Home
    home = home_of w.plan (f, r)

    by-node : (o : Option PlainNode) → (slot_of w a).node ≡ o → IfSome o (λ n. let home = home_of w.plan (f, r) in let s = tick_step home now n in
        IsTrue (is_clock n.clock now) → is_stabilization s.after.state ≡ false → Serves home now n s)
    by-node None up = tt
    by-node (Some n) up = λ clock calm. ticked-serves (home_of w.plan (f, r)) most now n (actor-at w.plan a f r h.checked e).place (node-here w most a f r n h e up) calm
tick-serves w most a now (IsClient c) e h = tt
tick-serves w most a now Nobody e h = tt

-- ---- milling

-- a node that may be milled has nothing closed, and the buckets are complete
pub record MayMill (home : Home) (r : ℕ) (n : PlainNode) : Type 0 where
  pub up : n.recovering ≡ false
  pub none : n.closed ≡ []
  pub few : n.cursor + r ≤ complete_upto home n

pub may-mill : (home : Home) (r : ℕ) (n : PlainNode) → can_mill home r n ≡ true → MayMill home r n
unfolding ready
may-mill home r n h = by-parts n.recovering n.closed refl refl
  where
    by-parts : (down : Bool) (closed : List (List Tagged)) → n.recovering ≡ down → n.closed ≡ closed → MayMill home r n
    by-parts true closed e f =
        let p = both (nat_le 1 r && nat_le r 16) (nat_le r (cond n.recovering 0 (cond (is_nil n.closed) (complete_upto home n - n.cursor) 0))) h in
        let q = both (nat_le 1 r) (nat_le r 16) p.0 in
        let low = le-of 1 r q.0 in
        let none : r ≤ 0 = le-of r 0 (rw e at p.1) in absurd (omega (arith, low, none))
    by-parts false (b ∷ bs) e f =
        let p = both (nat_le 1 r && nat_le r 16) (nat_le r (cond n.recovering 0 (cond (is_nil n.closed) (complete_upto home n - n.cursor) 0))) h in
        let q = both (nat_le 1 r) (nat_le r 16) p.0 in
        let low = le-of 1 r q.0 in
        let none : r ≤ 0 = le-of r 0 (rw (e, f) at p.1) in absurd (omega (arith, low, none))
    by-parts false [] e f =
        let p = both (nat_le 1 r && nat_le r 16) (nat_le r (cond n.recovering 0 (cond (is_nil n.closed) (complete_upto home n - n.cursor) 0))) h in
        let q = both (nat_le 1 r) (nat_le r 16) p.0 in
        let low = le-of 1 r q.0 in
        let some : r ≤ complete_upto home n - n.cursor = le-of r (complete_upto home n - n.cursor) (rw (e, f) at p.1) in
        record { up = e; none = f; few = omega (arith, low, some) }

mill-next : (w : World) (most a r : ℕ) (role : Role) → role_of w.plan a ≡ role → IsFine w most → IsNext w most (mills w a r role)
mill-next w most a r (IsNode f q) e h = by-node (slot_of w a).node refl
  where
    by-node : (o : Option PlainNode) → (slot_of w a).node ≡ o → IsNext w most (node_mills w a r (home_of w.plan (f, q)) o)
    by-node None up = same-next w most h
    by-node (Some n) up =
        let home = home_of w.plan (f, q) in
        (elim (can_mill home r n) as (λ b. can_mill home r n ≡ b → IsNext w most (cond b (node_stepped a (mill_step home r n) w) w)) [
          | true ↦ λ can.
              let m = may-mill home r n can in
              node-next w most a f q (mill_step home r n) h e (milled-good home a most r n (actor-at w.plan a f q h.checked e) m.up m.none m.few (node-here w most a f q n h e up))
          | false ↦ λ can. same-next w most h
        ]) refl
mill-next w most a r (IsSource s) e h = same-next w most h
mill-next w most a r (IsClient c) e h = same-next w most h
mill-next w most a r Nobody e h = same-next w most h

-- ---- any event

pub happens-next : (w : World) (most : ℕ) (e : Event) → IsFine w most → IsNext w most (happens w e)
happens-next w most (Phase p) h = same-next w most h
happens-next w most (Emit a t) h = emit-next w most a t (role_of w.plan a) refl h
happens-next w most (Release a t) h = release-next w most a t (role_of w.plan a) refl h
happens-next w most (Cut a b) h = cut-next w most a b h
happens-next w most (Heal a b) h = cuts-next w most _ h
happens-next w most (Crash a) h = crash-next w most a (role_of w.plan a) refl h
happens-next w most (Restart a i) h = restart-next w most a i (role_of w.plan a) refl h
happens-next w most (Deliver k) h = deliver-next w most k h
happens-next w most (Tick a now) h = tick-next w most a now (role_of w.plan a) refl h
happens-next w most (Mill a r) h = mill-next w most a r (role_of w.plan a) refl h

pub happens-serves : (w : World) (most : ℕ) (e : Event) → IsFine w most → TicksServe w e
happens-serves w most (Tick a now) h = tick-serves w most a now (role_of w.plan a) refl h
happens-serves w most (Phase p) h = tt
happens-serves w most (Emit a t) h = tt
happens-serves w most (Release a t) h = tt
happens-serves w most (Cut a b) h = tt
happens-serves w most (Heal a b) h = tt
happens-serves w most (Crash a) h = tt
happens-serves w most (Restart a i) h = tt
happens-serves w most (Deliver k) h = tt
happens-serves w most (Mill a r) h = tt

pub happens-safe : (w : World) (most : ℕ) (e : Event) → IsFine w most → IsSafeStep w e
happens-safe w most e h = record { done = (happens-next w most e h).done; serves = happens-serves w most e h }
