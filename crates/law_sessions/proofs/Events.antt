-- Every event leaves the sessions of all senders held, and so does every run.
use Rattle.std.proofs.Common.{◌≡◌, ℕ, ◌+◌, Bool, true, false, cond, not, ◌&&◌, ◌==◌, nat_lt, nat_le, List, [], ◌∷◌, ◌++◌, map, length, drop, refl, sym, ap, subst, ◌∙◌, Option, Some, None, slice_get}
use Rattle.std.specs.Prelude.{is_some}
use Rattle.std.proofs.lemmas.List.{append-nil}
use Rattle.std.proofs.Math.Seq.{drop-length}
use Rattle.dpc_lists.specs.Lists.{nth, changed, push}
use Rattle.dpc_model.specs.Actors.{role_of}
use Rattle.dpc_model.specs.declared.actors.Role.{Role}
use Rattle.dpc_model.specs.declared.actors.Role.TheVariants.{Source as IsSource, Node as IsNode, Client as IsClient, Nobody}
use Rattle.dpc_model.specs.Sessions.{no_session}
use Rattle.dpc_model.specs.declared.tuples.Item.{Item}
use Rattle.dpc_model.specs.declared.messages.Event.{Event}
use Rattle.dpc_model.specs.declared.messages.Event.TheVariants.{Phase, Emit, Release, Cut, Heal, Crash, Restart, Deliver, Tick, Mill}
use Rattle.dpc_model.specs.declared.messages.Sess.{Sess}
use Rattle.dpc_model.specs.declared.messages.Subscribe.{Subscribe}
use Rattle.dpc_model.specs.declared.plans.Plan.{Plan}
use Rattle.dpc_model.specs.declared.plans.StreamRef.TheVariants.{Source, Frag}
use Rattle.node_model.specs.Nodes.{Home, PlainNode, own_readers, shown, restarted_node}
use Rattle.node_model.specs.Mails.{Stepped}
use Rattle.node_model.specs.NodeSteps.{packet_step, mill_step, tick_step}
use Rattle.node_model.specs.Sources.{SourceState, source_readers, source_shown, source_emits, source_releases, source_packet_step, source_tick_step}
use Rattle.node_model.specs.Clients.{client_after_packet, client_tick_step, ClientState}
use Rattle.world_model.specs.Worlds.{World, Envelope, Slot, home_of, node_place, from, slot_of, source_at, client_at, node_stepped, source_stepped, client_stepped, is_release_time, is_clock, emits, releases, link_up, heals_link, crashes, restart_slot, restarts, node_takes, taken_by, can_come, comes, node_ticks, ticks, can_mill, node_mills, mills, happens, run_from}
use Rattle.world_model.specs.SessionLaw.{Channel, carried, goes_down, sent_after}
use Rattle.world_model.specs.Safe.{IsTruePacket}
use Rattle.world_model.specs.Orderly.{is_fitting, packet_way, carries_fitting}
use Rattle.dpc_lists.proofs.Truths.{both, le-of, eq-of}
use Rattle.law_safety.proofs.Numbering.{all-at}
use Rattle.law_safety.proofs.Worlding.{true-at, actor-at}
use Rattle.law_safety.proofs.Happening.{IsFine, happens-next, node-here, source-here, may-mill}
use Rattle.law_sessions.specs.Openings.{asks_for, brings, has_first, asked_next, opened_by}
use Rattle.law_sessions.proofs.Keeping.{line_of, mailed, held-same, mapped}
use Rattle.law_safety.proofs.Distinct.{readers-distinct}
use Rattle.law_sessions.proofs.Noding.{Goes, ticked-goes, milled-goes, server-of}
use Rattle.law_sessions.proofs.Delivering.{delivered-takes}
use Rattle.law_sessions.proofs.Sources.{SourceGoes, emits-goes, releases-goes, source_delivered-takes, source_ticked-goes}
use Rattle.law_sessions.proofs.Worlds.{no_slot, HeldNode, HeldAt, AreHeld, past_next, opened_next, AreHeldNext, untouched, quiet-held, void-held, other-held, other-slot, stepped-slot, StepTakes, node-held, SourceStepTakes, source-held}

-- nothing is brought
abbrev nothing : Channel → Option Subscribe
nothing l = None

either-same : {X : Type 0} (b : Bool) (x : X) → cond b x x ≡ x
either-same true x = refl
either-same false x = refl

goes-step : (home : Home) (a : ℕ) (n : PlainNode) (s : Stepped PlainNode) → Goes home a n s → StepTakes home a nothing n s
goes-step home a n s goes h q held k sub e =
    held-same home.plan (Frag home.frag) (shown home s.after) (λ u. h k u ++ mailed a (own_readers home) s.sends k u) (λ u. h k u ++ mailed a (own_readers home) s.sends k u) (q k)
    (λ u. cond (has_first (line_of a (own_readers home) k u) (map (from a) s.sends)) (q k u) (q k u)) sub (λ u. refl) (λ u. either-same (has_first (line_of a (own_readers home) k u) (map (from a) s.sends)) (q k u)) (goes h q held k sub e)

source-step : (plan : Plan) (a s : ℕ) (x : SourceState) (t : Stepped SourceState) → SourceGoes plan a s x t → SourceStepTakes plan a s nothing x t
source-step plan a s x t goes h q held k sub e =
    held-same plan (Source s) (source_shown plan s t.after) (λ u. h k u ++ mailed a (source_readers plan s) t.sends k u) (λ u. h k u ++ mailed a (source_readers plan s) t.sends k u) (q k)
    (λ u. cond (has_first (line_of a (source_readers plan s) k u) (map (from a) t.sends)) (q k u) (q k u)) sub (λ u. refl) (λ u. either-same (has_first (line_of a (source_readers plan s) k u) (map (from a) t.sends)) (q k u)) (goes h q held k sub e)

-- ---- emit and release

emit-held : (w : World) (most a t : ℕ) (role : Role) (h : Channel → List Item) (q : Channel → Subscribe) → role_of w.plan a ≡ role → IsFine w most → AreHeld w h q → AreHeldNext w (emits w a t role) nothing h q
emit-held w most a t (IsSource s) h q e fine held =
    elim (is_release_time w.plan t) as (λ b. AreHeldNext w (cond b (source_stepped a (source_emits w.plan s t (source_at w s)) w) w) nothing h q) [
      | true ↦ source-held w a s (source_emits w.plan s t (source_at w s)) nothing h q e
          (source-step w.plan a s (source_at w s) (source_emits w.plan s t (source_at w s)) (emits-goes w.plan a s t (source_at w s) fine.checked.checked (source-here w most s fine))) held
      | false ↦ void-held w nothing h q held
    ]
emit-held w most a t (IsNode f r) h q e fine held = void-held w nothing h q held
emit-held w most a t (IsClient c) h q e fine held = void-held w nothing h q held
emit-held w most a t Nobody h q e fine held = void-held w nothing h q held

release-held : (w : World) (most a t : ℕ) (role : Role) (h : Channel → List Item) (q : Channel → Subscribe) → role_of w.plan a ≡ role → IsFine w most → AreHeld w h q → AreHeldNext w (releases w a t role) nothing h q
release-held w most a t (IsSource s) h q e fine held =
    (elim (is_release_time w.plan t) as (λ b. is_release_time w.plan t ≡ b → AreHeldNext w (cond b (source_stepped a (source_releases w.plan s t (source_at w s)) w) w) nothing h q) [
      | true ↦ λ f. source-held w a s (source_releases w.plan s t (source_at w s)) nothing h q e
          (source-step w.plan a s (source_at w s) (source_releases w.plan s t (source_at w s))
          (releases-goes w.plan a s t (source_at w s) fine.checked.checked (le-of 1 t (both (nat_le 1 t) (nat_le t w.plan.end) f).0) (source-here w most s fine))) held
      | false ↦ λ f. void-held w nothing h q held
    ]) refl
release-held w most a t (IsNode f r) h q e fine held = void-held w nothing h q held
release-held w most a t (IsClient c) h q e fine held = void-held w nothing h q held
release-held w most a t Nobody h q e fine held = void-held w nothing h q held

-- ---- crashes and restarts

gone : (c : Bool) (xs : List Item) → (c ≡ false → xs ≡ []) → cond c [] xs ≡ []
gone true xs h = refl
gone false xs h = h refl

-- nothing is sent, and what was sent before is gone
past-gone : (l : Channel) (items : List Item) (w next : World) → next.envelopes ≡ w.envelopes → (goes_down l w next ≡ false → items ≡ []) → past_next l items w next ≡ []
past-gone l items w next same h =
    ap (λ (es : List Envelope). cond (goes_down l w next) [] items ++ carried l es) (ap (λ (es : List Envelope). drop (length w.envelopes) es) same ∙ drop-length w.envelopes)
    ∙ append-nil (cond (goes_down l w next) [] items) ∙ gone (goes_down l w next) items h

-- the slots of one node are changed
slots-held : (w : World) (b f r : ℕ) (change : Slot → Slot) (h : Channel → List Item) (q : Channel → Subscribe) → role_of w.plan b ≡ IsNode f r → AreHeld w h q →
    let next = record w { nodes = changed (node_place w.plan b) change w.nodes } in
    HeldNode (home_of w.plan (f, r)) b (λ l. past_next l (h l) w next) (λ l. opened_next l None (q l) w next) (nth no_slot (changed (node_place w.plan b) change w.nodes) (node_place w.plan b)).node → AreHeldNext w next nothing h q
slots-held w b f r change h q role held own a =
    let next = record w { nodes = changed (node_place w.plan b) change w.nodes } in
    let nodes = changed (node_place w.plan b) change w.nodes in
    (elim (a == b) as (λ c. (a == b) ≡ c → HeldAt w.plan w.sources nodes (λ l. past_next l (h l) w next) (λ l. opened_next l None (q l) w next) a (role_of w.plan a)) [
      | true ↦ λ e. subst (λ (i : ℕ). HeldAt w.plan w.sources nodes (λ l. past_next l (h l) w next) (λ l. opened_next l None (q l) w next) i (role_of w.plan i)) (sym (eq-of a b e))
          (subst (λ (x : Role). HeldAt w.plan w.sources nodes (λ l. past_next l (h l) w next) (λ l. opened_next l None (q l) w next) b x) (sym role) own)
      | false ↦ λ e. untouched w w w.sources nodes nothing h q [] a (sym (append-nil w.envelopes)) (λ to u. refl) (λ to u. refl) (λ s g. refl) (λ g p k. other-slot w.plan a b g p f r change w.nodes e role k) held
    ]) refl

crash-own : (w : World) (most b f r : ℕ) (h : Channel → List Item) (q : Channel → Subscribe) → IsFine w most → role_of w.plan b ≡ IsNode f r → AreHeld w h q →
    let next = record w { nodes = changed (node_place w.plan b) (λ (slot : Slot). record slot { node = None }) w.nodes } in
    HeldNode (home_of w.plan (f, r)) b (λ l. past_next l (h l) w next) (λ l. opened_next l None (q l) w next) None
crash-own w most b f r h q fine role held to u =
    let next = record w { nodes = changed (node_place w.plan b) (λ (slot : Slot). record slot { node = None }) w.nodes } in
    let l : Channel = record { sender = b; reader = to; sess = u } in
    past-gone l (h l) w next refl (by-node (slot_of w b).node refl)
  where
    by-node : (x : Option PlainNode) → (slot_of w b).node ≡ x → goes_down (record { sender = b; reader = to; sess = u }) w (record w { nodes = changed (node_place w.plan b) (λ (slot : Slot). record slot { node = None }) w.nodes }) ≡ false → h (record { sender = b; reader = to; sess = u }) ≡ []
    by-node None down e =
        let mine : HeldNode (home_of w.plan (f, r)) b h q (slot_of w b).node = rw role at (held b) in
        (subst (λ (x : Option PlainNode). HeldNode (home_of w.plan (f, r)) b h q x) down mine) to u
    by-node (Some n) up e =
        let slot = stepped-slot w most b f r (λ (slot : Slot). record slot { node = None }) fine role in
        let clash : (is_some (slot_of w b).node && not (is_some (nth no_slot (changed (node_place w.plan b) (λ (slot : Slot). record slot { node = None }) w.nodes) (node_place w.plan b)).node)) ≡ false = rw role at e in
        let wrong : true ≡ false = rw (up, slot) at clash in cc

crash-held : (w : World) (most b : ℕ) (role : Role) (h : Channel → List Item) (q : Channel → Subscribe) → role_of w.plan b ≡ role → IsFine w most → AreHeld w h q → AreHeldNext w (crashes w b role) nothing h q
crash-held w most b (IsNode f r) h q e fine held =
    let change = λ (slot : Slot). record slot { node = None } in
    let next = record w { nodes = changed (node_place w.plan b) change w.nodes } in
    slots-held w b f r change h q e held
    (subst (λ (slot : Slot). HeldNode (home_of w.plan (f, r)) b (λ l. past_next l (h l) w next) (λ l. opened_next l None (q l) w next) slot.node) (sym (stepped-slot w most b f r change fine e)) (crash-own w most b f r h q fine e held))
crash-held w most b (IsSource s) h q e fine held = void-held w nothing h q held
crash-held w most b (IsClient c) h q e fine held = void-held w nothing h q held
crash-held w most b Nobody h q e fine held = void-held w nothing h q held

-- a node that was restarted has no session
restarted-held : (home : Home) (a i : ℕ) (h : Channel → List Item) (q : Channel → Subscribe) → ((to : ℕ) (u : Sess) → h (record { sender = a; reader = to; sess = u }) ≡ []) → HeldNode home a h q (Some (restarted_node home i))
unfolding restarted_node
restarted-held home a i h q none k sub e =
    let c = mapped (λ (x : ℕ). no_session) (own_readers home) k sub e in
    record { open_one = λ l f. let shut : None ≡ Some l = rw c.2 at f in cc; newer = λ u f. none (nth 0 (own_readers home) k) u }

restart-by : (home : Home) (i : ℕ) (slot : Slot) (o : Option PlainNode) → slot.node ≡ o →
    restart_slot home i slot ≡ elim o [ Some n ↦ slot | None ↦ cond (nat_lt slot.last_inc i) (record { last_inc = i; node = Some (restarted_node home i) }) slot ]
restart-by home i slot o e = ap (λ (x : Option PlainNode). elim x [ Some n ↦ slot | None ↦ cond (nat_lt slot.last_inc i) (record { last_inc = i; node = Some (restarted_node home i) }) slot ]) e

restart-none : (home : Home) (i : ℕ) (slot : Slot) (b : Bool) → slot.node ≡ None → nat_lt slot.last_inc i ≡ b → restart_slot home i slot ≡ cond b (record { last_inc = i; node = Some (restarted_node home i) }) slot
restart-none home i slot b e f = restart-by home i slot None e ∙ ap (λ (c : Bool). cond c (record { last_inc = i; node = Some (restarted_node home i) }) slot) f

restart-held : (w : World) (most b i : ℕ) (role : Role) (h : Channel → List Item) (q : Channel → Subscribe) → role_of w.plan b ≡ role → IsFine w most → AreHeld w h q → AreHeldNext w (restarts w b i role) nothing h q
restart-held w most b i (IsNode f r) h q e fine held = by-node (slot_of w b).node refl
  where
    same-slot : restart_slot (home_of w.plan (f, r)) i (slot_of w b) ≡ slot_of w b → AreHeldNext w (restarts w b i (IsNode f r)) nothing h q
    same-slot same a =
        let change = restart_slot (home_of w.plan (f, r)) i in
        let nodes = changed (node_place w.plan b) change w.nodes in
        untouched w w w.sources nodes nothing h q [] a (sym (append-nil w.envelopes)) (λ to u. refl) (λ to u. refl) (λ s g. refl)
        (λ g p k. (elim (a == b) as (λ c. (a == b) ≡ c → nth no_slot (changed (node_place w.plan b) (restart_slot (home_of w.plan (f, r)) i) w.nodes) (node_place w.plan a) ≡ slot_of w a) [
          | true ↦ λ d. subst (λ (j : ℕ). nth no_slot (changed (node_place w.plan b) (restart_slot (home_of w.plan (f, r)) i) w.nodes) (node_place w.plan j) ≡ slot_of w j) (sym (eq-of a b d)) (stepped-slot w most b f r (restart_slot (home_of w.plan (f, r)) i) fine e ∙ same)
          | false ↦ λ d. other-slot w.plan a b g p f r (restart_slot (home_of w.plan (f, r)) i) w.nodes d e k
        ]) refl) held

    anew : (slot_of w b).node ≡ None → restart_slot (home_of w.plan (f, r)) i (slot_of w b) ≡ record { last_inc = i; node = Some (restarted_node (home_of w.plan (f, r)) i) } → AreHeldNext w (restarts w b i (IsNode f r)) nothing h q
    anew down new =
        let home = home_of w.plan (f, r) in
        let change = restart_slot home i in
        let next = record w { nodes = changed (node_place w.plan b) change w.nodes } in
        let mine : HeldNode home b h q (slot_of w b).node = rw e at (held b) in
        let old : HeldNode home b h q None = subst (λ (x : Option PlainNode). HeldNode home b h q x) down mine in
        slots-held w b f r change h q e held
        (subst (λ (slot : Slot). HeldNode home b (λ l. past_next l (h l) w next) (λ l. opened_next l None (q l) w next) slot.node) (sym (stepped-slot w most b f r change fine e ∙ new))
        (restarted-held home b i (λ l. past_next l (h l) w next) (λ l. opened_next l None (q l) w next) (λ to u. past-gone (record { sender = b; reader = to; sess = u }) (h (record { sender = b; reader = to; sess = u })) w next refl (λ g. old to u))))

    by-node : (x : Option PlainNode) → (slot_of w b).node ≡ x → AreHeldNext w (restarts w b i (IsNode f r)) nothing h q
    by-node (Some n) up = same-slot (restart-by (home_of w.plan (f, r)) i (slot_of w b) (Some n) up)
    by-node None down =
        (elim (nat_lt (slot_of w b).last_inc i) as (λ c. nat_lt (slot_of w b).last_inc i ≡ c → AreHeldNext w (restarts w b i (IsNode f r)) nothing h q) [
          | true ↦ λ g. anew down (restart-none (home_of w.plan (f, r)) i (slot_of w b) true down g)
          | false ↦ λ g. same-slot (restart-none (home_of w.plan (f, r)) i (slot_of w b) false down g)
        ]) refl
restart-held w most b i (IsSource s) h q e fine held = void-held w nothing h q held
restart-held w most b i (IsClient c) h q e fine held = void-held w nothing h q held
restart-held w most b i Nobody h q e fine held = void-held w nothing h q held

-- ---- an envelope comes

taken-held : (w : World) (most : ℕ) (e : Envelope) (role : Role) (h : Channel → List Item) (q : Channel → Subscribe) → role_of w.plan e.to ≡ role → IsTruePacket w.plan (role_of w.plan e.sender) e.packet → is_fitting w.plan e ≡ true → IsFine w most →
    AreHeld w h q → AreHeldNext w (taken_by w e role) (λ l. asks_for l e) h q
taken-held w most e (IsSource s) h q role truth fits fine held =
    source-held w e.to s (source_packet_step w.plan s e.sender e.packet (source_at w s)) (λ l. asks_for l e) h q role
    (source_delivered-takes w.plan e.to s e.sender e.packet (source_at w s) fine.checked.checked (source-here w most s fine)) held
taken-held w most e (IsNode f r) h q role truth fits fine held = by-node (slot_of w e.to).node refl
  where
    by-node : (o : Option PlainNode) → (slot_of w e.to).node ≡ o → AreHeldNext w (node_takes w e (home_of w.plan (f, r)) o) (λ l. asks_for l e) h q
    by-node None up = void-held w (λ l. asks_for l e) h q held
    by-node (Some n) up =
        let home = home_of w.plan (f, r) in
        let p = both (packet_way w.plan (role_of w.plan e.sender) (role_of w.plan e.to) e.packet) (carries_fitting w.plan (role_of w.plan e.sender) e.packet) fits in
        node-held w most e.to f r n (packet_step home e.sender e.packet n) (λ l. asks_for l e) h q fine role up
        (delivered-takes home e.to most e.sender e.packet n (actor-at w.plan e.to f r fine.checked role) (readers-distinct w.plan (Frag f)) (rw role at p.0) p.1 truth (node-here w most e.to f r n fine role up)) held
taken-held w most e (IsClient c) h q role truth fits fine held = quiet-held w (record w { clients = changed c (client_after_packet w.plan c e.sender e.packet) w.clients }) (λ l. asks_for l e) h q refl held
taken-held w most e Nobody h q role truth fits fine held = void-held w (λ l. asks_for l e) h q held

deliver-held : (w : World) (most k : ℕ) (o : Option Envelope) (h : Channel → List Item) (q : Channel → Subscribe) → slice_get w.envelopes k ≡ o → IsFine w most → AreHeld w h q → AreHeldNext w (comes w o) (λ l. elim o [ None ↦ None | Some e ↦ asks_for l e ]) h q
deliver-held w most k None h q f fine held = void-held w nothing h q held
deliver-held w most k (Some e) h q f fine held =
    elim (can_come w e) as (λ b. AreHeldNext w (cond b (taken_by w e (role_of w.plan e.to)) w) (λ l. asks_for l e) h q) [
      | true ↦ taken-held w most e (role_of w.plan e.to) h q refl (true-at w.plan w.envelopes k e fine.sent f) (all-at (is_fitting w.plan) w.envelopes k e fine.fits f) fine held
      | false ↦ void-held w (λ l. asks_for l e) h q held
    ]

-- ---- ticks and milling

-- a client's step
client-held : (w : World) (b c : ℕ) (t : Stepped ClientState) (h : Channel → List Item) (q : Channel → Subscribe) → role_of w.plan b ≡ IsClient c → AreHeld w h q → AreHeldNext w (client_stepped b c t w) nothing h q
client-held w b c t h q role held a =
    let next = client_stepped b c t w in
    (elim (a == b) as (λ d. (a == b) ≡ d → HeldAt w.plan w.sources w.nodes (λ l. past_next l (h l) w next) (λ l. opened_next l None (q l) w next) a (role_of w.plan a)) [
      | true ↦ λ e. subst (λ (i : ℕ). HeldAt w.plan w.sources w.nodes (λ l. past_next l (h l) w next) (λ l. opened_next l None (q l) w next) i (role_of w.plan i)) (sym (eq-of a b e))
          (subst (λ (x : Role). HeldAt w.plan w.sources w.nodes (λ l. past_next l (h l) w next) (λ l. opened_next l None (q l) w next) b x) (sym role) tt)
      | false ↦ λ e. other-held w next w.sources w.nodes nothing h q b t.sends a e refl (λ s g. refl) (λ f r g. refl) held
    ]) refl

tick-held : (w : World) (most a now : ℕ) (role : Role) (h : Channel → List Item) (q : Channel → Subscribe) → role_of w.plan a ≡ role → IsFine w most → AreHeld w h q → AreHeldNext w (ticks w a now role) nothing h q
tick-held w most a now (IsSource s) h q e fine held =
    elim (is_clock (source_at w s).clock now) as (λ b. AreHeldNext w (cond b (source_stepped a (source_tick_step w.plan s now (source_at w s)) w) w) nothing h q) [
      | true ↦ source-held w a s (source_tick_step w.plan s now (source_at w s)) nothing h q e (source-step w.plan a s (source_at w s) (source_tick_step w.plan s now (source_at w s)) (source_ticked-goes w.plan a s now (source_at w s))) held
      | false ↦ void-held w nothing h q held
    ]
tick-held w most a now (IsNode f r) h q e fine held = by-node (slot_of w a).node refl
  where
    by-node : (o : Option PlainNode) → (slot_of w a).node ≡ o → AreHeldNext w (node_ticks w a now (home_of w.plan (f, r)) o) nothing h q
    by-node None up = void-held w nothing h q held
    by-node (Some n) up =
        let home = home_of w.plan (f, r) in
        elim (is_clock n.clock now) as (λ b. AreHeldNext w (cond b (node_stepped a (tick_step home now n) w) w) nothing h q) [
          | true ↦ node-held w most a f r n (tick_step home now n) nothing h q fine e up
              (goes-step home a n (tick_step home now n) (ticked-goes home a most now n (actor-at w.plan a f r fine.checked e) (readers-distinct w.plan (Frag f)) (node-here w most a f r n fine e up))) held
          | false ↦ void-held w nothing h q held
        ]
tick-held w most a now (IsClient c) h q e fine held =
    elim (is_clock (client_at w c).clock now) as (λ b. AreHeldNext w (cond b (client_stepped a c (client_tick_step w.plan c now (client_at w c)) w) w) nothing h q) [
      | true ↦ client-held w a c (client_tick_step w.plan c now (client_at w c)) h q e held
      | false ↦ void-held w nothing h q held
    ]
tick-held w most a now Nobody h q e fine held = void-held w nothing h q held

mill-held : (w : World) (most a r : ℕ) (role : Role) (h : Channel → List Item) (q : Channel → Subscribe) → role_of w.plan a ≡ role → IsFine w most → AreHeld w h q → AreHeldNext w (mills w a r role) nothing h q
mill-held w most a r (IsNode f p) h q e fine held = by-node (slot_of w a).node refl
  where
    by-node : (o : Option PlainNode) → (slot_of w a).node ≡ o → AreHeldNext w (node_mills w a r (home_of w.plan (f, p)) o) nothing h q
    by-node None up = void-held w nothing h q held
    by-node (Some n) up =
        let home = home_of w.plan (f, p) in
        (elim (can_mill home r n) as (λ b. can_mill home r n ≡ b → AreHeldNext w (cond b (node_stepped a (mill_step home r n) w) w) nothing h q) [
          | true ↦ λ can.
              let m = may-mill home r n can in
              let g = node-here w most a f p n fine e up in
              node-held w most a f p n (mill_step home r n) nothing h q fine e up
              (goes-step home a n (mill_step home r n) (milled-goes home a most r n (actor-at w.plan a f p fine.checked e).place (server-of home most n (readers-distinct w.plan (Frag f)) g) m.up m.none m.few g)) held
          | false ↦ λ can. void-held w nothing h q held
        ]) refl
mill-held w most a r (IsSource s) h q e fine held = void-held w nothing h q held
mill-held w most a r (IsClient c) h q e fine held = void-held w nothing h q held
mill-held w most a r Nobody h q e fine held = void-held w nothing h q held

-- ---- any event

pub event-held : (w : World) (most : ℕ) (e : Event) (h : Channel → List Item) (q : Channel → Subscribe) → IsFine w most → AreHeld w h q → AreHeldNext w (happens w e) (λ l. brings l w e) h q
event-held w most (Phase p) h q fine held = void-held w nothing h q held
event-held w most (Emit a t) h q fine held = emit-held w most a t (role_of w.plan a) h q refl fine held
event-held w most (Release a t) h q fine held = release-held w most a t (role_of w.plan a) h q refl fine held
event-held w most (Cut a b) h q fine held = elim (link_up w a b) as (λ c. AreHeldNext w (cond c (record w { cuts = push w.cuts (a, b) }) w) nothing h q) [
  | true ↦ quiet-held w (record w { cuts = push w.cuts (a, b) }) nothing h q refl held
  | false ↦ void-held w nothing h q held
]
event-held w most (Heal a b) h q fine held = quiet-held w (heals_link w a b) nothing h q refl held
event-held w most (Crash a) h q fine held = crash-held w most a (role_of w.plan a) h q refl fine held
event-held w most (Restart a i) h q fine held = restart-held w most a i (role_of w.plan a) h q refl fine held
event-held w most (Deliver k) h q fine held = deliver-held w most k (slice_get w.envelopes k) h q refl fine held
event-held w most (Tick a now) h q fine held = tick-held w most a now (role_of w.plan a) h q refl fine held
event-held w most (Mill a r) h q fine held = mill-held w most a r (role_of w.plan a) h q refl fine held

-- ---- a run

pub run-held : (w : World) (most : ℕ) (events : List Event) (h : Channel → List Item) (q : Channel → Subscribe) → IsFine w most → AreHeld w h q →
    AreHeld (run_from w events) (λ l. sent_after l (h l) w events) (λ l. opened_by l (q l) w events)
run-held w most [] h q fine held = held
run-held w most (e ∷ events) h q fine held =
    run-held (happens w e) (most + 1) events (λ l. past_next l (h l) w (happens w e)) (λ l. asked_next l (q l) w e) (happens-next w most e fine).fine (event-held w most e h q fine held)
