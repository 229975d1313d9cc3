-- The sessions of all senders in a world, and what each event leaves of them.
use Rattle.std.proofs.Common.{◌≡◌, ℕ, zero, suc, ◌+◌, ◌-◌, ◌≤◌, Bool, true, false, cond, not, ◌&&◌, ◌==◌, List, [], ◌∷◌, ◌++◌, map, length, drop, refl, sym, ap, subst, ◌∙◌, arith, Option, Some, None, slice_get, unwrap_or}
use Rattle.std.specs.Prelude.{is_some}
use Rattle.std.proofs.lemmas.Grind.{common_steps}
use Rattle.std.proofs.lemmas.List.{append-nil}
use Rattle.std.proofs.Math.Seq.{drop-append_seam}
use Rattle.dpc_lists.specs.Lists.{nth, changed, range_with_len}
use Rattle.dpc_model.specs.Actors.{role_of, nodes_of}
use Rattle.dpc_model.specs.declared.actors.Role.{Role}
use Rattle.dpc_model.specs.declared.actors.Role.TheVariants.{Source as IsSource, Node as IsNode, Client as IsClient, Nobody}
use Rattle.dpc_model.specs.declared.tuples.Item.{Item}
use Rattle.dpc_model.specs.declared.messages.Sess.{Sess}
use Rattle.dpc_model.specs.declared.messages.Subscribe.{Subscribe}
use Rattle.dpc_model.specs.declared.plans.Plan.{Plan}
use Rattle.dpc_model.specs.declared.plans.StreamRef.TheVariants.{Source, Frag}
use Rattle.node_model.specs.Mails.{Mail, Stepped}
use Rattle.node_model.specs.Nodes.{Home, PlainNode, own_readers, shown}
use Rattle.node_model.specs.Sources.{SourceState, source_readers, source_shown, source_emits, source_releases, source_packet_step, source_tick_step}
use Rattle.world_model.specs.Worlds.{World, Envelope, Slot, home_of, node_place, from, slot_of, source_at, no_source, role_up, is_up, node_stepped, source_stepped}
use Rattle.world_model.specs.SessionLaw.{Channel, carried, goes_down}
use Rattle.dpc_lists.proofs.Truths.{eq-of, eq-test}
use Rattle.dpc_lists.proofs.Elements.{get-changed, length-changed}
use Rattle.dpc_model.proofs.Roles.{node-past}
use Rattle.law_safety.proofs.Numbering.{node-at, source-at as source-at-place}
use Rattle.law_safety.proofs.Worlding.{slots-at}
use Rattle.law_safety.proofs.Happening.{IsFine}
use Rattle.law_safety.proofs.EventCases.{AreCases}
use Rattle.law_sessions.specs.Openings.{has_first}
use Rattle.law_sessions.proofs.Keeping.{HeldBy, line_of, mailed, held-same}
use Rattle.law_sessions.proofs.Asking.{changed-other}

-- ---- what is held

abbrev pub no_slot : Slot
no_slot = record { last_inc = 0; node = None }

-- a node that is down has sent nothing since
abbrev pub HeldNode : Home → ℕ → (Channel → List Item) → (Channel → Subscribe) → Option PlainNode → Type 0
HeldNode home a h q None = (to : ℕ) (u : Sess) → h (record { sender = a; reader = to; sess = u }) ≡ []
HeldNode home a h q (Some n) = HeldBy home.plan (Frag home.frag) (shown home n) (λ k u. h (line_of a (own_readers home) k u)) (λ k u. q (line_of a (own_readers home) k u)) n.subs

abbrev pub HeldSource : Plan → ℕ → ℕ → (Channel → List Item) → (Channel → Subscribe) → SourceState → Type 0
HeldSource plan a s h q x = HeldBy plan (Source s) (source_shown plan s x) (λ k u. h (line_of a (source_readers plan s) k u)) (λ k u. q (line_of a (source_readers plan s) k u)) x.subs

abbrev pub HeldAt : Plan → List SourceState → List Slot → (Channel → List Item) → (Channel → Subscribe) → ℕ → Role → Type 0
HeldAt plan sources nodes h q a (IsSource s) = HeldSource plan a s h q (nth no_source sources s)
HeldAt plan sources nodes h q a (IsNode f r) = HeldNode (home_of plan (f, r)) a h q (nth no_slot nodes (node_place plan a)).node
HeldAt plan sources nodes h q a (IsClient c) = Unit {0}
HeldAt plan sources nodes h q a Nobody = Unit {0}

-- every sender's sessions
abbrev pub AreHeld : World → (Channel → List Item) → (Channel → Subscribe) → Type 0
AreHeld w h q = (a : ℕ) → HeldAt w.plan w.sources w.nodes h q a (role_of w.plan a)

-- what was sent in a session, and what opened it, after an event that makes next of w and brings o
abbrev pub past_next : Channel → List Item → World → World → List Item
past_next l items w next = cond (goes_down l w next) [] items ++ carried l (drop (length w.envelopes) next.envelopes)

abbrev pub opened_next : Channel → Option Subscribe → Subscribe → World → World → Subscribe
opened_next l o asked w next = cond (has_first l (drop (length w.envelopes) next.envelopes)) (unwrap_or o asked) asked

abbrev pub AreHeldNext : World → World → (Channel → Option Subscribe) → (Channel → List Item) → (Channel → Subscribe) → Type 0
AreHeldNext w next o h q = AreHeld next (λ l. past_next l (h l) w next) (λ l. opened_next l (o l) (q l) w next)

-- ---- the same state, and the same history

module _ (plan : Plan) (a : ℕ) (h h' : Channel → List Item) (q q' : Channel → Subscribe) (past : (to : ℕ) (u : Sess) → h' (record { sender = a; reader = to; sess = u }) ≡ h (record { sender = a; reader = to; sess = u })) (asks : (to : ℕ) (u : Sess) → q' (record { sender = a; reader = to; sess = u }) ≡ q (record { sender = a; reader = to; sess = u })) where
  node-same : (home : Home) (o : Option PlainNode) → HeldNode home a h q o → HeldNode home a h' q' o
  node-same home None held = λ to u. past to u ∙ held to u
  node-same home (Some n) held =
      λ k sub e. held-same home.plan (Frag home.frag) (shown home n) (λ u. h (line_of a (own_readers home) k u)) (λ u. h' (line_of a (own_readers home) k u)) (λ u. q (line_of a (own_readers home) k u)) (λ u. q' (line_of a (own_readers home) k u)) sub
      (λ u. past (nth 0 (own_readers home) k) u) (λ u. asks (nth 0 (own_readers home) k) u) (held k sub e)

  source-same : (s : ℕ) (x : SourceState) → HeldSource plan a s h q x → HeldSource plan a s h' q' x
  source-same s x held k sub e =
      held-same plan (Source s) (source_shown plan s x) (λ u. h (line_of a (source_readers plan s) k u)) (λ u. h' (line_of a (source_readers plan s) k u)) (λ u. q (line_of a (source_readers plan s) k u)) (λ u. q' (line_of a (source_readers plan s) k u)) sub
      (λ u. past (nth 0 (source_readers plan s) k) u) (λ u. asks (nth 0 (source_readers plan s) k) u) (held k sub e)

  at-same : (xs ys : List SourceState) (ms ns : List Slot) (role : Role) → ((s : ℕ) → role ≡ IsSource s → nth no_source ys s ≡ nth no_source xs s) →
      ((f r : ℕ) → role ≡ IsNode f r → nth no_slot ns (node_place plan a) ≡ nth no_slot ms (node_place plan a)) → HeldAt plan xs ms h q a role → HeldAt plan ys ns h' q' a role
  at-same xs ys ms ns (IsSource s) sources nodes held = subst (λ (x : SourceState). HeldSource plan a s h' q' x) (sym (sources s refl)) (source-same s (nth no_source xs s) held)
  at-same xs ys ms ns (IsNode f r) sources nodes held = subst (λ (slot : Slot). HeldNode (home_of plan (f, r)) a h' q' slot.node) (sym (nodes f r refl)) (node-same (home_of plan (f, r)) (nth no_slot ms (node_place plan a)).node held)
  at-same xs ys ms ns (IsClient c) sources nodes held = tt
  at-same xs ys ms ns Nobody sources nodes held = tt

-- ---- histories

stays-up : (b c : Bool) → c ≡ b → (b && not c) ≡ false
stays-up true c e = rw e refl
stays-up false c e = refl

past-stepped : (l : Channel) (items : List Item) (w next : World) (zs : List Envelope) → next.envelopes ≡ w.envelopes ++ zs → is_up next l.sender ≡ is_up w l.sender → past_next l items w next ≡ items ++ carried l zs
past-stepped l items w next zs same up =
    ap (λ (b : Bool). cond b [] items ++ carried l (drop (length w.envelopes) next.envelopes)) (stays-up (is_up w l.sender) (is_up next l.sender) up)
    ∙ ap (λ (es : List Envelope). items ++ carried l es) (ap (λ (es : List Envelope). drop (length w.envelopes) es) same ∙ drop-append_seam w.envelopes zs)

opened-stepped : (l : Channel) (o : Option Subscribe) (asked : Subscribe) (w next : World) (zs : List Envelope) → next.envelopes ≡ w.envelopes ++ zs → opened_next l o asked w next ≡ cond (has_first l zs) (unwrap_or o asked) asked
opened-stepped l o asked w next zs same = ap (λ (es : List Envelope). cond (has_first l es) (unwrap_or o asked) asked) (ap (λ (es : List Envelope). drop (length w.envelopes) es) same ∙ drop-append_seam w.envelopes zs)

-- mails of another actor
carried-other : (l : Channel) (b : ℕ) (ms : List Mail) → (b == l.sender) ≡ false → carried l (map (from b) ms) ≡ []
carried-other l b [] e = refl
carried-other l b (m ∷ ms) e = rw e (carried-other l b ms e)

first-other : (l : Channel) (b : ℕ) (ms : List Mail) → (b == l.sender) ≡ false → has_first l (map (from b) ms) ≡ false
first-other l b [] e = refl
first-other l b (m ∷ ms) e = rw e (first-other l b ms e)

up-same : (w next : World) (a : ℕ) (role : Role) → ((f r : ℕ) → role ≡ IsNode f r → slot_of next a ≡ slot_of w a) → role_up next a role ≡ role_up w a role
up-same w next a (IsSource s) h = refl
up-same w next a (IsNode f r) h = ap (λ (slot : Slot). is_some slot.node) (h f r refl)
up-same w next a (IsClient c) h = refl
up-same w next a Nobody h = refl

-- ---- an actor that another's step does not touch

-- the next world
abbrev pub world_of : World → List SourceState → List Slot → World → World
world_of w ys ns x = record { plan = w.plan; sources = ys; nodes = ns; clients = x.clients; cuts = x.cuts; envelopes = x.envelopes }

pub untouched : (w x : World) (ys : List SourceState) (ns : List Slot) (o : Channel → Option Subscribe) (h : Channel → List Item) (q : Channel → Subscribe) (zs : List Envelope) (a : ℕ) → x.envelopes ≡ w.envelopes ++ zs →
    ((to : ℕ) (u : Sess) → carried (record { sender = a; reader = to; sess = u }) zs ≡ []) → ((to : ℕ) (u : Sess) → has_first (record { sender = a; reader = to; sess = u }) zs ≡ false) →
    ((s : ℕ) → role_of w.plan a ≡ IsSource s → nth no_source ys s ≡ nth no_source w.sources s) → ((f r : ℕ) → role_of w.plan a ≡ IsNode f r → nth no_slot ns (node_place w.plan a) ≡ slot_of w a) →
    AreHeld w h q → HeldAt w.plan ys ns (λ l. past_next l (h l) w (world_of w ys ns x)) (λ l. opened_next l (o l) (q l) w (world_of w ys ns x)) a (role_of w.plan a)
untouched w x ys ns o h q zs a same none first sources nodes held =
    let next = world_of w ys ns x in
    at-same w.plan a h (λ l. past_next l (h l) w next) q (λ l. opened_next l (o l) (q l) w next)
    (λ to u. let l : Channel = record { sender = a; reader = to; sess = u } in
    past-stepped l (h l) w next zs same (up-same w next a (role_of w.plan a) nodes) ∙ ap (λ (xs : List Item). h l ++ xs) (none to u) ∙ append-nil (h l))
    (λ to u. let l : Channel = record { sender = a; reader = to; sess = u } in
    opened-stepped l (o l) (q l) w next zs same ∙ ap (λ (b : Bool). cond b (unwrap_or (o l) (q l)) (q l)) (first to u))
    w.sources ys w.nodes ns (role_of w.plan a) sources nodes (held a)

-- nothing is sent, and no source and no node changes
pub quiet-held : (w x : World) (o : Channel → Option Subscribe) (h : Channel → List Item) (q : Channel → Subscribe) → x.envelopes ≡ w.envelopes → AreHeld w h q → AreHeldNext w (world_of w w.sources w.nodes x) o h q
quiet-held w x o h q same held a =
    untouched w x w.sources w.nodes o h q [] a (same ∙ sym (append-nil w.envelopes)) (λ to u. refl) (λ to u. refl) (λ s e. refl) (λ f r e. refl) held

pub void-held : (w : World) (o : Channel → Option Subscribe) (h : Channel → List Item) (q : Channel → Subscribe) → AreHeld w h q → AreHeldNext w w o h q
void-held w o h q held = quiet-held w w o h q refl held

-- another actor's step
pub other-held : (w x : World) (ys : List SourceState) (ns : List Slot) (o : Channel → Option Subscribe) (h : Channel → List Item) (q : Channel → Subscribe) (b : ℕ) (ms : List Mail) (a : ℕ) → (a == b) ≡ false → x.envelopes ≡ w.envelopes ++ map (from b) ms →
    ((s : ℕ) → role_of w.plan a ≡ IsSource s → nth no_source ys s ≡ nth no_source w.sources s) → ((f r : ℕ) → role_of w.plan a ≡ IsNode f r → nth no_slot ns (node_place w.plan a) ≡ slot_of w a) →
    AreHeld w h q → HeldAt w.plan ys ns (λ l. past_next l (h l) w (world_of w ys ns x)) (λ l. opened_next l (o l) (q l) w (world_of w ys ns x)) a (role_of w.plan a)
other-held w x ys ns o h q b ms a apart same sources nodes held =
    let turned : (b == a) ≡ false = grind (arith, common_steps) in
    untouched w x ys ns o h q (map (from b) ms) a same (λ to u. carried-other (record { sender = a; reader = to; sess = u }) b ms turned) (λ to u. first-other (record { sender = a; reader = to; sess = u }) b ms turned) sources nodes held

-- ---- places

node-far : (from n a f r : ℕ) (rest : List Role) → nth Nobody (map IsSource (range_with_len from n) ++ rest) a ≡ IsNode f r → n ≤ a
node-far from zero a f r rest e = omega arith
node-far from (suc n) zero f r rest e = cc
node-far from (suc n) (suc a) f r rest e = let far = node-far (from + 1) n a f r rest e in omega (arith, far)

nth-other : {X : Type 0} (d : X) (i j : ℕ) (f : X → X) (xs : List X) → (i == j) ≡ false → nth d (changed i f xs) j ≡ nth d xs j
nth-other d i j f xs e = ap (λ (o : Option _). unwrap_or o d) (changed-other i j f xs e)

pub other-slot : (plan : Plan) (a b f r g p : ℕ) (change : Slot → Slot) (slots : List Slot) → (a == b) ≡ false → role_of plan b ≡ IsNode g p → role_of plan a ≡ IsNode f r →
    nth no_slot (changed (node_place plan b) change slots) (node_place plan a) ≡ nth no_slot slots (node_place plan a)
other-slot plan a b f r g p change slots apart other role =
    let one = node-past plan a f r role in
    let two = node-past plan b g p other in
    nth-other no_slot (node_place plan b) (node_place plan a) change slots (unequal one two)
  where
    unequal : length plan.sources ≤ a → length plan.sources ≤ b → (b - length plan.sources == a - length plan.sources) ≡ false
    unequal one two = by-value (b - length plan.sources == a - length plan.sources) refl
      where
        by-value : (c : Bool) → (b - length plan.sources == a - length plan.sources) ≡ c → c ≡ false
        by-value false e = refl
        by-value true e =
            let same = eq-of (b - length plan.sources) (a - length plan.sources) e in
            let equal : a ≡ b = omega (arith, same, one, two) in
            let yes = eq-test a b equal in
            absurd (let clash : true ≡ false = sym yes ∙ apart in cc)

-- ---- a node steps

-- what a step of a node leaves, where an event brings o
abbrev pub StepTakes : Home → ℕ → (Channel → Option Subscribe) → PlainNode → Stepped PlainNode → Type 0
StepTakes home a o n s =
    (h : ℕ → Sess → List Item) (q : ℕ → Sess → Subscribe) → HeldBy home.plan (Frag home.frag) (shown home n) h q n.subs →
    HeldBy home.plan (Frag home.frag) (shown home s.after) (λ k u. h k u ++ mailed a (own_readers home) s.sends k u)
    (λ k u. cond (has_first (line_of a (own_readers home) k u) (map (from a) s.sends)) (unwrap_or (o (line_of a (own_readers home) k u)) (q k u)) (q k u)) s.after.subs

-- the slot of a node that stepped
pub stepped-slot : (w : World) (most b f r : ℕ) (change : Slot → Slot) → IsFine w most → role_of w.plan b ≡ IsNode f r → nth no_slot (changed (node_place w.plan b) change w.nodes) (node_place w.plan b) ≡ change (slot_of w b)
stepped-slot w most b f r change fine role =
    let found = slots-at w.plan most (node_place w.plan b) (f, r) (nodes_of w.plan) w.nodes (node-at w.plan b f r role) fine.nodes_up in
    ap (λ (o : Option Slot). unwrap_or o no_slot) (get-changed (node_place w.plan b) change w.nodes found.0 found.1) ∙ ap change (sym (ap (λ (o : Option Slot). unwrap_or o no_slot) found.1))

node-own : (w : World) (most b f r : ℕ) (n : PlainNode) (s : Stepped PlainNode) (o : Channel → Option Subscribe) (h : Channel → List Item) (q : Channel → Subscribe) → IsFine w most → role_of w.plan b ≡ IsNode f r → (slot_of w b).node ≡ Some n →
    StepTakes (home_of w.plan (f, r)) b o n s → AreHeld w h q →
    HeldNode (home_of w.plan (f, r)) b (λ l. past_next l (h l) w (node_stepped b s w)) (λ l. opened_next l (o l) (q l) w (node_stepped b s w)) (nth no_slot (changed (node_place w.plan b) (λ slot. record slot { node = Some s.after }) w.nodes) (node_place w.plan b)).node
node-own w most b f r n s o h q fine role up step held =
    let home = home_of w.plan (f, r) in
    let next = node_stepped b s w in
    let readers = own_readers home in
    let slot = stepped-slot w most b f r (λ slot. record slot { node = Some s.after }) fine role in
    let mine : HeldNode home b h q (slot_of w b).node = rw role at (held b) in
    let old : HeldNode home b h q (Some n) = subst (λ (x : Option PlainNode). HeldNode home b h q x) up mine in
    let new = step (λ k u. h (line_of b readers k u)) (λ k u. q (line_of b readers k u)) old in
    let is_up_now : is_up next b ≡ is_up w b = rw role (ap (λ (x : Slot). is_some x.node) slot ∙ sym (ap (λ (x : Option PlainNode). is_some x) up)) in
    subst (λ (x : Slot). HeldNode home b (λ l. past_next l (h l) w next) (λ l. opened_next l (o l) (q l) w next) x.node) (sym slot)
    (λ k sub e. held-same home.plan (Frag home.frag) (shown home s.after) (λ u. h (line_of b readers k u) ++ mailed b readers s.sends k u) (λ u. past_next (line_of b readers k u) (h (line_of b readers k u)) w next)
    (λ u. cond (has_first (line_of b readers k u) (map (from b) s.sends)) (unwrap_or (o (line_of b readers k u)) (q (line_of b readers k u))) (q (line_of b readers k u)))
    (λ u. opened_next (line_of b readers k u) (o (line_of b readers k u)) (q (line_of b readers k u)) w next) sub
    (λ u. past-stepped (line_of b readers k u) (h (line_of b readers k u)) w next (map (from b) s.sends) refl is_up_now)
    (λ u. opened-stepped (line_of b readers k u) (o (line_of b readers k u)) (q (line_of b readers k u)) w next (map (from b) s.sends) refl) (new k sub e))

pub node-held : (w : World) (most b f r : ℕ) (n : PlainNode) (s : Stepped PlainNode) (o : Channel → Option Subscribe) (h : Channel → List Item) (q : Channel → Subscribe) → IsFine w most → role_of w.plan b ≡ IsNode f r → (slot_of w b).node ≡ Some n →
    StepTakes (home_of w.plan (f, r)) b o n s → AreHeld w h q → AreHeldNext w (node_stepped b s w) o h q
node-held w most b f r n s o h q fine role up step held a =
    let next = node_stepped b s w in
    let nodes = changed (node_place w.plan b) (λ (slot : Slot). record slot { node = Some s.after }) w.nodes in
    (elim (a == b) as (λ c. (a == b) ≡ c → HeldAt w.plan w.sources nodes (λ l. past_next l (h l) w next) (λ l. opened_next l (o l) (q l) w next) a (role_of w.plan a)) [
      | true ↦ λ e. subst (λ (i : ℕ). HeldAt w.plan w.sources nodes (λ l. past_next l (h l) w next) (λ l. opened_next l (o l) (q l) w next) i (role_of w.plan i)) (sym (eq-of a b e))
          (subst (λ (x : Role). HeldAt w.plan w.sources nodes (λ l. past_next l (h l) w next) (λ l. opened_next l (o l) (q l) w next) b x) (sym role) (node-own w most b f r n s o h q fine role up step held))
      | false ↦ λ e. other-held w next w.sources nodes o h q b s.sends a e refl (λ i g. refl) (λ g p k. other-slot w.plan a b g p f r (λ (slot : Slot). record slot { node = Some s.after }) w.nodes e role k) held
    ]) refl

-- ---- a source steps

abbrev pub SourceStepTakes : Plan → ℕ → ℕ → (Channel → Option Subscribe) → SourceState → Stepped SourceState → Type 0
SourceStepTakes plan a s o x t =
    (h : ℕ → Sess → List Item) (q : ℕ → Sess → Subscribe) → HeldBy plan (Source s) (source_shown plan s x) h q x.subs →
    HeldBy plan (Source s) (source_shown plan s t.after) (λ k u. h k u ++ mailed a (source_readers plan s) t.sends k u)
    (λ k u. cond (has_first (line_of a (source_readers plan s) k u) (map (from a) t.sends)) (unwrap_or (o (line_of a (source_readers plan s) k u)) (q k u)) (q k u)) t.after.subs

changed-none : {X : Type 0} (i : ℕ) (f : X → X) (xs : List X) → slice_get xs i ≡ None → slice_get (changed i f xs) i ≡ None
changed-none i f [] e = refl
changed-none zero f (x ∷ xs) e = cc
changed-none (suc i) f (x ∷ xs) e = changed-none i f xs e

source-own : (w : World) (b s : ℕ) (t : Stepped SourceState) (o : Channel → Option Subscribe) (h : Channel → List Item) (q : Channel → Subscribe) → s ≡ b → role_of w.plan b ≡ IsSource s → SourceStepTakes w.plan b s o (source_at w s) t → AreHeld w h q →
    HeldSource w.plan b s (λ l. past_next l (h l) w (source_stepped b t w)) (λ l. opened_next l (o l) (q l) w (source_stepped b t w)) (nth no_source (changed b (λ _. t.after) w.sources) s)
source-own w b s t o h q here role step held =
    let next = source_stepped b t w in
    let readers = source_readers w.plan s in
    let mine : HeldSource w.plan b s h q (source_at w s) = rw role at (held b) in
    let new = step (λ k u. h (line_of b readers k u)) (λ k u. q (line_of b readers k u)) mine in
    let up : is_up next b ≡ is_up w b = rw role refl in
    (elim (slice_get w.sources b) as (λ x. slice_get w.sources b ≡ x → HeldSource w.plan b s (λ l. past_next l (h l) w next) (λ l. opened_next l (o l) (q l) w next) (nth no_source (changed b (λ _. t.after) w.sources) s)) [
      | None ↦ λ e.
          let gone : nth no_source (changed b (λ _. t.after) w.sources) s ≡ no_source = ap (λ (i : ℕ). nth no_source (changed b (λ _. t.after) w.sources) i) here ∙ ap (λ (x : Option SourceState). unwrap_or x no_source) (changed-none b (λ _. t.after) w.sources e) in
          subst (λ (x : SourceState). HeldSource w.plan b s (λ l. past_next l (h l) w next) (λ l. opened_next l (o l) (q l) w next) x) (sym gone) (λ k sub f. cc)
      | Some x ↦ λ e.
          let there : nth no_source (changed b (λ _. t.after) w.sources) s ≡ t.after = ap (λ (i : ℕ). nth no_source (changed b (λ _. t.after) w.sources) i) here ∙ ap (λ (y : Option SourceState). unwrap_or y no_source) (get-changed b (λ _. t.after) w.sources x e) in
          subst (λ (y : SourceState). HeldSource w.plan b s (λ l. past_next l (h l) w next) (λ l. opened_next l (o l) (q l) w next) y) (sym there)
          (λ k sub f. held-same w.plan (Source s) (source_shown w.plan s t.after) (λ u. h (line_of b readers k u) ++ mailed b readers t.sends k u) (λ u. past_next (line_of b readers k u) (h (line_of b readers k u)) w next)
          (λ u. cond (has_first (line_of b readers k u) (map (from b) t.sends)) (unwrap_or (o (line_of b readers k u)) (q (line_of b readers k u))) (q (line_of b readers k u)))
          (λ u. opened_next (line_of b readers k u) (o (line_of b readers k u)) (q (line_of b readers k u)) w next) sub
          (λ u. past-stepped (line_of b readers k u) (h (line_of b readers k u)) w next (map (from b) t.sends) refl up)
          (λ u. opened-stepped (line_of b readers k u) (o (line_of b readers k u)) (q (line_of b readers k u)) w next (map (from b) t.sends) refl) (new k sub f))
    ]) refl

pub source-held : (w : World) (b s : ℕ) (t : Stepped SourceState) (o : Channel → Option Subscribe) (h : Channel → List Item) (q : Channel → Subscribe) → role_of w.plan b ≡ IsSource s → SourceStepTakes w.plan b s o (source_at w s) t → AreHeld w h q →
    AreHeldNext w (source_stepped b t w) o h q
source-held w b s t o h q role step held a =
    let next = source_stepped b t w in
    let here : s ≡ b = source-at-place w.plan b s role in
    let sources = changed b (λ (x : SourceState). t.after) w.sources in
    (elim (a == b) as (λ c. (a == b) ≡ c → HeldAt w.plan sources w.nodes (λ l. past_next l (h l) w next) (λ l. opened_next l (o l) (q l) w next) a (role_of w.plan a)) [
      | true ↦ λ e. subst (λ (i : ℕ). HeldAt w.plan sources w.nodes (λ l. past_next l (h l) w next) (λ l. opened_next l (o l) (q l) w next) i (role_of w.plan i)) (sym (eq-of a b e))
          (subst (λ (x : Role). HeldAt w.plan sources w.nodes (λ l. past_next l (h l) w next) (λ l. opened_next l (o l) (q l) w next) b x) (sym role) (source-own w b s t o h q here role step held))
      | false ↦ λ e. other-held w next sources w.nodes o h q b t.sends a e refl
          (λ i g. let same : i ≡ a = source-at-place w.plan a i g in let apart : (b == i) ≡ false = grind (arith, common_steps) in nth-other no_source b i (λ (x : SourceState). t.after) w.sources apart) (λ f r k. refl) held
    ]) refl

-- there are as many sources after an event
pub same-many : (w : World) → AreCases w (λ e next. length next.sources ≡ length w.sources)
same-many w =
    record {
      still = λ e. refl;
      wires = λ e cuts. refl;
      emitted = λ a s t role. length-changed a (λ _. (source_emits w.plan s t (source_at w s)).after) w.sources;
      released = λ a s t role. length-changed a (λ _. (source_releases w.plan s t (source_at w s)).after) w.sources;
      source_took = λ k s e there can role. length-changed e.to (λ _. (source_packet_step w.plan s e.sender e.packet (source_at w s)).after) w.sources;
      source_ticks = λ a s now role. length-changed a (λ _. (source_tick_step w.plan s now (source_at w s)).after) w.sources;
      crashed = λ a f r role. refl;
      restarted = λ a i f r role. refl;
      node_took = λ k f r e n there can role up. refl;
      node_ticked = λ a now f r n role up clock. refl;
      node_milled = λ a r f q n role up can. refl;
      client_took = λ k c e there can role. refl;
      client_ticks = λ a c now role. refl;
    }
