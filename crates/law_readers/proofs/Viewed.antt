-- A port that took all batches of its session holds the view of the sender that it reads.
use Rattle.std.proofs.Common.{◌≡◌, ℕ, ◌+◌, ◌≤◌, Bool, true, false, cond, not, ◌&&◌, ◌==◌, List, [], ◌∷◌, length, take, drop, refl, sym, ap, subst, ◌∙◌, arith, Option, Some, None, slice_get, unwrap_or, ◌⊎◌, inl, inr}
use Rattle.std.specs.Prelude.{IfSome}
use Rattle.std.proofs.lemmas.Option.{slice_get_within}
use Rattle.dpc_lists.specs.Lists.{nth, range_with_len}
use Rattle.dpc_model.specs.Fragments.{ideal, ideal_upto}
use Rattle.dpc_model.specs.Reading.{Reader, empty_reader, is_sure, Folded, fold_items}
use Rattle.dpc_model.specs.Inlets.{same_sess, sess_of}
use Rattle.dpc_model.specs.Actors.{role_of, sends_stream, readers_of}
use Rattle.dpc_model.specs.declared.actors.Role.{Role}
use Rattle.dpc_model.specs.declared.actors.Role.TheVariants.{Source as IsSource, Node as IsNode, Client as IsClient, Nobody}
use Rattle.dpc_model.specs.Ports.{Port}
use Rattle.dpc_model.specs.Sessions.{no_session, Shown, tally_of}
use Rattle.dpc_model.specs.declared.sessions.Sub.{Sub}
use Rattle.dpc_model.specs.declared.tuples.Item.{Item}
use Rattle.dpc_model.specs.declared.messages.Event.{Event}
use Rattle.dpc_model.specs.declared.messages.Sess.{Sess}
use Rattle.dpc_model.specs.declared.messages.Subscribe.{Subscribe}
use Rattle.dpc_model.specs.declared.messages.Message.TheVariants as message
use Rattle.dpc_model.specs.declared.plans.Plan.{Plan}
use Rattle.dpc_model.specs.declared.plans.StreamRef.{StreamRef}
use Rattle.dpc_model.specs.declared.plans.StreamRef.TheVariants.{Source, Frag}
use Rattle.node_model.specs.Mails.{Packet, Plain, SnapFor}
use Rattle.node_model.specs.Nodes.{PlainNode, own_readers, shown}
use Rattle.node_model.specs.Sources.{source_readers, source_shown}
use Rattle.world_model.specs.Worlds.{World, Envelope, home_of, node_place, slot_of, source_at, happens, run_from, run, new_world}
use Rattle.world_model.specs.Safe.{HoldsOf}
use Rattle.world_model.specs.SessionLaw.{Channel, sent_after, carried, Fits, LeavesView, taken_whole}
use Rattle.law_safety.specs.Plans.{IsCheckedPlan}
use Rattle.dpc_lists.proofs.Truths.{both, eq-of, not-twice}
use Rattle.dpc_model.proofs.Prefixes.{prefix-taken}
use Rattle.dpc_model.proofs.Alike.{same_sess-self}
use Rattle.dpc_lists.proofs.Somes.{some-same}
use Rattle.world_model.proofs.Running.{new_world-none}
use Rattle.law_safety.proofs.Emptied.{shape-of}
use Rattle.law_safety.proofs.Distinct.{readers-distinct}
use Rattle.law_safety.proofs.Histories.{HoldsSession}
use Rattle.law_safety.proofs.Growing.{event-grows, run-plan}
use Rattle.law_safety.proofs.Happening.{node-here, source-here}
use Rattle.law_safety.proofs.Law.{new_world-fine, new_world-plan, run-good}
use Rattle.law_sessions.specs.Openings.{first_subscription, asks_for, packet_asks, brings, has_first, asked_next, opened_by}
use Rattle.law_sessions.proofs.Keeping.{line_of as session_line}
use Rattle.law_sessions.proofs.Worlds.{no_slot, HeldNode, HeldAt, AreHeld}
use Rattle.law_sessions.proofs.Events.{run-held}
use Rattle.law_sessions.proofs.Runs.{new-world-held}
use Rattle.law_sessions.proofs.Asked.{IsSent, sent-later, brought}
use Rattle.law_granting.specs.Taken.{line_of, IsAnsweredIn}
use Rattle.law_granting.proofs.Asked.{same-or}
use Rattle.law_granting.proofs.Running.{new_world-asking}
use Rattle.law_granting.proofs.Sending.{indexes}
use Rattle.law_granting.proofs.Sent.{SubHolds, SentOrder, IsNodeLine}
use Rattle.law_granting.proofs.Sourced.{SourceOrder, IsSourceLine, source-run}
use Rattle.law_granting.proofs.Prefix.{sent-run, new-order}
use Rattle.law_granting.proofs.First.{new-source-order}
use Rattle.law_readers.specs.Newest.{subs_of, node_subs, IsPortOf}
use Rattle.law_readers.specs.Held.{IsBatchOf, joined, HasRead, shown_by, node_shown, TookAll, told_by, opening_of, HoldsView, ViewsAreHeld}
use Rattle.law_readers.proofs.Sessions.{tally-kept}
use Rattle.law_readers.proofs.Known.{sends-source, sends-node, opened-subs}
use Rattle.law_readers.proofs.Carried.{all-carried, source-sent-after, IsWithin, node-sent-after}
use Rattle.law_readers.proofs.Steps.{ports-have-read, reads-sender}

-- ---- which subscription opened a session

other-asked : (plan : Plan) (s : StreamRef) (x : Shown) (h : Sess → List Item) (q r : Sess → Subscribe) (sub : Sub) → ((u : Sess) → sub.kept ≡ Some u → r u ≡ q u) → HoldsSession plan s x h q sub → HoldsSession plan s x h r sub
other-asked plan s x h q r sub same held =
    record { open_one = λ l e. subst (λ (z : Subscribe). LeavesView plan s z x (h l.0)) (sym (same l.0 (tally-kept sub l e))) (held.open_one l e); newer = held.newer }

-- at the opening every open session is the first
first-told : (plan : Plan) (start : Reader) (a k : ℕ) (sub : Sub) (u : Sess) (role : Role) (readers : List ℕ) → role_of plan a ≡ role → slice_get (subs_of (new_world plan) a role) k ≡ Some sub → sub.kept ≡ Some u →
    told_by start (session_line a readers k u) ≡ first_subscription (session_line a readers k u)
first-told plan start a k sub u role readers is there kept =
    let first : u ≡ sess_of 1 1 = opened-subs plan a k sub u role is there kept in
    let same : same_sess (sess_of 1 1) u ≡ true = ap (λ (z : Sess). same_sess (sess_of 1 1) z) first in
    ap (λ (b : Bool). cond b (first_subscription (session_line a readers k u)) (record { sess = u; n = length start.stable; tentative = not (is_sure start) })) same

told-held : (plan : Plan) (start : Reader) → IsCheckedPlan plan → AreHeld (new_world plan) (λ l. []) (told_by start)
told-held plan start checked a = by-role (role_of (new_world plan).plan a) (ap (λ (z : Plan). role_of z a) (sym (new_world-plan plan))) (new-world-held plan checked a)
  where
    by-role : (role : Role) → role_of plan a ≡ role → HeldAt (new_world plan).plan (new_world plan).sources (new_world plan).nodes (λ l. []) first_subscription a role → HeldAt (new_world plan).plan (new_world plan).sources (new_world plan).nodes (λ l. []) (told_by start) a role
    by-role (IsClient c) is h = tt
    by-role Nobody is h = tt
    by-role (IsSource v) is h =
        let readers = source_readers (new_world plan).plan v in
        λ k sub e. other-asked (new_world plan).plan (Source v) (source_shown (new_world plan).plan v (source_at (new_world plan) v)) (λ u. []) (λ u. first_subscription (session_line a readers k u)) (λ u. told_by start (session_line a readers k u)) sub
        (λ u kept. first-told plan start a k sub u (IsSource v) readers is e kept) (h k sub e)
    by-role (IsNode f r) is h = by-node (slot_of (new_world plan) a).node refl h
      where
        by-node : (o : Option PlainNode) → (slot_of (new_world plan) a).node ≡ o → HeldNode (home_of (new_world plan).plan (f, r)) a (λ l. []) first_subscription o → HeldNode (home_of (new_world plan).plan (f, r)) a (λ l. []) (told_by start) o
        by-node None up g = g
        by-node (Some n) up g =
            let home = home_of (new_world plan).plan (f, r) in
            let readers = own_readers home in
            λ k sub e. other-asked home.plan (Frag f) (shown home n) (λ u. []) (λ u. first_subscription (session_line a readers k u)) (λ u. told_by start (session_line a readers k u)) sub
            (λ u kept. first-told plan start a k sub u (IsNode f r) readers is (subst (λ (o : Option PlainNode). slice_get (node_subs o) k ≡ Some sub) (sym up) e) kept) (g k sub e)

-- a session was opened by what stood before, or by a subscription that its reader sent
abbrev IsAskedFrom : Channel → Subscribe → World → Subscribe → Type 0
IsAskedFrom l first w asked = (asked ≡ first) ⊎ IsSent l w asked

asked-event : (l : Channel) (first : Subscribe) (w : World) (e : Event) (asked : Subscribe) → IsAskedFrom l first w asked → IsAskedFrom l first w (asked_next l asked w e)
asked-event l first w e asked h =
    elim (has_first l (drop (length w.envelopes) (happens w e).envelopes)) as (λ b. IsAskedFrom l first w (cond b (unwrap_or (brings l w e) asked) asked)) [
      | false ↦ h
      | true ↦ (elim (brings l w e) as (λ o. brings l w e ≡ o → IsAskedFrom l first w (unwrap_or o asked)) [
        | None ↦ λ f. h
        | Some x ↦ λ f. inr (brought l w e x f)
      ]) refl
    ]

asked-run : (l : Channel) (first : Subscribe) (w : World) (events : List Event) (asked : Subscribe) → IsAskedFrom l first w asked → IsAskedFrom l first (run_from w events) (opened_by l asked w events)
asked-run l first w [] asked h = h
asked-run l first w (e ∷ events) asked h =
    asked-run l first (happens w e) events (asked_next l asked w e)
    (elim (asked-event l first w e asked h) [ inl same ↦ inl same | inr sent ↦ inr (sent-later l w (happens w e) (asked_next l asked w e) (event-grows w e) sent) ])

asked-run-of : (plan : Plan) (events : List Event) (l : Channel) (first : Subscribe) → IsAskedFrom l first (run plan events) (opened_by l first (new_world plan) events)
unfolding run
asked-run-of plan events l first = asked-run l first (new_world plan) events first (inl refl)

-- an envelope that asks for a session
pub record AsksIn (l : Channel) (e : Envelope) (asked : Subscribe) : Type 0 where
  pub sender : e.sender ≡ l.reader
  pub to : e.to ≡ l.sender
  pub packet : e.packet ≡ Plain (message.Subscribe asked)
  pub sess : same_sess asked.sess l.sess ≡ true

pub asks-parts : (l : Channel) (e : Envelope) (asked : Subscribe) → asks_for l e ≡ Some asked → AsksIn l e asked
asks-parts l e asked h =
    (elim (e.sender == l.reader && e.to == l.sender) as (λ b. (e.sender == l.reader && e.to == l.sender) ≡ b → cond {A = Option Subscribe} b (packet_asks l e.packet) None ≡ Some asked → AsksIn l e asked) [
      | true ↦ λ f g. let p = both (e.sender == l.reader) (e.to == l.sender) f in let k = by-packet e.packet g in record { sender = eq-of e.sender l.reader p.0; to = eq-of e.to l.sender p.1; packet = k.0; sess = k.1 }
      | false ↦ λ f g. cc
    ]) refl h
  where
    by-packet : (p : Packet) → packet_asks l p ≡ Some asked → (p ≡ Plain (message.Subscribe asked)) × (same_sess asked.sess l.sess ≡ true)
    by-packet (Plain (message.Subscribe other)) g =
        (elim (same_sess other.sess l.sess) as (λ b. same_sess other.sess l.sess ≡ b → cond {A = Option Subscribe} b (Some other) None ≡ Some asked → (Plain (message.Subscribe other) ≡ Plain (message.Subscribe asked)) × (same_sess asked.sess l.sess ≡ true)) [
          | true ↦ λ f d. let same = some-same other asked d in (ap (λ (z : Subscribe). Plain (message.Subscribe z)) same, subst (λ (z : Subscribe). same_sess z.sess l.sess ≡ true) same f)
          | false ↦ λ f d. cc
        ]) refl g
    by-packet (Plain (message.Batch u index items)) g = cc
    by-packet (Plain (message.Truncated u base)) g = cc
    by-packet (Plain (message.Beat b)) g = cc
    by-packet (Plain (message.Ack i n)) g = cc
    by-packet (Plain (message.Ask i n)) g = cc
    by-packet (Plain (message.Grant i n)) g = cc
    by-packet (Plain (message.SnapAsk i n)) g = cc
    by-packet (SnapFor i try s) g = cc

-- ---- the start fits

fits-of : (plan : Plan) (s : StreamRef) (asked : Subscribe) (start : Reader) → HoldsOf plan s start → asked.n ≡ length start.stable → asked.tentative ≡ not (is_sure start) → Fits plan s asked start
fits-of plan s asked start holds n tentative =
    record {
      stable = prefix-taken start.stable (ideal plan s) holds.stable ∙ ap (λ (z : ℕ). take z (ideal plan s)) (sym n);
      count = sym n;
      bound = subst (λ (z : ℕ). length (ideal_upto plan s start.bound) ≤ z) (sym n) holds.bound;
      tentative = not-twice (is_sure start) asked.tentative tentative;
    }

-- ---- a run

run-told : (plan : Plan) (events : List Event) (start : Reader) → IsCheckedPlan plan → AreHeld (run plan events) (λ l. sent_after l [] (new_world plan) events) (λ l. opened_by l (told_by start l) (new_world plan) events)
unfolding run
run-told plan events start checked = run-held (new_world plan) 1 events (λ l. []) (λ l. told_by start l) (new_world-fine plan checked) (told-held plan start checked)

none-yet : (plan : Plan) (l : Channel) → [] ≡ carried l (new_world plan).envelopes
none-yet plan l = sym (ap (λ (es : List Envelope). carried l es) (new_world-none plan))

-- what a node sent in a session that was answered in one incarnation
pub node-order : (plan : Plan) (events : List Event) (a x f r k i : ℕ) (u : Sess) → IsCheckedPlan plan → IsNodeLine plan a x f r k → IsAnsweredIn plan events (record { sender = a; reader = x; sess = u }) i → SentOrder (run plan events) a x k i u
unfolding run
node-order plan events a x f r k i u checked line answered =
    sent-run (new_world plan) 1 events a x f r k i u (new_world-fine plan checked) (new_world-asking plan) (subst (λ (z : Plan). IsNodeLine z a x f r k) (sym (new_world-plan plan)) line)
    (new-order plan a x f r k i u line.role answered.opening) answered.subscribed

node-all : (plan : Plan) (events : List Event) (a x f r k i : ℕ) (u : Sess) → IsCheckedPlan plan → IsNodeLine plan a x f r k → IsAnsweredIn plan events (record { sender = a; reader = x; sess = u }) i → IsWithin (run plan events) a i →
    sent_after (record { sender = a; reader = x; sess = u }) [] (new_world plan) events ≡ carried (record { sender = a; reader = x; sess = u }) (run plan events).envelopes
unfolding run
node-all plan events a x f r k i u checked line answered within =
    node-sent-after (new_world plan) 1 events a x f r k i u [] (new_world-fine plan checked) (new_world-asking plan) (subst (λ (z : Plan). IsNodeLine z a x f r k) (sym (new_world-plan plan)) line)
    (new-order plan a x f r k i u line.role answered.opening) answered.subscribed (λ now. none-yet plan (record { sender = a; reader = x; sess = u })) within

-- and a source
source-order : (plan : Plan) (events : List Event) (a x v k i : ℕ) (u : Sess) → IsSourceLine plan a x v k (length (source_readers plan v)) → IsAnsweredIn plan events (record { sender = a; reader = x; sess = u }) i → SourceOrder (run plan events) a x v k i u (length (source_readers plan v))
unfolding run
source-order plan events a x v k i u line answered =
    source-run (new_world plan) events a x v k i u (length (source_readers plan v)) (subst (λ (z : Plan). IsSourceLine z a x v k (length (source_readers plan v))) (sym (new_world-plan plan)) line)
    (new-source-order plan a x v k i u line.role answered.opening) answered.subscribed

source-all : (plan : Plan) (events : List Event) (l : Channel) (v : ℕ) → role_of plan l.sender ≡ IsSource v → sent_after l [] (new_world plan) events ≡ carried l (run plan events).envelopes
unfolding run
source-all plan events l v role = source-sent-after (new_world plan) events l v [] (ap (λ (z : Plan). role_of z l.sender) (new_world-plan plan) ∙ role) (none-yet plan l)

-- a sub that is open in a session counts its batches, in the incarnation that answered
pub counted : (u : Sess) (i many inc : ℕ) (sub : Sub) → SubHolds u i many inc sub → tally_of sub ≡ Some (u, sub.batches) → (inc ≡ i) × (sub.batches ≡ many)
counted u i many inc sub h tally =
    elim (same-or inc i) [
      | inl same ↦ (same, (h.0 same).open_one u sub.batches tally (same_sess-self u))
      | inr other ↦ let clash : true ≡ false = sym (same_sess-self u) ∙ (h.1 other).other u sub.batches tally in cc
    ]

-- ---- the view

view-of : (plan : Plan) (events : List Event) (x : ℕ) (s : StreamRef) (q : Port) (shows : Shown) (l : Channel) (items : List Item) (read : HasRead plan x s (run plan events).envelopes q) → line_of plan x s q ≡ l →
    Fits plan s (opening_of plan events read.start l) read.start → LeavesView plan s (opening_of plan events read.start l) shows items → fold_items read.start items ≡ Some read.folded → HoldsView plan events x s q shows
view-of plan events x s q shows l items read is fits leaves folded =
    let view = read.held ∙ subst (λ (o : Option Folded). IfSome o (λ (f : Folded). f.after ≡ taken_whole plan s (opening_of plan events read.start l) shows read.start)) folded (leaves read.start fits).0 in
    record {
      read = read;
      fits = subst (λ (c : Channel). Fits plan s (opening_of plan events read.start c) read.start) (sym is) fits;
      view = subst (λ (c : Channel). q.inlet.held ≡ taken_whole plan s (opening_of plan events read.start c) shows read.start) (sym is) view;
    }

module _ (plan : Plan) (events : List Event) (x p a i : ℕ) (s : StreamRef) (q : Port) (checked : IsCheckedPlan plan) (port : IsPortOf plan x p s) (took : TookAll plan (run plan events) x p s q a) where
  abbrev line : Channel
  line = record { sender = a; reader = x; sess = q.inlet.sess }

  abbrev read : HasRead plan x s (run plan events).envelopes q
  read = ports-have-read plan events checked x p s q port took.port took.whole

  sends : sends_stream s (role_of plan a) ≡ true
  sends = subst (λ (z : ℕ). sends_stream s (role_of plan z) ≡ true) took.sender (reads-sender plan events x p s q checked port took.port)

  line-is : line_of plan x s q ≡ line
  line-is = ap (λ (z : ℕ). record { sender = z; reader = x; sess = q.inlet.sess }) took.sender

  tally : tally_of took.sub ≡ Some (q.inlet.sess, took.sub.batches)
  tally = rw (took.kept, took.is_open) refl

  -- the subscription by which the session was opened is what the port told
  told : (asked : Subscribe) → IsAskedFrom line (told_by read.start line) (run plan events) asked → (asked.n ≡ length read.start.stable) × (asked.tentative ≡ not (is_sure read.start))
  told asked (inl same) =
      let parts = by-first (same_sess (sess_of 1 1) q.inlet.sess) refl in
      (ap (λ (z : Subscribe). z.n) same ∙ parts.0, ap (λ (z : Subscribe). z.tentative) same ∙ parts.1)
    where
      by-first : (b : Bool) → same_sess (sess_of 1 1) q.inlet.sess ≡ b → ((told_by read.start line).n ≡ length read.start.stable) × ((told_by read.start line).tentative ≡ not (is_sure read.start))
      by-first true e =
          let first : told_by read.start line ≡ first_subscription line = ap (λ (b : Bool). cond b (first_subscription line) (record { sess = q.inlet.sess; n = length read.start.stable; tentative = not (is_sure read.start) })) e in
          let empty : read.start ≡ empty_reader = read.opening e in
          (ap (λ (z : Subscribe). z.n) first ∙ ap (λ (z : Reader). length z.stable) (sym empty), ap (λ (z : Subscribe). z.tentative) first ∙ ap (λ (z : Reader). not (is_sure z)) (sym empty))
      by-first false e =
          let other : told_by read.start line ≡ record { sess = q.inlet.sess; n = length read.start.stable; tentative = not (is_sure read.start) } =
          ap (λ (b : Bool). cond b (first_subscription line) (record { sess = q.inlet.sess; n = length read.start.stable; tentative = not (is_sure read.start) })) e in
          (ap (λ (z : Subscribe). z.n) other, ap (λ (z : Subscribe). z.tentative) other)
  told asked (inr (k, e, there, asks)) =
      let it = asks-parts line e asked asks in
      read.asks k e asked there it.sender (subst (λ (z : ℕ). sends_stream s (role_of plan z) ≡ true) (sym it.to) sends) it.packet it.sess

  -- from all that was sent in the session
  finish : (shows : Shown) (many : ℕ) → indexes line (run plan events).envelopes ≡ range_with_len 0 many → took.sub.batches ≡ many → sent_after line [] (new_world plan) events ≡ carried line (run plan events).envelopes →
      LeavesView plan s (opened_by line (told_by read.start line) (new_world plan) events) shows (sent_after line [] (new_world plan) events) → HoldsView plan events x s q shows
  finish shows many order batches sent leaves =
      let asked = opened_by line (told_by read.start line) (new_world plan) events in
      let opened = told asked (asked-run-of plan events line (told_by read.start line)) in
      let each = λ (j : ℕ) (items : List Item) (e : slice_get read.batches j ≡ Some items). subst (λ (l : Channel). IsBatchOf l (run plan events).envelopes j items) line-is (read.each j items e) in
      let all : joined read.batches ≡ carried line (run plan events).envelopes = all-carried line (run plan events).envelopes many read.batches order (read.many ∙ took.all ∙ batches) each in
      view-of plan events x s q shows line (sent_after line [] (new_world plan) events) read line-is (fits-of plan s asked read.start read.holds opened.0 opened.1) leaves
      (ap (λ (items : List Item). fold_items read.start items) (sent ∙ sym all) ∙ read.read)

  -- ---- a node

  in_run : (run plan events).plan ≡ plan
  in_run = run-plan plan events

  node-view : (f r : ℕ) (n : PlainNode) → role_of plan a ≡ IsNode f r → (slot_of (run plan events) a).node ≡ Some n → IsAnsweredIn plan events line i → HoldsView plan events x s q (shown (home_of plan (f, r)) n)
  node-view f r n role up answered =
      let home = home_of plan (f, r) in
      let k = took.place in
      let w = run plan events in
      let same : s ≡ Frag f = sends-node s f r (subst (λ (z : Role). sends_stream s z ≡ true) role sends) in
      let reader : nth 0 (own_readers home) k ≡ x = subst (λ (z : StreamRef). nth 0 (readers_of plan z) k ≡ x) same took.reader in
      let there : slice_get n.subs k ≡ Some took.sub = subst (λ (o : Option PlainNode). slice_get (node_subs o) k ≡ Some took.sub) up (subst (λ (z : Role). slice_get (subs_of w a z) k ≡ Some took.sub) role took.there) in
      let fine = (run-good plan events checked).fine in
      let good = node-here w (1 + length events) a f r n fine (ap (λ (z : Plan). role_of z a) in_run ∙ role) up in
      let few : length n.subs ≡ length (own_readers (home_of w.plan (f, r))) = (shape-of (home_of w.plan (f, r)) (1 + length events) n good.orderly.shape).subs in
      let few_here : length n.subs ≡ length (own_readers home) = few ∙ ap (λ (z : Plan). length (own_readers (home_of z (f, r)))) in_run in
      let within = slice_get_within n.subs k took.sub there in
      let placed : IsNodeLine plan a x f r k = record { role = role; reader = reader; distinct = readers-distinct plan (Frag f); low = omega (arith, within, few_here) } in
      let order = node-order plan events a x f r k i q.inlet.sess checked placed answered in
      let nth_is : nth no_session n.subs k ≡ took.sub = ap (λ (o : Option Sub). unwrap_or o no_session) there in
      let counts = counted q.inlet.sess i order.many n.grants.inc took.sub (subst (λ (z : Sub). SubHolds q.inlet.sess i order.many n.grants.inc z) nth_is (order.there n up)) tally in
      let sent = node-all plan events a x f r k i q.inlet.sess checked placed answered (inl (n, up, counts.0)) in
      finish (shown home n) order.many order.order counts.1 sent (leaves f r n role up same reader there)
    where
      leaves : (f r : ℕ) (n : PlainNode) → role_of plan a ≡ IsNode f r → (slot_of (run plan events) a).node ≡ Some n → s ≡ Frag f → nth 0 (own_readers (home_of plan (f, r))) took.place ≡ x → slice_get n.subs took.place ≡ Some took.sub →
          LeavesView plan s (opened_by line (told_by read.start line) (new_world plan) events) (shown (home_of plan (f, r)) n) (sent_after line [] (new_world plan) events)
      leaves f r n role up same reader there =
          let w = run plan events in
          let home = home_of plan (f, r) in
          let held = run-told plan events read.start checked a in
          let at_plan = subst (λ (z : Plan). HeldAt z w.sources w.nodes (λ l. sent_after l [] (new_world plan) events) (λ l. opened_by l (told_by read.start l) (new_world plan) events) a (role_of z a)) in_run held in
          let at_role = subst (λ (z : Role). HeldAt plan w.sources w.nodes (λ l. sent_after l [] (new_world plan) events) (λ l. opened_by l (told_by read.start l) (new_world plan) events) a z) role at_plan in
          let up_here : (nth no_slot w.nodes (node_place plan a)).node ≡ Some n = sym (ap (λ (z : Plan). (nth no_slot w.nodes (node_place z a)).node) in_run) ∙ up in
          let at_node = subst (λ (o : Option PlainNode). HeldNode home a (λ l. sent_after l [] (new_world plan) events) (λ l. opened_by l (told_by read.start l) (new_world plan) events) o) up_here at_role in
          let leaves_here = (at_node took.place took.sub there).open_one (q.inlet.sess, took.sub.batches) tally in
          let leaves_line = subst (λ (z : ℕ). let l : Channel = record { sender = a; reader = z; sess = q.inlet.sess } in LeavesView plan (Frag f) (opened_by l (told_by read.start l) (new_world plan) events) (shown home n) (sent_after l [] (new_world plan) events)) reader leaves_here in
          subst (λ (z : StreamRef). LeavesView plan z (opened_by line (told_by read.start line) (new_world plan) events) (shown home n) (sent_after line [] (new_world plan) events)) (sym same) leaves_line

  -- ---- a source

  source-view : (v : ℕ) → role_of plan a ≡ IsSource v → IsAnsweredIn plan events line i → HoldsView plan events x s q (source_shown plan v (source_at (run plan events) v))
  source-view v role answered =
      let k = took.place in
      let w = run plan events in
      let same : s ≡ Source v = sends-source s v (subst (λ (z : Role). sends_stream s z ≡ true) role sends) in
      let reader : nth 0 (source_readers plan v) k ≡ x = subst (λ (z : StreamRef). nth 0 (readers_of plan z) k ≡ x) same took.reader in
      let there : slice_get (source_at w v).subs k ≡ Some took.sub = subst (λ (z : Role). slice_get (subs_of w a z) k ≡ Some took.sub) role took.there in
      let fine = (run-good plan events checked).fine in
      let here = source-here w (1 + length events) v fine in
      let few = here.subs in
      let few_here : length (source_at w v).subs ≤ length (source_readers plan v) = subst (λ (z : Plan). length (source_at w v).subs ≤ length (source_readers z v)) in_run few in
      let within = slice_get_within (source_at w v).subs k took.sub there in
      let placed : IsSourceLine plan a x v k (length (source_readers plan v)) = record { role = role; reader = reader; low = omega (arith, within, few_here); few = refl } in
      let order = source-order plan events a x v k i q.inlet.sess placed answered in
      let nth_is : nth no_session (source_at w v).subs k ≡ took.sub = ap (λ (o : Option Sub). unwrap_or o no_session) there in
      let counts = counted q.inlet.sess i order.many 1 took.sub (subst (λ (z : Sub). SubHolds q.inlet.sess i order.many 1 z) nth_is order.there) tally in
      finish (source_shown plan v (source_at w v)) order.many order.order counts.1 (source-all plan events line v role) (leaves v role same reader there)
    where
      leaves : (v : ℕ) → role_of plan a ≡ IsSource v → s ≡ Source v → nth 0 (source_readers plan v) took.place ≡ x → slice_get (source_at (run plan events) v).subs took.place ≡ Some took.sub →
          LeavesView plan s (opened_by line (told_by read.start line) (new_world plan) events) (source_shown plan v (source_at (run plan events) v)) (sent_after line [] (new_world plan) events)
      leaves v role same reader there =
          let w = run plan events in
          let held = run-told plan events read.start checked a in
          let at_plan = subst (λ (z : Plan). HeldAt z w.sources w.nodes (λ l. sent_after l [] (new_world plan) events) (λ l. opened_by l (told_by read.start l) (new_world plan) events) a (role_of z a)) in_run held in
          let at_role = subst (λ (z : Role). HeldAt plan w.sources w.nodes (λ l. sent_after l [] (new_world plan) events) (λ l. opened_by l (told_by read.start l) (new_world plan) events) a z) role at_plan in
          let leaves_here = (at_role took.place took.sub there).open_one (q.inlet.sess, took.sub.batches) tally in
          let leaves_line = subst (λ (z : ℕ). let l : Channel = record { sender = a; reader = z; sess = q.inlet.sess } in LeavesView plan (Source v) (opened_by l (told_by read.start l) (new_world plan) events) (source_shown plan v (source_at w v)) (sent_after l [] (new_world plan) events)) reader leaves_here in
          subst (λ (z : StreamRef). LeavesView plan z (opened_by line (told_by read.start line) (new_world plan) events) (source_shown plan v (source_at w v)) (sent_after line [] (new_world plan) events)) (sym same) leaves_line

  any-view : (shows : Shown) → IsAnsweredIn plan events line i → shown_by plan (run plan events) a (role_of plan a) ≡ Some shows → HoldsView plan events x s q shows
  any-view shows answered is = by-role (role_of plan a) refl is
    where
      by-role : (role : Role) → role_of plan a ≡ role → shown_by plan (run plan events) a role ≡ Some shows → HoldsView plan events x s q shows
      by-role (IsSource v) role e = subst (λ (z : Shown). HoldsView plan events x s q z) (some-same (source_shown plan v (source_at (run plan events) v)) shows e) (source-view v role answered)
      by-role (IsNode f r) role e = by-node (slot_of (run plan events) a).node refl e
        where
          by-node : (o : Option PlainNode) → (slot_of (run plan events) a).node ≡ o → node_shown plan f r o ≡ Some shows → HoldsView plan events x s q shows
          by-node None up g = cc
          by-node (Some n) up g = subst (λ (z : Shown). HoldsView plan events x s q z) (some-same (shown (home_of plan (f, r)) n) shows g) (node-view f r n role up answered)
      by-role (IsClient c) role e = cc
      by-role Nobody role e = cc

pub views-held : (plan : Plan) (events : List Event) → IsCheckedPlan plan → ViewsAreHeld plan events
views-held plan events checked x p a i s q shows port took answered is =
    any-view plan events x p a i s q checked port took shows (subst (λ (l : Channel). IsAnsweredIn plan events l i) (ap (λ (z : ℕ). record { sender = z; reader = x; sess = q.inlet.sess }) took.sender) answered) is
