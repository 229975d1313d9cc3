-- What a packet leaves of the sessions of the node that takes it.
use Rattle.std.proofs.Common.{◌≡◌, ℕ, ◌+◌, Bool, true, false, cond, ◌&&◌, ◌==◌, List, [], ◌∷◌, ◌++◌, map, refl, sym, subst, Option, Some, None, unwrap_or, ◌⊎◌, inl, inr}
use Rattle.std.proofs.lemmas.List.{append-nil}
use Rattle.dpc_lists.specs.Lists.{nth, changed}
use Rattle.dpc_model.specs.Inlets.{same_sess, take_batch}
use Rattle.dpc_model.specs.Granting.{grants, with_promise, may_enter_by}
use Rattle.dpc_model.specs.Actors.{role_of, replicas_of}
use Rattle.dpc_model.specs.declared.actors.Role.TheVariants.{Node as IsNode}
use Rattle.dpc_model.specs.Ports.{Port, no_port, sender_at, on_truncated, all_truncated}
use Rattle.dpc_model.specs.Sessions.{Shown, answer_to}
use Rattle.dpc_model.specs.declared.sessions.Sub.{Sub}
use Rattle.dpc_model.specs.declared.batches.Taken.{Taken}
use Rattle.dpc_model.specs.declared.batches.Taken.TheVariants.{Used, Old, Broken}
use Rattle.dpc_model.specs.declared.tuples.Item.{Item}
use Rattle.dpc_model.specs.declared.messages.Sess.{Sess}
use Rattle.dpc_model.specs.declared.messages.Beat.{Beat}
use Rattle.dpc_model.specs.declared.messages.Subscribe.{Subscribe}
use Rattle.dpc_model.specs.declared.messages.Message.{Message}
use Rattle.dpc_model.specs.declared.messages.Message.TheVariants as message
use Rattle.dpc_model.specs.declared.plans.StreamRef.TheVariants.{Frag}
use Rattle.node_model.specs.Mails.{Snap, Packet, Plain, SnapFor, mail, Stepped}
use Rattle.dpc_model.specs.NodeStates.{is_up_failure}
use Rattle.dpc_lists.proofs.Places.{place-within, place-nth}
use Rattle.node_model.specs.Nodes.{Home, PlainNode, streams_of, own_readers, shown}
use Rattle.node_model.specs.NodeSteps.{idle_step, with_port, after_taking, with_stamps_of, on_batch, on_subscribe, on_truncation, after_loss, on_upstream_beat, on_peer_beat, on_ack, on_ask, on_grant, enter_step, on_snap_ask, on_snap, after_adoption, reader_place, replica_number, on_message, on_packet, with_marks_ended, packet_step}
use Rattle.world_model.specs.Worlds.{Envelope, from}
use Rattle.world_model.specs.SessionLaw.{Channel}
use Rattle.world_model.specs.Safe.{IsTruePacket}
use Rattle.world_model.specs.Orderly.{packet_way, carries_fitting}
use Rattle.law_safety.specs.Plans.{IsPlace}
use Rattle.law_safety.proofs.Frames.{IsGood, marks-good}
use Rattle.law_safety.proofs.Mailing.{IsActor}
use Rattle.law_safety.proofs.Delivered.{recovers-or, on_batch-good, on_truncation-good, on_upstream_beat-good, on_peer_beat-good, on_ack-good, on_ask-good}
use Rattle.law_safety.proofs.NodeViews.{shown-view, shown-subs}
use Rattle.law_safety.proofs.Histories.{AreDistinct}
use Rattle.law_sessions.specs.Openings.{packet_asks, asks_for, has_first}
use Rattle.law_sessions.proofs.Keeping.{HeldBy, line_of, mailed, held-same, view-held}
use Rattle.law_sessions.proofs.Asking.{opens, asked-held}
use Rattle.law_sessions.proofs.Noding.{Goes, SameRest, same-rest, shown-same, rest-goes, silent-goes, shut-goes, entered-goes, IsServer, server-of, marks-goes}

-- ---- a batch

stamped-rest : (home : Home) (answer : Taken) (n m : PlainNode) → SameRest n m → SameRest n (with_stamps_of home answer m)
stamped-rest home (Used items) n m h = record { recovering = h.recovering; cursor = h.cursor; closed = h.closed; subs = h.subs }
stamped-rest home Old n m h = h
stamped-rest home Broken n m h = h

port-rest : (p : ℕ) (f : Port → Port) (n : PlainNode) → SameRest n (with_port p f n)
port-rest p f n = record { recovering = refl; cursor = refl; closed = refl; subs = refl }

batch-rest : (home : Home) (u : Sess) (index : ℕ) (items : List Item) (o : Option (ℕ × ℕ)) (n : PlainNode) → SameRest n (on_batch home u index items o n)
batch-rest home u index items None n = same-rest n
batch-rest home u index items (Some (p, r)) n =
    let port = nth no_port n.ports p in
    let t = take_batch port.inlet u index items in
    elim (port.chosen == r) as (λ b. SameRest n (cond b (after_taking home p t n) n)) [
      | true ↦ stamped-rest home t.answer n (with_port p (λ q. record q { inlet = t.after }) n) (port-rest p (λ q. record q { inlet = t.after }) n)
      | false ↦ same-rest n
    ]

-- ---- a truncation, a beat, an acknowledgement

truncation-goes : (home : Home) (a most more : ℕ) (u : Sess) (base : ℕ) (o : Option (ℕ × ℕ)) (n : PlainNode) → IsPlace home → IsGood home most n → IsGood home more (on_truncation home u base o n) → Goes home a n (idle_step (on_truncation home u base o n))
unfolding after_loss
truncation-goes home a most more u base None n place g k = silent-goes home a n [] refl
truncation-goes home a most more u base (Some (p, r)) n place g k =
    let old = nth no_port n.ports p in
    let port = on_truncated r u base old in
    let m = with_port p (λ _. port) n in
    (elim (same_sess u old.inlet.sess && all_truncated port) as (λ b. IsGood home more (cond b (after_loss home m) m) → Goes home a n (idle_step (cond b (after_loss home m) m))) [
      | true ↦ λ h. shut-goes home a n (after_loss home m) refl
      | false ↦ λ h. rest-goes home a most more n m [] place g h (port-rest p (λ _. port) n) refl
    ]) k

upstream-rest : (b : Beat) (o : Option (ℕ × ℕ)) (n : PlainNode) → SameRest n (on_upstream_beat b o n)
upstream-rest b None n = same-rest n
upstream-rest b (Some (p, r)) n = record { recovering = refl; cursor = refl; closed = refl; subs = refl }

peer-rest : (b : Beat) (o : Option ℕ) (n m : PlainNode) → SameRest n m → SameRest n (on_peer_beat b o m)
peer-rest b None n m h = h
peer-rest b (Some r) n m h = record { recovering = h.recovering; cursor = h.cursor; closed = h.closed; subs = h.subs }

ack-rest : (home : Home) (i count : ℕ) (o : Option ℕ) (n : PlainNode) → SameRest n (on_ack home i count o n)
ack-rest home i count None n = same-rest n
ack-rest home i count (Some k) n = record { recovering = refl; cursor = refl; closed = refl; subs = refl }

-- ---- asks, grants and snapshots

ask-goes : (home : Home) (a most : ℕ) (i ask : ℕ) (o : Option ℕ) (n : PlainNode) → IsPlace home → IsGood home most n → IsGood home most (on_ask home i ask o n).after → Goes home a n (on_ask home i ask o n)
ask-goes home a most i ask None n place g k = silent-goes home a n [] refl
ask-goes home a most i ask (Some r) n place g k =
    let granting : Stepped PlainNode = record { after = record n { grants = with_promise n.grants r (i, ask) }; sends = mail (nth 0 (replicas_of home.plan home.frag) r) (message.Grant i ask) ∷ [] } in
    (elim (grants n.grants n.state r (i, ask)) as (λ b. IsGood home most (cond b granting (idle_step n)).after → Goes home a n (cond b granting (idle_step n))) [
      | true ↦ λ h. rest-goes home a most most n granting.after granting.sends place g h (record { recovering = refl; cursor = refl; closed = refl; subs = refl }) refl
      | false ↦ λ h. silent-goes home a n [] refl
    ]) k

grant-goes : (home : Home) (a i ask : ℕ) (n : PlainNode) → IsServer home n → Goes home a n (on_grant home i ask n)
grant-goes home a i ask n server = elim (is_up_failure n.state && may_enter_by n.grants (i, ask)) as (λ b. Goes home a n (cond b (enter_step home n) (idle_step n))) [
  | true ↦ entered-goes home a n server
  | false ↦ silent-goes home a n [] refl
]

snap-goes : (home : Home) (a i try : ℕ) (s : Snap) (n : PlainNode) → Goes home a n (idle_step (on_snap home i try s n))
unfolding after_adoption
snap-goes home a i try s n = elim (n.recovering && i == n.grants.inc && try == n.tries) as (λ b. Goes home a n (idle_step (cond b (after_adoption home s n) n))) [
  | true ↦ shut-goes home a n (after_adoption home s n) refl
  | false ↦ silent-goes home a n [] refl
]

-- ---- a message that is no subscription

-- it opens no session
goes-opens : (home : Home) (a : ℕ) (e : Envelope) (n : PlainNode) (s : Stepped PlainNode) → ((l : Channel) → packet_asks l e.packet ≡ None) → Goes home a n s → (h : ℕ → Sess → List Item) (q : ℕ → Sess → Subscribe) → HeldBy home.plan (Frag home.frag) (shown home n) h q n.subs →
    HeldBy home.plan (Frag home.frag) (shown home s.after) (λ k u. h k u ++ mailed a (own_readers home) s.sends k u) (opens a (own_readers home) s.sends e q) s.after.subs
goes-opens home a e n s none goes h q held k sub at =
    held-same home.plan (Frag home.frag) (shown home s.after) (λ u. h k u ++ mailed a (own_readers home) s.sends k u) (λ u. h k u ++ mailed a (own_readers home) s.sends k u) (q k) (opens a (own_readers home) s.sends e q k) sub
    (λ u. refl) (λ u. by-none (q k u) (line_of a (own_readers home) k u) (has_first (line_of a (own_readers home) k u) (map (from a) s.sends))) (goes h q held k sub at)
  where
    by-line : (d : Subscribe) (b : Bool) → unwrap_or (cond {A = Option Subscribe} b None None) d ≡ d
    by-line d true = refl
    by-line d false = refl

    by-none : (d : Subscribe) (l : Channel) (b : Bool) → cond b (unwrap_or (asks_for l e) d) d ≡ d
    by-none d l true = rw (none l) (by-line d (e.sender == l.reader && e.to == l.sender))
    by-none d l false = refl

-- what taking a packet leaves
abbrev pub Takes : Home → ℕ → Envelope → PlainNode → Stepped PlainNode → Type 0
Takes home a e n s =
    (h : ℕ → Sess → List Item) (q : ℕ → Sess → Subscribe) → HeldBy home.plan (Frag home.frag) (shown home n) h q n.subs →
    HeldBy home.plan (Frag home.frag) (shown home s.after) (λ k u. h k u ++ mailed a (own_readers home) s.sends k u) (opens a (own_readers home) s.sends e q) s.after.subs

subscribe-takes : (home : Home) (a most sender : ℕ) (asked : Subscribe) (n : PlainNode) → IsPlace home → AreDistinct (own_readers home) → IsGood home most n →
    Takes home a (record { sender = sender; to = a; packet = Plain (message.Subscribe asked) }) n (on_message home sender (message.Subscribe asked) n)
subscribe-takes home a most sender asked n place distinct g = by-recovering n.recovering refl
  where
    e : Envelope
    e = record { sender = sender; to = a; packet = Plain (message.Subscribe asked) }

    quiet : Takes home a (record { sender = sender; to = a; packet = Plain (message.Subscribe asked) }) n (idle_step n)
    quiet h q held = silent-goes home a n [] refl h q held

    at-place : n.recovering ≡ false → (o : Option ℕ) → reader_place home sender ≡ o → Takes home a (record { sender = sender; to = a; packet = Plain (message.Subscribe asked) }) n (on_subscribe home asked o n)
    at-place up None f h q held = quiet h q held
    at-place up (Some k) f h q held =
        let readers = own_readers home in
        let d : Sub = record { kept = None; is_open = false; batches = 0 } in
        let t = answer_to (shown home n) (nth d n.subs k) asked in
        let subs = changed k (λ _. t.after) n.subs in
        let low = place-within (λ b. sender == b) readers k f in
        let here : nth 0 readers k ≡ sender = place-nth sender readers k f in
        let server = server-of home most n distinct g in
        let taken = asked-held home.plan (Frag home.frag) a readers (shown home n) asked k d n.subs h q distinct server.few low (shown-view home most n place up g) held in
        subst (λ (y : Shown). HeldBy home.plan (Frag home.frag) y (λ j u. h j u ++ mailed a readers (on_subscribe home asked (Some k) n).sends j u) (opens a readers (on_subscribe home asked (Some k) n).sends (record { sender = sender; to = a; packet = Plain (message.Subscribe asked) }) q) subs) (sym (shown-subs home n subs))
        (subst (λ (b : ℕ). HeldBy home.plan (Frag home.frag) (shown home n) (λ j u. h j u ++ mailed a readers (on_subscribe home asked (Some k) n).sends j u) (opens a readers (on_subscribe home asked (Some k) n).sends (record { sender = b; to = a; packet = Plain (message.Subscribe asked) }) q) subs) here taken)

    by-recovering : (b : Bool) → n.recovering ≡ b → Takes home a (record { sender = sender; to = a; packet = Plain (message.Subscribe asked) }) n (cond b (idle_step n) (on_subscribe home asked (reader_place home sender) n))
    by-recovering true f = quiet
    by-recovering false f = at-place f (reader_place home sender) refl

message-takes : (home : Home) (a most sender : ℕ) (m : Message) (n : PlainNode) → IsActor home a → AreDistinct (own_readers home) → packet_way home.plan (role_of home.plan sender) (IsNode home.frag home.replica) (Plain m) ≡ true →
    carries_fitting home.plan (role_of home.plan sender) (Plain m) ≡ true → IsTruePacket home.plan (role_of home.plan sender) (Plain m) → IsGood home most n →
    Takes home a (record { sender = sender; to = a; packet = Plain m }) n (on_message home sender m n)
message-takes home a most sender (message.Subscribe asked) n actor distinct way fits truth g = subscribe-takes home a most sender asked n actor.place distinct g
message-takes home a most sender (message.Batch u index items) n actor distinct way fits truth g =
    goes-opens home a (record { sender = sender; to = a; packet = Plain (message.Batch u index items) }) n (on_message home sender (message.Batch u index items) n) (λ l. refl)
    (rest-goes home a most most n (on_batch home u index items (sender_at home.plan (streams_of home) sender) n) [] actor.place g (on_batch-good home most sender u index items n actor.place truth fits g) (batch-rest home u index items (sender_at home.plan (streams_of home) sender) n) refl)
message-takes home a most sender (message.Truncated u base) n actor distinct way fits truth g =
    goes-opens home a (record { sender = sender; to = a; packet = Plain (message.Truncated u base) }) n (on_message home sender (message.Truncated u base) n) (λ l. refl)
    (truncation-goes home a most (most + 1) u base (sender_at home.plan (streams_of home) sender) n actor.place g (on_truncation-good home most sender u base n actor.place g))
message-takes home a most sender (message.Beat b) n actor distinct way fits truth g =
    let m = on_upstream_beat b (sender_at home.plan (streams_of home) sender) n in
    goes-opens home a (record { sender = sender; to = a; packet = Plain (message.Beat b) }) n (on_message home sender (message.Beat b) n) (λ l. refl)
    (rest-goes home a most most n (on_peer_beat b (replica_number home sender) m) [] actor.place g (on_peer_beat-good home most b (replica_number home sender) m (on_upstream_beat-good home most sender b n g))
    (peer-rest b (replica_number home sender) n m (upstream-rest b (sender_at home.plan (streams_of home) sender) n)) refl)
message-takes home a most sender (message.Ack i count) n actor distinct way fits truth g =
    goes-opens home a (record { sender = sender; to = a; packet = Plain (message.Ack i count) }) n (on_message home sender (message.Ack i count) n) (λ l. refl) (by-recovering n.recovering refl)
  where
    by-recovering : (b : Bool) → n.recovering ≡ b → Goes home a n (idle_step (cond b n (on_ack home i count (reader_place home sender) n)))
    by-recovering true f = silent-goes home a n [] refl
    by-recovering false f = rest-goes home a most most n (on_ack home i count (reader_place home sender) n) [] actor.place g (on_ack-good home most i count (reader_place home sender) n f g) (ack-rest home i count (reader_place home sender) n) refl
message-takes home a most sender (message.Ask i ask) n actor distinct way fits truth g =
    goes-opens home a (record { sender = sender; to = a; packet = Plain (message.Ask i ask) }) n (on_message home sender (message.Ask i ask) n) (λ l. refl) (ask-goes home a most i ask (replica_number home sender) n actor.place g (on_ask-good home a most sender i ask n actor way g).after)
message-takes home a most sender (message.Grant i ask) n actor distinct way fits truth g =
    goes-opens home a (record { sender = sender; to = a; packet = Plain (message.Grant i ask) }) n (on_message home sender (message.Grant i ask) n) (λ l. refl) (grant-goes home a i ask n (server-of home most n distinct g))
message-takes home a most sender (message.SnapAsk i try) n actor distinct way fits truth g =
    goes-opens home a (record { sender = sender; to = a; packet = Plain (message.SnapAsk i try) }) n (on_message home sender (message.SnapAsk i try) n) (λ l. refl)
    (elim n.recovering as (λ b. Goes home a n (cond b (idle_step n) (on_snap_ask home sender i try n))) [
      | true ↦ silent-goes home a n [] refl
      | false ↦ silent-goes home a n (on_snap_ask home sender i try n).sends refl
    ])

packet-takes : (home : Home) (a most sender : ℕ) (packet : Packet) (n : PlainNode) → IsActor home a → AreDistinct (own_readers home) → packet_way home.plan (role_of home.plan sender) (IsNode home.frag home.replica) packet ≡ true →
    carries_fitting home.plan (role_of home.plan sender) packet ≡ true → IsTruePacket home.plan (role_of home.plan sender) packet → IsGood home most n →
    Takes home a (record { sender = sender; to = a; packet = packet }) n (on_packet home sender packet n)
packet-takes home a most sender (Plain m) n actor distinct way fits truth g = message-takes home a most sender m n actor distinct way fits truth g
packet-takes home a most sender (SnapFor i try s) n actor distinct way fits truth g = goes-opens home a (record { sender = sender; to = a; packet = SnapFor i try s }) n (on_packet home sender (SnapFor i try s) n) (λ l. refl) (snap-goes home a i try s n)

pub delivered-takes : (home : Home) (a most sender : ℕ) (packet : Packet) (n : PlainNode) → IsActor home a → AreDistinct (own_readers home) → packet_way home.plan (role_of home.plan sender) (IsNode home.frag home.replica) packet ≡ true →
    carries_fitting home.plan (role_of home.plan sender) packet ≡ true → IsTruePacket home.plan (role_of home.plan sender) packet → IsGood home most n →
    Takes home a (record { sender = sender; to = a; packet = packet }) n (packet_step home sender packet n)
unfolding packet_step
delivered-takes home a most sender packet n actor distinct way fits truth g h q held =
    let m = with_marks_ended n in
    let marked : HeldBy home.plan (Frag home.frag) (shown home m) h q m.subs = by-recovering (recovers-or n) in
    packet-takes home a most sender packet m actor distinct way fits truth (marks-good home most n g) h q marked
  where
    by-recovering : (n.recovering ≡ true) ⊎ (n.recovering ≡ false) → HeldBy home.plan (Frag home.frag) (shown home (with_marks_ended n)) h q n.subs
    by-recovering (inr up) k sub at = view-held home.plan (Frag home.frag) (shown home n) (shown home (with_marks_ended n)) (h k) (q k) sub
        (shown-same home most most n (with_marks_ended n) actor.place g (marks-good home most n g) up (record { recovering = refl; cursor = refl; closed = refl; subs = refl })) (held k sub at)
    by-recovering (inl down) k sub at =
        let m = with_marks_ended n in
        let kept = marks-goes home a most n actor.place g h q held k sub at in
        held-same home.plan (Frag home.frag) (shown home m) (λ u. h k u ++ mailed a (own_readers home) [] k u) (h k) (q k) (q k) sub (λ u. sym (append-nil (h k u))) (λ u. refl) kept
