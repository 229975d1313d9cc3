-- The sessions that a sender keeps and writes of, and those that a reader asks for, in one step of each.
use Rattle.std.proofs.Common.{◌≡◌, ℕ, suc, ◌+◌, Bool, true, false, cond, not, ◌==◌, nat_lt, max, List, [], ◌∷◌, ◌++◌, map, length, refl, sym, ap, subst, ◌∙◌, arith, Option, Some, None, slice_get, unwrap_or, ◌⊎◌, inl, inr}
use Rattle.std.proofs.lemmas.Grind.{common_steps}
use Rattle.std.specs.Prelude.{zip}
use Rattle.dpc_lists.specs.Lists.{nth, changed, place_of}
use Rattle.dpc_model.specs.Inlets.{InletState, is_newer, with_next_session, asked_by, take_batch}
use Rattle.dpc_model.specs.Actors.{senders_of}
use Rattle.dpc_model.specs.Ports.{Port, no_port, sender_at, without_ended_marks, port_after_tick, choice_at, must_reopen, port_after_choice, subscriptions, acks_to}
use Rattle.dpc_model.specs.Sessions.{no_session, Shown, Answered, tally_of, first_batch, is_newer_than_kept, answer_to, batches_from, with_batch, with_session_shut, Acked, given_items}
use Rattle.dpc_model.specs.declared.sessions.Sub.{Sub}
use Rattle.dpc_model.specs.declared.tuples.Item.{Item}
use Rattle.dpc_model.specs.declared.messages.Sess.{Sess}
use Rattle.dpc_model.specs.declared.messages.Subscribe.{Subscribe}
use Rattle.dpc_model.specs.declared.messages.Message.{Message}
use Rattle.dpc_model.specs.declared.messages.Message.TheVariants as message
use Rattle.dpc_model.specs.declared.plans.Plan.{Plan}
use Rattle.dpc_model.specs.declared.plans.StreamRef.{StreamRef}
use Rattle.dpc_lists.proofs.Places.{place-nth}
use Rattle.dpc_lists.proofs.Somes.{some-same}
use Rattle.node_model.specs.Mails.{Packet, Plain, SnapFor, Mail, mail, mails, to_readers, to_sessions, to_subscriber, Stepped}
use Rattle.node_model.specs.Nodes.{Home, PlainNode, streams_of, own_readers, shown}
use Rattle.node_model.specs.NodeSteps.{with_marks_ended, packet_step, mill_step, after_clock, may_start_afresh, serving_step, with_fresh_start, snapshot_ask_step, announcing_step, then_do, rest_of_tick, tick_step}
use Rattle.node_model.specs.Clients.{ClientState, client_stream, client_after_batch, client_message, client_packet, client_marks_ended, client_after_packet, client_tick_step}
use Rattle.node_model.specs.Sources.{SourceState, source_readers, bound_at, source_shown, source_given, source_gives, source_emits, source_releases, source_subscribed, source_message, source_packet_step, source_beat, source_tick_step}
use Rattle.node_model.proofs.Mailed.{kept-port}
use Rattle.dpc_lists.proofs.Each.{Each, each-append, each-weaker}
use Rattle.dpc_model.proofs.Subs.{took-session}
use Rattle.law_safety.proofs.StepCases.{by-answer}
use Rattle.law_granting.proofs.Each.{each-subscription, each-zipped}
use Rattle.law_granting.proofs.Moves.{get-mapped, get-was}
use Rattle.law_readers.proofs.Passing.{At, Passed, is_told, Obliges, Takes, KeepSessions, keep-same, keep-then, keep-sessions, SameSession, ports-changed, beat-session, packet-passed, mill-passed, tick-passed, serving-passed, recovering-passed}

-- ---- what a sender keeps and writes

-- the sessions kept of a reader
abbrev pub KeptOk : (Sess → Type 0) → List ℕ → ℕ → List Sub → Type 0
KeptOk Q readers x subs = (k : ℕ) (sub : Sub) (u : Sess) → slice_get subs k ≡ Some sub → nth 0 readers k ≡ x → sub.kept ≡ Some u → Q u

-- the session of a batch, or of what was truncated
abbrev pub SentOk : (Sess → Type 0) → Packet → Type 0
SentOk Q (Plain (message.Batch u index items)) = Q u
SentOk Q (Plain (message.Truncated u base)) = Q u
SentOk Q (Plain (message.Subscribe asked)) = Unit {0}
SentOk Q (Plain (message.Beat b)) = Unit {0}
SentOk Q (Plain (message.Ack i n)) = Unit {0}
SentOk Q (Plain (message.Ask i n)) = Unit {0}
SentOk Q (Plain (message.Grant i n)) = Unit {0}
SentOk Q (Plain (message.SnapAsk i n)) = Unit {0}
SentOk Q (SnapFor i try s) = Unit {0}

abbrev pub SentTo : (Sess → Type 0) → ℕ → Mail → Type 0
SentTo Q x m = m.to ≡ x → SentOk Q m.packet

pub tally-kept : (sub : Sub) (l : Sess × ℕ) → tally_of sub ≡ Some l → sub.kept ≡ Some l.0
tally-kept sub l e = by-kept sub.kept refl e
  where
    by-kept : (o : Option Sess) → sub.kept ≡ o → elim o [ None ↦ None | Some s ↦ cond {A = Option (Sess × ℕ)} sub.is_open (Some (s, sub.batches)) None ] ≡ Some l → sub.kept ≡ Some l.0
    by-kept None f g = cc
    by-kept (Some s) f g =
        elim sub.is_open as (λ b. cond {A = Option (Sess × ℕ)} b (Some (s, sub.batches)) None ≡ Some l → sub.kept ≡ Some l.0) [
          | true ↦ λ d. let same : ◌≡◌ {A = Sess × ℕ} (s, sub.batches) l = cc in f ∙ ap (λ (z : Sess × ℕ). Some z.0) same
          | false ↦ λ d. cc
        ] g

batch-kept : (sub : Sub) → (with_batch sub).kept ≡ sub.kept
batch-kept sub = elim sub.is_open as (λ b. (cond {A = Sub} b (record sub { batches = sub.batches + 1 }) sub).kept ≡ sub.kept) [ true ↦ refl | false ↦ refl ]

module _ (Q : Sess → Type 0) (readers : List ℕ) (x : ℕ) where
  kept-map : (f : Sub → Sub) → ((sub : Sub) → (f sub).kept ≡ sub.kept) → (subs : List Sub) → KeptOk Q readers x subs → KeptOk Q readers x (map f subs)
  kept-map f same subs h k sub u there it kept =
      let was = get-mapped f subs k sub there in h k was.0 u was.1 it (sym (same was.0) ∙ ap (λ (z : Sub). z.kept) was.2 ∙ kept)

  pub kept-counted : (subs : List Sub) → KeptOk Q readers x subs → KeptOk Q readers x (map with_batch subs)
  kept-counted subs h = kept-map with_batch batch-kept subs h

  pub kept-shut : (subs : List Sub) → KeptOk Q readers x subs → KeptOk Q readers x (map with_session_shut subs)
  kept-shut subs h = kept-map with_session_shut (λ sub. refl) subs h

  -- batches go in kept sessions
  pub batch-sent : (k : ℕ) (sub : Sub) (l : Sess × ℕ) (items : List Item) (subs : List Sub) → KeptOk Q readers x subs → slice_get subs k ≡ Some sub → tally_of sub ≡ Some l → SentTo Q x (mail (nth 0 readers k) (message.Batch l.0 l.1 items))
  batch-sent k sub l items subs h there tally it = h k sub l.0 there it (tally-kept sub l tally)

  sessions-sent : (items : List Item) (all : List Sub) (j : ℕ) (subs : List Sub) → KeptOk Q readers x all → ((i : ℕ) → slice_get subs i ≡ slice_get all (j + i)) → Each (SentTo Q x) (to_readers readers (batches_from j items subs))
  sessions-sent items all j [] h at = tt
  sessions-sent items all j (sub ∷ subs) h at =
      let none : j + 0 ≡ j = omega arith in
      let there : slice_get all j ≡ Some sub = ap (λ (z : ℕ). slice_get all z) (sym none) ∙ sym (at 0) in
      let rest = sessions-sent items all (j + 1) subs h (λ i. let next : j + suc i ≡ j + 1 + i = omega arith in at (suc i) ∙ ap (λ (z : ℕ). slice_get all z) next) in
      (elim (tally_of sub) as (λ l. tally_of sub ≡ l → Each (SentTo Q x) (to_readers readers (elim l [ None ↦ batches_from (j + 1) items subs | Some l ↦ (j, message.Batch l.0 l.1 items) ∷ batches_from (j + 1) items subs ]))) [
        | None ↦ λ e. rest
        | Some l ↦ λ e. (batch-sent j sub l items all h there e, rest)
      ]) refl

  -- what an event gives
  pub given-ok : (items : List Item) (subs : List Sub) → KeptOk Q readers x subs → KeptOk Q readers x (to_sessions readers items subs).after × Each (SentTo Q x) (to_sessions readers items subs).sends
  given-ok [] subs h = (h, tt)
  given-ok (i ∷ items) subs h = (kept-counted subs h, sessions-sent (i ∷ items) subs 0 subs h (λ j. let none : 0 + j ≡ j = omega arith in ap (λ (z : ℕ). slice_get subs z) (sym none)))

  -- and the answer to a subscription of the reader at place k
  pub answered-ok : (shows : Shown) (k : ℕ) (asked : Subscribe) (subs : List Sub) → (nth 0 readers k ≡ x → Q asked.sess) → KeptOk Q readers x subs →
      KeptOk Q readers x (to_subscriber readers shows k asked subs).after × Each (SentTo Q x) (to_subscriber readers shows k asked subs).sends
  answered-ok shows k asked subs told h = (λ j sub u there it kept. after j sub u it kept (get-was k (λ _. answer.after) subs j sub there), sent-ok)
    where
      answer : Answered
      answer = answer_to shows (nth no_session subs k) asked

      kept-or : (b : Bool) (u : Sess) → (cond {A = Answered} (not b) (record { after = nth no_session subs k; answer = None }) (cond (nat_lt asked.n shows.base)
          (record { after = record { kept = Some asked.sess; is_open = false; batches = 0 }; answer = Some (message.Truncated asked.sess shows.base) })
          (record { after = record { kept = Some asked.sess; is_open = true; batches = 1 }; answer = Some (message.Batch asked.sess 0 (first_batch shows asked)) }))).after.kept ≡ Some u →
          ((nth no_session subs k).kept ≡ Some u) ⊎ (asked.sess ≡ u)
      kept-or false u e = inl e
      kept-or true u e =
          elim (nat_lt asked.n shows.base) as (λ b. (cond {A = Answered} b
          (record { after = record { kept = Some asked.sess; is_open = false; batches = 0 }; answer = Some (message.Truncated asked.sess shows.base) })
          (record { after = record { kept = Some asked.sess; is_open = true; batches = 1 }; answer = Some (message.Batch asked.sess 0 (first_batch shows asked)) })).after.kept ≡ Some u → ((nth no_session subs k).kept ≡ Some u) ⊎ (asked.sess ≡ u)) [
            | true ↦ λ d. inr (some-same asked.sess u d)
            | false ↦ λ d. inr (some-same asked.sess u d)
          ] e

      after : (j : ℕ) (sub : Sub) (u : Sess) → nth 0 readers j ≡ x → sub.kept ≡ Some u → (y : Sub) × (slice_get subs j ≡ Some y) × ((y ≡ sub) ⊎ ((j ≡ k) × ((answer_to shows (nth no_session subs k) asked).after ≡ sub))) → Q u
      after j sub u it kept (y, there, inl same) = h j y u there it (ap (λ (z : Sub). z.kept) same ∙ kept)
      after j sub u it kept (y, there, inr (at, now)) =
          let mine : nth 0 readers k ≡ x = ap (λ (z : ℕ). nth 0 readers z) (sym at) ∙ it in
          let here : nth no_session subs k ≡ y = ap (λ (z : ℕ). nth no_session subs z) (sym at) ∙ ap (λ (o : Option Sub). unwrap_or o no_session) there in
          elim (kept-or (is_newer_than_kept asked.sess (nth no_session subs k).kept) u (ap (λ (z : Sub). z.kept) now ∙ kept)) [
            | inl old ↦ h j y u there it (sym (ap (λ (z : Sub). z.kept) here) ∙ old)
            | inr new ↦ subst Q new (told mine)
          ]

      sent-ok : Each (SentTo Q x) (to_subscriber readers shows k asked subs).sends
      sent-ok =
          by-answer shows (nth no_session subs k) asked (nth 0 readers k) (Each (SentTo Q x)) tt (told, tt) (told, tt)

-- ---- a node's step, of what it keeps and writes of a reader

module _ (home : Home) (Q : Sess → Type 0) (x : ℕ) where
  abbrev pub Keeps : List Port → List Sub → List Acked → ℕ → Type 0
  Keeps ports subs acks base = KeptOk Q (own_readers home) x subs

  told-sent : (to : ℕ) (m : Message) → is_told m ≡ true → SentTo Q x (mail to m)
  told-sent to (message.Beat b) e it = tt
  told-sent to (message.Ack i n) e it = tt
  told-sent to (message.Ask i n) e it = tt
  told-sent to (message.Grant i n) e it = tt
  told-sent to (message.SnapAsk i n) e it = tt
  told-sent to (message.Subscribe asked) e it = tt
  told-sent to (message.Batch u index items) e it = cc
  told-sent to (message.Truncated u base) e it = cc

  sender-obliges : Obliges home Keeps (SentTo Q x)
  sender-obliges =
      record {
        told = told-sent;
        snapped = λ n to i try h it. tt;
        batched = λ n k sub l items h there tally. batch-sent Q (own_readers home) x k sub l items n.subs h there tally;
        counted = λ n h. kept-counted Q (own_readers home) x n.subs h;
        shut = λ n h. kept-shut Q (own_readers home) x n.subs h;
        emptied = λ n h. h;
        based = λ n count h. h;
        moved = λ n rs keeps h. h;
      }

  sender-takes : (a : ℕ) (packet : Packet) → ((asked : Subscribe) → packet ≡ Plain (message.Subscribe asked) → a ≡ x → Q asked.sess) → Takes home Keeps (SentTo Q x) a packet
  sender-takes a packet told =
      record {
        subscribed = λ asked k n same reader h.
            let both = answered-ok Q (own_readers home) x (shown home n) k asked n.subs (λ it. told asked same (sym reader ∙ it)) h in record { after = both.0; sends = both.1 };
        acked = λ i count k n same reader h. h;
        took = λ u index p r items n same place chosen h. h;
        adopted = λ i try s n same h. h;
      }

  pub delivered-keeps : (a : ℕ) (packet : Packet) (n : PlainNode) → ((asked : Subscribe) → packet ≡ Plain (message.Subscribe asked) → a ≡ x → Q asked.sess) → At Keeps n → Passed Keeps (SentTo Q x) (packet_step home a packet n)
  delivered-keeps a packet n told h = packet-passed home Keeps (SentTo Q x) sender-obliges a packet (sender-takes a packet told) n h

  pub milled-keeps : (r : ℕ) (n : PlainNode) → At Keeps n → Passed Keeps (SentTo Q x) (mill_step home r n)
  milled-keeps r n h = mill-passed home Keeps (SentTo Q x) sender-obliges r n h

  pub ticked-keeps : (now : ℕ) (n : PlainNode) → At Keeps n → Passed Keeps (SentTo Q x) (tick_step home now n)
  ticked-keeps now n h = tick-passed home Keeps (SentTo Q x) sender-obliges now n (λ m k. k) (λ m k. each-subscription (SentTo Q x) home.plan m.ports (streams_of home) (λ to asked it. tt)) h

-- ---- what a reader asks for

pub newer-never : (u : Sess) → is_newer u u ≡ false
newer-never u = grind (arith, common_steps)

pub newer-not-then : (u v w : Sess) → is_newer u v ≡ false → is_newer v w ≡ false → is_newer u w ≡ false
newer-not-then u v w e f = grind (arith, common_steps)

pub next-newer : (u : Sess) → is_newer u (record u { number = u.number + 1 }) ≡ false
next-newer u = grind (arith, common_steps)

pub choice-session : (q : Port) → is_newer q.inlet.sess (port_after_choice q).inlet.sess ≡ false
choice-session q =
    elim (must_reopen q) as (λ b. is_newer q.inlet.sess (cond {A = InletState} b (with_next_session q.inlet) q.inlet).sess ≡ false) [
      | true ↦ next-newer q.inlet.sess
      | false ↦ newer-never q.inlet.sess
    ]

-- each port's session is not older than before
abbrev pub SessionsGo : List Port → List Port → Type 0
SessionsGo ps rs = (p : ℕ) (r : Port) → slice_get rs p ≡ Some r → (q : Port) × (slice_get ps p ≡ Some q) × (is_newer q.inlet.sess r.inlet.sess ≡ false)

-- a subscription is that of a port, after the step, to the replica that it chose
pub record AsksAs (home : Home) (ps rs : List Port) (to : ℕ) (asked : Subscribe) : Type 0 where
  pub place : ℕ
  pub stream : StreamRef
  pub port : Port
  pub reads : slice_get (streams_of home) place ≡ Some stream
  pub there : slice_get ps place ≡ Some port
  pub sender : to ≡ nth 0 (senders_of home.plan stream) (choice_at (port_after_tick (without_ended_marks port)))
  pub session : (r : Port) → slice_get rs place ≡ Some r → asked.sess ≡ r.inlet.sess
  pub asks : asked ≡ asked_by (with_next_session port.inlet)

abbrev pub AsksOf : Home → List Port → List Port → ℕ → Packet → Type 0
AsksOf home ps rs to (Plain (message.Subscribe asked)) = AsksAs home ps rs to asked
AsksOf home ps rs to (Plain (message.Batch u index items)) = Unit {0}
AsksOf home ps rs to (Plain (message.Truncated u base)) = Unit {0}
AsksOf home ps rs to (Plain (message.Beat b)) = Unit {0}
AsksOf home ps rs to (Plain (message.Ack i n)) = Unit {0}
AsksOf home ps rs to (Plain (message.Ask i n)) = Unit {0}
AsksOf home ps rs to (Plain (message.Grant i n)) = Unit {0}
AsksOf home ps rs to (Plain (message.SnapAsk i n)) = Unit {0}
AsksOf home ps rs to (SnapFor i try s) = Unit {0}

pub record ReaderSteps (home : Home) (n : PlainNode) (t : Stepped PlainNode) : Type 0 where
  pub ports : SessionsGo n.ports t.after.ports
  pub asks : Each (λ (m : Mail). AsksOf home n.ports t.after.ports m.to m.packet) t.sends

-- no subscription
abbrev NoAsk : Mail → Type 0
NoAsk m = (home : Home) (ps rs : List Port) → AsksOf home ps rs m.to m.packet

keep-goes : (ps rs : List Port) → KeepSessions ps rs → SessionsGo ps rs
keep-goes ps rs h p r e = let k = h p r e in (k.0, k.1, ap (λ (z : Sess). is_newer k.0.inlet.sess z) k.2 ∙ newer-never k.0.inlet.sess)

no-more-asks : (home : Home) (n : PlainNode) (t : Stepped PlainNode) → KeepSessions n.ports t.after.ports → Each NoAsk t.sends → ReaderSteps home n t
no-more-asks home n t keeps none = record { ports = keep-goes n.ports t.after.ports keeps; asks = each-weaker NoAsk (λ (m : Mail). AsksOf home n.ports t.after.ports m.to m.packet) t.sends (λ m h. h home n.ports t.after.ports) none }

module _ (home : Home) (P : Mail → Type 0) (easy : (m : Mail) → NoAsk m → P m) (start : List Port) where
  abbrev Same : List Port → List Sub → List Acked → ℕ → Type 0
  Same ports subs acks base = KeepSessions start ports

  told-no-ask : (to : ℕ) (m : Message) → is_told m ≡ true → NoAsk (mail to m)
  told-no-ask to (message.Beat b) e h ps rs = tt
  told-no-ask to (message.Ack i n) e h ps rs = tt
  told-no-ask to (message.Ask i n) e h ps rs = tt
  told-no-ask to (message.Grant i n) e h ps rs = tt
  told-no-ask to (message.SnapAsk i n) e h ps rs = tt
  told-no-ask to (message.Batch u index items) e h ps rs = tt
  told-no-ask to (message.Truncated u base) e h ps rs = tt
  told-no-ask to (message.Subscribe asked) e h ps rs = cc

  reader-obliges : Obliges home Same P
  reader-obliges =
      record {
        told = λ to m e. easy (mail to m) (told-no-ask to m e);
        snapped = λ n to i try h. easy _ (λ y ps rs. tt);
        batched = λ n k sub l items h there tally. easy _ (λ y ps rs. tt);
        counted = λ n h. h;
        shut = λ n h. h;
        emptied = λ n h. h;
        based = λ n count h. h;
        moved = λ n rs keeps h. keep-then start n.ports rs h (keep-sessions n.ports rs keeps);
      }

-- a port before the choice, and before the tick
pub ticked-port : (ps : List Port) (i : ℕ) (q : Port) → slice_get (map port_after_tick (map without_ended_marks ps)) i ≡ Some q → (z : Port) × (slice_get ps i ≡ Some z) × (q ≡ port_after_tick (without_ended_marks z))
ticked-port ps i q e =
    let one = get-mapped port_after_tick (map without_ended_marks ps) i q e in
    let two = get-mapped without_ended_marks ps i one.0 one.1 in
    (two.0, two.1, sym (ap port_after_tick two.2 ∙ one.2))

-- a batch leaves the sessions of the ports
took-keeps : (u : Sess) (index p : ℕ) (items : List Item) (n : PlainNode) → KeepSessions n.ports (changed p (λ (q : Port). record q { inlet = (take_batch (nth no_port n.ports p).inlet u index items).after }) n.ports)
took-keeps u index p items n =
    ports-changed SameSession p (λ (q : Port). record q { inlet = (take_batch (nth no_port n.ports p).inlet u index items).after }) n.ports (λ q. refl)
    (λ q there. took-session (nth no_port n.ports p).inlet u index items ∙ ap (λ (o : Option Port). (unwrap_or o no_port).inlet.sess) there)

module _ (home : Home) where
  abbrev OfStart : List Port → List Port → List Sub → List Acked → ℕ → Type 0
  OfStart start ports subs acks base = KeepSessions start ports

  reader-takes : (start : List Port) (a : ℕ) (packet : Packet) → Takes home (OfStart start) NoAsk a packet
  reader-takes start a packet =
      record {
        subscribed = λ asked k n same reader h. record { after = h; sends = answer k (shown home n) (nth no_session n.subs k) asked };
        acked = λ i count k n same reader h. h;
        took = λ u index p r items n same place chosen h. keep-then start n.ports _ h (took-keeps u index p items n);
        adopted = λ i try s n same h. h;
      }
    where
      answer : (k : ℕ) (shows : Shown) (sub : Sub) (asked : Subscribe) → Each NoAsk (elim (answer_to shows sub asked).answer as (λ _. List Mail) [ None ↦ [] | Some m ↦ mail (nth 0 (own_readers home) k) m ∷ [] ])
      answer k shows sub asked =
          by-answer shows sub asked (nth 0 (own_readers home) k) (Each NoAsk) tt (λ y ps rs. tt, tt) (λ y ps rs. tt, tt)

  pub delivered-reader : (a : ℕ) (packet : Packet) (n : PlainNode) → ReaderSteps home n (packet_step home a packet n)
  delivered-reader a packet n =
      let k = packet-passed home (OfStart n.ports) NoAsk (reader-obliges home NoAsk (λ m h. h) n.ports) a packet (reader-takes n.ports a packet) n (keep-same n.ports) in
      no-more-asks home n (packet_step home a packet n) k.after k.sends

  pub milled-reader : (r : ℕ) (n : PlainNode) → ReaderSteps home n (mill_step home r n)
  milled-reader r n =
      let k = mill-passed home (OfStart n.ports) NoAsk (reader-obliges home NoAsk (λ m h. h) n.ports) r n (keep-same n.ports) in no-more-asks home n (mill_step home r n) k.after k.sends

  -- ---- a tick

  abbrev AskedIn : List Port → List Port → Mail → Type 0
  AskedIn ps rs m = AsksOf home ps rs m.to m.packet

  asked-later : (ps rs us : List Port) (to : ℕ) (p : Packet) → KeepSessions rs us → AsksOf home ps rs to p → AsksOf home ps us to p
  asked-later ps rs us to (Plain (message.Subscribe asked)) keeps h =
      record { place = h.place; stream = h.stream; port = h.port; reads = h.reads; there = h.there; sender = h.sender; session = λ r e. let k = keeps h.place r e in h.session k.0 k.1 ∙ sym k.2; asks = h.asks }
  asked-later ps rs us to (Plain (message.Batch u index items)) keeps h = tt
  asked-later ps rs us to (Plain (message.Truncated u base)) keeps h = tt
  asked-later ps rs us to (Plain (message.Beat b)) keeps h = tt
  asked-later ps rs us to (Plain (message.Ack i n)) keeps h = tt
  asked-later ps rs us to (Plain (message.Ask i n)) keeps h = tt
  asked-later ps rs us to (Plain (message.Grant i n)) keeps h = tt
  asked-later ps rs us to (Plain (message.SnapAsk i n)) keeps h = tt
  asked-later ps rs us to (SnapFor i try s) keeps h = tt

  asks-each : (ps qs : List Port) (i : ℕ) (rest : List Port) (ss : List StreamRef) → qs ≡ map port_after_tick (map without_ended_marks ps) → ((j : ℕ) → slice_get rest j ≡ slice_get qs (i + j)) → ((j : ℕ) → slice_get ss j ≡ slice_get (streams_of home) (i + j)) →
      Each (AskedIn ps (map port_after_choice qs)) (mails (subscriptions home.plan rest ss))
  asks-each ps qs i [] ss ticked ports streams = tt
  asks-each ps qs i (q ∷ rest) [] ticked ports streams = tt
  asks-each ps qs i (q ∷ rest) (s ∷ ss) ticked ports streams =
      let none : i + 0 ≡ i = omega arith in
      let there : slice_get qs i ≡ Some q = ap (λ (z : ℕ). slice_get qs z) (sym none) ∙ sym (ports 0) in
      let reads : slice_get (streams_of home) i ≡ Some s = ap (λ (z : ℕ). slice_get (streams_of home) z) (sym none) ∙ sym (streams 0) in
      let more = asks-each ps qs (i + 1) rest ss ticked (λ j. let next : i + suc j ≡ i + 1 + j = omega arith in ports (suc j) ∙ ap (λ (z : ℕ). slice_get qs z) next)
      (λ j. let next : i + suc j ≡ i + 1 + j = omega arith in streams (suc j) ∙ ap (λ (z : ℕ). slice_get (streams_of home) z) next) in
      (elim (must_reopen q) as (λ b. must_reopen q ≡ b → Each (AskedIn ps (map port_after_choice qs)) (mails (cond b (record { to = nth 0 (senders_of home.plan s) (choice_at q); message = message.Subscribe (asked_by (with_next_session q.inlet)) } ∷ []) [] ++ subscriptions home.plan rest ss))) [
        | true ↦ λ e. (asked there reads e, more)
        | false ↦ λ e. more
      ]) refl
    where
      asked : slice_get qs i ≡ Some q → slice_get (streams_of home) i ≡ Some s → must_reopen q ≡ true → AsksAs home ps (map port_after_choice qs) (nth 0 (senders_of home.plan s) (choice_at q)) (asked_by (with_next_session q.inlet))
      asked there reads reopens =
          let was = ticked-port ps i q (sym (ap (λ (zs : List Port). slice_get zs i) ticked) ∙ there) in
          record {
            place = i;
            stream = s;
            port = was.0;
            reads = reads;
            there = was.1;
            sender = ap (λ (z : Port). nth 0 (senders_of home.plan s) (choice_at z)) was.2;
            session = λ r e.
                let k = get-mapped port_after_choice qs i r e in
                let same : k.0 ≡ q = some-same k.0 q (sym k.1 ∙ there) in
                let now : (port_after_choice q).inlet.sess ≡ (with_next_session q.inlet).sess = rw reopens refl in
                sym now ∙ ap (λ (z : Port). (port_after_choice z).inlet.sess) (sym same) ∙ ap (λ (z : Port). z.inlet.sess) k.2;
            asks = ap (λ (z : Port). asked_by (with_next_session z.inlet)) was.2;
          }

  serving-reader : (n m : PlainNode) → m.ports ≡ map port_after_tick (map without_ended_marks n.ports) → ReaderSteps home n (serving_step home m)
  serving-reader n m ticked =
      let end = map port_after_choice m.ports in
      let asks = asks-each n.ports m.ports 0 m.ports (streams_of home) ticked (λ j. let none : 0 + j ≡ j = omega arith in ap (λ (z : ℕ). slice_get m.ports z) (sym none))
      (λ j. let none : 0 + j ≡ j = omega arith in ap (λ (z : ℕ). slice_get (streams_of home) z) (sym none)) in
      let k = serving-passed home (OfStart end) (AskedIn n.ports end) (reader-obliges home (AskedIn n.ports end) (λ y h. h home n.ports end) end) m (keep-same end) asks in
      record {
        ports = λ p r e.
            let now = k.after p r e in
            let chosen = get-mapped port_after_choice m.ports p now.0 now.1 in
            let was = ticked-port n.ports p chosen.0 (sym (ap (λ (zs : List Port). slice_get zs p) ticked) ∙ chosen.1) in (
              was.0,
              was.1,
              subst (λ (z : Sess). is_newer was.0.inlet.sess z ≡ false) (ap (λ (z : Port). z.inlet.sess) chosen.2 ∙ sym now.2)
                  (subst (λ (z : Sess). is_newer z (port_after_choice chosen.0).inlet.sess ≡ false) (ap (λ (z : Port). z.inlet.sess) was.2) (choice-session chosen.0)),
            );
        asks = each-weaker (AskedIn n.ports end) (AskedIn n.ports (serving_step home m).after.ports) (serving_step home m).sends (λ y h. asked-later n.ports end (serving_step home m).after.ports y.to y.packet k.after h) k.sends;
      }

  recovering-reader : (n m : PlainNode) → m.ports ≡ map port_after_tick (map without_ended_marks n.ports) → ReaderSteps home n (then_do (snapshot_ask_step home m) (announcing_step home))
  recovering-reader n m ticked =
      let keeps : KeepSessions n.ports m.ports = λ p r e. (let was = ticked-port n.ports p r (sym (ap (λ (zs : List Port). slice_get zs p) ticked) ∙ e) in (was.0, was.1, ap (λ (z : Port). z.inlet.sess) was.2)) in
      let k = recovering-passed home (OfStart n.ports) NoAsk (reader-obliges home NoAsk (λ y h. h) n.ports) m keeps in
      no-more-asks home n (then_do (snapshot_ask_step home m) (announcing_step home)) k.after k.sends

  pub ticked-reader : (now : ℕ) (n : PlainNode) → ReaderSteps home n (tick_step home now n)
  unfolding tick_step
  ticked-reader now n = going_on (after_clock now (with_marks_ended n)) refl
    where
      going_on : (m : PlainNode) → m.ports ≡ map port_after_tick (map without_ended_marks n.ports) → ReaderSteps home n (rest_of_tick home m)
      going_on m ticked =
          elim m.recovering as (λ b. ReaderSteps home n (cond (not b) (serving_step home m) (cond (may_start_afresh home m) (serving_step home (with_fresh_start m)) (then_do (snapshot_ask_step home m) (announcing_step home))))) [
            | false ↦ serving-reader n m ticked
            | true ↦ elim (may_start_afresh home m) as (λ b. ReaderSteps home n (cond b (serving_step home (with_fresh_start m)) (then_do (snapshot_ask_step home m) (announcing_step home)))) [
              | true ↦ serving-reader n (with_fresh_start m) ticked
              | false ↦ recovering-reader n m ticked
            ]
          ]

-- ---- a client

message-session : (r : ℕ) (m : Message) (z : ClientState) → (client_message r m z).port.inlet.sess ≡ z.port.inlet.sess
message-session r (message.Batch u index items) z =
    elim (z.port.chosen == r) as (λ b. (cond {A = ClientState} b (client_after_batch (take_batch z.port.inlet u index items) z) z).port.inlet.sess ≡ z.port.inlet.sess) [
      | true ↦
          let t = take_batch z.port.inlet u index items in
          ap (λ (y : Port). y.inlet.sess) (kept-port t.answer (record z { port = record z.port { inlet = t.after } })) ∙ took-session z.port.inlet u index items
      | false ↦ refl
    ]
message-session r (message.Beat b) z = beat-session r b z.port
message-session r (message.Truncated u base) z = refl
message-session r (message.Subscribe asked) z = refl
message-session r (message.Ack i n) z = refl
message-session r (message.Ask i n) z = refl
message-session r (message.Grant i n) z = refl
message-session r (message.SnapAsk i n) z = refl

packet-session : (o : Option (ℕ × ℕ)) (p : Packet) (z : ClientState) → (client_packet o p z).port.inlet.sess ≡ z.port.inlet.sess
packet-session None p z = refl
packet-session (Some pr) (Plain m) z = message-session pr.1 m z
packet-session (Some pr) (SnapFor i try s) z = refl

pub client-session : (plan : Plan) (c a : ℕ) (p : Packet) (z : ClientState) → (client_after_packet plan c a p z).port.inlet.sess ≡ z.port.inlet.sess
unfolding client_after_packet
client-session plan c a p z = packet-session (sender_at plan (client_stream plan c ∷ []) a) p (client_marks_ended z)

pub client-ticked : (plan : Plan) (c now : ℕ) (z : ClientState) → is_newer z.port.inlet.sess (client_tick_step plan c now z).after.port.inlet.sess ≡ false
unfolding client_tick_step
client-ticked plan c now z = choice-session (port_after_tick (without_ended_marks z.port))

-- a client asks for its present session
abbrev pub AsksFor : Sess → Packet → Type 0
AsksFor u (Plain (message.Subscribe asked)) = asked.sess ≡ u
AsksFor u (Plain (message.Batch v index items)) = Unit {0}
AsksFor u (Plain (message.Truncated v base)) = Unit {0}
AsksFor u (Plain (message.Beat b)) = Unit {0}
AsksFor u (Plain (message.Ack i n)) = Unit {0}
AsksFor u (Plain (message.Ask i n)) = Unit {0}
AsksFor u (Plain (message.Grant i n)) = Unit {0}
AsksFor u (Plain (message.SnapAsk i n)) = Unit {0}
AsksFor u (SnapFor i try s) = Unit {0}

pub each-acked : (P : Mail → Type 0) (i n : ℕ) (ids : List ℕ) → ((to : ℕ) → P (mail to (message.Ack i n))) → Each P (mails (map (λ a. record { to = a; message = message.Ack i n }) ids))
each-acked P i n [] h = tt
each-acked P i n (a ∷ ids) h = (h a, each-acked P i n ids h)

pub client-asks : (plan : Plan) (c now : ℕ) (z : ClientState) → Each (λ (m : Mail). AsksFor (client_tick_step plan c now z).after.port.inlet.sess m.packet) (client_tick_step plan c now z).sends
unfolding client_tick_step
client-asks plan c now z =
    let port = port_after_tick (without_ended_marks z.port) in
    let u = (port_after_choice port).inlet.sess in
    each-append (λ (m : Mail). AsksFor u m.packet) (mails (subscriptions plan (port ∷ []) (client_stream plan c ∷ []))) (mails (acks_to plan 1 (length z.port.inlet.held.stable) (client_stream plan c)))
    (asked port) (each-acked (λ (m : Mail). AsksFor u m.packet) 1 (length z.port.inlet.held.stable) (senders_of plan (client_stream plan c)) (λ to. tt))
  where
    asked : (q : Port) → Each (λ (m : Mail). AsksFor (port_after_choice q).inlet.sess m.packet) (mails (subscriptions plan (q ∷ []) (client_stream plan c ∷ [])))
    asked q =
        elim (must_reopen q) as (λ b. Each (λ (m : Mail). AsksFor (cond {A = InletState} b (with_next_session q.inlet) q.inlet).sess m.packet)
        (mails (cond b (record { to = nth 0 (senders_of plan (client_stream plan c)) (choice_at q); message = message.Subscribe (asked_by (with_next_session q.inlet)) } ∷ []) [] ++ []))) [
          | true ↦ (refl, tt)
          | false ↦ tt
        ]

-- ---- a source

module _ (plan : Plan) (Q : Sess → Type 0) (x s : ℕ) where
  abbrev pub SourceKeeps : Stepped SourceState → Type 0
  SourceKeeps t = KeptOk Q (source_readers plan s) x t.after.subs × Each (SentTo Q x) t.sends

  gives-keeps : (t : ℕ) (bound : Option (ℕ × ℕ)) (z : SourceState) → KeptOk Q (source_readers plan s) x z.subs → SourceKeeps (source_gives plan s t bound z)
  gives-keeps t bound z h = given-ok Q (source_readers plan s) x (given_items z.emitted (source_given plan s t bound z)) z.subs h

  pub emits-keeps : (t : ℕ) (z : SourceState) → KeptOk Q (source_readers plan s) x z.subs → SourceKeeps (source_emits plan s t z)
  unfolding source_emits
  emits-keeps t z h = gives-keeps t None z h

  pub releases-keeps : (t : ℕ) (z : SourceState) → KeptOk Q (source_readers plan s) x z.subs → SourceKeeps (source_releases plan s t z)
  unfolding source_releases
  releases-keeps t z h = gives-keeps t (cond (nat_lt z.bound t) (bound_at plan s t) None) (record z { bound = max z.bound t }) h

  each-told : (f : Sub → Option (Sess × ℕ)) (ids : List ℕ) (subs : List Sub) → Each (SentTo Q x) (map (λ (y : ℕ × Sub). mail y.0 (source_beat (f y.1))) (zip ids subs))
  each-told f ids subs = each-zipped (SentTo Q x) (λ sub. source_beat (f sub)) ids subs (λ to sub it. tt)

  pub source-ticks-keeps : (now : ℕ) (z : SourceState) → KeptOk Q (source_readers plan s) x z.subs → SourceKeeps (source_tick_step plan s now z)
  unfolding source_tick_step
  source-ticks-keeps now z h = (h, each-told tally_of (source_readers plan s) z.subs)

  source-silent : (z : SourceState) → KeptOk Q (source_readers plan s) x z.subs → SourceKeeps (record { after = z; sends = [] })
  source-silent z h = (h, tt)

  source-message : (a : ℕ) (m : Message) (z : SourceState) → ((asked : Subscribe) → m ≡ message.Subscribe asked → a ≡ x → Q asked.sess) → KeptOk Q (source_readers plan s) x z.subs → SourceKeeps (source_message plan s a m z)
  source-message a (message.Subscribe asked) z told h =
      (elim (place_of (λ b. a == b) (source_readers plan s)) as (λ o. place_of (λ b. a == b) (source_readers plan s) ≡ o → SourceKeeps (source_subscribed plan s asked o z)) [
        | None ↦ λ e. source-silent z h
        | Some k ↦ λ e. answered-ok Q (source_readers plan s) x (source_shown plan s z) k asked z.subs (λ it. told asked refl (sym (place-nth a (source_readers plan s) k e) ∙ it)) h
      ]) refl
  source-message a (message.Batch u index items) z told h = source-silent z h
  source-message a (message.Truncated u base) z told h = source-silent z h
  source-message a (message.Beat b) z told h = source-silent z h
  source-message a (message.Ack i n) z told h = source-silent z h
  source-message a (message.Ask i n) z told h = source-silent z h
  source-message a (message.Grant i n) z told h = source-silent z h
  source-message a (message.SnapAsk i n) z told h = source-silent z h

  pub source-takes-keeps : (a : ℕ) (p : Packet) (z : SourceState) → ((asked : Subscribe) → p ≡ Plain (message.Subscribe asked) → a ≡ x → Q asked.sess) → KeptOk Q (source_readers plan s) x z.subs → SourceKeeps (source_packet_step plan s a p z)
  unfolding source_packet_step
  source-takes-keeps a (Plain m) z told h = source-message a m z (λ asked same it. told asked (ap Plain same) it) h
  source-takes-keeps a (SnapFor i try snap) z told h = source-silent z h
