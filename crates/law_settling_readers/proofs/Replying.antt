-- What a finished replica does for a reader: it answers its subscription, and its ticks tell it the session; it sends nothing else.
use Rattle.std.proofs.Common.{◌≡◌, ◌≢◌, ℕ, ◌<◌, Bool, true, false, cond, not, ◌&&◌, ◌==◌, nat_lt, List, [], ◌∷◌, length, refl, sym, ap, subst, ◌∙◌, Option, Some, None, ◌⊎◌, inl, inr}
use Rattle.dpc_lists.specs.Lists.{nth, changed, place_of}
use Rattle.dpc_model.specs.Actors.{replicas_of}
use Rattle.dpc_model.specs.Granting.{grants, with_promise, may_enter_by}
use Rattle.dpc_model.specs.NodeStates.{is_up_failure}
use Rattle.dpc_model.specs.Ports.{no_port, sender_at, on_truncated, all_truncated}
use Rattle.dpc_model.specs.Inlets.{same_sess}
use Rattle.dpc_model.specs.Sessions.{Shown, Answered, first_batch, is_newer_than_kept, no_session}
use Rattle.dpc_model.specs.declared.sessions.Sub.{Sub}
use Rattle.dpc_model.specs.declared.messages.Sess.{Sess}
use Rattle.dpc_model.specs.declared.messages.Subscribe.{Subscribe}
use Rattle.dpc_model.specs.declared.messages.Message.{Message}
use Rattle.dpc_model.specs.declared.messages.Message.TheVariants as message
use Rattle.dpc_lists.proofs.Somes.{none-some, some-same}
use Rattle.dpc_lists.proofs.Elements.{nth-here}
use Rattle.dpc_lists.proofs.Places.{place-nth}
use Rattle.node_model.specs.Mails.{Packet, Plain, SnapFor, Mail, mail, Stepped}
use Rattle.node_model.specs.Nodes.{Home, PlainNode, streams_of, own_readers, shown}
use Rattle.node_model.specs.NodeSteps.{idle_step, with_port, after_loss, on_subscribe, on_truncation, on_ack, on_ask, on_grant, on_message, on_snap, with_marks_ended, packet_step, replica_number, reader_place, enter_step, on_snap_ask}
use Rattle.node_model.proofs.Mailed.{subscribe-is, batch-subs, beat-subs, ack-subs}
use Rattle.dpc_lists.proofs.Each.{Each}
use Rattle.law_settling.proofs.Exact.{same-or}
use Rattle.law_settling.proofs.Answering.{nth-there, opened_sub}

-- a packet of a session: a batch, or a truncation
abbrev pub is_reply : Packet → Bool
is_reply (Plain (message.Batch u index items)) = true
is_reply (Plain (message.Truncated u base)) = true
is_reply (Plain (message.Beat b)) = false
is_reply (Plain (message.Subscribe asked)) = false
is_reply (Plain (message.Ack i n)) = false
is_reply (Plain (message.Ask i n)) = false
is_reply (Plain (message.Grant i n)) = false
is_reply (Plain (message.SnapAsk i n)) = false
is_reply (SnapFor i try s) = false

abbrev pub NoReply : ℕ → Mail → Type 0
NoReply b m = m.to ≡ b → is_reply m.packet ≡ false

-- a session that was refused
abbrev pub refused_sub : Subscribe → Sub
refused_sub v = record { kept = Some v.sess; is_open = false; batches = 0 }

-- the reader asked for a newer session
pub record IsAskedBy (b k z : ℕ) (packet : Packet) (old : Sub) (v : Subscribe) : Type 0 where
  pub packet_is : packet ≡ Plain (message.Subscribe v)
  pub from : z ≡ b
  pub newer : is_newer_than_kept v.sess old.kept ≡ true

-- what a step does for reader k, which is actor b
pub data NodeDid (shows : Shown) (b k z : ℕ) (packet : Packet) (n : PlainNode) (t : Stepped PlainNode) : Type 0 where
  Left : nth no_session t.after.subs k ≡ nth no_session n.subs k → Each (NoReply b) t.sends → ((v : Subscribe) → IsAskedBy b k z packet (nth no_session n.subs k) v → ⊥) → NodeDid shows b k z packet n t
  Answers : (v : Subscribe) → IsAskedBy b k z packet (nth no_session n.subs k) v → nth no_session t.after.subs k ≡ opened_sub v → t.sends ≡ mail b (message.Batch v.sess 0 (first_batch shows v)) ∷ [] → NodeDid shows b k z packet n t
  Refuses : (v : Subscribe) → IsAskedBy b k z packet (nth no_session n.subs k) v → nat_lt v.n shows.base ≡ true → nth no_session t.after.subs k ≡ refused_sub v → t.sends ≡ mail b (message.Truncated v.sess shows.base) ∷ [] → NodeDid shows b k z packet n t

module _ (home : Home) (b k : ℕ) (place : place_of (λ a. b == a) (own_readers home) ≡ Some k) where
  abbrev Did : ℕ → Packet → PlainNode → Stepped PlainNode → Type 0
  Did z packet n t = NodeDid (shown home n) b k z packet n t

  -- a step that leaves the sessions
  left : (z : ℕ) (packet : Packet) (n : PlainNode) (t : Stepped PlainNode) → ((v : Subscribe) → packet ≡ Plain (message.Subscribe v) → ⊥) → t.after.subs ≡ n.subs → Each (NoReply b) t.sends → Did z packet n t
  left z packet n t none subs sends = Left (ap (λ (ss : List Sub). nth no_session ss k) subs) sends (λ v asked. none v asked.packet_is)

  -- an answer, to whoever asked
  subscribed-did : (i z : ℕ) (v : Subscribe) (n : PlainNode) → k < length n.subs → place_of (λ a. z == a) (own_readers home) ≡ Some i → Did z (Plain (message.Subscribe v)) n (on_subscribe home v (Some i) n)
  subscribed-did i z v n few at =
      let old = nth no_session n.subs i in
      (elim (is_newer_than_kept v.sess old.kept) as (λ d. is_newer_than_kept v.sess old.kept ≡ d → Did z (Plain (message.Subscribe v)) n (step (cond (not d) unanswered (cond (nat_lt v.n (shown home n).base) refused answered)))) [
        | false ↦ λ e. Left (unchanged (same-or i k)) tt (λ u asked. older e u asked)
        | true ↦ λ e. (elim (nat_lt v.n (shown home n).base) as (λ d. nat_lt v.n (shown home n).base ≡ d → Did z (Plain (message.Subscribe v)) n (step (cond d refused answered))) [
          | true ↦ λ low. newly refused e (same-or i k) (λ asked here sends. Refuses v asked low here sends) refl
          | false ↦ λ low. newly answered e (same-or i k) (λ asked here sends. Answers v asked here sends) refl
        ]) refl
      ]) refl
    where
      unanswered : Answered
      unanswered = record { after = nth no_session n.subs i; answer = None }

      refused : Answered
      refused = record { after = record { kept = Some v.sess; is_open = false; batches = 0 }; answer = Some (message.Truncated v.sess (shown home n).base) }

      answered : Answered
      answered = record { after = record { kept = Some v.sess; is_open = true; batches = 1 }; answer = Some (message.Batch v.sess 0 (first_batch (shown home n) v)) }

      step : Answered → Stepped PlainNode
      step a = record { after = record n { subs = changed i (λ _. a.after) n.subs }; sends = elim a.answer [ None ↦ [] | Some m ↦ mail (nth 0 (own_readers home) i) m ∷ [] ] }

      unchanged : (i ≡ k) ⊎ (i ≢ k) → nth no_session (changed i (λ _. nth no_session n.subs i) n.subs) k ≡ nth no_session n.subs k
      unchanged (inl same) = rw same (nth-here no_session k (λ _. nth no_session n.subs k) n.subs few)
      unchanged (inr apart) = nth-there no_session i k (λ _. nth no_session n.subs i) n.subs apart

      place-same : (c : ℕ) → z ≡ c → c ≡ b → i ≡ k
      place-same c one two = some-same i k (sym at ∙ ap (λ (a : ℕ). place_of (λ x. a == x) (own_readers home)) (one ∙ two) ∙ place)

      older : is_newer_than_kept v.sess (nth no_session n.subs i).kept ≡ false → (u : Subscribe) → IsAskedBy b k z (Plain (message.Subscribe v)) (nth no_session n.subs k) u → ⊥
      older e u asked =
          let is = asked.packet_is in
          let same : v ≡ u = subscribe-is v u is in
          let here : i ≡ k = place-same z refl asked.from in
          let no : false ≡ true = sym e ∙ ap (λ (j : ℕ). is_newer_than_kept v.sess (nth no_session n.subs j).kept) here ∙ ap (λ (a : Subscribe). is_newer_than_kept a.sess (nth no_session n.subs k).kept) same ∙ asked.newer in
          cc

      newly : (a : Answered) → is_newer_than_kept v.sess (nth no_session n.subs i).kept ≡ true → (i ≡ k) ⊎ (i ≢ k) →
          (IsAskedBy b k z (Plain (message.Subscribe v)) (nth no_session n.subs k) v → nth no_session (step a).after.subs k ≡ a.after → (step a).sends ≡ elim a.answer as (λ _. List Mail) [ None ↦ [] | Some m ↦ mail b m ∷ [] ] → Did z (Plain (message.Subscribe v)) n (step a)) →
          ((step a).after.subs ≡ changed i (λ _. a.after) n.subs) → Did z (Plain (message.Subscribe v)) n (step a)
      newly a e (inl same) tells is =
          let from : z ≡ b = sym (place-nth z (own_readers home) i at) ∙ ap (λ (j : ℕ). nth 0 (own_readers home) j) same ∙ place-nth b (own_readers home) k place in
          let to : nth 0 (own_readers home) i ≡ b = place-nth z (own_readers home) i at ∙ from in
          let here : nth no_session (changed i (λ _. a.after) n.subs) k ≡ a.after = rw same (nth-here no_session k (λ _. a.after) n.subs few) in
          tells (record { packet_is = refl; from = from; newer = rw (← same) e }) here (ap (λ (c : ℕ). elim a.answer as (λ _. List Mail) [ None ↦ [] | Some m ↦ mail c m ∷ [] ]) to)
      newly a e (inr apart) tells is =
          Left (nth-there no_session i k (λ _. a.after) n.subs apart) (others a.answer)
          (λ u asked. apart (place-same z refl asked.from))
        where
          others : (o : Option Message) → Each (NoReply b) (elim o as (λ _. List Mail) [ None ↦ [] | Some m ↦ mail (nth 0 (own_readers home) i) m ∷ [] ])
          others None = tt
          others (Some m) = (
            λ (to : nth 0 (own_readers home) i ≡ b).
                let from : z ≡ b = sym (place-nth z (own_readers home) i at) ∙ to in
                absurd (apart (place-same z refl from)),
            tt,
          )

  -- ---- packets

  lost-recovers : (m : PlainNode) → (after_loss home m).recovering ≡ true
  unfolding after_loss
  lost-recovers m = refl

  truncation-subs : (u : Sess) (base : ℕ) (o : Option (ℕ × ℕ)) (n : PlainNode) → (on_truncation home u base o n).recovering ≡ false → (on_truncation home u base o n).subs ≡ n.subs
  truncation-subs u base None n calm = refl
  truncation-subs u base (Some pr) n calm =
      let old = nth no_port n.ports pr.0 in
      let port = on_truncated pr.1 u base old in
      let m = with_port pr.0 (λ _. port) n in
      elim (same_sess u old.inlet.sess && all_truncated port) as (λ c. (cond c (after_loss home m) m).recovering ≡ false → (cond c (after_loss home m) m).subs ≡ n.subs) [
        | false ↦ λ d. refl
        | true ↦ λ d. let no : true ≡ false = sym (lost-recovers m) ∙ d in cc
      ] calm

  ask-did : (i ask : ℕ) (r : Option ℕ) (n : PlainNode) → ((on_ask home i ask r n).after.subs ≡ n.subs) × Each (NoReply b) (on_ask home i ask r n).sends
  ask-did i ask None n = (refl, tt)
  ask-did i ask (Some r) n = elim (grants n.grants n.state r (i, ask)) as (λ c. ((cond {A = Stepped PlainNode} c (record { after = record n { grants = with_promise n.grants r (i, ask) }; sends = mail (nth 0 (replicas_of home.plan home.frag) r) (message.Grant i ask) ∷ [] }) (idle_step n)).after.subs ≡ n.subs)
      × Each (NoReply b) (cond {A = Stepped PlainNode} c (record { after = record n { grants = with_promise n.grants r (i, ask) }; sends = mail (nth 0 (replicas_of home.plan home.frag) r) (message.Grant i ask) ∷ [] }) (idle_step n)).sends) [
        | true ↦ (refl, (λ to. refl, tt))
        | false ↦ (refl, tt)
      ]

  grant-none : (i ask : ℕ) (n : PlainNode) → is_up_failure n.state ≡ false → on_grant home i ask n ≡ idle_step n
  grant-none i ask n fine = ap (λ (c : Bool). cond {A = Stepped PlainNode} (c && may_enter_by n.grants (i, ask)) (enter_step home n) (idle_step n)) fine

  message-did : (z : ℕ) (m : Message) (n : PlainNode) → n.recovering ≡ false → is_up_failure n.state ≡ false → k < length n.subs → (on_message home z m n).after.recovering ≡ false → Did z (Plain m) n (on_message home z m n)
  message-did z (message.Subscribe v) n whole fine few calm =
      subst (λ (c : Bool). Did z (Plain (message.Subscribe v)) n (cond c (idle_step n) (on_subscribe home v (reader_place home z) n))) (sym whole) (by-place (reader_place home z) refl)
    where
      by-place : (o : Option ℕ) → reader_place home z ≡ o → Did z (Plain (message.Subscribe v)) n (on_subscribe home v o n)
      by-place None e = Left refl tt (λ u asked. none-some (sym e ∙ ap (λ (a : ℕ). place_of (λ x. a == x) (own_readers home)) asked.from ∙ place))
      by-place (Some i) e = subscribed-did i z v n few e
  message-did z (message.Batch u index items) n whole fine few calm = left z (Plain (message.Batch u index items)) n _ (λ v e. cc) (batch-subs home u index items (sender_at home.plan (streams_of home) z) n) tt
  message-did z (message.Truncated u base) n whole fine few calm = left z (Plain (message.Truncated u base)) n _ (λ v e. cc) (truncation-subs u base (sender_at home.plan (streams_of home) z) n calm) tt
  message-did z (message.Beat bt) n whole fine few calm = left z (Plain (message.Beat bt)) n _ (λ v e. cc) (beat-subs bt (replica_number home z) (sender_at home.plan (streams_of home) z) n) tt
  message-did z (message.Ack i count) n whole fine few calm =
      left z (Plain (message.Ack i count)) n _ (λ v e. cc) (elim n.recovering as (λ c. (cond c n (on_ack home i count (reader_place home z) n)).subs ≡ n.subs) [ true ↦ refl | false ↦ ack-subs home i count (reader_place home z) n ]) tt
  message-did z (message.Ask i ask) n whole fine few calm = let d = ask-did i ask (replica_number home z) n in left z (Plain (message.Ask i ask)) n _ (λ v e. cc) d.0 d.1
  message-did z (message.Grant i ask) n whole fine few calm = subst (λ (t : Stepped PlainNode). Did z (Plain (message.Grant i ask)) n t) (sym (grant-none i ask n fine)) (left z (Plain (message.Grant i ask)) n (idle_step n) (λ v e. cc) refl tt)
  message-did z (message.SnapAsk i try) n whole fine few calm = by-recovering n.recovering
    where
      by-recovering : (c : Bool) → Did z (Plain (message.SnapAsk i try)) n (cond c (idle_step n) (on_snap_ask home z i try n))
      by-recovering true = left z (Plain (message.SnapAsk i try)) n (idle_step n) (λ v e. cc) refl tt
      by-recovering false = left z (Plain (message.SnapAsk i try)) n (on_snap_ask home z i try n) (λ v e. cc) refl (λ to. refl, tt)

  -- a packet, behind the marks that ended
  pub packet-did : (z : ℕ) (packet : Packet) (n : PlainNode) → n.recovering ≡ false → is_up_failure n.state ≡ false → k < length n.subs → (packet_step home z packet n).after.recovering ≡ false → NodeDid (shown home (with_marks_ended n)) b k z packet (with_marks_ended n) (packet_step home z packet n)
  unfolding packet_step
  packet-did z (Plain m) n whole fine few calm = message-did z m (with_marks_ended n) whole fine few calm
  packet-did z (SnapFor i try s) n whole fine few calm =
      let m = with_marks_ended n in
      let same : idle_step (on_snap home i try s m) ≡ idle_step m = rw whole refl in
      subst (λ (t : Stepped PlainNode). Did z (SnapFor i try s) m t) (sym same) (left z (SnapFor i try s) m (idle_step m) (λ v e. cc) refl tt)
