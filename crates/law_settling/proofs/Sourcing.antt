-- What an event of a quiet phase makes of a reader's session at its source, and which batches it sends it.
use Rattle.std.proofs.Common.{◌≡◌, ◌≢◌, ℕ, ◌<◌, ◌≤◌, Bool, true, cond, List, [], ◌∷◌, ◌++◌, map, length, refl, sym, ap, subst, ◌∙◌, arith, Option, Some, slice_get, inl, inr}
use Rattle.dpc_lists.specs.Lists.{nth, changed}
use Rattle.dpc_model.specs.Actors.{role_of}
use Rattle.dpc_model.specs.Sessions.{no_session, is_newer_than_kept, first_batch, tally_of}
use Rattle.dpc_model.specs.declared.actors.Role.{Role}
use Rattle.dpc_model.specs.declared.actors.Role.TheVariants.{Source as IsSource, Node as IsNode, Client as IsClient}
use Rattle.dpc_model.specs.declared.sessions.Sub.{Sub}
use Rattle.dpc_model.specs.declared.tuples.Item.{Item}
use Rattle.dpc_model.specs.declared.messages.Event.{Event}
use Rattle.dpc_model.specs.declared.messages.Event.TheVariants.{Deliver, Tick}
use Rattle.dpc_model.specs.declared.messages.Sess.{Sess}
use Rattle.dpc_model.specs.declared.messages.Subscribe.{Subscribe}
use Rattle.dpc_model.specs.declared.messages.Message.TheVariants as message
use Rattle.node_model.specs.Mails.{Mail, mail, Plain, Stepped}
use Rattle.node_model.specs.NodeSteps.{packet_step, mill_step, tick_step}
use Rattle.node_model.specs.Sources.{SourceState, source_shown, source_packet_step, source_beat, source_tick_step}
use Rattle.node_model.specs.Clients.{client_after_packet, client_tick_step}
use Rattle.world_model.specs.Worlds.{World, Envelope, home_of, source_at, no_source, client_at, from, node_stepped, source_stepped, client_stepped, taken_by, can_come, comes, is_clock, ticks, happens}
use Rattle.dpc_lists.proofs.Elements.{nth-here}
use Rattle.dpc_lists.proofs.Somes.{some-same}
use Rattle.node_model.proofs.Mailed.{subscribe-is}
use Rattle.law_safety.proofs.EventCases.{AreCases, by-event}
use Rattle.law_safety.proofs.Happening.{IsFine}
use Rattle.law_safety.proofs.Numbering.{source-at as source-number}
use Rattle.law_sessions.proofs.Sources.{source-many}
use Rattle.law_granting.proofs.Asked.{each-unit}
use Rattle.law_granting.proofs.Slots.{got-sent}
use Rattle.law_schedules.specs.Journals.{clock_by, Ticks}
use Rattle.world_model.specs.Events.{is_quiet}
use Rattle.law_settling.proofs.Exact.{same-or}
use Rattle.law_settling.proofs.Lines.{IsReading}
use Rattle.law_settling.proofs.PortSteps.{sent-place}
use Rattle.law_settling.proofs.Answering.{nth-there, opened_sub, Left, Answers, source-did, beat-sent, NoBatchMail, tick-subs, tick-beats}

-- the session that a source keeps of its k-th reader
abbrev pub sub_at : World → ℕ → ℕ → Sub
sub_at w s k = nth no_session (source_at w s).subs k

-- the source sends the reader no batch
abbrev pub NoNewBatch : World → ℕ → ℕ → World → Type 0
NoNewBatch w s x next = (j : ℕ) (f : Envelope) (u : Sess) (i : ℕ) (items : List Item) → slice_get next.envelopes j ≡ Some f → f.sender ≡ s → f.to ≡ x → f.packet ≡ Plain (message.Batch u i items) → slice_get w.envelopes j ≡ Some f

-- the answer to a subscription
abbrev pub answer_mail : World → ℕ → ℕ → Subscribe → Envelope
answer_mail w s x v = from s (mail x (message.Batch v.sess 0 (first_batch (source_shown w.plan s (source_at w s)) v)))

-- the reader's session stays, or a newer one is answered
pub data SourceGoes (w : World) (x s k : ℕ) (next : World) : Type 0 where
  Keeps : sub_at next s k ≡ sub_at w s k → NoNewBatch w s x next → SourceGoes w x s k next
  Opens : (j : ℕ) (f : Envelope) (v : Subscribe) → slice_get w.envelopes j ≡ Some f → f.sender ≡ x → f.to ≡ s → f.packet ≡ Plain (message.Subscribe v) → is_newer_than_kept v.sess (sub_at w s k).kept ≡ true →
      sub_at next s k ≡ opened_sub v → next.envelopes ≡ w.envelopes ++ answer_mail w s x v ∷ [] → SourceGoes w x s k next

module _ (w : World) (most x p s k : ℕ) (fine : IsFine w most) (line : IsReading w.plan x p s k) (within : s < length w.sources) where
  abbrev After : World → Type 0
  After next = SourceGoes w x s k next

  pub few : k < length (source_at w s).subs
  few = let many = source-many w most s fine within in let low = line.low in omega (arith, many, low)

  -- mails of another actor
  others-none : (a : ℕ) (ms : List Mail) (next : World) → (a ≡ s → ⊥) → next.envelopes ≡ w.envelopes ++ map (from a) ms → NoNewBatch w s x next
  others-none a ms next other sends j f u i items there sender to packet =
      elim (got-sent (λ m. Unit {0}) a w.envelopes ms j f (each-unit ms) (sym (ap (λ (es : List Envelope). slice_get es j) sends) ∙ there)) [
        | inl old ↦ old
        | inr new ↦ absurd (other (sym (ap (λ (z : Envelope). z.sender) new.1) ∙ sender))
      ]

  same-none : (next : World) → next.envelopes ≡ w.envelopes → NoNewBatch w s x next
  same-none next sends j f u i items there sender to packet = sym (ap (λ (es : List Envelope). slice_get es j) sends) ∙ there

  other-goes : (a : ℕ) (ms : List Mail) (next : World) → (a ≡ s → ⊥) → source_at next s ≡ source_at w s → next.envelopes ≡ w.envelopes ++ map (from a) ms → After next
  other-goes a ms next other source sends = Keeps (ap (λ (y : SourceState). nth no_session y.subs k) source) (others-none a ms next other sends)

  role-other : (a : ℕ) (role : Role) → role_of w.plan a ≡ role → (role ≡ IsSource s → ⊥) → a ≡ s → ⊥
  role-other a role is apart same = apart (sym is ∙ ap (λ (z : ℕ). role_of w.plan z) same ∙ line.source)

  -- a step of the source itself
  own-source : (t : Stepped SourceState) → source_at (source_stepped s t w) s ≡ t.after
  own-source t = nth-here no_source s (λ _. t.after) w.sources within

  took-own : (j : ℕ) (f : Envelope) → slice_get w.envelopes j ≡ Some f → f.to ≡ s → After (source_stepped s (source_packet_step w.plan s f.sender f.packet (source_at w s)) w)
  took-own j f sent to =
      let y = source_at w s in
      let t = source_packet_step w.plan s f.sender f.packet y in
      let next = source_stepped s t w in
      let here = own-source t in
      elim (source-did w.plan s x k f.sender f.packet y line.placed few) [
        | Left sub emitted bound none not_asked ↦
            Keeps (ap (λ (z : SourceState). nth no_session z.subs k) here ∙ sub) (λ g h u i items there sender away packet.
            elim (got-sent (λ m. m.to ≢ x) s w.envelopes t.sends g h none there) [
              | inl old ↦ old
              | inr new ↦ absurd (new.2 (sym (ap (λ (z : Envelope). z.to) new.1) ∙ away))
            ])
        | Answers v packet who newer opened emitted bound mine ↦
            Opens j f v sent who to packet newer (ap (λ (z : SourceState). nth no_session z.subs k) here ∙ opened) (ap (λ (ms : List Mail). w.envelopes ++ map (from s) ms) mine)
      ]

  tick-own : (now : ℕ) → After (source_stepped s (source_tick_step w.plan s now (source_at w s)) w)
  tick-own now =
      let y = source_at w s in
      let t = source_tick_step w.plan s now y in
      Keeps (ap (λ (z : SourceState). nth no_session z.subs k) (own-source t) ∙ ap (λ (subs : List Sub). nth no_session subs k) (tick-subs w.plan s now y)) (λ g h u i items there sender away packet.
      elim (got-sent NoBatchMail s w.envelopes t.sends g h (tick-beats w.plan s now y) there) [
        | inl old ↦ old
        | inr new ↦ absurd (new.2 u i items (sym (ap (λ (z : Envelope). z.packet) new.1) ∙ packet))
      ])

  -- a step of any source
  any-source : (a v : ℕ) (step : ℕ → Stepped SourceState) → role_of w.plan a ≡ IsSource v → (a ≡ s → After (source_stepped s (step s) w)) → After (source_stepped a (step v) w)
  any-source a v step role own =
      let number = source-number w.plan a v role in
      elim (same-or a s) [
        | inl same ↦
            let mine : v ≡ s = number ∙ same in
            subst (λ (z : ℕ). After (source_stepped a (step z) w)) (sym mine) (subst (λ (z : ℕ). After (source_stepped z (step s) w)) (sym same) (own same))
        | inr other ↦ other-goes a (step v).sends (source_stepped a (step v) w) other (nth-there no_source a s (λ _. (step v).after) w.sources other) refl
      ]

  source-cases : AreCases w (λ e next. is_quiet e ≡ true → After next)
  source-cases =
      record {
        still = λ e quiet. Keeps refl (same-none w refl);
        wires = λ e cuts quiet. Keeps refl (same-none (record w { cuts = cuts }) refl);
        emitted = λ a v t role quiet. cc;
        released = λ a v t role quiet. cc;
        source_took = λ j v f sent can role quiet. any-source f.to v (λ z. source_packet_step w.plan z f.sender f.packet (source_at w z)) role (λ same. took-own j f sent same);
        source_ticks = λ a v now role quiet. any-source a v (λ z. source_tick_step w.plan z now (source_at w z)) role (λ same. tick-own now);
        crashed = λ a f r role quiet. cc;
        restarted = λ a i f r role quiet. cc;
        node_took = λ j g b f n sent can role up quiet. other-goes f.to (packet_step (home_of w.plan (g, b)) f.sender f.packet n).sends (node_stepped f.to (packet_step (home_of w.plan (g, b)) f.sender f.packet n) w) (role-other f.to (IsNode g b) role (λ e. cc)) refl refl;
        node_ticked = λ y now g b n role up clock quiet. other-goes y (tick_step (home_of w.plan (g, b)) now n).sends (node_stepped y (tick_step (home_of w.plan (g, b)) now n) w) (role-other y (IsNode g b) role (λ e. cc)) refl refl;
        node_milled = λ y m g b n role up can quiet. other-goes y (mill_step (home_of w.plan (g, b)) m n).sends (node_stepped y (mill_step (home_of w.plan (g, b)) m n) w) (role-other y (IsNode g b) role (λ e. cc)) refl refl;
        client_took = λ j d f sent can role quiet. Keeps refl (same-none (record w { clients = changed d (client_after_packet w.plan d f.sender f.packet) w.clients }) refl);
        client_ticks = λ a d now role quiet. other-goes a (client_tick_step w.plan d now (client_at w d)).sends (client_stepped a d (client_tick_step w.plan d now (client_at w d)) w) (role-other a (IsClient d) role (λ e. cc)) refl refl;
      }

  pub source-goes : (e : Event) → is_quiet e ≡ true → SourceGoes w x s k (happens w e)
  source-goes e quiet = by-event w (λ e next. is_quiet e ≡ true → SourceGoes w x s k next) source-cases e quiet

  -- ---- now

  -- a newer subscription that comes is answered
  pub answers-now : (j : ℕ) (f : Envelope) (v : Subscribe) → slice_get w.envelopes j ≡ Some f → can_come w f ≡ true → f.sender ≡ x → f.to ≡ s → f.packet ≡ Plain (message.Subscribe v) → is_newer_than_kept v.sess (sub_at w s k).kept ≡ true →
      (sub_at (happens w (Deliver j)) s k ≡ opened_sub v) × ((happens w (Deliver j)).envelopes ≡ w.envelopes ++ answer_mail w s x v ∷ [])
  answers-now j f v sent can sender to packet newer =
      let y = source_at w s in
      let t = source_packet_step w.plan s f.sender f.packet y in
      let role : role_of w.plan f.to ≡ IsSource s = ap (λ (z : ℕ). role_of w.plan z) to ∙ line.source in
      let event : happens w (Deliver j) ≡ source_stepped s t w =
      ap (λ (o : Option Envelope). comes w o) sent ∙ ap (λ (b : Bool). cond b (taken_by w f (role_of w.plan f.to)) w) can ∙ ap (λ (r : Role). taken_by w f r) role ∙ ap (λ (z : ℕ). source_stepped z t w) to in
      subst (λ (next : World). (sub_at next s k ≡ opened_sub v) × (next.envelopes ≡ w.envelopes ++ answer_mail w s x v ∷ [])) (sym event)
      (elim (source-did w.plan s x k f.sender f.packet y line.placed few) [
        | Left sub emitted bound none not_asked ↦ absurd (not_asked v packet sender newer)
        | Answers u asked who more opened emitted bound mine ↦
            let same : u ≡ v = subscribe-is u v (sym asked ∙ packet) in
            subst (λ (z : Subscribe). (sub_at (source_stepped s t w) s k ≡ opened_sub z) × ((source_stepped s t w).envelopes ≡ w.envelopes ++ answer_mail w s x z ∷ [])) same
            (ap (λ (z : SourceState). nth no_session z.subs k) (own-source t) ∙ opened, ap (λ (ms : List Mail). w.envelopes ++ map (from s) ms) mine)
      ])

  -- a tick of the source that is not void tells the reader its session
  pub beats-now : (now : ℕ) → Ticks w s now → (i : ℕ) × (slice_get (happens w (Tick s now)).envelopes i ≡ Some (from s (mail x (source_beat (tally_of (sub_at w s k)))))) × (length w.envelopes ≤ i) × (sub_at (happens w (Tick s now)) s k ≡ sub_at w s k)
  beats-now now clocked =
      let y = source_at w s in
      let t = source_tick_step w.plan s now y in
      let clock : y.clock ≡ clocked.old = some-same y.clock clocked.old (sym (ap (λ (r : Role). clock_by w s r) line.source) ∙ clocked.is_up) in
      let may : is_clock y.clock now ≡ true = ap (λ (c : ℕ). is_clock c now) clock ∙ clocked.may in
      let event : happens w (Tick s now) ≡ source_stepped s t w = ap (λ (r : Role). ticks w s now r) line.source ∙ ap (λ (c : Bool). cond c (source_stepped s t w) w) may in
      let place = sent-place s w.envelopes (mail x (source_beat (tally_of (sub_at w s k)))) t.sends (beat-sent w.plan s now k x y line.back line.low few) in
      subst (λ (next : World). (i : ℕ) × (slice_get next.envelopes i ≡ Some (from s (mail x (source_beat (tally_of (sub_at w s k)))))) × (length w.envelopes ≤ i) × (sub_at next s k ≡ sub_at w s k)) (sym event)
      (place.0, place.1, place.2, ap (λ (z : SourceState). nth no_session z.subs k) (own-source t) ∙ ap (λ (subs : List Sub). nth no_session subs k) (tick-subs w.plan s now y))
