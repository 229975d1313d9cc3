-- The batches that a source sent in a session are numbered from 0 on.
use Rattle.std.proofs.Common.{◌≡◌, ℕ, ◌+◌, ◌<◌, Bool, true, false, cond, ◌&&◌, ◌==◌, nat_lt, List, [], ◌∷◌, ◌++◌, map, length, refl, sym, ap, subst, ◌∙◌, arith, Option, Some, None, slice_get, inl, inr}
use Rattle.std.specs.Prelude.{zip, max}
use Rattle.std.proofs.lemmas.List.{append-nil}
use Rattle.dpc_lists.specs.Lists.{nth, changed, range_with_len, place_of}
use Rattle.dpc_model.specs.Inlets.{same_sess}
use Rattle.dpc_model.specs.Actors.{role_of}
use Rattle.dpc_model.specs.declared.actors.Role.TheVariants.{Source as IsSource, Node as IsNode, Client as IsClient}
use Rattle.dpc_model.specs.Sessions.{no_session, tally_of, answer_to, given_items}
use Rattle.dpc_model.specs.declared.sessions.Sub.{Sub}
use Rattle.dpc_model.specs.declared.messages.Event.{Event}
use Rattle.dpc_model.specs.declared.messages.Message.{Message}
use Rattle.dpc_model.specs.declared.messages.Message.TheVariants as message
use Rattle.dpc_model.specs.declared.messages.Sess.{Sess}
use Rattle.dpc_model.specs.declared.messages.Subscribe.{Subscribe}
use Rattle.dpc_model.specs.declared.plans.Plan.{Plan}
use Rattle.dpc_model.specs.declared.plans.StreamRef.TheVariants.{Source}
use Rattle.node_model.specs.Mails.{Mail, mail, Packet, Plain, SnapFor, Stepped}
use Rattle.node_model.specs.Sources.{SourceState, source_readers, source_shown, source_given, source_gives, source_emits, source_releases, source_subscribed, source_packet_step, source_beat, source_tick_step, bound_at}
use Rattle.world_model.specs.Worlds.{World, Envelope, source_at, no_source, from, source_stepped, can_come, happens, run_from}
use Rattle.world_model.specs.Safe.{EachStep}
use Rattle.world_model.specs.SessionLaw.{Channel}
use Rattle.dpc_lists.proofs.Truths.{both-of, eq-test, and-false}
use Rattle.dpc_lists.proofs.Elements.{length-changed, nth-here}
use Rattle.dpc_lists.proofs.Places.{place-within, place-nth}
use Rattle.dpc_model.proofs.Subs.{length-counted}
use Rattle.law_safety.proofs.Numbering.{source-at as source-number}
use Rattle.law_granting.specs.Taken.{subscribes_packet, envelope_subscribes, subscribes, role_inc}
use Rattle.law_granting.proofs.Keys.{nth-changed}
use Rattle.law_safety.proofs.EventCases.{AreCases, by-event}
use Rattle.law_granting.proofs.Asked.{same-or}
use Rattle.law_safety.proofs.Growing.{event-grows}
use Rattle.law_granting.proofs.Sending.{indexes, indexes-append, range-append, SendsOn, sends-none, answer_index, sends-answered, IsNoBatch, none-indexed, skip-other, take-mine, sends-given}
use Rattle.law_granting.proofs.Sent.{other-indexed, apart-test, SubHolds}
use Rattle.law_safety.proofs.Distinct.{readers-distinct}
use Rattle.dpc_lists.proofs.Each.{Each}

-- what a source's step sends to the reader of one place in one session
pub record SourceSends (readers : List ℕ) (a k : ℕ) (s : Sess) (opens : Bool) (old : SourceState) (t : Stepped SourceState) : Type 0 where
  pub many : length t.after.subs ≡ length readers
  pub on : SendsOn s opens (nth no_session old.subs k) (nth no_session t.after.subs k) (indexes (record { sender = a; reader = nth 0 readers k; sess = s }) (map (from a) t.sends))

module _ (plan : Plan) (u a k : ℕ) (s : Sess) (opens : Bool) (low : k < length (source_readers plan u)) where
  abbrev line : Channel
  line = record { sender = a; reader = nth 0 (source_readers plan u) k; sess = s }

  abbrev Sends : SourceState → Stepped SourceState → Type 0
  Sends old t = SourceSends (source_readers plan u) a k s opens old t

  quiet : (x : SourceState) (t : Stepped SourceState) → length x.subs ≡ length (source_readers plan u) → t.after.subs ≡ x.subs → Each IsNoBatch t.sends → Sends x t
  quiet x t many same none =
      record {
        many = ap length same ∙ many;
        on = subst (λ (z : List ℕ). SendsOn s opens (nth no_session x.subs k) (nth no_session t.after.subs k) z) (sym (none-indexed line a t.sends none))
            (subst (λ (z : List Sub). SendsOn s opens (nth no_session x.subs k) (nth no_session z k) []) (sym same) (sends-none s opens (nth no_session x.subs k)));
      }

  gives : (t : ℕ) (bound : Option (ℕ × ℕ)) (x : SourceState) → length x.subs ≡ length (source_readers plan u) → Sends x (source_gives plan u t bound x)
  gives t bound x many =
      let items = given_items x.emitted (source_given plan u t bound x) in
      record { many = length-counted items x.subs ∙ many; on = sends-given (source_readers plan u) a k s opens items x.subs (readers-distinct plan (Source u)) many low }

  subscribed : (sender : ℕ) (asked : Subscribe) (o : Option ℕ) (x : SourceState) → place_of (λ b. sender == b) (source_readers plan u) ≡ o → (sender ≡ nth 0 (source_readers plan u) k → same_sess asked.sess s ≡ true → opens ≡ true) →
      length x.subs ≡ length (source_readers plan u) → Sends x (source_subscribed plan u asked o x)
  subscribed sender asked None x e told many = quiet x (record { after = x; sends = [] }) many refl tt
  subscribed sender asked (Some j) x e told many =
      elim (same-or j k) [
        | inl same ↦ subst (λ (z : ℕ). Sends x (source_subscribed plan u asked (Some z) x)) (sym same)
            (mine (subst (λ (z : ℕ). sender ≡ nth 0 (source_readers plan u) z) same (sym (place-nth sender (source_readers plan u) j e))))
        | inr other ↦ others other
      ]
    where
      mine : sender ≡ nth 0 (source_readers plan u) k → Sends x (source_subscribed plan u asked (Some k) x)
      mine it =
          let answer = answer_to (source_shown plan u x) (nth no_session x.subs k) asked in
          record {
            many = length-changed k (λ _. answer.after) x.subs ∙ many;
            on = subst (λ (z : Sub). SendsOn s opens (nth no_session x.subs k) z (indexes line (map (from a) (source_subscribed plan u asked (Some k) x).sends))) (sym (nth-here no_session k (λ _. answer.after) x.subs (omega (arith, many, low))))
                (subst (λ (z : List ℕ). SendsOn s opens (nth no_session x.subs k) answer.after z) (sym (answer-is answer.answer))
                (sends-answered s opens (source_shown plan u x) (nth no_session x.subs k) asked (told it)));
          }
        where
          answer-is : (o : Option Message) → indexes line (map (from a) (elim o as (λ _. List Mail) [ None ↦ [] | Some m ↦ mail (nth 0 (source_readers plan u) k) m ∷ [] ])) ≡ answer_index s o
          answer-is None = refl
          answer-is (Some m) = take-mine line a (mail (nth 0 (source_readers plan u) k) m) [] (both-of (a == a) (nth 0 (source_readers plan u) k == nth 0 (source_readers plan u) k) (eq-test a a refl) (eq-test (nth 0 (source_readers plan u) k) (nth 0 (source_readers plan u) k) refl))

      others : (j ≡ k → ⊥) → Sends x (source_subscribed plan u asked (Some j) x)
      others other =
          let answer = answer_to (source_shown plan u x) (nth no_session x.subs j) asked in
          record {
            many = length-changed j (λ _. answer.after) x.subs ∙ many;
            on = subst (λ (z : List ℕ). SendsOn s opens (nth no_session x.subs k) (nth no_session (changed j (λ _. answer.after) x.subs) k) z) (sym (answer-is answer.answer))
                (elim (nth-changed no_session j (λ (_ : Sub). answer.after) x.subs k) [
                  | inl still ↦ subst (λ (z : Sub). SendsOn s opens (nth no_session x.subs k) z []) (sym still) (sends-none s opens (nth no_session x.subs k))
                  | inr here ↦ absurd (other (sym here.0))
                ]);
          }
        where
          apart : (nth 0 (source_readers plan u) j == nth 0 (source_readers plan u) k) ≡ false
          apart = apart-test (nth 0 (source_readers plan u) j) (nth 0 (source_readers plan u) k)
              (λ d. other (readers-distinct plan (Source u) j k (place-within (λ b. sender == b) (source_readers plan u) j e) low (sym d)))

          answer-is : (o : Option Message) → indexes line (map (from a) (elim o as (λ _. List Mail) [ None ↦ [] | Some m ↦ mail (nth 0 (source_readers plan u) j) m ∷ [] ])) ≡ []
          answer-is None = refl
          answer-is (Some m) = skip-other line a (mail (nth 0 (source_readers plan u) j) m) [] (and-false (a == a) (nth 0 (source_readers plan u) j == nth 0 (source_readers plan u) k) apart)

  pub delivered-on : (sender : ℕ) (packet : Packet) (x : SourceState) → (sender ≡ nth 0 (source_readers plan u) k → subscribes_packet s packet ≡ true → opens ≡ true) → length x.subs ≡ length (source_readers plan u) →
      Sends x (source_packet_step plan u sender packet x)
  unfolding source_packet_step
  delivered-on sender (Plain (message.Subscribe asked)) x told many = subscribed sender asked (place_of (λ b. sender == b) (source_readers plan u)) x refl told many
  delivered-on sender (Plain (message.Batch v index items)) x told many = quiet x (record { after = x; sends = [] }) many refl tt
  delivered-on sender (Plain (message.Truncated v base)) x told many = quiet x (record { after = x; sends = [] }) many refl tt
  delivered-on sender (Plain (message.Beat b)) x told many = quiet x (record { after = x; sends = [] }) many refl tt
  delivered-on sender (Plain (message.Ack i n)) x told many = quiet x (record { after = x; sends = [] }) many refl tt
  delivered-on sender (Plain (message.Ask i n)) x told many = quiet x (record { after = x; sends = [] }) many refl tt
  delivered-on sender (Plain (message.Grant i n)) x told many = quiet x (record { after = x; sends = [] }) many refl tt
  delivered-on sender (Plain (message.SnapAsk i n)) x told many = quiet x (record { after = x; sends = [] }) many refl tt
  delivered-on sender (SnapFor i try snap) x told many = quiet x (record { after = x; sends = [] }) many refl tt

  beats-none : (ids : List ℕ) (subs : List Sub) → Each IsNoBatch (map (λ (y : ℕ × Sub). mail y.0 (source_beat (tally_of y.1))) (zip ids subs))
  beats-none [] [] = tt
  beats-none [] (sub ∷ subs) = tt
  beats-none (b ∷ ids) [] = tt
  beats-none (b ∷ ids) (sub ∷ subs) = (λ z. refl, beats-none ids subs)

  pub ticked-on : (now : ℕ) (x : SourceState) → length x.subs ≡ length (source_readers plan u) → Sends x (source_tick_step plan u now x)
  unfolding source_tick_step
  ticked-on now x many = quiet x (source_tick_step plan u now x) many refl (beats-none (source_readers plan u) x.subs)

  pub emits-on : (t : ℕ) (x : SourceState) → length x.subs ≡ length (source_readers plan u) → Sends x (source_emits plan u t x)
  unfolding source_emits
  emits-on t x many = gives t None x many

  pub releases-on : (t : ℕ) (x : SourceState) → length x.subs ≡ length (source_readers plan u) → Sends x (source_releases plan u t x)
  unfolding source_releases
  releases-on t x many = let k = gives t (cond (nat_lt x.bound t) (bound_at plan u t) None) (record x { bound = max x.bound t }) many in record { many = k.many; on = k.on }

-- ---- a source in a world

pub record SourceOrder (w : World) (a x u k i : ℕ) (s : Sess) (readers : ℕ) : Type 0 where
  pub many : ℕ
  pub order : indexes (record { sender = a; reader = x; sess = s }) w.envelopes ≡ range_with_len 0 many
  pub within : u < length w.sources
  pub few : length (source_at w u).subs ≡ readers
  pub there : SubHolds s i many 1 (nth no_session (source_at w u).subs k)

pub record IsSourceLine (plan : Plan) (a x u k readers : ℕ) : Type 0 where
  pub role : role_of plan a ≡ IsSource u
  pub reader : nth 0 (source_readers plan u) k ≡ x
  pub low : k < length (source_readers plan u)
  pub few : readers ≡ length (source_readers plan u)

source-still : (w next : World) (a x u k i : ℕ) (s : Sess) (readers : ℕ) → indexes (record { sender = a; reader = x; sess = s }) next.envelopes ≡ indexes (record { sender = a; reader = x; sess = s }) w.envelopes →
    u < length next.sources → source_at next u ≡ source_at w u → SourceOrder w a x u k i s readers → SourceOrder next a x u k i s readers
source-still w next a x u k i s readers sent within same h =
    record {
      many = h.many;
      order = sent ∙ h.order;
      within = within;
      few = ap (λ (z : SourceState). length z.subs) same ∙ h.few;
      there = subst (λ (z : SourceState). SubHolds s i h.many 1 (nth no_session z.subs k)) (sym same) h.there;
    }

more-none : (w : World) (a x y : ℕ) (s : Sess) (ms : List Mail) → (a ≡ y → ⊥) → indexes (record { sender = a; reader = x; sess = s }) (w.envelopes ++ map (from y) ms) ≡ indexes (record { sender = a; reader = x; sess = s }) w.envelopes
more-none w a x y s ms other =
    let l : Channel = record { sender = a; reader = x; sess = s } in
    indexes-append l w.envelopes (map (from y) ms) ∙ ap (λ (ns : List ℕ). indexes l w.envelopes ++ ns) (other-indexed l y ms (apart-test y a other)) ∙ append-nil (indexes l w.envelopes)

module _ (w : World) (a x u k i : ℕ) (s : Sess) (readers : ℕ) (line : IsSourceLine w.plan a x u k readers) (h : SourceOrder w a x u k i s readers) where
  abbrev at : Channel
  at = record { sender = a; reader = x; sess = s }

  abbrev IsNextSource : Event → World → Type 0
  IsNextSource e next = (subscribes at w e ≡ true → role_inc w a (role_of w.plan a) ≡ i) → SourceOrder next a x u k i s readers

  one-inc : role_inc w a (role_of w.plan a) ≡ 1
  one-inc = rw line.role refl

  full : length (source_at w u).subs ≡ length (source_readers w.plan u)
  full = h.few ∙ line.few

  own-source : (t : Stepped SourceState) (opens : Bool) → SourceSends (source_readers w.plan u) a k s opens (source_at w u) t → (opens ≡ true → 1 ≡ i) → SourceOrder (source_stepped a t w) a x u k i s readers
  own-source t opens sends told =
      let sent = indexes at (map (from a) t.sends) in
      let on = subst (λ (z : ℕ). SendsOn s opens (nth no_session (source_at w u).subs k) (nth no_session t.after.subs k) (indexes (record { sender = a; reader = z; sess = s }) (map (from a) t.sends))) line.reader sends.on in
      let number : u ≡ a = source-number w.plan a u line.role in
      let here : source_at (source_stepped a t w) u ≡ t.after = subst (λ (z : ℕ). nth no_source (changed z (λ _. t.after) w.sources) u ≡ t.after) number (nth-here no_source u (λ _. t.after) w.sources h.within) in
      let within : u < length (source_stepped a t w).sources = subst (λ (z : ℕ). u < z) (sym (length-changed a (λ (_ : SourceState). t.after) w.sources)) h.within in
      let few : length (source_at (source_stepped a t w) u).subs ≡ readers = ap (λ (z : SourceState). length z.subs) here ∙ sends.many ∙ sym line.few in
      elim (same-or 1 i) [
        | inl same ↦
            let p = on.counts h.many (h.there.0 same) in
            let zero_on : 0 + h.many ≡ h.many = omega arith in
            record {
              many = h.many + length sent;
              order = indexes-append at w.envelopes (map (from a) t.sends) ∙ ap (λ (ns : List ℕ). ns ++ sent) h.order ∙ ap (λ (ns : List ℕ). range_with_len 0 h.many ++ ns) (p.0 ∙ ap (λ (z : ℕ). range_with_len z (length sent)) (sym zero_on))
                  ∙ range-append 0 h.many (length sent);
              within = within;
              few = few;
              there = subst (λ (z : SourceState). SubHolds s i (h.many + length sent) 1 (nth no_session z.subs k)) (sym here) (λ e. p.1, λ e. absurd (e same));
            }
        | inr other ↦
            let calm : opens ≡ false = not-open opens refl other in
            let q = on.quiet calm (h.there.1 other) in
            record {
              many = h.many;
              order = indexes-append at w.envelopes (map (from a) t.sends) ∙ ap (λ (ns : List ℕ). indexes at w.envelopes ++ ns) q.0 ∙ append-nil (indexes at w.envelopes) ∙ h.order;
              within = within;
              few = few;
              there = subst (λ (z : SourceState). SubHolds s i h.many 1 (nth no_session z.subs k)) (sym here) (λ e. absurd (other e), λ e. q.1);
            }
      ]
    where
      not-open : (b : Bool) → opens ≡ b → (1 ≡ i → ⊥) → opens ≡ false
      not-open false e other = e
      not-open true e other = absurd (other (told e))

  -- a step of any source
  any-source : (y v : ℕ) (t : Stepped SourceState) → role_of w.plan y ≡ IsSource v → (a ≡ y → SourceOrder (source_stepped a t w) a x u k i s readers) → SourceOrder (source_stepped y t w) a x u k i s readers
  any-source y v t role own =
      elim (same-or a y) [
        | inl same ↦ subst (λ (z : ℕ). SourceOrder (source_stepped z t w) a x u k i s readers) same (own same)
        | inr other ↦
            source-still w (source_stepped y t w) a x u k i s readers (more-none w a x y s t.sends other) (subst (λ (z : ℕ). u < z) (sym (length-changed y (λ (_ : SourceState). t.after) w.sources)) h.within)
            (elim (nth-changed no_source y (λ (_ : SourceState). t.after) w.sources u) [
              | inl still ↦ still
              | inr here ↦ absurd (other (sym (source-number w.plan a u line.role) ∙ here.0))
            ]) h
      ]

  number-same : (y v : ℕ) → role_of w.plan y ≡ IsSource v → a ≡ y → u ≡ v
  number-same y v role same = source-number w.plan a u line.role ∙ same ∙ sym (source-number w.plan y v role)

  source-cases : AreCases w IsNextSource
  source-cases =
      record {
        still = λ e told. h;
        wires = λ e cuts told. source-still w (record w { cuts = cuts }) a x u k i s readers refl h.within refl h;
        emitted = λ y v t role told. any-source y v (source_emits w.plan v t (source_at w v)) role (λ same.
            subst (λ (z : ℕ). SourceOrder (source_stepped a (source_emits w.plan z t (source_at w z)) w) a x u k i s readers) (number-same y v role same)
            (own-source (source_emits w.plan u t (source_at w u)) false (emits-on w.plan u a k s false line.low t (source_at w u) full) (λ e. cc)));
        released = λ y v t role told. any-source y v (source_releases w.plan v t (source_at w v)) role (λ same.
            subst (λ (z : ℕ). SourceOrder (source_stepped a (source_releases w.plan z t (source_at w z)) w) a x u k i s readers) (number-same y v role same)
            (own-source (source_releases w.plan u t (source_at w u)) false (releases-on w.plan u a k s false line.low t (source_at w u) full) (λ e. cc)));
        source_took = λ j v e there can role told. any-source e.to v (source_packet_step w.plan v e.sender e.packet (source_at w v)) role (λ same.
            subst (λ (z : ℕ). SourceOrder (source_stepped a (source_packet_step w.plan z e.sender e.packet (source_at w z)) w) a x u k i s readers) (number-same e.to v role same)
            (own-source (source_packet_step w.plan u e.sender e.packet (source_at w u)) (envelope_subscribes at w (slice_get w.envelopes j))
            (delivered-on w.plan u a k s (envelope_subscribes at w (slice_get w.envelopes j)) line.low e.sender e.packet (source_at w u) (λ it packet. opened j e there can same it packet) full) (λ o. sym one-inc ∙ told o)));
        source_ticks = λ y v now role told. any-source y v (source_tick_step w.plan v now (source_at w v)) role (λ same.
            subst (λ (z : ℕ). SourceOrder (source_stepped a (source_tick_step w.plan z now (source_at w z)) w) a x u k i s readers) (number-same y v role same)
            (own-source (source_tick_step w.plan u now (source_at w u)) false (ticked-on w.plan u a k s false line.low now (source_at w u) full) (λ e. cc)));
        crashed = λ y p q role told. source-still w _ a x u k i s readers refl h.within refl h;
        restarted = λ y j p q role told. source-still w _ a x u k i s readers refl h.within refl h;
        node_took = λ j p q e n there can role up told. source-still w _ a x u k i s readers (more-none w a x e.to s _ (not-node e.to p q role)) h.within refl h;
        node_ticked = λ y now p q n role up clock told. source-still w _ a x u k i s readers (more-none w a x y s _ (not-node y p q role)) h.within refl h;
        node_milled = λ y m p q n role up can told. source-still w _ a x u k i s readers (more-none w a x y s _ (not-node y p q role)) h.within refl h;
        client_took = λ j c e there can role told. source-still w _ a x u k i s readers refl h.within refl h;
        client_ticks = λ y c now role told. source-still w _ a x u k i s readers (more-none w a x y s _ (not-client y c role)) h.within refl h;
      }
    where
      not-node : (y p q : ℕ) → role_of w.plan y ≡ IsNode p q → a ≡ y → ⊥
      not-node y p q role same = let clash : IsSource u ≡ IsNode p q = sym line.role ∙ ap (λ (z : ℕ). role_of w.plan z) same ∙ role in cc

      not-client : (y c : ℕ) → role_of w.plan y ≡ IsClient c → a ≡ y → ⊥
      not-client y c role same = let clash : IsSource u ≡ IsClient c = sym line.role ∙ ap (λ (z : ℕ). role_of w.plan z) same ∙ role in cc

      opened : (j : ℕ) (e : Envelope) → slice_get w.envelopes j ≡ Some e → can_come w e ≡ true → a ≡ e.to → e.sender ≡ nth 0 (source_readers w.plan u) k → subscribes_packet s e.packet ≡ true → envelope_subscribes at w (slice_get w.envelopes j) ≡ true
      opened j e there can same it packet =
          let one = eq-test e.sender x (it ∙ line.reader) in
          let two = eq-test e.to a (sym same) in
          ap (λ (o : Option Envelope). envelope_subscribes at w o) there
          ∙ both-of (e.sender == x && e.to == a && subscribes_packet s e.packet) (can_come w e) (both-of (e.sender == x && e.to == a) (subscribes_packet s e.packet) (both-of (e.sender == x) (e.to == a) one two) packet) can

  event-source : (e : Event) → (subscribes at w e ≡ true → role_inc w a (role_of w.plan a) ≡ i) → SourceOrder (happens w e) a x u k i s readers
  event-source e told = by-event w IsNextSource source-cases e told

pub source-run : (w : World) (events : List Event) (a x u k i : ℕ) (s : Sess) (readers : ℕ) → IsSourceLine w.plan a x u k readers → SourceOrder w a x u k i s readers →
    EachStep (λ w e. subscribes (record { sender = a; reader = x; sess = s }) w e ≡ true → role_inc w a (role_of w.plan a) ≡ i) w events → SourceOrder (run_from w events) a x u k i s readers
source-run w [] a x u k i s readers placed h told = h
source-run w (e ∷ events) a x u k i s readers placed h told =
    source-run (happens w e) events a x u k i s readers (subst (λ (p : Plan). IsSourceLine p a x u k readers) (sym (event-grows w e).plan) placed) (event-source w a x u k i s readers placed h e told.0) told.1
