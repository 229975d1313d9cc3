-- What a source does with a packet for one of its readers, and the beat that it sends it.
use Rattle.std.proofs.Common.{◌≡◌, ◌≢◌, ℕ, zero, suc, ◌<◌, true, false, cond, not, ◌==◌, List, [], ◌∷◌, map, length, refl, sym, ap, subst, ◌∙◌, arith, Some, None, ◌⊎◌, inl, inr}
use Rattle.std.specs.Prelude.{zip}
use Rattle.dpc_lists.specs.Lists.{nth, changed, place_of}
use Rattle.dpc_model.specs.Sessions.{no_session, is_newer_than_kept, answer_to, Answered, Shown, first_batch, tally_of}
use Rattle.dpc_model.specs.declared.sessions.Sub.{Sub}
use Rattle.dpc_model.specs.declared.messages.Subscribe.{Subscribe}
use Rattle.dpc_model.specs.declared.messages.Sess.{Sess}
use Rattle.dpc_model.specs.declared.tuples.Item.{Item}
use Rattle.dpc_model.specs.declared.messages.Message.{Message}
use Rattle.dpc_model.specs.declared.messages.Message.TheVariants as message
use Rattle.dpc_model.specs.declared.plans.Plan.{Plan}
use Rattle.dpc_lists.proofs.Truths.{never-below}
use Rattle.dpc_lists.proofs.Somes.{none-some, some-same}
use Rattle.dpc_lists.proofs.Elements.{nth-here}
use Rattle.dpc_lists.proofs.Places.{place-nth}
use Rattle.node_model.specs.Mails.{Mail, mail, Packet, Plain, SnapFor, Stepped}
use Rattle.node_model.specs.Sources.{SourceState, source_readers, source_shown, source_subscribed, source_message, source_packet_step, source_beat, source_tick_step}
use Rattle.dpc_lists.proofs.Each.{Each}
use Rattle.law_settling.proofs.Exact.{IsIn, same-or}

pub nth-there : {X : Type 0} (d : X) (i j : ℕ) (f : X → X) (xs : List X) → i ≢ j → nth d (changed i f xs) j ≡ nth d xs j
nth-there d i j f [] l = refl
nth-there d zero zero f (x ∷ xs) l = absurd (l refl)
nth-there d zero (suc j) f (x ∷ xs) l = refl
nth-there d (suc i) zero f (x ∷ xs) l = refl
nth-there d (suc i) (suc j) f (x ∷ xs) l = nth-there d i j f xs (λ e. l (ap suc e))

-- a session that was just answered
abbrev pub opened_sub : Subscribe → Sub
opened_sub v = record { kept = Some v.sess; is_open = true; batches = 1 }

-- what it does for reader k, which is actor b
pub data Did (plan : Plan) (s b k z : ℕ) (packet : Packet) (y : SourceState) (t : Stepped SourceState) : Type 0 where
  Left : nth no_session t.after.subs k ≡ nth no_session y.subs k → t.after.emitted ≡ y.emitted → t.after.bound ≡ y.bound → Each (λ (m : Mail). m.to ≢ b) t.sends →
      ((v : Subscribe) → packet ≡ Plain (message.Subscribe v) → z ≡ b → is_newer_than_kept v.sess (nth no_session y.subs k).kept ≡ true → ⊥) → Did plan s b k z packet y t
  Answers : (v : Subscribe) → packet ≡ Plain (message.Subscribe v) → z ≡ b → is_newer_than_kept v.sess (nth no_session y.subs k).kept ≡ true →
      nth no_session t.after.subs k ≡ opened_sub v → t.after.emitted ≡ y.emitted → t.after.bound ≡ y.bound →
      t.sends ≡ mail b (message.Batch v.sess 0 (first_batch (source_shown plan s y) v)) ∷ [] → Did plan s b k z packet y t

abbrev NotAsked : ℕ → ℕ → ℕ → Packet → SourceState → Type 0
NotAsked b k z packet y = (v : Subscribe) → packet ≡ Plain (message.Subscribe v) → z ≡ b → is_newer_than_kept v.sess (nth no_session y.subs k).kept ≡ true → ⊥

silent : (plan : Plan) (s b k z : ℕ) (packet : Packet) (y : SourceState) → NotAsked b k z packet y → Did plan s b k z packet y (record { after = y; sends = [] })
silent plan s b k z packet y none = Left refl refl refl tt none

-- a source with an answer to reader i
abbrev answer_step : Plan → ℕ → ℕ → SourceState → Answered → Stepped SourceState
answer_step plan s i y a =
    record { after = record y { subs = changed i (λ _. a.after) y.subs }; sends = elim a.answer [ None ↦ [] | Some m ↦ mail (nth 0 (source_readers plan s) i) m ∷ [] ] }

abbrev opened_by : Shown → Subscribe → Answered
opened_by shown v = record { after = opened_sub v; answer = Some (message.Batch v.sess 0 (first_batch shown v)) }

answered-is : (plan : Plan) (s : ℕ) (y : SourceState) (old : Sub) (v : Subscribe) → answer_to (source_shown plan s y) old v ≡ cond (is_newer_than_kept v.sess old.kept) (opened_by (source_shown plan s y) v) (record { after = old; answer = None })
answered-is plan s y old v =
    let never = never-below v.n in
    rw never (elim (is_newer_than_kept v.sess old.kept) as (λ d. cond (not d) (record { after = old; answer = None }) (opened_by (source_shown plan s y) v) ≡ cond d (opened_by (source_shown plan s y) v) (record { after = old; answer = None })) [ true ↦ refl | false ↦ refl ])

-- an answer, to whoever asked
subscribed-did : (plan : Plan) (s b k i z : ℕ) (v : Subscribe) (y : SourceState) → place_of (λ a. b == a) (source_readers plan s) ≡ Some k → k < length y.subs →
    place_of (λ a. z == a) (source_readers plan s) ≡ Some i → Did plan s b k z (Plain (message.Subscribe v)) y (source_subscribed plan s v (Some i) y)
subscribed-did plan s b k i z v y place few at =
    let old = nth no_session y.subs i in
    let packet = Plain (message.Subscribe v) in
    subst (λ (a : Answered). Did plan s b k z packet y (answer_step plan s i y a)) (sym (answered-is plan s y old v))
    ((elim (is_newer_than_kept v.sess old.kept) as (λ d. is_newer_than_kept v.sess old.kept ≡ d → Did plan s b k z packet y (answer_step plan s i y (cond d (opened_by (source_shown plan s y) v) (record { after = old; answer = None })))) [
      | false ↦ λ e. Left (unchanged (same-or i k)) refl refl tt (λ u p who newer. older e u p who newer)
      | true ↦ λ e. newly e (same-or i k)
    ]) refl)
  where
    unchanged : (i ≡ k) ⊎ (i ≢ k) → nth no_session (changed i (λ _. nth no_session y.subs i) y.subs) k ≡ nth no_session y.subs k
    unchanged (inl same) = rw same (nth-here no_session k (λ _. nth no_session y.subs k) y.subs few)
    unchanged (inr apart) = nth-there no_session i k (λ _. nth no_session y.subs i) y.subs apart

    older : is_newer_than_kept v.sess (nth no_session y.subs i).kept ≡ false → NotAsked b k z (Plain (message.Subscribe v)) y
    older e u p who newer =
        let same : v ≡ u = cc in
        let here : i ≡ k = some-same i k (sym at ∙ ap (λ (a : ℕ). place_of (λ x. a == x) (source_readers plan s)) who ∙ place) in
        let no : false ≡ true = sym e ∙ ap (λ (j : ℕ). is_newer_than_kept v.sess (nth no_session y.subs j).kept) here ∙ ap (λ (a : Subscribe). is_newer_than_kept a.sess (nth no_session y.subs k).kept) same ∙ newer in
        cc

    newly : is_newer_than_kept v.sess (nth no_session y.subs i).kept ≡ true → (i ≡ k) ⊎ (i ≢ k) → Did plan s b k z (Plain (message.Subscribe v)) y (answer_step plan s i y (opened_by (source_shown plan s y) v))
    newly e (inl same) =
        let from : z ≡ b = sym (place-nth z (source_readers plan s) i at) ∙ ap (λ (j : ℕ). nth 0 (source_readers plan s) j) same ∙ place-nth b (source_readers plan s) k place in
        let to : nth 0 (source_readers plan s) i ≡ b = place-nth z (source_readers plan s) i at ∙ from in
        let here : nth no_session (changed i (λ _. (opened_by (source_shown plan s y) v).after) y.subs) k ≡ (opened_by (source_shown plan s y) v).after =
        rw same (nth-here no_session k (λ _. (opened_by (source_shown plan s y) v).after) y.subs few) in
        Answers v refl from (rw (← same) e) here refl refl
        (ap (λ (a : ℕ). mail a (message.Batch v.sess 0 (first_batch (source_shown plan s y) v)) ∷ []) to)
    newly e (inr apart) =
        Left (nth-there no_session i k (λ _. (opened_by (source_shown plan s y) v).after) y.subs apart) refl refl (
          (λ (to : nth 0 (source_readers plan s) i ≡ b).
              let from : z ≡ b = sym (place-nth z (source_readers plan s) i at) ∙ to in
              apart (some-same i k (sym at ∙ ap (λ (a : ℕ). place_of (λ x. a == x) (source_readers plan s)) from ∙ place))),
          tt,
        )
        (λ u p who f. apart (some-same i k (sym at ∙ ap (λ (a : ℕ). place_of (λ x. a == x) (source_readers plan s)) who ∙ place)))

message-did : (plan : Plan) (s b k z : ℕ) (m : Message) (y : SourceState) → place_of (λ a. b == a) (source_readers plan s) ≡ Some k → k < length y.subs → Did plan s b k z (Plain m) y (source_message plan s z m y)
message-did plan s b k z (message.Subscribe v) y place few =
    (elim (place_of (λ a. z == a) (source_readers plan s)) as (λ o. place_of (λ a. z == a) (source_readers plan s) ≡ o → Did plan s b k z (Plain (message.Subscribe v)) y (source_subscribed plan s v o y)) [
      | None ↦ λ e. silent plan s b k z (Plain (message.Subscribe v)) y (λ u p who newer. none-some (sym e ∙ ap (λ (a : ℕ). place_of (λ x. a == x) (source_readers plan s)) who ∙ place))
      | Some i ↦ λ e. subscribed-did plan s b k i z v y place few e
    ]) refl
message-did plan s b k z (message.Batch v i items) y place few = silent plan s b k z (Plain (message.Batch v i items)) y (λ u p who newer. cc)
message-did plan s b k z (message.Truncated v base) y place few = silent plan s b k z (Plain (message.Truncated v base)) y (λ u p who newer. cc)
message-did plan s b k z (message.Beat bt) y place few = silent plan s b k z (Plain (message.Beat bt)) y (λ u p who newer. cc)
message-did plan s b k z (message.Ack i n) y place few = silent plan s b k z (Plain (message.Ack i n)) y (λ u p who newer. cc)
message-did plan s b k z (message.Ask i n) y place few = silent plan s b k z (Plain (message.Ask i n)) y (λ u p who newer. cc)
message-did plan s b k z (message.Grant i n) y place few = silent plan s b k z (Plain (message.Grant i n)) y (λ u p who newer. cc)
message-did plan s b k z (message.SnapAsk i n) y place few = silent plan s b k z (Plain (message.SnapAsk i n)) y (λ u p who newer. cc)

pub source-did : (plan : Plan) (s b k z : ℕ) (packet : Packet) (y : SourceState) → place_of (λ a. b == a) (source_readers plan s) ≡ Some k → k < length y.subs → Did plan s b k z packet y (source_packet_step plan s z packet y)
unfolding source_packet_step
source-did plan s b k z (Plain m) y place few = message-did plan s b k z m y place few
source-did plan s b k z (SnapFor i try snap) y place few = silent plan s b k z (SnapFor i try snap) y (λ u p who newer. cc)

-- ---- a tick

-- it tells each reader its session
pub beat-sent : (plan : Plan) (s now k b : ℕ) (y : SourceState) → nth 0 (source_readers plan s) k ≡ b → k < length (source_readers plan s) → k < length y.subs → IsIn (mail b (source_beat (tally_of (nth no_session y.subs k)))) (source_tick_step plan s now y).sends
unfolding source_tick_step
beat-sent plan s now k b y back few many = subst (λ (z : ℕ). IsIn (mail z (source_beat (tally_of (nth no_session y.subs k)))) (map (λ (x : ℕ × Sub). mail x.0 (source_beat (tally_of x.1))) (zip (source_readers plan s) y.subs))) back (zipped (source_readers plan s) y.subs k few many)
  where
    zipped : (readers : List ℕ) (subs : List Sub) (i : ℕ) → i < length readers → i < length subs →
        IsIn (mail (nth 0 readers i) (source_beat (tally_of (nth no_session subs i)))) (map (λ (x : ℕ × Sub). mail x.0 (source_beat (tally_of x.1))) (zip readers subs))
    zipped [] subs i l m = absurd (omega (arith, l))
    zipped (r ∷ readers) [] i l m = absurd (omega (arith, m))
    zipped (r ∷ readers) (sub ∷ subs) zero l m = inl refl
    zipped (r ∷ readers) (sub ∷ subs) (suc i) l m = inr (zipped readers subs i (omega (arith, l)) (omega (arith, m)))

-- a mail that is no batch
abbrev pub NoBatchMail : Mail → Type 0
NoBatchMail m = (u : Sess) (i : ℕ) (items : List Item) → m.packet ≡ Plain (message.Batch u i items) → ⊥

pub tick-subs : (plan : Plan) (s now : ℕ) (y : SourceState) → (source_tick_step plan s now y).after.subs ≡ y.subs
unfolding source_tick_step
tick-subs plan s now y = refl

pub tick-beats : (plan : Plan) (s now : ℕ) (y : SourceState) → Each NoBatchMail (source_tick_step plan s now y).sends
unfolding source_tick_step
tick-beats plan s now y = beats (zip (source_readers plan s) y.subs)
  where
    beats : (xs : List (ℕ × Sub)) → Each NoBatchMail (map (λ (x : ℕ × Sub). mail x.0 (source_beat (tally_of x.1))) xs)
    beats [] = tt
    beats (x ∷ xs) = ((λ u i items e. cc), beats xs)
