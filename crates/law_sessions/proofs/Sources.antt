-- What each step of a source leaves of its readers' sessions.
use Rattle.std.proofs.Common.{◌≡◌, ℕ, zero, suc, ◌≤◌, max, Bool, true, false, cond, ◌==◌, nat_lt, List, [], ◌∷◌, ◌++◌, length, take, drop, refl, sym, ap, subst, ◌∙◌, arith, Option, Some, None, inl, ◌+◌, ◌<◌, ◌&&◌, nat_le}
use Rattle.std.specs.Prelude.{zip}
use Rattle.std.proofs.lemmas.Grind.{common_steps}
use Rattle.std.proofs.lemmas.List.{length-take-le}
use Rattle.dpc_lists.specs.Lists.{nth, list_all, changed, place_of, IsPrefixOf}
use Rattle.dpc_model.specs.Streams.{count_below}
use Rattle.dpc_model.specs.Fragments.{log_of, ideal}
use Rattle.dpc_model.specs.Sessions.{no_session, tally_of, answer_to, given_items}
use Rattle.dpc_model.specs.declared.sessions.Sub.{Sub}
use Rattle.dpc_model.specs.declared.tuples.Tuple.{Tuple}
use Rattle.dpc_model.specs.declared.tuples.Item.{Item}
use Rattle.dpc_model.specs.declared.messages.Sess.{Sess}
use Rattle.dpc_model.specs.declared.messages.Subscribe.{Subscribe}
use Rattle.dpc_model.specs.declared.messages.Message.{Message}
use Rattle.dpc_model.specs.declared.messages.Message.TheVariants as message
use Rattle.dpc_model.specs.declared.plans.Plan.{Plan}
use Rattle.dpc_model.specs.declared.plans.StreamRef.TheVariants.{Source}
use Rattle.node_model.specs.Mails.{Packet, Plain, SnapFor, mail, Stepped}
use Rattle.node_model.specs.Sources.{SourceState, source_readers, bound_at, source_shown, emitted_upto, source_given, source_gives, source_emits, source_releases, source_subscribed, source_message, source_packet_step, source_beat, source_tick_step}
use Rattle.world_model.specs.Worlds.{Envelope, World, source_at, no_source}
use Rattle.world_model.specs.SessionLaw.{bound_of}
use Rattle.law_safety.specs.Plans.{IsChecked}
use Rattle.dpc_lists.proofs.Truths.{lt-of, eq-of, all-map, both}
use Rattle.dpc_lists.proofs.Places.{place-within, place-nth}
use Rattle.dpc_lists.proofs.Elements.{get-there}
use Rattle.world_model.specs.Orderly.{is_source_orderly}
use Rattle.law_safety.proofs.Sourcing.{IsFineSource, ideal-log, count-few}
use Rattle.law_safety.proofs.Views.{IsView, IsViewStep, IsBoundStep, given-law}
use Rattle.law_safety.proofs.Distinct.{readers-distinct}
use Rattle.law_safety.proofs.Worlding.{sources-at}
use Rattle.law_safety.proofs.Happening.{IsFine}
use Rattle.law_sessions.proofs.Keeping.{HeldBy, Keeps, mailed, is_bare, keeps-same, keeps-gave}
use Rattle.law_sessions.proofs.Asking.{opens, asked-held}

-- a step of a source leaves what is held
abbrev pub SourceGoes : Plan → ℕ → ℕ → SourceState → Stepped SourceState → Type 0
SourceGoes plan a s x t = Keeps plan (Source s) a (source_readers plan s) (source_shown plan s x) x.subs (source_shown plan s t.after) t.after.subs t.sends

abbrev pub SourceTakes : Plan → ℕ → ℕ → Envelope → SourceState → Stepped SourceState → Type 0
SourceTakes plan a s e x t =
    (h : ℕ → Sess → List Item) (q : ℕ → Sess → Subscribe) → HeldBy plan (Source s) (source_shown plan s x) h q x.subs →
    HeldBy plan (Source s) (source_shown plan s t.after) (λ k u. h k u ++ mailed a (source_readers plan s) t.sends k u) (opens a (source_readers plan s) t.sends e q) t.after.subs

-- ---- what a source shows

take-drop : (m : ℕ) (xs : List Tuple) → xs ≡ take m xs ++ drop m xs
take-drop zero xs = refl
take-drop (suc m) [] = refl
take-drop (suc m) (x ∷ xs) = ap (λ (ys : List Tuple). x ∷ ys) (take-drop m xs)

take-more : (k m : ℕ) (xs : List Tuple) → k ≤ m → take m xs ≡ take k xs ++ drop k (take m xs)
take-more zero m xs low = refl
take-more (suc k) zero xs low = absurd (omega (arith, low))
take-more (suc k) (suc m) [] low = refl
take-more (suc k) (suc m) (x ∷ xs) low = ap (λ (ys : List Tuple). x ∷ ys) (take-more k m xs (omega (arith, low)))

log-beginning : (plan : Plan) (s m : ℕ) → IsChecked plan → IsPrefixOf (take m (log_of plan s)) (ideal plan (Source s))
log-beginning plan s m checked = rw (ideal-log plan s checked) (drop m (log_of plan s), take-drop m (log_of plan s))

pub bound-is : (plan : Plan) (s b : ℕ) → bound_of (bound_at plan s b) ≡ b
bound-is plan s b =
    (elim (b == 0) as (λ c. (b == 0) ≡ c → bound_of (cond c None (Some (b, count_below (log_of plan s) b))) ≡ b) [
      | true ↦ λ e. let none = eq-of b 0 e in omega (arith, none)
      | false ↦ λ e. refl
    ]) refl

pub source-view : (plan : Plan) (s : ℕ) (x : SourceState) → IsChecked plan → IsFineSource plan s x → IsView plan (Source s) (source_shown plan s x)
source-view plan s x checked h =
    record {
      beginning = log-beginning plan s x.emitted checked;
      bound = λ b e. by-zero (x.bound == 0) b e;
      stable = λ e. (refl, refl);
    }
  where
    by-zero : (c : Bool) (b : ℕ × ℕ) → cond c None (Some (x.bound, count_below (log_of plan s) x.bound)) ≡ Some b → b.1 ≤ length (take x.emitted (log_of plan s))
    by-zero true b e = cc
    by-zero false b e =
        let same : ◌≡◌ {A = ℕ × ℕ} (x.bound, count_below (log_of plan s) x.bound) b = cc in
        let count = ap (λ (y : ℕ × ℕ). y.1) same in
        let long = length-take-le x.emitted (log_of plan s) h.few in
        let below = h.below in omega (arith, count, long, below)

-- ---- emit and release

-- the view of a source that emitted up to a time, with another bound
gives-view : (plan : Plan) (s t b : ℕ) (o : Option (ℕ × ℕ)) (x : SourceState) (subs : List Sub) → IsChecked plan →
    IsBoundStep (source_shown plan s x) (source_shown plan s (record x { emitted = emitted_upto plan s t x; bound = b; subs = subs })) o →
    IsViewStep plan (Source s) (source_shown plan s x) (source_shown plan s (record x { emitted = emitted_upto plan s t x; bound = b; subs = subs })) (source_given plan s t o x)
gives-view plan s t b o x subs checked bound =
    record {
      stable = take-more x.emitted (emitted_upto plan s t x) (log_of plan s) (omega arith);
      beginning = log-beginning plan s (emitted_upto plan s t x) checked;
      bound = bound;
      clear = inl (refl, refl);
      tentative = refl;
      passed = refl;
      done = λ e. cc;
    }

gives-goes : (plan : Plan) (a s t b : ℕ) (o : Option (ℕ × ℕ)) (x : SourceState) → IsChecked plan → IsFineSource plan s x →
    IsBoundStep (source_shown plan s x) (source_shown plan s (record x { emitted = emitted_upto plan s t x; bound = b })) o →
    SourceGoes plan a s x (source_gives plan s t o (record x { bound = b }))
gives-goes plan a s t b o x checked h bound =
    let items = given_items x.emitted (source_given plan s t o x) in
    let y = source_shown plan s (record x { emitted = emitted_upto plan s t x; bound = b }) in
    let long = length-take-le x.emitted (log_of plan s) h.few in
    keeps-gave plan (Source s) a (source_readers plan s) (source_shown plan s x) y x.subs items (readers-distinct plan (Source s)) h.subs
    (λ asked before law. let more = given-law plan (Source s) asked (source_shown plan s x) y (source_given plan s t o x) before (gives-view plan s t b o x x.subs checked bound) law in rw long at more)

pub emits-goes : (plan : Plan) (a s t : ℕ) (x : SourceState) → IsChecked plan → IsFineSource plan s x → SourceGoes plan a s x (source_emits plan s t x)
unfolding source_emits
emits-goes plan a s t x checked h = gives-goes plan a s t x.bound None x checked h refl

pub releases-goes : (plan : Plan) (a s t : ℕ) (x : SourceState) → IsChecked plan → 1 ≤ t → IsFineSource plan s x → SourceGoes plan a s x (source_releases plan s t x)
unfolding source_releases
releases-goes plan a s t x checked some h =
    (elim (nat_lt x.bound t) as (λ c. nat_lt x.bound t ≡ c → SourceGoes plan a s x (source_gives plan s t (cond c (bound_at plan s t) None) (record x { bound = max x.bound t }))) [
      | true ↦ λ e. gives-goes plan a s t (max x.bound t) (bound_at plan s t) x checked h (risen e)
      | false ↦ λ e. gives-goes plan a s t (max x.bound t) None x checked h (still e)
    ]) refl
  where
    risen : nat_lt x.bound t ≡ true → IsBoundStep (source_shown plan s x) (source_shown plan s (record x { emitted = emitted_upto plan s t x; bound = max x.bound t })) (bound_at plan s t)
    risen e =
        let less = lt-of x.bound t e in
        let top : max x.bound t ≡ t = omega (arith, less) in
        let not_zero : (t == 0) ≡ false = grind (arith, common_steps) in
        let old = bound-is plan s x.bound in
        let new = bound-is plan s (max x.bound t) in
        let counted = count-long in
        subst (λ (c : Bool). IsBoundStep (source_shown plan s x) (source_shown plan s (record x { emitted = emitted_upto plan s t x; bound = max x.bound t })) (cond c None (Some (t, count_below (log_of plan s) t)))) (sym not_zero)
        (new ∙ top, omega (arith, old, less), counted)
      where
        count-long : count_below (log_of plan s) t ≤ length (take (emitted_upto plan s t x) (log_of plan s))
        count-long =
            let most = count-few plan s t in
            let few = h.few in
            let long = length-take-le (emitted_upto plan s t x) (log_of plan s) (omega (arith, most, few)) in omega (arith, long)

    still : nat_lt x.bound t ≡ false → IsBoundStep (source_shown plan s x) (source_shown plan s (record x { emitted = emitted_upto plan s t x; bound = max x.bound t })) None
    still e =
        let more : t ≤ x.bound = grind (arith, common_steps) in
        let top : max x.bound t ≡ x.bound = omega (arith, more) in
        bound-is plan s (max x.bound t) ∙ top ∙ sym (bound-is plan s x.bound)

-- ---- packets and ticks

silent-goes : (plan : Plan) (a s : ℕ) (x : SourceState) → SourceGoes plan a s x (record { after = x; sends = [] })
silent-goes plan a s x = keeps-same plan (Source s) a (source_readers plan s) (source_shown plan s x) (source_shown plan s x) x.subs x.subs [] (record { stable = refl; bound = refl; tentative = refl; passed = refl }) refl refl

silent-takes : (plan : Plan) (a s : ℕ) (e : Envelope) (x : SourceState) → SourceTakes plan a s e x (record { after = x; sends = [] })
silent-takes plan a s e x h q held = silent-goes plan a s x h q held

subscribed-takes : (plan : Plan) (a s sender : ℕ) (asked : Subscribe) (o : Option ℕ) (x : SourceState) → IsChecked plan → IsFineSource plan s x → place_of (λ b. sender == b) (source_readers plan s) ≡ o →
    SourceTakes plan a s (record { sender = sender; to = a; packet = Plain (message.Subscribe asked) }) x (source_subscribed plan s asked o x)
subscribed-takes plan a s sender asked None x checked fine f h q held = silent-goes plan a s x h q held
subscribed-takes plan a s sender asked (Some k) x checked fine f h q held =
    let readers = source_readers plan s in
    let t = answer_to (source_shown plan s x) (nth no_session x.subs k) asked in
    let subs = changed k (λ _. t.after) x.subs in
    let low = place-within (λ b. sender == b) readers k f in
    let here : nth 0 readers k ≡ sender = place-nth sender readers k f in
    let taken = asked-held plan (Source s) a readers (source_shown plan s x) asked k no_session x.subs h q (readers-distinct plan (Source s)) fine.subs low (source-view plan s x checked fine) held in
    subst (λ (b : ℕ). HeldBy plan (Source s) (source_shown plan s x) (λ j u. h j u ++ mailed a readers (source_subscribed plan s asked (Some k) x).sends j u) (opens a readers (source_subscribed plan s asked (Some k) x).sends (record { sender = b; to = a; packet = Plain (message.Subscribe asked) }) q) subs) here taken

message-takes : (plan : Plan) (a s sender : ℕ) (m : Message) (x : SourceState) → IsChecked plan → IsFineSource plan s x → SourceTakes plan a s (record { sender = sender; to = a; packet = Plain m }) x (source_message plan s sender m x)
message-takes plan a s sender (message.Subscribe asked) x checked fine = subscribed-takes plan a s sender asked (place_of (λ b. sender == b) (source_readers plan s)) x checked fine refl
message-takes plan a s sender (message.Batch u index items) x checked fine = silent-takes plan a s (record { sender = sender; to = a; packet = Plain (message.Batch u index items) }) x
message-takes plan a s sender (message.Truncated u base) x checked fine = silent-takes plan a s (record { sender = sender; to = a; packet = Plain (message.Truncated u base) }) x
message-takes plan a s sender (message.Beat b) x checked fine = silent-takes plan a s (record { sender = sender; to = a; packet = Plain (message.Beat b) }) x
message-takes plan a s sender (message.Ack i n) x checked fine = silent-takes plan a s (record { sender = sender; to = a; packet = Plain (message.Ack i n) }) x
message-takes plan a s sender (message.Ask i n) x checked fine = silent-takes plan a s (record { sender = sender; to = a; packet = Plain (message.Ask i n) }) x
message-takes plan a s sender (message.Grant i n) x checked fine = silent-takes plan a s (record { sender = sender; to = a; packet = Plain (message.Grant i n) }) x
message-takes plan a s sender (message.SnapAsk i n) x checked fine = silent-takes plan a s (record { sender = sender; to = a; packet = Plain (message.SnapAsk i n) }) x

pub source_delivered-takes : (plan : Plan) (a s sender : ℕ) (packet : Packet) (x : SourceState) → IsChecked plan → IsFineSource plan s x → SourceTakes plan a s (record { sender = sender; to = a; packet = packet }) x (source_packet_step plan s sender packet x)
unfolding source_packet_step
source_delivered-takes plan a s sender (Plain m) x checked fine = message-takes plan a s sender m x checked fine
source_delivered-takes plan a s sender (SnapFor i try snap) x checked fine = silent-takes plan a s (record { sender = sender; to = a; packet = SnapFor i try snap }) x

pub source_ticked-bare : (plan : Plan) (s now : ℕ) (x : SourceState) → list_all is_bare (source_tick_step plan s now x).sends ≡ true
unfolding source_tick_step
source_ticked-bare plan s now x = all-map is_bare (λ (y : ℕ × Sub). mail y.0 (source_beat (tally_of y.1))) (zip (source_readers plan s) x.subs) (λ y. refl)

pub source_ticked-goes : (plan : Plan) (a s now : ℕ) (x : SourceState) → SourceGoes plan a s x (source_tick_step plan s now x)
unfolding source_tick_step
source_ticked-goes plan a s now x =
    keeps-same plan (Source s) a (source_readers plan s) (source_shown plan s x) (source_shown plan s x) x.subs x.subs (source_tick_step plan s now x).sends (record { stable = refl; bound = refl; tentative = refl; passed = refl }) refl
    (source_ticked-bare plan s now x)

pub source-many : (w : World) (most u : ℕ) → IsFine w most → u < length w.sources → length (source_at w u).subs ≡ length (source_readers w.plan u)
source-many w most u fine within =
    let zero_on : 0 + u ≡ u = omega arith in
    let x = source_at w u in
    let orderly : is_source_orderly w.plan u x ≡ true = rw zero_on at (sources-at w.plan 0 u w.sources x fine.sources (get-there no_source u w.sources within)) in
    eq-of (length x.subs) (length (source_readers w.plan u))
    (both (nat_le x.bound w.plan.end && nat_le (count_below (log_of w.plan u) x.bound) x.emitted && nat_le x.emitted (length (log_of w.plan u))) (length x.subs == length (source_readers w.plan u)) orderly).1
