-- Steps of a source.
use Rattle.std.proofs.Common.{◌≡◌, ℕ, zero, suc, ◌+◌, ◌≤◌, max, Bool, true, false, cond, ◌||◌, ◌==◌, nat_lt, nat_le, List, [], ◌∷◌, length, take, drop, refl, sym, ap, ◌∙◌, arith, Option, Some, None}
use Rattle.std.proofs.lemmas.Grind.{common_steps}
use Rattle.dpc_lists.specs.Lists.{nth, list_all, place_of}
use Rattle.dpc_model.specs.Streams.{cut, is_below, count_below}
use Rattle.dpc_model.specs.Fragments.{log_of, ideal, ideal_upto}
use Rattle.dpc_model.specs.Actors.{role_of, reads_from, are_peers}
use Rattle.dpc_model.specs.declared.actors.Role.TheVariants.{Source as IsSource}
use Rattle.dpc_model.specs.Sessions.{no_session, tally_of, answer_to, given_items, stable_items, boundary_item}
use Rattle.dpc_model.specs.declared.tuples.Tuple.{Tuple}
use Rattle.dpc_model.specs.declared.messages.Message.{Message}
use Rattle.dpc_model.specs.declared.messages.Message.TheVariants as message
use Rattle.dpc_model.specs.declared.plans.Plan.{Plan}
use Rattle.dpc_model.specs.declared.plans.StreamRef.TheVariants.{Source}
use Rattle.dpc_model.proofs.Prefixes.{length-filter_le}
use Rattle.node_model.specs.Mails.{Packet, Plain, SnapFor, Stepped}
use Rattle.node_model.specs.Sources.{SourceState, source_readers, bound_at, source_shown, emitted_upto, source_given, source_gives, source_emits, source_releases, source_subscribed, source_message, source_packet_step, source_beat, source_tick_step}
use Rattle.world_model.specs.Safe.{AreTrueItems}
use Rattle.world_model.specs.Orderly.{fits_stream, is_source_orderly}
use Rattle.law_safety.proofs.Truth.{stable_items-true, given_items-true, ideal-source}
use Rattle.law_safety.specs.Plans.{IsChecked}
use Rattle.dpc_lists.proofs.Truths.{both, both-of, le-of, le-test, eq-of, eq-test, lt-of, all-weaker, or-left}
use Rattle.law_safety.proofs.OutFits.{drop-fits}
use Rattle.law_safety.proofs.Numbering.{readers-read, source-sends-it}
use Rattle.law_safety.proofs.Mailing.{AreMails, source-sender, batches-mails, given-fit, IsBoundWithin, mails-weaker}
use Rattle.law_safety.proofs.Giving.{IsShown, answer-mails}
use Rattle.law_safety.proofs.Ticked.{zipped-mails}
use Rattle.dpc_lists.proofs.Elements.{get-take, get-drop, length-changed}
use Rattle.dpc_lists.proofs.Places.{place-within}
use Rattle.dpc_model.proofs.Subs.{length-counted}

-- what is kept of a source
pub record IsFineSource (plan : Plan) (s : ℕ) (x : SourceState) : Type 0 where
  pub within : x.bound ≤ plan.end
  pub below : count_below (log_of plan s) x.bound ≤ x.emitted
  pub few : x.emitted ≤ length (log_of plan s)
  pub subs : length x.subs ≤ length (source_readers plan s)

pub record IsSourceStep (plan : Plan) (a s : ℕ) (x : SourceState) (t : Stepped SourceState) : Type 0 where
  pub fine : IsFineSource plan s t.after
  pub subs : length t.after.subs ≡ length x.subs
  pub mails : AreMails plan a (Unit {0}) t.sends

-- ---- the log

log-below : (plan : Plan) (s : ℕ) → IsChecked plan → list_all (is_below plan.end) (log_of plan s) ≡ true
log-below plan s checked = all-weaker (is_below plan.end) (fits_stream plan (Source s)) (log_of plan s) (λ t k. (both (is_below plan.end t) _ k).0) (checked.logs s)

cut-all : (b : ℕ) (ts : List Tuple) → list_all (is_below b) ts ≡ true → cut ts b ≡ ts
cut-all b [] h = refl
cut-all b (t ∷ ts) h = let p = both (is_below b t) (list_all (is_below b) ts) h in rw p.0 (ap (λ us. t ∷ us) (cut-all b ts p.1))

pub ideal-log : (plan : Plan) (s : ℕ) → IsChecked plan → ideal plan (Source s) ≡ log_of plan s
ideal-log plan s checked = ideal-source plan s (λ u. cut-all plan.end (log_of plan u) (log-below plan u checked))

ideal_upto-log : (plan : Plan) (s b : ℕ) → ideal_upto plan (Source s) b ≡ cut (log_of plan s) b
unfolding ideal_upto
ideal_upto-log plan s b = refl

all-take : {X : Type 0} (q : X → Bool) (k : ℕ) (xs : List X) → list_all q xs ≡ true → list_all q (take k xs) ≡ true
all-take q zero xs h = refl
all-take q (suc k) [] h = refl
all-take q (suc k) (x ∷ xs) h = let p = both (q x) (list_all q xs) h in both-of (q x) (list_all q (take k xs)) p.0 (all-take q k xs p.1)

-- a part of the log makes true items
part-true : (plan : Plan) (s k m : ℕ) → IsChecked plan → AreTrueItems plan (Source s) (stable_items k (drop k (take m (log_of plan s))))
part-true plan s k m checked =
    stable_items-true plan (Source s) k (drop k (take m (log_of plan s)))
    (λ i t e. rw (ideal-log plan s checked) (get-take m (k + i) (log_of plan s) t (sym (get-drop k i (take m (log_of plan s))) ∙ e)))

part-fits : (plan : Plan) (s m : ℕ) → IsChecked plan → list_all (fits_stream plan (Source s)) (take m (log_of plan s)) ≡ true
part-fits plan s m checked = all-take (fits_stream plan (Source s)) m (log_of plan s) (checked.logs s)

bound-true : (plan : Plan) (s b : ℕ) → b ≤ plan.end → AreTrueItems plan (Source s) (boundary_item (bound_at plan s b))
bound-true plan s b within = elim (b == 0) as (λ c. AreTrueItems plan (Source s) (boundary_item (cond c None (Some (b, count_below (log_of plan s) b))))) [
  | true ↦ tt
  | false ↦ ((within, ap length (sym (ideal_upto-log plan s b))), tt)
]

bound-fits : (plan : Plan) (s b : ℕ) → b ≤ plan.end → IsBoundWithin plan (bound_at plan s b)
bound-fits plan s b within = elim (b == 0) as (λ c. IsBoundWithin plan (cond c None (Some (b, count_below (log_of plan s) b)))) [ true ↦ tt | false ↦ within ]

-- ---- giving

gives-step : (plan : Plan) (a s t : ℕ) (bound : Option (ℕ × ℕ)) (x : SourceState) → IsChecked plan → role_of plan a ≡ IsSource s → x.emitted ≤ length (log_of plan s) → length x.subs ≤ length (source_readers plan s) →
    AreTrueItems plan (Source s) (boundary_item bound) → IsBoundWithin plan bound → AreMails plan a (Unit {0}) (source_gives plan s t bound x).sends
gives-step plan a s t bound x checked role few subs truth fits =
    let g = source_given plan s t bound x in
    let items = given_items x.emitted g in
    batches-mails plan a (Source s) (Unit {0}) items x.subs (source-sender plan a s role)
    (given_items-true plan (Source s) x.emitted g (part-true plan s x.emitted (emitted_upto plan s t x) checked) truth)
    (given-fit plan (Source s) x.emitted g (drop-fits plan (Source s) x.emitted (take (emitted_upto plan s t x) (log_of plan s)) (part-fits plan s (emitted_upto plan s t x) checked)) fits refl tt)
    (λ e. tt) subs

pub count-few : (plan : Plan) (s b : ℕ) → count_below (log_of plan s) b ≤ length (log_of plan s)
count-few plan s b = length-filter_le (is_below b) (log_of plan s)

pub emits-step : (plan : Plan) (a s t : ℕ) (x : SourceState) → IsChecked plan → role_of plan a ≡ IsSource s → IsFineSource plan s x → IsSourceStep plan a s x (source_emits plan s t x)
unfolding source_emits
emits-step plan a s t x checked role h =
    let few = h.few in
    let below = h.below in
    let subs = h.subs in
    let items = given_items x.emitted (source_given plan s t None x) in
    let same = length-counted items x.subs in
    record {
      fine = record { within = h.within; below = omega (arith, below); few = let more = count-few plan s t in omega (arith, more, few); subs = omega (arith, same, subs) };
      subs = same;
      mails = gives-step plan a s t None x checked role h.few h.subs tt tt;
    }

pub releases-step : (plan : Plan) (a s t : ℕ) (x : SourceState) → IsChecked plan → role_of plan a ≡ IsSource s → t ≤ plan.end → IsFineSource plan s x → IsSourceStep plan a s x (source_releases plan s t x)
unfolding source_releases
releases-step plan a s t x checked role low h =
    let few = h.few in
    let subs = h.subs in
    let within = h.within in
    let y : SourceState = record x { bound = max x.bound t } in
    let bound : Option (ℕ × ℕ) = cond (nat_lt x.bound t) (bound_at plan s t) None in
    let items = given_items x.emitted (source_given plan s t bound y) in
    let same = length-counted items x.subs in
    record {
      fine = record { within = omega (arith, within, low); below = new-below; few = let more = count-few plan s t in omega (arith, more, few); subs = omega (arith, same, subs) };
      subs = same;
      mails = gives-step plan a s t bound y checked role h.few h.subs
          (elim (nat_lt x.bound t) as (λ b. AreTrueItems plan (Source s) (boundary_item (cond b (bound_at plan s t) None))) [ true ↦ bound-true plan s t low | false ↦ tt ])
          (elim (nat_lt x.bound t) as (λ b. IsBoundWithin plan (cond b (bound_at plan s t) None)) [ true ↦ bound-fits plan s t low | false ↦ tt ]);
    }
  where
    new-below : count_below (log_of plan s) (max x.bound t) ≤ max x.emitted (count_below (log_of plan s) t)
    new-below =
        (elim (nat_lt x.bound t) as (λ b. nat_lt x.bound t ≡ b → count_below (log_of plan s) (max x.bound t) ≤ max x.emitted (count_below (log_of plan s) t)) [
          | true ↦ λ e. let less = lt-of x.bound t e in let top : max x.bound t ≡ t = omega (arith, less) in rw top (omega arith)
          | false ↦ λ e. let more : t ≤ x.bound = grind (arith, common_steps) in let top : max x.bound t ≡ x.bound = omega (arith, more) in let old = h.below in rw top (omega (arith, old))
        ]) refl

-- ---- packets

shown-fine : (plan : Plan) (s : ℕ) (x : SourceState) → IsChecked plan → IsFineSource plan s x → IsShown plan (Source s) (source_shown plan s x)
shown-fine plan s x checked h =
    record {
      stable = λ k. part-true plan s k x.emitted checked;
      bound = bound-true plan s x.bound h.within;
      stable_fits = part-fits plan s x.emitted checked;
      bound_fits = bound-fits plan s x.bound h.within;
      tentative_fits = refl;
      passed_fits = tt;
    }

source-silent : (plan : Plan) (a s : ℕ) (x : SourceState) → IsFineSource plan s x → IsSourceStep plan a s x (record { after = x; sends = [] })
source-silent plan a s x h = record { fine = h; subs = refl; mails = tt }

source-message : (plan : Plan) (a s sender : ℕ) (m : Message) (x : SourceState) → IsChecked plan → role_of plan a ≡ IsSource s → IsFineSource plan s x → IsSourceStep plan a s x (source_message plan s sender m x)
source-message plan a s sender (message.Subscribe asked) x checked role h =
    (elim (place_of (λ b. sender == b) (source_readers plan s)) as (λ o. place_of (λ b. sender == b) (source_readers plan s) ≡ o → IsSourceStep plan a s x (source_subscribed plan s asked o x)) [
      | None ↦ λ e. source-silent plan a s x h
      | Some k ↦ λ e.
          let sub = nth no_session x.subs k in
          let answer = answer_to (source_shown plan s x) sub asked in
          let same = length-changed k (λ _. answer.after) x.subs in
          let subs = h.subs in
          record {
            fine = record { within = h.within; below = h.below; few = h.few; subs = omega (arith, same, subs) };
            subs = same;
            mails = answer-mails plan a (Source s) (Unit {0}) k (source_shown plan s x) sub asked (source-sender plan a s role) (shown-fine plan s x checked h)
                (place-within (λ b. sender == b) (source_readers plan s) k e) (λ _. tt);
          }
    ]) refl
source-message plan a s sender (message.Batch u index items) x checked role h = source-silent plan a s x h
source-message plan a s sender (message.Truncated u base) x checked role h = source-silent plan a s x h
source-message plan a s sender (message.Beat b) x checked role h = source-silent plan a s x h
source-message plan a s sender (message.Ack i n) x checked role h = source-silent plan a s x h
source-message plan a s sender (message.Ask i n) x checked role h = source-silent plan a s x h
source-message plan a s sender (message.Grant i n) x checked role h = source-silent plan a s x h
source-message plan a s sender (message.SnapAsk i n) x checked role h = source-silent plan a s x h

pub source_delivered-step : (plan : Plan) (a s sender : ℕ) (packet : Packet) (x : SourceState) → IsChecked plan → role_of plan a ≡ IsSource s → IsFineSource plan s x →
    IsSourceStep plan a s x (source_packet_step plan s sender packet x)
unfolding source_packet_step
source_delivered-step plan a s sender (Plain m) x checked role h = source-message plan a s sender m x checked role h
source_delivered-step plan a s sender (SnapFor i try snap) x checked role h = source-silent plan a s x h

pub source_ticked-step : (plan : Plan) (a s now : ℕ) (x : SourceState) → role_of plan a ≡ IsSource s → IsFineSource plan s x → IsSourceStep plan a s x (source_tick_step plan s now x)
unfolding source_tick_step
source_ticked-step plan a s now x role h =
    record {
      fine = record { within = h.within; below = h.below; few = h.few; subs = h.subs };
      subs = refl;
      mails = mails-weaker plan a ⊥ (Unit {0}) (λ e. tt) (source_tick_step plan s now x).sends
          (zipped-mails plan a (IsSource s) (λ sub. source_beat (tally_of sub)) (source_readers plan s) x.subs
          (λ to sub way. record {
            truth = rw role tt;
            fits = rw role (both-of (reads_from plan (role_of plan to) (IsSource s) || are_peers (IsSource s) (role_of plan to)) true
                (or-left (reads_from plan (role_of plan to) (IsSource s)) (are_peers (IsSource s) (role_of plan to)) way) refl);
            surely = λ e. cc;
          })
          (readers-read plan (Source s) (IsSource s) (source-sends-it s)));
    }

-- ---- a source in the world's list

pub fine-of : (plan : Plan) (s : ℕ) (x : SourceState) → is_source_orderly plan s x ≡ true → IsFineSource plan s x
fine-of plan s x h =
    let a = both _ (length x.subs == length (source_readers plan s)) h in
    let b = both _ (nat_le x.emitted (length (log_of plan s))) a.0 in
    let c = both (nat_le x.bound plan.end) (nat_le (count_below (log_of plan s) x.bound) x.emitted) b.0 in
    let same = eq-of _ _ a.1 in
    record { within = le-of _ _ c.0; below = le-of _ _ c.1; few = le-of _ _ b.1; subs = omega (arith, same) }

pub orderly-of : (plan : Plan) (s : ℕ) (x : SourceState) → IsFineSource plan s x → length x.subs ≡ length (source_readers plan s) → is_source_orderly plan s x ≡ true
orderly-of plan s x h same =
    both-of _ (length x.subs == length (source_readers plan s))
    (both-of _ (nat_le x.emitted (length (log_of plan s)))
    (both-of (nat_le x.bound plan.end) (nat_le (count_below (log_of plan s) x.bound) x.emitted) (le-test _ _ h.within) (le-test _ _ h.below)) (le-test _ _ h.few)) (eq-test _ _ same)
