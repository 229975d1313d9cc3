-- Along a live run: what waits in a quiet phase is delivered in the rest of it, or in the next one.
use Rattle.std.proofs.Common.{◌≡◌, ℕ, ◌+◌, ◌<◌, ◌≤◌, true, List, [], ◌∷◌, ◌++◌, length, sym, ap, subst, ◌∙◌, arith}
use Rattle.std.proofs.lemmas.List.{append_assoc, length-append}
use Rattle.dpc_model.specs.declared.messages.Event.{Event}
use Rattle.dpc_model.specs.declared.messages.Event.TheVariants.{Phase}
use Rattle.dpc_model.specs.declared.scripts.Script.{Script}
use Rattle.world_model.specs.Worlds.{World, happens}
use Rattle.world_model.specs.Schedules.{Progress, first_progress, next_progress, progress_from, progress, may_follow, follows_from, is_live_so_far}
use Rattle.dpc_lists.proofs.Truths.{both}
use Rattle.dpc_model.proofs.Alike.{phase-is}
use Rattle.world_model.proofs.Running.{progress-append, follows-part}
use Rattle.law_safety.proofs.Growing.{event-grows}
use Rattle.law_schedules.proofs.Journals.{live-far, prefix-live, phases-counted, progress-run}
use Rattle.law_settling.specs.Phased.{opened, DeliversWaiting}
use Rattle.law_settling.proofs.Splitting.{opens, opened-quiet}
use Rattle.law_settling.proofs.Opening.{all-come}
use Rattle.law_settling.proofs.Coming.{quiet-through, sent-delivered}
use Rattle.law_settling.proofs.Along.{running-along}
use Rattle.law_settling.proofs.Promises.{IsOpenAt, open-of}

pub progress-parts : (script : Script) (es fs : List Event) → progress script (es ++ fs) ≡ progress_from script (progress script es) fs
unfolding progress
progress-parts script es fs = progress-append script (first_progress script) es fs

pub live-part : (script : Script) (es fs : List Event) → is_live_so_far script (es ++ fs) ≡ true → follows_from script (progress script es) fs ≡ true
unfolding is_live_so_far progress
live-part script es fs h = (follows-part script (first_progress script) es fs h).1

-- no envelope is taken back
envelopes-grow : (script : Script) (x : Progress) (es : List Event) → length x.world.envelopes ≤ length (progress_from script x es).world.envelopes
envelopes-grow script x [] = omega arith
envelopes-grow script x (e ∷ es) =
    let g = event-grows x.world e in
    let more = ap length g.envelopes in
    let sum = length-append x.world.envelopes g.more in
    let rest = envelopes-grow script (next_progress script x e) es in
    let here : length (happens x.world e).envelopes ≡ length x.world.envelopes + length g.more = more ∙ sum in
    omega (arith, here, rest)

pub delivers-waiting : (script : Script) (events : List Event) → DeliversWaiting script events
delivers-waiting script events can live well before here next rest p q k is late quiet_here quiet_next sent waiting =
    let so_far = live-far script events live in
    let counted = phases-counted script before (prefix-live script before (here ++ Phase p ∷ (next ++ Phase q ∷ rest)) (subst (λ (es : List Event). is_live_so_far script es ≡ true) is so_far)) in
    let x = progress script before in
    let y = progress_from script x here in
    let open_at : (done behind : List Event) → events ≡ done ++ behind → length script.phases < (progress script done).phase → IsOpenAt script (progress script done) = λ done behind at far. open-of script can (progress script done) (running-along script events so_far well done behind at far) in
    let first = open_at before (here ++ Phase p ∷ (next ++ Phase q ∷ rest)) is (omega (arith, counted, late)) in
    let follows = live-part script before (here ++ Phase p ∷ (next ++ Phase q ∷ rest)) (subst (λ (es : List Event). is_live_so_far script es ≡ true) is so_far) in
    let one = follows-part script x here (Phase p ∷ (next ++ Phase q ∷ rest)) follows in
    let two = both (may_follow script y (Phase p)) (follows_from script (next_progress script y (Phase p)) (next ++ Phase q ∷ rest)) one.1 in
    let o = opens script y p two.0 in
    let number : p ≡ y.phase + 1 = phase-is o.0 in
    let z = progress_from script (opened script y) next in
    let rest_follows : follows_from script (opened script y) (next ++ Phase q ∷ rest) ≡ true = subst (λ (n : ℕ). follows_from script (next_progress script y (Phase n)) (next ++ Phase q ∷ rest) ≡ true) number two.1 in
    let three = follows-part script (opened script y) next (Phase q ∷ rest) rest_follows in
    let four = both (may_follow script z (Phase q)) (follows_from script (next_progress script z (Phase q)) rest) three.1 in
    let at_y = quiet-through script x here quiet_here first.at in
    let phase_y = at_y.phase in
    let y_is : progress script (before ++ here) ≡ y = progress-parts script before here in
    let z_is : progress script ((before ++ here) ++ (Phase p ∷ next)) ≡ z = progress-parts script (before ++ here) (Phase p ∷ next) ∙ ap (λ (v : Progress). progress_from script (next_progress script v (Phase p)) next) y_is ∙ ap (λ (n : ℕ). progress_from script (next_progress script y (Phase n)) next) number in
    let at_z = quiet-through script (opened script y) next quiet_next (opened-quiet script y (omega (arith, phase_y))) in
    let phase_z = at_z.phase in
    let split_y : events ≡ (before ++ here) ++ (Phase p ∷ (next ++ Phase q ∷ rest)) = is ∙ sym (append_assoc before here (Phase p ∷ (next ++ Phase q ∷ rest))) in
    let split_z : events ≡ ((before ++ here) ++ (Phase p ∷ next)) ++ (Phase q ∷ rest) = split_y ∙ sym (append_assoc (before ++ here) (Phase p ∷ next) (Phase q ∷ rest)) in
    let open_y = subst (IsOpenAt script) y_is (open_at (before ++ here) (Phase p ∷ (next ++ Phase q ∷ rest)) split_y (subst (λ (v : Progress). length script.phases < v.phase) (sym y_is) phase_y)) in
    let open_z = subst (IsOpenAt script) z_is (open_at ((before ++ here) ++ (Phase p ∷ next)) (Phase q ∷ rest) split_z (subst (λ (v : Progress). length script.phases < v.phase) (sym z_is) phase_z)) in
    let few_x : k < length x.world.envelopes = subst (λ (w : World). k < length w.envelopes) (sym (progress-run script before)) sent in
    let grow_y = envelopes-grow script x here in
    let grow_z = envelopes-grow script (opened script y) next in
    sent-delivered script k x here next first.at (record { quiet = quiet_here; follows = one.0; complete = o.1 }) (record { quiet = quiet_next; follows = three.0; complete = (opens script z q four.0).1 })
    (all-come y.world open_y.most k open_y.fine open_y.up (omega (arith, few_x, grow_y))) (all-come z.world open_z.most k open_z.fine open_z.up (omega (arith, few_x, grow_y, grow_z))) waiting
