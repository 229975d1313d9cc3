-- Where the replay of a journal stops: behind the entries before it, and by what the one there is.
use Rattle.std.proofs.Common.{◌≡◌, ◌↔◌, ℕ, zero, suc, ◌+◌, Bool, true, false, not, cond, ◌&&◌, List, [], ◌∷◌, ◌++◌, length, take, refl, sym, ap, subst, ◌∙◌, arith, Some, None, slice_get, append-nil}
use Rattle.dpc_model.specs.declared.messages.Event.{Event}
use Rattle.dpc_model.specs.declared.plans.Plan.{Plan}
use Rattle.dpc_model.specs.declared.scripts.Script.{Script}
use Rattle.dpc_lists.proofs.Truths.{both, both-of}
use Rattle.world_model.specs.Worlds.{World, Sums, happens, run_from, run, new_world, sums_after, passes_limit, excess_from, excess}
use Rattle.world_model.specs.Schedules.{Progress, first_progress, next_progress, progress_from, progress, may_follow, may, follows_from, is_live_so_far, is_live, is_phase_complete, phase_left}
use Rattle.world_model.specs.Replays.{ReplayEnd, Refused, Passes, Unfinished, Whole, is_at_end, replay_from, replay_end}
use Rattle.law_schedules.proofs.Lockstep.{progress-world}
use Rattle.law_schedules.proofs.Journals.{live-far}
use Rattle.law_journals.specs.Stops.{EndsWhole, EndsEarly, IsRefusedAt, PassesAt}

-- ---- a list and a place in it

record SplitAt {X : Type 0} (xs : List X) (k : ℕ) (x : X) : Type 0 where
  rest : List X
  whole : xs ≡ take k xs ++ (x ∷ rest)
  many : length (take k xs) ≡ k

split-at : {X : Type 0} (xs : List X) (k : ℕ) (x : X) → slice_get xs k ≡ Some x → SplitAt xs k x
split-at [] k x e = cc
split-at (y ∷ xs) zero x e = let same : y ≡ x = cc in record { rest = xs; whole = rw same refl; many = refl }
split-at {X = X} (y ∷ xs) (suc k) x e = let p = split-at xs k x e in record { rest = p.rest; whole = ap (λ (l : List X). y ∷ l) p.whole; many = ap suc p.many }

there-at : {X : Type 0} (xs : List X) (x : X) (ys : List X) → slice_get (xs ++ (x ∷ ys)) (length xs) ≡ Some x
there-at [] x ys = refl
there-at (z ∷ xs) x ys = there-at xs x ys

take-before : {X : Type 0} (xs ys : List X) → take (length xs) (xs ++ ys) ≡ xs
take-before [] ys = refl
take-before {X = X} (z ∷ xs) ys = ap (λ (l : List X). z ∷ l) (take-before xs ys)

-- ---- one entry

abbrev stop_at : Bool → Bool → ℕ → Sums → ReplayEnd → ReplayEnd
stop_at can pass k s rest = elim can [ false ↦ Refused k | true ↦ elim pass [ true ↦ Passes k s | false ↦ rest ] ]

module _ (script : Script) (x : Progress) (k : ℕ) (e : Event) (es : List Event) where
  abbrev Rest : ReplayEnd
  Rest = replay_from script (next_progress script x e) (k + 1) es

  replay-by : (can pass : Bool) → may_follow script x e ≡ can → passes_limit x.world e ≡ pass → replay_from script x k (e ∷ es) ≡ stop_at can pass k (sums_after x.world e) Rest
  replay-by can pass h p =
      ap (λ (b : Bool). stop_at b (passes_limit x.world e) k (sums_after x.world e) Rest) h ∙ ap (λ (b : Bool). stop_at can b k (sums_after x.world e) Rest) p

  replay-refused : may_follow script x e ≡ false → replay_from script x k (e ∷ es) ≡ Refused k
  replay-refused h = replay-by false (passes_limit x.world e) h refl

-- behind entries that may come and pass no limit the replay goes on
replay-on : (script : Script) (x : Progress) (k : ℕ) (es fs : List Event) → follows_from script x es ≡ true → excess_from x.world es ≡ None →
    replay_from script x k (es ++ fs) ≡ replay_from script (progress_from script x es) (k + length es) fs
replay-on script x k [] fs h within = let same : k + 0 ≡ k = omega arith in rw same refl
replay-on script x k (e ∷ es) fs h within =
    let p = both (may_follow script x e) (follows_from script (next_progress script x e) es) h in
    (elim (passes_limit x.world e) as (λ b. passes_limit x.world e ≡ b → cond b (Some (sums_after x.world e)) (excess_from (happens x.world e) es) ≡ None →
    replay_from script x k (e ∷ es ++ fs) ≡ replay_from script (progress_from script x (e ∷ es)) (k + length (e ∷ es)) fs) [
      | true ↦ λ d none. cc
      | false ↦ λ d none.
          let many : k + 1 + length es ≡ k + suc (length es) = omega arith in
          replay-by script x k e (es ++ fs) true false p.0 d ∙ replay-on script (next_progress script x e) (k + 1) es fs p.1 none
          ∙ ap (λ (n : ℕ). replay_from script (progress_from script x (e ∷ es)) n fs) many
    ]) refl within

-- ---- where it stops

-- the entries before the first that may not come or would pass a limit, where there is one
data Stop (script : Script) (x : Progress) (es : List Event) : Type 0 where
  Nowhere : (h : follows_from script x es ≡ true) (w : excess_from x.world es ≡ None) → Stop script x es
  AtRefused : (before : List Event) (e : Event) (rest : List Event) (split : es ≡ before ++ (e ∷ rest)) (h : follows_from script x before ≡ true) (w : excess_from x.world before ≡ None)
      (may_not : may_follow script (progress_from script x before) e ≡ false) → Stop script x es
  AtPassing : (before : List Event) (e : Event) (rest : List Event) (split : es ≡ before ++ (e ∷ rest)) (h : follows_from script x before ≡ true) (w : excess_from x.world before ≡ None)
      (may_come : may_follow script (progress_from script x before) e ≡ true) (past : passes_limit (progress_from script x before).world e ≡ true) → Stop script x es

within-more : (w : World) (e : Event) (es : List Event) → passes_limit w e ≡ false → excess_from (happens w e) es ≡ None → excess_from w (e ∷ es) ≡ None
within-more w e es low h = ap (λ (b : Bool). cond b (Some (sums_after w e)) (excess_from (happens w e) es)) low ∙ h

more-before : (script : Script) (x : Progress) (e : Event) (es : List Event) → may_follow script x e ≡ true → passes_limit x.world e ≡ false → Stop script (next_progress script x e) es → Stop script x (e ∷ es)
more-before script x e es can low (Nowhere h w) = Nowhere (both-of (may_follow script x e) (follows_from script (next_progress script x e) es) can h) (within-more x.world e es low w)
more-before script x e es can low (AtRefused before d rest split h w may_not) =
    AtRefused (e ∷ before) d rest (ap (λ (l : List Event). e ∷ l) split) (both-of (may_follow script x e) (follows_from script (next_progress script x e) before) can h) (within-more x.world e before low w) may_not
more-before script x e es can low (AtPassing before d rest split h w may_come past) =
    AtPassing (e ∷ before) d rest (ap (λ (l : List Event). e ∷ l) split) (both-of (may_follow script x e) (follows_from script (next_progress script x e) before) can h) (within-more x.world e before low w) may_come past

stop-of : (script : Script) (x : Progress) (es : List Event) → Stop script x es
stop-of script x [] = Nowhere refl refl
stop-of script x (e ∷ es) =
    (elim (may_follow script x e) as (λ b. may_follow script x e ≡ b → Stop script x (e ∷ es)) [
      | false ↦ λ can. AtRefused [] e es refl refl refl can
      | true ↦ λ can. (elim (passes_limit x.world e) as (λ b. passes_limit x.world e ≡ b → Stop script x (e ∷ es)) [
        | true ↦ λ past. AtPassing [] e es refl refl refl can past
        | false ↦ λ low. more-before script x e es can low (stop-of script (next_progress script x e) es)
      ]) refl
    ]) refl

-- ---- what a replay comes to, from a progress on

record Reached (script : Script) (x : Progress) (es : List Event) (k : ℕ) (e : Event) : Type 0 where
  there : slice_get es k ≡ Some e
  h : follows_from script x (take k es) ≡ true
  w : excess_from x.world (take k es) ≡ None

record Refusing (script : Script) (x : Progress) (es : List Event) (k : ℕ) : Type 0 where
  entry : Event
  reached : Reached script x es k entry
  may_not : may_follow script (progress_from script x (take k es)) entry ≡ false

record Passing (script : Script) (x : Progress) (es : List Event) (k : ℕ) (s : Sums) : Type 0 where
  entry : Event
  reached : Reached script x es k entry
  may_come : may_follow script (progress_from script x (take k es)) entry ≡ true
  past : passes_limit (progress_from script x (take k es)).world entry ≡ true
  sums : sums_after (progress_from script x (take k es)).world entry ≡ s

record Ending (script : Script) (x : Progress) (es : List Event) (b : Bool) : Type 0 where
  h : follows_from script x es ≡ true
  w : excess_from x.world es ≡ None
  at_end : is_at_end script (progress_from script x es) ≡ b

abbrev Outcome : Script → Progress → List Event → ReplayEnd → Type 0
Outcome script x es (Refused k) = Refusing script x es k
Outcome script x es (Passes k s) = Passing script x es k s
Outcome script x es Unfinished = Ending script x es false
Outcome script x es Whole = Ending script x es true

abbrev last_of : Bool → ReplayEnd
last_of b = cond b Whole Unfinished

through-is : (script : Script) (x : Progress) (es : List Event) → follows_from script x es ≡ true → excess_from x.world es ≡ None → replay_from script x 0 es ≡ last_of (is_at_end script (progress_from script x es))
through-is script x es h w = ap (λ (l : List Event). replay_from script x 0 l) (sym (append-nil es)) ∙ replay-on script x 0 es [] h w

refused-is : (script : Script) (x : Progress) (before : List Event) (e : Event) (rest : List Event) → follows_from script x before ≡ true → excess_from x.world before ≡ None →
    may_follow script (progress_from script x before) e ≡ false → replay_from script x 0 (before ++ (e ∷ rest)) ≡ Refused (length before)
refused-is script x before e rest h w may_not =
    let many : 0 + length before ≡ length before = omega arith in
    replay-on script x 0 before (e ∷ rest) h w ∙ replay-refused script (progress_from script x before) (0 + length before) e rest may_not ∙ ap (λ (n : ℕ). Refused n) many

passing-is : (script : Script) (x : Progress) (before : List Event) (e : Event) (rest : List Event) → follows_from script x before ≡ true → excess_from x.world before ≡ None →
    may_follow script (progress_from script x before) e ≡ true → passes_limit (progress_from script x before).world e ≡ true →
    replay_from script x 0 (before ++ (e ∷ rest)) ≡ Passes (length before) (sums_after (progress_from script x before).world e)
passing-is script x before e rest h w may_come past =
    let many : 0 + length before ≡ length before = omega arith in
    replay-on script x 0 before (e ∷ rest) h w ∙ replay-by script (progress_from script x before) (0 + length before) e rest true true may_come past
    ∙ ap (λ (n : ℕ). Passes n (sums_after (progress_from script x before).world e)) many

ending : (script : Script) (x : Progress) (es : List Event) → follows_from script x es ≡ true → excess_from x.world es ≡ None → (b : Bool) → is_at_end script (progress_from script x es) ≡ b → Outcome script x es (last_of b)
ending script x es h w true e = record { h = h; w = w; at_end = e }
ending script x es h w false e = record { h = h; w = w; at_end = e }

reached-at : (script : Script) (x : Progress) (before : List Event) (e : Event) (rest : List Event) → follows_from script x before ≡ true → excess_from x.world before ≡ None → Reached script x (before ++ (e ∷ rest)) (length before) e
reached-at script x before e rest h w =
    let same = sym (take-before before (e ∷ rest)) in
    record { there = there-at before e rest; h = subst (λ (l : List Event). follows_from script x l ≡ true) same h; w = subst (λ (l : List Event). excess_from x.world l ≡ None) same w }

outcome-at : (script : Script) (x : Progress) (es : List Event) → Stop script x es → Outcome script x es (replay_from script x 0 es)
outcome-at script x es (Nowhere h w) = subst (λ (o : ReplayEnd). Outcome script x es o) (sym (through-is script x es h w)) (ending script x es h w (is_at_end script (progress_from script x es)) refl)
outcome-at script x es (AtRefused before e rest split h w may_not) =
    subst (λ (l : List Event). Outcome script x l (replay_from script x 0 l)) (sym split)
    (subst (λ (o : ReplayEnd). Outcome script x (before ++ (e ∷ rest)) o) (sym (refused-is script x before e rest h w may_not))
    (record {
      entry = e;
      reached = reached-at script x before e rest h w;
      may_not = subst (λ (l : List Event). may_follow script (progress_from script x l) e ≡ false) (sym (take-before before (e ∷ rest))) may_not;
    }))
outcome-at script x es (AtPassing before e rest split h w may_come past) =
    let same = sym (take-before before (e ∷ rest)) in
    subst (λ (l : List Event). Outcome script x l (replay_from script x 0 l)) (sym split)
    (subst (λ (o : ReplayEnd). Outcome script x (before ++ (e ∷ rest)) o) (sym (passing-is script x before e rest h w may_come past))
    (record {
      entry = e;
      reached = reached-at script x before e rest h w;
      may_come = subst (λ (l : List Event). may_follow script (progress_from script x l) e ≡ true) same may_come;
      past = subst (λ (l : List Event). passes_limit (progress_from script x l).world e ≡ true) same past;
      sums = ap (λ (l : List Event). sums_after (progress_from script x l).world e) (take-before before (e ∷ rest));
    }))

outcome : (script : Script) (x : Progress) (es : List Event) → Outcome script x es (replay_from script x 0 es)
outcome script x es = outcome-at script x es (stop-of script x es)

-- ---- and back

back-refused : (script : Script) (x : Progress) (es : List Event) (k : ℕ) → Refusing script x es k → replay_from script x 0 es ≡ Refused k
back-refused script x es k r =
    let s = split-at es k r.entry r.reached.there in
    ap (λ (l : List Event). replay_from script x 0 l) s.whole ∙ refused-is script x (take k es) r.entry s.rest r.reached.h r.reached.w r.may_not ∙ ap (λ (n : ℕ). Refused n) s.many

back-passing : (script : Script) (x : Progress) (es : List Event) (k : ℕ) (reached : Sums) → Passing script x es k reached → replay_from script x 0 es ≡ Passes k reached
back-passing script x es k reached r =
    let s = split-at es k r.entry r.reached.there in
    ap (λ (l : List Event). replay_from script x 0 l) s.whole ∙ passing-is script x (take k es) r.entry s.rest r.reached.h r.reached.w r.may_come r.past
    ∙ ap (λ (n : ℕ). Passes n (sums_after (progress_from script x (take k es)).world r.entry)) s.many ∙ ap (λ (u : Sums). Passes k u) r.sums

back-ending : (script : Script) (x : Progress) (es : List Event) (b : Bool) → Ending script x es b → replay_from script x 0 es ≡ last_of b
back-ending script x es b r = through-is script x es r.h r.w ∙ ap (λ (c : Bool). last_of c) r.at_end

-- ---- from the opening

and-to : (a b c : Bool) → a ≡ true → (a && b && c) ≡ (b && c)
and-to a b c e = rw e refl

live-at-end : (script : Script) (es : List Event) → is_live_so_far script es ≡ true → is_live script es ≡ is_at_end script (progress script es)
unfolding is_live
live-at-end script es h = and-to (is_live_so_far script es) (is_phase_complete (progress script es)) (not (phase_left script (progress script es))) h

pub whole-where : (script : Script) (events : List Event) → (replay_end script events ≡ Whole) ↔ EndsWhole script events
unfolding replay_end is_live_so_far progress
whole-where script events =
    let x = first_progress script in (
      λ e.
          let r : Ending script x events true = subst (λ (o : ReplayEnd). Outcome script x events o) e (outcome script x events) in
          record { live = live-at-end script events r.h ∙ r.at_end; within = r.w },
      λ r.
          let far = live-far script events r.live in
          back-ending script x events true (record { h = far; w = r.within; at_end = sym (live-at-end script events far) ∙ r.live }),
    )

pub unfinished-where : (script : Script) (events : List Event) → (replay_end script events ≡ Unfinished) ↔ EndsEarly script events
unfolding replay_end is_live_so_far progress
unfinished-where script events =
    let x = first_progress script in (
      λ e.
          let r : Ending script x events false = subst (λ (o : ReplayEnd). Outcome script x events o) e (outcome script x events) in
          record { so_far = r.h; within = r.w; unfinished = live-at-end script events r.h ∙ r.at_end },
      λ r. back-ending script x events false (record { h = r.so_far; w = r.within; at_end = sym (live-at-end script events r.so_far) ∙ r.unfinished }),
    )

pub refused-where : (script : Script) (events : List Event) (k : ℕ) → (replay_end script events ≡ Refused k) ↔ IsRefusedAt script events k
unfolding replay_end is_live_so_far may progress
refused-where script events k =
    let x = first_progress script in (
      λ e.
          let r : Refusing script x events k = subst (λ (o : ReplayEnd). Outcome script x events o) e (outcome script x events) in
          record { entry = r.entry; reaches = record { there = r.reached.there; so_far = r.reached.h; within = r.reached.w }; may_not = r.may_not },
      λ r. back-refused script x events k (record { entry = r.entry; reached = record { there = r.reaches.there; h = r.reaches.so_far; w = r.reaches.within }; may_not = r.may_not }),
    )

pub passes-where : (script : Script) (events : List Event) (k : ℕ) (reached : Sums) → (replay_end script events ≡ Passes k reached) ↔ PassesAt script events k reached
unfolding replay_end is_live_so_far may progress run
passes-where script events k reached =
    let x = first_progress script in
    let same = progress-world script x (take k events) in (
      λ e.
          let r : Passing script x events k reached = subst (λ (o : ReplayEnd). Outcome script x events o) e (outcome script x events) in
          record {
            entry = r.entry;
            reaches = record { there = r.reached.there; so_far = r.reached.h; within = r.reached.w };
            may_come = r.may_come;
            passes = subst (λ (w : World). passes_limit w r.entry ≡ true) same r.past;
            sums = subst (λ (w : World). sums_after w r.entry ≡ reached) same r.sums;
          },
      λ r.
          back-passing script x events k reached (record {
            entry = r.entry;
            reached = record { there = r.reaches.there; h = r.reaches.so_far; w = r.reaches.within };
            may_come = r.may_come;
            past = subst (λ (w : World). passes_limit w r.entry ≡ true) (sym same) r.passes;
            sums = subst (λ (w : World). sums_after w r.entry ≡ reached) (sym same) r.sums;
          }),
    )

pub goes-on : (script : Script) (events more : List Event) → is_live_so_far script events ≡ true → excess script.plan events ≡ None →
    replay_end script (events ++ more) ≡ replay_from script (progress script events) (length events) more
unfolding replay_end is_live_so_far progress
goes-on script events more h w =
    let many : 0 + length events ≡ length events = omega arith in
    replay-on script (first_progress script) 0 events more h w ∙ ap (λ (n : ℕ). replay_from script (progress_from script (first_progress script) events) n more) many

-- ---- no limit is passed

within-push : (w : World) (es : List Event) (e : Event) → excess_from w es ≡ None → passes_limit (run_from w es) e ≡ false → excess_from w (es ++ e ∷ []) ≡ None
within-push w [] e h low = within-more w e [] low refl
within-push w (d ∷ es) e h low =
    (elim (passes_limit w d) as (λ b. passes_limit w d ≡ b → cond b (Some (sums_after w d)) (excess_from (happens w d) es) ≡ None → excess_from w (d ∷ es ++ e ∷ []) ≡ None) [
      | true ↦ λ k none. cc
      | false ↦ λ k none. within-more w d (es ++ e ∷ []) k (within-push (happens w d) es e none low)
    ]) refl h

pub stays-within : (plan : Plan) (events : List Event) (e : Event) → excess plan events ≡ None → passes_limit (run plan events) e ≡ false → excess plan (events ++ e ∷ []) ≡ None
unfolding run
stays-within plan events e h low = within-push (new_world plan) events e h low
