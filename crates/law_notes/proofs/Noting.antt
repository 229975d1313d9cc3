-- Event by event the notes tell the progress.
use Rattle.std.proofs.Common.{◌≡◌, ℕ, zero, suc, ◌+◌, ◌<◌, Bool, true, false, not, cond, ◌&&◌, ◌==◌, nat_lt, List, [], ◌∷◌, ◌++◌, length, drop, refl, sym, ap, subst, ◌∙◌, arith, Some, None, slice_get}
use Rattle.std.specs.List.{filter}
use Rattle.std.proofs.Math.Seq.{drop-nil}
use Rattle.dpc_lists.specs.Lists.{is_nil}
use Rattle.dpc_model.specs.declared.messages.Event.{Event}
use Rattle.dpc_model.specs.declared.messages.Event.TheVariants.{Phase, Emit, Release, Cut, Heal, Crash, Restart, Deliver, Tick, Mill}
use Rattle.dpc_model.specs.declared.scripts.Directive.{Directive}
use Rattle.dpc_model.specs.declared.scripts.Script.{Script}
use Rattle.world_model.specs.Worlds.{World, Envelope, new_world, happens, run_from, run}
use Rattle.world_model.specs.Schedules.{Undelivered, Progress, first_progress, next_progress, progress_from, progress, may, may_follow, follows_from, is_live_so_far, is_live, is_phase_complete, phase_left, is_next, event_of, same_event, has_event, may_come, may_deliver, newly_sent, targets_in, targets_left, phase_of}
use Rattle.world_model.specs.Notes.{Notes, first_notes, directed_to, notes_after, notes_from, notes, todo_told, waiting_told, progress_told}
use Rattle.dpc_lists.proofs.Truths.{both, both-of, eq-of, eq-test, lt-test, true-not-false}
use Rattle.law_schedules.proofs.Calm.{IsGrown, grown-longer, happens-grown}
use Rattle.law_notes.proofs.Waiting.{are_below, below-more, IsSound, waiting-sent, waiting-made, waiting-opened}

-- ---- one event

same-progress : (w : World) (p : ℕ) (ds es : List Directive) (xs ys : List Undelivered) (tk : List ℕ) (ts us : List (ℕ × ℕ)) → ds ≡ es → xs ≡ ys → ts ≡ us →
    ◌≡◌ {A = Progress} (record { world = w; phase = p; todo = ds; waiting = xs; ticked = tk; targets = ts }) (record { world = w; phase = p; todo = es; waiting = ys; ticked = tk; targets = us })
same-progress w p ds es xs ys tk ts us a b c = rw (a, b, c) refl

sound-sent : (w v : World) (n : Notes) → IsGrown w v → IsSound w n → IsSound v n
sound-sent w v n c s =
    let longer = grown-longer w v c in
    let grown = s.grown in
    record { order = s.order; grown = omega (arith, grown, longer); known = below-more (length w.envelopes) (length v.envelopes) n.delivered longer s.known }

-- a delivery, a tick or milling does no directive
targets-calm : (v : World) (ds : List Directive) (ts : List (ℕ × ℕ)) (b : Bool) →
    cond (not (is_nil ds) && is_nil ds && b) (targets_in v) (targets_left v (cond (is_nil ds) ts [])) ≡ cond (is_nil ds) (targets_left v ts) []
targets-calm v [] ts b = refl
targets-calm v (d ∷ ds) ts b = refl

-- a directive's event
targets-directed : (v : World) (ds : List Directive) (ts : List (ℕ × ℕ)) (p : ℕ) → is_nil ds ≡ false →
    cond (not (is_nil ds) && is_nil (drop 1 ds) && p == p) (targets_in v) (targets_left v (cond (is_nil ds) ts [])) ≡ cond (is_nil (drop 1 ds)) (targets_in v) []
targets-directed v [] ts p h = absurd (true-not-false h)
targets-directed v (d ∷ []) ts p h = let same = eq-test p p refl in rw same refl
targets-directed v (d ∷ e ∷ ds) ts p h = refl

drop-next : (k : ℕ) (ds : List Directive) → drop 1 (drop k ds) ≡ drop (k + 1) ds
drop-next zero ds = refl
drop-next (suc k) [] = sym (drop-nil (suc k + 1))
drop-next (suc k) (d ∷ ds) = let same : suc k + 1 ≡ suc (k + 1) = omega arith in rw same (drop-next k ds)

todo-next : (script : Script) (w : World) (n : Notes) → drop 1 (todo_told script n) ≡ todo_told script (directed_to w n)
todo-next script w n = by-opened (n.opened == 0)
  where
    ds : List Directive
    ds = filter has_event (phase_of script n.opened).directives

    by-opened : (b : Bool) → drop 1 (cond b [] (drop n.directed ds)) ≡ cond b [] (drop (n.directed + 1) ds)
    by-opened true = refl
    by-opened false = drop-next n.directed ds

directed-told : (script : Script) (w v : World) (n : Notes) → IsGrown w v → IsSound w n → is_nil (todo_told script n) ≡ false →
    record {
      world = v;
      phase = n.opened;
      todo = drop 1 (todo_told script n);
      waiting = waiting_told w (phase_of script n.opened).directives n ++ newly_sent w v;
      ticked = n.ticked;
      targets = cond (not (is_nil (todo_told script n)) && is_nil (drop 1 (todo_told script n)) && n.opened == n.opened) (targets_in v) (targets_left v (cond (is_nil (todo_told script n)) n.targets []));
    } ≡ progress_told script v (directed_to v n)
directed-told script w v n c s h =
    let next = todo-next script v n in
    same-progress v n.opened _ _ _ _ n.ticked _ _ next (waiting-sent w v (phase_of script n.opened).directives n c s)
    (targets-directed v (todo_told script n) n.targets n.opened h ∙ ap (λ (ds : List Directive). cond (is_nil ds) (targets_in v) []) next)

-- a directive is left where its event may come
todo-some : (script : Script) (w : World) (n : Notes) (e : Event) → is_next (progress_told script w n) e ≡ true → is_nil (todo_told script n) ≡ false
todo-some script w n e h = by-todo (todo_told script n) h
  where
    by-todo : (ds : List Directive) → (elim ds [ [] ↦ false | d ∷ rest ↦ elim (event_of w d) [ None ↦ false | Some f ↦ same_event f e ] ]) ≡ true → is_nil ds ≡ false
    by-todo [] k = absurd (true-not-false (sym k))
    by-todo (d ∷ ds) k = refl

record IsTold (script : Script) (x : Progress) (n : Notes) : Type 0 where
  told : x ≡ progress_told script x.world n
  sound : IsSound x.world n

directed-next : (script : Script) (w v : World) (n : Notes) → IsGrown w v → IsSound w n → is_nil (todo_told script n) ≡ false → IsTold script (record {
  world = v;
  phase = n.opened;
  todo = drop 1 (todo_told script n);
  waiting = waiting_told w (phase_of script n.opened).directives n ++ newly_sent w v;
  ticked = n.ticked;
  targets = cond (not (is_nil (todo_told script n)) && is_nil (drop 1 (todo_told script n)) && n.opened == n.opened) (targets_in v) (targets_left v (cond (is_nil (todo_told script n)) n.targets []));
}) (directed_to v n)
directed-next script w v n c s h =
    let t = sound-sent w v n c s in
    record { told = directed-told script w v n c s h; sound = record { order = t.order; grown = t.grown; known = t.known } }

-- an envelope that may come was sent
come-sent : (w : World) (k : ℕ) → may_come w (slice_get w.envelopes k) ≡ true → k < length w.envelopes
come-sent w k h = by-list w.envelopes k h
  where
    by-list : (es : List Envelope) (i : ℕ) → may_come w (slice_get es i) ≡ true → i < length es
    by-list [] i g = absurd (true-not-false (sym g))
    by-list (e ∷ es) zero g = omega arith
    by-list (e ∷ es) (suc i) g = let less = by-list es i g in omega (arith, less)

opened-next : (script : Script) (w : World) (n : Notes) (p : ℕ) → IsSound w n → p ≡ n.opened + 1 → IsTold script (next_progress script (progress_told script w n) (Phase p)) (notes_after w n (Phase p))
opened-next script w n p s number =
    let ds = (phase_of script p).directives in
    record {
      told = same-progress w p _ _ _ _ [] _ _ todo (waiting-opened w (phase_of script n.opened).directives ds n p (targets_left w (targets_in w)) s)
          (targets (filter has_event ds) ∙ ap (λ (xs : List Directive). cond (is_nil xs) (targets_left w (targets_in w)) []) todo);
      sound = record { order = s.grown; grown = omega arith; known = refl };
    }
  where
    other : (b : Bool) (q : ℕ) → (p == q) ≡ b → (p ≡ q → ⊥) → b ≡ false
    other true q e h = absurd (h (eq-of p q e))
    other false q e h = refl

    todo : filter has_event (phase_of script p).directives ≡ todo_told script (notes_after w n (Phase p))
    todo = let some = other (p == 0) 0 refl (λ same. absurd (omega (arith, same, number))) in rw some refl

    targets : (xs : List Directive) → cond (not (is_nil (todo_told script n)) && is_nil xs && p == n.opened) (targets_in w) (targets_left w (cond (is_nil xs) (targets_in w) []))
        ≡ cond (is_nil xs) (targets_left w (targets_in w)) []
    targets xs = let again = other (p == n.opened) n.opened refl (λ same. absurd (omega (arith, same, number))) in rw again (by-nil (is_nil (todo_told script n)) xs)
      where
        by-nil : (b : Bool) (ys : List Directive) → cond (not b && is_nil ys && false) (targets_in w) (targets_left w (cond (is_nil ys) (targets_in w) []))
            ≡ cond (is_nil ys) (targets_left w (targets_in w)) []
        by-nil true [] = refl
        by-nil true (y ∷ ys) = refl
        by-nil false [] = refl
        by-nil false (y ∷ ys) = refl

calm-told : (script : Script) (w v : World) (n : Notes) (tk : List ℕ) → IsGrown w v → IsSound w n → IsTold script (record {
  world = v;
  phase = n.opened;
  todo = todo_told script n;
  waiting = waiting_told w (phase_of script n.opened).directives n ++ newly_sent w v;
  ticked = tk;
  targets = cond (not (is_nil (todo_told script n)) && is_nil (todo_told script n) && n.opened == n.opened) (targets_in v) (targets_left v (cond (is_nil (todo_told script n)) n.targets []));
}) (record n { ticked = tk; targets = targets_left v n.targets })
calm-told script w v n tk c s =
    let t = sound-sent w v n c s in
    record {
      told = same-progress v n.opened _ _ _ _ tk _ _ refl (waiting-sent w v (phase_of script n.opened).directives n c s) (targets-calm v (todo_told script n) n.targets (n.opened == n.opened));
      sound = record { order = t.order; grown = t.grown; known = t.known };
    }

deliver-told : (script : Script) (w : World) (n : Notes) (k : ℕ) → IsSound w n → may_come w (slice_get w.envelopes k) ≡ true →
    IsTold script (next_progress script (progress_told script w n) (Deliver k)) (notes_after w n (Deliver k))
deliver-told script w n k s h =
    let ds = (phase_of script n.opened).directives in
    let v = happens w (Deliver k) in
    let m : Notes = record n { delivered = k ∷ n.delivered } in
    let c = happens-grown w (Deliver k) in
    let here = lt-test k (length w.envelopes) (come-sent w k h) in
    let now : IsSound w m = record { order = s.order; grown = s.grown; known = both-of (nat_lt k (length w.envelopes)) (are_below (length w.envelopes) n.delivered) here s.known } in
    let t = sound-sent w v m c now in
    record {
      told = same-progress v n.opened _ _ _ _ n.ticked _ _ refl
          (ap (λ (xs : List Undelivered). xs ++ newly_sent w v) (waiting-made w ds n k) ∙ waiting-sent w v ds m c now)
          (targets-calm v (todo_told script n) n.targets (n.opened == n.opened));
      sound = record { order = t.order; grown = t.grown; known = t.known };
    }

told-next : (script : Script) (w : World) (n : Notes) (e : Event) → IsSound w n → may_follow script (progress_told script w n) e ≡ true → IsTold script (next_progress script (progress_told script w n) e) (notes_after w n e)
told-next script w n (Phase p) s h =
    let q = both (p == n.opened + 1 && is_phase_complete (progress_told script w n)) (phase_left script (progress_told script w n)) h in
    opened-next script w n p s (eq-of p (n.opened + 1) (both (p == n.opened + 1) (is_phase_complete (progress_told script w n)) q.0).0)
told-next script w n (Deliver k) s h =
    let q = both (nat_lt 0 n.opened && is_nil (todo_told script n)) (may_deliver (progress_told script w n) k) h in
    deliver-told script w n k s (both (may_come w (slice_get w.envelopes k)) _ q.1).0
told-next script w n (Tick a now) s h = calm-told script w (happens w (Tick a now)) n (a ∷ n.ticked) (happens-grown w (Tick a now)) s
told-next script w n (Mill a r) s h = calm-told script w (happens w (Mill a r)) n n.ticked (happens-grown w (Mill a r)) s
told-next script w n (Emit a t) s h = directed-next script w (happens w (Emit a t)) n (happens-grown w (Emit a t)) s (todo-some script w n (Emit a t) h)
told-next script w n (Release a t) s h = directed-next script w (happens w (Release a t)) n (happens-grown w (Release a t)) s (todo-some script w n (Release a t) h)
told-next script w n (Cut a b) s h = directed-next script w (happens w (Cut a b)) n (happens-grown w (Cut a b)) s (todo-some script w n (Cut a b) h)
told-next script w n (Heal a b) s h = directed-next script w (happens w (Heal a b)) n (happens-grown w (Heal a b)) s (todo-some script w n (Heal a b) h)
told-next script w n (Crash a) s h = directed-next script w (happens w (Crash a)) n (happens-grown w (Crash a)) s (todo-some script w n (Crash a) h)
told-next script w n (Restart a i) s h = directed-next script w (happens w (Restart a i)) n (happens-grown w (Restart a i)) s (todo-some script w n (Restart a i) h)

-- ---- a journal

told-from : (script : Script) (x : Progress) (n : Notes) (es : List Event) → IsTold script x n → follows_from script x es ≡ true →
    progress_from script x es ≡ progress_told script (run_from x.world es) (notes_from x.world n es)
told-from script x n [] t h = t.told
told-from script x n (e ∷ es) t h =
    let p = both (may_follow script x e) (follows_from script (next_progress script x e) es) h in
    let here : may_follow script (progress_told script x.world n) e ≡ true = subst (λ (y : Progress). may_follow script y e ≡ true) t.told p.0 in
    let next = told-next script x.world n e t.sound here in
    told-from script (next_progress script x e) (notes_after x.world n e) es
    (subst (λ (y : Progress). IsTold script (next_progress script y e) (notes_after x.world n e)) (sym t.told) next) p.1

first-told : (script : Script) → IsTold script (first_progress script) first_notes
unfolding new_world
first-told script = record { told = refl; sound = record { order = omega arith; grown = omega arith; known = refl } }

pub progress-told : (script : Script) (es : List Event) → is_live_so_far script es ≡ true → progress script es ≡ progress_told script (run script.plan es) (notes script.plan es)
unfolding is_live_so_far progress run notes
progress-told script es h = told-from script (first_progress script) first_notes es (first-told script) h

pub may-told : (script : Script) (es : List Event) (e : Event) → is_live_so_far script es ≡ true → may script es e ≡ may_follow script (progress_told script (run script.plan es) (notes script.plan es)) e
unfolding may
may-told script es e h = ap (λ (x : Progress). may_follow script x e) (progress-told script es h)

pub live-told : (script : Script) (es : List Event) → is_live_so_far script es ≡ true →
    is_live script es ≡ (is_phase_complete (progress_told script (run script.plan es) (notes script.plan es)) && not (phase_left script (progress_told script (run script.plan es) (notes script.plan es))))
unfolding is_live
live-told script es h =
    rw h (ap (λ (x : Progress). is_phase_complete x && not (phase_left script x)) (progress-told script es h))
