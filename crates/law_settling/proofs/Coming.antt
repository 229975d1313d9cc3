-- What is sent in a quiet phase is delivered by the end of the next one.
use Rattle.std.proofs.Common.{◌≡◌, ℕ, Bool, true, false, ◌||◌, List, [], ◌∷◌, refl, arith}
use Rattle.dpc_lists.specs.Lists.{list_all, list_any}
use Rattle.dpc_model.specs.declared.messages.Event.{Event}
use Rattle.dpc_model.specs.declared.scripts.Script.{Script}
use Rattle.world_model.specs.Schedules.{Undelivered, Progress, next_progress, progress_from}
use Rattle.dpc_lists.proofs.Truths.{both, neither}
use Rattle.world_model.specs.Events.{is_quiet, is_delivery}
use Rattle.law_settling.specs.Phased.{IsFull, opened, passed}
use Rattle.law_settling.proofs.Splitting.{IsQuietAt, quiet-goes, opened-quiet}
use Rattle.law_settling.proofs.Waitings.{waits, is_due, waits-on, due-on, comes, done-of, none-due}
use Rattle.law_settling.proofs.Rules.{opened-due, some-phase}

stays-through : (script : Script) (k : ℕ) (test : ℕ → List Undelivered → Bool) →
    ((x : Progress) (e : Event) → is_quiet e ≡ true → is_delivery k e ≡ false → test k x.waiting ≡ true → test k (next_progress script x e).waiting ≡ true) →
    (x : Progress) (es : List Event) → list_all is_quiet es ≡ true → list_any (is_delivery k) es ≡ false → test k x.waiting ≡ true → test k (progress_from script x es).waiting ≡ true
stays-through script k test stays x [] quiet none h = h
stays-through script k test stays x (e ∷ es) quiet none h =
    let q = both (is_quiet e) (list_all is_quiet es) quiet in
    let d = neither (is_delivery k e) (list_any (is_delivery k) es) none in
    stays-through script k test stays (next_progress script x e) es q.1 d.1 (stays x e q.0 d.0 h)

pub quiet-through : (script : Script) (x : Progress) (es : List Event) → list_all is_quiet es ≡ true → IsQuietAt script x → IsQuietAt script (progress_from script x es)
quiet-through script x [] quiet h = h
quiet-through script x (e ∷ es) quiet h =
    let q = both (is_quiet e) (list_all is_quiet es) quiet in
    quiet-through script (next_progress script x e) es q.1 (quiet-goes script x e q.0 h).0

-- a pending envelope is delivered in its phase
pub due-delivered : (script : Script) (k : ℕ) (x : Progress) (es : List Event) → IsQuietAt script x → IsFull script x es → comes (progress_from script x es).world k ≡ true →
    is_due k x.waiting ≡ true → list_any (is_delivery k) es ≡ true
due-delivered script k x es at full can due = by-test (list_any (is_delivery k) es) refl
  where
    by-test : (b : Bool) → list_any (is_delivery k) es ≡ b → list_any (is_delivery k) es ≡ true
    by-test true e = e
    by-test false e =
        let y = progress_from script x es in
        let left = stays-through script k is_due (λ z d q n h. due-on script z d k q n h) x es full.quiet e due in
        absurd (none-due y.world k y.waiting can (done-of y (some-phase script y (quiet-through script x es full.quiet at)) full.complete).delivered left)

-- one that waits, as one that was just sent, is delivered in this phase or in the next
pub sent-delivered : (script : Script) (k : ℕ) (x : Progress) (es fs : List Event) → IsQuietAt script x → IsFull script x es → IsFull script (opened script (progress_from script x es)) fs →
    comes (progress_from script x es).world k ≡ true → comes (passed script (progress_from script x es) fs).world k ≡ true → waits k x.waiting ≡ true →
    (list_any (is_delivery k) es || list_any (is_delivery k) fs) ≡ true
sent-delivered script k x es fs at full next can later waiting = by-test (list_any (is_delivery k) es) refl
  where
    by-test : (b : Bool) → list_any (is_delivery k) es ≡ b → (b || list_any (is_delivery k) fs) ≡ true
    by-test true e = refl
    by-test false e =
        let y = progress_from script x es in
        let there = quiet-through script x es full.quiet at in
        let left = stays-through script k waits (λ z d q n h. waits-on script z d k q n h) x es full.quiet e waiting in
        let phase = there.phase in
        due-delivered script k (opened script y) fs (opened-quiet script y (omega (arith, phase))) next later (opened-due script y k there full.complete can left)
