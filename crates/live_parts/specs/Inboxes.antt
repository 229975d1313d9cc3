-- How the envelopes that wait, kept for each addressee apart, stand for those of the progress.
use Rattle.std.specs.Prelude.{◌≡◌, ℕ, suc, ◌-◌, ◌++◌, take, drop, Bool, true, false, not, ◌&&◌, ◌==◌, nat_lt, if◌then◌else◌, List, [], ◌∷◌, map, filter, length, Option, Some, None, slice_get}
use Rattle.std.specs.List.{slice_set}
use Rattle.dpc_lists.specs.Lists.{nth, list_any, list_all}
use Rattle.dpc_model.specs.declared.scripts.Directive.{Directive}
use Rattle.dpc_model.specs.declared.scripts.Directive.TheVariants as directive
use Rattle.world_model.specs.Worlds.{World, Envelope}
use Rattle.world_model.specs.Schedules.{Undelivered, may_come}
use Rattle.live_parts.specs.declared.inbox.Awaited.{Awaited}

-- ---- those of one addressee

-- whether the first element that passes a test passes another one
abbrev pub first_that : {X : Type 0} → (X → Bool) → (X → Bool) → List X → Bool
first_that test other [] = false
first_that test other (x ∷ xs) = if test x then other x else first_that test other xs

-- the first of a sender has this number
abbrev pub is_first_from : ℕ → ℕ → List Awaited → Bool
is_first_from s k qs = first_that (λ (q : Awaited). q.sender == s) (λ (q : Awaited). q.number == k) qs

-- what stands at a place was delivered once
abbrev pub made_at : Awaited → List Awaited → ℕ → List Awaited
made_at q qs i = if q.left == 1 then take i qs ++ drop (suc i) qs else slice_set qs i (record q { left = q.left - 1 })

-- the first of a sender was
abbrev pub made_from : ℕ → List Awaited → List Awaited
made_from s [] = []
made_from s (q ∷ qs) = if q.sender == s then (if q.left == 1 then qs else record q { left = q.left - 1 } ∷ qs) else q ∷ made_from s qs

-- whether a directive loses, or repeats, what goes from one actor to another
abbrev pub loses_way : ℕ → ℕ → Directive → Bool
loses_way s t (directive.Lose a b) = s == a && t == b
loses_way s t (directive.Repeat a b) = false
loses_way s t (directive.Emit c d) = false
loses_way s t (directive.Release c d) = false
loses_way s t (directive.Cut a b) = false
loses_way s t (directive.Heal a b) = false
loses_way s t (directive.Crash a) = false
loses_way s t (directive.Restart a) = false

abbrev pub repeats_way : ℕ → ℕ → Directive → Bool
repeats_way s t (directive.Repeat a b) = s == a && t == b
repeats_way s t (directive.Lose a b) = false
repeats_way s t (directive.Emit c d) = false
repeats_way s t (directive.Release c d) = false
repeats_way s t (directive.Cut a b) = false
repeats_way s t (directive.Heal a b) = false
repeats_way s t (directive.Crash a) = false
repeats_way s t (directive.Restart a) = false

-- what becomes pending as a phase with these directives opens: what waited before it is dropped
abbrev pub becomes_due : ℕ → List Directive → Awaited → Awaited
becomes_due t ds q = record q { left = if list_any (repeats_way q.sender t) ds then 2 else 1; pending = true }

abbrev pub is_kept : ℕ → List Directive → Awaited → Bool
is_kept t ds q = not q.pending && not (list_any (loses_way q.sender t) ds)

abbrev pub opened : ℕ → List Directive → List Awaited → List Awaited
opened t ds qs = map (becomes_due t ds) (filter (is_kept t ds) qs)

abbrev pub newly_awaited : ℕ → ℕ → Awaited
newly_awaited k s = record { number = k; sender = s; left = 1; pending = false }

-- pending, and it may come
abbrev pub is_due : World → Awaited → Bool
is_due w q = q.pending && may_come w (slice_get w.envelopes q.number)

-- ---- those of all

abbrev pub sender_in : Option Envelope → ℕ
sender_in None = 0
sender_in (Some e) = e.sender

abbrev pub goes_to : ℕ → Option Envelope → Bool
goes_to t None = false
goes_to t (Some e) = e.to == t

abbrev pub awaited : World → Undelivered → Awaited
awaited w x = record { number = x.number; sender = sender_in (slice_get w.envelopes x.number); left = x.left; pending = x.pending }

-- what waits at an actor
abbrev pub waiting_at : World → List Undelivered → ℕ → List Awaited
waiting_at w xs t = map (awaited w) (filter (λ (x : Undelivered). goes_to t (slice_get w.envelopes x.number)) xs)

pub record StandsForWaiting (boxes : List (List Awaited)) (w : World) (xs : List Undelivered) : Type 0 where
  pub each : (t : ℕ) → nth [] boxes t ≡ waiting_at w xs t
  pub known : list_all (λ (x : Undelivered). nat_lt x.number (length w.envelopes)) xs ≡ true
