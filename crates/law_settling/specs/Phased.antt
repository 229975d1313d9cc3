-- The quiet phases of a live journal, one after another.
use Rattle.std.specs.Prelude.{◌≡◌, ⊤, ℕ, ◌+◌, ◌<◌, Bool, true, ◌||◌, ◌==◌, IsTrue, List, [], ◌∷◌, ◌++◌, length}
use Rattle.dpc_lists.specs.Lists.{list_all, list_any}
use Rattle.dpc_model.specs.declared.messages.Event.{Event}
use Rattle.dpc_model.specs.declared.messages.Event.TheVariants.{Phase}
use Rattle.dpc_model.specs.declared.scripts.Script.{Script}
use Rattle.world_model.specs.Worlds.{run}
use Rattle.world_model.specs.Schedules.{Undelivered, Progress, next_progress, progress_from, progress, follows_from, is_phase_complete, is_live}
use Rattle.world_model.specs.Steady.{OpensWell}
use Rattle.world_model.specs.Events.{is_quiet, is_delivery}
use Rattle.law_schedules.specs.Journals.{phases_in}
use Rattle.law_readers.specs.Settling.{CanSettle}

-- the events of one phase behind its first one, from the progress that the first one left
pub record IsFull (script : Script) (x : Progress) (es : List Event) : Type 0 where
  pub quiet : list_all is_quiet es ≡ true
  pub follows : follows_from script x es ≡ true
  pub complete : is_phase_complete (progress_from script x es) ≡ true

-- the next phase was opened
abbrev pub opened : Script → Progress → Progress
opened script x = next_progress script x (Phase (x.phase + 1))

-- a phase was opened and went by
abbrev pub passed : Script → Progress → List Event → Progress
passed script x es = progress_from script (opened script x) es

-- full phases one after another
abbrev pub ArePhases : Script → Progress → List (List Event) → Type 0
ArePhases script x [] = ⊤
ArePhases script x (es ∷ rest) = IsFull script (opened script x) es × ArePhases script (passed script x es) rest

abbrev pub passed_all : Script → Progress → List (List Event) → Progress
passed_all script x [] = x
passed_all script x (es ∷ rest) = passed_all script (passed script x es) rest

-- the events of phases, the first of which has the number p + 1
abbrev pub events_of : ℕ → List (List Event) → List Event
events_of p [] = []
events_of p (es ∷ rest) = Phase (p + 1) ∷ es ++ events_of (p + 1) rest

-- ---- deliveries

-- an envelope still waits for its delivery
abbrev pub waits : ℕ → List Undelivered → Bool
waits k xs = list_any (λ (y : Undelivered). y.number == k) xs

-- in a live run what was sent and waits in a quiet phase is delivered in the rest of it, or in the next one
abbrev pub DeliversWaiting : Script → List Event → Type 0
DeliversWaiting script events =
    CanSettle script → IsTrue (is_live script events) → OpensWell script events →
    (before here next rest : List Event) (p q k : ℕ) → events ≡ before ++ (here ++ Phase p ∷ (next ++ Phase q ∷ rest)) → length script.phases < phases_in before →
    list_all is_quiet here ≡ true → list_all is_quiet next ≡ true → k < length (run script.plan before).envelopes → IsTrue (waits k (progress script before).waiting) →
    IsTrue (list_any (is_delivery k) here || list_any (is_delivery k) next)
