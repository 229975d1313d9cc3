-- What of a run's past decides, beside the world, which event may come next: it is told by the plan and the events alone.
use Rattle.std.specs.Prelude.{ℕ, ◌+◌, ◌-◌, ◌==◌, nat_lt, if◌then◌else◌, List, [], ◌∷◌, map, length, filter, drop, slice_get}
use Rattle.dpc_lists.specs.Lists.{range_with_len, list_any, has, is_nil}
use Rattle.dpc_model.specs.declared.messages.Event.{Event}
use Rattle.dpc_model.specs.declared.messages.Event.TheVariants.{Phase, Emit, Release, Cut, Heal, Crash, Restart, Deliver, Tick, Mill}
use Rattle.dpc_model.specs.declared.scripts.Directive.{Directive}
use Rattle.dpc_model.specs.declared.plans.Plan.{Plan}
use Rattle.dpc_model.specs.declared.scripts.Script.{Script}
use Rattle.world_model.specs.Worlds.{World, new_world, happens}
use Rattle.world_model.specs.Schedules.{Undelivered, Progress, phase_of, has_event, loses, repeats, targets_in, targets_left}

pub record Notes : Type 0 where
  -- the number of the last phase that was opened, and how many of its directives had their event
  pub opened : ℕ
  pub directed : ℕ
  -- how many envelopes had been sent when it was opened, and when the phase before it was
  pub sent : ℕ
  pub sent_before : ℕ
  -- the envelopes delivered in it, and in the phase before it, each as often as it was
  pub delivered : List ℕ
  pub delivered_before : List ℕ
  -- the actors that had their tick in it, and the cursors that nodes must reach in it once the directives are done
  pub ticked : List ℕ
  pub targets : List (ℕ × ℕ)

abbrev pub first_notes : Notes
first_notes = record { opened = 0; directed = 0; sent = 0; sent_before = 0; delivered = []; delivered_before = []; ticked = []; targets = [] }

-- ---- what an event makes of them

-- a directive more had its event, which led to this world
abbrev pub directed_to : World → Notes → Notes
directed_to v n = record n { directed = n.directed + 1; targets = targets_in v }

abbrev pub notes_after : World → Notes → Event → Notes
notes_after w n (Phase p) =
    record {
      opened = p;
      directed = 0;
      sent = length w.envelopes;
      sent_before = n.sent;
      delivered = [];
      delivered_before = n.delivered;
      ticked = [];
      targets = targets_left w (targets_in w);
    }
notes_after w n (Deliver k) = record n { delivered = k ∷ n.delivered; targets = targets_left (happens w (Deliver k)) n.targets }
notes_after w n (Tick a now) = record n { ticked = a ∷ n.ticked; targets = targets_left (happens w (Tick a now)) n.targets }
notes_after w n (Mill a r) = record n { targets = targets_left (happens w (Mill a r)) n.targets }
notes_after w n (Emit s t) = directed_to (happens w (Emit s t)) n
notes_after w n (Release s t) = directed_to (happens w (Release s t)) n
notes_after w n (Cut a b) = directed_to (happens w (Cut a b)) n
notes_after w n (Heal a b) = directed_to (happens w (Heal a b)) n
notes_after w n (Crash a) = directed_to (happens w (Crash a)) n
notes_after w n (Restart a i) = directed_to (happens w (Restart a i)) n

abbrev pub notes_from : World → Notes → List Event → Notes
notes_from w n [] = n
notes_from w n (e ∷ events) = notes_from (happens w e) (notes_after w n e) events

-- the notes of a run, event by event
unfoldable pub notes : Plan → List Event → Notes
notes plan events = notes_from (new_world plan) first_notes events

-- ---- the progress that they tell

-- the directives of the phase that have events still to come
abbrev pub todo_told : Script → Notes → List Directive
todo_told script n = if n.opened == 0 then [] else drop n.directed (filter has_event (phase_of script n.opened).directives)

-- how often a phase with these directives asks for an envelope that was sent before it
abbrev pub asked : World → List Directive → ℕ → ℕ
asked w directives k =
    let e = slice_get w.envelopes k in
    if list_any (loses e) directives then 0 else (if list_any (repeats e) directives then 2 else 1)

abbrev pub times : List ℕ → ℕ → ℕ
times ks k = length (filter (λ x. x == k) ks)

-- how often an envelope may still be delivered: once where it was sent in the phase; where it was sent in the phase before, as often as the
-- phase asks, unless it was delivered then
abbrev pub left_told : World → List Directive → Notes → ℕ → ℕ
left_told w directives n k =
    (if nat_lt k n.sent then (if has n.delivered_before k then 0 else asked w directives k) else 1) - times n.delivered k

abbrev pub waiting_told : World → List Directive → Notes → List Undelivered
waiting_told w directives n =
    map (λ k. record { number = k; left = left_told w directives n k; pending = nat_lt k n.sent })
    (filter (λ k. nat_lt 0 (left_told w directives n k)) (range_with_len n.sent_before (length w.envelopes - n.sent_before)))

abbrev pub progress_told : Script → World → Notes → Progress
progress_told script w n =
    let todo = todo_told script n in
    record {
      world = w;
      phase = n.opened;
      todo = todo;
      waiting = waiting_told w (phase_of script n.opened).directives n;
      ticked = n.ticked;
      targets = if is_nil todo then n.targets else [];
    }
