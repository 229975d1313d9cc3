-- What keeps replicas unmarked.
use Rattle.std.proofs.Common.{◌≡◌, ℕ, zero, suc, Bool, true, false, cond, nat_lt, List, [], ◌∷◌, map, replicate, refl, sym, ◌∙◌, ap, None, Some, Option}
use Rattle.dpc_lists.specs.Lists.{changed}
use Rattle.dpc_model.specs.declared.messages.NodeState.{NodeState}
use Rattle.dpc_model.specs.Replicas.{Watch, new_watch, after_beat, after_tick, after_count, unmarked_at}
use Rattle.input_monitor.specs.Marks.{AreUnmarked}

pub unmarked-new : (n : ℕ) → AreUnmarked (replicate n new_watch)
unmarked-new zero = tt
unmarked-new (suc n) = (refl, unmarked-new n)

unmarked-changed : (i : ℕ) (f : Watch → Watch) (ws : List Watch) → ((w : Watch) → (f w).truncated ≡ w.truncated) → AreUnmarked ws → AreUnmarked (changed i f ws)
unmarked-changed i f [] k h = tt
unmarked-changed zero f (w ∷ ws) k h = (k w ∙ h.0, h.1)
unmarked-changed (suc i) f (w ∷ ws) k h = (h.0, unmarked-changed i f ws k h.1)

beat-keeps : (inc : ℕ) (state : NodeState) (recovering : Bool) (w : Watch) → (after_beat inc state recovering w).truncated ≡ w.truncated
beat-keeps inc state recovering w = elim (nat_lt inc w.inc) as (λ b. (cond b w (record w { inc = inc; ticks = 0; said = Some (state, recovering) })).truncated ≡ w.truncated) [ true ↦ refl | false ↦ refl ]

pub unmarked-beat : (r inc : ℕ) (state : NodeState) (recovering : Bool) (ws : List Watch) → AreUnmarked ws → AreUnmarked (changed r (after_beat inc state recovering) ws)
unmarked-beat r inc state recovering ws h = unmarked-changed r (after_beat inc state recovering) ws (beat-keeps inc state recovering) h

pub unmarked-tick : (ws : List Watch) → AreUnmarked ws → AreUnmarked (map after_tick ws)
unmarked-tick [] h = tt
unmarked-tick (w ∷ ws) h = (h.0, unmarked-tick ws h.1)

-- no mark ends where there is none
count-same : (n : ℕ) (w : Watch) → w.truncated ≡ None → after_count n w ≡ w
count-same n w e = ap (λ (t : Option ℕ). record w { truncated = unmarked_at n t }) e ∙ ap (λ (t : Option ℕ). record w { truncated = t }) (sym e)

pub unmarked-count : (n : ℕ) (ws : List Watch) → AreUnmarked ws → map (after_count n) ws ≡ ws
unmarked-count n [] h = refl
unmarked-count n (w ∷ ws) h = ap (λ (v : Watch). v ∷ map (after_count n) ws) (count-same n w h.0) ∙ ap (λ (vs : List Watch). w ∷ vs) (unmarked-count n ws h.1)
