-- A replay of an upgraded script stops at the same place.
use Rattle.std.proofs.Common.{◌≡◌, ℕ, ◌+◌, Bool, true, false, not, ◌&&◌, cond, List, [], ◌∷◌, length, refl, ap, ◌∙◌}
use Rattle.std.specs.Prelude.{nat_lt, ◌||◌, if◌then◌else◌}
use Rattle.dpc_model.specs.Limits.{most_envelopes, most_items}
use Rattle.dpc_model.specs.declared.messages.Event.{Event}
use Rattle.dpc_model.specs.declared.scripts.Script.{Script}
use Rattle.dpc_model.specs.ScriptText.{upgraded}
use Rattle.world_model.specs.Worlds.{World, Envelope, Sums, happens, item_count, items_in, sums_of, sums_after, passes_limit}
use Rattle.world_model.specs.Schedules.{Progress, first_progress, next_progress, may_follow, is_phase_complete, phase_left}
use Rattle.world_model.specs.Replays.{ReplayEnd, Refused, Passes, Unfinished, Whole, is_at_end, replay_from, replay_end}
use Rattle.law_upgrade.specs.Upgrading.{upgraded_plan, upgraded_world, upgraded_progress}
use Rattle.law_upgrade.proofs.Events.{happens-same}
use Rattle.law_upgrade.proofs.Journals.{next-same, first-same, follow-same}

-- ---- what an event would reach

counts-same : (w : World) (es : List Envelope) → item_count (upgraded_world w) es ≡ item_count w es
counts-same w [] = refl
counts-same w (e ∷ es) = ap (λ n. items_in w.plan e.to e.packet + n) (counts-same w es)

sums-same : (w : World) → sums_of (upgraded_world w) ≡ sums_of w
sums-same w = ap (λ (n : ℕ). let s : Sums = record { envelopes = length w.envelopes; items = n } in s) (counts-same w w.envelopes)

after-same : (w : World) (e : Event) → sums_after (upgraded_world w) e ≡ sums_after w e
after-same w e = ap sums_of (happens-same w e) ∙ sums-same (happens w e)

passes-same : (w : World) (e : Event) → passes_limit (upgraded_world w) e ≡ passes_limit w e
passes-same w e = ap past (after-same w e)
  where
    past : Sums → Bool
    past s = nat_lt most_envelopes s.envelopes || nat_lt most_items s.items

-- ---- where the replay stops

abbrev stop_at : Bool → Bool → ℕ → Sums → ReplayEnd → ReplayEnd
stop_at can pass k s rest = elim can [ false ↦ Refused k | true ↦ elim pass [ true ↦ Passes k s | false ↦ rest ] ]

from-same : (s : Script) (x : Progress) (k : ℕ) (es : List Event) → replay_from (upgraded s) (upgraded_progress x) k es ≡ replay_from s x k es
from-same s x k [] = refl
from-same s x k (e ∷ es) =
    let rest : replay_from (upgraded s) (next_progress (upgraded s) (upgraded_progress x) e) (k + 1) es ≡ replay_from s (next_progress s x e) (k + 1) es =
    ap (λ (y : Progress). replay_from (upgraded s) y (k + 1) es) (next-same s x e) ∙ from-same s (next_progress s x e) (k + 1) es in
    let w = x.world in
    ap (λ (r : ReplayEnd). stop_at (may_follow (upgraded s) (upgraded_progress x) e) (passes_limit (upgraded_world w) e) k (sums_after (upgraded_world w) e) r) rest
    ∙ ap (λ (t : Sums). stop_at (may_follow (upgraded s) (upgraded_progress x) e) (passes_limit (upgraded_world w) e) k t (replay_from s (next_progress s x e) (k + 1) es)) (after-same w e)
    ∙ ap (λ (b : Bool). stop_at (may_follow (upgraded s) (upgraded_progress x) e) b k (sums_after w e) (replay_from s (next_progress s x e) (k + 1) es)) (passes-same w e)
    ∙ ap (λ (b : Bool). stop_at b (passes_limit w e) k (sums_after w e) (replay_from s (next_progress s x e) (k + 1) es)) (follow-same s x e)

pub replays-same : (s : Script) (events : List Event) → replay_end (upgraded s) events ≡ replay_end s events
unfolding replay_end
replays-same s events = ap (λ (x : Progress). replay_from (upgraded s) x 0 events) (first-same s) ∙ from-same s (first_progress s) 0 events
