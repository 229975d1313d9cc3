-- Which links are cut behind an event.
use Rattle.std.proofs.Common.{◌≡◌, ℕ, Bool, true, false, cond, not, ◌&&◌, List, refl, sym, ap, ◌∙◌}
use Rattle.std.specs.List.{filter}
use Rattle.dpc_lists.specs.Lists.{push, list_any}
use Rattle.dpc_model.specs.Actors.{are_linked, role_of}
use Rattle.dpc_model.specs.declared.messages.Event.{Event}
use Rattle.dpc_model.specs.declared.messages.Event.TheVariants.{Phase, Emit, Release, Cut, Heal, Crash, Restart, Deliver, Tick, Mill}
use Rattle.dpc_model.specs.declared.plans.Plan.{Plan}
use Rattle.world_model.specs.Worlds.{World, happens, same_pair, link_up}
use Rattle.law_healing.proofs.Links.{emits-cuts, releases-cuts, crashes-cuts, restarts-cuts}
use Rattle.law_schedules.proofs.Calm.{deliver-calm, tick-calm, mill-calm}

-- the pairs behind one that is cut
abbrev pub behind_cut : Plan → ℕ → ℕ → List (ℕ × ℕ) → List (ℕ × ℕ)
behind_cut plan a b cuts = cond (are_linked plan a b && not (list_any (same_pair a b) cuts)) (push cuts (a, b)) cuts

cut-next : (w : World) (a b : ℕ) → (happens w (Cut a b)).cuts ≡ behind_cut w.plan a b w.cuts
cut-next w a b = elim (link_up w a b) as (λ t. World.cuts (cond t (record w { cuts = push w.cuts (a, b) }) w) ≡ cond t (push w.cuts (a, b)) w.cuts) [ true ↦ refl | false ↦ refl ]

pub cuts-cut : (plan : Plan) (w : World) (a b : ℕ) (old new : List (ℕ × ℕ)) → new ≡ behind_cut plan a b old → w.plan ≡ plan → old ≡ w.cuts → new ≡ (happens w (Cut a b)).cuts
cuts-cut plan w a b old new is of same = is ∙ ap (λ (cuts : List (ℕ × ℕ)). behind_cut plan a b cuts) same ∙ ap (λ (p : Plan). behind_cut p a b w.cuts) (sym of) ∙ sym (cut-next w a b)

pub cuts-heal : (w : World) (a b : ℕ) (old new : List (ℕ × ℕ)) → new ≡ filter (λ p. not (same_pair a b p)) old → old ≡ w.cuts → new ≡ (happens w (Heal a b)).cuts
cuts-heal w a b old new is same = is ∙ ap (λ (cuts : List (ℕ × ℕ)). filter (λ p. not (same_pair a b p)) cuts) same

-- an event that cuts and heals nothing
abbrev pub is_wiring : Event → Bool
is_wiring (Phase p) = false
is_wiring (Emit s t) = false
is_wiring (Release s t) = false
is_wiring (Cut a b) = true
is_wiring (Heal a b) = true
is_wiring (Crash a) = false
is_wiring (Restart a i) = false
is_wiring (Deliver k) = false
is_wiring (Tick a now) = false
is_wiring (Mill a r) = false

pub cuts-stay : (w : World) (e : Event) → is_wiring e ≡ false → (happens w e).cuts ≡ w.cuts
cuts-stay w (Phase p) h = refl
cuts-stay w (Emit s t) h = emits-cuts w s t (role_of w.plan s)
cuts-stay w (Release s t) h = releases-cuts w s t (role_of w.plan s)
cuts-stay w (Cut a b) h = absurd (cc)
cuts-stay w (Heal a b) h = absurd (cc)
cuts-stay w (Crash a) h = crashes-cuts w a (role_of w.plan a)
cuts-stay w (Restart a i) h = restarts-cuts w a i (role_of w.plan a)
cuts-stay w (Deliver k) h = (deliver-calm w k).cuts
cuts-stay w (Tick a now) h = (tick-calm w a now).cuts
cuts-stay w (Mill a r) h = (mill-calm w a r).cuts
