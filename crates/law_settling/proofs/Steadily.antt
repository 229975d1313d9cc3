-- Who does not recover past some phase of a live run: in parts of it, at each of its states, and in a steady run.
use Rattle.std.proofs.Common.{◌≡◌, ℕ, zero, suc, ◌+◌, ◌<◌, true, false, List, [], ◌∷◌, ◌++◌, length, sym, ap, subst, ◌∙◌, arith, Option, Some, None}
use Rattle.std.specs.Prelude.{IfSome}
use Rattle.std.proofs.lemmas.List.{append_assoc}
use Rattle.dpc_lists.specs.Lists.{nth}
use Rattle.dpc_model.specs.declared.messages.Event.{Event}
use Rattle.dpc_model.specs.declared.messages.Event.TheVariants.{Phase}
use Rattle.dpc_model.specs.declared.scripts.Script.{Script}
use Rattle.node_model.specs.Nodes.{PlainNode}
use Rattle.world_model.specs.Worlds.{World, Slot, node_place, run}
use Rattle.world_model.specs.Schedules.{progress, is_live_so_far, settling_phases}
use Rattle.world_model.specs.Steady.{NoneRecovers, IsSteady, OpensWell}
use Rattle.law_schedules.specs.Journals.{phases_in}
use Rattle.law_schedules.proofs.Journals.{prefix-live, phases-counted, progress-run}
use Rattle.law_settling.specs.Rests.{RestsAt, RestsPast, AllRestPast}
use Rattle.law_settling.proofs.Along.{steady-along}

-- a node that is up does not recover
pub calm-at : (slots : List Slot) (i : ℕ) (n : PlainNode) → NoneRecovers slots → (nth (record { last_inc = 0; node = None }) slots i).node ≡ Some n → n.recovering ≡ false
calm-at [] i n h e = cc
calm-at (slot ∷ slots) zero n h e = subst (λ (o : Option PlainNode). IfSome o (λ (m : PlainNode). m.recovering ≡ false)) e h.0
calm-at (slot ∷ slots) (suc i) n h e = calm-at slots i n h.1 e

-- ---- a part of a journal

part-of : (events before rest done more : List Event) → events ≡ before ++ rest → before ≡ done ++ more → events ≡ done ++ (more ++ rest)
part-of events before rest done more is at = is ∙ ap (λ (es : List Event). es ++ rest) at ∙ append_assoc done more rest

pub well-part : (script : Script) (events before rest : List Event) → events ≡ before ++ rest → OpensWell script events → OpensWell script before
well-part script events before rest is well done more at = well done (more ++ rest) (part-of events before rest done (Phase (length script.phases + 1) ∷ more) is at)

pub rests-part : (script : Script) (events before rest : List Event) (a floor : ℕ) → events ≡ before ++ rest → RestsPast script events a floor → RestsPast script before a floor
rests-part script events before rest a floor is rests done more at = rests done (more ++ rest) (part-of events before rest done more is at)

-- ---- a live journal

counted : (script : Script) (events done rest : List Event) → is_live_so_far script events ≡ true → events ≡ done ++ rest → (progress script done).phase ≡ phases_in done
counted script events done rest live is = phases-counted script done (prefix-live script done rest (subst (λ (es : List Event). is_live_so_far script es ≡ true) is live))

-- at each of its states past that phase
pub rests-along : (script : Script) (events : List Event) (a floor : ℕ) → is_live_so_far script events ≡ true → RestsPast script events a floor → (done rest : List Event) → events ≡ done ++ rest → floor < (progress script done).phase → RestsAt (progress script done).world a
rests-along script events a floor live rests done rest is far =
    let phase = counted script events done rest live is in
    subst (λ (w : World). RestsAt w a) (sym (progress-run script done)) (rests done rest is (omega (arith, far, phase)))

-- past the first quiet phases of a steady one that is anybody
pub steady-rests : (script : Script) (events : List Event) → is_live_so_far script events ≡ true → IsSteady script events → (a : ℕ) → RestsPast script events a (length script.phases + settling_phases)
steady-rests script events live steady a done more is far f r n role up =
    let phase = counted script events done more live is in
    let w = run script.plan done in
    calm-at w.nodes (node_place w.plan a) n (steady-along script events steady done more is (omega (arith, far, phase))) up

pub steady-all-rest : (script : Script) (events : List Event) → is_live_so_far script events ≡ true → IsSteady script events → (f : ℕ) → AllRestPast script events f (length script.phases + settling_phases)
steady-all-rest script events live steady f a r role = steady-rests script events live steady a
