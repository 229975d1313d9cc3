-- A column for each phase that was opened.
use Rattle.std.proofs.Common.{◌≡◌, ℕ, ◌+◌, true, false, not, cond, ◌==◌, List, [], ◌∷◌, ◌++◌, length, refl, ap, ◌∙◌, arith}
use Rattle.std.specs.List.{count_by, list_all}
use Rattle.std.proofs.lemmas.List.{length-append, length-map}
use Rattle.std.proofs.lemmas.List.Sums.{sum_by-cons}
use Rattle.dpc_lists.proofs.Truths.{both}
use Rattle.dpc_model.specs.declared.messages.Event.{Event}
use Rattle.dpc_model.specs.declared.messages.Event.TheVariants.{Phase, Emit, Release, Cut, Heal, Crash, Restart, Deliver, Tick, Mill}
use Rattle.dpc_model.specs.declared.plans.Plan.{Plan}
use Rattle.dpc_model.specs.declared.scripts.Script.{Script}
use Rattle.world_model.specs.Events.{is_phase}
use Rattle.world_model.specs.Worlds.{World, happens, new_world, run}
use Rattle.picture_model.specs.declared.columns.Column.{Column}
use Rattle.picture_model.specs.Drawing.{Drawing, blank, drawn, column_of, columns_at, opened, drawing_from, drawing, picture_of, with_losses, whole_picture}
use Rattle.picture_model.specs.Marking.{losses_of}
use Rattle.picture_model.specs.Counting.{is_numbered}

-- how many columns there are, with that of the phase that runs
abbrev pub count_at : Drawing → ℕ
count_at d = cond (d.number == 0) (length d.columns) (length d.columns + 1)

counted : (plan : Plan) (w : World) (d : Drawing) → length (columns_at plan w d) ≡ count_at d
counted plan w d =
    elim (d.number == 0) as (λ b. length (cond b d.columns (d.columns ++ column_of plan w d ∷ [])) ≡ cond b (length d.columns) (length d.columns + 1)) [
      | true ↦ refl
      | false ↦ length-append d.columns (column_of plan w d ∷ [])
    ]

-- a phase that opens has a column more
opens : (plan : Plan) (w : World) (p : ℕ) (d : Drawing) → not (p == 0) ≡ true → count_at (opened plan w p d) ≡ count_at d + 1
opens plan w p d h =
    let none : (p == 0) ≡ false = (elim (p == 0) as (λ b. not b ≡ true → b ≡ false) [ true ↦ λ k. absurd (cc) | false ↦ λ k. refl ]) h in
    let all : List Column = columns_at plan w d in
    ap (λ b. cond b (length all) (length all + 1)) none ∙ ap (λ (n : ℕ). n + 1) (counted plan w d)

one-more : (plan : Plan) (w : World) (e : Event) (d : Drawing) → is_numbered e ≡ true → count_at (drawn plan w e d) ≡ count_at d + cond (is_phase e) 1 0
one-more plan w (Phase p) d h = opens plan w p d h
one-more plan w (Emit s t) d h = omega arith
one-more plan w (Release s t) d h = omega arith
one-more plan w (Cut a b) d h = omega arith
one-more plan w (Heal a b) d h = omega arith
one-more plan w (Crash a) d h = omega arith
one-more plan w (Restart a i) d h = omega arith
one-more plan w (Deliver k) d h = omega arith
one-more plan w (Tick a now) d h = omega arith
one-more plan w (Mill a r) d h = omega arith

more : (plan : Plan) (w : World) (d : Drawing) (events : List Event) → list_all is_numbered events ≡ true → count_at (drawing_from plan w d events) ≡ count_at d + count_by is_phase events
more plan w d [] h = omega arith
more plan w d (e ∷ events) h =
    let k = both (is_numbered e) (list_all is_numbered events) h in
    let one = one-more plan w e d k.0 in
    let rest = more plan (happens w e) (drawn plan w e d) events k.1 in
    let sum : count_by is_phase (e ∷ events) ≡ cond (is_phase e) 1 0 + count_by is_phase events = sum_by-cons (λ (x : Event). cond (is_phase x) 1 0) e events in
    omega (arith, one, rest, sum)

pub each-phase : (plan : Plan) (events : List Event) → list_all is_numbered events ≡ true → length (picture_of plan events) ≡ count_by is_phase events
unfolding picture_of drawing
each-phase plan events h =
    let all = more plan (new_world plan) (blank plan) events h in
    counted plan (run plan events) (drawing plan events) ∙ all ∙ omega arith

pub losses-add-none : (script : Script) (events : List Event) → length (whole_picture script events) ≡ length (picture_of script.plan events)
unfolding whole_picture
losses-add-none script events = length-map (picture_of script.plan events) (with_losses (losses_of script))
