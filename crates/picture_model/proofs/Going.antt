-- How a drawing goes on with a run.
use Rattle.std.proofs.Common.{◌≡◌, List, [], ◌∷◌, ◌++◌, refl}
use Rattle.dpc_model.specs.declared.messages.Event.{Event}
use Rattle.dpc_model.specs.declared.plans.Plan.{Plan}
use Rattle.world_model.specs.Worlds.{World, new_world, happens, run_from, run}
use Rattle.picture_model.specs.Drawing.{Drawing, blank, drawn, drawing_from, drawing}

drawing_from-append : (plan : Plan) (w : World) (d : Drawing) (events more : List Event) →
    drawing_from plan w d (events ++ more) ≡ drawing_from plan (run_from w events) (drawing_from plan w d events) more
drawing_from-append plan w d [] more = refl
drawing_from-append plan w d (e ∷ events) more = drawing_from-append plan (happens w e) (drawn plan w e d) events more

pub drawing-none : (plan : Plan) → drawing plan [] ≡ blank plan
unfolding drawing
drawing-none plan = refl

pub drawing-push : (plan : Plan) (events : List Event) (e : Event) → drawing plan (events ++ e ∷ []) ≡ drawn plan (run plan events) e (drawing plan events)
unfolding drawing run
drawing-push plan events e = drawing_from-append plan (new_world plan) (blank plan) events (e ∷ [])
