-- Before anything is told, what is shown is true.
use Rattle.std.proofs.Common.{◌≡◌, [], ◌∷◌, refl, sym, ◌∙◌, zero-le}
use mathlib.Core.Option.{some-ne-none}
use Rattle.dpc_model.specs.Streams.{time_of}
use Rattle.dpc_model.specs.Fragments.{ideal, ideal_upto, AreSoundFrags}
use Rattle.dpc_model.specs.declared.plans.Plan.{Plan}
use Rattle.dpc_model.specs.declared.plans.StreamRef.{StreamRef}
use Rattle.dpc_model.proofs.Cuts.{none-below, none_below-zero}
use Rattle.dpc_model.proofs.IdealCausality.{cut-ideal_upto}
use Rattle.node_model.specs.Clients.{client_stream}
use Rattle.live_view.specs.Showing.{IsTrueShown, Keeps, unseen}
use Rattle.live_view.specs.declared.shown.Shown.{Shown}
use Rattle.live_view.proofs.Keeping.{admits}

-- no tuple lies below time 0
none-upto : (plan : Plan) (s : StreamRef) → AreSoundFrags plan.frags → ideal_upto plan s 0 ≡ []
none-upto plan s sound = sym (cut-ideal_upto plan s 0 0 sound zero-le) ∙ none-below time_of 0 0 (ideal_upto plan s 0) zero-le (none_below-zero time_of (ideal_upto plan s 0))

pub nothing-true : (plan : Plan) (x : Shown) → AreSoundFrags plan.frags → x.tuples ≡ [] → x.bound ≡ 0 → IsTrueShown plan x
nothing-true plan x sound none zero =
    let s = client_stream plan x.client in
    rw (none, zero) ((ideal plan s, refl), rw (none-upto plan s sound) zero-le)

-- and the one seat has seen nothing
pub opens : (plan : Plan) (x : Shown) → IsTrueShown plan x → Keeps plan x (unseen ∷ [])
opens plan x h = admits plan x [] (h, λ seat v e. absurd (some-ne-none v (sym e)))
