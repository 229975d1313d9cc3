use Rattle.std.proofs.Common.{subst}
use Rattle.left_right.specs.Sides.{view}
use Rattle.live_view.specs.Looking.{LookerState, IsLook}
use Rattle.live_view.proofs.Looks.{is_look}
use Rattle.live_view.proofs.looker.Looker.look.Goals as goal

pub returns-clause-look : goal.returns-clause-look
returns-clause-look g c =
    let h = c.in_ok-replace_with.ensures {u = tt} in
    let s = c.in_ok-replace_with.field-0 in
    subst (λ (l : LookerState). IsLook g.N.ViewName.plan l.client c.args.from s.count s.bound s.tuples) c.self.view_is
    (is_look g.N.ViewName.plan (view c.self.inside.reader.place) h.0 c.args.from s.count s.bound s.tuples c.self.invariant h.1 h.2 h.6)
