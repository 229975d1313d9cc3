use Rattle.std.proofs.Common.{length, sym, ap, ◌∙◌}
use Rattle.snapshot_form.specs.Bytes.{snapshot_bytes}
use Rattle.saved_point.proofs.Keeping.{old-or-new, at-each-moment, kept-now, refuses, tells, fits}
use Rattle.saved_point.proofs.point.SavedPoint.save.Goals as goal

pub returns-clause-any_moment : goal.returns-clause-any_moment
returns-clause-any_moment g c plan frag rests savable =
    at-each-moment plan frag _ _ _ _ _ _ savable (ap snapshot_bytes c.in-Ok.ensures.holds) (c.save.ensures.any_moment rests)

pub returns-clause-kept : goal.returns-clause-kept
returns-clause-kept g c plan frag rests savable =
    kept-now plan frag _ _ _ c.save.result savable (ap snapshot_bytes c.in-Ok.ensures.holds) (c.save.ensures.kept rests)

pub returns-clause-whatever : goal.returns-clause-whatever
returns-clause-whatever g c plan frag rests savable =
    old-or-new plan frag _ _ _ _ _ savable (ap snapshot_bytes c.in-Ok.ensures.holds) (c.save.ensures.whatever rests)

pub returns-clause-too_long : goal.returns-clause-too_long
returns-clause-too_long g c fresh long short =
    refuses _ _ _ _ c.save.result c.save.ensures.refused (ap (λ s. length (snapshot_bytes s)) c.in-Ok.ensures.holds) fresh long

pub returns-clause-full : goal.returns-clause-full
returns-clause-full g c need room is =
    let why = c.save.ensures.full need room is in
    tells _ _ _ _ c.save.result c.save.ensures.refused (ap (λ s. length (snapshot_bytes s)) c.in-Ok.ensures.holds) need room is why.0 why.1

pub returns-clause-fits : goal.returns-clause-fits
returns-clause-fits g c =
    fits _ _ _ _ c.save.result c.save.ensures.refused (ap (λ s. length (snapshot_bytes s)) c.in-Ok.ensures.holds) (sym c.must_reopen.ensures ∙ c.if-must_reopen.false)
