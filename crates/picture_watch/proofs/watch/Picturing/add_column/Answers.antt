use Rattle.std.proofs.Common.{◌≡◌, ℕ, List, ◌++◌, Option, length, refl, sym, ap, subst, ◌∙◌, rules}
use Rattle.dpc_model.specs.declared.plans.Plan.{Plan}
use Rattle.picture_model.specs.Marking.{grants_between}
use Rattle.picture_watch.specs.Tallies.{AreTallied}
use Rattle.picture_watch.proofs.Seeing.{adds}
use Rattle.picture_watch.proofs.watch.Picturing.add_column.Goals as goal

pub returns : goal.returns
returns c =
    let old = c.args.self.now in
    let seen = c.in_ok-points.field-0 in
    let count : c.len.result ≡ length old.cuts.items = search rules in
    let before = c.args.self.now.promises.items in
    let now = c.args.promises.now in
    let told =
    c.from_vec-4.ensures ∙ c.in_ok-put_grants.ensures ∙ ap (λ v. v.items ++ grants_between c.plan.result.now c.as_slice-3.result.now now) c.replace-marks.ensures.value
    ∙ ap (λ (plan : Plan). old.marks.items ++ grants_between plan c.as_slice-3.result.now now) c.plan.ensures
    ∙ ap (λ (ps : List (Option ℕ)). old.marks.items ++ grants_between c.args.world.now.plan ps now) c.as_slice-3.ensures.value in
    adds c.args.world.now c.clients.result.now c.args.states.items c.args.promises.now old
    (record { columns = c.push.new.self; promises = old.promises; number = old.number; clock = old.clock; sources = old.sources; marks = c.replace-marks.new.dest; cuts = old.cuts; tallies = seen.tallies; losses = old.losses })
    seen c.from_vec.result c.from_vec-2.result c.from_vec-3.result c.len.result c.from_vec-4.result c.clients.ensures
    (λ plan w stand tallied.
    c.in_ok-points.ensures {u = tt} plan w stand (subst (λ ts. AreTallied plan w ts) (sym c.as_slice-2.ensures.value) tallied))
    (c.from_vec.ensures ∙ c.in_ok-sources.ensures.items ∙ c.as_slice.ensures.value)
    c.from_vec-2.ensures
    c.from_vec-3.ensures
    count
    told
    c.in_ok-push.ensures.items refl refl refl refl refl refl refl
