use Rattle.std.proofs.Common.{rules, ◌≡◌, ◌<◌, ◌-◌, ◌∙◌, ◌+◌, ◌^◌, sym, subst, ap, min, length, arith, Some, None, false}
use Rattle.dpc_lists.specs.Lists.{last_below}
use Rattle.sunion.specs.Values.{SUnionValue}
use Rattle.sunion.specs.Unions.{StandsForInputs, last_due_in}
use Rattle.sunion.specs.contracts.sunion.SUnion.{the_view}
use Rattle.sunion.proofs.Stamping.{is_waiting}
use Rattle.sunion.proofs.Waiting.{behind, overdue-at}
use Rattle.sunion.proofs.Known.{overdue-is, last-within}
use Rattle.sunion.proofs.sunion.SUnion.overdue.Goals as goal

pub returns-in_err-place : goal.returns-in_err-place
returns-in_err-place c = λ x h.
    let v = the_view c.self.inside in
    let u = c.self.inside in
    let old = subst (λ (w : SUnionValue). StandsForInputs w x) (sym c.self.view_is) h in
    let places : c.min-places.result ≡ min (length u.clocks.items) (u.buckets - u.cursor) = search rules in
    let found : last_below (is_waiting u.clocks.items u.closed u.delay c.args.now) c.min-places.result ≡ None = sym c.last_waiting.ensures ∙ c.in_err-place.was in
    c.from_residual.ensures ∙ ap (behind u.cursor) (sym found) ∙ overdue-at u.cursor u.closed u.clocks.items u.delay c.args.now u.buckets c.min-places.result places
    ∙ sym (overdue-is v x c.args.now old) ∙ ap (λ (w : SUnionValue). last_due_in w false c.args.now x) c.self.view_is

pub overflow_add-result : goal.overflow_add-result
overflow_add-result c =
    let u = c.self.inside in
    let found : last_below (is_waiting u.clocks.items u.closed u.delay c.args.now) c.min-places.result ≡ Some c.in_ok-place.place = sym c.last_waiting.ensures ∙ c.in_ok-place.was in
    let within = last-within (is_waiting u.clocks.items u.closed u.delay c.args.now) c.min-places.result c.in_ok-place.place found in
    let places : c.min-places.result ≡ min (length u.clocks.items) (u.buckets - u.cursor) = search rules in
    let fits = c.self.invariant.2 in
    let low : u.cursor + c.in_ok-place.place < 2 ^ 64 = omega (arith, within, places, fits) in search rules

pub returns : goal.returns
returns c = λ x h.
    let v = the_view c.self.inside in
    let u = c.self.inside in
    let old = subst (λ (w : SUnionValue). StandsForInputs w x) (sym c.self.view_is) h in
    let places : c.min-places.result ≡ min (length u.clocks.items) (u.buckets - u.cursor) = search rules in
    let found : last_below (is_waiting u.clocks.items u.closed u.delay c.args.now) c.min-places.result ≡ Some c.in_ok-place.place = sym c.last_waiting.ensures ∙ c.in_ok-place.was in
    ap (behind u.cursor) (sym found) ∙ overdue-at u.cursor u.closed u.clocks.items u.delay c.args.now u.buckets c.min-places.result places
    ∙ sym (overdue-is v x c.args.now old) ∙ ap (λ (w : SUnionValue). last_due_in w false c.args.now x) c.self.view_is
