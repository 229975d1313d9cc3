use Rattle.std.proofs.Common.{inl, inr, refl, sym, ap, ◌∙◌, List, length, drop}
use Rattle.std.proofs.lemmas.Option.{slice_get_read}
use Rattle.dpc_model.specs.declared.tuples.Item.{Item}
use Rattle.pair_run.proofs.Seeing.{missed, rested, stepped}
use Rattle.pair_run.proofs.pairing.PairingWatcher.see.Goals as goal

pub returns-in_default-clause-saw : goal.returns-in_default-clause-saw
returns-in_default-clause-saw c = λ start before is seen.
    missed start c.args.self.now before c.args.world.now c.args._event c.clients-clients.result.now is seen c.clients-clients.ensures (inr (c.in_default.ensures' {u = tt}).lookup.3)

pub returns-in_default-2-clause-saw : goal.returns-in_default-2-clause-saw
returns-in_default-2-clause-saw c = λ start before is seen.
    missed start c.args.self.now before c.args.world.now c.args._event c.clients-clients.result.now is seen c.clients-clients.ensures (inl (c.in_default.ensures {u = tt}).lookup.3)

pub returns-then-total-self-2-clause-saw : goal.returns-then-total-self-2-clause-saw
returns-then-total-self-2-clause-saw c = λ start before is seen.
    let vs = c.clients-clients.result.now in
    let one = (c.in-Some-Some.ensures {u = tt}).lookup in
    let other = (c.in-Some-Some.ensures' {u = tt}).lookup in
    rested start c.args.self.now before c.args.world.now c.args._event vs c.in-Some-Some.first.now c.in-Some-Some.second.now is seen c.clients-clients.ensures
    (slice_get_read vs (length vs) c.args.self.now.first c.in-Some-Some.first.now refl one.3.0 one.1) (slice_get_read vs (length vs) c.args.self.now.second c.in-Some-Some.second.now refl other.3.0 other.1)
    (sym c.total.ensures ∙ c.if-total-self.true) (sym c.total-then-total-self.ensures ∙ c.if-total-self-2.true)

pub returns-clause-saw : goal.returns-clause-saw
returns-clause-saw c = λ start before is seen.
    let vs = c.clients-clients.result.now in
    let one = (c.in-Some-Some.ensures {u = tt}).lookup in
    let other = (c.in-Some-Some.ensures' {u = tt}).lookup in
    stepped start c.args.self.now before c.args.world.now c.args._event vs c.in-Some-Some.first.now c.in-Some-Some.second.now is seen c.clients-clients.ensures
    (slice_get_read vs (length vs) c.args.self.now.first c.in-Some-Some.first.now refl one.3.0 one.1) (slice_get_read vs (length vs) c.args.self.now.second c.in-Some-Some.second.now refl other.3.0 other.1)
    (record { first = c.args.self.now.first; second = c.args.self.now.second; first_mark = c.total-self.result; second_mark = c.total-self-2.result; pair = c.step.new.self; items = c.append.new.self })
    c.split_at.result.1.now c.split_at-2.result.1.now c.in-Ok.told.items
    (λ low. c.split_at.ensures.back ∙ ap (λ (items : List Item). drop c.in_ok-taken.known items) c.as_slice.ensures.value ∙ (c.in_ok-taken.ensures {u = tt}).taken low)
    (λ low. c.split_at-2.ensures.back ∙ ap (λ (items : List Item). drop c.in_ok-others.others_known items) c.as_slice-2.ensures.value ∙ (c.in_ok-others.ensures {u = tt}).taken low)
    (c.in-Ok.ensures {u = tt}).told refl refl (c.in_ok-append.ensures {u = tt}).items c.total-self.ensures c.total-self-2.ensures
