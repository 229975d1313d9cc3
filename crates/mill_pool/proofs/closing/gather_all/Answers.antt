use Rattle.std.proofs.Common.{◌≡◌, ◌+◌, ◌∷◌, ◌++◌, [], ap, sym, ◌∙◌, subst}
use Rattle.crossbeam_queue.specs.Passes.{IsPassOf}
use Rattle.mill_pool.specs.Seats.{known, parts_of, put_by, taken_by}
use Rattle.mill_pool.proofs.Steps.{learns}
use Rattle.mill_pool.proofs.Gathering.{last_of, others_of, last_parts, of_all}
use Rattle.mill_pool.proofs.closing.gather_all.Goals as goal

pub gather-requires-clause-queue : goal.gather-requires-clause-queue
gather-requires-clause-queue g c =
    let all : c.args.seats.items ≡ c.pop.new.self.items ++ c.in-Some.last ∷ [] = (c.in-Some.ensures {u = tt}).items in
    subst (λ s. IsPassOf c.args.queue.now s) (sym c.into_pass-pass.ensures) (last_of c.args.queue.now _ _ _ all c.requires.0)

pub gather-requires-clause-seats : goal.gather-requires-clause-seats
gather-requires-clause-seats g c =
    let all : c.args.seats.items ≡ c.pop.new.self.items ++ c.in-Some.last ∷ [] = (c.in-Some.ensures {u = tt}).items in
    others_of c.args.queue.now _ _ _ all c.requires.0

pub learn_as-requires-clause-rule : goal.learn_as-requires-clause-rule
learn_as-requires-clause-rule g c =
    let all : c.args.seats.items ≡ c.pop.new.self.items ++ c.in-Some.last ∷ [] = (c.in-Some.ensures {u = tt}).items in
    let every = last_parts c.pop.new.self.items c.in-Some.last c.args.seats.items all c.requires.1 in
    learns _ _ (c.gather.ensures.parts ∙ ap (λ s. (known s).parts + parts_of c.pop.new.self.items) c.into_pass-pass.ensures ∙ every)

pub returns : goal.returns
returns g c =
    let all : c.args.seats.items ≡ c.pop.new.self.items ++ c.in-Some.last ∷ [] = (c.in-Some.ensures {u = tt}).items in
    let made = c.learn_as.ensures.rule in (
      made.0,
      of_all _ _ _ _ _ _ all (c.gather.ensures.put ∙ ap (λ s. (known s).put ++ put_by c.pop.new.self.items) c.into_pass-pass.ensures)
          (c.gather.ensures.taken ∙ ap (λ s. (known s).taken ++ taken_by c.pop.new.self.items) c.into_pass-pass.ensures) made.1,
    )
