use Rattle.std.proofs.Common.{◌∙◌, ap, sym}
use Rattle.held_tuples.specs.Runs.{is_stable}
use Rattle.held_tuples.proofs.Parts.{same-at}
use Rattle.held_tuples.proofs.run.tuple_at.Goals as goal

pub tuple_in-requires : goal.tuple_in-requires
tuple_in-requires c = ap is_stable c.index-items-place.is ∙ c.requires.stable c.index-items-place.result

pub returns : goal.returns
returns c = λ d.
    (c.tuple_in.ensures.0, same-at c.args.items.now c.args.place d c.index-items-place.result c.requires.within ∙ sym c.index-items-place.is ∙ c.tuple_in.ensures.1)
