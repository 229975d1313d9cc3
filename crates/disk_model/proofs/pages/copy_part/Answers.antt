use Rattle.std.proofs.Common.{◌≡◌, List, ℕ, slice_index, take, subst, ap, ◌∙◌}
use Rattle.disk_model.specs.Disk.{part, Holds}
use Rattle.disk_model.proofs.Paged.{cut_is}
use Rattle.disk_model.proofs.pages.copy_part.Goals as goal

pub returns : goal.returns
returns c =
    let is : c.split_at-2.result.0.now ≡ part (slice_index c.args.source.now) c.args.from c.args.count =
    c.split_at-2.ensures.front ∙ ap (take c.args.count) c.split_at.ensures.back ∙ cut_is c.args.source.now c.args.from c.args.count c.requires.within in
    subst (λ (xs : List ℕ). Holds (slice_index c.args.target.now) c.args.to xs (slice_index c.overwrite.new.target)) is c.overwrite.ensures
