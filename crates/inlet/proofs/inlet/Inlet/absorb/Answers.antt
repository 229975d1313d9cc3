use Rattle.std.proofs.Common.{◌∙◌, ap, sym, map, length, List}
use Rattle.std.specs.Borrow.{Bor}
use Rattle.dpc_model.specs.declared.tuples.Item.{Item}
use Rattle.dpc_model.specs.declared.batches.Taken.{Taken}
use Rattle.dpc_model.specs.declared.batches.Taken.TheVariants as taken_as
use Rattle.inlet.specs.Batches.{IsRead}
use Rattle.inlet.specs.Drafts.{committed}
use Rattle.inlet.specs.declared.inlet.Absorbed.TheVariants as absorbed
use Rattle.inlet.specs.declared.inlet.Batch.TheVariants as batch
use Rattle.inlet.proofs.Folds.{times_in}
use Rattle.inlet.proofs.Taking.{takes-next}
use Rattle.inlet.proofs.inlet.Inlet.absorb.Goals as goal

abbrev values : List (Bor Item) → List Item
values items = map (λ (item : Bor Item). item.now) items

pub shared-requires : goal.shared-requires
shared-requires c =
    let read : IsRead c.args.sess c.args.index c.args.items.now c.args.self.now (batch.Next c.in-Next.draft c.in-Next.taken) = rw (c.in-Next.is, c.as_slice.ensures) at c.in_ok-draft.ensures in
    let taken = c.as_slice-in-Next-2.ensures.value in λ e. ap values taken ∙ read.whole (sym (ap (λ (items : List (Bor Item)). length items) taken) ∙ e)

pub returns-in_ok-commit-in-Next-clause-ok : goal.returns-in_ok-commit-in-Next-clause-ok
returns-in_ok-commit-in-Next-clause-ok c =
    let told : Taken = taken_as.Used (values c.in-Next.taken.items) in
    let times = c.in_ok-times-in-Next.ensures ∙ ap (λ (items : List (Bor Item)). times_in (values items)) c.as_slice-in-Next.ensures.value in
    let all = c.in_ok-taken-in-Next.ensures ∙ ap values c.as_slice-in-Next-2.ensures.value in
    let read : IsRead c.args.sess c.args.index c.args.items.now c.args.self.now (batch.Next c.in-Next.draft c.in-Next.taken) = rw (c.in-Next.is, c.as_slice.ensures) at c.in_ok-draft.ensures in (
      told,
      ap absorbed.Used times,
      takes-next c.args.sess c.args.index c.args.items.now c.args.self.now c.commit.new.self c.in-Next.draft c.in-Next.taken read
          (c.in_ok-commit-in-Next.ensures.ok ∙ ap (λ (items : List Item). committed c.args.self.now c.in-Next.draft items) all),
    )
