use Rattle.std.proofs.Common.{◌≡◌, ◌+◌, ◌-◌, ◌/◌, ◌%◌, ℕ, List, Some, None, slice_index, replicate, sym, subst, ap, ◌∙◌, arith}
use Rattle.std.specs.BTreeMap.{get}
use Rattle.std.specs.Ordering.{nat_cmp}
use Rattle.std.specs.Option.{option_copied}
use Rattle.disk_model.specs.Disk.{part, Holds}
use Rattle.disk_model.specs.Paging.{image_of}
use Rattle.disk_model.proofs.Paged.{page_part, zeros_part}
use Rattle.disk_model.proofs.pages.Pages.get_part.Goals as goal

pub returns-in-Some-clause-part : goal.returns-in-Some-clause-part
returns-in-Some-clause-part c =
    let map = c.args.self.now.map in
    let count = c.min-count.result in
    let size : c.args.done + count - c.args.done ≡ count = omega arith in
    let found : get nat_cmp map (c.args.place / 4096) ≡ Some c.in-Some.page.now = sym c.get.ensures.value ∙ ap option_copied c.in-Some.is in
    let same : part (image_of map) c.args.place (c.args.done + count - c.args.done) ≡ part (slice_index c.as_slice.result.now) (c.args.place % 4096) count =
    ap (part (image_of map) c.args.place) size ∙ page_part map c.args.place count _ found (omega (arith, c.min-count.ensures))
    ∙ ap (λ (bytes : List ℕ). part (slice_index bytes) (c.args.place % 4096) count) (sym c.as_slice.ensures.value) in
    subst (λ (xs : List ℕ). Holds (slice_index c.args.buf.now) c.args.done xs (slice_index c.copy_part.new.target)) (sym same) c.copy_part.ensures

pub returns-in-None-clause-part : goal.returns-in-None-clause-part
returns-in-None-clause-part c =
    let map = c.args.self.now.map in
    let count = c.min-count.result in
    let size : c.args.done + count - c.args.done ≡ count = omega arith in
    let found : get nat_cmp map (c.args.place / 4096) ≡ None = sym c.get.ensures.value ∙ ap option_copied c.in-None.is in
    let same : part (image_of map) c.args.place (c.args.done + count - c.args.done) ≡ replicate count 0 =
    ap (part (image_of map) c.args.place) size ∙ page_part map c.args.place count _ found (omega (arith, c.min-count.ensures)) ∙ zeros_part (c.args.place % 4096) count in
    subst (λ (xs : List ℕ). Holds (slice_index c.args.buf.now) c.args.done xs (slice_index c.wipe.new.target)) (sym same) c.wipe.ensures
