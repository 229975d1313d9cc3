use Rattle.picture_svg.specs.Lanes.{taken_letters}
use Rattle.picture_svg.proofs.Parts.{three_parts}
use Rattle.picture_svg.proofs.lanes.put_taken.Goals as goal

pub returns : goal.returns
unfolding taken_letters
returns c =
    rw (
      c.in_ok-put_new_letters.ensures,
      c.in_ok-put_rose_letters-2.ensures,
      c.in_ok-put_rose_letters.ensures,
      c.as_slice.ensures.value,
      c.as_slice-2.ensures.value,
      c.as_slice-3.ensures.value,
      c.in_ok-undos.ensures,
      c.in_ok-dones.ensures,
      c.in_ok-reads.ensures,
    )
    (three_parts c.args.text.now.items _ _ _)
