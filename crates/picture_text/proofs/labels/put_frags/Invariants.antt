use Rattle.std.proofs.Common.{◌≡◌, ◌++◌, take}
use Rattle.std.specs.Prelude.{flat_map}
use Rattle.picture_text.specs.Text.{replica_labels}
use Rattle.picture_text.proofs.labels.put_frags.Given as goal

abbrev pub invariant-loop-frag : goal.invariant-loop-frag
invariant-loop-frag l = l.labels.items ≡ l.fn.labels.items ++ flat_map replica_labels (take l.frag-index l.frags)
