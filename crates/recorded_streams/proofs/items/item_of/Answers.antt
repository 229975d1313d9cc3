use Rattle.std.proofs.Common.{sym, ◌∙◌}
use Rattle.recorded_streams.specs.Cuts.{pieces_left}
use Rattle.recorded_streams.proofs.Ranges.{item_good}
use Rattle.recorded_streams.proofs.items.item_of.Goals as goal

pub may_stand-requires : goal.may_stand-requires
may_stand-requires c = item_good c.in-Some.word.now (pieces_left c.next.new.self) c.in-Some-2.item (sym c.in_ok-item.ensures ∙ c.in-Some-2.is)
