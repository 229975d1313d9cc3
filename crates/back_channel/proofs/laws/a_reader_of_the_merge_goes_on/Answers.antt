use Rattle.back_channel.specs.Merging.{merge}
use Rattle.back_channel.proofs.Leading.{leads}
use Rattle.back_channel.proofs.Onward.{goes-on}
use Rattle.back_channel.proofs.laws.a_reader_of_the_merge_goes_on.Goals as goal

pub returns : goal.returns
returns c = λ x y x' y' g k o o'. leads (merge x y) (merge x' y') (goes-on x y x' y' g k o o')
