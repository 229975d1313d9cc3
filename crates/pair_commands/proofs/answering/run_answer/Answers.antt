-- A run past the limits.
use Rattle.std.proofs.Common.{ap, Err, Option}
use Rattle.world_model.specs.Worlds.{Sums}
use Rattle.pair_commands.specs.Pairs.{run_ending}
use Rattle.pair_commands.proofs.answering.run_answer.Goals as goal

pub returns-in-Err-TooLong : goal.returns-in-Err-TooLong
returns-in-Err-TooLong c =
    let sums : Sums = record { envelopes = c.in-Err-TooLong.envelopes; items = c.in-Err-TooLong.items } in (
      sums,
      ap (λ (o : Option Sums). run_ending c.args.first.now c.args.second.now c.args.script c.args.pairing.first c.args.pairing.second o) (c.in-Err-TooLong.ensures.long c.in-Err-TooLong.envelopes c.in-Err-TooLong.items (ap Err c.in-Err-TooLong.field-0-is)),
      c.in_ok-too_long_line-in-Err-TooLong.ensures {u = tt},
    )
