-- The parts of the text stand one behind another.
use Rattle.std.proofs.Common.{◌∙◌, ap}
use Rattle.dpc_model.specs.declared.plans.Plan.{Plan}
use Rattle.back_channel.specs.Told.{reader_of}
use Rattle.report.specs.Text.{summary_of}
use Rattle.world_core.specs.Runs.{world_of}
use Rattle.law_pairs.specs.Pairs.{held_at, merge_at}
use Rattle.pair_commands.proofs.Texts.{text-is}
use Rattle.pair_commands.proofs.answering.stream_text.Goals as goal

pub returns : goal.returns
returns c =
    let run = c.args.world.now in
    let x = c.args.pairing.now.first in
    let y = c.args.pairing.now.second in
    text-is c.args.first.now c.args.second.now run.plan run.events x y c.new-text.result.items c.put_names.new.text.items c.put_items.new.text.items c.put_summary.new.text.items c.as_slice.result.now c.summary.result
    c.new-text.ensures.items (c.in_ok-put_names.ensures {u = tt}) (c.in_ok-put_items.ensures {u = tt}).put (c.in_ok-put_summary.ensures {u = tt}).put (c.as_slice.ensures.value ∙ c.requires.items)
    (c.summary.ensures (held_at (world_of run) x) (held_at (world_of run) y) c.requires.stands ∙ ap (λ (plan : Plan). summary_of plan.end (reader_of (merge_at (world_of run) x y))) c.plan.ensures)
