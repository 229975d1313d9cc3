use Rattle.std.proofs.Common.{◌∙◌, ap, refl}
use Rattle.dpc_model.specs.Sessions.{no_session}
use Rattle.node_model.specs.Sources.{source_beat}
use Rattle.source_core.proofs.Sends.{told-more}
use Rattle.source_core.proofs.giving.beats.Goals as goal

pub loop-reader-preserved : goal.loop-reader-preserved
loop-reader-preserved c =
    told-more c.loop-reader.reader c.args.readers.now c.args.sessions.now c.loop-reader.outs.items c.push.new.self.items _ 0 no_session c.loop-reader-test.true c.requires c.loop-reader.invariant
    c.in_ok-push.ensures.items refl (c.beat-message.ensures ∙ ap source_beat c.tally.ensures)
