use Rattle.std.proofs.Common.{◌∙◌, sym}
use Rattle.dpc_model.specs.Sessions.{given_items}
use Rattle.soutput.proofs.BatchLists.{none-of}
use Rattle.source_core.specs.Emitting.{given_upto}
use Rattle.source_core.proofs.giving.batches_upto.Goals as goal

pub returns-then-not-any_open : goal.returns-then-not-any_open
returns-then-not-any_open c =
    c.new.ensures.items
    ∙ sym (none-of (given_items c.args.first (given_upto c.args.log.now c.args.first c.args.upto c.args.boundary)) c.args.sessions.now (sym (c.if-not-any_open.ensures)))
