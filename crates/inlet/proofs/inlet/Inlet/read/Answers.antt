use Rattle.std.proofs.Common.{sym}
use Rattle.inlet.proofs.Taking.{reads-old, reads-behind, reads-refused, reads-taken}
use Rattle.inlet.proofs.inlet.Inlet.read.Goals as goal

pub returns-then-is_old : goal.returns-then-is_old
returns-then-is_old c = reads-old c.args.sess c.args.index c.args.items.now c.args.self.now (sym c.if-is_old.ensures)

pub returns-then-is_behind : goal.returns-then-is_behind
returns-then-is_behind c = reads-behind c.args.sess c.args.index c.args.items.now c.args.self.now (sym c.if-is_old.ensures) (sym c.if-is_behind.ensures)

pub returns-in_default : goal.returns-in_default
returns-in_default c =
    reads-refused c.args.sess c.args.index c.args.items.now c.args.self.now c.draft-draft.result c.fold.new.self (sym c.if-is_old.ensures) (sym c.if-is_behind.ensures) c.draft-draft.ensures
    (rw c.in_default.is at c.in_ok-taken.ensures)

pub returns : goal.returns
returns c =
    reads-taken c.args.sess c.args.index c.args.items.now c.args.self.now c.draft-draft.result c.fold.new.self c.in-Some.taken (sym c.if-is_old.ensures) (sym c.if-is_behind.ensures) c.draft-draft.ensures
    (rw c.in-Some.is at c.in_ok-taken.ensures)
