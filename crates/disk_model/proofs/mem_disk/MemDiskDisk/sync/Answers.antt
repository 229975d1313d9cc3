use Rattle.std.proofs.Common.{rules, sym, ◌∙◌}
use Rattle.disk_model.proofs.mem_disk.MemDiskDisk.sync.Goals as goal

pub returns-in_err-record-clause-answer : goal.returns-in_err-record-clause-answer
returns-in_err-record-clause-answer c = (c.of-seen.result, c.of-seen.ensures, search rules)

pub returns-then-fails_next-clause-answer : goal.returns-then-fails_next-clause-answer
returns-then-fails_next-clause-answer c = (c.of-seen.result, c.of-seen.ensures, (c.in_ok-record.ensures.ok, sym c.fails_next.ensures ∙ c.if-fails_next.true))

pub returns-in_err-record-2-clause-answer : goal.returns-in_err-record-2-clause-answer
returns-in_err-record-2-clause-answer c = (c.of-seen.result, c.of-seen.ensures, search rules)

pub returns-clause-answer : goal.returns-clause-answer
returns-clause-answer c = (c.of-seen.result, c.of-seen.ensures, (c.in_ok-record-2.ensures.ok, sym c.fails_next.ensures ∙ c.if-fails_next.false))
