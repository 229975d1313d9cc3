use Rattle.std.proofs.Common.{drop, ap, ◌∙◌, ◌++◌, ◌+◌}
use Rattle.std.specs.Prelude.{replicate}
use Rattle.script_words.specs.Scans.{repeated_place}
use Rattle.script_words.proofs.Opened.{opens_more}
use Rattle.script_words.proofs.scans.Open.add.Goals as goal

pub returns-then-count-gt0-clause-opened : goal.returns-then-count-gt0-clause-opened
returns-then-count-gt0-clause-opened c places =
    let old = c.args.self.now in
    ap (λ n. replicate (old.count + n) (repeated_place c.args.repeated) ++ drop old.next places) c.from.ensures
    ∙ opens_more old.count c.args.count c.args.repeated old.repeated (drop old.next places) c.if-count-gt0.true c.requires.alike
