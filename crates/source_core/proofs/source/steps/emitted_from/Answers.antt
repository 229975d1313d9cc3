use Rattle.std.proofs.Common.{◌≡◌, ◌∙◌, ◌-◌, min, ap, drop, take, rules}
use Rattle.source_core.proofs.Logs.{part-from}
use Rattle.source_core.proofs.source.steps.emitted_from.Goals as goal

pub returns : goal.returns
returns c =
    let start : c.min-start.result ≡ min c.args.first c.args.emitted = search rules in
    ap (λ n. take (c.args.emitted - n) (drop n c.args.log.now)) start ∙ part-from c.args.first c.args.emitted c.args.log.now
