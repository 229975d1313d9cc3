use Rattle.std.proofs.Common.{rules, ◌≡◌, ◌∙◌, length}
use Rattle.world_parts.proofs.EnvelopeEnds.{envelopes_counted}
use Rattle.world_parts.proofs.parts.WorldParts.envelope_count.Goals as goal

pub returns : goal.returns
returns c plan x h = let all : c.len.result ≡ length c.args.self.now.envelopes = search rules in all ∙ envelopes_counted plan c.args.self.now x h
