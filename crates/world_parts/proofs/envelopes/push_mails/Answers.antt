use Rattle.std.proofs.Common.{◌≡◌, ℕ, ◌+◌, ◌≤◌, List, ◌++◌, length, map, refl, ap, arith, length-append}
use Rattle.std.proofs.lemmas.List.{length-map}
use Rattle.node_core.specs.declared.packets.Mail.{Mail}
use Rattle.world_parts.specs.Parts.{EnvelopeValue}
use Rattle.world_parts.specs.Counting.{posted}
use Rattle.world_parts.proofs.envelopes.push_mails.Goals as goal

-- what was pushed so far is no more than all
few : (a : ℕ) (now done old : List EnvelopeValue) (rest mails : List Mail) → now ≡ done → done ++ map (posted a) rest ≡ old ++ map (posted a) mails → length now ≤ length old + length mails
few a now done old rest mails same e =
    let here = ap length same in
    let long = simp (length-append, length-map) at (ap length e) in omega (arith, here, long)

pub returns-in_err-push-clause-few : goal.returns-in_err-push-clause-few
returns-in_err-push-clause-few c = few c.args.sender _ c.loop-mail.envelopes.items c.args.envelopes.now.items c.loop-mail.mail-iterator.rest.items c.args.mails.items c.in_err-push.ensures.items c.loop-mail.invariant

pub returns-in_err-narrow-clause-few : goal.returns-in_err-narrow-clause-few
returns-in_err-narrow-clause-few c = few c.args.sender _ c.loop-mail.envelopes.items c.args.envelopes.now.items c.loop-mail.mail-iterator.rest.items c.args.mails.items refl c.loop-mail.invariant
