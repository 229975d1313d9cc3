use Rattle.std.proofs.Common.{◌≡◌, ap, sym, subst, length, arith, ◌∙◌}
use Rattle.dpc_model.specs.declared.messages.Event.TheVariants.{Deliver}
use Rattle.dpc_model.specs.declared.plans.Plan.{Plan}
use Rattle.node_model.specs.Mails.{mails}
use Rattle.node_model.specs.Sources.{source_message}
use Rattle.source_core.specs.Emitting.{IsSourceOf, after_step}
use Rattle.world_parts.specs.Parts.{WorldPartsValue, EnvelopeValue}
use Rattle.world_parts.proofs.Posting.{envelope-seen}
use Rattle.world_parts.proofs.Sources.{IsStep, source-low, source-here, source-of, step-ok, step-would}
use Rattle.world_parts.proofs.SourceEvents.{deliver-step, no-snapshot}
use Rattle.world_parts.proofs.parts.WorldParts.deliver_to_source.Goals as goal
use Rattle.world_parts.proofs.parts.WorldParts.deliver_to_source.Goals.{In_ok-mails}

pub returns-in_default-clause-ok : goal.returns-in_default-clause-ok
returns-in_default-clause-ok c =
    let comes = c.requires.comes in
    let plain = no-snapshot c.args.roster.now c.args.self.now c.args.k c.args.source c.requires.some comes in
    let read = c.envelope.view_is ∙ envelope-seen c.args.self.now _ c.args.k comes.envelope c.index-envelope.result.now c.self.view_is comes.is c.index-envelope.ensures in
    absurd (c.in_default.not-Plain plain.0 (ap (λ (e : EnvelopeValue). e.packet) read ∙ plain.1))

pub index_mut-requires : goal.index_mut-requires
index_mut-requires c =
    let low = source-low c.args.roster.now c.args.self.now c.requires.comes.envelope.to c.args.source c.requires.some c.requires.comes.to in
    let same = ap (λ (v : WorldPartsValue). length v.sources) c.self.view_is in omega (arith, low, same, c.self.inside.sources.ok)

pub deliver-requires : goal.deliver-requires
deliver-requires c =
    let plan = c.args.roster.now in
    let old = c.args.self.now in
    let s = c.args.source in
    let v = c.index_mut.result.now in
    let of : IsSourceOf plan v = source-of plan old s v c.requires.some (source-here plan old _ c.requires.comes.envelope.to s v c.requires.some c.requires.comes.to c.self.view_is c.index_mut.ensures.value) in
    subst (λ (p : Plan). IsSourceOf p v) (sym c.plan.ensures) of

-- the source makes the step of the envelope's message
did : (c : In_ok-mails) → IsStep c.args.roster.now c.args.self.now c.to-to.result c.args.source (Deliver c.args.k) (λ y. source_message c.args.roster.now c.index_mut.result.now.number c.sender-sender.result c.in-Plain.message y) c.index_mut.result.now
    c.in_ok-outs.outs.items
did c =
    let old = c.args.self.now in
    let k = c.args.k in
    let comes = c.requires.comes in
    let v = c.index_mut.result.now in
    let outs = c.in_ok-outs.outs.items in
    let sends = subst (λ (p : Plan). mails outs ≡ (source_message p v.number c.sender-sender.result c.in-Plain.message v.state).sends) c.plan.ensures c.in_ok-outs.ensures.sends in
    let seen = sym (envelope-seen old _ k comes.envelope c.index-envelope.result.now c.self.view_is comes.is c.index-envelope.ensures) in
    deliver-step c.args.roster.now old _ k c.args.source c.sender-sender.result c.to-to.result c.in-Plain.message c.index_mut.result.now c.in_ok-outs.outs.items c.requires.some comes
    (ap (λ (e : EnvelopeValue). e.sender) seen ∙ sym c.sender-sender.ensures) (ap (λ (e : EnvelopeValue). e.to) seen ∙ sym c.to-to.ensures) (ap (λ (e : EnvelopeValue). e.packet) (seen ∙ sym c.envelope.view_is) ∙ c.in-Plain.is)
    c.self.view_is c.index_mut.ensures.value sends

-- and stands where it leads
stepped : (c : In_ok-mails) → c.deliver.new.self ≡ after_step c.index_mut.result.now
    (source_message c.args.roster.now c.index_mut.result.now.number c.sender-sender.result c.in-Plain.message c.index_mut.result.now.state)
stepped c =
    let v = c.index_mut.result.now in
    subst (λ (p : Plan). c.deliver.new.self ≡ after_step v (source_message p v.number c.sender-sender.result c.in-Plain.message v.state)) c.plan.ensures c.in_ok-outs.ensures.after

pub returns-clause-ok : goal.returns-clause-ok
returns-clause-ok c =
    let v = c.index_mut.result.now in
    step-ok c.args.roster.now c.args.self.now _ c.post.new.self c.to-to.result c.args.source (Deliver c.args.k) (λ y. source_message c.args.roster.now v.number c.sender-sender.result c.in-Plain.message y) v c.deliver.new.self
    c.in_ok-outs.outs.items c.in_ok-mails.mails.items c.post.result c.self.view_is (did (goal.at.returns-clause-ok c).In_ok-mails) (stepped (goal.at.returns-clause-ok c).In_ok-mails) c.in_ok-mails.ensures c.post.ensures.ok c.post.ensures.within

pub returns-clause-long : goal.returns-clause-long
returns-clause-long c = λ envelopes items long.
    let v = c.index_mut.result.now in
    step-would c.args.roster.now c.args.self.now _ c.to-to.result c.args.source (Deliver c.args.k) (λ y. source_message c.args.roster.now v.number c.sender-sender.result c.in-Plain.message y) v c.deliver.new.self
    c.in_ok-outs.outs.items c.in_ok-mails.mails.items envelopes items c.self.view_is (did (goal.at.returns-clause-long c).In_ok-mails) (stepped (goal.at.returns-clause-long c).In_ok-mails) c.in_ok-mails.ensures (c.post.ensures.long envelopes items long)
