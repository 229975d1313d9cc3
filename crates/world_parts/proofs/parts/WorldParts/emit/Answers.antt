use Rattle.std.proofs.Common.{◌≡◌, refl, sym, ap, length, arith, subst}
use Rattle.dpc_model.specs.declared.messages.Event.TheVariants.{Emit}
use Rattle.dpc_model.specs.declared.plans.Plan.{Plan}
use Rattle.node_model.specs.Mails.{mails}
use Rattle.node_model.specs.Sources.{source_emits}
use Rattle.source_core.specs.Emitting.{IsSourceOf, after_step}
use Rattle.world_parts.specs.Parts.{WorldPartsValue}
use Rattle.world_parts.specs.Counting.{IsWithinLimits}
use Rattle.world_parts.proofs.Posting.{nothing-happened}
use Rattle.world_parts.proofs.Sources.{source-low, source-here, source-of, step-ok, step-would}
use Rattle.world_parts.proofs.SourceEvents.{emit-void, emit-step}
use Rattle.world_parts.proofs.parts.WorldParts.emit.Goals as goal

pub returns-in_default-clause-ok : goal.returns-in_default-clause-ok
returns-in_default-clause-ok c =
    let within = subst (λ (v : WorldPartsValue). IsWithinLimits v) c.self.view_is (record { envelopes = c.self.invariant.0; items = c.self.invariant.1 }) in
    nothing-happened c.args.roster.now c.args.self.now _ within (λ x h. emit-void c.args.roster.now c.args.actor c.args.time x (c.in_default.ensures.none refl) h.plan_is)

pub index_mut-requires : goal.index_mut-requires
index_mut-requires c =
    let low = source-low c.args.roster.now c.args.self.now c.args.actor c.in-Some.source c.requires.some c.in-Some.ensures.some.0 in
    let same = ap (λ (v : WorldPartsValue). length v.sources) c.self.view_is in omega (arith, low, same, c.self.inside.sources.ok)

pub emit-requires : goal.emit-requires
emit-requires c =
    let plan = c.args.roster.now in
    let old = c.args.self.now in
    let s = c.in-Some.source in
    let v = c.index_mut.result.now in
    let of : IsSourceOf plan v = source-of plan old s v c.requires.some (source-here plan old _ c.args.actor s v c.requires.some c.in-Some.ensures.some.0 c.self.view_is c.index_mut.ensures.value) in
    record { source = subst (λ (p : Plan). IsSourceOf p v) (sym c.plan.ensures) of }

pub returns-clause-ok : goal.returns-clause-ok
returns-clause-ok c =
    let plan = c.args.roster.now in
    let old = c.args.self.now in
    let a = c.args.actor in
    let s = c.in-Some.source in
    let t = c.args.time in
    let v = c.index_mut.result.now in
    let outs = c.in_ok-outs.outs.items in
    let sends = subst (λ (p : Plan). mails outs ≡ (source_emits p v.number t v.state).sends) c.plan.ensures c.in_ok-outs.ensures.sends in
    let after = subst (λ (p : Plan). c.emit.new.self ≡ after_step v (source_emits p v.number t v.state)) c.plan.ensures c.in_ok-outs.ensures.after in
    let did = emit-step plan old _ a s t v outs c.requires.some c.in-Some.ensures.some.0 c.in-Some.ensures.some.1 c.self.view_is c.index_mut.ensures.value sends in
    step-ok plan old _ c.post.new.self a s (Emit a t) (λ y. source_emits plan v.number t y) v c.emit.new.self outs c.in_ok-mails.mails.items c.post.result c.self.view_is did after c.in_ok-mails.ensures c.post.ensures.ok c.post.ensures.within

pub returns-clause-long : goal.returns-clause-long
returns-clause-long c = λ envelopes items e.
    let plan = c.args.roster.now in
    let old = c.args.self.now in
    let a = c.args.actor in
    let s = c.in-Some.source in
    let t = c.args.time in
    let v = c.index_mut.result.now in
    let outs = c.in_ok-outs.outs.items in
    let sends = subst (λ (p : Plan). mails outs ≡ (source_emits p v.number t v.state).sends) c.plan.ensures c.in_ok-outs.ensures.sends in
    let after = subst (λ (p : Plan). c.emit.new.self ≡ after_step v (source_emits p v.number t v.state)) c.plan.ensures c.in_ok-outs.ensures.after in
    let did = emit-step plan old _ a s t v outs c.requires.some c.in-Some.ensures.some.0 c.in-Some.ensures.some.1 c.self.view_is c.index_mut.ensures.value sends in
    step-would plan old _ a s (Emit a t) (λ y. source_emits plan v.number t y) v c.emit.new.self outs c.in_ok-mails.mails.items envelopes items c.self.view_is did after c.in_ok-mails.ensures (c.post.ensures.long envelopes items e)
