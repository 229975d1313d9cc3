use Rattle.std.proofs.Common.{ℕ, ap, sym, length, arith, subst, ◌∙◌}
use Rattle.dpc_model.specs.declared.messages.Event.TheVariants.{Tick}
use Rattle.node_model.specs.Sources.{source_tick_step}
use Rattle.world_model.specs.Worlds.{is_clock}
use Rattle.world_parts.specs.Parts.{WorldPartsValue}
use Rattle.world_parts.specs.Counting.{IsWithinLimits}
use Rattle.world_parts.proofs.Posting.{nothing-happened}
use Rattle.world_parts.proofs.Sources.{source-low, source-here, source-of, step-ok, step-would}
use Rattle.world_parts.proofs.SourceEvents.{tick-void, tick-step}
use Rattle.world_parts.proofs.parts.WorldParts.tick_source.Goals as goal

pub index-requires : goal.index-requires
index-requires c =
    let low = source-low c.args.roster.now c.args.self.now c.args.actor c.args.source c.requires.some c.requires.role in
    let same = ap (λ (v : WorldPartsValue). length v.sources) c.self.view_is in omega (arith, low, same, c.self.inside.sources.ok)

pub index_mut-requires : goal.index_mut-requires
index_mut-requires c =
    let low = source-low c.args.roster.now c.args.self.now c.args.actor c.args.source c.requires.some c.requires.role in
    let same = ap (λ (v : WorldPartsValue). length v.sources) c.self.view_is in omega (arith, low, same, c.self.inside.sources.ok)

pub returns-then-not-is_clock-clause-ok : goal.returns-then-not-is_clock-clause-ok
returns-then-not-is_clock-clause-ok c =
    let plan = c.args.roster.now in
    let old = c.args.self.now in
    let a = c.args.actor in
    let s = c.args.source in
    let now = c.args.now in
    let within = subst (λ (v : WorldPartsValue). IsWithinLimits v) c.self.view_is (record { envelopes = c.self.invariant.0; items = c.self.invariant.1 }) in
    let clock = ap (λ (n : ℕ). is_clock n now) (sym c.clock.ensures) ∙ sym c.if-not-is_clock.ensures in
    let here = source-here plan old _ a s c.index.result.now c.requires.some c.requires.role c.self.view_is c.index.ensures in
    nothing-happened plan old (Tick a now) within (λ x h. tick-void plan old a s now c.index.result.now x c.requires.role here clock h)

pub returns-clause-ok : goal.returns-clause-ok
returns-clause-ok c =
    let plan = c.args.roster.now in
    let old = c.args.self.now in
    let a = c.args.actor in
    let s = c.args.source in
    let now = c.args.now in
    let v = c.index_mut.result.now in
    let outs = c.in_ok-outs.outs.items in
    let of = source-of plan old s v c.requires.some (source-here plan old _ a s v c.requires.some c.requires.role c.self.view_is c.index_mut.ensures.value) in
    let clock = ap (λ (n : ℕ). is_clock n now) (sym c.clock.ensures) ∙ sym c.if-not-is_clock.ensures in
    let did = tick-step plan old _ a s now c.index.result.now v outs c.requires.some c.requires.role c.self.view_is c.index.ensures clock c.index_mut.ensures.value (c.in_ok-outs.ensures.sends plan of) in
    step-ok plan old _ c.post.new.self a s (Tick a now) (λ y. source_tick_step plan v.number now y) v c.tick.new.self outs c.in_ok-mails.mails.items c.post.result c.self.view_is did (c.in_ok-outs.ensures.after plan of) c.in_ok-mails.ensures c.post.ensures.ok c.post.ensures.within

pub returns-clause-long : goal.returns-clause-long
returns-clause-long c = λ envelopes items e.
    let plan = c.args.roster.now in
    let old = c.args.self.now in
    let a = c.args.actor in
    let s = c.args.source in
    let now = c.args.now in
    let v = c.index_mut.result.now in
    let outs = c.in_ok-outs.outs.items in
    let of = source-of plan old s v c.requires.some (source-here plan old _ a s v c.requires.some c.requires.role c.self.view_is c.index_mut.ensures.value) in
    let clock = ap (λ (n : ℕ). is_clock n now) (sym c.clock.ensures) ∙ sym c.if-not-is_clock.ensures in
    let did = tick-step plan old _ a s now c.index.result.now v outs c.requires.some c.requires.role c.self.view_is c.index.ensures clock c.index_mut.ensures.value (c.in_ok-outs.ensures.sends plan of) in
    step-would plan old _ a s (Tick a now) (λ y. source_tick_step plan v.number now y) v c.tick.new.self outs c.in_ok-mails.mails.items envelopes items c.self.view_is did (c.in_ok-outs.ensures.after plan of) c.in_ok-mails.ensures (c.post.ensures.long envelopes items e)
