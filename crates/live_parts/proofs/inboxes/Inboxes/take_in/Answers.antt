use Rattle.std.proofs.Common.{◌≡◌, ◌∙◌, ◌≤◌, ◌<◌, ◌+◌, ℕ, length, sym, subst, arith}
use Rattle.law_schedules.proofs.Calm.{grown-longer}
use Rattle.world_core.specs.Runs.{world_of}
use Rattle.live_parts.specs.Inboxes.{StandsForWaiting}
use Rattle.live_parts.proofs.Taking.{with_fresh, taken_first, taken_some, taken_all, ends_there}
use Rattle.live_parts.proofs.inboxes.Inboxes.take_in.Goals as goal
use Rattle.live_parts.proofs.inboxes.Inboxes.take_in.Goals.{in-Some+in_ok-push, in_default}

pub loop-number-init : goal.loop-number-init
loop-number-init c = (omega arith, λ h. h, λ w xs s g. taken_first c.args.self.now w (world_of c.args.world.now) xs c.args.first g s)

pub loop-number-preserved : goal.loop-number-preserved
loop-number-preserved c =
    let before = c.loop-number.invariant in
    let first : c.args.first ≤ c.loop-number.number = before.0 in
    let test : c.loop-number.number < c.envelope_count-number-end.result = c.loop-number-test.true in
    let end : c.envelope_count-number-end.result ≡ length (world_of c.args.world.now).envelopes = c.envelope_count-number-end.ensures in
    let less : c.loop-number.number < length (world_of c.args.world.now).envelopes = omega (arith, test, end) in (
      omega (arith, first),
      λ h. omega (arith, test),
      λ w xs s g.
          elim c.match-ends.branch [
            | in-Some+in_ok-push b ↦
                subst (λ (boxes : _). StandsForWaiting boxes (world_of c.args.world.now) (with_fresh xs c.args.first (c.loop-number.number + 1))) (sym b.self-is)
                (taken_some c.loop-number.self b.push.new.self (world_of c.args.world.now) xs c.args.first c.loop-number.number b.in-Some.sender b.in-Some.to first less
                (sym c.ends.ensures ∙ b.in-Some.is) b.in_ok-push.ensures (before.2 w xs s g))
            | in_default b ↦ absurd (ends_there (world_of c.args.world.now) c.loop-number.number less (sym c.ends.ensures ∙ b.in_default.is))
          ],
    )

pub returns : goal.returns
returns c = λ w xs s g e.
    let before = c.loop-number.invariant in
    let done = c.loop-number-test.false in
    let end : c.envelope_count-number-end.result ≡ length (world_of c.args.world.now).envelopes = c.envelope_count-number-end.ensures in
    let longer = grown-longer w (world_of c.args.world.now) g in
    let low : c.args.first ≤ c.envelope_count-number-end.result = omega (arith, e, end, longer) in
    let high = before.1 low in
    let all : c.loop-number.number ≡ length (world_of c.args.world.now).envelopes = omega (arith, end, high, done) in
    taken_all c.loop-number.self w (world_of c.args.world.now) xs c.args.first e
    (subst (λ (k : ℕ). StandsForWaiting c.loop-number.self (world_of c.args.world.now) (with_fresh xs c.args.first k)) all (before.2 w xs s g))
