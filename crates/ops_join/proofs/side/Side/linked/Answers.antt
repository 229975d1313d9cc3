use Rattle.std.proofs.Common.{◌≡◌, ◌+◌, ◌<◌, length, take, refl, ◌∙◌, ap, arith, rules, List, ℕ}
use Rattle.std.proofs.lemmas.List.{length-set, length-take-le}
use Rattle.std.proofs.lemmas.Option.{slice_get_read}
use Rattle.ops_join.proofs.Walks.{one-more}
use Rattle.ops_join.proofs.Steps.{IsIndexOf-push}
use Rattle.ops_join.proofs.side.Side.linked.Goals as goal

pub loop-i-preserved : goal.loop-i-preserved
loop-i-preserved c =
    let self = c.args.self.now in
    let ts = self.tuples.items in
    let i = c.loop-i.i in
    let t = c.index.result.now in
    let heads = c.loop-i.chains.heads.items in
    let low : i < length ts = search rules in
    let many : length (take i ts) ≡ i = length-take-le i ts (omega (arith, low)) in
    let some : 0 < length heads = rw c.loop-i.invariant.slots c.requires in
    record {
      slots = ap (λ (hs : List ℕ). length hs) c.in_ok-push.ensures.heads ∙ length-set heads _ _ ∙ c.loop-i.invariant.slots;
      indexed =
          IsIndexOf-push c.args.end c.args.keys.now self.first (self.first + i + 1) c.code_of-code.result (take i ts) (take (i + 1) ts) t heads c.push.new.self.heads.items c.loop-i.chains.before.items c.push.new.self.before.items
          some c.code_of-code.ensures (omega (arith, many)) (one-more ts i t (slice_get_read ts (length ts) i t refl low c.index.ensures)) c.in_ok-push.ensures.heads c.in_ok-push.ensures.before c.loop-i.invariant.indexed;
    }
