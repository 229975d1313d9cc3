use Rattle.std.proofs.Common.{◌≡◌, ◌∙◌, ◌==◌, ap, arith, true, false, ℕ}
use Rattle.std.proofs.lemmas.Grind.{common_steps}
use Rattle.upstream.specs.Upstreams.{UpstreamValue}
use Rattle.client_fold.specs.Folding.{ClientValue}
use Rattle.client_fold.proofs.Batching.{valued, marked, follows-unread, follows-read}
use Rattle.client_fold.proofs.client.Client.on_batch.Goals as goal

pub returns-then-chosen-r-clause-ok : goal.returns-then-chosen-r-clause-ok
returns-then-chosen-r-clause-ok c =
    let chosen = c.chosen.ensures ∙ ap (λ (v : ClientValue). v.upstream.known.chosen) c.self.view_is in
    let other = c.if-chosen-r.true in
    let apart : (c.args.self.now.upstream.known.chosen == c.args.r) ≡ false = grind (arith, common_steps, chosen, other) in
    follows-unread c.args.r c.args.sess c.args.index c.args.items.now c.args.self.now c.end_marks.new.self apart c.end_marks.ensures

pub returns-clause-ok : goal.returns-clause-ok
returns-clause-ok c =
    let chosen = c.chosen.ensures ∙ ap (λ (v : ClientValue). v.upstream.known.chosen) c.self.view_is in
    let one = c.if-chosen-r.false in
    let same : (c.args.self.now.upstream.known.chosen == c.args.r) ≡ true = grind (arith, common_steps, chosen, one) in
    let count = c.count-before.ensures ∙ ap (λ (v : ClientValue). v.inlet.count) c.self.view_is in
    let mid : ClientValue = valued c.self-2.inside.upstream c.self-2.inside.end c.self-2.inside.clock c.self-2.inside.inlet c.self-2.inside.taken.items in
    follows-read c.args.r c.args.sess c.args.index c.args.items.now c.args.self.now c.take.new.self _ same c.in_ok-take.ensures.ok
    (ap (λ (u : UpstreamValue). valued u c.self-2.inside.end c.self-2.inside.clock c.self-2.inside.inlet c.self-2.inside.taken.items) c.end_marks-2.ensures
    ∙ ap (λ (n : ℕ). marked n mid) count ∙ ap (marked c.args.self.now.inlet.count) c.self-2.view_is)
