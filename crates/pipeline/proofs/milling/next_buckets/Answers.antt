use Rattle.std.proofs.Common.{rules, ◌≡◌, ◌+◌, ◌++◌, ◌∷◌, [], ◌∙◌, ℕ, List, ap, sym}
use Rattle.dpc_model.specs.declared.tuples.Tagged.{Tagged}
use Rattle.sunion.specs.Unions.{bucket_in}
use Rattle.law_buckets.specs.Series.{buckets_from}
use Rattle.pipeline.proofs.OneMore.{buckets-more}
use Rattle.pipeline.proofs.milling.next_buckets.Goals as goal

pub loop-i-preserved : goal.loop-i-preserved
loop-i-preserved c = λ x h ready.
    let w = c.args.inputs.now.width in
    let i = c.loop-i.i in
    let bucket = c.from_vec.result in
    let same : bucket ≡ bucket_in w x (x.cursor + i) =
    c.from_vec.ensures ∙ c.in_ok-bucket.ensures x h ready.ordered ∙ ap (λ (n : ℕ). bucket_in w x (n + i)) (c.cursor-first.ensures ∙ h.cursor) in
    let pushed : c.push.new.self.items ≡ c.loop-i.buckets.items ++ bucket ∷ [] = search rules in
    pushed ∙ ap (λ (bs : List (List Tagged)). bs ++ bucket ∷ []) (c.loop-i.invariant x h ready)
    ∙ ap (λ (b : List Tagged). buckets_from w x x.cursor i ++ b ∷ []) same ∙ sym (buckets-more w x x.cursor i)
