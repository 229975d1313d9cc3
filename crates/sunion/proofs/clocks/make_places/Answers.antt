use Rattle.std.proofs.Common.{◌∙◌, ◌≡◌, ◌++◌, ◌∷◌, [], ap, rules, List, ℕ, Option, None}
use Rattle.sunion.specs.Clocks.{stamps_from}
use Rattle.sunion.proofs.Stamping.{stamps_from-push}
use Rattle.sunion.proofs.clocks.make_places.Goals as goal

pub loop-clocks-preserved : goal.loop-clocks-preserved
loop-clocks-preserved c = λ first.
    let pushed : c.push_back.new.self.items ≡ c.loop-clocks.clocks.items ++ None ∷ [] = search rules in
    ap (λ (cs : List (Option ℕ)). stamps_from first cs) pushed ∙ stamps_from-push first c.loop-clocks.clocks.items ∙ c.loop-clocks.invariant first
