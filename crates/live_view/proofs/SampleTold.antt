-- What the sample's client is told is true.
use Rattle.std.proofs.Common.{◌≡◌, ℕ, List, [], ◌∷◌, refl, sym, subst, arith}
use Rattle.dpc_model.specs.Fragments.{ideal, ideal_upto}
use Rattle.dpc_model.specs.declared.plans.Plan.{Plan}
use Rattle.dpc_model.specs.declared.tuples.Item.{Item}
use Rattle.node_model.specs.Clients.{client_stream}
use Rattle.world_model.specs.Safe.{AreTrueItems}
use Rattle.live_view.specs.Telling.{in_batches}
use Rattle.live_view.specs.Samples.{sample_plan, first_items, later_items}

first-true : AreTrueItems sample_plan (client_stream sample_plan 0) (in_batches (first_items ∷ []))
unfolding ideal ideal_upto
first-true = (refl, ((omega arith, refl), tt))

later-true : AreTrueItems sample_plan (client_stream sample_plan 0) (in_batches (later_items ∷ []))
unfolding ideal ideal_upto
later-true = (tt, (tt, (refl, ((omega arith, refl), tt))))

-- what one batch tells
module _ (plan : Plan) (client : ℕ) (items : List Item) (at : plan ≡ sample_plan) (of : client ≡ 0) where
  sample-true : AreTrueItems sample_plan (client_stream sample_plan 0) (in_batches (items ∷ [])) → AreTrueItems plan (client_stream plan client) (in_batches (items ∷ []))
  sample-true h =
      subst (λ p. AreTrueItems p (client_stream p client) (in_batches (items ∷ []))) (sym at)
      (subst (λ n. AreTrueItems sample_plan (client_stream sample_plan n) (in_batches (items ∷ []))) (sym of) h)

  pub first-told : items ≡ first_items → AreTrueItems plan (client_stream plan client) (in_batches (items ∷ []))
  first-told is = sample-true (subst (λ l. AreTrueItems sample_plan (client_stream sample_plan 0) (in_batches (l ∷ []))) (sym is) first-true)

  pub later-told : items ≡ later_items → AreTrueItems plan (client_stream plan client) (in_batches (items ∷ []))
  later-told is = sample-true (subst (λ l. AreTrueItems sample_plan (client_stream sample_plan 0) (in_batches (l ∷ []))) (sym is) later-true)
