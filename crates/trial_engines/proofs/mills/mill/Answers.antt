use Rattle.std.proofs.Common.{◌≡◌, ℕ, List, [], ◌∷◌, Ok, Err, Some, Result, IfOk, slice_get, refl, ◌∙◌, ap}
use Rattle.dpc_lists.specs.declared.faults.NoMemory.{NoMemory}
use Rattle.dpc_model.specs.declared.plans.FragSpec.{FragSpec}
use Rattle.fragment_mill.specs.Mills.{MillState, new_mill}
use Rattle.trial_engines.proofs.mills.mill.Goals as goal

made-next : (r : Result MillState NoMemory) (w : ℕ) (frags : List FragSpec) (f : FragSpec) → frags ≡ f ∷ [] →
    IfOk r (λ m. (g : FragSpec) → slice_get frags 0 ≡ Some g → m ≡ new_mill w g.ops) → IfOk r (λ m. m.next ≡ 0)
made-next (Ok m) w frags f e h = ap (λ (n : MillState). n.next) (h f (rw e refl))
made-next (Err fault) w frags f e h = tt

made-width : (r : Result MillState NoMemory) (v w : ℕ) (frags : List FragSpec) (f : FragSpec) → frags ≡ f ∷ [] → w ≡ v →
    IfOk r (λ m. (g : FragSpec) → slice_get frags 0 ≡ Some g → m ≡ new_mill w g.ops) → IfOk r (λ m. m.width ≡ v)
made-width (Ok m) v w frags f e same h = ap (λ (n : MillState). n.width) (h f (rw e refl)) ∙ same
made-width (Err fault) v w frags f e same h = tt

pub returns-clause-next : goal.returns-clause-next
returns-clause-next c = let one = c.in_ok-plan.ensures.one in made-next c.new.result _ _ one.0 one.1 c.new.ensures.made

pub returns-clause-width : goal.returns-clause-width
returns-clause-width c = let one = c.in_ok-plan.ensures.one in made-width c.new.result 10 _ _ one.0 one.1 c.in_ok-plan.ensures.width c.new.ensures.made
