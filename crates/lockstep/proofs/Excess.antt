-- Which event of a longer journal would pass a limit first.
use Rattle.std.proofs.Common.{◌≡◌, true, false, cond, List, [], ◌∷◌, ◌++◌, Some, None, refl}
use Rattle.dpc_model.specs.declared.messages.Event.{Event}
use Rattle.world_model.specs.Worlds.{World, Sums, happens, run_from, sums_after, passes_limit, excess_from}

-- where there was one, it is the same of more events
pub excess-more : (w : World) (es fs : List Event) (s : Sums) → excess_from w es ≡ Some s → excess_from w (es ++ fs) ≡ Some s
excess-more w [] fs s e = absurd (cc)
excess-more w (x ∷ es) fs s e =
    (elim (passes_limit w x) as (λ b. cond b (Some (sums_after w x)) (excess_from (happens w x) es) ≡ Some s → cond b (Some (sums_after w x)) (excess_from (happens w x) (es ++ fs)) ≡ Some s) [
      | true ↦ λ h. h
      | false ↦ λ h. excess-more (happens w x) es fs s h
    ]) e

-- where there was none, it is that of the events behind
pub excess-behind : (w : World) (es fs : List Event) → excess_from w es ≡ None → excess_from w (es ++ fs) ≡ excess_from (run_from w es) fs
excess-behind w [] fs e = refl
excess-behind w (x ∷ es) fs e =
    (elim (passes_limit w x) as (λ b. cond b (Some (sums_after w x)) (excess_from (happens w x) es) ≡ None → cond b (Some (sums_after w x)) (excess_from (happens w x) (es ++ fs)) ≡ excess_from (run_from (happens w x) es) fs) [
      | true ↦ λ h. absurd (cc)
      | false ↦ λ h. excess-behind (happens w x) es fs h
    ]) e
