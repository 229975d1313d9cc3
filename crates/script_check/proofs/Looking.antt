-- The last change of a node decides whether it is down.
use Rattle.std.proofs.Common.{◌≡◌, ℕ, ◌+◌, ◌-◌, ◌<◌, ◌≤◌, Bool, List, take, length, Option, sym, ap, ◌∙◌, arith, get_or}
use Rattle.std.specs.Prelude.{fold, unwrap_or}
use Rattle.std.proofs.lemmas.List.Sums.{fold_more}
use Rattle.dpc_model.specs.declared.scripts.Directive.{Directive}
use Rattle.script_rules.specs.Reasons.{down_after}

pub last_changed : (node : ℕ) (ds : List Directive) (left : ℕ) (x d : Directive) (o : Option Bool) → 0 < left → left ≤ length ds → x ≡ get_or ds (left - 1) d → ((down : Bool) → down_after node down x ≡ unwrap_or o down) → (down : Bool) →
    fold (down_after node) down (take left ds) ≡ unwrap_or o (fold (down_after node) down (take (left - 1) ds))
last_changed node ds left x d o some within is change down =
    let f = down_after node in
    let next : left ≡ (left - 1) + 1 = omega (arith, some) in
    ap (λ k. fold f down (take k ds)) next ∙ fold_more f down ds (left - 1) d (omega (arith, some, within)) ∙ ap (f (fold f down (take (left - 1) ds))) (sym is) ∙ change (fold f down (take (left - 1) ds))
