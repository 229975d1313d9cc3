use Rattle.std.proofs.Common.{◌≡◌, List, [], ◌∷◌, false, refl, sym, ap}
use Rattle.std.proofs.lemmas.Bool.{false≢true}
use Rattle.std.proofs.lemmas.List.{take_all}
use Rattle.dpc_lists.specs.Lists.{is_nil}
use Rattle.dpc_model.specs.declared.plans.FragSpec.{FragSpec}
use Rattle.script_draft.proofs.Names.{any-here, none-more}
use Rattle.script_draft.proofs.fragments.has_empty.Goals as goal

some : {X : Type 0} (xs : List X) → (xs ≡ [] → ⊥) → is_nil xs ≡ false
some [] h = absurd (h refl)
some (x ∷ xs) h = refl

pub returns-then-is_empty : goal.returns-then-is_empty
returns-then-is_empty c =
    let none : c.frag-item.result.ops ≡ [] = c.is_empty.ensures.0 (rw c.if-is_empty.true refl) in
    sym (any-here (λ (f : FragSpec). is_nil f.ops) c.loop-frag.frag-index c.frag-item.result c.frag-item.result c.args.frags.now c.loop-frag-test.true c.frag-item.is (ap is_nil none))

pub loop-frag-preserved : goal.loop-frag-preserved
loop-frag-preserved c =
    none-more (λ (f : FragSpec). is_nil f.ops) c.loop-frag.frag-index c.frag-item.result c.frag-item.result c.args.frags.now c.loop-frag-test.true c.frag-item.is c.loop-frag.invariant
    (some c.frag-item.result.ops (λ e. false≢true (rw c.if-is_empty.false at (c.is_empty.ensures.1 e))))

pub returns : goal.returns
returns c =
    let all = take_all c.loop-frag.frag-index c.args.frags.now c.loop-frag-test.false in
    sym (rw all at c.loop-frag.invariant)
