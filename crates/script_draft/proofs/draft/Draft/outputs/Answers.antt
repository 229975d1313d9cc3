use Rattle.std.proofs.Common.{◌≡◌, ◌∷◌, ◌++◌, [], true, false, sym, ap, ◌∙◌, subst, arith}
use Rattle.std.specs.Prelude.{unwrap_or, None}
use Rattle.std.proofs.lemmas.Bool.{eqb-true, eqb-false}
use Rattle.dpc_lists.specs.Lists.{last_or, is_nil}
use Rattle.script_draft.specs.Columns.{outputs_behind, source_columns}
use Rattle.script_draft.proofs.Columns.{outputs-whole, outputs-none, nil-none, nil-some}
use Rattle.script_draft.proofs.draft.Draft.outputs.Goals as goal

pub returns-then-is_empty : goal.returns-then-is_empty
returns-then-is_empty c =
    let zero_long = eqb-true _ 0 (sym c.if-is_empty.ensures) in
    let none : is_nil c.self.inside.frags.items ≡ true = nil-none c.self.inside.frags.items (omega (arith, zero_long, c.self.inside.frags.ok)) in
    let same : c.in_ok-columns.columns.items ≡ c.self.inside.earlier.items = c.in_ok-columns.ensures.items ∙ c.as_slice.ensures.value in
    subst (λ d. c.in_ok-columns.columns.items ≡ outputs_behind (source_columns d.sources) [] d.frags) c.self.view_is (same ∙ outputs-none _ _ _ _ _ c.self.invariant.columns none)

pub returns : goal.returns
returns c =
    let long = eqb-false _ 0 (sym c.if-is_empty.ensures) in
    let some : is_nil c.self.inside.frags.items ≡ false = nil-some c.self.inside.frags.items (λ e. long (omega (arith, e, c.self.inside.frags.ok))) in
    let same : c.in_ok-columns.columns.items ≡ c.self.inside.earlier.items = c.in_ok-columns.ensures.items ∙ c.as_slice.ensures.value in
    let last : c.last_number.result ≡ unwrap_or (last_or None c.self.inside.outs.items) 0 = rw c.as_slice-2.ensures.value at c.last_number.ensures in
    let all : c.push.new.self.items ≡ c.self.inside.earlier.items ++ unwrap_or (last_or None c.self.inside.outs.items) 0 ∷ [] =
    c.in_ok-push.ensures.items ∙ ap (λ l. l ++ c.last_number.result ∷ []) same ∙ ap (λ n. c.self.inside.earlier.items ++ n ∷ []) last in
    subst (λ d. c.push.new.self.items ≡ outputs_behind (source_columns d.sources) [] d.frags) c.self.view_is (all ∙ outputs-whole _ _ _ _ _ c.self.invariant.columns some)
