use Rattle.std.proofs.Common.{◌≡◌, ◌∷◌, ◌+◌, [], ◌∙◌, true, false, refl, sym}
use Rattle.std.specs.Prelude.{bytes_eq, decimal}
use Rattle.script_draft.proofs.Nodes.{bytes-short, node-name-is}
use Rattle.script_draft.proofs.draft.actors.is_node_name.Goals as goal

pub returns-then-eq : goal.returns-then-eq
returns-then-eq c =
    let front : bytes_eq c.split_at.result.0.now c.args.fragment.now ≡ true = sym c.eq.ensures ∙ c.if-eq.true in
    let behind : c.eq-then-eq.result ≡ bytes_eq c.split_at.result.1.now (46 ∷ (48 + c.args.replica) ∷ []) = rw c.as_slice.ensures at c.eq-then-eq.ensures in
    let is = node-name-is c.args.name.now c.args.fragment.now c.args.replica _ _ c.requires c.if-name-fragment.false c.split_at.ensures.front c.split_at.ensures.back in
    behind ∙ sym (is ∙ rw front refl)

pub returns-else-eq : goal.returns-else-eq
returns-else-eq c =
    let front : bytes_eq c.split_at.result.0.now c.args.fragment.now ≡ false = sym c.eq.ensures ∙ c.if-eq.false in
    let is = node-name-is c.args.name.now c.args.fragment.now c.args.replica _ _ c.requires c.if-name-fragment.false c.split_at.ensures.front c.split_at.ensures.back in
    c.if-eq.false ∙ sym (is ∙ rw front refl)

pub returns-then-name-fragment : goal.returns-then-name-fragment
returns-then-name-fragment c = sym (bytes-short c.args.name.now c.args.fragment.now (46 ∷ decimal c.args.replica) c.if-name-fragment.true)
