use Rattle.std.proofs.Common.{◌≡◌, ◌&&◌, true, sym, ap, ◌∙◌}
use Rattle.script_rules.specs.Spelling.{is_name, is_numeral}
use Rattle.script_words.proofs.Values.{node_name_cut, node_name_whole}
use Rattle.script_words.proofs.spelling.is_node_name.Goals as goal

pub returns-then-is_name : goal.returns-then-is_name
returns-then-is_name c =
    let rest = c.in-Some.replica.now in
    let name : is_name c.cut_at_dot.result.0.now ≡ true = sym c.is_name.ensures ∙ c.if-is_name.true in
    c.is_numeral.ensures ∙ ap (λ t. t && is_numeral rest) (sym name)
    ∙ node_name_cut c.args.word.now c.cut_at_dot.result.0.now rest c.cut_at_dot.ensures.front (rw c.in-Some.is at c.cut_at_dot.ensures.parts)

pub returns-else-is_name : goal.returns-else-is_name
returns-else-is_name c =
    let rest = c.in-Some.replica.now in
    c.if-is_name.false ∙ ap (λ t. t && is_numeral rest) (sym c.if-is_name.false ∙ c.is_name.ensures)
    ∙ node_name_cut c.args.word.now c.cut_at_dot.result.0.now rest c.cut_at_dot.ensures.front (rw c.in-Some.is at c.cut_at_dot.ensures.parts)

pub returns-in-None : goal.returns-in-None
returns-in-None c = node_name_whole c.args.word.now c.cut_at_dot.result.0.now c.cut_at_dot.ensures.front (rw c.in-None.is at c.cut_at_dot.ensures.parts)
