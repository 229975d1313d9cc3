use Rattle.std.proofs.Common.{◌≡◌, ◌+◌, suc, ℕ, List, [], ◌∷◌, ◌++◌, map, take, sym, ap, ◌∙◌, arith}
use Rattle.std.proofs.lemmas.List.{map-append}
use Rattle.dpc_model.specs.Words.{Word, spaced, text_of}
use Rattle.dpc_model.specs.Sessions.{stable_items}
use Rattle.dpc_model.specs.declared.tuples.Tuple.{Tuple}
use Rattle.dpc_model.specs.declared.tuples.Item.TheVariants.{Stable}
use Rattle.dpc_model.proofs.StableItems.{stable_items-taken}
use Rattle.line_writer.proofs.Lines.{one_more_line}
use Rattle.report.specs.Text.{item_words}
use Rattle.report.proofs.text.put_numbered.Goals as goal

-- one more line
more : (old : List ℕ) (n k : ℕ) (t : Tuple) (ts us : List Tuple) → stable_items n us ≡ stable_items n ts ++ Stable k t ∷ [] →
    ((old ++ text_of (map item_words (stable_items n ts))) ++ spaced (item_words (Stable k t))) ++ 10 ∷ [] ≡ old ++ text_of (map item_words (stable_items n us))
more old n k t ts us e =
    one_more_line old (map item_words (stable_items n ts)) (item_words (Stable k t))
    ∙ ap (λ (lines : List (List Word)). old ++ text_of lines) (sym (map-append item_words (stable_items n ts) (Stable k t ∷ [])) ∙ ap (map item_words) (sym e))

pub loop-number-preserved : goal.loop-number-preserved
loop-number-preserved c =
    let i = c.loop-number.number in
    let next : i + 1 ≡ suc i = omega arith in
    let taken = stable_items-taken c.args.first i c.args.tuples.now c.index-tuples-number.result c.loop-number-test.true c.index-tuples-number.is in
    rw (c.in_ok-push.ensures.items, c.in_ok-put_stable.ensures.put, c.loop-number.invariant, next)
    (more c.args.text.now.items c.args.first (c.args.first + i) c.index-tuples-number.result (take i c.args.tuples.now) (take (suc i) c.args.tuples.now) taken)
