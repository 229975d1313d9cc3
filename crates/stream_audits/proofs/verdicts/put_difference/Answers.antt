use Rattle.std.proofs.Common.{[], ◌∷◌, codes, decimal}
use Rattle.stream_audits.specs.Verdicts.{found_words}
use Rattle.stream_audits.proofs.Words.{line_in_six}
use Rattle.stream_audits.proofs.verdicts.put_difference.Goals as goal

pub returns : goal.returns
returns c =
    rw (c.in_ok-end_line.ensures.put, c.in_ok-put_found-2.ensures, c.in_ok-put_word-2.ensures.put, c.in_ok-put_found.ensures, c.in_ok-put_word.ensures.put, c.in_ok-put_number.ensures.put, c.in_ok-put_first.ensures.put)
    (line_in_six c.args.text.now.items (codes "difference") (decimal c.args.number ∷ []) (codes "had" ∷ []) (found_words c.args.had.now) (codes "ideal" ∷ []) (found_words c.args.ideal.now))
