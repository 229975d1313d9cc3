-- An input that is not too long comes to what is defined.
use Rattle.std.proofs.Common.{◌≡◌, ◌≤◌, length, sym, subst, rules}
use Rattle.std.specs.Prelude.{vec_len}
use Rattle.journal_commands.specs.Endings.{most_journal_input}
use Rattle.journal_commands.proofs.Answered.{then-IfOk}
use Rattle.picture_commands.proofs.Replayed.{short-is}
use Rattle.picture_commands.proofs.replaying.answer_replay.Goals as goal

pub returns : goal.returns
returns c =
    let many : length c.args.input.items ≡ vec_len c.args.input = search rules in
    let short : length c.args.input.items ≤ most_journal_input = subst (λ n. n ≤ most_journal_input) (sym many) c.requires in
    then-IfOk c.journal_answer.result c.journal_answer.ensures _ (λ outcome h. short-is c.args.form c.args.input.items outcome short h)
