use Rattle.journal_text.proofs.Reprinted.{is_printed}
use Rattle.journal_text.proofs.laws.what_is_read_is_what_is_printed.Goals as goal

pub returns : goal.returns
returns c = record {
  text = λ plan text events read. (is_printed plan text events read).printed;
  named = λ plan text events read. (is_printed plan text events read).named;
  small = λ plan text events read. (is_printed plan text events read).small;
}
