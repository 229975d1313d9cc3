-- The names that a list of names has left.
use Rattle.std.specs.Prelude.{List, take}
use Rattle.dpc_model.specs.Words.{Word}
use Rattle.script_words.specs.Cursors.{words_left}
use Rattle.script_draft.specs.declared.name_list.NameList.{NameList}

abbrev pub names_in : NameList → List Word
names_in names = take names.left (words_left names.words)
