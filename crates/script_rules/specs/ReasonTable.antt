-- The reasons in order: each one's number, and what it says in words.
use Rattle.std.specs.Prelude.{ℕ, List, [], ◌∷◌, ◌++◌, flat_map, codes, decimal}
use Rattle.script_rules.specs.declared.reasons.Reason.{Reason}
use Rattle.script_rules.specs.declared.reasons.Reason.TheVariants.{ForeignByte, ForeignWord, WrongCount, NoNumber, OutOfRange, OutOfPart, NameTaken, Unknown, OutOfTime, NoSuchColumn, ReadsAhead, PartMissing, AgainstState, PastLimit}

abbrev pub reasons : List Reason
reasons =
    ForeignByte ∷ ForeignWord ∷ WrongCount ∷ NoNumber ∷ OutOfRange ∷ OutOfPart ∷ NameTaken ∷ Unknown ∷ OutOfTime ∷ NoSuchColumn ∷ ReadsAhead ∷ PartMissing
    ∷ AgainstState ∷ PastLimit ∷ []

abbrev pub number_of : Reason → ℕ
number_of ForeignByte = 1
number_of ForeignWord = 2
number_of WrongCount = 3
number_of NoNumber = 4
number_of OutOfRange = 5
number_of OutOfPart = 6
number_of NameTaken = 7
number_of Unknown = 8
number_of OutOfTime = 9
number_of NoSuchColumn = 10
number_of ReadsAhead = 11
number_of PartMissing = 12
number_of AgainstState = 13
number_of PastLimit = 14

-- what a reason says
abbrev pub words_for : Reason → List ℕ
words_for ForeignByte = codes "a byte that is neither printable ASCII nor a line feed"
words_for ForeignWord = codes "a first word that begins no line, or a word that can't stand at its place"
words_for WrongCount = codes "too few or too many words, also of an expression"
words_for NoNumber = codes "no number where one must stand"
words_for OutOfRange = codes "a number out of its range, or an end that is no multiple of the width"
words_for OutOfPart = codes "a line in the wrong part"
words_for NameTaken = codes "a name that is taken, or a stream twice in one fragment"
words_for Unknown = codes "an unknown source, operator input, actor or node, or two actors without a link"
words_for OutOfTime = codes "a log time below the one before, or not below the end"
words_for NoSuchColumn = codes "a column that is not there, a wrong number of values, unequal columns in a union, or more than 8 columns in a result"
words_for ReadsAhead = codes "a fragment or client that reads what was not declared before it"
words_for PartMissing = codes "a part that is missing at begin, or at the end of input no begin, or directives without a tick"
words_for AgainstState = codes "a clock below the one before, a crash of a node that is down, or a restart of one that is up"
words_for PastLimit = codes "past a limit"

-- a reason's line in the table
abbrev pub reason_line : Reason → List ℕ
reason_line r = decimal (number_of r) ++ codes "  " ++ words_for r ++ 10 ∷ []

-- the table
abbrev pub reasons_text : List ℕ
reasons_text = flat_map reason_line reasons
