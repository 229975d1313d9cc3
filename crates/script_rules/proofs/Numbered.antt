-- Reasons by their numbers.
use Rattle.std.proofs.Common.{◌≡◌, ℕ, ◌-◌, Option, Some, refl, sym, ap, ◌∙◌, slice_get}
use Rattle.script_rules.specs.declared.reasons.Reason.{Reason}
use Rattle.script_rules.specs.declared.reasons.Reason.TheVariants.{ForeignByte, ForeignWord, WrongCount, NoNumber, OutOfRange, OutOfPart, NameTaken, Unknown, OutOfTime, NoSuchColumn, ReadsAhead, PartMissing, AgainstState, PastLimit}
use Rattle.script_rules.specs.ReasonTable.{reasons}
use Rattle.script_rules.specs.Laws.{NumbersTell, ReasonsAreListed}

-- the reason with a number
abbrev at_number : ℕ → Option Reason
at_number n = slice_get reasons (n - 1)

pub reasons_listed : ReasonsAreListed
reasons_listed ForeignByte = refl
reasons_listed ForeignWord = refl
reasons_listed WrongCount = refl
reasons_listed NoNumber = refl
reasons_listed OutOfRange = refl
reasons_listed OutOfPart = refl
reasons_listed NameTaken = refl
reasons_listed Unknown = refl
reasons_listed OutOfTime = refl
reasons_listed NoSuchColumn = refl
reasons_listed ReadsAhead = refl
reasons_listed PartMissing = refl
reasons_listed AgainstState = refl
reasons_listed PastLimit = refl

pub numbers_tell : NumbersTell
numbers_tell q r e = let same : Some q ≡ Some r = sym (reasons_listed q) ∙ ap at_number e ∙ reasons_listed r in cc
