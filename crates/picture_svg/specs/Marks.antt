-- One letter for what happened.
use Rattle.std.specs.Prelude.{ℕ, Bool, ◌==◌, if◌then◌else◌, List, [], ◌∷◌, ◌++◌}
use Rattle.dpc_lists.specs.Lists.{list_any}
use Rattle.picture_model.specs.declared.columns.Column.{Column}
use Rattle.picture_model.specs.declared.columns.Mark.{Mark}
use Rattle.picture_model.specs.declared.columns.Mark.TheVariants.{Cut, Heal, Lose, Repeat, Crash, Restart, Grant}

-- c, h, l, 2, x, r or g
abbrev pub mark_letter : Mark → ℕ
mark_letter (Cut a b) = 99
mark_letter (Heal a b) = 104
mark_letter (Lose a b) = 108
mark_letter (Repeat a b) = 50
mark_letter (Crash a) = 120
mark_letter (Restart a i) = 114
mark_letter (Grant a b) = 103

abbrev pub has_letter : ℕ → Column → Bool
has_letter letter c = list_any (λ m. mark_letter m == letter) c.marks

-- this letter, where it happened in one of these phases
abbrev pub kind_in : List Column → ℕ → List ℕ
kind_in columns letter = if list_any (has_letter letter) columns then letter ∷ [] else []

-- what happened in these phases, each kind once
abbrev pub kinds_in : List Column → List ℕ
kinds_in columns =
    kind_in columns 99 ++ kind_in columns 104 ++ kind_in columns 108 ++ kind_in columns 50 ++ kind_in columns 120 ++ kind_in columns 114 ++ kind_in columns 103
