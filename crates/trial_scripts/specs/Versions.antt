-- Versions 2 and 3 beside version 1.
use Rattle.std.specs.Prelude.{◌≡◌, ℕ, ◌++◌, List, Some, codes, refl}
use Rattle.script_rules.specs.declared.reasons.Reason.TheVariants.{ForeignWord, OutOfRange, OutOfPart, PartMissing}
use Rattle.trial_scripts.specs.Opened.{all_opened, refused_at}

-- a script of version 3 up to a fragment's line
abbrev early : List ℕ
early = codes "borealis 3\nwidth 10\ndelay 5\nend 20\npassing 0\nsource a 1\nfragment f 1 a\n"

pub passing_in_version_1 : refused_at (codes "borealis 1\nwidth 10\ndelay 5\nend 20\npassing 1\n") ≡ Some (5, ForeignWord)
unfolding all_opened
passing_in_version_1 = refl

pub no_passing : refused_at (codes "borealis 3\nwidth 10\ndelay 5\nend 20\nsource a 1\n") ≡ Some (5, OutOfPart)
unfolding all_opened
no_passing = refl

pub no_passing_at_the_end : refused_at (codes "borealis 3\nwidth 10\ndelay 5\nend 20\n") ≡ Some (5, PartMissing)
unfolding all_opened
no_passing_at_the_end = refl

pub patience_twice : refused_at (early ++ codes "patience 1\npatience 1\n") ≡ Some (9, OutOfPart)
unfolding all_opened
patience_twice = refl

pub patience_behind_operator : refused_at (early ++ codes "filter k a 1\npatience 1\n") ≡ Some (9, OutOfPart)
unfolding all_opened
patience_behind_operator = refl

-- skipped lines don't count
pub patience_behind_comment : refused_at (early ++ codes "# between\n\npatience 1000000000000\n") ≡ Some (11, PartMissing)
unfolding all_opened
patience_behind_comment = refl

pub long_times : refused_at (codes "borealis 3\nwidth 1125899906842624\ndelay 0\nend 4611686018427387904\n") ≡ Some (4, OutOfRange)
unfolding all_opened
long_times = refl
