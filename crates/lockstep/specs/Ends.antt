-- Which directives lose or repeat an envelope, told of its sender and its addressee alone.
use Rattle.std.specs.Prelude.{ℕ, Bool, false, not, ◌&&◌, ◌==◌, List, filter, Option, Some, None}
use Rattle.dpc_model.specs.declared.scripts.Directive.{Directive}
use Rattle.dpc_model.specs.declared.scripts.Directive.TheVariants.{Emit, Release, Cut, Heal, Lose, Repeat, Crash, Restart}
use Rattle.world_model.specs.Schedules.{has_event}

abbrev pub goes_so : ℕ → ℕ → Option (ℕ × ℕ) → Bool
goes_so a b None = false
goes_so a b (Some e) = e.0 == a && e.1 == b

abbrev pub loses_so : Option (ℕ × ℕ) → Directive → Bool
loses_so e (Lose a b) = goes_so a b e
loses_so e (Repeat a b) = false
loses_so e (Emit s t) = false
loses_so e (Release s t) = false
loses_so e (Cut a b) = false
loses_so e (Heal a b) = false
loses_so e (Crash a) = false
loses_so e (Restart a) = false

abbrev pub repeats_so : Option (ℕ × ℕ) → Directive → Bool
repeats_so e (Repeat a b) = goes_so a b e
repeats_so e (Lose a b) = false
repeats_so e (Emit s t) = false
repeats_so e (Release s t) = false
repeats_so e (Cut a b) = false
repeats_so e (Heal a b) = false
repeats_so e (Crash a) = false
repeats_so e (Restart a) = false

-- the directives that have no event: they lose or repeat what comes
abbrev pub fates_of : List Directive → List Directive
fates_of directives = filter (λ d. not (has_event d)) directives
