-- Wide times.
use Rattle.std.specs.Prelude.{◌≡◌, pos, true, false, [], ◌∷◌, None, codes, refl}
use Rattle.dpc_model.specs.declared.scripts.Script.{Script}
use Rattle.dpc_model.specs.declared.scripts.Directive.TheVariants.{Release}
use Rattle.dpc_model.specs.declared.plans.StreamRef.TheVariants.{Source, Frag}
use Rattle.dpc_model.specs.declared.operators.OpKind.TheVariants.{Filter}
use Rattle.dpc_model.specs.declared.operators.Wire.TheVariants.{Port}
use Rattle.dpc_model.specs.Formula as formula
use Rattle.world_model.specs.Schedules.{lockstep, lockstep_journal, is_live}
use Rattle.report.specs.Text.{report_text}
use Rattle.trial_runs.specs.Opened.{all_opened}

abbrev pub script : Script
script =
    record {
      plan = record {
        version = 3;
        passing = false;
        width = 1125899906842624;
        delay = 5;
        end = 4503599627370496;
        sources = record { name = codes "a"; columns = 1; log = record { stime = 4503599627370495; vals = (pos 9) ∷ [] } ∷ [] } ∷ [];
        frags = record { name = codes "f"; replicas = 1; delay = None; inputs = Source 0 ∷ []; ops = record { name = codes "k"; kind = Filter (formula.Num (pos 1)); reads = Port 0 ∷ [] } ∷ [] } ∷ [];
        clients = record { name = codes "c"; input = Frag 0 } ∷ [];
      };
      phases = record { directives = Release 0 4503599627370496 ∷ []; now = 1 } ∷ [];
      settle = true;
    }

pub report : report_text (lockstep script).world ≡ codes "client c\nstable 0 4503599627370495 9\nboundary 4503599627370496 1\nsummary c stable 1 bound 4503599627370496 tentative 0 settled\n"
unfolding all_opened
report = refl

pub live : is_live script (lockstep_journal script) ≡ true
unfolding all_opened
live = refl
