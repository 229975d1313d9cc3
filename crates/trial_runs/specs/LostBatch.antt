-- A lost batch.
use Rattle.std.specs.Prelude.{◌≡◌, pos, true, false, [], ◌∷◌, None, codes, refl}
use Rattle.dpc_model.specs.declared.scripts.Script.{Script}
use Rattle.dpc_model.specs.declared.scripts.Directive.TheVariants.{Release, Lose}
use Rattle.dpc_model.specs.declared.plans.StreamRef.TheVariants.{Source, Frag}
use Rattle.dpc_model.specs.declared.operators.OpKind.TheVariants.{Filter}
use Rattle.dpc_model.specs.declared.operators.Wire.TheVariants.{Port}
use Rattle.dpc_model.specs.Formula as formula
use Rattle.world_model.specs.Schedules.{lockstep, lockstep_journal, is_live}
use Rattle.report.specs.Text.{report_text}
use Rattle.trial_runs.specs.Opened.{all_opened}

abbrev pub script : Script
script =
    record {
      plan = record {
        version = 1;
        passing = false;
        width = 10;
        delay = 50;
        end = 20;
        sources = record { name = codes "a"; columns = 1; log = record { stime = 1; vals = (pos 1) ∷ [] } ∷ record { stime = 11; vals = (pos 2) ∷ [] } ∷ [] } ∷ [];
        frags = record { name = codes "f"; replicas = 1; delay = None; inputs = Source 0 ∷ []; ops = record { name = codes "k"; kind = Filter (formula.Num (pos 1)); reads = Port 0 ∷ [] } ∷ [] } ∷ [];
        clients = record { name = codes "c"; input = Frag 0 } ∷ [];
      };
      phases = record { directives = Release 0 10 ∷ []; now = 1 } ∷ record { directives = Lose 0 1 ∷ Release 0 20 ∷ []; now = 2 } ∷ [];
      settle = true;
    }

pub report : report_text (lockstep script).world ≡ codes "client c\nstable 0 1 1\nstable 1 11 2\nboundary 20 2\nsummary c stable 2 bound 20 tentative 0 settled\n"
unfolding all_opened
report = refl

pub live : is_live script (lockstep_journal script) ≡ true
unfolding all_opened
live = refl
