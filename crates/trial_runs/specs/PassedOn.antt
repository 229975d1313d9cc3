-- Tentative output that is passed on.
use Rattle.std.specs.Prelude.{◌≡◌, pos, true, false, [], ◌∷◌, None, codes, refl}
use Rattle.dpc_model.specs.declared.scripts.Script.{Script}
use Rattle.dpc_model.specs.declared.scripts.Directive.TheVariants.{Emit}
use Rattle.dpc_model.specs.declared.plans.StreamRef.TheVariants.{Source, Frag}
use Rattle.dpc_model.specs.declared.operators.OpKind.TheVariants.{Filter, Union}
use Rattle.dpc_model.specs.declared.operators.Wire.TheVariants.{Port}
use Rattle.dpc_model.specs.Formula as formula
use Rattle.world_model.specs.Schedules.{lockstep, lockstep_journal, is_live}
use Rattle.report.specs.Text.{report_text}
use Rattle.trial_runs.specs.Opened.{all_opened}

abbrev pub script : Script
script =
    record {
      plan = record {
        version = 2;
        passing = true;
        width = 10;
        delay = 5;
        end = 20;
        sources = record { name = codes "a"; columns = 1; log = record { stime = 1; vals = (pos 10) ∷ [] } ∷ [] } ∷ record { name = codes "b"; columns = 1; log = [] } ∷ [];
        frags = record { name = codes "f"; replicas = 1; delay = None; inputs = Source 0 ∷ Source 1 ∷ []; ops = record { name = codes "u"; kind = Union; reads = Port 0 ∷ Port 1 ∷ [] } ∷ [] } ∷ record { name = codes "g"; replicas = 1; delay = None; inputs = Frag 0 ∷ []; ops = record { name = codes "k"; kind = Filter (formula.Num (pos 1)); reads = Port 0 ∷ [] } ∷ [] } ∷ [];
        clients = record { name = codes "c"; input = Frag 1 } ∷ [];
      };
      phases = record { directives = Emit 0 10 ∷ []; now = 1 } ∷ record { directives = []; now = 2 } ∷ record { directives = []; now = 8 } ∷ record { directives = []; now = 9 } ∷ record { directives = []; now = 10 } ∷ [];
      settle = false;
    }

pub report : report_text (lockstep script).world ≡ codes "client c\ntentative 1 10\npassed 10\nsummary c stable 0 bound 0 tentative 1 open\n"
unfolding all_opened
report = refl

pub live : is_live script (lockstep_journal script) ≡ true
unfolding all_opened
live = refl
