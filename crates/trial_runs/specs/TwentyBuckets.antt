-- Twenty buckets closed at once.
use Rattle.std.specs.Prelude.{◌≡◌, pos, true, false, [], ◌∷◌, None, codes, refl}
use Rattle.dpc_model.specs.declared.scripts.Script.{Script}
use Rattle.dpc_model.specs.declared.scripts.Directive.TheVariants.{Emit, Release}
use Rattle.dpc_model.specs.declared.plans.StreamRef.TheVariants.{Source, Frag}
use Rattle.dpc_model.specs.declared.operators.OpKind.TheVariants.{Union}
use Rattle.dpc_model.specs.declared.operators.Wire.TheVariants.{Port}
use Rattle.world_model.specs.Schedules.{lockstep, lockstep_journal, is_live}
use Rattle.report.specs.Text.{report_text}
use Rattle.trial_runs.specs.Opened.{all_opened}

abbrev pub script : Script
script =
    record {
      plan = record {
        version = 1;
        passing = false;
        width = 10;
        delay = 5;
        end = 200;
        sources = record { name = codes "a"; columns = 1; log = record { stime = 5; vals = (pos 1) ∷ [] } ∷ record { stime = 195; vals = (pos 2) ∷ [] } ∷ [] } ∷ record { name = codes "b"; columns = 1; log = [] } ∷ [];
        frags = record { name = codes "f"; replicas = 1; delay = None; inputs = Source 0 ∷ Source 1 ∷ []; ops = record { name = codes "u"; kind = Union; reads = Port 0 ∷ Port 1 ∷ [] } ∷ [] } ∷ [];
        clients = record { name = codes "c"; input = Frag 0 } ∷ [];
      };
      phases = record { directives = Emit 0 200 ∷ []; now = 1 } ∷ record { directives = []; now = 2 } ∷ record { directives = []; now = 10 } ∷ record { directives = Release 0 200 ∷ Release 1 200 ∷ []; now = 11 } ∷ [];
      settle = true;
    }

pub report : report_text (lockstep script).world ≡ codes "client c\ntentative 5 1\ntentative 195 2\nundo 0\nstable 0 5 1\nboundary 160 1\nstable 1 195 2\nboundary 200 2\nrec_done\nsummary c stable 2 bound 200 tentative 0 settled\n"
unfolding all_opened
report = refl

pub live : is_live script (lockstep_journal script) ≡ true
unfolding all_opened
live = refl
