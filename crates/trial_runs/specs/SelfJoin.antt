-- A join of a stream with itself.
use Rattle.std.specs.Prelude.{◌≡◌, pos, true, false, [], ◌∷◌, None, codes, refl}
use Rattle.dpc_model.specs.declared.scripts.Script.{Script}
use Rattle.dpc_model.specs.declared.scripts.Directive.TheVariants.{Release}
use Rattle.dpc_model.specs.declared.plans.StreamRef.TheVariants.{Source, Frag}
use Rattle.dpc_model.specs.declared.operators.OpKind.TheVariants.{Join}
use Rattle.dpc_model.specs.declared.operators.Wire.TheVariants.{Port}
use Rattle.world_model.specs.Schedules.{lockstep, lockstep_journal, is_live}
use Rattle.report.specs.Text.{report_text}
use Rattle.trial_runs.specs.Opened.{all_opened}

abbrev pub script : Script
script =
    record {
      plan = record {
        version = 1;
        passing = false;
        width = 10;
        delay = 50;
        end = 20;
        sources = record { name = codes "s"; columns = 1; log = record { stime = 3; vals = (pos 1) ∷ [] } ∷ record { stime = 6; vals = (pos 2) ∷ [] } ∷ record { stime = 12; vals = (pos 3) ∷ [] } ∷ [] } ∷ [];
        frags = record { name = codes "f"; replicas = 1; delay = None; inputs = Source 0 ∷ []; ops = record { name = codes "j"; kind = Join 5 ([]); reads = Port 0 ∷ Port 0 ∷ [] } ∷ [] } ∷ [];
        clients = record { name = codes "c"; input = Frag 0 } ∷ [];
      };
      phases = record { directives = Release 0 20 ∷ []; now = 1 } ∷ [];
      settle = true;
    }

pub report : report_text (lockstep script).world ≡ codes "client c\nstable 0 3 1 1\nstable 1 6 1 2\nstable 2 6 2 1\nstable 3 6 2 2\nstable 4 12 3 3\nboundary 20 5\nsummary c stable 5 bound 20 tentative 0 settled\n"
unfolding all_opened
report = refl

pub live : is_live script (lockstep_journal script) ≡ true
unfolding all_opened
live = refl
