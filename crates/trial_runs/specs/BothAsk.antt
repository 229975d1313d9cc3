-- Both replicas ask.
use Rattle.std.specs.Prelude.{◌≡◌, pos, true, false, [], ◌∷◌, None, codes, refl}
use Rattle.dpc_model.specs.declared.scripts.Script.{Script}
use Rattle.dpc_model.specs.declared.scripts.Directive.TheVariants.{Emit, Release, Cut, Heal}
use Rattle.dpc_model.specs.declared.plans.StreamRef.TheVariants.{Source, Frag}
use Rattle.dpc_model.specs.declared.operators.OpKind.TheVariants.{Union}
use Rattle.dpc_model.specs.declared.operators.Wire.TheVariants.{Port}
use Rattle.world_model.specs.Schedules.{lockstep, lockstep_journal, is_live}
use Rattle.report.specs.Text.{report_text}
use Rattle.trial_runs.specs.Opened.{all_opened}

abbrev pub script : Script
script =
    record {
      plan = record {
        version = 1;
        passing = false;
        width = 10;
        delay = 5;
        end = 30;
        sources = record { name = codes "a"; columns = 1; log = record { stime = 1; vals = (pos 10) ∷ [] } ∷ record { stime = 11; vals = (pos 11) ∷ [] } ∷ record { stime = 21; vals = (pos 12) ∷ [] } ∷ [] } ∷ record { name = codes "b"; columns = 1; log = record { stime = 4; vals = (pos 20) ∷ [] } ∷ record { stime = 13; vals = (pos 21) ∷ [] } ∷ [] } ∷ [];
        frags = record { name = codes "f"; replicas = 2; delay = None; inputs = Source 0 ∷ Source 1 ∷ []; ops = record { name = codes "u"; kind = Union; reads = Port 0 ∷ Port 1 ∷ [] } ∷ [] } ∷ [];
        clients = record { name = codes "c"; input = Frag 0 } ∷ [];
      };
      phases = record { directives = Release 0 10 ∷ Release 1 10 ∷ []; now = 1 } ∷ record { directives = []; now = 2 } ∷ record { directives = Cut 1 2 ∷ Cut 1 3 ∷ Release 0 20 ∷ Release 1 20 ∷ []; now = 3 } ∷ record { directives = []; now = 4 } ∷ record { directives = Emit 0 30 ∷ []; now = 8 } ∷ record { directives = Heal 1 2 ∷ Heal 1 3 ∷ Release 0 30 ∷ Release 1 30 ∷ []; now = 9 } ∷ [];
      settle = true;
    }

pub report : report_text (lockstep script).world ≡ codes "client c\nstable 0 1 10\nstable 1 4 20\nboundary 10 2\ntentative 11 11\nundo 2\nstable 2 11 11\nstable 3 13 21\nstable 4 21 12\nboundary 30 5\nsummary c stable 5 bound 30 tentative 0 settled\n"
unfolding all_opened
report = refl

pub live : is_live script (lockstep_journal script) ≡ true
unfolding all_opened
live = refl
