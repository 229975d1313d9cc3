-- A join over the edge of a bucket.
use Rattle.std.specs.Prelude.{◌≡◌, pos, true, false, [], ◌∷◌, None, codes, refl}
use Rattle.dpc_model.specs.declared.scripts.Script.{Script}
use Rattle.dpc_model.specs.declared.scripts.Directive.TheVariants.{Release}
use Rattle.dpc_model.specs.declared.plans.StreamRef.TheVariants.{Source, Frag}
use Rattle.dpc_model.specs.declared.operators.OpKind.TheVariants.{Join}
use Rattle.dpc_model.specs.declared.operators.Wire.TheVariants.{Port}
use Rattle.world_model.specs.Schedules.{lockstep, lockstep_journal, is_live}
use Rattle.report.specs.Text.{report_text}
use Rattle.trial_runs.specs.Opened.{all_opened}

abbrev pub script : Script
script =
    record {
      plan = record {
        version = 1;
        passing = false;
        width = 10;
        delay = 50;
        end = 30;
        sources = record { name = codes "l"; columns = 1; log = record { stime = 9; vals = (pos 1) ∷ [] } ∷ record { stime = 20; vals = (pos 2) ∷ [] } ∷ [] } ∷ record { name = codes "r"; columns = 1; log = record { stime = 10; vals = (pos 1) ∷ [] } ∷ record { stime = 14; vals = (pos 1) ∷ [] } ∷ record { stime = 25; vals = (pos 2) ∷ [] } ∷ record { stime = 26; vals = (pos 2) ∷ [] } ∷ [] } ∷ [];
        frags = record { name = codes "f"; replicas = 1; delay = None; inputs = Source 0 ∷ Source 1 ∷ []; ops = record { name = codes "j"; kind = Join 5 ((0, 0) ∷ []); reads = Port 0 ∷ Port 1 ∷ [] } ∷ [] } ∷ [];
        clients = record { name = codes "c"; input = Frag 0 } ∷ [];
      };
      phases = record { directives = Release 0 30 ∷ Release 1 30 ∷ []; now = 1 } ∷ [];
      settle = true;
    }

pub report : report_text (lockstep script).world ≡ codes "client c\nstable 0 10 1 1\nstable 1 14 1 1\nstable 2 25 2 2\nboundary 30 3\nsummary c stable 3 bound 30 tentative 0 settled\n"
unfolding all_opened
report = refl

pub live : is_live script (lockstep_journal script) ≡ true
unfolding all_opened
live = refl
