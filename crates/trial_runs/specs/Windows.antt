-- Windows, and a sum that clamps.
use Rattle.std.specs.Prelude.{◌≡◌, pos, true, false, [], ◌∷◌, None, codes, refl}
use Rattle.dpc_model.specs.declared.scripts.Script.{Script}
use Rattle.dpc_model.specs.declared.scripts.Directive.TheVariants.{Release}
use Rattle.dpc_model.specs.declared.plans.StreamRef.TheVariants.{Source, Frag}
use Rattle.dpc_model.specs.declared.operators.OpKind.TheVariants.{Aggregate}
use Rattle.dpc_model.specs.declared.operators.Agg.TheVariants as agg
use Rattle.dpc_model.specs.declared.operators.Wire.TheVariants.{Port}
use Rattle.world_model.specs.Schedules.{lockstep, lockstep_journal, is_live}
use Rattle.report.specs.Text.{report_text}
use Rattle.trial_runs.specs.Opened.{all_opened}

abbrev pub script : Script
script =
    record {
      plan = record {
        version = 1;
        passing = false;
        width = 10;
        delay = 50;
        end = 40;
        sources = record { name = codes "s"; columns = 1; log = record { stime = 5; vals = (pos 9223372036854775807) ∷ [] } ∷ record { stime = 12; vals = (pos 6) ∷ [] } ∷ record { stime = 35; vals = (pos 1) ∷ [] } ∷ [] } ∷ [];
        frags = record { name = codes "f"; replicas = 1; delay = None; inputs = Source 0 ∷ []; ops = record { name = codes "g"; kind = Aggregate 30 10 None (agg.Count ∷ agg.Sum 0 ∷ []); reads = Port 0 ∷ [] } ∷ [] } ∷ [];
        clients = record { name = codes "c"; input = Frag 0 } ∷ [];
      };
      phases = record { directives = Release 0 40 ∷ []; now = 1 } ∷ [];
      settle = true;
    }

pub report : report_text (lockstep script).world ≡ codes "client c\nstable 0 29 2 9223372036854775807\nstable 1 39 2 7\nboundary 40 2\nsummary c stable 2 bound 40 tentative 0 settled\n"
unfolding all_opened
report = refl

pub live : is_live script (lockstep_journal script) ≡ true
unfolding all_opened
live = refl
