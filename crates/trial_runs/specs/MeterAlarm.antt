-- The first example for users: an alarm on a meter.
use Rattle.std.specs.Prelude.{◌≡◌, pos, true, false, [], ◌∷◌, None, codes, refl}
use Rattle.dpc_model.specs.ScriptText.{script_text}
use Rattle.dpc_model.specs.declared.scripts.Script.{Script}
use Rattle.dpc_model.specs.declared.scripts.Directive.TheVariants.{Release}
use Rattle.dpc_model.specs.declared.plans.StreamRef.TheVariants.{Source, Frag}
use Rattle.dpc_model.specs.declared.operators.OpKind.TheVariants.{Filter}
use Rattle.dpc_model.specs.declared.operators.Wire.TheVariants.{Port}
use Rattle.dpc_model.specs.declared.expressions.BinOp.TheVariants as op
use Rattle.dpc_model.specs.Formula as formula
use Rattle.world_model.specs.Schedules.{lockstep, lockstep_journal, is_live}
use Rattle.report.specs.Text.{report_text}
use Rattle.trial_runs.specs.Opened.{all_opened}

abbrev pub script : Script
script =
    record {
      plan = record {
        version = 1;
        passing = false;
        width = 60;
        delay = 30;
        end = 180;
        sources = record { name = codes "meter"; columns = 2; log = record { stime = 5; vals = (pos 1) ∷ (pos 38) ∷ [] } ∷ record { stime = 42; vals = (pos 2) ∷ (pos 55) ∷ [] } ∷ record { stime = 70; vals = (pos 1) ∷ (pos 41) ∷ [] } ∷ record { stime = 130; vals = (pos 2) ∷ (pos 39) ∷ [] } ∷ record { stime = 150; vals = (pos 1) ∷ (pos 90) ∷ [] } ∷ [] } ∷ [];
        frags = record { name = codes "alarm"; replicas = 1; delay = None; inputs = Source 0 ∷ []; ops = record { name = codes "hot"; kind = Filter (formula.Bin op.Gt (formula.Col 1) (formula.Num (pos 40))); reads = Port 0 ∷ [] } ∷ [] } ∷ [];
        clients = record { name = codes "desk"; input = Frag 0 } ∷ [];
      };
      phases = record { directives = Release 0 60 ∷ []; now = 1 } ∷ record { directives = Release 0 180 ∷ []; now = 2 } ∷ record { directives = []; now = 3 } ∷ record { directives = []; now = 4 } ∷ record { directives = []; now = 5 } ∷ [];
      settle = false;
    }

-- the text in examples/
pub text : script_text script ≡ codes "borealis 1\nwidth 60\ndelay 30\nend 180\nsource meter 2\nlog meter 5 1 38\nlog meter 42 2 55\nlog meter 70 1 41\nlog meter 130 2 39\nlog meter 150 1 90\nfragment alarm 1 meter\nfilter hot meter gt c1 40\nclient desk alarm\nbegin\nrelease meter 60\ntick 1\nrelease meter 180\ntick 2\ntick 3\ntick 4\ntick 5\n"
unfolding all_opened
text = refl

pub report : report_text (lockstep script).world ≡ codes "client desk\nstable 0 42 2 55\nboundary 60 1\nstable 1 70 1 41\nstable 2 150 1 90\nboundary 180 3\nsummary desk stable 3 bound 180 tentative 0 settled\n"
unfolding all_opened
report = refl

pub live : is_live script (lockstep_journal script) ≡ true
unfolding all_opened
live = refl
