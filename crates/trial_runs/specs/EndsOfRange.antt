-- Values at the ends of their range.
use Rattle.std.specs.Prelude.{◌≡◌, pos, negsuc, true, false, [], ◌∷◌, None, codes, refl}
use Rattle.dpc_model.specs.declared.scripts.Script.{Script}
use Rattle.dpc_model.specs.declared.scripts.Directive.TheVariants.{Release}
use Rattle.dpc_model.specs.declared.plans.StreamRef.TheVariants.{Source, Frag}
use Rattle.dpc_model.specs.declared.operators.OpKind.TheVariants.{Map}
use Rattle.dpc_model.specs.declared.operators.Wire.TheVariants.{Port}
use Rattle.dpc_model.specs.declared.expressions.BinOp.TheVariants as op
use Rattle.dpc_model.specs.Formula as formula
use Rattle.world_model.specs.Schedules.{lockstep, lockstep_journal, is_live}
use Rattle.report.specs.Text.{report_text}
use Rattle.trial_runs.specs.Opened.{all_opened}

abbrev pub script : Script
script =
    record {
      plan = record {
        version = 1;
        passing = false;
        width = 10;
        delay = 50;
        end = 10;
        sources = record { name = codes "s"; columns = 1; log = record { stime = 3; vals = (pos 4000000000) ∷ [] } ∷ record { stime = 7; vals = (negsuc 4) ∷ [] } ∷ record { stime = 8; vals = (negsuc 9223372036854775807) ∷ [] } ∷ [] } ∷ [];
        frags = record { name = codes "f"; replicas = 1; delay = None; inputs = Source 0 ∷ []; ops = record { name = codes "m"; kind = Map ((formula.Bin op.Mul (formula.Col 0) (formula.Col 0)) ∷ (formula.If (formula.Bin op.Lt (formula.Col 0) (formula.Num (pos 0))) (formula.Neg (formula.Col 0)) formula.Time) ∷ []); reads = Port 0 ∷ [] } ∷ [] } ∷ [];
        clients = record { name = codes "c"; input = Frag 0 } ∷ [];
      };
      phases = record { directives = Release 0 10 ∷ []; now = 1 } ∷ [];
      settle = true;
    }

pub report : report_text (lockstep script).world ≡ codes "client c\nstable 0 3 9223372036854775807 3\nstable 1 7 25 5\nstable 2 8 9223372036854775807 9223372036854775807\nboundary 10 3\nsummary c stable 3 bound 10 tentative 0 settled\n"
unfolding all_opened
report = refl

pub live : is_live script (lockstep_journal script) ≡ true
unfolding all_opened
live = refl
