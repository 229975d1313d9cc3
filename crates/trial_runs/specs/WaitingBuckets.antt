-- Buckets that wait past the delay, clocks that stand still, and more buckets than one batch covers.
use Rattle.std.specs.Prelude.{◌≡◌, pos, negsuc, true, false, [], ◌∷◌, None, codes, refl}
use Rattle.dpc_model.specs.ScriptText.{script_text}
use Rattle.dpc_model.specs.declared.scripts.Script.{Script}
use Rattle.dpc_model.specs.declared.scripts.Directive.TheVariants.{Release}
use Rattle.dpc_model.specs.declared.plans.StreamRef.TheVariants.{Source, Frag}
use Rattle.dpc_model.specs.declared.operators.OpKind.TheVariants.{Filter}
use Rattle.dpc_model.specs.declared.operators.Wire.TheVariants.{Port}
use Rattle.dpc_model.specs.declared.expressions.BinOp.TheVariants as op
use Rattle.dpc_model.specs.Formula as formula
use Rattle.world_model.specs.Schedules.{lockstep, lockstep_journal, is_live}
use Rattle.report.specs.Text.{report_text}
use Rattle.trial_runs.specs.Opened.{all_opened}

abbrev pub script : Script
script =
    record {
      plan = record {
        version = 1;
        passing = false;
        width = 5;
        delay = 3;
        end = 200;
        sources = record { name = codes "s"; columns = 2; log = record { stime = 0; vals = (pos 1) ∷ (negsuc 6) ∷ [] } ∷ record { stime = 0; vals = (pos 2) ∷ (pos 4) ∷ [] } ∷ record { stime = 12; vals = (pos 3) ∷ (pos 9) ∷ [] } ∷ record { stime = 13; vals = (pos 4) ∷ (negsuc 0) ∷ [] } ∷ record { stime = 77; vals = (pos 5) ∷ (pos 0) ∷ [] } ∷ record { stime = 120; vals = (pos 6) ∷ (pos 8) ∷ [] } ∷ record { stime = 199; vals = (pos 7) ∷ (pos 7) ∷ [] } ∷ [] } ∷ [];
        frags = record { name = codes "f"; replicas = 1; delay = None; inputs = Source 0 ∷ []; ops = record { name = codes "k"; kind = Filter (formula.Bin op.Ne (formula.Col 1) (formula.Num (pos 0))); reads = Port 0 ∷ [] } ∷ [] } ∷ [];
        clients = record { name = codes "c"; input = Frag 0 } ∷ [];
      };
      phases = record { directives = Release 0 5 ∷ Release 0 20 ∷ []; now = 0 } ∷ record { directives = []; now = 1 } ∷ record { directives = []; now = 9 } ∷ record { directives = Release 0 130 ∷ []; now = 9 } ∷ record { directives = []; now = 20 } ∷ record { directives = Release 0 200 ∷ Release 0 100 ∷ []; now = 20 } ∷ record { directives = []; now = 25 } ∷ record { directives = []; now = 25 } ∷ record { directives = []; now = 26 } ∷ record { directives = []; now = 26 } ∷ record { directives = []; now = 26 } ∷ [];
      settle = false;
    }

-- the text in examples/
pub text : script_text script ≡ codes "borealis 1\nwidth 5\ndelay 3\nend 200\nsource s 2\nlog s 0 1 -7\nlog s 0 2 4\nlog s 12 3 9\nlog s 13 4 -1\nlog s 77 5 0\nlog s 120 6 8\nlog s 199 7 7\nfragment f 1 s\nfilter k s ne c1 0\nclient c f\nbegin\nrelease s 5\nrelease s 20\ntick 0\ntick 1\ntick 9\nrelease s 130\ntick 9\ntick 20\nrelease s 200\nrelease s 100\ntick 20\ntick 25\ntick 25\ntick 26\ntick 26\ntick 26\n"
unfolding all_opened
text = refl

pub report : report_text (lockstep script).world ≡ codes "client c\nstable 0 0 1 -7\nstable 1 0 2 4\nstable 2 12 3 9\nstable 3 13 4 -1\nboundary 20 4\nstable 4 120 6 8\nboundary 125 5\nboundary 130 5\nstable 5 199 7 7\nboundary 200 6\nsummary c stable 6 bound 200 tentative 0 settled\n"
unfolding all_opened
report = refl

pub live : is_live script (lockstep_journal script) ≡ true
unfolding all_opened
live = refl
