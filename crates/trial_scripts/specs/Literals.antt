-- Values that no text says: numbers that refer to what comes later, or to nothing.
use Rattle.std.specs.Prelude.{◌≡◌, ℕ, pos, true, false, List, [], ◌∷◌, Option, Some, None, option_map, codes, refl}
use Rattle.dpc_model.specs.Formula.{Num}
use Rattle.dpc_model.specs.Words.{Word}
use Rattle.dpc_model.specs.ScriptText.{script_text}
use Rattle.dpc_model.specs.declared.operators.OpKind.TheVariants.{Filter}
use Rattle.dpc_model.specs.declared.operators.OpSpec.{OpSpec}
use Rattle.dpc_model.specs.declared.operators.Wire.{Wire}
use Rattle.dpc_model.specs.declared.operators.Wire.TheVariants.{Port, Op}
use Rattle.dpc_model.specs.declared.plans.FragSpec.{FragSpec}
use Rattle.dpc_model.specs.declared.plans.StreamRef.{StreamRef}
use Rattle.dpc_model.specs.declared.plans.StreamRef.TheVariants.{Source, Frag}
use Rattle.dpc_model.specs.declared.scripts.Directive.{Directive}
use Rattle.dpc_model.specs.declared.scripts.Directive.TheVariants.{Cut, Crash}
use Rattle.dpc_model.specs.declared.scripts.Script.{Script}
use Rattle.script_rules.specs.declared.reasons.Reason.{Reason}
use Rattle.script_rules.specs.declared.reasons.Reason.TheVariants.{WrongCount, Unknown, ReadsAhead}
use Rattle.script_rules.specs.declared.reasons.PlanFault.{PlanFault}
use Rattle.script_rules.specs.Checking.{check, is_in_range}
use Rattle.trial_scripts.specs.Opened.{all_opened, refused_at}

abbrev pub filter_of : Word → Wire → OpSpec
filter_of name wire = record { name = name; kind = Filter (Num (pos 1)); reads = wire ∷ [] }

abbrev pub fragment_of : Word → List StreamRef → List OpSpec → FragSpec
fragment_of name inputs ops = record { name = name; replicas = 2; delay = None; inputs = inputs; ops = ops }

-- a source `a`, fragments `f` and `g`, and a client `c`; `f` reads a stream, the first operator of `g` a wire, and `c` a stream
abbrev pub script : StreamRef → Wire → StreamRef → List Directive → Script
script stream wire read directives =
    record {
      plan = record {
        version = 1;
        passing = false;
        width = 10;
        delay = 5;
        end = 20;
        sources = record { name = codes "a"; columns = 1; log = [] } ∷ [];
        frags =
            fragment_of (codes "f") (stream ∷ []) (filter_of (codes "k") (Port 0) ∷ []) ∷ fragment_of (codes "g") (Source 0 ∷ []) (filter_of (codes "m") wire ∷ filter_of (codes "n") (Op 0) ∷ [])
            ∷ [];
        clients = record { name = codes "c"; input = read } ∷ [];
      };
      phases = record { directives = directives; now = 1 } ∷ [];
      settle = true;
    }

abbrev pub checked_at : Script → Option (ℕ × Reason)
checked_at s = option_map (λ (fault : PlanFault). (fault.line, fault.reason)) (check s)

pub no_fault : checked_at (script (Source 0) (Port 0) (Frag 0) (Cut 1 2 ∷ Cut 0 1 ∷ Cut 5 1 ∷ Crash 1 ∷ [])) ≡ None
unfolding all_opened
no_fault = refl

pub in_range : is_in_range (script (Source 0) (Port 0) (Frag 0) (Cut 1 2 ∷ Cut 0 1 ∷ Cut 5 1 ∷ Crash 1 ∷ [])) ≡ true
unfolding all_opened
in_range = refl

pub later_stream : checked_at (script (Frag 1) (Port 0) (Frag 0) []) ≡ Some (6, ReadsAhead)
unfolding all_opened
later_stream = refl

pub no_stream : checked_at (script (Source 0) (Port 0) (Frag 2) []) ≡ Some (11, ReadsAhead)
unfolding all_opened
no_stream = refl

-- such a line can't be written, so its text has too few words
pub no_stream_text : refused_at (script_text (script (Source 0) (Port 0) (Frag 2) [])) ≡ Some (11, WrongCount)
unfolding all_opened
no_stream_text = refl

pub later_operator : checked_at (script (Source 0) (Op 1) (Frag 0) []) ≡ Some (9, Unknown)
unfolding all_opened
later_operator = refl

pub no_port : checked_at (script (Source 0) (Port 1) (Frag 0) []) ≡ Some (9, Unknown)
unfolding all_opened
no_port = refl
